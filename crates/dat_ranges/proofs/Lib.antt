pub mod BitLaws
pub mod MapLaws
pub mod EntryLaws
pub mod ApartLaws
pub mod RangeLaws
