pub mod ElementLaws
pub mod SectionLaws
