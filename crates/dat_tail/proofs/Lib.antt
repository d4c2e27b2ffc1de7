pub mod OptionLaws
pub mod TailLaws
