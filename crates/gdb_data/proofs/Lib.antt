pub mod BlockLaws
pub mod Fills
