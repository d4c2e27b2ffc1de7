pub mod Selection
pub mod SelectionLaws
