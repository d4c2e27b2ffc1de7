pub mod OpeningLaws
pub mod WalkLaws
