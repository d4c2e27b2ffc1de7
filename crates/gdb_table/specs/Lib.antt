pub mod Records
pub mod Walk
pub mod WalkLaws
pub mod Filling
pub mod Agrees
pub mod Numbers
