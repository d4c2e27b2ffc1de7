pub mod Latest
pub mod LatestLaws
pub mod LatestValue
pub mod Numbers
pub mod Shown
