pub mod Frames
pub mod Marks
pub mod Walks
pub mod Whole
