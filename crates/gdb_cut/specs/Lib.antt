pub mod Cut
pub mod Kept
pub mod Left
pub mod CutLaws
pub mod Numbers
