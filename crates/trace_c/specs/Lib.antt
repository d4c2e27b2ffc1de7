pub mod Interface
pub mod Opposite
pub mod Told
