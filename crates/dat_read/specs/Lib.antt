pub mod Steps
pub mod Summary
pub mod Read
