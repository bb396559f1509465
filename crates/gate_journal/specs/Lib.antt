pub mod Frames
pub mod Journal
pub mod Steps
pub mod Written
pub mod Staged
