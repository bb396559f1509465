pub mod Changes
pub mod Copies
