pub mod Claims
pub mod Closing
pub mod Versions
