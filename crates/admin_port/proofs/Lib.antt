pub mod Listed
pub mod Added
pub mod Told
pub mod Tried
pub mod Acted
