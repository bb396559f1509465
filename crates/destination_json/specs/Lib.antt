pub mod Digits
pub mod Stamp
pub mod Json
pub mod Record
pub mod Laws
pub mod Steps
pub mod Examples
