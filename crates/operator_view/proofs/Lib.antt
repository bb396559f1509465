pub mod Behind
pub mod Digits
pub mod Joining
pub mod Passing
pub mod Tallied
pub mod Told
