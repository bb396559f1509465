pub mod Promises
pub mod Giving
pub mod Halves
pub mod laws
