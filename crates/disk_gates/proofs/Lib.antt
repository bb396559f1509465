pub mod Closings
pub mod Pairs
