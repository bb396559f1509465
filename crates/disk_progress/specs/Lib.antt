pub mod Pace
pub mod Progress
