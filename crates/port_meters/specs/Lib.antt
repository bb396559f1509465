pub mod Counting
pub mod Holding
pub mod Moments
pub mod Spreading
pub mod Stamps
