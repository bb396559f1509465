pub mod Comparison
pub mod Counts
pub mod Examples
pub mod Explanation
pub mod Figures
pub mod Records
pub mod Report
