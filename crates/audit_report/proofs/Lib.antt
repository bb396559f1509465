pub mod AllTold
pub mod Audits
