pub mod Padding
pub mod Dates
pub mod Calendar
pub mod Members
pub mod Pieces
pub mod Moments
