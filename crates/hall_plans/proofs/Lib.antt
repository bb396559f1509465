pub mod Places
pub mod Holding
pub mod Flat
mod Drawn
mod Moments
mod Oldest
mod Records
mod Holders
mod FirstUnheld
mod Ends
mod Showing
