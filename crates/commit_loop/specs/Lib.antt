pub mod Committer
pub mod Ticker
