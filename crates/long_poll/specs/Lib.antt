pub mod Port
pub mod Waiting
pub mod PendingView
