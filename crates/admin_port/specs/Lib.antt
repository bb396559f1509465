pub mod Acting
pub mod Asking
pub mod Collecting
pub mod Heads
pub mod Replying
pub mod Retrying
