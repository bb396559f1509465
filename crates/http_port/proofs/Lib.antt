pub mod Frames
pub mod Made
pub mod Room
pub mod Sends
