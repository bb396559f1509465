pub mod Accepted
pub mod Asked
pub mod Drafting
pub mod Refused
pub mod Refusing
pub mod Sending
pub mod Trying
