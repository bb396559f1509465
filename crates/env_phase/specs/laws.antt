-- Laws that other crates and the proofs cite.
pub mod Calls
pub mod Eras
pub mod Accepted
pub mod Running
pub mod States
pub mod Waiting
pub mod Watching
pub mod Slots
