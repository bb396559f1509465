-- Laws that other crates and the proofs cite.
pub mod Adding
pub mod Replies
pub mod Ranks
pub mod Moving
pub mod Keeping
pub mod Unheld
pub mod Legal
pub mod Choosing
pub mod Interrupts
pub mod Requests
pub mod Ticks
pub mod Sound
pub mod Statuses
pub mod Points
pub mod Counts
