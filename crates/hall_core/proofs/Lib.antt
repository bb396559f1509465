mod Kept
mod FirstEnded
mod OpenCount
mod Points
pub mod Settled
mod Halves
mod Committing
mod Arriving
mod Reasons
mod Ticking
mod Opened
