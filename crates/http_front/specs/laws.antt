-- Laws that the proofs cite.
pub mod Learned
pub mod Marked
