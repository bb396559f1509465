-- Laws that other crates and the proofs cite.
pub mod Images
pub mod Moments
pub mod Written
