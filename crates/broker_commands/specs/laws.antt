-- Laws that the proofs cite.
pub mod Statuses
