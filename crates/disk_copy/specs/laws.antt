-- Laws that other crates and the proofs cite.
pub mod Histories
pub mod Tables
