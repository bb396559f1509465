-- Laws that other crates and the proofs cite.
pub mod Lives
pub mod Refusals
pub mod Held
pub mod Shapes
pub mod Pace
pub mod Rows
pub mod Tables
pub mod Limits
pub mod Equality
