-- Laws that other crates and the proofs cite.
pub mod Fields
pub mod Commands
pub mod Bounds
pub mod RowFields
pub mod Rows
pub mod Snapshots
pub mod Settings
