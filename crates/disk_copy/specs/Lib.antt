pub mod Limits
pub mod Change
pub mod Copying
pub mod CopySteps
pub mod laws
