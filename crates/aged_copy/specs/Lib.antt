pub mod Aging
pub mod AgingSteps
pub mod Copying
pub mod CopySteps
