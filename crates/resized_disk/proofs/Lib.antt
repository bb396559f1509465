pub mod Calls
pub mod Found
pub mod Places
pub mod Walk
pub mod Zeros
