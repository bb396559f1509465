mod Claims
pub mod Takeover
