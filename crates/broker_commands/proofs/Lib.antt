pub mod BroughtInForce
pub mod ReadBack
pub mod Refused
