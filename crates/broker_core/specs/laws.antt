-- Laws that other crates cite.
pub mod Issuer
pub mod Generations
