pub mod Spelling
pub mod Versions
pub mod Reading
pub mod Steps
pub mod Records
pub use Rattle.retry_rules.specs.Settings
pub mod laws
