-- Laws that the contracts rest on.
pub mod Histories
pub mod Endings
pub mod Telling
pub mod Saying
pub mod Oldest
pub mod Promised
pub mod Disks
pub mod Copies
pub mod Given
pub mod Answers202
