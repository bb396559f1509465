pub mod Rows
pub mod Steps
pub mod Histories
pub mod Doubling
pub mod Numbers
pub mod Copies
