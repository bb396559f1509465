pub mod Guarded
pub mod Marks
pub mod Sight
