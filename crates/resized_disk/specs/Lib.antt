pub mod Blank
pub mod Frames
pub mod Pieces
pub mod Reading
pub mod Resized
pub mod Sectors
