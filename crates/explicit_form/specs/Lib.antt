pub mod Explicit
pub mod Joining
pub mod Pieces
pub mod Shape
pub mod Shaped
