pub mod Sameness
pub mod Shapes
pub mod Stable
pub mod Symbols
