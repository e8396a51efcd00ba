pub mod Always
pub mod Bounded
pub mod Depths
pub mod Large
pub mod PartTexts
pub mod Parts
pub mod Questions
