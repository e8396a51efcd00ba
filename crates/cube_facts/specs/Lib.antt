pub mod Determined
pub mod Fresh
pub mod Numbers
pub mod Raws
pub mod Renumbered
pub mod Settling
