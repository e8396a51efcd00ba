pub mod Fates
pub mod Grouping
pub mod Keeping
pub mod Numbers
pub mod Ordering
pub mod Remembered
pub mod Settling
