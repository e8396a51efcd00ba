pub mod Remembered
pub mod Continuing
pub mod NormLists
pub mod Quantified
pub mod Walking
