pub mod Remembered
pub mod Taking
