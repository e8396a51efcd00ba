pub mod Bodies
pub mod Free
pub mod Sameness
pub mod Winning
