pub mod Indexes
pub mod Lists
pub mod Names
pub mod ShownSymbols
pub mod Solution
pub mod Verdicts
