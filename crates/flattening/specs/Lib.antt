pub mod Conditions
pub mod FittingLaws
pub mod Flattening
pub mod Numbers
pub mod Plain
pub mod SymbolLaws
pub mod Symbols
pub mod Tables
