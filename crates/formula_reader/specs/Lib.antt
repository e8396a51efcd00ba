pub mod Input
pub mod Faults
pub mod Reads
pub mod Scopes
pub mod Kinds
pub mod Refusals
