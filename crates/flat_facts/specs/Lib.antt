pub mod AddedLaws
pub mod ClassLaws
pub mod Names
pub mod PartLaws
pub mod StoreLaws
pub mod Spread
