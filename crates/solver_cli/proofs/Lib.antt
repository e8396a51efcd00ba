pub mod Counted
pub mod FileRead
pub mod Games
pub mod Laws
pub mod ReadingSteps
pub mod Texts
pub mod Verdicts
pub mod WritingSteps
