pub mod Meaning
pub mod Fronts
pub mod OpenAnswers
