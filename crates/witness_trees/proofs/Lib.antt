mod EachMet
mod Entering
mod Holds
mod Kept
mod Labelled
mod Nothing
mod Numbered
mod Occurring
mod OneOrder
pub mod Table
mod Taken
mod Terms
mod Used
