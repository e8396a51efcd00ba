pub mod Additions
pub mod Changes
pub mod Ends
pub mod Forms
pub mod Overlays
pub mod Settled
pub mod Variables
