pub mod Fitting
pub mod Ends
pub mod Meeting
pub mod Occurring
pub mod Fresh
