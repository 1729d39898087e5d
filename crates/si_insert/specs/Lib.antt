pub mod Opened
pub mod Fitting
pub mod Passing
pub mod Underway
pub mod Inserting
pub mod Walking
pub mod Parting
