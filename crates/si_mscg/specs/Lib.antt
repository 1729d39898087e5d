pub mod Generalising
pub mod Walking
