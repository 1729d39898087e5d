pub mod Nodes
pub mod Leaves
pub mod Splits
pub mod Joins
pub mod Places
