pub mod TwoTrees
pub mod KeptEntries
pub mod Queries
