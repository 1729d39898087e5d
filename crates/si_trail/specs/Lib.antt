pub mod Bound
pub mod Trails
