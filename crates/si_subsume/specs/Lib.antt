pub mod Maps
pub mod Search
pub mod Heads
pub mod Parts
pub mod Tasks
