pub mod Cells
pub mod Rooms
pub mod Numbered
pub mod Flattened
pub mod Flattening
pub mod Writing
pub mod FlatClauses
pub mod Rows
