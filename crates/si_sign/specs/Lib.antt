pub mod Shapes
pub mod Stores
pub mod Hashed
pub mod Keys
pub mod Uses
pub mod Taking
pub mod Plain
pub mod Short
