pub mod Depths
pub mod Texts
pub mod Terms
pub mod Meaning
pub mod Walks
