pub mod Lines
pub mod Progress
pub mod Shown
pub mod Serve
pub mod Status
pub mod Words
