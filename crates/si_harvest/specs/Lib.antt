pub mod Chosen
pub mod Faults
pub mod Opened
pub mod Gains
pub mod Underway
pub mod Stepping
pub mod Loading
pub mod Texts
