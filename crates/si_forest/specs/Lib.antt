pub mod OnePosting
pub mod Pairs
pub mod Locations
pub mod Notes
pub mod Kept
pub mod Codes
