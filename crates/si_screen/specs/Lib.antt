pub mod ClauseRows
pub mod Examples
pub mod Likeness
pub mod Walks
