pub mod Rows
pub mod Systems
pub mod Answers
pub mod Measurements
