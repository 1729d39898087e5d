pub mod Rows
pub mod Progress
pub mod Alone
pub mod Literals
pub mod Inserted
pub mod Results
pub mod EntryHeads
