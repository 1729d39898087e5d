pub mod Writing
pub mod Pieces
pub mod Escapes
pub mod NamingLaws
pub mod ShownLists
