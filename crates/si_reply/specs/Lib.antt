pub mod PrintedParts
pub mod NamedLists
pub mod ShownTexts
