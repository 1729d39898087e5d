pub mod CountLaws
pub mod EngineLaws
pub mod EntryLaws
pub mod LeafLaws
mod SolvedLaws
mod HoldingLaws
pub mod FlatLaws
mod FoundLaws
pub mod GatherLaws
mod KeyStays
mod RegisterLaws
mod NameLaws
mod NamedLaws
mod FoundNames
mod ComparedLaws
pub mod SlotLaws
mod RowsKept
mod ScreenedLaws
pub mod OrderLaws
pub mod ShownNames
pub mod StandingLaws
pub mod StoreLaws
pub mod HeldClauses
pub mod WantedLaws
