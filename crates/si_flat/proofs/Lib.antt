pub mod Subterms
mod InsertedPlaces
pub mod NameLaws
pub mod Keys
mod KeyPlaces
pub mod Numbers
pub mod Walking
mod RoomLaws
pub mod FirstPlaces
pub mod ExtraNumbers
pub mod FlattenLaws
mod EntryRooms
pub mod ClauseWalks
mod ClauseRooms
pub mod ClauseLaws
pub mod VariableLaws
pub mod RowLaws
pub mod WriterLaws
