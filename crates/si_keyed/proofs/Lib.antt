mod HalfLaws
mod IndexedLaws
pub mod KeyLaws
mod LinkLaws
mod MarkLaws
pub mod PlacedLaws
mod PutLaws
pub mod Results
mod SlotLaws
mod SumLaws
