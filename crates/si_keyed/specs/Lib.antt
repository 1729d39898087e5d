pub mod Halves
pub mod Keyed
pub mod KeyedSlots
pub mod Placed
pub mod Ranks
pub mod RanksFall
