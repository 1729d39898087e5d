pub mod CommonLaws
pub mod PathLaws
pub mod PartLaws
pub mod Splitting
pub mod SplitLaws
