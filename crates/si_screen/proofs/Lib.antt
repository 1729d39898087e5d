pub mod ExtraLaws
pub mod LikenessLaws
pub mod MapLaws
pub mod RowLaws
pub mod TargetLaws
