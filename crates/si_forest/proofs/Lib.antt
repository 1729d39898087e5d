pub mod OneLaws
mod PlaceLaws
pub mod NoteLaws
pub mod TreeLaws
pub mod ChangeLaws
pub mod LoseLaws
pub mod GainLaws
pub mod UnderwayLaws
