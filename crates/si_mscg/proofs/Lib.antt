pub mod SpanLaws
pub mod HeadLaws
pub mod CopyLaws
pub mod PieceLaws
pub mod WalkLaws
pub mod PairLaws
pub mod PairTurns
pub mod SplitParts
