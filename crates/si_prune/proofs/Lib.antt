pub mod SizeLaws
pub mod FillLaws
pub mod CarryLaws
pub mod FindLaws
pub mod AddLaws
pub mod DueLaws
pub mod LoseLaws
pub mod RemoveLaws
