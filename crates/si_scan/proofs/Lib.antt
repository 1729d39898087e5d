pub mod PostedLaws
pub mod ScanLaws
pub mod QuestionLaws
