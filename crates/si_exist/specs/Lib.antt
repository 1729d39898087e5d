pub mod OneList
pub mod RightReplies
