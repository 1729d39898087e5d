pub mod Parsing
pub mod GrammarRules
pub mod Meaning
pub mod Brackets
pub mod Reading
pub mod ReadBack
