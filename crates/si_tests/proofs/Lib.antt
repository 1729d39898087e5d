pub mod OneSymbol
pub mod BuiltTerms
mod AskedTerms
