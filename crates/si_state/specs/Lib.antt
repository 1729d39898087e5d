pub mod States
pub mod Acceptance
pub mod Answers
pub mod Signatures
pub mod Harvest
pub mod Subsumption
pub mod Samples
