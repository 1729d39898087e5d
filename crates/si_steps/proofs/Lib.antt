pub mod WordLaws
pub mod CommandLaws
pub mod OneSample
pub mod FetchLaws
