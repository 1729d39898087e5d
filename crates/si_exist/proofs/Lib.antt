mod MatchLists
pub mod OneSolution
mod MostGeneral
mod Firsts
mod FoldedParts
mod OrderedBindings
mod FoldedLists
mod NotAbsent
mod TriedClauses
mod LeastMaps
mod Outcomes
mod Readings
mod RightSteps
