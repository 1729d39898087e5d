mod ShownEntries
mod FirstClauses
mod FirstHits
mod Refused
