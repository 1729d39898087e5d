mod Gaining
mod Lengths
mod Tokens
mod Formulas
pub mod Lines
