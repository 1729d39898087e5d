mod ReaderLaws
mod TermLaws
mod ArgumentLaws
mod LiteralLaws
mod WholeLaws
