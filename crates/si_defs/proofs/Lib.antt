pub mod BoolLaws
pub mod ListLaws
pub mod NameLaws
pub mod SymbolLaws
pub mod TermLaws
pub mod TokenLaws
pub mod VariableLaws
