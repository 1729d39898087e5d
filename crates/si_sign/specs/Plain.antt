-- What a plain list of clauses tells of symbols.
use Rattle.std.specs.Prelude.{Bool, not, ◌&&◌, ◌==◌, List, map, bytes_eq}
use Rattle.std.specs.Borrow.{Bor}
use Rattle.si_defs.specs.Symbols.{Symbol, same_kind, same_side}
use Rattle.si_term.specs.Terms.{symbol_of}
use Rattle.si_term.specs.declared.term.Sym.{Sym}

-- the symbols that are lent
abbrev pub lent_symbols : List (Bor Sym) → List Symbol
lent_symbols ss = map (λ s. symbol_of s.now) ss

-- whether they are of one kind and text, but not of one side and arity
abbrev pub is_clash : Symbol → Symbol → Bool
is_clash s r =
    same_kind s.kind r.kind && bytes_eq s.text r.text
    && not (same_side s.side r.side && s.arity == r.arity)
