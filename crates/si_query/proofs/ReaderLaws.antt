-- What was read and written in parts, put together.
use Rattle.std.proofs.Common.{◌≡◌, ℕ, ◌-◌, ◌<◌, ◌≤◌, Bool, true, cond, List, [], ◌∷◌, length, refl, ap, subst, arith, length-append}
use Rattle.std.proofs.lemmas.List.{length-set}
use Rattle.si_defs.specs.Bytes.{Bytes}
use Rattle.si_defs.specs.Terms as terms
use Rattle.si_defs.specs.Symbols.{Symbol, Numbering}
use Rattle.si_defs.specs.Clauses.{Terms}
use Rattle.si_defs.specs.declared.SymKind.{SymKind}
use Rattle.si_lex.specs.declared.lexeme.Lexeme.{Lexeme}
use Rattle.si_parse.specs.GrammarRules.{function_symbol}
use Rattle.si_flat.specs.declared.Cell.TheVariants as cell
use Rattle.si_flat.specs.declared.Owner.TheVariants.{Query}
use Rattle.si_flat.specs.Numbered.{one_above}
use Rattle.si_flat.specs.Flattening.{WalkState, term_piece, terms_piece, entry_scheme, Flattens}
use Rattle.si_flat.specs.Writing.{Opens, PutsSymbol, WritesPiece}
use Rattle.si_flat.proofs.WriterLaws.{puts_function, puts_predicate}
use Rattle.si_query.specs.Reading.{HasNumbersFor, Spends}

module _ (pairs : Numbering) (at : ℕ) (a b c d : WalkState) (opened : Opens at a b) (ts : Terms) where
  -- a function by its kind and text
  pub closed_function : (kind : SymKind) (text : Bytes) (arity : ℕ) → PutsSymbol pairs (function_symbol kind text arity) true at c d
      → WritesPiece pairs b c (terms_piece ts)
      → WritesPiece pairs a d (term_piece (terms.app (function_symbol kind text arity) ts))
  closed_function kind text arity put = puts_function pairs at a b c opened ts (function_symbol kind text arity) d (λ n. refl) put

  -- a predicate
  pub closed_predicate : (s r : Symbol) (p : Bool) → s ≡ r → PutsSymbol pairs s p at c d
      → WritesPiece pairs b c (terms_piece ts)
      → Flattens pairs (entry_scheme Query p) a d (term_piece (terms.app r ts))
  closed_predicate s r p is put = puts_predicate pairs at a b c opened ts r p d (subst (λ x. PutsSymbol pairs x p at c d) is put)

-- ---- how much was written
-- one cell more
pub spends_closed : {tokens rest : List Lexeme} (pairs : Numbering) (s : Symbol) (positive : Bool) (at : ℕ) (a b c d : WalkState)
    → Opens at a b → Spends 0 tokens rest b c → PutsSymbol pairs s positive at c d → Spends 1 tokens rest a d
spends_closed pairs s positive at a b c d opened spends put = record {
  names = omega (arith, spends.names, ap length opened.names, ap length put.names);
  cells = omega (arith, spends.cells, ap length opened.cells, length-append a.cells (cell.Query 0 ∷ []), ap length put.cells, length-set c.cells at (cell.App (cond positive put.number (one_above s.side put.number)) s.arity (length c.cells - at)));
}

-- what was opened has room for what comes
pub room_opened : (tokens : List Lexeme) (at : ℕ) (a b : WalkState) → Opens at a b → HasNumbersFor 1 tokens a → HasNumbersFor 0 tokens b
room_opened tokens at a b opened room = record {
  names = omega (arith, room.names, ap length opened.names);
  cells = omega (arith, room.cells, ap length opened.cells, length-append a.cells (cell.Query 0 ∷ []));
}

-- what was written leaves room for what comes
pub room_left : (more : ℕ) (tokens rest : List Lexeme) (a b : WalkState) → HasNumbersFor more tokens a → Spends 0 tokens rest a b → HasNumbersFor more rest b
room_left more tokens rest a b room spends = record {
  names = omega (arith, room.names, spends.names);
  cells = omega (arith, room.cells, spends.cells);
}

-- fewer tokens need less
pub room_fewer : (more : ℕ) (tokens rest : List Lexeme) (a : WalkState) → HasNumbersFor more tokens a → length rest ≤ length tokens → HasNumbersFor more rest a
room_fewer more tokens rest a room fewer = record { names = omega (arith, room.names, fewer); cells = omega (arith, room.cells, fewer) }

-- a token before them is room for one cell
pub room_head : (tokens rest : List Lexeme) (a : WalkState) → HasNumbersFor 0 tokens a → length rest < length tokens → HasNumbersFor 1 rest a
room_head tokens rest a room fewer = record { names = omega (arith, room.names, fewer); cells = omega (arith, room.cells, fewer) }

-- nothing was written
pub spends_none : (tokens : List Lexeme) (a : WalkState) → Spends 0 tokens tokens a a
spends_none tokens a = record { names = omega arith; cells = omega arith }

-- more tokens before what was read
pub spends_more : (more : ℕ) (tokens inside rest left : List Lexeme) (a b : WalkState) → Spends more inside rest a b → length inside ≤ length tokens → length left ≤ length rest
    → Spends more tokens left a b
spends_more more tokens inside rest left a b spends one two = record { names = omega (arith, spends.names, one, two); cells = omega (arith, spends.cells, one, two) }

-- a head before them
pub spends_head : (tokens inside rest : List Lexeme) (a b : WalkState) → Spends 1 inside rest a b → length inside < length tokens → Spends 0 tokens rest a b
spends_head tokens inside rest a b spends one = record { names = omega (arith, spends.names, one); cells = omega (arith, spends.cells, one) }

-- one after the other
pub spends_then : (tokens middle rest : List Lexeme) (a b c : WalkState) → Spends 0 tokens middle a b → Spends 0 middle rest b c → Spends 0 tokens rest a c
spends_then tokens middle rest a b c first last = record { names = omega (arith, first.names, last.names); cells = omega (arith, first.cells, last.cells) }
