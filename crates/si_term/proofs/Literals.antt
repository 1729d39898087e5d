-- Literals of the program, one after the other.
use Rattle.std.proofs.Common.{◌≡◌, ℕ, zero, suc, ◌+◌, ◌<◌, ◌≤◌, List, [], ◌∷◌, length, get_or, drop, map, ap, sym, ◌∙◌, add-one, arith, drop-cons}
use Rattle.std.proofs.Math.ListN.{drop_of_length-le}
use Rattle.si_defs.specs.Terms as terms
use Rattle.si_defs.specs.Clauses as clauses
use Rattle.si_term.specs.Terms.{term_of}
use Rattle.si_term.specs.Meaning.{literal_of}
use Rattle.si_term.specs.declared.clause.Literal.{Literal}
use Rattle.si_term.proofs.Rows.{positive}

-- the literals from the one with number i on
abbrev pub later : List Literal → ℕ → List clauses.Literal
later ls i = map literal_of (drop i ls)

pub later-read : (ls : List Literal) (i : ℕ) (l : Literal) → i < length ls → l ≡ get_or ls i l → later ls i ≡ literal_of l ∷ later ls (i + 1)
later-read ls i l h read = ap (map literal_of) (drop-cons ls i l h) ∙ λ j. literal_of (sym read j) ∷ later ls (sym (add-one i) j)

pub later-end : (ls : List Literal) (i : ℕ) → length ls ≤ i → later ls i ≡ []
later-end ls i h = ap (map literal_of) (drop_of_length-le ls h)

-- a literal is no larger than all of them
literal_size-at : (ls : List Literal) (i : ℕ) (d : Literal) → i < length ls → terms.size (term_of (get_or ls i d).atom) ≤ clauses.literals_size (map literal_of ls)
literal_size-at [] i d h = absurd (omega arith)
literal_size-at (l ∷ ls) zero d h = omega arith
literal_size-at (l ∷ ls) (suc i) d h = omega (arith, literal_size-at ls i d (omega arith))

pub literal_size-read : (ls : List Literal) (i : ℕ) (l : Literal) → i < length ls → l ≡ get_or ls i l → terms.size (term_of l.atom) ≤ clauses.literals_size (map literal_of ls)
literal_size-read ls i l h read = omega (arith, literal_size-at ls i l h, ap (λ (k : Literal). terms.size (term_of k.atom)) read)

-- there are no more literals than symbols and variables in them
pub length-literals_size : (ls : List Literal) → length ls ≤ clauses.literals_size (map literal_of ls)
length-literals_size [] = omega arith
length-literals_size (l ∷ ls) = omega (arith, length-literals_size ls, positive (term_of l.atom))
