-- Rows that clauses have, and rows that they don't. Terms that are like others, and terms that
-- aren't.
use Rattle.std.specs.Prelude.{◌≡◌, ℕ, true, false, List, [], ◌∷◌, codes}
use Rattle.si_defs.specs.Bytes.{Bytes}
use Rattle.si_defs.specs.Terms.{var, app, none, more}
use Rattle.si_defs.specs.Symbols.{Symbol, Numbering}
use Rattle.si_defs.specs.Clauses.{Term, Literal}
use Rattle.si_defs.specs.Entries.{entries_from}
use Rattle.si_defs.specs.declared.SymKind.TheVariants.{Word}
use Rattle.si_defs.specs.declared.Side.{Side}
use Rattle.si_defs.specs.declared.Side.TheVariants.{Predicate, Function}
use Rattle.si_flat.specs.Numbered.{number_in}
use Rattle.si_screen.specs.ClauseRows.{head_numbers, bit_of, IsRowOf, lacking, with_extra}
use Rattle.si_screen.specs.Likeness.{IsLike}

abbrev pub word : Bytes → Side → ℕ → Symbol
word text side arity = record { kind = Word; text = text; side = side; arity = arity }

abbrev pub p : Symbol
p = word (codes "p") Predicate 1

abbrev pub f : Symbol
f = word (codes "f") Function 1

abbrev pub a : Symbol
a = word (codes "a") Function 0

abbrev pub numbers : Numbering
numbers = (p, 0) ∷ (f, 2) ∷ (a, 4) ∷ []

-- ~p(f(X))
abbrev pub negated : Literal
negated = record {
  positive = false;
  atom = app p (more (app f (more (var (codes "X")) none)) none);
}

-- p(a)
abbrev pub ground : Literal
ground = record { positive = true; atom = app p (more (app a none) none) }

abbrev pub first_heads : List Literal → List ℕ
first_heads ls = head_numbers (number_in numbers) (entries_from 1 ls)

-- the negation has the number above that of its symbol, and the variable has none
abbrev pub HeadsOfNegation : Type 0
HeadsOfNegation = first_heads (negated ∷ []) ≡ 1 ∷ 2 ∷ []

-- a literal and its negation have different numbers
abbrev pub HeadsOfTwo : Type 0
HeadsOfTwo = first_heads (ground ∷ negated ∷ []) ≡ 0 ∷ 4 ∷ 1 ∷ 2 ∷ []

-- numbers meet at 256
abbrev pub SameBit : Type 0
SameBit = bit_of 258 ≡ bit_of 2

-- q(b, f(b)), of whose symbols only f has a number
abbrev pub q : Symbol
q = word (codes "q") Predicate 2

abbrev pub b : Symbol
b = word (codes "b") Function 0

abbrev pub lacked : Literal
lacked = record {
  positive = false;
  atom = app q (more (app b none) (more (app f (more (app b none) none)) none));
}

-- the others have numbers from 2^31 on, by their first occurrence
abbrev pub HeadsOfLacked : Type 0
HeadsOfLacked =
    head_numbers (number_in (with_extra numbers (lacking numbers (lacked ∷ []))))
    (entries_from 1 (lacked ∷ []))
    ≡ 2147483649 ∷ 2147483650 ∷ 2 ∷ 2147483650 ∷ []

-- no literal, and no bit
abbrev pub NoBit : Type 0
NoBit = IsRowOf (number_in numbers) [] (0 ∷ 0 ∷ 0 ∷ 0 ∷ [])

-- the bit of the negation alone isn't the row, since that of the function is lacking
abbrev pub LackingBit : Type 0
LackingBit = IsRowOf (number_in numbers) (negated ∷ []) (2 ∷ 0 ∷ 0 ∷ 0 ∷ []) → ⊥

-- nor may a bit stand there that is no symbol's
abbrev pub StrayBit : Type 0
StrayBit = IsRowOf (number_in numbers) [] (1 ∷ 0 ∷ 0 ∷ 0 ∷ []) → ⊥

-- f(X)
abbrev f_of_variable : Term
f_of_variable = app f (more (var (codes "X")) none)

abbrev f_of_a : Term
f_of_a = app f (more (app a none) none)

-- where the term has a variable anything may stand
abbrev pub LikeBelowAVariable : Type 0
LikeBelowAVariable = IsLike f_of_variable f_of_a

-- where it has a symbol no variable may
abbrev pub UnlikeAtAVariable : Type 0
UnlikeAtAVariable = IsLike f_of_a f_of_variable → ⊥

-- nor another symbol
abbrev pub UnlikeAtAnArgument : Type 0
UnlikeAtAnArgument = IsLike f_of_a (app f (more (app b none) none)) → ⊥
