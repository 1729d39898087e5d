-- What differs in a byte.
use Rattle.std.proofs.Common.{◌≡◌, ℕ, false, ◌==◌, [], ◌∷◌, ap, sym, ◌∙◌}
use Rattle.std.proofs.lemmas.Bool.{false≢true, eq-eqb}
use Rattle.si_defs.specs.Bytes.{Bytes}
use Rattle.si_defs.specs.Terms as terms
use Rattle.si_defs.specs.Symbols.{Symbol}
use Rattle.si_defs.specs.Clauses.{Term}
use Rattle.si_defs.specs.Tokens.{mark}

abbrev pub first_byte : Bytes → ℕ
first_byte [] = 0
first_byte (c ∷ cs) = c

-- Steps over numerals are many for a tactic: this one goes by the test.
pub differ : (a b : ℕ) → a == b ≡ false → a ≡ b → ⊥
differ a b h e = false≢true (sym h ∙ eq-eqb a b e)

pub texts_differ : (a b : Bytes) → first_byte a == first_byte b ≡ false → a ≡ b → ⊥
texts_differ a b h e = differ (first_byte a) (first_byte b) h (ap first_byte e)

pub marks_differ : (a b : ℕ) → a == b ≡ false → mark a ≡ mark b → ⊥
marks_differ a b h e = differ a b h (ap (λ t. first_byte t.text) e)

-- the name of a variable
abbrev pub name_of : Term → Bytes
name_of (terms.var x) = x
name_of (terms.app s ts) = []

pub variables_differ : (t u : Term) → first_byte (name_of t) == first_byte (name_of u) ≡ false → t ≡ u → ⊥
variables_differ t u h e = texts_differ (name_of t) (name_of u) h (ap name_of e)

-- two arguments that are the same are images that are the same
pub same_arguments : (s r : Symbol) (t u v : Term) → terms.app s (terms.more t (terms.more t terms.none)) ≡ terms.app r (terms.more u (terms.more v terms.none)) → u ≡ v
same_arguments s r t u v e = cc
