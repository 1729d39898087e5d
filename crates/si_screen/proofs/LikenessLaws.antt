-- A substitution that takes a term to another leaves its symbols there.
use Rattle.std.proofs.Common.{◌≡◌, ◌<◌, ◌≤◌, ◌+◌, ◌⊎◌, inl, inr, ℕ, zero, suc, List, [], ◌∷◌, length, map, get_or, sym, subst, arith}
use Rattle.si_defs.specs.Terms.{none, more, row}
use Rattle.si_defs.specs.Clauses.{Terms}
use Rattle.si_term.specs.Terms.{term_of}
use Rattle.si_term.specs.declared.term.Term as program
use Rattle.si_term.proofs.Rows.{from, from-read, from-end}
use Rattle.si_screen.specs.Likeness.{IsLike, AreLike}

-- what is left after so many is like those of the other row
abbrev pub AreLikeFrom : List program.Term → List program.Term → ℕ → Type 0
AreLikeFrom ts us i = AreLike (from ts i) (from us i)

-- those with one number
pub like_at : (ts us : List program.Term) (i : ℕ) (t u : program.Term) → i < length ts → i < length us
    → t ≡ get_or ts i t → u ≡ get_or us i u → AreLike (row (map term_of ts)) (row (map term_of us)) → IsLike (term_of t) (term_of u)
like_at [] us i t u less fits a b h = absurd (omega (arith, less))
like_at (x ∷ ts) [] i t u less fits a b h = absurd (omega (arith, fits))
like_at (x ∷ ts) (y ∷ us) zero t u less fits a b h =
    subst (λ z. IsLike (term_of z) (term_of u)) (sym a) (subst (λ z. IsLike (term_of x) (term_of z)) (sym b) h.0)
like_at (x ∷ ts) (y ∷ us) (suc i) t u less fits a b h = like_at ts us i t u (omega (arith, less)) (omega (arith, fits)) a b h.1

pub like_from : (ts us : List program.Term) (i : ℕ) (t u : program.Term) → i < length ts → i < length us
    → t ≡ get_or ts i t → u ≡ get_or us i u → IsLike (term_of t) (term_of u) → AreLikeFrom ts us (i + 1) → AreLikeFrom ts us i
like_from ts us i t u less fits a b one rest =
    subst (λ r. AreLike r (from us i)) (sym (from-read ts i t less a))
    (subst (AreLike (more (term_of t) (from ts (i + 1)))) (sym (from-read us i u fits b)) (one, rest))

none_left : (ts : Terms) → AreLike ts none
none_left none = tt
none_left (more t ts) = tt

pub like_past : (ts us : List program.Term) (i : ℕ) → length us ≤ i → AreLikeFrom ts us i
like_past ts us i past = subst (AreLike (from ts i)) (sym (from-end us i past)) (none_left (from ts i))

pub like_end : (ts us : List program.Term) (i : ℕ) → length ts ≤ i → AreLikeFrom ts us i
like_end ts us i past = subst (λ r. AreLike r (from us i)) (sym (from-end ts i past)) tt

pub ended : (ts us : List program.Term) (i : ℕ) → (length ts ≤ i) ⊎ (length us ≤ i) → AreLikeFrom ts us i
ended ts us i (inl past) = like_end ts us i past
ended ts us i (inr past) = like_past ts us i past
