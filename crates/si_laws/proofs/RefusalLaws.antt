-- A clause isn't both accepted and refused, and is refused for at most one reason.
use Rattle.std.proofs.Common.{◌≡◌, List, refl, sym, ap, ◌∙◌, arith}
use Rattle.si_defs.specs.Clauses.{Clause}
use Rattle.si_defs.specs.Entries.{clause_symbols, state_symbols}
use Rattle.si_state.specs.States.{Rules}
use Rattle.si_state.specs.Acceptance.{Accepts, Refusal, taken, misused, full, Refuses}
use Rattle.si_laws.proofs.StateLaws.{AreConsistent, same_clash, no_clash}

module _ (rules : Rules) (state : List Clause) (c : Clause) where
  pub accepts_or_refuses : (new : List Clause) (why : Refusal) → Accepts rules state c new → Refuses rules state c why → ⊥
  accepts_or_refuses new taken accepts refuses = accepts.free refuses
  accepts_or_refuses new (misused n f k) accepts refuses = no_clash (state_symbols state) (clause_symbols c) n f k refuses.1 accepts.agree
  accepts_or_refuses new (full n) accepts refuses = absurd (omega (arith, accepts.room, refuses.2))

  pub one_refusal : AreConsistent state → (why other : Refusal) → Refuses rules state c why → Refuses rules state c other → why ≡ other
  one_refusal is taken taken h k = refl
  one_refusal is taken (misused n g l) h k = absurd (k.0 h)
  one_refusal is taken (full n) h k = absurd (k.0 h)
  one_refusal is (misused m f k) taken h i = absurd (h.0 i)
  one_refusal is (misused m f k) (misused n g l) h i =
      let same = same_clash (state_symbols state) (clause_symbols c) m n f g k l is.agree h.1 i.1 in
      λ j. misused (same.0 j) (same.1 j) (same.2 j)
  one_refusal is (misused m f k) (full n) h i = absurd (no_clash (state_symbols state) (clause_symbols c) m f k h.1 i.1)
  one_refusal is (full m) taken h i = absurd (h.0 i)
  one_refusal is (full m) (misused n g l) h i = absurd (no_clash (state_symbols state) (clause_symbols c) n g l i.1 h.1)
  one_refusal is (full m) (full n) h i = ap full (h.3 ∙ sym i.3)
