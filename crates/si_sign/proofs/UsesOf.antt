-- How often symbols occur by a signature, and in a list.
use Rattle.std.proofs.Common.{◌≡◌, inl, inr, ℕ, ◌+◌, ◌≤◌, Bool, true, false, cond, List, [], ◌∷◌, ◌++◌, refl, sym, ap, subst, arith}
use Rattle.std.proofs.lemmas.List.Sums.{sum_by-append, sum_by-cons}
use Rattle.si_defs.specs.Symbols.{Symbol, same_symbol, times}
use Rattle.si_defs.specs.Substitutions.{IsAmong, AreDistinct}
use Rattle.si_defs.specs.Bytes.{Bytes}
use Rattle.si_defs.specs.declared.SymKind.{SymKind}
use Rattle.si_state.specs.Signatures.{Used, Signature, keys, numbering, known_symbols, uses_of}
use Rattle.si_defs.proofs.SymbolLaws.{symbol_is, symbol_self, symbol_same}

-- ---- members of a signature
abbrev pub key : Used → SymKind × Bytes
key u = (u.symbol.kind, u.symbol.text)

pub among_keys : (us : Signature) (u : Used) → IsAmong us u → IsAmong (keys us) (key u)
among_keys [] u h = absurd h
among_keys (v ∷ us) u (inl e) = inl (ap key e)
among_keys (v ∷ us) u (inr h) = inr (among_keys us u h)

pub among_symbols : (us : Signature) (u : Used) → IsAmong us u → IsAmong (known_symbols us) u.symbol
among_symbols [] u h = absurd h
among_symbols (v ∷ us) u (inl e) = inl (ap (λ (w : Used). w.symbol) e)
among_symbols (v ∷ us) u (inr h) = inr (among_symbols us u h)

pub among_numbering : (us : Signature) (u : Used) → IsAmong us u → IsAmong (numbering us) (u.symbol, u.number)
among_numbering [] u h = absurd h
among_numbering (v ∷ us) u (inl e) = inl (ap (λ (w : Used). (w.symbol, w.number)) e)
among_numbering (v ∷ us) u (inr h) = inr (among_numbering us u h)

-- the member that something is told of
pub record Member {A : Type 0} (f : Used → A) (us : Signature) (x : A) : Type 0 where
  pub used : Used
  pub among : IsAmong us used
  pub is : f used ≡ x

next : {A : Type 0} (f : Used → A) (v : Used) (us : Signature) (x : A) → Member f us x → Member f (v ∷ us) x
next f v us x m = record { used = m.used; among = inr m.among; is = m.is }

pub keys_among : (us : Signature) (k : SymKind × Bytes) → IsAmong (keys us) k → Member key us k
keys_among [] k h = absurd h
keys_among (v ∷ us) k (inl e) = record { used = v; among = inl refl; is = e }
keys_among (v ∷ us) k (inr h) = next key v us k (keys_among us k h)

pub symbols_among : (us : Signature) (s : Symbol) → IsAmong (known_symbols us) s → Member (λ u. u.symbol) us s
symbols_among [] s h = absurd h
symbols_among (v ∷ us) s (inl e) = record { used = v; among = inl refl; is = e }
symbols_among (v ∷ us) s (inr h) = next (λ u. u.symbol) v us s (symbols_among us s h)

pub numbering_among : (us : Signature) (p : Symbol × ℕ) → IsAmong (numbering us) p → Member (λ u. (u.symbol, u.number)) us p
numbering_among [] p h = absurd h
numbering_among (v ∷ us) p (inl e) = record { used = v; among = inl refl; is = e }
numbering_among (v ∷ us) p (inr h) = next (λ u. (u.symbol, u.number)) v us p (numbering_among us p h)

-- ---- uses
pub uses_absent : (us : Signature) (s : Symbol) → ((u : Used) → IsAmong us u → u.symbol ≡ s → ⊥) → uses_of us s ≡ 0
uses_absent [] s h = refl
uses_absent (u ∷ us) s h = by (same_symbol u.symbol s) refl (uses_absent us s (λ v k. h v (inr k))) where
  by : (b : Bool) → same_symbol u.symbol s ≡ b → uses_of us s ≡ 0 → cond b u.uses (uses_of us s) ≡ 0
  by true e rest = absurd (h u (inl refl) (symbol_is u.symbol s e))
  by false e rest = rest

pub uses_positive : (us : Signature) (s : Symbol) → 1 ≤ uses_of us s → Member (λ u. u.symbol) us s
uses_positive [] s h = absurd (omega arith)
uses_positive (u ∷ us) s h = by (same_symbol u.symbol s) refl h (λ k. uses_positive us s k) where
  by : (b : Bool) → same_symbol u.symbol s ≡ b → 1 ≤ cond b u.uses (uses_of us s) → (1 ≤ uses_of us s → Member (λ v. v.symbol) us s) → Member (λ v. v.symbol) (u ∷ us) s
  by true e h rest = record { used = u; among = inl refl; is = symbol_is u.symbol s e }
  by false e h rest = next (λ v. v.symbol) u us s (rest h)

pub uses_among : (us : Signature) (u : Used) → AreDistinct (keys us) → IsAmong us u → uses_of us u.symbol ≡ u.uses
uses_among [] u d h = absurd h
uses_among (v ∷ us) u d (inl e) =
    subst (λ (w : Used). uses_of (v ∷ us) w.symbol ≡ w.uses) e (ap (λ b. cond b v.uses (uses_of us v.symbol)) (symbol_self v.symbol))
uses_among (v ∷ us) u d (inr h) = by (same_symbol v.symbol u.symbol) refl (uses_among us u d.1 h) where
  by : (b : Bool) → same_symbol v.symbol u.symbol ≡ b → uses_of us u.symbol ≡ u.uses → cond b v.uses (uses_of us u.symbol) ≡ u.uses
  by true e rest =
      let same : key u ≡ key v = ap (λ (s : Symbol). (s.kind, s.text)) (sym (symbol_is v.symbol u.symbol e)) in
      absurd (d.0 (subst (IsAmong (keys us)) same (among_keys us u h)))
  by false e rest = rest

-- ---- occurrences in a list
pub times_cons : (s r : Symbol) (rs : List Symbol) → times s (r ∷ rs) ≡ cond (same_symbol s r) 1 0 + times s rs
times_cons s r rs = sum_by-cons (λ x. cond (same_symbol s x) 1 0) r rs

pub times_append : (s : Symbol) (xs ys : List Symbol) → times s (xs ++ ys) ≡ times s xs + times s ys
times_append s xs ys = sum_by-append (λ x. cond (same_symbol s x) 1 0) xs ys

pub times_among : (s : Symbol) (rs : List Symbol) → IsAmong rs s → 1 ≤ times s rs
times_among s [] h = absurd h
times_among s (r ∷ rs) (inl e) = omega (arith, times_cons s r rs, ap {B = ℕ} (λ b. cond b 1 0) (symbol_same s r (sym e)))
times_among s (r ∷ rs) (inr h) = omega (arith, times_cons s r rs, times_among s rs h)

pub among_times : (s : Symbol) (rs : List Symbol) → 1 ≤ times s rs → IsAmong rs s
among_times s [] h = absurd (omega arith)
among_times s (r ∷ rs) h = by (same_symbol s r) refl (subst (λ n. 1 ≤ n) (times_cons s r rs) h) (among_times s rs) where
  by : (b : Bool) → same_symbol s r ≡ b → 1 ≤ cond b 1 0 + times s rs → (1 ≤ times s rs → IsAmong rs s) → IsAmong (r ∷ rs) s
  by true e h rest = inl (sym (symbol_is s r e))
  by false e h rest = inr (rest (omega (arith, h)))
