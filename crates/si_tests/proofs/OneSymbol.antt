-- A table of one symbol.
use Rattle.std.proofs.Common.{◌≡◌, inl, inr, ℕ, [], ◌∷◌, ap, sym, ◌∙◌, arith}
use Rattle.si_defs.specs.Symbols.{Symbol, IsNumbering}
use Rattle.si_defs.specs.Substitutions.{IsAmong}

pub only : (s : Symbol) → IsNumbering ((s, 4) ∷ [])
only s = record {
  one_number = λ r m n a b. sym (number r m a) ∙ number r n b;
  one_symbol = λ r q n a b. sym (symbol r n a) ∙ symbol q n b;
  even = λ r n a. (2, sym (number r n a));
  small = λ r n a. omega (arith, number r n a);
} where
  number : (r : Symbol) (n : ℕ) → IsAmong {V = Symbol × ℕ} ((s, 4) ∷ []) (r, n) → 4 ≡ n
  number r n (inl e) = ap (λ p. p.1) e
  number r n (inr h) = absurd h

  symbol : (r : Symbol) (n : ℕ) → IsAmong {V = Symbol × ℕ} ((s, 4) ∷ []) (r, n) → s ≡ r
  symbol r n (inl e) = ap (λ p. p.0) e
  symbol r n (inr h) = absurd h
