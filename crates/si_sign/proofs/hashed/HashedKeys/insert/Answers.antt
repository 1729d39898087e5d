use Rattle.std.proofs.Common.{◌≡◌, ℕ, Option, None, Some, true, is_some, nat_eq, refl, sym, ap, ◌∙◌}
use Rattle.std.proofs.lemmas.Bool.{false≢true}
use Rattle.std.specs.Map.{lookup}
use Rattle.si_sign.specs.Hashed.{hashed_key}
use Rattle.si_sign.proofs.hashed.HashedKeys.insert.Goals as goal

there : (o : Option ℕ) → is_some o ≡ true → (k : ℕ) × (o ≡ Some k)
there None h = absurd (false≢true h)
there (Some k) h = (k, refl)

pub returns-then-contains_key-clause-ok : goal.returns-then-contains_key-clause-ok
returns-then-contains_key-clause-ok c =
    let known = ap (λ h. is_some (lookup (nat_eq h) c.args.self.now.keys.entries)) (sym c.hash_of-hash.ensures) ∙ sym c.contains_key.ensures ∙ c.if-contains_key.true in
    (there (hashed_key c.args.self.now c.args.text.now) known, λ other. refl)
