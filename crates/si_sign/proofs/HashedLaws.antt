-- What is found by the hash of its text, or else by its text, where what is kept changes at one key.
use Rattle.std.proofs.Common.{◌≡◌, ◌⊎◌, inl, inr, ℕ, Bool, true, false, cond, Option, Some, None, refl, sym, ap, ◌∙◌}
use Rattle.std.proofs.lemmas.Option.{same_Some}
use Rattle.std.proofs.lemmas.Bool.Decides.{eqb_tells}
use Rattle.si_sign.specs.Hashed.{chosen}

pub chosen_same : (p q : ℕ → Bool) (led other : Option ℕ) → ((k : ℕ) → q k ≡ p k) → chosen q led other ≡ chosen p led other
chosen_same p q None other same = refl
chosen_same p q (Some k) other same = ap {B = Option ℕ} (λ b. cond b (Some k) other) (same k)

here : (p : ℕ → Bool) (k : ℕ) (led other : Option ℕ) → led ≡ Some k → p k ≡ true → chosen p led other ≡ Some k
here p k led other e h = ap (λ o. chosen p o other) e ∙ ap {B = Option ℕ} (λ b. cond b (Some k) other) h

past : (p : ℕ → Bool) (k : ℕ) (led other : Option ℕ) → led ≡ Some k → p k ≡ false → chosen p led other ≡ other
past p k led other e h = ap (λ o. chosen p o other) e ∙ ap {B = Option ℕ} (λ b. cond b (Some k) other) h

nowhere : (p : ℕ → Bool) (led other : Option ℕ) → led ≡ None → chosen p led other ≡ other
nowhere p led other e = ap (λ o. chosen p o other) e

-- Whether what is kept by a key has a name is told by `was_at` before, and by `is_at` after. At one
-- key, only this name comes or goes; at the others, nothing does.
module _ {N : Type 0} (name : N) (key : ℕ) (was_at is_at : N → ℕ → Bool) (away : (n : N) (k : ℕ) → (k ≡ key → ⊥) → is_at n k ≡ was_at n k)
    (apart : (n : N) → (n ≡ name → ⊥) → (was_at n key ≡ false) × (is_at n key ≡ false)) (led leads other others : N → Option ℕ) where
  abbrev before : N → Option ℕ
  before n = chosen (was_at n) (led n) (other n)

  abbrev after : N → Option ℕ
  after n = chosen (is_at n) (leads n) (others n)

  same_at : (n : N) → (n ≡ name → ⊥) → (k : ℕ) → is_at n k ≡ was_at n k
  same_at n f k =
      elim (eqb_tells k key) [
        | inl e ↦ ap (is_at n) e.1 ∙ (apart n f).1 ∙ sym (apart n f).0 ∙ ap (was_at n) (sym e.1)
        | inr e ↦ away n k e.1
      ]

  same_led : (n : N) → (n ≡ name → ⊥) → leads n ≡ led n → others n ≡ other n → after n ≡ before n
  same_led n f e o = (λ i. chosen (is_at n) (e i) (o i)) ∙ chosen_same (was_at n) (is_at n) (led n) (other n) (same_at n f)

  found_before : (k : ℕ) → led name ≡ Some k → (k ≡ key → ⊥) → is_at name k ≡ true → before name ≡ Some k
  found_before k e f h = here (was_at name) k (led name) (other name) e (sym (away name k f) ∙ h)

  -- ---- the name gets the key
  abbrev Led : N → Type 0
  Led n = (leads n ≡ led n) ⊎ ((led n ≡ None) × (leads n ≡ Some key))

  -- by the hash, or else by the name
  abbrev LedHere : Type 0
  LedHere = (leads name ≡ Some key) ⊎ (((k : ℕ) × (led name ≡ Some k)) × (others name ≡ Some key))

  pub led_here : before name ≡ None → is_at name key ≡ true → LedHere → Led name → after name ≡ Some key
  led_here none true_here to change = by to change where
    step : others name ≡ Some key → leads name ≡ led name → (o : Option ℕ) → led name ≡ o → after name ≡ Some key
    step e same None h = nowhere (is_at name) (leads name) (others name) (same ∙ h) ∙ e
    step e same (Some k) h =
        elim (eqb_tells k key) [
          | inl q ↦ here (is_at name) key (leads name) (others name) (same ∙ h ∙ ap Some q.1) true_here
          | inr q ↦ split (is_at name k) refl q.1
        ] where
          split : (b : Bool) → is_at name k ≡ b → (k ≡ key → ⊥) → after name ≡ Some key
          split true b f = let clash : None ≡ Some k = sym none ∙ found_before k h f b in cc
          split false b f = past (is_at name) k (leads name) (others name) (same ∙ h) b ∙ e

    by : LedHere → Led name → after name ≡ Some key
    by (inl e) change = here (is_at name) key (leads name) (others name) e true_here
    by (inr e) (inl same) = step e.1 same (led name) refl
    by (inr e) (inr c) = here (is_at name) key (leads name) (others name) c.1 true_here

  pub led_apart : (n : N) → (n ≡ name → ⊥) → Led n → others n ≡ other n → after n ≡ before n
  led_apart n f (inl e) o = same_led n f e o
  led_apart n f (inr c) o = past (is_at n) key (leads n) (others n) c.1 (apart n f).1 ∙ o ∙ sym (nowhere (was_at n) (led n) (other n) c.0)

  -- ---- the key is taken from the name
  abbrev Left : N → Type 0
  Left n = (leads n ≡ led n) ⊎ ((led n ≡ Some key) × (leads n ≡ None))

  pub left_here : before name ≡ Some key → (leads name ≡ Some key → ⊥) → others name ≡ None → Left name → after name ≡ None
  left_here known gone e (inr c) = nowhere (is_at name) (leads name) (others name) c.1 ∙ e
  left_here known gone e (inl same) = step (led name) refl where
    step : (o : Option ℕ) → led name ≡ o → after name ≡ None
    step None h = nowhere (is_at name) (leads name) (others name) (same ∙ h) ∙ e
    step (Some k) h =
        elim (eqb_tells k key) [
          | inl q ↦ absurd (gone (same ∙ h ∙ ap Some q.1))
          | inr q ↦ split (is_at name k) refl q.1
        ] where
          split : (b : Bool) → is_at name k ≡ b → (k ≡ key → ⊥) → after name ≡ None
          split true b f = absurd (f (same_Some k key (sym (found_before k h f b) ∙ known)))
          split false b f = past (is_at name) k (leads name) (others name) (same ∙ h) b ∙ e

  pub left_apart : (n : N) → (n ≡ name → ⊥) → Left n → others n ≡ other n → after n ≡ before n
  left_apart n f (inl e) o = same_led n f e o
  left_apart n f (inr c) o = nowhere (is_at n) (leads n) (others n) c.1 ∙ o ∙ sym (past (was_at n) key (led n) (other n) c.0 (apart n f).0)
