-- Numbers of symbols: a table's, and those that follow them.
use Rattle.std.proofs.Common.{◌≡◌, inl, inr, ℕ, ◌+◌, ◌*◌, Bool, true, false, cond, ◌||◌, List, [], ◌∷◌, ◌++◌, refl, ap, sym, ◌∙◌, arith, true≢false}
use Rattle.std.specs.List.{list_any}
use Rattle.indexmap.specs.IndexSet.{insert_key}
use Rattle.si_defs.specs.Symbols.{Symbol, Numbering, IsNumbering, same_symbol}
use Rattle.si_defs.specs.Substitutions.{IsAmong}
use Rattle.si_flat.specs.Numbered.{number_in, signed, one_above, place_in}
use Rattle.si_flat.specs.Flattened.{numbers_from, has_number}
use Rattle.si_defs.proofs.SymbolLaws.{symbol-Decides}
use Rattle.si_term.proofs.Inserted.{inserted-known}

-- whether a symbol has a number
pub has-among : (pairs : Numbering) (s : Symbol) (n : ℕ) → IsAmong pairs (s, n) → has_number pairs s ≡ true
has-among [] s n h = absurd h
has-among (pair ∷ pairs) s n (inl e) = ap (λ b. b || has_number pairs s) ((symbol-Decides pair.0 s).1 (ap (λ p. p.0) e))
has-among (pair ∷ pairs) s n (inr h) = by (same_symbol pair.0 s) (has-among pairs s n h) where
  by : (b : Bool) → has_number pairs s ≡ true → (b || has_number pairs s) ≡ true
  by true g = refl
  by false g = g

pub has-none : (pairs : Numbering) (s : Symbol) → ((n : ℕ) → IsAmong pairs (s, n) → ⊥) → has_number pairs s ≡ false
has-none [] s none = refl
has-none (pair ∷ pairs) s none = by (same_symbol pair.0 s) refl (has-none pairs s (λ n h. none n (inr h))) where
  by : (b : Bool) → same_symbol pair.0 s ≡ b → has_number pairs s ≡ false → (b || has_number pairs s) ≡ false
  by true e g = absurd (none pair.1 (inl (ap (λ r. (r, pair.1)) ((symbol-Decides pair.0 s).0 e))))
  by false e g = g

-- one that has a number is there with it
pub among-number : (pairs : Numbering) (s : Symbol) → has_number pairs s ≡ true → IsAmong pairs (s, number_in pairs s)
among-number [] s h = absurd (true≢false (sym h))
among-number (pair ∷ pairs) s h = by (same_symbol pair.0 s) refl h (among-number pairs s) where
  by : (b : Bool) → same_symbol pair.0 s ≡ b → (b || has_number pairs s) ≡ true
      → (has_number pairs s ≡ true → IsAmong pairs (s, number_in pairs s))
      → IsAmong (pair ∷ pairs) (s, cond b pair.1 (number_in pairs s))
  by true e g later = inl (ap (λ r. (r, pair.1)) ((symbol-Decides pair.0 s).0 e))
  by false e g later = inr (later g)

-- a table's pairs go before the others
pub number-append : (pairs others : Numbering) (s : Symbol) → number_in (pairs ++ others) s ≡ cond (has_number pairs s) (number_in pairs s) (number_in others s)
number-append [] others s = refl
number-append (pair ∷ pairs) others s = by (same_symbol pair.0 s) (number-append pairs others s) where
  by : (b : Bool) → number_in (pairs ++ others) s ≡ cond (has_number pairs s) (number_in pairs s) (number_in others s)
      → cond b pair.1 (number_in (pairs ++ others) s) ≡ cond (b || has_number pairs s) (cond b pair.1 (number_in pairs s)) (number_in others s)
  by true h = refl
  by false h = h

pub number_known : (pairs others : Numbering) (s : Symbol) (n : ℕ) → IsNumbering pairs → IsAmong pairs (s, n) → number_in (pairs ++ others) s ≡ n
number_known pairs others s n numbering h =
    let known = has-among pairs s n h in
    number-append pairs others s
    ∙ ap (λ b. cond b (number_in pairs s) (number_in others s)) known
    ∙ numbering.one_number s (number_in pairs s) n (among-number pairs s known) h

-- ---- the symbols that a table lacks
numbers-place : (m : ℕ) (ss : List Symbol) (s : Symbol) → list_any (λ r. same_symbol r s) ss ≡ true → number_in (numbers_from m ss) s ≡ m + 2 * place_in same_symbol ss s
numbers-place m [] s h = absurd (true≢false (sym h))
numbers-place m (r ∷ ss) s h = by (same_symbol r s) h (numbers-place (2 + m) ss s) where
  by : (b : Bool) → (b || list_any (λ r. same_symbol r s) ss) ≡ true
      → (list_any (λ r. same_symbol r s) ss ≡ true → number_in (numbers_from (2 + m) ss) s ≡ 2 + m + 2 * place_in same_symbol ss s)
      → cond b m (number_in (numbers_from (2 + m) ss) s) ≡ m + 2 * cond b 0 (1 + place_in same_symbol ss s)
  by true g later = omega arith
  by false g later = omega (arith, later g)

pub number_extra : (pairs : Numbering) (first : ℕ) (known more : List Symbol) (s : Symbol) (n : ℕ)
    → ((m : ℕ) → IsAmong pairs (s, m) → ⊥)
    → place_in same_symbol (insert_key same_symbol known s ++ more) s ≡ n
    → number_in (pairs ++ numbers_from first (insert_key same_symbol known s ++ more)) s ≡ first + 2 * n
number_extra pairs first known more s n none place =
    let ss = insert_key same_symbol known s ++ more in
    number-append pairs (numbers_from first ss) s
    ∙ ap (λ b. cond b (number_in pairs s) (number_in (numbers_from first ss) s)) (has-none pairs s none)
    ∙ numbers-place first ss s (inserted-known same_symbol symbol-Decides known more s)
    ∙ ap (λ k. first + 2 * k) place

-- ---- signs
pub signed-is : (positive : Bool) (f : Symbol → ℕ) (s : Symbol) → signed positive f s ≡ cond positive (f s) (one_above s.side (f s))
signed-is true f s = refl
signed-is false f s = refl
