-- Numbers for the symbols that a table lacks, after those of the table.
use Rattle.std.proofs.Common.{◌≡◌, ◌⊎◌, inl, inr, ℕ, ◌+◌, ◌*◌, ◌<◌, ◌≤◌, ◌^◌, Bool, true, false, not, ◌||◌, List, [], ◌∷◌, ◌++◌, length, refl, ap, sym, ◌∙◌, arith, subst, true≢false}
use Rattle.std.specs.Prelude.{filter}
use Rattle.std.proofs.lemmas.Bool.{not-true}
use Rattle.si_defs.specs.Symbols.{Symbol, Numbering, IsNumbering, same_symbol}
use Rattle.si_defs.specs.Substitutions.{IsAmong}
use Rattle.si_defs.specs.Terms.{firsts}
use Rattle.si_flat.specs.Flattened.{numbers_from, extra_numbers, has_number, unnumbered, IsQueryNumbering}
use Rattle.si_defs.proofs.SymbolLaws.{symbol-Decides, symbol_is}
use Rattle.si_defs.proofs.ListLaws.{among_parts}
use Rattle.si_flat.proofs.Numbers.{has-among}
use Rattle.si_flat.proofs.FirstPlaces.{NoneAgain, among_filter, filter_among, among_firsts, firsts_among, firsts_apart}

-- ---- the numbers of two lists
has-append : (pairs others : Numbering) (s : Symbol) → has_number (pairs ++ others) s ≡ (has_number pairs s || has_number others s)
has-append [] others s = refl
has-append (pair ∷ pairs) others s = by (same_symbol pair.0 s) (has-append pairs others s) where
  by : (b : Bool) → has_number (pairs ++ others) s ≡ (has_number pairs s || has_number others s)
      → (b || has_number (pairs ++ others) s) ≡ ((b || has_number pairs s) || has_number others s)
  by true h = refl
  by false h = h

-- ---- numbers in a row
has-from : (m : ℕ) (ss : List Symbol) (s : Symbol) → IsAmong ss s → has_number (numbers_from m ss) s ≡ true
has-from m [] s h = absurd h
has-from m (r ∷ ss) s (inl e) = ap (λ b. b || has_number (numbers_from (2 + m) ss) s) ((symbol-Decides r s).1 e)
has-from m (r ∷ ss) s (inr h) = by (same_symbol r s) (has-from (2 + m) ss s h) where
  by : (b : Bool) → has_number (numbers_from (2 + m) ss) s ≡ true → (b || has_number (numbers_from (2 + m) ss) s) ≡ true
  by true g = refl
  by false g = g

abbrev IsFrom : ℕ → List Symbol → Symbol → ℕ → Type 0
IsFrom m ss s n = IsAmong {V = Symbol × ℕ} (numbers_from m ss) (s, n)

from_among : (m : ℕ) (ss : List Symbol) (s : Symbol) (n : ℕ) → IsFrom m ss s n → IsAmong ss s
from_among m [] s n h = h
from_among m (r ∷ ss) s n (inl e) = inl (ap (λ p. p.0) e)
from_among m (r ∷ ss) s n (inr h) = inr (from_among (2 + m) ss s n h)

from_least : (m : ℕ) (ss : List Symbol) (s : Symbol) (n : ℕ) → IsFrom m ss s n → m ≤ n
from_least m [] s n h = absurd h
from_least m (r ∷ ss) s n (inl e) = omega (arith, ap (λ p. p.1) e)
from_least m (r ∷ ss) s n (inr h) = omega (arith, from_least (2 + m) ss s n h)

from_even : (half : ℕ) (ss : List Symbol) (s : Symbol) (n : ℕ) → IsFrom (2 * half) ss s n → (k : ℕ) × (n ≡ 2 * k)
from_even half [] s n h = absurd h
from_even half (r ∷ ss) s n (inl e) = (half, sym (ap (λ p. p.1) e))
from_even half (r ∷ ss) s n (inr h) =
    let next : 2 + 2 * half ≡ 2 * (1 + half) = omega arith in
    from_even (1 + half) ss s n (subst (λ m. IsFrom m ss s n) next h)

from_symbol : (m : ℕ) (ss : List Symbol) (s r : Symbol) (n : ℕ) → IsFrom m ss s n → IsFrom m ss r n → s ≡ r
from_symbol m [] s r n h g = absurd h
from_symbol m (q ∷ ss) s r n (inl e) (inl f) = sym (ap (λ p. p.0) e) ∙ ap (λ p. p.0) f
from_symbol m (q ∷ ss) s r n (inl e) (inr g) = absurd (omega (arith, ap (λ p. p.1) e, from_least (2 + m) ss r n g))
from_symbol m (q ∷ ss) s r n (inr h) (inl f) = absurd (omega (arith, ap (λ p. p.1) f, from_least (2 + m) ss s n h))
from_symbol m (q ∷ ss) s r n (inr h) (inr g) = from_symbol (2 + m) ss s r n h g

from_number : (m : ℕ) (ss : List Symbol) → NoneAgain same_symbol symbol-Decides ss → (s : Symbol) (a b : ℕ) → IsFrom m ss s a → IsFrom m ss s b → a ≡ b
from_number m [] apart s a b h g = absurd h
from_number m (q ∷ ss) apart s a b (inl e) (inl f) = sym (ap (λ p. p.1) e) ∙ ap (λ p. p.1) f
from_number m (q ∷ ss) apart s a b (inl e) (inr g) =
    absurd (true≢false (sym ((symbol-Decides q s).1 (ap (λ p. p.0) e)) ∙ apart.0 s (from_among (2 + m) ss s b g)))
from_number m (q ∷ ss) apart s a b (inr h) (inl f) =
    absurd (true≢false (sym ((symbol-Decides q s).1 (ap (λ p. p.0) f)) ∙ apart.0 s (from_among (2 + m) ss s a h)))
from_number m (q ∷ ss) apart s a b (inr h) (inr g) = from_number (2 + m) ss apart.1 s a b h g

-- ---- those of a query
abbrev lacking : Numbering → List Symbol → List Symbol
lacking pairs ss = firsts same_symbol (unnumbered pairs ss)

lacks : (pairs : Numbering) (ss : List Symbol) (s : Symbol) → IsAmong (lacking pairs ss) s → has_number pairs s ≡ false
lacks pairs ss s h =
    not-true (has_number pairs s) (among_filter (λ r. not (has_number pairs r)) ss s (firsts_among same_symbol (unnumbered pairs ss) s h)).1

none_left : {V : Type 0} (p : V → Bool) (xs : List V) → ((x : V) → IsAmong xs x → p x ≡ false) → filter p xs ≡ []
none_left p [] h = refl
none_left p (x ∷ xs) h = rw (h x (inl refl)) (none_left p xs (λ y m. h y (inr m)))

-- all symbols have numbers
pub all_have_from : (first : ℕ) (pairs : Numbering) (ss : List Symbol) → unnumbered (pairs ++ numbers_from first (lacking pairs ss)) ss ≡ []
all_have_from first pairs ss = none_left (λ s. not (has_number (pairs ++ numbers_from first (lacking pairs ss)) s)) ss (λ s m. ap not (has-append pairs (numbers_from first (lacking pairs ss)) s ∙ by s m (has_number pairs s) refl)) where
  by : (s : Symbol) → IsAmong ss s → (b : Bool) → has_number pairs s ≡ b → (b || has_number (numbers_from first (lacking pairs ss)) s) ≡ true
  by s m true e = refl
  by s m false e =
      has-from first (lacking pairs ss) s (among_firsts same_symbol symbol_is (unnumbered pairs ss) s (filter_among (λ r. not (has_number pairs r)) ss s m (ap not e)))

pub all_have : (pairs : Numbering) (ss : List Symbol) → unnumbered (pairs ++ extra_numbers (lacking pairs ss)) ss ≡ []
all_have pairs ss = all_have_from (2 ^ 31) pairs ss

-- numbers from 0, where there are no others
from_below : (m : ℕ) (ss : List Symbol) (s : Symbol) (n : ℕ) → IsFrom m ss s n → n < m + 2 * length ss
from_below m [] s n h = absurd h
from_below m (r ∷ ss) s n (inl e) = omega (arith, ap (λ p. p.1) e)
from_below m (r ∷ ss) s n (inr h) = omega (arith, from_below (2 + m) ss s n h)

pub numbers_from_zero : (ss : List Symbol) → NoneAgain same_symbol symbol-Decides ss → length ss ≤ 2 ^ 30 → IsNumbering (numbers_from 0 ss)
numbers_from_zero ss apart few = record {
  one_number = λ s m n a b. from_number 0 ss apart s m n a b;
  one_symbol = λ s r n a b. from_symbol 0 ss s r n a b;
  even = λ s n a. from_even 0 ss s n a;
  small = λ s n a. omega (arith, from_below 0 ss s n a, few);
}

-- and no two have the same
module _ (pairs : Numbering) (ss : List Symbol) (numbering : IsNumbering pairs) where
  abbrev IsExtra : Symbol → ℕ → Type 0
  IsExtra s n = IsFrom (2 ^ 31) (lacking pairs ss) s n

  -- a symbol of the table is none of them
  table_or_extra : {P : Type 0} (s : Symbol) (m n : ℕ) → IsAmong pairs (s, m) → IsExtra s n → P
  table_or_extra s m n a b = absurd (true≢false (sym (has-among pairs s m a) ∙ lacks pairs ss s (from_among (2 ^ 31) (lacking pairs ss) s n b)))

  -- and no number of the table is theirs
  below_extra : {P : Type 0} (s r : Symbol) (n : ℕ) → IsAmong pairs (s, n) → IsExtra r n → P
  below_extra s r n a b = absurd (omega (arith, numbering.small s n a, from_least (2 ^ 31) (lacking pairs ss) r n b))

  one_number_of : (s : Symbol) (m n : ℕ) → IsAmong pairs (s, m) ⊎ IsExtra s m → IsAmong pairs (s, n) ⊎ IsExtra s n → m ≡ n
  one_number_of s m n (inl a) (inl b) = numbering.one_number s m n a b
  one_number_of s m n (inl a) (inr b) = table_or_extra s m n a b
  one_number_of s m n (inr a) (inl b) = table_or_extra s n m b a
  one_number_of s m n (inr a) (inr b) = from_number (2 ^ 31) (lacking pairs ss) (firsts_apart same_symbol symbol-Decides (unnumbered pairs ss)) s m n a b

  one_symbol_of : (s r : Symbol) (n : ℕ) → IsAmong pairs (s, n) ⊎ IsExtra s n → IsAmong pairs (r, n) ⊎ IsExtra r n → s ≡ r
  one_symbol_of s r n (inl a) (inl b) = numbering.one_symbol s r n a b
  one_symbol_of s r n (inl a) (inr b) = below_extra s r n a b
  one_symbol_of s r n (inr a) (inl b) = below_extra r s n b a
  one_symbol_of s r n (inr a) (inr b) = from_symbol (2 ^ 31) (lacking pairs ss) s r n a b

  even_of : (s : Symbol) (n : ℕ) → IsAmong pairs (s, n) ⊎ IsExtra s n → (half : ℕ) × (n ≡ 2 * half)
  even_of s n (inl a) = numbering.even s n a
  even_of s n (inr b) = from_even (2 ^ 30) (lacking pairs ss) s n b

  pub extra_numbering : IsQueryNumbering (pairs ++ extra_numbers (lacking pairs ss))
  extra_numbering = record {
    one_number = λ s m n a b. one_number_of s m n (among_parts pairs (extra_numbers (lacking pairs ss)) (s, m) a) (among_parts pairs (extra_numbers (lacking pairs ss)) (s, n) b);
    one_symbol = λ s r n a b. one_symbol_of s r n (among_parts pairs (extra_numbers (lacking pairs ss)) (s, n) a) (among_parts pairs (extra_numbers (lacking pairs ss)) (r, n) b);
    even = λ s n a. even_of s n (among_parts pairs (extra_numbers (lacking pairs ss)) (s, n) a);
  }
