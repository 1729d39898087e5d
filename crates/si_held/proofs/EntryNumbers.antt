-- An entry is one term by all numbers that agree on its symbols.
use Rattle.std.proofs.Common.{◌≡◌, ℕ, Bool, true, false, not, List, [], refl, ap, subst}
use Rattle.std.specs.Prelude.{bytes_eq}
use Rattle.std.specs.List.{AllByRecursion}
use Rattle.si_defs.specs.Bytes.{Bytes}
use Rattle.si_defs.specs.Terms as terms
use Rattle.si_defs.specs.Symbols.{Symbol, Numbering}
use Rattle.si_defs.specs.Substitutions.{IsAmong}
use Rattle.si_defs.specs.Clauses.{Term, Terms}
use Rattle.si_defs.specs.Entries.{Entry, distinct_variables, whole_of}
use Rattle.si_defs.proofs.ListLaws.{all_weaker, all_front, all_back, all_from}
use Rattle.si_flat.specs.Cells.{Variable, entry}
use Rattle.si_flat.specs.Numbered.{number_in, one_above, signed, place_in, numbered, all_numbered}
use Rattle.si_flat.specs.Flattened.{has_number, unnumbered, is_positive, numbered_entry}
use Rattle.si_flat.proofs.Numbers.{among-number}
use Rattle.si_flat.proofs.FirstPlaces.{filter_among}

-- ---- terms
module _ (m n : Symbol → ℕ) (variable : Bytes → Variable) where
  abbrev IsSame : Symbol → Type 0
  IsSame s = m s ≡ n s

  mutual
    numbered_same : (t : Term) → AllByRecursion IsSame (terms.symbols t) → numbered m variable t ≡ numbered n variable t
    numbered_same (terms.var x) h = refl
    numbered_same (terms.app s ts) h = λ i. terms.app (record { number = h.0 i; arity = s.arity }) (all_numbered_same ts h.1 i)

    all_numbered_same : (ts : Terms) → AllByRecursion IsSame (terms.symbols_of_all ts) → all_numbered m variable ts ≡ all_numbered n variable ts
    all_numbered_same terms.none h = refl
    all_numbered_same (terms.more t ts) h =
        let first = numbered_same t (all_front IsSame (terms.symbols t) (terms.symbols_of_all ts) h) in
        let rest = all_numbered_same ts (all_back IsSame (terms.symbols t) (terms.symbols_of_all ts) h) in
        λ i. terms.more (first i) (rest i)

-- ---- entries
signed_same : (positive : Bool) (m n : Symbol → ℕ) (s : Symbol) → m s ≡ n s → signed positive m s ≡ signed positive n s
signed_same true m n s e = e
signed_same false m n s e = ap (one_above s.side) e

-- the symbol has the same number in both
abbrev pub HasSame : Numbering → Numbering → Symbol → Type 0
HasSame one other s = number_in one s ≡ number_in other s

pub entry_same : (one other : Numbering) (e : Entry) → AllByRecursion (HasSame one other) (terms.symbols (whole_of e)) → numbered_entry one entry e ≡ numbered_entry other entry e
entry_same one other e h =
    let m = signed (is_positive e) (number_in one) in
    let n = signed (is_positive e) (number_in other) in
    numbered_same m n (λ x. entry (place_in bytes_eq (distinct_variables e) x)) (whole_of e)
    (all_weaker (HasSame one other) (λ s. m s ≡ n s) (terms.symbols (whole_of e)) (λ s. signed_same (is_positive e) (number_in one) (number_in other) s) h)

-- ---- symbols that have numbers
abbrev pub HasNumber : Numbering → Symbol → Type 0
HasNumber numbers s = has_number numbers s ≡ true

-- a symbol with a number in both has the same in both
abbrev pub Agree : Numbering → Numbering → Type 0
Agree one other = (s : Symbol) (m n : ℕ) → IsAmong one (s, m) → IsAmong other (s, n) → m ≡ n

pub has_same : (one other : Numbering) → Agree one other → (s : Symbol) → HasNumber one s → HasNumber other s → HasSame one other s
has_same one other agree s h g = agree s (number_in one s) (number_in other s) (among-number one s h) (among-number other s g)

-- where none lacks a number, each has one
pub all_numbers : (numbers : Numbering) (ss : List Symbol) → unnumbered numbers ss ≡ [] → AllByRecursion (HasNumber numbers) ss
all_numbers numbers ss none = all_from (HasNumber numbers) ss (λ s a. by s a (has_number numbers s) refl) where
  by : (s : Symbol) → IsAmong ss s → (b : Bool) → has_number numbers s ≡ b → b ≡ true
  by s a true e = refl
  by s a false e = absurd (subst (λ l. IsAmong l s) none (filter_among (λ r. not (has_number numbers r)) ss s a (ap not e)))
