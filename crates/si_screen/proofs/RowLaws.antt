-- Laws of rows of clauses.
use Rattle.std.proofs.Common.{◌≡◌, ◌⊎◌, inl, inr, ℕ, zero, suc, ◌+◌, ◌/◌, ◌%◌, ◌^◌, Bool, cond, List, [], ◌∷◌, ◌++◌, map, get_or, refl, sym, ap, ◌∙◌, subst, append_assoc, append-nil}
use Rattle.std.specs.Int.Bits.{and_zero_l}
use Rattle.std.specs.Prelude.{IsBitSet}
use Rattle.std.proofs.lemmas.List.{map-append}
use Rattle.si_defs.specs.Terms.{Term, Terms, var, app, none, more, head, symbols, symbols_of_all, occurrences, occurrences_from, below}
use Rattle.si_defs.specs.Symbols.{Symbol, Numbering}
use Rattle.si_defs.specs.Clauses as clauses
use Rattle.si_defs.specs.Clauses.{Literal}
use Rattle.si_defs.specs.Entries.{Placed, entries_from, literal_entries, placed_term, literals_symbols}
use Rattle.si_defs.specs.Substitutions.{IsAmong}
use Rattle.si_defs.proofs.ListLaws.{among_front, among_back, among_parts}
use Rattle.si_flat.specs.Numbered.{number_in}
use Rattle.si_flat.specs.Flattened.{extra_numbers}
use Rattle.si_flat.proofs.Numbers.{has-among, number-append}
use Rattle.si_lanes.specs.Rows.{HasBit}
use Rattle.si_screen.specs.ClauseRows.{above, number_if_any, head_number, head_numbers, bit_of, HasNumbers, IsRowOf, with_extra}
use Rattle.si_screen.specs.Walks.{AddsNumbers, atom_numbers, literal_numbers, literals_numbers}

-- ---- what is added to a row
pub adds_none : (bits : List ℕ) → AddsNumbers [] bits bits
adds_none bits b within = (inl, by) where
  by : HasBit bits b ⊎ ⊥ → HasBit bits b
  by (inl h) = h
  by (inr h) = absurd h

pub adds_then : (ms ns : List ℕ) (a b c : List ℕ) → AddsNumbers ms a b → AddsNumbers ns b c → AddsNumbers (ms ++ ns) a c
adds_then ms ns a b c first second bit within = (to, back) where
  among_all : IsAmong (map bit_of (ms ++ ns)) bit ≡ IsAmong (map bit_of ms ++ map bit_of ns) bit
  among_all = ap (λ l. IsAmong l bit) (map-append bit_of ms ns)

  to : HasBit c bit → HasBit a bit ⊎ IsAmong (map bit_of (ms ++ ns)) bit
  to h = by ((second bit within).0 h) where
    old : HasBit a bit ⊎ IsAmong (map bit_of ms) bit → HasBit a bit ⊎ IsAmong (map bit_of (ms ++ ns)) bit
    old (inl g) = inl g
    old (inr g) = inr (subst (λ l. IsAmong l bit) (sym (map-append bit_of ms ns)) (among_front (map bit_of ms) (map bit_of ns) bit g))

    by : HasBit b bit ⊎ IsAmong (map bit_of ns) bit → HasBit a bit ⊎ IsAmong (map bit_of (ms ++ ns)) bit
    by (inl g) = old ((first bit within).0 g)
    by (inr g) = inr (subst (λ l. IsAmong l bit) (sym (map-append bit_of ms ns)) (among_back (map bit_of ms) (map bit_of ns) bit g))

  back : HasBit a bit ⊎ IsAmong (map bit_of (ms ++ ns)) bit → HasBit c bit
  back (inl g) = (second bit within).1 (inl ((first bit within).1 (inl g)))
  back (inr g) = by (among_parts (map bit_of ms) (map bit_of ns) bit (subst (λ l. IsAmong l bit) (map-append bit_of ms ns) g)) where
    by : IsAmong (map bit_of ms) bit ⊎ IsAmong (map bit_of ns) bit → HasBit c bit
    by (inl h) = (second bit within).1 (inl ((first bit within).1 (inr h)))
    by (inr h) = (second bit within).1 (inr h)

abbrev pub no_bits : List ℕ
no_bits = 0 ∷ 0 ∷ 0 ∷ 0 ∷ []

zeros : (j : ℕ) → let word : ℕ = get_or no_bits j 0 in word ≡ 0
zeros zero = refl
zeros (suc zero) = refl
zeros (suc (suc zero)) = refl
zeros (suc (suc (suc zero))) = refl
zeros (suc (suc (suc (suc j)))) = refl

-- what was added to the empty row is all that it has
pub added_all : (ns : List ℕ) (new : List ℕ) → AddsNumbers ns no_bits new → HasNumbers ns new
added_all ns new adds b within = (λ h. by ((adds b within).0 h), λ h. (adds b within).1 (inr h)) where
  by : HasBit no_bits b ⊎ IsAmong (map bit_of ns) b → IsAmong (map bit_of ns) b
  by (inl h) = absurd (subst (λ w. IsBitSet w (b % 64)) (zeros (b / 64)) h (and_zero_l (2 ^ (b % 64))))
  by (inr h) = h

module _ (number : Symbol → ℕ) where
  -- a term, and then the others
  pub adds_more : {V : Type 0} (t : Term Symbol V) (ts : Terms Symbol V) (a b c : List ℕ) → AddsNumbers (map number (symbols t)) a b → AddsNumbers (map number (symbols_of_all ts)) b c
      → AddsNumbers (map number (symbols_of_all (more t ts))) a c
  adds_more t ts a b c first second =
      subst (λ ns. AddsNumbers ns a c) (sym (map-append number (symbols t) (symbols_of_all ts))) (adds_then (map number (symbols t)) (map number (symbols_of_all ts)) a b c first second)

  -- a head by its number, and then the arguments
  pub adds_app : {V : Type 0} (n m : ℕ) (ts : Terms Symbol V) (a b c : List ℕ) → n ≡ m → AddsNumbers (n ∷ []) a b → AddsNumbers (map number (symbols_of_all ts)) b c
      → AddsNumbers (m ∷ map number (symbols_of_all ts)) a c
  adds_app n m ts a b c same first second =
      subst (λ k. AddsNumbers (k ∷ map number (symbols_of_all ts)) a c) same (adds_then (n ∷ []) (map number (symbols_of_all ts)) a b c first second)

  -- a literal, and then the others
  pub adds_literal : (l : Literal) (ls : List Literal) (a b c : List ℕ) → AddsNumbers (literal_numbers number l) a b → AddsNumbers (literals_numbers number ls) b c
      → AddsNumbers (literals_numbers number (l ∷ ls)) a c
  adds_literal l ls a b c first second = adds_then (literal_numbers number l) (literals_numbers number ls) a b c first second

-- ---- the heads of entries, in the order of a walk
module _ (number : Symbol → ℕ) where
  abbrev heads : {V : Type 0} → List (List ℕ × Term Symbol V) → List ℕ
  heads [] = []
  heads (o ∷ os) = number_if_any number (head o.1) ++ heads os

  heads_append : {V : Type 0} (os ps : List (List ℕ × Term Symbol V)) → heads (os ++ ps) ≡ heads os ++ heads ps
  heads_append [] ps = refl
  heads_append (o ∷ os) ps = ap (λ l. number_if_any number (head o.1) ++ l) (heads_append os ps) ∙ sym (append_assoc (number_if_any number (head o.1)) (heads os) (heads ps))

  heads_below : {V : Type 0} (k : ℕ) (os : List (List ℕ × Term Symbol V)) → heads (map (below k) os) ≡ heads os
  heads_below k [] = refl
  heads_below k (o ∷ os) = ap (λ l. number_if_any number (head o.1) ++ l) (heads_below k os)

  mutual
    first_heads : {V : Type 0} (t : Term Symbol V) → heads (occurrences t) ≡ map number (symbols t)
    first_heads (var x) = refl
    first_heads (app s ts) = ap (λ l. number s ∷ l) (heads_from 1 ts)

    heads_from : {V : Type 0} (k : ℕ) (ts : Terms Symbol V) → heads (occurrences_from k ts) ≡ map number (symbols_of_all ts)
    heads_from k none = refl
    heads_from k (more t ts) =
        heads_append (map (below k) (occurrences t)) (occurrences_from (1 + k) ts)
        ∙ (λ i. (heads_below k (occurrences t) ∙ first_heads t) i ++ heads_from (1 + k) ts i)
        ∙ sym (map-append number (symbols t) (symbols_of_all ts))

  placed_heads : (k : ℕ) (os : List (List ℕ × clauses.Term)) → head_numbers number (map (placed_term k) os) ≡ heads os
  placed_heads k [] = refl
  placed_heads k (o ∷ os) = ap (λ l. number_if_any number (head o.1) ++ l) (placed_heads k os)

  heads_parts : (xs ys : List Placed) → head_numbers number (xs ++ ys) ≡ head_numbers number xs ++ head_numbers number ys
  heads_parts [] ys = refl
  heads_parts (x ∷ xs) ys = ap (λ l. head_number number x.entry ++ l) (heads_parts xs ys) ∙ sym (append_assoc (head_number number x.entry) (head_numbers number xs) (head_numbers number ys))

  of_literal : (k : ℕ) (positive : Bool) (t : clauses.Term)
      → head_numbers number (literal_entries k (record { positive = positive; atom = t })) ≡ atom_numbers number positive t
  of_literal k positive (var x) = refl
  of_literal k positive (app s ts) = ap (λ l. above positive (number s) ∷ l) (placed_heads k (occurrences_from 1 ts) ∙ heads_from 1 ts)

  pub of_literals : (k : ℕ) (ls : List Literal) → head_numbers number (entries_from k ls) ≡ literals_numbers number ls
  of_literals k [] = refl
  of_literals k (l ∷ ls) =
      heads_parts (literal_entries k l) (entries_from (1 + k) ls)
      ∙ (λ i. of_literal k l.positive l.atom i ++ of_literals (1 + k) ls i)

  -- a walk over the literals makes the row
  pub row_made : (ls : List Literal) (new : List ℕ) → AddsNumbers (literals_numbers number ls) no_bits new → IsRowOf number ls new
  row_made ls new adds = subst (λ ns. HasNumbers ns new) (sym (of_literals 1 ls)) (added_all (literals_numbers number ls) new adds)

-- ---- the same numbers
module _ (number other : Symbol → ℕ) where
  abbrev AreSame : List Symbol → Type 0
  AreSame ss = (s : Symbol) → IsAmong ss s → number s ≡ other s

  map_same : (ss : List Symbol) → AreSame ss → map number ss ≡ map other ss
  map_same [] same = refl
  map_same (s ∷ ss) same = λ i. same s (inl refl) i ∷ map_same ss (λ r a. same r (inr a)) i

  atom_same : (positive : Bool) (t : clauses.Term) → AreSame (symbols t) → atom_numbers number positive t ≡ atom_numbers other positive t
  atom_same positive (var x) same = refl
  atom_same positive (app s ts) same = λ i. above positive (same s (inl refl) i) ∷ map_same (symbols_of_all ts) (λ r a. same r (inr a)) i

  literals_same : (ls : List Literal) → AreSame (literals_symbols ls) → literals_numbers number ls ≡ literals_numbers other ls
  literals_same [] same = refl
  literals_same (l ∷ ls) same = λ i.
      atom_same l.positive l.atom (λ s a. same s (among_front (symbols l.atom) (literals_symbols ls) s a)) i
      ++ literals_same ls (λ s a. same s (among_back (symbols l.atom) (literals_symbols ls) s a)) i

  -- a row stays that of its clause while its symbols keep their numbers
  pub row_stays : (ls : List Literal) (bits : List ℕ) → ((s : Symbol) → IsAmong (literals_symbols ls) s → number s ≡ other s) → IsRowOf number ls bits → IsRowOf other ls bits
  row_stays ls bits same h =
      subst (λ ns. HasNumbers ns bits) (of_literals number 1 ls ∙ literals_same ls same ∙ sym (of_literals other 1 ls)) h

-- no other symbols
pub no_extra : (pairs : Numbering) (extra : List Symbol) (ls : List Literal) (bits : List ℕ) → extra ≡ [] → IsRowOf (number_in (with_extra pairs extra)) ls bits → IsRowOf (number_in pairs) ls bits
no_extra pairs extra ls bits empty h = subst (λ numbers. IsRowOf (number_in numbers) ls bits) (ap (with_extra pairs) empty ∙ append-nil pairs) h

-- the row of a clause whose symbols the table has is the same beside others
pub row_with : (pairs : Numbering) (extra : List Symbol) (ls : List Literal) (bits : List ℕ) → ((s : Symbol) → IsAmong (literals_symbols ls) s → (n : ℕ) × IsAmong pairs (s, n))
    → IsRowOf (number_in pairs) ls bits → IsRowOf (number_in (with_extra pairs extra)) ls bits
row_with pairs extra ls bits have h = row_stays (number_in pairs) (number_in (with_extra pairs extra)) ls bits same h where
  others : Numbering
  others = extra_numbers extra

  same : (s : Symbol) → IsAmong (literals_symbols ls) s → number_in pairs s ≡ number_in (with_extra pairs extra) s
  same s a =
      let there = have s a in
      sym (number-append pairs others s ∙ ap (λ b. cond b (number_in pairs s) (number_in others s)) (has-among pairs s there.0 there.1))
