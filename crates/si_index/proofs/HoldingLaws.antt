-- A clause that has a map from literals holds an instance of the first, whose posting marks its
-- slot.
use Rattle.std.proofs.Common.{◌≡◌, ◌⊎◌, inl, inr, ℕ, zero, suc, ◌+◌, ◌<◌, Bool, true, false, true≢false, List, [], ◌∷◌, length, map, take, get_or, refl, sym, ◌∙◌, ap, subst, subst₂, arith}
use Rattle.std.specs.Prelude.{Some, slice_get, slice_set}
use Rattle.std.specs.List.{AllByRecursion}
use Rattle.std.proofs.Math.Dec.{eqb}
use Rattle.std.proofs.lemmas.Bool.{eq-eqb, eqb-true}
use Rattle.std.proofs.lemmas.List.{take_more}
use Rattle.std.proofs.lemmas.Option.{same_Some, none-some}
use Rattle.si_defs.specs.Terms as terms
use Rattle.si_defs.specs.Symbols.{Symbol}
use Rattle.si_defs.specs.Clauses.{Literal, literal_pattern, IsSoundPattern, AreSoundLiterals}
use Rattle.si_defs.specs.Entries.{Entry, literal_entry, Placed, entries, entries_from, literal_entries}
use Rattle.si_defs.specs.Substitutions.{IsAmong, AreDistinct, apply, image, lefts}
use Rattle.si_defs.specs.Relations.{IsInstance}
use Rattle.si_defs.specs.Variables.{Variable, Apart, Solution, same_variable, pattern_term, entry_term}
use Rattle.si_defs.specs.declared.Relation.TheVariants.{Instances}
use Rattle.si_defs.proofs.ListLaws.{all_from, among_front, among_back, among_either, get_among, set_same, set_other}
use Rattle.si_defs.proofs.VariableLaws.{variable_is, variable_self}
use Rattle.si_state.specs.Answers.{Stands}
use Rattle.si_state.specs.Subsumption.{IsMap}
use Rattle.si_term.specs.Meaning.{literal_of, clause_of}
use Rattle.si_term.specs.declared.clause.Clause as term
use Rattle.si_term.specs.declared.clause.Literal as program
use Rattle.si_form.proofs.Carrying.{tabulate, image_tabulated}
use Rattle.si_form.proofs.Moving.{among_map}
use Rattle.si_keyed.specs.Keyed.{item_keys}
use Rattle.si_keyed.specs.Placed.{placed_items, HasPlace}
use Rattle.si_keyed.proofs.KeyLaws.{key_among}
use Rattle.si_legal.specs.declared.Posting.{Posting}
use Rattle.si_legal.specs.KeptTrees.{IsPostingOf}
use Rattle.si_index.specs.Holding.{IsRuledOut, Spares, SparesHolders, MarksAll}
use Rattle.si_index.specs.Kept.{Kept, paired, kept_clauses}
use Rattle.si_index.specs.Slots.{Slots, HasSlots}
use Rattle.si_index.specs.Subsuming.{HasMap, TriesSlot}
use Rattle.si_index.specs.declared.holding.Holders.{Holders}
use Rattle.si_index.specs.declared.subsuming.Mapped.{Mapped}
use Rattle.si_index.proofs.HeldClauses.{paired_keyed}
use Rattle.si_index.proofs.SlotLaws.{place_among, placed_among}

-- ---- a map cut down to the variables of one literal
mutual
  agreeing : (f g : Variable → Apart) (t : Apart) → ((x : Variable) → IsAmong (terms.variables t) x → f x ≡ g x) → terms.substitute f t ≡ terms.substitute g t
  agreeing f g (terms.var x) same = same x (inl refl)
  agreeing f g (terms.app s ts) same = ap (terms.app s) (all_agreeing f g ts same)

  all_agreeing : (f g : Variable → Apart) (ts : terms.Terms Symbol Variable) → ((x : Variable) → IsAmong (terms.variables_of_all ts) x → f x ≡ g x) → terms.substitute_all f ts ≡ terms.substitute_all g ts
  all_agreeing f g terms.none same = refl
  all_agreeing f g (terms.more t ts) same =
      let first = agreeing f g t (λ x a. same x (among_front (terms.variables t) (terms.variables_of_all ts) x a)) in
      let rest = all_agreeing f g ts (λ x a. same x (among_back (terms.variables t) (terms.variables_of_all ts) x a)) in
      λ i. terms.more (first i) (rest i)

abbrev cut : (Variable → Apart) → List Variable → Solution
cut h xs = tabulate same_variable variable_is variable_self h xs

cut_lefts : (h : Variable → Apart) (xs : List Variable) → lefts (cut h xs) ≡ xs
cut_lefts h [] = refl
cut_lefts h (x ∷ xs) = ap (λ l. x ∷ l) (cut_lefts h xs)

instance_by : (s : Solution) (q e : Apart) → apply same_variable s q ≡ e → IsInstance same_variable q e
instance_by s q e takes =
    let xs = terms.variables q in
    let h = image same_variable s in (
      cut h xs,
      record {
        on = subst (AllByRecursion (IsAmong xs)) (sym (cut_lefts h xs)) (all_from (IsAmong xs) xs (λ x a. a));
        takes = agreeing (image same_variable (cut h xs)) h q (λ x a. image_tabulated same_variable variable_is variable_self h xs x a) ∙ takes;
      },
    )

-- ---- the literal that the first is taken to
abbrev HoldsIn : Literal → List Literal → Type 0
HoldsIn l d = (n : ℕ) × (k : Literal) × (slice_get d n ≡ Some k) × Stands Instances (literal_pattern l) (literal_entry k)

image_holds : (l : Literal) (ls d : List Literal) (ns : List ℕ) → IsMap (l ∷ ls) d ns → HoldsIn l d
image_holds l ls d [] (s, is) = absurd is.taken
image_holds l ls d (zero ∷ ns) (s, is) = absurd (none-some is.taken.0.0 is.taken.0.1)
image_holds l ls d (suc n ∷ ns) (s, is) =
    let k = is.taken.0.0 in
    (n, k, is.taken.0.1, (is.taken.0.2.sign, instance_by s (pattern_term l.atom) (entry_term k.atom) is.taken.0.2.atom))

pub first_sound : (formula : List program.Literal) (l : program.Literal) → slice_get formula 0 ≡ Some l → AreSoundLiterals (map literal_of formula) → IsSoundPattern (literal_pattern (literal_of l))
first_sound [] l got sound = absurd (none-some l got)
first_sound (x ∷ xs) l got sound =
    subst (λ (k : program.Literal). IsSoundPattern (literal_pattern (literal_of k))) (same_Some x l got) (sound.each.0, omega (arith, sound.no_larger))

-- no clause that has a map from these literals stands in a slot that is ruled out
pub spares_mapped : (formula : List program.Literal) (l : program.Literal) (slots : Slots) (holders : Holders) → slice_get formula 0 ≡ Some l
    → SparesHolders slots (literal_of l) holders → Spares (HasMap (IsMap (map literal_of formula))) slots holders
spares_mapped [] l slots holders got spares slot key c out there has = none-some l got
spares_mapped (x ∷ xs) l slots holders got spares slot key c out there (ns, is) =
    spares slot key c out there
    (subst (λ (k : program.Literal). HoldsIn (literal_of k) (clause_of c).literals) (same_Some x l got) (image_holds (literal_of x) (map literal_of xs) (clause_of c).literals ns is))

-- ---- its posting
literal_there : (number : ℕ) (ls : List Literal) (n : ℕ) (l : Literal) → slice_get ls n ≡ Some l → (p : Placed) × IsAmong (entries_from number ls) p × (p.entry ≡ literal_entry l)
literal_there number [] n l got = absurd (none-some l got)
literal_there number (k ∷ ls) zero l got = (record { entry = literal_entry k; place = record { literal = number; path = [] } }, inl refl, ap literal_entry (same_Some k l got))
literal_there number (k ∷ ls) (suc n) l got =
    let h = literal_there (1 + number) ls n l got in
    (h.0, among_back (literal_entries number k) (entries_from (1 + number) ls) h.0 h.1, h.2)

kept_there : (k : Kept) (slots : Slots) (slot key : ℕ) (c : term.Clause) → HasSlots k slots → IsAmong slots (slot, (key, c)) → IsAmong (kept_clauses k) (key, clause_of c)
kept_there k slots slot key c h there =
    let items = placed_items slots in
    let mapped = among_map (λ (p : ℕ × term.Clause). (p.0, clause_of p.1)) items (key, c) (placed_among slots slot key c there) in
    subst₂ (λ keys cs. IsAmong (paired keys cs) (key, clause_of c)) h.keys h.clauses (subst (λ l. IsAmong l (key, clause_of c)) (paired_keyed items) mapped)

posting_there : (k : Kept) (slots : Slots) (slot key : ℕ) (c : term.Clause) (n : ℕ) (l : Literal) → HasSlots k slots → IsAmong slots (slot, (key, c)) → slice_get (clause_of c).literals n ≡ Some l
    → (m : ℕ) × IsPostingOf (kept_clauses k) (record { clause = key; entry = m }) (literal_entry l)
posting_there k slots slot key c n l h there got =
    let placed = literal_there 1 (clause_of c).literals n l got in
    let at = place_among (entries (clause_of c)) placed.0 placed.1 in
    (at.0, record { clause = clause_of c; placed = placed.0; is_kept = kept_there k slots slot key c h there; numbered = at.1; entry_is = placed.2 })

-- ---- marks
one_slot : (slots : Slots) (a b key : ℕ) (c d : term.Clause) → AreDistinct (item_keys (placed_items slots)) → IsAmong slots (a, (key, c)) → IsAmong slots (b, (key, d)) → a ≡ b
one_slot [] a b key c d distinct x y = absurd x
one_slot (s ∷ slots) a b key c d distinct (inl e) (inl f) = ap (λ (p : ℕ × (ℕ × term.Clause)). p.0) (sym e ∙ f)
one_slot (s ∷ slots) a b key c d distinct (inl e) (inr y) =
    absurd (distinct.0 (subst (IsAmong (item_keys (placed_items slots))) (ap (λ (p : ℕ × (ℕ × term.Clause)). p.1.0) (sym e)) (key_among (placed_items slots) (key, d) (placed_among slots b key d y))))
one_slot (s ∷ slots) a b key c d distinct (inr x) (inl f) =
    absurd (distinct.0 (subst (IsAmong (item_keys (placed_items slots))) (ap (λ (p : ℕ × (ℕ × term.Clause)). p.1.0) (sym f)) (key_among (placed_items slots) (key, c) (placed_among slots a key c x))))
one_slot (s ∷ slots) a b key c d distinct (inr x) (inr y) = one_slot slots a b key c d distinct.1 x y

unmarked : (marks : List Bool) (s slot : ℕ) → s < length marks → slice_get (slice_set marks s true) slot ≡ Some false → (slot ≡ s → ⊥) × (slice_get marks slot ≡ Some false)
unmarked marks s slot less e = (apart, sym (set_other marks s slot true apart) ∙ e) where
  apart : slot ≡ s → ⊥
  apart f = true≢false (same_Some true false (sym (set_same marks s true less) ∙ ap (slice_get (slice_set marks s true)) (sym f) ∙ e))

pub marks_none : (slots : Slots) (marks : List Bool) → MarksAll slots [] marks
marks_none slots marks slot e p a at = a

pub marks_more : (slots : Slots) (postings : List Posting) (i s : ℕ) (d : Posting) (c : term.Clause) (marks new : List Bool) → AreDistinct (item_keys (placed_items slots)) → i < length postings
    → IsAmong slots (s, ((get_or postings i d).clause, c)) → s < length marks → new ≡ slice_set marks s true → MarksAll slots (take i postings) marks → MarksAll slots (take (i + 1) postings) new
marks_more slots postings i s d c marks new distinct less there room is all slot e p a at =
    let q = get_or postings i d in
    let h = unmarked marks s slot room (ap (λ l. slice_get l slot) (sym is) ∙ e) in
    elim (among_either (take i postings) q p (subst (λ l. IsAmong l p) (take_more postings i d less) a)) [
      | inl before ↦ all slot h.1 p before at
      | inr same ↦
          let key : p.clause ≡ q.clause = ap (λ (r : Posting). r.clause) (sym same) in
          h.0 (one_slot slots slot s q.clause at.0 c distinct (subst (λ k. IsAmong slots (slot, (k, at.0))) key at.1) there)
    ]

pub marks_spare : (k : Kept) (slots : Slots) (l : Literal) (postings : List Posting) (holders : Holders) → HasSlots k slots
    → ((p : Posting) (e : Entry) → IsPostingOf (kept_clauses k) p e → Stands Instances (literal_pattern l) e → IsAmong postings p) → MarksAll slots postings holders.marks.items → SparesHolders slots l holders
marks_spare k slots l postings holders h all marks slot key c out there (n, j, got, stands) =
    let own = posting_there k slots slot key c n j h there got in
    marks slot out (record { clause = key; entry = own.0 }) (all (record { clause = key; entry = own.0 }) (literal_entry j) own.1 stands) (c, there)

-- ---- a slot that is passed over
place_or_not : (slots : Slots) (slot : ℕ) → ((n key : ℕ) × (c : term.Clause) × (slice_get slots n ≡ Some (slot, (key, c)))) ⊎ (HasPlace slots slot → ⊥)
place_or_not [] slot = inr (λ h. h.1)
place_or_not (x ∷ slots) slot = by (eqb x.0 slot) refl (place_or_not slots slot) where
  by : (b : Bool) → eqb x.0 slot ≡ b → ((n key : ℕ) × (c : term.Clause) × (slice_get slots n ≡ Some (slot, (key, c)))) ⊎ (HasPlace slots slot → ⊥)
      → ((n key : ℕ) × (c : term.Clause) × (slice_get (x ∷ slots) n ≡ Some (slot, (key, c)))) ⊎ (HasPlace (x ∷ slots) slot → ⊥)
  by true e later = inl (0, x.1.0, x.1.1, λ i. Some (eqb-true x.0 slot e i, x.1))
  by false e (inl h) = inl (suc h.0, h.1, h.2, h.3)
  by false e (inr none) = inr apart where
    apart : HasPlace (x ∷ slots) slot → ⊥
    apart (y, inl same) = true≢false (sym (eq-eqb x.0 slot (ap (λ (p : ℕ × (ℕ × term.Clause)). p.0) same)) ∙ e)
    apart (y, inr a) = none (y, a)

-- where its clause has no map, it is as if it had been tried
pub passed_over : (P : List Literal → List ℕ → Type 0) (slots : Slots) (holders : Holders) (slot : ℕ) (ms : List Mapped) → Spares (HasMap P) slots holders → IsRuledOut holders slot → TriesSlot P slots slot ms ms
passed_over P slots holders slot ms spares out = by (place_or_not slots slot) where
  by : ((n key : ℕ) × (c : term.Clause) × (slice_get slots n ≡ Some (slot, (key, c)))) ⊎ (HasPlace slots slot → ⊥) → TriesSlot P slots slot ms ms
  by (inl h) = inl (h.0, h.1, h.2, h.3, inr ((λ ns is. spares slot h.1 h.2 out (get_among slots h.0 (slot, (h.1, h.2)) h.3) (ns, is)), refl))
  by (inr none) = inr (none, refl)
