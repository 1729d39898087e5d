-- Postings of entries: that each entry has its own, and that the wanted ones are an engine's
-- answers.
use Rattle.std.proofs.Common.{◌≡◌, inl, inr, ℕ, zero, suc, ◌+◌, List, [], ◌∷◌, ◌++◌, length, map, slice_get, refl, sym, ◌∙◌, ap, subst, arith}
use Rattle.std.specs.Prelude.{Some}
use Rattle.std.proofs.lemmas.Option.{same_Some, none-some}
use Rattle.std.proofs.lemmas.List.{map-append}
use Rattle.si_defs.specs.Clauses.{Clause}
use Rattle.si_defs.specs.Entries.{Entry, Placed, entries}
use Rattle.si_defs.specs.Substitutions.{IsAmong, AreDistinct}
use Rattle.si_defs.proofs.ListLaws.{among_front, among_back, among_parts}
use Rattle.si_term.specs.Walks.{entries_alone}
use Rattle.si_term.proofs.Alone.{entries-alone}
use Rattle.si_form.proofs.Moving.{among_map, among_mapped}
use Rattle.si_legal.specs.declared.Posting.{Posting}
use Rattle.si_legal.specs.Engines.{AreAnswers}
use Rattle.si_legal.specs.KeptTrees.{IsPostingOf}
use Rattle.si_index.specs.Engines.{IsOfWanted, AnswersWanted}
use Rattle.si_index.specs.Kept.{Kept, AreKeyed, paired, kept_clauses}
use Rattle.si_scan.specs.Scans.{posted, all_posted, AreOfWanted}

abbrev posting_of : Posting × Entry → Posting
posting_of x = x.0

-- ---- one clause
pub posted_append : (key n : ℕ) (es fs : List Entry) → posted key n (es ++ fs) ≡ posted key n es ++ posted key (n + length es) fs
posted_append key n [] fs = let same : n ≡ n + 0 = omega arith in ap (λ m. posted key m fs) same
posted_append key n (e ∷ es) fs =
    let on : (1 + n) + length es ≡ n + length (e ∷ es) = omega arith in
    ap (λ l. (record { clause = key; entry = n }, e) ∷ l) (posted_append key (1 + n) es fs ∙ ap (λ m. posted key (1 + n) es ++ posted key m fs) on)

record IsAt (key n : ℕ) (es : List Entry) (x : Posting × Entry) : Type 0 where
  at : ℕ
  key_is : x.0.clause ≡ key
  number_is : x.0.entry ≡ n + at
  there : slice_get es at ≡ Some x.1

at_posted : (key n : ℕ) (es : List Entry) (x : Posting × Entry) → IsAmong (posted key n es) x → IsAt key n es x
at_posted key n [] x a = absurd a
at_posted key n (e ∷ es) x (inl s) = record {
  at = 0;
  key_is = ap (λ (y : Posting × Entry). y.0.clause) (sym s);
  number_is = (let same : n ≡ n + 0 = omega arith in ap (λ (y : Posting × Entry). y.0.entry) (sym s) ∙ same);
  there = ap (λ (y : Posting × Entry). Some y.1) s;
}
at_posted key n (e ∷ es) x (inr a) = let h = at_posted key (1 + n) es x a in record {
  at = suc h.at;
  key_is = h.key_is;
  number_is = omega (arith, h.number_is);
  there = h.there;
}

posted_at : (key n : ℕ) (es : List Entry) (m : ℕ) (e : Entry) → slice_get es m ≡ Some e → IsAmong (posted key n es) (record { clause = key; entry = n + m }, e)
posted_at key n [] m e got = absurd (none-some e got)
posted_at key n (f ∷ es) zero e got =
    let same : n ≡ n + 0 = omega arith in inl (λ i. (record { clause = key; entry = same i }, same_Some f e got i))
posted_at key n (f ∷ es) (suc m) e got =
    let on : (1 + n) + m ≡ n + suc m = omega arith in
    inr (subst (λ k. IsAmong (posted key (1 + n) es) (record { clause = key; entry = k }, e)) on (posted_at key (1 + n) es m e got))

posted_distinct : (key n : ℕ) (es : List Entry) → AreDistinct (map posting_of (posted key n es))
posted_distinct key n [] = tt
posted_distinct key n (e ∷ es) = (
  (λ a. let x = among_mapped posting_of (posted key (1 + n) es) (record { clause = key; entry = n }) a in
      let h = at_posted key (1 + n) es x.0 x.1 in
      let number : x.0.0.entry ≡ n = ap (λ (p : Posting). p.entry) x.2 in
      omega (arith, h.number_is, number)),
  posted_distinct key (1 + n) es,
)

-- ---- an entry without its place
pub got_placed : (es : List Placed) (n : ℕ) (e : Entry) → slice_get (map (λ (p : Placed). p.entry) es) n ≡ Some e → (p : Placed) × (slice_get es n ≡ Some p) × (p.entry ≡ e)
got_placed [] n e got = absurd (none-some e got)
got_placed (p ∷ es) zero e got = (p, refl, same_Some p.entry e got)
got_placed (p ∷ es) (suc n) e got = got_placed es n e got

got_alone : (es : List Placed) (n : ℕ) (p : Placed) → slice_get es n ≡ Some p → slice_get (map (λ (q : Placed). q.entry) es) n ≡ Some p.entry
got_alone [] n p got = absurd (none-some p got)
got_alone (q ∷ es) zero p got = ap (λ (r : Placed). Some r.entry) (same_Some q p got)
got_alone (q ∷ es) (suc n) p got = got_alone es n p got

-- ---- all clauses
pub of_posted : (ks : List (ℕ × Clause)) (x : Posting × Entry) → IsAmong (all_posted ks) x → IsPostingOf ks x.0 x.1
of_posted [] x a = absurd a
of_posted (k ∷ ks) x a =
    elim (among_parts (posted k.0 0 (entries_alone k.1.literals)) (all_posted ks) x a) [
      | inl b ↦
          let h = at_posted k.0 0 (entries_alone k.1.literals) x b in
          let number : h.at ≡ x.0.entry = omega (arith, h.number_is) in
          let got : slice_get (map (λ (p : Placed). p.entry) (entries k.1)) x.0.entry ≡ Some x.1 =
          ap (λ es. slice_get es x.0.entry) (entries-alone 1 k.1.literals) ∙ ap (λ n. slice_get (entries_alone k.1.literals) n) (sym number) ∙ h.there in
          let p = got_placed (entries k.1) x.0.entry x.1 got in
          record {
            clause = k.1;
            placed = p.0;
            is_kept = inl (λ i. (sym h.key_is i, k.1));
            numbered = p.1;
            entry_is = p.2;
          }
      | inr b ↦ later (of_posted ks x b)
    ]
  where
    later : IsPostingOf ks x.0 x.1 → IsPostingOf (k ∷ ks) x.0 x.1
    later h = record { clause = h.clause; placed = h.placed; is_kept = inr h.is_kept; numbered = h.numbered; entry_is = h.entry_is }

posted_with : (ks : List (ℕ × Clause)) (p : Posting) (c : Clause) (placed : Placed) → IsAmong ks (p.clause, c) → slice_get (entries c) p.entry ≡ Some placed → IsAmong (all_posted ks) (p, placed.entry)
posted_with [] p c placed a got = absurd a
posted_with (k ∷ ks) p c placed (inl s) got =
    let here : slice_get (entries_alone k.1.literals) p.entry ≡ Some placed.entry =
    ap (λ es. slice_get es p.entry) (sym (entries-alone 1 k.1.literals))
    ∙ ap (λ (d : ℕ × Clause). slice_get (map (λ (q : Placed). q.entry) (entries d.1)) p.entry) s
    ∙ got_alone (entries c) p.entry placed got in
    let number : 0 + p.entry ≡ p.entry = omega arith in
    among_front (posted k.0 0 (entries_alone k.1.literals)) (all_posted ks) (p, placed.entry)
    (subst (λ (q : Posting). IsAmong (posted k.0 0 (entries_alone k.1.literals)) (q, placed.entry)) (λ i. record { clause = ap (λ (d : ℕ × Clause). d.0) s i; entry = number i })
    (posted_at k.0 0 (entries_alone k.1.literals) p.entry placed.entry here))
posted_with (k ∷ ks) p c placed (inr a) got = among_back (posted k.0 0 (entries_alone k.1.literals)) (all_posted ks) (p, placed.entry) (posted_with ks p c placed a got)

pub is_posted : (ks : List (ℕ × Clause)) (p : Posting) (e : Entry) → IsPostingOf ks p e → IsAmong (all_posted ks) (p, e)
is_posted ks p e h = subst (λ f. IsAmong (all_posted ks) (p, f)) h.entry_is (posted_with ks p h.clause h.placed h.is_kept h.numbered)

distinct_append : {X : Type 0} (xs ys : List X) → AreDistinct xs → AreDistinct ys → ((x : X) → IsAmong xs x → IsAmong ys x → ⊥) → AreDistinct (xs ++ ys)
distinct_append [] ys d e apart = e
distinct_append (x ∷ xs) ys d e apart = (
  (λ a. elim (among_parts xs ys x a) [ inl b ↦ d.0 b | inr b ↦ apart x (inl refl) b ]),
  distinct_append xs ys d.1 e (λ y a b. apart y (inr a) b),
)

abbrev key_of : ℕ × Clause → ℕ
key_of k = k.0

all_distinct : (ks : List (ℕ × Clause)) → AreDistinct (map key_of ks) → AreDistinct (map posting_of (all_posted ks))
all_distinct [] d = tt
all_distinct (k ∷ ks) d =
    subst AreDistinct (sym (map-append posting_of (posted k.0 0 (entries_alone k.1.literals)) (all_posted ks)))
    (distinct_append (map posting_of (posted k.0 0 (entries_alone k.1.literals))) (map posting_of (all_posted ks)) (posted_distinct k.0 0 (entries_alone k.1.literals)) (all_distinct ks d.1) apart)
  where
    apart : (p : Posting) → IsAmong (map posting_of (posted k.0 0 (entries_alone k.1.literals))) p → IsAmong (map posting_of (all_posted ks)) p → ⊥
    apart p a b =
        let x = among_mapped posting_of (posted k.0 0 (entries_alone k.1.literals)) p a in
        let y = among_mapped posting_of (all_posted ks) p b in
        let h = at_posted k.0 0 (entries_alone k.1.literals) x.0 x.1 in
        let other = of_posted ks y.0 y.1 in
        let same : y.0.0.clause ≡ k.0 = ap (λ (q : Posting). q.clause) (y.2 ∙ sym x.2) ∙ h.key_is in
        d.0 (subst (IsAmong (map key_of ks)) same (among_map key_of ks (y.0.0.clause, other.clause) other.is_kept))

-- ---- those that are wanted
module _ (W : Entry → Type 0) where
  wanted_among : (xs : List (Posting × Entry)) (ps : List Posting) (p : Posting) → AreOfWanted W xs ps → IsAmong ps p → (x : Posting × Entry) × IsAmong xs x × W x.1 × (x.0 ≡ p)
  wanted_among [] ps p h a = absurd (subst (λ l. IsAmong l p) h a)
  wanted_among (x ∷ xs) ps p (inl h) a =
      elim (subst (λ l. IsAmong l p) h.1.2 a) [
        | inl s ↦ (x, inl refl, h.0, s)
        | inr b ↦ let r = wanted_among xs h.1.0 p h.1.1 b in (r.0, inr r.1, r.2, r.3)
      ]
  wanted_among (x ∷ xs) ps p (inr h) a = let r = wanted_among xs ps p h.1 a in (r.0, inr r.1, r.2, r.3)

  among_wanted : (xs : List (Posting × Entry)) (ps : List Posting) (x : Posting × Entry) → AreOfWanted W xs ps → IsAmong xs x → W x.1 → IsAmong ps x.0
  among_wanted [] ps x h a w = absurd a
  among_wanted (y ∷ xs) ps x (inl h) (inl s) w = subst (λ l. IsAmong l x.0) (sym h.1.2) (inl (ap posting_of s))
  among_wanted (y ∷ xs) ps x (inl h) (inr a) w = subst (λ l. IsAmong l x.0) (sym h.1.2) (inr (among_wanted xs h.1.0 x h.1.1 a w))
  among_wanted (y ∷ xs) ps x (inr h) (inl s) w = absurd (h.0 (subst (λ (z : Posting × Entry). W z.1) (sym s) w))
  among_wanted (y ∷ xs) ps x (inr h) (inr a) w = among_wanted xs ps x h.1 a w

  wanted_distinct : (xs : List (Posting × Entry)) (ps : List Posting) → AreDistinct (map posting_of xs) → AreOfWanted W xs ps → AreDistinct ps
  wanted_distinct [] ps d h = subst AreDistinct (sym h) tt
  wanted_distinct (x ∷ xs) ps d (inl h) =
      subst AreDistinct (sym h.1.2) (
        (λ a. let r = wanted_among xs h.1.0 x.0 h.1.1 a in d.0 (subst (IsAmong (map posting_of xs)) r.3 (among_map posting_of xs r.0 r.1))),
        wanted_distinct xs h.1.0 d.1 h.1.1,
      )
  wanted_distinct (x ∷ xs) ps d (inr h) = wanted_distinct xs ps d.1 h.1

paired_keys : (ks : List ℕ) (cs : List Clause) → length ks ≡ length cs → map key_of (paired ks cs) ≡ ks
paired_keys [] cs same = refl
paired_keys (k ∷ ks) [] same = absurd (omega (arith, same))
paired_keys (k ∷ ks) (c ∷ cs) same = ap (λ l. k ∷ l) (paired_keys ks cs (omega (arith, same)))

-- the postings of the wanted ones are all answers, each once
pub are_answers : (W : Entry → Type 0) (kept : Kept) (ps : List Posting) → AreKeyed kept → AreOfWanted W (all_posted (kept_clauses kept)) ps
    → AreAnswers (λ p. (e : Entry) × IsPostingOf (kept_clauses kept) p e × W e) ps
are_answers W kept ps keyed h = record {
  distinct = wanted_distinct W (all_posted (kept_clauses kept)) ps (all_distinct (kept_clauses kept) (subst AreDistinct (sym (paired_keys kept.keys kept.clauses keyed.number)) keyed.distinct)) h;
  exact = λ p. (
    (λ a. let r = wanted_among W (all_posted (kept_clauses kept)) ps p h a in
        (r.0.1, subst (λ q. IsPostingOf (kept_clauses kept) q r.0.1) r.3 (of_posted (kept_clauses kept) r.0 r.1), r.2)),
    (λ s. among_wanted W (all_posted (kept_clauses kept)) ps (p, s.0) h (is_posted (kept_clauses kept) p s.0 s.1) s.2),
  );
}

-- that is what an engine over flat terms answers
pub scan_answers : (kept : Kept) → AnswersWanted (IsOfWanted kept) kept
scan_answers kept literal relation query p = ((λ a. a), (λ a. a))
