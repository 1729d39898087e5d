-- Where an engine answers exactly the entries in the relation, its entries are the hits.
use Rattle.std.proofs.Common.{◌≡◌, inl, inr, ℕ, zero, suc, ◌+◌, List, [], ◌∷◌, ◌++◌, length, map, refl, sym, ◌∙◌, ap, subst, arith}
use Rattle.std.specs.Prelude.{◌↔◌, Some, slice_get}
use Rattle.std.proofs.lemmas.Option.{same_Some, none-some}
use Rattle.std.proofs.lemmas.List.{map-append}
use Rattle.si_defs.specs.Clauses.{Clause, Pattern}
use Rattle.si_defs.specs.Entries.{Entry, Placed, entries}
use Rattle.si_defs.specs.Substitutions.{IsAmong, AreDistinct}
use Rattle.si_defs.specs.declared.Relation.{Relation}
use Rattle.si_defs.proofs.ListLaws.{among_front, among_back, among_parts, get_among}
use Rattle.si_state.specs.Answers.{Stands}
use Rattle.si_legal.specs.declared.Posting.{Posting}
use Rattle.si_legal.specs.KeptTrees.{IsPostingOf}
use Rattle.si_index.specs.Kept.{Kept, AreKeyed, paired, kept_clauses}
use Rattle.si_index.specs.Finding.{AreHits, at_position, entries_from_position}
use Rattle.si_index.specs.Engines.{IsOfStanding, posted_from, posted_entries, AreAnswered}

-- an entry with its posting and the position of its clause
abbrev pub Posted : Type 0
Posted = Posting × (ℕ × Placed)

-- ---- the entries, without their postings
entries_posted : (key position n : ℕ) (es : List Placed) → map (λ x. x.1) (posted_from key position n es) ≡ map (at_position position) es
entries_posted key position n [] = refl
entries_posted key position n (e ∷ es) = ap (λ l. (position, e) ∷ l) (entries_posted key position (1 + n) es)

all_entries : (position : ℕ) (keys : List ℕ) (cs : List Clause) → length keys ≡ length cs → map (λ x. x.1) (posted_entries position (paired keys cs)) ≡ entries_from_position position cs
all_entries position [] [] same = refl
all_entries position [] (c ∷ cs) same = absurd (omega (arith, same))
all_entries position (key ∷ keys) [] same = absurd (omega (arith, same))
all_entries position (key ∷ keys) (c ∷ cs) same =
    map-append (λ x. x.1) (posted_from key position 0 (entries c)) (posted_entries (1 + position) (paired keys cs))
    ∙ ap (λ l. l ++ map (λ x. x.1) (posted_entries (1 + position) (paired keys cs))) (entries_posted key position 0 (entries c))
    ∙ ap (λ l. map (at_position position) (entries c) ++ l) (all_entries (1 + position) keys cs (omega (arith, same)))

-- ---- where entries stand
-- it is the entry with its number in this clause, which stands at its position and has its key
pub record StandsAt (position : ℕ) (cs : List (ℕ × Clause)) (x : Posted) : Type 0 where
  pub at : ℕ
  pub clause : Clause
  pub position_is : x.1.0 ≡ position + at
  pub there : slice_get cs at ≡ Some (x.0.clause, clause)
  pub numbered : slice_get (entries clause) x.0.entry ≡ Some x.1.1

record IsFrom (key position n : ℕ) (es : List Placed) (x : Posted) : Type 0 where
  at : ℕ
  key_is : x.0.clause ≡ key
  number_is : x.0.entry ≡ n + at
  position_is : x.1.0 ≡ position
  there : slice_get es at ≡ Some x.1.1

from_posted : (key position n : ℕ) (es : List Placed) (x : Posted) → IsAmong (posted_from key position n es) x → IsFrom key position n es x
from_posted key position n [] x a = absurd a
from_posted key position n (e ∷ es) x (inl s) =
    let zero_more : n ≡ n + 0 = omega arith in
    record {
      at = 0;
      key_is = ap (λ (y : Posted). y.0.clause) (sym s);
      number_is = ap (λ (y : Posted). y.0.entry) (sym s) ∙ zero_more;
      position_is = ap (λ (y : Posted). y.1.0) (sym s);
      there = ap (λ (y : Posted). Some y.1.1) s;
    }
from_posted key position n (e ∷ es) x (inr a) =
    let h = from_posted key position (1 + n) es x a in
    record { at = suc h.at; key_is = h.key_is; number_is = omega (arith, h.number_is); position_is = h.position_is; there = h.there }

posted_got : (key position n : ℕ) (es : List Placed) (m : ℕ) (e : Placed) → slice_get es m ≡ Some e → IsAmong (posted_from key position n es) (record { clause = key; entry = n + m }, (position, e))
posted_got key position n [] m e got = absurd (none-some e got)
posted_got key position n (f ∷ es) zero e got =
    let zero_more : n ≡ n + 0 = omega arith in inl (λ i. (record { clause = key; entry = zero_more i }, (position, same_Some f e got i)))
posted_got key position n (f ∷ es) (suc m) e got =
    let on : (1 + n) + m ≡ n + suc m = omega arith in
    inr (subst (λ l. IsAmong (posted_from key position (1 + n) es) (record { clause = key; entry = l }, (position, e))) on (posted_got key position (1 + n) es m e got))

pub stands_at : (position : ℕ) (cs : List (ℕ × Clause)) (x : Posted) → IsAmong (posted_entries position cs) x → StandsAt position cs x
stands_at position [] x a = absurd a
stands_at position (c ∷ cs) x a =
    elim (among_parts (posted_from c.0 position 0 (entries c.1)) (posted_entries (1 + position) cs) x a) [
      | inl b ↦ here (from_posted c.0 position 0 (entries c.1) x b)
      | inr b ↦ later (stands_at (1 + position) cs x b)
    ]
  where
    here : IsFrom c.0 position 0 (entries c.1) x → StandsAt position (c ∷ cs) x
    here h =
        let number : x.0.entry ≡ h.at = omega (arith, h.number_is) in
        record {
          at = 0;
          clause = c.1;
          position_is = omega (arith, h.position_is);
          there = ap (λ k. Some (k, c.1)) (sym h.key_is);
          numbered = ap (slice_get (entries c.1)) number ∙ h.there;
        }

    later : StandsAt (1 + position) cs x → StandsAt position (c ∷ cs) x
    later h = record { at = suc h.at; clause = h.clause; position_is = omega (arith, h.position_is); there = h.there; numbered = h.numbered }

pub got_there : (position : ℕ) (cs : List (ℕ × Clause)) (at m : ℕ) (c : ℕ × Clause) (e : Placed) → slice_get cs at ≡ Some c → slice_get (entries c.1) m ≡ Some e
    → IsAmong (posted_entries position cs) (record { clause = c.0; entry = m }, (position + at, e))
got_there position [] at m c e got there = absurd (none-some c got)
got_there position (d ∷ cs) zero m c e got there =
    let here : position ≡ position + 0 = omega arith in
    let from_zero : 0 + m ≡ m = omega arith in
    let same = same_Some d c got in
    let own = posted_got d.0 position 0 (entries d.1) m e (ap (λ (b : ℕ × Clause). slice_get (entries b.1) m) same ∙ there) in
    among_front (posted_from d.0 position 0 (entries d.1)) (posted_entries (1 + position) cs) _
    (subst (IsAmong (posted_from d.0 position 0 (entries d.1))) (λ i. (record { clause = (same i).0; entry = from_zero i }, (here i, e))) own)
got_there position (d ∷ cs) (suc at) m c e got there =
    let on : (1 + position) + at ≡ position + suc at = omega arith in
    among_back (posted_from d.0 position 0 (entries d.1)) (posted_entries (1 + position) cs) _
    (subst (λ k. IsAmong (posted_entries (1 + position) cs) (record { clause = c.0; entry = m }, (k, e))) on (got_there (1 + position) cs at m c e got there))

-- ---- one entry for each posting
pub among_key : (keys : List ℕ) (cs : List Clause) (key : ℕ) (c : Clause) → IsAmong (paired keys cs) (key, c) → IsAmong keys key
among_key [] cs key c a = a
among_key (k ∷ keys) [] key c a = absurd a
among_key (k ∷ keys) (d ∷ cs) key c (inl s) = inl (ap (λ (p : ℕ × Clause). p.0) s)
among_key (k ∷ keys) (d ∷ cs) key c (inr a) = inr (among_key keys cs key c a)

pub one_clause : (keys : List ℕ) (cs : List Clause) (key : ℕ) (c d : Clause) → AreDistinct keys → IsAmong (paired keys cs) (key, c) → IsAmong (paired keys cs) (key, d) → c ≡ d
one_clause [] cs key c d distinct a b = absurd a
one_clause (k ∷ keys) [] key c d distinct a b = absurd a
one_clause (k ∷ keys) (f ∷ cs) key c d distinct (inl s) (inl t) = ap (λ (p : ℕ × Clause). p.1) (sym s ∙ t)
one_clause (k ∷ keys) (f ∷ cs) key c d distinct (inl s) (inr b) = absurd (distinct.0 (subst (IsAmong keys) (sym (ap (λ (p : ℕ × Clause). p.0) s)) (among_key keys cs key d b)))
one_clause (k ∷ keys) (f ∷ cs) key c d distinct (inr a) (inl t) = absurd (distinct.0 (subst (IsAmong keys) (sym (ap (λ (p : ℕ × Clause). p.0) t)) (among_key keys cs key c a)))
one_clause (k ∷ keys) (f ∷ cs) key c d distinct (inr a) (inr b) = one_clause keys cs key c d distinct.1 a b

pub one_entry : (k : Kept) (q : Posting) (e f : Entry) → AreKeyed k → IsPostingOf (kept_clauses k) q e → IsPostingOf (kept_clauses k) q f → e ≡ f
one_entry k q e f keyed h g =
    let clause = one_clause k.keys k.clauses q.clause h.clause g.clause keyed.distinct h.is_kept g.is_kept in
    sym h.entry_is ∙ ap (λ (p : Placed). p.entry) (same_Some _ _ (sym h.numbered ∙ ap (λ c. slice_get (entries c) q.entry) clause ∙ g.numbered)) ∙ g.entry_is

pub posting_of : (position : ℕ) (k : Kept) (x : Posted) → IsAmong (posted_entries position (kept_clauses k)) x → IsPostingOf (kept_clauses k) x.0 x.1.1.entry
posting_of position k x a =
    let h = stands_at position (kept_clauses k) x a in
    record { clause = h.clause; placed = x.1.1; is_kept = get_among (kept_clauses k) h.at (x.0.clause, h.clause) h.there; numbered = h.numbered; entry_is = refl }

-- ---- hits
answered_hits : (relation : Relation) (p : Pattern) (these : Posting → Type 0) (xs : List Posted) (hits : List (ℕ × Placed))
    → ((x : Posted) → IsAmong xs x → these x.0 ↔ Stands relation p x.1.1.entry)
    → AreAnswered these xs hits → AreHits relation p (map (λ x. x.1) xs) hits
answered_hits relation p these [] hits same h = h
answered_hits relation p these (x ∷ xs) hits same (inl h) =
    inl ((same x (inl refl)).0 h.0, (h.1.0, answered_hits relation p these xs h.1.0 (λ y a. same y (inr a)) h.1.1, h.1.2))
answered_hits relation p these (x ∷ xs) hits same (inr h) =
    inr ((λ s. h.0 ((same x (inl refl)).1 s)), answered_hits relation p these xs hits (λ y a. same y (inr a)) h.1)

pub entries_are_hits : (k : Kept) (relation : Relation) (p : Pattern) (these : Posting → Type 0) (hits : List (ℕ × Placed)) → AreKeyed k
    → ((posting : Posting) → these posting ↔ IsOfStanding k relation p posting)
    → AreAnswered these (posted_entries 0 (kept_clauses k)) hits → AreHits relation p (entries_from_position 0 k.clauses) hits
entries_are_hits k relation p these hits keyed exact h =
    subst (λ es. AreHits relation p es hits) (all_entries 0 k.keys k.clauses keyed.number)
    (answered_hits relation p these (posted_entries 0 (kept_clauses k)) hits same h)
  where
    same : (x : Posted) → IsAmong (posted_entries 0 (kept_clauses k)) x → these x.0 ↔ Stands relation p x.1.1.entry
    same x a =
        let own = posting_of 0 k x a in (
          (λ t. let s = (exact x.0).0 t in subst (Stands relation p) (one_entry k x.0 s.0 x.1.1.entry keyed s.1 own) s.2),
          (λ s. (exact x.0).1 (x.1.1.entry, own, s)),
        )
