-- The first of what a search found.
use Rattle.std.proofs.Common.{◌≡◌, ℕ, List, [], ◌∷◌, Some, None, length, refl, ap, subst, arith}
use Rattle.std.specs.Prelude.{slice_get}
use Rattle.si_defs.specs.Clauses.{Pattern}
use Rattle.si_defs.specs.Entries.{Placed}
use Rattle.si_defs.specs.declared.Relation.{Relation}
use Rattle.si_index.specs.Kept.{Kept}
use Rattle.si_index.specs.Finding.{Finding, AreHits, entries_from_position}
use Rattle.si_index.specs.Showing.{ShowsEntry, ShowsHit}
use Rattle.si_index.specs.declared.found.Shown.{Shown}
use Rattle.si_guide.specs.Steps.{ShowsFirst}

first_of : (hits : List (ℕ × Placed)) (hit : ℕ × Placed) → slice_get hits 0 ≡ Some hit → (others : List (ℕ × Placed)) × (hits ≡ hit ∷ others)
first_of [] hit e = absurd (let bad = e in cc)
first_of (x ∷ xs) hit e = let same : x ≡ hit = cc in (xs, ap (λ y. y ∷ xs) same)

pub shows_first : (f : Finding) (index : Kept) (relation : Relation) (p : Pattern) (s : Shown) → f.index ≡ index → f.relation ≡ relation → f.pattern ≡ p
    → AreHits relation p (entries_from_position 0 index.clauses) f.hits → ShowsHit f 0 s → ShowsFirst index relation p (Some s)
shows_first f index relation p s of_index of_relation of_pattern hits shown =
    let first = first_of f.hits shown.0 shown.1 in (
      shown.0,
      first.0,
      subst (AreHits relation p (entries_from_position 0 index.clauses)) first.1 hits,
      subst (λ k. ShowsEntry k.numbers relation p shown.0.1.entry s) of_index
          (subst (λ r. ShowsEntry f.index.numbers r p shown.0.1.entry s) of_relation
          (subst (λ q. ShowsEntry f.index.numbers f.relation q shown.0.1.entry s) of_pattern shown.2)),
    )

none_of : (hits : List (ℕ × Placed)) (n : ℕ) → n ≡ length hits → n ≡ 0 → hits ≡ []
none_of [] n size none = refl
none_of (hit ∷ hits) n size none = absurd (omega (arith, size, none))

-- nothing was found
pub shows_none : (index : Kept) (relation : Relation) (p : Pattern) (hits : List (ℕ × Placed)) (n : ℕ) → n ≡ length hits → n ≡ 0 → AreHits relation p (entries_from_position 0 index.clauses) hits
    → ShowsFirst index relation p None
shows_none index relation p hits n size none found = subst (AreHits relation p (entries_from_position 0 index.clauses)) (none_of hits n size none) found
