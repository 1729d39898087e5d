-- A posting goes, and then a leaf without postings.
use Rattle.std.proofs.Common.{inl, inr, subst}
use Rattle.si_defs.specs.Substitutions.{IsAmong}
use Rattle.si_flat.specs.Cells.{Term}
use Rattle.si_legal.specs.declared.Posting.{Posting}
use Rattle.si_legal.specs.Trees.{Tree}
use Rattle.si_legal.specs.StoredSets.{AreUnder, IsUnder, Loses, StaysStored, KeepsLeaves}

pub loses_then : (old middle new : Tree Term) (t : Term) (p : Posting) → Loses old middle t p → StaysStored middle new → Loses old new t p
loses_then old middle new t p loses stays = record {
  before = loses.before;
  after = loses.after;
  had = loses.had;
  has = (stays t _).0 loses.has;
  others = λ u ps apart.
      let first = loses.others u ps apart in
      ((λ a. (stays u ps).0 (first.0 a)), (λ a. first.1 ((stays u ps).1 a)));
}

under_before : (middle new : Tree Term) (t : Term) (p : Posting) → StaysStored middle new → IsUnder new t p → IsUnder middle t p
under_before middle new t p stays (key, (ps, leaf, among)) = by ((stays t ps).1 (inl (key, leaf))) where
  by : AreUnder middle t ps → IsUnder middle t p
  by (inl (k, there)) = (k, (ps, there, among))
  by (inr (none, empty)) = absurd (subst (λ qs. IsAmong qs p) empty among)

pub keeps_then : (old middle new : Tree Term) → KeepsLeaves old middle → KeepsLeaves middle new → StaysStored middle new → KeepsLeaves old new
keeps_then old middle new one two stays key t p stands under =
    two key t p (one key t p stands (under_before middle new t p stays under)) under
