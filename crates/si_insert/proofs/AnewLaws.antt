-- An insertion after the indicators were numbered anew.
use Rattle.std.proofs.Common.{◌≡◌, ℕ, inl, inr, List, Option, None, Result, Ok, Err, OnOk, OnErr, sym, subst}
use Rattle.si_defs.specs.Substitutions.{IsAmong}
use Rattle.si_flat.specs.declared.Cell.{Cell}
use Rattle.si_flat.specs.Cells.{Term}
use Rattle.si_legal.specs.declared.Posting.{Posting}
use Rattle.si_legal.specs.Trees.{Tree}
use Rattle.si_legal.specs.StoredSets.{AreUnder, IsUnder, Gains}
use Rattle.si_tree.specs.Renumbers.{Renumbers}
use Rattle.si_insert.specs.Inserting.{MayInsert, Inserts, Places, KeepsAll}

pub stays_same : (tree : Tree Term) → KeepsAll tree tree
stays_same tree = (λ t postings. (λ h. h, λ h. h), λ key t p stands under. stands, λ key t postings l. l)

pub stays_equal : (old new : Tree Term) → new ≡ old → KeepsAll old new
stays_equal old new e = subst (KeepsAll old) (sym e) (stays_same old)

-- a posting that is stored
pub stored_there : (one other : Tree Term) (t : Term) (p : Posting) → ((postings : List Posting) → AreUnder one t postings → AreUnder other t postings) → IsUnder one t p → IsUnder other t p
stored_there one other t p goes under = by (goes under.1.0 (inl (under.0, under.1.1))) where
  by : AreUnder other t under.1.0 → IsUnder other t p
  by (inl leaf) = (leaf.0, (under.1.0, leaf.1, under.1.2))
  by (inr none) = absurd (subst (λ ps. IsAmong ps p) none.1 under.1.2)

pub stays_through : (old mid new : Tree Term) → KeepsAll old mid → KeepsAll mid new → KeepsAll old new
stays_through old mid new one two = (
  λ t postings. (λ h. (two.0 t postings).0 ((one.0 t postings).0 h), λ h. (one.0 t postings).1 ((two.0 t postings).1 h)),
  λ key t p stands under. two.1 key t p (one.1 key t p stands (stored_there old mid t p (λ postings h. (one.0 t postings).0 h) (key, stands))) under,
  λ key t postings l. two.2 key t postings (one.2 key t postings l),
)

-- whether or not they could be numbered
pub renumbered_stays : (old new : Tree Term) {T E : Type 0} (r : Result T E) → OnOk r (Renumbers old new) → OnErr r (new ≡ old) → KeepsAll old new
renumbered_stays old new (Ok x) renumbers same = (renumbers.stays, renumbers.keeps, renumbers.leaves)
renumbered_stays old new (Err e) renumbers same = stays_equal old new same

-- after a first try that wanted numbers
pub renumbered_after : (old mid tried new : Tree Term) (cells : List Cell) (p : Posting) (placed : Option ℕ) → KeepsAll old mid → Places mid tried cells p placed → placed ≡ None → Renumbers tried new → KeepsAll old new
renumbered_after old mid tried new cells p placed kept places none renumbers =
    let same : Places mid tried cells p None = subst (Places mid tried cells p) none places in
    let stays : KeepsAll mid new = subst (λ k. KeepsAll k new) same (renumbers.stays, renumbers.keeps, renumbers.leaves) in
    stays_through old mid new kept stays

pub may_still : (old mid : Tree Term) (cells : List Cell) (p : Posting) → KeepsAll old mid → MayInsert old cells p → MayInsert mid cells p
may_still old mid cells p kept may = (
  may.0,
  may.1,
  record {
    leaf_term = may.2.leaf_term;
    not_stored = λ u under. may.2.not_stored u (stored_there mid old u p (λ postings h. (kept.0 u postings).1 h) under);
  },
)

pub inserted_after : (old mid new : Tree Term) (cells : List Cell) (p : Posting) (key : ℕ) → KeepsAll old mid → Inserts mid new cells p key → Inserts old new cells p key
inserted_after old mid new cells p key kept i = record {
  gains = λ t stands. gained t (i.gains t stands);
  stands = i.stands;
  keeps = λ k t q stands under. i.keeps k t q (kept.1 k t q stands (stored_there old mid t q (λ postings h. (kept.0 t postings).0 h) (k, stands))) under;
  again = λ t k postings stands l. i.again t k postings stands (kept.2 k t postings l);
} where
  gained : (t : Term) → Gains mid new t p → Gains old new t p
  gained t g = record {
    before = g.before;
    had = (kept.0 t g.before).1 g.had;
    last = g.last;
    others = λ u postings differs. (λ h. (g.others u postings differs).0 ((kept.0 u postings).0 h), λ h. (kept.0 u postings).1 ((g.others u postings differs).1 h));
  }
