-- The walk through a clause's entries, whose postings come one after the other.
use Rattle.std.proofs.Common.{◌≡◌, ℕ, ◌+◌, ◌<◌, ◌≤◌, Bool, List, [], ◌∷◌, ◌++◌, length, Option, None, Some, refl, sym, ◌∙◌, ap, subst, arith, append_assoc, append-nil, length-append}
use Rattle.si_defs.specs.Symbols.{Numbering}
use Rattle.si_defs.specs.Clauses.{Clause}
use Rattle.si_defs.specs.Entries.{Entry, entries}
use Rattle.si_term.proofs.Alone.{length-entries}
use Rattle.si_term.specs.Walks.{entries_alone}
use Rattle.si_flat.specs.declared.Cell.{Cell}
use Rattle.si_flat.specs.Cells.{entry, Term, StandsFor}
use Rattle.si_flat.specs.Flattened.{numbered_entry}
use Rattle.si_held.specs.TwoTrees.{TwoTrees, tree_for, AreLegal, IsNewKey, AddsClause}
use Rattle.si_changes.specs.Nodes.{MayComeIn}
use Rattle.si_insert.specs.Inserting.{MayInsert}
use Rattle.si_entries.specs.declared.flat.FlatEntries.{FlatEntries}
use Rattle.si_entries.specs.FlatWalks.{AreLeft, GivesFirst, GivesFlat, GivesNext}
use Rattle.si_forest.specs.Locations.{Location}
use Rattle.si_forest.specs.Pairs.{StayStored, GainOne, ChangeOnly}
use Rattle.si_forest.specs.Locations.{posting_of, location, AreLocated}
use Rattle.si_forest.proofs.GainLaws.{AreIn, in_start, may_come, in_same, in_more, in_change, in_located, in_all}

-- the postings of the entries that were passed came, and the others are left
pub record IsUnderway (numbers : Numbering) (key : ℕ) (all : List Entry) (f : FlatEntries)
    (locations : List Location) (old now : TwoTrees) : Type 0 where
  pub passed : List Entry
  pub left : List Entry
  pub all_are : all ≡ passed ++ left
  pub left_are : AreLeft numbers f left
  pub are_in : AreIn numbers key passed locations old now

pub underway_start : (numbers : Numbering) (key : ℕ) (all : List Entry) (f : FlatEntries) (locations : List Location) (trees : TwoTrees) → AreLegal trees → AreLeft numbers f all → locations ≡ [] → IsUnderway numbers key all f locations trees trees
underway_start numbers key all f locations trees legal left none = record {
  passed = [];
  left = all;
  all_are = refl;
  left_are = left;
  are_in = subst (λ l. AreIn numbers key [] l trees trees) (sym none) (in_start numbers key trees legal);
}

module _ (numbers : Numbering) (key : ℕ) (all : List Entry) (f : FlatEntries) (locations : List Location) (old now : TwoTrees) (u : IsUnderway numbers key all f locations old now) where
  -- the next entry
  module _ (after : FlatEntries) (given : Option Bool) (literal : Bool) (gives : GivesFlat numbers f after given) (is : given ≡ Some literal) where
    g : GivesFirst numbers after literal u.left
    g = subst (λ o. GivesNext numbers after o u.left) is (gives u.left u.left_are)

    pub room_next : length locations < length all
    room_next =
        let whole : length all ≡ length u.passed + length (g.given ∷ g.others) = ap length (u.all_are ∙ ap (λ l. u.passed ++ l) g.first) ∙ length-append u.passed (g.given ∷ g.others) in
        omega (arith, u.are_in.many)

    -- by its number and its cells
    module _ (n : ℕ) (cells : List Cell) (many : n ≡ length locations) (are : cells ≡ after.cells.items) where
      pub may_next : IsNewKey key old → MayInsert (tree_for literal now) cells (posting_of key n)
      may_next none = (
        numbered_entry numbers entry g.given,
        subst (λ l. StandsFor l (numbered_entry numbers entry g.given)) (sym are) g.flat.flat.stands,
        subst (λ k. MayComeIn (tree_for literal now) (numbered_entry numbers entry g.given) (posting_of key k)) (sym many)
            (may_come numbers key u.passed locations old now u.are_in literal (numbered_entry numbers entry g.given) none g.flat.leaf),
      )

      pub next_in : (new : TwoTrees) (leaf : ℕ) (more : List Location) → more ≡ locations ++ location literal leaf ∷ [] → ((t : Term) → StandsFor cells t → GainOne now new literal t (posting_of key n) leaf) → IsUnderway numbers key all after more old new
      next_in new leaf more added gains = record {
        passed = u.passed ++ g.given ∷ [];
        left = g.others;
        all_are = u.all_are ∙ ap (λ l. u.passed ++ l) g.first ∙ sym (append_assoc u.passed (g.given ∷ []) g.others);
        left_are = g.are_left;
        are_in = subst (λ l. AreIn numbers key (u.passed ++ g.given ∷ []) l old new) (sym added)
            (in_more numbers key u.passed locations old now u.are_in new g.given literal leaf g.kind
            (subst (λ k. GainOne now new literal (numbered_entry numbers entry g.given) (posting_of key k) leaf) many
            (gains (numbered_entry numbers entry g.given) (subst (λ l. StandsFor l (numbered_entry numbers entry g.given)) (sym are) g.flat.flat.stands))));
      }

  -- ---- what came so far
  module _ (c : Clause) (are : all ≡ entries_alone c.literals) where
    pub all_in : (after : FlatEntries) (given : Option Bool) → GivesFlat numbers f after given → given ≡ None → AddsClause numbers key c old now
    all_in after given gives is = in_all numbers key c locations old now (subst (λ es. AreIn numbers key es locations old now) (sym (sym are ∙ u.all_are ∙ ap (λ l. u.passed ++ l) (subst (λ o. GivesNext numbers after o u.left) is (gives u.left u.left_are)) ∙ append-nil u.passed)) u.are_in)

    pub few_in : length locations ≤ length (entries c)
    few_in =
        let whole : length all ≡ length u.passed + length u.left = ap length u.all_are ∙ length-append u.passed u.left in
        let same : length (entries c) ≡ length (entries_alone c.literals) = length-entries 1 c.literals in
        omega (arith, u.are_in.many, ap length are)

  pub change_in : ChangeOnly key old now
  change_in = in_change numbers key u.passed locations old now u.are_in

  pub located_in : IsNewKey key old → AreLocated key locations now
  located_in none = in_located numbers key u.passed locations old now u.are_in none

  -- at an error of an insertion
  module _ (new : TwoTrees) (stay : StayStored now new) where
    still_in : AreIn numbers key u.passed locations old new
    still_in = in_same numbers key u.passed locations old now u.are_in new stay

    pub change_still : ChangeOnly key old new
    change_still = in_change numbers key u.passed locations old new still_in

    pub located_still : IsNewKey key old → AreLocated key locations new
    located_still none = in_located numbers key u.passed locations old new still_in none
