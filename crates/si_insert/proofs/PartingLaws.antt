-- A node is split by an insertion.
use Rattle.std.proofs.Common.{◌≡◌, ℕ, ◌+◌, ◌<◌, ◌^◌, inl, true, List, [], ◌∷◌, ◌++◌, Some, refl, sym, ◌∙◌, ap, subst, append-nil}
use Rattle.std.specs.List.{AllByRecursion}
use Rattle.si_defs.specs.Substitutions.{IsAmong, AreDistinct}
use Rattle.si_flat.specs.declared.Cell.{Cell}
use Rattle.si_flat.specs.declared.bindings.Split.{Split}
use Rattle.si_flat.specs.Cells.{Term}
use Rattle.si_flat.specs.Rows.{CellPair, AreWhole, left_sides}
use Rattle.si_legal.proofs.PathLaws.{one_path}
use Rattle.si_unify.proofs.Reading.{one_term}
use Rattle.si_legal.specs.declared.Posting.{Posting}
use Rattle.si_legal.specs.Bindings.{Binding, right_sizes, OpensNone, StandForBindings}
use Rattle.si_legal.specs.Generalizations.{same_head, MaySplit, Splits}
use Rattle.si_legal.specs.Trees.{Tree, Path, path_term, IsLeaf, StandsIn}
use Rattle.si_legal.specs.StoredSets.{Gains}
use Rattle.si_changes.specs.Nodes.{leaf_below}
use Rattle.si_changes.specs.Leaves.{IsTermAt}
use Rattle.si_changes.specs.Splits.{Parts, MaySplitNode}
use Rattle.si_changes.proofs.OpenLaws.{may_split}
use Rattle.si_changes.proofs.SplitTreeLaws.{splits_node, splits_term, other_leaves_stay}
use Rattle.si_mscg.specs.Generalising.{MayGeneralise, Generalises}
use Rattle.si_tree.specs.Decoding.{bindings_of}
use Rattle.si_tree.specs.Reading.{AtNode}
use Rattle.si_tree.specs.Changes.{parts_of, AreWholeParts, HasSplitLeaf}
use Rattle.si_tree.proofs.DecodingLaws.{bindings_read}
use Rattle.si_insert.specs.declared.open.Opened.{Opened}
use Rattle.si_insert.specs.Opened.{numbers, AreWithin, open_pairs}
use Rattle.si_insert.specs.Passing.{without, MakesAll, MayPass, CanPass, IsBoundBy}
use Rattle.si_insert.specs.Underway.{IsInsertUnderway}
use Rattle.si_insert.specs.Inserting.{Inserts}
use Rattle.si_insert.specs.Parting.{right_lengths, AreOpenAt, GivesParts, MayPart}
use Rattle.si_insert.proofs.PassLaws.{stand_lefts}
use Rattle.si_insert.proofs.BindLaws.{bound_all, within_stays, lefts_opened}
use Rattle.si_insert.proofs.UnderwayLaws.{none_open, may_pass}
use Rattle.si_insert.proofs.EndLaws.{opens_none_of, head_same, may_split_node, term_stays}
use Rattle.si_insert.proofs.WalkLaws.{Below, below_child}
use Rattle.si_insert.proofs.InsertLaws.{stand_whole, leaf_at, again_there}
use Rattle.si_insert.proofs.PartLaws.{lengths_are}

module _ (tree : Tree Term) (cells : List Cell) (all : List Opened) (child : ℕ) (p : Posting) (m : MayPart tree cells all child p) (pairs : List CellPair) (at : AtNode tree child (λ n. StandForBindings pairs n.bindings)) where
  abbrev below : Below tree m.key child m.by.split m.head
  below = below_child tree m.key child m.by.split m.by.children m.by.node m.head m.legal m.by.has m.by.content m.by

  abbrev node : List Binding
  node = below.node.bindings

  stands : StandForBindings pairs node
  stands = at below.node below.has

  may_pass_here : MayPass cells all pairs m.there node
  may_pass_here = may_pass tree m.key child below.node m.path m.term m.there cells all pairs m.legal m.underway m.holds below.has below.below stands

  pub can_pass : CanPass cells all pairs
  can_pass = (m.there, node, may_pass_here)

  pub distinct_pairs : AreDistinct (left_sides pairs)
  distinct_pairs = subst AreDistinct (sym (stand_lefts pairs node stands)) (m.legal.nodes child below.node below.has).binds.distinct

  pub left_opened : AllByRecursion (IsAmong (numbers all)) (left_sides pairs)
  left_opened = lefts_opened cells all all pairs m.there node may_pass_here ([], sym (append-nil all))

  module _ (new_cells : List CellPair) (gives : GivesParts cells all pairs new_cells) (room : tree.next + right_lengths pairs < 2 ^ 31) where
    abbrev new : List Binding
    new = (gives m.there node may_pass_here).0

    new_stands : StandForBindings new_cells new
    new_stands = (gives m.there node may_pass_here).1

    open_at : AreOpenAt m.there (left_sides node) new
    open_at = (gives m.there node may_pass_here).2

    none : OpensNone m.there
    none = none_open (path_term m.path) m.term m.there m.underway.binds m.underway.gives m.may.leaf_term

    has_numbers : tree.next + right_sizes node < 2 ^ 31
    has_numbers = subst (λ n. tree.next + n < 2 ^ 31) (lengths_are pairs node stands) room

    may_cut : MaySplit tree.next node new
    may_cut = may_split tree m.legal child below.node new below.has open_at.lefts_are (opens_none_of m.there new none open_at.among) has_numbers

    pub may_generalise : MayGeneralise tree.next pairs new_cells
    may_generalise = (node, new, stands, new_stands, may_cut)

    -- the parts stand for these bindings
    abbrev GivesSplit : Split → Type 0
    GivesSplit s = (common : List Binding) × (rest_node : List Binding) × (rest_new : List Binding) × StandForBindings s.common common × StandForBindings s.rest_node rest_node × StandForBindings s.rest_new rest_new × Splits tree.next node new common rest_node rest_new

    module _ (s : Split) (is_split : Generalises tree.next pairs new_cells s) (bound : List Opened) (binds : IsBoundBy (left_sides pairs) all bound) where
      abbrev cut : GivesSplit s
      cut = is_split node new stands new_stands

      abbrev others : List Binding
      others = without (left_sides node) m.there

      binds_node : IsBoundBy (left_sides node) all bound
      binds_node = subst (λ ns. IsBoundBy ns all bound) (stand_lefts pairs node stands) binds

      others_stand : StandForBindings (open_pairs cells bound) others
      others_stand = bound_all cells (left_sides node) all bound m.there binds_node m.holds.stand

      pub bound_within : AreWithin cells bound
      bound_within = within_stays cells (left_sides node) all bound binds_node m.holds.within

      pub parts_whole : (more : List CellPair) → more ≡ open_pairs cells bound → AreWholeParts s more
      parts_whole more e = record {
        common = stand_whole s.common cut.0 cut.3;
        rest_node = stand_whole s.rest_node cut.1 cut.4;
        rest_new = stand_whole s.rest_new cut.2 cut.5;
        others = subst AreWhole (sym e) (stand_whole (open_pairs cells bound) others others_stand);
      }

      abbrev parts : Parts
      parts = record { common = cut.0; rest_node = cut.1; rest_new = cut.2 }

      parts_are : parts_of s ≡ parts
      parts_are = λ i. record {
        common = bindings_read s.common cut.0 cut.3 i;
        rest_node = bindings_read s.rest_node cut.1 cut.4 i;
        rest_new = bindings_read s.rest_new cut.2 cut.5 i;
      }

      others_are : (more : List CellPair) → more ≡ open_pairs cells bound → bindings_of more ≡ others
      others_are more e = ap bindings_of e ∙ bindings_read (open_pairs cells bound) others others_stand

      -- the path, from the parent on
      abbrev above : Path
      above = (m.legal.nodes m.key m.by.node m.by.has).above

      path_is : m.path ≡ (m.key, m.by.node) ∷ above
      path_is = one_path tree (Some m.key) m.path ((m.key, m.by.node) ∷ above) m.underway.reached (refl, m.by.has, (m.legal.nodes m.key m.by.node m.by.has).reached)

      underway : IsInsertUnderway tree m.key m.term ((m.key, m.by.node) ∷ above) m.there
      underway = subst (λ q. IsInsertUnderway tree m.key m.term q m.there) path_is m.underway

      same : same_head below.right m.part ≡ true
      same = head_same below.right m.part m.head below.right_head m.has_head

      never : (fs : List Binding) → MakesAll fs m.there node → ⊥
      never fs makes = m.never below.node fs below.has makes

      abbrev may : MaySplitNode tree child parts others p
      may = may_split_node tree m.key child m.by.split m.by.children m.by.node below.node above m.term below.right m.part m.there new others cut.0 cut.1 cut.2 p m.legal underway m.by.content below.has below.below m.among below.binds same open_at has_numbers cut.6 never refl m.may

      pub may_split_here : (more : List CellPair) → more ≡ open_pairs cells bound → MaySplitNode tree child (parts_of s) (bindings_of more) p
      may_split_here more e = subst (λ q. MaySplitNode tree child q (bindings_of more) p) (sym parts_are) (subst (λ q. MaySplitNode tree child parts q p) (sym (others_are more e)) may)

      -- ---- what it gives
      split_here : (tree' : Tree Term) (more : List CellPair) (key : ℕ) → more ≡ open_pairs cells bound → HasSplitLeaf tree tree' child (parts_of s) (bindings_of more) p key → HasSplitLeaf tree tree' child parts others p key
      split_here tree' more key e h = subst (λ q. HasSplitLeaf tree tree' child q others p key) parts_are (subst (λ q. HasSplitLeaf tree tree' child (parts_of s) q p key) (others_are more e) h)

      pub inserted : (tree' : Tree Term) (more : List CellPair) (key : ℕ) → more ≡ open_pairs cells bound → HasSplitLeaf tree tree' child (parts_of s) (bindings_of more) p key → Inserts tree tree' cells p key
      inserted tree' more key e h = by (split_here tree' more key e h) where
        by : HasSplitLeaf tree tree' child parts others p key → Inserts tree tree' cells p key
        by l =
            let at : IsTermAt tree' key m.term = subst (IsTermAt tree' key) (term_stays tree m.key child m.by.split m.by.children m.by.node below.node above m.term below.right m.part m.there new others cut.0 cut.1 cut.2 p m.legal underway m.by.content below.has below.below m.among below.binds same open_at has_numbers cut.6 never refl m.may) (splits_term tree tree' child parts others p l.inner_key key m.legal may l.splits) in
            let is_leaf = leaf_at tree' key (leaf_below l.inner_key (parts.rest_new ++ others) (p ∷ [])) (p ∷ []) m.term l.splits.new_leaf refl at in
            record {
              gains = λ u other. subst (λ v. Gains tree tree' v p) (one_term cells m.term u m.stands other) (l.gains m.term at);
              stands = λ u other. subst (λ v. StandsIn tree' key v p) (one_term cells m.term u m.stands other) (p ∷ [], is_leaf, inl refl);
              keeps = l.keeps;
              again = λ u k qs other j. again_there tree tree' key m.term (p ∷ []) (splits_node tree tree' child parts others p l.inner_key key m.legal may l.splits).0 (other_leaves_stay tree tree' child parts others p l.inner_key key m.legal may l.splits) is_leaf k qs (subst (λ v. IsLeaf tree k v qs) (sym (one_term cells m.term u m.stands other)) j);
            }
