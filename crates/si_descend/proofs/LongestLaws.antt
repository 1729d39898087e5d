-- The longest right side of all nodes, node by node.
use Rattle.std.proofs.Common.{◌≡◌, inl, inr, ℕ, ◌+◌, ◌≤◌, max, List, [], ◌∷◌, ◌++◌, Some, length, refl, ap, sym, ◌∙◌, subst, arith}
use Rattle.si_defs.specs.Substitutions.{IsAmong, AreDistinct}
use Rattle.si_defs.proofs.ListLaws.{among_back}
use Rattle.si_flat.specs.Cells.{Term}
use Rattle.si_flat.specs.Rows.{CellPair}
use Rattle.si_legal.specs.Bindings.{StandForBindings}
use Rattle.si_legal.specs.Counts.{node_count}
use Rattle.si_legal.specs.Legal.{IsLegal, IsLegalContent}
use Rattle.si_legal.specs.Trees.{Content, inner, leaf, Node, Tree, HasNode, IsPath}
use Rattle.si_legal.proofs.PathLaws.{one_node}
use Rattle.si_changes.proofs.Frames.{legal_nodes, differ_told}
use Rattle.si_changes.proofs.Heads.{passes_root}
use Rattle.si_changes.proofs.OpenLaws.{path_node}
use Rattle.si_tree.specs.Reading.{IsNode, AtNode, children_of}
use Rattle.si_descend.specs.Lending.{AreNoLongerBindings, AreRightsNoLongerThan, most_cells}
use Rattle.si_descend.proofs.Below.{passes_first, few_keys}
use Rattle.si_descend.proofs.Passing.{HasPassed, passing_starts, passing_on, passing_ends}
use Rattle.si_descend.proofs.Retrieving.{root_there}
use Rattle.si_descend.proofs.RightLaws.{no_longer, bindings_wider, child_among, among_child}

abbrev pub IsAny : ℕ → Type 0
IsAny key = Unit {0}

-- so many nodes were looked at
pub record IsMeasuring (tree : Tree Term) (left : List ℕ) (n longest : ℕ) : Type 0 where
  pub passed : List ℕ
  pub nodes : HasPassed tree IsAny tree.root left passed
  pub count : n ≡ length passed
  pub short : (key : ℕ) → IsAmong passed key → AtNode tree key (λ m. AreNoLongerBindings longest m.bindings)

module _ (tree : Tree Term) (legal : IsLegal tree) where
  pub measuring_starts : (root longest : ℕ) (left : List ℕ) → root ≡ tree.root → left ≡ root ∷ [] → IsMeasuring tree left 0 longest
  measuring_starts root longest left top e = record {
    passed = [];
    nodes = subst (λ l. HasPassed tree IsAny tree.root l []) back (passing_starts tree (legal_nodes tree legal) IsAny tree.root (root_there tree legal));
    count = refl;
    short = λ key a. absurd a;
  } where
    back : tree.root ∷ [] ≡ left
    back = sym (e ∙ ap (λ k. k ∷ []) top)

  pub measuring_more : (front left mine : List ℕ) (next n own old new : ℕ) (rows : List CellPair) (node : Node Term) (has : HasNode tree next node) → left ≡ front ++ next ∷ [] → mine ≡ front ++ children_of node.content → StandForBindings rows node.bindings → own ≡ most_cells rows → new ≡ max old own → IsMeasuring tree left n old → IsMeasuring tree mine (n + 1) new
  measuring_more front left mine next n own old new rows node has e f stand is most h = record {
    passed = next ∷ h.passed;
    nodes = subst (λ l. HasPassed tree IsAny tree.root l (next ∷ h.passed)) (sym f)
        (passing_on tree (legal_nodes tree legal) IsAny tree.root front next h.passed (children_of node.content) (subst (λ l. HasPassed tree IsAny tree.root l h.passed) e h.nodes) tt
        (by node.content (legal.nodes next node has).content) (among_child tree (legal_nodes tree legal) next node has)
        (λ child c. inl (child_among tree (legal_nodes tree legal) next node has child c)));
    count = omega (arith, h.count);
    short = λ key a. elim a as (λ _. AtNode tree key (λ m. AreNoLongerBindings new m.bindings)) [
      | inl same ↦ (λ m has'. subst (λ k. AreNoLongerBindings new k.bindings) (one_node tree next node m has (subst (λ k. HasNode tree k m) (sym same) has')) (no_longer new rows node.bindings stand (omega (arith, is, most))))
      | inr b ↦ (λ m has'. bindings_wider old new m.bindings (omega (arith, most)) (h.short key b m has'))
    ];
  } where
    by : (content : Content) → IsLegalContent tree next ((next, node) ∷ (legal.nodes next node has).above) content → AreDistinct (children_of content)
    by (leaf ps) l = tt
    by (inner split children) l = (differ_told tree split children (legal_nodes tree legal) l.2).distinct

  pub measuring_ends : (left : List ℕ) (n longest : ℕ) → left ≡ [] → IsMeasuring tree left n longest → AreRightsNoLongerThan longest tree
  measuring_ends left n longest none h key node has =
      let one = legal.nodes key node has in
      let here : IsPath tree (Some key) ((key, node) ∷ one.above) = (refl, has, one.reached) in
      h.short key
      (passing_ends tree (legal_nodes tree legal) IsAny tree.root h.passed (subst (λ l. HasPassed tree IsAny tree.root l h.passed) none h.nodes) key ((key, node) ∷ one.above) here (passes_root tree (legal_nodes tree legal) key ((key, node) ∷ one.above) here) tt)
      node has

  -- all nodes were looked at, so none is left
  pub measuring_full : (left : List ℕ) (n longest : ℕ) → node_count tree ≤ n → IsMeasuring tree left n longest → AreRightsNoLongerThan longest tree
  measuring_full [] n longest full h = measuring_ends [] n longest refl h
  measuring_full (next ∷ left) n longest full h =
      let is = h.nodes.apart.nodes next (inl refl) in
      let above = (legal.nodes next is.0 is.1).above in
      let here : IsPath tree (Some next) ((next, is.0) ∷ above) = (refl, is.1, (legal.nodes next is.0 is.1).reached) in
      absurd (omega (
        arith,
        full,
        h.count,
        few_keys tree (next ∷ h.passed) (λ a. h.nodes.new next next ((next, is.0) ∷ above) a here (inl refl) (passes_first tree next ((next, is.0) ∷ above) here), h.nodes.distinct)
            (λ key a. elim a as (λ _. IsNode tree key) [ inl e ↦ subst (IsNode tree) e is | inr b ↦ (let s = (h.nodes.are_in key b).1 in path_node tree key s.path s.leads) ]),
      ))

-- the next one is a node
pub next_node : (tree : Tree Term) (front left : List ℕ) (next n longest : ℕ) → left ≡ front ++ next ∷ [] → IsMeasuring tree left n longest → IsNode tree next
next_node tree front left next n longest e h = h.nodes.apart.nodes next (subst (λ l. IsAmong l next) (sym e) (among_back front (next ∷ []) next (inl refl)))
