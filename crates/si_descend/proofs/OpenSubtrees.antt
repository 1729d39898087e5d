-- Below a node all are open, where all indicators that are open there can be anything.
use Rattle.std.proofs.Common.{◌≡◌, ◌≢◌, ◌⊎◌, inl, inr, ℕ, zero, suc, ◌+◌, ◌≤◌, true, false, List, [], ◌∷◌, ◌++◌, map, Option, None, Some, refl, ap, sym, ◌∙◌, subst, arith}
use Rattle.std.proofs.lemmas.Bool.{cases_eq}
use Rattle.std.specs.List.{AllByRecursion}
use Rattle.si_defs.specs.Terms as terms
use Rattle.si_defs.specs.Substitutions.{Substitution, image, apply, IsAmong}
use Rattle.si_defs.specs.declared.Relation.{Relation}
use Rattle.si_defs.specs.declared.Relation.TheVariants.{Variants, Instances, Generalizations, Unifiable}
use Rattle.si_defs.proofs.ListLaws.{all_at, among_front, among_back, among_parts}
use Rattle.si_flat.specs.Cells.{Symbol, Variable, query, entry, ind, same_variable, Term, Terms, IsSound, AreSound, StandsFor}
use Rattle.si_trail.specs.Trails.{HasDistinctSlots}
use Rattle.si_unify.specs.declared.slots.Slots.{Slots}
use Rattle.si_unify.specs.Solving.{Pairs, IsInRange, AllowsSolving}
use Rattle.si_unify.proofs.Reading.{one_term}
use Rattle.si_legal.specs.Bindings.{indicators, substitution_of, applied}
use Rattle.si_legal.specs.Counts.{node_count}
use Rattle.si_legal.specs.Trees.{Content, inner, leaf, Node, Tree, HasNode, Path, IsPath, PassesBy, path_term}
use Rattle.si_legal.specs.Legal.{IsLegal, IsLeafTerm, IsLegalContent, IsLegalNode}
use Rattle.si_legal.specs.OpenNodes.{IsOpen}
use Rattle.si_legal.proofs.PathLaws.{one_node, one_path}
use Rattle.si_changes.proofs.Frames.{HasLegalNodes, legal_nodes}
use Rattle.si_changes.proofs.HeadLaws.{image_keeps, indicator_variable}
use Rattle.si_changes.proofs.OpenLaws.{path_node, root_no_child}
use Rattle.si_changes.proofs.Permuted.{among_or_not}
use Rattle.si_changes.proofs.ComposeLaws.{substituted_twice, is_substituted, applied_from, indicator_in}
use Rattle.si_descend.specs.declared.search.Search.{Search}
use Rattle.si_descend.specs.Descending.{Freezes, HasSlotsForTree, SolvesFrom}
use Rattle.si_descend.specs.Searching.{IsReady, HasComeTo, IsOpenAt, AreOpenBelow, depth}
use Rattle.si_descend.specs.Subtrees.{AreEndsOf, AreClear, AreAllOpen}
use Rattle.si_descend.proofs.Tabulated.{tabulated, tabulated_on, substituted_none, cut_down}
use Rattle.si_descend.proofs.Along.{is_step, solves_path_term}
use Rattle.si_descend.proofs.Openness.{of_kind, map_among, no_query}
use Rattle.si_descend.proofs.Below.{IsChildOf, child_passes}
use Rattle.si_descend.proofs.Depths.{child_deeper}
use Rattle.si_descend.proofs.Finding.{passed_open}
use Rattle.si_descend.proofs.FreeLaws.{constant}
use Rattle.si_descend.proofs.Visiting.{query_numbered}
use Rattle.si_descend.proofs.Assigning.{IsOfEntry, Assigns, assigned}

-- ---- paths further down
-- the term of the one path is that of the other with its variables replaced
pub record IsFilled (p above : Path) : Type 0 where
  pub map : Variable → Term
  pub is : path_term p ≡ terms.substitute map (path_term above)
  pub entries : (m : ℕ) → map (entry m) ≡ terms.var (entry m)

pub filled : (tree : Tree Term) (from : Option ℕ) (p : Path) (top : ℕ) (above : Path) → IsPath tree from p → IsPath tree (Some top) above → PassesBy p top → IsFilled p above
filled tree from [] top above reached there passes = absurd passes
filled tree from (step ∷ p) top above reached there (inl e) = record {
  map = terms.var;
  is =
      ap path_term (one_path tree (Some top) (step ∷ p) above (ap Some (sym e), reached.1, reached.2) there)
      ∙ sym (substituted_none terms.var (path_term above) (λ x a. refl));
  entries = λ m. refl;
}
filled tree from (step ∷ p) top above reached there (inr passes) =
    let h = filled tree step.1.parent p top above reached.2 there passes in
    record {
      map = λ x. applied step.1.bindings (h.map x);
      is =
          ap (applied step.1.bindings) h.is
          ∙ substituted_twice h.map (image same_variable (substitution_of step.1.bindings)) (λ x. applied step.1.bindings (h.map x)) (path_term above) (λ x a. refl);
      entries = λ m. ap (applied step.1.bindings) (h.entries m) ∙ (image_keeps step.1.bindings).entries m;
    }

-- a path that passes by a node passes by those that the node's own passes by
passes_on : (tree : Tree Term) (from : Option ℕ) (p : Path) (key : ℕ) (path : Path) (top : ℕ) → IsPath tree from p → IsPath tree (Some key) path → PassesBy p key → PassesBy path top → PassesBy p top
passes_on tree from [] key path top reached there passes passes' = absurd passes
passes_on tree from (step ∷ p) key path top reached there (inl e) passes' =
    subst (λ r. PassesBy r top) (sym (one_path tree (Some key) (step ∷ p) path (ap Some (sym e), reached.1, reached.2) there)) passes'
passes_on tree from (step ∷ p) key path top reached there (inr passes) passes' =
    inr (passes_on tree step.1.parent p key path top reached.2 there passes passes')

-- and it has a path
path_to : (tree : Tree Term) (from : Option ℕ) (p : Path) (top : ℕ) → IsPath tree from p → PassesBy p top → (above : Path) × IsPath tree (Some top) above
path_to tree from [] top reached passes = absurd passes
path_to tree from (step ∷ p) top reached (inl e) = (step ∷ p, (ap Some (sym e), reached.1, reached.2))
path_to tree from (step ∷ p) top reached (inr passes) = path_to tree step.1.parent p top reached.2 passes

-- ---- a leaf below
pub record HasLeafBelow (tree : Tree Term) (key : ℕ) : Type 0 where
  pub leaf : ℕ
  pub path : Path
  pub reached : IsPath tree (Some leaf) path
  pub passes : PassesBy path key
  pub term : IsLeafTerm (path_term path)

leaf_from : (tree : Tree Term) → IsLegal tree → (key : ℕ) (node : Node Term) → HasNode tree key node → tree.root ≢ key → ((child : ℕ) → IsChildOf tree key child → HasLeafBelow tree child) → HasLeafBelow tree key
leaf_from tree legal key node has other deeper = by (legal.nodes key node has) node.content refl where
  content : (h : IsLegalNode tree key node) (c : Content) → node.content ≡ c → IsLegalContent tree key ((key, node) ∷ h.above) c
  content h c e = subst (IsLegalContent tree key ((key, node) ∷ h.above)) e h.content

  by : IsLegalNode tree key node → (c : Content) → node.content ≡ c → HasLeafBelow tree key
  by h (leaf ps) e = record { leaf = key; path = (key, node) ∷ h.above; reached = (refl, has, h.reached); passes = inl refl; term = (content h (leaf ps) e).1 }
  by h (inner split []) e = absurd (omega (arith, (content h (inner split []) e).3 (λ same. other (sym same))))
  by h (inner split (child ∷ children)) e =
      let is : IsChildOf tree key child = ((content h (inner split (child ∷ children)) e).1 child).0 (inl refl) in
      let low = deeper child is in
      record { leaf = low.leaf; path = low.path; reached = low.reached; passes = child_passes tree (Some low.leaf) low.path key child low.reached is low.passes; term = low.term }

leaf_below : (tree : Tree Term) → IsLegal tree → (left key : ℕ) (node : Node Term) → HasNode tree key node → tree.root ≢ key → node_count tree ≤ depth tree key + left → HasLeafBelow tree key
leaf_below tree legal zero key node has other few =
    leaf_from tree legal key node has other (λ child is. let d = child_deeper tree (legal_nodes tree legal) key child is in absurd (omega (arith, few, d.one, d.few)))
leaf_below tree legal (suc left) key node has other few =
    leaf_from tree legal key node has other (λ child is.
    let d = child_deeper tree (legal_nodes tree legal) key child is in
    leaf_below tree legal left child is.0 is.1 (root_no_child tree legal child key is.0 is.1 is.2) (omega (arith, few, d.one)))

-- ---- parts of a term
mutual
  part_sound : (f : Variable → Term) (t : Term) (x : Variable) → IsSound (terms.substitute f t) → IsAmong (terms.variables t) x → IsSound (f x)
  part_sound f (terms.var y) x h (inl e) = subst (λ z. IsSound (f z)) e h
  part_sound f (terms.var y) x h (inr a) = absurd a
  part_sound f (terms.app s ts) x h a = all_parts_sound f ts x h.1 a

  all_parts_sound : (f : Variable → Term) (ts : Terms) (x : Variable) → AreSound (terms.substitute_all f ts) → IsAmong (terms.variables_of_all ts) x → IsSound (f x)
  all_parts_sound f terms.none x h a = absurd a
  all_parts_sound f (terms.more t ts) x h a = elim (among_parts (terms.variables t) (terms.variables_of_all ts) x a) as (λ _. IsSound (f x)) [
    | inl b ↦ part_sound f t x h.0 b
    | inr b ↦ all_parts_sound f ts x h.1 b
  ]

-- the variables of a path's term have slots
entry_in_range : (tree : Tree Term) → HasLegalNodes tree → (slots : Slots) (q : Term) → HasSlotsForTree slots tree q → (from : Option ℕ) (p : Path) → IsPath tree from p → (m : ℕ) → IsAmong (terms.variables (path_term p)) (entry m) → IsInRange slots (entry m)
entry_in_range tree legal slots q room from [] reached m (inl e) = absurd (by e) where
  by : ind 0 ≡ entry m → ⊥
  by p = cc
entry_in_range tree legal slots q room from [] reached m (inr a) = absurd a
entry_in_range tree legal slots q room from (step ∷ above) reached m a =
    elim (applied_from step.1.bindings (path_term above) (entry m) (is_step tree legal step above reached.1 reached.2).binds.distinct a) as (λ _. IsInRange slots (entry m)) [
      | inl b ↦ entry_in_range tree legal slots q room step.1.parent above reached.2 m b
      | inr b ↦ all_at (IsInRange slots) (terms.variables b.0.1) (entry m) (all_at (λ c. IsInRange slots (ind c.0) × AllByRecursion (IsInRange slots) (terms.variables c.1)) step.1.bindings b.0 (room.nodes step.0 step.1 reached.1) b.1).1 b.2
    ]

-- where the query's variables aren't constants
pub has_kind : (search : Search) → IsReady search → search.slots.freeze_query ≡ false → (search.relation ≡ Instances) ⊎ (search.relation ≡ Unifiable)
has_kind search ready free = by search.relation refl where
  no_both : search.slots.freeze_query ≡ true → ⊥
  no_both e = bad (sym free ∙ e) where
    bad : false ≡ true → ⊥
    bad p = cc

  by : (relation : Relation) → search.relation ≡ relation → (search.relation ≡ Instances) ⊎ (search.relation ≡ Unifiable)
  by Variants e = absurd (no_both (subst (λ k. Freezes k search.slots) e ready.freezes).0)
  by Instances e = inl e
  by Generalizations e = absurd (no_both (subst (λ k. Freezes k search.slots) e ready.freezes).0)
  by Unifiable e = inr e

module _ (search : Search) (ready : IsReady search) (top : ℕ) (pairs : Pairs) (count : ℕ) (solving : AllowsSolving search.slots pairs count) (distinct : HasDistinctSlots pairs) (there : HasComeTo search (Some top) pairs) (ns ends : List ℕ) (are : AreEndsOf search.slots pairs ns ends) (all : AreAllOpen search.tree.now top ns) (clear : AreClear search.slots pairs ends) where
  legal : HasLegalNodes search.tree.now
  legal = legal_nodes search.tree.now ready.legal

  -- ---- at a leaf
  module _ (q : Term) (stands : StandsFor search.query.now q) (from : Option ℕ) (p : Path) (reached : IsPath search.tree.now from p) (passes : PassesBy p top) (term : IsLeafTerm (path_term p)) (above : Path) (up : IsPath search.tree.now (Some top) above) where
    f : IsFilled p above
    f = filled search.tree.now from p top above reached up passes

    abbrev IsOpened : ℕ → Type 0
    IsOpened n = IsAmong (indicators (path_term above)) n

    room : HasSlotsForTree search.slots search.tree.now q
    room = subst (HasSlotsForTree search.slots search.tree.now) (one_term search.query.now ready.term q ready.query.stands stands) ready.room

    of_entry : (n : ℕ) → IsOpened n → IsOfEntry search.slots (f.map (ind n))
    of_entry n a = record {
      sound = part_sound f.map (path_term above) (ind n) (subst IsSound f.is term.sound) (indicator_variable (terms.variables (path_term above)) n a);
      entries = λ x b. (
          let here : IsAmong (terms.variables (path_term p)) x = subst (λ t. IsAmong (terms.variables t) x) (sym f.is) (is_substituted f.map (path_term above) x (ind n, indicator_variable (terms.variables (path_term above)) n a, b)) in
          let m = of_kind entry (path_term p) x term.numbered here in (
            m.0,
            sym m.1,
            entry_in_range search.tree.now legal search.slots q room from p reached m.0 (subst (IsAmong (terms.variables (path_term p))) (sym m.1) here),
          ));
    }

    -- the term that the indicator is to have
    given : (n : ℕ) → (t : Term) × IsOfEntry search.slots t × (IsOpened n → t ≡ f.map (ind n))
    given n = elim (among_or_not (indicators (path_term above)) n) as (λ _. (t : Term) × IsOfEntry search.slots t × (IsOpened n → t ≡ f.map (ind n))) [
      | inl a ↦ (f.map (ind n), of_entry n a, λ b. refl)
      | inr o ↦ (constant 0, record { sound = (refl, tt); entries = λ x b. absurd b }, λ b. absurd (o b))
    ]

    v : ℕ → Term
    v n = (given n).0

    plain : (n : ℕ) → IsOfEntry search.slots (v n)
    unfolding v
    plain n = (given n).1

    v_is : (n : ℕ) → IsOpened n → v n ≡ f.map (ind n)
    unfolding v
    v_is n a = (given n).2 a

    some : (s : Substitution Symbol Variable) × Assigns search.slots pairs solving.bindings distinct solving.triangular ns ends are clear v plain s
    some = assigned search.slots pairs solving.bindings distinct solving.triangular ns ends are clear v plain

    s : Substitution Symbol Variable
    s = some.0

    gives : Assigns search.slots pairs solving.bindings distinct solving.triangular ns ends are clear v plain s
    unfolding s
    gives = some.1

    solves : SolvesFrom search.slots q above s
    solves = (there.shows q above stands up s).0 gives.solution

    equal : apply same_variable s (path_term p) ≡ apply same_variable s q
    equal =
        ap (apply same_variable s) f.is
        ∙ substituted_twice f.map (image same_variable s) (image same_variable s) (path_term above) by
        ∙ solves_path_term s above solves.bindings ∙ solves.zero
      where
        by : (x : Variable) → IsAmong (terms.variables (path_term above)) x → apply same_variable s (f.map x) ≡ image same_variable s x
        by (query n) a = absurd (no_query search.tree.now legal (Some top) above up n a)
        by (entry m) a = ap (apply same_variable s) (f.entries m)
        by (ind n) a =
            let o = indicator_in (terms.variables (path_term above)) n a in
            ap (apply same_variable s) (sym (v_is n o)) ∙ sym (gives.gives n (all above up n o))

    leaf_instance : search.slots.freeze_entry ≡ true → IsOpen Instances q (path_term p)
    leaf_instance frozen =
        let xs = terms.variables q ++ map ind (indicators (path_term p)) in (
          tabulated (image same_variable s) xs,
          tabulated_on (image same_variable s) xs,
          cut_down s xs q (λ x a. inl (among_front (terms.variables q) (map ind (indicators (path_term p))) x a)) ∙ sym equal ∙ sym (cut_down s xs (path_term p) by),
        )
      where
        by : (x : Variable) → IsAmong (terms.variables (path_term p)) x → IsAmong (terms.variables q ++ map ind (indicators (path_term p))) x ⊎ (image same_variable s x ≡ terms.var x)
        by (query n) a = absurd (no_query search.tree.now legal from p reached n a)
        by (entry m) a = inr (gives.solution.frozen (entry m) frozen)
        by (ind n) a = inl (among_back (terms.variables q) (map ind (indicators (path_term p))) (ind n) (map_among (indicators (path_term p)) n (indicator_in (terms.variables (path_term p)) n a)))

    pub leaf_open : (search.relation ≡ Instances) ⊎ (search.relation ≡ Unifiable) → IsOpen search.relation q (path_term p)
    leaf_open (inl e) = subst (λ k. IsOpen k q (path_term p)) (sym e) (leaf_instance (subst (λ k. Freezes k search.slots) e ready.freezes).1)
    leaf_open (inr e) = subst (λ k. IsOpen k q (path_term p)) (sym e) (s, sym equal)

  -- ---- at all nodes
  path_of_root : (key : ℕ) (path : Path) → IsPath search.tree.now (Some key) path → search.tree.now.root ≡ key → PassesBy path top → key ≡ top
  path_of_root key [] reached e passes = absurd passes
  path_of_root key (step ∷ []) reached e (inl same) = by reached.0 ∙ same where
    by : Some key ≡ Some step.0 → key ≡ step.0
    by p = cc
  path_of_root key (step ∷ []) reached e (inr passes) = absurd passes
  path_of_root key (step ∷ next ∷ up) reached e passes = absurd (none (sym (ap (λ n. n.parent) same ∙ ready.legal.root.2.parent) ∙ reached.2.0)) where
    here : step.0 ≡ search.tree.now.root
    here = by reached.0 ∙ sym e where
      by : Some key ≡ Some step.0 → step.0 ≡ key
      by p = cc

    same : step.1 ≡ ready.legal.root.0
    same = one_node search.tree.now search.tree.now.root step.1 ready.legal.root.0 (subst (λ k. HasNode search.tree.now k step.1) here reached.1) ready.legal.root.1

    none : None ≡ Some next.0 → ⊥
    none p = cc

  pub open_below : (search.relation ≡ Instances) ⊎ (search.relation ≡ Unifiable) → IsOpenAt search top → AreOpenBelow search top
  open_below relation here q key path stands reached passes = elim (cases_eq search.tree.now.root key) as (λ _. IsOpen search.relation q (path_term path)) [
    | inl e ↦ here q path stands (subst (λ k. IsPath search.tree.now (Some k) path) (path_of_root key path reached e passes) reached)
    | inr other ↦
        let node = path_node search.tree.now key path reached in
        let low = leaf_below search.tree.now ready.legal (node_count search.tree.now) key node.0 node.1 other (omega arith) in
        let up = path_to search.tree.now (Some key) path top reached passes in
        passed_open search.tree.now ready.legal search.relation q (query_numbered search ready q stands) (Some low.leaf) low.path key path low.reached reached low.passes
        (leaf_open q stands (Some low.leaf) low.path low.reached (passes_on search.tree.now (Some low.leaf) low.path key path top low.reached reached low.passes passes) low.term up.0 up.1 relation)
  ]
