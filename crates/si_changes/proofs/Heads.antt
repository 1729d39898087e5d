-- Different heads at a split, different terms below: so no two leaves have the same term.
use Rattle.std.proofs.Common.{◌≡◌, ◌≢◌, ◌⊎◌, inl, inr, ℕ, true, false, List, [], ◌∷◌, Option, None, Some, refl, ap, sym, ◌∙◌, subst}
use Rattle.std.proofs.lemmas.Bool.Decides.{eqb_tells}
use Rattle.std.proofs.lemmas.Option.{same_Some}
use Rattle.si_defs.specs.Terms as terms
use Rattle.si_defs.specs.Substitutions.{image, IsAmong}
use Rattle.si_defs.proofs.ListLaws.{all_at}
use Rattle.si_flat.specs.Cells.{Variable, ind, same_variable, Term}
use Rattle.si_legal.specs.declared.Posting.{Posting}
use Rattle.si_legal.specs.Bindings.{Binding, IsIndicator, substitution_of, applied}
use Rattle.si_legal.specs.Generalizations.{same_head}
use Rattle.si_legal.specs.Trees.{Content, inner, leaf, Node, Tree, HasNode, Path, IsPath, PassesBy, path_term, IsLeaf}
use Rattle.si_legal.specs.Legal.{ChildBinds, IsLegalContent}
use Rattle.si_legal.proofs.PathLaws.{one_node, one_path}
use Rattle.si_changes.proofs.HeadLaws.{ReplacesIndicators, head_stays, same_head_self, no_common_head, image_keeps, image_bound, substitute_twice, same_images, indicator_variable}
use Rattle.si_changes.proofs.Frames.{HasLegalNodes, IsChild, differ_told}

-- ---- what stands in the place of an indicator
-- The lower term is the upper one with indicators replaced, where what replaces this one has this
-- term's head.
pub record Descends (upper lower : Term) (split : ℕ) (t : Term) : Type 0 where
  pub by : Variable → Term
  pub replaces : ReplacesIndicators by
  pub is : lower ≡ terms.substitute by upper
  pub head : same_head (by (ind split)) t ≡ true

-- further bindings leave the head
pub descends_more : (upper lower : Term) (split : ℕ) (t : Term) (bs : List Binding) → (IsIndicator t → ⊥) → Descends upper lower split t → Descends upper (applied bs lower) split t
descends_more upper lower split t bs plain h =
    let f = image same_variable (substitution_of bs) in
    let keeps = image_keeps bs in
    record {
      by = λ x. terms.substitute f (h.by x);
      replaces = record {
        queries = λ n. ap (terms.substitute f) (h.replaces.queries n) ∙ keeps.queries n;
        entries = λ n. ap (terms.substitute f) (h.replaces.entries n) ∙ keeps.entries n;
      };
      is = ap (terms.substitute f) h.is ∙ substitute_twice h.by f upper;
      head = head_stays f (h.by (ind split)) t keeps plain h.head;
    }

-- two with different heads differ
pub descend_apart : (upper lower lower' : Term) (split : ℕ) (t u : Term) → IsAmong (terms.variables upper) (ind split) → same_head t u ≡ false → Descends upper lower split t → Descends upper lower' split u → lower ≡ lower' → ⊥
descend_apart upper lower lower' split t u there differ p q same =
    let images : p.by (ind split) ≡ q.by (ind split) = same_images p.by q.by upper (ind split) (sym p.is ∙ same ∙ q.is) there in
    no_common_head (p.by (ind split)) t u p.head (subst (λ x. same_head x u ≡ true) (sym images) q.head) differ

module _ (tree : Tree Term) (legal : HasLegalNodes tree) where
  -- ---- one child
  pub no_bare : (child n : ℕ) (t : Term) → ChildBinds tree child n t → IsIndicator t → ⊥
  no_bare child n t h = all_at (λ b. IsIndicator b.1 → ⊥) h.0.bindings (n, t) (legal.nodes child h.0 h.1).binds.rights h.2

  -- a path that passes by a child goes on from what that binds
  pub descends : (key child split : ℕ) (t : Term) (above : Path) → IsPath tree (Some key) above → IsChild tree key child → ChildBinds tree child split t → (from : Option ℕ) (p : Path) → IsPath tree from p → PassesBy p child → Descends (path_term above) (path_term p) split t
  descends key child split t above up is_child binds from [] reached passes = absurd passes
  descends key child split t above up is_child binds from (step ∷ p) reached (inl e) =
      let has : HasNode tree child step.1 = subst (λ k. HasNode tree k step.1) e reached.1 in
      let parent : step.1.parent ≡ Some key = ap (λ node. node.parent) (one_node tree child step.1 is_child.0 has is_child.1) ∙ is_child.2 in
      let same : p ≡ above = one_path tree (Some key) p above (subst (λ k. IsPath tree k p) parent reached.2) up in
      let there : IsAmong step.1.bindings (split, t) = subst (λ node. IsAmong node.bindings (split, t)) (one_node tree child binds.0 step.1 binds.1 has) binds.2 in
      record {
        by = image same_variable (substitution_of step.1.bindings);
        replaces = image_keeps step.1.bindings;
        is = ap (λ q. applied step.1.bindings (path_term q)) same;
        head = subst (λ x. same_head x t ≡ true) (sym (image_bound step.1.bindings split t (legal.nodes step.0 step.1 reached.1).binds.distinct there)) (same_head_self t);
      }
  descends key child split t above up is_child binds from (step ∷ p) reached (inr passes) =
      descends_more (path_term above) (path_term p) split t step.1.bindings (no_bare child split t binds)
      (descends key child split t above up is_child binds step.1.parent p reached.2 passes)

  -- ---- two paths
  pub passes_root : (key : ℕ) (p : Path) → IsPath tree (Some key) p → PassesBy p tree.root
  passes_root key [] reached = absurd (by reached) where
    by : Some key ≡ None → ⊥
    by e = cc
  passes_root key (step ∷ []) reached = inl ((legal.nodes step.0 step.1 reached.1).only_root reached.2)
  passes_root key (step ∷ next ∷ p) reached = inr (passes_root next.0 (next ∷ p) (refl, reached.2.1, reached.2.2))

  -- a path that passes by a node begins there, or passes by a child of it
  pub passes_child : (key at : ℕ) (p : Path) → IsPath tree (Some key) p → PassesBy p at → (key ≡ at) ⊎ ((child : ℕ) × IsChild tree at child × PassesBy p child)
  passes_child key at [] reached passes = absurd passes
  passes_child key at (step ∷ p) reached (inl e) = inl (same_Some key step.0 reached.0 ∙ e)
  passes_child key at (step ∷ []) reached (inr passes) = absurd passes
  passes_child key at (step ∷ next ∷ p) reached (inr passes) =
      elim (passes_child next.0 at (next ∷ p) (refl, reached.2.1, reached.2.2) passes) as (λ _. (key ≡ at) ⊎ ((child : ℕ) × IsChild tree at child × PassesBy (step ∷ next ∷ p) child)) [
        | inl e ↦ inr (step.0, (step.1, reached.1, reached.2.0 ∙ ap Some e), inl refl)
        | inr c ↦ inr (c.0, c.1, inr c.2)
      ]

  -- At an inner node two paths go on by different children.
  pub record PathsPart (p q : Path) : Type 0 where
    pub key : ℕ
    pub node : Node Term
    pub above : Path
    pub reached : IsPath tree (Some key) ((key, node) ∷ above)
    pub child : ℕ
    pub other : ℕ
    pub is_child : IsChild tree key child
    pub is_other : IsChild tree key other
    pub different : child ≢ other
    pub passes : PassesBy p child
    pub other_passes : PassesBy q other

  parts_below : (p q : Path) (step : ℕ × Node Term) → PathsPart p q → PathsPart p (step ∷ q)
  parts_below p q step h = record {
    key = h.key;
    node = h.node;
    above = h.above;
    reached = h.reached;
    child = h.child;
    other = h.other;
    is_child = h.is_child;
    is_other = h.is_other;
    different = h.different;
    passes = h.passes;
    other_passes = inr h.other_passes;
  }

  -- Of two paths one passes by the other's start, or they part.
  pub parting : (k j : ℕ) (p q : Path) → IsPath tree (Some k) p → IsPath tree (Some j) q → PassesBy p j ⊎ (PassesBy q k ⊎ PathsPart p q)
  parting k j p [] reached reached' = absurd (by reached') where
    by : Some j ≡ None → ⊥
    by e = cc
  parting k j p (step ∷ []) reached reached' = inl (subst (PassesBy p) (sym (same_Some j step.0 reached'.0 ∙ (legal.nodes step.0 step.1 reached'.1).only_root reached'.2)) (passes_root k p reached))
  parting k j p (step ∷ next ∷ q) reached reached' =
      elim (parting k next.0 p (next ∷ q) reached (refl, reached'.2.1, reached'.2.2)) as (λ _. PassesBy p j ⊎ (PassesBy (step ∷ next ∷ q) k ⊎ PathsPart p (step ∷ next ∷ q))) [
        | inl a ↦ elim (passes_child k next.0 p reached a) as (λ _. PassesBy p j ⊎ (PassesBy (step ∷ next ∷ q) k ⊎ PathsPart p (step ∷ next ∷ q))) [
          | inl e ↦ inr (inl (inr (inl (sym e))))
          | inr c ↦ elim (eqb_tells c.0 step.0) as (λ _. PassesBy p j ⊎ (PassesBy (step ∷ next ∷ q) k ⊎ PathsPart p (step ∷ next ∷ q))) [
            | inl e ↦ inl (subst (PassesBy p) (e.1 ∙ sym (same_Some j step.0 reached'.0)) c.2)
            | inr e ↦ inr (inr (record {
              key = next.0;
              node = next.1;
              above = q;
              reached = (refl, reached'.2.1, reached'.2.2);
              child = c.0;
              other = step.0;
              is_child = c.1;
              is_other = (step.1, reached'.1, reached'.2.0);
              different = e.1;
              passes = c.2;
              other_passes = inl refl;
            }))
          ]
        ]
        | inr h ↦ elim h as (λ _. PassesBy p j ⊎ (PassesBy (step ∷ next ∷ q) k ⊎ PathsPart p (step ∷ next ∷ q))) [
          | inl a ↦ inr (inl (inr a))
          | inr parts ↦ inr (inr (parts_below p (next ∷ q) step parts))
        ]
      ]

  -- ---- terms
  -- paths that part have different terms
  pub part_apart : (k j : Option ℕ) (p q : Path) → IsPath tree k p → IsPath tree j q → PathsPart p q → path_term p ≡ path_term q → ⊥
  part_apart k j p q reached reached' h same =
      let node = legal.nodes h.key h.node h.reached.1 in
      let path : node.above ≡ h.above = one_path tree h.node.parent node.above h.above node.reached h.reached.2 in
      by h.node.content (subst (λ a. IsLegalContent tree h.key ((h.key, h.node) ∷ a) h.node.content) path node.content) where
        by : (content : Content) → IsLegalContent tree h.key ((h.key, h.node) ∷ h.above) content → ⊥
        by (leaf postings) legal_content = (legal_content.0 h.child).1 h.is_child
        by (inner split children) legal_content =
            let differ = differ_told tree split children legal legal_content.2 in
            let is_among = (legal_content.1 h.child).1 h.is_child in
            let is_other = (legal_content.1 h.other).1 h.is_other in
            let one = differ.each h.child is_among in
            let two = differ.each h.other is_other in
            descend_apart (path_term ((h.key, h.node) ∷ h.above)) (path_term p) (path_term q) split one.0 two.0
            (indicator_variable (terms.variables (path_term ((h.key, h.node) ∷ h.above))) split legal_content.0)
            (differ.apart h.child h.other one.0 two.0 is_among is_other h.different one.1 two.1)
            (descends h.key h.child split one.0 ((h.key, h.node) ∷ h.above) h.reached h.is_child one.1 k p reached h.passes)
            (descends h.key h.other split two.0 ((h.key, h.node) ∷ h.above) h.reached h.is_other two.1 j q reached' h.other_passes)
            same

  -- a leaf has no children
  pub childless : (key child : ℕ) (node : Node Term) (postings : List Posting) → HasNode tree key node → node.content ≡ leaf postings → IsChild tree key child → ⊥
  childless key child node postings has is_leaf h =
      let node_legal = legal.nodes key node has in
      let content : IsLegalContent tree key ((key, node) ∷ node_legal.above) (leaf postings) = subst (IsLegalContent tree key ((key, node) ∷ node_legal.above)) is_leaf node_legal.content in
      (content.0 child).1 h

  -- a path that passes by a leaf begins there
  pub only_start : (key at : ℕ) (node : Node Term) (p : Path) (postings : List Posting) → IsPath tree (Some key) p → HasNode tree at node → node.content ≡ leaf postings → PassesBy p at → key ≡ at
  only_start key at node p postings reached has is_leaf passes =
      elim (passes_child key at p reached passes) as (λ _. key ≡ at) [
        | inl e ↦ e
        | inr c ↦ absurd (childless at c.0 node postings has is_leaf c.1)
      ]

  -- no two leaves have the same term
  pub leaves_apart : (j k : ℕ) (t : Term) (ps qs : List Posting) → IsLeaf tree j t ps → IsLeaf tree k t qs → j ≡ k
  leaves_apart j k t ps qs one two =
      elim (parting j k ((j, one.node) ∷ one.above) ((k, two.node) ∷ two.above) one.reached two.reached) as (λ _. j ≡ k) [
        | inl passes ↦ only_start j k two.node ((j, one.node) ∷ one.above) qs one.reached two.reached.1 two.content passes
        | inr h ↦ elim h as (λ _. j ≡ k) [
          | inl passes ↦ sym (only_start k j one.node ((k, two.node) ∷ two.above) ps two.reached one.reached.1 one.content passes)
          | inr parts ↦ absurd (part_apart (Some j) (Some k) ((j, one.node) ∷ one.above) ((k, two.node) ∷ two.above) one.reached two.reached parts (sym one.term ∙ two.term))
        ]
      ]
