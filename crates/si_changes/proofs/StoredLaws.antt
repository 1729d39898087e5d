-- What is stored where all leaves but one stay.
use Rattle.std.proofs.Common.{◌≡◌, ◌≢◌, ◌⊎◌, ◌↔◌, inl, inr, ℕ, ◌≤◌, List, [], ◌∷◌, Option, None, Some, slice_index_or, refl, ap, sym, ◌∙◌, subst, arith}
use Rattle.std.proofs.lemmas.Bool.Decides.{eqb_tells}
use Rattle.std.proofs.lemmas.Option.{same_Some}
use Rattle.si_defs.specs.declared.TheConstants.{MOST_OCCURRENCES}
use Rattle.si_defs.specs.Substitutions.{IsAmong}
use Rattle.si_defs.proofs.ListLaws.{same_first}
use Rattle.si_flat.specs.Cells.{Term}
use Rattle.si_legal.specs.declared.Posting.{Posting}
use Rattle.si_legal.specs.Trees.{Content, inner, leaf, Node, Tree, HasNode, Path, IsPath, path_term, IsLeaf, StandsIn}
use Rattle.si_legal.specs.Legal.{IsLegal}
use Rattle.si_legal.specs.StoredSets.{AreUnder, IsUnder, OthersStay, StaysStored, KeepsLeaves}
use Rattle.si_legal.proofs.PathLaws.{one_node, one_path}
use Rattle.si_changes.specs.Nodes.{IsVacant, with_content, ChangesChildren}
use Rattle.si_changes.proofs.EqualTerms.{term_or_not}
use Rattle.si_changes.proofs.Frames.{HasLegalNodes, Lifted}
use Rattle.si_changes.proofs.Heads.{leaves_apart}

-- ---- one leaf
pub same_leaf : (ps qs : List Posting) → leaf ps ≡ leaf qs → ps ≡ qs
same_leaf ps qs e = cc

pub inner_no_leaf : (split : ℕ) (children : List ℕ) (ps : List Posting) → inner split children ≡ leaf ps → ⊥
inner_no_leaf split children ps e = cc

-- a path that starts at a node
pub path_start : (tree : Tree Term) (key : ℕ) (node : Node Term) (p : Path) → HasNode tree key node → IsPath tree (Some key) p → (above : Path) × (p ≡ (key, node) ∷ above)
path_start tree key node [] has reached = absurd (by reached) where
  by : Some key ≡ None → ⊥
  by e = cc
path_start tree key node (step ∷ above) has reached =
    let same = same_Some key step.0 reached.0 in
    (above, (λ i. (sym same i, one_node tree key step.1 node (subst (λ k. HasNode tree k step.1) (sym same) reached.1) has i) ∷ above))

-- a leaf has one term, and its postings are in one list
pub one_leaf : (tree : Tree Term) (key : ℕ) (t u : Term) (ps qs : List Posting) → IsLeaf tree key t ps → IsLeaf tree key u qs → (t ≡ u) × (ps ≡ qs)
one_leaf tree key t u ps qs one two =
    let same = one_path tree (Some key) ((key, one.node) ∷ one.above) ((key, two.node) ∷ two.above) one.reached two.reached in (
      one.term ∙ ap path_term same ∙ sym two.term,
      same_leaf ps qs (sym one.content ∙ ap (λ s. s.1.content) (same_first same) ∙ two.content),
    )

-- a posting under a term is one of those of its leaf
pub among_leaf : (tree : Tree Term) (t : Term) (ps : List Posting) (q : Posting) → IsLegal tree → AreUnder tree t ps → IsUnder tree t q → IsAmong ps q
among_leaf tree t ps q legal (inl there) h =
    let same = legal.terms_differ h.0 there.0 t h.1.0 ps h.1.1 there.1 in
    let here : IsLeaf tree there.0 t h.1.0 = subst (λ k. IsLeaf tree k t h.1.0) same h.1.1 in
    subst (λ qs. IsAmong qs q) (one_leaf tree there.0 t t h.1.0 ps here there.1).1 h.1.2
among_leaf tree t ps q legal (inr none) h = absurd (none.0 h.0 h.1.0 h.1.1)

pub no_leaf_here : (tree : Tree Term) (key : ℕ) (node : Node Term) (split : ℕ) (children : List ℕ) (t : Term) (ps : List Posting) → HasNode tree key node → node.content ≡ inner split children → IsLeaf tree key t ps → ⊥
no_leaf_here tree key node split children t ps has is h = inner_no_leaf split children ps (sym is ∙ ap (λ n. n.content) (one_node tree key node h.node has h.reached.1) ∙ h.content)

pub no_leaf_vacant : (tree : Tree Term) (key : ℕ) (t : Term) (ps : List Posting) → IsVacant tree key → IsLeaf tree key t ps → ⊥
no_leaf_vacant tree key t ps vacant h = by (sym vacant ∙ h.reached.1) where
  by : None ≡ Some h.node → ⊥
  by e = cc

-- ---- leaves that stay
-- the leaf with this key has the same term and the same postings in both trees
abbrev pub LeafStays : Tree Term → Tree Term → ℕ → Type 0
LeafStays old new key = (t : Term) (ps : List Posting) → IsLeaf old key t ps ↔ IsLeaf new key t ps

abbrev pub OtherLeavesStay : Tree Term → Tree Term → ℕ → Type 0
OtherLeavesStay old new key = (k : ℕ) → k ≢ key → LeafStays old new k

leaf_over : (one other : Tree Term) (key : ℕ) (node node' : Node Term) (p q : Path) → HasNode one key node → HasNode other key node' → IsPath one (Some key) p → IsPath other (Some key) q → node'.content ≡ node.content → path_term q ≡ path_term p → (t : Term) (ps : List Posting) → IsLeaf one key t ps → IsLeaf other key t ps
leaf_over one other key node node' p q has has' reached reached' content term t ps h =
    let start = path_start other key node' q has' reached' in
    let same = one_path one (Some key) ((key, h.node) ∷ h.above) p h.reached reached in
    record {
      node = node';
      above = start.0;
      reached = subst (IsPath other (Some key)) start.1 reached';
      content = content ∙ ap (λ n. n.content) (one_node one key node h.node has h.reached.1) ∙ h.content;
      term = h.term ∙ ap path_term same ∙ sym term ∙ ap path_term start.1;
    }

-- A leaf stays where its paths have the same term.
pub leaf_stays : (old new : Tree Term) (key : ℕ) (node node' : Node Term) (p q : Path) → HasNode old key node → HasNode new key node' → IsPath old (Some key) p → IsPath new (Some key) q → node'.content ≡ node.content → path_term q ≡ path_term p → LeafStays old new key
leaf_stays old new key node node' p q has has' reached reached' content term = λ t ps. (
  leaf_over old new key node node' p q has has' reached reached' content term t ps,
  leaf_over new old key node' node q p has' has reached' reached (sym content) (sym term) t ps,
)

pub no_leaf_stays : (old new : Tree Term) (key : ℕ) → ((t : Term) (ps : List Posting) → IsLeaf old key t ps → ⊥) → ((t : Term) (ps : List Posting) → IsLeaf new key t ps → ⊥) → LeafStays old new key
no_leaf_stays old new key was is = λ t ps. ((λ h. absurd (was t ps h)), (λ h. absurd (is t ps h)))

-- so where its own node stays, and its paths lift
pub leaf_stays_lifted : (old new : Tree Term) → HasLegalNodes old → (key : ℕ) → slice_index_or new.nodes key None ≡ slice_index_or old.nodes key None → ((p : Path) → IsPath old (Some key) p → Lifted old new (Some key) p) → LeafStays old new key
leaf_stays_lifted old new legal key same lift = by (slice_index_or old.nodes key None) refl where
  by : (there : Option (Node Term)) → slice_index_or old.nodes key None ≡ there → LeafStays old new key
  by None e = no_leaf_stays old new key (λ t ps. no_leaf_vacant old key t ps e) (λ t ps. no_leaf_vacant new key t ps (same ∙ e))
  by (Some node) e =
      let h = legal.nodes key node e in
      let reached : IsPath old (Some key) ((key, node) ∷ h.above) = (refl, e, h.reached) in
      let l = lift ((key, node) ∷ h.above) reached in
      leaf_stays old new key node node ((key, node) ∷ h.above) l.path e (same ∙ e) reached l.reached refl l.lifts.term

-- an inner node that gets other children is no leaf
pub no_leaf_linked : (old new : Tree Term) (key : ℕ) (gone come : List ℕ) → ChangesChildren old new key gone come → LeafStays old new key
no_leaf_linked old new key gone come linked =
    no_leaf_stays old new key
    (λ t ps. no_leaf_here old key linked.node linked.split linked.before t ps linked.had linked.content)
    (λ t ps. no_leaf_here new key (with_content linked.node (inner linked.split linked.after)) linked.split linked.after t ps linked.has refl)

-- ---- what is stored
under_over : (one other : Tree Term) (key : ℕ) (t : Term) → OtherLeavesStay one other key → ((u : Term) (ps : List Posting) → IsLeaf one key u ps → u ≡ t) → ((u : Term) (ps : List Posting) → IsLeaf other key u ps → u ≡ t) → (u : Term) (ps : List Posting) → u ≢ t → AreUnder one u ps → AreUnder other u ps
under_over one other key t stay was is u ps differs (inl h) =
    elim (eqb_tells h.0 key) as (λ _. AreUnder other u ps) [
      | inl e ↦ absurd (differs (was u ps (subst (λ k. IsLeaf one k u ps) e.1 h.1)))
      | inr e ↦ inl (h.0, (stay h.0 e.1 u ps).0 h.1)
    ]
under_over one other key t stay was is u ps differs (inr h) =
    inr (
      (λ k qs l. elim (eqb_tells k key) as (λ _. ⊥) [
        | inl e ↦ differs (is u qs (subst (λ x. IsLeaf other x u qs) e.1 l))
        | inr e ↦ h.0 k qs ((stay k e.1 u qs).1 l)
      ]),
      h.1,
    )

back_again : (old new : Tree Term) (key : ℕ) → OtherLeavesStay old new key → OtherLeavesStay new old key
back_again old new key stay k differs t ps = ((stay k differs t ps).1, (stay k differs t ps).0)

-- Where the one leaf has this term, if it is there, every other term keeps its postings.
pub others_stay : (old new : Tree Term) (key : ℕ) (t : Term) → OtherLeavesStay old new key → ((u : Term) (ps : List Posting) → IsLeaf old key u ps → u ≡ t) → ((u : Term) (ps : List Posting) → IsLeaf new key u ps → u ≡ t) → OthersStay old new t
others_stay old new key t stay was is u ps differs = (
  under_over old new key t stay was is u ps differs,
  under_over new old key t (back_again old new key stay) is was u ps differs,
)

-- Where the one leaf had no posting and goes, all that is stored stays.
pub stays_stored : (old new : Tree Term) (key : ℕ) → IsLegal old → OtherLeavesStay old new key → ((t : Term) (ps : List Posting) → IsLeaf old key t ps → ps ≡ []) → ((t : Term) (ps : List Posting) → IsLeaf new key t ps → ⊥) → StaysStored old new
stays_stored old new key legal stay empty gone t ps = (forth, back) where
  none_new : (qs : List Posting) → IsLeaf old key t qs → (k : ℕ) (rs : List Posting) → IsLeaf new k t rs → ⊥
  none_new qs was k rs l =
      elim (eqb_tells k key) as (λ _. ⊥) [
        | inl e ↦ gone t rs (subst (λ x. IsLeaf new x t rs) e.1 l)
        | inr e ↦ e.1 (legal.terms_differ k key t rs qs ((stay k e.1 t rs).1 l) was)
      ]

  forth : AreUnder old t ps → AreUnder new t ps
  forth (inl h) =
      elim (eqb_tells h.0 key) as (λ _. AreUnder new t ps) [
        | inl e ↦ (
            let was = subst (λ k. IsLeaf old k t ps) e.1 h.1 in
            inr (none_new ps was, empty t ps was))
        | inr e ↦ inl (h.0, (stay h.0 e.1 t ps).0 h.1)
      ]
  forth (inr h) =
      inr (
        (λ k qs l. elim (eqb_tells k key) as (λ _. ⊥) [
          | inl e ↦ gone t qs (subst (λ x. IsLeaf new x t qs) e.1 l)
          | inr e ↦ h.0 k qs ((stay k e.1 t qs).1 l)
        ]),
        h.1,
      )

  is_or_not : ((qs : List Posting) × IsLeaf old key t qs) ⊎ ((qs : List Posting) → IsLeaf old key t qs → ⊥)
  is_or_not = by (slice_index_or old.nodes key None) refl where
    by : (there : Option (Node Term)) → slice_index_or old.nodes key None ≡ there → ((qs : List Posting) × IsLeaf old key t qs) ⊎ ((qs : List Posting) → IsLeaf old key t qs → ⊥)
    by None e = inr (λ qs. no_leaf_vacant old key t qs e)
    by (Some node) e = of node.content refl where
      of : (content : Content) → node.content ≡ content → ((qs : List Posting) × IsLeaf old key t qs) ⊎ ((qs : List Posting) → IsLeaf old key t qs → ⊥)
      of (inner split children) is = inr (λ qs. no_leaf_here old key node split children t qs e is)
      of (leaf qs) is =
          let h = legal.nodes key node e in
          let it : IsLeaf old key (path_term ((key, node) ∷ h.above)) qs = record { node = node; above = h.above; reached = (refl, e, h.reached); content = is; term = refl } in
          elim (term_or_not t (path_term ((key, node) ∷ h.above))) as (λ _. ((rs : List Posting) × IsLeaf old key t rs) ⊎ ((rs : List Posting) → IsLeaf old key t rs → ⊥)) [
            | inl same ↦ inl (qs, subst (λ u. IsLeaf old key u qs) (sym same) it)
            | inr differs ↦ inr (λ rs l. differs (one_leaf old key t (path_term ((key, node) ∷ h.above)) rs qs l it).0)
          ]

  back : AreUnder new t ps → AreUnder old t ps
  back (inl h) =
      elim (eqb_tells h.0 key) as (λ _. AreUnder old t ps) [
        | inl e ↦ absurd (gone t ps (subst (λ k. IsLeaf new k t ps) e.1 h.1))
        | inr e ↦ inl (h.0, (stay h.0 e.1 t ps).1 h.1)
      ]
  back (inr h) =
      elim is_or_not as (λ _. AreUnder old t ps) [
        | inl was ↦ inl (key, subst (IsLeaf old key t) (empty t was.0 was.1 ∙ sym h.1) was.1)
        | inr none ↦ inr (
          (λ k qs l. elim (eqb_tells k key) as (λ _. ⊥) [
            | inl e ↦ none qs (subst (λ x. IsLeaf old x t qs) e.1 l)
            | inr e ↦ h.0 k qs ((stay k e.1 t qs).0 l)
          ]),
          h.1,
        )
      ]

-- A posting that stays stored stays in its leaf.
pub keeps_leaves : (old new : Tree Term) (key : ℕ) → IsLegal old → OtherLeavesStay old new key → KeepsLeaves old new
keeps_leaves old new key legal stay k t p was is =
    elim (eqb_tells k key) as (λ _. StandsIn new k t p) [
      | inl e ↦ elim (eqb_tells is.0 key) as (λ _. StandsIn new k t p) [
        | inl f ↦ subst (λ x. StandsIn new x t p) (f.1 ∙ sym e.1) is.1
        | inr f ↦ absurd (f.1 (legal.terms_differ is.0 k t is.1.0 was.0 ((stay is.0 f.1 t is.1.0).1 is.1.1) was.1 ∙ e.1))
      ]
      | inr e ↦ (was.0, (stay k e.1 t was.0).0 was.1, was.2)
    ]

-- ---- the whole tree
-- Where the nodes are legal, and no posting of the one leaf stands in another, the tree is.
pub legal_from : (old new : Tree Term) (key : ℕ) → IsLegal old → HasLegalNodes new → OtherLeavesStay old new key → ((k : ℕ) (t u : Term) (p : Posting) → k ≢ key → StandsIn new key t p → StandsIn old k u p → ⊥) → old.next ≤ new.next → new.vars ≤ MOST_OCCURRENCES → IsLegal new
legal_from old new key legal nodes stay apart more few = record {
  root = nodes.root;
  nodes = nodes.nodes;
  terms_differ = leaves_apart new nodes;
  postings_differ = differ;
  zero_known = omega (arith, legal.zero_known, more);
  few_variables = few;
} where
  old_one : (k : ℕ) (t : Term) (p : Posting) → k ≢ key → StandsIn new k t p → StandsIn old k t p
  old_one k t p differs h = (h.0, (stay k differs t h.0).1 h.1, h.2)

  at_key : (k : ℕ) (t : Term) (p : Posting) → k ≡ key → StandsIn new k t p → StandsIn new key t p
  at_key k t p e h = subst (λ x. StandsIn new x t p) e h

  differ : (j k : ℕ) (t u : Term) (p : Posting) → StandsIn new j t p → StandsIn new k u p → j ≡ k
  differ j k t u p one two =
      elim (eqb_tells j key) as (λ _. j ≡ k) [
        | inl e ↦ elim (eqb_tells k key) as (λ _. j ≡ k) [
          | inl f ↦ e.1 ∙ sym f.1
          | inr f ↦ absurd (apart k t u p f.1 (at_key j t p e.1 one) (old_one k u p f.1 two))
        ]
        | inr e ↦ elim (eqb_tells k key) as (λ _. j ≡ k) [
          | inl f ↦ absurd (apart j u t p e.1 (at_key k u p f.1 two) (old_one j t p e.1 one))
          | inr f ↦ legal.postings_differ j k t u p (old_one j t p e.1 one) (old_one k u p f.1 two)
        ]
      ]
