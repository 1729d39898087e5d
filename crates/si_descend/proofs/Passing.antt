-- Which nodes were passed and which are still to be visited, node by node.
use Rattle.std.proofs.Common.{◌≡◌, ◌⊎◌, inl, inr, ℕ, ◌≤◌, List, [], ◌∷◌, ◌++◌, Option, Some, length, refl, sym, subst}
use Rattle.std.proofs.lemmas.Option.{same_Some}
use Rattle.si_defs.specs.Substitutions.{IsAmong, AreDistinct}
use Rattle.si_defs.proofs.ListLaws.{among_front, among_back, among_parts, among_either}
use Rattle.si_flat.specs.Cells.{Term}
use Rattle.si_flat.proofs.RowLaws.{distinct_parts}
use Rattle.si_legal.specs.Counts.{node_count}
use Rattle.si_legal.specs.Trees.{Tree, Path, IsPath, PassesBy}
use Rattle.si_changes.proofs.Frames.{HasLegalNodes}
use Rattle.si_changes.proofs.OpenLaws.{path_node}
use Rattle.si_tree.specs.Reading.{IsNode}
use Rattle.si_descend.proofs.ExactLists.{distinct_both}
use Rattle.si_descend.proofs.Below.{IsChildOf, passes_first, passes_child, child_passes, no_child_above, one_child, few_keys}

-- no path passes by two of these nodes
pub record AreApart (tree : Tree Term) (tops : List ℕ) : Type 0 where
  pub distinct : AreDistinct tops
  pub nodes : (key : ℕ) → IsAmong tops key → IsNode tree key
  pub one : (from : Option ℕ) (p : Path) (x y : ℕ) → IsPath tree from p → IsAmong tops x → IsAmong tops y → PassesBy p x → PassesBy p y → x ≡ y

-- the node has a path that passes by another
pub record StandsBelow (tree : Tree Term) (top key : ℕ) : Type 0 where
  pub path : Path
  pub leads : IsPath tree (Some key) path
  pub below : PassesBy path top

-- Of the nodes from the top down that are in, these were passed, and all others stand below one of
-- those that are left or at it.
pub record HasPassed (tree : Tree Term) (IsIn : ℕ → Type 0) (top : ℕ) (tops passed : List ℕ) : Type 0 where
  pub apart : AreApart tree tops
  pub under : (key : ℕ) → IsAmong tops key → (from : Option ℕ) (p : Path) → IsPath tree from p → PassesBy p key → PassesBy p top
  pub distinct : AreDistinct passed
  pub are_in : (key : ℕ) → IsAmong passed key → IsIn key × StandsBelow tree top key
  pub others : (key : ℕ) (p : Path) → IsPath tree (Some key) p → PassesBy p top → IsIn key → IsAmong passed key ⊎ ((t : ℕ) × IsAmong tops t × PassesBy p t)
  pub new : (key t : ℕ) (p : Path) → IsAmong passed key → IsPath tree (Some key) p → IsAmong tops t → PassesBy p t → ⊥

module _ (tree : Tree Term) (legal : HasLegalNodes tree) where
  -- ---- apart
  own_path : (key : ℕ) → IsNode tree key → (p : Path) × IsPath tree (Some key) p
  own_path key is = ((key, is.0) ∷ (legal.nodes key is.0 is.1).above, (refl, is.1, (legal.nodes key is.0 is.1).reached))

  pub apart_few : (tops : List ℕ) → AreApart tree tops → length tops ≤ node_count tree
  apart_few tops apart = few_keys tree tops apart.distinct apart.nodes

  last_new : (tops : List ℕ) (top : ℕ) → AreApart tree (tops ++ top ∷ []) → IsAmong tops top → ⊥
  last_new tops top apart a = (distinct_parts tops (top ∷ []) apart.distinct).2 top a (inl refl)

  apart_fewer : (tops : List ℕ) (top : ℕ) → AreApart tree (tops ++ top ∷ []) → AreApart tree tops
  apart_fewer tops top apart = record {
    distinct = (distinct_parts tops (top ∷ []) apart.distinct).0;
    nodes = λ key a. apart.nodes key (among_front tops (top ∷ []) key a);
    one = λ from p x y there a b. apart.one from p x y there (among_front tops (top ∷ []) x a) (among_front tops (top ∷ []) y b);
  }

  module _ (tops : List ℕ) (top : ℕ) (apart : AreApart tree (tops ++ top ∷ [])) (children : List ℕ) (distinct : AreDistinct children) (are : (child : ℕ) → IsAmong children child → IsChildOf tree top child) where
    here : IsAmong (tops ++ top ∷ []) top
    here = among_back tops (top ∷ []) top (inl refl)

    -- no path passes by a child and by another of the nodes
    none_both : (from : Option ℕ) (p : Path) (x child : ℕ) → IsPath tree from p → IsAmong tops x → IsAmong children child → PassesBy p x → PassesBy p child → ⊥
    none_both from p x child there a b passes passes' =
        let same = apart.one from p x top there (among_front tops (top ∷ []) x a) here passes (child_passes tree from p top child there (are child b) passes') in
        last_new tops top apart (subst (IsAmong tops) same a)

    pub apart_next : AreApart tree (tops ++ children)
    apart_next = record {
      distinct = distinct_both tops children (apart_fewer tops top apart).distinct distinct (λ x a b. (
          let is = are x b in
          let path = own_path x (is.0, is.1) in
          let passes = passes_first tree x path.0 path.1 in
          none_both (Some x) path.0 x x path.1 a b passes passes));
      nodes = λ key a. elim (among_parts tops children key a) as (λ _. IsNode tree key) [
        | inl b ↦ apart.nodes key (among_front tops (top ∷ []) key b)
        | inr b ↦ ((are key b).0, (are key b).1)
      ];
      one = λ from p x y there a b passes passes'. elim (among_parts tops children x a) as (λ _. x ≡ y) [
        | inl c ↦ elim (among_parts tops children y b) as (λ _. x ≡ y) [
          | inl d ↦ apart.one from p x y there (among_front tops (top ∷ []) x c) (among_front tops (top ∷ []) y d) passes passes'
          | inr d ↦ absurd (none_both from p x y there c d passes passes')
        ]
        | inr c ↦ elim (among_parts tops children y b) as (λ _. x ≡ y) [
          | inl d ↦ absurd (none_both from p y x there d c passes' passes)
          | inr d ↦ one_child tree from p top x y there (are x c) (are y d) passes passes'
        ]
      ];
    }

  module _ (IsIn : ℕ → Type 0) (top : ℕ) where
    -- ---- turns
    pub passing_starts : IsNode tree top → HasPassed tree IsIn top (top ∷ []) []
    passing_starts is = record {
      apart = record {
        distinct = (λ a. a, tt);
        nodes = λ key a. elim a as (λ _. IsNode tree key) [ inl e ↦ subst (IsNode tree) e is | inr b ↦ absurd b ];
        one = λ from p x y there a b passes passes'. elim a as (λ _. x ≡ y) [
          | inl e ↦ elim b as (λ _. x ≡ y) [ inl f ↦ subst (λ n. n ≡ y) e f | inr c ↦ absurd c ]
          | inr c ↦ absurd c
        ];
      };
      under = λ key a from p there passes. elim a as (λ _. PassesBy p top) [ inl e ↦ subst (PassesBy p) (sym e) passes | inr b ↦ absurd b ];
      distinct = tt;
      are_in = λ key a. absurd a;
      others = λ key p there passes is. inr (top, inl refl, passes);
      new = λ key t p a. absurd a;
    }

    -- nothing from the next node down is in
    pub passing_over : (tops : List ℕ) (next : ℕ) (passed : List ℕ) → HasPassed tree IsIn top (tops ++ next ∷ []) passed → ((key : ℕ) (p : Path) → IsPath tree (Some key) p → PassesBy p next → IsIn key → ⊥) → HasPassed tree IsIn top tops passed
    passing_over tops next passed h none = record {
      apart = apart_fewer tops next h.apart;
      under = λ key a. h.under key (among_front tops (next ∷ []) key a);
      distinct = h.distinct;
      are_in = h.are_in;
      others = λ key p there passes is. elim (h.others key p there passes is) as (λ _. IsAmong passed key ⊎ ((t : ℕ) × IsAmong tops t × PassesBy p t)) [
        | inl a ↦ inl a
        | inr o ↦ elim (among_either tops next o.0 o.1) as (λ _. IsAmong passed key ⊎ ((t : ℕ) × IsAmong tops t × PassesBy p t)) [
          | inl a ↦ inr (o.0, a, o.2)
          | inr e ↦ absurd (none key p there (subst (PassesBy p) (sym e) o.2) is)
        ]
      ];
      new = λ key t p a there b. h.new key t p a there (among_front tops (next ∷ []) t b);
    }

    pub next_new : (tops : List ℕ) (next : ℕ) (passed : List ℕ) → HasPassed tree IsIn top (tops ++ next ∷ []) passed → IsAmong passed next → ⊥
    next_new tops next passed h a =
        let path = own_path next (h.apart.nodes next (among_back tops (next ∷ []) next (inl refl))) in
        h.new next next path.0 a path.1 (among_back tops (next ∷ []) next (inl refl)) (passes_first tree next path.0 path.1)

    -- the next node is, and below it nothing but below these children of it
    pub passing_on : (tops : List ℕ) (next : ℕ) (passed children : List ℕ) → HasPassed tree IsIn top (tops ++ next ∷ []) passed → IsIn next → AreDistinct children → ((child : ℕ) → IsAmong children child → IsChildOf tree next child) → ((child : ℕ) → IsChildOf tree next child → IsAmong children child ⊎ ((key : ℕ) (p : Path) → IsPath tree (Some key) p → PassesBy p child → IsIn key → ⊥)) → HasPassed tree IsIn top (tops ++ children) (next ∷ passed)
    passing_on tops next passed children h is distinct are left = record {
      apart = apart_next tops next h.apart children distinct are;
      under = λ key a from p there passes. elim (among_parts tops children key a) as (λ _. PassesBy p top) [
        | inl b ↦ h.under key (among_front tops (next ∷ []) key b) from p there passes
        | inr b ↦ h.under next here from p there (child_passes tree from p next key there (are key b) passes)
      ];
      distinct = (next_new tops next passed h, h.distinct);
      are_in = λ key a. elim a as (λ _. IsIn key × StandsBelow tree top key) [
        | inl e ↦ subst (λ k. IsIn k × StandsBelow tree top k) e (
          is,
          record {
            path = path.0;
            leads = path.1;
            below = h.under next here (Some next) path.0 path.1 (passes_first tree next path.0 path.1);
          },
        )
        | inr b ↦ h.are_in key b
      ];
      others = λ key p there passes in_too. elim (h.others key p there passes in_too) as (λ _. IsAmong (next ∷ passed) key ⊎ ((t : ℕ) × IsAmong (tops ++ children) t × PassesBy p t)) [
        | inl a ↦ inl (inr a)
        | inr o ↦ elim (among_either tops next o.0 o.1) as (λ _. IsAmong (next ∷ passed) key ⊎ ((t : ℕ) × IsAmong (tops ++ children) t × PassesBy p t)) [
          | inl a ↦ inr (o.0, among_front tops children o.0 a, o.2)
          | inr e ↦ elim (passes_child tree (Some key) p next there (subst (PassesBy p) (sym e) o.2)) as (λ _. IsAmong (next ∷ passed) key ⊎ ((t : ℕ) × IsAmong (tops ++ children) t × PassesBy p t)) [
            | inl f ↦ inl (inl (same_Some next key (sym f)))
            | inr c ↦ elim (left c.0 c.1) as (λ _. IsAmong (next ∷ passed) key ⊎ ((t : ℕ) × IsAmong (tops ++ children) t × PassesBy p t)) [
              | inl a ↦ inr (c.0, among_back tops children c.0 a, c.2)
              | inr none ↦ absurd (none key p there c.2 in_too)
            ]
          ]
        ]
      ];
      new = λ key t p a there b passes. elim a as (λ _. ⊥) [
        | inl e ↦ elim (among_parts tops children t b) as (λ _. ⊥) [
          | inl c ↦ last_new tops next h.apart (subst (IsAmong tops) (h.apart.one (Some key) p t next there (among_front tops (next ∷ []) t c) here passes (passes_first tree next p (subst (λ k. IsPath tree (Some k) p) (sym e) there))) c)
          | inr c ↦ no_child_above tree next t p (subst (λ k. IsPath tree (Some k) p) (sym e) there) (are t c) passes
        ]
        | inr d ↦ elim (among_parts tops children t b) as (λ _. ⊥) [
          | inl c ↦ h.new key t p d there (among_front tops (next ∷ []) t c) passes
          | inr c ↦ h.new key next p d there here (child_passes tree (Some key) p next t there (are t c) passes)
        ]
      ];
    } where
      here : IsAmong (tops ++ next ∷ []) next
      here = among_back tops (next ∷ []) next (inl refl)

      path : (p : Path) × IsPath tree (Some next) p
      path = own_path next (h.apart.nodes next here)

    pub passing_ends : (passed : List ℕ) → HasPassed tree IsIn top [] passed → (key : ℕ) (p : Path) → IsPath tree (Some key) p → PassesBy p top → IsIn key → IsAmong passed key
    passing_ends passed h key p there passes is = elim (h.others key p there passes is) as (λ _. IsAmong passed key) [
      | inl a ↦ a
      | inr o ↦ absurd o.1
    ]

    -- ---- bounds
    pub passed_few : (tops passed : List ℕ) → HasPassed tree IsIn top tops passed → length passed ≤ node_count tree
    passed_few tops passed h = few_keys tree passed h.distinct (λ key a. let s = (h.are_in key a).1 in path_node tree key s.path s.leads)
