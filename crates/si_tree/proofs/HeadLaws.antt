-- Children and their heads.
use Rattle.std.proofs.Common.{◌≡◌, ℕ, zero, suc, List, [], ◌∷◌, Some, inl, inr, refl, sym, ◌∙◌, ap, subst}
use Rattle.std.specs.Prelude.{slice_get, length, true, false, ◌&&◌}
use Rattle.std.proofs.lemmas.Bool.{eq-eqb}
use Rattle.std.proofs.lemmas.Option.{same_Some}
use Rattle.si_defs.specs.Terms as terms
use Rattle.si_defs.specs.Substitutions.{IsAmong, AreDistinct}
use Rattle.si_defs.proofs.ListLaws.{all_at}
use Rattle.si_flat.specs.Cells.{Variable, query, entry, ind, Term}
use Rattle.si_legal.specs.Generalizations.{same_head}
use Rattle.si_legal.specs.Legal.{ChildBinds, ChildrenDiffer}
use Rattle.si_changes.proofs.Frames.{HasLegalNodes, binds_once}
use Rattle.si_legal.specs.Trees.{Tree}
use Rattle.si_tree.specs.declared.node.Head.{Head}
use Rattle.si_tree.specs.declared.node.Head.TheVariants.{Sym, Var}
use Rattle.si_tree.specs.Heads.{HasHead, HeadsAt, AreHeadsOf, StandTogether}

-- a term has one head
pub one_head : (t : Term) (h k : Head) → HasHead t h → HasHead t k → h ≡ k
one_head (terms.app s ts) (Sym n a) (Sym m b) p q = λ i. Sym ((sym p.0 ∙ q.0) i) ((sym p.1 ∙ q.1) i)
one_head (terms.app s ts) (Sym n a) (Var m) p q = absurd q
one_head (terms.app s ts) (Var n) k p q = absurd p
one_head (terms.var (entry x)) (Var n) (Var m) p q = ap Var (sym p ∙ q)
one_head (terms.var (entry x)) (Var n) (Sym m b) p q = absurd q
one_head (terms.var (entry x)) (Sym n a) k p q = absurd p
one_head (terms.var (query x)) h k p q = by h p where
  by : (h : Head) → HasHead (terms.var (query x)) h → h ≡ k
  by (Sym n a) p = absurd p
  by (Var n) p = absurd p
one_head (terms.var (ind x)) h k p q = by h p where
  by : (h : Head) → HasHead (terms.var (ind x)) h → h ≡ k
  by (Sym n a) p = absurd p
  by (Var n) p = absurd p

-- two terms with a head have the same
pub heads_same : (t u : Term) (h : Head) → HasHead t h → HasHead u h → same_head t u ≡ true
heads_same (terms.app s ts) (terms.app r us) (Sym n a) p q =
    λ i. eq-eqb s.number r.number (p.0 ∙ sym q.0) i && eq-eqb s.arity r.arity (p.1 ∙ sym q.1) i
heads_same (terms.app s ts) u (Var n) p q = absurd p
heads_same (terms.app s ts) (terms.var x) (Sym n a) p q = absurd (by x q) where
  by : (x : Variable) → HasHead (terms.var x) (Sym n a) → ⊥
  by (query m) r = r
  by (entry m) r = r
  by (ind m) r = r
heads_same (terms.var (query m)) u (Sym n a) p q = absurd p
heads_same (terms.var (query m)) u (Var n) p q = absurd p
heads_same (terms.var (ind m)) u (Sym n a) p q = absurd p
heads_same (terms.var (ind m)) u (Var n) p q = absurd p
heads_same (terms.var (entry m)) u (Sym n a) p q = absurd p
heads_same (terms.var (entry m)) (terms.var (entry k)) (Var n) p q = eq-eqb m k (p ∙ sym q)
heads_same (terms.var (entry m)) (terms.var (query k)) (Var n) p q = absurd q
heads_same (terms.var (entry m)) (terms.var (ind k)) (Var n) p q = absurd q
heads_same (terms.var (entry m)) (terms.app s ts) (Var n) p q = absurd q

-- each child stands beside its head
pub head_of_child : (tree : Tree Term) (split : ℕ) (heads : List Head) (children : List ℕ) (child : ℕ) → AreHeadsOf tree split heads children → IsAmong children child → (h : Head) × StandTogether heads children h child × HeadsAt tree split child h
head_of_child tree split [] [] child are a = absurd a
head_of_child tree split [] (c ∷ cs) child are a = absurd are
head_of_child tree split (h ∷ hs) [] child are a = absurd a
head_of_child tree split (h ∷ hs) (c ∷ cs) child are (inl e) = (h, (zero, refl, ap Some e), subst (λ k. HeadsAt tree split k h) e are.0)
head_of_child tree split (h ∷ hs) (c ∷ cs) child are (inr a) =
    let found = head_of_child tree split hs cs child are.1 a in
    (found.0, (suc found.1.0, found.1.1, found.1.2), found.2)

-- each head is some child's
pub child_with_head : (tree : Tree Term) (split : ℕ) (heads : List Head) (children : List ℕ) (h : Head) → AreHeadsOf tree split heads children → IsAmong heads h → (child : ℕ) × IsAmong children child × HeadsAt tree split child h
child_with_head tree split [] [] h are a = absurd a
child_with_head tree split [] (c ∷ cs) h are a = absurd are
child_with_head tree split (k ∷ hs) [] h are a = absurd are
child_with_head tree split (k ∷ hs) (c ∷ cs) h are (inl e) = (c, inl refl, subst (HeadsAt tree split c) e are.0)
child_with_head tree split (k ∷ hs) (c ∷ cs) h are (inr a) =
    let found = child_with_head tree split hs cs h are.1 a in
    (found.0, inr found.1, found.2)

-- children that differ have different heads
pub heads_distinct : (tree : Tree Term) (split : ℕ) (heads : List Head) (children : List ℕ) → HasLegalNodes tree → AreHeadsOf tree split heads children → ChildrenDiffer tree split children → AreDistinct heads
heads_distinct tree split [] children legal are differ = tt
heads_distinct tree split (h ∷ hs) [] legal are differ = absurd are
heads_distinct tree split (h ∷ hs) (c ∷ cs) legal are differ = (new, heads_distinct tree split hs cs legal are.1 differ.1) where
  new : IsAmong hs h → ⊥
  new a =
      let other = child_with_head tree split hs cs h are.1 a in
      let t : Term = differ.0.0 in
      let same : are.0.0 ≡ t = binds_once tree legal c split are.0.0 t are.0.1 differ.0.1 in
      let apart = all_at (λ d. (u : Term) → ChildBinds tree d split u → same_head t u ≡ false) cs other.0 differ.0.2 other.1 other.2.0 other.2.1 in
      no (sym (heads_same t other.2.0 h (subst (λ v. HasHead v h) same are.0.2) other.2.2) ∙ apart) where
        no : true ≡ false → ⊥
        no e = cc

pub child_of_head : (tree : Tree Term) (split : ℕ) (heads : List Head) (children : List ℕ) (h : Head) (child place : ℕ) → AreHeadsOf tree split heads children → slice_get heads place ≡ Some h → slice_get children place ≡ Some child → IsAmong children child × HeadsAt tree split child h
child_of_head tree split [] [] h child place are p q = absurd (by p) where
  by : slice_get [] place ≡ Some h → ⊥
  by e = cc
child_of_head tree split [] (c ∷ cs) h child place are p q = absurd are
child_of_head tree split (k ∷ hs) [] h child place are p q = absurd are
child_of_head tree split (k ∷ hs) (c ∷ cs) h child zero are p q =
    (inl (same_Some c child q), subst (λ n. HeadsAt tree split n h) (same_Some c child q) (subst (λ n. HeadsAt tree split c n) (same_Some k h p) are.0))
child_of_head tree split (k ∷ hs) (c ∷ cs) h child (suc place) are p q =
    let found = child_of_head tree split hs cs h child place are.1 p q in
    (inr found.0, found.1)

pub as_many : (tree : Tree Term) (split : ℕ) (heads : List Head) (children : List ℕ) → AreHeadsOf tree split heads children → length heads ≡ length children
as_many tree split [] [] are = refl
as_many tree split [] (c ∷ cs) are = absurd are
as_many tree split (h ∷ hs) [] are = absurd are
as_many tree split (h ∷ hs) (c ∷ cs) are = ap suc (as_many tree split hs cs are.1)
