-- The nodes of a legal tree, and a descent from the root's children.
use Rattle.std.proofs.Common.{◌≡◌, ℕ, List, [], ◌∷◌, Some, slice_get, refl, sym, ap, ◌∙◌, subst}
use Rattle.std.specs.Borrow.{Bor}
use Rattle.si_defs.specs.Substitutions.{Substitution}
use Rattle.si_defs.specs.Terms as terms
use Rattle.si_defs.specs.declared.Relation.{Relation}
use Rattle.si_defs.proofs.ListLaws.{get_among}
use Rattle.si_trail.specs.Trails.{Trail}
use Rattle.si_flat.specs.declared.Cell.{Cell}
use Rattle.si_flat.specs.Cells.{Symbol, Variable, query, Term, cells_of}
use Rattle.si_unify.specs.declared.slots.Slots.{Slots}
use Rattle.si_legal.specs.Trees.{inner, leaf, Content, Node, Tree, HasNode, IsPath}
use Rattle.si_legal.specs.Legal.{IsLegal, IsLegalContent}
use Rattle.si_legal.specs.Descents.{SolvesBindings}
use Rattle.si_legal.proofs.PathLaws.{one_node}
use Rattle.si_changes.proofs.StoredLaws.{path_start}
use Rattle.si_tree.specs.Reading.{IsNode, AtNode, children_of}
use Rattle.si_descend.specs.Descending.{AreQueryCells, MayDescend, ShowsPath}
use Rattle.si_base_tests.proofs.Vectors as vectors

pub root_node : (tree : Tree Term) (root : ℕ) → IsLegal tree → root ≡ tree.root → IsNode tree root
root_node tree root legal top = subst (IsNode tree) (sym top) (legal.root.0, legal.root.1)

-- ---- children
abbrev pub IsChild : Tree Term → ℕ → ℕ → Type 0
IsChild tree key child = (node : Node Term) × HasNode tree child node × (node.parent ≡ Some key)

pub child_there : (tree : Tree Term) (key n child : ℕ) (children : List ℕ) → IsLegal tree → IsNode tree key → AtNode tree key (λ node. children ≡ children_of node.content) → slice_get children n ≡ Some child → IsChild tree key child
child_there tree key n child children legal is at got = by is.0.content refl (legal.nodes key is.0 is.1).content where
  by : (c : Content) → is.0.content ≡ c → IsLegalContent tree key ((key, is.0) ∷ (legal.nodes key is.0 is.1).above) c → IsChild tree key child
  by (inner split cs) e h = (h.1 child).0 (get_among cs n child (subst (λ xs. slice_get xs n ≡ Some child) (at is.0 is.1 ∙ ap children_of e) got))
  by (leaf ps) e h = absurd (none (subst (λ xs. slice_get xs n ≡ Some child) (at is.0 is.1 ∙ ap children_of e) got)) where
    none : slice_get [] n ≡ Some child → ⊥
    none f = cc

pub child_node : (tree : Tree Term) (key child : ℕ) → IsChild tree key child → IsNode tree child
child_node tree key child is = (is.0, is.1)

pub child_below : (tree : Tree Term) (key child : ℕ) → IsChild tree key child → AtNode tree child (λ n. n.parent ≡ Some key)
child_below tree key child is n has = ap (λ m. m.parent) (one_node tree child n is.0 has is.1) ∙ is.2

-- ---- a descent
pub g_of_variable : (cells : List Cell) → cells ≡ cells_of (vectors.g (terms.var (query 0))) → AreQueryCells cells
g_of_variable cells e = (
  vectors.g (terms.var (query 0)),
  record {
    stands = record { cells_are = e; sound = (refl, (tt, tt)) };
    numbered = (1, refl);
  },
)

pub same_trail : (old new : Trail (Bor (List Cell))) → new.pairs ≡ old.pairs → new.slots ≡ old.slots → new ≡ old
same_trail old new p s = ap (λ l. record { slots = new.slots; pairs = l }) p ∙ ap (λ n. record { slots = n; pairs = old.pairs }) s

-- the root binds nothing, so what is solved above it is solved above its children
pub child_descends : (tree : Tree Term) (child : ℕ) (relation : Relation) (cells : List Cell) (slots : Slots) (trail : Trail (Bor (List Cell))) → IsLegal tree → IsNode tree child → AtNode tree child (λ n. n.parent ≡ Some tree.root) → MayDescend tree tree.root relation cells slots trail → MayDescend tree child relation cells slots trail
child_descends tree child relation cells slots trail legal is below may = record {
  node = is;
  query = may.query;
  freezes = may.freezes;
  room = may.room;
  solving = may.solving;
  above = λ node above q has reached stands. (
      let up = subst (λ k. IsPath tree k above) (below node has) reached in
      let start = path_start tree tree.root legal.root.0 above legal.root.1 up in
      let here : IsPath tree (Some tree.root) ((tree.root, legal.root.0) ∷ start.0) = subst (IsPath tree (Some tree.root)) start.1 up in
      let old : ShowsPath slots trail.pairs q start.0 = may.above legal.root.0 start.0 q legal.root.1 here.2 stands in
      subst (ShowsPath slots trail.pairs q) (sym start.1) (λ s. (
        λ h. (let one = (old s).0 h in record { frozen = one.frozen; zero = one.zero; bindings = (none s, one.bindings) }),
        λ h. (old s).1 (record { frozen = h.frozen; zero = h.zero; bindings = h.bindings.1 }),
      )));
} where
  none : (s : Substitution Symbol Variable) → SolvesBindings s legal.root.0.bindings
  none s = subst (SolvesBindings s) (sym legal.root.2.bindings) tt
