-- Where all nodes below are open.
use Rattle.std.proofs.Common.{◌≡◌, ◌≤◌, ℕ, true, List, [], ◌++◌, None, Some, length, slice_get, append-nil, inl, refl, sym, ◌∙◌, subst, arith}
use Rattle.std.specs.Bool.{⊤}
use Rattle.std.specs.Borrow.{Bor}
use Rattle.si_defs.specs.Substitutions.{IsAmong}
use Rattle.si_defs.proofs.ListLaws.{get_among}
use Rattle.si_trail.specs.Trails.{Trail}
use Rattle.si_flat.specs.declared.Cell.{Cell}
use Rattle.si_flat.specs.Cells.{Term}
use Rattle.si_legal.specs.Trees.{Content, inner, leaf, Node, HasNode}
use Rattle.si_legal.proofs.PathLaws.{one_node}
use Rattle.si_tree.specs.Reading.{children_of, split_of}
use Rattle.si_descend.specs.declared.pending.Pending.{Pending}
use Rattle.si_descend.specs.declared.search.Search.{Search}
use Rattle.si_descend.specs.Pending.{cut_back, IsDue, PutsDue, Marks, MayVisit, marks_of, with_marks, pending_at}
use Rattle.si_descend.specs.Searching.{IsReady, IsOpenAt, AreOpenBelow}
use Rattle.si_descend.proofs.Below.{IsChildOf, child_passes, passes_first}
use Rattle.si_descend.proofs.PendingLaws.{all_at_once}
use Rattle.si_descend.proofs.Visiting.{siblings}

-- ---- downwards
pub open_at : (search : Search) (key : ℕ) → AreOpenBelow search key → IsOpenAt search key
open_at search key all q path stands reached = all q key path stands reached (passes_first search.tree.now key path reached)

pub open_child : (search : Search) (key child : ℕ) → IsChildOf search.tree.now key child → AreOpenBelow search key → AreOpenBelow search child
open_child search key child is all q low path stands reached passes = all q low path stands reached (child_passes search.tree.now (Some low) path key child reached is passes)

-- a node that has no split has no children
pub leaf_bare : (content : Content) → split_of content ≡ None → children_of content ≡ []
leaf_bare (leaf ps) e = refl
leaf_bare (inner split children) e = absurd (by e) where
  by : Some split ≡ None → ⊥
  by p = cc

pub child_at : (search : Search) (ready : IsReady search) (key : ℕ) (node : Node Term) (has : HasNode search.tree.now key node) (children : List ℕ) → children ≡ children_of node.content → (place child : ℕ) → slice_get children place ≡ Some child → IsChildOf search.tree.now key child
child_at search ready key node has children are place child e = (siblings search ready key node has).are child (subst (λ l. IsAmong l child) are (get_among children place child e))

module _ (search : Search) (ready : IsReady search) (next : Pending) (node : Node Term) (has : HasNode search.tree.now next.node node) (trail : Trail (Bor (List Cell))) (taken : Trail ⊤) (old new : List Pending) where
  -- all children are left
  pub leaves_all : AreOpenBelow search next.node → (marks : Marks) → next.mark ≤ marks.mark → next.taken_mark ≤ marks.taken_mark → marks.mark ≤ length trail.pairs → marks.taken_mark ≤ length taken.pairs → marks.whole ≡ true → new ≡ old ++ with_marks marks (children_of node.content) → PutsDue search next trail taken old new
  leaves_all all marks above taken_above within taken_within whole pushed = record {
    tops = children_of node.content;
    marks = marks;
    visit = record {
      distinct = (siblings search ready next.node node has).distinct;
      within = λ n has' child a. subst (λ m. IsAmong (children_of m.content) child) (one_node search.tree.now next.node node n has has') a;
      others = λ n has' child a. inl (subst (λ m. IsAmong (children_of m.content) child) (one_node search.tree.now next.node n node has' has) a);
    };
    pushed = pushed;
    due = all_at_once (IsDue search trail taken) marks (children_of node.content) (λ child a. (let is = (siblings search ready next.node node has).are child a in record {
      mark = within;
      taken_mark = taken_within;
      may = subst (MayVisit search child (cut_back marks.mark trail) (cut_back marks.taken_mark taken)) (sym whole) ((is.0, is.1), open_child search next.node child is all);
    }));
    mark = above;
    taken_mark = taken_above;
  }

  -- a leaf leaves none
  pub leaves_none : split_of node.content ≡ None → new ≡ old → PutsDue search next trail taken old new
  leaves_none bare same = record {
    tops = [];
    marks = marks_of next;
    visit = record {
      distinct = tt;
      within = λ n has' child a. absurd a;
      others = λ n has' child a. absurd (subst (λ l. IsAmong l child) (leaf_bare node.content bare) (subst (λ m. IsAmong (children_of m.content) child) (one_node search.tree.now next.node n node has' has) a));
    };
    pushed = same ∙ sym (append-nil old);
    due = tt;
    mark = omega arith;
    taken_mark = omega arith;
  }

-- after the bindings of a node, those above it are there still
pub leaves_later : (search : Search) (next : Pending) (trail : Trail (Bor (List Cell))) (taken : Trail ⊤) (old new : List Pending) → next.mark ≤ length trail.pairs → next.taken_mark ≤ length taken.pairs → PutsDue search (pending_at next.node trail taken) trail taken old new → PutsDue search next trail taken old new
leaves_later search next trail taken old new less taken_less leaves = record {
  tops = leaves.tops;
  marks = leaves.marks;
  visit = leaves.visit;
  pushed = leaves.pushed;
  due = leaves.due;
  mark = omega (arith, less, leaves.mark);
  taken_mark = omega (arith, taken_less, leaves.taken_mark);
}
