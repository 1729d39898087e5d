-- That no descent from the root is refused over memory that was made ready for it.
use Rattle.std.proofs.Common.{◌≡◌, ℕ, max, ◌≤◌, List, [], ◌∷◌, length, vec_capacity, ap, arith}
use Rattle.std.proofs.lemmas.Result.{on_err_weaker}
use Rattle.std.specs.Borrow.{Bor}
use Rattle.std.specs.Prelude.{Result, OnErr, Vec, vec_len}
use Rattle.si_defs.specs.declared.Relation.{Relation}
use Rattle.si_flat.specs.declared.Cell.{Cell}
use Rattle.si_flat.specs.Cells.{Term}
use Rattle.si_unify.specs.declared.slots.Slots.{Slots}
use Rattle.si_unify.specs.Rooms.{SolverRoom, IsEnoughToSolve}
use Rattle.si_unify.specs.Solving.{Pairs}
use Rattle.si_legal.specs.declared.Posting.{Posting}
use Rattle.si_legal.specs.Counts.{node_count}
use Rattle.si_legal.specs.Legal.{IsLegal}
use Rattle.si_legal.specs.Trees.{Tree}
use Rattle.si_descend.specs.declared.pending.Pending.{Pending}
use Rattle.si_descend.specs.declared.counting.Counted.{Counted}
use Rattle.si_descend.specs.Counting.{CountsAnswers}
use Rattle.si_descend.specs.Lending.{AreRightsNoLongerThan, HasRoomForAnswers, IsEnoughForTree}
use Rattle.si_descend.proofs.Beginning.{enough_first, room_counted}

-- Only indicator 0 is bound. The scratch has room for the longest right side and for the query, and
-- the list of pending nodes for all nodes of the tree, and the empty list for as many answers as
-- `count` counted. Then what `descend_with` says at an error leaves no error.
pub never_refused : {A B E : Type 0} (tree : Tree Term) (root : ℕ) (relation : Relation) (cells : List Cell) (slots : Slots) (slot : ℕ) (v : Bor (List Cell)) (pairs : Pairs) (longest : ℕ) (room : SolverRoom) (c : Counted) (pending : Vec Pending B) (out : Vec Posting A) (result : Result ℕ E) → IsLegal tree → root ≡ tree.root → v.now ≡ cells → pairs ≡ (slot, v) ∷ [] → AreRightsNoLongerThan longest tree → IsEnoughToSolve slots (max longest (length cells)) room → CountsAnswers tree relation cells c → vec_len out ≡ 0 → c.answers ≤ vec_capacity out → node_count tree ≤ vec_capacity pending → OnErr result ((n : ℕ) → IsEnoughForTree n tree slots pairs room → node_count tree ≤ vec_capacity pending → HasRoomForAnswers tree root relation cells out → ⊥) → OnErr result ⊥
never_refused tree root relation cells slots slot v pairs longest room c pending out result legal top v_is bound rights enough counts empty place few full =
    on_err_weaker result
    (λ lack. lack (max longest (length cells))
    (enough_first (max longest (length cells)) longest tree slots slot v pairs room rights (omega arith) (omega (arith, ap length v_is)) bound enough)
    few
    (room_counted tree relation cells out root c legal top counts empty place)) full
