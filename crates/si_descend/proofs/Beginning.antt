-- Where a descent begins at the root, and the memory that is enough for it.
use Rattle.std.proofs.Common.{◌≡◌, ℕ, ◌+◌, ◌≤◌, List, [], ◌∷◌, length, vec_capacity, refl, sym, subst, arith}
use Rattle.std.specs.Prelude.{Vec, vec_len}
use Rattle.std.specs.Borrow.{Bor}
use Rattle.si_defs.specs.declared.Relation.{Relation}
use Rattle.si_trail.specs.Trails.{Trail}
use Rattle.si_flat.specs.declared.Cell.{Cell}
use Rattle.si_flat.specs.Cells.{Term}
use Rattle.si_unify.specs.declared.slots.Slots.{Slots}
use Rattle.si_unify.specs.Rooms.{SolverRoom, IsEnoughToSolve, AreNoLongerThan}
use Rattle.si_unify.specs.Solving.{Pairs, slot_count}
use Rattle.si_legal.specs.declared.Posting.{Posting}
use Rattle.si_legal.specs.Legal.{IsLegal}
use Rattle.si_legal.specs.Trees.{Tree}
use Rattle.si_legal.specs.Descents.{IsAnswerBelow}
use Rattle.si_tree.specs.Reading.{IsNode}
use Rattle.si_descend.specs.declared.counting.Counted.{Counted}
use Rattle.si_descend.specs.Counting.{CountsAnswers}
use Rattle.si_descend.specs.Descending.{Freezes, AreQueryCells, MayDescend, ShowsAbove}
use Rattle.si_descend.specs.Lending.{AreRightsNoLongerThan, HasRoomForAnswers, IsEnoughForTree}
use Rattle.si_descend.proofs.ExactLists.{no_more}
use Rattle.si_descend.proofs.Retrieving.{has_room, first_solving, first_shows, root_there, shows_root, stored_answers}
use Rattle.si_descend.proofs.RightLaws.{rights_wider}

-- only indicator 0 is bound, to the query
pub may_begin : (tree : Tree Term) (root : ℕ) (relation : Relation) (cells : List Cell) (slots : Slots) (v : Bor (List Cell)) (trail : Trail (Bor (List Cell))) → IsLegal tree → root ≡ tree.root → AreQueryCells cells → slots.query ≡ length cells → slots.entry ≡ tree.vars → slots.inds ≡ tree.next → Freezes relation slots → v.now ≡ cells → trail.pairs ≡ (slots.query + slots.entry, v) ∷ [] → trail.slots ≡ slot_count slots → MayDescend tree root relation cells slots trail
may_begin tree root relation cells slots v trail legal top is d e f freezes v_is bound count =
    let fits = has_room tree slots cells legal d e f is in
    let room = fits is.0 is.1.stands in
    record {
      node = subst (IsNode tree) (sym top) (root_there tree legal);
      query = is;
      freezes = freezes;
      room = fits;
      solving = first_solving slots cells is.0 v v_is is.1.stands is.1.numbered room.zero room.query (slots.query + slots.entry) refl trail.pairs bound trail.slots count;
      above = subst (λ k. ShowsAbove slots trail.pairs tree k cells) (sym top)
          (shows_root tree slots trail.pairs cells is.0 legal is.1.stands (first_shows slots cells is.0 v v_is is.1.stands is.1.numbered room.zero room.query (slots.query + slots.entry) refl trail.pairs bound));
    }

-- ---- the scratch
-- enough for the longest right side and the query
pub enough_first : (n m : ℕ) (tree : Tree Term) (slots : Slots) (slot : ℕ) (v : Bor (List Cell)) (pairs : Pairs) (room : SolverRoom) → AreRightsNoLongerThan m tree → m ≤ n → length v.now ≤ n → pairs ≡ (slot, v) ∷ [] → IsEnoughToSolve slots n room → IsEnoughForTree n tree slots pairs room
enough_first n m tree slots slot v pairs room rights less short bound enough = record {
  rights = rights_wider tree m n less rights;
  values = subst (AreNoLongerThan n) (sym bound) (short, tt);
  solver = enough;
}

-- ---- the list
module _ {A : Type 0} (tree : Tree Term) (relation : Relation) (cells : List Cell) (out : Vec Posting A) where
  -- enough for as many answers as were counted
  pub room_counted : (root : ℕ) (c : Counted) → IsLegal tree → root ≡ tree.root → CountsAnswers tree relation cells c → vec_len out ≡ 0 → c.answers ≤ vec_capacity out → HasRoomForAnswers tree root relation cells out
  room_counted root c legal top counts empty room q stands next distinct are =
      let h = counts.answers q stands in
      let few = no_more next h.0 distinct (λ p a. (h.1.exact p).1 ((stored_answers tree legal relation q p).0 (subst (λ k. IsAnswerBelow tree k relation q p) top (are p a)))) in
      omega (arith, few, h.2, room, empty, out.ok, out.small)
