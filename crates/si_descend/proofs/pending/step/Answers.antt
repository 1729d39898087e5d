use Rattle.std.proofs.Common.{ℕ, ◌+◌, ◌≤◌, true, length, take, vec_capacity, subst, arith}
use Rattle.std.specs.Prelude.{vec_len}
use Rattle.si_defs.specs.Substitutions.{Grows}
use Rattle.si_term.proofs.Results.{on_err}
use Rattle.si_tree.specs.Reading.{AtNode, IsNode, children_of}
use Rattle.si_descend.specs.Lending.{IsEnoughForTree}
use Rattle.si_descend.specs.Pending.{cut_back, marks_of, MayVisit}
use Rattle.si_descend.specs.Searching.{AreOpenBelow, HasEntered}
use Rattle.si_descend.proofs.EnoughLaws.{enough_cut}
use Rattle.si_descend.proofs.PendingLaws.{grows_cut, no_shorter}
use Rattle.si_descend.proofs.Turns.{due_node}
use Rattle.si_descend.proofs.Walking.{leaves_all, leaves_later, open_at}
use Rattle.si_descend.proofs.pending.step.Goals as goal

pub push_all-requires : goal.push_all-requires
push_all-requires c = due_node c.args.search.now c.args.trail.now c.args.taken.now c.args.next c.requires.due

pub returns-then-next-clause-steps : goal.returns-then-next-clause-steps
returns-then-next-clause-steps c =
    let may : MayVisit c.args.search.now c.args.next.node (cut_back c.args.next.mark c.args.trail.now) (cut_back c.args.next.taken_mark c.args.taken.now) true = subst (MayVisit c.args.search.now c.args.next.node (cut_back c.args.next.mark c.args.trail.now) (cut_back c.args.next.taken_mark c.args.taken.now)) c.if-next.true c.requires.due.may in
    let node : IsNode c.args.search.now.tree.now c.args.next.node = may.0 in
    let open_below : AreOpenBelow c.args.search.now c.args.next.node = may.1 in (
      open_at c.args.search.now c.args.next.node open_below,
      leaves_all c.args.search.now c.requires.ready c.args.next node.0 node.1 c.args.trail.now c.args.taken.now c.args.pending.now.items c.push_all.new.pending.items open_below (marks_of c.args.next) (omega arith) (omega arith) c.requires.due.mark c.requires.due.taken_mark c.if-next.true
          (c.in_ok-push_all.ensures.pushes node.0 node.1),
    )

pub returns-then-next-clause-grows : goal.returns-then-next-clause-grows
returns-then-next-clause-grows c = grows_cut c.args.next.mark c.args.trail.now.pairs

pub returns-then-next-clause-taken_grows : goal.returns-then-next-clause-taken_grows
returns-then-next-clause-taken_grows c = grows_cut c.args.next.taken_mark c.args.taken.now.pairs

pub returns-in_err-push_all-clause-grows : goal.returns-in_err-push_all-clause-grows
returns-in_err-push_all-clause-grows c = grows_cut c.args.next.mark c.args.trail.now.pairs

pub returns-in_err-push_all-clause-taken_grows : goal.returns-in_err-push_all-clause-taken_grows
returns-in_err-push_all-clause-taken_grows c = grows_cut c.args.next.taken_mark c.args.taken.now.pairs

pub returns-then-next-clause-within : goal.returns-then-next-clause-within
returns-then-next-clause-within c n enough = enough.values

pub returns-in_err-enter-clause-full : goal.returns-in_err-enter-clause-full
returns-in_err-enter-clause-full c =
    let lack : AtNode c.args.search.now.tree.now c.args.next.node (λ node. (n : ℕ) → IsEnoughForTree n c.args.search.now.tree.now c.args.search.now.slots c.args.trail.now.pairs c.args.scratch.now → vec_len c.args.pending.now + length (children_of node.content) ≤ vec_capacity c.args.pending.now → ⊥) = λ node has n enough room.
    c.in_err-enter.ensures.full n (enough_cut n c.args.next.mark c.args.search.now.tree.now c.args.search.now.slots c.args.trail.now.pairs c.undo.new.self.pairs c.args.scratch.now c.undo.ensures.pairs enough) in
    on_err _ lack

pub returns-clause-steps : goal.returns-clause-steps
returns-clause-steps c =
    let entered : HasEntered c.args.search.now c.args.next.node c.enter.new.trail.pairs true = subst (HasEntered c.args.search.now c.args.next.node c.enter.new.trail.pairs) c.if-not-branch.false c.in_ok-enter.ensures.enters in
    let grows : Grows (take c.args.next.mark c.args.trail.now.pairs) c.enter.new.trail.pairs = subst (λ l. Grows l c.enter.new.trail.pairs) c.undo.ensures.pairs c.in_ok-enter.ensures.grows in
    let taken_grows : Grows (take c.args.next.taken_mark c.args.taken.now.pairs) c.enter.new.taken.pairs = subst (λ l. Grows l c.enter.new.taken.pairs) c.undo-2.ensures.pairs c.in_ok-enter.ensures.taken_grows in (
      entered.1,
      leaves_later c.args.search.now c.args.next c.enter.new.trail c.enter.new.taken c.args.pending.now.items c.push_open.new.pending.items (no_shorter c.args.next.mark c.args.trail.now.pairs c.enter.new.trail.pairs c.requires.due.mark grows)
          (no_shorter c.args.next.taken_mark c.args.taken.now.pairs c.enter.new.taken.pairs c.requires.due.taken_mark taken_grows) c.in_ok-push_open.ensures.leaves,
    )
