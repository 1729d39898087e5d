use Rattle.std.proofs.Common.{◌≡◌, ◌+◌, [], ◌∷◌, ◌++◌, length, refl, ap, ◌∙◌, subst, arith}
use Rattle.std.proofs.lemmas.List.{length-append}
use Rattle.si_term.proofs.Results.{on_err}
use Rattle.si_unify.proofs.RoomLaws.{same_room}
use Rattle.si_tree.specs.Reading.{IsNode}
use Rattle.si_descend.specs.declared.pending.Pending.{Pending}
use Rattle.si_descend.specs.Pending.{pending_at, HasTurned, HasTurnedTo, LacksRoom}
use Rattle.si_descend.proofs.EnoughLaws.{keeps_on}
use Rattle.si_descend.proofs.PendingLaws.{waiting_starts}
use Rattle.si_descend.proofs.Turns.{IsFinding, finding_starts, finding_none, finding_turned, next_node, next_few_children, turned_node, finding_few, finding_short, finding_small, finding_ends, finding_fits}
use Rattle.si_descend.proofs.search.visit_all.Goals as goal

pub returns-in_err-push-clause-full : goal.returns-in_err-push-clause-full
returns-in_err-push-clause-full c =
    let entry : Pending = pending_at c.args.node c.args.trail.now c.args.taken.now in
    let begun : IsFinding c.args.search.now c.args.node (entry ∷ []) c.args.out.now.items c.args.out.now.items 0 = finding_starts c.args.search.now c.requires.above.searching.ready c.args.node c.args.out.now.items c.args.trail.now c.args.taken.now (entry ∷ []) c.requires.above.node refl in
    let lack : LacksRoom c.args.search.now c.args.node c.args.trail.now.pairs c.args.scratch.now c.args.pending.now c.args.out.now = λ n enough few place.
    omega (arith, few, finding_short c.args.search.now c.requires.above.searching.ready c.args.node c.args.out.now.items (entry ∷ []) c.args.out.now.items 0 begun, c.in_err-push.ensures.full, ap length c.requires.empty, c.args.pending.now.ok) in
    on_err _ lack

pub loop-open-init : goal.loop-open-init
loop-open-init c =
    let entry : Pending = pending_at c.args.node c.args.trail.now c.args.taken.now in
    let pushed : c.push.new.self.items ≡ entry ∷ [] = c.in_ok-push.ensures.items ∙ ap (λ l. l ++ c.at.result ∷ []) c.requires.empty ∙ ap (λ p. p ∷ []) c.at.ensures in
    record {
      found_so_far = finding_starts c.args.search.now c.requires.above.searching.ready c.args.node c.args.out.now.items c.args.trail.now c.args.taken.now c.push.new.self.items c.requires.above.node pushed;
      still_pending = waiting_starts c.args.search.now c.args.node c.args.trail.now c.args.taken.now c.push.new.self.items pushed c.requires.above;
      keeps = record {
        same_slots = refl;
        same_table = refl;
        enough_still = λ n enough. enough;
        no_less_room = same_room c.args.scratch.now;
        no_less_list = c.in_ok-push.ensures.capacity;
      };
      no_less_place = omega arith;
    }

pub next_open-requires-clause-waiting : goal.next_open-requires-clause-waiting
next_open-requires-clause-waiting c = (c.args.trail.now.pairs, c.args.taken.now.pairs, c.loop-open.invariant.still_pending)

pub returns-in_err-open-clause-grows : goal.returns-in_err-open-clause-grows
returns-in_err-open-clause-grows c = c.in_err-open.ensures.grows c.args.trail.now.pairs c.args.taken.now.pairs c.loop-open.invariant.still_pending

pub returns-in_err-open-clause-full : goal.returns-in_err-open-clause-full
returns-in_err-open-clause-full c =
    let l = c.in_err-open.ensures.full in
    let node : IsNode c.args.search.now.tree.now l.next.node = next_node c.args.search.now c.requires.above.searching.ready c.args.node c.args.out.now.items c.loop-open.trail c.loop-open.taken c.loop-open.pending.items c.loop-open.invariant.still_pending.due c.loop-open.out.items c.loop-open.passed c.loop-open.invariant.found_so_far l.front l.next l.closed l.is in
    let lack : LacksRoom c.args.search.now c.args.node c.args.trail.now.pairs c.args.scratch.now c.args.pending.now c.args.out.now = λ n enough few place.
    l.lack node.0 node.1 n (c.loop-open.invariant.keeps.enough_still n enough)
    (omega (arith, few, next_few_children c.args.search.now c.requires.above.searching.ready c.args.node c.args.out.now.items c.loop-open.trail c.loop-open.taken c.loop-open.pending.items c.loop-open.invariant.still_pending.due c.loop-open.out.items c.loop-open.passed c.loop-open.invariant.found_so_far l.front l.next l.closed l.is node.0 node.1, c.loop-open.invariant.keeps.no_less_list)) in
    on_err _ lack

pub overflow_add-passed : goal.overflow_add-passed
overflow_add-passed c =
    let turned : HasTurned c.args.search.now c.in-Some.open c.next_open.new.trail c.next_open.new.taken c.loop-open.pending.items c.next_open.new.pending.items = subst (HasTurnedTo c.args.search.now c.next_open.new.trail c.next_open.new.taken c.loop-open.pending.items c.next_open.new.pending.items) c.in-Some.is c.in_ok-open.ensures.turns in
    omega (arith, finding_small c.args.search.now c.requires.above.searching.ready c.args.node c.args.out.now.items c.next_open.new.pending.items _ (c.loop-open.passed + 1) (finding_turned c.args.search.now c.requires.above.searching.ready c.args.node c.args.out.now.items c.loop-open.trail c.loop-open.taken c.loop-open.pending.items c.loop-open.invariant.still_pending.due c.loop-open.out.items c.loop-open.passed c.loop-open.invariant.found_so_far c.in-Some.open c.next_open.new.trail c.next_open.new.taken c.next_open.new.pending.items turned _ _ refl refl))

pub postings-requires : goal.postings-requires
postings-requires c =
    let turned : HasTurned c.args.search.now c.in-Some.open c.next_open.new.trail c.next_open.new.taken c.loop-open.pending.items c.next_open.new.pending.items = subst (HasTurnedTo c.args.search.now c.next_open.new.trail c.next_open.new.taken c.loop-open.pending.items c.next_open.new.pending.items) c.in-Some.is c.in_ok-open.ensures.turns in
    turned_node c.args.search.now c.requires.above.searching.ready c.args.node c.args.out.now.items c.loop-open.trail c.loop-open.taken c.loop-open.pending.items c.loop-open.invariant.still_pending.due c.loop-open.out.items c.loop-open.passed c.loop-open.invariant.found_so_far c.in-Some.open c.next_open.new.trail c.next_open.new.taken c.next_open.new.pending.items turned

pub loop-open-smaller : goal.loop-open-smaller
loop-open-smaller c =
    let turned : HasTurned c.args.search.now c.in-Some.open c.next_open.new.trail c.next_open.new.taken c.loop-open.pending.items c.next_open.new.pending.items = subst (HasTurnedTo c.args.search.now c.next_open.new.trail c.next_open.new.taken c.loop-open.pending.items c.next_open.new.pending.items) c.in-Some.is c.in_ok-open.ensures.turns in
    let turn = finding_turned c.args.search.now c.requires.above.searching.ready c.args.node c.args.out.now.items c.loop-open.trail c.loop-open.taken c.loop-open.pending.items c.loop-open.invariant.still_pending.due c.loop-open.out.items c.loop-open.passed c.loop-open.invariant.found_so_far c.in-Some.open c.next_open.new.trail c.next_open.new.taken c.next_open.new.pending.items turned _ _ refl refl in
    omega (arith, finding_few c.args.search.now c.requires.above.searching.ready c.args.node c.args.out.now.items c.next_open.new.pending.items _ (c.loop-open.passed + 1) turn)

pub loop-open-preserved : goal.loop-open-preserved
loop-open-preserved c =
    let turned : HasTurned c.args.search.now c.in-Some.open c.next_open.new.trail c.next_open.new.taken c.loop-open.pending.items c.next_open.new.pending.items = subst (HasTurnedTo c.args.search.now c.next_open.new.trail c.next_open.new.taken c.loop-open.pending.items c.next_open.new.pending.items) c.in-Some.is c.in_ok-open.ensures.turns in
    let node : IsNode c.args.search.now.tree.now c.in-Some.open = turned_node c.args.search.now c.requires.above.searching.ready c.args.node c.args.out.now.items c.loop-open.trail c.loop-open.taken c.loop-open.pending.items c.loop-open.invariant.still_pending.due c.loop-open.out.items c.loop-open.passed c.loop-open.invariant.found_so_far c.in-Some.open c.next_open.new.trail c.next_open.new.taken c.next_open.new.pending.items turned in
    record {
      found_so_far = finding_turned c.args.search.now c.requires.above.searching.ready c.args.node c.args.out.now.items c.loop-open.trail c.loop-open.taken c.loop-open.pending.items c.loop-open.invariant.still_pending.due c.loop-open.out.items c.loop-open.passed c.loop-open.invariant.found_so_far c.in-Some.open c.next_open.new.trail c.next_open.new.taken c.next_open.new.pending.items turned c.postings.result c.append_to.new.others.items (c.postings.ensures node.0 node.1) c.in_ok-append_to.ensures.ok;
      still_pending = c.in_ok-open.ensures.waiting c.args.trail.now.pairs c.args.taken.now.pairs c.loop-open.invariant.still_pending;
      keeps = keeps_on c.args.search.now c.args.trail.now c.loop-open.trail c.next_open.new.trail c.args.taken.now c.loop-open.taken c.next_open.new.taken c.args.scratch.now c.loop-open.scratch c.next_open.new.scratch c.args.pending.now c.loop-open.pending c.next_open.new.pending c.loop-open.invariant.keeps
          c.in_ok-open.ensures.slots c.in_ok-open.ensures.taken_slots c.in_ok-open.ensures.within c.in_ok-open.ensures.keeps c.in_ok-open.ensures.room;
      no_less_place = omega (arith, c.loop-open.invariant.no_less_place, c.append_to.ensures.keeps);
    }

pub returns-in_err-append_to-clause-grows : goal.returns-in_err-append_to-clause-grows
returns-in_err-append_to-clause-grows c = c.in_ok-open.ensures.grows c.args.trail.now.pairs c.args.taken.now.pairs c.loop-open.invariant.still_pending

pub returns-in_err-append_to-clause-full : goal.returns-in_err-append_to-clause-full
returns-in_err-append_to-clause-full c =
    let turned : HasTurned c.args.search.now c.in-Some.open c.next_open.new.trail c.next_open.new.taken c.loop-open.pending.items c.next_open.new.pending.items = subst (HasTurnedTo c.args.search.now c.next_open.new.trail c.next_open.new.taken c.loop-open.pending.items c.next_open.new.pending.items) c.in-Some.is c.in_ok-open.ensures.turns in
    let node : IsNode c.args.search.now.tree.now c.in-Some.open = turned_node c.args.search.now c.requires.above.searching.ready c.args.node c.args.out.now.items c.loop-open.trail c.loop-open.taken c.loop-open.pending.items c.loop-open.invariant.still_pending.due c.loop-open.out.items c.loop-open.passed c.loop-open.invariant.found_so_far c.in-Some.open c.next_open.new.trail c.next_open.new.taken c.next_open.new.pending.items turned in
    let lack : LacksRoom c.args.search.now c.args.node c.args.trail.now.pairs c.args.scratch.now c.args.pending.now c.args.out.now = λ n enough few place.
    omega (
      arith,
      finding_fits c.args.search.now c.requires.above.searching.ready c.args.node c.args.out.now.items c.next_open.new.pending.items (c.loop-open.out.items ++ c.postings.result) (c.loop-open.passed + 1) c.args.out.now refl
          (finding_turned c.args.search.now c.requires.above.searching.ready c.args.node c.args.out.now.items c.loop-open.trail c.loop-open.taken c.loop-open.pending.items c.loop-open.invariant.still_pending.due c.loop-open.out.items c.loop-open.passed c.loop-open.invariant.found_so_far c.in-Some.open c.next_open.new.trail c.next_open.new.taken c.next_open.new.pending.items turned c.postings.result (c.loop-open.out.items ++ c.postings.result) (c.postings.ensures node.0 node.1) refl) place,
      length-append c.loop-open.out.items c.postings.result,
      c.in_err-append_to.ensures.full,
      c.loop-open.invariant.no_less_place,
      c.loop-open.out.ok,
    ) in
    on_err _ lack

pub returns-clause-grows : goal.returns-clause-grows
returns-clause-grows c = c.in_ok-open.ensures.grows c.args.trail.now.pairs c.args.taken.now.pairs c.loop-open.invariant.still_pending

pub returns-clause-found : goal.returns-clause-found
returns-clause-found c =
    let none = subst (HasTurnedTo c.args.search.now c.next_open.new.trail c.next_open.new.taken c.loop-open.pending.items c.next_open.new.pending.items) c.in_default.is c.in_ok-open.ensures.turns in
    finding_ends c.args.search.now c.requires.above.searching.ready c.args.node c.args.out.now.items [] c.loop-open.out.items c.loop-open.passed (finding_none c.args.search.now c.requires.above.searching.ready c.args.node c.args.out.now.items c.loop-open.trail c.loop-open.taken c.loop-open.pending.items c.loop-open.invariant.still_pending.due c.loop-open.out.items c.loop-open.passed c.loop-open.invariant.found_so_far none.0) refl
