use Rattle.std.proofs.Common.{◌<◌, [], sym, ap, ◌∙◌, arith}
use Rattle.si_flat.specs.declared.Cell.TheVariants.{App}
use Rattle.si_unify.specs.Solving.{slot_count}
use Rattle.si_term.proofs.Results.{on_err}
use Rattle.si_unify.specs.Rooms.{spot_pairs_room}
use Rattle.si_unify.specs.Spots.{free_slot, spots_of}
use Rattle.si_unify.specs.Unifying.{SpotsLackRoom}
use Rattle.si_unify.proofs.Chains.{head_inside, head_is}
use Rattle.si_unify.proofs.Binding.{binds_subterm}
use Rattle.si_unify.proofs.Meeting.{same_variable_met, left_bound, right_bound, free_below, clash_met, constant_met, pair_met, same_told, symbols_told}
use Rattle.si_unify.proofs.PairLaws.{pair_refused}
use Rattle.si_unify.proofs.unifier.Unifier.meet_ends.Goals as goal

pub bounds-left-0 : goal.bounds-left-0
bounds-left-0 c = head_inside _ _ _ c.requires.left

pub bounds-right-0 : goal.bounds-right-0
bounds-right-0 c = head_inside _ _ _ c.requires.right

pub returns-then-same_slot-clause-met : goal.returns-then-same_slot-clause-met
returns-then-same_slot-clause-met c =
    same_variable_met _ _ _ _ _ c.requires.underway.legal c.requires.underway.keys
    (same_told c.args.self.now.question.slots _ _ _ _ _ _ _ c.slot_of.ensures c.slot_of-2.ensures (head_is _ _ _ c.requires.left) (head_is _ _ _ c.requires.right) c.if-same_slot.ensures)

pub bind-requires-clause-in_range : goal.bind-requires-clause-in_range
bind-requires-clause-in_range c =
    let free = sym (c.in-Some.ensures ∙ ap (free_slot c.args.self.now.question.slots) (head_is _ _ _ c.requires.right)) in
    let below : c.in-Some.slot < slot_count c.args.self.now.question.slots = free_below _ _ _ _ c.requires.underway.legal c.requires.right_end.spot_is free in
    omega (arith, c.requires.underway.room)

pub returns-in-Some-clause-met : goal.returns-in-Some-clause-met
returns-in-Some-clause-met c =
    right_bound _ _ _ _ _ _ _
    (
    record {
      legal = c.requires.underway.legal;
      apart = c.requires.underway.keys;
      left_end = c.requires.left_end;
      right_end = c.requires.right_end;
      differ = same_told c.args.self.now.question.slots _ _ _ _ _ _ _ c.slot_of.ensures c.slot_of-2.ensures (head_is _ _ _ c.requires.left) (head_is _ _ _ c.requires.right) c.if-same_slot.ensures;
    }
    )
    (sym (c.in-Some.ensures ∙ ap (free_slot c.args.self.now.question.slots) (head_is _ _ _ c.requires.right)))
    (binds_subterm _ _ _ _ _ c.requires.underway.legal c.requires.left c.bind.ensures.pairs)

pub bind-requires-in-Some-left_free-clause-in_range : goal.bind-requires-in-Some-left_free-clause-in_range
bind-requires-in-Some-left_free-clause-in_range c =
    let free = sym (c.in-Some-left_free.ensures ∙ ap (free_slot c.args.self.now.question.slots) (head_is _ _ _ c.requires.left)) in
    let below : c.in-Some-left_free.slot < slot_count c.args.self.now.question.slots = free_below _ _ _ _ c.requires.underway.legal c.requires.left_end.spot_is free in
    omega (arith, c.requires.underway.room)

pub returns-in-Some-left_free-clause-met : goal.returns-in-Some-left_free-clause-met
returns-in-Some-left_free-clause-met c =
    left_bound _ _ _ _ _ _ _
    (
    record {
      legal = c.requires.underway.legal;
      apart = c.requires.underway.keys;
      left_end = c.requires.left_end;
      right_end = c.requires.right_end;
      differ = same_told c.args.self.now.question.slots _ _ _ _ _ _ _ c.slot_of.ensures c.slot_of-2.ensures (head_is _ _ _ c.requires.left) (head_is _ _ _ c.requires.right) c.if-same_slot.ensures;
    }
    )
    (sym (c.in-Some-left_free.ensures ∙ ap (free_slot c.args.self.now.question.slots) (head_is _ _ _ c.requires.left)))
    (binds_subterm _ _ _ _ _ c.requires.underway.legal c.requires.right c.bind-in-Some-left_free.ensures.pairs)

pub bind-requires-in-Some-right_free-clause-in_range : goal.bind-requires-in-Some-right_free-clause-in_range
bind-requires-in-Some-right_free-clause-in_range c =
    let free = sym (c.in-Some-right_free.ensures ∙ ap (free_slot c.args.self.now.question.slots) (head_is _ _ _ c.requires.right)) in
    let below : c.in-Some-right_free.slot < slot_count c.args.self.now.question.slots = free_below _ _ _ _ c.requires.underway.legal c.requires.right_end.spot_is free in
    omega (arith, c.requires.underway.room)

pub returns-in-Some-right_free-clause-met : goal.returns-in-Some-right_free-clause-met
returns-in-Some-right_free-clause-met c =
    right_bound _ _ _ _ _ _ _
    (
    record {
      legal = c.requires.underway.legal;
      apart = c.requires.underway.keys;
      left_end = c.requires.left_end;
      right_end = c.requires.right_end;
      differ = same_told c.args.self.now.question.slots _ _ _ _ _ _ _ c.slot_of.ensures c.slot_of-2.ensures (head_is _ _ _ c.requires.left) (head_is _ _ _ c.requires.right) c.if-same_slot.ensures;
    }
    )
    (sym (c.in-Some-right_free.ensures ∙ ap (free_slot c.args.self.now.question.slots) (head_is _ _ _ c.requires.right)))
    (binds_subterm _ _ _ _ _ c.requires.underway.legal c.requires.left c.bind-in-Some-right_free.ensures.pairs)

pub returns-then-not-have_same_symbol-clause-met : goal.returns-then-not-have_same_symbol-clause-met
returns-then-not-have_same_symbol-clause-met c =
    clash_met _ _ c.args.self.now.trail.now.pairs _ [] _ _
    (
    record {
      legal = c.requires.underway.legal;
      apart = c.requires.underway.keys;
      left_end = c.requires.left_end;
      right_end = c.requires.right_end;
      differ = same_told c.args.self.now.question.slots _ _ _ _ _ _ _ c.slot_of.ensures c.slot_of-2.ensures (head_is _ _ _ c.requires.left) (head_is _ _ _ c.requires.right) c.if-same_slot.ensures;
    }
    )
    (sym (c.in_default-left_free.ensures ∙ ap (free_slot c.args.self.now.question.slots) (head_is _ _ _ c.requires.left)))
    (sym (c.in_default-right_free.ensures ∙ ap (free_slot c.args.self.now.question.slots) (head_is _ _ _ c.requires.right)))
    (symbols_told _ _ _ _ _ (head_is _ _ _ c.requires.left) (head_is _ _ _ c.requires.right) c.if-not-have_same_symbol.ensures)

pub returns-in-App-default-eq0-default-clause-met : goal.returns-in-App-default-eq0-default-clause-met
returns-in-App-default-eq0-default-clause-met c =
    constant_met _ _ _ _ _ _ _
    (
    record {
      legal = c.requires.underway.legal;
      apart = c.requires.underway.keys;
      left_end = c.requires.left_end;
      right_end = c.requires.right_end;
      differ = same_told c.args.self.now.question.slots _ _ _ _ _ _ _ c.slot_of.ensures c.slot_of-2.ensures (head_is _ _ _ c.requires.left) (head_is _ _ _ c.requires.right) c.if-same_slot.ensures;
    }
    )
    (symbols_told _ _ _ _ _ (head_is _ _ _ c.requires.left) (head_is _ _ _ c.requires.right) c.if-not-have_same_symbol.ensures)
    (sym (head_is _ _ _ c.requires.left) ∙ c.in-App-default-eq0-default.is ∙ ap (λ n. App c.in-App-default-eq0-default.sym n c.in-App-default-eq0-default.len) (sym c.in-App-default-eq0-default.arity-is ∙ c.in-App-default-eq0-default.arity-test))

pub returns-in_err-turns-clause-full : goal.returns-in_err-turns-clause-full
returns-in_err-turns-clause-full c =
    let refused : SpotsLackRoom c.args.self.now = λ n room. omega (arith, room.heights, c.in_err-turns.ensures.full) in on_err _ refused

pub returns-clause-met : goal.returns-clause-met
returns-clause-met c =
    let added = c.in_ok-add_pair.ensures.added in
    pair_met _ _ _ _ _ _ added.place
    (
    record {
      legal = c.requires.underway.legal;
      apart = c.requires.underway.keys;
      left_end = c.requires.left_end;
      right_end = c.requires.right_end;
      differ = same_told c.args.self.now.question.slots _ _ _ _ _ _ _ c.slot_of.ensures c.slot_of-2.ensures (head_is _ _ _ c.requires.left) (head_is _ _ _ c.requires.right) c.if-same_slot.ensures;
    }
    )
    (symbols_told _ _ _ _ _ (head_is _ _ _ c.requires.left) (head_is _ _ _ c.requires.right) c.if-not-have_same_symbol.ensures)
    added.more
    added.there

pub returns-in_err-add_pair-clause-full : goal.returns-in_err-add_pair-clause-full
returns-in_err-add_pair-clause-full c =
    let refused : SpotsLackRoom c.args.self.now = λ n room.
    pair_refused c.args.self.now.question c.args.self.now.trail.now.pairs n c.requires.underway.legal room.values room.left room.right
    (spots_of c.args.left c.args.right) c.args.self.now.keys.now.keys (spot_pairs_room c.args.self.now.keys.now)
    c.requires.left_end.spot_is c.requires.right_end.spot_is c.requires.underway.keys c.in_err-add_pair.ensures.full room.spot_pairs in
    on_err _ refused
