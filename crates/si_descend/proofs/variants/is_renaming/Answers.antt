use Rattle.std.proofs.Common.{◌+◌, [], refl, sym, append-nil, arith}
use Rattle.si_descend.proofs.RenameLaws.{always, never, untrue, all_renamed, all_taken, first_renamed}
use Rattle.si_descend.proofs.variants.is_renaming.Goals as goal

pub loop-n-init : goal.loop-n-init
loop-n-init c = record {
  renaming_first = c.requires.known;
  taken_so_far = c.requires.taken;
  more_taken = ([], sym (append-nil c.args.taken.now.pairs));
  same_slots = refl;
}

pub returns-then-not-is_renamed_apart-clause-renaming : goal.returns-then-not-is_renamed_apart-clause-renaming
returns-then-not-is_renamed_apart-clause-renaming c =
    never (λ h. untrue c.is_renamed_apart.result c.is_renamed_apart.ensures.renaming c.if-not-is_renamed_apart.true (first_renamed c.args.slots.now c.args.trail.now.pairs c.args.trail.now.slots c.requires.frozen c.requires.solving c.mark-n-end.ensures.distinct (c.loop-n.n + 1) h))

pub returns-clause-renaming : goal.returns-clause-renaming
returns-clause-renaming c =
    always (all_renamed c.args.slots.now c.args.trail.now.pairs c.args.trail.now.slots c.requires.frozen c.requires.solving c.mark-n-end.ensures.distinct c.loop-n.n (omega (arith, c.loop-n-test.false, c.mark-n-end.ensures.number)) c.loop-n.invariant.renaming_first)

pub returns-clause-taken : goal.returns-clause-taken
returns-clause-taken c told =
    all_taken c.args.slots.now c.args.trail.now.pairs c.args.trail.now.slots c.requires.frozen c.requires.solving c.mark-n-end.ensures.distinct c.loop-n.n c.loop-n.taken.pairs (omega (arith, c.loop-n-test.false, c.mark-n-end.ensures.number)) c.loop-n.invariant.taken_so_far
