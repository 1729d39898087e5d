use Rattle.std.proofs.Common.{true, refl, sym, ap, ◌∙◌, subst, arith}
use Rattle.std.proofs.lemmas.Result.{on_ok_weaker}
use Rattle.si_legal.specs.Trees.{HasNode}
use Rattle.si_descend.specs.declared.pending.Pending.{Pending}
use Rattle.si_descend.specs.Pending.{marks_of, pending_at}
use Rattle.si_descend.specs.Searching.{AreOpenBelow}
use Rattle.si_descend.proofs.AttemptLaws.{splits_by}
use Rattle.si_descend.proofs.Walking.{leaves_all, leaves_none}
use Rattle.si_descend.proofs.pending.push_open.Goals as goal

pub returns-in_default-clause-leaves : goal.returns-in_default-clause-leaves
returns-in_default-clause-leaves c =
    leaves_none c.args.search.now c.requires.there.searching.ready (pending_at c.args.node c.args.trail.now c.args.taken.now) c.requires.there.node.0 c.requires.there.node.1 c.args.trail.now c.args.taken.now c.args.pending.now.items c.args.pending.now.items
    (sym (c.split.ensures c.requires.there.node.0 c.requires.there.node.1) ∙ c.in_default.is) refl

pub returns-then-is_open_below-clause-leaves : goal.returns-then-is_open_below-clause-leaves
returns-then-is_open_below-clause-leaves c =
    let node = c.requires.there.node in
    let here : Pending = record { node = c.at.result.node; mark = c.at.result.mark; taken_mark = c.at.result.taken_mark; whole = true } in
    let open_below : AreOpenBelow c.args.search.now c.args.node = c.is_open_below.ensures c.if-is_open_below.true in
    let same : HasNode c.args.search.now.tree.now here.node node.0 = subst (λ k. HasNode c.args.search.now.tree.now k node.0) (sym (ap (λ p. p.node) c.at.ensures)) node.1 in
    on_ok_weaker c.push_all.result
    (λ pushes. leaves_all c.args.search.now c.requires.there.searching.ready (pending_at c.args.node c.args.trail.now c.args.taken.now) node.0 node.1 c.args.trail.now c.args.taken.now c.args.pending.now.items c.push_all.new.pending.items open_below (marks_of here)
    (omega (arith, ap (λ p. p.mark) c.at.ensures)) (omega (arith, ap (λ p. p.taken_mark) c.at.ensures)) (omega (arith, ap (λ p. p.mark) c.at.ensures)) (omega (arith, ap (λ p. p.taken_mark) c.at.ensures)) refl (pushes node.0 same))
    c.push_all.ensures.pushes

pub attempts_at-attempts-requires-clause-splits : goal.attempts_at-attempts-requires-clause-splits
attempts_at-attempts-requires-clause-splits c = splits_by c.args.search.now c.args.node c.args.trail.now.pairs c.asked_of-wanted.result c.asked_of-wanted.ensures
