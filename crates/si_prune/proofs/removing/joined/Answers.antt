use Rattle.si_term.proofs.Results.{on_err}
use Rattle.si_prune.proofs.DueLaws.{upper_there, other_there, may_compose, may_join, is_due}
use Rattle.si_prune.proofs.removing.joined.Goals as goal

pub bindings-requires : goal.bindings-requires
bindings-requires c = upper_there c.args.tree.now c.args.leaf _ _ c.in-Some.ensures.some

pub bindings-requires-2 : goal.bindings-requires-2
bindings-requires-2 c = other_there c.args.tree.now c.args.leaf _ _ c.in-Some.ensures.some

pub compose-requires : goal.compose-requires
compose-requires c =
    may_compose c.args.tree.now c.args.leaf _ _ c.in-Some.ensures.some c.bindings.result.now c.bindings-2.result.now c.bindings.ensures c.bindings-2.ensures

pub returns-in_err-both-clause-err : goal.returns-in_err-both-clause-err
returns-in_err-both-clause-err c = on_err _ (is_due c.args.tree.now c.args.leaf _ _ c.in-Some.ensures.some)

pub returns-clause-ok : goal.returns-clause-ok
returns-clause-ok c =
    may_join c.args.tree.now c.args.leaf _ _ c.in-Some.ensures.some c.bindings.result.now c.bindings-2.result.now c.in_ok-both.both c.bindings.ensures c.bindings-2.ensures c.in_ok-both.ensures
