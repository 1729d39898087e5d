use Rattle.std.proofs.Common.{sym, ◌∙◌}
use Rattle.si_term.proofs.Results.{on_err}
use Rattle.si_prune.proofs.RemoveLaws.{leaf_there, is_empty, removes_one, removes_last, removes_leaf}
use Rattle.si_prune.proofs.removing.try_remove.Goals as goal

pub postings-requires : goal.postings-requires
postings-requires c = leaf_there c.args.tree.now c.drop_posting.new.self c.args.leaf c.args.posting c.drop_posting.ensures

pub returns-then-not-is_empty-clause-ok : goal.returns-then-not-is_empty-clause-ok
returns-then-not-is_empty-clause-ok c =
    removes_one c.args.tree.now c.drop_posting.new.self c.args.leaf c.args.posting c.drop_posting.ensures c.postings.result c.postings.ensures
    (sym c.is_empty.ensures ∙ c.if-not-is_empty.true)

pub joined-requires : goal.joined-requires
joined-requires c =
    is_empty c.args.tree.now c.drop_posting.new.self c.args.leaf c.args.posting c.drop_posting.ensures c.postings.result c.postings.ensures
    (sym c.is_empty.ensures ∙ c.if-not-is_empty.false)

pub returns-in_err-joined-clause-err : goal.returns-in_err-joined-clause-err
returns-in_err-joined-clause-err c =
    on_err _
    (removes_last c.args.tree.now c.drop_posting.new.self c.args.leaf c.args.posting c.drop_posting.ensures c.postings.result c.postings.ensures
    (sym c.is_empty.ensures ∙ c.if-not-is_empty.false) c.in_err-joined.ensures.err)

pub returns-clause-ok : goal.returns-clause-ok
returns-clause-ok c =
    removes_leaf c.args.tree.now c.drop_posting.new.self c.args.leaf c.args.posting c.drop_posting.ensures c.drop_leaf.new.self c.in_ok-joined.joined c.drop_leaf.ensures
