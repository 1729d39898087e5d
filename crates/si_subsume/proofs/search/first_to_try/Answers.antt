use Rattle.std.proofs.Common.{◌≡◌, ◌-◌, ◌<◌, suc, length, get_or, [], ap, sym, ◌∙◌, subst, arith}
use Rattle.std.proofs.lemmas.Option.{slice_get-get_or}
use Rattle.si_flat.proofs.Subterms.{some_cell}
use Rattle.si_subsume.specs.Heads.{head_of, first_cell, IsFirstToTry}
use Rattle.si_subsume.proofs.Unequal.{term_read}
use Rattle.si_subsume.proofs.HeadLaws.{length-nexts, heads_same}
use Rattle.si_subsume.proofs.Seeking.{first_of_all, first_behind}
use Rattle.si_subsume.proofs.search.first_to_try.Goals as goal

pub bounds-task-0 : goal.bounds-task-0
bounds-task-0 c =
    let less : c.args.from - 1 < length c.args.task.now.targets.now = omega (arith, c.if-from-end.false, c.if-from-gt0.true) in
    let read = term_read c.args.task.now.slots c.args.task.now.targets.now (c.args.from - 1) (record { ref_ptr = (0, 0); now = [] }) c.requires.searchable.targets less in
    some_cell _ read.whole

pub next-requires : goal.next-requires
next-requires c = omega (arith, c.if-from-end.false, c.if-from-gt0.true, ap length c.requires.searchable.index.next, length-nexts (length c.args.task.now.targets.now) 0 c.args.task.now.targets.now)

pub returns-then-eq : goal.returns-then-eq
returns-then-eq c =
    let targets = c.args.task.now.targets.now in
    let head = head_of (first_cell c.args.literal.now) in
    let less : c.args.from - 1 < length targets = omega (arith, c.if-from-end.false, c.if-from-gt0.true) in
    let got = slice_get-get_or targets (c.args.from - 1) (record { ref_ptr = (0, 0); now = [] }) less in
    let same = heads_same c.head_of.result c.head_of-then-from-gt0.result (sym c.if-eq.ensures) in
    let behind : suc (c.args.from - 1) ≡ c.args.from = omega (arith, c.if-from-gt0.true) in
    subst (λ n. IsFirstToTry targets head n c.next.result) behind
    (first_behind targets head (c.args.from - 1) c.next.result _ got
    (sym c.head_of-then-from-gt0.ensures ∙ sym same ∙ c.head_of.ensures)
    (c.next.ensures ∙ ap (λ ns. get_or ns (c.args.from - 1) 0) c.requires.searchable.index.next))

pub returns : goal.returns
returns c = first_of_all c.args.task.now.targets.now (head_of (first_cell c.args.literal.now)) c.args.from c.first.result (c.first.ensures ∙ c.requires.searchable.index.first _)
