use Rattle.std.proofs.Common.{◌+◌, map, subst, sym, refl}
use Rattle.si_defs.specs.Terms.{symbols}
use Rattle.si_defs.specs.Entries.{literals_symbols}
use Rattle.si_term.specs.Terms.{term_of}
use Rattle.si_term.specs.Meaning.{literal_of}
use Rattle.si_term.specs.declared.clause.Literal.{Literal}
use Rattle.si_term.proofs.Literals.{later, later-read, later-end}
use Rattle.si_screen.specs.Walks.{MeetsSymbols}
use Rattle.si_screen.proofs.ExtraLaws.{meets_then, met_lacking, extra_few}
use Rattle.si_screen.proofs.extra.Extra.of.Goals as goal

pub loop-i-init : goal.loop-i-init
loop-i-init g c =
    let pairs = g.T.SymTable.pairs c.args.table.now in
    λ new h. subst (λ e. MeetsSymbols pairs (literals_symbols (map literal_of c.args.literals.now)) e new) c.new-extra.ensures h

pub loop-i-preserved : goal.loop-i-preserved
loop-i-preserved g c =
    let pairs = g.T.SymTable.pairs c.args.table.now in
    let one = c.index-literals-i.result in
    let left = later c.args.literals.now (c.loop-i.i + 1) in
    let split = later-read c.args.literals.now c.loop-i.i one c.loop-i-test.true c.index-literals-i.is in
    let first = subst (λ (l : Literal). MeetsSymbols pairs (symbols (term_of l.atom)) c.loop-i.extra c.meet_term.new.extra) (sym c.index-literals-i.is) c.in_ok-meet_term.ensures in
    λ new rest.
    c.loop-i.invariant new
    (subst (λ ls. MeetsSymbols pairs (literals_symbols ls) c.loop-i.extra new) (sym split)
    (meets_then pairs (symbols (term_of one.atom)) (literals_symbols left) c.loop-i.extra c.meet_term.new.extra new first rest))

pub returns-clause-are : goal.returns-clause-are
returns-clause-are g c =
    let pairs = g.T.SymTable.pairs c.args.table.now in
    let end = later-end c.args.literals.now c.loop-i.i c.loop-i-test.false in
    met_lacking pairs (map literal_of c.args.literals.now) c.loop-i.extra
    (c.loop-i.invariant c.loop-i.extra (subst (λ ls. MeetsSymbols pairs (literals_symbols ls) c.loop-i.extra c.loop-i.extra) (sym end) refl))

pub returns-clause-few : goal.returns-clause-few
returns-clause-few g c =
    let pairs = g.T.SymTable.pairs c.args.table.now in
    let end = later-end c.args.literals.now c.loop-i.i c.loop-i-test.false in
    extra_few pairs (map literal_of c.args.literals.now) c.loop-i.extra c.requires.sound
    (c.loop-i.invariant c.loop-i.extra (subst (λ ls. MeetsSymbols pairs (literals_symbols ls) c.loop-i.extra c.loop-i.extra) (sym end) refl))
