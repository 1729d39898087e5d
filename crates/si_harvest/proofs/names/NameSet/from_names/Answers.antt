use Rattle.std.proofs.Common.{◌<◌, length, sym, subst, map, take, arith}
use Rattle.si_term.specs.Meaning.{name_of}
use Rattle.si_harvest.specs.Chosen.{IsSetOf}
use Rattle.si_harvest.proofs.NameSets.{names_more}
use Rattle.si_harvest.proofs.names.NameSet.from_names.Goals as goal

pub loop-i-preserved : goal.loop-i-preserved
loop-i-preserved c =
    let less : c.loop-i.i < length c.args.names.now = omega (arith, c.loop-i-test.true) in
    subst (λ ns. IsSetOf ns c.insert.new.self) (sym (names_more c.args.names.now c.loop-i.i c.index-names-i.result less c.index-names-i.is))
    (c.in_ok-insert.ensures (map name_of (take c.loop-i.i c.args.names.now)) c.loop-i.invariant)
