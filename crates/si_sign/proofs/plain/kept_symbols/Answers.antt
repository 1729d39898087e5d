use Rattle.std.proofs.Common.{◌++◌, ap, sym, ◌∙◌}
use Rattle.std.proofs.lemmas.List.{map-append}
use Rattle.si_term.specs.Terms.{symbol_of}
use Rattle.si_sign.specs.Plain.{lent_symbols}
use Rattle.si_sign.proofs.PlainLaws.{symbols_next}
use Rattle.si_sign.proofs.plain.kept_symbols.Goals as goal

pub loop-i-preserved : goal.loop-i-preserved
loop-i-preserved c =
    ap lent_symbols c.in_ok-extend_from_slice.ensures.items
    ∙ map-append (λ s. symbol_of s.now) c.loop-i.all.items c.as_slice.result.now
    ∙ (λ n. c.loop-i.invariant n ++ (ap lent_symbols c.as_slice.ensures.value ∙ c.in_ok-symbols_of.ensures) n)
    ∙ sym (symbols_next c.args.clauses.now c.loop-i.i c.index-clauses-i.result c.loop-i-test.true c.index-clauses-i.is)
