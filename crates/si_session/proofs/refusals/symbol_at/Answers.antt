use Rattle.std.proofs.Common.{Some, sym, ap, ◌∙◌, arith}
use Rattle.std.proofs.lemmas.Option.{same_Some}
use Rattle.si_defs.specs.Entries.{clause_symbols}
use Rattle.si_defs.proofs.ListLaws.{get_some}
use Rattle.si_term.specs.Meaning.{clause_of}
use Rattle.si_term.proofs.EntryHeads.{length-symbols, symbol_placed}
use Rattle.si_session.proofs.refusals.symbol_at.Goals as goal

pub head_at-requires-clause-within : goal.head_at-requires-clause-within
head_at-requires-clause-within c = omega (arith, length-symbols (clause_of c.args.clause.now) c.requires.sound, c.requires.within)

pub returns : goal.returns
returns c =
    let clause = clause_of c.args.clause.now in
    let there = get_some (clause_symbols clause) c.args.occurrence c.requires.within in
    let placed = symbol_placed clause c.requires.sound c.args.occurrence there.0 there.1 in
    there.1 ∙ ap Some (same_Some _ _ (same_Some _ _ (sym placed ∙ c.head_at.ensures)))
