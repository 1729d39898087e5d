use Rattle.std.proofs.Common.{sym, subst, subst₂}
use Rattle.std.specs.List.{AllByRecursion}
use Rattle.si_defs.specs.Symbols.{IsNumbering}
use Rattle.si_index.specs.Searching.{IsKnownClause}
use Rattle.si_index.proofs.EntryLaws.{all_clauses_known}
use Rattle.si_index.proofs.subsuming.Comparison.try_passing.Goals as goal

pub try_held-requires-clause-numbering : goal.try_held-requires-clause-numbering
try_held-requires-clause-numbering c = subst IsNumbering (sym c.signature.ensures.numbers) c.signature.ensures.numbering

pub try_held-requires-clause-known : goal.try_held-requires-clause-known
try_held-requires-clause-known c =
    let slots = c.requires.places in
    let signed = c.signature.ensures in
    record {
      clauses =
          subst₂ (λ numbers cs. AllByRecursion (IsKnownClause numbers) cs) (sym signed.numbers) (sym slots.clauses)
          (all_clauses_known c.args.index.now.numbers c.args.index.now.clauses _ signed.numbers signed.signature c.requires.clauses);
      few = slots.few;
      rise = slots.rise;
    }
