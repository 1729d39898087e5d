use Rattle.std.proofs.Common.{length, ap, arith}
use Rattle.std.proofs.lemmas.List.{length-map}
use Rattle.si_term.specs.Terms.{symbol_of}
use Rattle.si_term.specs.Meaning.{clause_of}
use Rattle.si_term.proofs.EntryHeads.{length-symbols}
use Rattle.si_term.proofs.Alone.{clause_few}
use Rattle.si_sign.proofs.plain.clash_with.Goals as goal

pub first_clash-requires : goal.first_clash-requires
first_clash-requires c =
    omega (
      arith,
      ap length c.as_slice-2.ensures.value,
      length-map c.in_ok-own.own.items (λ s. symbol_of s.now),
      ap length c.in_ok-own.ensures,
      length-symbols (clause_of c.args.clause.now) c.requires,
      clause_few (clause_of c.args.clause.now) c.requires,
    )
