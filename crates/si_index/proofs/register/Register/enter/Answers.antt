use Rattle.std.proofs.Common.{refl}
use Rattle.si_term.specs.Meaning.{clause_of}
use Rattle.si_defs.specs.Entries.{entries}
use Rattle.std.specs.Prelude.{◌+◌, length}
use Rattle.si_index.proofs.RegisterLaws.{entered_back}
use Rattle.si_index.proofs.register.Register.enter.Goals as goal

pub returns-then-needed-limit-clause-err : goal.returns-then-needed-limit-clause-err
returns-then-needed-limit-clause-err c =
    let old = c.args.self.now in
    let clause = clause_of c.args.clause.now in
    let taken = c.take.new.self in
    entered_back c.args.clauses.now.items old (record { names = old.names; signature = taken; entries = old.entries + length (entries clause) })
    (record { names = old.names; signature = c.give_back.new.self; entries = old.entries }) clause c.requires.signature
    (record {
      names = refl;
      uses = c.in-Ok.ensures.uses;
      sum = c.in-Ok.ensures.total;
      entered = refl;
      signature = c.take.ensures.signature;
      numbers = c.in-Ok.ensures.numbers;
    })
    (λ name. refl) c.give_back.ensures.uses c.give_back.ensures.total refl c.give_back.ensures.numbers c.give_back.ensures.signature
