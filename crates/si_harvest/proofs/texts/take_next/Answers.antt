use Rattle.std.proofs.Common.{refl}
use Rattle.si_parse.specs.Meaning.{selection_of}
use Rattle.si_harvest.proofs.Stepping.{read_as}
use Rattle.si_harvest.proofs.TakingTexts.{no_include, no_fault}
use Rattle.si_harvest.proofs.texts.take_next.Goals as goal

pub unreachable-requires : goal.unreachable-requires
unreachable-requires g c =
    no_include c.requires.clauses.0 c.args.bytes.now c.args.at c.in-Include.field-2 c.in-Include.field-0 (selection_of c.in-Include.field-1) c.requires.clauses.1
    (read_as c.args.bytes.now c.args.bytes.now c.args.at _ _ refl c.in-Include.is c.in_ok-clause.ensures)

pub unreachable-requires-in-Syntax : goal.unreachable-requires-in-Syntax
unreachable-requires-in-Syntax g c =
    no_fault c.requires.clauses.0 c.args.bytes.now c.args.at c.in-Syntax.field-0 c.requires.clauses.1
    (read_as c.args.bytes.now c.args.bytes.now c.args.at _ _ refl c.in-Syntax.is c.in_ok-clause.ensures).0

pub unreachable-requires-in-Language : goal.unreachable-requires-in-Language
unreachable-requires-in-Language g c =
    no_fault c.requires.clauses.0 c.args.bytes.now c.args.at c.in-Language.field-0 c.requires.clauses.1
    (read_as c.args.bytes.now c.args.bytes.now c.args.at _ _ refl c.in-Language.is c.in_ok-clause.ensures).0
