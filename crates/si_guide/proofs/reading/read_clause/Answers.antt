use Rattle.std.proofs.Common.{sym, subst}
use Rattle.si_guide.proofs.FirstClauses.{IsOther, reads_none}
use Rattle.si_guide.proofs.reading.read_clause.Goals as goal

pub returns-in-Include : goal.returns-in-Include
returns-in-Include c = reads_none c.args.text.now c.in_ok-read.read c.in_ok-read.ensures (subst IsOther (sym c.in-Include.is) tt)

pub returns-in-End : goal.returns-in-End
returns-in-End c = reads_none c.args.text.now c.in_ok-read.read c.in_ok-read.ensures (subst IsOther (sym c.in-End.is) tt)

pub returns-in-Syntax : goal.returns-in-Syntax
returns-in-Syntax c = reads_none c.args.text.now c.in_ok-read.read c.in_ok-read.ensures (subst IsOther (sym c.in-Syntax.is) tt)

pub returns : goal.returns
returns c = reads_none c.args.text.now c.in_ok-read.read c.in_ok-read.ensures (subst IsOther (sym c.in-Language.is) tt)
