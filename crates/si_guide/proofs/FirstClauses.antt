-- Where a text doesn't begin with a clause.
use Rattle.std.proofs.Common.{◌≡◌}
use Rattle.std.specs.Prelude.{None}
use Rattle.si_defs.specs.Bytes.{Bytes}
use Rattle.si_defs.specs.Grammar.{clause_item, include_item}
use Rattle.si_parse.specs.Meaning.{selection_of}
use Rattle.si_parse.specs.Reading.{IsRead}
use Rattle.si_parse.specs.declared.item.Read.{Read}
use Rattle.si_parse.specs.declared.item.Read.TheVariants as read
use Rattle.si_parse.proofs.GrammarStops.{no_item_in_blanks}
use Rattle.si_guide.specs.Steps.{ReadsClause}

-- something else than a clause was read
abbrev pub IsOther : Read → Type 0
IsOther (read.Cnf c end) = ⊥
IsOther _ = Unit {0}

pub reads_none : (text : Bytes) (r : Read) → IsRead text 0 r → IsOther r → ReadsClause text None
reads_none text (read.Cnf c end) h other = absurd other
reads_none text (read.Include file s end) h other = λ c rest k.
    let bad : clause_item c ≡ include_item file (selection_of s) = (h.only (clause_item c) rest k).0 in cc
reads_none text read.End h other = λ c rest k. no_item_in_blanks text (clause_item c) rest h k
reads_none text (read.Syntax place) h other = λ c rest k. h.0.faulty.no_item (clause_item c) rest k
reads_none text (read.Language place) h other = λ c rest k. h.0.faulty.no_item (clause_item c) rest k
