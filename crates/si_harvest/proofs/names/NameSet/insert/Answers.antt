use Rattle.std.proofs.Common.{◌∙◌, refl}
use Rattle.si_term.specs.Meaning.{name_of}
use Rattle.si_harvest.proofs.NameSets.{word_more, integer_more}
use Rattle.si_harvest.proofs.names.NameSet.insert.Goals as goal

pub returns-in_ok-insert-in-Word : goal.returns-in_ok-insert-in-Word
returns-in_ok-insert-in-Word c = λ names s.
    word_more c.args.self.now _ names (name_of c.args.name.now) c.in_ok-text.text c.in-Word.is (c.in_ok-text.ensures.items ∙ c.as_bytes.ensures)
    c.in_ok-insert-in-Word.ensures.keys refl s

pub returns-in_ok-insert-in-Int : goal.returns-in_ok-insert-in-Int
returns-in_ok-insert-in-Int c = λ names s.
    integer_more c.args.self.now _ names (name_of c.args.name.now) c.in_ok-text.text c.in-Int.is (c.in_ok-text.ensures.items ∙ c.as_bytes.ensures)
    c.in_ok-insert-in-Int.ensures.keys refl s
