use Rattle.si_form.proofs.TableLaws.{numbers_tell_apart, entries_need_the_table_alone}
use Rattle.si_form.proofs.laws.numbers_tell_symbols_apart.Goals as goal

pub returns-clause-apart : goal.returns-clause-apart
returns-clause-apart c = numbers_tell_apart

pub returns-clause-entries : goal.returns-clause-entries
returns-clause-entries c = entries_need_the_table_alone
