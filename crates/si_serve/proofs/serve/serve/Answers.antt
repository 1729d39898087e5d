-- The words are declined, or done as they ask; and a run over devices that can't fail ends in no
-- fault.
use Rattle.std.proofs.Common.{refl, sym, ◌∙◌, true≢false, map, string_bytes}
use Rattle.clap.specs.Words.{found_of, rows_of}
use Rattle.si_serve.proofs.Endings.{Serves_memory, serves_said, answers_asked, answers_usage, answers_memory}
use Rattle.si_serve.proofs.Faultless.{faultless_by, faultless_where_none_rose}
use Rattle.si_serve.proofs.serve.serve.Goals as goal

pub returns-in-Ok-clause-answers : goal.returns-in-Ok-clause-answers
returns-in-Ok-clause-answers g c = answers_asked _ _ _ (rows_of (found_of c.in-Ok.matches)) c.start.result _ _ _ _ c.in-Ok.ensures.taken c.in-Ok.ensures.faultless c.start.ensures.serves

pub returns-in-Ok-clause-plain : goal.returns-in-Ok-clause-plain
returns-in-Ok-clause-plain g c = λ plain. serves_said _ _ (map string_bytes c.args.words.now) (rows_of (found_of c.in-Ok.matches)) c.start.result _ _ _ _ c.in-Ok.ensures.taken (c.read_words.ensures.plain plain) c.start.ensures.serves

pub returns-in-Ok-clause-sure : goal.returns-in-Ok-clause-sure
returns-in-Ok-clause-sure g c = λ never room. faultless_by _ _ _ _ _ _ _ room c.start.result _ (returns-in-Ok-clause-answers g c) c.start.ensures.causes.source_sure never

pub returns-in-Ok-clause-faultless : goal.returns-in-Ok-clause-faultless
returns-in-Ok-clause-faultless g c = faultless_where_none_rose c.start.result _ _ _ _ c.start.ensures.causes.counts

pub returns-in-Err-Usage-clause-answers : goal.returns-in-Err-Usage-clause-answers
returns-in-Err-Usage-clause-answers g c = answers_usage _ _ _ c.report_usage.result _ _ _ (c.in-Err-Usage.ensures.refused c.in-Err-Usage.field-0-is) refl c.report_usage.ensures.written

pub returns-in-Err-Usage-clause-plain : goal.returns-in-Err-Usage-clause-plain
returns-in-Err-Usage-clause-plain g c = λ plain. absurd (true≢false (sym (c.read_words.ensures.plain plain).0 ∙ c.in-Err-Usage.ensures.refused c.in-Err-Usage.field-0-is))

pub returns-in-Err-Usage-clause-sure : goal.returns-in-Err-Usage-clause-sure
returns-in-Err-Usage-clause-sure g c = λ never room. faultless_by _ _ _ _ _ _ _ room c.report_usage.result _ (returns-in-Err-Usage-clause-answers g c) (c.report_usage.ensures.causes (g.S.Source.shown c.args.source.now)).source_sure never

pub returns-in-Err-Usage-clause-faultless : goal.returns-in-Err-Usage-clause-faultless
returns-in-Err-Usage-clause-faultless g c = faultless_where_none_rose c.report_usage.result _ _ _ _ (c.report_usage.ensures.causes (g.S.Source.shown c.args.source.now)).counts

pub returns-in-Err-Memory-clause-answers : goal.returns-in-Err-Memory-clause-answers
returns-in-Err-Memory-clause-answers g c = answers_memory _ _ _ _ _

pub returns-in-Err-Memory-clause-plain : goal.returns-in-Err-Memory-clause-plain
returns-in-Err-Memory-clause-plain g c = λ plain. Serves_memory _ _ _ _ _ _
