-- What the contract of a run says where the devices tell their bytes, and when a run ends by the
-- session's limit.
use Rattle.std.proofs.Common.{◌≡◌, Bool, List, ◌++◌, Option, Some, length, refl, sym, ap, subst, ◌∙◌, arith}
use Rattle.std.specs.Prelude.{◌↔◌}
use Rattle.si_defs.specs.Bytes.{Bytes}
use Rattle.si_steps.specs.Settings.{Setting}
use Rattle.si_steps.specs.Loads.{Owed}
use Rattle.si_steps.specs.Runs.{SplitsLines, lines_at_end, requests, IsOutput}
use Rattle.si_state.specs.Harvest.{Files}
use Rattle.si_session.specs.Session.{Around}
use Rattle.si_io.specs.Shown.{SourceShown}
use Rattle.si_io.specs.Content.{Told, Takes, bytes_then}
use Rattle.si_io.proofs.Content.{Takes_all}
use Rattle.si_serve.specs.declared.status.Status.{Status}
use Rattle.si_serve.specs.declared.status.Status.TheVariants.{Ended, Refused, Usage, SourceFault, SinkFault, Memory, SessionLimit}
use Rattle.si_serve.specs.Shown.{OutputShows}
use Rattle.si_serve.specs.Serve.{Ends, Serves, CountsOwed}

-- A run that ended wrote an output of all its words and of all the lines of its input, after what
-- the sink had, and what it owes to the library was counted.
pub record WritesOutput (setting : Setting) (told : Option Files) (strict : Bool) (files : List Bytes) (input had : Bytes) (before after : Around) : Type 0 where
  pub lines : List Bytes
  pub rest : Bytes
  pub splits : SplitsLines input lines rest
  pub output : Bytes
  pub owed : Owed
  pub right : IsOutput setting told strict (requests files (lines_at_end lines rest)) output owed
  pub shown : OutputShows setting told strict (requests files (lines_at_end lines rest)) output owed right
  pub written : after.sink.told.bytes ≡ Some (had ++ output)
  pub counted : CountsOwed owed before after

pub whole_run : (setting : Setting) (told : Option Files) (strict : Bool) (files : List Bytes) (input had : Bytes) (source now : SourceShown) (before after : Around)
    → before.sink.told.bytes ≡ Some had → source.left ≡ Some input → Serves setting told strict files Ended source now before after → WritesOutput setting told strict files input had before after
whole_run setting told strict files input had source now before after known whole s = record {
  lines = s.lines;
  rest = s.rest;
  splits = subst (λ (b : Bytes). SplitsLines b s.lines s.rest) (sym (Takes_all (Some input) now.left s.taken (subst (λ (o : Option Bytes). Takes o s.taken now.left) whole s.gives.left) s.ends.1.at_end)) s.splits;
  output = s.ends.2.output;
  owed = s.ends.2.owed;
  right = s.ends.2.right;
  shown = s.ends.2.shown;
  written = ap (λ (t : Told). t.bytes) s.ends.2.written.told ∙ ap (λ (b : Option Bytes). bytes_then b s.ends.2.output) known;
  counted = s.ends.2.counted;
}

-- Beside a refusal, a fault of the sink and want of memory, the limit is met exactly where as many
-- bytes were taken.
pub limit_is_met : (setting : Setting) (told : Option Files) (strict : Bool) (files : List Bytes) (status : Status) (taken : Bytes) (lines : List Bytes) (rest : Bytes) (source now : SourceShown) (before after : Around)
    → (status ≡ Refused → ⊥) → (status ≡ SinkFault → ⊥) → (status ≡ Memory → ⊥) → Ends status setting told strict files taken lines rest source now before after
    → (length taken ≡ setting.limits.session) ↔ (status ≡ SessionLimit)
limit_is_met setting told strict files Ended taken lines rest source now before after refused sink memory e = (λ full. absurd (omega (arith, e.1.below)), λ is. cc)
limit_is_met setting told strict files Refused taken lines rest source now before after refused sink memory e = absurd (refused refl)
limit_is_met setting told strict files Usage taken lines rest source now before after refused sink memory e = absurd e
limit_is_met setting told strict files SourceFault taken lines rest source now before after refused sink memory e = (λ full. absurd (omega (arith, e.1)), λ is. cc)
limit_is_met setting told strict files SinkFault taken lines rest source now before after refused sink memory e = absurd (sink refl)
limit_is_met setting told strict files Memory taken lines rest source now before after refused sink memory e = absurd (memory refl)
limit_is_met setting told strict files SessionLimit taken lines rest source now before after refused sink memory e = (λ full. refl, λ is. e.1)
