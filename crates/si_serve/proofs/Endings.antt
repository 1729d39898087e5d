-- How a run stands after each read, and how it ends.
use Rattle.std.proofs.Common.{◌≡◌, ℕ, Bool, false, ◌+◌, ◌<◌, ◌≤◌, List, [], ◌++◌, Option, length, refl, sym, ap, subst, ◌∙◌, inl, inr, length-append, arith}
use Rattle.si_defs.specs.Bytes.{Bytes}
use Rattle.si_steps.specs.declared.limits.Limits.{Limits}
use Rattle.si_steps.specs.Settings.{Setting, setting_of}
use Rattle.si_state.specs.States.{State}
use Rattle.si_state.specs.Harvest.{Files}
use Rattle.si_session.specs.Session.{Around}
use Rattle.si_io.specs.Content.{prepend_told, Takes}
use Rattle.si_io.specs.Counts.{raised}
use Rattle.si_io.specs.Gives.{Gives}
use Rattle.si_io.specs.Shown.{SourceShown, SinkShown}
use Rattle.std.specs.Prelude.{IsTrue, Err}
use Rattle.std.specs.Io.KnownBytes.{IsAtEnd}
use Rattle.si_io.proofs.Gives.{Gives-nil, Gives_then, Gives_last}
use Rattle.si_io.proofs.Content.{prepend_told-nil}
use Rattle.si_serve.specs.declared.status.Status.{Status}
use Rattle.si_serve.specs.declared.status.Status.TheVariants.{Ended, Refused, SourceFault, SinkFault, Memory, SessionLimit}
use Rattle.si_steps.specs.Runs.{lines_at_end, requests}
use Rattle.si_serve.specs.declared.status.Stop.{Stop}
use Rattle.si_serve.specs.declared.status.Stop.TheVariants as stop
use Rattle.si_serve.specs.Status.{status_of}
use Rattle.clap.specs.Words.{Row, matches_of, takes}
use Rattle.si_serve.specs.Words.{Asked, IsReadAsSaid, program, asked_in, asked_by, HasNoFault, has_strict, files_in}
use Rattle.si_serve.specs.Serve.{DeclinesOrServes, WritesUsage, WritesTo, MetEnd, TellsEnd, TellsNoEnd, ReadsNoFurther, Ends, Serves, CountsFaults, HasCauses, BlamesSink}
use Rattle.si_serve.specs.Progress.{CarriesOn, Fails, Closes, CutsRun, CountsStop, HasProgressed}
use Rattle.si_serve.proofs.Splitting.{Splits_none}

-- ---- how it stands
-- a read gave these bytes, which were acted on
pub Stands_more : (setting : Setting) (told : Option Files) (strict : Bool) (files : List Bytes) (given : Setting) (tell : Option Files) (n m : ℕ) (bytes fed : Bytes) (source now next : SourceShown) (before : Around) (old new : State) (held holds : Bytes) (x after : Around)
    → HasProgressed setting told strict files n source now before old held x → given ≡ setting → tell ≡ told → Gives now bytes next → TellsNoEnd now next → length bytes ≡ m → fed ≡ bytes
    → CarriesOn given tell strict fed old held x new holds after → HasProgressed setting told strict files (n + m) source next before new holds after
Stands_more setting told strict files given tell n m bytes fed source now next before old new held holds x after s same known gives unended size is advances = record {
  taken = s.taken ++ bytes;
  size = omega (arith, length-append s.taken bytes, s.size);
  gives = Gives_then source now next s.taken bytes s.gives gives;
  unended = unended ∙ s.unended;
  progress = (let more : CarriesOn setting told strict bytes old held x new holds after = subst (λ (b : Bytes). CarriesOn setting told strict b old held x new holds after) is (subst (λ (l : Setting). CarriesOn l told strict fed old held x new holds after) same (subst (λ (o : Option Files). CarriesOn given o strict fed old held x new holds after) known advances)) in
      more files before s.taken s.progress);
}

-- ---- how it ends
pub Serves_memory : (setting : Setting) (told : Option Files) (strict : Bool) (files : List Bytes) (source : SourceShown) (before : Around) → Serves setting told strict files Memory source source before before
Serves_memory setting told strict files source before = record {
  taken = [];
  lines = [];
  rest = [];
  gives = Gives-nil source;
  within = omega arith;
  splits = Splits_none;
  ends = (refl, refl, refl);
}

pub Serves_limit : (setting : Setting) (told : Option Files) (strict : Bool) (files : List Bytes) (n : ℕ) (source now : SourceShown) (before : Around) (state : State) (held : Bytes) (after : Around)
    → HasProgressed setting told strict files n source now before state held after → n ≡ setting.limits.session → Serves setting told strict files SessionLimit source now before after
Serves_limit setting told strict files n source now before state held after s full = record {
  taken = s.taken;
  lines = s.progress.lines;
  rest = s.progress.rest;
  gives = s.gives;
  within = omega (arith, s.size);
  splits = s.progress.splits;
  ends = (s.unended, s.size ∙ full, record { output = s.progress.output; owed = s.progress.owed; right = (state, s.progress.run.0); shown = s.progress.run.1; written = s.progress.written; counted = s.progress.counted });
}

-- the source failed, and took nothing
pub Serves_source : (setting : Setting) (told : Option Files) (strict : Bool) (files : List Bytes) (n : ℕ) (source now next : SourceShown) (before : Around) (state : State) (held : Bytes) (after : Around)
    → HasProgressed setting told strict files n source now before state held after → n < setting.limits.session → Gives now [] next → TellsNoEnd now next → Serves setting told strict files SourceFault source next before after
Serves_source setting told strict files n source now next before state held after s below gives unended = record {
  taken = s.taken;
  lines = s.progress.lines;
  rest = s.progress.rest;
  gives = Gives_last source now next s.taken s.gives gives;
  within = omega (arith, s.size);
  splits = s.progress.splits;
  ends = (unended ∙ s.unended, omega (arith, s.size), record { output = s.progress.output; owed = s.progress.owed; right = (state, s.progress.run.0); shown = s.progress.run.1; written = s.progress.written; counted = s.progress.counted });
}

-- the run stopped at a reply
pub stops_within : (halt : Stop) (setting : Setting) (told : Option Files) (strict : Bool) (files : List Bytes) (taken : Bytes) (lines : List Bytes) (rest : Bytes) (source now : SourceShown) (before after : Around)
    → TellsNoEnd source now → (part : WritesTo halt setting told strict files lines before after) → ReadsNoFurther files taken part.right.done source now
    → Ends (status_of halt) setting told strict files taken lines rest source now before after
stops_within stop.Refused setting told strict files taken lines rest source now before after unended part reads = inl (unended, part, reads)
stops_within stop.SinkFault setting told strict files taken lines rest source now before after unended part reads = inl (unended, part, reads)

-- after the end of the input
stops_last : (halt : Stop) (setting : Setting) (told : Option Files) (strict : Bool) (files : List Bytes) (taken : Bytes) (lines : List Bytes) (rest : Bytes) (source now : SourceShown) (before after : Around)
    → TellsEnd source now → MetEnd setting.limits taken now.left → (part : WritesTo halt setting told strict files (lines_at_end lines rest) before after) → part.right.done ≡ requests files lines
    → Ends (status_of halt) setting told strict files taken lines rest source now before after
stops_last stop.Refused setting told strict files taken lines rest source now before after ended end part acted = inr (ended, end, part, acted)
stops_last stop.SinkFault setting told strict files taken lines rest source now before after ended end part acted = inr (ended, end, part, acted)

-- at a word
pub Serves_word : (halt : Stop) (setting : Setting) (told : Option Files) (strict : Bool) (files : List Bytes) (source : SourceShown) (before after : Around)
    → WritesTo halt setting told strict files [] before after → Serves setting told strict files (status_of halt) source source before after
Serves_word halt setting told strict files source before after w = record {
  taken = [];
  lines = [];
  rest = [];
  gives = Gives-nil source;
  within = omega arith;
  splits = Splits_none;
  ends = stops_within halt setting told strict files [] [] [] source source before after refl w (inl refl);
}

pub Serves_under : (halt : Stop) (given setting : Setting) (told : Option Files) (strict : Bool) (files : List Bytes) (source : SourceShown) (before after : Around)
    → WritesTo halt given told strict files [] before after → given ≡ setting → Serves setting told strict files (status_of halt) source source before after
Serves_under halt given setting told strict files source before after w same =
    Serves_word halt setting told strict files source before after (subst (λ (m : Setting). WritesTo halt m told strict files [] before after) same w)

-- under another name of the same status, and of whether the run is strict
pub Serves_as : (setting : Setting) (told : Option Files) (s strict : Bool) (files : List Bytes) (status own : Status) (source now : SourceShown) (before after : Around)
    → s ≡ strict → status ≡ own → Serves setting told s files own source now before after → Serves setting told strict files status source now before after
Serves_as setting told s strict files status own source now before after same is h =
    subst (λ (b : Bool). Serves setting told b files status source now before after) same (subst (λ (o : Status). Serves setting told s files o source now before after) (sym is) h)

-- ---- what such a status isn't
pub stop_not_source : (halt : Stop) → status_of halt ≡ SourceFault → ⊥
stop_not_source stop.Refused e = cc
stop_not_source stop.SinkFault e = cc

pub stop_not_memory : (halt : Stop) → status_of halt ≡ Memory → ⊥
stop_not_memory stop.Refused e = cc
stop_not_memory stop.SinkFault e = cc

-- ---- the cause of such an end
-- the run ends by no device's fault
pub causes_none : (status : Status) (source now : SourceShown) (before after : SinkShown) → (status ≡ SourceFault → ⊥) → now.counts.faults ≡ source.counts.faults → after.counts.faults ≡ before.counts.faults
    → CountsFaults status source.counts.faults now.counts.faults before.counts.faults after.counts.faults → HasCauses status source now before after
causes_none status source now before after other same still counts = record { source_later = omega (arith, same); sink_later = omega (arith, still); counts = counts; source_sure = λ e. absurd (other e) }

-- memory ran out before a device was asked
pub causes_memory : (source : SourceShown) (sink : SinkShown) → HasCauses Memory source source sink sink
causes_memory source sink = causes_none Memory source source sink sink (λ e. cc) refl refl (refl, refl)

pub causes_source : (source now : SourceShown) (before after : SinkShown) → now.counts.faults ≡ raised source.counts.faults → after.counts.faults ≡ before.counts.faults → IsTrue source.may_fail → HasCauses SourceFault source now before after
causes_source source now before after rose still may = record { source_later = omega (arith, rose); sink_later = omega (arith, still); counts = (rose, still); source_sure = λ e. may }

pub causes_sink : (source now : SourceShown) (before after : SinkShown) → now.counts.faults ≡ source.counts.faults → after.counts.faults ≡ raised before.counts.faults → HasCauses SinkFault source now before after
causes_sink source now before after same rose = record { source_later = omega (arith, same); sink_later = omega (arith, rose); counts = (same, rose); source_sure = λ e. absurd (stop_not_source stop.SinkFault e) }

stopped_by : (halt : Stop) (source now : SourceShown) (before after : SinkShown) → now.counts.faults ≡ source.counts.faults → BlamesSink halt before.counts.faults after.counts.faults → HasCauses (status_of halt) source now before after
stopped_by stop.Refused source now before after same h = causes_none Refused source now before after (stop_not_source stop.Refused) same h (same, h)
stopped_by stop.SinkFault source now before after same h = causes_sink source now before after same h

-- the run stopped at a reply
pub causes_stop : (halt : Stop) (status : Status) (source now : SourceShown) (before mid after : SinkShown) → status ≡ status_of halt → now.counts.faults ≡ source.counts.faults → mid.counts.faults ≡ before.counts.faults
    → CountsStop (Err halt) mid after → HasCauses status source now before after
causes_stop halt status source now before mid after is same still counts =
    subst (λ (s : Status). HasCauses s source now before after) (sym is)
    (stopped_by halt source now before after same (subst (λ (n : ℕ). BlamesSink halt n after.counts.faults) still counts.blames))

-- the run stopped at a line that is whole in the bytes of the last read
pub Serves_sink : (halt : Stop) (setting : Setting) (told : Option Files) (strict : Bool) (files : List Bytes) (given : Setting) (tell : Option Files) (n m : ℕ) (bytes fed : Bytes) (source now next : SourceShown) (before : Around) (state : State) (held : Bytes) (x after : Around)
    → HasProgressed setting told strict files n source now before state held x → given ≡ setting → tell ≡ told → Gives now bytes next → next.counts.calls ≡ raised now.counts.calls → TellsNoEnd now next → length bytes ≡ m → n + m ≤ setting.limits.session → fed ≡ bytes
    → Fails halt given tell strict fed state held x after → Serves setting told strict files (status_of halt) source next before after
Serves_sink halt setting told strict files given tell n m bytes fed source now next before state held x after s same known gives once unended size within is fails =
    let all : Fails halt setting told strict bytes state held x after =
    subst (λ (b : Bytes). Fails halt setting told strict b state held x after) is (subst (λ (l : Setting). Fails halt l told strict fed state held x after) same (subst (λ (o : Option Files). Fails halt given o strict fed state held x after) known fails)) in
    let failed = all files before s.taken s.progress in
    record {
      taken = s.taken ++ bytes;
      lines = failed.lines;
      rest = failed.rest;
      gives = Gives_then source now next s.taken bytes s.gives gives;
      within = omega (arith, length-append s.taken bytes, s.size);
      splits = failed.splits;
      ends = stops_within halt setting told strict files (s.taken ++ bytes) failed.lines failed.rest source next before after (unended ∙ s.unended) failed.part
          (inr (record {
            earlier = s.taken;
            brought = bytes;
            whole = refl;
            middle = now;
            gave = s.gives;
            read = gives;
            once = once;
            lines = s.progress.lines;
            rest = s.progress.rest;
            splits = s.progress.splits;
            acted = failed.acted s.progress.lines s.progress.rest s.progress.splits;
          }));
    }

-- the end was met
end_left : (now next : Option Bytes) (bytes : Bytes) → Takes now bytes next → bytes ≡ [] → next ≡ now
end_left now next bytes takes none = sym (takes ∙ ap (λ (b : Bytes). prepend_told b next) none ∙ prepend_told-nil next)

pub Serves_ended : (setting : Setting) (told : Option Files) (strict : Bool) (files : List Bytes) (given : Setting) (tell : Option Files) (n : ℕ) (source now next : SourceShown) (before : Around) (state : State) (held : Bytes) (x after : Around)
    → HasProgressed setting told strict files n source now before state held x → given ≡ setting → tell ≡ told → n < setting.limits.session → Gives now [] next → TellsEnd now next → IsAtEnd now.left
    → Closes given tell strict state held x after → Serves setting told strict files Ended source next before after
Serves_ended setting told strict files given tell n source now next before state held x after s same known below gives told_end ended closes =
    let all : Closes setting told strict state held x after = subst (λ (l : Setting). Closes l told strict state held x after) same (subst (λ (o : Option Files). Closes given o strict state held x after) known closes) in
    let closed = all files before s.taken s.progress in
    let left_is = end_left now.left next.left [] gives.left refl in
    record {
      taken = s.taken;
      lines = closed.lines;
      rest = closed.rest;
      gives = Gives_last source now next s.taken s.gives gives;
      within = omega (arith, s.size);
      splits = closed.splits;
      ends = (told_end ∙ ap raised s.unended, record { below = omega (arith, s.size); at_end = subst IsAtEnd (sym left_is) ended }, closed.all);
    }

-- and then the run stopped at the last line
pub Serves_cut : (halt : Stop) (setting : Setting) (told : Option Files) (strict : Bool) (files : List Bytes) (given : Setting) (tell : Option Files) (n : ℕ) (source now next : SourceShown) (before : Around) (state : State) (held : Bytes) (x after : Around)
    → HasProgressed setting told strict files n source now before state held x → given ≡ setting → tell ≡ told → n < setting.limits.session → Gives now [] next → TellsEnd now next → IsAtEnd now.left
    → CutsRun halt given tell strict state held x after → Serves setting told strict files (status_of halt) source next before after
Serves_cut halt setting told strict files given tell n source now next before state held x after s same known below gives told_end ended cuts =
    let all : CutsRun halt setting told strict state held x after = subst (λ (l : Setting). CutsRun halt l told strict state held x after) same (subst (λ (o : Option Files). CutsRun halt given o strict state held x after) known cuts) in
    let cut = all files before s.taken s.progress in
    let left_is = end_left now.left next.left [] gives.left refl in
    record {
      taken = s.taken;
      lines = cut.lines;
      rest = cut.rest;
      gives = Gives_last source now next s.taken s.gives gives;
      within = omega (arith, s.size);
      splits = cut.splits;
      ends = stops_last halt setting told strict files s.taken cut.lines cut.rest source next before after (told_end ∙ ap raised s.unended) (record { below = omega (arith, s.size); at_end = subst IsAtEnd (sym left_is) ended }) cut.part cut.acted;
    }

-- ---- the words
pub answers_asked : (limits : Limits) (told : Option Files) (words : List Bytes) (rows : List Row) (status : Status) (source now : SourceShown) (before after : Around)
    → rows ≡ matches_of program words → HasNoFault words → Serves (setting_of limits) told (asked_in rows).strict (asked_in rows).files status source now before after
    → DeclinesOrServes limits told words status source now before after
answers_asked limits told words rows status source now before after same faultless s = inr (record {
  faultless = λ _. faultless;
  serves = subst (λ (rs : List Row). Serves (setting_of limits) told (asked_in rs).strict (asked_in rs).files status source now before after) same s;
})

pub serves_said : (setting : Setting) (told : Option Files) (words : List Bytes) (rows : List Row) (status : Status) (source now : SourceShown) (before after : Around)
    → rows ≡ matches_of program words → IsReadAsSaid words → Serves setting told (asked_in rows).strict (asked_in rows).files status source now before after
    → Serves setting told (has_strict words) (files_in words) status source now before after
serves_said setting told words rows status source now before after same read s =
    subst (λ (a : Asked). Serves setting told a.strict a.files status source now before after) (ap asked_in same ∙ read.1) s

pub answers_usage : (limits : Limits) (told : Option Files) (words : List Bytes) (status : Status) (source : SourceShown) (before after : Around)
    → takes program words ≡ false → after.library.counts ≡ before.library.counts → WritesUsage status before.sink after.sink → DeclinesOrServes limits told words status source source before after
answers_usage limits told words status source before after refused unfetched written = inl (record { refused = refused; unread = refl; unfetched = unfetched; written = written })

pub answers_memory : (limits : Limits) (told : Option Files) (words : List Bytes) (source : SourceShown) (before : Around) → DeclinesOrServes limits told words Memory source source before before
answers_memory limits told words source before = inr (record {
  faultless = λ other. absurd (other refl);
  serves = Serves_memory (setting_of limits) told (asked_by words).strict (asked_by words).files source before;
})
