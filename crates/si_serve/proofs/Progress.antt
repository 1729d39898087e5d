-- How a run goes on: by bytes of a line that was begun, by a line feed, and by more bytes after
-- others.
use Rattle.std.proofs.Common.{◌≡◌, ℕ, ◌+◌, ◌≤◌, List, [], ◌∷◌, ◌++◌, Option, map, take, refl, sym, ap, subst, ◌∙◌, append_assoc, append-nil, zero, suc, drop, length, length-take, arith}
use Rattle.std.proofs.Math.Seq.{take-nil}
use Rattle.si_defs.specs.Bytes.{Bytes}
use Rattle.si_steps.specs.declared.limits.Limits.{Limits}
use Rattle.si_steps.specs.Settings.{Setting}
use Rattle.si_steps.specs.Replies.{Reply, is_refusal}
use Rattle.si_steps.specs.Steps.{Step}
use Rattle.si_steps.specs.Runs.{ended, IsOneLine, SplitsLines, lines_at_end, Request, a_line, requests, GoesOn}
use Rattle.si_state.specs.States.{State, empty_state}
use Rattle.si_state.specs.Harvest.{Files}
use Rattle.si_steps.specs.Loads.{Owed, nothing, together}
use Rattle.si_io.specs.Counts.{raised}
use Rattle.si_io.specs.Shown.{SinkShown}
use Rattle.si_io.specs.Sends.{SendsAll}
use Rattle.si_io.proofs.Sends.{SendsAll_then}
use Rattle.si_session.specs.Session.{View, Around, Writes, Steps, HasCountedOwed}
use Rattle.si_session.proofs.Owing.{counts_nothing, counts_then}
use Rattle.si_session.specs.declared.stepped.Stepped.{Stepped}
use Rattle.si_session.specs.declared.stepped.Stepped.TheVariants.{Answered, Refused, Silent, SinkFailed}
use Rattle.si_serve.specs.Progress.{shown, Judges, ActsOnRequest, Breaks, Progress, CarriesOn, Feeds, Fails, Closes, CutsRun, CountsStop, ActsOrStops}
use Rattle.si_serve.specs.declared.status.Stop.{Stop}
use Rattle.si_serve.specs.declared.status.Stop.TheVariants as stop
use Rattle.si_serve.specs.Serve.{CountsOwed, StopsAt, WritesTo, BlamesSink}
use Rattle.si_session.specs.ShownTrees.{ShowsSome}
use Rattle.si_serve.specs.Shown.{ShowsAt, ShownRun}
use Rattle.si_serve.proofs.Steps.{shown_step, shown_shows, step_shows}
use Rattle.std.specs.Prelude.{◌==◌, Bool, Some, None, IsTrue, IsFalse, Result, Ok, Err, OnOk, IfErr, IsErrAnd}
use Rattle.std.specs.List.{position}
use Rattle.si_serve.proofs.Splitting.{line_end, line_without_end, Splits_more, Splits_line, Splits_any, Splits_one, lines_at_end-none, lines_at_end-some, requests-append, requests-more, requests-split, Run_line}

-- ---- what is owed to the library
pub owed_none : (now : Around) → CountsOwed nothing now now
owed_none now = record { counts = counts_nothing now.library.counts now.library.may_fail; same = refl }

pub owed_then : (x y z : Around) (one other : Owed) → CountsOwed one x y → CountsOwed other y z → CountsOwed (together one other) x z
owed_then x y z one other h k = record {
  counts = counts_then x.library.may_fail x.library.counts y.library.counts z.library.counts one other h.counts
      (subst (λ b. HasCountedOwed b other y.library.counts z.library.counts) h.same k.counts);
  same = k.same ∙ h.same;
}

-- ---- what is held
pub shown-nil : (limits : Limits) → shown limits [] ≡ []
shown-nil limits = take-nil (limits.line + 1)

-- the front of a front, and more
take-take-append : (n : ℕ) (xs ys : Bytes) → take n (take n xs ++ ys) ≡ take n (xs ++ ys)
take-take-append zero xs ys = refl
take-take-append (suc n) [] ys = refl
take-take-append (suc n) (x ∷ xs) ys = ap (λ (l : Bytes). x ∷ l) (take-take-append n xs ys)

-- ---- progress
pub Advances_none : (setting : Setting) (told : Option Files) (strict : Bool) (state : State) (held : Bytes) (now : Around) → CarriesOn setting told strict [] state held now state held now
Advances_none setting told strict state held now files before taken p = subst (λ (b : Bytes). Progress setting told strict files before b state held now) (sym (append-nil taken)) p

pub Advances_then : (setting : Setting) (told : Option Files) (strict : Bool) (bs cs : Bytes) (s t u : State) (f g h : Bytes) (x y z : Around)
    → CarriesOn setting told strict bs s f x t g y → CarriesOn setting told strict cs t g y u h z → CarriesOn setting told strict (bs ++ cs) s f x u h z
Advances_then setting told strict bs cs s t u f g h x y z first second files before taken p =
    subst (λ (b : Bytes). Progress setting told strict files before b u h z) (append_assoc taken bs cs) (second files before (taken ++ bs) (first files before taken p))

-- bytes without a line feed go to the line that was begun
pub Advances_more : (setting : Setting) (told : Option Files) (strict : Bool) (bytes held holds : Bytes) (state : State) (now : Around)
    → IsOneLine bytes → holds ≡ take (setting.limits.line + 1) (held ++ bytes) → CarriesOn setting told strict bytes state held now state holds now
Advances_more setting told strict bytes held holds state now one filled files before taken p = record {
  lines = p.lines;
  rest = p.rest ++ bytes;
  output = p.output;
  owed = p.owed;
  splits = Splits_more taken p.lines p.rest bytes p.splits one;
  holds = filled ∙ ap (λ (b : Bytes). take (setting.limits.line + 1) (b ++ bytes)) p.holds ∙ take-take-append (setting.limits.line + 1) p.rest bytes;
  run = p.run;
  written = p.written;
  counted = p.counted;
}

-- a line feed ends that line, which is acted on
pub Advances_line : (setting : Setting) (told : Option Files) (strict : Bool) (old new : State) (held : Bytes) (now after : Around)
    → ActsOnRequest setting told strict old new (a_line held) now after → CarriesOn setting told strict (10 ∷ []) old held now new [] after
Advances_line setting told strict old new held now after acts files before taken p =
    let step = shown_step setting told old new p.rest acts.reply acts.owed (subst (λ (l : Bytes). Step setting told old l acts.reply acts.owed new) p.holds acts.step) in
    let shows = shown_shows setting old p.rest acts.reply (subst (λ (l : Bytes). ShowsSome setting.limits old l acts.reply) p.holds acts.shows) in
    record {
      lines = p.lines ++ p.rest ∷ [];
      rest = [];
      output = p.output ++ ended acts.reply;
      owed = together p.owed acts.owed;
      splits = Splits_line taken p.lines p.rest p.splits;
      holds = sym (shown-nil setting.limits);
      run = Run_line setting told strict old new files p.lines p.rest p.output p.owed acts.reply acts.owed p.run step acts.goes shows;
      written = SendsAll_then before.sink now.sink after.sink p.output (ended acts.reply) p.written acts.written;
      counted = owed_then before now after p.owed acts.owed p.counted acts.counted;
    }

-- ---- stops
-- a run stops at a line, after which others stand
stops_at : (halt : Stop) (setting : Setting) (told : Option Files) (strict : Bool) (old new : State) (files lines whole : List Bytes) (line : Bytes) (others : List Request) (output : Bytes) (owed : Owed)
    (held : Bytes) (before now after : Around) (breaks : Breaks halt setting told strict old new (a_line held) now after)
    → ShownRun setting told strict empty_state (requests files lines) output owed old → Step setting told old line breaks.reply breaks.owed new → ShowsAt setting old (a_line line) breaks.reply
    → SendsAll before.sink output now.sink → CountsOwed owed before now
    → requests files lines ++ a_line line ∷ others ≡ requests files whole
    → (part : WritesTo halt setting told strict files whole before after) × (part.right.done ≡ requests files lines)
stops_at halt setting told strict old new files lines whole line others output owed held before now after breaks run step shows written counted front = (
  record {
    reply = breaks.reply;
    output = output ++ ended breaks.reply;
    owed = together owed breaks.owed;
    right = record {
      done = requests files lines;
      last = a_line line;
      others = others;
      front = front;
      before = output;
      less = owed;
      state = old;
      run = run.0;
      due = breaks.owed;
      new = new;
      acts = step;
      whole = refl;
      counted = refl;
    };
    shown = (run.1, shows);
    middle = now.sink;
    written = written;
    stopped = breaks.written;
    counted = owed_then before now after owed breaks.owed counted breaks.counted;
  },
  refl,
)

pub Fails_line : (halt : Stop) (setting : Setting) (told : Option Files) (strict : Bool) (bytes : Bytes) (old new : State) (held : Bytes) (now after : Around)
    → Breaks halt setting told strict old new (a_line held) now after → Fails halt setting told strict (10 ∷ bytes) old held now after
Fails_line halt setting told strict bytes old new held now after breaks files before taken p =
    let step = shown_step setting told old new p.rest breaks.reply breaks.owed (subst (λ (l : Bytes). Step setting told old l breaks.reply breaks.owed new) p.holds breaks.step) in
    let shows = shown_shows setting old p.rest breaks.reply (subst (λ (l : Bytes). ShowsSome setting.limits old l breaks.reply) p.holds breaks.shows) in
    let more = Splits_any bytes (taken ++ 10 ∷ []) (p.lines ++ p.rest ∷ []) [] (Splits_line taken p.lines p.rest p.splits) in
    let stop = stops_at halt setting told strict old new files p.lines ((p.lines ++ p.rest ∷ []) ++ more.0) p.rest (map a_line more.0) p.output p.owed held before now after breaks p.run step shows p.written p.counted (requests-split files p.lines more.0 p.rest) in
    record {
      lines = (p.lines ++ p.rest ∷ []) ++ more.0;
      rest = more.1;
      splits = subst (λ (b : Bytes). SplitsLines b ((p.lines ++ p.rest ∷ []) ++ more.0) more.1) (append_assoc taken (10 ∷ []) bytes) more.2;
      part = stop.0;
      acted = λ whole begun s. ([], stop.1 ∙ ap (requests files) (Splits_one taken p.lines whole p.rest begun p.splits s) ∙ sym (append-nil (requests files whole)));
    }

pub Fails_then : (halt : Stop) (setting : Setting) (told : Option Files) (strict : Bool) (bs cs : Bytes) (s t : State) (f g : Bytes) (x y z : Around)
    → CarriesOn setting told strict bs s f x t g y → Fails halt setting told strict cs t g y z → Fails halt setting told strict (bs ++ cs) s f x z
Fails_then halt setting told strict bs cs s t f g x y z first second files before taken p =
    let off = second files before (taken ++ bs) (first files before taken p) in
    record {
      lines = off.lines;
      rest = off.rest;
      splits = subst (λ (b : Bytes). SplitsLines b off.lines off.rest) (append_assoc taken bs cs) off.splits;
      part = off.part;
      acted = λ whole begun split.
          let more = Splits_any bs taken whole begun split in
          let all = off.acted (whole ++ more.0) more.1 more.2 in
          (map a_line more.0 ++ all.0, all.1 ∙ ap (λ (rs : List Request). rs ++ all.0) (requests-append files whole more.0) ∙ append_assoc (requests files whole) (map a_line more.0) all.0);
    }

-- ---- bytes from line feed to line feed
-- a line was acted on that ends in the rest
pub Feeds_line : (setting : Setting) (told : Option Files) (strict : Bool) (given : Setting) (tell : Option Files) (bytes rest front left : Bytes) (at n : ℕ) (old mid new : State) (held holds filled none : Bytes) (now x after : Around)
    → Feeds setting told strict bytes old held now rest mid holds x → given ≡ setting → tell ≡ told → n ≡ setting.limits.line
    → Some at ≡ position (λ c. c == 10) rest → front ≡ take at rest → filled ≡ take (n + 1) (holds ++ front)
    → ActsOnRequest given tell strict mid new (a_line filled) x after → none ≡ [] → left ≡ drop (at + 1) rest
    → Feeds setting told strict bytes old held now left new none after
Feeds_line setting told strict given tell bytes rest front left at n old mid new held holds filled none now x after f same known line some cut full acts cleared behind =
    let end = line_end rest at some in
    let fill : filled ≡ take (setting.limits.line + 1) (holds ++ take at rest) = full ∙ ap (λ (m : ℕ). take (m + 1) (holds ++ front)) line ∙ ap (λ (b : Bytes). take (setting.limits.line + 1) (holds ++ b)) cut in
    let more = Advances_more setting told strict (take at rest) holds filled mid x end.line fill in
    let acted = Advances_line setting told strict mid new filled x after (subst (λ (l : Setting). ActsOnRequest l told strict mid new (a_line filled) x after) same (subst (λ (o : Option Files). ActsOnRequest given o strict mid new (a_line filled) x after) known acts)) in
    let both = Advances_then setting told strict (take at rest) (10 ∷ []) mid mid new holds filled [] x x after more acted in
    let all = Advances_then setting told strict f.done (take at rest ++ 10 ∷ []) old mid new held holds [] now x after f.advances both in
    record {
      done = f.done ++ (take at rest ++ 10 ∷ []);
      whole = f.whole ∙ ap (λ (b : Bytes). f.done ++ b) (end.parts ∙ sym (append_assoc (take at rest) (10 ∷ []) (drop (at + 1) rest)))
          ∙ sym (append_assoc f.done (take at rest ++ 10 ∷ []) (drop (at + 1) rest)) ∙ ap (λ (b : Bytes). (f.done ++ (take at rest ++ 10 ∷ [])) ++ b) (sym behind);
      advances = subst (λ (h : Bytes). CarriesOn setting told strict (f.done ++ (take at rest ++ 10 ∷ [])) old held now new h after) (sym cleared) all;
    }

-- the sink failed at that line
pub Feeds_fail : (halt : Stop) (setting : Setting) (told : Option Files) (strict : Bool) (given : Setting) (tell : Option Files) (bytes rest front : Bytes) (at n : ℕ) (old mid new : State) (held holds filled : Bytes) (now x after : Around)
    → Feeds setting told strict bytes old held now rest mid holds x → given ≡ setting → tell ≡ told → n ≡ setting.limits.line
    → Some at ≡ position (λ c. c == 10) rest → front ≡ take at rest → filled ≡ take (n + 1) (holds ++ front)
    → Breaks halt given tell strict mid new (a_line filled) x after → Fails halt setting told strict bytes old held now after
Feeds_fail halt setting told strict given tell bytes rest front at n old mid new held holds filled now x after f same known line some cut full breaks =
    let end = line_end rest at some in
    let fill : filled ≡ take (setting.limits.line + 1) (holds ++ take at rest) = full ∙ ap (λ (m : ℕ). take (m + 1) (holds ++ front)) line ∙ ap (λ (b : Bytes). take (setting.limits.line + 1) (holds ++ b)) cut in
    let more = Advances_more setting told strict (take at rest) holds filled mid x end.line fill in
    let failed = Fails_line halt setting told strict (drop (at + 1) rest) mid new filled x after (subst (λ (l : Setting). Breaks halt l told strict mid new (a_line filled) x after) same (subst (λ (o : Option Files). Breaks halt given o strict mid new (a_line filled) x after) known breaks)) in
    let both = Fails_then halt setting told strict (take at rest) (10 ∷ drop (at + 1) rest) mid mid holds filled x x after more failed in
    let all = Fails_then halt setting told strict f.done (take at rest ++ 10 ∷ drop (at + 1) rest) old mid held holds now x after f.advances both in
    subst (λ (b : Bytes). Fails halt setting told strict b old held now after) (sym (f.whole ∙ ap (λ (b : Bytes). f.done ++ b) end.parts)) all

-- no line feed is left in the rest
pub Feeds_end : (setting : Setting) (told : Option Files) (strict : Bool) (bytes rest : Bytes) (n : ℕ) (old mid : State) (held holds filled : Bytes) (now x : Around)
    → Feeds setting told strict bytes old held now rest mid holds x → n ≡ setting.limits.line
    → None ≡ position (λ c. c == 10) rest → filled ≡ take (n + 1) (holds ++ rest)
    → CarriesOn setting told strict bytes old held now mid filled x
Feeds_end setting told strict bytes rest n old mid held holds filled now x f line none full =
    let fill : filled ≡ take (setting.limits.line + 1) (holds ++ rest) = full ∙ ap (λ (m : ℕ). take (m + 1) (holds ++ rest)) line in
    let more = Advances_more setting told strict rest holds filled mid x (line_without_end rest none) fill in
    subst (λ (b : Bytes). CarriesOn setting told strict b old held now mid filled x) (sym f.whole) (Advances_then setting told strict f.done rest old mid mid held holds filled now x x f.advances more)

-- ---- the end of the input
rest_some : (limits : Limits) (held rest : Bytes) → (held ≡ [] → ⊥) → held ≡ shown limits rest → rest ≡ [] → ⊥
rest_some limits held rest some holds none = some (holds ∙ ap (shown limits) none ∙ shown-nil limits)

take_none : (n : ℕ) (xs : Bytes) → [] ≡ take (n + 1) xs → xs ≡ []
take_none n [] e = refl
take_none n (x ∷ xs) e = absurd (omega (arith, ap length e, length-take (n + 1) (x ∷ xs)))

-- no line was begun
pub Closes_none : (setting : Setting) (told : Option Files) (strict : Bool) (state : State) (held : Bytes) (now : Around)
    → held ≡ [] → Closes setting told strict state held now now
Closes_none setting told strict state held now none files before taken p =
    let same : lines_at_end p.lines p.rest ≡ p.lines = lines_at_end-none p.lines p.rest (take_none setting.limits.line p.rest (sym none ∙ p.holds)) in
    let run =
    subst (λ (ls : List Bytes). ShownRun setting told strict empty_state (requests files ls) p.output p.owed state) (sym same) p.run in
    record {
      lines = p.lines;
      rest = p.rest;
      splits = p.splits;
      all = record {
        output = p.output;
        owed = p.owed;
        right = (state, run.0);
        shown = run.1;
        written = p.written;
        counted = p.counted;
      };
    }

-- the line that was begun is the last one
pub Closes_line : (setting : Setting) (told : Option Files) (strict : Bool) (old new : State) (held : Bytes) (now after : Around)
    → (held ≡ [] → ⊥) → ActsOnRequest setting told strict old new (a_line held) now after → Closes setting told strict old held now after
Closes_line setting told strict old new held now after some acts files before taken p =
    let step = shown_step setting told old new p.rest acts.reply acts.owed (subst (λ (l : Bytes). Step setting told old l acts.reply acts.owed new) p.holds acts.step) in
    let shows = shown_shows setting old p.rest acts.reply (subst (λ (l : Bytes). ShowsSome setting.limits old l acts.reply) p.holds acts.shows) in
    let same : lines_at_end p.lines p.rest ≡ p.lines ++ p.rest ∷ [] = lines_at_end-some p.lines p.rest (rest_some setting.limits held p.rest some p.holds) in
    let output : Bytes = p.output ++ ended acts.reply in
    let run =
    subst (λ (ls : List Bytes). ShownRun setting told strict empty_state (requests files ls) output (together p.owed acts.owed) new) (sym same)
    (Run_line setting told strict old new files p.lines p.rest p.output p.owed acts.reply acts.owed p.run step acts.goes shows) in
    record {
      lines = p.lines;
      rest = p.rest;
      splits = p.splits;
      all = record {
        output = output;
        owed = together p.owed acts.owed;
        right = (new, run.0);
        shown = run.1;
        written = SendsAll_then before.sink now.sink after.sink p.output (ended acts.reply) p.written acts.written;
        counted = owed_then before now after p.owed acts.owed p.counted acts.counted;
      };
    }

pub Cuts_line : (halt : Stop) (setting : Setting) (told : Option Files) (strict : Bool) (old new : State) (held : Bytes) (now after : Around)
    → (held ≡ [] → ⊥) → Breaks halt setting told strict old new (a_line held) now after → CutsRun halt setting told strict old held now after
Cuts_line halt setting told strict old new held now after some breaks files before taken p =
    let step = shown_step setting told old new p.rest breaks.reply breaks.owed (subst (λ (l : Bytes). Step setting told old l breaks.reply breaks.owed new) p.holds breaks.step) in
    let shows = shown_shows setting old p.rest breaks.reply (subst (λ (l : Bytes). ShowsSome setting.limits old l breaks.reply) p.holds breaks.shows) in
    let same : lines_at_end p.lines p.rest ≡ p.lines ++ p.rest ∷ [] = lines_at_end-some p.lines p.rest (rest_some setting.limits held p.rest some p.holds) in
    let stop = stops_at halt setting told strict old new files p.lines (lines_at_end p.lines p.rest) p.rest [] p.output p.owed held before now after breaks p.run step shows p.written p.counted
    (sym (requests-more files p.lines p.rest) ∙ ap (requests files) (sym same)) in
    record { lines = p.lines; rest = p.rest; splits = p.splits; part = stop.0; acted = stop.1 }

-- ---- what one step wrote
written_whole : (outcome : Stepped) (reply : Reply) (now after : SinkShown) → (outcome ≡ SinkFailed → ⊥) → Writes outcome reply now after → SendsAll now (ended reply) after
written_whole Answered reply now after whole w = w.0
written_whole Refused reply now after whole w = w.0
written_whole Silent reply now after whole w = w.0
written_whole SinkFailed reply now after whole w = absurd (whole refl)

-- ---- the sink's faults
-- as many as before where the step didn't fail at the sink, and else one more
module _ (outcome : Stepped) (reply : Reply) (now after : SinkShown) (w : Writes outcome reply now after) where
  no_fewer_faults : now.counts.faults ≤ after.counts.faults
  no_fewer_faults = by outcome w where
    by : (o : Stepped) → Writes o reply now after → now.counts.faults ≤ after.counts.faults
    by Answered h = h.0.few.faults
    by Refused h = h.0.few.faults
    by Silent h = h.0.few.faults
    by SinkFailed h = h.few.faults

  same_faults : (outcome ≡ SinkFailed → ⊥) → after.counts.faults ≡ now.counts.faults
  same_faults whole = (written_whole outcome reply now after whole w).faults

  one_fault_more : outcome ≡ SinkFailed → after.counts.faults ≡ raised now.counts.faults
  one_fault_more failed = let part : Writes SinkFailed reply now after = subst (λ (o : Stepped). Writes o reply now after) failed w in part.faults

-- by what the run makes of the step
module _ (strict : Bool) (outcome : Stepped) (old new : ℕ)
    (kept : (outcome ≡ SinkFailed → ⊥) → new ≡ old) (failed : outcome ≡ SinkFailed → new ≡ raised old) where
  faults_kept : (r : Result (Unit {0}) Stop) → Judges strict outcome r → OnOk r (new ≡ old)
  faults_kept (Ok done) h = kept h.0
  faults_kept (Err halt) h = tt

  faults_blamed : (r : Result (Unit {0}) Stop) → Judges strict outcome r → IfErr r (λ halt. BlamesSink halt old new)
  faults_blamed (Ok done) h = tt
  faults_blamed (Err stop.Refused) h = kept (λ e. cc)
  faults_blamed (Err stop.SinkFault) h = failed h

-- ---- what became of a request
goes_on : (strict : Bool) (outcome : Stepped) (reply : Reply) (now after : SinkShown) → (outcome ≡ SinkFailed → ⊥) → (IsTrue strict → outcome ≡ Refused → ⊥) → Writes outcome reply now after → GoesOn strict reply
goes_on strict Answered reply now after whole none w s = w.2
goes_on strict Refused reply now after whole none w s = absurd (none s refl)
goes_on strict Silent reply now after whole none w s = subst (λ (r : Reply). IsFalse (is_refusal r)) (sym w.1) refl
goes_on strict SinkFailed reply now after whole none w s = absurd (whole refl)

stopped : (halt : Stop) (strict : Bool) (outcome : Stepped) (reply : Reply) (now after : SinkShown) → Judges strict outcome (Err halt) → Writes outcome reply now after → StopsAt halt strict reply now after
stopped stop.Refused strict outcome reply now after h w = let v : Writes Refused reply now after = subst (λ (o : Stepped). Writes o reply now after) h.0 w in (v.0, h.1, v.1)
stopped stop.SinkFault strict outcome reply now after h w = subst (λ (o : Stepped). Writes o reply now after) h w

pub steps_at : (old new : View) (line held : Bytes) (outcome : Stepped) (now after : Around) → line ≡ held
    → Steps old new (a_line line) outcome now after → Steps old new (a_line held) outcome now after
steps_at old new line held outcome now after same s = subst (λ (l : Bytes). Steps old new (a_line l) outcome now after) same s

module _ (strict : Bool) (old new : View) (request : Request) (outcome : Stepped) (now after : Around)
    (s : Steps old new request outcome now after) where
  acted : (r : Result (Unit {0}) Stop) → Judges strict outcome r → OnOk r (ActsOnRequest old.setting now.library.files strict old.state new.state request now after)
  acted (Ok done) h = record {
    reply = s.reply;
    owed = s.owed;
    step = s.step;
    shows = step_shows old new request outcome now after s;
    goes = goes_on strict outcome s.reply now.sink after.sink h.0 h.1 s.written;
    written = written_whole outcome s.reply now.sink after.sink h.0 s.written;
    counted = record { counts = s.counted; same = s.library.same };
  }
  acted (Err halt) h = tt

  broken : (r : Result (Unit {0}) Stop) → Judges strict outcome r → IfErr r (λ halt. Breaks halt old.setting now.library.files strict old.state new.state request now after)
  broken (Ok done) h = tt
  broken (Err halt) h = record {
    reply = s.reply;
    owed = s.owed;
    step = s.step;
    shows = step_shows old new request outcome now after s;
    written = stopped halt strict outcome s.reply now.sink after.sink h s.written;
    counted = record { counts = s.counted; same = s.library.same };
  }

  pub acts_or_stops : (r : Result (Unit {0}) Stop) → Judges strict outcome r → ActsOrStops strict r old new request now after
  acts_or_stops r h =
      let same = same_faults outcome s.reply now.sink after.sink s.written in
      let more = one_fault_more outcome s.reply now.sink after.sink s.written in
      record {
        acted = acted r h;
        broken = broken r h;
        rest = record {
          setting = s.setting;
          library = s.library;
          faults = record {
            later = no_fewer_faults outcome s.reply now.sink after.sink s.written;
            kept = faults_kept strict outcome now.sink.counts.faults after.sink.counts.faults same more r h;
            blames = faults_blamed strict outcome now.sink.counts.faults after.sink.counts.faults same more r h;
          };
        };
      }

-- ---- to the end, or to a stop
pub counts_on : (a b : SinkShown) → b.counts.faults ≡ a.counts.faults → CountsStop (Ok (tt {0})) a b
counts_on a b same = record { later = omega (arith, same); kept = same; blames = tt }

-- a stop is passed up
pub counts_passed : (r : Result (Unit {0}) Stop) (halt : Stop) (a b c : SinkShown) → IsErrAnd r (λ x. x ≡ halt) → b.counts.faults ≡ a.counts.faults → CountsStop (Err halt) b c → CountsStop r a c
counts_passed (Ok done) halt a b c is same h = absurd is
counts_passed (Err x) halt a b c is same h = record {
  later = omega (arith, same, h.later);
  kept = tt;
  blames = subst (λ (s : Stop). BlamesSink s a.counts.faults c.counts.faults) (sym is) (subst (λ (n : ℕ). BlamesSink halt n c.counts.faults) same h.blames);
}

pub stop_not_ok : (r : Result (Unit {0}) Stop) (halt : Stop) (P : Type 0) → IsErrAnd r (λ x. x ≡ halt) → OnOk r P
stop_not_ok (Ok done) halt P is = absurd is
stop_not_ok (Err x) halt P is = tt
