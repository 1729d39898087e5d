-- The words that name files are acted on one after the other.
use Rattle.std.proofs.Common.{◌≡◌, ℕ, ◌+◌, Bool, List, [], ◌∷◌, ◌++◌, Option, map, refl, sym, ap, subst, ◌∙◌, append-nil, ◌<◌, ◌≤◌, Some, None, length, take, drop, get_or, suc, add-one, take_all, codes}
use Rattle.std.proofs.Math.Seq.{take-suc, split_at}
use Rattle.std.specs.Prelude.{option_map, unwrap_or}
use Rattle.std.specs.Borrow.{Bor}
use Rattle.std.proofs.lemmas.List.{map-append}
use Rattle.si_defs.specs.Bytes.{Bytes}
use Rattle.si_state.specs.States.{State, empty_state}
use Rattle.si_state.specs.Harvest.{Files}
use Rattle.si_steps.specs.Settings.{Setting}
use Rattle.si_steps.specs.Loads.{nothing, together}
use Rattle.si_steps.specs.Runs.{ended, Request, a_word}
use Rattle.si_serve.specs.Shown.{ShownRun}
use Rattle.si_session.specs.Session.{Around}
use Rattle.si_io.proofs.Sends.{SendsAll_then, SendsAll-nil}
use Rattle.si_io.specs.Shown.{SourceShown}
use Rattle.si_io.proofs.Gives.{Gives-nil}
use Rattle.clap.specs.Words.{matched_of, raw_values, rows_of}
use Rattle.clap.specs.declared.parser.matches.Found.{Found}
use Rattle.si_serve.specs.Words.{asked_in}
use Rattle.si_serve.specs.declared.status.Stop.{Stop}
use Rattle.si_serve.specs.Serve.{WritesTo}
use Rattle.si_serve.specs.Progress.{ActsOnRequest, Breaks, LoadsWords, HasProgressed}
use Rattle.si_serve.proofs.Splitting.{Run_more, Splits_none}
use Rattle.si_serve.proofs.Rows.{all_is}
use Rattle.si_serve.proofs.Progress.{owed_none, owed_then, shown-nil}

pub words_none : (setting : Setting) (told : Option Files) (strict : Bool) (state : State) (before : Around) → state ≡ empty_state → LoadsWords setting told strict [] before state before
words_none setting told strict state before none = record {
  output = [];
  owed = nothing;
  run = ((refl, refl, none), tt);
  written = SendsAll-nil before.sink;
  counted = owed_none before;
}

-- one word more
pub words_more : (setting : Setting) (told : Option Files) (strict : Bool) (words : List Bytes) (word : Bytes) (old new : State) (before now after : Around)
    → LoadsWords setting told strict words before old now → ActsOnRequest setting told strict old new (a_word word) now after → LoadsWords setting told strict (words ++ word ∷ []) before new after
words_more setting told strict words word old new before now after l acts = record {
  output = l.output ++ ended acts.reply;
  owed = together l.owed acts.owed;
  run = subst (λ (rs : List Request). ShownRun setting told strict empty_state rs (l.output ++ ended acts.reply) (together l.owed acts.owed) new) (sym (map-append a_word words (word ∷ [])))
      (Run_more setting told strict empty_state old new (map a_word words) (a_word word) l.output l.owed acts.reply acts.owed l.run acts.step acts.goes acts.shows);
  written = SendsAll_then before.sink now.sink after.sink l.output (ended acts.reply) l.written acts.written;
  counted = owed_then before now after l.owed acts.owed l.counted acts.counted;
}

-- the run stops at one
pub words_stop : (halt : Stop) (setting : Setting) (told : Option Files) (strict : Bool) (words others files : List Bytes) (word : Bytes) (old new : State) (before now after : Around)
    → LoadsWords setting told strict words before old now → Breaks halt setting told strict old new (a_word word) now after → words ++ word ∷ others ≡ files
    → WritesTo halt setting told strict files [] before after
words_stop halt setting told strict words others files word old new before now after l breaks whole = record {
  reply = breaks.reply;
  output = l.output ++ ended breaks.reply;
  owed = together l.owed breaks.owed;
  right = record {
    done = map a_word words;
    last = a_word word;
    others = map a_word others;
    front = sym (map-append a_word words (word ∷ others)) ∙ ap (map a_word) whole ∙ sym (append-nil (map a_word files));
    before = l.output;
    less = l.owed;
    state = old;
    run = l.run.0;
    due = breaks.owed;
    new = new;
    acts = breaks.step;
    whole = refl;
    counted = refl;
  };
  shown = (l.run.1, breaks.shows);
  middle = now.sink;
  written = l.written;
  stopped = breaks.written;
  counted = owed_then before now after l.owed breaks.owed l.counted breaks.counted;
}

-- after the words nothing is taken yet
pub Stands_start : (setting : Setting) (told : Option Files) (strict : Bool) (files : List Bytes) (source : SourceShown) (before now : Around) (state : State) (held : Bytes)
    → LoadsWords setting told strict files before state now → held ≡ [] → HasProgressed setting told strict files 0 source source before state held now
Stands_start setting told strict files source before now state held l empty = record {
  taken = [];
  size = refl;
  gives = Gives-nil source;
  unended = refl;
  progress = record {
    lines = [];
    rest = [];
    output = l.output;
    owed = l.owed;
    splits = Splits_none;
    holds = empty ∙ sym (shown-nil setting.limits);
    run = subst (λ (rs : List Request). ShownRun setting told strict empty_state rs l.output l.owed state) (sym (append-nil (map a_word files))) l.run;
    written = l.written;
    counted = l.counted;
  };
}

pub Stands_under : (given setting : Setting) (told : Option Files) (strict : Bool) (files : List Bytes) (source : SourceShown) (before now : Around) (state : State) (held : Bytes)
    → LoadsWords given told strict files before state now → given ≡ setting → held ≡ [] → HasProgressed setting told strict files 0 source source before state held now
Stands_under given setting told strict files source before now state held l same empty =
    Stands_start setting told strict files source before now state held (subst (λ (m : Setting). LoadsWords m told strict files before state now) same l) empty

-- ---- the words, as `clap` lends them
abbrev pub texts : List (Bor Bytes) → List Bytes
texts = map (λ f. f.now)

-- the values of the matches are these words
pub files_are : (f : Found) (words : List Bytes) → Some words ≡ option_map raw_values (matched_of f (codes "FILE")) → words ≡ (asked_in (rows_of f)).files
files_are f words e = ap (λ (o : Option (List Bytes)). unwrap_or o []) (e ∙ all_is f (codes "FILE"))

pub files_none : (f : Found) → None ≡ option_map raw_values (matched_of f (codes "FILE")) → [] ≡ (asked_in (rows_of f)).files
files_none f e = ap (λ (o : Option (List Bytes)). unwrap_or o []) (e ∙ all_is f (codes "FILE"))

module _ (setting : Setting) (told : Option Files) (strict : Bool) (files : List (Bor Bytes)) (i : ℕ) (before : Around) where
  pub words_all : (whole : List Bytes) (state : State) (after : Around) → length files ≤ i → texts files ≡ whole
      → LoadsWords setting told strict (texts (take i files)) before state after → LoadsWords setting told strict whole before state after
  words_all whole state after past same l = subst (λ (ws : List Bytes). LoadsWords setting told strict ws before state after) (ap texts (take_all i files past) ∙ same) l

  pub words_next : (given : Setting) (tell : Option Files) (d : Bor Bytes) (word : Bytes) (old new : State) (now after : Around)
      → LoadsWords setting told strict (texts (take i files)) before old now → given ≡ setting → tell ≡ told → i < length files → word ≡ (get_or files i d).now
      → ActsOnRequest given tell strict old new (a_word word) now after → LoadsWords setting told strict (texts (take (i + 1) files)) before new after
  words_next given tell d word old new now after l same known here is acts =
      let next : texts (take (i + 1) files) ≡ texts (take i files) ++ word ∷ [] =
      ap (λ (n : ℕ). texts (take n files)) (add-one i) ∙ ap texts (take-suc files i d here) ∙ map-append (λ (f : Bor Bytes). f.now) (take i files) (get_or files i d ∷ [])
      ∙ ap (λ (w : Bytes). texts (take i files) ++ w ∷ []) (sym is) in
      subst (λ (ws : List Bytes). LoadsWords setting told strict ws before new after) (sym next)
      (words_more setting told strict (texts (take i files)) word old new before now after l
      (subst (λ (m : Setting). ActsOnRequest m told strict old new (a_word word) now after) same (subst (λ (o : Option Files). ActsOnRequest given o strict old new (a_word word) now after) known acts)))

  pub words_break : (halt : Stop) (whole : List Bytes) (given : Setting) (tell : Option Files) (d : Bor Bytes) (word : Bytes) (old new : State) (now after : Around)
      → LoadsWords setting told strict (texts (take i files)) before old now → given ≡ setting → tell ≡ told → i < length files → word ≡ (get_or files i d).now → texts files ≡ whole
      → Breaks halt given tell strict old new (a_word word) now after → WritesTo halt setting told strict whole [] before after
  words_break halt whole given tell d word old new now after l same known here is all breaks =
      let parts : texts (take i files) ++ word ∷ texts (drop (suc i) files) ≡ whole =
      ap (λ (w : Bytes). texts (take i files) ++ w ∷ texts (drop (suc i) files)) is ∙ sym (map-append (λ (f : Bor Bytes). f.now) (take i files) (get_or files i d ∷ drop (suc i) files))
      ∙ ap texts (sym (split_at files i d here)) ∙ all in
      words_stop halt setting told strict (texts (take i files)) (texts (drop (suc i) files)) whole word old new before now after l
      (subst (λ (m : Setting). Breaks halt m told strict old new (a_word word) now after) same (subst (λ (o : Option Files). Breaks halt given o strict old new (a_word word) now after) known breaks)) parts
