-- Words of which `--strict` is one at most, and of which no other begins with `-`, are taken, and
-- ask for just what they say.
use Rattle.std.proofs.Common.{◌≡◌, ◌≤◌, ◌||◌, ◌&&◌, inl, inr, Bool, true, false, not, List, [], ◌∷◌, ◌++◌, Some, None, codes, refl, sym, ap, ap₂, ◌∙◌, append_assoc, length, le-leb, arith, cond, is_some, subst, length-append, append-nil, if◌then◌else◌}
use Rattle.std.proofs.lemmas.Bool.{or_parts}
use Rattle.std.specs.List.{fold, list_all}
use Rattle.std.specs.Option.{option_map_or}
use Rattle.std.specs.Str.{bytes_eq}
use Rattle.std.proofs.lemmas.List.Sums.{fold-append}
use Rattle.si_defs.specs.Bytes.{Bytes}
use Rattle.clap.specs.Words.{Row, Rule, matches_of, takes}
use Rattle.clap.specs.Simple.{Shape, built, entered, filled}
use Rattle.clap.specs.Walk.{Held, Step, Walk, Waiting, after_step, finished, idle, long_or_other, positional, plain_word, reacted, short_or_plain, subcommand_met, subcommand_or_other, trailing, value, walked, word_met}
use Rattle.clap.specs.Takes.{bundle_passes, flag_word_passes, other_passes, step_passes, turn_passes, walk_passes, settle_passes, default_passes, entered_passes, is_valid}
use Rattle.clap.specs.Lexer.{long_of, short_of, usize_max}
use Rattle.clap.proofs.OnLiterals.{clap_on_literals}
use Rattle.si_serve.specs.Words.{AreFileWords, IsPlain, IsReadAsSaid, asked_in, begins_with_hyphen, files_in, has_strict, is_strict_word, program, strict_rule, strict_word}

abbrev top : Shape
top = (built program).top

abbrev rules : List Rule
rules = top.rules

-- `--strict`, built
abbrev strict_built : Rule
strict_built = filled strict_rule

-- where the walk stands: these rows are there, and these words wait to be files
abbrev held_at : List Row → List Bytes → Held
held_at rows [] = record { rows = rows; pending = None; skip = 0 }
held_at rows (word ∷ words) = record { rows = rows; pending = Some (codes "FILE", word ∷ words); skip = 0 }

abbrev waiting_at : List Bytes → Waiting
waiting_at [] = idle
waiting_at (word ∷ words) = positional

abbrev at : List Row → List Bytes → Walk
at rows words = record { held = held_at rows words; waiting = waiting_at words; position = 1; is_trailing = false; stopped = None }

-- ---- a name

module _ (word : Bytes) (plain : begins_with_hyphen word ≡ false) where
  no_dashes : bytes_eq word (45 ∷ 45 ∷ []) ≡ false
  no_dashes = by word plain where
    by : (word : Bytes) → begins_with_hyphen word ≡ false → bytes_eq word (45 ∷ 45 ∷ []) ≡ false
    by [] e = refl
    by (b ∷ bs) e = rw e refl

  no_long : long_of word ≡ None
  no_long = by word plain where
    by : (word : Bytes) → begins_with_hyphen word ≡ false → long_of word ≡ None
    by [] e = refl
    by (b ∷ bs) e = rw e refl

  no_short : short_of word ≡ None
  no_short = by word plain where
    by : (word : Bytes) → begins_with_hyphen word ≡ false → short_of word ≡ None
    by [] e = refl
    by (b ∷ bs) e = rw e refl

  no_name : (words : List Bytes) → subcommand_met [] (waiting_at words) word ≡ None
  no_name [] = refl
  no_name (x ∷ xs) = refl

  name_met : (rows : List Row) (words : List Bytes) → word_met rules [] false (waiting_at words) 1 word (held_at rows words) ≡ (held_at rows words, value)
  name_met rows words =
      ap (λ o. subcommand_or_other rules o (waiting_at words) 1 word (held_at rows words)) (no_name words)
      ∙ ap (λ (t : Bool). if t then (held_at rows words, trailing 1) else long_or_other rules (waiting_at words) word (long_of word) (held_at rows words)) no_dashes
      ∙ ap (λ o. long_or_other rules (waiting_at words) word o (held_at rows words)) no_long
      ∙ ap (λ o. short_or_plain rules (waiting_at words) word o (held_at rows words)) no_short
      ∙ by words
    where
      by : (words : List Bytes) → plain_word rules (waiting_at words) word (held_at rows words) ≡ (held_at rows words, value)
      by [] = refl
      by (x ∷ xs) = refl

  name_walked : (rows : List Row) (words : List Bytes) → walked rules [] (at rows words) word ≡ at rows (words ++ word ∷ [])
  unfolding clap_on_literals
  name_walked rows words = ap (λ (p : Held × Step). after_step rules word (at rows words) p.0 p.1) (name_met rows words) ∙ by words where
    by : (words : List Bytes) → after_step rules word (at rows words) (held_at rows words) value ≡ at rows (words ++ word ∷ [])
    by [] = refl
    by (x ∷ xs) = refl

  name_passes : (rows : List Row) (words : List Bytes) → turn_passes top [] (at rows words) word ≡ true
  name_passes rows words =
      ap₂ (λ o (p : Held × Step). other_passes top o word (held_at rows words) && step_passes top 1 p.0 p.1) (no_name words) (name_met rows words)
      ∙ ap (λ (d : Bool). (d || flag_word_passes rules top.args_override_self (long_of word) word (held_at rows words)) && step_passes top 1 (held_at rows words) value) no_dashes
      ∙ ap (λ o. flag_word_passes rules top.args_override_self o word (held_at rows words) && step_passes top 1 (held_at rows words) value) no_long
      ∙ ap (λ o. option_map_or (λ flags. bundle_passes rules top.args_override_self flags (held_at rows words)) o true && step_passes top 1 (held_at rows words) value) no_short
      ∙ by words
    where
      by : (words : List Bytes) → step_passes top 1 (held_at rows words) value ≡ true
      by [] = refl
      by (x ∷ xs) = refl

-- ---- names alone

names_walked : (rows : List Row) (words names : List Bytes) → AreFileWords names → fold (walked rules []) (at rows words) names ≡ at rows (words ++ names)
names_walked rows words [] plain = ap (at rows) (sym (append-nil words))
names_walked rows words (name ∷ names) plain =
    let p = or_parts (begins_with_hyphen name) _ plain in
    ap (λ w. fold (walked rules []) w names) (name_walked name p.0 rows words)
    ∙ names_walked rows (words ++ name ∷ []) names p.1
    ∙ ap (at rows) (append_assoc words (name ∷ []) names)

names_pass : (rows : List Row) (words names rest : List Bytes) → AreFileWords names → walk_passes top [] (at rows (words ++ names)) rest ≡ true
    → walk_passes top [] (at rows words) (names ++ rest) ≡ true
unfolding walk_passes
names_pass rows words [] rest plain e = ap (λ ws. walk_passes top [] (at rows ws) rest) (sym (append-nil words)) ∙ e
names_pass rows words (name ∷ names) rest plain e =
    let p = or_parts (begins_with_hyphen name) _ plain in
    let later : walk_passes top [] (at rows (words ++ name ∷ [])) (names ++ rest) ≡ true =
    names_pass rows (words ++ name ∷ []) names rest p.1 (ap (λ ws. walk_passes top [] (at rows ws) rest) (append_assoc words (name ∷ []) names) ∙ e) in
    ap₂ (λ (t : Bool) (w : Walk). t && walk_passes top [] w (names ++ rest)) (name_passes name p.0 rows words) (name_walked name p.0 rows words) ∙ later

-- ---- `--strict`

-- the rows after `--strict`, before which these words stood
abbrev rows_behind : List Bytes → List Row
rows_behind words = (reacted rules strict_built [] (held_at [] words)).rows

pub strict_walked : (words : List Bytes) → walked rules [] (at [] words) strict_word ≡ at (rows_behind words) []
unfolding clap_on_literals
strict_walked [] = refl
strict_walked (x ∷ xs) = refl

all_text : (words : List Bytes) → list_all (λ (word : Bytes). true) words ≡ true
all_text [] = refl
all_text (x ∷ xs) = all_text xs

strict_passes : (words : List Bytes) → length words ≤ usize_max → turn_passes top [] (at [] words) strict_word ≡ true
unfolding clap_on_literals
strict_passes [] fits = refl
strict_passes (x ∷ xs) fits = rw (le-leb 0 (length (x ∷ xs)) (omega arith), le-leb (length (x ∷ xs)) usize_max fits, all_text xs) refl

-- ---- all words

-- the rows at the end, where the walk stands so
abbrev rows_at_end : List Row → List Bytes → List Row
rows_at_end rows words = finished rules (held_at rows words)

-- what is asked of the words at the end of the walk
abbrev end_passes : List Row → List Bytes → Bool
end_passes rows words = settle_passes rules top.args_override_self (held_at rows words)
    && (list_all default_passes rules && is_valid top (rows_at_end rows words) false)

end_is : (rows : List Row) (words : List Bytes) → length words ≤ usize_max → end_passes rows words ≡ true
unfolding clap_on_literals
end_is rows [] fits = refl
end_is rows (x ∷ xs) fits = rw (le-leb 0 (length (x ∷ xs)) (omega arith), le-leb (length (x ∷ xs)) usize_max fits, all_text xs) refl

-- a walk that ends so is taken
taken_by : (words : List Bytes) (rows : List Row) (last : List Bytes) → length last ≤ usize_max
    → fold (walked rules []) (at [] []) words ≡ at rows last → walk_passes top [] (at [] []) words ≡ true
    → (takes program words ≡ true) × (matches_of program words ≡ rows_at_end rows last)
unfolding clap_on_literals
taken_by words rows last fits ends passes = (
  ap (λ (w : Walk). entered_passes (built program) w.stopped && (walk_passes top [] (at [] []) words && (settle_passes rules top.args_override_self w.held
      && (list_all default_passes rules && is_valid top (finished rules w.held) (is_some (entered (built program) w.stopped)))))) ends
      ∙ ap (λ (t : Bool). t && end_passes rows last) passes ∙ end_is rows last fits,
  ap (λ (w : Walk). finished rules w.held) ends,
)

-- what the rows at the end ask for
asks_alone : (words : List Bytes) → asked_in (rows_at_end [] words) ≡ record { strict = false; files = words }
unfolding clap_on_literals
asks_alone [] = refl
asks_alone (x ∷ xs) = refl

asks_strict : (before after : List Bytes) → asked_in (rows_at_end (rows_behind before) after) ≡ record { strict = true; files = before ++ after }
unfolding clap_on_literals
asks_strict [] [] = refl
asks_strict [] (y ∷ ys) = refl
asks_strict (x ∷ xs) [] = ap (λ files. record { strict = true; files = files }) (sym (append-nil (x ∷ xs)))
asks_strict (x ∷ xs) (y ∷ ys) = refl

-- ---- what the words say

other_word : (word : Bytes) → begins_with_hyphen word ≡ false → is_strict_word word ≡ false
other_word [] e = refl
other_word (b ∷ bs) e = rw e refl

none_strict : (words : List Bytes) → AreFileWords words → has_strict words ≡ false
none_strict [] plain = refl
none_strict (word ∷ words) plain =
    let p = or_parts (begins_with_hyphen word) _ plain in
    ap₂ (λ a b. a || b) (other_word word p.0) (none_strict words p.1)

one_strict : (before after : List Bytes) → AreFileWords before → has_strict (before ++ strict_word ∷ after) ≡ true
one_strict [] after plain = refl
one_strict (word ∷ words) after plain =
    let p = or_parts (begins_with_hyphen word) _ plain in
    ap₂ (λ a b. a || b) (other_word word p.0) (one_strict words after p.1)

files_front : (before after : List Bytes) → AreFileWords before → files_in (before ++ after) ≡ before ++ files_in after
files_front [] after plain = refl
files_front (word ∷ words) after plain =
    let p = or_parts (begins_with_hyphen word) _ plain in
    ap (λ t. cond (not t) (word ∷ files_in (words ++ after)) (files_in (words ++ after))) (other_word word p.0)
    ∙ ap (λ ws. word ∷ ws) (files_front words after p.1)

files_alone : (words : List Bytes) → AreFileWords words → files_in words ≡ words
files_alone words plain = ap files_in (sym (append-nil words)) ∙ files_front words [] plain ∙ append-nil words

-- ---- the law

names_read : (words : List Bytes) → length words ≤ usize_max → AreFileWords words → IsReadAsSaid words
unfolding walk_passes
names_read words fits plain =
    let taken = taken_by words [] words fits (names_walked [] [] words plain)
    (ap (walk_passes top [] (at [] [])) (sym (append-nil words)) ∙ names_pass [] [] words [] plain refl) in (
      taken.0,
      ap asked_in taken.1 ∙ asks_alone words ∙ ap₂ (λ strict files. record { strict = strict; files = files }) (sym (none_strict words plain)) (sym (files_alone words plain)),
    )

strict_read : (before after : List Bytes) → length (before ++ strict_word ∷ after) ≤ usize_max → AreFileWords before → AreFileWords after → IsReadAsSaid (before ++ strict_word ∷ after)
unfolding walk_passes
strict_read before after fits first rest =
    let size = length-append before (strict_word ∷ after) in
    let rows = rows_behind before in
    let walk_is : fold (walked rules []) (at [] []) (before ++ strict_word ∷ after) ≡ at rows after =
    fold-append (walked rules []) (at [] []) before (strict_word ∷ after)
    ∙ ap (λ w. fold (walked rules []) (walked rules [] w strict_word) after) (names_walked [] [] before first)
    ∙ ap (λ w. fold (walked rules []) w after) (strict_walked before)
    ∙ names_walked rows [] after rest in
    let last : walk_passes top [] (at rows []) after ≡ true =
    ap (walk_passes top [] (at rows [])) (sym (append-nil after)) ∙ names_pass rows [] after [] rest refl in
    let middle : walk_passes top [] (at [] before) (strict_word ∷ after) ≡ true =
    ap₂ (λ (t : Bool) (w : Walk). t && walk_passes top [] w after) (strict_passes before (omega (arith, size, fits))) (strict_walked before) ∙ last in
    let taken = taken_by (before ++ strict_word ∷ after) rows after (omega (arith, size, fits)) walk_is (names_pass [] [] before (strict_word ∷ after) first middle) in (
      taken.0,
      ap asked_in taken.1 ∙ asks_strict before after
          ∙ ap₂ (λ strict files. record { strict = strict; files = files }) (sym (one_strict before after first))
          (sym (files_front before (strict_word ∷ after) first ∙ ap (λ ws. before ++ ws) (files_alone after rest))),
    )

pub plain_read : (words : List Bytes) → length words ≤ usize_max → IsPlain words → IsReadAsSaid words
plain_read words fits (inl plain) = names_read words fits plain
plain_read words fits (inr once) =
    subst IsReadAsSaid (sym once.splits) (strict_read once.before once.after (subst (λ (ws : List Bytes). length ws ≤ usize_max) once.splits fits) once.first once.rest)
