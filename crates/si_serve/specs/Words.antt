-- What the words of the program's call ask for, as `clap` reads them.
use Rattle.std.specs.Prelude.{◌≡◌, ◌⊎◌, ◌==◌, Bool, List, [], ◌∷◌, ◌++◌, true, false, not, Some, codes, unwrap_or}
use Rattle.std.specs.List.{filter, list_any}
use Rattle.std.specs.Option.{option_map_or}
use Rattle.std.specs.Str.{bytes_eq}
use Rattle.si_defs.specs.Bytes.{Bytes}
use Rattle.clap.specs.Words.{App, Row, Rule, all_of, fault_of, first_of, found_of, matches_of, new_app, new_rule, rows_of, takes, with_rule}
use Rattle.clap.specs.declared.parser.matches.ArgMatches.{ArgMatches}
use Rattle.clap.specs.Simple.{on_top}
use Rattle.clap.specs.Lexer.{usize_max}
use Rattle.clap.specs.declared.builder.ArgAction.TheVariants.{Append, SetTrue}

-- `--strict`
abbrev pub strict_rule : Rule
strict_rule =
    record (new_rule (codes "strict")) { long = Some (codes "strict"); action = Some SetTrue }

-- `[FILE]...`
abbrev pub file_rule : Rule
file_rule = record (new_rule (codes "FILE")) {
  action = Some Append;
  range = Some (record { start_inclusive = 0; end_inclusive = usize_max });
}

-- the simple command `stindex [--strict] [FILE]...`, whose words don't begin with its own name
abbrev pub program : App
program =
    with_rule (with_rule (on_top (λ s. record s { no_binary_name = true })
    (new_app (codes "stindex"))) strict_rule) file_rule

-- `clap` finds no fault in the words, and they ask for no help
abbrev pub HasNoFault : List Bytes → Type 0
HasNoFault words = fault_of program words ≡ []

-- the line that says how to call it
abbrev pub usage_line : Bytes
usage_line = codes "usage: stindex [--strict] [FILE]...\n"

-- what some words ask for
pub record Asked : Type 0 where
  pub strict : Bool
  pub files : List Bytes

abbrev pub asked_in : List Row → Asked
asked_in rows = record {
  strict = option_map_or (λ t. bytes_eq t (codes "true")) (first_of (codes "strict") rows) false;
  files = unwrap_or (all_of (codes "FILE") rows) [];
}

abbrev pub asked_by : List Bytes → Asked
asked_by words = asked_in (matches_of program words)

-- what the matches of a call ask for
abbrev pub asked_of : ArgMatches → Asked
asked_of matches = asked_in (rows_of (found_of matches))

-- the word that makes a run strict
abbrev pub strict_word : Bytes
strict_word = codes "--strict"

abbrev pub is_strict_word : Bytes → Bool
is_strict_word word = bytes_eq word strict_word

-- the first byte is `-` (45)
abbrev pub begins_with_hyphen : Bytes → Bool
begins_with_hyphen [] = false
begins_with_hyphen (b ∷ bs) = b == 45

-- none of the words begins with `-`
abbrev pub AreFileWords : List Bytes → Type 0
AreFileWords words = list_any begins_with_hyphen words ≡ false

-- `--strict` stands between these words once, and no other word begins with `-`
pub record HasStrictOnce (words : List Bytes) : Type 0 where
  pub before : List Bytes
  pub after : List Bytes
  pub splits : words ≡ before ++ strict_word ∷ after
  pub first : AreFileWords before
  pub rest : AreFileWords after

-- `--strict` stands among the words at most once, and no other word begins with `-`
abbrev pub IsPlain : List Bytes → Type 0
IsPlain words = AreFileWords words ⊎ HasStrictOnce words

abbrev pub has_strict : List Bytes → Bool
has_strict words = list_any is_strict_word words

-- the words other than `--strict`, in order
abbrev pub files_in : List Bytes → List Bytes
files_in words = filter (λ word. not (is_strict_word word)) words

-- The words are taken. They ask for a strict run exactly where `--strict` stands among them, and
-- for the other words as files.
abbrev pub IsReadAsSaid : List Bytes → Type 0
IsReadAsSaid words =
    (takes program words ≡ true)
    × (asked_by words ≡ record { strict = has_strict words; files = files_in words })
