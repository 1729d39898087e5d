-- A reader that answers the one meaning of its bytes reads back what was printed.
use Rattle.std.proofs.Common.{◌≡◌, Some, None, ap, sym, subst}
use Rattle.std.specs.Prelude.{Option, option_map}
use Rattle.si_term.specs.Meaning.{name_of, pattern_of}
use Rattle.si_term.specs.declared.clause.Name as program_name
use Rattle.si_term.specs.declared.clause.Pattern as program_pattern
use Rattle.si_parse.specs.GrammarRules.{IsFileToken, IsNameToken}
use Rattle.si_parse.specs.Reading.{ReadsText, ReadsPattern, IsOfKind}
use Rattle.si_parse.specs.declared.pattern.PatternKind.TheVariants as kind
use Rattle.si_defs.specs.Bytes.{Bytes}
use Rattle.si_defs.specs.Clauses.{Term, Name, Pattern, term_pattern}
use Rattle.si_defs.specs.Texts.{IsNameText, IsFileText, IsPatternText}
use Rattle.si_parse.specs.ReadBack.{IsOnly, ReadsBackName, ReadsBackFile, ReadsBackTerm, ReadsBackEntry}
use Rattle.si_parse.proofs.ReadBackTexts.{name_reads_back, file_reads_back, pattern_reads_back, entry_reads_back}

-- what has the property is the answer
pub only_is : {A : Type 0} (P : A → Type 0) (read : Option A) (a : A) → IsOnly P read → P a → read ≡ Some a
only_is P None a o h = absurd (o a h)
only_is P (Some b) a o h = ap Some (sym (o.1 a h))

pub name_answered : (bytes : Bytes) (read : Option Name) → IsOnly (λ n. IsNameText n bytes) read → ReadsBackName bytes read
name_answered bytes read o n other h e =
    only_is (λ m. IsNameText m bytes) read n o (subst (IsNameText n) (sym e) (name_reads_back n other h))

pub file_answered : (bytes : Bytes) (read : Option Bytes) → IsOnly (λ f. IsFileText f bytes) read → ReadsBackFile bytes read
file_answered bytes read o file other h e =
    only_is (λ f. IsFileText f bytes) read file o (subst (IsFileText file) (sym e) (file_reads_back file other h))

-- of patterns that are of a kind, as terms are
pub term_answered : (K : Pattern → Type 0) (bytes : Bytes) (read : Option Pattern) → ((t : Term) → K (term_pattern t)) → IsOnly (λ p. K p × IsPatternText p bytes) read
    → ReadsBackTerm bytes read
term_answered K bytes read k o t other g h e =
    only_is (λ p. K p × IsPatternText p bytes) read (term_pattern t) o (k t, subst (IsPatternText (term_pattern t)) (sym e) (pattern_reads_back t other g h))

pub entry_answered : (K : Pattern → Type 0) (bytes : Bytes) (read : Option Pattern) → ((t : Term) → K (term_pattern t)) → IsOnly (λ p. K p × IsPatternText p bytes) read
    → ReadsBackEntry bytes read
entry_answered K bytes read k o t other h e =
    only_is (λ p. K p × IsPatternText p bytes) read (term_pattern t) o (k t, subst (IsPatternText (term_pattern t)) (sym e) (entry_reads_back t other h))

-- ---- what the readers of texts answer
pub name_back : (bytes : Bytes) (read : Option program_name.Name) → ReadsText name_of IsNameToken bytes read → ReadsBackName bytes (option_map name_of read)
name_back bytes read h = name_answered bytes (option_map name_of read) (only read h) where
  only : (r : Option program_name.Name) → ReadsText name_of IsNameToken bytes r → IsOnly (λ n. IsNameText n bytes) (option_map name_of r)
  only None h = h
  only (Some n) h = h

pub file_back : (bytes : Bytes) (read : Option Bytes) → ReadsText (λ t. t) IsFileToken bytes read → ReadsBackFile bytes read
file_back bytes read h = file_answered bytes read (only read h) where
  only : (r : Option Bytes) → ReadsText (λ t. t) IsFileToken bytes r → IsOnly (λ f. IsFileText f bytes) r
  only None h = h
  only (Some f) h = h

only_pattern : (bytes : Bytes) (r : Option program_pattern.Pattern) → ReadsPattern bytes kind.Term r → IsOnly (λ p. IsOfKind kind.Term p × IsPatternText p bytes) (option_map pattern_of r)
only_pattern bytes None h = λ p k. h p k.0 k.1
only_pattern bytes (Some p) h = ((h.of_kind, h.text), λ other k. h.only other k.0 k.1)

pub term_back : (bytes : Bytes) (read : Option program_pattern.Pattern) → ReadsPattern bytes kind.Term read → ReadsBackTerm bytes (option_map pattern_of read)
term_back bytes read h = term_answered (IsOfKind kind.Term) bytes (option_map pattern_of read) (λ t. tt) (only_pattern bytes read h)

pub entry_back : (bytes : Bytes) (read : Option program_pattern.Pattern) → ReadsPattern bytes kind.Term read → ReadsBackEntry bytes (option_map pattern_of read)
entry_back bytes read h = entry_answered (IsOfKind kind.Term) bytes (option_map pattern_of read) (λ t. tt) (only_pattern bytes read h)
