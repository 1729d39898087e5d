-- Which replies a line has.
use Rattle.std.proofs.Common.{◌≡◌, ℕ, ◌<◌, ◌==◌, false, List, [], ◌∷◌, ◌++◌, length, codes, refl, ap, sym, ◌∙◌, subst, ◌⊎◌, inl, inr, arith, Option, Some, None}
use Rattle.si_defs.specs.Bytes.{Bytes}
use Rattle.si_defs.specs.Tokens.{Token, lower, NextToken, AreBlanks, Begins, Consists, white}
use Rattle.si_defs.specs.Grammar.{left_bracket, full_stop}
use Rattle.si_defs.specs.declared.TokenKind.TheVariants.{Lower, Single}
use Rattle.si_defs.proofs.TokenLaws.{skips_nothing}
use Rattle.si_steps.specs.Settings.{Setting}
use Rattle.si_steps.specs.declared.word.Word.{Word}
use Rattle.si_steps.specs.declared.word.Word.TheVariants.{Add}
use Rattle.si_steps.specs.Words.{command_text}
use Rattle.si_steps.specs.Replies.{Reply}
use Rattle.si_state.specs.States.{State}
use Rattle.si_state.specs.Harvest.{Files}
use Rattle.si_steps.specs.Loads.{Owed}
use Rattle.si_steps.specs.Steps.{RightStep, long, silent, foreign, wrong, performed, loaded, right, memory_at_once, memory_behind, IsNoCommand}
use Rattle.si_steps.specs.Commands.{AddsForeign, load, command_word, IsCommand}
use Rattle.si_steps.proofs.WordLaws.{word_with, word_back}
use Rattle.si_steps.proofs.CommandLaws.{IsOf, of_word}
use Rattle.si_lex.proofs.TokenLaws.{next_unique, blanks_none, begins_prefix, consists_unique}
use Rattle.si_examples.specs.Steps.{HasOneReply, SilentLine, SilentComment, SilentOnly, OpenComment, UnknownWord, WordInQuotes, JoinedWord, WordAlone, OtherLanguageAdded, LanguageAlone, TooLong, TooLongBlank, NoMemoryWhereTooLong}
use Rattle.si_examples.proofs.Differ.{differ, first_byte, texts_differ}
use Rattle.si_examples.proofs.Pieces.{Piece, space, word, one_mark, tokens_of, consists, next, nothing}
use Rattle.si_examples.proofs.OpenComments.{open_comment, no_token_there}
use Rattle.si_examples.proofs.OneLine.{command_next}

-- ---- what a line is, and what it is not
-- no word of a command begins the line
abbrev HasNoWord : Bytes → Type 0
HasNoWord line = (w : Word) (rest : Bytes) → NextToken line (lower (command_text w)) rest → ⊥

blank_word : (line : Bytes) → AreBlanks line → HasNoWord line
blank_word line b w rest n = blanks_none line b (lower (command_text w)) rest n

no_command : (line : Bytes) → HasNoWord line → IsNoCommand line
no_command line h command m = let n = command_next command line m in h (command_word command) n.0 n.1

silent_where : (line : Bytes) → AreBlanks line → HasOneReply line []
silent_where line b setting told state w = (silent (w, b) refl refl refl, λ other owed new r. only other owed new r) where
  only : (other : Reply) (owed : Owed) (new : State) → RightStep setting told state line other owed new → (other ≡ []) × (new ≡ state)
  only other owed new (long l r d n) = absurd (omega arith)
  only other owed new (silent s r d n) = (r, n)
  only other owed new (foreign l a m r d n) = absurd (blank_word line b Add a.3.0 a.3.1)
  only other owed new (wrong l s a m r d n) = absurd (s (w, b))
  only other owed new (performed l command m p d) = absurd (no_command line (blank_word line b) command m)
  only other owed new (loaded l file m p) = absurd (no_command line (blank_word line b) (load file) m)

foreign_where : (line : Bytes) → AddsForeign line → IsNoCommand line → HasOneReply line (codes "! language" ∷ [])
foreign_where line a m setting told state w = (foreign w a m refl refl refl, λ other owed new r. only other owed new r) where
  only : (other : Reply) (owed : Owed) (new : State) → RightStep setting told state line other owed new → (other ≡ codes "! language" ∷ []) × (new ≡ state)
  only other owed new (long l r d n) = absurd (omega arith)
  only other owed new (silent s r d n) = absurd (blank_word line s.1 Add a.3.0 a.3.1)
  only other owed new (foreign l b n r d e) = (r, e)
  only other owed new (wrong l s b n r d e) = absurd (b a)
  only other owed new (performed l command n p d) = absurd (m command n)
  only other owed new (loaded l file n p) = absurd (m (load file) n)

wrong_where : (line : Bytes) → (AreBlanks line → ⊥) → (AddsForeign line → ⊥) → IsNoCommand line → HasOneReply line (codes "! syntax" ∷ [])
wrong_where line b a m setting told state w = (wrong w (λ s. b s.1) a m refl refl refl, λ other owed new r. only other owed new r) where
  only : (other : Reply) (owed : Owed) (new : State) → RightStep setting told state line other owed new → (other ≡ codes "! syntax" ∷ []) × (new ≡ state)
  only other owed new (long l r d n) = absurd (omega arith)
  only other owed new (silent s r d n) = absurd (b s.1)
  only other owed new (foreign l c n r d e) = absurd (a c)
  only other owed new (wrong l s c n r d e) = (r, e)
  only other owed new (performed l command n p d) = absurd (m command n)
  only other owed new (loaded l file n p) = absurd (m (load file) n)

-- a line that no word of a command begins, and that is not blank
no_word_where : (line : Bytes) → HasNoWord line → (AreBlanks line → ⊥) → HasOneReply line (codes "! syntax" ∷ [])
no_word_where line h b = wrong_where line b (λ a. h Add a.3.0 a.3.1) (no_command line h)

-- a line that begins with another token
other_where : (line : Bytes) (t : Token) (rest : Bytes) → NextToken line t rest → ((w : Word) → t ≡ lower (command_text w) → ⊥) → HasOneReply line (codes "! syntax" ∷ [])
other_where line t rest n d =
    no_word_where line (λ w r m. d w (next_unique line t (lower (command_text w)) rest r n m).0) (λ b. blanks_none line b t rest n)

-- a text that is not among the words
no_word_text : (text : Bytes) → word_with text ≡ None → (w : Word) → lower text ≡ lower (command_text w) → ⊥
no_word_text text h w e =
    let k : Some w ≡ None = sym (word_back w) ∙ ap (λ t. word_with t.text) (sym e) ∙ h in
    cc

-- ---- silent lines
pub silent_line : SilentLine
silent_line = silent_where (codes " \t ") (record {
  rest = [];
  skips = record { blanks = codes " " ∷ codes "\t" ∷ codes " " ∷ []; each = (white 32 refl refl, (white 9 refl refl, (white 32 refl refl, tt))); whole = refl };
  ends = inl refl;
})

pub silent_comment : SilentComment
silent_comment = silent_where (codes "% a") (record { rest = codes "% a"; skips = skips_nothing (codes "% a"); ends = inr (codes " a", refl, refl) })

-- a space
pub one_space : AreBlanks (codes " ")
one_space = record { rest = []; skips = record { blanks = codes " " ∷ []; each = (white 32 refl refl, tt); whole = refl }; ends = inl refl }

append_empty : (xs ys : Reply) → [] ≡ xs ++ ys → ys ≡ []
append_empty [] ys e = sym e
append_empty (x ∷ xs) ys e = cc

pub silent_only : SilentOnly
silent_only setting told state reply owed new w (right r) = (silent_where (codes " ") one_space setting told state w).1 reply owed new r
silent_only setting told state reply owed new w (memory_at_once s within r d n) = absurd (s (w, one_space))
silent_only setting told state reply owed new w (memory_behind whole due next r within written left e some reply_is d n) =
    absurd (some (append_empty written left (sym ((silent_where (codes " ") one_space setting told state w).1 whole due next r).0 ∙ e)))

pub open_comment_line : OpenComment
open_comment_line =
    no_word_where (codes "/* a") (λ w rest n. no_token_there (codes " a") refl (lower (command_text w)) rest n) (open_comment (codes " a") refl)

-- ---- lines that are too long
right_too_long : (setting : Setting) (told : Option Files) (state : State) (line : Bytes) (reply : Reply) (owed : Owed) (new : State) → setting.limits.line < length line
    → RightStep setting told state line reply owed new → (reply ≡ codes "! long" ∷ []) × (new ≡ state)
right_too_long setting told state line reply owed new more (long l r d n) = (r, n)
right_too_long setting told state line reply owed new more (silent s r d n) = absurd (omega (arith, s.0))
right_too_long setting told state line reply owed new more (foreign l a m r d n) = absurd (omega (arith, l))
right_too_long setting told state line reply owed new more (wrong l s a m r d n) = absurd (omega (arith, l))
right_too_long setting told state line reply owed new more (performed l command m p d) = absurd (omega (arith, l))
right_too_long setting told state line reply owed new more (loaded l file m p) = absurd (omega (arith, l))

pub too_long : TooLong
too_long setting told state line reply owed new more (right r) = right_too_long setting told state line reply owed new more r
too_long setting told state line reply owed new more (memory_at_once s within r d n) = absurd (omega arith)
too_long setting told state line reply owed new more (memory_behind whole due next r within written left e some reply_is d n) = absurd (omega arith)

pub too_long_blank : TooLongBlank
too_long_blank setting told state more = long more refl refl refl

first_line : Reply → Bytes
first_line [] = []
first_line (line ∷ lines) = line

third_byte : Bytes → ℕ
third_byte (b ∷ c ∷ d ∷ ds) = d
third_byte bs = 0

pub no_memory : NoMemoryWhereTooLong
unfolding first_line third_byte
no_memory setting told state line owed new more s =
    differ 109 108 refl (ap (λ r. third_byte (first_line r)) (too_long setting told state line (codes "! memory" ∷ []) owed new more s).0)

-- ---- wrong lines
pub unknown_word : UnknownWord
unknown_word = other_where (codes "find p") (lower (codes "find")) (codes " p") (next Lower (codes "find") (codes " p") refl) (no_word_text (codes "find") refl)

pub word_in_quotes : WordInQuotes
word_in_quotes = other_where (codes "'add' cnf(c,axiom,p).") _ (codes " cnf(c,axiom,p).") (next Single (codes "add") (codes " cnf(c,axiom,p).") refl) (λ w e. bare (ap (λ t. t.kind) e)) where
  bare : Single ≡ Lower → ⊥
  bare e = cc

pub joined_word : JoinedWord
joined_word = other_where (codes "addcnf(c,axiom,p).") (lower (codes "addcnf")) (codes "(c,axiom,p).") (next Lower (codes "addcnf") (codes "(c,axiom,p).") refl) (no_word_text (codes "addcnf") refl)

-- ---- lines that begin with `add`
operands_of : List Token → List Token
operands_of [] = []
operands_of (t ∷ ts) = ts

first_text : List Token → Bytes
first_text [] = []
first_text (t ∷ ts) = t.text

-- only a clause is added, and it begins with `cnf`
no_clause : (line : Bytes) (ts : List Token) → Consists line (lower (codes "add") ∷ ts) → first_byte (first_text ts) == 99 ≡ false → IsNoCommand line
unfolding first_text
no_clause line ts c h command m = by (of_word Add command ts (subst (IsCommand command) (sym (consists_unique (lower (codes "add") ∷ ts) m.tokens line c m.consists)) m.spelled)) where
  by : IsOf Add command ts → ⊥
  by (clause, is, spelled) = texts_differ (first_text ts) (codes "cnf") h (ap first_text spelled.6)

pub other_language_added : OtherLanguageAdded
unfolding first_text
other_language_added = by (consists (word (codes "add") ∷ space 32 ∷ word (codes "fof") ∷ one_mark 40 ∷ others) refl) where
  others : List Piece
  others = word (codes "a") ∷ one_mark 44 ∷ word (codes "axiom") ∷ one_mark 44 ∷ word (codes "p") ∷ one_mark 41 ∷ one_mark 46 ∷ []

  line : Bytes
  line = codes "add fof(a,axiom,p)."

  by : Consists line (lower (codes "add") ∷ lower (codes "fof") ∷ left_bracket ∷ tokens_of others) → HasOneReply line (codes "! language" ∷ [])
  by c =
      let b = c.begins in
      foreign_where line (codes "fof", b.2.2.0, inl refl, (b.0, b.1, (b.2.0, b.2.1, (b.2.2.0, b.2.2.1, refl))))
      (no_clause line (lower (codes "fof") ∷ left_bracket ∷ tokens_of others) c refl)

pub word_alone : WordAlone
unfolding first_text
word_alone = wrong_where (codes "add") (λ b. blanks_none (codes "add") b (lower (codes "add")) [] n) own (no_clause (codes "add") [] (consists (word (codes "add") ∷ []) refl) refl) where
  n : NextToken (codes "add") (lower (codes "add")) []
  n = next Lower (codes "add") [] refl

  own : AddsForeign (codes "add") → ⊥
  own a =
      let same = (next_unique (codes "add") (lower (codes "add")) (lower (codes "add")) a.3.0 [] a.3.1 n).1 in
      blanks_none a.3.0 (subst AreBlanks (sym same) nothing) (lower a.0) a.3.2.0 a.3.2.1

-- the third token's text
third_text : List Token → Bytes
third_text ts = first_text (operands_of (operands_of ts))

pub language_alone : LanguageAlone
unfolding first_text operands_of third_text
language_alone = wrong_where line (λ k. blanks_none line k (lower (codes "add")) b.0 b.1) own (no_clause line (lower (codes "fof") ∷ full_stop ∷ []) c refl) where
  line : Bytes
  line = codes "add fof."

  c : Consists (codes "add fof.") (lower (codes "add") ∷ lower (codes "fof") ∷ full_stop ∷ [])
  c = consists (word (codes "add") ∷ space 32 ∷ word (codes "fof") ∷ one_mark 46 ∷ []) refl

  b : Begins (codes "add fof.") (lower (codes "add") ∷ lower (codes "fof") ∷ full_stop ∷ []) c.rest
  b = c.begins

  own : AddsForeign (codes "add fof.") → ⊥
  own a = by (begins_prefix (lower (codes "add") ∷ lower (codes "fof") ∷ full_stop ∷ []) (lower (codes "add") ∷ lower a.0 ∷ left_bracket ∷ []) (codes "add fof.") c.rest a.1 c.begins a.3) where
    by : ((more : List Token) × (lower (codes "add") ∷ lower (codes "fof") ∷ full_stop ∷ [] ≡ (lower (codes "add") ∷ lower a.0 ∷ left_bracket ∷ []) ++ more))
        ⊎ ((more : List Token) × (lower (codes "add") ∷ lower a.0 ∷ left_bracket ∷ [] ≡ (lower (codes "add") ∷ lower (codes "fof") ∷ full_stop ∷ []) ++ more)) → ⊥
    by (inl m) = texts_differ (codes ".") (codes "(") refl (ap third_text m.1)
    by (inr m) = texts_differ (codes "(") (codes ".") refl (ap third_text m.1)
