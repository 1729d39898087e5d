-- Which command a line is, by its tokens.
use Rattle.std.proofs.Common.{◌≡◌, ℕ, ◌≤◌, List, [], ◌∷◌, ◌++◌, refl, ap, sym, ◌∙◌, ap₂, subst, inl, inr, arith}
use Rattle.std.proofs.lemmas.Fmt.{decimal_injective}
use Rattle.std.specs.Prelude.{codes, Option, Some, None}
use Rattle.std.specs.Borrow.{Bor}
use Rattle.si_defs.specs.Bytes.{Bytes}
use Rattle.si_defs.specs.Clauses.{Name, Literal, Clause, Pattern, literal_pattern, term_pattern, IsSoundClause, AreSoundLiterals}
use Rattle.si_defs.specs.declared.Relation.{Relation}
use Rattle.si_defs.specs.Tokens.{Token, lower, AreBlanks, Begins}
use Rattle.si_defs.specs.Grammar.{IsClause, IsFormula, IsLiteral, IsTerm, left_bracket}
use Rattle.si_defs.specs.Substitutions.{IsAmong}
use Rattle.si_defs.specs.Texts.{IsPattern, languages}
use Rattle.si_defs.proofs.TokenLaws.{begins_split}
use Rattle.si_state.specs.Samples.{AllowsSample}
use Rattle.si_steps.specs.declared.word.Word.{Word}
use Rattle.si_steps.specs.declared.word.Word.TheVariants.{Add, Load, Remove, Ask, Subsumers, Subsumed, Stats, Tree, Explain, Sample}
use Rattle.si_steps.specs.Words.{relation_text, command_text}
use Rattle.si_steps.specs.Commands.{Command, add, load, remove, query, subsumers, subsumed, stats, tree, explain, sample, numeral, command_word, IsCommand, IsQuery, AreOperands, Means, AddsForeign}
use Rattle.si_steps.proofs.WordLaws.{same_word}
use Rattle.si_lex.specs.declared.lexeme.Lexeme.{Lexeme}
use Rattle.si_lex.specs.declared.lexing.Lexing.{Lexing}
use Rattle.si_lex.specs.declared.lexing.TokensEnd.{TokensEnd}
use Rattle.si_lex.specs.declared.lexing.TokensEnd.TheVariants.{End}
use Rattle.si_lex.specs.Lexemes.{tokens_of}
use Rattle.si_lex.specs.Lexing.{IsLexing}
use Rattle.si_parse.specs.GrammarRules.{IsFileToken, IsNameToken}
use Rattle.si_parse.specs.Meaning.{literals_of}
use Rattle.si_parse.specs.Reading.{AreForeign, IsOfKind, IsWholePattern, ReadsAll, ReadsWhole}
use Rattle.si_parse.specs.declared.pattern.PatternKind.{PatternKind}
use Rattle.si_parse.specs.declared.pattern.PatternKind.TheVariants as kind
use Rattle.si_parse.specs.Parsing as reads
use Rattle.si_parse.specs.Parsing.{Anything}
use Rattle.si_parse.proofs.ParseWhole.{whole_means, whole_none}
use Rattle.si_parse.proofs.ReadingLaws.{foreign_front}
use Rattle.si_term.specs.declared.clause.Clause as program_clause
use Rattle.si_term.specs.declared.clause.Name as program_name
use Rattle.si_term.specs.declared.clause.Literal as program_literal
use Rattle.si_term.specs.declared.clause.Pattern as program_pattern
use Rattle.si_term.specs.Meaning.{name_of, clause_of, pattern_of}
use Rattle.si_session.specs.Commands.{IsPerformed, ReadsCommand, ReadsQuery, AddForeign, Commands, MeansAlone, kind_word}
use Rattle.si_session.specs.declared.command.Command as read
use Rattle.si_session.specs.declared.command.Command.TheVariants as command

-- ---- words
-- tokens of lower words report the words apart
same_text : (x y : Bytes) → lower x ≡ lower y → x ≡ y
same_text x y e = ap (λ (t : Token). t.text) e

-- the first of some tokens, and the others
abbrev head : List Token → Token
head [] = lower []
head (t ∷ ts) = t

abbrev others : List Token → List Token
others [] = []
others (t ∷ ts) = ts

some_tokens : (t : Token) (ts : List Token) → t ∷ ts ≡ [] → ⊥
some_tokens t ts e = cc

-- the words of other languages begin with another letter than `cnf`
abbrev first_byte : Bytes → ℕ
first_byte [] = 0
first_byte (c ∷ cs) = c

f_is_not_c : (n : ℕ) → 102 ≡ n → n ≡ 99 → ⊥
f_is_not_c n e h = absurd (omega arith)

t_is_not_c : (n : ℕ) → 116 ≡ n → n ≡ 99 → ⊥
t_is_not_c n e h = absurd (omega arith)

language_byte : (word : Bytes) → IsAmong languages word → first_byte word ≡ 99 → ⊥
language_byte word (inl e) h = f_is_not_c (first_byte word) (ap first_byte e) h
language_byte word (inr (inl e)) h = t_is_not_c (first_byte word) (ap first_byte e) h
language_byte word (inr (inr (inl e))) h = t_is_not_c (first_byte word) (ap first_byte e) h
language_byte word (inr (inr (inr (inl e)))) h = t_is_not_c (first_byte word) (ap first_byte e) h
language_byte word (inr (inr (inr (inr (inl e))))) h = t_is_not_c (first_byte word) (ap first_byte e) h
language_byte word (inr (inr (inr (inr (inr e))))) h = e

-- tokens that begin with the word of a clause are no formula of another language
cnf_not_foreign : (ts us : List Token) → ts ≡ lower (codes "cnf") ∷ us → AreForeign ts → ⊥
cnf_not_foreign [] us e f = f
cnf_not_foreign (t ∷ []) us e f = f
cnf_not_foreign (t ∷ v ∷ vs) us e f = language_byte t.text f.0.1 (ap (λ (ws : List Token). first_byte (head ws).text) e)

clause_not_foreign : (c : Clause) (ts : List Token) → IsClause c ts → AreForeign ts → ⊥
clause_not_foreign c ts h f = cnf_not_foreign ts _ h.6 f

-- ---- the word of a command
-- a command is its word and its operands
command_is : (c : Command) (t : Token) (ts : List Token) → IsCommand c (t ∷ ts) → (t ≡ lower (command_text (command_word c))) × AreOperands c ts
command_is c t ts h = (ap head h.whole, subst (AreOperands c) (sym (ap others h.whole)) h.spelled)

-- the word says which command it is
word_is : (c : Command) (w : Word) (ts : List Token) → IsCommand c (lower (command_text w) ∷ ts) → w ≡ command_word c
word_is c w ts h = same_word w (command_word c) (same_text (command_text w) (command_text (command_word c)) (command_is c (lower (command_text w)) ts h).0)

-- what stands after a word, one row a word
abbrev OperandsOf : Word → Type 0
OperandsOf Add = Clause
OperandsOf Load = Bytes
OperandsOf Remove = Name
OperandsOf (Ask relation) = Pattern
OperandsOf Subsumers = List Literal
OperandsOf Subsumed = List Literal
OperandsOf Sample = ℕ × ℕ
OperandsOf Explain = Relation × Pattern
OperandsOf w = Unit {0}

abbrev AreSpelled : (w : Word) → OperandsOf w → List Token → Type 0
AreSpelled Add c ts = IsClause c ts
AreSpelled Load file ts = IsFileToken file ts
AreSpelled Remove n ts = IsNameToken n ts
AreSpelled (Ask relation) p ts = IsQuery p ts
AreSpelled Subsumers formula ts = IsFormula formula ts
AreSpelled Subsumed formula ts = IsFormula formula ts
AreSpelled Stats none ts = ts ≡ []
AreSpelled Tree none ts = ts ≡ []
AreSpelled Explain asked ts = (us : List Token) × IsQuery asked.1 us × (ts ≡ lower (relation_text asked.0) ∷ us)
AreSpelled Sample numbers ts = AllowsSample numbers.0 numbers.1 × (ts ≡ numeral numbers.0 ∷ numeral numbers.1 ∷ [])

own : (c : Command) (ts : List Token) → AreOperands c ts → (o : OperandsOf (command_word c)) × AreSpelled (command_word c) o ts
own (add c) ts h = (c, h)
own (load file) ts h = (file, h)
own (remove n) ts h = (n, h)
own (query r p) ts h = (p, h)
own (subsumers formula) ts h = (formula, h)
own (subsumed formula) ts h = (formula, h)
own stats ts h = (tt, h)
own tree ts h = (tt, h)
own (explain r p) ts h = ((r, p), h)
own (sample start count) ts h = ((start, count), h)

-- what stands after the word in any command that begins with it
only : (w : Word) (c : Command) (ts : List Token) → IsCommand c (lower (command_text w) ∷ ts) → (o : OperandsOf w) × AreSpelled w o ts
only w c ts h =
    subst (λ v. (o : OperandsOf v) × AreSpelled v o ts) (sym (word_is c w ts h)) (own c ts (command_is c (lower (command_text w)) ts h).1)

-- another word than `add`
other_than_add : (w : Word) (ts : List Token) → (w ≡ Add → ⊥) → AddForeign (lower (command_text w) ∷ ts) → ⊥
other_than_add w ts n f = n (same_word w Add (same_text (command_text w) (command_text Add) f.0))

-- tokens after another word than `add` that are no command
other_wrong : (w : Word) (ts : List Token) → (w ≡ Add → ⊥) → ((c : Command) → IsCommand c (lower (command_text w) ∷ ts) → ⊥) → Commands (lower (command_text w) ∷ ts) End command.Wrong
other_wrong w ts other none = (
  other_than_add w ts other,
  λ e s. some_tokens (lower (command_text w)) ts s,
  λ e. none,
)

-- no word of a command
pub no_word : (t : Token) (ts : List Token) (why : TokensEnd) → ((w : Word) → t ≡ lower (command_text w) → ⊥) → Commands (t ∷ ts) why command.Wrong
no_word t ts why n = (
  λ f. n Add f.0,
  λ e s. some_tokens t ts s,
  λ e c h. n (command_word c) (command_is c t ts h).0,
)

-- ---- `add`
-- where no clause was read of all the tokens
pub add_wrong : (tokens : List Lexeme) (found : Option (program_clause.Clause × Bor (List Lexeme))) → reads.Reads clause_of IsClause Anything tokens found
    → (AreForeign (tokens_of tokens) → ⊥) → ((x : program_clause.Clause) (r : Bor (List Lexeme)) → found ≡ Some (x, r) → r.now ≡ [] → ⊥)
    → Commands (lower (command_text Add) ∷ tokens_of tokens) End command.Wrong
add_wrong tokens found p own left = (
  λ f. own f.1,
  λ e s. some_tokens (lower (command_text Add)) (tokens_of tokens) s,
  λ e c h. let d = only Add c (tokens_of tokens) h in whole_none clause_of tokens tt found p left d.0 d.1,
)

-- where one was, no formula of another language stands
pub found_not_foreign : (tokens : List Lexeme) (x : program_clause.Clause) (r : Bor (List Lexeme)) → reads.Reads clause_of IsClause Anything tokens (Some (x, r)) → AreForeign (tokens_of tokens) → ⊥
found_not_foreign tokens x r p f =
    let u = p.found (clause_of x) (tokens_of r.now) refl in
    let s = u.2 in
    cnf_not_foreign (tokens_of tokens) _ (u.1 ∙ ap (λ ts. ts ++ tokens_of r.now) s.6) f

pub add_read : (tokens : List Lexeme) (x : program_clause.Clause) (r : Bor (List Lexeme)) → r.now ≡ [] → reads.Reads clause_of IsClause Anything tokens (Some (x, r))
    → IsSoundClause (clause_of x) → Commands (lower (command_text Add) ∷ tokens_of tokens) End (command.Add x)
add_read tokens x r none p sound =
    (refl, record { operands = tokens_of tokens; spelled = whole_means clause_of tokens tt x r none p; whole = refl }, sound)

-- a formula of another language, whatever stands after it
pub add_foreign : (ts : List Token) (why : TokensEnd) → AreForeign ts → Commands (lower (command_text Add) ∷ ts) why command.Foreign
add_foreign ts why f = ((refl, f), λ c h. let d = only Add c ts h in clause_not_foreign d.0 ts d.1 f)

-- ---- `remove`
-- where no name was read of all the tokens
pub remove_wrong : (tokens : List Lexeme) (found : Option (program_name.Name × Bor (List Lexeme))) → reads.Reads name_of IsNameToken Anything tokens found
    → ((x : program_name.Name) (r : Bor (List Lexeme)) → found ≡ Some (x, r) → r.now ≡ [] → ⊥)
    → Commands (lower (command_text Remove) ∷ tokens_of tokens) End command.Wrong
remove_wrong tokens found p left =
    other_wrong Remove (tokens_of tokens) (λ e. cc)
    (λ c h. let n = only Remove c (tokens_of tokens) h in whole_none name_of tokens tt found p left n.0 n.1)

pub remove_read : (tokens : List Lexeme) (x : program_name.Name) (r : Bor (List Lexeme)) → r.now ≡ []
    → reads.Reads name_of IsNameToken Anything tokens (Some (x, r)) → Commands (lower (command_text Remove) ∷ tokens_of tokens) End (command.Remove x)
remove_read tokens x r none p =
    (refl, record { operands = tokens_of tokens; spelled = whole_means name_of tokens tt x r none p; whole = refl })

-- ---- `load`
-- no file's name stands after the word
pub load_wrong : (ts : List Token) → ((file : Bytes) → IsFileToken file ts → ⊥) → Commands (lower (command_text Load) ∷ ts) End command.Wrong
load_wrong ts none = other_wrong Load ts (λ e. cc) (λ c h. let f = only Load c ts h in none f.0 f.1)

pub load_read : (ts : List Token) (file : Bytes) → IsFileToken file ts → Commands (lower (command_text Load) ∷ ts) End (command.Load file)
load_read ts file h = (refl, record { operands = ts; spelled = h; whole = refl })

-- ---- words that stand alone
module _ (w : Word) (read_as : read.Command) (ts : List Token) (alone : MeansAlone w read_as) where
  -- something stands after the word
  pub alone_wrong : (ts ≡ [] → ⊥) → Commands (lower (command_text w) ∷ ts) End command.Wrong
  alone_wrong some =
      elim alone [
        | inl is ↦
            subst (λ v. Commands (lower (command_text v) ∷ ts) End command.Wrong) (sym is.0)
            (other_wrong Stats ts (λ e. cc) (λ c h. some (only Stats c ts h).1))
        | inr is ↦
            subst (λ v. Commands (lower (command_text v) ∷ ts) End command.Wrong) (sym is.0)
            (other_wrong Tree ts (λ e. cc) (λ c h. some (only Tree c ts h).1))
      ]

  pub alone_read : ts ≡ [] → Commands (lower (command_text w) ∷ ts) End read_as
  alone_read none =
      elim alone [
        | inl is ↦
            subst (λ v. Commands (lower (command_text v) ∷ ts) End read_as) (sym is.0)
            (subst (Commands (lower (command_text Stats) ∷ ts) End) (sym is.1) (refl, record { operands = ts; spelled = none; whole = refl }))
        | inr is ↦
            subst (λ v. Commands (lower (command_text v) ∷ ts) End read_as) (sym is.0)
            (subst (Commands (lower (command_text Tree) ∷ ts) End) (sym is.1) (refl, record { operands = ts; spelled = none; whole = refl }))
      ]

-- ---- `sample`
-- no start and count stand after the word
pub sample_wrong : (ts : List Token) → ((start count : ℕ) → AllowsSample start count → ts ≡ numeral start ∷ numeral count ∷ [] → ⊥)
    → Commands (lower (command_text Sample) ∷ ts) End command.Wrong
sample_wrong ts none =
    other_wrong Sample ts (λ e. cc) (λ c h. let numbers = only Sample c ts h in none numbers.0.0 numbers.0.1 numbers.1.0 numbers.1.1)

-- the count is 0
pub sample_none : (whole : List Token) (t u : Token) (ts : List Token) (n : ℕ) → whole ≡ t ∷ u ∷ ts → u ≡ numeral n → n ≤ 0
    → Commands (lower (command_text Sample) ∷ whole) End command.Wrong
sample_none whole t u ts n front word none =
    sample_wrong whole
    (λ start count drawable is.
    let same : numeral n ≡ numeral count = sym word ∙ ap (λ l. head (others l)) (sym front ∙ is) in
    let zero : n ≡ count = decimal_injective n count (omega (arith, none)) (omega (arith, drawable.count_fits)) (ap (λ (k : Token). k.text) same) in
    absurd (omega (arith, zero, none, drawable.some)))

pub sample_read : (ts : List Token) (start count : ℕ) → AllowsSample start count → ts ≡ numeral start ∷ numeral count ∷ []
    → Commands (lower (command_text Sample) ∷ ts) End (command.Sample start count)
sample_read ts start count drawable is = (refl, record { operands = ts; spelled = (drawable, is); whole = refl }, drawable)

-- ---- queries
-- a query is the word of its kind, and the pattern
pub record Asks (p : Pattern) (t : Token) (ts : List Token) : Type 0 where
  pub kind : PatternKind
  pub word : t ≡ lower (kind_word kind)
  pub of_kind : IsOfKind kind p
  pub spelled : IsPattern p ts

asks : (p : Pattern) (t : Token) (ts : List Token) → IsQuery p (t ∷ ts) → Asks p t ts
asks (literal_pattern l) t ts h = record { kind = kind.Lit; word = ap head h.2; of_kind = tt; spelled = subst (IsLiteral l) (sym (ap others h.2)) h.1 }
asks (term_pattern u) t ts h = record { kind = kind.Term; word = ap head h.2; of_kind = tt; spelled = subst (IsTerm u) (sym (ap others h.2)) h.1 }

asks_query : (k : PatternKind) (p : Pattern) (t : Token) (ts : List Token) → t ≡ lower (kind_word k) → IsOfKind k p → IsPattern p ts → IsQuery p (t ∷ ts)
asks_query kind.Lit (literal_pattern l) t ts e o h = (ts, h, ap (λ x. x ∷ ts) e)
asks_query kind.Term (term_pattern u) t ts e o h = (ts, h, ap (λ x. x ∷ ts) e)
asks_query kind.Lit (term_pattern u) t ts e o h = absurd o
asks_query kind.Term (literal_pattern l) t ts e o h = absurd o

-- one word is the word of one kind
kinds_differ : lower (kind_word kind.Lit) ≡ lower (kind_word kind.Term) → ⊥
kinds_differ e = apart (first_byte (kind_word kind.Term)) (ap (λ (t : Token). first_byte t.text) e) refl where
  apart : (n : ℕ) → 108 ≡ n → n ≡ 116 → ⊥
  apart n f h = absurd (omega arith)

same_kind : (k j : PatternKind) (t : Token) → t ≡ lower (kind_word k) → t ≡ lower (kind_word j) → k ≡ j
same_kind kind.Lit kind.Lit t e f = refl
same_kind kind.Term kind.Term t e f = refl
same_kind kind.Lit kind.Term t e f = absurd (kinds_differ (sym e ∙ f))
same_kind kind.Term kind.Lit t e f = absurd (kinds_differ (sym f ∙ e))

nothing_asked : (p : Pattern) → IsQuery p [] → ⊥
nothing_asked (literal_pattern l) h = let e = h.2 in cc
nothing_asked (term_pattern t) h = let e = h.2 in cc

-- nothing stands there
pub query_empty : (ts : List Token) → ts ≡ [] → ReadsQuery ts None
query_empty ts none p q = nothing_asked p (subst (IsQuery p) none q)

-- another word than that of a kind does
pub query_other : (whole : List Token) (t : Token) (ts : List Token) → whole ≡ t ∷ ts → ((k : PatternKind) → t ≡ lower (kind_word k) → ⊥) → ReadsQuery whole None
query_other whole t ts front other p q = let a = asks p t ts (subst (IsQuery p) front q) in other a.kind a.word

-- the rest is what is read of the pattern's tokens
pub query_rest : (whole : List Token) (t : Token) (ts : List Token) (k : PatternKind) (read : Option program_pattern.Pattern) → whole ≡ t ∷ ts → t ≡ lower (kind_word k)
    → ReadsWhole ts k read → ReadsQuery whole read
query_rest whole t ts k None front word none = λ p q.
    let a = asks p t ts (subst (IsQuery p) front q) in
    none p (subst (λ j. IsOfKind j p) (same_kind a.kind k t a.word word) a.of_kind) a.spelled
query_rest whole t ts k (Some p) front word read =
    (subst (IsQuery (pattern_of p)) (sym front) (asks_query k (pattern_of p) t ts word read.of_kind read.spelled), read.sound)

-- the tokens of a query to be explained
pub explains_query : (whole ts : List Token) (r : Relation) (k : PatternKind) (p : Pattern) → whole ≡ lower (command_text Explain) ∷ lower (relation_text r) ∷ lower (kind_word k) ∷ ts
    → IsWholePattern ts k p → IsCommand (explain r p) whole
explains_query whole ts r k p e read = record {
  operands = lower (relation_text r) ∷ lower (kind_word k) ∷ ts;
  spelled = (lower (kind_word k) ∷ ts, asks_query k p (lower (kind_word k)) ts refl read.of_kind read.spelled, refl);
  whole = e;
}

pub query_wrong : (r : Relation) (ts : List Token) → ReadsQuery ts None → Commands (lower (command_text (Ask r)) ∷ ts) End command.Wrong
query_wrong r ts none = other_wrong (Ask r) ts (λ e. cc) (λ c h. let q = only (Ask r) c ts h in none q.0 q.1)

pub query_read : (r : Relation) (ts : List Token) (p : program_pattern.Pattern) → ReadsQuery ts (Some p) → Commands (lower (command_text (Ask r)) ∷ ts) End (command.Query r p)
query_read r ts p h = (refl, record { operands = ts; spelled = h.0; whole = refl }, h.1)

-- ---- `explain`
-- no word of a relation stands after the word
pub explain_empty : (ts : List Token) → ts ≡ [] → Commands (lower (command_text Explain) ∷ ts) End command.Wrong
explain_empty ts none =
    other_wrong Explain ts (λ e. cc) (λ c h. let x = only Explain c ts h in some_tokens (lower (relation_text x.0.0)) x.1.0 (sym x.1.2 ∙ none))

pub explain_other : (whole : List Token) (t : Token) (ts : List Token) → whole ≡ t ∷ ts → ((r : Relation) → t ≡ lower (relation_text r) → ⊥)
    → Commands (lower (command_text Explain) ∷ whole) End command.Wrong
explain_other whole t ts front other =
    other_wrong Explain whole (λ e. cc) (λ c h. let x = only Explain c whole h in other x.0.0 (ap head (sym front ∙ x.1.2)))

-- or no query after that
pub explain_wrong : (whole : List Token) (t : Token) (ts : List Token) → whole ≡ t ∷ ts → ReadsQuery ts None → Commands (lower (command_text Explain) ∷ whole) End command.Wrong
explain_wrong whole t ts front none =
    other_wrong Explain whole (λ e. cc)
    (λ c h. let x = only Explain c whole h in none x.0.1 (subst (IsQuery x.0.1) (ap others (sym x.1.2 ∙ front)) x.1.1))

pub explain_read : (whole : List Token) (t : Token) (ts : List Token) (r : Relation) (p : program_pattern.Pattern) → whole ≡ t ∷ ts → t ≡ lower (relation_text r) → ReadsQuery ts (Some p)
    → Commands (lower (command_text Explain) ∷ whole) End (command.Explain r p)
explain_read whole t ts r p front word h =
    (refl, record { operands = whole; spelled = (ts, h.0, front ∙ ap (λ u. u ∷ ts) word); whole = refl }, h.1)

-- ---- formulas
module _ (ts : List Token) where
  -- what is read of the tokens after a word
  abbrev Whole : Option (List program_literal.Literal) → Type 0
  Whole = ReadsAll literals_of IsFormula ts

  pub subsumers_wrong : Whole None → Commands (lower (command_text Subsumers) ∷ ts) End command.Wrong
  subsumers_wrong none = other_wrong Subsumers ts (λ e. cc) (λ c h. let f = only Subsumers c ts h in none f.0 f.1)

  pub subsumers_read : (ls : List program_literal.Literal) → Whole (Some ls) → AreSoundLiterals (literals_of ls) → Commands (lower (command_text Subsumers) ∷ ts) End (command.Subsumers ls)
  subsumers_read ls h sound = (refl, record { operands = ts; spelled = h.0; whole = refl }, sound)

  pub subsumed_wrong : Whole None → Commands (lower (command_text Subsumed) ∷ ts) End command.Wrong
  subsumed_wrong none = other_wrong Subsumed ts (λ e. cc) (λ c h. let f = only Subsumed c ts h in none f.0 f.1)

  pub subsumed_read : (ls : List program_literal.Literal) → Whole (Some ls) → AreSoundLiterals (literals_of ls) → Commands (lower (command_text Subsumed) ∷ ts) End (command.Subsumed ls)
  subsumed_read ls h sound = (refl, record { operands = ts; spelled = h.0; whole = refl }, sound)

-- ---- where something else than blanks stands after the tokens
-- they are no command, whatever they are
pub unended_wrong : (ts : List Token) (why : TokensEnd) → (AddForeign ts → ⊥) → (why ≡ End → ⊥) → Commands ts why command.Wrong
unended_wrong ts why own more = (own, λ e s. more e, λ e c h. more e)

-- ---- lines
module _ (line : Bytes) (x : Lexing) (l : IsLexing line 0 x) where
  abbrev these : List Token
  these = tokens_of x.tokens.items

  pub blank_tokens : AreBlanks line → (x.why ≡ End) × (these ≡ [])
  blank_tokens b = l.whole [] (record { rest = line; begins = refl; blanks = b }) (omega arith)

  blank_line : x.why ≡ End → these ≡ [] → AreBlanks line
  blank_line e none =
      let g : Begins line [] l.rest = subst (λ ts. Begins line ts l.rest) none l.read.begins in
      subst AreBlanks (sym g) (l.read.blanks e)

  foreign_tokens : AddsForeign line → AddForeign these
  foreign_tokens f =
      let k = l.every (lower (command_text Add) ∷ lower f.0 ∷ left_bracket ∷ []) f.1 f.3 (omega arith) in
      subst AddForeign (sym k.1) (refl, ((refl, f.2), refl))

  foreign_line : AddForeign these → AddsForeign line
  foreign_line f = by these f l.read.begins where
    by : (ts : List Token) → AddForeign ts → Begins line ts l.rest → AddsForeign line
    by [] f g = absurd f
    by (t ∷ ts) f g =
        let w = foreign_front ts f.1 in
        let front : t ∷ ts ≡ (lower (command_text Add) ∷ lower w.0 ∷ left_bracket ∷ []) ++ w.1 = ap₂ (λ x xs. x ∷ xs) f.0 w.3 in
        let s = begins_split (lower (command_text Add) ∷ lower w.0 ∷ left_bracket ∷ []) w.1 line l.rest (subst (λ ts. Begins line ts l.rest) front g) in
        (w.0, s.0, w.2, s.1)

  tokens_mean : (c : Command) → x.why ≡ End → IsCommand c these → Means c line
  tokens_mean c e h =
      record { tokens = these; consists = record { rest = l.rest; begins = l.read.begins; blanks = l.read.blanks e }; spelled = h; nested = l.read.nested }

  line_means : (c : Command) → Means c line → (x.why ≡ End) × IsCommand c these
  line_means c m = let k = l.whole m.tokens m.consists m.nested in (k.0, subst (IsCommand c) (sym k.1) m.spelled)

  -- tokens that are a command
  command_some : (c : Command) → IsCommand c these → these ≡ [] → ⊥
  command_some c h none = some_tokens (lower (command_text (command_word c))) h.operands (sym h.whole ∙ none)

  -- tokens that add a formula of another language
  foreign_some : AddForeign these → these ≡ [] → ⊥
  foreign_some f none = let g : AddForeign [] = subst AddForeign none f in g

  -- the line of a command that isn't read into a value of its own
  pub line_performs : (c : Command) → x.why ≡ End → IsCommand c these → IsPerformed c line
  line_performs c e h = (λ b. command_some c h (blank_tokens b).1, tokens_mean c e h)

  -- what its tokens are, the line is
  pub line_read : (c : read.Command) → Commands these x.why c → ReadsCommand line c
  line_read command.Blank h = blank_line h.0 h.1
  line_read command.Foreign h = (
    λ b. foreign_some h.0 (blank_tokens b).1,
    foreign_line h.0,
    λ c m. h.1 c (line_means c m).1,
  )
  line_read command.Wrong h = record {
    some = λ b. let k = blank_tokens b in h.1 k.0 k.1;
    own = λ f. h.0 (foreign_tokens f);
    none = λ c m. let k = line_means c m in h.2 k.0 c k.1;
  }
  line_read (command.Add a) h = (
    (
      λ b. command_some (add (clause_of a)) h.1 (blank_tokens b).1,
      tokens_mean (add (clause_of a)) h.0 h.1,
    ),
    h.2,
  )
  line_read (command.Remove n) h = (
    λ b. command_some (remove (name_of n)) h.1 (blank_tokens b).1,
    tokens_mean (remove (name_of n)) h.0 h.1,
  )
  line_read (command.Load file) h = (
    λ b. command_some (load file) h.1 (blank_tokens b).1,
    tokens_mean (load file) h.0 h.1,
  )
  line_read command.Tree h = (
    λ b. command_some tree h.1 (blank_tokens b).1,
    tokens_mean tree h.0 h.1,
  )
  line_read (command.Explain r p) h = (
    (
      λ b. command_some (explain r (pattern_of p)) h.1 (blank_tokens b).1,
      tokens_mean (explain r (pattern_of p)) h.0 h.1,
    ),
    h.2,
  )
  line_read command.Stats h = (
    λ b. command_some stats h.1 (blank_tokens b).1,
    tokens_mean stats h.0 h.1,
  )
  line_read (command.Sample start count) h = (
    (
      λ b. command_some (sample start count) h.1 (blank_tokens b).1,
      tokens_mean (sample start count) h.0 h.1,
    ),
    h.2,
  )
  line_read (command.Query r p) h = (
    (
      λ b. command_some (query r (pattern_of p)) h.1 (blank_tokens b).1,
      tokens_mean (query r (pattern_of p)) h.0 h.1,
    ),
    h.2,
  )
  line_read (command.Subsumers ls) h = (
    (
      λ b. command_some (subsumers (literals_of ls)) h.1 (blank_tokens b).1,
      tokens_mean (subsumers (literals_of ls)) h.0 h.1,
    ),
    h.2,
  )
  line_read (command.Subsumed ls) h = (
    (
      λ b. command_some (subsumed (literals_of ls)) h.1 (blank_tokens b).1,
      tokens_mean (subsumed (literals_of ls)) h.0 h.1,
    ),
    h.2,
  )
