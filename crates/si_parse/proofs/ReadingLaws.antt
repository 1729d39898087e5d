-- From tokens to the bytes that they stand in: what was read of the tokens is what the bytes mean.
use Rattle.std.proofs.Common.{◌≡◌, ℕ, ◌+◌, ◌≤◌, List, [], ◌∷◌, ◌++◌, length, drop, Option, Some, None, refl, ap, sym, ◌∙◌, subst, arith, append-nil}
use Rattle.std.proofs.lemmas.List.{length-map, length-append, length-drop}
use Rattle.std.specs.List.{concat}
use Rattle.si_defs.specs.Bytes.{Bytes}
use Rattle.si_defs.specs.Clauses.{Clause}
use Rattle.si_defs.specs.Tokens.{Token, Spells, NextToken, AreBlanks, Begins, lower}
use Rattle.si_defs.specs.Grammar.{Selection, Item, clause_item, include_item, IsClause, IsItem, left_bracket}
use Rattle.si_defs.specs.Substitutions.{IsAmong}
use Rattle.si_defs.specs.Texts.{BeginsWithItem, IsForeign, IsText, languages}
use Rattle.si_defs.specs.declared.TokenKind.{TokenKind}
use Rattle.si_defs.specs.declared.TokenKind.TheVariants.{Lower, Upper, Dollar, Int, Single, Double, NotEqual, Mark}
use Rattle.si_defs.proofs.ListLaws.{same_first}
use Rattle.si_defs.proofs.TokenLaws.{begins_split}
use Rattle.si_lex.specs.Lexemes.{token_of, tokens_of}
use Rattle.si_lex.specs.Lexing.{IsLexing, AreItemTokens}
use Rattle.si_lex.specs.FullStops.{HasNoFullStop, EndsAtFullStop}
use Rattle.si_lex.specs.declared.lexeme.Lexeme.{Lexeme}
use Rattle.si_lex.specs.declared.lexing.Lexing.{Lexing}
use Rattle.si_lex.specs.declared.lexing.TokensEnd.{TokensEnd}
use Rattle.si_lex.specs.declared.lexing.TokensEnd.TheVariants.{End, Bad, FullStop}
use Rattle.si_lex.proofs.LexingLaws.{first_place}
use Rattle.si_lex.proofs.TokenLaws.{begins_unique, blanks_none}
use Rattle.si_parse.specs.Parsing.{ReadsTokens, Anything}
use Rattle.si_parse.specs.GrammarRules.{IsInclude}
use Rattle.si_parse.specs.Reading.{IsItemRead, IsFault, IsFaultAt, IsNoItem, IsRead, AreForeign, ReadsAll, ReadsText}
use Rattle.si_parse.specs.declared.item.Read.{Read}
use Rattle.si_parse.specs.declared.item.Read.TheVariants as read
use Rattle.si_parse.proofs.ParseSteps.{parses_uses, parses_one, parses_never}
use Rattle.si_parse.proofs.GrammarStops.{item_stops, ends_goes, ends_all, ends_never}

-- ---- lengths
-- a spelling is not empty
spelled_some : (kind : TokenKind) (text s : Bytes) → Spells kind text s → 1 ≤ length s
spelled_some kind text (c ∷ cs) h = omega arith
spelled_some Lower [] [] h = cc
spelled_some Lower (c ∷ cs) [] h = cc
spelled_some Upper [] [] h = cc
spelled_some Upper (c ∷ cs) [] h = cc
spelled_some Dollar [] [] h = cc
spelled_some Dollar (c ∷ cs) [] h = cc
spelled_some Int [] [] h = cc
spelled_some Int (c ∷ cs) [] h = cc
spelled_some Single text [] h = cc
spelled_some Double text [] h = cc
spelled_some NotEqual text [] h = let e : [] ≡ Rattle.std.specs.Prelude.codes "!=" = h.0 ∙ h.1 in cc
spelled_some Mark text [] h = let e : [] ≡ h.1.0 ∷ [] = h.0 ∙ h.1.1 in cc

next_shorter : (a b : Bytes) (t : Token) → NextToken a t b → 1 + length b ≤ length a
next_shorter a b t n =
    let some = spelled_some t.kind t.text n.stands.spelling n.stands.spelled in
    let whole : length a ≡ length (concat n.skips.blanks) + length n.place = ap length n.skips.whole ∙ length-append (concat n.skips.blanks) n.place in
    let front : length n.place ≡ length n.stands.spelling + length b = ap length n.stands.front ∙ length-append n.stands.spelling b in
    omega arith

-- each token takes a byte
begins_shorter : (ts : List Token) (a b : Bytes) → Begins a ts b → length ts + length b ≤ length a
begins_shorter [] a b g = omega (arith, ap length g)
begins_shorter (t ∷ ts) a b g = omega (arith, next_shorter a g.0 t g.1, begins_shorter ts g.0 b g.2)

-- so there are no more tokens than bytes
tokens_few : (bytes : Bytes) (at : ℕ) (tokens : List Lexeme) (rest : Bytes) → Begins (drop at bytes) (tokens_of tokens) rest → length tokens ≤ length bytes
tokens_few bytes at tokens rest g = omega (arith, begins_shorter (tokens_of tokens) (drop at bytes) rest g, length-map tokens token_of, length-drop at bytes)

pub item_few : (bytes : Bytes) (at : ℕ) (tokens : List Lexeme) (start end : ℕ) (why : TokensEnd) → AreItemTokens bytes at tokens start end why → length tokens ≤ length bytes
item_few bytes at tokens start end why h = tokens_few bytes at tokens h.rest h.read.begins

pub text_few : (bytes : Bytes) (l : Lexing) → IsLexing bytes 0 l → length l.tokens.items ≤ length bytes
text_few bytes l h = tokens_few bytes 0 l.tokens.items h.rest h.read.begins

-- ---- fronts
-- the first two tokens of a formula of another language
pub foreign_front : (ts : List Token) → AreForeign ts → (word : Bytes) × (others : List Token) × IsAmong languages word × (ts ≡ lower word ∷ left_bracket ∷ others)
foreign_front [] f = absurd f
foreign_front (t ∷ []) f = absurd f
foreign_front (t ∷ u ∷ us) f = (t.text, us, f.0.1, λ i. record { kind = f.0.0 i; text = t.text } ∷ f.1 i ∷ us)

-- ---- items
module _ (bytes : Bytes) (at : ℕ) (tokens : List Lexeme) (start end : ℕ) (why : TokensEnd) (h : AreItemTokens bytes at tokens start end why) where
  -- the tokens of an item that stands in front are all that were read, and they end at its full
  -- stop
  whole_item : (item : Item) (used others : List Token) → tokens_of tokens ≡ used ++ others → IsItem item used → (others ≡ []) × (why ≡ FullStop)
  whole_item item used others e is = by why refl where
    ends : EndsAtFullStop 0 used
    ends = item_stops item used is

    other : (why ≡ FullStop → ⊥) → ⊥
    other f = ends_never 0 used others ends (subst (HasNoFullStop 0) e (h.no_stop f))

    by : (s : TokensEnd) → why ≡ s → (others ≡ []) × (why ≡ FullStop)
    by FullStop f = (ends_all 0 used others ends (subst (EndsAtFullStop 0) e (h.stop f).0), f)
    by End f = absurd (other (λ g. let k : End ≡ FullStop = sym f ∙ g in cc))
    by Bad f = absurd (other (λ g. let k : Bad ≡ FullStop = sym f ∙ g in cc))

  -- every item that the bytes begin with is spelled by all the tokens, and what stands after it
  -- was not read
  item_all : (item : Item) (rest : Bytes) → BeginsWithItem (drop at bytes) item rest → IsItem item (tokens_of tokens) × (rest ≡ drop end bytes)
  item_all item rest b =
      let k = h.every b.tokens rest b.begins b.nested (ends_goes 0 b.tokens (item_stops item b.tokens b.spelled)) in
      let w = whole_item item b.tokens k.0 k.1 b.spelled in
      let same : tokens_of tokens ≡ b.tokens = k.1 ∙ ap (λ x. b.tokens ++ x) w.0 ∙ append-nil b.tokens in (
        subst (IsItem item) (sym same) b.spelled,
        begins_unique b.tokens (drop at bytes) rest (drop end bytes) b.begins (subst (λ ts. Begins (drop at bytes) ts (drop end bytes)) same (subst (Begins (drop at bytes) (tokens_of tokens)) (h.stop w.1).1 h.read.begins)),
      )

  -- what all the tokens spell is the item that the bytes begin with, if they spell no other
  pub item_read : (item : Item) (used others : List Token) → tokens_of tokens ≡ used ++ others → IsItem item used → ((other : Item) → IsItem other (tokens_of tokens) → other ≡ item)
      → IsItemRead bytes at item end
  item_read item used others e is unique =
      let w = whole_item item used others e is in
      let same : tokens_of tokens ≡ used = e ∙ ap (λ x. used ++ x) w.0 ∙ append-nil used in
      let from = h.read.from in
      let onward = h.read.onward in
      record {
        from = omega arith;
        within = h.read.within;
        begins = record {
          tokens = tokens_of tokens;
          begins = subst (Begins (drop at bytes) (tokens_of tokens)) (h.stop w.1).1 h.read.begins;
          spelled = subst (IsItem item) (sym same) is;
          nested = h.read.nested;
        };
        only = λ other rest b. let k = item_all other rest b in (unique other k.0, k.1);
      }

  -- ---- faults
  -- are those of another language exactly where the bytes begin so
  foreign_begins : AreForeign (tokens_of tokens) → IsForeign (drop at bytes)
  foreign_begins f =
      let w = foreign_front (tokens_of tokens) f in
      let s = begins_split (lower w.0 ∷ left_bracket ∷ []) w.1 (drop at bytes) h.rest (subst (λ ts. Begins (drop at bytes) ts h.rest) w.3 h.read.begins) in
      (w.0, s.0, w.2, s.1)

  foreign_tokens : IsForeign (drop at bytes) → AreForeign (tokens_of tokens)
  foreign_tokens f =
      let k = h.every (lower f.0 ∷ left_bracket ∷ []) f.1 f.3 (omega arith) goes in
      subst AreForeign (sym k.1) ((refl, f.2), refl) where
        word_on : (word : Bytes) → lower word ≡ Rattle.si_defs.specs.Grammar.full_stop → ⊥
        word_on word e = cc (ap (λ (t : Token). t.kind) e)

        goes : Rattle.si_lex.specs.FullStops.GoesToFullStop 0 (lower f.0 ∷ left_bracket ∷ [])
        goes = (λ s. absurd (word_on f.0 s.1), (λ s. refl, tt))

  -- where no item was read of the tokens, no item begins
  module _ (no_clause : ReadsTokens IsClause Anything (tokens_of tokens) None) (no_include : ReadsTokens IsInclude Anything (tokens_of tokens) None) where
    none_begins : (item : Item) (rest : Bytes) → BeginsWithItem (drop at bytes) item rest → ⊥
    none_begins (clause_item c) rest b =
        let k = item_all (clause_item c) rest b in parses_never no_clause c (tokens_of tokens) [] (sym (append-nil (tokens_of tokens))) k.0 tt
    none_begins (include_item file s) rest b =
        let k = item_all (include_item file s) rest b in parses_never no_include (file, s) (tokens_of tokens) [] (sym (append-nil (tokens_of tokens))) k.0 tt

    -- and it is a fault, unless nothing but blanks stands there
    pub fault_read : (AreBlanks (drop at bytes) → ⊥) → (result : Read) → IsFaultAt (tokens_of tokens) start result → IsRead bytes at result
    fault_read more (read.Syntax other) f =
        subst (λ n. IsFault bytes at n × (IsForeign (drop at bytes) → ⊥)) (sym f.0) (fault, λ g. f.1 (foreign_tokens g)) where
          onward : start ≤ length bytes
          onward = let a = h.read.onward in let b = h.read.within in omega arith

          fault : IsFault bytes at start
          fault = record { from = h.read.from; within = onward; faulty = record { more = more; no_item = none_begins }; behind = first_place bytes at start h.read.first more }
    fault_read more (read.Language other) f =
        subst (λ n. IsFault bytes at n × IsForeign (drop at bytes)) (sym f.0) (fault, foreign_begins f.1) where
          onward : start ≤ length bytes
          onward = let a = h.read.onward in let b = h.read.within in omega arith

          fault : IsFault bytes at start
          fault = record { from = h.read.from; within = onward; faulty = record { more = more; no_item = none_begins }; behind = first_place bytes at start h.read.first more }
    fault_read more (read.Cnf c end) f = absurd f
    fault_read more (read.Include file s end) f = absurd f
    fault_read more read.End f = absurd f

  -- something stands there where a token does
  pub more_tokens : (tokens ≡ [] → ⊥) → AreBlanks (drop at bytes) → ⊥
  more_tokens some blanks = by tokens some h.read.begins where
    by : (ts : List Lexeme) → (ts ≡ [] → ⊥) → Begins (drop at bytes) (tokens_of ts) h.rest → ⊥
    by [] some g = some refl
    by (t ∷ ts) some g = blanks_none (drop at bytes) blanks (token_of t) g.0 g.1

  -- nothing but blanks where there are no tokens up to the end
  pub end_read : why ≡ End → tokens ≡ [] → AreBlanks (drop at bytes)
  end_read e none = subst AreBlanks (sym (subst (λ (ts : List Lexeme). Begins (drop at bytes) (tokens_of ts) h.rest) none h.read.begins)) (h.read.blanks e)

-- where no item was read
pub no_item_read : (bytes : Bytes) (at : ℕ) (tokens : List Lexeme) (start end : ℕ) (why : TokensEnd) (h : AreItemTokens bytes at tokens start end why) → ReadsTokens IsClause Anything (tokens_of tokens) None → ReadsTokens IsInclude Anything (tokens_of tokens) None
    → (result : Read) → IsNoItem (tokens_of tokens) start why result → IsRead bytes at result
no_item_read bytes at tokens start end why h p q result f = by tokens refl why refl f where
  fault : (AreBlanks (drop at bytes) → ⊥) → IsFaultAt (tokens_of tokens) start result → IsRead bytes at result
  fault more g = fault_read bytes at tokens start end why h p q more result g

  other : (s : TokensEnd) → why ≡ s → (s ≡ End → ⊥) → why ≡ End → ⊥
  other s e g k = g (sym e ∙ k)

  by : (ts : List Lexeme) → tokens ≡ ts → (s : TokensEnd) → why ≡ s → IsNoItem (tokens_of ts) start s result → IsRead bytes at result
  by [] e End k g = subst (IsRead bytes at) (sym g) (end_read bytes at tokens start end why h k e)
  by [] e Bad k g = fault (h.read.faulty (other Bad k (λ j. cc))) (subst (λ ts. IsFaultAt (tokens_of ts) start result) (sym e) g)
  by [] e FullStop k g = fault (h.read.faulty (other FullStop k (λ j. cc))) (subst (λ ts. IsFaultAt (tokens_of ts) start result) (sym e) g)
  by (t ∷ ts) e s k g = fault (more_tokens bytes at tokens start end why h (λ j. some (sym e ∙ j))) (subst (λ us. IsFaultAt (tokens_of us) start result) (sym e) g) where
    some : t ∷ ts ≡ [] → ⊥
    some j = cc

-- ---- clauses and includes
-- a clause is no include
clause_no_include : (c : Clause) (file : Bytes) (s : Selection) (ts : List Token) → IsItem (clause_item c) ts → IsItem (include_item file s) ts → ⊥
clause_no_include c file s ts (name, formula, extra, is_name, is_formula, is_extra, e) (names, selection, f) =
    let words : lower (Rattle.std.specs.Prelude.codes "cnf") ≡ lower (Rattle.std.specs.Prelude.codes "include") = same_first (sym e ∙ f) in
    let texts : Rattle.std.specs.Prelude.codes "cnf" ≡ Rattle.std.specs.Prelude.codes "include" = ap (λ (t : Token). t.text) words in
    absurd (omega (arith, ap length texts))

module _ (bytes : Bytes) (at : ℕ) (tokens : List Lexeme) (start end : ℕ) (why : TokensEnd) (h : AreItemTokens bytes at tokens start end why) where
  -- the clause that was read of the tokens is the item
  pub clause_read : (c : Clause) (rest : List Token) → ReadsTokens IsClause Anything (tokens_of tokens) (Some (c, rest)) → IsItemRead bytes at (clause_item c) end
  clause_read c rest p =
      let k = parses_uses c rest p in
      item_read bytes at tokens start end why h (clause_item c) k.0 rest k.1 k.2 (λ other is. unique other is) where
        unique : (other : Item) → IsItem other (tokens_of tokens) → other ≡ clause_item c
        unique (clause_item d) is = ap clause_item (sym (parses_one p d (tokens_of tokens) [] (sym (append-nil (tokens_of tokens))) is tt).0)
        unique (include_item file s) is =
            let k = parses_uses c rest p in
            let w = whole_item bytes at tokens start end why h (clause_item c) k.0 rest k.1 k.2 in
            absurd (clause_no_include c file s (tokens_of tokens) (subst (IsItem (clause_item c)) (sym (k.1 ∙ ap (λ x. k.0 ++ x) w.0 ∙ append-nil k.0)) k.2) is)

  -- and so is the include
  pub include_read : (i : Bytes × Selection) (rest : List Token) → ReadsTokens IsInclude Anything (tokens_of tokens) (Some (i, rest)) → IsItemRead bytes at (include_item i.0 i.1) end
  include_read i rest p =
      let k = parses_uses i rest p in
      item_read bytes at tokens start end why h (include_item i.0 i.1) k.0 rest k.1 k.2 (λ other is. unique other is) where
        unique : (other : Item) → IsItem other (tokens_of tokens) → other ≡ include_item i.0 i.1
        unique (include_item file s) is =
            let same = (parses_one p (file, s) (tokens_of tokens) [] (sym (append-nil (tokens_of tokens))) is tt).0 in
            λ j. include_item (sym same j).0 (sym same j).1
        unique (clause_item c) is =
            let k = parses_uses i rest p in
            let w = whole_item bytes at tokens start end why h (include_item i.0 i.1) k.0 rest k.1 k.2 in
            absurd (clause_no_include c i.0 i.1 (tokens_of tokens) is (subst (IsItem (include_item i.0 i.1)) (sym (k.1 ∙ ap (λ x. k.0 ++ x) w.0 ∙ append-nil k.0)) k.2))

-- ---- whole texts
module _ {X M : Type 0} (view : X → M) (Means : M → List Token → Type 0) (bytes : Bytes) (l : Lexing) (h : IsLexing bytes 0 l) where
  -- what the bytes are is spelled by all the tokens
  text_all : (m : M) → IsText (Means m) bytes → Means m (tokens_of l.tokens.items)
  text_all m t = subst (Means m) (sym (h.whole t.tokens t.consists t.nested).1) t.spelled

  -- and the other way round, where the tokens end with the bytes
  tokens_text : l.why ≡ End → (m : M) → Means m (tokens_of l.tokens.items) → IsText (Means m) bytes
  tokens_text e m spelled = record {
    tokens = tokens_of l.tokens.items;
    consists = record { rest = h.rest; begins = h.read.begins; blanks = h.read.blanks e };
    spelled = spelled;
    nested = h.read.nested;
  }

  pub text_read : l.why ≡ End → (result : Option X) → ReadsAll view Means (tokens_of l.tokens.items) result → ReadsText view Means bytes result
  text_read e (Some x) r = (tokens_text e (view x) r.0, λ other t. r.1 other (text_all other t))
  text_read e None r = λ m t. r m (text_all m t)

  -- where they do not, the bytes are nothing of the kind
  pub text_none : (l.why ≡ End → ⊥) → ReadsText view Means bytes None
  text_none e = λ m t. e (h.whole t.tokens t.consists t.nested).0
