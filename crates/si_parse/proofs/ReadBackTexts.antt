-- Printed names, file names and terms are read back: the grammar gives each the meaning that it was
-- printed from.
use Rattle.std.proofs.Common.{◌≡◌, ℕ, ◌≤◌, Bool, true, false, cond, not, ◌==◌, List, [], ◌∷◌, ◌++◌, codes, refl, ap, ap₂, sym, ◌∙◌, subst, inl, inr, arith, append_assoc}
use Rattle.std.specs.Prelude.{max}
use Rattle.std.proofs.lemmas.Bool.{false≢true, or_right, eqb-true}
use Rattle.std.proofs.lemmas.Bool.Decides.{nat_tests}
use Rattle.std.proofs.lemmas.List.{append-nil}
use Rattle.si_defs.specs.Bytes.{Bytes, is_digit, is_word_byte, is_lower_word}
use Rattle.si_defs.specs.Terms as terms
use Rattle.si_defs.specs.Symbols.{Symbol}
use Rattle.si_defs.specs.Substitutions.{IsAmong}
use Rattle.si_defs.specs.Clauses.{Term, Terms, Name, term_pattern}
use Rattle.si_defs.specs.Tokens.{Spells, Token, upper, mark, quoted, opens_comment, NextToken, Begins, Consists}
use Rattle.si_defs.specs.Grammar.{left_bracket, right_bracket, comma, IsWord, IsName, IsHead, IsConstant, IsTerm, AreMoreTerms, open_behind, nesting_from, nesting}
use Rattle.si_defs.specs.Texts.{IsNameText, IsFileText, IsPatternText}
use Rattle.si_defs.specs.Variables.{variable_text, pattern_term, entry_term, of_pattern, of_entry}
use Rattle.si_defs.specs.Printing.{word_text, symbol_text, symbol_text_of, name_text, name_text_of, file_text, term_text, more_texts}
use Rattle.si_defs.specs.declared.NameKind.{NameKind}
use Rattle.si_defs.specs.declared.NameKind.TheVariants as named
use Rattle.si_defs.specs.declared.SymKind.{SymKind}
use Rattle.si_defs.specs.declared.SymKind.TheVariants as symbol
use Rattle.si_defs.specs.declared.TokenKind.{TokenKind}
use Rattle.si_defs.specs.declared.TokenKind.TheVariants.{Lower, Upper, Dollar, Int, Single, Double, NotEqual, Mark}
use Rattle.si_defs.specs.declared.TheConstants.{DEEPEST_NESTING}
use Rattle.si_defs.proofs.ListLaws.{among_front, among_back}
use Rattle.si_defs.proofs.TokenLaws.{begins_append, skips_nothing}
use Rattle.si_lex.proofs.SpellingLaws.{leads, spelling_leads, spelling_some}
use Rattle.si_lex.proofs.ReadBackTokens.{starts, stops, next_where}

-- ---- tokens that are no marks
abbrev pub is_bare : TokenKind → Bool
is_bare NotEqual = false
is_bare Mark = false
is_bare kind = true

-- no word goes on: a bracket, a comma or the end stands there
abbrev pub EndsWord : Bytes → Type 0
EndsWord rest = not (starts is_word_byte rest) ≡ true

no_digit : (rest : Bytes) → EndsWord rest → not (starts is_digit rest) ≡ true
no_digit [] h = refl
no_digit (c ∷ cs) h = by (is_digit c) refl where
  by : (v : Bool) → is_digit c ≡ v → not v ≡ true
  by true e = absurd (grind (arith, nat_tests))
  by false e = refl

no_slash : (kind : TokenKind) (c : ℕ) → is_bare kind ≡ true → leads kind c ≡ true → (c == 47) ≡ false
no_slash Lower c b h = grind (arith, nat_tests)
no_slash Upper c b h = grind (arith, nat_tests)
no_slash Dollar c b h = rw (eqb-true c 36 h) refl
no_slash Int c b h = grind (arith, nat_tests)
no_slash Single c b h = rw (eqb-true c 39 h) refl
no_slash Double c b h = rw (eqb-true c 34 h) refl
no_slash NotEqual c b h = absurd (false≢true b)
no_slash Mark c b h = absurd (false≢true b)

bare_stops : (kind : TokenKind) (spelling rest : Bytes) → is_bare kind ≡ true → EndsWord rest → stops kind spelling rest ≡ true
bare_stops Lower spelling rest b h = h
bare_stops Upper spelling rest b h = h
bare_stops Dollar spelling rest b h = h
bare_stops Int [] rest b h = no_digit rest h
bare_stops Int (c ∷ []) rest b h = or_right (c == 48) (not (starts is_digit rest)) (no_digit rest h)
bare_stops Int (c ∷ d ∷ ds) rest b h = no_digit rest h
bare_stops Single spelling rest b h = refl
bare_stops Double spelling rest b h = refl
bare_stops NotEqual spelling rest b h = absurd (false≢true b)
bare_stops Mark spelling rest b h = absurd (false≢true b)

-- a word, an integer or a quoted text is the next token where no word goes on after it
pub bare_next : (t : Token) (spelling rest : Bytes) → is_bare t.kind ≡ true → Spells t.kind t.text spelling → EndsWord rest → NextToken (spelling ++ rest) t rest
bare_next t spelling rest b s h = next_where t.kind t.text spelling rest s (bare_stops t.kind spelling rest b h) (no_comment spelling s) where
  no_comment : (spelling : Bytes) → Spells t.kind t.text spelling → opens_comment (spelling ++ rest) ≡ false
  no_comment [] s = absurd (spelling_some t.kind t.text s)
  no_comment (c ∷ cs) s = rw (no_slash t.kind c b (spelling_leads t.kind t.text c cs s)) refl

-- ---- printable tokens
-- the token is bare, and this text spells it
abbrev Prints : Token → Bytes → Type 0
Prints t spelling = (is_bare t.kind ≡ true) × Spells t.kind t.text spelling

-- each token of a text is spelled somehow
abbrev pub IsSpelled : Token → Type 0
IsSpelled t = (spelling : Bytes) × Spells t.kind t.text spelling

abbrev pub AreSpelled : List Token → Type 0
AreSpelled [] = Unit {0}
AreSpelled (t ∷ ts) = IsSpelled t × AreSpelled ts

pub spelled_begins : (ts : List Token) (bytes rest : Bytes) → Begins bytes ts rest → AreSpelled ts
spelled_begins [] bytes rest b = tt
spelled_begins (t ∷ ts) bytes rest b = let n = b.1 in ((n.stands.spelling, n.stands.spelled), spelled_begins ts b.0 rest b.2)

spelled_left : (ts us : List Token) → AreSpelled (ts ++ us) → AreSpelled ts
spelled_left [] us s = tt
spelled_left (t ∷ ts) us s = (s.0, spelled_left ts us s.1)

spelled_right : (ts us : List Token) → AreSpelled (ts ++ us) → AreSpelled us
spelled_right [] us s = s
spelled_right (t ∷ ts) us s = spelled_right ts us s.1

-- ---- words and symbols
-- the token of a printed word
abbrev pub word_token : Bytes → Token
word_token text = record { kind = cond (is_lower_word text) Lower Single; text = text }

abbrev pub symbol_token_of : SymKind → Bytes → Token
symbol_token_of symbol.Word text = word_token text
symbol_token_of symbol.Dollar text = record { kind = Dollar; text = text }
symbol_token_of symbol.Number text = record { kind = Int; text = text }
symbol_token_of symbol.Distinct text = record { kind = Double; text = text }
symbol_token_of symbol.Equal text = mark 61

abbrev pub symbol_token : Symbol → Token
symbol_token s = symbol_token_of s.kind s.text

word_prints : (text : Bytes) (t : Token) → IsWord text t → IsSpelled t → Prints (word_token text) (word_text text)
word_prints text t (inl e) s = let l : Spells Lower text s.0 = subst (λ u. Spells u.kind u.text s.0) e s.1 in bare l.1 where
  bare : is_lower_word text ≡ true → Prints (word_token text) (word_text text)
  bare h = rw h (refl, (refl, h))
word_prints text t (inr e) s = let l : Spells Single text s.0 = subst (λ u. Spells u.kind u.text s.0) e s.1 in by l (is_lower_word text) refl where
  by : Spells Single text s.0 → (v : Bool) → is_lower_word text ≡ v → Prints (word_token text) (word_text text)
  by l true h = rw h (refl, (refl, h))
  by l false h = rw h (refl, (refl, l.1, l.2))

head_prints : (kind : SymKind) (text : Bytes) (t : Token) → IsHead kind text t → IsSpelled t → Prints (symbol_token_of kind text) (symbol_text_of kind text)
head_prints symbol.Word text t h s = word_prints text t h s
head_prints symbol.Dollar text t h s = let l : Spells Dollar text s.0 = subst (λ u. Spells u.kind u.text s.0) h s.1 in (refl, (refl, l.1))
head_prints symbol.Number text t h s = absurd h
head_prints symbol.Distinct text t h s = absurd h
head_prints symbol.Equal text t h s = absurd h

constant_prints : (kind : SymKind) (text : Bytes) (t : Token) → IsConstant kind text t → IsSpelled t → Prints (symbol_token_of kind text) (symbol_text_of kind text)
constant_prints symbol.Number text t h s = let l : Spells Int text s.0 = subst (λ u. Spells u.kind u.text s.0) h s.1 in (refl, (refl, l.1))
constant_prints symbol.Distinct text t h s = let l : Spells Double text s.0 = subst (λ u. Spells u.kind u.text s.0) h s.1 in (refl, (refl, l.1))
constant_prints symbol.Word text t h s = head_prints symbol.Word text t h s
constant_prints symbol.Dollar text t h s = head_prints symbol.Dollar text t h s
constant_prints symbol.Equal text t h s = absurd h

-- the printed token is one of the symbol
word_is : (text : Bytes) → IsWord text (word_token text)
word_is text = by (is_lower_word text) refl where
  by : (v : Bool) → is_lower_word text ≡ v → IsWord text (word_token text)
  by true h = rw h (inl refl)
  by false h = rw h (inr refl)

head_is : (kind : SymKind) (text : Bytes) (t : Token) → IsHead kind text t → IsHead kind text (symbol_token_of kind text)
head_is symbol.Word text t h = word_is text
head_is symbol.Dollar text t h = refl
head_is symbol.Number text t h = absurd h
head_is symbol.Distinct text t h = absurd h
head_is symbol.Equal text t h = absurd h

constant_is : (kind : SymKind) (text : Bytes) (t : Token) → IsConstant kind text t → IsConstant kind text (symbol_token_of kind text)
constant_is symbol.Number text t h = refl
constant_is symbol.Distinct text t h = refl
constant_is symbol.Word text t h = head_is symbol.Word text t h
constant_is symbol.Dollar text t h = head_is symbol.Dollar text t h
constant_is symbol.Equal text t h = absurd h

-- ---- nesting
-- tokens that leave as many brackets open, one after the other
abbrev AreAsDeep : List Token → List Token → Type 0
AreAsDeep [] [] = Unit {0}
AreAsDeep (t ∷ ts) (u ∷ us) = ((depth : ℕ) → open_behind depth t ≡ open_behind depth u) × AreAsDeep ts us
AreAsDeep [] (u ∷ us) = ⊥
AreAsDeep (t ∷ ts) [] = ⊥

nesting_same : (ts us : List Token) → AreAsDeep ts us → (depth : ℕ) → nesting_from depth ts ≡ nesting_from depth us
nesting_same [] [] a depth = refl
nesting_same [] (u ∷ us) a depth = absurd a
nesting_same (t ∷ ts) [] a depth = absurd a
nesting_same (t ∷ ts) (u ∷ us) a depth =
    ap (max depth) (nesting_same ts us a.1 (open_behind depth t) ∙ ap (λ d. nesting_from d us) (a.0 depth))

deep_append : (ts us vs ws : List Token) → AreAsDeep ts us → AreAsDeep vs ws → AreAsDeep (ts ++ vs) (us ++ ws)
deep_append [] [] vs ws a b = b
deep_append [] (u ∷ us) vs ws a b = absurd a
deep_append (t ∷ ts) [] vs ws a b = absurd a
deep_append (t ∷ ts) (u ∷ us) vs ws a b = (a.0, deep_append ts us vs ws a.1 b)

bare_deep : (t : Token) → is_bare t.kind ≡ true → (depth : ℕ) → open_behind depth t ≡ depth
bare_deep t b = by t.kind b where
  by : (kind : TokenKind) → is_bare kind ≡ true → (depth : ℕ) → open_behind depth (let u : Token = record { kind = kind; text = t.text } in u) ≡ depth
  by Lower b depth = refl
  by Upper b depth = refl
  by Dollar b depth = refl
  by Int b depth = refl
  by Single b depth = refl
  by Double b depth = refl
  by NotEqual b depth = absurd (false≢true b)
  by Mark b depth = absurd (false≢true b)

both_bare : (t u : Token) → is_bare t.kind ≡ true → is_bare u.kind ≡ true → (depth : ℕ) → open_behind depth t ≡ open_behind depth u
both_bare t u b c depth = bare_deep t b depth ∙ sym (bare_deep u c depth)

head_bare : (kind : SymKind) (text : Bytes) (t : Token) → IsHead kind text t → is_bare t.kind ≡ true
head_bare symbol.Word text t (inl e) = ap (λ u. is_bare u.kind) e
head_bare symbol.Word text t (inr e) = ap (λ u. is_bare u.kind) e
head_bare symbol.Dollar text t h = ap (λ u. is_bare u.kind) h
head_bare symbol.Number text t h = absurd h
head_bare symbol.Distinct text t h = absurd h
head_bare symbol.Equal text t h = absurd h

constant_bare : (kind : SymKind) (text : Bytes) (t : Token) → IsConstant kind text t → is_bare t.kind ≡ true
constant_bare symbol.Number text t h = ap (λ u. is_bare u.kind) h
constant_bare symbol.Distinct text t h = ap (λ u. is_bare u.kind) h
constant_bare symbol.Word text t h = head_bare symbol.Word text t h
constant_bare symbol.Dollar text t h = head_bare symbol.Dollar text t h
constant_bare symbol.Equal text t h = absurd h

-- ---- terms
-- the tokens of a printed term
abbrev mutual
  pub term_tokens : Term → List Token
  term_tokens (terms.var x) = upper x ∷ []
  term_tokens (terms.app s terms.none) = symbol_token s ∷ []
  term_tokens (terms.app s (terms.more u us)) = symbol_token s ∷ left_bracket ∷ term_tokens u ++ more_tokens us ++ right_bracket ∷ []

  pub more_tokens : Terms → List Token
  more_tokens terms.none = []
  more_tokens (terms.more u us) = comma ∷ term_tokens u ++ more_tokens us

-- the tokens of a term, up to the quotes of words, are those that it is printed with
mutual
  term_is : (t : Term) (ts : List Token) → IsTerm t ts → IsTerm t (term_tokens t)
  term_is (terms.var x) ts h = refl
  term_is (terms.app s terms.none) ts h = let k = h.2 in (h.0, h.1, (symbol_token s, constant_is s.kind s.text k.0 k.1, refl))
  term_is (terms.app s (terms.more u us)) ts h =
      let k = h.2 in
      (h.0, h.1, (symbol_token s, term_tokens u, more_tokens us, head_is s.kind s.text k.0 k.3, term_is u k.1 k.4, more_is us k.2 k.5, refl))

  more_is : (us : Terms) (ts : List Token) → AreMoreTerms us ts → AreMoreTerms us (more_tokens us)
  more_is terms.none ts h = refl
  more_is (terms.more u us) ts h = (term_tokens u, more_tokens us, term_is u h.0 h.2, more_is us h.1 h.3, refl)

deep : (ts us vs : List Token) → ts ≡ us → AreAsDeep us vs → AreAsDeep ts vs
deep ts us vs e a = subst (λ x. AreAsDeep x vs) (sym e) a

mutual
  term_deep : (t : Term) (ts : List Token) → IsTerm t ts → AreSpelled ts → AreAsDeep ts (term_tokens t)
  term_deep (terms.var x) ts h s = deep ts (upper x ∷ []) _ h ((λ depth. refl), tt)
  term_deep (terms.app s terms.none) ts h p =
      let k = h.2 in
      let q = subst AreSpelled k.2 p in
      deep ts (k.0 ∷ []) _ k.2 (both_bare k.0 (symbol_token s) (constant_bare s.kind s.text k.0 k.1) (constant_prints s.kind s.text k.0 k.1 q.0).0, tt)
  term_deep (terms.app s (terms.more u us)) ts h p =
      let k = h.2 in
      let q = subst AreSpelled k.6 p in
      let inner = spelled_left (k.1 ++ k.2) (right_bracket ∷ []) q.1.1 in
      deep ts _ _ k.6 (
        both_bare k.0 (symbol_token s) (head_bare s.kind s.text k.0 k.3) (head_prints s.kind s.text k.0 k.3 q.0).0,
        (
          (λ depth. refl),
          deep_append (k.1 ++ k.2) (term_tokens u ++ more_tokens us) (right_bracket ∷ []) (right_bracket ∷ [])
              (deep_append k.1 (term_tokens u) k.2 (more_tokens us) (term_deep u k.1 k.4 (spelled_left k.1 k.2 inner)) (more_deep us k.2 k.5 (spelled_right k.1 k.2 inner)))
              ((λ depth. refl), tt),
        ),
      )

  more_deep : (us : Terms) (ts : List Token) → AreMoreTerms us ts → AreSpelled ts → AreAsDeep ts (more_tokens us)
  more_deep terms.none ts h p = deep ts [] [] h tt
  more_deep (terms.more u us) ts h p =
      let q = subst AreSpelled h.4 p in
      deep ts _ _ h.4 ((λ depth. refl), deep_append h.0 (term_tokens u) h.1 (more_tokens us) (term_deep u h.0 h.2 (spelled_left h.0 h.1 q.1)) (more_deep us h.1 h.3 (spelled_right h.0 h.1 q.1)))

-- ---- their bytes
left_next : (rest : Bytes) → NextToken (40 ∷ rest) left_bracket rest
left_next rest = next_where Mark (40 ∷ []) (40 ∷ []) rest (refl, (40, refl, refl)) refl refl

right_next : (rest : Bytes) → NextToken (41 ∷ rest) right_bracket rest
right_next rest = next_where Mark (41 ∷ []) (41 ∷ []) rest (refl, (41, refl, refl)) refl refl

comma_next : (rest : Bytes) → NextToken (44 ∷ rest) comma rest
comma_next rest = next_where Mark (44 ∷ []) (44 ∷ []) rest (refl, (44, refl, refl)) refl refl

applied_text : (s a b rest : Bytes) → (s ++ codes "(" ++ a ++ b ++ codes ")") ++ rest ≡ s ++ (40 ∷ (a ++ (b ++ 41 ∷ rest)))
applied_text s a b rest = simp append_assoc

more_text : (a b rest : Bytes) → (codes "," ++ a ++ b) ++ rest ≡ 44 ∷ (a ++ (b ++ rest))
more_text a b rest = simp append_assoc

-- the text of each of these variables is the variable
abbrev pub Keeps : (Bytes → Bytes) → List Bytes → Type 0
Keeps f xs = (x : Bytes) → IsAmong xs x → f x ≡ x

more_ends : (f : Bytes → Bytes) (us : Terms) (rest : Bytes) → EndsWord rest → EndsWord (more_texts f us ++ rest)
more_ends f terms.none rest h = h
more_ends f (terms.more u us) rest h = refl

mutual
  term_begins : (f : Bytes → Bytes) (t : Term) (ts : List Token) → IsTerm t ts → AreSpelled ts → Keeps f (terms.variables t)
      → (rest : Bytes) → EndsWord rest → Begins (term_text f t ++ rest) (term_tokens t) rest
  term_begins f (terms.var x) ts h p k rest e =
      let q = subst AreSpelled h p in
      let l : Spells Upper x (f x) = (k x (inl refl), q.0.1.1) in
      (rest, bare_next (upper x) (f x) rest refl l e, refl)
  term_begins f (terms.app s terms.none) ts h p k rest e =
      let m = h.2 in
      let q = subst AreSpelled m.2 p in
      let r = constant_prints s.kind s.text m.0 m.1 q.0 in
      (rest, bare_next (symbol_token s) (symbol_text s) rest r.0 r.1 e, refl)
  term_begins f (terms.app s (terms.more u us)) ts h p k rest e =
      let m = h.2 in
      let q = subst AreSpelled m.6 p in
      let inner = spelled_left (m.1 ++ m.2) (right_bracket ∷ []) q.1.1 in
      let r = head_prints s.kind s.text m.0 m.3 q.0 in
      let a = term_text f u in
      let b = more_texts f us in
      let first = term_begins f u m.1 m.4 (spelled_left m.1 m.2 inner) (λ x i. k x (among_front (terms.variables u) (terms.variables_of_all us) x i)) (b ++ 41 ∷ rest) (more_ends f us (41 ∷ rest) refl) in
      let others = more_begins f us m.2 m.5 (spelled_right m.1 m.2 inner) (λ x i. k x (among_back (terms.variables u) (terms.variables_of_all us) x i)) (41 ∷ rest) refl in
      subst (λ bytes. Begins bytes (term_tokens (terms.app s (terms.more u us))) rest) (sym (applied_text (symbol_text s) a b rest)) (
        40 ∷ (a ++ (b ++ 41 ∷ rest)),
        bare_next (symbol_token s) (symbol_text s) (40 ∷ (a ++ (b ++ 41 ∷ rest))) r.0 r.1 refl,
        (
          a ++ (b ++ 41 ∷ rest),
          left_next (a ++ (b ++ 41 ∷ rest)),
          begins_append (term_tokens u ++ more_tokens us) (right_bracket ∷ []) (a ++ (b ++ 41 ∷ rest)) (41 ∷ rest) rest
              (begins_append (term_tokens u) (more_tokens us) (a ++ (b ++ 41 ∷ rest)) (b ++ 41 ∷ rest) (41 ∷ rest) first others)
              (rest, right_next rest, refl),
        ),
      )

  more_begins : (f : Bytes → Bytes) (us : Terms) (ts : List Token) → AreMoreTerms us ts → AreSpelled ts → Keeps f (terms.variables_of_all us)
      → (rest : Bytes) → EndsWord rest → Begins (more_texts f us ++ rest) (more_tokens us) rest
  more_begins f terms.none ts h p k rest e = refl
  more_begins f (terms.more u us) ts h p k rest e =
      let q = subst AreSpelled h.4 p in
      let a = term_text f u in
      let b = more_texts f us in
      let first = term_begins f u h.0 h.2 (spelled_left h.0 h.1 q.1) (λ x i. k x (among_front (terms.variables u) (terms.variables_of_all us) x i)) (b ++ rest) (more_ends f us rest e) in
      let others = more_begins f us h.1 h.3 (spelled_right h.0 h.1 q.1) (λ x i. k x (among_back (terms.variables u) (terms.variables_of_all us) x i)) rest e in
      subst (λ bytes. Begins bytes (more_tokens (terms.more u us)) rest) (sym (more_text a b rest)) (
        a ++ (b ++ rest),
        comma_next (a ++ (b ++ rest)),
        begins_append (term_tokens u) (more_tokens us) (a ++ (b ++ rest)) (b ++ rest) rest first others,
      )

-- ---- whole texts
-- what begins with these tokens and then ends consists of them
whole : (bytes : Bytes) (ts : List Token) → Begins (bytes ++ []) ts [] → Consists bytes ts
whole bytes ts b = record {
  rest = [];
  begins = subst (λ x. Begins x ts []) (append-nil bytes) b;
  blanks = record { rest = []; skips = skips_nothing []; ends = inl refl };
}

one : (t : Token) (bytes : Bytes) → Prints t bytes → Consists bytes (t ∷ [])
one t bytes p = whole bytes (t ∷ []) ([], bare_next t bytes [] p.0 p.1 refl, refl)

one_nested : (t : Token) → is_bare t.kind ≡ true → nesting (t ∷ []) ≤ DEEPEST_NESTING
one_nested t b = let e = bare_deep t b 0 in rw e (omega arith)

-- The tokens of a term, wherever they stand, tell that its printed text is read back, if its
-- variables are printed as they are.
pub spelled_reads_back : (t : Term) (f : Bytes → Bytes) (ts : List Token) → Keeps f (terms.variables t)
    → IsTerm t ts → AreSpelled ts → nesting ts ≤ DEEPEST_NESTING → IsPatternText (term_pattern t) (term_text f t)
spelled_reads_back t f ts k h p n = record {
  tokens = term_tokens t;
  consists = whole (term_text f t) (term_tokens t) (term_begins f t ts h p k [] refl);
  spelled = term_is t ts h;
  nested = subst (λ m. m ≤ DEEPEST_NESTING) (nesting_same ts (term_tokens t) (term_deep t ts h p) 0) n;
}

pub term_reads_back : (t : Term) (f : Bytes → Bytes) (other : Bytes) → Keeps f (terms.variables t)
    → IsPatternText (term_pattern t) other → IsPatternText (term_pattern t) (term_text f t)
term_reads_back t f other k r =
    spelled_reads_back t f r.tokens k r.spelled (spelled_begins r.tokens other r.consists.rest r.consists.begins) r.nested

-- so a term without variables is, whatever is printed for variables
pub ground_reads_back : (t : Term) (f : Bytes → Bytes) (other : Bytes) → terms.variables t ≡ []
    → IsPatternText (term_pattern t) other → IsPatternText (term_pattern t) (term_text f t)
ground_reads_back t f other g r = term_reads_back t f other (λ x i. absurd (subst (λ xs. IsAmong xs x) g i)) r

-- a term with other variables has the text of the term, by the texts of those
mutual
  pub text-rename : {V : Type 0} (f : V → Bytes) (g : Bytes → V) (t : Term) → term_text f (terms.rename g t) ≡ term_text (λ x. f (g x)) t
  text-rename f g (terms.var x) = refl
  text-rename f g (terms.app s terms.none) = refl
  text-rename f g (terms.app s (terms.more u us)) = ap₂ (λ a b. symbol_text s ++ codes "(" ++ a ++ b ++ codes ")") (text-rename f g u) (texts-rename f g us)

  texts-rename : {V : Type 0} (f : V → Bytes) (g : Bytes → V) (us : Terms) → more_texts f (terms.rename_all g us) ≡ more_texts (λ x. f (g x)) us
  texts-rename f g terms.none = refl
  texts-rename f g (terms.more u us) = ap₂ (λ a b. codes "," ++ a ++ b) (text-rename f g u) (texts-rename f g us)

-- so a term of an entry is read back with its variables
pub entry_reads_back : (t : Term) (other : Bytes) → IsPatternText (term_pattern t) other → IsPatternText (term_pattern t) (term_text variable_text (entry_term t))
entry_reads_back t other r =
    subst (λ b. IsPatternText (term_pattern t) b) (sym (text-rename variable_text of_entry t)) (term_reads_back t (λ x. x) other (λ x i. refl) r)

-- and a term of a pattern without variables
pub pattern_reads_back : (t : Term) (other : Bytes) → terms.variables t ≡ []
    → IsPatternText (term_pattern t) other → IsPatternText (term_pattern t) (term_text variable_text (pattern_term t))
pattern_reads_back t other g r =
    subst (λ b. IsPatternText (term_pattern t) b) (sym (text-rename variable_text of_pattern t)) (ground_reads_back t (λ x. variable_text (of_pattern x)) other g r)

-- the token of a printed name
abbrev name_token_of : NameKind → Bytes → Token
name_token_of named.Word text = word_token text
name_token_of named.Int text = record { kind = Int; text = text }

pub name_reads_back : (n : Name) (other : Bytes) → IsNameText n other → IsNameText n (name_text n)
name_reads_back n other r =
    let m = r.spelled in
    let p = subst AreSpelled m.2 (spelled_begins r.tokens other r.consists.rest r.consists.begins) in
    let q = prints n.kind n.text m.0 m.1 p.0 in
    record {
      tokens = name_token_of n.kind n.text ∷ [];
      consists = one (name_token_of n.kind n.text) (name_text n) q.0;
      spelled = (name_token_of n.kind n.text, q.1, refl);
      nested = one_nested (name_token_of n.kind n.text) q.0.0;
    } where
      prints : (kind : NameKind) (text : Bytes) (t : Token) → IsName (let n : Name = record { kind = kind; text = text } in n) t → IsSpelled t
          → Prints (name_token_of kind text) (name_text_of kind text) × IsName (let n : Name = record { kind = kind; text = text } in n) (name_token_of kind text)
      prints named.Word text t h s = (word_prints text t h s, word_is text)
      prints named.Int text t h s = let l : Spells Int text s.0 = subst (λ u. Spells u.kind u.text s.0) h s.1 in ((refl, (refl, l.1)), refl)

pub file_reads_back : (file other : Bytes) → IsFileText file other → IsFileText file (file_text file)
file_reads_back file other r =
    let t : Token = record { kind = Single; text = file } in
    let p = subst AreSpelled r.spelled (spelled_begins r.tokens other r.consists.rest r.consists.begins) in
    let q : Prints t (quoted 39 file) = (refl, (refl, p.0.1.1, p.0.1.2)) in
    record { tokens = t ∷ []; consists = one t (file_text file) q; spelled = refl; nested = one_nested t refl }
