-- Terms and their arguments: what the readers of them give.
use Rattle.std.proofs.Common.{◌≡◌, ℕ, ◌+◌, List, [], ◌∷◌, ◌++◌, length, Option, Some, None, refl, sym, ap, ◌∙◌, subst, append_assoc, arith, inl, inr}
use Rattle.std.proofs.lemmas.Option.{none-some, same_Some}
use Rattle.si_defs.specs.Bytes.{Bytes}
use Rattle.si_defs.specs.Terms as terms
use Rattle.si_defs.specs.Symbols.{Symbol}
use Rattle.si_defs.specs.Clauses.{Term, Terms}
use Rattle.si_defs.specs.Tokens.{Token, mark}
use Rattle.si_defs.specs.Grammar.{IsTerm, AreMoreTerms, IsHead, IsConstant, left_bracket, right_bracket, comma, not_equal}
use Rattle.si_defs.specs.declared.SymKind.{SymKind}
use Rattle.si_defs.specs.declared.SymKind.TheVariants.{Word, Dollar, Number, Distinct, Equal}
use Rattle.si_defs.specs.declared.Side.TheVariants.{Function}
use Rattle.si_defs.specs.declared.TokenKind.{TokenKind}
use Rattle.si_defs.specs.declared.TokenKind.TheVariants as token
use Rattle.si_defs.proofs.ListLaws.{same_first, same_tail}
use Rattle.si_parse.specs.Parsing.{ReadsTokens, NoBracket, NoTerm}
use Rattle.si_parse.specs.GrammarRules.{AreMore, AreTerms, IsApplied, function_symbol}
use Rattle.si_parse.proofs.ParseSteps.{parses_none, parses_some, parses_uses, parses_one, parses_never, front_heads, front_tails}

-- ---- marks
-- different marks are different tokens
pub marks_apart : (c d : ℕ) → (c ≡ d → ⊥) → mark c ≡ mark d → ⊥
marks_apart c d h e = h (same_first (ap (λ (t : Token). t.text) e))

-- a mark is no inequality sign
pub mark_unequal : (c : ℕ) → mark c ≡ not_equal → ⊥
mark_unequal c e = cc (ap (λ (t : Token). t.kind) e)

-- what begins with another token than a bracket
pub no_bracket : (t : Token) (rest tokens : List Token) → tokens ≡ t ∷ rest → (t ≡ left_bracket → ⊥) → NoBracket tokens
no_bracket t rest tokens e h = subst NoBracket (sym e) (h, tt)

-- what does not begin with a bracket
pub no_bracket-none : (tokens : List Token) → ((rest : List Token) → tokens ≡ left_bracket ∷ rest → ⊥) → NoBracket tokens
no_bracket-none [] h = tt
no_bracket-none (t ∷ ts) h = (λ e. h ts (ap (λ x. x ∷ ts) e), tt)

-- no bracket follows where one stands
pub opens : (xs ys : List Token) → NoBracket xs → xs ≡ left_bracket ∷ ys → ⊥
opens [] ys h e = cc
opens (x ∷ xs) ys h e = h.0 (same_first e)

-- ---- which symbol a token is
abbrev pub symbol_kind : TokenKind → Option SymKind
symbol_kind token.Lower = Some Word
symbol_kind token.Upper = None
symbol_kind token.Dollar = Some Dollar
symbol_kind token.Int = Some Number
symbol_kind token.Single = Some Word
symbol_kind token.Double = Some Distinct
symbol_kind token.NotEqual = None
symbol_kind token.Mark = None

-- a head may stand alone
pub head_constant : (kind : SymKind) (text : Bytes) (t : Token) → IsHead kind text t → IsConstant kind text t
head_constant Word text t h = h
head_constant Dollar text t h = h
head_constant Number text t h = absurd h
head_constant Distinct text t h = absurd h
head_constant Equal text t h = h

-- a constant is the symbol of its token
pub constant_is : (kind : SymKind) (text : Bytes) (t : Token) → IsConstant kind text t → (symbol_kind t.kind ≡ Some kind) × (text ≡ t.text)
constant_is Word text t (inl e) = (ap (λ (u : Token). symbol_kind u.kind) e, sym (ap (λ (u : Token). u.text) e))
constant_is Word text t (inr e) = (ap (λ (u : Token). symbol_kind u.kind) e, sym (ap (λ (u : Token). u.text) e))
constant_is Dollar text t e = (ap (λ (u : Token). symbol_kind u.kind) e, sym (ap (λ (u : Token). u.text) e))
constant_is Number text t e = (ap (λ (u : Token). symbol_kind u.kind) e, sym (ap (λ (u : Token). u.text) e))
constant_is Distinct text t e = (ap (λ (u : Token). symbol_kind u.kind) e, sym (ap (λ (u : Token). u.text) e))
constant_is Equal text t e = absurd e

-- a symbol is its four parts
pub symbol_is : (s : Symbol) (kind : SymKind) (text : Bytes) (arity : ℕ) → s.kind ≡ kind → s.text ≡ text → s.side ≡ Function → s.arity ≡ arity → s ≡ function_symbol kind text arity
symbol_is s kind text arity k t d a = λ i. record { kind = k i; text = t i; side = d i; arity = a i }

-- ---- rows of terms
-- the arguments as a list and back
pub row_list : (us : Terms) → terms.row (terms.list us) ≡ us
row_list terms.none = refl
row_list (terms.more u us) = ap (λ x. terms.more u x) (row_list us)

-- as many arguments as the list has
pub count_row : (us : List Term) → terms.count (terms.row us) ≡ length us
count_row [] = refl
count_row (u ∷ us) = omega (arith, count_row us)

-- terms after commas, as arguments and as a list
pub more_terms : (us : Terms) (ts : List Token) → AreMoreTerms us ts → AreMore IsTerm comma (terms.list us) ts
more_terms terms.none ts h = h
more_terms (terms.more u us) ts (first, others, one, all, e) = (first, others, one, more_terms us others all, e)

pub terms_more : (us : Terms) (ts : List Token) → AreMore IsTerm comma (terms.list us) ts → AreMoreTerms us ts
terms_more terms.none ts h = h
terms_more (terms.more u us) ts (first, others, one, all, e) = (first, others, one, terms_more us others all, e)

-- ---- terms by their first token
-- an upper word is a variable
pub term_upper : (t : Token) (rest : List Token) → t.kind ≡ token.Upper → ReadsTokens IsTerm NoBracket (t ∷ rest) (Some (terms.var t.text, rest))
term_upper t rest k = parses_some (terms.var t.text) (t ∷ []) rest refl (λ i. record { kind = k i; text = t.text } ∷ []) (λ m used behind e means follows. unique m used behind e means) where
  never : (kind : SymKind) (text : Bytes) (u : Token) → IsConstant kind text u → t ≡ u → ⊥
  never kind text u h e = none-some kind (sym (ap symbol_kind (ap (λ (x : Token). x.kind) (sym e) ∙ k)) ∙ (constant_is kind text u h).0)

  unique : (m : Term) (used behind : List Token) → t ∷ rest ≡ used ++ behind → IsTerm m used → (terms.var t.text ≡ m) × (rest ≡ behind)
  unique (terms.var y) used behind e means =
      (ap (λ (u : Token). terms.var u.text) (front_heads behind e means), front_tails behind e means)
  unique (terms.app s terms.none) used behind e (side, arity, (u, const, f)) =
      absurd (never s.kind s.text u const (front_heads behind e f))
  unique (terms.app s (terms.more u us)) used behind e (side, arity, (v, first, others, head, one, all, f)) =
      absurd (never s.kind s.text v (head_constant s.kind s.text v head) (front_heads behind e f))

-- what a term begins with: an upper word, or the token of a symbol
pub data First (t : Token) : Type 0 where
  variable : t.kind ≡ token.Upper → First t
  symbol : (kind : SymKind) → symbol_kind t.kind ≡ Some kind → First t

pub term_first : (m : Term) (used : List Token) → IsTerm m used → (t : Token) × (tail : List Token) × First t × (used ≡ t ∷ tail)
term_first (terms.var y) used e = (record { kind = token.Upper; text = y }, [], variable refl, e)
term_first (terms.app s terms.none) used (side, arity, (u, const, f)) = (u, [], symbol s.kind (constant_is s.kind s.text u const).0, f)
term_first (terms.app s (terms.more u us)) used (side, arity, (v, first, others, head, one, all, f)) =
    (v, left_bracket ∷ (first ++ others) ++ right_bracket ∷ [], symbol s.kind (constant_is s.kind s.text v (head_constant s.kind s.text v head)).0, f)

-- where no term begins none is read
pub term_none : (t : Token) (rest : List Token) → (t.kind ≡ token.Upper → ⊥) → symbol_kind t.kind ≡ None → ReadsTokens IsTerm NoBracket (t ∷ rest) None
term_none t rest not_upper none = parses_none (λ m used behind e means follows.
    let f = term_first m used means in never f.0 f.2 (front_heads {ys = f.1} behind e f.3)) where
      never : (u : Token) → First u → t ≡ u → ⊥
      never u (variable k) e = not_upper (ap (λ (x : Token). x.kind) e ∙ k)
      never u (symbol kind k) e = none-some kind (sym none ∙ ap (λ (x : Token). symbol_kind x.kind) e ∙ k)

-- nor of nothing
pub term_empty : ReadsTokens IsTerm NoBracket [] None
term_empty = parses_none (λ m used behind e means follows. let f = term_first m used means in cc (e ∙ ap (λ x. x ++ behind) f.3))

module _ (t : Token) (rest : List Token) (kind : SymKind) (is_kind : symbol_kind t.kind ≡ Some kind) where
  -- a symbol at the front, by its token
  symbol_of : (other : SymKind) (text : Bytes) (u : Token) → IsConstant other text u → t ≡ u → (other ≡ kind) × (text ≡ t.text)
  symbol_of other text u h e =
      let c = constant_is other text u h in
      (same_Some other kind (sym c.0 ∙ ap (λ (x : Token). symbol_kind x.kind) (sym e) ∙ is_kind), c.1 ∙ ap (λ (x : Token). x.text) (sym e))

  not_variable : (x : Bytes) → t ≡ record { kind = token.Upper; text = x } → ⊥
  not_variable x e = none-some kind (sym (ap (λ (u : Token). symbol_kind u.kind) e) ∙ is_kind)

  -- a symbol that takes no arguments
  pub term_constant : ((text : Bytes) (u : Token) → IsHead kind text u → ⊥) → IsConstant kind t.text t
      → ReadsTokens IsTerm NoBracket (t ∷ rest) (Some (terms.app (function_symbol kind t.text 0) terms.none, rest))
  term_constant no_head const = parses_some (terms.app (function_symbol kind t.text 0) terms.none) (t ∷ []) rest refl (refl, refl, (t, const, refl)) (λ m used behind e means follows. unique m used behind e means) where
    unique : (m : Term) (used behind : List Token) → t ∷ rest ≡ used ++ behind → IsTerm m used → (terms.app (function_symbol kind t.text 0) terms.none ≡ m) × (rest ≡ behind)
    unique (terms.var y) used behind e means = absurd (not_variable y (front_heads behind e means))
    unique (terms.app s terms.none) used behind e (side, arity, (u, constant, f)) =
        let k = symbol_of s.kind s.text u constant (front_heads behind e f) in
        (ap (λ x. terms.app x terms.none) (sym (symbol_is s kind t.text 0 k.0 k.1 side arity)), front_tails behind e f)
    unique (terms.app s (terms.more u us)) used behind e (side, arity, (v, first, others, head, one, all, f)) =
        let k = symbol_of s.kind s.text v (head_constant s.kind s.text v head) (front_heads behind e f) in
        absurd (no_head s.text v (subst (λ x. IsHead x s.text v) k.0 head))

  -- the tokens of a term with this head
  applied_term : IsHead kind t.text t → (m : Term) (tail : List Token) → IsApplied kind t.text m tail → IsTerm m (t ∷ tail)
  applied_term head (terms.var x) tail h = absurd h
  applied_term head (terms.app s terms.none) tail (e, g) =
      subst (λ x. IsTerm (terms.app x terms.none) (t ∷ tail)) (sym e) (refl, refl, (t, head_constant kind t.text t head, ap (λ x. t ∷ x) g))
  applied_term head (terms.app s (terms.more u us)) tail (e, (inner, (first, others, one, all, h), g)) =
      subst (λ x. IsTerm (terms.app x (terms.more u us)) (t ∷ tail)) (sym e)
      (refl, refl, (t, first, others, head, one, terms_more us others all, ap (λ x. t ∷ x) (g ∙ ap (λ x. left_bracket ∷ x ++ right_bracket ∷ []) h)))

  -- a term with this head, by what is after it
  applied_back : (m : Term) (used behind : List Token) → t ∷ rest ≡ used ++ behind → IsTerm m used → (tail : List Token) × (used ≡ t ∷ tail) × IsApplied kind t.text m tail
  applied_back (terms.var x) used behind e means = absurd (not_variable x (front_heads behind e means))
  applied_back (terms.app s terms.none) used behind e (side, arity, (u, constant, g)) =
      let is = front_heads behind e g in
      let k = symbol_of s.kind s.text u constant is in
      ([], g ∙ ap (λ x. x ∷ []) (sym is), (symbol_is s kind t.text 0 k.0 k.1 side arity, refl))
  applied_back (terms.app s (terms.more u us)) used behind e (side, arity, (v, first, others, head, one, all, g)) =
      let is = front_heads behind e g in
      let k = symbol_of s.kind s.text v (head_constant s.kind s.text v head) is in (
        left_bracket ∷ (first ++ others) ++ right_bracket ∷ [],
        g ∙ ap (λ x. x ∷ left_bracket ∷ (first ++ others) ++ right_bracket ∷ []) (sym is),
        (symbol_is s kind t.text (1 + terms.count us) k.0 k.1 side arity, (first ++ others, (first, others, one, more_terms us others all, refl), refl)),
      )

  -- a symbol that takes arguments, by what stands after it
  pub term_head : IsHead kind t.text t → (result : Option (Term × List Token)) → ReadsTokens (IsApplied kind t.text) NoBracket rest result → ReadsTokens IsTerm NoBracket (t ∷ rest) result
  term_head head result p = record {
    found = λ m behind e. let h = p.found m behind e in (t ∷ h.0, ap (λ x. t ∷ x) h.1, applied_term head m h.0 h.2);
    every = λ m used behind e means follows. let h = applied_back m used behind e means in p.every m h.0 behind (front_tails {ys = h.0} behind e h.1) h.2 follows;
  }

-- ---- what stands after a head
-- nothing
pub applied_bare : (kind : SymKind) (text : Bytes) (rest : List Token) → NoBracket rest → ReadsTokens (IsApplied kind text) NoBracket rest (Some (terms.app (function_symbol kind text 0) terms.none, rest))
applied_bare kind text rest none = parses_some (terms.app (function_symbol kind text 0) terms.none) [] rest refl (refl, refl) (λ m used behind e means follows. unique m used behind e means) where
  unique : (m : Term) (used behind : List Token) → rest ≡ used ++ behind → IsApplied kind text m used → (terms.app (function_symbol kind text 0) terms.none ≡ m) × (rest ≡ behind)
  unique (terms.var x) used behind e means = absurd means
  unique (terms.app s terms.none) used behind e (is, g) = (ap (λ x. terms.app x terms.none) (sym is), e ∙ ap (λ x. x ++ behind) g)
  unique (terms.app s (terms.more u us)) used behind e (is, (inner, all, g)) = absurd (opens rest ((inner ++ right_bracket ∷ []) ++ behind) none (e ∙ ap (λ x. x ++ behind) g))

-- a term that is read up to a bracket may not go on after it
pub right_ends : (rest : List Token) → NoTerm (right_bracket ∷ rest)
right_ends rest = (marks_apart 41 40 (λ e. absurd (omega (arith, e))), (marks_apart 41 44 (λ e. absurd (omega (arith, e))), tt))

-- a front of terms and a bracket
inside : {used rest : List Token} (inner after : List Token) → left_bracket ∷ rest ≡ used ++ after → used ≡ left_bracket ∷ inner ++ right_bracket ∷ [] → rest ≡ inner ++ right_bracket ∷ after
inside inner after e g = front_tails after e g ∙ append_assoc inner (right_bracket ∷ []) after

module _ (kind : SymKind) (text : Bytes) (rest : List Token) where
  -- a second term after the head, by its arguments
  applied_by : {R : Type 0} → ((args : List Term) (inner after : List Token) → AreTerms args inner → rest ≡ inner ++ right_bracket ∷ after → R)
      → (m : Term) (used after : List Token) → left_bracket ∷ rest ≡ used ++ after → IsApplied kind text m used → NoBracket after → R
  applied_by k (terms.var x) used after e means follows = absurd means
  applied_by k (terms.app s terms.none) used after e (is, g) follows = absurd (opens after rest follows (sym (e ∙ ap (λ x. x ++ after) g)))
  applied_by k (terms.app s (terms.more u us)) used after e (is, (inner, all, g)) follows = k (u ∷ terms.list us) inner after all (inside inner after e g)

  -- a bracket without arguments after it
  pub applied_none : ReadsTokens AreTerms NoTerm rest None → ReadsTokens (IsApplied kind text) NoBracket (left_bracket ∷ rest) None
  applied_none p = parses_none (applied_by (λ args inner after all e. parses_never p args inner (right_bracket ∷ after) e all (right_ends after)))

  -- arguments without a bracket after them
  pub applied_stop : {args : List Term} {behind : List Token} → ReadsTokens AreTerms NoTerm rest (Some (args, behind)) → ((after : List Token) → behind ≡ right_bracket ∷ after → ⊥)
      → ReadsTokens (IsApplied kind text) NoBracket (left_bracket ∷ rest) None
  applied_stop p none = parses_none (applied_by (λ args inner after all e. none after (parses_one p args inner (right_bracket ∷ after) e all (right_ends after)).1))

  -- arguments and a bracket
  pub applied_some : (args : List Term) (behind : List Token) → ReadsTokens AreTerms NoTerm rest (Some (args, right_bracket ∷ behind))
      → ReadsTokens (IsApplied kind text) NoBracket (left_bracket ∷ rest) (Some (terms.app (function_symbol kind text (length args)) (terms.row args), behind))
  applied_some [] behind p = absurd (parses_uses [] (right_bracket ∷ behind) p).2
  applied_some (u ∷ us) behind p =
      let h = parses_uses (u ∷ us) (right_bracket ∷ behind) p in
      parses_some (terms.app (function_symbol kind text (length (u ∷ us))) (terms.row (u ∷ us))) (left_bracket ∷ h.0 ++ right_bracket ∷ []) behind
      (ap (λ x. left_bracket ∷ x) (h.1 ∙ sym (append_assoc h.0 (right_bracket ∷ []) behind))) (ap (function_symbol kind text) counted, (h.0, subst (λ x. AreTerms (u ∷ x) h.0) (sym (listed us)) h.2, refl)) unique where
        counted : length (u ∷ us) ≡ 1 + terms.count (terms.row us)
        counted = omega (arith, count_row us)

        listed : (us : List Term) → terms.list (terms.row us) ≡ us
        listed [] = refl
        listed (v ∷ vs) = ap (λ x. v ∷ x) (listed vs)

        unique : (m : Term) (used after : List Token) → left_bracket ∷ rest ≡ used ++ after → IsApplied kind text m used → NoBracket after
            → (terms.app (function_symbol kind text (length (u ∷ us))) (terms.row (u ∷ us)) ≡ m) × (behind ≡ after)
        unique (terms.var x) used after e means follows = absurd means
        unique (terms.app s terms.none) used after e (is, g) follows = absurd (opens after rest follows (sym (e ∙ ap (λ x. x ++ after) g)))
        unique (terms.app s (terms.more v vs)) used after e (is, (inner, all, g)) follows =
            let same = parses_one p (v ∷ terms.list vs) inner (right_bracket ∷ after) (inside inner after e g) all (right_ends after) in
            (λ i. terms.app (joined same.0 i) (rows same.0 i), same_tail same.1) where
              rows : u ∷ us ≡ v ∷ terms.list vs → terms.row (u ∷ us) ≡ terms.more v vs
              rows f = ap terms.row f ∙ ap (λ x. terms.more v x) (row_list vs)

              joined : u ∷ us ≡ v ∷ terms.list vs → function_symbol kind text (length (u ∷ us)) ≡ s
              joined f = ap (function_symbol kind text) (sym (count_row (u ∷ us)) ∙ ap terms.count (rows f)) ∙ sym is

-- ---- rows of terms
-- what may follow the last term may follow a term
pub term_last : (rest : List Token) → NoTerm rest → NoBracket rest
term_last [] h = tt
term_last (t ∷ ts) h = (h.0, tt)

-- a comma may follow a term
pub term_goes_on : (rest : List Token) → NoBracket (comma ∷ rest)
term_goes_on rest = (marks_apart 44 40 (λ e. absurd (omega (arith, e))), tt)

-- but not the last one
pub term_stops : (rest : List Token) → NoTerm (comma ∷ rest) → ⊥
term_stops rest h = h.1.0 refl
