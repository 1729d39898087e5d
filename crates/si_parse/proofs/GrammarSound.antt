-- What tokens spell is sound, and has no more occurrences of symbols and variables than there are
-- tokens.
use Rattle.std.proofs.Common.{◌≡◌, ℕ, ◌+◌, ◌≤◌, Bool, true, false, List, [], ◌∷◌, ◌++◌, ◌⊎◌, length, replicate, Option, Some, None, refl, sym, ap, ◌∙◌, subst, arith, inl, inr, Bor}
use Rattle.std.specs.List.{AllByRecursion}
use Rattle.std.proofs.lemmas.List.{length-append, length-map}
use Rattle.si_defs.specs.Bytes.{Bytes}
use Rattle.si_defs.specs.Terms as terms
use Rattle.si_defs.specs.Symbols.{Symbol}
use Rattle.si_defs.specs.Clauses.{Term, Terms, Literal, Clause, Fits, IsSoundSymbol, IsSoundTerm, AreSoundTerms, IsSoundAtom, IsSoundLiteral, AreSoundLiterals, literal_size, literals_size, literal_pattern, term_pattern, IsSoundPattern, IsSoundClause}
use Rattle.si_defs.specs.declared.TheConstants.{MOST_OCCURRENCES}
use Rattle.si_defs.specs.Tokens as defs
use Rattle.si_defs.specs.Tokens.{mark}
use Rattle.si_defs.specs.Grammar.{IsTerm, AreMoreTerms, IsHead, IsConstant, IsAtom, IsInequation, AreSides, IsSignedAtom, IsLiteral, AreMoreLiterals, IsDisjunction, IsFormula, IsClause, left_bracket, right_bracket, not_equal}
use Rattle.si_defs.specs.declared.SymKind.{SymKind}
use Rattle.si_defs.specs.declared.SymKind.TheVariants.{Word, Dollar, Number, Distinct, Equal}
use Rattle.si_defs.specs.declared.Side.{Side}
use Rattle.si_defs.specs.declared.Side.TheVariants.{Predicate, Function}
use Rattle.si_parse.specs.Parsing.{ReadsTokens, Reads, IfFound}
use Rattle.si_defs.specs.declared.TheConstants.{MOST_BYTES}
use Rattle.si_lex.specs.Lexemes.{token_of, tokens_of}
use Rattle.si_lex.specs.declared.lexeme.Lexeme.{Lexeme}

-- the head of arguments is a sound symbol
head_sound : (kind : SymKind) (text : Bytes) (side : Side) (arity : ℕ) (t : defs.Token) → IsHead kind text t → IsSoundSymbol kind text side arity
head_sound Word text side arity t h = tt
head_sound Dollar text side arity t h = tt
head_sound Number text side arity t h = absurd h
head_sound Distinct text side arity t h = absurd h
head_sound Equal text side arity t h = absurd h

-- and so is a constant
constant_sound : (kind : SymKind) (text : Bytes) (side : Side) (arity : ℕ) (t : defs.Token) → side ≡ Function → arity ≡ 0 → IsConstant kind text t → IsSoundSymbol kind text side arity
constant_sound Word text side arity t e f h = tt
constant_sound Dollar text side arity t e f h = tt
constant_sound Number text side arity t e f h = (e, f)
constant_sound Distinct text side arity t e f h = (e, f)
constant_sound Equal text side arity t e f h = absurd h

-- a symbol with its arguments has two tokens more than occurrences, for its brackets
slack : (t : defs.Token) (first others ts : List defs.Token) (n m : ℕ) → ts ≡ t ∷ left_bracket ∷ first ++ others ++ right_bracket ∷ [] → n ≤ length first → m ≤ length others → 1 + (n + m) + 2 ≤ length ts
slack t first others ts n m e h k =
    omega (arith, ap length e, length-append (first ++ others) (right_bracket ∷ []), length-append first others)

mutual
  -- a term
  pub sound_term : (t : Term) (ts : List defs.Token) → IsTerm t ts → IsSoundTerm t × (terms.size t ≤ length ts)
  sound_term (terms.var x) ts e = (tt, omega (arith, ap length e))
  sound_term (terms.app s terms.none) ts (on_side, with_arity, (t, constant, e)) =
      ((record { on_side = on_side; with_arity = with_arity; of_kind = constant_sound s.kind s.text s.side s.arity t on_side with_arity constant }, tt), omega (arith, ap length e))
  sound_term (terms.app s (terms.more u us)) ts (on_side, with_arity, (t, first, others, head, one, all, e)) =
      let h = sound_term u first one in
      let k = sound_more us others all in
      ((record { on_side = on_side; with_arity = with_arity; of_kind = head_sound s.kind s.text s.side s.arity t head }, (h.0, k.0)), omega (arith, slack t first others ts (terms.size u) (terms.sizes us) e h.1 k.1))

  -- terms after commas
  pub sound_more : (us : Terms) (ts : List defs.Token) → AreMoreTerms us ts → AreSoundTerms us × (terms.sizes us ≤ length ts)
  sound_more terms.none ts e = (tt, omega arith)
  sound_more (terms.more u us) ts (first, others, one, all, e) =
      let h = sound_term u first one in
      let k = sound_more us others all in
      ((h.0, k.0), omega (arith, h.1, k.1, ap length e, length-append first others))

-- two sides of an equation
sound_sides : (sign : defs.Token) (s : Symbol) (l : Term) (us : Terms) (ts : List defs.Token) → AreSides sign s l us ts
    → IsSoundAtom (terms.app s (terms.more l us)) × (terms.size (terms.app s (terms.more l us)) ≤ length ts)
sound_sides sign s l terms.none ts h = absurd h
sound_sides sign s l (terms.more r (terms.more u us)) ts h = absurd h
sound_sides sign s l (terms.more r terms.none) ts (is, (left, right, one, two, e)) =
    let h = sound_term l left one in
    let k = sound_term r right two in (
      (subst (λ x. Fits x Predicate 2) (sym is) (record { on_side = refl; with_arity = refl; of_kind = (refl, refl, refl) }), (h.0, (k.0, tt))),
      omega (arith, h.1, k.1, ap length e, length-append left (sign ∷ right)),
    )

-- an atom
pub sound_atom : (m : Term) (ts : List defs.Token) → IsAtom m ts → IsSoundAtom m × (terms.size m ≤ length ts)
sound_atom (terms.var x) ts h = absurd h
sound_atom (terms.app s terms.none) ts (on_side, with_arity, (t, head, e)) =
    ((record { on_side = on_side; with_arity = with_arity; of_kind = head_sound s.kind s.text s.side s.arity t head }, tt), omega (arith, ap length e))
sound_atom (terms.app s (terms.more u us)) ts (inl (on_side, with_arity, (t, first, others, head, one, all, e))) =
    let h = sound_term u first one in
    let k = sound_more us others all in
    ((record { on_side = on_side; with_arity = with_arity; of_kind = head_sound s.kind s.text s.side s.arity t head }, (h.0, k.0)), omega (arith, slack t first others ts (terms.size u) (terms.sizes us) e h.1 k.1))
sound_atom (terms.app s (terms.more u us)) ts (inr h) = sound_sides (mark 61) s u us ts h

-- an inequation
sound_inequation : (m : Term) (ts : List defs.Token) → IsInequation m ts → IsSoundAtom m × (terms.size m ≤ length ts)
sound_inequation (terms.var x) ts h = absurd h
sound_inequation (terms.app s terms.none) ts h = absurd h
sound_inequation (terms.app s (terms.more u us)) ts h = sound_sides not_equal s u us ts h

-- an atom or its negation
sound_signed : (positive : Bool) (m : Term) (ts : List defs.Token) → IsSignedAtom positive m ts → IsSoundAtom m × (terms.size m ≤ length ts)
sound_signed true m ts h = sound_atom m ts h
sound_signed false m ts (inl (us, h, e)) = let k = sound_atom m us h in (k.0, omega (arith, k.1, ap length e))
sound_signed false m ts (inr (inl (us, h, e))) = let k = sound_atom m us h in (k.0, omega (arith, k.1, ap length e, length-append us (right_bracket ∷ [])))
sound_signed false m ts (inr (inr h)) = sound_inequation m ts h

-- a literal
pub sound_literal : (l : Literal) (ts : List defs.Token) → IsLiteral l ts → IsSoundLiteral l × (literal_size l ≤ length ts)
sound_literal l ts h = sound_signed l.positive l.atom ts h

-- literals after bars
sound_more_literals : (ls : List Literal) (ts : List defs.Token) → AreMoreLiterals ls ts → AllByRecursion IsSoundLiteral ls × (literals_size ls ≤ length ts)
sound_more_literals [] ts e = (tt, omega arith)
sound_more_literals (l ∷ ls) ts (first, others, one, all, e) =
    let h = sound_literal l first one in
    let k = sound_more_literals ls others all in
    ((h.0, k.0), omega (arith, h.1, k.1, ap length e, length-append first others))

-- a disjunction: it has some literal
sound_disjunction : (ls : List Literal) (ts : List defs.Token) → IsDisjunction ls ts → (ls ≡ [] → ⊥) × (AllByRecursion IsSoundLiteral ls) × (literals_size ls ≤ length ts)
sound_disjunction [] ts h = absurd h
sound_disjunction (l ∷ ls) ts (first, others, one, all, e) =
    let h = sound_literal l first one in
    let k = sound_more_literals ls others all in
    (λ f. cc, (h.0, k.0), omega (arith, h.1, k.1, ap length e, length-append first others))

-- a formula
pub sound_formula : (ls : List Literal) (ts : List defs.Token) → IsFormula ls ts → (ls ≡ [] → ⊥) × (AllByRecursion IsSoundLiteral ls) × (literals_size ls ≤ length ts)
sound_formula ls ts (n, inner, h, e) =
    let k = sound_disjunction ls inner h in
    (k.0, k.1, omega (arith, k.2, ap length e, length-append (replicate n left_bracket ++ inner) (replicate n right_bracket), length-append (replicate n left_bracket) inner))

-- a clause of few tokens
pub sound_clause : (c : Clause) (ts : List defs.Token) → IsClause c ts → length ts ≤ MOST_BYTES → IsSoundClause c
sound_clause c ts (name, formula, extra, is_name, is_formula, is_extra, e) few =
    let h = sound_formula c.literals formula is_formula in
    record { some = h.0; sound = record { each = h.1; no_larger = omega (arith, h.2, few, ap length e, length-append (formula ++ extra) (right_bracket ∷ mark 46 ∷ []), length-append formula extra) } }

-- What was read has what each meaning of some of the tokens has.
pub parsed_has : {M : Type 0} {Means : M → List defs.Token → Type 0} {Follows : List defs.Token → Type 0} (P : M → Type 0) (tokens : List Lexeme)
    → ((m : M) (used : List defs.Token) → length used ≤ length tokens → Means m used → P m)
    → (m : M) (rest : List defs.Token) → ReadsTokens Means Follows (tokens_of tokens) (Some (m, rest)) → P m
parsed_has P tokens law m rest p =
    let h = p.found m rest refl in
    law m h.0 (omega (arith, ap length h.1 ∙ length-append h.0 rest, length-map tokens token_of)) h.2

-- And so has what was found.
module _ {X M : Type 0} (view : X → M) {Means : M → List defs.Token → Type 0} {Follows : List defs.Token → Type 0} (P : M → Type 0) (tokens : List Lexeme)
    (law : (m : M) (used : List defs.Token) → length used ≤ length tokens → Means m used → P m) where
  pub found_has : (result : Option (X × Bor (List Lexeme))) → Reads view Means Follows tokens result → IfFound (λ x. P (view x)) result
  found_has None p = tt
  found_has (Some (x, behind)) p = parsed_has P tokens law (view x) (tokens_of behind.now) p

-- ---- how large a pattern is
-- a term of several occurrences takes more tokens, for its brackets
term_slack : (t : Term) (ts : List defs.Token) → IsTerm t ts → (terms.size t ≡ 1) ⊎ (terms.size t + 2 ≤ length ts)
term_slack (terms.var x) ts e = inl refl
term_slack (terms.app s terms.none) ts h = inl refl
term_slack (terms.app s (terms.more u us)) ts (on_side, with_arity, (t, first, others, head, one, all, e)) =
    let h = sound_term u first one in
    let k = sound_more us others all in
    inr (slack t first others ts (terms.size u) (terms.sizes us) e h.1 k.1)

-- so it has no more than one token less allows, unless that is none
small_term : (t : Term) (ts : List defs.Token) → IsTerm t ts → length ts ≤ MOST_BYTES → terms.size t ≤ MOST_OCCURRENCES
small_term t ts h few = elim (term_slack t ts h) [ inl e ↦ omega (arith, e) | inr l ↦ omega (arith, l, few) ]

-- two sides of an equation: each is one occurrence, or has brackets
small_sides : (sign : defs.Token) (s : Symbol) (l : Term) (us : Terms) (ts : List defs.Token) → AreSides sign s l us ts → length ts ≤ MOST_BYTES
    → terms.size (terms.app s (terms.more l us)) ≤ MOST_OCCURRENCES
small_sides sign s l terms.none ts h few = absurd h
small_sides sign s l (terms.more r (terms.more u us)) ts h few = absurd h
small_sides sign s l (terms.more r terms.none) ts (is, (left, right, one, two, e)) few =
    let h = sound_term l left one in
    let k = sound_term r right two in
    elim (term_slack l left one) [
      | inl a ↦ elim (term_slack r right two) [ inl b ↦ omega (arith, a, b) | inr b ↦ omega (arith, a, b, few, ap length e, length-append left (sign ∷ right)) ]
      | inr a ↦ omega (arith, a, k.1, few, ap length e, length-append left (sign ∷ right))
    ]

small_atom : (m : Term) (ts : List defs.Token) → IsAtom m ts → length ts ≤ MOST_BYTES → terms.size m ≤ MOST_OCCURRENCES
small_atom (terms.var x) ts h few = absurd h
small_atom (terms.app s terms.none) ts h few = omega arith
small_atom (terms.app s (terms.more u us)) ts (inl (on_side, with_arity, (t, first, others, head, one, all, e))) few =
    let h = sound_term u first one in
    let k = sound_more us others all in
    let l = slack t first others ts (terms.size u) (terms.sizes us) e h.1 k.1 in
    omega (arith, l, few)
small_atom (terms.app s (terms.more u us)) ts (inr h) few = small_sides (mark 61) s u us ts h few

small_inequation : (m : Term) (ts : List defs.Token) → IsInequation m ts → length ts ≤ MOST_BYTES → terms.size m ≤ MOST_OCCURRENCES
small_inequation (terms.var x) ts h few = absurd h
small_inequation (terms.app s terms.none) ts h few = absurd h
small_inequation (terms.app s (terms.more u us)) ts h few = small_sides not_equal s u us ts h few

small_signed : (positive : Bool) (m : Term) (ts : List defs.Token) → IsSignedAtom positive m ts → length ts ≤ MOST_BYTES → terms.size m ≤ MOST_OCCURRENCES
small_signed true m ts h few = small_atom m ts h few
small_signed false m ts (inl (us, h, e)) few = small_atom m us h (omega (arith, few, ap length e))
small_signed false m ts (inr (inl (us, h, e))) few = small_atom m us h (omega (arith, few, ap length e, length-append us (right_bracket ∷ [])))
small_signed false m ts (inr (inr h)) few = small_inequation m ts h few

-- ---- what was found
-- a term of few tokens is a sound pattern
pub found_term : (tokens : List Lexeme) → length tokens ≤ MOST_BYTES → (t : Term) (used : List defs.Token) → length used ≤ length tokens → IsTerm t used → IsSoundPattern (term_pattern t)
found_term tokens few t used l h = ((sound_term t used h).0, small_term t used h (omega (arith, l, few)))

-- and so is a literal
pub found_literal : (tokens : List Lexeme) → length tokens ≤ MOST_BYTES → (l : Literal) (used : List defs.Token) → length used ≤ length tokens → IsLiteral l used → IsSoundPattern (literal_pattern l)
found_literal tokens few l used n h = ((sound_literal l used h).0, small_signed l.positive l.atom used h (omega (arith, n, few)))

-- literals after a bar have fewer occurrences than there are tokens
small_more_literals : (ls : List Literal) (ts : List defs.Token) → (ls ≡ [] → ⊥) → AreMoreLiterals ls ts → literals_size ls + 1 ≤ length ts
small_more_literals [] ts some h = absurd (some refl)
small_more_literals (l ∷ ls) ts some (first, others, one, all, e) =
    omega (arith, (sound_literal l first one).1, (sound_more_literals ls others all).1, ap length e, length-append first others)

-- one literal has few, as a pattern has, and several have a bar between them
small_literals : (l : Literal) (ls : List Literal) (first others ts : List defs.Token) → IsLiteral l first → AreMoreLiterals ls others → ts ≡ first ++ others
    → length ts ≤ MOST_BYTES → literals_size (l ∷ ls) ≤ MOST_OCCURRENCES
small_literals l [] first others ts one all e few =
    omega (arith, small_signed l.positive l.atom first one (omega (arith, few, ap length e, length-append first others)))
small_literals l (k ∷ ks) first others ts one all e few =
    omega (arith, (sound_literal l first one).1, small_more_literals (k ∷ ks) others (λ f. cc) all, few, ap length e, length-append first others)

small_disjunction : (ls : List Literal) (ts : List defs.Token) → IsDisjunction ls ts → length ts ≤ MOST_BYTES → literals_size ls ≤ MOST_OCCURRENCES
small_disjunction [] ts h few = absurd h
small_disjunction (l ∷ ls) ts (first, others, one, all, e) few = small_literals l ls first others ts one all e few

-- so the literals of a formula of few tokens are sound
pub found_formula : (tokens : List Lexeme) → length tokens ≤ MOST_BYTES → (ls : List Literal) (used : List defs.Token) → length used ≤ length tokens → IsFormula ls used → AreSoundLiterals ls
found_formula tokens few ls used fits (n, inner, h, e) =
    record {
      each = (sound_disjunction ls inner h).1;
      no_larger = small_disjunction ls inner h
          (omega (arith, few, fits, ap length e, length-append (replicate n left_bracket ++ inner) (replicate n right_bracket), length-append (replicate n left_bracket) inner));
    }

-- and a clause of few tokens is sound
pub found_clause : (tokens : List Lexeme) → length tokens ≤ MOST_BYTES → (c : Clause) (used : List defs.Token) → length used ≤ length tokens → IsClause c used → IsSoundClause c
found_clause tokens few c used h means = sound_clause c used means (omega (arith, few, h))
