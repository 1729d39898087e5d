-- Formulas: what the readers of them give.
use Rattle.std.proofs.Common.{◌≡◌, ℕ, zero, suc, ◌+◌, ◌<◌, Bool, true, false, List, [], ◌∷◌, ◌++◌, replicate, Some, None, refl, sym, ap, ◌∙◌, subst, append_assoc, arith, inl, inr}
use Rattle.si_defs.specs.Clauses.{Term, Literal}
use Rattle.si_defs.specs.Tokens.{Token, mark}
use Rattle.si_defs.specs.Grammar.{IsSignedAtom, IsLiteral, AreMoreLiterals, IsDisjunction, IsFormula, left_bracket, right_bracket}
use Rattle.si_defs.proofs.ListLaws.{same_tail}
use Rattle.si_parse.specs.Parsing.{ReadsTokens, Anything, NoBracket, NoEquation, NoLiteral}
use Rattle.si_parse.specs.GrammarRules.{AreMore, AreLiterals, AreClosing, positively}
use Rattle.si_parse.proofs.ParseSteps.{parses_none, parses_some, parses_uses, parses_one, parses_never}
use Rattle.si_parse.proofs.GrammarTerms.{marks_apart, mark_unequal, no_bracket, opens}
use Rattle.si_parse.proofs.GrammarLiterals.{statement_first, mark_no_first, negatively}

-- ---- literals with bars between them
-- what may follow the last literal may follow a literal
pub literal_last : (rest : List Token) → NoLiteral rest → NoEquation rest
literal_last [] h = tt
literal_last (t ∷ ts) h = (h.0, (h.1.0, (h.1.1.0, tt)))

-- a bar is no sign
pub bar_no_equation : (rest : List Token) → NoEquation (mark 124 ∷ rest)
bar_no_equation rest = (marks_apart 124 40 (λ e. absurd (omega (arith, e))), (marks_apart 124 61 (λ e. absurd (omega (arith, e))), (mark_unequal 124, tt)))

-- the last literal has no bar after it
pub bar_stops : (rest : List Token) → NoLiteral (mark 124 ∷ rest) → ⊥
bar_stops rest h = h.1.1.1.0 refl

-- where a closing bracket stands, no literal goes on
pub right_no_literal : (rest : List Token) → NoLiteral (right_bracket ∷ rest)
right_no_literal rest =
    (marks_apart 41 40 (λ e. absurd (omega (arith, e))), (marks_apart 41 61 (λ e. absurd (omega (arith, e))), (mark_unequal 41, (marks_apart 41 124 (λ e. absurd (omega (arith, e))), tt))))

more_literals : (ls : List Literal) (ts : List Token) → AreMoreLiterals ls ts → AreMore IsLiteral (mark 124) ls ts
more_literals [] ts h = h
more_literals (l ∷ ls) ts (first, others, one, all, e) = (first, others, one, more_literals ls others all, e)

literals_more : (ls : List Literal) (ts : List Token) → AreMore IsLiteral (mark 124) ls ts → AreMoreLiterals ls ts
literals_more [] ts h = h
literals_more (l ∷ ls) ts (first, others, one, all, e) = (first, others, one, literals_more ls others all, e)

-- a disjunction is a row of literals
literals_of : (ls : List Literal) (ts : List Token) → IsDisjunction ls ts → AreLiterals ls ts
literals_of [] ts h = h
literals_of (l ∷ ls) ts (first, others, one, all, e) = (first, others, one, more_literals ls others all, e)

disjunction_of : (ls : List Literal) (ts : List Token) → AreLiterals ls ts → IsDisjunction ls ts
disjunction_of [] ts h = h
disjunction_of (l ∷ ls) ts (first, others, one, all, e) = (first, others, one, literals_more ls others all, e)

-- ---- brackets
-- a literal begins with no bracket
begins_bare : (positive : Bool) (m : Term) (ts rest : List Token) → IsSignedAtom positive m ts → NoBracket (ts ++ rest)
begins_bare true m ts rest h = let f = statement_first (positively m) ts h in no_bracket f.0 (f.1 ++ rest) (ts ++ rest) (ap (λ x. x ++ rest) f.3) (λ e. mark_no_first 40 f.0 f.2 (sym e))
begins_bare false m ts rest (inl (us, h, e)) = no_bracket (mark 126) (us ++ rest) (ts ++ rest) (ap (λ x. x ++ rest) e) (marks_apart 126 40 (λ f. absurd (omega (arith, f))))
begins_bare false m ts rest (inr (inl (us, h, e))) = no_bracket (mark 126) ((left_bracket ∷ us ++ right_bracket ∷ []) ++ rest) (ts ++ rest) (ap (λ x. x ++ rest) e) (marks_apart 126 40 (λ f. absurd (omega (arith, f))))
begins_bare false m ts rest (inr (inr h)) = let f = statement_first (negatively m) ts h in no_bracket f.0 (f.1 ++ rest) (ts ++ rest) (ap (λ x. x ++ rest) f.3) (λ e. mark_no_first 40 f.0 f.2 (sym e))

-- neither does a row of them
literals_bare : (ls : List Literal) (ts rest : List Token) → AreLiterals ls ts → NoBracket (ts ++ rest)
literals_bare [] ts rest h = absurd h
literals_bare (l ∷ ls) ts rest (first, others, one, all, e) =
    subst NoBracket (sym (ap (λ x. x ++ rest) e ∙ append_assoc first others rest)) (begins_bare l.positive l.atom first (others ++ rest) one)

-- as many brackets stand before what begins with none
pub same_brackets : (n m : ℕ) (xs ys : List Token) → NoBracket xs → NoBracket ys → replicate n left_bracket ++ xs ≡ replicate m left_bracket ++ ys → (n ≡ m) × (xs ≡ ys)
same_brackets zero zero xs ys h k e = (refl, e)
same_brackets zero (suc m) xs ys h k e = absurd (opens xs _ h e)
same_brackets (suc n) zero xs ys h k e = absurd (opens ys _ k (sym e))
same_brackets (suc n) (suc m) xs ys h k e = let same = same_brackets n m xs ys h k (same_tail e) in (ap suc same.0, same.1)

-- closing brackets, and what may follow the last literal
pub closing_follows : (n : ℕ) (rest : List Token) → NoLiteral rest → NoLiteral (replicate n right_bracket ++ rest)
closing_follows zero rest h = h
closing_follows (suc n) rest h = right_no_literal (replicate n right_bracket ++ rest)

-- one more bracket
pub replicate_more : (n : ℕ) (t : Token) (rest : List Token) → replicate n t ++ t ∷ rest ≡ replicate (n + 1) t ++ rest
replicate_more n t rest = by n ∙ ap (λ k. replicate k t ++ rest) counted where
  by : (n : ℕ) → replicate n t ++ t ∷ rest ≡ replicate (suc n) t ++ rest
  by zero = refl
  by (suc n) = ap (λ x. t ∷ x) (by n)

  counted : suc n ≡ n + 1
  counted = omega arith

-- ---- formulas
-- A formula with its brackets: so many opening ones, what stands after them, and so many closing
-- ones.
module _ {tokens inner : List Token} (n : ℕ) (opened : tokens ≡ replicate n left_bracket ++ inner) (bare : NoBracket inner) where
  formula_by : (R : List Literal → List Token → Type 0) → ((ls : List Literal) (front after : List Token) → AreLiterals ls front → inner ≡ front ++ (replicate n right_bracket ++ after) → NoLiteral (replicate n right_bracket ++ after) → R ls after)
      → (ls : List Literal) (used after : List Token) → tokens ≡ used ++ after → IsFormula ls used → NoLiteral after → R ls after
  formula_by R k ls used after e (m, front, h, f) follows =
      let row = literals_of ls front h in
      let whole : replicate n left_bracket ++ inner ≡ replicate m left_bracket ++ (front ++ (replicate m right_bracket ++ after)) =
      sym opened ∙ e ∙ ap (λ x. x ++ after) f ∙ append_assoc (replicate m left_bracket ++ front) (replicate m right_bracket) after
      ∙ append_assoc (replicate m left_bracket) front (replicate m right_bracket ++ after) in
      let same = same_brackets n m inner (front ++ (replicate m right_bracket ++ after)) bare (literals_bare ls front (replicate m right_bracket ++ after) row) whole in
      k ls front after row (same.1 ∙ ap (λ x. front ++ (replicate x right_bracket ++ after)) (sym same.0)) (closing_follows n after follows)

  pub formula_none : ReadsTokens AreLiterals NoLiteral inner None → ReadsTokens IsFormula NoLiteral tokens None
  formula_none p = parses_none (formula_by (λ ls after. ⊥) (λ ls front after row e follows. parses_never p ls front (replicate n right_bracket ++ after) e row follows))

  module _ {literals : List Literal} {behind : List Token} (p : ReadsTokens AreLiterals NoLiteral inner (Some (literals, behind))) where
    pub formula_stop : ReadsTokens (λ (u : Unit {0}) used. AreClosing n used) Anything behind None → ReadsTokens IsFormula NoLiteral tokens None
    formula_stop q = parses_none (formula_by (λ ls after. ⊥) (λ ls front after row e follows.
        let same = parses_one p ls front (replicate n right_bracket ++ after) e row follows in
        parses_never q tt (replicate n right_bracket) after same.1 refl tt))

    pub formula_some : {rest : List Token} → ReadsTokens (λ (u : Unit {0}) used. AreClosing n used) Anything behind (Some (tt {0}, rest)) → ReadsTokens IsFormula NoLiteral tokens (Some (literals, rest))
    formula_some {rest = rest} q =
        let h = parses_uses literals behind p in
        let k = parses_uses tt rest q in
        let closes = ap (λ x. x ++ rest) k.2 in
        parses_some literals ((replicate n left_bracket ++ h.0) ++ replicate n right_bracket) rest
        (opened ∙ ap (λ x. replicate n left_bracket ++ x) (h.1 ∙ ap (λ x. h.0 ++ x) (k.1 ∙ closes))
        ∙ sym (append_assoc (replicate n left_bracket) h.0 (replicate n right_bracket ++ rest))
        ∙ sym (append_assoc (replicate n left_bracket ++ h.0) (replicate n right_bracket) rest))
        (n, h.0, disjunction_of literals h.0 h.2, refl)
        (formula_by (λ ls after. (literals ≡ ls) × (rest ≡ after)) (λ ls front after row e follows.
        let same = parses_one p ls front (replicate n right_bracket ++ after) e row follows in
        (same.0, (parses_one q tt (replicate n right_bracket) after same.1 refl tt).1)))

-- ---- closing brackets one after another
-- so many stand in front of what is left
same_front : (n : ℕ) (xs ys : List Token) → replicate n right_bracket ++ xs ≡ replicate n right_bracket ++ ys → xs ≡ ys
same_front zero xs ys e = e
same_front (suc n) xs ys e = same_front n xs ys (same_tail e)

pub closing_some : (n : ℕ) (tokens left : List Token) → tokens ≡ replicate n right_bracket ++ left → ReadsTokens (λ (u : Unit {0}) used. AreClosing n used) Anything tokens (Some (tt {0}, left))
closing_some n tokens left e = parses_some tt (replicate n right_bracket) left e refl (λ u used after f means follows.
    (refl, same_front n left after (sym e ∙ f ∙ ap (λ x. x ++ after) means)))

-- fewer stand there
one_more : (i n : ℕ) (left after : List Token) → i < n → replicate i right_bracket ++ left ≡ replicate n right_bracket ++ after → (rest : List Token) × (left ≡ right_bracket ∷ rest)
one_more i zero left after h e = absurd (omega (arith, h))
one_more zero (suc n) left after h e = (replicate n right_bracket ++ after, e)
one_more (suc i) (suc n) left after h e = one_more i n left after (omega (arith, h)) (same_tail e)

pub closing_none : (n i : ℕ) (tokens left : List Token) → i < n → tokens ≡ replicate i right_bracket ++ left → ((rest : List Token) → left ≡ right_bracket ∷ rest → ⊥)
    → ReadsTokens (λ (u : Unit {0}) used. AreClosing n used) Anything tokens None
closing_none n i tokens left h e none = parses_none (λ u used after f means follows.
    let k = one_more i n left after h (sym e ∙ f ∙ ap (λ x. x ++ after) means) in none k.0 k.1)

-- nothing begins with no token
pub none_empty : {tokens : List Token} {t : Token} → tokens ≡ [] → (rest : List Token) → tokens ≡ t ∷ rest → ⊥
none_empty e rest f = cc
