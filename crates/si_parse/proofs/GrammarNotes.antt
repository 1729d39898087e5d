-- Annotations and the end of a clause: what the readers of them give.
use Rattle.std.proofs.Common.{◌≡◌, ◌≢◌, ℕ, Bool, true, false, ◌==◌, cond, List, [], ◌∷◌, ◌++◌, Option, Some, None, refl, sym, ap, ◌∙◌, subst, append_assoc, arith}
use Rattle.std.proofs.lemmas.Option.{same_Some, none-some}
use Rattle.std.proofs.lemmas.Bool.{ne_eqb, eqb-true}
use Rattle.si_defs.specs.Bytes.{Bytes}
use Rattle.si_defs.specs.Tokens.{Token, mark}
use Rattle.si_defs.specs.Grammar.{Bracket, round, square, neither, opening_of, closing_of, brackets_behind, right_bracket, comma}
use Rattle.si_defs.specs.declared.TokenKind.{TokenKind}
use Rattle.si_defs.specs.declared.TokenKind.TheVariants as token
use Rattle.si_defs.proofs.ListLaws.{same_first, same_tail}
use Rattle.si_lex.proofs.BracketLaws.{and_then, open_after, balanced_open, open_balanced}
use Rattle.si_parse.specs.Parsing.{ReadsTokens, Anything, NoLiteral}
use Rattle.si_parse.specs.GrammarRules.{AreAnnotations, IsClosed}
use Rattle.si_parse.proofs.GrammarTerms.{marks_apart, mark_unequal}
use Rattle.si_parse.proofs.GrammarFormulas.{right_no_literal}
use Rattle.si_parse.proofs.ParseSteps.{parses_none, parses_some}

-- ---- the end of annotations
-- How some tokens stand beside annotations and their bracket: those end here, or the next token is
-- one of them.
pub data Beside (front notes : List Token) (t : Token) (stack : List Bracket) (rest behind : List Token) : Type 0 where
  ends : front ≡ notes → stack ≡ [] → t ≡ right_bracket → rest ≡ behind → Beside front notes t stack rest behind
  goes_on : (next : List Bracket) → brackets_behind t stack ≡ Some next → Beside front notes t stack rest behind

-- one more token before both
beside_more : (u v : Token) (front notes : List Token) (t : Token) (stack : List Bracket) (rest behind : List Token) → u ≡ v → Beside front notes t stack rest behind → Beside (u ∷ front) (v ∷ notes) t stack rest behind
beside_more u v front notes t stack rest behind e (ends f g h k) = ends (λ i. e i ∷ f i) g h k
beside_more u v front notes t stack rest behind e (goes_on next f) = goes_on next f

pub beside : (front notes : List Token) (t : Token) (pending stack : List Bracket) (rest behind : List Token) → open_after front pending ≡ Some stack → open_after notes pending ≡ Some []
    → front ++ t ∷ rest ≡ notes ++ right_bracket ∷ behind → Beside front notes t stack rest behind
beside [] [] t pending stack rest behind h k e = ends refl (sym (same_Some pending stack h) ∙ same_Some pending [] k) (same_first e) (same_tail e)
beside [] (u ∷ us) t pending stack rest behind h k e = by (brackets_behind u pending) refl k where
  by : (o : Option (List Bracket)) → brackets_behind u pending ≡ o → and_then (open_after us) o ≡ Some [] → Beside [] (u ∷ us) t stack rest behind
  by None f g = absurd (none-some [] g)
  by (Some next) f g = goes_on next (ap (λ x. brackets_behind x stack) (same_first e) ∙ ap (brackets_behind u) (sym (same_Some pending stack h)) ∙ f)
beside (f ∷ fs) [] t pending stack rest behind h k e =
    absurd (none-some stack (sym (ap (λ p. and_then (open_after fs) (brackets_behind right_bracket p)) (same_Some pending [] k)) ∙ ap (λ x. and_then (open_after fs) (brackets_behind x pending)) (sym (same_first e)) ∙ h))
beside (f ∷ fs) (u ∷ us) t pending stack rest behind h k e =
    by (λ p g l. beside fs us t p stack rest behind g l (same_tail e)) (brackets_behind f pending) h (ap (λ x. and_then (open_after us) (brackets_behind x pending)) (same_first e) ∙ k) where
      by : ((p : List Bracket) → open_after fs p ≡ Some stack → open_after us p ≡ Some [] → Beside fs us t stack rest behind)
          → (o : Option (List Bracket)) → and_then (open_after fs) o ≡ Some stack → and_then (open_after us) o ≡ Some [] → Beside (f ∷ fs) (u ∷ us) t stack rest behind
      by again None g l = absurd (none-some stack g)
      by again (Some p) g l = beside_more f u fs us t stack rest behind (same_first e) (again p g l)

-- after annotations and their bracket nothing balances
overrun : (notes behind : List Token) (pending stack : List Bracket) → open_after notes pending ≡ Some [] → open_after (notes ++ right_bracket ∷ behind) pending ≡ Some stack → ⊥
overrun [] behind pending stack h k = none-some stack (sym (ap (λ p. and_then (open_after behind) (brackets_behind right_bracket p)) (same_Some pending [] h)) ∙ k)
overrun (u ∷ us) behind pending stack h k = by (λ p f g. overrun us behind p stack f g) (brackets_behind u pending) h k where
  by : ((p : List Bracket) → open_after us p ≡ Some [] → open_after (us ++ right_bracket ∷ behind) p ≡ Some stack → ⊥)
      → (o : Option (List Bracket)) → and_then (open_after us) o ≡ Some [] → and_then (open_after (us ++ right_bracket ∷ behind)) o ≡ Some stack → ⊥
  by again None f g = none-some [] f
  by again (Some p) f g = again p f g

-- ---- annotations
-- annotations as what is passed
abbrev pub Notes : Unit {0} → List Token → Type 0
Notes u used = AreAnnotations used

-- a closing bracket where none is open ends the annotations, if some stand before it
pub annotations_some : (front rest tokens : List Token) → open_after front [] ≡ Some [] → tokens ≡ front ++ right_bracket ∷ rest → front ≢ [] → ReadsTokens Notes Anything tokens (Some (tt {0}, rest))
annotations_some front rest tokens h e some =
    parses_some tt (front ++ right_bracket ∷ []) rest (e ∙ sym (append_assoc front (right_bracket ∷ []) rest)) (front, some, open_balanced front [] h, refl) unique where
      by : (notes behind : List Token) → Beside front notes right_bracket [] rest behind → rest ≡ behind
      by notes behind (ends f g k l) = l
      by notes behind (goes_on next f) = absurd (none-some next f)

      unique : (u : Unit {0}) (used behind : List Token) → tokens ≡ used ++ behind → AreAnnotations used → Anything behind → (◌≡◌ {A = Unit {0}} tt u) × (rest ≡ behind)
      unique u used behind f (notes, more, balanced, g) any =
          (refl, by notes behind (beside front notes right_bracket [] [] rest behind h (balanced_open notes [] balanced) (sym e ∙ f ∙ ap (λ x. x ++ behind) g ∙ append_assoc notes (right_bracket ∷ []) behind)))

-- a closing bracket at once ends nothing
pub annotations_empty : (rest tokens : List Token) → tokens ≡ right_bracket ∷ rest → ReadsTokens Notes Anything tokens None
annotations_empty rest tokens e = parses_none never where
  by : (notes behind : List Token) → Beside [] notes right_bracket [] rest behind → notes ≢ [] → ⊥
  by notes behind (ends f g k l) some = some (sym f)
  by notes behind (goes_on next f) some = none-some next f

  never : (u : Unit {0}) (used behind : List Token) → tokens ≡ used ++ behind → AreAnnotations used → Anything behind → ⊥
  never u used behind f (notes, some, balanced, g) any =
      by notes behind (beside [] notes right_bracket [] [] rest behind refl (balanced_open notes [] balanced) (sym e ∙ f ∙ ap (λ x. x ++ behind) g ∙ append_assoc notes (right_bracket ∷ []) behind)) some

-- a token that closes another bracket than the last
pub annotations_fail : (front rest tokens : List Token) (t : Token) (stack : List Bracket) → open_after front [] ≡ Some stack → tokens ≡ front ++ t ∷ rest → brackets_behind t stack ≡ None
    → (t ≡ right_bracket → stack ≡ [] → ⊥) → ReadsTokens Notes Anything tokens None
annotations_fail front rest tokens t stack h e fails not_end = parses_none never where
  by : (notes behind : List Token) → Beside front notes t stack rest behind → ⊥
  by notes behind (ends f g k l) = not_end k g
  by notes behind (goes_on next f) = none-some next (sym fails ∙ f)

  never : (u : Unit {0}) (used behind : List Token) → tokens ≡ used ++ behind → AreAnnotations used → Anything behind → ⊥
  never u used behind f (notes, some, balanced, g) any =
      by notes behind (beside front notes t [] stack rest behind h (balanced_open notes [] balanced) (sym e ∙ f ∙ ap (λ x. x ++ behind) g ∙ append_assoc notes (right_bracket ∷ []) behind))

-- tokens of which none closes too much hold no end of annotations
pub annotations_open : (tokens : List Token) (stack : List Bracket) → open_after tokens [] ≡ Some stack → ReadsTokens Notes Anything tokens None
annotations_open tokens stack h = parses_none never where
  never : (u : Unit {0}) (used behind : List Token) → tokens ≡ used ++ behind → AreAnnotations used → Anything behind → ⊥
  never u used behind f (notes, some, balanced, g) any =
      overrun notes behind [] stack (balanced_open notes [] balanced)
      (ap (λ x. open_after x []) (sym (f ∙ ap (λ x. x ++ behind) g ∙ append_assoc notes (right_bracket ∷ []) behind)) ∙ h)

-- ---- brackets by their tokens
-- a token that is neither mark opens nothing
pub opens_nothing : (t : Token) → (t ≡ mark 40 → ⊥) → (t ≡ mark 91 → ⊥) → opening_of t ≡ neither
opens_nothing t not_round not_square = by t.kind t.text (λ k e. not_round (λ i. record { kind = k i; text = e i })) (λ k e. not_square (λ i. record { kind = k i; text = e i })) where
  by : (kind : TokenKind) (text : Bytes) → (kind ≡ token.Mark → text ≡ 40 ∷ [] → ⊥) → (kind ≡ token.Mark → text ≡ 91 ∷ [] → ⊥) → opening_of (record { kind = kind; text = text }) ≡ neither
  by token.Lower text h k = refl
  by token.Upper text h k = refl
  by token.Dollar text h k = refl
  by token.Int text h k = refl
  by token.Single text h k = refl
  by token.Double text h k = refl
  by token.NotEqual text h k = refl
  by token.Mark [] h k = refl
  by token.Mark (c ∷ []) h k =
      ap (λ b. cond b round (cond (c == 91) square neither)) (ne_eqb c 40 (λ e. h refl (ap (λ x. x ∷ []) e))) ∙ ap (λ b. cond b square neither) (ne_eqb c 91 (λ e. k refl (ap (λ x. x ∷ []) e)))
  by token.Mark (c ∷ d ∷ ds) h k = refl

-- nor closes anything
pub closes_nothing : (t : Token) → (t ≡ mark 41 → ⊥) → (t ≡ mark 93 → ⊥) → closing_of t ≡ neither
closes_nothing t not_round not_square = by t.kind t.text (λ k e. not_round (λ i. record { kind = k i; text = e i })) (λ k e. not_square (λ i. record { kind = k i; text = e i })) where
  by : (kind : TokenKind) (text : Bytes) → (kind ≡ token.Mark → text ≡ 41 ∷ [] → ⊥) → (kind ≡ token.Mark → text ≡ 93 ∷ [] → ⊥) → closing_of (record { kind = kind; text = text }) ≡ neither
  by token.Lower text h k = refl
  by token.Upper text h k = refl
  by token.Dollar text h k = refl
  by token.Int text h k = refl
  by token.Single text h k = refl
  by token.Double text h k = refl
  by token.NotEqual text h k = refl
  by token.Mark [] h k = refl
  by token.Mark (c ∷ []) h k =
      ap (λ b. cond b round (cond (c == 93) square neither)) (ne_eqb c 41 (λ e. h refl (ap (λ x. x ∷ []) e))) ∙ ap (λ b. cond b square neither) (ne_eqb c 93 (λ e. k refl (ap (λ x. x ∷ []) e)))
  by token.Mark (c ∷ d ∷ ds) h k = refl

-- ---- the end of a clause
-- after a comma it goes on with annotations
pub closed_noted : (tokens rest : List Token) → tokens ≡ comma ∷ rest → (result : Option (Unit {0} × List Token)) → ReadsTokens Notes Anything rest result → ReadsTokens (λ (u : Unit {0}) used. IsClosed used) Anything tokens result
closed_noted tokens rest begins result p = record {
  found = λ u behind e. let h = p.found u behind e in found u behind h.0 h.1 h.2;
  every = λ u used behind e means follows. every u used behind e means;
} where
  found : (u : Unit {0}) (behind used : List Token) → rest ≡ used ++ behind → AreAnnotations used → (whole : List Token) × (tokens ≡ whole ++ behind) × IsClosed whole
  found u behind used e (notes, some, balanced, f) = (comma ∷ used, begins ∙ ap (λ x. comma ∷ x) e, (comma ∷ notes, (refl, some, balanced), ap (λ x. comma ∷ x) f))

  every : (u : Unit {0}) (used behind : List Token) → tokens ≡ used ++ behind → IsClosed used → result ≡ Some (u, behind)
  every u used behind e ([], extra, f) = absurd (marks_apart 44 41 (λ g. absurd (omega (arith, g))) (same_first (sym begins ∙ e ∙ ap (λ x. x ++ behind) f)))
  every u used behind e (t ∷ ts, (is, some, balanced), f) =
      p.every u (ts ++ right_bracket ∷ []) behind (same_tail (sym begins ∙ e ∙ ap (λ x. x ++ behind) f)) (ts, some, balanced, refl) tt

-- without a comma it is a closing bracket
pub closed_bare : (tokens : List Token) → ((rest : List Token) → tokens ≡ comma ∷ rest → ⊥) → (result : Option (Unit {0} × List Token)) → ReadsTokens (λ (u : Unit {0}) used. used ≡ mark 41 ∷ []) Anything tokens result
    → ReadsTokens (λ (u : Unit {0}) used. IsClosed used) Anything tokens result
closed_bare tokens none result p = record {
  found = λ u behind e. let h = p.found u behind e in (h.0, h.1, ([], tt, h.2));
  every = λ u used behind e means follows. every u used behind e means;
} where
  every : (u : Unit {0}) (used behind : List Token) → tokens ≡ used ++ behind → IsClosed used → result ≡ Some (u, behind)
  every u used behind e ([], extra, f) = p.every u used behind e f tt
  every u used behind e (t ∷ ts, (is, some, balanced), f) = absurd (none _ (e ∙ ap (λ x. x ++ behind) (f ∙ ap (λ x. x ∷ ts ++ right_bracket ∷ []) is)))

-- where a comma stands, no literal goes on
comma_no_literal : (rest : List Token) → NoLiteral (comma ∷ rest)
comma_no_literal rest =
    (marks_apart 44 40 (λ e. absurd (omega (arith, e))), (marks_apart 44 61 (λ e. absurd (omega (arith, e))), (mark_unequal 44, (marks_apart 44 124 (λ e. absurd (omega (arith, e))), tt))))

-- no literal goes on where a clause ends
pub closed_follows : (used rest : List Token) → IsClosed used → NoLiteral (used ++ rest)
closed_follows used rest ([], extra, f) = subst NoLiteral (ap (λ x. x ++ rest) (sym f)) (right_no_literal rest)
closed_follows used rest (t ∷ ts, (is, some, balanced), f) = subst NoLiteral (ap (λ x. x ++ rest) (sym (f ∙ ap (λ x. x ∷ ts ++ right_bracket ∷ []) is))) (comma_no_literal ((ts ++ right_bracket ∷ []) ++ rest))

-- a token that closes a round bracket is the mark
pub right_closes : (t : Token) → opening_of t ≡ neither → closing_of t ≡ round → t ≡ right_bracket
right_closes t h k = by t.kind t.text k where
  apart : neither ≡ round → ⊥
  apart e = cc

  other : square ≡ round → ⊥
  other e = cc

  by_other : (b : Bool) → cond b square neither ≡ round → ⊥
  by_other true e = other e
  by_other false e = apart e

  by_test : (c : ℕ) (b : Bool) → (c == 41) ≡ b → cond b round (cond (c == 93) square neither) ≡ round → mark c ≡ right_bracket
  by_test c true e f = ap mark (eqb-true c 41 e)
  by_test c false e f = absurd (by_other (c == 93) f)

  by : (kind : TokenKind) (text : Bytes) → closing_of (record { kind = kind; text = text }) ≡ round → record { kind = kind; text = text } ≡ right_bracket
  by token.Lower text e = absurd (apart e)
  by token.Upper text e = absurd (apart e)
  by token.Dollar text e = absurd (apart e)
  by token.Int text e = absurd (apart e)
  by token.Single text e = absurd (apart e)
  by token.Double text e = absurd (apart e)
  by token.NotEqual text e = absurd (apart e)
  by token.Mark [] e = absurd (apart e)
  by token.Mark (c ∷ []) e = by_test c (c == 41) refl e
  by token.Mark (c ∷ d ∷ ds) e = absurd (apart e)
