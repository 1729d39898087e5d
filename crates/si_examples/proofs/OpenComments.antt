-- What is no blank.
use Rattle.std.proofs.Common.{◌≡◌, true, false, ◌&&◌, ◌==◌, [], ◌∷◌, ◌++◌, refl, ap, sym, ◌∙◌, subst, ◌⊎◌, inl, inr, append_assoc}
use Rattle.std.proofs.lemmas.Bool.{false≢true, or_right}
use Rattle.si_defs.specs.Bytes.{Bytes, is_white}
use Rattle.si_defs.specs.Tokens.{Token, white, line_comment, block_comment, AreBlanks, IsLineComment, TokenAt, NextToken, has_close, begins_with}
use Rattle.si_lex.specs.Blanks.{NoBlankAt}
use Rattle.si_lex.proofs.BlankLaws.{skips_none}

-- where a comment is closed, its end is found
close_found : (body rest : Bytes) → has_close (body ++ 42 ∷ 47 ∷ rest) ≡ true
close_found [] rest = refl
close_found (c ∷ body) rest = or_right (c == 42 && begins_with 47 (body ++ 42 ∷ 47 ∷ rest)) (has_close (body ++ 42 ∷ 47 ∷ rest)) (close_found body rest)

abbrev rest_of : Bytes → Bytes
rest_of [] = []
rest_of (c ∷ cs) = cs

-- a comment that is not closed is no blank
open_here : (cs : Bytes) → has_close cs ≡ false → NoBlankAt (47 ∷ 42 ∷ cs)
open_here cs h b rest (white c e w) f = let same : 47 ≡ c = let g = f ∙ ap (λ x. x ++ rest) e in cc in false≢true (ap is_white same ∙ w)
open_here cs h b rest (line_comment comment e k) f =
    false≢true (ap (begins_with 37) (f ∙ ap (λ x. x ++ rest) e ∙ ap (λ x. x ++ 10 ∷ [] ++ rest) k.1))
open_here cs h b rest (block_comment k) f =
    let e : cs ≡ k.0 ++ 42 ∷ 47 ∷ rest = ap (λ x. rest_of (rest_of x)) (f ∙ ap (λ x. x ++ rest) k.1) ∙ append_assoc k.0 (42 ∷ 47 ∷ []) rest in
    false≢true (sym h ∙ ap has_close e ∙ close_found k.0 rest)

-- so neither blanks nor a token stand there
pub open_comment : (cs : Bytes) → has_close cs ≡ false → AreBlanks (47 ∷ 42 ∷ cs) → ⊥
open_comment cs h a = by (skips_none (47 ∷ 42 ∷ cs) a.rest (open_here cs h) a.skips) a.ends where
  by : a.rest ≡ 47 ∷ 42 ∷ cs → (a.rest ≡ []) ⊎ IsLineComment a.rest → ⊥
  by e (inl n) = let f = sym e ∙ n in cc
  by e (inr k) = false≢true (ap (begins_with 37) (sym e ∙ k.1))

pub no_token_there : (cs : Bytes) → has_close cs ≡ false → (t : Token) (rest : Bytes) → NextToken (47 ∷ 42 ∷ cs) t rest → ⊥
no_token_there cs h t rest n =
    let here = subst (λ p. TokenAt p t rest) (skips_none (47 ∷ 42 ∷ cs) n.place (open_here cs h) n.skips) n.stands in
    false≢true (sym here.no_comment)
