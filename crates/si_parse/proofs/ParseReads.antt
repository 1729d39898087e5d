-- What a reader of the program's tokens gives, said of the tokens that they stand for.
use Rattle.std.proofs.Common.{◌≡◌, ◌≢◌, ℕ, suc, add-one, drop-cons, ◌+◌, ◌-◌, ◌≤◌, ◌<◌, List, [], ◌∷◌, ◌++◌, length, take, drop, get_or, Option, Some, None, refl, sym, ap, ◌∙◌, subst, arith, Bor}
use Rattle.std.proofs.lemmas.List.{take_all, take_more, take_rest, take-append-drop, length-take-le, length-append, length-map}
use Rattle.si_defs.specs.Tokens.{Token, mark}
use Rattle.si_parse.specs.Parsing.{ReadsTokens, Reads, PassesTokens, Anything}
use Rattle.si_lex.specs.Lexemes.{token_of, tokens_of}
use Rattle.si_lex.specs.declared.lexeme.Lexeme.{Lexeme}
use Rattle.si_defs.specs.declared.TokenKind.TheVariants.{Lower}
use Rattle.si_parse.proofs.ParseSteps.{parses_never}

-- what goals write for a token where there is none
abbrev pub no_lexeme : Lexeme
no_lexeme = record { kind = Lower; spelling = record { ref_ptr = (0, 0); now = [] } }

-- the token at a place of a slice
abbrev pub token_at : List Lexeme → ℕ → Lexeme
token_at ts n = get_or ts n no_lexeme

-- the others after the first
abbrev pub others_of : List Lexeme → List Lexeme
others_of ts = take (length ts - 1) (drop 1 ts)

-- the first token of a slice stands in front of the others
pub first_token : (ts : List Lexeme) → 1 ≤ length ts → tokens_of ts ≡ token_of (token_at ts 0) ∷ tokens_of (others_of ts)
first_token [] h = absurd (omega arith)
first_token (t ∷ ts) h = ap (λ x. token_of t ∷ tokens_of x) (sym (take_all (length (t ∷ ts) - 1) ts (omega arith)))

-- a slice without a first token is empty
pub no_token : (ts : List Lexeme) → length ts < 1 → tokens_of ts ≡ []
no_token [] h = refl
no_token (t ∷ ts) h = absurd (omega arith)

-- the others are fewer by one
pub others_shorter : (ts : List Lexeme) → 1 ≤ length ts → length (others_of ts) < length ts
others_shorter [] h = absurd (omega arith)
others_shorter (t ∷ ts) h = omega (arith, ap length (take_all (length (t ∷ ts) - 1) ts (omega arith)))

module _ {X M : Type 0} (view : X → M) {Means : M → List Token → Type 0} {Follows : List Token → Type 0} (tokens : List Lexeme) where
  -- what was read
  pub reads_some : {result : Option (X × Bor (List Lexeme))} {x : X} {behind : Bor (List Lexeme)} → Reads view Means Follows tokens result → result ≡ Some (x, behind)
      → ReadsTokens Means Follows (tokens_of tokens) (Some (view x, tokens_of behind.now))
  reads_some p e = subst (λ r. Reads view Means Follows tokens r) e p

  -- that nothing was read
  pub reads_none : {result : Option (X × Bor (List Lexeme))} → Reads view Means Follows tokens result → result ≡ None
      → ReadsTokens Means Follows (tokens_of tokens) None
  reads_none p e = subst (λ r. Reads view Means Follows tokens r) e p

-- what is left after what was passed
pub passes_some : {Spelled : List Token → Type 0} {result : Option (Bor (List Lexeme))} {behind : Bor (List Lexeme)} (tokens : List Lexeme) → PassesTokens Spelled tokens result → result ≡ Some behind
    → ReadsTokens (λ (u : Unit {0}) used. Spelled used) Anything (tokens_of tokens) (Some (tt {0}, tokens_of behind.now))
passes_some {Spelled = Spelled} tokens p e = subst (λ r. PassesTokens Spelled tokens r) e p

-- that nothing was passed
pub passes_none : {Spelled : List Token → Type 0} {result : Option (Bor (List Lexeme))} (tokens : List Lexeme) → PassesTokens Spelled tokens result → result ≡ None
    → ReadsTokens (λ (u : Unit {0}) used. Spelled used) Anything (tokens_of tokens) None
passes_none {Spelled = Spelled} tokens p e = subst (λ r. PassesTokens Spelled tokens r) e p

-- what is left is no longer than the tokens are
pub left_shorter : {M : Type 0} {m : M} {Means : M → List Token → Type 0} {Follows : List Token → Type 0} (tokens behind : List Lexeme) → ReadsTokens Means Follows (tokens_of tokens) (Some (m, tokens_of behind))
    → length behind ≤ length tokens
left_shorter {m = m} tokens behind p =
    let h = p.found m (tokens_of behind) refl in
    omega (arith, ap length h.1 ∙ length-append h.0 (tokens_of behind), length-map tokens token_of, length-map behind token_of)

-- what stands after a mark
pub mark_front : {c : ℕ} {ts rest : List Token} → ReadsTokens (λ (u : Unit {0}) used. used ≡ mark c ∷ []) Anything ts (Some (tt {0}, rest)) → ts ≡ mark c ∷ rest
mark_front {rest = rest} p = let h = p.found tt rest refl in h.1 ∙ ap (λ x. x ++ rest) h.2

-- no mark stands in front
pub mark_none : {c : ℕ} {ts : List Token} → ReadsTokens (λ (u : Unit {0}) used. used ≡ mark c ∷ []) Anything ts None → (rest : List Token) → ts ≡ mark c ∷ rest → ⊥
mark_none {c = c} p rest e = parses_never p tt (mark c ∷ []) rest e refl tt

-- what is left after a mark is shorter by one
pub mark_shorter : {c : ℕ} (tokens behind : List Lexeme) → ReadsTokens (λ (u : Unit {0}) used. used ≡ mark c ∷ []) Anything (tokens_of tokens) (Some (tt {0}, tokens_of behind))
    → length behind < length tokens
mark_shorter tokens behind p = omega (arith, ap length (mark_front p), length-map tokens token_of, length-map behind token_of)

-- what two lists of tokens stand for, one after the other
pub tokens_append : (ts us : List Lexeme) → tokens_of (ts ++ us) ≡ tokens_of ts ++ tokens_of us
tokens_append [] us = refl
tokens_append (t ∷ ts) us = ap (λ x. token_of t ∷ x) (tokens_append ts us)

-- the tokens before a place and the one at it
pub tokens_more : (ts : List Lexeme) (n : ℕ) → n < length ts → tokens_of (take (n + 1) ts) ≡ tokens_of (take n ts) ++ token_of (token_at ts n) ∷ []
tokens_more ts n h = ap tokens_of (take_more ts n no_lexeme h) ∙ tokens_append (take n ts) (token_at ts n ∷ [])

-- the tokens before a place, the one at it, and those after it
pub tokens_split : (ts : List Lexeme) (n : ℕ) → n < length ts → tokens_of ts ≡ tokens_of (take n ts) ++ token_of (token_at ts n) ∷ tokens_of (take (length ts - (n + 1)) (drop (n + 1) ts))
tokens_split ts n h =
    ap tokens_of (sym (take-append-drop n ts) ∙ ap (λ x. take n ts ++ x) (drop-cons ts n no_lexeme h ∙ ap (λ x. token_at ts n ∷ x) behind))
    ∙ tokens_append (take n ts) (token_at ts n ∷ take (length ts - (n + 1)) (drop (n + 1) ts)) where
      behind : drop (suc n) ts ≡ take (length ts - (n + 1)) (drop (n + 1) ts)
      behind = ap (λ k. drop k ts) (sym (add-one n)) ∙ sym (take_rest ts (n + 1))

-- all of them before the last place
pub tokens_all : (ts : List Lexeme) (n : ℕ) → length ts ≤ n → tokens_of (take n ts) ≡ tokens_of ts
tokens_all ts n h = ap tokens_of (take_all n ts h)

-- tokens before a place that is not the first
pub some_before : (ts : List Lexeme) (n : ℕ) → n < length ts → (n ≡ 0 → ⊥) → tokens_of (take n ts) ≢ []
some_before ts n h some e = some (omega (arith, ap length e, length-map (take n ts) token_of, length-take-le n ts (omega arith)))
