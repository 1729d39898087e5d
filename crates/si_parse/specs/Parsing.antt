-- What a reader of tokens gives.
use Rattle.std.specs.Prelude.{◌≡◌, List, [], ◌∷◌, ◌++◌, Option, Some, option_map, IfSome}
use Rattle.std.specs.List.{AllByRecursion}
use Rattle.si_defs.specs.Tokens.{Token, mark}
use Rattle.si_defs.specs.Grammar.{left_bracket, not_equal}
use Rattle.si_lex.specs.Lexemes.{tokens_of}
use Rattle.si_lex.specs.declared.lexeme.Lexeme.{Lexeme}
use Rattle.std.specs.Borrow.{Bor}

-- The meaning that was found is spelled by the tokens in front of what is left, and whatever the
-- front tokens mean was found, where what follows them allows it.
pub record ReadsTokens {M : Type 0} (Means : M → List Token → Type 0)
    (Follows : List Token → Type 0)
    (tokens : List Token) (result : Option (M × List Token)) : Type 0 where
  pub found : (m : M) (rest : List Token) → result ≡ Some (m, rest)
      → (used : List Token) × (tokens ≡ used ++ rest) × Means m used
  pub every : (m : M) (used rest : List Token) → tokens ≡ used ++ rest → Means m used → Follows rest
      → result ≡ Some (m, rest)

abbrev pub Anything : List Token → Type 0
Anything rest = Unit {0}

-- none of these tokens follows
abbrev pub Without : List Token → List Token → Type 0
Without signs [] = Unit {0}
Without signs (t ∷ ts) = AllByRecursion (λ sign. t ≡ sign → ⊥) signs

-- no bracket follows, so a word has no arguments
abbrev pub NoBracket : List Token → Type 0
NoBracket rest = Without (left_bracket ∷ []) rest

-- no bracket and no sign of an equation follows, so a term is no side of one
abbrev pub NoEquation : List Token → Type 0
NoEquation rest = Without (left_bracket ∷ mark 61 ∷ not_equal ∷ []) rest

-- no bar follows either, so a literal is the last one
abbrev pub NoLiteral : List Token → Type 0
NoLiteral rest = Without (left_bracket ∷ mark 61 ∷ not_equal ∷ mark 124 ∷ []) rest

-- no bracket and no comma follows, so a term is the last one
abbrev pub NoTerm : List Token → Type 0
NoTerm rest = Without (left_bracket ∷ mark 44 ∷ []) rest

-- no comma follows, so a name is the last one
abbrev pub NoName : List Token → Type 0
NoName rest = Without (mark 44 ∷ []) rest

-- the same of the program's tokens and values, by what they stand for
abbrev pub Reads : {X M : Type 0} → (X → M) → (M → List Token → Type 0) → (List Token → Type 0)
    → List Lexeme → Option (X × Bor (List Lexeme)) → Type 0
Reads view Means Follows tokens result =
    ReadsTokens Means Follows (tokens_of tokens)
    (option_map (λ r. (view r.0, tokens_of r.1.now)) result)

-- the same where only what is left is given
abbrev pub PassesTokens : (List Token → Type 0) → List Lexeme → Option (Bor (List Lexeme)) → Type 0
PassesTokens Spelled tokens result =
    ReadsTokens (λ (u : Unit {0}) used. Spelled used) Anything (tokens_of tokens)
    (option_map (λ r. (tt {0}, tokens_of r.now)) result)

-- what is left after what was found, if anything was, is this
abbrev pub IfLeft : {X : Type 0} → (List Token → Type 0) → Option (X × Bor (List Lexeme)) → Type 0
IfLeft P result = IfSome result (λ r. P (tokens_of r.1.now))

-- what was found, if anything was, has this
abbrev pub IfFound : {X : Type 0} → (X → Type 0) → Option (X × Bor (List Lexeme)) → Type 0
IfFound P result = IfSome result (λ r. P r.0)
