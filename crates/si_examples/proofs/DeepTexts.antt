-- How deep a text nests.
use Rattle.std.proofs.Common.{◌≡◌, ℕ, zero, suc, ◌+◌, ◌-◌, ◌≤◌, [], ◌∷◌, ◌++◌, codes, refl, ap, sym, ◌∙◌, subst, inl, arith}
use Rattle.std.specs.Prelude.{replicate}
use mathlib.Core.List.{append_assoc}
use Rattle.si_defs.specs.Bytes.{Bytes}
use Rattle.si_defs.specs.Tokens.{lower, Begins, Consists}
use Rattle.si_defs.specs.Grammar.{left_bracket, right_bracket, nesting_from, nesting}
use Rattle.si_defs.specs.declared.TokenKind.TheVariants.{Lower, Mark}
use Rattle.si_defs.specs.declared.TheConstants.{DEEPEST_NESTING}
use Rattle.si_defs.proofs.TokenLaws.{begins_append}
use Rattle.si_lex.proofs.TokenLaws.{consists_unique}
use Rattle.si_examples.specs.Grammar.{bracketed, BracketedFormula, DeepestNesting, NoDeeperNesting}
use Rattle.si_examples.specs.Texts.{bracketed_text, DeepestText, NoDeeperText}
use Rattle.si_examples.proofs.Pieces.{next, nothing}

-- ---- of tokens
closing : (n depth : ℕ) → n ≤ depth → nesting_from depth (replicate n right_bracket) ≡ depth
closing zero depth h = refl
closing (suc n) depth h = let e = closing n (depth - 1) (omega arith) in rw e (omega arith)

opening : (n m depth : ℕ) → m ≤ depth + n → nesting_from depth (replicate n left_bracket ++ (lower (codes "p") ∷ replicate m right_bracket)) ≡ depth + n
opening zero m depth h = let e = closing m depth (omega arith) in rw e (omega arith)
opening (suc n) m depth h = let e = opening n m (depth + 1) (omega arith) in rw e (omega arith)

nesting_is : (n : ℕ) → nesting (bracketed n) ≡ n
nesting_is n =
    ap nesting (append_assoc (replicate n left_bracket) (lower (codes "p") ∷ []) (replicate n right_bracket)) ∙ opening n n 0 (omega arith) ∙ omega arith

pub deepest_nesting : DeepestNesting
deepest_nesting n e = let h = nesting_is n in omega arith

pub no_deeper_nesting : NoDeeperNesting
no_deeper_nesting n e h = let k = nesting_is n in absurd (omega arith)

pub bracketed_formula : BracketedFormula
bracketed_formula n =
    let atom = lower (codes "p") ∷ [] in
    (n, atom, (atom, [], (refl, refl, (lower (codes "p"), inl refl, refl)), refl, refl), refl)

-- ---- of texts
lefts : (n : ℕ) (rest : Bytes) → Begins (replicate n 40 ++ rest) (replicate n left_bracket) rest
lefts zero rest = refl
lefts (suc n) rest = (replicate n 40 ++ rest, next Mark (codes "(") (replicate n 40 ++ rest) refl, lefts n rest)

rights : (n : ℕ) → Begins (replicate n 41) (replicate n right_bracket) []
rights zero = refl
rights (suc n) = (replicate n 41, next Mark (codes ")") (replicate n 41) refl, rights n)

-- after the word stands a bracket or nothing
word_next : (n : ℕ) → Begins (codes "p" ++ replicate n 41) (lower (codes "p") ∷ []) (replicate n 41)
word_next zero = ([], next Lower (codes "p") [] refl, refl)
word_next (suc n) = (replicate (suc n) 41, next Lower (codes "p") (replicate (suc n) 41) refl, refl)

tokens : (n : ℕ) → Consists (bracketed_text n) (bracketed n)
tokens n = record {
  rest = [];
  begins =
      subst (λ b. Begins b (bracketed n) []) (sym (append_assoc (replicate n 40) (codes "p") (replicate n 41))) (
      subst (λ ts. Begins (replicate n 40 ++ (codes "p" ++ replicate n 41)) ts []) (sym (append_assoc (replicate n left_bracket) (lower (codes "p") ∷ []) (replicate n right_bracket))) (
      begins_append (replicate n left_bracket) ((lower (codes "p") ∷ []) ++ replicate n right_bracket) _ _ [] (lefts n (codes "p" ++ replicate n 41))
      (begins_append (lower (codes "p") ∷ []) (replicate n right_bracket) _ _ [] (word_next n) (rights n))
      )
      );
  blanks = nothing;
}

pub deepest_text : DeepestText
deepest_text n e = record { tokens = bracketed n; consists = tokens n; spelled = bracketed_formula n; nested = deepest_nesting n e }

pub no_deeper_text : NoDeeperText
no_deeper_text n e ls t =
    no_deeper_nesting n e (subst (λ ts. nesting ts ≤ DEEPEST_NESTING) (sym (consists_unique (bracketed n) t.tokens (bracketed_text n) (tokens n) t.consists)) t.nested)
