-- What is read of tokens of which nothing is left.
use Rattle.std.proofs.Common.{◌≡◌, List, [], ◌∷◌, ◌++◌, length, refl, ap, sym, ◌∙◌, subst, append-nil}
use Rattle.std.proofs.lemmas.Option.{same_Some}
use Rattle.std.specs.Prelude.{Option, Some, None, option_map, true, false, ◌==◌}
use Rattle.std.specs.Borrow.{Bor}
use Rattle.std.proofs.Common.{arith}
use Rattle.std.proofs.lemmas.Bool.{eqb-true}
use Rattle.si_defs.specs.Tokens as defs
use Rattle.si_lex.specs.Lexemes.{tokens_of}
use Rattle.si_parse.specs.Parsing.{Reads}
use Rattle.si_lex.specs.declared.lexeme.Lexeme.{Lexeme}

-- no tokens stand for none
empty : (ts : List Lexeme) → tokens_of ts ≡ [] → ts ≡ []
empty [] h = refl
empty (t ∷ ts) h = cc

-- a list that is not empty
pub never_empty : {A : Type 0} (xs : List A) → false ≡ (length xs == 0) → xs ≡ [] → ⊥
never_empty [] h e = cc
never_empty (x ∷ xs) h e = cc

-- a list that is
pub is_empty : {A : Type 0} (xs : List A) → true ≡ (length xs == 0) → xs ≡ []
is_empty [] h = refl
is_empty (x ∷ xs) h = absurd (omega (arith, eqb-true (length (x ∷ xs)) 0 (sym h)))

abbrev with_left : {X : Type 0} → X → Bor (List Lexeme) → X × Bor (List Lexeme)
with_left x r = (x, r)

-- two readings of the same tokens leave the same
pub same_left : {X : Type 0} (x y : X) (r s : Bor (List Lexeme)) → Some (with_left x r) ≡ Some (with_left y s) → s.now ≡ [] → r.now ≡ []
same_left {X = X} x y r s h e = ap (λ (p : X × Bor (List Lexeme)). p.1.now) (same_Some (with_left x r) (with_left y s) h) ∙ e

module _ {X M : Type 0} (view : X → M) {Means : M → List defs.Token → Type 0} {Follows : List defs.Token → Type 0} (tokens : List Lexeme) (ends : Follows []) where
  -- a reading with nothing left is what all the tokens mean
  pub whole_means : (x : X) (r : Bor (List Lexeme)) → r.now ≡ [] → Reads view Means Follows tokens (Some (x, r)) → Means (view x) (tokens_of tokens)
  whole_means x r none p =
      let f = p.found (view x) (tokens_of r.now) refl in
      let rest : tokens_of r.now ≡ [] = ap tokens_of none in
      subst (Means (view x)) (sym (f.1 ∙ ap (λ ts. f.0 ++ ts) rest ∙ append-nil f.0)) f.2

  -- and they mean nothing else
  pub whole_only : (x : X) (r : Bor (List Lexeme)) → Reads view Means Follows tokens (Some (x, r)) → (m : M) → Means m (tokens_of tokens) → m ≡ view x
  whole_only x r p m h = ap (λ (y : M × List defs.Token). y.0) (sym (same_Some _ (m, []) (p.every m (tokens_of tokens) [] (sym (append-nil (tokens_of tokens))) h ends)))

  -- where something is left, or nothing was found, they mean nothing
  pub whole_none : (found : Option (X × Bor (List Lexeme))) → Reads view Means Follows tokens found → ((x : X) (r : Bor (List Lexeme)) → found ≡ Some (x, r) → r.now ≡ [] → ⊥)
      → (m : M) → Means m (tokens_of tokens) → ⊥
  whole_none found p left m h = by found left (p.every m (tokens_of tokens) [] (sym (append-nil (tokens_of tokens))) h ends) where
    seen : X × Bor (List Lexeme) → M × List defs.Token
    seen r = (view r.0, tokens_of r.1.now)

    by : (found : Option (X × Bor (List Lexeme))) → ((x : X) (r : Bor (List Lexeme)) → found ≡ Some (x, r) → r.now ≡ [] → ⊥) → option_map seen found ≡ Some (m, []) → ⊥
    by None left e = cc
    by (Some x) left e = left x.0 x.1 refl (empty x.1.now (ap (λ (y : M × List defs.Token). y.1) (same_Some _ (m, []) e)))
