-- Cells tell their term: a list of cells begins with those of at most one term.
use Rattle.std.proofs.Common.{◌≡◌, ℕ, List, [], ◌∷◌, ◌++◌, refl, sym, ◌∙◌, ap, arith, append_assoc}
use Rattle.si_defs.specs.Terms as terms
use Rattle.si_flat.specs.declared.Cell.{Cell}
use Rattle.si_flat.specs.declared.Cell.TheVariants as cell
use Rattle.si_flat.specs.Cells.{Symbol, Variable, query, entry, ind, Term, Terms, variable_cell, cells_of, cells_of_all, IsSound, AreSound, StandsFor}

-- two terms and what stands after each, of the same cells
pub record SameTerms (t u : Term) (xs ys : List Cell) : Type 0 where
  pub same : t ≡ u
  pub rest : xs ≡ ys

pub record SameRows (ts us : Terms) (xs ys : List Cell) : Type 0 where
  pub same : ts ≡ us
  pub rest : xs ≡ ys

same_variables : (x y : Variable) (xs ys : List Cell) → variable_cell x ∷ xs ≡ variable_cell y ∷ ys → SameTerms (terms.var x) (terms.var y) xs ys
same_variables (query m) (query n) xs ys e = record { same = cc; rest = cc }
same_variables (query m) (entry n) xs ys e = cc
same_variables (query m) (ind n) xs ys e = cc
same_variables (entry m) (query n) xs ys e = cc
same_variables (entry m) (entry n) xs ys e = record { same = cc; rest = cc }
same_variables (entry m) (ind n) xs ys e = cc
same_variables (ind m) (query n) xs ys e = cc
same_variables (ind m) (entry n) xs ys e = cc
same_variables (ind m) (ind n) xs ys e = record { same = cc; rest = cc }

no_symbol : {P : Type 0} (x : Variable) (s a n : ℕ) (xs ys : List Cell) → variable_cell x ∷ xs ≡ cell.App s a n ∷ ys → P
no_symbol (query m) s a n xs ys e = cc
no_symbol (entry m) s a n xs ys e = cc
no_symbol (ind m) s a n xs ys e = cc

pub record SameHeads (s r : Symbol) (m n : ℕ) (xs ys : List Cell) : Type 0 where
  pub same : s ≡ r
  pub rest : xs ≡ ys

same_heads : (s r : Symbol) (m n : ℕ) (xs ys : List Cell) → cell.App s.number s.arity m ∷ xs ≡ cell.App r.number r.arity n ∷ ys → SameHeads s r m n xs ys
same_heads s r m n xs ys e =
    let number : s.number ≡ r.number = cc in
    let arity : s.arity ≡ r.arity = cc in
    let make : ℕ → ℕ → Symbol = λ a b. record { number = a; arity = b } in
    record { same = ap (λ a. make a s.arity) number ∙ ap (make r.number) arity; rest = cc }

mutual
  pub same_term : (t u : Term) (xs ys : List Cell) → IsSound t → IsSound u → cells_of t ++ xs ≡ cells_of u ++ ys → SameTerms t u xs ys
  same_term (terms.var x) (terms.var y) xs ys st su e = same_variables x y xs ys e
  same_term (terms.var x) (terms.app r us) xs ys st su e = no_symbol x _ _ _ _ _ e
  same_term (terms.app s ts) (terms.var y) xs ys st su e = no_symbol y _ _ _ _ _ (sym e)
  same_term (terms.app s ts) (terms.app r us) xs ys st su e =
      let h = same_heads s r _ _ _ _ e in
      let n : terms.count ts ≡ terms.count us = st.0 ∙ ap (λ q. q.arity) h.same ∙ sym su.0 in
      let rows = same_terms ts us xs ys st.1 su.1 n h.rest in
      record { same = ap (λ q. terms.app q ts) h.same ∙ ap (terms.app r) rows.same; rest = rows.rest }

  pub same_terms : (ts us : Terms) (xs ys : List Cell) → AreSound ts → AreSound us → terms.count ts ≡ terms.count us → cells_of_all ts ++ xs ≡ cells_of_all us ++ ys → SameRows ts us xs ys
  same_terms terms.none terms.none xs ys st su n e = record { same = refl; rest = e }
  same_terms terms.none (terms.more u us) xs ys st su n e = absurd (omega (arith, n))
  same_terms (terms.more t ts) terms.none xs ys st su n e = absurd (omega (arith, n))
  same_terms (terms.more t ts) (terms.more u us) xs ys st su n e =
      let e' : cells_of t ++ (cells_of_all ts ++ xs) ≡ cells_of u ++ (cells_of_all us ++ ys) =
      sym (append_assoc (cells_of t) (cells_of_all ts) xs) ∙ e ∙ append_assoc (cells_of u) (cells_of_all us) ys in
      let first = same_term t u _ _ st.0 su.0 e' in
      let others = same_terms ts us xs ys st.1 su.1 (omega (arith, n)) first.rest in
      record { same = ap (λ v. terms.more v ts) first.same ∙ ap (terms.more u) others.same; rest = others.rest }

-- cells are those of one term
pub one_term : (cells : List Cell) (t u : Term) → StandsFor cells t → StandsFor cells u → t ≡ u
one_term cells t u h k = (same_term t u [] [] h.sound k.sound (ap (λ l. l ++ []) (sym h.cells_are ∙ k.cells_are))).same
