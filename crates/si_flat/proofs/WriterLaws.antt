-- The cells of a query's term, written one after the other.
use Rattle.std.proofs.Common.{◌≡◌, ℕ, ◌<◌, Bool, true, false, cond, not, List, [], ◌∷◌, ◌++◌, length, refl, ap, sym, ◌∙◌, subst, arith, append_assoc, append-nil}
use Rattle.indexmap.specs.IndexSet.{insert_all}
use Rattle.si_defs.specs.Bytes.{Bytes}
use Rattle.si_defs.specs.Terms as terms
use Rattle.si_defs.specs.Symbols.{Symbol, Numbering, same_symbol}
use Rattle.si_defs.specs.Clauses.{Term, Terms}
use Rattle.si_flat.specs.declared.Cell.TheVariants as cell
use Rattle.si_flat.specs.declared.Owner.TheVariants.{Query}
use Rattle.si_flat.specs.Cells.{Variable, cells_of, cells_of_all}
use Rattle.si_flat.specs.Numbered.{number_in, one_above, numbered, all_numbered}
use Rattle.si_flat.specs.Flattened.{numbers_from}
use Rattle.si_flat.specs.Flattening.{IsSymbolNumber, WalkState, piece_then, term_piece, terms_piece, entry_scheme, Flattens}
use Rattle.si_flat.specs.Writing.{Opens, PutsSymbol, WritesPiece}
use Rattle.si_flat.proofs.Numbers.{has-among, number_known, signed-is}
use Rattle.si_flat.proofs.Walking.{flattens_then, flattens_more, flattens_none, flattens_app, length_behind}

-- ---- rows that grow at their end
module _ (t : Term) where
  variables_end : (us : List Term) → terms.variables_of_all (terms.row (us ++ t ∷ [])) ≡ terms.variables_of_all (terms.row us) ++ terms.variables t
  variables_end [] = append-nil (terms.variables t)
  variables_end (u ∷ us) =
      ap (λ l. terms.variables u ++ l) (variables_end us) ∙ sym (append_assoc (terms.variables u) (terms.variables_of_all (terms.row us)) (terms.variables t))

  symbols_end : (us : List Term) → terms.symbols_of_all (terms.row (us ++ t ∷ [])) ≡ terms.symbols_of_all (terms.row us) ++ terms.symbols t
  symbols_end [] = append-nil (terms.symbols t)
  symbols_end (u ∷ us) =
      ap (λ l. terms.symbols u ++ l) (symbols_end us) ∙ sym (append_assoc (terms.symbols u) (terms.symbols_of_all (terms.row us)) (terms.symbols t))

  cells_end : (n : Symbol → ℕ) (v : Bytes → Variable) (us : List Term)
      → cells_of_all (all_numbered n v (terms.row (us ++ t ∷ []))) ≡ cells_of_all (all_numbered n v (terms.row us)) ++ cells_of (numbered n v t)
  cells_end n v [] = append-nil (cells_of (numbered n v t))
  cells_end n v (u ∷ us) =
      ap (λ l. cells_of (numbered n v u) ++ l) (cells_end n v us)
      ∙ sym (append_assoc (cells_of (numbered n v u)) (cells_of_all (all_numbered n v (terms.row us))) (cells_of (numbered n v t)))

  piece_end : (us : List Term) → terms_piece (terms.row (us ++ t ∷ [])) ≡ piece_then (terms_piece (terms.row us)) (term_piece t)
  piece_end us = λ i. record { variables = variables_end us i; symbols = symbols_end us i; cells = λ n v. cells_end n v us i }

module _ (pairs : Numbering) where
  -- one term more
  pub writes_end : (us : List Term) (t : Term) (a b c : WalkState)
      → WritesPiece pairs a b (terms_piece (terms.row us))
      → WritesPiece pairs b c (term_piece t)
      → WritesPiece pairs a c (terms_piece (terms.row (us ++ t ∷ [])))
  writes_end us t a b c first last p =
      subst (Flattens pairs (entry_scheme Query p) a c) (sym (piece_end t us))
      (flattens_then pairs (entry_scheme Query p) a b c (terms_piece (terms.row us)) (term_piece t) (first p) (last p))

  -- one term alone
  pub writes_one : (t : Term) (a b : WalkState)
      → WritesPiece pairs a b (term_piece t)
      → WritesPiece pairs a b (terms_piece (terms.row (t ∷ [])))
  writes_one t a b one p = flattens_more pairs (entry_scheme Query p) a b b t terms.none (one p) (flattens_none pairs (entry_scheme Query p) b)

  -- two terms
  pub writes_two : (t u : Term) (a b c : WalkState)
      → WritesPiece pairs a b (term_piece t)
      → WritesPiece pairs b c (term_piece u)
      → WritesPiece pairs a c (terms_piece (terms.row (t ∷ u ∷ [])))
  writes_two t u a b c one two p = flattens_more pairs (entry_scheme Query p) a b c t (terms.more u terms.none) (one p) (writes_one u b c two p)

-- ---- a symbol's cell in its place
module _ (pairs : Numbering) (at : ℕ) (a b c : WalkState) (opened : Opens at a b) (ts : Terms) where
  -- its place is among what was written
  pub inside_written : WritesPiece pairs b c (terms_piece ts) → at < length c.cells
  inside_written walked = omega (arith, opened.place, length_behind pairs (entry_scheme Query true) a.cells (cell.Query 0) b c ts opened.cells (walked true))

  module _ (s : Symbol) (positive : Bool) (d : WalkState) (put : PutsSymbol pairs s positive at c d) where
    -- a symbol whose number is the same with both signs
    puts_by : (p : Bool) → ((n : ℕ) → cond p n (one_above s.side n) ≡ cond positive n (one_above s.side n))
        → Flattens pairs (entry_scheme Query p) b c (terms_piece ts)
        → Flattens pairs (entry_scheme Query p) a d (term_piece (terms.app s ts))
    puts_by p same walked =
        let number : IsSymbolNumber pairs (entry_scheme Query p) b.extra s (cond positive put.number (one_above s.side put.number)) = λ more.
        let others = numbers_from (entry_scheme Query p).first (b.extra ++ more) in
        signed-is p (number_in (pairs ++ others)) s
        ∙ ap (λ n. cond p n (one_above s.side n)) (number_known pairs others s put.number put.numbering put.known)
        ∙ same put.number in
        let extra = opened.extra ∙ ap (λ h. insert_all same_symbol a.extra (cond (not h) (s ∷ []) [])) (sym (has-among pairs s put.number put.known)) in
        let flat = flattens_app pairs (entry_scheme Query p) a b c s ts (cell.Query 0) (cond positive put.number (one_above s.side put.number)) at _ opened.names extra number opened.cells walked opened.place refl (terms.app s ts) d.cells refl put.cells in
        subst (λ (w : WalkState). Flattens pairs (entry_scheme Query p) a w (term_piece (terms.app s ts))) (λ i. record { names = sym put.names i; extra = sym put.extra i; cells = d.cells }) flat

  -- a function has the same number in every literal
  pub puts_function : (s : Symbol) (d : WalkState) → ((n : ℕ) → one_above s.side n ≡ n) → PutsSymbol pairs s true at c d
      → WritesPiece pairs b c (terms_piece ts) → WritesPiece pairs a d (term_piece (terms.app s ts))
  puts_function s d function put walked p = puts_by s true d put p (by p) (walked p) where
    by : (q : Bool) (n : ℕ) → cond q n (one_above s.side n) ≡ n
    by true n = refl
    by false n = function n

  -- a predicate has the number of its literal's sign
  pub puts_predicate : (s : Symbol) (p : Bool) (d : WalkState) → PutsSymbol pairs s p at c d
      → WritesPiece pairs b c (terms_piece ts)
      → Flattens pairs (entry_scheme Query p) a d (term_piece (terms.app s ts))
  puts_predicate s p d put walked = puts_by s p d put p (λ n. refl) (walked p)
