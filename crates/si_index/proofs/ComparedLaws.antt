-- A formula, and a clause whose symbols all have numbers in a table, are flat by one numbering.
use Rattle.std.proofs.Common.{◌≡◌, ℕ, List, [], ◌++◌, ap, sym, subst, append-nil}
use Rattle.std.specs.Prelude.{Option}
use Rattle.std.specs.Borrow.{Bor}
use Rattle.si_defs.specs.Terms.{firsts}
use Rattle.si_defs.specs.Symbols.{Numbering, IsNumbering, same_symbol}
use Rattle.si_defs.specs.Clauses.{Literal, AreSoundLiterals}
use Rattle.si_defs.specs.Entries.{literals_symbols}
use Rattle.si_state.specs.Subsumption.{IsMap, AnswersLeast}
use Rattle.si_form.specs.TableNumbers.{HaveNumbers}
use Rattle.si_flat.specs.declared.Cell.{Cell}
use Rattle.si_flat.specs.declared.Owner.{Owner}
use Rattle.si_flat.specs.declared.Owner.TheVariants.{Query, Entry}
use Rattle.si_flat.specs.Cells.{StandsFor}
use Rattle.si_flat.specs.Flattened.{extra_numbers, IsQueryNumbering}
use Rattle.si_flat.specs.Flattening.{owners_variable}
use Rattle.si_flat.specs.FlatClauses.{flat_clause, lacked_by, FlattensClause}
use Rattle.si_flat.proofs.ExtraNumbers.{all_have, extra_numbering}
use Rattle.si_subsume.specs.Maps.{AnswersFlat, IsComparable}
use Rattle.si_subsume.proofs.ClauseMaps.{IsFlatBy, known_all, clause_answer, query_comparable, entry_comparable}
use Rattle.si_index.specs.Subsuming.{IsMapIn, clause_owner, formula_owner, from_to}
use Rattle.si_index.specs.declared.subsuming.Direction.{Direction}
use Rattle.si_index.specs.declared.subsuming.Direction.TheVariants.{ToFormula, FromFormula}
use Rattle.si_index.proofs.FlatLaws.{none_lacks, more_numbers}

-- where there is no map from the one that maps go from, there is none in this direction
pub no_map : {A : Type 0} (view : A → List Literal) (d : Direction) (formula clause : Bor A) (both : Bor A × Bor A) → both ≡ from_to d formula clause
    → ((ns : List ℕ) → IsMap (view both.0.now) (view both.1.now) ns → ⊥) → (ns : List ℕ) → IsMapIn d (view formula.now) (view clause.now) ns → ⊥
no_map view ToFormula formula clause both is none ns m = none ns (subst (λ b. IsMap (view b.0.now) (view b.1.now) ns) (sym is) m)
no_map view FromFormula formula clause both is none ns m = none ns (subst (λ b. IsMap (view b.0.now) (view b.1.now) ns) (sym is) m)

-- ---- flat clauses
-- what was filled in for the owner of a clause's variables is the clause, flat
pub filled_for : {A : Type 0} (view : A → List Literal) (numbers : Numbering) (owner due : Owner) (lent literals : A) (cells got : List Cell)
    → FlattensClause numbers owner (view lent) cells → owner ≡ due → lent ≡ literals → got ≡ cells → FlattensClause numbers due (view literals) got
filled_for view numbers owner due lent literals cells got filled is same there =
    subst (FlattensClause numbers due (view literals)) (sym there) (subst (λ ls. FlattensClause numbers due (view ls) cells) same (subst (λ o. FlattensClause numbers o (view lent) cells) is filled))

module _ (numbers : Numbering) (formula : List Literal) where
  -- the table's numbers, and after them those of the formula's further symbols
  abbrev pub formula_numbers : Numbering
  formula_numbers = numbers ++ extra_numbers (lacked_by numbers formula)

  pub formula_flat : (owner : Owner) (cells : List Cell) → AreSoundLiterals formula → FlattensClause numbers owner formula cells
      → IsFlatBy formula_numbers (owners_variable owner) formula cells
  formula_flat owner cells sound flat = record {
    sound = sound;
    stands = subst (λ ss. StandsFor cells (flat_clause (numbers ++ extra_numbers ss) (owners_variable owner) formula)) (append-nil (lacked_by numbers formula)) (flat []);
    known = known_all formula_numbers (literals_symbols formula) (all_have numbers (literals_symbols formula));
  }

  pub clause_flat : (owner : Owner) (ls : List Literal) (cells : List Cell) → AreSoundLiterals ls → HaveNumbers numbers (literals_symbols ls) → FlattensClause numbers owner ls cells
      → IsFlatBy formula_numbers (owners_variable owner) ls cells
  clause_flat owner ls cells sound have flat =
      let none : lacked_by numbers ls ≡ [] = ap (firsts same_symbol) (none_lacks numbers (literals_symbols ls) have) in
      record {
        sound = sound;
        stands = subst (λ ss. StandsFor cells (flat_clause (numbers ++ extra_numbers (ss ++ lacked_by numbers formula)) (owners_variable owner) ls)) none (flat (lacked_by numbers formula));
        known = known_all formula_numbers (literals_symbols ls) (none_lacks formula_numbers (literals_symbols ls) (more_numbers numbers (extra_numbers (lacked_by numbers formula)) (literals_symbols ls) have));
      }

  module _ (numbering : IsNumbering numbers) (ls : List Literal) (sound : AreSoundLiterals formula) (sound_ls : AreSoundLiterals ls) (have : HaveNumbers numbers (literals_symbols ls)) where
    query_numbering : IsQueryNumbering formula_numbers
    query_numbering = extra_numbering numbers (literals_symbols formula) numbering

    -- the cells between which a map is sought
    comparable : (d : Direction) (cells clause : Bor (List Cell)) → FlattensClause numbers (formula_owner d) formula cells.now → FlattensClause numbers (clause_owner d) ls clause.now
        → IsComparable Query (from_to d cells clause).0.now × IsComparable Entry (from_to d cells clause).1.now
    comparable ToFormula cells clause flat own = (query_comparable formula_numbers ls clause.now (clause_flat Query ls clause.now sound_ls have own), entry_comparable formula_numbers formula cells.now (formula_flat Entry cells.now sound flat))
    comparable FromFormula cells clause flat own = (query_comparable formula_numbers formula cells.now (formula_flat Query cells.now sound flat), entry_comparable formula_numbers ls clause.now (clause_flat Entry ls clause.now sound_ls have own))

    -- what is found between them is a least map
    mapped : (d : Direction) (cells clause : Bor (List Cell)) → FlattensClause numbers (formula_owner d) formula cells.now → FlattensClause numbers (clause_owner d) ls clause.now
        → (answer : Option (List ℕ)) → AnswersFlat (from_to d cells clause).0.now (from_to d cells clause).1.now answer → AnswersLeast (IsMapIn d formula ls) answer
    mapped ToFormula cells clause flat own =
        clause_answer formula_numbers query_numbering ls formula clause.now cells.now (clause_flat Query ls clause.now sound_ls have own) (formula_flat Entry cells.now sound flat)
    mapped FromFormula cells clause flat own =
        clause_answer formula_numbers query_numbering formula ls cells.now clause.now (formula_flat Query cells.now sound flat) (clause_flat Entry ls clause.now sound_ls have own)

    module _ (d : Direction) (cells clause : Bor (List Cell)) (both : Bor (List Cell) × Bor (List Cell)) (is : both ≡ from_to d cells clause)
        (flat : FlattensClause numbers (formula_owner d) formula cells.now) (own : FlattensClause numbers (clause_owner d) ls clause.now) where
      pub both_comparable : IsComparable Query both.0.now × IsComparable Entry both.1.now
      both_comparable = subst (λ b. IsComparable Query b.0.now × IsComparable Entry b.1.now) (sym is) (comparable d cells clause flat own)

      pub both_mapped : (answer : Option (List ℕ)) → AnswersFlat both.0.now both.1.now answer → AnswersLeast (IsMapIn d formula ls) answer
      both_mapped answer told = mapped d cells clause flat own answer (subst (λ b. AnswersFlat b.0.now b.1.now answer) is told)
