-- A list that stands for a solution can be printed, where its symbols have numbers and its
-- variables have names.
use Rattle.std.proofs.Common.{List, [], ◌∷◌, inl, inr, refl}
use Rattle.std.specs.List.{AllByRecursion}
use Rattle.si_defs.specs.Bytes.{Bytes}
use Rattle.si_defs.specs.Terms as terms
use Rattle.si_defs.specs.Clauses.{Term}
use Rattle.si_defs.specs.Substitutions.{IsAmong}
use Rattle.si_defs.specs.Terms.{symbols, symbols_of_all, variables, variables_of_all}
use Rattle.si_defs.specs.Symbols.{Symbol}
use Rattle.si_defs.specs.Variables.{Variable, of_pattern, of_entry, Apart, Solution}
use Rattle.si_defs.proofs.ListLaws.{all_at, all_weaker, all_front, all_back, among_front, among_back}
use Rattle.si_form.specs.declared.solution.Binding.{Binding}
use Rattle.si_form.specs.Answers.{StandsForList}
use Rattle.si_form.specs.Numberings.{list_by, symbols_of, IsVariableOf}
use Rattle.si_form.specs.SolutionParts.{IsBindingOf}
use Rattle.si_form.specs.TableNumbers.{HaveNumbers}
use Rattle.si_reply.specs.NamedLists.{Naming, symbol_number, numbered_variable, IsNamed, IsKnown, AreNamedByThese, ShowsList}

module _ (names : Naming) where
  mutual
    known : (t : Apart) → HaveNumbers names.numbers (symbols t) → AllByRecursion (IsNamed names) (variables t) → IsKnown names t
    known (terms.var x) h k = k.0
    known (terms.app s ts) h k = (h s (inl refl), all_known ts (λ r a. h r (inr a)) k)

    all_known : (ts : terms.Terms Symbol Variable) → HaveNumbers names.numbers (symbols_of_all ts) → AllByRecursion (IsNamed names) (variables_of_all ts) → AreNamedByThese names ts
    all_known terms.none h k = tt
    all_known (terms.more t ts) h k = (
      known t (λ s a. h s (among_front (symbols t) (symbols_of_all ts) s a)) (all_front (IsNamed names) (variables t) (variables_of_all ts) k),
      all_known ts (λ s a. h s (among_back (symbols t) (symbols_of_all ts) s a)) (all_back (IsNamed names) (variables t) (variables_of_all ts) k),
    )

module _ (names : Naming) (p u : Term) (in_pattern : (x : Bytes) → IsAmong (variables p) x → IsNamed names (of_pattern x))
    (in_entry : (x : Bytes) → IsAmong (variables u) x → IsNamed names (of_entry x)) (numbered : HaveNumbers names.numbers (symbols_of p u)) where
  named : (x : Variable) → IsVariableOf p u x → IsNamed names x
  named (of_pattern x) h = in_pattern x h
  named (of_entry x) h = in_entry x h

  pub shows_list : (bs : List Binding) (list : Solution) → StandsForList bs (list_by (symbol_number names) (numbered_variable names) list)
      → AllByRecursion (IsBindingOf p u) list → ShowsList names bs list
  shows_list [] [] h k = tt
  shows_list [] (pair ∷ pairs) h k = absurd h
  shows_list (b ∷ bs) [] h k = absurd h
  shows_list (b ∷ bs) (pair ∷ pairs) h k = (
    record {
      left = record { number = h.0.left; named = named pair.0 k.0.left };
      right = record {
        stands = h.0.right;
        known = known names pair.1 (λ r a. numbered r (all_at (IsAmong (symbols_of p u)) (symbols pair.1) r k.0.symbols a)) (all_weaker (IsVariableOf p u) (IsNamed names) (variables pair.1) named k.0.variables);
      };
    },
    shows_list bs pairs h.1 k.1,
  )
