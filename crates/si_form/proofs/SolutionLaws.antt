-- What stands in the canonical list of two terms.
use Rattle.std.proofs.Common.{◌≡◌, ◌⊎◌, ℕ, Bool, true, false, [], ◌∷◌, inl, inr, refl, ◌∙◌, ap, subst, Some, None}
use Rattle.std.specs.List.{AllByRecursion}
use Rattle.si_defs.specs.Bytes.{Bytes}
use Rattle.si_defs.specs.Terms as terms
use Rattle.si_defs.specs.Terms.{var, app, none, more, variables, symbols, symbols_of_all, rename, rename_all}
use Rattle.si_defs.specs.Symbols.{Symbol, same_symbol}
use Rattle.si_defs.specs.Clauses.{Term, Terms, IsSoundTerm, AreSoundTerms}
use Rattle.si_defs.specs.Substitutions.{IsAmong}
use Rattle.si_defs.specs.declared.Side.{Side}
use Rattle.si_defs.specs.declared.Side.TheVariants.{Predicate, Function}
use Rattle.si_defs.specs.Variables.{Variable, of_pattern, of_entry, pattern_term, entry_term, Solution}
use Rattle.si_flat.specs.Cells as cells
use Rattle.si_flat.specs.Numbered.{one_above, signed, numbered, all_numbered}
use Rattle.si_form.specs.Answers.{StandsForList}
use Rattle.si_form.specs.Numberings.{list_by, symbols_of, IsVariableOf}
use Rattle.si_form.specs.SolutionParts.{IsBindingOf, SolutionsAreOfTerms, HasFunctionsAlone, PredicatesStayOut, SignsStayOut, AtomsAreAnswered}
use Rattle.si_form.proofs.UnifierLaws.{among_tells}
use Rattle.si_form.proofs.Translating.{IsMadeOf, AreMadeOf, symbols_made, variable_made, renamed_made}
use Rattle.si_form.proofs.MadeLaws.{IsListOf, canonical_made, canonical_made_inside}
use Rattle.si_defs.proofs.SymbolLaws.{symbol_is, symbol_self}
use Rattle.si_defs.proofs.ListLaws.{all_at, all_from, all_front, all_back, among_front, among_back}
use Rattle.si_form.proofs.Vocabularies.{with_texts}

-- ---- symbols and variables of a solution
bindings_of : (p u : Term) (bs : Solution) → IsListOf (IsAmong (symbols_of p u)) (IsVariableOf p u) bs → AllByRecursion (IsBindingOf p u) bs
bindings_of p u [] h = tt
bindings_of p u (b ∷ bs) h =
    let P = IsAmong (symbols_of p u) in
    let Q = IsVariableOf p u in (
      record {
        left = h.0.0;
        variables = all_from Q (variables b.1) (λ x a. variable_made P Q b.1 x h.0.1 a);
        symbols = symbols_made P Q b.1 h.0.1;
      },
      bindings_of p u bs h.1,
    )

pub solutions_are_of_terms : SolutionsAreOfTerms
solutions_are_of_terms relation p u solution h =
    let P = IsAmong (symbols_of p u) in
    let Q = IsVariableOf p u in
    bindings_of p u solution
    (
    canonical_made with_texts P Q (among_tells same_symbol symbol_is symbol_self (symbols_of p u)) relation (pattern_term p) (entry_term u) solution
    (renamed_made P Q of_pattern p (all_from P (symbols p) (λ s a. among_front (symbols p) (symbols u) s a)) (all_from (λ x. Q (of_pattern x)) (variables p) (λ x a. a)))
    (renamed_made P Q of_entry u (all_from P (symbols u) (λ s a. among_back (symbols p) (symbols u) s a)) (all_from (λ y. Q (of_entry y)) (variables u) (λ y a. a)))
    h
    )

-- ---- functions alone
abbrev IsFunction : Symbol → Type 0
IsFunction s = s.side ≡ Function

abbrev IsAny : Variable → Type 0
IsAny x = Unit {0}

function_or_not : (s : Symbol) → IsFunction s ⊎ (IsFunction s → ⊥)
function_or_not s = by s.side
  where
    by : (side : Side) → (side ≡ Function) ⊎ (side ≡ Function → ⊥)
    by Function = inl refl
    by Predicate = inr (λ e. cc)

module _ (g : Bytes → Variable) where
  mutual
    sound_made : (t : Term) → IsSoundTerm t → IsMadeOf IsFunction IsAny (rename g t)
    sound_made (var x) h = tt
    sound_made (app s ts) h = (h.0.on_side, all_sound_made ts h.1)

    all_sound_made : (ts : Terms) → AreSoundTerms ts → AreMadeOf IsFunction IsAny (rename_all g ts)
    all_sound_made none h = tt
    all_sound_made (more t ts) h = (sound_made t h.0, all_sound_made ts h.1)

functions_of : (bs : Solution) → IsListOf IsFunction IsAny bs → HasFunctionsAlone bs
functions_of [] h = tt
functions_of (b ∷ bs) h = (symbols_made IsFunction IsAny b.1 h.0.1, functions_of bs h.1)

pub predicates_stay_out : PredicatesStayOut
predicates_stay_out relation (var x) u solution p_sound u_sound h = elim p_sound [ ]
predicates_stay_out relation (app s ts) (var y) solution p_sound u_sound h = elim u_sound [ ]
predicates_stay_out relation (app s ts) (app r us) solution p_sound u_sound h =
    functions_of solution
    (
    canonical_made_inside with_texts IsFunction IsAny function_or_not relation s r (rename_all of_pattern ts) (rename_all of_entry us) solution
    (all_sound_made of_pattern ts p_sound.1) (all_sound_made of_entry us u_sound.1) h
    )

-- ---- the same numbers
module _ {V : Type 0} (m n : Symbol → ℕ) (variable : V → cells.Variable) where
  mutual
    pub numbered_same : (t : terms.Term Symbol V) → AllByRecursion (λ s. m s ≡ n s) (symbols t) → numbered m variable t ≡ numbered n variable t
    numbered_same (var x) h = refl
    numbered_same (app s ts) h =
        ap (λ (r : cells.Symbol). app r (all_numbered m variable ts)) (λ i. record { number = h.0 i; arity = s.arity })
        ∙ ap (app (record { number = n s; arity = s.arity })) (all_numbered_same ts h.1)

    all_numbered_same : (ts : terms.Terms Symbol V) → AllByRecursion (λ s. m s ≡ n s) (symbols_of_all ts) → all_numbered m variable ts ≡ all_numbered n variable ts
    all_numbered_same none h = refl
    all_numbered_same (more t ts) h =
        ap (λ u. more u (all_numbered m variable ts)) (numbered_same t (all_front (λ s. m s ≡ n s) (symbols t) (symbols_of_all ts) h))
        ∙ ap (more (numbered n variable t)) (all_numbered_same ts (all_back (λ s. m s ≡ n s) (symbols t) (symbols_of_all ts) h))

function_number : (number : Symbol → ℕ) (positive : Bool) (s : Symbol) → IsFunction s → signed positive number s ≡ number s
function_number number true s h = refl
function_number number false s h = ap (λ side. one_above side (number s)) h

pub signs_stay_out : SignsStayOut
signs_stay_out number variable positive [] h = refl
signs_stay_out number variable positive (b ∷ bs) h =
    ap (λ t. (variable b.0, t) ∷ list_by (signed positive number) variable bs)
    (
    numbered_same (signed positive number) number variable b.1
    (all_from (λ s. signed positive number s ≡ number s) (symbols b.1) (λ s a. function_number number positive s (all_at IsFunction (symbols b.1) s h.0 a)))
    )
    ∙ ap (λ l. (variable b.0, numbered number variable b.1) ∷ l) (signs_stay_out number variable positive bs h.1)

pub atoms_are_answered : AtomsAreAnswered
atoms_are_answered relation p u number variable positive None p_sound u_sound h = h
atoms_are_answered relation p u number variable positive (Some bindings) p_sound u_sound h = record {
  relates = h.relates;
  solution = h.solution;
  canonical = h.canonical;
  stands = subst (StandsForList bindings) (signs_stay_out number variable positive h.solution (predicates_stay_out relation p u h.solution p_sound u_sound h.canonical)) h.stands;
}
