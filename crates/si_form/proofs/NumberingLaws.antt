-- Answers to terms with numbers hold of the terms with texts.
use Rattle.std.proofs.Common.{◌≡◌, ℕ, Bool, true, false, cond, List, [], ◌∷◌, inl, inr, refl, sym, ◌∙◌, ap, subst, Option, Some, None}
use Rattle.std.specs.List.{AllByRecursion}
use Rattle.si_defs.specs.Bytes.{Bytes}
use Rattle.si_defs.specs.Terms as terms
use Rattle.si_defs.specs.Terms.{var, app, none, more, variables, symbols}
use Rattle.si_defs.specs.Symbols.{Symbol}
use Rattle.si_defs.specs.Clauses.{Term}
use Rattle.si_defs.specs.Substitutions.{IsAmong}
use Rattle.si_defs.specs.declared.SymKind.TheVariants.{Word}
use Rattle.si_defs.specs.declared.Side.TheVariants.{Function}
use Rattle.si_defs.specs.declared.Relation.{Relation}
use Rattle.si_defs.specs.Relations.{Relates}
use Rattle.si_defs.specs.Solutions.{IsCanonical}
use Rattle.si_defs.specs.Variables.{Variable, of_pattern, of_entry, pattern_term, entry_term, Solution}
use Rattle.si_defs.proofs.ListLaws.{all_at, all_from, among_front, among_back}
use Rattle.si_flat.specs.Cells as cells
use Rattle.si_flat.specs.Numbered.{signed, numbered, all_numbered}
use Rattle.si_flat.proofs.FirstPlaces.{at_place, text_at}
use Rattle.si_form.specs.declared.solution.Binding.{Binding}
use Rattle.si_form.specs.Answers.{StandsForList, AnswersTo}
use Rattle.si_form.specs.Numberings.{query_by, entry_by, variable_by, list_by, symbols_of, IsFor, TextsRelate, NumbersRelate, RelationsAreKept, PlacesAreFree, AnswersToTexts, AnswersAreKept}
use Rattle.si_form.proofs.Translating.{renamed_made, translate, translate_all, translate_renamed, Translation, translated, translated_list, symbol_returns, variable_returns, Returns}
use Rattle.si_form.proofs.Carrying.{relates_there}
use Rattle.si_form.proofs.CanonicalThere.{relates_before, canonical_before}
use Rattle.si_form.proofs.SignLaws.{relates_of_canonical, one_number}
use Rattle.si_form.proofs.Vocabularies.{with_texts, number_tells, number_itself, with_numbers}
use Rattle.si_form.specs.Folding.{same_numbered}

-- ---- back from numbers
-- the first of these symbols that has the number
module _ (f : Symbol → cells.Symbol) where
  abbrev symbol_with : List Symbol → cells.Symbol → Symbol
  symbol_with [] r = record { kind = Word; text = []; side = Function; arity = 0 }
  symbol_with (s ∷ ss) r = cond (same_numbered (f s) r) s (symbol_with ss r)

  with_number : (ss : List Symbol) (s : Symbol) → IsAmong ss s → ((r : Symbol) → IsAmong ss r → f r ≡ f s → r ≡ s) → symbol_with ss (f s) ≡ s
  with_number [] s a one = elim a [ ]
  with_number (r ∷ ss) s a one = by (same_numbered (f r) (f s)) refl (with_number ss s)
    where
      by :
          (b : Bool)
          → same_numbered (f r) (f s) ≡ b
          → (IsAmong ss s → ((z : Symbol) → IsAmong ss z → f z ≡ f s → z ≡ s) → symbol_with ss (f s) ≡ s)
          → cond b r (symbol_with ss (f s)) ≡ s
      by true e rest = one r (inl refl) (number_tells (f r) (f s) e)
      by false e rest =
          elim a [
            | inl same ↦ (let bad : true ≡ false = sym (number_itself (f s)) ∙ ap (λ z. same_numbered (f z) (f s)) (sym same) ∙ e in cc)
            | inr b ↦ rest b (λ z c. one z (inr c))
          ]

abbrev number_symbol : (Symbol → ℕ) → Symbol → cells.Symbol
number_symbol number s = record { number = number s; arity = s.arity }

module _ {V : Type 0} (number : Symbol → ℕ) (variable : V → cells.Variable) where
  mutual
    numbered_is : (t : terms.Term Symbol V) → numbered number variable t ≡ translate (number_symbol number) variable t
    numbered_is (var x) = refl
    numbered_is (app s ts) = ap (app (number_symbol number s)) (all_numbered_is ts)

    all_numbered_is : (ts : terms.Terms Symbol V) → all_numbered number variable ts ≡ translate_all (number_symbol number) variable ts
    all_numbered_is none = refl
    all_numbered_is (more t ts) = ap (λ u. more u (all_numbered number variable ts)) (numbered_is t) ∙ ap (more (translate (number_symbol number) variable t)) (all_numbered_is ts)

-- ---- symbols that are told apart by their numbers
module _
    (number : Symbol → ℕ) (known : List Symbol) (xs ys : List Bytes)
    (one : (s r : Symbol) → IsAmong known s → IsAmong known r → number s ≡ number r → s ≡ r)
  where
    abbrev text_of : cells.Variable → Variable
    text_of (cells.query n) = of_pattern (text_at xs n)
    text_of (cells.entry n) = of_entry (text_at ys n)
    text_of (cells.ind n) = of_pattern []

    abbrev numbering : Translation Symbol Variable cells.Symbol cells.Variable
    numbering = record {
      symbol = number_symbol number;
      variable = variable_by xs ys;
      symbol_back = symbol_with (number_symbol number) known;
      variable_back = text_of;
    }

    list_numbered : (bs : Solution) → translated_list numbering bs ≡ list_by number (variable_by xs ys) bs
    list_numbered [] = refl
    list_numbered (b ∷ bs) =
        ap (λ t. (variable_by xs ys b.0, t) ∷ translated_list numbering bs) (sym (numbered_is number (variable_by xs ys) b.1))
        ∙ ap (λ l. (variable_by xs ys b.0, numbered number (variable_by xs ys) b.1) ∷ l) (list_numbered bs)

    known_return : (ss : List Symbol) → ((s : Symbol) → IsAmong ss s → IsAmong known s) → AllByRecursion (symbol_returns numbering) ss
    known_return ss inside =
        all_from (symbol_returns numbering) ss
        (λ s a. with_number (number_symbol number) known s (inside s a) (λ r c e. one r s c (inside s a) (ap (λ (z : cells.Symbol). z.number) e)))

    module _ (p u : Term) (in_p : (s : Symbol) → IsAmong (symbols p) s → IsAmong known s) (in_u : (s : Symbol) → IsAmong (symbols u) s → IsAmong known s) (p_placed : AllByRecursion (IsAmong xs) (variables p)) (u_placed : AllByRecursion (IsAmong ys) (variables u)) where
      pattern_returns : Returns numbering (pattern_term p)
      pattern_returns =
          renamed_made (symbol_returns numbering) (variable_returns numbering) of_pattern p (known_return (symbols p) in_p)
          (all_from (λ x. variable_returns numbering (of_pattern x)) (variables p) (λ x a. ap of_pattern (at_place xs x (all_at (IsAmong xs) (variables p) x p_placed a))))

      entry_returns : Returns numbering (entry_term u)
      entry_returns =
          renamed_made (symbol_returns numbering) (variable_returns numbering) of_entry u (known_return (symbols u) in_u)
          (all_from (λ x. variable_returns numbering (of_entry x)) (variables u) (λ x a. ap of_entry (at_place ys x (all_at (IsAmong ys) (variables u) x u_placed a))))

      pattern_there : query_by number xs p ≡ translated numbering (pattern_term p)
      pattern_there = numbered_is number (λ x. variable_by xs ys (of_pattern x)) p ∙ translate_renamed (number_symbol number) (variable_by xs ys) of_pattern p

      entry_there : entry_by number ys u ≡ translated numbering (entry_term u)
      entry_there = numbered_is number (λ x. variable_by xs ys (of_entry x)) u ∙ translate_renamed (number_symbol number) (variable_by xs ys) of_entry u

      relation_kept : (relation : Relation) → TextsRelate relation p u → NumbersRelate relation p u number xs ys
      relation_kept relation r =
          subst (λ t. Relates cells.same_variable relation (query_by number xs p) t) (sym entry_there)
          (
          subst (λ t. Relates cells.same_variable relation t (translated numbering (entry_term u))) (sym pattern_there)
          (relates_there with_texts with_numbers numbering relation (pattern_term p) (entry_term u) pattern_returns entry_returns r)
          )

      relation_before : (relation : Relation) → NumbersRelate relation p u number xs ys → TextsRelate relation p u
      relation_before relation r =
          relates_before with_texts with_numbers numbering relation (pattern_term p) (entry_term u) pattern_returns entry_returns
          (
          subst (λ t. Relates cells.same_variable relation (translated numbering (pattern_term p)) t) entry_there
          (subst (λ t. Relates cells.same_variable relation t (entry_by number ys u)) pattern_there r)
          )

      keep : (relation : Relation) (answer : Option (List Binding)) → AnswersTo relation (query_by number xs p) (entry_by number ys u) answer → AnswersToTexts relation p u number (variable_by xs ys) answer
      keep relation None h = λ r. h (relation_kept relation r)
      keep relation (Some bindings) h =
          let canonical : IsCanonical cells.same_variable relation (translated numbering (pattern_term p)) (translated numbering (entry_term u)) h.0 =
          subst (λ t. IsCanonical cells.same_variable relation (translated numbering (pattern_term p)) t h.0) entry_there
          (subst (λ t. IsCanonical cells.same_variable relation t (entry_by number ys u) h.0) pattern_there h.2.canonical) in
          let found = canonical_before with_texts with_numbers numbering relation (pattern_term p) (entry_term u) pattern_returns entry_returns h.0 canonical in
          record {
            relates = relates_of_canonical with_texts relation (pattern_term p) (entry_term u) found.0 found.2;
            solution = found.0;
            canonical = found.2;
            stands = subst (StandsForList bindings) (sym found.1 ∙ list_numbered found.0) h.1;
          }

-- ---- the laws
module _ (p u : Term) (number : Symbol → ℕ) (xs ys : List Bytes) (positive : Bool) (h : IsFor p u number xs ys) where
  signed_one : (s r : Symbol) → IsAmong (symbols_of p u) s → IsAmong (symbols_of p u) r → signed positive number s ≡ signed positive number r → s ≡ r
  signed_one s r a b e = h.symbols.one_symbol s r a b (one_number number s r positive positive (h.symbols.even s a) (h.symbols.even r b) e)

  in_pattern : (s : Symbol) → IsAmong (symbols p) s → IsAmong (symbols_of p u) s
  in_pattern s a = among_front (symbols p) (symbols u) s a

  in_entry : (s : Symbol) → IsAmong (symbols u) s → IsAmong (symbols_of p u) s
  in_entry s a = among_back (symbols p) (symbols u) s a

  texts_of_numbers : (relation : Relation) → NumbersRelate relation p u (signed positive number) xs ys → TextsRelate relation p u
  texts_of_numbers relation r = relation_before (signed positive number) (symbols_of p u) xs ys signed_one p u in_pattern in_entry h.pattern_variables h.entry_variables relation r

  numbers_of_texts : (relation : Relation) → TextsRelate relation p u → NumbersRelate relation p u (signed positive number) xs ys
  numbers_of_texts relation r = relation_kept (signed positive number) (symbols_of p u) xs ys signed_one p u in_pattern in_entry h.pattern_variables h.entry_variables relation r

  answer_kept : (relation : Relation) (answer : Option (List Binding)) → AnswersTo relation (query_by (signed positive number) xs p) (entry_by (signed positive number) ys u) answer → AnswersToTexts relation p u (signed positive number) (variable_by xs ys) answer
  answer_kept relation answer told = keep (signed positive number) (symbols_of p u) xs ys signed_one p u in_pattern in_entry h.pattern_variables h.entry_variables relation answer told

pub relations_are_kept : RelationsAreKept
relations_are_kept relation p u number xs ys positive h = (numbers_of_texts p u number xs ys positive h relation, texts_of_numbers p u number xs ys positive h relation)

pub places_are_free : PlacesAreFree
places_are_free relation p u number xs ys xs' ys' positive h h' r = numbers_of_texts p u number xs' ys' positive h' relation (texts_of_numbers p u number xs ys positive h relation r)

pub answers_are_kept : AnswersAreKept
answers_are_kept relation p u number xs ys positive answer h told = answer_kept p u number xs ys positive h relation answer told
