-- The order of the variables of a query and an entry is that of their slots.
use Rattle.std.proofs.Common.{◌≡◌, ℕ, ◌+◌, ◌<◌, ◌≤◌, inl, inr, Bool, true, false, cond, not, List, [], ◌∷◌, ◌++◌, suc, zero, refl, sym, ◌∙◌, ap, arith}
use Rattle.std.specs.Prelude.{filter}
use Rattle.std.proofs.lemmas.Bool.{lt-ltb, le-ltb}
use Rattle.std.proofs.lemmas.List.Elements.{filter-append}
use Rattle.si_defs.specs.Terms as terms
use Rattle.si_defs.specs.Substitutions.{IsAmong}
use Rattle.si_defs.specs.Solutions.{order}
use Rattle.si_flat.specs.Cells.{Variable, query, entry, same_variable, Term}
use Rattle.si_unify.specs.declared.slots.Slots.{Slots}
use Rattle.si_unify.specs.Solving as solving
use Rattle.si_unify.specs.Solving.{slot_count}
use Rattle.si_flat.specs.declared.Owner.TheVariants.{Query, Entry}
use Rattle.si_form.specs.Answers.{owners_variables}
use Rattle.si_flat.proofs.VariableLaws.{variable_is}
use Rattle.si_flat.proofs.FirstPlaces.{firsts_among}
use Rattle.si_form.proofs.OrderedLaws.{variables_of_slots}

-- ---- first occurrences in two lists that are apart
kept_all : (x : Variable) (ys : List Variable) → (IsAmong ys x → ⊥) → filter (λ y. not (same_variable x y)) ys ≡ ys
kept_all x [] apart = refl
kept_all x (y ∷ ys) apart = by (same_variable x y) refl (kept_all x ys (λ a. apart (inr a)))
  where
    by : (b : Bool) → same_variable x y ≡ b → filter (λ z. not (same_variable x z)) ys ≡ ys → cond (not b) (y ∷ filter (λ z. not (same_variable x z)) ys) (filter (λ z. not (same_variable x z)) ys) ≡ y ∷ ys
    by true e rest = absurd (apart (inl (sym (variable_is x y e))))
    by false e rest = ap (λ l. y ∷ l) rest

firsts_parts : (xs ys : List Variable) → ((x : Variable) → IsAmong xs x → IsAmong ys x → ⊥) → terms.firsts same_variable (xs ++ ys) ≡ terms.firsts same_variable xs ++ terms.firsts same_variable ys
firsts_parts [] ys apart = refl
firsts_parts (x ∷ xs) ys apart =
    ap (λ l. x ∷ filter (λ y. not (same_variable x y)) l) (firsts_parts xs ys (λ y a b. apart y (inr a) b))
    ∙ ap (λ l. x ∷ l) (filter-append (λ y. not (same_variable x y)) (terms.firsts same_variable xs) (terms.firsts same_variable ys))
    ∙ ap (λ l. x ∷ (filter (λ y. not (same_variable x y)) (terms.firsts same_variable xs) ++ l))
    (kept_all x (terms.firsts same_variable ys) (λ a. apart x (inl refl) (firsts_among same_variable ys x a)))

-- ---- the variables of the slots
query_slot : (slots : Slots) (k : ℕ) → k < slots.query → solving.variable_of slots k ≡ query k
query_slot slots k less = rw (lt-ltb k slots.query less) refl

entry_slot : (slots : Slots) (k : ℕ) → k < slots.entry → solving.variable_of slots (slots.query + k) ≡ entry k
entry_slot slots k less = rw (le-ltb (slots.query + k) slots.query (omega arith), lt-ltb (slots.query + k) (slots.query + slots.entry) (omega (arith, less))) (ap entry (omega arith))

query_slots : (slots : Slots) (k n : ℕ) (rest : ℕ) → k + n ≤ slots.query → variables_of_slots slots k (n + rest) ≡ owners_variables Query k n ++ variables_of_slots slots (k + n) rest
query_slots slots k zero rest less = (let e : 0 + rest ≡ rest = omega arith in ap (variables_of_slots slots k) e) ∙ (let e : k ≡ k + 0 = omega arith in ap (λ j. variables_of_slots slots j rest) e)
query_slots slots k (suc n) rest less =
    (let e : suc n + rest ≡ suc (n + rest) = omega arith in ap (variables_of_slots slots k) e)
    ∙ ap (λ x. x ∷ variables_of_slots slots (suc k) (n + rest)) (query_slot slots k (omega (arith, less)))
    ∙ ap (λ l. query k ∷ l) (query_slots slots (suc k) n rest (omega (arith, less)))
    ∙ (let e : suc k + n ≡ k + suc n = omega arith in ap (λ j. query k ∷ (owners_variables Query (suc k) n ++ variables_of_slots slots j rest)) e)

entry_slots : (slots : Slots) (k n : ℕ) → k + n ≤ slots.entry → variables_of_slots slots (slots.query + k) n ≡ owners_variables Entry k n
entry_slots slots k zero less = refl
entry_slots slots k (suc n) less =
    ap (λ x. x ∷ variables_of_slots slots (suc (slots.query + k)) n) (entry_slot slots k (omega (arith, less)))
    ∙ ap (λ l. entry k ∷ l) ((let e : suc (slots.query + k) ≡ slots.query + suc k = omega arith in ap (λ j. variables_of_slots slots j n) e) ∙ entry_slots slots (suc k) n (omega (arith, less)))

pub order_of_slots :
    (slots : Slots) (q e : Term)
    → slots.inds ≡ 0
    → terms.firsts same_variable (terms.variables q) ≡ owners_variables Query 0 slots.query
    → terms.firsts same_variable (terms.variables e) ≡ owners_variables Entry 0 slots.entry
    → ((x : Variable) → IsAmong (terms.variables q) x → IsAmong (terms.variables e) x → ⊥)
    → order same_variable q e ≡ variables_of_slots slots 0 (slot_count slots)
order_of_slots slots q e none of_q of_e apart =
    firsts_parts (terms.variables q) (terms.variables e) apart
    ∙ ap (λ l. l ++ terms.firsts same_variable (terms.variables e)) of_q
    ∙ ap (λ l. owners_variables Query 0 slots.query ++ l) (of_e ∙ sym (entry_slots slots 0 slots.entry (omega arith)))
    ∙ (let e : slots.query + 0 ≡ 0 + slots.query = omega arith in ap (λ j. owners_variables Query 0 slots.query ++ variables_of_slots slots j slots.entry) e)
    ∙ sym (query_slots slots 0 slots.query slots.entry (omega arith))
    ∙ (let e : slots.query + slots.entry ≡ slot_count slots = omega (arith, none) in ap (variables_of_slots slots 0) e)
