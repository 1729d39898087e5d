-- That clauses keep their keys, since their names lead to them.
use Rattle.std.proofs.Common.{zero, suc, ◌≡◌, ◌⊎◌, inl, inr, ℕ, List, [], ◌∷◌, Option, None, Some, slice_get, sym, ap, ◌∙◌}
use Rattle.std.proofs.lemmas.Option.{same_Some, none-some}
use Rattle.std.proofs.lemmas.List.{length-map}
use Rattle.si_defs.specs.Clauses.{Name, Clause}
use Rattle.si_defs.specs.Substitutions.{IsAmong, AreDistinct}
use Rattle.si_state.specs.States.{limited_to}
use Rattle.si_flat.specs.Cells.{Term}
use Rattle.si_legal.specs.Trees.{Tree}
use Rattle.si_held.specs.TwoTrees.{TwoTrees}
use Rattle.si_term.specs.Meaning.{clause_of}
use Rattle.si_term.specs.declared.clause.Clause as term
use Rattle.si_keyed.specs.Keyed.{item_keys}
use Rattle.si_index.specs.Kept.{Kept, AreKeyed, KeysStay, clauses_of}
use Rattle.si_index.specs.Names.{AreNamed, ChangesName}
use Rattle.si_index.proofs.NameLaws.{name_either}

-- trees of which nothing is said
abbrev no_tree : Tree Term
no_tree = record { nodes = []; root = 0; next = 0; vars = 0 }

abbrev pub no_trees : TwoTrees
no_trees = record { literals = no_tree; subterms = no_tree }

-- items as they are seen in an index
abbrev pub kept_as : List (ℕ × term.Clause) → Kept
kept_as items = record { clauses = clauses_of items; keys = item_keys items; rules = limited_to 0; numbers = []; trees = no_trees }

pub are_keyed : (items : List (ℕ × term.Clause)) → AreDistinct (item_keys items) → AreKeyed (kept_as items)
are_keyed items distinct = record {
  number = length-map items (λ p. p.0) ∙ sym (length-map items (λ p. clause_of p.1));
  distinct = distinct;
}

among_keyed : (items : List (ℕ × term.Clause)) (key n : ℕ) (c : Clause) → slice_get (item_keys items) n ≡ Some key → slice_get (clauses_of items) n ≡ Some c
    → (d : term.Clause) × IsAmong items (key, d) × (clause_of d ≡ c)
among_keyed [] key n c k h = absurd (none-some _ h)
among_keyed (x ∷ items) key zero c k h = (x.1, inl (λ i. (same_Some _ _ k i, x.1)), same_Some _ _ h)
among_keyed (x ∷ items) key (suc n) c k h = let found = among_keyed items key n c k h in (found.0, inr found.1, found.2)

pub keys_stay : (old new : List (ℕ × term.Clause)) (was is : Name → Option ℕ) → AreNamed old was → AreNamed new is
    → ((name : Name) (m n : ℕ) → was name ≡ Some m → is name ≡ Some n → m ≡ n) → KeysStay (kept_as old) (kept_as new)
keys_stay old new was is before after same c m n a b =
    let one = among_keyed old m a.0 c a.1 a.2 in
    let other = among_keyed new n b.0 c b.1 b.2 in
    same c.name m n
    (ap (λ (d : Clause). was d.name) (sym one.2) ∙ before.listed m one.0 one.1)
    (ap (λ (d : Clause). is d.name) (sym other.2) ∙ after.listed n other.0 other.1)

pub keys_same : (items : List (ℕ × term.Clause)) (names : Name → Option ℕ) → AreNamed items names → KeysStay (kept_as items) (kept_as items)
keys_same items names are = keys_stay items items names names are are (λ name m n a b. same_Some _ _ (sym a ∙ b))

-- where one name comes or goes, the others lead to what they led to
pub keys_through : (name : Name) (key : Option ℕ) (was is : Name → Option ℕ) → ChangesName name key was is → (was name ≡ None) ⊎ (key ≡ None)
    → (other : Name) (m n : ℕ) → was other ≡ Some m → is other ≡ Some n → m ≡ n
keys_through name key was is change gone other m n a b = by gone (name_either other name) where
  by : (was name ≡ None) ⊎ (key ≡ None) → (other ≡ name) ⊎ (other ≡ name → ⊥) → m ≡ n
  by none (inr differ) = same_Some _ _ (sym a ∙ sym (change.others other differ) ∙ b)
  by (inl none) (inl same) = absurd (none-some _ (sym none ∙ ap was (sym same) ∙ a))
  by (inr none) (inl same) = absurd (none-some _ (sym none ∙ sym change.here ∙ ap is (sym same) ∙ b))
