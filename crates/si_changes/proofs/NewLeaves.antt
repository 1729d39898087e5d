-- A new leaf is legal, and there is room for its variables.
use Rattle.std.proofs.Common.{◌≡◌, inl, inr, ℕ, zero, suc, ◌+◌, ◌<◌, ◌≤◌, Bool, true, false, cond, not, List, [], ◌∷◌, ◌++◌, length, filter, Some, refl, ap, sym, ◌∙◌, subst, arith, length-append, append-nil}
use Rattle.std.specs.List.{AllByRecursion}
use Rattle.si_defs.specs.Terms as terms
use Rattle.si_defs.specs.Substitutions.{IsAmong, AreDistinct}
use Rattle.si_defs.specs.declared.TheConstants.{MOST_OCCURRENCES}
use Rattle.si_defs.proofs.ListLaws.{all_from}
use Rattle.si_flat.specs.Cells.{Variable, query, entry, ind, same_variable, Term, Terms}
use Rattle.si_flat.specs.Flattened.{counted_from}
use Rattle.si_flat.specs.Rows.{left_sides}
use Rattle.si_flat.proofs.FirstPlaces.{among_firsts}
use Rattle.si_flat.proofs.VariableLaws.{variable_is}
use Rattle.si_legal.specs.declared.Posting.{Posting}
use Rattle.si_legal.specs.Bindings.{Binding, IsIndicator, HasNoBareIndicator, OpensNone, BindsExactly, indicators, right_indicators, applied}
use Rattle.si_legal.specs.Trees.{Tree, Path, IsPath, path_term, opened}
use Rattle.si_legal.specs.Legal.{IsOpenBelow, OpensOnce, IsWithin, IsLeafTerm, IsLegalNode}
use Rattle.si_changes.specs.Nodes.{leaf_below, RoomFor}
use Rattle.si_changes.proofs.Frames.{IsChild}
use Rattle.si_changes.proofs.ComposeLaws.{right_applied}
use Rattle.si_legal.proofs.SplitLaws.{binding_left}

-- ---- how many variables
fewer : (p : Variable → Bool) (xs : List Variable) → length (filter p xs) ≤ length xs
fewer p [] = omega arith
fewer p (x ∷ xs) = by (p x) (fewer p xs) where
  by : (b : Bool) → length (filter p xs) ≤ length xs → length (cond b (x ∷ filter p xs) (filter p xs)) ≤ length (x ∷ xs)
  by true h = omega (arith, h)
  by false h = omega (arith, h)

pub firsts_few : (xs : List Variable) → length (terms.firsts same_variable xs) ≤ length xs
firsts_few [] = omega arith
firsts_few (x ∷ xs) = omega (arith, firsts_few xs, fewer (λ y. not (same_variable x y)) (terms.firsts same_variable xs))

mutual
  pub variables_few : (t : Term) → length (terms.variables t) ≤ terms.size t
  variables_few (terms.var x) = omega arith
  variables_few (terms.app s ts) = omega (arith, all_variables_few ts)

  all_variables_few : (ts : Terms) → length (terms.variables_of_all ts) ≤ terms.sizes ts
  all_variables_few terms.none = omega arith
  all_variables_few (terms.more t ts) = omega (arith, length-append (terms.variables t) (terms.variables_of_all ts), variables_few t, all_variables_few ts)

-- the bound on variables stays a legal one
pub few_variables : (old new : Tree Term) (t : Term) → old.vars ≤ MOST_OCCURRENCES → IsLeafTerm t → RoomFor old new t → new.vars ≤ MOST_OCCURRENCES
few_variables old new t few is room =
    elim room.2 as (λ _. new.vars ≤ MOST_OCCURRENCES) [
      | inl e ↦ omega (arith, e, few)
      | inr e ↦ omega (arith, e, firsts_few (terms.variables t), variables_few t, is.size)
    ]

-- ---- which variables
pub counted : (k n : ℕ) (x : Variable) → IsAmong (counted_from entry k n) x → (m : ℕ) × (x ≡ entry m) × (m < k + n)
counted k zero x a = absurd a
counted k (suc n) x (inl e) = (k, sym e, omega arith)
counted k (suc n) x (inr a) = let rest = counted (suc k) n x a in (rest.0, rest.1, omega (arith, rest.2))

pub counted_long : (k n : ℕ) → length (counted_from entry k n) ≡ n
counted_long k zero = refl
counted_long k (suc n) = ap suc (counted_long (suc k) n)

-- the variables of a leaf's term are within the bound that there is room for
pub leaf_within : (old new : Tree Term) (t : Term) (x : Variable) → IsLeafTerm t → RoomFor old new t → IsAmong (terms.variables t) x → IsWithin new x
leaf_within old new t x is room a =
    let found = counted 0 is.numbered.0 x (subst (λ l. IsAmong l x) is.numbered.1 (among_firsts same_variable variable_is (terms.variables t) x a)) in
    let long = ap length is.numbered.1 ∙ counted_long 0 is.numbered.0 in
    subst (IsWithin new) (sym found.1) (omega (arith, found.2, long, room.1))

-- ---- the leaf
no_bare_open : (bs : List Binding) → OpensNone bs → HasNoBareIndicator bs
no_bare_open [] none = tt
no_bare_open (b ∷ bs) none = (by b.1 (no_front (indicators b.1) (right_indicators bs) none), no_bare_open bs (no_back (indicators b.1) (right_indicators bs) none)) where
  no_front : (xs ys : List ℕ) → xs ++ ys ≡ [] → xs ≡ []
  no_front [] ys e = refl
  no_front (x ∷ xs) ys e = cc

  no_back : (xs ys : List ℕ) → xs ++ ys ≡ [] → ys ≡ []
  no_back [] ys e = e
  no_back (x ∷ xs) ys e = cc

  by : (t : Term) → indicators t ≡ [] → IsIndicator t → ⊥
  by (terms.var (query n)) e h = h
  by (terms.var (entry n)) e h = h
  by (terms.var (ind n)) e h = cc
  by (terms.app s ts) e h = h

pub new_leaf : (old new : Tree Term) (key parent : ℕ) (bs : List Binding) (p : Posting) (above : Path) → IsPath new (Some parent) above → OpensOnce above → BindsExactly (IsOpenBelow above) bs → OpensNone bs → IsLeafTerm (applied bs (path_term above)) → RoomFor old new (applied bs (path_term above)) → ((child : ℕ) → IsChild new key child → ⊥) → IsLegalNode new key (leaf_below parent bs (p ∷ []))
new_leaf old new key parent bs p above reached once binds none is room childless = record {
  above = above;
  reached = reached;
  only_root = λ e. cc;
  binds = record {
    lefts = all_from (IsOpenBelow above) (left_sides bs) (λ n a. (binds.1 n).0 a);
    distinct = binds.0;
    rights = no_bare_open bs none;
    within = all_from (λ b. AllByRecursion (IsWithin new) (terms.variables b.1)) bs (λ b a. all_from (IsWithin new) (terms.variables b.1) (λ x inside.
        leaf_within old new (applied bs (path_term above)) x is room
        (right_applied bs (path_term above) b x binds.0 a ((binds.1 b.0).0 (binding_left bs b.0 b.1 a)) inside)));
  };
  opens = subst AreDistinct (sym (ap (λ l. opened above ++ l) none ∙ append-nil (opened above))) once;
  content = (
    (λ child. ((λ a. absurd a), (λ c. childless child c))),
    is,
    ((λ a. a), tt),
  );
}
