-- A node is open where some map solves the bindings of its path, with 0 for the query.
use Rattle.std.proofs.Common.{◌≡◌, ◌⊎◌, inl, inr, ℕ, zero, suc, Bool, true, false, List, [], ◌∷◌, ◌++◌, Option, map, refl, ap, sym, ◌∙◌, subst}
use Rattle.std.specs.List.{AllByRecursion}
use Rattle.si_defs.specs.Terms as terms
use Rattle.si_defs.specs.Substitutions.{Substitution, image, apply, lefts, IsAmong, IsOn}
use Rattle.si_defs.specs.Relations.{Matches}
use Rattle.si_defs.specs.declared.Relation.{Relation}
use Rattle.si_defs.specs.declared.Relation.TheVariants.{Variants, Instances, Generalizations, Unifiable}
use Rattle.si_defs.proofs.ListLaws.{all_at, among_front, among_back, among_parts}
use Rattle.si_flat.specs.Cells.{Symbol, Variable, query, entry, ind, same_variable, Term}
use Rattle.si_flat.specs.Flattened.{IsNumberedBy, counted_from}
use Rattle.si_flat.proofs.VariableLaws.{variable_is}
use Rattle.si_flat.proofs.FirstPlaces.{among_firsts}
use Rattle.si_unify.specs.declared.slots.Slots.{Slots}
use Rattle.si_unify.specs.Solving.{is_frozen}
use Rattle.si_legal.specs.Bindings.{Binding, indicators, substitution_of, applied}
use Rattle.si_legal.specs.Trees.{Node, Tree, Path, IsPath, path_term}
use Rattle.si_legal.specs.Legal.{IsWithin}
use Rattle.si_legal.specs.OpenNodes.{IsOpen}
use Rattle.si_changes.proofs.Frames.{HasLegalNodes}
use Rattle.si_changes.proofs.HeadLaws.{image_keeps}
use Rattle.si_changes.proofs.Permuted.{among_or_not}
use Rattle.si_changes.proofs.ComposeLaws.{same_substituted, indicator_in, applied_from, is_substituted}
use Rattle.si_fit.specs.Meeting.{LeavesFrozen}
use Rattle.si_descend.specs.Descending.{Freezes, SolvesFrom, Renames}
use Rattle.si_descend.proofs.Tabulated.{tabulated, tabulated_is, tabulated_on, replaced_or_not, left_alone, substituted_none, cut_down}
use Rattle.si_descend.proofs.Along.{along, path_term_along, along_none, bound_on, is_step, solves_along, solves_path_term}

-- ---- variables of one kind
counted_is : (variable : ℕ → Variable) (k n : ℕ) (x : Variable) → IsAmong (counted_from variable k n) x → (m : ℕ) × (variable m ≡ x)
counted_is variable k zero x a = absurd a
counted_is variable k (suc n) x (inl e) = (k, e)
counted_is variable k (suc n) x (inr a) = counted_is variable (suc k) n x a

-- the variables of a term that are numbered are of that kind
pub of_kind : (variable : ℕ → Variable) (t : Term) (x : Variable) → IsNumberedBy variable t → IsAmong (terms.variables t) x → (m : ℕ) × (variable m ≡ x)
of_kind variable t x h a =
    counted_is variable 0 h.0 x (subst (λ l. IsAmong l x) h.1 (among_firsts same_variable variable_is (terms.variables t) x a))

pub map_among : (ns : List ℕ) (n : ℕ) → IsAmong ns n → IsAmong (map ind ns) (ind n)
map_among [] n a = absurd a
map_among (m ∷ ns) n (inl e) = inl (ap ind e)
map_among (m ∷ ns) n (inr a) = inr (map_among ns n a)

mapped_relation : (ns : List ℕ) (x : Variable) → IsAmong (map ind ns) x → (n : ℕ) × (ind n ≡ x)
mapped_relation [] x a = absurd a
mapped_relation (m ∷ ns) x (inl e) = (m, e)
mapped_relation (m ∷ ns) x (inr a) = mapped_relation ns x a

pub query_no_entry : (m n : ℕ) → query m ≡ entry n → ⊥
query_no_entry m n e = cc

pub entry_no_ind : (m n : ℕ) → entry m ≡ ind n → ⊥
entry_no_ind m n e = cc

pub ind_no_entry : (m n : ℕ) → ind m ≡ entry n → ⊥
ind_no_entry m n e = cc

entry_no_query : (m n : ℕ) → entry m ≡ query n → ⊥
entry_no_query m n e = cc

frozen_or_not : (b : Bool) → b ≡ false → b ≡ true → ⊥
frozen_or_not b p q = cc

-- ---- variables under bindings
pub entry_kept : (bs : List Binding) (t : Term) (m : ℕ) → IsAmong (terms.variables t) (entry m) → IsAmong (terms.variables (applied bs t)) (entry m)
entry_kept bs t m a =
    is_substituted (image same_variable (substitution_of bs)) t (entry m)
    (entry m, a, subst (λ u. IsAmong (terms.variables u) (entry m)) (sym ((image_keeps bs).entries m)) (inl refl))

-- fewer variables are renamed by the same map
pub renames_fewer : (relation : Relation) (t u : Term) (s : Substitution Symbol Variable) → ((m : ℕ) → IsAmong (terms.variables t) (entry m) → IsAmong (terms.variables u) (entry m)) → Renames relation u s → Renames relation t s
renames_fewer Variants t u s more h = record {
  renames = λ m a. h.renames m (more m a);
  apart = λ m n a b e. h.apart m n (more m a) (more n b) e;
}
renames_fewer Instances t u s more h = tt
renames_fewer Generalizations t u s more h = tt
renames_fewer Unifiable t u s more h = tt

-- so by a map that gives these the same
pub renames_same : (relation : Relation) (t : Term) (s r : Substitution Symbol Variable) → ((m : ℕ) → IsAmong (terms.variables t) (entry m) → image same_variable r (entry m) ≡ image same_variable s (entry m)) → Renames relation t s → Renames relation t r
renames_same Variants t s r same h = record {
  renames = λ m a. (let y = h.renames m a in (y.0, same m a ∙ y.1));
  apart = λ m n a b e. h.apart m n a b (sym (same m a) ∙ e ∙ same n b);
}
renames_same Instances t s r same h = tt
renames_same Generalizations t s r same h = tt
renames_same Unifiable t s r same h = tt

module _ (tree : Tree Term) (legal : HasLegalNodes tree) where
  -- no variable of a query stands in a path's term
  pub no_query : (from : Option ℕ) (p : Path) → IsPath tree from p → (n : ℕ) → IsAmong (terms.variables (path_term p)) (query n) → ⊥
  no_query from [] reached n (inl e) = by e where
    by : ind 0 ≡ query n → ⊥
    by e = cc
  no_query from [] reached n (inr a) = a
  no_query from (step ∷ above) reached n a =
      let is = is_step tree legal step above reached.1 reached.2 in
      elim (applied_from step.1.bindings (path_term above) (query n) is.binds.distinct a) as (λ _. ⊥) [
        | inl b ↦ no_query step.1.parent above reached.2 n b
        | inr b ↦ all_at (IsWithin tree) (terms.variables b.0.1) (query n) (all_at (λ c. AllByRecursion (IsWithin tree) (terms.variables c.1)) step.1.bindings b.0 is.binds.within b.1) b.2
      ]

  module _ (slots : Slots) (q : Term) (numbered : IsNumberedBy query q) (from : Option ℕ) (p : Path) (reached : IsPath tree from p) where
    -- ---- from a map that makes the query and the path's term equal
    pub record Extends (s0 : Substitution Symbol Variable) : Type 0 where
      pub map : Substitution Symbol Variable
      pub solves : SolvesFrom slots q p map
      pub entries : (m : ℕ) → image same_variable map (entry m) ≡ image same_variable s0 (entry m)

    pub extended : (s0 : Substitution Symbol Variable) → LeavesFrozen slots (image same_variable s0) → apply same_variable s0 q ≡ apply same_variable s0 (path_term p) → Extends s0
    extended s0 frozen equal = record {
      map = s;
      solves = record {
        frozen = λ x h. by_frozen x h;
        zero = is (ind 0) ∙ ap (apply same_variable s0) (sym (path_term_along p)) ∙ sym equal ∙ sym (same_substituted (image same_variable s) (image same_variable s0) q on_query);
        bindings = solves_along tree legal from p reached (image same_variable s0) s is;
      };
      entries = λ m. is (entry m) ∙ ap (apply same_variable s0) (along_none p (terms.var (entry m)) (λ n a b. a));
    } where
      f : Variable → Term
      f x = apply same_variable s0 (along p (terms.var x))

      s : Substitution Symbol Variable
      s = tabulated f (lefts s0 ++ map ind (bound_on p))

      known : (x : Variable) → IsAmong (lefts s0) x ⊎ (image same_variable s0 x ≡ terms.var x) → IsAmong (lefts s0 ++ map ind (bound_on p)) x ⊎ (f x ≡ terms.var x)
      known x (inl a) = inl (among_front (lefts s0) (map ind (bound_on p)) x a)
      known (query n) (inr e) = inr (ap (apply same_variable s0) (along_none p (terms.var (query n)) (λ k a b. a)) ∙ e)
      known (entry n) (inr e) = inr (ap (apply same_variable s0) (along_none p (terms.var (entry n)) (λ k a b. a)) ∙ e)
      known (ind n) (inr e) = elim (among_or_not (bound_on p) n) as (λ _. IsAmong (lefts s0 ++ map ind (bound_on p)) (ind n) ⊎ (f (ind n) ≡ terms.var (ind n))) [
        | inl a ↦ inl (among_back (lefts s0) (map ind (bound_on p)) (ind n) (map_among (bound_on p) n a))
        | inr o ↦ inr (ap (apply same_variable s0) (along_none p (terms.var (ind n)) (λ k a b. elim a as (λ _. ⊥) [ inl i ↦ o (subst (IsAmong (bound_on p)) (sym i) b) | inr m ↦ absurd m ])) ∙ e)
      ]

      is : (x : Variable) → image same_variable s x ≡ f x
      is x = tabulated_is f (lefts s0 ++ map ind (bound_on p)) x (known x (replaced_or_not s0 x))

      on_query : (x : Variable) → IsAmong (terms.variables q) x → image same_variable s x ≡ image same_variable s0 x
      on_query x a =
          let k = of_kind query q x numbered a in
          subst (λ y. image same_variable s y ≡ image same_variable s0 y) k.1
          (is (query k.0) ∙ ap (apply same_variable s0) (along_none p (terms.var (query k.0)) (λ n i b. i)))

      by_frozen : (x : Variable) → is_frozen slots x ≡ true → image same_variable s x ≡ terms.var x
      by_frozen (query n) h = is (query n) ∙ ap (apply same_variable s0) (along_none p (terms.var (query n)) (λ k a b. a)) ∙ frozen (query n) h
      by_frozen (entry n) h = is (entry n) ∙ ap (apply same_variable s0) (along_none p (terms.var (entry n)) (λ k a b. a)) ∙ frozen (entry n) h
      by_frozen (ind n) h = absurd (frozen_or_not false refl h)

    -- ---- open, then solved
    pub record IsSolved (relation : Relation) : Type 0 where
      pub map : Substitution Symbol Variable
      pub solves : SolvesFrom slots q p map
      pub renames : Renames relation (path_term p) map

    none_frozen : slots.freeze_query ≡ false → slots.freeze_entry ≡ false → (s : Substitution Symbol Variable) → LeavesFrozen slots (image same_variable s)
    none_frozen a b s (query n) h = absurd (frozen_or_not slots.freeze_query a h)
    none_frozen a b s (entry n) h = absurd (frozen_or_not slots.freeze_entry b h)
    none_frozen a b s (ind n) h = absurd (frozen_or_not false refl h)

    -- a map on the query and the indicators leaves the entry
    entry_left : slots.freeze_query ≡ false → (s : Substitution Symbol Variable) → IsOn (terms.variables q ++ map ind (indicators (path_term p))) s → LeavesFrozen slots (image same_variable s)
    entry_left a s on (query n) h = absurd (frozen_or_not slots.freeze_query a h)
    entry_left a s on (entry n) h = left_alone (terms.variables q ++ map ind (indicators (path_term p))) s (entry n) on by where
      by : IsAmong (terms.variables q ++ map ind (indicators (path_term p))) (entry n) → ⊥
      by i = elim (among_parts (terms.variables q) (map ind (indicators (path_term p))) (entry n) i) as (λ _. ⊥) [
        | inl b ↦ (let k = of_kind query q (entry n) numbered b in query_no_entry k.0 n k.1)
        | inr b ↦ (let k = mapped_relation (indicators (path_term p)) (entry n) b in ind_no_entry k.0 n k.1)
      ]
    entry_left a s on (ind n) h = absurd (frozen_or_not false refl h)

    -- a map on the path's term leaves the query
    query_kept : (s : Substitution Symbol Variable) → IsOn (terms.variables (path_term p)) s → (n : ℕ) → image same_variable s (query n) ≡ terms.var (query n)
    query_kept s on n = left_alone (terms.variables (path_term p)) s (query n) on (no_query from p reached n)

    query_left : slots.freeze_entry ≡ false → (s : Substitution Symbol Variable) → IsOn (terms.variables (path_term p)) s → LeavesFrozen slots (image same_variable s)
    query_left b s on (query n) h = query_kept s on n
    query_left b s on (entry n) h = absurd (frozen_or_not slots.freeze_entry b h)
    query_left b s on (ind n) h = absurd (frozen_or_not false refl h)

    -- a map that leaves the query's variables leaves the query
    whole_query : (s : Substitution Symbol Variable) → ((n : ℕ) → image same_variable s (query n) ≡ terms.var (query n)) → apply same_variable s q ≡ q
    whole_query s kept = substituted_none (image same_variable s) q (λ x a. let k = of_kind query q x numbered a in subst (λ y. image same_variable s y ≡ terms.var y) k.1 (kept k.0))

    matched : slots.freeze_entry ≡ false → (s : Substitution Symbol Variable) → Matches same_variable (path_term p) q s → Extends s
    matched b s m = extended s (query_left b s m.on) (whole_query s (query_kept s m.on) ∙ sym m.takes)

    pub open_solved : (relation : Relation) → Freezes relation slots → IsOpen relation q (path_term p) → IsSolved relation
    open_solved Unifiable f h = let e = extended h.0 (none_frozen f.0 f.1 h.0) h.1 in record { map = e.map; solves = e.solves; renames = tt }
    open_solved Instances f h = let e = extended h.0 (entry_left f.0 h.0 h.1) h.2 in record { map = e.map; solves = e.solves; renames = tt }
    open_solved Generalizations f h = let e = matched f.1 h.0 h.1 in record { map = e.map; solves = e.solves; renames = tt }
    open_solved Variants f h =
        let e = matched f.1 h.0 h.1 in
        record { map = e.map; solves = e.solves; renames = renames_same Variants (path_term p) h.0 e.map (λ m a. e.entries m) h.2 }

    -- ---- solved, then open
    makes_equal : (s : Substitution Symbol Variable) → SolvesFrom slots q p s → apply same_variable s (path_term p) ≡ apply same_variable s q
    makes_equal s h = solves_path_term s p h.bindings ∙ h.zero

    abbrev cut : (s : Substitution Symbol Variable) → List Variable → Substitution Symbol Variable
    cut s xs = tabulated (image same_variable s) xs

    instance_of : slots.freeze_entry ≡ true → (s : Substitution Symbol Variable) → SolvesFrom slots q p s → IsOpen Instances q (path_term p)
    instance_of frozen s h =
        let xs = terms.variables q ++ map ind (indicators (path_term p)) in (
          cut s xs,
          tabulated_on (image same_variable s) xs,
          cut_down s xs q (λ x a. inl (among_front (terms.variables q) (map ind (indicators (path_term p))) x a)) ∙ sym (makes_equal s h) ∙ sym (cut_down s xs (path_term p) by),
        )
      where
        by : (x : Variable) → IsAmong (terms.variables (path_term p)) x → IsAmong (terms.variables q ++ map ind (indicators (path_term p))) x ⊎ (image same_variable s x ≡ terms.var x)
        by (query n) a = absurd (no_query from p reached n a)
        by (entry n) a = inr (h.frozen (entry n) frozen)
        by (ind n) a = inl (among_back (terms.variables q) (map ind (indicators (path_term p))) (ind n) (map_among (indicators (path_term p)) n (indicator_in (terms.variables (path_term p)) n a)))

    matches_of : slots.freeze_query ≡ true → (s : Substitution Symbol Variable) → SolvesFrom slots q p s → Matches same_variable (path_term p) q (cut s (terms.variables (path_term p)))
    matches_of frozen s h = record {
      on = tabulated_on (image same_variable s) (terms.variables (path_term p));
      takes = cut_down s (terms.variables (path_term p)) (path_term p) (λ x a. inl a) ∙ makes_equal s h ∙ whole_query s (λ n. h.frozen (query n) frozen);
    }

    pub solved_open : (relation : Relation) → Freezes relation slots → (s : Substitution Symbol Variable) → SolvesFrom slots q p s → Renames relation (path_term p) s → IsOpen relation q (path_term p)
    solved_open Unifiable f s h r = (s, sym (makes_equal s h))
    solved_open Instances f s h r = instance_of f.1 s h
    solved_open Generalizations f s h r = (cut s (terms.variables (path_term p)), matches_of f.0 s h)
    solved_open Variants f s h r = (
      cut s (terms.variables (path_term p)),
      matches_of f.0 s h,
      renames_same Variants (path_term p) s (cut s (terms.variables (path_term p))) (λ m a. tabulated_is (image same_variable s) (terms.variables (path_term p)) (entry m) (inl a)) r,
    )

  -- ---- upwards
  -- the slots that a relation asks for
  abbrev pub slots_for : Relation → Slots
  slots_for Unifiable = record { query = 0; entry = 0; inds = 0; freeze_query = false; freeze_entry = false }
  slots_for Instances = record { query = 0; entry = 0; inds = 0; freeze_query = false; freeze_entry = true }
  slots_for Generalizations = record { query = 0; entry = 0; inds = 0; freeze_query = true; freeze_entry = false }
  slots_for Variants = record { query = 0; entry = 0; inds = 0; freeze_query = true; freeze_entry = false }

  freezes_for : (relation : Relation) → Freezes relation (slots_for relation)
  freezes_for Unifiable = (refl, refl)
  freezes_for Instances = (refl, refl)
  freezes_for Generalizations = (refl, refl)
  freezes_for Variants = (refl, refl)

  -- what is above an open node is open
  pub open_above : (relation : Relation) (q : Term) → IsNumberedBy query q → (from : Option ℕ) (step : ℕ × Node Term) (above : Path) → IsPath tree from (step ∷ above) → IsOpen relation q (path_term (step ∷ above)) → IsOpen relation q (path_term above)
  open_above relation q numbered from step above reached h =
      let e = open_solved (slots_for relation) q numbered from (step ∷ above) reached relation (freezes_for relation) h in
      solved_open (slots_for relation) q numbered step.1.parent above reached.2 relation (freezes_for relation) e.map
      (record { frozen = e.solves.frozen; zero = e.solves.zero; bindings = e.solves.bindings.1 })
      (renames_fewer relation (path_term above) (path_term (step ∷ above)) e.map (λ m a. entry_kept step.1.bindings (path_term above) m a) e.renames)
