-- A clause that subsumes another one has no bit that the other one lacks.
use Rattle.std.proofs.Common.{◌≡◌, ◌⊎◌, inl, inr, ℕ, zero, suc, Bool, List, [], ◌∷◌, ◌++◌, map, refl, sym, ap, ◌∙◌, subst}
use Rattle.std.specs.Prelude.{Some}
use Rattle.std.proofs.lemmas.Option.{same_Some, none-some}
use Rattle.si_defs.specs.Terms.{Term, Terms, var, app, none, more, symbols, symbols_of_all, substitute, substitute_all, rename, rename_all}
use Rattle.si_defs.specs.Symbols.{Symbol}
use Rattle.si_defs.specs.Clauses.{Literal}
use Rattle.si_defs.specs.Substitutions.{IsAmong, image}
use Rattle.si_defs.specs.Variables.{of_pattern, of_entry, pattern_term, same_variable, Solution}
use Rattle.si_defs.proofs.ListLaws.{among_front, among_back, among_parts}
use Rattle.si_state.specs.Subsumption.{item_at, AreImages, TakesTo}
use Rattle.si_screen.specs.ClauseRows.{above, bit_of, RowsFollow}
use Rattle.si_screen.specs.Walks.{atom_numbers, literal_numbers, literals_numbers}
use Rattle.si_screen.proofs.RowLaws.{of_literals}

-- ---- members of lists
abbrev AreIn : {X : Type 0} → List X → List X → Type 0
AreIn {X} xs ys = (x : X) → IsAmong xs x → IsAmong ys x

module _ {X Y : Type 0} (f : X → Y) where
  among_map : (xs : List X) (x : X) → IsAmong xs x → IsAmong (map f xs) (f x)
  among_map [] x a = absurd a
  among_map (y ∷ xs) x (inl e) = inl (ap f e)
  among_map (y ∷ xs) x (inr a) = inr (among_map xs x a)

  map_in : (xs ys : List X) → AreIn xs ys → AreIn (map f xs) (map f ys)
  map_in [] ys within y a = absurd a
  map_in (x ∷ xs) ys within y (inl e) = subst (IsAmong (map f ys)) e (among_map ys x (within x (inl refl)))
  map_in (x ∷ xs) ys within y (inr a) = map_in xs ys (λ z b. within z (inr b)) y a

parts_in : {X : Type 0} (ws xs ys zs : List X) → AreIn ws ys → AreIn xs zs → AreIn (ws ++ xs) (ys ++ zs)
parts_in {X} ws xs ys zs first second x a = by (among_parts ws xs x a) where
  by : IsAmong ws x ⊎ IsAmong xs x → IsAmong (ys ++ zs) x
  by (inl b) = among_front ys zs x (first x b)
  by (inr b) = among_back ys zs x (second x b)

-- ---- symbols of other terms
mutual
  renamed : {S V W : Type 0} (f : V → W) (t : Term S V) → symbols (rename f t) ≡ symbols t
  renamed f (var x) = refl
  renamed f (app s ts) = ap (λ l. s ∷ l) (all_renamed f ts)

  all_renamed : {S V W : Type 0} (f : V → W) (ts : Terms S V) → symbols_of_all (rename_all f ts) ≡ symbols_of_all ts
  all_renamed f none = refl
  all_renamed f (more t ts) = λ i. renamed f t i ++ all_renamed f ts i

mutual
  substituted : {S V : Type 0} (f : V → Term S V) (t : Term S V) → AreIn (symbols t) (symbols (substitute f t))
  substituted f (var x) s a = absurd a
  substituted f (app r ts) s (inl e) = inl e
  substituted f (app r ts) s (inr a) = inr (all_substituted f ts s a)

  all_substituted : {S V : Type 0} (f : V → Term S V) (ts : Terms S V) → AreIn (symbols_of_all ts) (symbols_of_all (substitute_all f ts))
  all_substituted f none s a = absurd a
  all_substituted f (more t ts) s a =
      parts_in (symbols t) (symbols_of_all ts) (symbols (substitute f t)) (symbols_of_all (substitute_all f ts)) (substituted f t) (all_substituted f ts) s a

module _ (number : Symbol → ℕ) where
  renamed_numbers : {V W : Type 0} (f : V → W) (positive : Bool) (t : Term Symbol V) → atom_numbers number positive (rename f t) ≡ atom_numbers number positive t
  renamed_numbers f positive (var x) = refl
  renamed_numbers f positive (app s ts) = ap (λ l. above positive (number s) ∷ map number l) (all_renamed f ts)

  substituted_numbers : {V : Type 0} (f : V → Term Symbol V) (positive : Bool) (t : Term Symbol V) → AreIn (atom_numbers number positive t) (atom_numbers number positive (substitute f t))
  substituted_numbers f positive (var x) n a = absurd a
  substituted_numbers f positive (app s ts) n (inl e) = inl e
  substituted_numbers f positive (app s ts) n (inr a) = inr (map_in number (symbols_of_all ts) (symbols_of_all (substitute_all f ts)) (all_substituted f ts) n a)

  -- ---- literals and their images
  taken_numbers : (s : Solution) (l k : Literal) → TakesTo s l k → AreIn (literal_numbers number l) (literal_numbers number k)
  taken_numbers s l k takes n a =
      let f = image same_variable s in
      let there : IsAmong (atom_numbers number l.positive (substitute f (pattern_term l.atom))) n =
      substituted_numbers f l.positive (pattern_term l.atom) n (subst (λ ns. IsAmong ns n) (sym (renamed_numbers of_pattern l.positive l.atom)) a) in
      subst (λ ns. IsAmong ns n)
      ((λ i. atom_numbers number (takes.sign i) (takes.atom i)) ∙ renamed_numbers of_entry k.positive k.atom)
      there

  item_in : (ks : List Literal) (n : ℕ) (k : Literal) → item_at ks n ≡ Some k → AreIn (literal_numbers number k) (literals_numbers number ks)
  item_in ks zero k e m a = absurd (none-some k e)
  item_in [] (suc n) k e m a = absurd (none-some k e)
  item_in (j ∷ ks) (suc zero) k e m a =
      among_front (literal_numbers number j) (literals_numbers number ks) m (subst (λ l. IsAmong (literal_numbers number l) m) (sym (same_Some j k e)) a)
  item_in (j ∷ ks) (suc (suc n)) k e m a = among_back (literal_numbers number j) (literals_numbers number ks) m (item_in ks (suc n) k e m a)

  images_in : (s : Solution) (d c : List Literal) (ns : List ℕ) → AreImages (TakesTo s) d c ns → AreIn (literals_numbers number c) (literals_numbers number d)
  images_in s d [] ns h n a = absurd a
  images_in s d (l ∷ c) [] h n a = absurd h
  images_in s d (l ∷ c) (m ∷ ns) h n a =
      elim (among_parts (literal_numbers number l) (literals_numbers number c) n a) [
        | inl b ↦ item_in d m h.0.0 h.0.1 n (taken_numbers s l h.0.0 h.0.2 n b)
        | inr b ↦ images_in s d c ns h.1 n b
      ]

  -- the screen drops no answer
  pub rows_follow : RowsFollow number
  rows_follow c d row other (ns, (s, is)) of_c of_d b within has =
      let numbers = map_in bit_of (literals_numbers number c) (literals_numbers number d) (images_in s d c ns is.taken) in
      (of_d b within).1
      (subst (λ l. IsAmong (map bit_of l) b) (sym (of_literals number 1 d))
      (numbers b (subst (λ l. IsAmong (map bit_of l) b) (of_literals number 1 c) ((of_c b within).0 has))))
