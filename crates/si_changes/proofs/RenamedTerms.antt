-- Terms and bindings whose indicators have other numbers.
use Rattle.std.proofs.Common.{◌≡◌, inl, inr, ℕ, false, cond, ◌==◌, List, [], ◌∷◌, ◌++◌, map, refl, ap, sym, ◌∙◌, subst}
use Rattle.std.specs.List.{AllByRecursion}
use Rattle.std.proofs.lemmas.Bool.{eq-eqb}
use Rattle.std.proofs.lemmas.Bool.Decides.{eqb_tells}
use Rattle.std.proofs.lemmas.List.{map-append}
use Rattle.si_defs.specs.Terms as terms
use Rattle.si_defs.specs.Substitutions.{image, IsAmong, AreDistinct}
use Rattle.si_defs.proofs.ListLaws.{all_at, among_front, among_back}
use Rattle.si_flat.specs.Cells.{Variable, query, entry, ind, same_variable, Term, Terms}
use Rattle.si_flat.specs.Rows.{left_sides}
use Rattle.si_legal.specs.Bindings.{Binding, IsIndicator, HasNoBareIndicator, indicators_among, indicators, right_indicators, substitution_of, applied}
use Rattle.si_legal.specs.Generalizations.{same_head}
use Rattle.si_legal.specs.Renumbering.{renumbered, renamed, renamed_bindings}
use Rattle.si_changes.proofs.HeadLaws.{image_keeps}
use Rattle.si_changes.proofs.ComposeLaws.{same_substituted, indicator_in, bound}

-- ---- lists of numbers
-- no two of these get the same number
abbrev pub TellsApart : (ℕ → ℕ) → List ℕ → Type 0
TellsApart to ns = (m n : ℕ) → IsAmong ns m → IsAmong ns n → to m ≡ to n → m ≡ n

module _ {X Y : Type 0} (f : X → Y) where
  pub among_map : (xs : List X) (x : X) → IsAmong xs x → IsAmong (map f xs) (f x)
  among_map [] x a = absurd a
  among_map (y ∷ xs) x (inl e) = inl (ap f e)
  among_map (y ∷ xs) x (inr a) = inr (among_map xs x a)

  pub map_among : (xs : List X) (y : Y) → IsAmong (map f xs) y → (x : X) × IsAmong xs x × (f x ≡ y)
  map_among [] y a = absurd a
  map_among (x ∷ xs) y (inl e) = (x, inl refl, e)
  map_among (x ∷ xs) y (inr a) = let rest = map_among xs y a in (rest.0, inr rest.1, rest.2)

module _ (to : ℕ → ℕ) where
  pub told_apart : (ns : List ℕ) → AreDistinct (map to ns) → TellsApart to ns
  told_apart [] h m n a b e = absurd a
  told_apart (k ∷ ns) h m n (inl p) (inl q) e = sym p ∙ q
  told_apart (k ∷ ns) h m n (inl p) (inr b) e = absurd (h.0 (subst (IsAmong (map to ns)) (sym e ∙ ap to (sym p)) (among_map to ns n b)))
  told_apart (k ∷ ns) h m n (inr a) (inl q) e = absurd (h.0 (subst (IsAmong (map to ns)) (e ∙ ap to (sym q)) (among_map to ns m a)))
  told_apart (k ∷ ns) h m n (inr a) (inr b) e = told_apart ns h.1 m n a b e

  pub distinct_map : (ns : List ℕ) → TellsApart to ns → AreDistinct ns → AreDistinct (map to ns)
  distinct_map [] apart h = tt
  distinct_map (n ∷ ns) apart h = (
    (λ a. let one = map_among to ns (to n) a in h.0 (subst (IsAmong ns) (apart one.0 n (inr one.1) (inl refl) one.2) one.1)),
    distinct_map ns (λ k m a b. apart k m (inr a) (inr b)) h.1,
  )

  -- ---- terms
  mutual
    pub variables-renamed : (t : Term) → terms.variables (renamed to t) ≡ map (renumbered to) (terms.variables t)
    variables-renamed (terms.var x) = refl
    variables-renamed (terms.app s ts) = all_variables-renamed ts

    all_variables-renamed : (ts : Terms) → terms.variables_of_all (terms.rename_all (renumbered to) ts) ≡ map (renumbered to) (terms.variables_of_all ts)
    all_variables-renamed terms.none = refl
    all_variables-renamed (terms.more t ts) =
        let first = variables-renamed t in
        let rest = all_variables-renamed ts in
        (λ i. first i ++ rest i) ∙ sym (map-append (renumbered to) (terms.variables t) (terms.variables_of_all ts))

  indicators_renumbered : (xs : List Variable) → indicators_among (map (renumbered to) xs) ≡ map to (indicators_among xs)
  indicators_renumbered [] = refl
  indicators_renumbered (query n ∷ xs) = indicators_renumbered xs
  indicators_renumbered (entry n ∷ xs) = indicators_renumbered xs
  indicators_renumbered (ind n ∷ xs) = ap (λ l. to n ∷ l) (indicators_renumbered xs)

  pub indicators-renamed : (t : Term) → indicators (renamed to t) ≡ map to (indicators t)
  indicators-renamed t = ap indicators_among (variables-renamed t) ∙ indicators_renumbered (terms.variables t)

  mutual
    rename_substituted : (f : Variable → Term) (t : Term) → renamed to (terms.substitute f t) ≡ terms.substitute (λ x. renamed to (f x)) t
    rename_substituted f (terms.var x) = refl
    rename_substituted f (terms.app s ts) = ap (λ us. terms.app s us) (all_rename_substituted f ts)

    all_rename_substituted : (f : Variable → Term) (ts : Terms) → terms.rename_all (renumbered to) (terms.substitute_all f ts) ≡ terms.substitute_all (λ x. renamed to (f x)) ts
    all_rename_substituted f terms.none = refl
    all_rename_substituted f (terms.more t ts) =
        let first = rename_substituted f t in
        let rest = all_rename_substituted f ts in
        λ i. terms.more (first i) (rest i)

  mutual
    substitute_renamed : (f : Variable → Term) (t : Term) → terms.substitute f (renamed to t) ≡ terms.substitute (λ x. f (renumbered to x)) t
    substitute_renamed f (terms.var x) = refl
    substitute_renamed f (terms.app s ts) = ap (λ us. terms.app s us) (all_substitute_renamed f ts)

    all_substitute_renamed : (f : Variable → Term) (ts : Terms) → terms.substitute_all f (terms.rename_all (renumbered to) ts) ≡ terms.substitute_all (λ x. f (renumbered to x)) ts
    all_substitute_renamed f terms.none = refl
    all_substitute_renamed f (terms.more t ts) =
        let first = substitute_renamed f t in
        let rest = all_substitute_renamed f ts in
        λ i. terms.more (first i) (rest i)

  -- a term without indicators stays
  mutual
    pub closed_stays : (t : Term) → ((n : ℕ) → IsAmong (terms.variables t) (ind n) → ⊥) → renamed to t ≡ t
    closed_stays (terms.var (query n)) none = refl
    closed_stays (terms.var (entry n)) none = refl
    closed_stays (terms.var (ind n)) none = absurd (none n (inl refl))
    closed_stays (terms.app s ts) none = ap (λ us. terms.app s us) (all_closed_stay ts none)

    all_closed_stay : (ts : Terms) → ((n : ℕ) → IsAmong (terms.variables_of_all ts) (ind n) → ⊥) → terms.rename_all (renumbered to) ts ≡ ts
    all_closed_stay terms.none none = refl
    all_closed_stay (terms.more t ts) none =
        let first = closed_stays t (λ n a. none n (among_front (terms.variables t) (terms.variables_of_all ts) (ind n) a)) in
        let rest = all_closed_stay ts (λ n a. none n (among_back (terms.variables t) (terms.variables_of_all ts) (ind n) a)) in
        λ i. terms.more (first i) (rest i)

  pub plain_renamed : (t : Term) → (IsIndicator t → ⊥) → IsIndicator (renamed to t) → ⊥
  plain_renamed (terms.var (query n)) plain h = h
  plain_renamed (terms.var (entry n)) plain h = h
  plain_renamed (terms.var (ind n)) plain h = plain tt
  plain_renamed (terms.app s ts) plain h = h

  -- ---- bindings
  pub lefts-renamed : (bs : List Binding) → left_sides (renamed_bindings to bs) ≡ map to (left_sides bs)
  lefts-renamed [] = refl
  lefts-renamed (b ∷ bs) = ap (λ l. to b.0 ∷ l) (lefts-renamed bs)

  pub rights-renamed : (bs : List Binding) → right_indicators (renamed_bindings to bs) ≡ map to (right_indicators bs)
  rights-renamed [] = refl
  rights-renamed (b ∷ bs) =
      let first = indicators-renamed b.1 in
      let rest = rights-renamed bs in
      (λ i. first i ++ rest i) ∙ sym (map-append to (indicators b.1) (right_indicators bs))

  pub bare-renamed : (bs : List Binding) → HasNoBareIndicator bs → HasNoBareIndicator (renamed_bindings to bs)
  bare-renamed [] h = tt
  bare-renamed (b ∷ bs) h = (plain_renamed b.1 h.0, bare-renamed bs h.1)

  bound_renamed : (bs : List Binding) (n : ℕ) → TellsApart to (n ∷ left_sides bs) → bound (renamed_bindings to bs) (to n) ≡ renamed to (bound bs n)
  bound_renamed [] n apart = refl
  bound_renamed (b ∷ bs) n apart = elim (eqb_tells b.0 n) as (λ _. bound (renamed_bindings to (b ∷ bs)) (to n) ≡ renamed to (bound (b ∷ bs) n)) [
    | inl h ↦
        ap (λ t. cond t (renamed to b.1) (bound (renamed_bindings to bs) (to n))) (eq-eqb (to b.0) (to n) (ap to h.1))
        ∙ sym (ap (λ t. renamed to (cond t b.1 (bound bs n))) h.0)
    | inr h ↦
        ap (λ t. cond t (renamed to b.1) (bound (renamed_bindings to bs) (to n))) (differ h.1)
        ∙ bound_renamed bs n (λ k m x y. apart k m (later k x) (later m y))
        ∙ sym (ap (λ t. renamed to (cond t b.1 (bound bs n))) h.0)
  ] where
    later : (k : ℕ) → IsAmong (n ∷ left_sides bs) k → IsAmong (n ∷ left_sides (b ∷ bs)) k
    later k (inl e) = inl e
    later k (inr a) = inr (inr a)

    differ : (b.0 ≡ n → ⊥) → (to b.0 == to n) ≡ false
    differ other = elim (eqb_tells (to b.0) (to n)) as (λ _. (to b.0 == to n) ≡ false) [
      | inl e ↦ absurd (other (apart b.0 n (inr (inl refl)) (inl refl) e.1))
      | inr e ↦ e.0
    ]

  -- Renamed bindings of a renamed term give the renamed term.
  pub applied_renamed : (bs : List Binding) (t : Term) → TellsApart to (indicators t) → AllByRecursion (IsAmong (indicators t)) (left_sides bs) → applied (renamed_bindings to bs) (renamed to t) ≡ renamed to (applied bs t)
  applied_renamed bs t apart lefts =
      substitute_renamed (image same_variable (substitution_of (renamed_bindings to bs))) t
      ∙ same_substituted (λ x. image same_variable (substitution_of (renamed_bindings to bs)) (renumbered to x)) (λ x. renamed to (image same_variable (substitution_of bs) x)) t by
      ∙ sym (rename_substituted (image same_variable (substitution_of bs)) t) where
        open_one : (n : ℕ) → IsAmong (indicators t) n → (k : ℕ) → IsAmong (n ∷ left_sides bs) k → IsAmong (indicators t) k
        open_one n a k (inl e) = subst (IsAmong (indicators t)) e a
        open_one n a k (inr b) = all_at (IsAmong (indicators t)) (left_sides bs) k lefts b

        by : (x : Variable) → IsAmong (terms.variables t) x → image same_variable (substitution_of (renamed_bindings to bs)) (renumbered to x) ≡ renamed to (image same_variable (substitution_of bs) x)
        by (query n) a = (image_keeps (renamed_bindings to bs)).queries n ∙ sym (ap (renamed to) ((image_keeps bs).queries n))
        by (entry n) a = (image_keeps (renamed_bindings to bs)).entries n ∙ sym (ap (renamed to) ((image_keeps bs).entries n))
        by (ind n) a =
            let is_open = open_one n (indicator_in (terms.variables t) n a) in
            bound_renamed bs n (λ k m x y. apart k m (is_open k x) (is_open m y))

-- other numbers leave a head that is no indicator
pub heads_renamed : (to from : ℕ → ℕ) (t u : Term) → (IsIndicator t → ⊥) → (IsIndicator u → ⊥) → same_head (renamed to t) (renamed from u) ≡ same_head t u
heads_renamed to from (terms.var (query m)) (terms.var (query n)) p q = refl
heads_renamed to from (terms.var (query m)) (terms.var (entry n)) p q = refl
heads_renamed to from (terms.var (query m)) (terms.var (ind n)) p q = absurd (q tt)
heads_renamed to from (terms.var (query m)) (terms.app s ts) p q = refl
heads_renamed to from (terms.var (entry m)) (terms.var (query n)) p q = refl
heads_renamed to from (terms.var (entry m)) (terms.var (entry n)) p q = refl
heads_renamed to from (terms.var (entry m)) (terms.var (ind n)) p q = absurd (q tt)
heads_renamed to from (terms.var (entry m)) (terms.app s ts) p q = refl
heads_renamed to from (terms.var (ind m)) u p q = absurd (p tt)
heads_renamed to from (terms.app s ss) (terms.var (query n)) p q = refl
heads_renamed to from (terms.app s ss) (terms.var (entry n)) p q = refl
heads_renamed to from (terms.app s ss) (terms.var (ind n)) p q = absurd (q tt)
heads_renamed to from (terms.app s ss) (terms.app r ts) p q = refl
