-- Bindings applied one list after another, and what they leave open.
use Rattle.std.proofs.Common.{◌≡◌, ℕ, ◌⊎◌, inl, inr, cond, not, ◌==◌, List, [], ◌∷◌, ◌++◌, map, filter, refl, ap, sym, ◌∙◌, subst, append_assoc, append-nil}
use Rattle.std.specs.List.{AllByRecursion, list_any}
use Rattle.std.proofs.lemmas.Bool.Decides.{eqb_tells}
use Rattle.std.proofs.lemmas.List.{map-append}
use Rattle.si_defs.specs.Terms as terms
use Rattle.si_defs.specs.Substitutions.{image, IsAmong, AreDistinct}
use Rattle.si_defs.proofs.ListLaws.{all_at, among_front, among_back, among_parts}
use Rattle.si_flat.specs.Cells.{Variable, query, entry, ind, same_variable, Term, Terms}
use Rattle.si_flat.specs.Rows.{left_sides}
use Rattle.si_flat.proofs.RowLaws.{distinct_append, distinct_parts}
use Rattle.si_legal.specs.Bindings.{Binding, IsIndicator, indicators_among, indicators, right_indicators, substitution_of, applied, composed, HaveSamePairs}
use Rattle.si_legal.proofs.Splitting.{indicators_all, indicators-more}
use Rattle.si_legal.proofs.SplitLaws.{binding_left, occurs, occurs_not}
use Rattle.si_changes.proofs.Permuted.{among_or_not}
use Rattle.si_changes.proofs.HeadLaws.{image_keeps, image_bound, indicator_variable, substitute_twice}
use Rattle.si_changes.proofs.Borrowed.{chosen, image_other, bound_left}

-- ---- two substitutions
mutual
  pub same_substituted : (f g : Variable → Term) (t : Term) → ((x : Variable) → IsAmong (terms.variables t) x → f x ≡ g x) → terms.substitute f t ≡ terms.substitute g t
  same_substituted f g (terms.var x) e = e x (inl refl)
  same_substituted f g (terms.app s ts) e = ap (λ us. terms.app s us) (all_same_substituted f g ts e)

  pub all_same_substituted : (f g : Variable → Term) (ts : Terms) → ((x : Variable) → IsAmong (terms.variables_of_all ts) x → f x ≡ g x) → terms.substitute_all f ts ≡ terms.substitute_all g ts
  all_same_substituted f g terms.none e = refl
  all_same_substituted f g (terms.more t ts) e =
      let first = same_substituted f g t (λ x a. e x (among_front (terms.variables t) (terms.variables_of_all ts) x a)) in
      let rest = all_same_substituted f g ts (λ x a. e x (among_back (terms.variables t) (terms.variables_of_all ts) x a)) in
      λ i. terms.more (first i) (rest i)

pub substituted_twice : (f g h : Variable → Term) (t : Term) → ((x : Variable) → IsAmong (terms.variables t) x → terms.substitute g (f x) ≡ h x) → terms.substitute g (terms.substitute f t) ≡ terms.substitute h t
substituted_twice f g h t e = substitute_twice f g t ∙ same_substituted (λ x. terms.substitute g (f x)) h t e

-- ---- indicators among variables
pub indicator_in : (xs : List Variable) (n : ℕ) → IsAmong xs (ind n) → IsAmong (indicators_among xs) n
indicator_in [] n a = a
indicator_in (query m ∷ xs) n (inl e) = absurd (by e) where
  by : query m ≡ ind n → ⊥
  by p = cc
indicator_in (query m ∷ xs) n (inr a) = indicator_in xs n a
indicator_in (entry m ∷ xs) n (inl e) = absurd (by e) where
  by : entry m ≡ ind n → ⊥
  by p = cc
indicator_in (entry m ∷ xs) n (inr a) = indicator_in xs n a
indicator_in (ind m ∷ xs) n (inl e) = inl (number e) where
  number : ind m ≡ ind n → m ≡ n
  number p = cc
indicator_in (ind m ∷ xs) n (inr a) = inr (indicator_in xs n a)

-- ---- images under bindings
abbrev pub bound : List Binding → ℕ → Term
bound bs n = image same_variable (substitution_of bs) (ind n)

-- two lists that give each indicator of a term the same give the same term
pub same_applied : (bs cs : List Binding) (t : Term) → ((n : ℕ) → IsAmong (indicators t) n → bound bs n ≡ bound cs n) → applied bs t ≡ applied cs t
same_applied bs cs t e = same_substituted (image same_variable (substitution_of bs)) (image same_variable (substitution_of cs)) t by where
  by : (x : Variable) → IsAmong (terms.variables t) x → image same_variable (substitution_of bs) x ≡ image same_variable (substitution_of cs) x
  by (query n) a = (image_keeps bs).queries n ∙ sym ((image_keeps cs).queries n)
  by (entry n) a = (image_keeps bs).entries n ∙ sym ((image_keeps cs).entries n)
  by (ind n) a = e n (indicator_in (terms.variables t) n a)

pub bound_front : (bs cs : List Binding) (n : ℕ) → IsAmong (left_sides bs) n → bound (bs ++ cs) n ≡ bound bs n
bound_front [] cs n a = absurd a
bound_front (b ∷ bs) cs n a = elim (eqb_tells b.0 n) as (λ _. bound (b ∷ bs ++ cs) n ≡ bound (b ∷ bs) n) [
  | inl h ↦ ap (λ t. cond t b.1 (bound (bs ++ cs) n)) h.0 ∙ sym (ap (λ t. cond t b.1 (bound bs n)) h.0)
  | inr h ↦ ap (λ t. cond t b.1 (bound (bs ++ cs) n)) h.0 ∙ bound_front bs cs n (later a h.1) ∙ sym (ap (λ t. cond t b.1 (bound bs n)) h.0)
] where
  later : IsAmong (left_sides (b ∷ bs)) n → (b.0 ≡ n → ⊥) → IsAmong (left_sides bs) n
  later (inl e) differ = absurd (differ e)
  later (inr m) differ = m

pub bound_back : (bs cs : List Binding) (n : ℕ) → (IsAmong (left_sides bs) n → ⊥) → bound (bs ++ cs) n ≡ bound cs n
bound_back [] cs n other = refl
bound_back (b ∷ bs) cs n other = elim (eqb_tells b.0 n) as (λ _. bound (b ∷ bs ++ cs) n ≡ bound cs n) [
  | inl h ↦ absurd (other (inl h.1))
  | inr h ↦ ap (λ t. cond t b.1 (bound (bs ++ cs) n)) h.0 ∙ bound_back bs cs n (λ a. other (inr a))
]

-- ---- composed bindings
-- the second list applied to the right sides of the first
abbrev pub carried : List Binding → List Binding → List Binding
carried first second = map (λ b. (b.0, applied second b.1)) first

-- those whose left sides are none of these
abbrev pub unused : List ℕ → List Binding → List Binding
unused ns bs = filter (λ b. not (list_any (λ n. n == b.0) ns)) bs

pub bound_carried : (first second : List Binding) (n : ℕ) → IsAmong (left_sides first) n → bound (carried first second) n ≡ applied second (bound first n)
bound_carried [] second n a = absurd a
bound_carried (b ∷ first) second n a = elim (eqb_tells b.0 n) as (λ _. bound (carried (b ∷ first) second) n ≡ applied second (bound (b ∷ first) n)) [
  | inl h ↦ ap (λ t. cond t (applied second b.1) (bound (carried first second) n)) h.0 ∙ sym (ap (λ t. applied second (cond t b.1 (bound first n))) h.0)
  | inr h ↦ ap (λ t. cond t (applied second b.1) (bound (carried first second) n)) h.0 ∙ bound_carried first second n (later a h.1) ∙ sym (ap (λ t. applied second (cond t b.1 (bound first n))) h.0)
] where
  later : IsAmong (left_sides (b ∷ first)) n → (b.0 ≡ n → ⊥) → IsAmong (left_sides first) n
  later (inl e) differ = absurd (differ e)
  later (inr m) differ = m

pub carried_lefts : (first second : List Binding) → left_sides (carried first second) ≡ left_sides first
carried_lefts [] second = refl
carried_lefts (b ∷ first) second = ap (λ l. b.0 ∷ l) (carried_lefts first second)

pub bound_unused : (ns : List ℕ) (bs : List Binding) (n : ℕ) → (IsAmong ns n → ⊥) → bound (unused ns bs) n ≡ bound bs n
bound_unused ns [] n other = refl
bound_unused ns (b ∷ bs) n other = elim (eqb_tells b.0 n) as (λ _. bound (unused ns (b ∷ bs)) n ≡ bound (b ∷ bs) n) [
  | inl h ↦
      ap (λ t. bound (cond (not t) (b ∷ unused ns bs) (unused ns bs)) n) (occurs_not ns b.0 (λ a. other (subst (IsAmong ns) h.1 a)))
      ∙ ap (λ t. cond t b.1 (bound (unused ns bs) n)) h.0
      ∙ sym (ap (λ t. cond t b.1 (bound bs n)) h.0)
  | inr h ↦ (let rest = bound_unused ns bs n other ∙ sym (ap (λ t. cond t b.1 (bound bs n)) h.0) in
      chosen (λ l. bound l n ≡ bound (b ∷ bs) n) (not (list_any (λ m. m == b.0) ns)) b (unused ns bs) (ap (λ t. cond t b.1 (bound (unused ns bs) n)) h.0 ∙ rest) rest)
]

pub bound_composed : (first second : List Binding) (n : ℕ) → (IsAmong (right_indicators first) n → ⊥) → bound (composed first second) n ≡ applied second (bound first n)
bound_composed first second n other = elim (among_or_not (left_sides first) n) as (λ _. bound (composed first second) n ≡ applied second (bound first n)) [
  | inl a ↦
      bound_front (carried first second) (unused (right_indicators first) second) n (subst (λ l. IsAmong l n) (sym (carried_lefts first second)) a)
      ∙ bound_carried first second n a
  | inr o ↦
      bound_back (carried first second) (unused (right_indicators first) second) n (λ a. o (subst (λ l. IsAmong l n) (carried_lefts first second) a))
      ∙ bound_unused (right_indicators first) second n other
      ∙ sym (ap (applied second) (image_other first n o))
]

-- One list after another is the composed list, for a term in which none of the indicators stands
-- that the first one opens.
pub composed_applied : (first second : List Binding) (t : Term) → ((n : ℕ) → IsAmong (indicators t) n → IsAmong (right_indicators first) n → ⊥) → applied second (applied first t) ≡ applied (composed first second) t
composed_applied first second t apart = substituted_twice (image same_variable (substitution_of first)) (image same_variable (substitution_of second)) (image same_variable (substitution_of (composed first second))) t by where
  by : (x : Variable) → IsAmong (terms.variables t) x → applied second (image same_variable (substitution_of first) x) ≡ image same_variable (substitution_of (composed first second)) x
  by (query n) a = ap (applied second) ((image_keeps first).queries n) ∙ (image_keeps second).queries n ∙ sym ((image_keeps (composed first second)).queries n)
  by (entry n) a = ap (applied second) ((image_keeps first).entries n) ∙ (image_keeps second).entries n ∙ sym ((image_keeps (composed first second)).entries n)
  by (ind n) a = sym (bound_composed first second n (apart n (indicator_in (terms.variables t) n a)))

-- a pair of the first list, with the second applied
pub carried_among : (first second : List Binding) (n : ℕ) (a : Term) → IsAmong first (n, a) → IsAmong (carried first second) (n, applied second a)
carried_among [] second n a m = m
carried_among (b ∷ first) second n a (inl e) = inl (λ i. ((e i).0, applied second (e i).1))
carried_among (b ∷ first) second n a (inr m) = inr (carried_among first second n a m)

pub among_carried : (first second : List Binding) (b : Binding) → IsAmong (carried first second) b → (c : Binding) × IsAmong first c × (applied second c.1 ≡ b.1)
among_carried [] second b m = absurd m
among_carried (c ∷ first) second b (inl e) = (c, inl refl, ap (λ d. d.1) e)
among_carried (c ∷ first) second b (inr m) = let rest = among_carried first second b m in (rest.0, inr rest.1, rest.2)

-- ---- the same pairs
pub same_bound : (bs cs : List Binding) → AreDistinct (left_sides bs) → AreDistinct (left_sides cs) → HaveSamePairs bs cs → (n : ℕ) → bound bs n ≡ bound cs n
same_bound bs cs p q same n = elim (among_or_not (left_sides bs) n) as (λ _. bound bs n ≡ bound cs n) [
  | inl a ↦ (let b = bound_left bs n a in image_bound bs n b.0 p b.1 ∙ sym (image_bound cs n b.0 q ((same (n, b.0)).0 b.1)))
  | inr o ↦ image_other bs n o ∙ sym (image_other cs n (λ a. o (let c = bound_left cs n a in binding_left bs n c.0 ((same (n, c.0)).1 c.1))))
]

pub same_pairs_applied : (bs cs : List Binding) (t : Term) → AreDistinct (left_sides bs) → AreDistinct (left_sides cs) → HaveSamePairs bs cs → applied bs t ≡ applied cs t
same_pairs_applied bs cs t p q same = same_applied bs cs t (λ n a. same_bound bs cs p q same n)

pub same_lefts : (bs cs : List Binding) → HaveSamePairs bs cs → (n : ℕ) → IsAmong (left_sides bs) n → IsAmong (left_sides cs) n
same_lefts bs cs same n a = let b = bound_left bs n a in binding_left cs n b.0 ((same (n, b.0)).0 b.1)

-- ---- lists gathered from the members of a list
abbrev pub gathered : (ℕ → List ℕ) → List ℕ → List ℕ
gathered f [] = []
gathered f (n ∷ ns) = f n ++ gathered f ns

pub gathered-append : (f : ℕ → List ℕ) (ms ns : List ℕ) → gathered f (ms ++ ns) ≡ gathered f ms ++ gathered f ns
gathered-append f [] ns = refl
gathered-append f (m ∷ ms) ns = ap (λ l. f m ++ l) (gathered-append f ms ns) ∙ sym (append_assoc (f m) (gathered f ms) (gathered f ns))

-- it comes from one of these
abbrev pub IsGathered : (ℕ → List ℕ) → List ℕ → ℕ → Type 0
IsGathered f ns k = (n : ℕ) × IsAmong ns n × IsAmong (f n) k

pub gathered_from : (f : ℕ → List ℕ) (ns : List ℕ) (k : ℕ) → IsAmong (gathered f ns) k → IsGathered f ns k
gathered_from f [] k a = absurd a
gathered_from f (n ∷ ns) k a = elim (among_parts (f n) (gathered f ns) k a) as (λ _. IsGathered f (n ∷ ns) k) [
  | inl b ↦ (n, inl refl, b)
  | inr b ↦ (let rest = gathered_from f ns k b in (rest.0, inr rest.1, rest.2))
]

pub is_gathered : (f : ℕ → List ℕ) (ns : List ℕ) (k : ℕ) → IsGathered f ns k → IsAmong (gathered f ns) k
is_gathered f [] k g = absurd g.1
is_gathered f (n ∷ ns) k g = elim g.1 as (λ _. IsAmong (gathered f (n ∷ ns)) k) [
  | inl e ↦ among_front (f n) (gathered f ns) k (subst (λ m. IsAmong (f m) k) (sym e) g.2)
  | inr a ↦ among_back (f n) (gathered f ns) k (is_gathered f ns k (g.0, a, g.2))
]

-- no member gives a number twice, and no two members give the same
pub record GathersOnce (f : ℕ → List ℕ) (ns : List ℕ) : Type 0 where
  pub each : (n : ℕ) → IsAmong ns n → AreDistinct (f n)
  pub apart : (m n k : ℕ) → IsAmong ns m → IsAmong ns n → IsAmong (f m) k → IsAmong (f n) k → m ≡ n

pub gathers_once : (f : ℕ → List ℕ) (ns : List ℕ) → AreDistinct (gathered f ns) → GathersOnce f ns
gathers_once f [] h = record { each = λ n a. absurd a; apart = λ m n k a b c d. absurd a }
gathers_once f (l ∷ ns) h =
    let parts = distinct_parts (f l) (gathered f ns) h in
    let rest = gathers_once f ns parts.1 in
    record {
      each = λ n a. elim a as (λ _. AreDistinct (f n)) [ inl e ↦ subst (λ k. AreDistinct (f k)) e parts.0 | inr b ↦ rest.each n b ];
      apart = λ m n k a b c d. elim a as (λ _. m ≡ n) [
        | inl e ↦ elim b as (λ _. m ≡ n) [ inl e' ↦ sym e ∙ e' | inr b' ↦ absurd (parts.2 k (subst (λ x. IsAmong (f x) k) (sym e) c) (is_gathered f ns k (n, b', d))) ]
        | inr a' ↦ elim b as (λ _. m ≡ n) [ inl e' ↦ absurd (parts.2 k (subst (λ x. IsAmong (f x) k) (sym e') d) (is_gathered f ns k (m, a', c))) | inr b' ↦ rest.apart m n k a' b' c d ]
      ];
    }

pub distinct_gathered : (f : ℕ → List ℕ) (ns : List ℕ) → AreDistinct ns → GathersOnce f ns → AreDistinct (gathered f ns)
distinct_gathered f [] h g = tt
distinct_gathered f (l ∷ ns) h g =
    distinct_append (f l) (gathered f ns) (g.each l (inl refl))
    (distinct_gathered f ns h.1 (record { each = λ n a. g.each n (inr a); apart = λ m n k a b c d. g.apart m n k (inr a) (inr b) c d }))
    (λ k a b. (let one = gathered_from f ns k b in h.0 (subst (IsAmong ns) (sym (g.apart l one.0 k (inl refl) (inr one.1) a one.2)) one.1)))

-- ---- indicators of a term under bindings
abbrev pub opened_by : List Binding → ℕ → List ℕ
opened_by bs n = indicators (bound bs n)

mutual
  pub indicators-applied : (bs : List Binding) (t : Term) → indicators (applied bs t) ≡ gathered (opened_by bs) (indicators t)
  indicators-applied bs (terms.var (query n)) = ap indicators ((image_keeps bs).queries n)
  indicators-applied bs (terms.var (entry n)) = ap indicators ((image_keeps bs).entries n)
  indicators-applied bs (terms.var (ind n)) = sym (append-nil (opened_by bs n))
  indicators-applied bs (terms.app s ts) = indicators-all_applied bs ts

  pub indicators-all_applied : (bs : List Binding) (ts : Terms) → indicators_all (terms.substitute_all (image same_variable (substitution_of bs)) ts) ≡ gathered (opened_by bs) (indicators_all ts)
  indicators-all_applied bs terms.none = refl
  indicators-all_applied bs (terms.more t ts) =
      let first = indicators-applied bs t in
      let rest = indicators-all_applied bs ts in
      indicators-more (applied bs t) (terms.substitute_all (image same_variable (substitution_of bs)) ts)
      ∙ (λ i. first i ++ rest i)
      ∙ sym (gathered-append (opened_by bs) (indicators t) (indicators_all ts))
      ∙ ap (gathered (opened_by bs)) (sym (indicators-more t ts))

-- ---- indicators on right sides
pub right-append : (bs cs : List Binding) → right_indicators (bs ++ cs) ≡ right_indicators bs ++ right_indicators cs
right-append [] cs = refl
right-append (b ∷ bs) cs = ap (λ l. indicators b.1 ++ l) (right-append bs cs) ∙ sym (append_assoc (indicators b.1) (right_indicators bs) (right_indicators cs))

pub right_among : (bs : List Binding) (b : Binding) (k : ℕ) → IsAmong bs b → IsAmong (indicators b.1) k → IsAmong (right_indicators bs) k
right_among [] b k a i = absurd a
right_among (c ∷ bs) b k (inl e) i = among_front (indicators c.1) (right_indicators bs) k (subst (λ d. IsAmong (indicators d.1) k) (sym e) i)
right_among (c ∷ bs) b k (inr a) i = among_back (indicators c.1) (right_indicators bs) k (right_among bs b k a i)

pub among_right : (bs : List Binding) (k : ℕ) → IsAmong (right_indicators bs) k → (b : Binding) × IsAmong bs b × IsAmong (indicators b.1) k
among_right [] k a = absurd a
among_right (b ∷ bs) k a = elim (among_parts (indicators b.1) (right_indicators bs) k a) as (λ _. (c : Binding) × IsAmong (b ∷ bs) c × IsAmong (indicators c.1) k) [
  | inl i ↦ (b, inl refl, i)
  | inr i ↦ (let rest = among_right bs k i in (rest.0, inr rest.1, rest.2))
]

pub right_carried : (first second : List Binding) → right_indicators (carried first second) ≡ gathered (opened_by second) (right_indicators first)
right_carried [] second = refl
right_carried (b ∷ first) second =
    let one = indicators-applied second b.1 in
    let rest = right_carried first second in
    (λ i. one i ++ rest i) ∙ sym (gathered-append (opened_by second) (indicators b.1) (right_indicators first))

-- the right sides of some bindings by their left sides
pub right_gathered : (all bs : List Binding) → ((b : Binding) → IsAmong bs b → bound all b.0 ≡ b.1) → right_indicators bs ≡ gathered (opened_by all) (left_sides bs)
right_gathered all [] h = refl
right_gathered all (b ∷ bs) h =
    let one = ap indicators (sym (h b (inl refl))) in
    let rest = right_gathered all bs (λ c a. h c (inr a)) in
    λ i. one i ++ rest i

pub right_by_lefts : (bs : List Binding) → AreDistinct (left_sides bs) → right_indicators bs ≡ gathered (opened_by bs) (left_sides bs)
right_by_lefts bs distinct = right_gathered bs bs (λ b a. image_bound bs b.0 b.1 distinct a)

-- ---- unused bindings
pub unused_is : (ns : List ℕ) (bs : List Binding) (b : Binding) → IsAmong (unused ns bs) b → IsAmong bs b × (IsAmong ns b.0 → ⊥)
unused_is ns [] b a = absurd a
unused_is ns (c ∷ bs) b a = elim (among_or_not ns c.0) as (λ _. IsAmong (c ∷ bs) b × (IsAmong ns b.0 → ⊥)) [
  | inl used ↦ (let rest = unused_is ns bs b (subst (λ t. IsAmong (cond (not t) (c ∷ unused ns bs) (unused ns bs)) b) (occurs ns c.0 used) a) in (inr rest.0, rest.1))
  | inr new ↦ first new (subst (λ t. IsAmong (cond (not t) (c ∷ unused ns bs) (unused ns bs)) b) (occurs_not ns c.0 new) a) (unused_is ns bs b)
] where
  first : (IsAmong ns c.0 → ⊥) → IsAmong (c ∷ unused ns bs) b → (IsAmong (unused ns bs) b → IsAmong bs b × (IsAmong ns b.0 → ⊥)) → IsAmong (c ∷ bs) b × (IsAmong ns b.0 → ⊥)
  first new (inl e) rest = (inl e, subst (λ d. IsAmong ns d.0 → ⊥) e new)
  first new (inr m) rest = (inr (rest m).0, (rest m).1)

pub is_unused : (ns : List ℕ) (bs : List Binding) (b : Binding) → IsAmong bs b → (IsAmong ns b.0 → ⊥) → IsAmong (unused ns bs) b
is_unused ns [] b a new = absurd a
is_unused ns (c ∷ bs) b (inl e) new =
    subst (λ t. IsAmong (cond (not t) (c ∷ unused ns bs) (unused ns bs)) b)
    (sym (occurs_not ns c.0 (subst (λ d. IsAmong ns d.0 → ⊥) (sym e) new)))
    (inl e)
is_unused ns (c ∷ bs) b (inr a) new = chosen (λ l. IsAmong l b) (not (list_any (λ n. n == c.0) ns)) c (unused ns bs) (inr (is_unused ns bs b a new)) (is_unused ns bs b a new)

pub unused_left : (ns : List ℕ) (bs : List Binding) (n : ℕ) → IsAmong (left_sides (unused ns bs)) n → IsAmong (left_sides bs) n × (IsAmong ns n → ⊥)
unused_left ns bs n a =
    let b = bound_left (unused ns bs) n a in
    let is = unused_is ns bs (n, b.0) b.1 in
    (binding_left bs n b.0 is.0, is.1)

pub left_unused : (ns : List ℕ) (bs : List Binding) (n : ℕ) → IsAmong (left_sides bs) n → (IsAmong ns n → ⊥) → IsAmong (left_sides (unused ns bs)) n
left_unused ns bs n a new =
    let b = bound_left bs n a in
    binding_left (unused ns bs) n b.0 (is_unused ns bs (n, b.0) b.1 new)

pub distinct_unused : (ns : List ℕ) (bs : List Binding) → AreDistinct (left_sides bs) → AreDistinct (left_sides (unused ns bs))
distinct_unused ns [] h = tt
distinct_unused ns (b ∷ bs) h =
    let rest = distinct_unused ns bs h.1 in
    chosen (λ l. AreDistinct (left_sides l)) (not (list_any (λ n. n == b.0) ns)) b (unused ns bs) ((λ a. h.0 (unused_left ns bs b.0 a).0), rest) rest

-- the left sides of composed bindings
pub composed_lefts : (first second : List Binding) → left_sides (composed first second) ≡ left_sides first ++ left_sides (unused (right_indicators first) second)
composed_lefts first second =
    map-append (λ b. b.0) (carried first second) (unused (right_indicators first) second)
    ∙ ap (λ l. l ++ left_sides (unused (right_indicators first) second)) (carried_lefts first second)

-- ---- what bindings open
pub opened_bound : (bs : List Binding) (b : Binding) → AreDistinct (left_sides bs) → IsAmong bs b → opened_by bs b.0 ≡ indicators b.1
opened_bound bs b distinct a = ap indicators (image_bound bs b.0 b.1 distinct a)

pub opened_other : (bs : List Binding) (n : ℕ) → (IsAmong (left_sides bs) n → ⊥) → opened_by bs n ≡ n ∷ []
opened_other bs n other = ap indicators (image_other bs n other)

-- what is opened in the place of an indicator stands on a right side, or is the indicator itself
pub opened_from : (bs : List Binding) (n k : ℕ) → AreDistinct (left_sides bs) → IsAmong (opened_by bs n) k → (IsAmong (left_sides bs) n × IsAmong (right_indicators bs) k) ⊎ ((IsAmong (left_sides bs) n → ⊥) × (n ≡ k))
opened_from bs n k distinct a = elim (among_or_not (left_sides bs) n) as (λ _. (IsAmong (left_sides bs) n × IsAmong (right_indicators bs) k) ⊎ ((IsAmong (left_sides bs) n → ⊥) × (n ≡ k))) [
  | inl m ↦ (let b = bound_left bs n m in inl (m, right_among bs (n, b.0) k b.1 (subst (λ l. IsAmong l k) (opened_bound bs (n, b.0) distinct b.1) a)))
  | inr o ↦ inr (o, only (subst (λ l. IsAmong l k) (opened_other bs n o) a))
] where
  only : IsAmong (n ∷ []) k → n ≡ k
  only (inl e) = e
  only (inr m) = absurd m

-- an indicator stands in the term and isn't bound, or it is opened
abbrev pub IsOpenAfter : List Binding → Term → ℕ → Type 0
IsOpenAfter bs t n = (IsAmong (indicators t) n × (IsAmong (left_sides bs) n → ⊥)) ⊎ IsAmong (right_indicators bs) n

pub open_from : (bs : List Binding) (t : Term) (k : ℕ) → AreDistinct (left_sides bs) → IsAmong (indicators (applied bs t)) k → IsOpenAfter bs t k
open_from bs t k distinct a =
    let g = gathered_from (opened_by bs) (indicators t) k (subst (λ l. IsAmong l k) (indicators-applied bs t) a) in
    elim (opened_from bs g.0 k distinct g.2) as (λ _. IsOpenAfter bs t k) [
      | inl h ↦ inr h.1
      | inr h ↦ inl (subst (IsAmong (indicators t)) h.1 g.1, subst (λ n. IsAmong (left_sides bs) n → ⊥) h.1 h.0)
    ]

pub is_open : (bs : List Binding) (t : Term) (k : ℕ) → AreDistinct (left_sides bs) → AllByRecursion (IsAmong (indicators t)) (left_sides bs) → IsOpenAfter bs t k → IsAmong (indicators (applied bs t)) k
is_open bs t k distinct lefts h = subst (λ l. IsAmong l k) (sym (indicators-applied bs t)) (is_gathered (opened_by bs) (indicators t) k (by h)) where
  by : IsOpenAfter bs t k → IsGathered (opened_by bs) (indicators t) k
  by (inl old) = (k, old.0, subst (λ l. IsAmong l k) (sym (opened_other bs k old.1)) (inl refl))
  by (inr new) =
      let b = among_right bs k new in (
        b.0.0,
        all_at (IsAmong (indicators t)) (left_sides bs) b.0.0 lefts (binding_left bs b.0.0 b.0.1 b.1),
        subst (λ l. IsAmong l k) (sym (opened_bound bs b.0 distinct b.1)) b.2,
      )

-- ---- what composed bindings open
-- the indicators that the first list opens, and those that the second binds besides
abbrev pub to_fill : List Binding → List Binding → List ℕ
to_fill first second = right_indicators first ++ left_sides (unused (right_indicators first) second)

pub right_composed : (first second : List Binding) → AreDistinct (left_sides second) → right_indicators (composed first second) ≡ gathered (opened_by second) (to_fill first second)
right_composed first second distinct =
    let ns = right_indicators first in
    let one = right_carried first second in
    let rest = right_gathered second (unused ns second) (λ b a. image_bound second b.0 b.1 distinct (unused_is ns second b a).0) in
    right-append (carried first second) (unused ns second)
    ∙ (λ i. one i ++ rest i)
    ∙ sym (gathered-append (opened_by second) ns (left_sides (unused ns second)))

-- a composed list opens what one of the two opens
pub composed_opens : (first second : List Binding) (n : ℕ) → AreDistinct (left_sides second) → IsAmong (right_indicators (composed first second)) n → IsAmong (right_indicators first) n ⊎ IsAmong (right_indicators second) n
composed_opens first second n distinct a =
    let ns = right_indicators first in
    let g = gathered_from (opened_by second) (to_fill first second) n (subst (λ l. IsAmong l n) (right_composed first second distinct) a) in
    elim (opened_from second g.0 n distinct g.2) as (λ _. IsAmong ns n ⊎ IsAmong (right_indicators second) n) [
      | inl h ↦ inr h.1
      | inr h ↦ inl (subst (IsAmong ns) h.1 (elim (among_parts ns (left_sides (unused ns second)) g.0 g.1) as (λ _. IsAmong ns g.0) [ inl b ↦ b | inr b ↦ absurd (h.0 (unused_left ns second g.0 b).0) ]))
    ]

-- Where the composed list opens each once, so does the second list; and what both lists open, the
-- second one binds.
pub second_once : (first second : List Binding) → AreDistinct (left_sides second) → AreDistinct (right_indicators (composed first second)) → AreDistinct (right_indicators second) × ((k : ℕ) → IsAmong (right_indicators first) k → IsAmong (right_indicators second) k → IsAmong (left_sides second) k)
second_once first second distinct h = (
  subst AreDistinct (sym (right_by_lefts second distinct)) (distinct_gathered (opened_by second) (left_sides second) distinct (record {
    each = λ n a. once.each n (is_to_fill n a);
    apart = λ m n k a b c d. once.apart m n k (is_to_fill m a) (is_to_fill n b) c d;
  })),
  (λ k a i. elim (among_or_not (left_sides second) k) as (λ _. IsAmong (left_sides second) k) [ inl m ↦ m | inr o ↦ bound_too k a i o ]),
) where
  ns : List ℕ
  ns = right_indicators first

  once : GathersOnce (opened_by second) (to_fill first second)
  once = gathers_once (opened_by second) (to_fill first second) (subst AreDistinct (right_composed first second distinct) h)

  is_to_fill : (n : ℕ) → IsAmong (left_sides second) n → IsAmong (to_fill first second) n
  is_to_fill n a = elim (among_or_not ns n) as (λ _. IsAmong (to_fill first second) n) [
    | inl m ↦ among_front ns (left_sides (unused ns second)) n m
    | inr o ↦ among_back ns (left_sides (unused ns second)) n (left_unused ns second n a o)
  ]

  bound_too : (k : ℕ) → IsAmong ns k → IsAmong (right_indicators second) k → (IsAmong (left_sides second) k → ⊥) → IsAmong (left_sides second) k
  bound_too k a i o =
      let b = among_right second k i in
      let left = binding_left second b.0.0 b.0.1 b.1 in
      subst (IsAmong (left_sides second))
      (sym (once.apart k b.0.0 k (among_front ns (left_sides (unused ns second)) k a) (is_to_fill b.0.0 left) (subst (λ l. IsAmong l k) (sym (opened_other second k o)) (inl refl)) (subst (λ l. IsAmong l k) (sym (opened_bound second b.0 distinct b.1)) b.2)))
      left

-- a list with the same pairs opens each once too
pub same_once : (bs cs : List Binding) → AreDistinct (left_sides bs) → AreDistinct (left_sides cs) → HaveSamePairs bs cs → AreDistinct (right_indicators bs) → AreDistinct (right_indicators cs)
same_once bs cs p q same h = subst AreDistinct (sym (right_by_lefts cs q)) (distinct_gathered (opened_by cs) (left_sides cs) q (record {
  each = λ n a. subst AreDistinct (opens n) (once.each n (left n a));
  apart = λ m n k a b c d. once.apart m n k (left m a) (left n b) (subst (λ l. IsAmong l k) (sym (opens m)) c) (subst (λ l. IsAmong l k) (sym (opens n)) d);
})) where
  once : GathersOnce (opened_by bs) (left_sides bs)
  once = gathers_once (opened_by bs) (left_sides bs) (subst AreDistinct (right_by_lefts bs p) h)

  opens : (n : ℕ) → opened_by bs n ≡ opened_by cs n
  opens n = ap indicators (same_bound bs cs p q same n)

  left : (n : ℕ) → IsAmong (left_sides cs) n → IsAmong (left_sides bs) n
  left n a = same_lefts cs bs (λ b. ((same b).1, (same b).0)) n a

-- Bindings that open each indicator once, and none of those that they leave, give each once.
pub once_applied : (bs : List Binding) (ns : List ℕ) → AreDistinct (left_sides bs) → AreDistinct ns → AreDistinct (right_indicators bs) → ((n : ℕ) → IsAmong ns n → (IsAmong (left_sides bs) n → ⊥) → IsAmong (right_indicators bs) n → ⊥) → AreDistinct (gathered (opened_by bs) ns)
once_applied bs ns distinct ns_distinct rights none = distinct_gathered (opened_by bs) ns ns_distinct (record { each = each; apart = apart }) where
  once : GathersOnce (opened_by bs) (left_sides bs)
  once = gathers_once (opened_by bs) (left_sides bs) (subst AreDistinct (right_by_lefts bs distinct) rights)

  each : (n : ℕ) → IsAmong ns n → AreDistinct (opened_by bs n)
  each n a = elim (among_or_not (left_sides bs) n) as (λ _. AreDistinct (opened_by bs n)) [
    | inl m ↦ once.each n m
    | inr o ↦ subst AreDistinct (sym (opened_other bs n o)) ((λ b. b), tt)
  ]

  apart : (m n k : ℕ) → IsAmong ns m → IsAmong ns n → IsAmong (opened_by bs m) k → IsAmong (opened_by bs n) k → m ≡ n
  apart m n k a b c d = elim (opened_from bs m k distinct c) as (λ _. m ≡ n) [
    | inl p ↦ elim (opened_from bs n k distinct d) as (λ _. m ≡ n) [
      | inl q ↦ once.apart m n k p.0 q.0 c d
      | inr q ↦ absurd (none n b q.0 (subst (IsAmong (right_indicators bs)) (sym q.1) p.1))
    ]
    | inr p ↦ elim (opened_from bs n k distinct d) as (λ _. m ≡ n) [
      | inl q ↦ absurd (none m a p.0 (subst (IsAmong (right_indicators bs)) (sym p.1) q.1))
      | inr q ↦ p.1 ∙ sym q.1
    ]
  ]

-- so in the term to which they are applied
pub term_once : (bs : List Binding) (t : Term) → AreDistinct (left_sides bs) → AreDistinct (indicators t ++ right_indicators bs) → AreDistinct (indicators (applied bs t))
term_once bs t distinct h =
    let parts = distinct_parts (indicators t) (right_indicators bs) h in
    subst AreDistinct (sym (indicators-applied bs t)) (once_applied bs (indicators t) distinct parts.0 parts.1 (λ n a o b. parts.2 n a b))

-- and in the list that is composed of them and a first one
pub composed_once : (first second : List Binding) → AreDistinct (left_sides second) → AreDistinct (right_indicators first ++ right_indicators second) → AreDistinct (right_indicators (composed first second))
composed_once first second distinct h =
    let ns = right_indicators first in
    let parts = distinct_parts ns (right_indicators second) h in
    let to_fill_distinct = distinct_append ns (left_sides (unused ns second)) parts.0 (distinct_unused ns second distinct) (λ n a b. (unused_left ns second n b).1 a) in
    subst AreDistinct (sym (right_composed first second distinct))
    (once_applied second (to_fill first second) distinct to_fill_distinct parts.1 (λ n a o b. elim (among_parts ns (left_sides (unused ns second)) n a) as (λ _. ⊥) [
      | inl c ↦ parts.2 n c b
      | inr c ↦ o (unused_left ns second n c).0
    ]))

-- ---- variables
-- a variable of the term that stands for this one
abbrev pub ComesFrom : (Variable → Term) → List Variable → Variable → Type 0
ComesFrom f xs x = (y : Variable) × IsAmong xs y × IsAmong (terms.variables (f y)) x

mutual
  pub substituted_from : (f : Variable → Term) (t : Term) (x : Variable) → IsAmong (terms.variables (terms.substitute f t)) x → ComesFrom f (terms.variables t) x
  substituted_from f (terms.var y) x a = (y, inl refl, a)
  substituted_from f (terms.app s ts) x a = all_substituted_from f ts x a

  pub all_substituted_from : (f : Variable → Term) (ts : Terms) (x : Variable) → IsAmong (terms.variables_of_all (terms.substitute_all f ts)) x → ComesFrom f (terms.variables_of_all ts) x
  all_substituted_from f terms.none x a = absurd a
  all_substituted_from f (terms.more t ts) x a = elim (among_parts (terms.variables (terms.substitute f t)) (terms.variables_of_all (terms.substitute_all f ts)) x a) as (λ _. ComesFrom f (terms.variables_of_all (terms.more t ts)) x) [
    | inl b ↦ (let one = substituted_from f t x b in (one.0, among_front (terms.variables t) (terms.variables_of_all ts) one.0 one.1, one.2))
    | inr b ↦ (let one = all_substituted_from f ts x b in (one.0, among_back (terms.variables t) (terms.variables_of_all ts) one.0 one.1, one.2))
  ]

mutual
  pub is_substituted : (f : Variable → Term) (t : Term) (x : Variable) → ComesFrom f (terms.variables t) x → IsAmong (terms.variables (terms.substitute f t)) x
  is_substituted f (terms.var y) x c = elim c.1 as (λ _. IsAmong (terms.variables (f y)) x) [
    | inl e ↦ subst (λ z. IsAmong (terms.variables (f z)) x) (sym e) c.2
    | inr a ↦ absurd a
  ]
  is_substituted f (terms.app s ts) x c = all_are_substituted f ts x c

  pub all_are_substituted : (f : Variable → Term) (ts : Terms) (x : Variable) → ComesFrom f (terms.variables_of_all ts) x → IsAmong (terms.variables_of_all (terms.substitute_all f ts)) x
  all_are_substituted f terms.none x c = absurd c.1
  all_are_substituted f (terms.more t ts) x c =
      let first = terms.variables (terms.substitute f t) in
      let rest = terms.variables_of_all (terms.substitute_all f ts) in
      elim (among_parts (terms.variables t) (terms.variables_of_all ts) c.0 c.1) as (λ _. IsAmong (terms.variables_of_all (terms.substitute_all f (terms.more t ts))) x) [
        | inl b ↦ among_front first rest x (is_substituted f t x (c.0, b, c.2))
        | inr b ↦ among_back first rest x (all_are_substituted f ts x (c.0, b, c.2))
      ]

-- a variable of the term under bindings stands in the term, or on a right side
pub applied_from : (bs : List Binding) (t : Term) (x : Variable) → AreDistinct (left_sides bs) → IsAmong (terms.variables (applied bs t)) x → IsAmong (terms.variables t) x ⊎ ((b : Binding) × IsAmong bs b × IsAmong (terms.variables b.1) x)
applied_from bs t x distinct a = by one.0 one.1 one.2 where
  one : ComesFrom (image same_variable (substitution_of bs)) (terms.variables t) x
  one = substituted_from (image same_variable (substitution_of bs)) t x a

  only : (y : Variable) → IsAmong (terms.variables t) y → IsAmong (y ∷ []) x → IsAmong (terms.variables t) x
  only y b (inl e) = subst (IsAmong (terms.variables t)) e b
  only y b (inr m) = absurd m

  by : (y : Variable) → IsAmong (terms.variables t) y → IsAmong (terms.variables (image same_variable (substitution_of bs) y)) x → IsAmong (terms.variables t) x ⊎ ((b : Binding) × IsAmong bs b × IsAmong (terms.variables b.1) x)
  by (query n) b c = inl (only (query n) b (subst (λ u. IsAmong (terms.variables u) x) ((image_keeps bs).queries n) c))
  by (entry n) b c = inl (only (entry n) b (subst (λ u. IsAmong (terms.variables u) x) ((image_keeps bs).entries n) c))
  by (ind n) b c = elim (among_or_not (left_sides bs) n) as (λ _. IsAmong (terms.variables t) x ⊎ ((d : Binding) × IsAmong bs d × IsAmong (terms.variables d.1) x)) [
    | inl m ↦ (let d = bound_left bs n m in inr ((n, d.0), d.1, subst (λ u. IsAmong (terms.variables u) x) (image_bound bs n d.0 distinct d.1) c))
    | inr o ↦ inl (only (ind n) b (subst (λ u. IsAmong (terms.variables u) x) (image_other bs n o) c))
  ]

-- the variables of a right side stand in the term if its left side does
pub right_applied : (bs : List Binding) (t : Term) (b : Binding) (x : Variable) → AreDistinct (left_sides bs) → IsAmong bs b → IsAmong (indicators t) b.0 → IsAmong (terms.variables b.1) x → IsAmong (terms.variables (applied bs t)) x
right_applied bs t b x distinct a i v =
    is_substituted (image same_variable (substitution_of bs)) t x
    (ind b.0, indicator_variable (terms.variables t) b.0 i, subst (λ u. IsAmong (terms.variables u) x) (sym (image_bound bs b.0 b.1 distinct a)) v)

-- no term but an indicator becomes one
pub not_bare : (bs : List Binding) (t : Term) → (IsIndicator t → ⊥) → IsIndicator (applied bs t) → ⊥
not_bare bs (terms.var (query n)) plain h = subst IsIndicator ((image_keeps bs).queries n) h
not_bare bs (terms.var (entry n)) plain h = subst IsIndicator ((image_keeps bs).entries n) h
not_bare bs (terms.var (ind n)) plain h = plain tt
not_bare bs (terms.app s ts) plain h = h
