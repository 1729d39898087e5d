-- What two lists of bindings are split into, and what that gives a tree.
use Rattle.std.proofs.Common.{◌≡◌, ℕ, zero, suc, ◌+◌, ◌<◌, ◌≤◌, ◌⊎◌, ◌↔◌, inl, inr, Bool, true, false, cond, not, List, [], ◌∷◌, ◌++◌, length, filter, Some, refl, ap, sym, ◌∙◌, subst, arith}
use Rattle.std.specs.Prelude.{nat_le}
use Rattle.std.proofs.lemmas.Bool.{le-leb}
use Rattle.std.proofs.lemmas.Bool.Decides.{leb_tells}
use Rattle.std.proofs.lemmas.List.{map-append}
use Rattle.std.proofs.lemmas.List.Elements.{filter-append}
use Rattle.std.proofs.lemmas.Option.{same_Some}
use Rattle.si_defs.specs.Terms as terms
use Rattle.si_defs.specs.Substitutions.{IsAmong, AreDistinct}
use Rattle.si_defs.proofs.ListLaws.{all_at, all_from, among_front, among_back, among_parts, same_tail}
use Rattle.si_defs.proofs.ListLaws.{same_first}
use Rattle.si_flat.specs.Cells.{Variable, query, entry, ind, Term, Terms}
use Rattle.si_flat.specs.Rows.{left_sides}
use Rattle.si_flat.proofs.RowLaws.{distinct_append}
use Rattle.si_flat.proofs.VariableLaws.{variable_is}
use Rattle.si_legal.specs.Bindings.{Binding, indicator, IsIndicator, indicators, right_indicators, HasNoBareIndicator, OpensNone, applied, composed}
use Rattle.si_legal.specs.Generalizations.{same_head, argument_in, argument, StandsAt, IsFresh, IsCommonHead, IsCommonTerm, Sides, sides, agreeing, differing, AreCommon, consecutive, fresh_among, IsRest, MaySplit, Splits}
use Rattle.si_legal.specs.Pieces.{lefts_of, side_pairs}
use Rattle.si_legal.proofs.PartLaws.{same_indicator}
use Rattle.si_legal.proofs.SplitLaws.{binding_left}
use Rattle.si_changes.proofs.HeadLaws.{indicator_variable}
use Rattle.si_changes.proofs.Frames.{one_right}
use Rattle.si_changes.proofs.Borrowed.{chosen}
use Rattle.si_changes.proofs.ComposeLaws.{indicator_in, right_among, among_right, same_pairs_applied, composed_applied, composed_lefts, unused, unused_left, distinct_unused, second_once, same_once}

-- ---- members that a test takes
module _ {X : Type 0} where
  pub filtered : (test : X → Bool) (xs : List X) (x : X) → IsAmong (filter test xs) x → IsAmong xs x × (test x ≡ true)
  filtered test [] x a = absurd a
  filtered test (y ∷ xs) x a = by (test y) refl a (filtered test xs x) where
    by : (b : Bool) → test y ≡ b → IsAmong (cond b (y ∷ filter test xs) (filter test xs)) x → (IsAmong (filter test xs) x → IsAmong xs x × (test x ≡ true)) → IsAmong (y ∷ xs) x × (test x ≡ true)
    by true e (inl same) rest = (inl same, subst (λ z. test z ≡ true) same e)
    by true e (inr m) rest = (inr (rest m).0, (rest m).1)
    by false e m rest = (inr (rest m).0, (rest m).1)

  pub is_filtered : (test : X → Bool) (xs : List X) (x : X) → IsAmong xs x → test x ≡ true → IsAmong (filter test xs) x
  is_filtered test [] x a t = absurd a
  is_filtered test (y ∷ xs) x (inl e) t = subst (λ b. IsAmong (cond b (y ∷ filter test xs) (filter test xs)) x) (sym (subst (λ z. test z ≡ true) (sym e) t)) (inl e)
  is_filtered test (y ∷ xs) x (inr a) t = by (test y) (is_filtered test xs x a t) where
    by : (b : Bool) → IsAmong (filter test xs) x → IsAmong (cond b (y ∷ filter test xs) (filter test xs)) x
    by true m = inr m
    by false m = m

-- ---- positions of variables
mutual
  pub position_of : (t : Term) (x : Variable) → IsAmong (terms.variables t) x → (path : List ℕ) × StandsAt path t (terms.var x)
  position_of (terms.var y) x (inl e) = ([], ap (λ z. terms.var z) (sym e))
  position_of (terms.var y) x (inr a) = absurd a
  position_of (terms.app s ts) x a = let p = position_in ts x a in (suc p.0 ∷ p.1, (p.2, p.3, p.4))

  position_in : (ts : Terms) (x : Variable) → IsAmong (terms.variables_of_all ts) x → (n : ℕ) × (path : List ℕ) × (u : Term) × (argument_in (suc n) ts ≡ Some u) × StandsAt path u (terms.var x)
  position_in terms.none x a = absurd a
  position_in (terms.more t ts) x a = elim (among_parts (terms.variables t) (terms.variables_of_all ts) x a) as (λ _. (n : ℕ) × (path : List ℕ) × (u : Term) × (argument_in (suc n) (terms.more t ts) ≡ Some u) × StandsAt path u (terms.var x)) [
    | inl b ↦ (let p = position_of t x b in (0, p.0, t, refl, p.1))
    | inr b ↦ (let p = position_in ts x b in (suc p.0, p.1, p.2, p.3, p.4))
  ]

argument_variables : (n : ℕ) (ts : Terms) (u : Term) (x : Variable) → argument_in n ts ≡ Some u → IsAmong (terms.variables u) x → IsAmong (terms.variables_of_all ts) x
argument_variables n terms.none u x e a = cc
argument_variables zero (terms.more t ts) u x e a = cc
argument_variables (suc zero) (terms.more t ts) u x e a = among_front (terms.variables t) (terms.variables_of_all ts) x (subst (λ v. IsAmong (terms.variables v) x) (sym (same_Some t u e)) a)
argument_variables (suc (suc n)) (terms.more t ts) u x e a = among_back (terms.variables t) (terms.variables_of_all ts) x (argument_variables (suc n) ts u x e a)

-- the variables of a subterm are the term's
pub subterm_variables : (path : List ℕ) (t a : Term) (x : Variable) → StandsAt path t a → IsAmong (terms.variables a) x → IsAmong (terms.variables t) x
subterm_variables [] t a x p v = subst (λ u. IsAmong (terms.variables u) x) p v
subterm_variables (n ∷ path) (terms.var y) a x p v = absurd (by p.1) where
  by : argument n (terms.var y) ≡ Some p.0 → ⊥
  by e = cc
subterm_variables (n ∷ path) (terms.app s ts) a x p v = argument_variables n ts p.0 x p.1 (subterm_variables path p.0 a x p.2 v)

-- ---- what stands in a common term
-- a fresh indicator
abbrev pub IsFreshVariable : ℕ → Variable → Type 0
IsFreshVariable next x = (n : ℕ) × (next ≤ n) × (x ≡ ind n)

variable_of : (x y : Variable) → ◌≡◌ {A = Term} (terms.var x) (terms.var y) → x ≡ y
variable_of x y e = cc

plain_from : (next : ℕ) (y : Variable) (b : Term) (x : Variable) → ((same_head (terms.var y) b ≡ true) × (same_head (terms.var y) (terms.var x) ≡ true)) ⊎ ((same_head (terms.var y) b ≡ false) × IsFresh next (terms.var x)) → IsAmong (y ∷ []) x ⊎ IsFreshVariable next x
plain_from next y b x (inl h) = inl (inl (variable_is y x h.1))
plain_from next y b x (inr h) = inr (h.1.0, h.1.1, variable_of x (ind h.1.0) h.1.2)

head_from : (next : ℕ) (a b : Term) (x : Variable) → IsCommonHead next a b (terms.var x) → IsAmong (terms.variables a) x ⊎ IsFreshVariable next x
head_from next (terms.var (ind n)) b x h = inl (inl (sym (variable_of x (ind n) h)))
head_from next (terms.var (query n)) b x h = plain_from next (query n) b x h
head_from next (terms.var (entry n)) b x h = plain_from next (entry n) b x h
head_from next (terms.app s ts) b x (inl h) = absurd (by h.1) where
  by : same_head (terms.app s ts) (terms.var x) ≡ true → ⊥
  by e = cc
head_from next (terms.app s ts) b x (inr h) = inr (h.1.0, h.1.1, variable_of x (ind h.1.0) h.1.2)

-- each variable of a common term stands in the first one, or is a fresh indicator
pub common_variables : (next : ℕ) (t u c : Term) (x : Variable) → IsCommonTerm next t u c → IsAmong (terms.variables c) x → IsAmong (terms.variables t) x ⊎ IsFreshVariable next x
common_variables next t u c x k a =
    let p = position_of c x a in
    let both = (k.positions p.0).0 (terms.var x, p.1) in
    elim (head_from next both.0.0 both.1.0 x (k.heads p.0 both.0.0 both.1.0 (terms.var x) both.0.1 both.1.1 p.1)) as (λ _. IsAmong (terms.variables t) x ⊎ IsFreshVariable next x) [
      | inl v ↦ inl (subterm_variables p.0 t both.0.0 x both.0.1 v)
      | inr f ↦ inr f
    ]

-- a fresh indicator stands where the two have different heads, and the first no indicator
pub record StandsApart (a b : Term) : Type 0 where
  pub plain : IsIndicator a → ⊥
  pub apart : same_head a b ≡ false

-- a variable of another kind, or a symbol
fresh_plain : (next : ℕ) (a b : Term) (n : ℕ) → (IsIndicator a → ⊥) → (same_head a (indicator n) ≡ true → ⊥) → ((same_head a b ≡ true) × (same_head a (indicator n) ≡ true)) ⊎ ((same_head a b ≡ false) × IsFresh next (indicator n)) → StandsApart a b
fresh_plain next a b n plain other (inl h) = absurd (other h.1)
fresh_plain next a b n plain other (inr h) = record { plain = plain; apart = h.0 }

pub fresh_apart : (next : ℕ) (a b : Term) (n : ℕ) → ((m : ℕ) → IsAmong (indicators a) m → m < next) → next ≤ n → IsCommonHead next a b (indicator n) → StandsApart a b
fresh_apart next (terms.var (ind m)) b n low high h = absurd (omega (arith, low m (inl refl), high, same_indicator n m h))
fresh_apart next (terms.var (query m)) b n low high h = fresh_plain next (terms.var (query m)) b n (λ i. i) other h where
  other : same_head (terms.var (query m)) (indicator n) ≡ true → ⊥
  other e = cc
fresh_apart next (terms.var (entry m)) b n low high h = fresh_plain next (terms.var (entry m)) b n (λ i. i) other h where
  other : same_head (terms.var (entry m)) (indicator n) ≡ true → ⊥
  other e = cc
fresh_apart next (terms.app s ts) b n low high h = fresh_plain next (terms.app s ts) b n (λ i. i) other h where
  other : same_head (terms.app s ts) (indicator n) ≡ true → ⊥
  other e = cc

-- where the heads agree, and the first is no indicator, the common term has the same head
pub record HasHeadOf (t c : Term) : Type 0 where
  pub same : same_head t c ≡ true
  pub plain : IsIndicator c → ⊥

head_kept : (next : ℕ) (t u c : Term) → same_head t u ≡ true → ((same_head t u ≡ true) × (same_head t c ≡ true)) ⊎ ((same_head t u ≡ false) × IsFresh next c) → ((m : ℕ) → same_head t (indicator m) ≡ true → ⊥) → HasHeadOf t c
head_kept next t u c agree (inl h) other = record { same = h.1; plain = λ i. other (number_of_bare c i).0 (subst (λ d. same_head t d ≡ true) (number_of_bare c i).1 h.1) } where
  number_of_bare : (d : Term) → IsIndicator d → (m : ℕ) × (d ≡ indicator m)
  number_of_bare (terms.var (ind m)) i = (m, refl)
  number_of_bare (terms.var (query m)) i = absurd i
  number_of_bare (terms.var (entry m)) i = absurd i
  number_of_bare (terms.app s ts) i = absurd i
head_kept next t u c agree (inr h) other = absurd (by (same_head t u) agree h.0) where
  by : (b : Bool) → b ≡ true → b ≡ false → ⊥
  by b p q = cc

pub common_same_head : (next : ℕ) (t u c : Term) → (IsIndicator t → ⊥) → same_head t u ≡ true → IsCommonHead next t u c → HasHeadOf t c
common_same_head next (terms.var (ind m)) u c plain agree h = absurd (plain tt)
common_same_head next (terms.var (query m)) u c plain agree h = head_kept next (terms.var (query m)) u c agree h other where
  other : (n : ℕ) → same_head (terms.var (query m)) (indicator n) ≡ true → ⊥
  other n e = cc
common_same_head next (terms.var (entry m)) u c plain agree h = head_kept next (terms.var (entry m)) u c agree h other where
  other : (n : ℕ) → same_head (terms.var (entry m)) (indicator n) ≡ true → ⊥
  other n e = cc
common_same_head next (terms.app s ts) u c plain agree h = head_kept next (terms.app s ts) u c agree h other where
  other : (n : ℕ) → same_head (terms.app s ts) (indicator n) ≡ true → ⊥
  other n e = cc

-- ---- sides
pub side_node : (node new : List Binding) (s : Sides) → IsAmong (sides node new) s → IsAmong node (s.left, s.node)
side_node [] new s a = absurd a
side_node (b ∷ node) [] s a = absurd a
side_node (b ∷ node) (c ∷ new) s (inl e) = inl (λ i. ((e i).left, (e i).node))
side_node (b ∷ node) (c ∷ new) s (inr a) = inr (side_node node new s a)

pub side_new : (node new : List Binding) (s : Sides) → left_sides node ≡ left_sides new → IsAmong (sides node new) s → IsAmong new (s.left, s.new)
side_new [] new s same a = absurd a
side_new (b ∷ node) [] s same a = absurd a
side_new (b ∷ node) (c ∷ new) s same (inl e) = inl (let first : c.0 ≡ s.left = sym (same_first same) ∙ ap (λ x. x.left) e in λ i. (first i, (e i).new))
side_new (b ∷ node) (c ∷ new) s same (inr a) = inr (side_new node new s (same_tail same) a)

pub sides_lefts : (node new : List Binding) → left_sides node ≡ left_sides new → lefts_of (sides node new) ≡ left_sides node
sides_lefts [] new same = refl
sides_lefts (b ∷ node) [] same = absurd (by same) where
  by : b.0 ∷ left_sides node ≡ [] → ⊥
  by e = cc
sides_lefts (b ∷ node) (c ∷ new) same = ap (λ l. b.0 ∷ l) (sides_lefts node new (same_tail same))

pub left_of_side : (ss : List Sides) (s : Sides) → IsAmong ss s → IsAmong (lefts_of ss) s.left
left_of_side [] s a = a
left_of_side (r ∷ ss) s (inl e) = inl (ap (λ x. x.left) e)
left_of_side (r ∷ ss) s (inr a) = inr (left_of_side ss s a)

pub side_of_left : (ss : List Sides) (n : ℕ) → IsAmong (lefts_of ss) n → (s : Sides) × IsAmong ss s × (s.left ≡ n)
side_of_left [] n a = absurd a
side_of_left (s ∷ ss) n (inl e) = (s, inl refl, e)
side_of_left (s ∷ ss) n (inr a) = let rest = side_of_left ss n a in (rest.0, inr rest.1, rest.2)

pub one_side : (ss : List Sides) (r s : Sides) → AreDistinct (lefts_of ss) → IsAmong ss r → IsAmong ss s → r.left ≡ s.left → r ≡ s
one_side [] r s distinct a b same = absurd a
one_side (q ∷ ss) r s distinct (inl e) (inl k) same = sym e ∙ k
one_side (q ∷ ss) r s distinct (inl e) (inr b) same = absurd (distinct.0 (subst (IsAmong (lefts_of ss)) (sym same ∙ sym (ap (λ x. x.left) e)) (left_of_side ss s b)))
one_side (q ∷ ss) r s distinct (inr a) (inl k) same = absurd (distinct.0 (subst (IsAmong (lefts_of ss)) (same ∙ sym (ap (λ x. x.left) k)) (left_of_side ss r a)))
one_side (q ∷ ss) r s distinct (inr a) (inr b) same = one_side ss r s distinct.1 a b same

pub filtered_left : (test : Sides → Bool) (ss : List Sides) (n : ℕ) → IsAmong (lefts_of (filter test ss)) n → IsAmong (lefts_of ss) n
filtered_left test ss n a =
    let s = side_of_left (filter test ss) n a in
    subst (IsAmong (lefts_of ss)) s.2 (left_of_side ss s.0 (filtered test ss s.0 s.1).0)

pub filtered_lefts : (test : Sides → Bool) (ss : List Sides) → AreDistinct (lefts_of ss) → AreDistinct (lefts_of (filter test ss))
filtered_lefts test [] h = h
filtered_lefts test (s ∷ ss) h =
    let rest = filtered_lefts test ss h.1 in
    chosen (λ l. AreDistinct (lefts_of l)) (test s) s (filter test ss) ((λ a. h.0 (filtered_left test ss s.left a)), rest) rest

-- ---- whether heads agree
not_true : (b : Bool) → not b ≡ true → b ≡ false
not_true true e = cc
not_true false e = refl

not_false : (b : Bool) → b ≡ false → not b ≡ true
not_false true e = cc
not_false false e = refl

true_or_false : (b : Bool) → (b ≡ true) ⊎ (b ≡ false)
true_or_false true = inl refl
true_or_false false = inr refl

pub agrees : (ss : List Sides) (s : Sides) → IsAmong (agreeing ss) s → IsAmong ss s × (same_head s.node s.new ≡ true)
agrees ss s a = filtered (λ r. same_head r.node r.new) ss s a

pub differs : (ss : List Sides) (s : Sides) → IsAmong (differing ss) s → IsAmong ss s × (same_head s.node s.new ≡ false)
differs ss s a = let both = filtered (λ r. not (same_head r.node r.new)) ss s a in (both.0, not_true (same_head s.node s.new) both.1)

pub agree_or_differ : (ss : List Sides) (n : ℕ) → IsAmong (lefts_of ss) n → IsAmong (lefts_of (agreeing ss)) n ⊎ IsAmong (lefts_of (differing ss)) n
agree_or_differ ss n a =
    let s = side_of_left ss n a in
    elim (true_or_false (same_head s.0.node s.0.new)) as (λ _. IsAmong (lefts_of (agreeing ss)) n ⊎ IsAmong (lefts_of (differing ss)) n) [
      | inl e ↦ inl (subst (IsAmong (lefts_of (agreeing ss))) s.2 (left_of_side (agreeing ss) s.0 (is_filtered (λ r. same_head r.node r.new) ss s.0 s.1 e)))
      | inr e ↦ inr (subst (IsAmong (lefts_of (differing ss))) s.2 (left_of_side (differing ss) s.0 (is_filtered (λ r. not (same_head r.node r.new)) ss s.0 s.1 (not_false (same_head s.0.node s.0.new) e))))
    ]

pub never_both : (ss : List Sides) (n : ℕ) → AreDistinct (lefts_of ss) → IsAmong (lefts_of (agreeing ss)) n → IsAmong (lefts_of (differing ss)) n → ⊥
never_both ss n distinct a b =
    let r = side_of_left (agreeing ss) n a in
    let s = side_of_left (differing ss) n b in
    let one = agrees ss r.0 r.1 in
    let other = differs ss s.0 s.1 in
    let same = one_side ss r.0 s.0 distinct one.0 other.0 (r.2 ∙ sym s.2) in
    let agree : same_head s.0.node s.0.new ≡ true = subst (λ x. same_head x.node x.new ≡ true) same one.1 in
    let bad : true ≡ false = sym agree ∙ other.1 in
    cc

-- ---- the common part of some sides
pub common_lefts : (next : ℕ) (ss : List Sides) (cs : List Binding) → AreCommon next ss cs → left_sides cs ≡ lefts_of ss
common_lefts next [] [] h = refl
common_lefts next [] (c ∷ cs) h = absurd h
common_lefts next (s ∷ ss) [] h = absurd h
common_lefts next (s ∷ ss) (c ∷ cs) h = let first = h.0 in let rest = common_lefts next ss cs h.2 in λ i. first i ∷ rest i

pub record HasSide (next : ℕ) (ss : List Sides) (b : Binding) : Type 0 where
  pub side : Sides
  pub among : IsAmong ss side
  pub left : b.0 ≡ side.left
  pub common : IsCommonTerm next side.node side.new b.1

pub common_side : (next : ℕ) (ss : List Sides) (cs : List Binding) (b : Binding) → AreCommon next ss cs → IsAmong cs b → HasSide next ss b
common_side next [] [] b h a = absurd a
common_side next [] (c ∷ cs) b h a = absurd h
common_side next (s ∷ ss) [] b h a = absurd h
common_side next (s ∷ ss) (c ∷ cs) b h (inl e) = record {
  side = s;
  among = inl refl;
  left = subst (λ d. d.0 ≡ s.left) e h.0;
  common = subst (λ d. IsCommonTerm next s.node s.new d.1) e h.1;
}
common_side next (s ∷ ss) (c ∷ cs) b h (inr a) =
    let rest = common_side next ss cs b h.2 a in
    record { side = rest.side; among = inr rest.among; left = rest.left; common = rest.common }

-- ---- pairs of one side
pub pair_lefts : (side : Sides → Term) (ss : List Sides) → left_sides (side_pairs side ss) ≡ lefts_of ss
pair_lefts side [] = refl
pair_lefts side (s ∷ ss) = ap (λ l. s.left ∷ l) (pair_lefts side ss)

pub side_of_pair : (side : Sides → Term) (ss : List Sides) (b : Binding) → IsAmong (side_pairs side ss) b → (s : Sides) × IsAmong ss s × ((s.left, side s) ≡ b)
side_of_pair side [] b a = absurd a
side_of_pair side (s ∷ ss) b (inl e) = (s, inl refl, e)
side_of_pair side (s ∷ ss) b (inr a) = let rest = side_of_pair side ss b a in (rest.0, inr rest.1, rest.2)

pub pair_of_side : (side : Sides → Term) (ss : List Sides) (s : Sides) → IsAmong ss s → IsAmong (side_pairs side ss) (s.left, side s)
pair_of_side side [] s a = absurd a
pair_of_side side (r ∷ ss) s (inl e) = inl (λ i. ((e i).left, side (e i)))
pair_of_side side (r ∷ ss) s (inr a) = inr (pair_of_side side ss s a)

-- ---- fresh numbers
pub is_fresh : (next : ℕ) (ns : List ℕ) (n : ℕ) → IsAmong ns n → next ≤ n → IsAmong (fresh_among next ns) n
is_fresh next ns n a high = is_filtered (λ m. nat_le next m) ns n a (le-leb next n high)

pub fresh_is : (next : ℕ) (ns : List ℕ) (n : ℕ) → IsAmong (fresh_among next ns) n → IsAmong ns n × (next ≤ n)
fresh_is next ns n a =
    let both = filtered (λ m. nat_le next m) ns n a in (
      both.0,
      elim (leb_tells next n) as (λ _. next ≤ n) [
        | inl h ↦ h.1
        | inr h ↦ (let bad : true ≡ false = sym both.1 ∙ h.0 in cc)
      ],
    )

pub none_fresh : (next : ℕ) (ns : List ℕ) → ((n : ℕ) → IsAmong ns n → n < next) → fresh_among next ns ≡ []
none_fresh next [] low = refl
none_fresh next (n ∷ ns) low = elim (leb_tells next n) as (λ _. fresh_among next (n ∷ ns) ≡ []) [
  | inl h ↦ absurd (omega (arith, h.1, low n (inl refl)))
  | inr h ↦ ap (λ b. cond b (n ∷ fresh_among next ns) (fresh_among next ns)) h.0 ∙ none_fresh next ns (λ m a. low m (inr a))
]

pub all_fresh : (next : ℕ) (ns : List ℕ) → ((n : ℕ) → IsAmong ns n → next ≤ n) → fresh_among next ns ≡ ns
all_fresh next [] high = refl
all_fresh next (n ∷ ns) high =
    ap (λ b. cond b (n ∷ fresh_among next ns) (fresh_among next ns)) (le-leb next n (high n (inl refl)))
    ∙ ap (λ l. n ∷ l) (all_fresh next ns (λ m a. high m (inr a)))

pub consecutive_low : (first count n : ℕ) → IsAmong (consecutive first count) n → n < first + count
consecutive_low first zero n a = absurd a
consecutive_low first (suc count) n (inl e) = omega (arith, e)
consecutive_low first (suc count) n (inr a) = omega (arith, consecutive_low (suc first) count n a)

pub length-consecutive : (first count : ℕ) → length (consecutive first count) ≡ count
length-consecutive first zero = refl
length-consecutive first (suc count) = ap suc (length-consecutive (suc first) count)

pub nothing_among : (ns : List ℕ) → ((n : ℕ) → IsAmong ns n → ⊥) → ns ≡ []
nothing_among [] none = refl
nothing_among (n ∷ ns) none = absurd (none n (inl refl))

pub distinct_fresh : (next : ℕ) (ns : List ℕ) → AreDistinct ns → AreDistinct (fresh_among next ns)
distinct_fresh next [] h = h
distinct_fresh next (n ∷ ns) h =
    let rest = distinct_fresh next ns h.1 in
    chosen AreDistinct (nat_le next n) n (fresh_among next ns) ((λ a. h.0 (fresh_is next ns n a).0), rest) rest

-- ---- what a split gives
-- it stands on some right side
abbrev pub IsVariableOf : List Binding → Variable → Type 0
IsVariableOf bs x = (b : Binding) × IsAmong bs b × IsAmong (terms.variables b.1) x

-- what the node has in place of its bindings: the common part, and below it its own rest
pub record Divides (next : ℕ) (node common rest_node rest_new : List Binding) : Type 0 where
  -- the common part binds some left sides of the node, each to a term with the node's head
  pub common_left : (n : ℕ) → IsAmong (left_sides common) n → IsAmong (left_sides node) n
  pub common_distinct : AreDistinct (left_sides common)
  pub common_rights : HasNoBareIndicator common
  pub common_heads : (b : Binding) → IsAmong common b → (a : Term) × IsAmong node (b.0, a) × (same_head a b.1 ≡ true)
  pub common_variables : (b : Binding) (x : Variable) → IsAmong common b → IsAmong (terms.variables b.1) x → IsVariableOf node x ⊎ IsFreshVariable next x
  -- it opens indicators of the node, and fresh ones, each once
  pub common_opens : (n : ℕ) → IsAmong (right_indicators common) n → IsAmong (right_indicators node) n ⊎ (next ≤ n)
  pub common_once : AreDistinct (right_indicators common)
  pub fresh_low : (n : ℕ) → IsAmong (right_indicators common) n → n < next + length (fresh_among next (left_sides rest_node))
  -- the rest of the node binds its other left sides, and the fresh indicators
  pub node_distinct : AreDistinct (left_sides rest_node)
  pub node_left : (n : ℕ) → IsAmong (left_sides rest_node) n ↔ ((IsAmong (left_sides node) n × (IsAmong (left_sides common) n → ⊥)) ⊎ (IsAmong (right_indicators common) n × (next ≤ n)))
  pub node_rights : HasNoBareIndicator rest_node
  pub node_variables : (b : Binding) (x : Variable) → IsAmong rest_node b → IsAmong (terms.variables b.1) x → IsVariableOf node x
  pub rest_opens : (n : ℕ) → IsAmong (right_indicators rest_node) n → IsAmong (right_indicators node) n
  pub opens_once : AreDistinct (right_indicators common ++ right_indicators rest_node)
  -- both give what the node gives
  pub gives_node : (t : Term) → ((n : ℕ) → IsAmong (indicators t) n → IsAmong (right_indicators common) n → ⊥) → applied rest_node (applied common t) ≡ applied node t
  -- the other rest binds the same left sides of the node and all that the common part opens, and
  -- opens none
  pub new_distinct : AreDistinct (left_sides rest_new)
  pub new_left : (n : ℕ) → IsAmong (left_sides rest_new) n ↔ ((IsAmong (left_sides node) n × (IsAmong (left_sides common) n → ⊥)) ⊎ IsAmong (right_indicators common) n)
  pub new_opens_none : OpensNone rest_new
  -- what the rest of the node binds, the other binds to a term with another head
  pub rests_differ : (n : ℕ) (a : Term) → IsAmong rest_node (n, a) → (b : Term) × IsAmong rest_new (n, b) × (same_head a b ≡ false)

module _ (next : ℕ) (node new common rest_node rest_new : List Binding) (may : MaySplit next node new) (cut : Splits next node new common rest_node rest_new) where
  abbrev ss : List Sides
  ss = sides node new

  low : (n : ℕ) → IsAmong (left_sides node) n → n < next
  low n a = all_at (λ m. m < next) (left_sides node) n may.low a

  opens_low : (n : ℕ) → IsAmong (right_indicators node) n → n < next
  opens_low n a = all_at (λ m. m < next) (right_indicators node) n may.opens_low a

  ss_lefts : lefts_of ss ≡ left_sides node
  ss_lefts = sides_lefts node new may.same_lefts

  ss_distinct : AreDistinct (lefts_of ss)
  ss_distinct = subst AreDistinct (sym ss_lefts) may.distinct

  variable_of_node : (s : Sides) (x : Variable) → IsAmong ss s → IsAmong (terms.variables s.node) x → IsVariableOf node x
  variable_of_node s x a v = ((s.left, s.node), side_node node new s a, v)

  indicator_of_node : (s : Sides) (n : ℕ) → IsAmong ss s → IsAmong (indicators s.node) n → IsAmong (right_indicators node) n
  indicator_of_node s n a i = right_among node (s.left, s.node) n (side_node node new s a) i

  -- the common part
  common_left_sides : left_sides common ≡ lefts_of (agreeing ss)
  common_left_sides = common_lefts next (agreeing ss) common cut.common_part.terms

  common_distinct : AreDistinct (left_sides common)
  common_distinct = subst AreDistinct (sym common_left_sides) (filtered_lefts (λ s. same_head s.node s.new) ss ss_distinct)

  agreeing_left : (n : ℕ) → IsAmong (left_sides common) n → IsAmong (lefts_of (agreeing ss)) n
  agreeing_left n a = subst (λ l. IsAmong l n) common_left_sides a

  common_left : (n : ℕ) → IsAmong (left_sides common) n → IsAmong (left_sides node) n
  common_left n a = subst (λ l. IsAmong l n) ss_lefts (filtered_left (λ s. same_head s.node s.new) ss n (agreeing_left n a))

  has_side : (b : Binding) → IsAmong common b → HasSide next (agreeing ss) b
  has_side b a = common_side next (agreeing ss) common b cut.common_part.terms a

  common_from : (b : Binding) (x : Variable) → IsAmong common b → IsAmong (terms.variables b.1) x → IsVariableOf node x ⊎ IsFreshVariable next x
  common_from b x a v =
      let k = has_side b a in
      elim (common_variables next k.side.node k.side.new b.1 x k.common v) as (λ _. IsVariableOf node x ⊎ IsFreshVariable next x) [
        | inl w ↦ inl (variable_of_node k.side x (agrees ss k.side k.among).0 w)
        | inr f ↦ inr f
      ]

  common_opens : (n : ℕ) → IsAmong (right_indicators common) n → IsAmong (right_indicators node) n ⊎ (next ≤ n)
  common_opens n a =
      let b = among_right common n a in
      elim (common_from b.0 (ind n) b.1 (indicator_variable (terms.variables b.0.1) n b.2)) as (λ _. IsAmong (right_indicators node) n ⊎ (next ≤ n)) [
        | inl d ↦ inl (right_among node d.0 n d.1 (indicator_in (terms.variables d.0.1) n d.2))
        | inr f ↦ inr (subst (λ m. next ≤ m) (sym (number f.0 f.2)) f.1)
      ] where
        number : (m : ℕ) → ind n ≡ ind m → n ≡ m
        number m e = cc

  opens_apart : (n : ℕ) → IsAmong (right_indicators common) n → IsAmong (left_sides node) n → ⊥
  opens_apart n a b = elim (common_opens n a) as (λ _. ⊥) [
    | inl i ↦ all_at (λ m. IsAmong (left_sides node) m → ⊥) (right_indicators node) n may.opens_others i b
    | inr high ↦ omega (arith, high, low n b)
  ]

  -- each has the head of the node's term
  common_head : (b : Binding) → IsAmong common b → (a : Term) × IsAmong node (b.0, a) × HasHeadOf a b.1
  common_head b a =
      let k = has_side b a in
      let one = agrees ss k.side k.among in
      let in_node : IsAmong node (b.0, k.side.node) = subst (λ n. IsAmong node (n, k.side.node)) (sym k.left) (side_node node new k.side one.0) in (
        k.side.node,
        in_node,
        common_same_head next k.side.node k.side.new b.1 (all_at (λ d. IsIndicator d.1 → ⊥) node (b.0, k.side.node) may.no_bare in_node) one.1 (k.common.heads [] k.side.node k.side.new b.1 refl refl refl),
      )

  common_rights : HasNoBareIndicator common
  common_rights = all_from (λ b. IsIndicator b.1 → ⊥) common (λ b a. (common_head b a).2.plain)

  -- where an indicator of the common part stands
  record IsOpenedAt (n : ℕ) : Type 0 where
    side : Sides
    among : IsAmong (agreeing ss) side
    part : Term
    has : IsAmong common (side.left, part)
    path : List ℕ
    at_part : StandsAt path part (indicator n)
    node_term : Term
    at_node : StandsAt path side.node node_term
    new_term : Term
    at_new : StandsAt path side.new new_term
    head : IsCommonHead next node_term new_term (indicator n)

  opened_at : (n : ℕ) → IsAmong (right_indicators common) n → IsOpenedAt n
  opened_at n a =
      let b = among_right common n a in
      let k = has_side b.0 b.1 in
      let p = position_of b.0.1 (ind n) (indicator_variable (terms.variables b.0.1) n b.2) in
      let both = (k.common.positions p.0).0 (indicator n, p.1) in
      record {
        side = k.side;
        among = k.among;
        part = b.0.1;
        has = subst (λ m. IsAmong common (m, b.0.1)) k.left b.1;
        path = p.0;
        at_part = p.1;
        node_term = both.0.0;
        at_node = both.0.1;
        new_term = both.1.0;
        at_new = both.1.1;
        head = k.common.heads p.0 both.0.0 both.1.0 (indicator n) both.0.1 both.1.1 p.1;
      }

  node_term_low : (n : ℕ) (o : IsOpenedAt n) (m : ℕ) → IsAmong (indicators o.node_term) m → m < next
  node_term_low n o m i =
      opens_low m
      (indicator_of_node o.side m (agrees ss o.side o.among).0
      (indicator_in (terms.variables o.side.node) m
      (subterm_variables o.path o.side.node o.node_term (ind m) o.at_node (indicator_variable (terms.variables o.node_term) m i))))

  stands_apart : (n : ℕ) (o : IsOpenedAt n) → next ≤ n → StandsApart o.node_term o.new_term
  stands_apart n o high = fresh_apart next o.node_term o.new_term n (node_term_low n o) high o.head

  -- a rest has a side's whole right sides, and its terms at some indicators of the common part
  abbrev IsWhole : (Sides → Term) → ℕ → Term → Type 0
  IsWhole side n a = (s : Sides) × IsAmong (differing ss) s × (s.left ≡ n) × (side s ≡ a)

  module _ (side : Sides → Term) (ns : List ℕ) (rest : List Binding) (is : IsRest side ss common ns rest) (opens : (n : ℕ) → IsAmong ns n → IsAmong (right_indicators common) n) (distinct : AreDistinct ns) (term : (n : ℕ) (o : IsOpenedAt n) → (a : Term) × StandsAt o.path (side o.side) a) where
    rest_left_sides : left_sides rest ≡ lefts_of (differing ss) ++ ns
    rest_left_sides =
        ap left_sides is.rest_is
        ∙ map-append (λ b. b.0) (side_pairs side (differing ss)) is.parts
        ∙ (λ i. pair_lefts side (differing ss) i ++ is.order i)

    differing_left : (n : ℕ) → IsAmong (lefts_of (differing ss)) n → IsAmong (left_sides node) n
    differing_left n a = subst (λ l. IsAmong l n) ss_lefts (filtered_left (λ s. not (same_head s.node s.new)) ss n a)

    rest_distinct : AreDistinct (left_sides rest)
    rest_distinct = subst AreDistinct (sym rest_left_sides) (distinct_append (lefts_of (differing ss)) ns (filtered_lefts (λ s. not (same_head s.node s.new)) ss ss_distinct) distinct (λ n a b. opens_apart n (opens n b) (differing_left n a)))

    -- the left sides of the node that the common part doesn't bind, and those indicators
    rest_left : (n : ℕ) → IsAmong (left_sides rest) n ↔ ((IsAmong (left_sides node) n × (IsAmong (left_sides common) n → ⊥)) ⊎ IsAmong ns n)
    rest_left n = (
      (λ a. elim (among_parts (lefts_of (differing ss)) ns n (subst (λ l. IsAmong l n) rest_left_sides a)) as (λ _. (IsAmong (left_sides node) n × (IsAmong (left_sides common) n → ⊥)) ⊎ IsAmong ns n) [
        | inl b ↦ inl (differing_left n b, (λ c. never_both ss n ss_distinct (agreeing_left n c) b))
        | inr b ↦ inr b
      ]),
      (λ h. subst (λ l. IsAmong l n) (sym rest_left_sides) (by h)),
    ) where
      by : (IsAmong (left_sides node) n × (IsAmong (left_sides common) n → ⊥)) ⊎ IsAmong ns n → IsAmong (lefts_of (differing ss) ++ ns) n
      by (inl h) = elim (agree_or_differ ss n (subst (λ l. IsAmong l n) (sym ss_lefts) h.0)) as (λ _. IsAmong (lefts_of (differing ss) ++ ns) n) [
        | inl a ↦ absurd (h.1 (subst (λ l. IsAmong l n) (sym common_left_sides) a))
        | inr a ↦ among_front (lefts_of (differing ss)) ns n a
      ]
      by (inr h) = among_back (lefts_of (differing ss)) ns n h

    has_part : (n : ℕ) (o : IsOpenedAt n) → IsAmong ns n → IsAmong is.parts (n, (term n o).0)
    has_part n o m = is.each o.side o.part o.among o.has o.path n (term n o).0 m o.at_part (term n o).1

    rest_has_part : (n : ℕ) (o : IsOpenedAt n) → IsAmong ns n → IsAmong rest (n, (term n o).0)
    rest_has_part n o m = subst (λ l. IsAmong l (n, (term n o).0)) (sym is.rest_is) (among_back (side_pairs side (differing ss)) is.parts (n, (term n o).0) (has_part n o m))

    rest_has_whole : (s : Sides) → IsAmong (differing ss) s → IsAmong rest (s.left, side s)
    rest_has_whole s a = subst (λ l. IsAmong l (s.left, side s)) (sym is.rest_is) (among_front (side_pairs side (differing ss)) is.parts (s.left, side s) (pair_of_side side (differing ss) s a))

    rest_from : (n : ℕ) (a : Term) → IsAmong rest (n, a) → IsWhole side n a ⊎ (IsAmong ns n × (o : IsOpenedAt n) × (a ≡ (term n o).0))
    rest_from n a m = elim (among_parts (side_pairs side (differing ss)) is.parts (n, a) (subst (λ l. IsAmong l (n, a)) is.rest_is m)) as (λ _. IsWhole side n a ⊎ (IsAmong ns n × (o : IsOpenedAt n) × (a ≡ (term n o).0))) [
      | inl b ↦ (let s = side_of_pair side (differing ss) (n, a) b in inl (s.0, s.1, ap (λ p. p.0) s.2, ap (λ p. p.1) s.2))
      | inr b ↦ (let k : IsAmong ns n = subst (λ l. IsAmong l n) is.order (binding_left is.parts n a b) in
          let o = opened_at n (opens n k) in
          inr (k, o, one_right is.parts n a (term n o).0 (subst AreDistinct (sym is.order) distinct) b (has_part n o k)))
    ]

  -- ---- the rest of the node
  fresh_opened : (n : ℕ) → IsAmong (fresh_among next (right_indicators common)) n → IsAmong (right_indicators common) n
  fresh_opened n a = (fresh_is next (right_indicators common) n a).0

  fresh_distinct : AreDistinct (fresh_among next (right_indicators common))
  fresh_distinct = distinct_fresh next (right_indicators common) cut.common_part.once

  abbrev node_term_at : (n : ℕ) (o : IsOpenedAt n) → (a : Term) × StandsAt o.path o.side.node a
  node_term_at n o = (o.node_term, o.at_node)

  abbrev new_term_at : (n : ℕ) (o : IsOpenedAt n) → (a : Term) × StandsAt o.path o.side.new a
  new_term_at n o = (o.new_term, o.at_new)

  node_from : (n : ℕ) (a : Term) → IsAmong rest_node (n, a) → IsWhole (λ s. s.node) n a ⊎ (IsAmong (fresh_among next (right_indicators common)) n × (o : IsOpenedAt n) × (a ≡ (node_term_at n o).0))
  node_from n a m = rest_from (λ s. s.node) (fresh_among next (right_indicators common)) rest_node cut.node_part fresh_opened fresh_distinct node_term_at n a m

  new_from : (n : ℕ) (a : Term) → IsAmong rest_new (n, a) → IsWhole (λ s. s.new) n a ⊎ (IsAmong (right_indicators common) n × (o : IsOpenedAt n) × (a ≡ (new_term_at n o).0))
  new_from n a m = rest_from (λ s. s.new) (right_indicators common) rest_new cut.new_part (λ k b. b) cut.common_part.once new_term_at n a m

  node_distinct : AreDistinct (left_sides rest_node)
  node_distinct = rest_distinct (λ s. s.node) (fresh_among next (right_indicators common)) rest_node cut.node_part fresh_opened fresh_distinct node_term_at

  node_left : (n : ℕ) → IsAmong (left_sides rest_node) n ↔ ((IsAmong (left_sides node) n × (IsAmong (left_sides common) n → ⊥)) ⊎ (IsAmong (right_indicators common) n × (next ≤ n)))
  node_left n =
      let both = rest_left (λ s. s.node) (fresh_among next (right_indicators common)) rest_node cut.node_part fresh_opened fresh_distinct node_term_at n in (
        (λ a. elim (both.0 a) as (λ _. (IsAmong (left_sides node) n × (IsAmong (left_sides common) n → ⊥)) ⊎ (IsAmong (right_indicators common) n × (next ≤ n))) [
          | inl h ↦ inl h
          | inr h ↦ inr (fresh_is next (right_indicators common) n h)
        ]),
        (λ h. elim h as (λ _. IsAmong (left_sides rest_node) n) [
          | inl k ↦ both.1 (inl k)
          | inr k ↦ both.1 (inr (is_fresh next (right_indicators common) n k.0 k.1))
        ]),
      )

  node_plain : (b : Binding) → IsAmong rest_node b → IsIndicator b.1 → ⊥
  node_plain b m = elim (node_from b.0 b.1 m) as (λ _. IsIndicator b.1 → ⊥) [
    | inl s ↦ subst (λ t. IsIndicator t → ⊥) s.3 (all_at (λ d. IsIndicator d.1 → ⊥) node (s.0.left, s.0.node) may.no_bare (side_node node new s.0 (differs ss s.0 s.1).0))
    | inr p ↦ subst (λ t. IsIndicator t → ⊥) (sym p.2) (stands_apart b.0 p.1 (fresh_is next (right_indicators common) b.0 p.0).1).plain
  ]

  node_variables : (b : Binding) (x : Variable) → IsAmong rest_node b → IsAmong (terms.variables b.1) x → IsVariableOf node x
  node_variables b x m v = elim (node_from b.0 b.1 m) as (λ _. IsVariableOf node x) [
    | inl s ↦ variable_of_node s.0 x (differs ss s.0 s.1).0 (subst (λ t. IsAmong (terms.variables t) x) (sym s.3) v)
    | inr p ↦ variable_of_node p.1.side x (agrees ss p.1.side p.1.among).0 (subterm_variables p.1.path p.1.side.node p.1.node_term x p.1.at_node (subst (λ t. IsAmong (terms.variables t) x) p.2 v))
  ]

  rest_opens : (n : ℕ) → IsAmong (right_indicators rest_node) n → IsAmong (right_indicators node) n
  rest_opens n a =
      let b = among_right rest_node n a in
      let d = node_variables b.0 (ind n) b.1 (indicator_variable (terms.variables b.0.1) n b.2) in
      right_among node d.0 n d.1 (indicator_in (terms.variables d.0.1) n d.2)

  pub fresh_list : fresh_among next (left_sides rest_node) ≡ fresh_among next (right_indicators common)
  fresh_list =
      ap (fresh_among next) (rest_left_sides (λ s. s.node) (fresh_among next (right_indicators common)) rest_node cut.node_part fresh_opened fresh_distinct node_term_at)
      ∙ filter-append (λ n. nat_le next n) (lefts_of (differing ss)) (fresh_among next (right_indicators common))
      ∙ (λ i. none_fresh next (lefts_of (differing ss)) old i ++ all_fresh next (fresh_among next (right_indicators common)) (λ n a. (fresh_is next (right_indicators common) n a).1) i) where
        old : (n : ℕ) → IsAmong (lefts_of (differing ss)) n → n < next
        old n a = low n (subst (λ l. IsAmong l n) ss_lefts (filtered_left (λ s. not (same_head s.node s.new)) ss n a))

  fresh_low : (n : ℕ) → IsAmong (right_indicators common) n → n < next + length (fresh_among next (left_sides rest_node))
  fresh_low n a = elim (common_opens n a) as (λ _. n < next + length (fresh_among next (left_sides rest_node))) [
    | inl i ↦ omega (arith, opens_low n i)
    | inr high ↦ (let count = cut.common_part.fresh in
        let less = consecutive_low next count.0 n (subst (λ l. IsAmong l n) count.1 (is_fresh next (right_indicators common) n a high)) in
        omega (arith, less, ap length fresh_list, ap length count.1, length-consecutive next count.0))
  ]

  -- ---- the same as the node
  composed_distinct : AreDistinct (left_sides (composed common rest_node))
  composed_distinct =
      subst AreDistinct (sym (composed_lefts common rest_node))
      (distinct_append (left_sides common) (left_sides (unused (right_indicators common) rest_node)) common_distinct
      (distinct_unused (right_indicators common) rest_node node_distinct)
      (λ n a b. elim ((node_left n).0 (unused_left (right_indicators common) rest_node n b).0) as (λ _. ⊥) [ inl h ↦ h.1 a | inr h ↦ (unused_left (right_indicators common) rest_node n b).1 h.0 ]))

  gives_node : (t : Term) → ((n : ℕ) → IsAmong (indicators t) n → IsAmong (right_indicators common) n → ⊥) → applied rest_node (applied common t) ≡ applied node t
  gives_node t apart = composed_applied common rest_node t apart ∙ same_pairs_applied (composed common rest_node) node t composed_distinct may.distinct cut.gives_node

  opens_once : AreDistinct (right_indicators common ++ right_indicators rest_node)
  opens_once =
      let once = same_once node (composed common rest_node) may.distinct composed_distinct (λ b. ((cut.gives_node b).1, (cut.gives_node b).0)) may.opens_once in
      let second = second_once common rest_node node_distinct once in
      distinct_append (right_indicators common) (right_indicators rest_node) cut.common_part.once second.0
      (λ n a b. elim ((node_left n).0 (second.1 n a b)) as (λ _. ⊥) [ inl h ↦ opens_apart n a h.0 | inr h ↦ omega (arith, h.1, opens_low n (rest_opens n b)) ])

  -- ---- the other rest
  new_distinct : AreDistinct (left_sides rest_new)
  new_distinct = rest_distinct (λ s. s.new) (right_indicators common) rest_new cut.new_part (λ k b. b) cut.common_part.once new_term_at

  new_left : (n : ℕ) → IsAmong (left_sides rest_new) n ↔ ((IsAmong (left_sides node) n × (IsAmong (left_sides common) n → ⊥)) ⊎ IsAmong (right_indicators common) n)
  new_left n = rest_left (λ s. s.new) (right_indicators common) rest_new cut.new_part (λ k b. b) cut.common_part.once new_term_at n

  new_side_opens_none : (s : Sides) (n : ℕ) → IsAmong ss s → IsAmong (indicators s.new) n → ⊥
  new_side_opens_none s n a i = subst (λ l. IsAmong l n) may.ground (right_among new (s.left, s.new) n (side_new node new s may.same_lefts a) i)

  new_opens_none : OpensNone rest_new
  new_opens_none = nothing_among (right_indicators rest_new) by where
    by : (n : ℕ) → IsAmong (right_indicators rest_new) n → ⊥
    by n a =
        let b = among_right rest_new n a in
        elim (new_from b.0.0 b.0.1 b.1) as (λ _. ⊥) [
          | inl s ↦ new_side_opens_none s.0 n (differs ss s.0 s.1).0 (subst (λ t. IsAmong (indicators t) n) (sym s.3) b.2)
          | inr p ↦ new_side_opens_none p.1.side n (agrees ss p.1.side p.1.among).0
              (indicator_in (terms.variables p.1.side.new) n
              (subterm_variables p.1.path p.1.side.new p.1.new_term (ind n) p.1.at_new
              (indicator_variable (terms.variables p.1.new_term) n (subst (λ t. IsAmong (indicators t) n) p.2 b.2))))
        ]

  rests_differ : (n : ℕ) (a : Term) → IsAmong rest_node (n, a) → (b : Term) × IsAmong rest_new (n, b) × (same_head a b ≡ false)
  rests_differ n a m = elim (node_from n a m) as (λ _. (b : Term) × IsAmong rest_new (n, b) × (same_head a b ≡ false)) [
    | inl s ↦ (
      s.0.new,
      subst (λ k. IsAmong rest_new (k, s.0.new)) s.2 (rest_has_whole (λ r. r.new) (right_indicators common) rest_new cut.new_part (λ k b. b) cut.common_part.once new_term_at s.0 s.1),
      subst (λ t. same_head t s.0.new ≡ false) s.3 (differs ss s.0 s.1).1,
    )
    | inr p ↦ (let fresh = fresh_is next (right_indicators common) n p.0 in (
      p.1.new_term,
      rest_has_part (λ r. r.new) (right_indicators common) rest_new cut.new_part (λ k b. b) cut.common_part.once new_term_at n p.1 fresh.0,
      subst (λ t. same_head t p.1.new_term ≡ false) (sym p.2) (stands_apart n p.1 fresh.1).apart,
    ))
  ]

  pub divides : Divides next node common rest_node rest_new
  divides = record {
    common_left = common_left;
    common_distinct = common_distinct;
    common_rights = common_rights;
    common_heads = λ b a. (let k = common_head b a in (k.0, k.1, k.2.same));
    common_variables = common_from;
    common_opens = common_opens;
    common_once = cut.common_part.once;
    fresh_low = fresh_low;
    node_distinct = node_distinct;
    node_left = node_left;
    node_rights = all_from (λ b. IsIndicator b.1 → ⊥) rest_node node_plain;
    node_variables = node_variables;
    rest_opens = rest_opens;
    opens_once = opens_once;
    gives_node = gives_node;
    new_distinct = new_distinct;
    new_left = new_left;
    new_opens_none = new_opens_none;
    rests_differ = rests_differ;
  }
