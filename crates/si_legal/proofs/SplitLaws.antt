-- How two lists of bindings are split: by the pieces of their right sides.
use Rattle.std.proofs.Common.{◌≡◌, ℕ, ◌+◌, ◌<◌, ◌≤◌, ◌⊎◌, ◌↔◌, inl, inr, Bool, true, false, cond, not, ◌||◌, ◌==◌, List, [], ◌∷◌, ◌++◌, map, filter, refl, ap, sym, ◌∙◌, subst, arith, append-nil}
use Rattle.std.specs.List.{AllByRecursion, list_any}
use Rattle.std.proofs.lemmas.Bool.Decides.{eqb_tells, leb_tells}
use Rattle.std.proofs.lemmas.Bool.{eq-eqb}
use Rattle.std.proofs.lemmas.List.{map-append}
use Rattle.std.proofs.lemmas.List.Elements.{filter-append}
use Rattle.std.specs.Prelude.{nat_le}
use Rattle.si_defs.proofs.TermLaws.{same_more}
use Rattle.si_defs.specs.Terms as terms
use Rattle.si_defs.specs.Substitutions.{image, IsAmong, AreDistinct}
use Rattle.si_defs.proofs.ListLaws.{all_at, among_front, among_back, among_parts}
use Rattle.si_flat.specs.Cells.{Variable, query, entry, ind, same_variable, Term, Terms, IsSound, AreSound}
use Rattle.si_flat.specs.Rows.{left_sides}
use Rattle.si_legal.specs.Bindings.{Binding, indicator, indicators, right_indicators, substitution_of, composed, HaveSamePairs}
use Rattle.si_legal.specs.Generalizations.{same_head, Sides, sides, agreeing, differing, AreCommon, fresh_among, IsRest, MaySplit, Splits}
use Rattle.si_flat.proofs.RowLaws.{distinct_append, distinct_parts}
use Rattle.si_legal.proofs.CommonLaws.{AreCommonTerms}
use Rattle.si_legal.proofs.PartLaws.{HasParts, HaveParts, Fills, AreSides}
use Rattle.si_legal.specs.Pieces.{side_terms, node_terms, new_terms, lefts_of, with_lefts, side_pairs, cut, common_of, node_rest, new_rest}
use Rattle.si_legal.proofs.Splitting.{indicators_all, indicators-more, IsNew, IsFrom, MayCut, are_pieces}

-- ---- what sides have of their lists
record AreOf (ss : List Sides) (node new : List Binding) : Type 0 where
  lefts : lefts_of ss ≡ left_sides node
  nodes : side_pairs (λ s. s.node) ss ≡ node
  news : side_pairs (λ s. s.new) ss ≡ new
  inds : indicators_all (node_terms ss) ≡ right_indicators node

are_of : (node new : List Binding) → left_sides node ≡ left_sides new → AreOf (sides node new) node new
are_of [] [] e = record { lefts = refl; nodes = refl; news = refl; inds = refl }
are_of [] (c ∷ new) e = absurd (by e) where
  by : [] ≡ c.0 ∷ left_sides new → ⊥
  by p = cc
are_of (b ∷ node) [] e = absurd (by e) where
  by : b.0 ∷ left_sides node ≡ [] → ⊥
  by p = cc
are_of (b ∷ node) (c ∷ new) e =
    let first : b.0 ≡ c.0 = cc in
    let rest : left_sides node ≡ left_sides new = cc in
    let k = are_of node new rest in
    record {
      lefts = ap (λ l. b.0 ∷ l) k.lefts;
      nodes = ap (λ l. b ∷ l) k.nodes;
      news = λ i. (first i, c.1) ∷ k.news i;
      inds = indicators-more b.1 (node_terms (sides node new)) ∙ ap (λ l. indicators b.1 ++ l) k.inds;
    }

-- ---- some of the sides
-- what holds of any choice of sides by a test
chosen : (P : List Sides → Type 0) (test : Sides → Bool) (s : Sides) (ss : List Sides) → P (s ∷ filter test ss) → P (filter test ss) → P (filter test (s ∷ ss))
chosen P test s ss p q = by (test s) where
  by : (b : Bool) → P (cond b (s ∷ filter test ss) (filter test ss))
  by true = p
  by false = q

-- the indicators of some sides are among those of all
abbrev HasInds : List Sides → List Sides → Type 0
HasInds all some = (n : ℕ) → IsAmong (indicators_all (node_terms some)) n → IsAmong (indicators_all (node_terms all)) n

inds_taken : (s : Sides) (all some : List Sides) → HasInds all some → HasInds (s ∷ all) (s ∷ some)
inds_taken s all some h n a =
    subst (λ l. IsAmong l n) (sym (indicators-more s.node (node_terms all)))
    (elim (among_parts (indicators s.node) (indicators_all (node_terms some)) n (subst (λ l. IsAmong l n) (indicators-more s.node (node_terms some)) a)) as (λ _. IsAmong (indicators s.node ++ indicators_all (node_terms all)) n) [
      | inl b ↦ among_front (indicators s.node) (indicators_all (node_terms all)) n b
      | inr b ↦ among_back (indicators s.node) (indicators_all (node_terms all)) n (h n b)
    ])

inds_left : (s : Sides) (all some : List Sides) → HasInds all some → HasInds (s ∷ all) some
inds_left s all some h n a = subst (λ l. IsAmong l n) (sym (indicators-more s.node (node_terms all))) (among_back (indicators s.node) (indicators_all (node_terms all)) n (h n a))

fewer_inds : (test : Sides → Bool) (ss : List Sides) → HasInds ss (filter test ss)
fewer_inds test [] = λ n a. a
fewer_inds test (s ∷ ss) = chosen (HasInds (s ∷ ss)) test s ss (inds_taken s ss (filter test ss) (fewer_inds test ss)) (inds_left s ss (filter test ss) (fewer_inds test ss))

distinct_inds : (test : Sides → Bool) (ss : List Sides) → AreDistinct (indicators_all (node_terms ss)) → AreDistinct (indicators_all (node_terms (filter test ss)))
distinct_inds test [] h = h
distinct_inds test (s ∷ ss) h =
    let parts = distinct_parts (indicators s.node) (indicators_all (node_terms ss)) (subst AreDistinct (indicators-more s.node (node_terms ss)) h) in
    let rest = distinct_inds test ss parts.1 in
    chosen (λ l. AreDistinct (indicators_all (node_terms l))) test s ss
    (subst AreDistinct (sym (indicators-more s.node (node_terms (filter test ss)))) (distinct_append (indicators s.node) (indicators_all (node_terms (filter test ss))) parts.0 rest (λ n a b. parts.2 n a (fewer_inds test ss n b))))
    rest

fewer_lefts : (test : Sides → Bool) (ss : List Sides) (n : ℕ) → IsAmong (lefts_of (filter test ss)) n → IsAmong (lefts_of ss) n
fewer_lefts test [] n a = a
fewer_lefts test (s ∷ ss) n a = chosen (λ l. IsAmong (lefts_of l) n → IsAmong (lefts_of (s ∷ ss)) n) test s ss (λ b. elim b as (λ _. IsAmong (lefts_of (s ∷ ss)) n) [ inl e ↦ inl e | inr c ↦ inr (fewer_lefts test ss n c) ]) (λ b. inr (fewer_lefts test ss n b)) a

distinct_lefts : (test : Sides → Bool) (ss : List Sides) → AreDistinct (lefts_of ss) → AreDistinct (lefts_of (filter test ss))
distinct_lefts test [] h = h
distinct_lefts test (s ∷ ss) h = chosen (λ l. AreDistinct (lefts_of l)) test s ss ((λ a. h.0 (fewer_lefts test ss s.left a)), distinct_lefts test ss h.1) (distinct_lefts test ss h.1)

pub fewer : (P : Sides → Type 0) (test : Sides → Bool) (ss : List Sides) → AllByRecursion P ss → AllByRecursion P (filter test ss)
fewer P test [] h = tt
fewer P test (s ∷ ss) h = chosen (AllByRecursion P) test s ss (h.0, fewer P test ss h.1) (fewer P test ss h.1)

-- each pair stands among those that a test takes or among the others
abbrev both : (Sides → Bool) → (Sides → Term) → List Sides → List Binding
both test side ss = side_pairs side (filter test ss) ++ side_pairs side (filter (λ s. not (test s)) ss)

taken_too : (b one : Binding) (mine others all : List Binding) → IsAmong (mine ++ others) b ↔ IsAmong all b → IsAmong (one ∷ (mine ++ others)) b ↔ IsAmong (one ∷ all) b
taken_too b one mine others all rest = (
  (λ a. elim a as (λ _. IsAmong (one ∷ all) b) [ inl e ↦ inl e | inr c ↦ inr (rest.0 c) ]),
  (λ a. elim a as (λ _. IsAmong (one ∷ (mine ++ others)) b) [ inl e ↦ inl e | inr c ↦ inr (rest.1 c) ]),
)

left_too : (b one : Binding) (mine others all : List Binding) → IsAmong (mine ++ others) b ↔ IsAmong all b → IsAmong (mine ++ one ∷ others) b ↔ IsAmong (one ∷ all) b
left_too b one mine others all rest = (
  (λ a. elim (among_parts mine (one ∷ others) b a) as (λ _. IsAmong (one ∷ all) b) [
    | inl c ↦ inr (rest.0 (among_front mine others b c))
    | inr c ↦ elim c as (λ _. IsAmong (one ∷ all) b) [ inl e ↦ inl e | inr d ↦ inr (rest.0 (among_back mine others b d)) ]
  ]),
  (λ a. elim a as (λ _. IsAmong (mine ++ one ∷ others) b) [
    | inl e ↦ among_back mine (one ∷ others) b (inl e)
    | inr c ↦ elim (among_parts mine others b (rest.1 c)) as (λ _. IsAmong (mine ++ one ∷ others) b) [ inl d ↦ among_front mine (one ∷ others) b d | inr d ↦ among_back mine (one ∷ others) b (inr d) ]
  ]),
)

pairs_split : (test : Sides → Bool) (side : Sides → Term) (ss : List Sides) (b : Binding) → IsAmong (both test side ss) b ↔ IsAmong (side_pairs side ss) b
pairs_split test side [] b = ((λ a. a), (λ a. a))
pairs_split test side (s ∷ ss) b = by (test s) (pairs_split test side ss b) where
  by : (t : Bool) → IsAmong (both test side ss) b ↔ IsAmong (side_pairs side ss) b → IsAmong (side_pairs side (cond t (s ∷ filter test ss) (filter test ss)) ++ side_pairs side (cond (not t) (s ∷ filter (λ r. not (test r)) ss) (filter (λ r. not (test r)) ss))) b ↔ IsAmong (side_pairs side (s ∷ ss)) b
  by true rest = taken_too b (s.left, side s) (side_pairs side (filter test ss)) (side_pairs side (filter (λ r. not (test r)) ss)) (side_pairs side ss) rest
  by false rest = left_too b (s.left, side s) (side_pairs side (filter test ss)) (side_pairs side (filter (λ r. not (test r)) ss)) (side_pairs side ss) rest

-- ---- the common part
common_terms : (next : ℕ) (ss : List Sides) (cs : Terms) → AreCommonTerms next (node_terms ss) (new_terms ss) cs → AreCommon next ss (with_lefts ss cs)
common_terms next [] terms.none h = tt
common_terms next [] (terms.more c cs) h = tt
common_terms next (s ∷ ss) terms.none h = h
common_terms next (s ∷ ss) (terms.more c cs) h = (refl, h.0, common_terms next ss cs h.1)

-- its indicators are those of the terms
common_inds : (next : ℕ) (ss : List Sides) (cs : Terms) → AreCommonTerms next (node_terms ss) (new_terms ss) cs → right_indicators (with_lefts ss cs) ≡ indicators_all cs
common_inds next [] terms.none h = refl
common_inds next [] (terms.more c cs) h = absurd h
common_inds next (s ∷ ss) terms.none h = absurd h
common_inds next (s ∷ ss) (terms.more c cs) h = ap (λ l. indicators c ++ l) (common_inds next ss cs h.1) ∙ sym (indicators-more c cs)

-- its left sides are those of the terms
pair_lefts : (next : ℕ) (ss : List Sides) (cs : Terms) → AreCommonTerms next (node_terms ss) (new_terms ss) cs → left_sides (with_lefts ss cs) ≡ lefts_of ss
pair_lefts next [] cs h = refl
pair_lefts next (s ∷ ss) terms.none h = absurd h
pair_lefts next (s ∷ ss) (terms.more c cs) h = ap (λ l. s.left ∷ l) (pair_lefts next ss cs h.1)

-- ---- the rests
pair_left : (ss : List Sides) (cs : Terms) (n : ℕ) (c : Term) → IsAmong (with_lefts ss cs) (n, c) → IsAmong (lefts_of ss) n
pair_left [] cs n c a = a
pair_left (s ∷ ss) terms.none n c a = absurd a
pair_left (s ∷ ss) (terms.more d cs) n c a = elim a as (λ _. IsAmong (lefts_of (s ∷ ss)) n) [ inl e ↦ inl (ap (λ p. p.0) e) | inr b ↦ inr (pair_left ss cs n c b) ]

side_left : (ss : List Sides) (s : Sides) → IsAmong ss s → IsAmong (lefts_of ss) s.left
side_left [] s a = a
side_left (r ∷ ss) s a = elim a as (λ _. IsAmong (lefts_of (r ∷ ss)) s.left) [ inl e ↦ inl (ap (λ x. x.left) e) | inr b ↦ inr (side_left ss s b) ]

-- a left side has one term
parts_of_pair : (P : ℕ → Type 0) (side : Sides → Term) (ss : List Sides) (cs : Terms) (parts : List Binding) → AreDistinct (lefts_of ss) → HaveParts P cs (side_terms side ss) parts → (s : Sides) (c : Term) → IsAmong ss s → IsAmong (with_lefts ss cs) (s.left, c) → HasParts P c (side s) parts
parts_of_pair P side [] cs parts distinct h s c a b = absurd a
parts_of_pair P side (r ∷ ss) terms.none parts distinct h s c a b = absurd b
parts_of_pair P side (r ∷ ss) (terms.more d cs) parts distinct h s c (inl e) (inl k) =
    subst (λ x. HasParts P x (side s) parts) (ap (λ p. p.1) k) (subst (λ x. HasParts P d (side x) parts) e h.0)
parts_of_pair P side (r ∷ ss) (terms.more d cs) parts distinct h s c (inl e) (inr k) = absurd (distinct.0 (subst (λ x. IsAmong (lefts_of ss) x) (sym (ap (λ x. x.left) e)) (pair_left ss cs s.left c k)))
parts_of_pair P side (r ∷ ss) (terms.more d cs) parts distinct h s c (inr i) (inl k) = absurd (distinct.0 (subst (λ x. IsAmong (lefts_of ss) x) (sym (ap (λ p. p.0) k)) (side_left ss s i)))
parts_of_pair P side (r ∷ ss) (terms.more d cs) parts distinct h s c (inr i) (inr k) = parts_of_pair P side ss cs parts distinct.1 h.1 s c i k

-- ---- a rest applied
pub binding_left : (bs : List Binding) (n : ℕ) (a : Term) → IsAmong bs (n, a) → IsAmong (left_sides bs) n
binding_left [] n a m = m
binding_left (b ∷ bs) n a m = elim m as (λ _. IsAmong (left_sides (b ∷ bs)) n) [ inl e ↦ inl (ap (λ p. p.0) e) | inr k ↦ inr (binding_left bs n a k) ]

image_other : (bs : List Binding) (n : ℕ) → (IsAmong (left_sides bs) n → ⊥) → image same_variable (substitution_of bs) (ind n) ≡ indicator n
image_other [] n other = refl
image_other (b ∷ bs) n other = elim (eqb_tells b.0 n) as (λ _. image same_variable (substitution_of (b ∷ bs)) (ind n) ≡ indicator n) [
  | inl h ↦ absurd (other (inl h.1))
  | inr h ↦ ap (λ t. cond t b.1 (image same_variable (substitution_of bs) (ind n))) h.0 ∙ image_other bs n (λ a. other (inr a))
]

image_bound : (bs : List Binding) (n : ℕ) (a : Term) → AreDistinct (left_sides bs) → IsAmong bs (n, a) → image same_variable (substitution_of bs) (ind n) ≡ a
image_bound [] n a distinct m = absurd m
image_bound (b ∷ bs) n a distinct (inl e) = ap (λ t. cond t b.1 (image same_variable (substitution_of bs) (ind n))) (eq-eqb b.0 n (ap (λ p. p.0) e)) ∙ ap (λ p. p.1) e
image_bound (b ∷ bs) n a distinct (inr m) = elim (eqb_tells b.0 n) as (λ _. image same_variable (substitution_of (b ∷ bs)) (ind n) ≡ a) [
  | inl h ↦ absurd (distinct.0 (subst (IsAmong (left_sides bs)) (sym h.1) (binding_left bs n a m)))
  | inr h ↦ ap (λ t. cond t b.1 (image same_variable (substitution_of bs) (ind n))) h.0 ∙ image_bound bs n a distinct.1 m
]

image_query : (bs : List Binding) (n : ℕ) → image same_variable (substitution_of bs) (query n) ≡ terms.var (query n)
image_query [] n = refl
image_query (b ∷ bs) n = image_query bs n

image_entry : (bs : List Binding) (n : ℕ) → image same_variable (substitution_of bs) (entry n) ≡ terms.var (entry n)
image_entry [] n = refl
image_entry (b ∷ bs) n = image_entry bs n

side_lefts : (side : Sides → Term) (ss : List Sides) → left_sides (side_pairs side ss) ≡ lefts_of ss
side_lefts side [] = refl
side_lefts side (s ∷ ss) = ap (λ l. s.left ∷ l) (side_lefts side ss)

lefts-append : (bs cs : List Binding) → left_sides (bs ++ cs) ≡ left_sides bs ++ left_sides cs
lefts-append bs cs = map-append (λ b. b.0) bs cs

-- the pairs of the common part give back one side
applied_common : (f : Variable → Term) (side : Sides → Term) (ss : List Sides) (cs : Terms) → terms.substitute_all f cs ≡ side_terms side ss → map (λ b. (b.0, terms.substitute f b.1)) (with_lefts ss cs) ≡ side_pairs side ss
applied_common f side [] cs e = refl
applied_common f side (s ∷ ss) terms.none e = absurd (by e) where
  by : terms.none ≡ terms.more (side s) (side_terms side ss) → ⊥
  by p = cc
applied_common f side (s ∷ ss) (terms.more c cs) e =
    let both = same_more (terms.substitute f c) (side s) (terms.substitute_all f cs) (side_terms side ss) e in
    let rest = applied_common f side ss cs both.1 in
    λ i. (s.left, both.0 i) ∷ rest i

-- ---- which pairs a rest keeps
pub occurs : (ns : List ℕ) (n : ℕ) → IsAmong ns n → list_any (λ m. m == n) ns ≡ true
occurs [] n a = absurd a
occurs (m ∷ ns) n (inl e) = ap (λ b. b || list_any (λ k. k == n) ns) (eq-eqb m n e)
occurs (m ∷ ns) n (inr a) = ap (λ b. (m == n) || b) (occurs ns n a) ∙ or_true (m == n) where
  or_true : (b : Bool) → (b || true) ≡ true
  or_true true = refl
  or_true false = refl

pub occurs_not : (ns : List ℕ) (n : ℕ) → (IsAmong ns n → ⊥) → list_any (λ m. m == n) ns ≡ false
occurs_not [] n h = refl
occurs_not (m ∷ ns) n h = elim (eqb_tells m n) as (λ _. list_any (λ k. k == n) (m ∷ ns) ≡ false) [
  | inl e ↦ absurd (h (inl e.1))
  | inr e ↦ ap (λ b. b || list_any (λ k. k == n) ns) e.0 ∙ occurs_not ns n (λ a. h (inr a))
]

abbrev unused : List ℕ → List Binding → List Binding
unused ns bs = filter (λ b. not (list_any (λ n. n == b.0) ns)) bs

all_unused : (ns : List ℕ) (bs : List Binding) → ((n : ℕ) → IsAmong (left_sides bs) n → IsAmong ns n → ⊥) → unused ns bs ≡ bs
all_unused ns [] h = refl
all_unused ns (b ∷ bs) h = ap (λ t. cond (not t) (b ∷ unused ns bs) (unused ns bs)) (occurs_not ns b.0 (h b.0 (inl refl))) ∙ ap (λ l. b ∷ l) (all_unused ns bs (λ n a. h n (inr a)))

none_unused : (ns : List ℕ) (bs : List Binding) → ((n : ℕ) → IsAmong (left_sides bs) n → IsAmong ns n) → unused ns bs ≡ []
none_unused ns [] h = refl
none_unused ns (b ∷ bs) h = ap (λ t. cond (not t) (b ∷ unused ns bs) (unused ns bs)) (occurs ns b.0 (h b.0 (inl refl))) ∙ none_unused ns bs (λ n a. h n (inr a))

fresh_is : (base : ℕ) (ns : List ℕ) (n : ℕ) → IsAmong (fresh_among base ns) n → (base ≤ n) × IsAmong ns n
fresh_is base [] n a = absurd a
fresh_is base (m ∷ ns) n a = elim (leb_tells base m) as (λ _. (base ≤ n) × IsAmong (m ∷ ns) n) [
  | inl h ↦ first h.1 (subst (λ t. IsAmong (cond t (m ∷ fresh_among base ns) (fresh_among base ns)) n) h.0 a) (fresh_is base ns n)
  | inr h ↦ (let rest = fresh_is base ns n (subst (λ t. IsAmong (cond t (m ∷ fresh_among base ns) (fresh_among base ns)) n) h.0 a) in (rest.0, inr rest.1))
] where
  first : base ≤ m → IsAmong (m ∷ fresh_among base ns) n → (IsAmong (fresh_among base ns) n → (base ≤ n) × IsAmong ns n) → (base ≤ n) × IsAmong (m ∷ ns) n
  first high (inl e) rest = (subst (λ k. base ≤ k) e high, inl e)
  first high (inr b) rest = ((rest b).0, inr (rest b).1)

distinct_fresh : (base : ℕ) (ns : List ℕ) → AreDistinct ns → AreDistinct (fresh_among base ns)
distinct_fresh base [] h = h
distinct_fresh base (n ∷ ns) h = by (nat_le base n) (distinct_fresh base ns h.1) where
  by : (b : Bool) → AreDistinct (fresh_among base ns) → AreDistinct (cond b (n ∷ fresh_among base ns) (fresh_among base ns))
  by true rest = ((λ a. h.0 (fresh_is base ns n a).1), rest)
  by false rest = rest

-- ---- one rest
-- what is known of the sides, the common part's terms and one side's parts
record Known (P : ℕ → Type 0) (side : Sides → Term) (ss : List Sides) (cs : Terms) (olds inds cut : List ℕ) (parts : List Binding) : Type 0 where
  sides : AreSides P olds cs (side_terms side (agreeing ss)) parts
  lefts : AreDistinct (lefts_of ss)
  olds_apart : (n : ℕ) → IsAmong olds n → IsAmong (lefts_of ss) n → ⊥
  inds_apart : (n : ℕ) → IsAmong inds n → IsAmong (lefts_of ss) n → ⊥
  inds_are : right_indicators (with_lefts (agreeing ss) cs) ≡ inds
  order : left_sides parts ≡ cut
  cut_is : (n : ℕ) → IsAmong cut n → P n × IsAmong inds n
  distinct : AreDistinct cut

abbrev pub test : Sides → Bool
test s = same_head s.node s.new

abbrev rest_of : (Sides → Term) → List Sides → List Binding → List Binding
rest_of side ss parts = side_pairs side (differing ss) ++ parts

differing_left : (ss : List Sides) (n : ℕ) → IsAmong (lefts_of (differing ss)) n → IsAmong (lefts_of ss) n
differing_left ss n a = fewer_lefts (λ s. not (test s)) ss n a

rest_lefts : (side : Sides → Term) (ss : List Sides) (parts : List Binding) (cut : List ℕ) → left_sides parts ≡ cut → left_sides (rest_of side ss parts) ≡ lefts_of (differing ss) ++ cut
rest_lefts side ss parts cut e = lefts-append (side_pairs side (differing ss)) parts ∙ (λ i. side_lefts side (differing ss) i ++ e i)

module _ (P : ℕ → Type 0) (side : Sides → Term) (ss : List Sides) (cs : Terms) (olds inds cut : List ℕ) (parts : List Binding) (k : Known P side ss cs olds inds cut parts) where
  rest_distinct : AreDistinct (left_sides (rest_of side ss parts))
  rest_distinct =
      subst AreDistinct (sym (rest_lefts side ss parts cut k.order))
      (distinct_append (lefts_of (differing ss)) cut (distinct_lefts (λ s. not (test s)) ss k.lefts) k.distinct (λ n a b. k.inds_apart n (k.cut_is n b).1 (differing_left ss n a)))

  rest_fills : Fills P olds parts (image same_variable (substitution_of (rest_of side ss parts)))
  rest_fills = record {
    queries = image_query (rest_of side ss parts);
    entries = image_entry (rest_of side ss parts);
    bound = λ n a m. image_bound (rest_of side ss parts) n a rest_distinct (among_back (side_pairs side (differing ss)) parts (n, a) m);
    stays = λ n low old. image_other (rest_of side ss parts) n (λ a. outside n low old (among_parts (lefts_of (differing ss)) cut n (subst (λ l. IsAmong l n) (rest_lefts side ss parts cut k.order) a)));
  } where
    outside : (n : ℕ) → (P n → ⊥) → IsAmong olds n → IsAmong (lefts_of (differing ss)) n ⊎ IsAmong cut n → ⊥
    outside n low old (inl a) = k.olds_apart n old (differing_left ss n a)
    outside n low old (inr a) = low (k.cut_is n a).0

  rest_composed : composed (with_lefts (agreeing ss) cs) (rest_of side ss parts) ≡ both test side ss
  rest_composed =
      λ i.
      applied_common (image same_variable (substitution_of (rest_of side ss parts))) side (agreeing ss) cs (k.sides.gives (image same_variable (substitution_of (rest_of side ss parts))) rest_fills) i
      ++ left i where
        ns : List ℕ
        ns = right_indicators (with_lefts (agreeing ss) cs)

        used : (n : ℕ) → IsAmong (left_sides parts) n → IsAmong ns n
        used n a = subst (λ l. IsAmong l n) (sym k.inds_are) (k.cut_is n (subst (λ l. IsAmong l n) k.order a)).1

        whole : (n : ℕ) → IsAmong (left_sides (side_pairs side (differing ss))) n → IsAmong ns n → ⊥
        whole n a b = k.inds_apart n (subst (λ l. IsAmong l n) k.inds_are b) (differing_left ss n (subst (λ l. IsAmong l n) (side_lefts side (differing ss)) a))

        left : unused ns (rest_of side ss parts) ≡ side_pairs side (differing ss)
        left =
            filter-append (λ b. not (list_any (λ n. n == b.0) ns)) (side_pairs side (differing ss)) parts
            ∙ (λ i. all_unused ns (side_pairs side (differing ss)) whole i ++ none_unused ns parts used i)
            ∙ append-nil (side_pairs side (differing ss))

  rest_pairs : (list : List Binding) → side_pairs side ss ≡ list → HaveSamePairs (composed (with_lefts (agreeing ss) cs) (rest_of side ss parts)) list
  rest_pairs list e = λ b. subst (λ l. IsAmong l b ↔ IsAmong list b) (sym rest_composed) (subst (λ l. IsAmong (both test side ss) b ↔ IsAmong l b) e (pairs_split test side ss b))

  rest_is : IsRest side ss (with_lefts (agreeing ss) cs) cut (rest_of side ss parts)
  rest_is = record {
    parts = parts;
    rest_is = refl;
    order = k.order;
    each = λ s c a b path n t m p q. parts_of_pair P side (agreeing ss) cs parts (distinct_lefts test ss k.lefts) k.sides.has s c a b path n t (k.cut_is n m).0 p q;
  }

-- ---- the whole
pub sound_sides : (node new : List Binding) → AllByRecursion (λ b. IsSound b.1) node → AllByRecursion (λ b. IsSound b.1) new → AllByRecursion (λ s. IsSound s.node × IsSound s.new) (sides node new)
sound_sides [] new p q = tt
sound_sides (b ∷ node) [] p q = tt
sound_sides (b ∷ node) (c ∷ new) p q = ((p.0, q.0), sound_sides node new p.1 q.1)

pub sound_rows : (ss : List Sides) → AllByRecursion (λ s. IsSound s.node × IsSound s.new) ss → AreSound (node_terms ss) × AreSound (new_terms ss)
sound_rows [] h = (tt, tt)
sound_rows (s ∷ ss) h = let rest = sound_rows ss h.1 in ((h.0.0, rest.0), (h.0.1, rest.1))

pub same_count : (ss : List Sides) → terms.count (node_terms ss) ≡ terms.count (new_terms ss)
same_count [] = refl
same_count (s ∷ ss) = ap (λ n. 1 + n) (same_count ss)

-- the common part and both rests of two lists are the pieces of their right sides, and none of them
-- has a left side twice
pub record IsCut (next : ℕ) (node new : List Binding) : Type 0 where
  pub splits : Splits next node new (common_of next (sides node new)) (node_rest next (sides node new)) (new_rest next (sides node new))
  pub common_distinct : AreDistinct (left_sides (common_of next (sides node new)))
  pub node_distinct : AreDistinct (left_sides (node_rest next (sides node new)))
  pub new_distinct : AreDistinct (left_sides (new_rest next (sides node new)))

pub is_cut : (next : ℕ) (node new : List Binding) → MaySplit next node new → AllByRecursion (λ b. IsSound b.1) node → AllByRecursion (λ b. IsSound b.1) new → IsCut next node new
is_cut next node new may sound sound' =
    let ss = sides node new in
    let of = are_of node new may.same_lefts in
    let rows = sound_rows (agreeing ss) (fewer (λ s. IsSound s.node × IsSound s.new) test ss (sound_sides node new sound sound')) in
    let olds : (n : ℕ) → IsAmong (indicators_all (node_terms (agreeing ss))) n → IsAmong (right_indicators node) n =
    λ n a. subst (λ l. IsAmong l n) of.inds (fewer_inds test ss n a) in
    let may_cut : MayCut next (indicators_all (node_terms (agreeing ss))) = record {
      low = λ n a. all_at (λ m. m < next) (right_indicators node) n may.opens_low (olds n a);
      distinct = distinct_inds test ss (subst AreDistinct (sym of.inds) may.opens_once);
    } in
    let ps = are_pieces next next (node_terms (agreeing ss)) (new_terms (agreeing ss)) (omega arith) may_cut (same_count (agreeing ss)) rows.0 rows.1 in
    let inds = common_inds next (agreeing ss) (cut next ss).common ps.common in
    let lefts : (n : ℕ) → IsAmong (lefts_of ss) n → IsAmong (left_sides node) n = λ n a. subst (λ l. IsAmong l n) of.lefts a in
    let olds_apart : (n : ℕ) → IsAmong (indicators_all (node_terms (agreeing ss))) n → IsAmong (lefts_of ss) n → ⊥ =
    λ n a b. all_at (λ m. IsAmong (left_sides node) m → ⊥) (right_indicators node) n may.opens_others (olds n a) (lefts n b) in
    let inds_apart : (n : ℕ) → IsAmong (indicators_all (cut next ss).common) n → IsAmong (lefts_of ss) n → ⊥ =
    λ n a b. elim (ps.numbered.from_node n a) as (λ _. ⊥) [
      | inl h ↦ olds_apart n h.1 b
      | inr h ↦ omega (arith, h.0, all_at (λ m. m < next) (left_sides node) n may.low (lefts n b))
    ] in
    let distinct : AreDistinct (lefts_of ss) = subst AreDistinct (sym of.lefts) may.distinct in
    let node_known : Known (IsFrom next) (λ s. s.node) ss (cut next ss).common (indicators_all (node_terms (agreeing ss))) (indicators_all (cut next ss).common) (fresh_among next (indicators_all (cut next ss).common)) (cut next ss).node = record {
      sides = ps.node_side;
      lefts = distinct;
      olds_apart = olds_apart;
      inds_apart = inds_apart;
      inds_are = inds;
      order = ps.numbered.node_lefts;
      cut_is = λ n a. fresh_is next (indicators_all (cut next ss).common) n a;
      distinct = distinct_fresh next (indicators_all (cut next ss).common) ps.numbered.distinct;
    } in
    let new_known : Known IsNew (λ s. s.new) ss (cut next ss).common (indicators_all (node_terms (agreeing ss))) (indicators_all (cut next ss).common) (indicators_all (cut next ss).common) (cut next ss).new = record {
      sides = ps.new_side;
      lefts = distinct;
      olds_apart = olds_apart;
      inds_apart = inds_apart;
      inds_are = inds;
      order = ps.numbered.new_lefts;
      cut_is = λ n a. (tt, a);
      distinct = ps.numbered.distinct;
    } in
    record {
      splits = record {
        common_part = record {
          terms = common_terms next (agreeing ss) (cut next ss).common ps.common;
          fresh = (ps.numbered.numbers.0, ap (fresh_among next) inds ∙ sym ps.numbered.node_lefts ∙ ps.numbered.numbers.2);
          once = subst AreDistinct (sym inds) ps.numbered.distinct;
        };
        node_part =
            subst (λ l. IsRest (λ s. s.node) ss (common_of next ss) (fresh_among next l) (node_rest next ss)) (sym inds)
            (rest_is (IsFrom next) (λ s. s.node) ss (cut next ss).common (indicators_all (node_terms (agreeing ss))) (indicators_all (cut next ss).common) (fresh_among next (indicators_all (cut next ss).common)) (cut next ss).node node_known);
        new_part =
            subst (λ l. IsRest (λ s. s.new) ss (common_of next ss) l (new_rest next ss)) (sym inds)
            (rest_is IsNew (λ s. s.new) ss (cut next ss).common (indicators_all (node_terms (agreeing ss))) (indicators_all (cut next ss).common) (indicators_all (cut next ss).common) (cut next ss).new new_known);
        gives_node = rest_pairs (IsFrom next) (λ s. s.node) ss (cut next ss).common (indicators_all (node_terms (agreeing ss))) (indicators_all (cut next ss).common) (fresh_among next (indicators_all (cut next ss).common)) (cut next ss).node node_known node of.nodes;
        gives_new = rest_pairs IsNew (λ s. s.new) ss (cut next ss).common (indicators_all (node_terms (agreeing ss))) (indicators_all (cut next ss).common) (indicators_all (cut next ss).common) (cut next ss).new new_known new of.news;
      };
      common_distinct = subst AreDistinct (sym (pair_lefts next (agreeing ss) (cut next ss).common ps.common)) (distinct_lefts test ss distinct);
      node_distinct = rest_distinct (IsFrom next) (λ s. s.node) ss (cut next ss).common (indicators_all (node_terms (agreeing ss))) (indicators_all (cut next ss).common) (fresh_among next (indicators_all (cut next ss).common)) (cut next ss).node node_known;
      new_distinct = rest_distinct IsNew (λ s. s.new) ss (cut next ss).common (indicators_all (node_terms (agreeing ss))) (indicators_all (cut next ss).common) (indicators_all (cut next ss).common) (cut next ss).new new_known;
    }

pub split_is : (next : ℕ) (node new : List Binding) → MaySplit next node new → AllByRecursion (λ b. IsSound b.1) node → AllByRecursion (λ b. IsSound b.1) new → Splits next node new (common_of next (sides node new)) (node_rest next (sides node new)) (new_rest next (sides node new))
split_is next node new may sound sound' = (is_cut next node new may sound sound').splits
