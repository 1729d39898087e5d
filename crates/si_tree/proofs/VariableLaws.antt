-- The variables of a new leaf, and the bound on those of the tree.
use Rattle.std.proofs.Common.{◌≡◌, ℕ, zero, suc, ◌+◌, ◌<◌, ◌≤◌, ◌⊎◌, inl, inr, min, max, List, [], ◌∷◌, ◌++◌, length, Option, refl, sym, ◌∙◌, ap, subst, arith}
use Rattle.std.proofs.lemmas.Bool.{cases_lt}
use Rattle.std.specs.List.{AllByRecursion}
use Rattle.si_defs.specs.Terms as terms
use Rattle.si_defs.specs.Substitutions.{IsAmong, AreDistinct}
use Rattle.si_defs.specs.declared.TheConstants.{MOST_OCCURRENCES}
use Rattle.si_defs.proofs.ListLaws.{all_at, among_front, among_back, among_parts}
use Rattle.si_flat.specs.declared.Cell.{Cell}
use Rattle.si_flat.specs.Cells.{Variable, query, entry, ind, same_variable, Term, Terms, cells_of, cells_of_all}
use Rattle.si_flat.specs.Flattened.{counted_from}
use Rattle.si_flat.specs.Rows.{CellPair, left_sides, AreWhole}
use Rattle.si_flat.proofs.FirstPlaces.{among_firsts, firsts_among}
use Rattle.si_flat.proofs.VariableLaws.{variable_is}
use Rattle.si_legal.specs.Bindings.{Binding, indicators, applied, BindsExactly}
use Rattle.si_legal.specs.Trees.{Tree, Path, IsPath, path_term}
use Rattle.si_legal.specs.Legal.{IsLegal, IsWithin, IsOpenBelow, IsLeafTerm}
use Rattle.si_changes.specs.Nodes.{RoomFor}
use Rattle.si_changes.proofs.NewLeaves.{counted, counted_long, firsts_few, variables_few}
use Rattle.si_changes.proofs.ComposeLaws.{applied_from, right_applied}
use Rattle.si_legal.proofs.SplitLaws.{binding_left}
use Rattle.si_tree.specs.Decoding.{term_of, bindings_of}
use Rattle.si_tree.specs.Rights.{beyond_all, beyond_rights}
use Rattle.si_tree.proofs.DecodingLaws.{term_read}

abbrev entry_number : Variable → ℕ
entry_number (query k) = 0
entry_number (entry k) = k
entry_number (ind k) = 0

same_entry : (m n : ℕ) → entry m ≡ entry n → m ≡ n
same_entry m n e = ap entry_number e

-- ---- the variables of a leaf's term
pub leaf_variable : (t : Term) (is : IsLeafTerm t) (x : Variable) → IsAmong (terms.variables t) x → (m : ℕ) × (x ≡ entry m) × (m < is.numbered.0)
leaf_variable t is x a =
    let found = counted 0 is.numbered.0 x (subst (λ l. IsAmong l x) is.numbered.1 (among_firsts same_variable variable_is (terms.variables t) x a)) in
    (found.0, found.1, omega (arith, found.2))

last_counted : (k n : ℕ) → IsAmong (counted_from entry k (suc n)) (entry (k + n))
last_counted k zero = inl (ap entry (omega arith))
last_counted k (suc n) = inr (subst (λ m. IsAmong (counted_from entry (suc k) (suc n)) (entry m)) (omega arith) (last_counted (suc k) n))

last_variable : (t : Term) (is : IsLeafTerm t) (n : ℕ) → is.numbered.0 ≡ suc n → IsAmong (terms.variables t) (entry n)
last_variable t is n e =
    firsts_among same_variable (terms.variables t) (entry n)
    (subst (λ l. IsAmong l (entry n)) (sym (is.numbered.1 ∙ ap (counted_from entry 0) e))
    (subst (λ m. IsAmong (counted_from entry 0 (suc n)) (entry m)) (omega arith) (last_counted 0 n)))

few_numbers : (t : Term) (is : IsLeafTerm t) → is.numbered.0 ≤ MOST_OCCURRENCES
few_numbers t is =
    omega (arith, ap length is.numbered.1 ∙ counted_long 0 is.numbered.0, firsts_few (terms.variables t), variables_few t, is.size)

-- ---- those of a path
pub path_within : (tree : Tree Term) (from : Option ℕ) (p : Path) (x : Variable) → IsLegal tree → IsPath tree from p → IsAmong (terms.variables (path_term p)) x → IsWithin tree x
path_within tree from [] x legal reached (inl e) = subst (IsWithin tree) e legal.zero_known
path_within tree from [] x legal reached (inr a) = absurd a
path_within tree from (step ∷ above) x legal reached a =
    let node = legal.nodes step.0 step.1 reached.1 in
    elim (applied_from step.1.bindings (path_term above) x node.binds.distinct a) as (λ _. IsWithin tree x) [
      | inl b ↦ path_within tree step.1.parent above x legal reached.2 b
      | inr h ↦ all_at (IsWithin tree) (terms.variables h.0.1) x (all_at (λ b. AllByRecursion (IsWithin tree) (terms.variables b.1)) step.1.bindings h.0 node.binds.within h.1) h.2
    ]

-- ---- the bound that the code reads
beyond_append : (xs ys : List Cell) → beyond_all (xs ++ ys) ≡ max (beyond_all xs) (beyond_all ys)
beyond_append [] ys = omega arith
beyond_append (c ∷ xs) ys = omega (arith, beyond_append xs ys)

mutual
  beyond_term : (t : Term) (n : ℕ) → IsAmong (terms.variables t) (entry n) → min (n + 1) 4294967295 ≤ beyond_all (cells_of t)
  beyond_term (terms.var x) n (inl e) = subst (λ y. min (n + 1) 4294967295 ≤ beyond_all (cells_of (terms.var y))) (sym e) (omega arith)
  beyond_term (terms.var x) n (inr a) = absurd a
  beyond_term (terms.app s ts) n a = omega (arith, beyond_terms ts n a)

  beyond_terms : (ts : Terms) (n : ℕ) → IsAmong (terms.variables_of_all ts) (entry n) → min (n + 1) 4294967295 ≤ beyond_all (cells_of_all ts)
  beyond_terms terms.none n a = absurd a
  beyond_terms (terms.more t ts) n a =
      elim (among_parts (terms.variables t) (terms.variables_of_all ts) (entry n) a) as (λ _. min (n + 1) 4294967295 ≤ beyond_all (cells_of_all (terms.more t ts))) [
        | inl b ↦ omega (arith, beyond_append (cells_of t) (cells_of_all ts), beyond_term t n b)
        | inr b ↦ omega (arith, beyond_append (cells_of t) (cells_of_all ts), beyond_terms ts n b)
      ]

mutual
  term_below : (t : Term) (most : ℕ) → ((n : ℕ) → IsAmong (terms.variables t) (entry n) → n < most) → beyond_all (cells_of t) ≤ most
  term_below (terms.var (query n)) most each = omega arith
  term_below (terms.var (entry n)) most each = omega (arith, each n (inl refl))
  term_below (terms.var (ind n)) most each = omega arith
  term_below (terms.app s ts) most each = omega (arith, terms_below ts most each)

  terms_below : (ts : Terms) (most : ℕ) → ((n : ℕ) → IsAmong (terms.variables_of_all ts) (entry n) → n < most) → beyond_all (cells_of_all ts) ≤ most
  terms_below terms.none most each = omega arith
  terms_below (terms.more t ts) most each =
      omega (
        arith,
        beyond_append (cells_of t) (cells_of_all ts),
        term_below t most (λ n a. each n (among_front (terms.variables t) (terms.variables_of_all ts) (entry n) a)),
        terms_below ts most (λ n a. each n (among_back (terms.variables t) (terms.variables_of_all ts) (entry n) a)),
      )

rights_beyond : (cells : List CellPair) (b : Binding) (n : ℕ) → AreWhole cells → IsAmong (bindings_of cells) b → IsAmong (terms.variables b.1) (entry n) → min (n + 1) 4294967295 ≤ beyond_rights cells
rights_beyond [] b n whole a v = absurd a
rights_beyond (c ∷ cells) b n whole (inl e) v =
    let is : c.1 ≡ cells_of b.1 = whole.0.1.cells_are ∙ ap cells_of (sym (term_read c.1 whole.0.0 whole.0.1) ∙ ap (λ d. d.1) e) in
    omega (arith, beyond_term b.1 n v, ap beyond_all is)
rights_beyond (c ∷ cells) b n whole (inr a) v = omega (arith, rights_beyond cells b n whole.1 a v)

rights_below : (cells : List CellPair) (most : ℕ) → AreWhole cells → ((b : Binding) (n : ℕ) → IsAmong (bindings_of cells) b → IsAmong (terms.variables b.1) (entry n) → n < most) → beyond_rights cells ≤ most
rights_below [] most whole each = omega arith
rights_below (c ∷ cells) most whole each =
    let t = whole.0.0 in
    let read : term_of c.1 ≡ t = term_read c.1 t whole.0.1 in
    let first : beyond_all (cells_of t) ≤ most = term_below t most (λ n a. each (c.0, term_of c.1) n (inl refl) (subst (λ u. IsAmong (terms.variables u) (entry n)) (sym read) a)) in
    omega (arith, first, ap beyond_all whole.0.1.cells_are, rights_below cells most whole.1 (λ b n a v. each b n (inr a) v))

-- ---- the bound of the tree
-- the new leaf's term is this one with the bindings that these cells stand for
pub record IsRoomy (old : Tree Term) (upper : Term) (cells : List CellPair) : Type 0 where
  pub whole : AreWhole cells
  pub distinct : AreDistinct (left_sides (bindings_of cells))
  pub lefts : (n : ℕ) → IsAmong (left_sides (bindings_of cells)) n → IsAmong (indicators upper) n
  pub low : (n : ℕ) → IsAmong (terms.variables upper) (entry n) → n < old.vars

pub room_of : (old new : Tree Term) (upper : Term) (cells : List CellPair) (t : Term) → IsRoomy old upper cells → IsLeafTerm t → t ≡ applied (bindings_of cells) upper → new.vars ≡ max old.vars (beyond_rights cells) → RoomFor old new t
room_of old new upper cells t roomy is t_is vars = by is.numbered.0 refl where
  long : length (terms.firsts same_variable (terms.variables t)) ≡ is.numbered.0
  long = ap length is.numbered.1 ∙ counted_long 0 is.numbered.0

  right : (b : Binding) (n : ℕ) → IsAmong (bindings_of cells) b → IsAmong (terms.variables b.1) (entry n) → n < is.numbered.0
  right b n a v =
      let there = right_applied (bindings_of cells) upper b (entry n) roomy.distinct a (roomy.lefts b.0 (binding_left (bindings_of cells) b.0 b.1 a)) v in
      let found = leaf_variable t is (entry n) (subst (λ u. IsAmong (terms.variables u) (entry n)) (sym t_is) there) in
      subst (λ k. k < is.numbered.0) (sym (same_entry n found.0 found.1)) found.2

  below : beyond_rights cells ≤ is.numbered.0
  below = rights_below cells is.numbered.0 roomy.whole right

  above_all : (n : ℕ) → is.numbered.0 ≡ suc n → is.numbered.0 ≤ max old.vars (beyond_rights cells)
  above_all n e =
      elim (applied_from (bindings_of cells) upper (entry n) roomy.distinct (subst (λ u. IsAmong (terms.variables u) (entry n)) t_is (last_variable t is n e))) as (λ _. is.numbered.0 ≤ max old.vars (beyond_rights cells)) [
        | inl a ↦ omega (arith, roomy.low n a, e)
        | inr h ↦ omega (arith, rights_beyond cells h.0 n roomy.whole h.1 h.2, few_numbers t is, e)
      ]

  ends : is.numbered.0 ≤ max old.vars (beyond_rights cells) → RoomFor old new t
  ends most = (
    omega (arith, vars),
    omega (arith, vars, long, most),
    elim (cases_lt old.vars (beyond_rights cells)) as (λ _. (new.vars ≡ old.vars) ⊎ (new.vars ≡ length (terms.firsts same_variable (terms.variables t)))) [
      | inl lt ↦ inr (omega (arith, vars, lt, long, most, below))
      | inr le ↦ inl (omega (arith, vars, le))
    ],
  )

  by : (n : ℕ) → is.numbered.0 ≡ n → RoomFor old new t
  by zero e = ends (omega (arith, e))
  by (suc n) e = ends (above_all n e)

pub room_for : (old new : Tree Term) (from : Option ℕ) (above : Path) (cells : List CellPair) (t : Term) → IsLegal old → IsPath old from above → AreWhole cells → BindsExactly (IsOpenBelow above) (bindings_of cells) → IsLeafTerm t → t ≡ applied (bindings_of cells) (path_term above) → new.vars ≡ max old.vars (beyond_rights cells) → RoomFor old new t
room_for old new from above cells t legal reached whole binds is t_is vars =
    room_of old new (path_term above) cells t
    (record {
      whole = whole;
      distinct = binds.0;
      lefts = λ n a. (binds.1 n).0 a;
      low = λ n a. path_within old from above (entry n) legal reached a;
    }) is t_is vars
