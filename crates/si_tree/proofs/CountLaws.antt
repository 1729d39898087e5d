-- Counts of nodes, where one key gets another node.
use Rattle.std.proofs.Common.{◌≡◌, ◌≢◌, ℕ, zero, suc, ◌+◌, ◌≤◌, List, [], ◌∷◌, map, Option, None, Some, get_or, refl, sym, ◌∙◌, ap, arith, cond}
use Rattle.std.proofs.lemmas.List.Sums.{sum_by-cons}
use Rattle.std.specs.Prelude.{count_by, is_some}
use Rattle.si_legal.specs.Trees.{Content, Node}
use Rattle.si_legal.specs.Counts.{counted}
use Rattle.si_tree.specs.Nodes.{TreeNode}
use Rattle.si_tree.specs.KeptNodes.{node_in_slot}

suc_same : {m n : ℕ} → suc m ≡ suc n → m ≡ n
suc_same e = omega (arith, e)

module _ {R : Type 0} (count : Content → ℕ) where
  -- what one slot counts for
  abbrev pub weight : Option (Node R) → ℕ
  weight None = 0
  weight (Some node) = count node.content

  counted_more : (x : Option (Node R)) (xs : List (Option (Node R))) → counted count (x ∷ xs) ≡ weight x + counted count xs
  counted_more None xs = omega arith
  counted_more (Some node) xs = refl

  -- the same at each key
  pub counted_same : (xs ys : List (Option (Node R))) → ((key : ℕ) → get_or ys key None ≡ get_or xs key None) → counted count ys ≡ counted count xs
  counted_same [] [] same = refl
  counted_same [] (y ∷ ys) same =
      counted_more y ys ∙ ap (λ w. weight w + counted count ys) (same 0) ∙ ap (λ n. 0 + n) (counted_same [] ys (λ key. same (suc key)))
  counted_same (x ∷ xs) [] same =
      let rest : 0 ≡ counted count xs = counted_same xs [] (λ key. same (suc key)) in
      let here : 0 ≡ weight x = ap weight (same 0) in
      omega (arith, rest, here, counted_more x xs)
  counted_same (x ∷ xs) (y ∷ ys) same =
      let rest : counted count ys ≡ counted count xs = counted_same xs ys (λ key. same (suc key)) in
      let here : weight y ≡ weight x = ap weight (same 0) in
      omega (arith, rest, here, counted_more x xs, counted_more y ys)

  -- another node at one key
  pub counted_changed : (xs ys : List (Option (Node R))) (key : ℕ) → ((other : ℕ) → other ≢ key → get_or ys other None ≡ get_or xs other None) → counted count ys + weight (get_or xs key None) ≡ counted count xs + weight (get_or ys key None)
  counted_changed [] [] key others = refl
  counted_changed [] (y ∷ ys) zero others =
      let rest : counted count ys ≡ 0 = counted_same [] ys (λ key. others (suc key) (λ e. cc)) in
      omega (arith, rest, counted_more y ys)
  counted_changed [] (y ∷ ys) (suc key) others =
      let rest : counted count ys + 0 ≡ 0 + weight (get_or ys key None) = counted_changed [] ys key (λ other apart. others (suc other) (λ e. apart (suc_same e))) in
      let here : weight y ≡ 0 = ap weight (others 0 (λ e. cc)) in
      omega (arith, rest, here, counted_more y ys)
  counted_changed (x ∷ xs) [] zero others =
      let rest : 0 ≡ counted count xs = counted_same xs [] (λ key. others (suc key) (λ e. cc)) in
      omega (arith, rest, counted_more x xs)
  counted_changed (x ∷ xs) [] (suc key) others =
      let rest : 0 + weight (get_or xs key None) ≡ counted count xs + 0 = counted_changed xs [] key (λ other apart. others (suc other) (λ e. apart (suc_same e))) in
      let here : 0 ≡ weight x = ap weight (others 0 (λ e. cc)) in
      omega (arith, rest, here, counted_more x xs)
  counted_changed (x ∷ xs) (y ∷ ys) zero others =
      let rest : counted count ys ≡ counted count xs = counted_same xs ys (λ key. others (suc key) (λ e. cc)) in
      omega (arith, rest, counted_more x xs, counted_more y ys)
  counted_changed (x ∷ xs) (y ∷ ys) (suc key) others =
      let rest : counted count ys + weight (get_or xs key None) ≡ counted count xs + weight (get_or ys key None) = counted_changed xs ys key (λ other apart. others (suc other) (λ e. apart (suc_same e))) in
      let here : weight y ≡ weight x = ap weight (others 0 (λ e. cc)) in
      omega (arith, rest, here, counted_more x xs, counted_more y ys)

-- each value in a slot is a node
pub nodes_counted : (slots : List (Option TreeNode)) → counted (λ content. 1) (map node_in_slot slots) ≡ count_by is_some slots
nodes_counted [] = refl
nodes_counted (None ∷ slots) = nodes_counted slots
nodes_counted (Some n ∷ slots) = ap (λ k. 1 + k) (nodes_counted slots) ∙ sym (sum_by-cons (λ slot. cond (is_some slot) 1 0) (Some n) slots)

-- one slot counts for no more than all
pub counted_least : {R : Type 0} (count : Content → ℕ) (xs : List (Option (Node R))) (key : ℕ) → weight count (get_or xs key None) ≤ counted count xs
counted_least count [] key = omega arith
counted_least count (x ∷ xs) zero = omega (arith, counted_more count x xs)
counted_least count (x ∷ xs) (suc key) = omega (arith, counted_least count xs key, counted_more count x xs)

-- what counts for no more in each node counts for no more in all
pub counted_below : {R : Type 0} (count more : Content → ℕ) (xs : List (Option (Node R))) → ((c : Content) → count c ≤ more c) → counted count xs ≤ counted more xs
counted_below count more [] each = omega arith
counted_below count more (None ∷ xs) each = counted_below count more xs each
counted_below count more (Some node ∷ xs) each = omega (arith, each node.content, counted_below count more xs each)
