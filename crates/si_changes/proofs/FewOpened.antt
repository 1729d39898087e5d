-- No path of a legal tree opens more indicators than a leaf's term may have occurrences, and none
-- has a larger term.
use Rattle.std.proofs.Common.{◌≡◌, ◌⊎◌, inl, inr, ℕ, zero, suc, ◌+◌, ◌<◌, ◌≤◌, List, [], ◌∷◌, ◌++◌, length, Option, None, Some, map, slice_index_or, refl, ap, sym, ◌∙◌, subst, arith, length-append}
use Rattle.std.proofs.lemmas.Bool.Decides.{eqb_tells}
use Rattle.std.proofs.lemmas.List.{length-map}
use Rattle.si_defs.specs.Terms as terms
use Rattle.si_defs.specs.Substitutions.{image, IsAmong, AreDistinct}
use Rattle.si_defs.specs.declared.TheConstants.{MOST_OCCURRENCES}
use Rattle.si_defs.proofs.ListLaws.{all_at, among_front, among_back, among_parts}
use Rattle.si_defs.proofs.TermLaws.{size_some}
use Rattle.si_flat.specs.Cells.{query, entry, ind, same_variable, Term, Terms}
use Rattle.si_flat.specs.Rows.{left_sides}
use Rattle.si_legal.specs.declared.Posting.{Posting}
use Rattle.si_legal.specs.Bindings.{Binding, indicator, IsIndicator, indicators, right_indicators, substitution_of, applied}
use Rattle.si_legal.specs.Generalizations.{consecutive}
use Rattle.si_legal.specs.Renumbering.{IsRenumbered}
use Rattle.si_legal.specs.Trees.{Content, inner, leaf, Node, Tree, HasNode, Path, IsPath, PassesBy, path_term, opened}
use Rattle.si_legal.specs.Legal.{IsLegalContent, IsLegal}
use Rattle.si_legal.proofs.PathLaws.{one_node, one_path}
use Rattle.si_legal.proofs.Splitting.{indicators_all, indicators-more}
use Rattle.si_changes.proofs.Borrowed.{bound_left}
use Rattle.si_changes.proofs.ComposeLaws.{bound}
use Rattle.si_changes.proofs.DivideLaws.{consecutive_low, length-consecutive}
use Rattle.si_changes.proofs.Frames.{legal_nodes}
use Rattle.si_changes.proofs.HeadLaws.{image_bound, image_keeps, indicator_variable}
use Rattle.si_changes.proofs.OpenLaws.{bound_on, open_exactly, left_open, no_return, path_opens_once}
use Rattle.si_changes.proofs.Permuted.{among_or_not}
use Rattle.si_changes.proofs.RenumberLaws.{leaf_closed, renumbered_legal, renumbered_path, came}

-- ---- members of lists
pub one_gone : (ys : List ℕ) (x : ℕ) → IsAmong ys x → (before : List ℕ) × (after : List ℕ) × (ys ≡ before ++ x ∷ after)
one_gone [] x h = absurd h
one_gone (y ∷ ys) x (inl e) = ([], ys, ap (λ z. z ∷ ys) e)
one_gone (y ∷ ys) x (inr h) = let rest = one_gone ys x h in (y ∷ rest.0, rest.1, ap (λ l. y ∷ l) rest.2)

-- the others are among the rest
pub others_left : (xs ys : List ℕ) (x : ℕ) (before after : List ℕ) → ys ≡ before ++ x ∷ after → (IsAmong xs x → ⊥) → ((z : ℕ) → IsAmong xs z → IsAmong ys z) → (z : ℕ) → IsAmong xs z → IsAmong (before ++ after) z
others_left xs ys x before after e apart within z h = by (among_parts before (x ∷ after) z (subst (λ l. IsAmong l z) e (within z h))) where
  by : IsAmong before z ⊎ IsAmong (x ∷ after) z → IsAmong (before ++ after) z
  by (inl k) = among_front before after z k
  by (inr (inl f)) = absurd (apart (subst (IsAmong xs) (sym f) h))
  by (inr (inr k)) = among_back before after z k

-- distinct members of a list are no more than that has
pub few_members : (xs ys : List ℕ) → AreDistinct xs → ((x : ℕ) → IsAmong xs x → IsAmong ys x) → length xs ≤ length ys
few_members [] ys distinct within = omega arith
few_members (x ∷ xs) ys distinct within =
    let part = one_gone ys x (within x (inl refl)) in
    let rest = few_members xs (part.0 ++ part.1) distinct.1 (others_left xs ys x part.0 part.1 part.2 distinct.0 (λ z h. within z (inr h))) in
    omega (arith, rest, ap length part.2, length-append part.0 (x ∷ part.1), length-append part.0 part.1)

all_below : (first count n : ℕ) → first ≤ n → n < first + count → IsAmong (consecutive first count) n
all_below first zero n high low = absurd (omega (arith, high, low))
all_below first (suc count) n high low = elim (eqb_tells first n) as (λ _. IsAmong (consecutive first (suc count)) n) [
  | inl h ↦ inl h.1
  | inr h ↦ inr (all_below (suc first) count n (omega (arith, high, h.1)) (omega (arith, low)))
]

-- distinct numbers below a bound are no more than that
pub few_below : (limit : ℕ) (ns : List ℕ) → AreDistinct ns → ((n : ℕ) → IsAmong ns n → n < limit) → length ns ≤ limit
few_below limit ns distinct below =
    let few = few_members ns (consecutive 0 limit) distinct (λ n a. all_below 0 limit n (omega arith) (omega (arith, below n a))) in
    omega (arith, few, length-consecutive 0 limit)

pub has_within : {X : Type 0} (xs : List (Option X)) (k : ℕ) (x : X) → slice_index_or xs k None ≡ Some x → k < length xs
has_within [] k x e = absurd (none e) where
  none : None ≡ Some x → ⊥
  none f = cc
has_within (y ∷ xs) zero x e = omega arith
has_within (y ∷ xs) (suc k) x e = omega (arith, has_within xs k x e)

-- ---- sums
abbrev pub total : (ℕ → ℕ) → List ℕ → ℕ
total f [] = 0
total f (n ∷ ns) = f n + total f ns

pub total-append : (f : ℕ → ℕ) (xs ys : List ℕ) → total f (xs ++ ys) ≡ total f xs + total f ys
total-append f [] ys = omega arith
total-append f (x ∷ xs) ys = omega (arith, total-append f xs ys)

total_least : (f : ℕ → ℕ) (xs ys : List ℕ) → AreDistinct xs → ((x : ℕ) → IsAmong xs x → IsAmong ys x) → ((x : ℕ) → IsAmong xs x → 1 ≤ f x) → length xs ≤ total f ys
total_least f [] ys distinct within some = omega arith
total_least f (x ∷ xs) ys distinct within some =
    let part = one_gone ys x (within x (inl refl)) in
    let rest = total_least f xs (part.0 ++ part.1) distinct.1 (others_left xs ys x part.0 part.1 part.2 distinct.0 (λ z h. within z (inr h))) (λ z h. some z (inr h)) in
    omega (arith, rest, ap (total f) part.2, total-append f part.0 (x ∷ part.1), total-append f part.0 part.1, some x (inl refl))

-- ---- occurrences that are no indicators
abbrev mutual
  firm : Term → ℕ
  firm (terms.var (query n)) = 1
  firm (terms.var (entry n)) = 1
  firm (terms.var (ind n)) = 0
  firm (terms.app s ts) = 1 + all_firm ts

  all_firm : Terms → ℕ
  all_firm terms.none = 0
  all_firm (terms.more t ts) = firm t + all_firm ts

mutual
  firm_few : (t : Term) → firm t ≤ terms.size t
  firm_few (terms.var (query n)) = omega arith
  firm_few (terms.var (entry n)) = omega arith
  firm_few (terms.var (ind n)) = omega arith
  firm_few (terms.app s ts) = omega (arith, all_firm_few ts)

  all_firm_few : (ts : Terms) → all_firm ts ≤ terms.sizes ts
  all_firm_few terms.none = omega arith
  all_firm_few (terms.more t ts) = omega (arith, firm_few t, all_firm_few ts)

plain_firm : (t : Term) → (IsIndicator t → ⊥) → 1 ≤ firm t
plain_firm (terms.var (query n)) plain = omega arith
plain_firm (terms.var (entry n)) plain = omega arith
plain_firm (terms.var (ind n)) plain = absurd (plain tt)
plain_firm (terms.app s ts) plain = omega arith

mutual
  firm_applied : (bs : List Binding) (t : Term) → firm (applied bs t) ≡ firm t + total (λ n. firm (bound bs n)) (indicators t)
  firm_applied bs (terms.var (query n)) = ap firm ((image_keeps bs).queries n)
  firm_applied bs (terms.var (entry n)) = ap firm ((image_keeps bs).entries n)
  firm_applied bs (terms.var (ind n)) = omega arith
  firm_applied bs (terms.app s ts) = omega (arith, all_firm_applied bs ts)

  all_firm_applied : (bs : List Binding) (ts : Terms) → all_firm (terms.substitute_all (image same_variable (substitution_of bs)) ts) ≡ all_firm ts + total (λ n. firm (bound bs n)) (indicators_all ts)
  all_firm_applied bs terms.none = refl
  all_firm_applied bs (terms.more t ts) =
      let f : ℕ → ℕ = λ n. firm (bound bs n) in
      omega (arith, firm_applied bs t, all_firm_applied bs ts, ap (total f) (indicators-more t ts), total-append f (indicators t) (indicators_all ts))

-- ---- sizes
mutual
  no_smaller : (bs : List Binding) (t : Term) → terms.size t ≤ terms.size (applied bs t)
  no_smaller bs (terms.var x) = omega (arith, size_some (image same_variable (substitution_of bs) x))
  no_smaller bs (terms.app s ts) = omega (arith, none_smaller bs ts)

  none_smaller : (bs : List Binding) (ts : Terms) → terms.sizes ts ≤ terms.sizes (terms.substitute_all (image same_variable (substitution_of bs)) ts)
  none_smaller bs terms.none = omega arith
  none_smaller bs (terms.more t ts) = omega (arith, no_smaller bs t, none_smaller bs ts)

-- ---- paths
module _ (tree : Tree Term) (legal : IsLegal tree) where
  -- each binding of a path leaves an occurrence of its own
  one_more : (from : Option ℕ) (step : ℕ × Node Term) (p : Path) → IsPath tree from (step ∷ p) → length (bound_on p) ≤ firm (path_term p) → length (bound_on (step ∷ p)) ≤ firm (path_term (step ∷ p))
  one_more from step p reached few =
      let bs = step.1.bindings in
      let was = legal.nodes step.0 step.1 reached.1 in
      let least = total_least (λ n. firm (bound bs n)) (left_sides bs) (indicators (path_term p)) was.binds.distinct
      (left_open tree (legal_nodes tree legal) from step p reached)
      (λ n a. let b = bound_left bs n a in
      subst (λ t. 1 ≤ firm t) (sym (image_bound bs n b.0 was.binds.distinct b.1)) (plain_firm b.0 (all_at (λ c. IsIndicator c.1 → ⊥) bs (n, b.0) was.binds.rights b.1))) in
      omega (arith, few, least, firm_applied bs (path_term p), length-append (bound_on p) (left_sides bs))

  few_bound : (from : Option ℕ) (p : Path) → IsPath tree from p → length (bound_on p) ≤ firm (path_term p)
  few_bound from [] reached = omega arith
  few_bound from (step ∷ p) reached = one_more from step p reached (few_bound step.1.parent p reached.2)

  -- the path of a leaf binds all that it opens
  few_at_leaf : (key : ℕ) (node : Node Term) (p : Path) (postings : List Posting) → IsPath tree (Some key) ((key, node) ∷ p) → IsLegalContent tree key ((key, node) ∷ p) (leaf postings) → length (opened ((key, node) ∷ p)) ≤ MOST_OCCURRENCES
  few_at_leaf key node p postings reached content =
      let all_bound = few_members (opened ((key, node) ∷ p)) (bound_on ((key, node) ∷ p)) (path_opens_once tree (legal_nodes tree legal) (Some key) ((key, node) ∷ p) reached) (λ n a. elim (among_or_not (bound_on ((key, node) ∷ p)) n) as (λ _. IsAmong (bound_on ((key, node) ∷ p)) n) [
        | inl b ↦ b
        | inr o ↦ absurd (leaf_closed (path_term ((key, node) ∷ p)) content.1 n (indicator_variable (terms.variables (path_term ((key, node) ∷ p))) n ((open_exactly tree (legal_nodes tree legal) (Some key) ((key, node) ∷ p) reached n).1 (a, o))))
      ]) in
      omega (arith, all_bound, few_bound (Some key) ((key, node) ∷ p) reached, firm_few (path_term ((key, node) ∷ p)), content.1.size)

  -- ---- a leaf below
  abbrev keys_on : Path → List ℕ
  keys_on p = map (λ step. step.0) p

  passes : (p : Path) (key : ℕ) → IsAmong (keys_on p) key → PassesBy p key
  passes [] key a = a
  passes (step ∷ p) key (inl e) = inl e
  passes (step ∷ p) key (inr a) = inr (passes p key a)

  keys_distinct : (from : Option ℕ) (p : Path) → IsPath tree from p → AreDistinct (keys_on p)
  keys_distinct from [] reached = tt
  keys_distinct from (step ∷ p) reached = ((λ a. no_return tree step.0 step.1 p (refl, reached.1, reached.2) (passes p step.0 a)), keys_distinct step.1.parent p reached.2)

  keys_low : (from : Option ℕ) (p : Path) → IsPath tree from p → (key : ℕ) → IsAmong (keys_on p) key → key < length tree.nodes
  keys_low from [] reached key a = absurd a
  keys_low from (step ∷ p) reached key (inl e) = subst (λ k. k < length tree.nodes) e (has_within tree.nodes step.0 step.1 reached.1)
  keys_low from (step ∷ p) reached key (inr a) = keys_low step.1.parent p reached.2 key a

  short : (from : Option ℕ) (p : Path) → IsPath tree from p → length p ≤ length tree.nodes
  short from p reached =
      let few = few_below (length tree.nodes) (keys_on p) (keys_distinct from p reached) (keys_low from p reached) in
      omega (arith, few, length-map p (λ step. step.0))

  -- What holds of the paths of leaves and of that of the root, and then of those above, holds of
  -- all paths.
  module _ (P : Path → Type 0)
      (at_leaf : (key : ℕ) (node : Node Term) (p : Path) (postings : List Posting) → IsPath tree (Some key) ((key, node) ∷ p) → IsLegalContent tree key ((key, node) ∷ p) (leaf postings) → P ((key, node) ∷ p))
      (at_root : P ((tree.root, legal.root.0) ∷ []))
      (above : (step : ℕ × Node Term) (p : Path) → IsPath tree (Some step.0) (step ∷ p) → P (step ∷ p) → P p) where
    root_path : (node : Node Term) (p : Path) → IsPath tree (Some tree.root) ((tree.root, node) ∷ p) → P ((tree.root, node) ∷ p)
    root_path node p reached =
        let same : legal.root.0 ≡ node = one_node tree tree.root legal.root.0 node legal.root.1 reached.1 in
        let parent : node.parent ≡ None = ap (λ n. n.parent) (sym same) ∙ legal.root.2.parent in
        let top : [] ≡ p = one_path tree None [] p refl (subst (λ k. IsPath tree k p) parent reached.2) in
        subst P (λ i. (tree.root, same i) ∷ top i) at_root

    from_leaves : (fuel : ℕ) (key : ℕ) (node : Node Term) (p : Path) → IsPath tree (Some key) ((key, node) ∷ p) → length tree.nodes ≤ fuel + length p → P ((key, node) ∷ p)
    from_leaves zero key node p reached enough = absurd (omega (arith, enough, short (Some key) ((key, node) ∷ p) reached))
    from_leaves (suc fuel) key node p reached enough =
        let was = legal.nodes key node reached.1 in
        let up : was.above ≡ p = one_path tree node.parent was.above p was.reached reached.2 in
        by node.content (subst (λ a. IsLegalContent tree key ((key, node) ∷ a) node.content) up was.content)
        (λ child below there. from_leaves fuel child below ((key, node) ∷ p) there (omega (arith, enough))) where
          by : (c : Content) → IsLegalContent tree key ((key, node) ∷ p) c → ((child : ℕ) (below : Node Term) → IsPath tree (Some child) ((child, below) ∷ (key, node) ∷ p) → P ((child, below) ∷ (key, node) ∷ p)) → P ((key, node) ∷ p)
          by (leaf postings) content rest = at_leaf key node p postings reached content
          by (inner split []) content rest = elim (eqb_tells key tree.root) as (λ _. P ((key, node) ∷ p)) [
            | inl e ↦
                subst (λ k. P ((k, node) ∷ p)) (sym e.1)
                (root_path node p (refl, subst (λ k. HasNode tree k node) e.1 reached.1, reached.2))
            | inr e ↦ absurd (omega (arith, content.3 e.1))
          ]
          by (inner split (child ∷ children)) content rest =
              let below = (content.1 child).0 (inl refl) in
              let there : IsPath tree (Some child) ((child, below.0) ∷ (key, node) ∷ p) = (refl, below.1, subst (λ k. IsPath tree k ((key, node) ∷ p)) (sym below.2) (refl, reached.1, reached.2)) in
              above (child, below.0) ((key, node) ∷ p) there (rest child below.0 there)

    each_path : (step : ℕ × Node Term) (p : Path) → IsPath tree (Some step.0) (step ∷ p) → P (step ∷ p)
    each_path step p reached = from_leaves (length tree.nodes) step.0 step.1 p reached (omega arith)

  -- the root opens one
  few_at_root : length (opened ((tree.root, legal.root.0) ∷ [])) ≤ MOST_OCCURRENCES
  few_at_root =
      let one : length (opened ((tree.root, legal.root.0) ∷ [])) ≡ 1 = ap (λ bs. length (0 ∷ right_indicators bs)) legal.root.2.bindings in
      omega (arith, one)

  few_above : (step : ℕ × Node Term) (p : Path) → IsPath tree (Some step.0) (step ∷ p) → length (opened (step ∷ p)) ≤ MOST_OCCURRENCES → length (opened p) ≤ MOST_OCCURRENCES
  few_above step p reached few = omega (arith, few, length-append (opened p) (right_indicators step.1.bindings))

  pub few_opened : (key : ℕ) (p : Path) → IsPath tree (Some key) p → length (opened p) ≤ MOST_OCCURRENCES
  few_opened key [] reached = omega arith
  few_opened key (step ∷ p) reached = each_path (λ q. length (opened q) ≤ MOST_OCCURRENCES) few_at_leaf few_at_root few_above step p (refl, reached.1, reached.2)

  -- its term is an indicator
  small_at_root : terms.size (path_term ((tree.root, legal.root.0) ∷ [])) ≤ MOST_OCCURRENCES
  small_at_root =
      let one : terms.size (path_term ((tree.root, legal.root.0) ∷ [])) ≡ 1 = ap (λ bs. terms.size (applied bs (indicator 0))) legal.root.2.bindings in
      omega (arith, one)

  -- a path's term is no larger than that of a leaf below
  pub small_term : (key : ℕ) (p : Path) → IsPath tree (Some key) p → terms.size (path_term p) ≤ MOST_OCCURRENCES
  small_term key [] reached = omega arith
  small_term key (step ∷ p) reached =
      each_path (λ q. terms.size (path_term q) ≤ MOST_OCCURRENCES)
      (λ k node q postings there content. content.1.size) small_at_root
      (λ below q there small. omega (arith, small, no_smaller below.1.bindings (path_term q)))
      step p (refl, reached.1, reached.2)

-- After numbering anew `next` is no more than that.
pub few_next : (old new : Tree Term) → IsLegal old → IsRenumbered old new → new.next ≤ MOST_OCCURRENCES
few_next old new legal h = by h.next.least.1.1 h.next.least.1.2 h.next.least.1.3 where
  by : (path : Path) → IsPath new (Some h.next.least.1.0) path → IsAmong (opened path) h.next.least.0 → new.next ≤ MOST_OCCURRENCES
  by [] reached a = absurd (none reached) where
    none : Some h.next.least.1.0 ≡ None → ⊥
    none e = cc
  by (step ∷ path) reached a =
      let c = came old new legal h step.0 step.1 reached.1 in
      let r = renumbered_path old new legal h (Some step.0) ((step.0, c.node) ∷ c.was.above) (refl, c.had, c.was.reached) in
      let there : IsPath new (Some step.0) (step ∷ path) = (refl, reached.1, reached.2) in
      let same : r.path ≡ step ∷ path = one_path new (Some step.0) r.path (step ∷ path) r.reached there in
      let order = subst (λ q. opened q ≡ consecutive 0 (length (opened q))) same r.renumbers.order in
      let low = consecutive_low 0 (length (opened (step ∷ path))) h.next.least.0 (subst (λ l. IsAmong l h.next.least.0) order a) in
      let few = few_opened new (renumbered_legal old new legal h) step.0 (step ∷ path) there in
      omega (arith, low, few, h.next.least.2)
