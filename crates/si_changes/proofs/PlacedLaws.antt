-- Indicators that have their places as numbers are numbered anew.
use Rattle.std.proofs.Common.{◌≡◌, inl, inr, ℕ, zero, suc, ◌+◌, ◌<◌, cond, ◌==◌, List, [], ◌∷◌, ◌++◌, length, Option, None, Some, map, refl, ap, sym, ◌∙◌, subst, arith, length-append, append_assoc}
use Rattle.std.specs.List.{AllByRecursion}
use Rattle.std.proofs.lemmas.Bool.{eq-eqb}
use Rattle.std.proofs.lemmas.Bool.Decides.{eqb_tells, Decides-eqb}
use Rattle.si_defs.specs.Terms as terms
use Rattle.si_defs.specs.Substitutions.{IsAmong, AreDistinct}
use Rattle.si_defs.proofs.ListLaws.{among_front, among_back}
use Rattle.si_flat.specs.Cells.{query, entry, ind, Term, Terms}
use Rattle.si_flat.specs.Rows.{left_sides}
use Rattle.si_flat.proofs.FirstPlaces.{place_one}
use Rattle.si_flat.proofs.RowLaws.{distinct_parts}
use Rattle.si_legal.specs.Bindings.{applied, indicators, right_indicators}
use Rattle.si_legal.specs.Generalizations.{consecutive}
use Rattle.si_legal.specs.Trees.{Node, Tree, HasNode, Path, IsPath, path_term, opened}
use Rattle.si_legal.specs.Legal.{IsOpenBelow, IsLegal}
use Rattle.si_legal.specs.Renumbering.{renumbered, renamed, IsRenamedAt, IsOpened, IsRenumbered}
use Rattle.si_legal.proofs.PathLaws.{one_path}
use Rattle.si_changes.specs.Places.{number_among, renumbered_node, IsPlaced}
use Rattle.si_changes.proofs.DivideLaws.{consecutive_low, length-consecutive}
use Rattle.si_changes.proofs.Frames.{legal_nodes}
use Rattle.si_changes.proofs.OpenLaws.{open_opened, path_opens_once}
use Rattle.si_changes.proofs.RenamedTerms.{TellsApart, rights-renamed, applied_renamed}
use Rattle.si_legal.proofs.Splitting.{numbers-append, indicators_all, indicators-more}

-- ---- places
one_of_rest : (m n : ℕ) (ns : List ℕ) → IsAmong (m ∷ ns) n → (m ≡ n → ⊥) → IsAmong ns n
one_of_rest m n ns (inl e) differ = absurd (differ e)
one_of_rest m n ns (inr a) differ = a

pub number_front : (xs ys : List ℕ) (n : ℕ) → IsAmong xs n → number_among (xs ++ ys) n ≡ number_among xs n
number_front [] ys n a = absurd a
number_front (x ∷ xs) ys n a = elim (eqb_tells x n) as (λ _. number_among (x ∷ xs ++ ys) n ≡ number_among (x ∷ xs) n) [
  | inl h ↦ ap (λ b. cond b 0 (1 + number_among (xs ++ ys) n)) h.0 ∙ sym (ap (λ b. cond b 0 (1 + number_among xs n)) h.0)
  | inr h ↦
      ap (λ b. cond b 0 (1 + number_among (xs ++ ys) n)) h.0
      ∙ ap (λ k. 1 + k) (number_front xs ys n (one_of_rest x n xs a h.1))
      ∙ sym (ap (λ b. cond b 0 (1 + number_among xs n)) h.0)
]

pub number_here : (xs ys : List ℕ) (n : ℕ) → (IsAmong xs n → ⊥) → number_among (xs ++ n ∷ ys) n ≡ length xs
number_here [] ys n new = ap (λ b. cond b 0 (1 + number_among ys n)) (eq-eqb n n refl)
number_here (x ∷ xs) ys n new = elim (eqb_tells x n) as (λ _. number_among (x ∷ xs ++ n ∷ ys) n ≡ length (x ∷ xs)) [
  | inl h ↦ absurd (new (inl h.1))
  | inr h ↦
      let rest = number_here xs ys n (λ a. new (inr a)) in
      ap (λ b. cond b 0 (1 + number_among (xs ++ n ∷ ys) n)) h.0 ∙ omega (arith, rest)
]

pub number_one : (xs : List ℕ) (m n : ℕ) → IsAmong xs m → IsAmong xs n → number_among xs m ≡ number_among xs n → m ≡ n
number_one xs m n a b e = place_one (λ j k. j == k) Decides-eqb xs m n a b e

-- the last of a list without repeats have the last places
pub numbers_back : (xs ys : List ℕ) → AreDistinct (xs ++ ys) → map (number_among (xs ++ ys)) ys ≡ consecutive (length xs) (length ys)
numbers_back xs [] h = refl
numbers_back xs (y ∷ ys) h =
    let parts = distinct_parts xs (y ∷ ys) h in
    let whole : (xs ++ y ∷ []) ++ ys ≡ xs ++ y ∷ ys = append_assoc xs (y ∷ []) ys in
    let rest = numbers_back (xs ++ y ∷ []) ys (subst AreDistinct (sym whole) h) in
    let long : length (xs ++ y ∷ []) ≡ suc (length xs) = omega (arith, length-append xs (y ∷ [])) in
    let first = number_here xs ys y (λ a. parts.2 y a (inl refl)) in
    let others = ap (λ l. map (number_among l) ys) (sym whole) ∙ rest ∙ ap (λ k. consecutive k (length ys)) long in
    λ i. first i ∷ others i

-- ---- maps that agree
mutual
  pub same_renamed : (f g : ℕ → ℕ) (t : Term) → ((n : ℕ) → IsAmong (indicators t) n → f n ≡ g n) → renamed f t ≡ renamed g t
  same_renamed f g (terms.var (query n)) e = refl
  same_renamed f g (terms.var (entry n)) e = refl
  same_renamed f g (terms.var (ind n)) e = ap (λ k. terms.var (ind k)) (e n (inl refl))
  same_renamed f g (terms.app s ts) e = ap (λ us. terms.app s us) (all_same_renamed f g ts e)

  pub all_same_renamed : (f g : ℕ → ℕ) (ts : Terms) → ((n : ℕ) → IsAmong (indicators_all ts) n → f n ≡ g n) → terms.rename_all (renumbered f) ts ≡ terms.rename_all (renumbered g) ts
  all_same_renamed f g terms.none e = refl
  all_same_renamed f g (terms.more t ts) e =
      let give = λ (n : ℕ) (a : IsAmong (indicators t ++ indicators_all ts) n). e n (subst (λ l. IsAmong l n) (sym (indicators-more t ts)) a) in
      let first = same_renamed f g t (λ n a. give n (among_front (indicators t) (indicators_all ts) n a)) in
      let rest = all_same_renamed f g ts (λ n a. give n (among_back (indicators t) (indicators_all ts) n a)) in
      λ i. terms.more (first i) (rest i)

-- ---- paths
abbrev pub placed_path : Path → Path
placed_path [] = []
placed_path (step ∷ p) = (step.0, renumbered_node p step.1) ∷ placed_path p

pub record ArePlaced (p : Path) : Type 0 where
  pub term : path_term (placed_path p) ≡ renamed (number_among (opened p)) (path_term p)
  pub opens : opened (placed_path p) ≡ consecutive 0 (length (opened p))

module _ (old new : Tree Term) (legal : IsLegal old) (h : IsPlaced old new) where
  abbrev numbers_below : ℕ × Node Term → Path → ℕ → ℕ
  numbers_below step p n = number_among (opened p ++ right_indicators step.1.bindings) n

  -- the numbers below a node are those above it, for what is open there
  same_above : (from : Option ℕ) (step : ℕ × Node Term) (p : Path) → IsPath old from (step ∷ p) → renamed (number_among (opened p)) (path_term p) ≡ renamed (numbers_below step p) (path_term p)
  same_above from step p reached =
      same_renamed (number_among (opened p)) (numbers_below step p) (path_term p)
      (λ n a. sym (number_front (opened p) (right_indicators step.1.bindings) n (open_opened old (legal_nodes old legal) step.1.parent p reached.2 n a)))

  apart : (from : Option ℕ) (step : ℕ × Node Term) (p : Path) → IsPath old from (step ∷ p) → TellsApart (numbers_below step p) (indicators (path_term p))
  apart from step p reached m n a b e =
      let there = λ (k : ℕ) (c : IsOpenBelow p k). among_front (opened p) (right_indicators step.1.bindings) k (open_opened old (legal_nodes old legal) step.1.parent p reached.2 k c) in
      number_one (opened p ++ right_indicators step.1.bindings) m n (there m a) (there n b) e

  lefts_open : (from : Option ℕ) (step : ℕ × Node Term) (p : Path) → IsPath old from (step ∷ p) → AllByRecursion (IsOpenBelow p) (left_sides step.1.bindings)
  lefts_open from step p reached =
      let was = legal.nodes step.0 step.1 reached.1 in
      subst (λ q. AllByRecursion (IsOpenBelow q) (left_sides step.1.bindings)) (one_path old step.1.parent was.above p was.reached reached.2) was.binds.lefts

  new_rights : (from : Option ℕ) (step : ℕ × Node Term) (p : Path) → IsPath old from (step ∷ p) → right_indicators (renumbered_node p step.1).bindings ≡ consecutive (length (opened p)) (length (right_indicators step.1.bindings))
  new_rights from step p reached =
      rights-renamed (numbers_below step p) step.1.bindings
      ∙ numbers_back (opened p) (right_indicators step.1.bindings) (path_opens_once old (legal_nodes old legal) from (step ∷ p) reached)

  placed_step : (from : Option ℕ) (step : ℕ × Node Term) (p : Path) → IsPath old from (step ∷ p) → ArePlaced p → ArePlaced (step ∷ p)
  placed_step from step p reached rest =
      let rights = right_indicators step.1.bindings in
      let first : 0 + length (opened p) ≡ length (opened p) = omega arith in
      let new = new_rights from step p reached in
      record {
        term =
            ap (applied (renumbered_node p step.1).bindings) (rest.term ∙ same_above from step p reached)
            ∙ applied_renamed (numbers_below step p) step.1.bindings (path_term p) (apart from step p reached) (lefts_open from step p reached);
        opens =
            (λ i. rest.opens i ++ new i)
            ∙ ap (λ k. consecutive 0 (length (opened p)) ++ consecutive k (length rights)) (sym first)
            ∙ sym (numbers-append 0 (length (opened p)) (length rights))
            ∙ ap (consecutive 0) (sym (length-append (opened p) rights));
      }

  pub placed : (from : Option ℕ) (p : Path) → IsPath old from p → ArePlaced p
  placed from [] reached = record { term = refl; opens = refl }
  placed from (step ∷ p) reached = placed_step from step p reached (placed step.1.parent p reached.2)

  pub placed_reached : (from : Option ℕ) (p : Path) → IsPath old from p → IsPath new from (placed_path p)
  placed_reached from [] reached = reached
  placed_reached from (step ∷ p) reached = (reached.0, h.nodes step.0 step.1 p reached.1 reached.2, placed_reached step.1.parent p reached.2)

  pub placed_long : (from : Option ℕ) (p : Path) → IsPath old from p → length (opened (placed_path p)) ≡ length (opened p)
  placed_long from p reached = ap length (placed from p reached).opens ∙ length-consecutive 0 (length (opened p))

  -- ---- nodes
  renamed_at : (key : ℕ) (node : Node Term) → HasNode old key node → (other : Node Term) × HasNode new key other × IsRenamedAt old new key node other
  renamed_at key node has =
      let was = legal.nodes key node has in
      let above = was.above in
      let reached : IsPath old (Some key) ((key, node) ∷ above) = (refl, has, was.reached) in
      let new_rights_are = new_rights (Some key) (key, node) above reached in
      let many : length (right_indicators (renumbered_node above node).bindings) ≡ length (right_indicators node.bindings) = ap length new_rights_are ∙ length-consecutive (length (opened above)) (length (right_indicators node.bindings)) in (
        renumbered_node above node,
        h.nodes key node above has was.reached,
        record {
          above = above;
          reached = was.reached;
          new_above = placed_path above;
          new_reached = placed_reached node.parent above was.reached;
          renamed_node = record {
            to = numbers_below (key, node) above;
            term = (placed node.parent above was.reached).term ∙ same_above (Some key) (key, node) above reached;
            parent = refl;
            bindings = refl;
            content = refl;
          };
          in_order = new_rights_are ∙ (λ i. consecutive (sym (placed_long node.parent above was.reached) i) (sym many i));
        },
      )

  -- ---- the bound
  some_opened : (p : Path) → IsAmong (opened p) 0
  some_opened [] = inl refl
  some_opened (step ∷ p) = among_front (opened p) (right_indicators step.1.bindings) 0 (some_opened p)

  opened_below : (n : ℕ) → IsOpened new n → n < new.next
  opened_below n (key, path, reached, a) = by path reached a where
    by : (path : Path) → IsPath new (Some key) path → IsAmong (opened path) n → n < new.next
    by [] reached a = absurd (none reached) where
      none : Some key ≡ None → ⊥
      none e = cc
    by (step ∷ path) reached a =
        let node = h.no_others step.0 step.1 reached.1 in
        let was = legal.nodes step.0 node.0 node.1 in
        let there : IsPath old (Some step.0) ((step.0, node.0) ∷ was.above) = (refl, node.1, was.reached) in
        let same = one_path new (Some key) (step ∷ path) (placed_path ((step.0, node.0) ∷ was.above)) reached
        (subst (λ k. IsPath new k (placed_path ((step.0, node.0) ∷ was.above))) (sym reached.0) (placed_reached (Some step.0) ((step.0, node.0) ∷ was.above) there)) in
        let low = consecutive_low 0 (length (opened ((step.0, node.0) ∷ was.above))) n (subst (λ l. IsAmong l n) (ap opened same ∙ (placed (Some step.0) ((step.0, node.0) ∷ was.above) there).opens) a) in
        omega (arith, low, h.enough step.0 ((step.0, node.0) ∷ was.above) there)

  last_number : (first count : ℕ) → IsAmong (consecutive first (suc count)) (first + count)
  last_number first zero = inl (omega arith)
  last_number first (suc count) = inr (subst (IsAmong (consecutive (suc first) (suc count))) (omega arith) (last_number (suc first) count))

  last_opened : (n : ℕ) × IsOpened new n × (new.next ≡ suc n)
  last_opened = by (length (opened h.least.1)) refl where
    by : (count : ℕ) → length (opened h.least.1) ≡ count → (n : ℕ) × IsOpened new n × (new.next ≡ suc n)
    by zero e = absurd (none (opened h.least.1) (some_opened h.least.1) e) where
      none : (ns : List ℕ) → IsAmong ns 0 → length ns ≡ 0 → ⊥
      none [] a f = a
      none (m ∷ ns) a f = omega (arith, f)
    by (suc count) e =
        let there = placed (Some h.least.0) h.least.1 h.least.2 in
        let count_is : 0 + count ≡ count = omega arith in
        let last : IsAmong (consecutive 0 (suc count)) count = subst (IsAmong (consecutive 0 (suc count))) count_is (last_number 0 count) in (
          count,
          (h.least.0, placed_path h.least.1, placed_reached (Some h.least.0) h.least.1 h.least.2, subst (λ l. IsAmong l count) (sym (there.opens ∙ ap (consecutive 0) e)) last),
          h.least.3 ∙ e,
        )

  -- ---- the tree
  pub placed_renumbered : IsRenumbered old new
  placed_renumbered = record {
    root = h.root;
    vars = h.vars;
    nodes = renamed_at;
    no_others = h.no_others;
    next = record { above = opened_below; least = last_opened };
  }
