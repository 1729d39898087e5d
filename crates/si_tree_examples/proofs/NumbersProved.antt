-- Trees that are renumbered, proved.
use Rattle.std.proofs.Common.{inl, inr, ℕ, cond, ◌==◌, ◌<◌, List, [], ◌∷◌, Some, refl, ap, sym, subst, arith}
use Rattle.si_defs.specs.Substitutions.{IsAmong}
use Rattle.si_flat.specs.Cells.{Term}
use Rattle.si_legal.specs.Bindings.{indicator}
use Rattle.si_legal.specs.Trees.{Node, Tree, HasNode, Path, IsPath, opened}
use Rattle.si_legal.specs.Renumbering.{IsRenamedNode, OpensInOrder, IsRenamedAt, IsNextAfter}
use Rattle.si_legal.proofs.PathLaws.{one_node, one_path}
use Rattle.si_tree_examples.specs.SomeTerms.{f, a, b}
use Rattle.si_tree_examples.specs.SomeTrees.{root, fork, leaf_of, five_nodes}
use Rattle.si_tree_examples.specs.SomeRemovals.{three_with, three_nodes}
use Rattle.si_tree_examples.specs.SomeNumbers.{five_with, SevenToOne, NoSevenToTwo, NoLargeNext, TwoToOne, KeepsTerms, NoNextKept}
use Rattle.si_tree_examples.proofs.FiveNodesProved.{EachNode, each_node, base, middle, leaf_a, leaf_b, leaf_c, above_leaf, above_middle, not_none, only_a}

-- the inner node and the leaves, where the indicator has this number
abbrev fork_with : ℕ → Node Term
fork_with n = fork 0 ((0, f (indicator n ∷ [])) ∷ []) n (1 ∷ 3 ∷ [])

abbrev above_with : ℕ → Path
above_with n = (2, fork_with n) ∷ (0, base) ∷ []

abbrev to_one : ℕ → ℕ
to_one n = cond (n == 7) 1 n

abbrev Renamed : Tree Term → Tree Term → ℕ → Node Term → Type 0
Renamed old new key node = (other : Node Term) × HasNode new key other × IsRenamedAt old new key node other

abbrev WasThere : Tree Term → ℕ → Node Term → Type 0
WasThere old key other = (node : Node Term) × HasNode old key node

-- ---- the greatest number
abbrev OpensBelow : Tree Term → ℕ → ℕ → Node Term → Type 0
OpensBelow tree limit key node =
    (above : Path) → IsPath tree node.parent above → (n : ℕ) → IsAmong (opened ((key, node) ∷ above)) n
    → n < limit

below_two : (n : ℕ) → IsAmong (0 ∷ 1 ∷ []) n → n < 2
below_two n (inl e) = omega (arith, e)
below_two n (inr (inl e)) = omega (arith, e)
below_two n (inr (inr h)) = absurd h

zero_below : (limit : ℕ) → 0 < limit → (n : ℕ) → IsAmong (0 ∷ []) n → n < limit
zero_below limit some n (inl e) = omega (arith, e, some)
zero_below limit some n (inr h) = absurd h

on_path : (tree : Tree Term) (limit key : ℕ) (node : Node Term) (known : Path) → IsPath tree node.parent known → ((n : ℕ) → IsAmong (opened ((key, node) ∷ known)) n → n < limit) → OpensBelow tree limit key node
on_path tree limit key node known leads bound above path n m = bound n (subst (λ q. IsAmong (opened ((key, node) ∷ q)) n) (one_path tree node.parent above known path leads) m)

all_below : (tree : Tree Term) (limit : ℕ) → EachNode (OpensBelow tree limit) tree.nodes → (key : ℕ) (path : Path) (n : ℕ) → IsPath tree (Some key) path → IsAmong (opened path) n → n < limit
all_below tree limit each key [] n leads m = absurd (not_none key (sym leads))
all_below tree limit each key (step ∷ above) n leads m = each_node (OpensBelow tree limit) tree.nodes each step.0 step.1 leads.1 above leads.2 n m

opens_below : (key : ℕ) (path : Path) (n : ℕ) → IsPath five_nodes (Some key) path → IsAmong (opened path) n → n < 2
opens_below =
    all_below five_nodes 2 (
      on_path five_nodes 2 0 base [] refl (zero_below 2 (omega arith)),
      (
        on_path five_nodes 2 1 leaf_a above_leaf (refl, refl, (refl, refl, refl)) below_two,
        (
          on_path five_nodes 2 2 middle above_middle (refl, refl, refl) below_two,
          (
            on_path five_nodes 2 3 leaf_b above_leaf (refl, refl, (refl, refl, refl)) below_two,
            (on_path five_nodes 2 4 leaf_c above_middle (refl, refl, refl) (zero_below 2 (omega arith)), tt),
          ),
        ),
      ),
    )

next_is_two : IsNextAfter five_nodes
next_is_two = record {
  above = λ n h. opens_below h.0 h.1 n h.2 h.3;
  least = (1, (2, above_leaf, (refl, refl, (refl, refl, refl)), inr (inl refl)), refl);
}

-- ---- the nodes
at_root : Renamed (five_with 7 8) five_nodes 0 base
at_root = (
  base,
  refl,
  record {
    above = [];
    reached = refl;
    new_above = [];
    new_reached = refl;
    renamed_node = record { to = to_one; term = refl; parent = refl; bindings = refl; content = refl };
    in_order = refl;
  },
)

at_fork : Renamed (five_with 7 8) five_nodes 2 (fork_with 7)
at_fork = (
  middle,
  refl,
  record {
    above = above_middle;
    reached = (refl, refl, refl);
    new_above = above_middle;
    new_reached = (refl, refl, refl);
    renamed_node = record { to = to_one; term = refl; parent = refl; bindings = refl; content = refl };
    in_order = refl;
  },
)

at_c : Renamed (five_with 7 8) five_nodes 4 leaf_c
at_c = (
  leaf_c,
  refl,
  record {
    above = above_middle;
    reached = (refl, refl, refl);
    new_above = above_middle;
    new_reached = (refl, refl, refl);
    renamed_node = record { to = to_one; term = refl; parent = refl; bindings = refl; content = refl };
    in_order = refl;
  },
)

at_a : Renamed (five_with 7 8) five_nodes 1 (leaf_of 2 ((7, a) ∷ []) 0)
at_a = (
  leaf_a,
  refl,
  record {
    above = above_with 7;
    reached = (refl, refl, (refl, refl, refl));
    new_above = above_leaf;
    new_reached = (refl, refl, (refl, refl, refl));
    renamed_node = record { to = to_one; term = refl; parent = refl; bindings = refl; content = refl };
    in_order = refl;
  },
)

at_b : Renamed (five_with 7 8) five_nodes 3 (leaf_of 2 ((7, b) ∷ []) 1)
at_b = (
  leaf_b,
  refl,
  record {
    above = above_with 7;
    reached = (refl, refl, (refl, refl, refl));
    new_above = above_leaf;
    new_reached = (refl, refl, (refl, refl, refl));
    renamed_node = record { to = to_one; term = refl; parent = refl; bindings = refl; content = refl };
    in_order = refl;
  },
)

pub seven_to_one : SevenToOne
seven_to_one = record {
  root = refl;
  vars = refl;
  nodes = each_node (Renamed (five_with 7 8) five_nodes) (five_with 7 8).nodes (at_root, (at_a, (at_fork, (at_b, (at_c, tt)))));
  no_others = each_node (WasThere (five_with 7 8)) five_nodes.nodes ((base, refl), ((leaf_of 2 ((7, a) ∷ []) 0, refl), ((fork_with 7, refl), ((leaf_of 2 ((7, b) ∷ []) 1, refl), ((leaf_c, refl), tt)))));
  next = next_is_two;
}

-- ---- what it doesn't give
abbrev first : List ℕ → ℕ
first [] = 0
first (n ∷ ns) = n

pub no_seven_to_two : NoSevenToTwo
no_seven_to_two h =
    let at = h.nodes 2 (fork_with 7) refl in
    let is = one_node (five_with 2 3) 2 at.0 (fork_with 2) at.1 refl in
    let above = one_path (five_with 2 3) (Some 0) at.2.new_above above_middle (subst (λ n. IsPath (five_with 2 3) n.parent at.2.new_above) is at.2.new_reached) (refl, refl, refl) in
    omega (arith, ap first (subst (λ q. OpensInOrder q (fork_with 2)) above (subst (OpensInOrder at.2.new_above) is at.2.in_order)))

pub no_large_next : NoLargeNext
no_large_next h =
    let top = h.next.least in
    omega (arith, top.2, opens_below top.1.0 top.1.1 top.0 top.1.2 top.1.3)

-- ---- after the removal
abbrev base_of_three : Node Term
base_of_three = root (1 ∷ 4 ∷ [])

abbrev below_base : Path
below_base = (0, base_of_three) ∷ []

opens_zero : (next key : ℕ) (path : Path) (n : ℕ) → IsPath (three_with next) (Some key) path → IsAmong (opened path) n → n < 1
opens_zero next =
    all_below (three_with next) 1 (
      on_path (three_with next) 1 0 base_of_three [] refl (zero_below 1 (omega arith)),
      (
        on_path (three_with next) 1 1 only_a below_base (refl, refl, refl) (zero_below 1 (omega arith)),
        (on_path (three_with next) 1 4 leaf_c below_base (refl, refl, refl) (zero_below 1 (omega arith)), tt),
      ),
    )

-- a node of these three keeps all its numbers
stays : (key : ℕ) (node : Node Term) (above : Path) → HasNode (three_with 1) key node → IsPath three_nodes node.parent above → IsPath (three_with 1) node.parent above → IsRenamedNode above node above node → OpensInOrder above node → Renamed three_nodes (three_with 1) key node
stays key node above has was is same ordered = (
  node,
  has,
  record { above = above; reached = was; new_above = above; new_reached = is; renamed_node = same; in_order = ordered },
)

pub two_to_one : TwoToOne
two_to_one = record {
  root = refl;
  vars = refl;
  nodes = each_node (Renamed three_nodes (three_with 1)) three_nodes.nodes (
    stays 0 base_of_three [] refl refl refl (record { to = λ n. n; term = refl; parent = refl; bindings = refl; content = refl }) refl,
    (
      stays 1 only_a below_base refl (refl, refl, refl) (refl, refl, refl) (record { to = λ n. n; term = refl; parent = refl; bindings = refl; content = refl }) refl,
      (
        stays 4 leaf_c below_base refl (refl, refl, refl) (refl, refl, refl) (record { to = λ n. n; term = refl; parent = refl; bindings = refl; content = refl }) refl,
        tt,
      ),
    ),
  );
  no_others = each_node (WasThere three_nodes) (three_with 1).nodes ((base_of_three, refl), ((only_a, refl), ((leaf_c, refl), tt)));
  next = record {
    above = λ n h. opens_zero 1 h.0 h.1 n h.2 h.3;
    least = (0, (0, (0, base_of_three) ∷ [], (refl, refl, refl), inl refl), refl);
  };
}

pub keeps_terms : KeepsTerms
keeps_terms = (
  record { node = only_a; above = below_base; reached = (refl, refl, (refl, refl, refl)); content = refl; term = refl },
  record { node = leaf_c; above = below_base; reached = (refl, refl, (refl, refl, refl)); content = refl; term = refl },
)

pub no_next_kept : NoNextKept
no_next_kept h =
    let top = h.next.least in
    omega (arith, top.2, opens_zero 2 top.1.0 top.1.1 top.0 top.1.2 top.1.3)
