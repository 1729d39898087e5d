-- A walk over a tree in which each node gets new numbers once.
use Rattle.std.proofs.Common.{◌≡◌, inl, inr, ℕ, ◌+◌, ◌<◌, ◌≤◌, List, [], ◌∷◌, ◌++◌, length, Some, map, refl, sym, ◌∙◌, ap, subst, arith, length-append}
use Rattle.slab.specs.Slab.{get}
use Rattle.si_defs.specs.Substitutions.{IsAmong, AreDistinct}
use Rattle.si_defs.proofs.ListLaws.{all_at, all_from, among_front, among_back}
use Rattle.si_flat.specs.Cells.{Term}
use Rattle.si_flat.specs.Rows.{CellPair, left_sides}
use Rattle.si_flat.proofs.RowLaws.{distinct_parts}
use Rattle.si_legal.specs.Bindings.{Binding, indicators, right_indicators}
use Rattle.si_legal.specs.Renumbering.{renamed_bindings, renamed_content}
use Rattle.si_legal.specs.Trees.{Content, inner, leaf, Node, Tree, HasNode, Path, IsPath, opened}
use Rattle.si_legal.specs.Legal.{IsOpenBelow, IsLegalNode, IsLegalContent, AreChildren}
use Rattle.si_legal.proofs.PathLaws.{one_node, one_path}
use Rattle.si_changes.specs.Places.{number_among, renumbered_node}
use Rattle.si_changes.proofs.FewOpened.{few_below}
use Rattle.si_changes.proofs.Frames.{legal_nodes, IsChild, differ_told}
use Rattle.si_changes.proofs.OpenLaws.{open_opened, opened_low, path_opens_once}
use Rattle.si_changes.proofs.PlacedLaws.{number_one, same_renamed}
use Rattle.si_changes.proofs.RenamedTerms.{TellsApart, distinct_map}
use Rattle.si_tree.specs.Nodes.{TreeNode}
use Rattle.si_tree.specs.declared.renumber.Visit.{Visit}
use Rattle.si_tree.specs.declared.tree.Tree.TheInside.{Inside}
use Rattle.si_tree.specs.Decoding.{bindings_of}
use Rattle.si_tree.specs.KeptNodes.{node_of, tree_of, content_of, IsKept}
use Rattle.si_tree.specs.Numbers.{AreBelow, rights_in, noted, noted_number, renumbered_pairs}
use Rattle.si_tree.specs.Reading.{children_of}
use Rattle.si_tree.specs.Renumbers.{HasNotedSplit, split_in, with_new_split, IsToHave}
use Rattle.si_tree.proofs.SlotLaws.{node_read}
use Rattle.si_tree.proofs.RightLaws.{lefts_read}
use Rattle.si_tree.proofs.NumberLaws.{rights_of, noted_long, pairs_read_renamed, all_whole_renamed}
use Rattle.si_tree.proofs.NotedPlaces.{noted_other, noted_places}

-- ---- bindings under maps that agree
pub same_bindings : (f g : ℕ → ℕ) (bs : List Binding) → ((n : ℕ) → IsAmong (left_sides bs) n → f n ≡ g n) → ((n : ℕ) → IsAmong (right_indicators bs) n → f n ≡ g n) → renamed_bindings f bs ≡ renamed_bindings g bs
same_bindings f g [] lefts rights = refl
same_bindings f g (b ∷ bs) lefts rights =
    let left = lefts b.0 (inl refl) in
    let right = same_renamed f g b.1 (λ n a. rights n (among_front (indicators b.1) (right_indicators bs) n a)) in
    let rest = same_bindings f g bs (λ n a. lefts n (inr a)) (λ n a. rights n (among_back (indicators b.1) (right_indicators bs) n a)) in
    λ i. (left i, right i) ∷ rest i

pair_lefts : (to : ℕ → ℕ) (bs : List CellPair) → left_sides (renumbered_pairs to bs) ≡ map to (left_sides (bindings_of bs))
pair_lefts to [] = refl
pair_lefts to (b ∷ bs) = ap (λ l. to b.0 ∷ l) (pair_lefts to bs)

-- ---- a node that waits
-- What is noted for the indicators that its path opens are their places.
pub record Waits (tree : Tree Term) (numbers : List ℕ) (v : Visit) : Type 0 where
  pub node : Node Term
  pub above : Path
  pub has : HasNode tree v.node node
  pub reached : IsPath tree node.parent above
  pub long : v.opened ≡ length (opened above)
  pub known : (n : ℕ) → IsAmong (opened above) n → noted_number numbers n ≡ number_among (opened above) n

-- it is taken, and this is its node
pub record IsTaken (t : Inside) (numbers : List ℕ) (v : Visit) (n : TreeNode) : Type 0 where
  pub above : Path
  pub got : get t.nodes v.node ≡ Some n
  pub reached : IsPath (tree_of t) n.parent above
  pub long : v.opened ≡ length (opened above)
  pub known : (k : ℕ) → IsAmong (opened above) k → noted_number numbers k ≡ number_among (opened above) k
  pub room : length numbers ≡ t.next

pub taken : (t : Inside) (numbers : List ℕ) (v : Visit) (n : TreeNode) → Waits (tree_of t) numbers v → get t.nodes v.node ≡ Some n → length numbers ≡ t.next → IsTaken t numbers v n
taken t numbers v n w got room = record {
  above = w.above;
  got = got;
  reached = subst (λ x. IsPath (tree_of t) x.parent w.above) (one_node (tree_of t) v.node w.node (node_of n) w.has (node_read t.nodes.slots v.node n got)) w.reached;
  long = w.long;
  known = w.known;
  room = room;
}

module _ (t : Inside) (kept : IsKept t) (numbers : List ℕ) (v : Visit) (n : TreeNode) (s : IsTaken t numbers v n) where
  has : HasNode (tree_of t) v.node (node_of n)
  has = node_read t.nodes.slots v.node n s.got

  there : IsPath (tree_of t) (Some v.node) ((v.node, node_of n) ∷ s.above)
  there = (refl, has, s.reached)

  rights_are : rights_in n.bindings ≡ right_indicators (bindings_of n.bindings)
  rights_are = rights_of n.bindings (kept.whole v.node n s.got)

  opened_are : opened s.above ++ rights_in n.bindings ≡ opened ((v.node, node_of n) ∷ s.above)
  opened_are = ap (λ l. opened s.above ++ l) rights_are

  distinct : AreDistinct (opened s.above ++ rights_in n.bindings)
  distinct = subst AreDistinct (sym opened_are) (path_opens_once (tree_of t) (legal_nodes (tree_of t) kept.legal) (Some v.node) ((v.node, node_of n) ∷ s.above) there)

  low : (k : ℕ) → IsAmong (opened ((v.node, node_of n) ∷ s.above)) k → k < length numbers
  low k a = subst (λ m. k < m) (sym s.room) (opened_low (tree_of t) kept.legal (Some v.node) ((v.node, node_of n) ∷ s.above) there k a)

  low_rights : (k : ℕ) → IsAmong (rights_in n.bindings) k → k < length numbers
  low_rights k a = low k (subst (λ l. IsAmong l k) opened_are (among_back (opened s.above) (rights_in n.bindings) k a))

  pub known_rights : AreBelow (length numbers) (rights_in n.bindings)
  known_rights = all_from (λ k. k < length numbers) (rights_in n.bindings) low_rights

  many : v.opened + length (rights_in n.bindings) ≡ length (opened s.above ++ rights_in n.bindings)
  many = omega (arith, s.long, length-append (opened s.above) (rights_in n.bindings))

  pub new_opened : v.opened + length (rights_in n.bindings) ≡ length (opened ((v.node, node_of n) ∷ s.above))
  new_opened = many ∙ ap length opened_are

  pub opened_fits : v.opened + length (rights_in n.bindings) ≤ t.next
  opened_fits =
      let few = few_below (length numbers) (opened s.above ++ rights_in n.bindings) distinct (λ k a. low k (subst (λ l. IsAmong l k) opened_are a)) in
      omega (arith, few, many, s.room)

  -- what is noted then are places again
  pub noted_then : (k : ℕ) → IsAmong (opened ((v.node, node_of n) ∷ s.above)) k → noted_number (noted numbers v.opened (rights_in n.bindings)) k ≡ number_among (opened ((v.node, node_of n) ∷ s.above)) k
  noted_then k a =
      ap (λ m. noted_number (noted numbers m (rights_in n.bindings)) k) s.long
      ∙ noted_places numbers (opened s.above) (rights_in n.bindings) distinct known_rights s.known k (subst (λ l. IsAmong l k) (sym opened_are) a)
      ∙ ap (λ l. number_among l k) opened_are

  was : IsLegalNode (tree_of t) v.node (node_of n)
  was = kept.legal.nodes v.node (node_of n) has

  up : was.above ≡ s.above
  up = one_path (tree_of t) n.parent was.above s.above was.reached s.reached

  left_opened : (k : ℕ) → IsAmong (left_sides (bindings_of n.bindings)) k → IsAmong (opened ((v.node, node_of n) ∷ s.above)) k
  left_opened k a =
      among_front (opened s.above) (right_indicators (bindings_of n.bindings)) k
      (open_opened (tree_of t) (legal_nodes (tree_of t) kept.legal) n.parent s.above s.reached k
      (subst (λ p. IsOpenBelow p k) up (all_at (IsOpenBelow was.above) (left_sides (bindings_of n.bindings)) k was.binds.lefts a)))

  right_opened : (k : ℕ) → IsAmong (right_indicators (bindings_of n.bindings)) k → IsAmong (opened ((v.node, node_of n) ∷ s.above)) k
  right_opened k a = among_back (opened s.above) (right_indicators (bindings_of n.bindings)) k a

  then_long : length (noted numbers v.opened (rights_in n.bindings)) ≡ length numbers
  then_long = noted_long numbers v.opened (rights_in n.bindings)

  pub known_lefts : AreBelow (length (noted numbers v.opened (rights_in n.bindings))) (left_sides n.bindings)
  known_lefts =
      all_from (λ k. k < length (noted numbers v.opened (rights_in n.bindings))) (left_sides n.bindings)
      (λ k a. subst (λ m. k < m) (sym then_long) (low k (left_opened k (subst (λ l. IsAmong l k) (sym (lefts_read n.bindings)) a))))

  pub known_rights_then : AreBelow (length (noted numbers v.opened (rights_in n.bindings))) (rights_in n.bindings)
  known_rights_then = subst (λ m. AreBelow m (rights_in n.bindings)) (sym then_long) known_rights

  apart : TellsApart (noted_number (noted numbers v.opened (rights_in n.bindings))) (left_sides (bindings_of n.bindings))
  apart j k a b e =
      let one = left_opened j a in
      let two = left_opened k b in
      number_one (opened ((v.node, node_of n) ∷ s.above)) j k one two (sym (noted_then j one) ∙ e ∙ noted_then k two)

  lefts_then : left_sides (renumbered_pairs (noted_number (noted numbers v.opened (rights_in n.bindings))) n.bindings) ≡ map (noted_number (noted numbers v.opened (rights_in n.bindings))) (left_sides (bindings_of n.bindings))
  lefts_then = pair_lefts (noted_number (noted numbers v.opened (rights_in n.bindings))) n.bindings

  pub distinct_then : AreDistinct (left_sides (renumbered_pairs (noted_number (noted numbers v.opened (rights_in n.bindings))) n.bindings))
  distinct_then = subst AreDistinct (sym lefts_then) (distinct_map (noted_number (noted numbers v.opened (rights_in n.bindings))) (left_sides (bindings_of n.bindings)) apart was.binds.distinct)

  bindings_then : bindings_of (renumbered_pairs (noted_number (noted numbers v.opened (rights_in n.bindings))) n.bindings) ≡ (renumbered_node s.above (node_of n)).bindings
  bindings_then =
      pairs_read_renamed (noted_number (noted numbers v.opened (rights_in n.bindings))) n.bindings (kept.whole v.node n s.got)
      ∙ same_bindings (noted_number (noted numbers v.opened (rights_in n.bindings))) (number_among (opened ((v.node, node_of n) ∷ s.above))) (bindings_of n.bindings)
      (λ k a. noted_then k (left_opened k a))
      (λ k a. noted_then k (right_opened k a))

  -- ---- its content
  content : IsLegalContent (tree_of t) v.node ((v.node, node_of n) ∷ s.above) (content_of n.content)
  content = subst (λ p. IsLegalContent (tree_of t) v.node ((v.node, node_of n) ∷ p) (content_of n.content)) up was.content

  split_opened : (split : ℕ) → IsOpenBelow ((v.node, node_of n) ∷ s.above) split → IsAmong (opened ((v.node, node_of n) ∷ s.above)) split
  split_opened split a = open_opened (tree_of t) (legal_nodes (tree_of t) kept.legal) (Some v.node) ((v.node, node_of n) ∷ s.above) there split a

  pub split_noted : HasNotedSplit (content_of n.content) (noted numbers v.opened (rights_in n.bindings))
  split_noted = by (content_of n.content) content where
    by : (c : Content) → IsLegalContent (tree_of t) v.node ((v.node, node_of n) ∷ s.above) c → HasNotedSplit c (noted numbers v.opened (rights_in n.bindings))
    by (inner split children) l = subst (λ m. split < m) (sym then_long) (low split (split_opened split l.0))
    by (leaf ps) l = tt

  content_then : with_new_split (split_in (content_of n.content) (noted numbers v.opened (rights_in n.bindings))) (content_of n.content) ≡ renamed_content (number_among (opened ((v.node, node_of n) ∷ s.above))) (content_of n.content)
  content_then = by (content_of n.content) content where
    by : (c : Content) → IsLegalContent (tree_of t) v.node ((v.node, node_of n) ∷ s.above) c → with_new_split (split_in c (noted numbers v.opened (rights_in n.bindings))) c ≡ renamed_content (number_among (opened ((v.node, node_of n) ∷ s.above))) c
    by (inner split children) l = ap (λ k. inner k children) (noted_then split (split_opened split l.0))
    by (leaf ps) l = refl

  pub to_have : IsToHave (tree_of t) (record {
    node = v.node;
    bindings = renumbered_pairs (noted_number (noted numbers v.opened (rights_in n.bindings))) n.bindings;
    split = split_in (content_of n.content) (noted numbers v.opened (rights_in n.bindings));
  })
  to_have = record {
    node = node_of n;
    above = s.above;
    has = has;
    reached = s.reached;
    whole = all_whole_renamed (noted_number (noted numbers v.opened (rights_in n.bindings))) n.bindings (kept.whole v.node n s.got);
    bindings = bindings_then;
    content = content_then;
  }

  -- ---- its children
  pub are_children : AreChildren (tree_of t) v.node (children_of (content_of n.content))
  are_children = by (content_of n.content) content where
    by : (c : Content) → IsLegalContent (tree_of t) v.node ((v.node, node_of n) ∷ s.above) c → AreChildren (tree_of t) v.node (children_of c)
    by (inner split children) l = l.1
    by (leaf ps) l = l.0

  pub children_distinct : AreDistinct (children_of (content_of n.content))
  children_distinct = by (content_of n.content) content where
    by : (c : Content) → IsLegalContent (tree_of t) v.node ((v.node, node_of n) ∷ s.above) c → AreDistinct (children_of c)
    by (inner split children) l = (differ_told (tree_of t) split children (legal_nodes (tree_of t) kept.legal) l.2).distinct
    by (leaf ps) l = tt

  pub child_waits : (child : ℕ) → IsChild (tree_of t) v.node child → (w : Visit) → w.node ≡ child → w.opened ≡ v.opened + length (rights_in n.bindings) → Waits (tree_of t) (noted numbers v.opened (rights_in n.bindings)) w
  child_waits child c w key opened_is = record {
    node = c.0;
    above = (v.node, node_of n) ∷ s.above;
    has = subst (λ k. HasNode (tree_of t) k c.0) (sym key) c.1;
    reached = subst (λ k. IsPath (tree_of t) k ((v.node, node_of n) ∷ s.above)) (sym c.2) there;
    long = opened_is ∙ new_opened;
    known = noted_then;
  }

  -- another that waits still does, if all that its path opens is opened above this one
  pub still_waits : (w : Visit) (x : Waits (tree_of t) numbers w) → ((k : ℕ) → IsAmong (opened x.above) k → IsAmong (opened s.above) k) → Waits (tree_of t) (noted numbers v.opened (rights_in n.bindings)) w
  still_waits w x within = record {
    node = x.node;
    above = x.above;
    has = x.has;
    reached = x.reached;
    long = x.long;
    known = λ k a.
        noted_other numbers v.opened (rights_in n.bindings) k (λ b. (distinct_parts (opened s.above) (rights_in n.bindings) distinct).2 k (within k a) b)
        ∙ x.known k a;
  }
