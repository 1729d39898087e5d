-- A search underway: what was found so far, and what is still to be visited.
use Rattle.std.specs.Borrow.{Bor}
use Rattle.std.specs.Bool.{⊤}
use Rattle.std.specs.Prelude.{Vec}
use Rattle.std.proofs.Common.{◌≡◌, ℕ, ◌+◌, ◌<◌, ◌≤◌, ◌^◌, Bool, true, false, List, [], ◌∷◌, ◌++◌, length, take, vec_capacity, refl, ap, sym, ◌∙◌, subst, arith, append_assoc, append-nil}
use Rattle.std.proofs.lemmas.List.{length-append}
use Rattle.si_defs.specs.Substitutions.{Grows}
use Rattle.si_defs.proofs.ListLaws.{all_front, all_back, all_weaker}
use Rattle.std.specs.List.{AllByRecursion}
use Rattle.si_trail.specs.Trails.{Trail}
use Rattle.si_flat.specs.declared.Cell.{Cell}
use Rattle.si_flat.specs.Cells.{Term}
use Rattle.si_legal.specs.declared.Posting.{Posting}
use Rattle.si_legal.specs.Counts.{node_count}
use Rattle.si_legal.specs.Trees.{Node, HasNode}
use Rattle.si_changes.proofs.Frames.{legal_nodes}
use Rattle.si_unify.specs.Solving.{Pairs}
use Rattle.si_tree.specs.Reading.{IsNode, children_of, postings_of}
use Rattle.si_descend.specs.declared.pending.Pending.{Pending}
use Rattle.si_descend.specs.declared.search.Search.{Search}
use Rattle.si_descend.specs.Lending.{HasRoomForAnswers}
use Rattle.si_descend.specs.Pending.{ArePending, cut_back, HasTurned, IsDue, IsNextOpen, PutsDue, MayVisit, HasStepped, marks_of, pending_at}
use Rattle.si_descend.specs.Searching.{IsReady, IsClosedAt, IsOpenAt, HasFound}
use Rattle.si_descend.proofs.Passing.{HasPassed, passing_starts, passing_over, passed_few, next_new, apart_few}
use Rattle.si_descend.proofs.Gathering.{HasGathered, none_in, gathered_none, gathered_more, found_in_end, gathered_fits}
use Rattle.si_descend.proofs.PendingLaws.{keys_of, keys_long, turned, passed_over, passed_on, children_few, waiting_on, grown}

-- so many open nodes were passed, and their postings stand after the old ones
pub record IsFinding (search : Search) (top : ℕ) (entries : List Pending) (old now : List Posting) (n : ℕ) : Type 0 where
  pub passed : List ℕ
  pub found : List Posting
  pub nodes : HasPassed search.tree.now (IsOpenAt search) top (keys_of entries) passed
  pub gathered : HasGathered search.tree.now passed found
  pub count : n ≡ length passed
  pub list : now ≡ old ++ found

-- a node that is due is a node of the tree
pub due_node : (search : Search) (trail : Trail (Bor (List Cell))) (taken : Trail ⊤) (p : Pending) → IsDue search trail taken p → IsNode search.tree.now p.node
due_node search trail taken p is = by p.whole is.may where
  by : (whole : Bool) → MayVisit search p.node (cut_back p.mark trail) (cut_back p.taken_mark taken) whole → IsNode search.tree.now p.node
  by true may = may.0
  by false may = may.node

module _ (search : Search) (ready : IsReady search) (top : ℕ) (old : List Posting) where
  pub finding_starts : (trail : Trail (Bor (List Cell))) (taken : Trail ⊤) (entries : List Pending) → IsNode search.tree.now top → entries ≡ pending_at top trail taken ∷ [] → IsFinding search top entries old old 0
  finding_starts trail taken entries is e = record {
    passed = [];
    found = [];
    nodes = subst (λ l. HasPassed search.tree.now (IsOpenAt search) top (keys_of l) []) (sym e) (passing_starts search.tree.now (legal_nodes search.tree.now ready.legal) (IsOpenAt search) top is);
    gathered = gathered_none search.tree.now ready.legal;
    count = refl;
    list = sym (append-nil old);
  }

  -- ---- a turn
  module _ (front : List Pending) (next : Pending) (entries : List Pending) (are : entries ≡ front ++ next ∷ []) (now : List Posting) (n : ℕ) (h : IsFinding search top entries old now n) where
    pub finding_over : (trail : Trail (Bor (List Cell))) (taken : Trail ⊤) (mine : List Pending) → IsNode search.tree.now next.node → HasStepped search next trail taken front mine false → IsFinding search top mine old now n
    finding_over trail taken mine is stepped = record {
      passed = h.passed;
      found = h.found;
      nodes = passed_over search ready top front next entries h.passed are h.nodes mine is stepped.0 stepped.1;
      gathered = h.gathered;
      count = h.count;
      list = h.list;
    }

    module _ (node : Node Term) (has : HasNode search.tree.now next.node node) where
      pub finding_on : (trail : Trail (Bor (List Cell))) (taken : Trail ⊤) (mine : List Pending) (own later : List Posting) → HasStepped search next trail taken front mine true → own ≡ postings_of node.content → later ≡ now ++ own → IsFinding search top mine old later (n + 1)
      finding_on trail taken mine own later stepped e f = record {
        passed = next.node ∷ h.passed;
        found = h.found ++ postings_of node.content;
        nodes = passed_on search ready top front next entries h.passed are h.nodes node has stepped.1.tops stepped.1.visit mine stepped.1.marks stepped.1.pushed stepped.0;
        gathered = gathered_more search.tree.now ready.legal h.passed h.found next.node node h.gathered
            (next_new search.tree.now (legal_nodes search.tree.now ready.legal) (IsOpenAt search) top (keys_of front) next.node h.passed (turned search ready top front next entries h.passed are h.nodes)) has;
        count = omega (arith, h.count);
        list = f ∙ ap (λ l. now ++ l) e ∙ ap (λ l. l ++ postings_of node.content) h.list ∙ append_assoc old h.found (postings_of node.content);
      }

      -- the children of the next node can be pending beside the others
      pub finding_few_children : length front + length (children_of node.content) ≤ node_count search.tree.now
      finding_few_children = children_few search ready top front next entries h.passed are h.nodes node has

  -- ---- up to an open node
  -- those that were closed are gone
  finding_before : (trail : Trail (Bor (List Cell))) (taken : Trail ⊤) (front closed : List Pending) → AllByRecursion (λ p. IsNode search.tree.now p.node) closed → AllByRecursion (λ p. IsClosedAt search p.node) closed → (now : List Posting) (n : ℕ) → IsFinding search top (front ++ closed) old now n → IsFinding search top front old now n
  finding_before trail taken front [] nodes shut now n h = subst (λ l. IsFinding search top l old now n) (append-nil front) h
  finding_before trail taken front (p ∷ ps) nodes shut now n h =
      let one = finding_before trail taken (front ++ p ∷ []) ps nodes.1 shut.1 now n (subst (λ l. IsFinding search top l old now n) (sym (append_assoc front (p ∷ []) ps)) h) in
      finding_over front p (front ++ p ∷ []) refl now n one trail taken front nodes.0 (shut.0, refl)

  module _ (trail : Trail (Bor (List Cell))) (taken : Trail ⊤) (entries : List Pending) (due : AllByRecursion (IsDue search trail taken) entries) (now : List Posting) (n : ℕ) (h : IsFinding search top entries old now n) where
    nodes : AllByRecursion (λ p. IsNode search.tree.now p.node) entries
    nodes = all_weaker (IsDue search trail taken) (λ p. IsNode search.tree.now p.node) entries (λ p d. due_node search trail taken p d) due

    -- all were closed
    pub finding_none : AllByRecursion (λ p. IsClosedAt search p.node) entries → IsFinding search top [] old now n
    finding_none shut = finding_before trail taken [] entries nodes shut now n h

    module _ (front : List Pending) (next : Pending) (closed : List Pending) (is : IsNextOpen search entries front next closed) where
      next_nodes : AllByRecursion (λ p. IsNode search.tree.now p.node) ((front ++ next ∷ []) ++ closed)
      next_nodes = subst (AllByRecursion (λ p. IsNode search.tree.now p.node)) is.are nodes

      pub next_node : IsNode search.tree.now next.node
      next_node = (all_back (λ p. IsNode search.tree.now p.node) front (next ∷ []) (all_front (λ p. IsNode search.tree.now p.node) (front ++ next ∷ []) closed next_nodes)).0

      up_to_next : IsFinding search top (front ++ next ∷ []) old now n
      up_to_next =
          finding_before trail taken (front ++ next ∷ []) closed (all_back (λ p. IsNode search.tree.now p.node) (front ++ next ∷ []) closed next_nodes) is.closed_are now n
          (subst (λ l. IsFinding search top l old now n) is.are h)

      pub next_few_children : (node : Node Term) → HasNode search.tree.now next.node node → length front + length (children_of node.content) ≤ node_count search.tree.now
      next_few_children node has = finding_few_children front next (front ++ next ∷ []) refl now n up_to_next node has

    module _ (key : ℕ) (new : Trail (Bor (List Cell))) (after : Trail ⊤) (mine : List Pending) (t : HasTurned search key new after entries mine) where
      pub turned_node : IsNode search.tree.now key
      turned_node = subst (IsNode search.tree.now) t.node (next_node t.front t.next t.closed t.is)

      pub finding_turned : (own later : List Posting) → own ≡ postings_of turned_node.0.content → later ≡ now ++ own → IsFinding search top mine old later (n + 1)
      finding_turned own later e f =
          let node = turned_node in
          finding_on t.front t.next (t.front ++ t.next ∷ []) refl now n (up_to_next t.front t.next t.closed t.is) node.0 (subst (λ k. HasNode search.tree.now k node.0) (sym t.node) node.1) new after mine own later t.stepped e f

  -- ---- bounds
  module _ (entries : List Pending) (now : List Posting) (n : ℕ) (h : IsFinding search top entries old now n) where
    pub finding_few : n ≤ node_count search.tree.now
    finding_few = omega (arith, h.count, passed_few search.tree.now (legal_nodes search.tree.now ready.legal) (IsOpenAt search) top (keys_of entries) h.passed h.nodes)

    pub finding_short : length entries ≤ node_count search.tree.now
    finding_short = omega (arith, keys_long entries, apart_few search.tree.now (legal_nodes search.tree.now ready.legal) (keys_of entries) h.nodes.apart)

    pub finding_small : n < 2 ^ 64
    finding_small = omega (arith, finding_few, ready.small)

    pub finding_grows : Grows old now
    finding_grows = (h.found, h.list)

    pub finding_ends : entries ≡ [] → HasFound search top old now n
    finding_ends none =
        subst (HasFound search top old now) (sym h.count)
        (subst (λ l. HasFound search top old l (length h.passed)) (sym h.list)
        (found_in_end search ready top h.passed h.found old (subst (λ l. HasPassed search.tree.now (IsOpenAt search) top (keys_of l) h.passed) none h.nodes) h.gathered))

  -- for what was found there is room
  pub finding_fits : {A : Type 0} (entries : List Pending) (now : List Posting) (n : ℕ) (out : Vec Posting A) → old ≡ out.items → IsFinding search top entries old now n → HasRoomForAnswers search.tree.now top search.relation search.query.now out → length now ≤ vec_capacity out
  finding_fits entries now n out e h room =
      omega (
        arith,
        gathered_fits search ready top (keys_of entries) h.passed h.found out h.nodes h.gathered room,
        ap length h.list,
        length-append old h.found,
        ap length e,
      )

-- a closed node has nothing
pub found_closed : (search : Search) → IsReady search → (key : ℕ) → IsNode search.tree.now key → (old : List Posting) → IsClosedAt search key → HasFound search key old old 0
found_closed search ready key is old closed = finding_ends search ready key old [] old 0 done refl where
  done : IsFinding search key [] old old 0
  done = record {
    passed = [];
    found = [];
    nodes = passing_over search.tree.now (legal_nodes search.tree.now ready.legal) (IsOpenAt search) key [] key [] (passing_starts search.tree.now (legal_nodes search.tree.now ready.legal) (IsOpenAt search) key is) (none_in search ready key key is closed);
    gathered = gathered_none search.tree.now ready.legal;
    count = refl;
    list = sym (append-nil old);
  }

-- ---- the trails
module _ (search : Search) (base : Pairs) (first : List (ℕ × ⊤)) (old new : Trail (Bor (List Cell))) (before after : Trail ⊤) (front : List Pending) (next : Pending) (mine entries : List Pending) (are : entries ≡ front ++ next ∷ []) (h : ArePending search base first old before entries) where
  module _ (e : new.slots ≡ old.slots) (f : after.slots ≡ before.slots) (more : Grows (take next.mark old.pairs) new.pairs) (taken_more : Grows (take next.taken_mark before.pairs) after.pairs) where
    pub waiting_over : mine ≡ front → ArePending search base first new after mine
    waiting_over same =
        waiting_on search base first old new before after front next mine (marks_of next) [] (subst (ArePending search base first old before) are h) e f more taken_more (omega arith) (omega arith) (same ∙ sym (append-nil front)) tt

    pub waiting_more : PutsDue search next new after front mine → ArePending search base first new after mine
    waiting_more leaves =
        waiting_on search base first old new before after front next mine leaves.marks leaves.tops (subst (ArePending search base first old before) are h) e f more taken_more leaves.mark leaves.taken_mark leaves.pushed leaves.due

    pub waiting_grows : Grows base new.pairs
    waiting_grows = grown search base first old new before after front next (subst (ArePending search base first old before) are h) more
