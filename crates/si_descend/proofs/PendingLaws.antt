-- The list of nodes that are still to be visited, and how the trails stand for each of them.
use Rattle.std.specs.Borrow.{Bor}
use Rattle.std.specs.Bool.{⊤}
use Rattle.std.specs.List.{AllByRecursion}
use Rattle.std.proofs.Common.{◌≡◌, ◌⊎◌, inl, inr, ℕ, ◌+◌, ◌≤◌, List, [], ◌∷◌, ◌++◌, Some, length, map, take, drop, refl, ap, sym, ◌∙◌, subst, arith, append_assoc, append-nil}
use Rattle.std.proofs.lemmas.List.{map-append, length-append, take-append-le, length-take-le, take-append-drop, take_all}
use Rattle.si_defs.specs.Substitutions.{IsAmong, Grows}
use Rattle.si_defs.proofs.ListLaws.{all_front, all_back, all_append, all_with, all_weaker}
use Rattle.si_trail.specs.Trails.{Trail}
use Rattle.si_flat.specs.declared.Cell.{Cell}
use Rattle.si_flat.specs.Cells.{Term}
use Rattle.si_legal.specs.Trees.{Node, HasNode, Path, IsPath, PassesBy}
use Rattle.si_legal.specs.Counts.{node_count}
use Rattle.si_unify.specs.Solving.{Pairs}
use Rattle.si_unify.proofs.Answering.{front_of}
use Rattle.si_changes.proofs.Frames.{legal_nodes}
use Rattle.si_tree.specs.Reading.{IsNode, children_of}
use Rattle.si_descend.specs.declared.pending.Pending.{Pending}
use Rattle.si_descend.specs.declared.search.Search.{Search}
use Rattle.si_descend.specs.Pending.{ArePending, IsRisingFrom, cut_back, MayVisit, IsDue, AreToVisit, Marks, with_marks, pending_at}
use Rattle.si_descend.specs.Searching.{IsReady, IsAboveNode, IsOpenAt, IsClosedAt}
use Rattle.si_descend.proofs.Below.{IsChildOf}
use Rattle.si_descend.proofs.RightLaws.{child_among, among_child}
use Rattle.si_descend.proofs.Passing.{HasPassed, passing_over, passing_on, apart_few, apart_next}
use Rattle.si_descend.proofs.Gathering.{none_in}
use Rattle.si_descend.proofs.Visiting.{siblings, same_trail}

-- ---- keys
abbrev pub keys_of : List Pending → List ℕ
keys_of entries = map (λ p. p.node) entries

keys_at : (p : Marks) (tops : List ℕ) → keys_of (with_marks p tops) ≡ tops
keys_at p [] = refl
keys_at p (top ∷ tops) = ap (λ l. top ∷ l) (keys_at p tops)

pub length_at : (p : Marks) (tops : List ℕ) → length (with_marks p tops) ≡ length tops
length_at p [] = refl
length_at p (top ∷ tops) = omega (arith, length_at p tops)

pub keys_long : (entries : List Pending) → length (keys_of entries) ≡ length entries
keys_long [] = refl
keys_long (p ∷ entries) = omega (arith, keys_long entries)

keys_then : (old new : List Pending) (p : Marks) (tops : List ℕ) → new ≡ old ++ with_marks p tops → keys_of new ≡ keys_of old ++ tops
keys_then old new p tops e =
    ap keys_of e ∙ map-append (λ p. p.node) old (with_marks p tops) ∙ ap (λ l. keys_of old ++ l) (keys_at p tops)

pub all_at_once : (P : Pending → Type 0) (p : Marks) (tops : List ℕ) → ((key : ℕ) → IsAmong tops key → P (record { node = key; mark = p.mark; taken_mark = p.taken_mark; whole = p.whole })) → AllByRecursion P (with_marks p tops)
all_at_once P p [] holds = tt
all_at_once P p (top ∷ tops) holds = (holds top (inl refl), all_at_once P p tops (λ key a. holds key (inr a)))

-- one more is pending
pub one_pending_more : (old items new : List Pending) (p : Marks) (tops : List ℕ) (key : ℕ) → items ≡ old ++ with_marks p tops → new ≡ items ++ record { node = key; mark = p.mark; taken_mark = p.taken_mark; whole = p.whole } ∷ [] → new ≡ old ++ with_marks p (tops ++ key ∷ [])
one_pending_more old items new p tops key e f =
    let entry : Pending = record { node = key; mark = p.mark; taken_mark = p.taken_mark; whole = p.whole } in
    f ∙ ap (λ l. l ++ entry ∷ []) e ∙ append_assoc old (with_marks p tops) (entry ∷ [])
    ∙ ap (λ l. old ++ l) (sym (map-append (λ k. record { node = k; mark = p.mark; taken_mark = p.taken_mark; whole = p.whole }) tops (key ∷ [])))

-- ---- marks
abbrev pub IsBefore : ℕ → ℕ → Pending → Type 0
IsBefore mark taken_mark p = (p.mark ≤ mark) × (p.taken_mark ≤ taken_mark)

record IsLastMark (m k : ℕ) (ps : List Pending) (p : Pending) : Type 0 where
  pub mark : m ≤ p.mark
  pub taken_mark : k ≤ p.taken_mark
  pub others : IsRisingFrom m k ps
  pub before : AllByRecursion (IsBefore p.mark p.taken_mark) ps

rising_last : (m k : ℕ) (ps : List Pending) (p : Pending) → IsRisingFrom m k (ps ++ p ∷ []) → IsLastMark m k ps p
rising_last m k [] p h = record { mark = h.0; taken_mark = h.1; others = tt; before = tt }
rising_last m k (q ∷ qs) p h =
    let rest = rising_last q.mark q.taken_mark qs p h.2 in
    record {
      mark = omega (arith, h.0, rest.mark);
      taken_mark = omega (arith, h.1, rest.taken_mark);
      others = (h.0, h.1, rest.others);
      before = ((rest.mark, rest.taken_mark), rest.before);
    }

rising_flat : (m k : ℕ) (p : Marks) (tops : List ℕ) → m ≤ p.mark → k ≤ p.taken_mark → IsRisingFrom m k (with_marks p tops)
rising_flat m k p [] e f = tt
rising_flat m k p (top ∷ tops) e f = (e, f, rising_flat p.mark p.taken_mark p tops (omega arith) (omega arith))

rising_more : (m k : ℕ) (p : Marks) (ps : List Pending) (tops : List ℕ) → IsRisingFrom m k ps → AllByRecursion (IsBefore p.mark p.taken_mark) ps → m ≤ p.mark → k ≤ p.taken_mark → IsRisingFrom m k (ps ++ with_marks p tops)
rising_more m k p [] tops h before e f = rising_flat m k p tops e f
rising_more m k p (q ∷ qs) tops h before e f = (h.0, h.1, rising_more q.mark q.taken_mark p qs tops h.2 before.1 before.0.0 before.0.1)

-- ---- trails
module _ {X : Type 0} where
  take_less : (m n : ℕ) (xs : List X) → m ≤ n → n ≤ length xs → take m (take n xs) ≡ take m xs
  take_less m n xs less within =
      sym (take-append-le m (take n xs) (drop n xs) (omega (arith, less, within, length-take-le n xs within))) ∙ ap (take m) (take-append-drop n xs)

  -- what was there so far stays
  pub front_stays : (m n : ℕ) (old new : List X) → m ≤ n → n ≤ length old → Grows (take n old) new → take m new ≡ take m old
  front_stays m n old new less within grows =
      ap (take m) grows.1 ∙ take-append-le m (take n old) grows.0 (omega (arith, less, length-take-le n old within)) ∙ take_less m n old less within

  pub grows_cut : (n : ℕ) (xs : List X) → Grows (take n xs) xs
  grows_cut n xs = (drop n xs, sym (take-append-drop n xs))

  pub no_shorter : (n : ℕ) (old new : List X) → n ≤ length old → Grows (take n old) new → n ≤ length new
  no_shorter n old new within grows = omega (arith, ap length grows.1, length-append (take n old) grows.0, length-take-le n old within)

  -- back to no less than there was at first
  pub grows_still : (base old new : List X) (n : ℕ) → Grows base old → length base ≤ n → n ≤ length old → Grows (take n old) new → Grows base new
  grows_still base old new n grows less within more = by where
    kept : take (length base) new ≡ base
    kept = front_stays (length base) n old new less within more ∙ front_of base old grows

    by : Grows base new
    by = (drop (length base) new, sym (take-append-drop (length base) new) ∙ ap (λ l. l ++ drop (length base) new) kept)

cut_all : {T : Type 0} (n : ℕ) (trail : Trail T) → n ≡ length trail.pairs → cut_back n trail ≡ trail
cut_all n trail e = same_trail (cut_back n trail) trail refl (take_all n trail.pairs (omega (arith, e)))

cut_same : {T : Type 0} (m n : ℕ) (old new : Trail T) → new.slots ≡ old.slots → m ≤ n → n ≤ length old.pairs → Grows (take n old.pairs) new.pairs → cut_back m new ≡ cut_back m old
cut_same m n old new e less within grows = same_trail (cut_back m new) (cut_back m old) e (front_stays m n old.pairs new.pairs less within grows)

-- as long as it was, it is the trail of then
pub undone : {T : Type 0} (n : ℕ) (old new : Trail T) → new.slots ≡ old.slots → new.pairs ≡ take n old.pairs → cut_back n old ≡ new
undone n old new e f = same_trail (cut_back n old) new (sym e) (sym f)

module _ (search : Search) where
  pub due_at_once : (key : ℕ) (trail : Trail (Bor (List Cell))) (taken : Trail ⊤) → IsAboveNode search key trail taken → IsDue search trail taken (pending_at key trail taken)
  due_at_once key trail taken above = record {
    mark = omega arith;
    taken_mark = omega arith;
    may = subst (λ t. IsAboveNode search key t (cut_back (length taken.pairs) taken)) (sym (cut_all (length trail.pairs) trail refl)) (subst (λ t. IsAboveNode search key trail t) (sym (cut_all (length taken.pairs) taken refl)) above);
  }

  pub waiting_starts : (key : ℕ) (trail : Trail (Bor (List Cell))) (taken : Trail ⊤) (entries : List Pending) → entries ≡ pending_at key trail taken ∷ [] → IsAboveNode search key trail taken → ArePending search trail.pairs taken.pairs trail taken entries
  waiting_starts key trail taken entries e above =
      subst (ArePending search trail.pairs taken.pairs trail taken) (sym e) (record {
        due = (due_at_once key trail taken above, tt);
        rising = (omega arith, omega arith, tt);
        grows = ([], sym (append-nil trail.pairs));
        taken_grows = ([], sym (append-nil taken.pairs));
      })

  module _ (base : Pairs) (first : List (ℕ × ⊤)) (old new : Trail (Bor (List Cell))) (before after : Trail ⊤) (front : List Pending) (next : Pending) where
    pub waiting_next : ArePending search base first old before (front ++ next ∷ []) → IsDue search old before next
    waiting_next h = (all_back (IsDue search old before) front (next ∷ []) h.due).0

    -- the trail holds what it held at first
    pub grown : ArePending search base first old before (front ++ next ∷ []) → Grows (take next.mark old.pairs) new.pairs → Grows base new.pairs
    grown h more =
        let last = rising_last (length base) (length first) front next h.rising in
        grows_still base old.pairs new.pairs next.mark h.grows last.mark (waiting_next h).mark more

    pub waiting_on : (mine : List Pending) (p : Marks) (tops : List ℕ) → ArePending search base first old before (front ++ next ∷ []) → new.slots ≡ old.slots → after.slots ≡ before.slots → Grows (take next.mark old.pairs) new.pairs → Grows (take next.taken_mark before.pairs) after.pairs → next.mark ≤ p.mark → next.taken_mark ≤ p.taken_mark → mine ≡ front ++ with_marks p tops → AllByRecursion (IsDue search new after) (with_marks p tops) → ArePending search base first new after mine
    waiting_on mine p tops h e f more taken_more less taken_less pushed due =
        let last = rising_last (length base) (length first) front next h.rising in
        let is = waiting_next h in
        subst (ArePending search base first new after) (sym pushed) (record {
          due = all_append (IsDue search new after) front (with_marks p tops)
              (all_with (IsDue search old before) (IsBefore next.mark next.taken_mark) (IsDue search new after) front (λ q d b. stays q d b is) (all_front (IsDue search old before) front (next ∷ []) h.due) last.before) due;
          rising = rising_more (length base) (length first) p front tops last.others
              (all_weaker (IsBefore next.mark next.taken_mark) (IsBefore p.mark p.taken_mark) front (λ q b. (omega (arith, b.0, less), omega (arith, b.1, taken_less))) last.before)
              (omega (arith, last.mark, less)) (omega (arith, last.taken_mark, taken_less));
          grows = grows_still base old.pairs new.pairs next.mark h.grows last.mark is.mark more;
          taken_grows = grows_still first before.pairs after.pairs next.taken_mark h.taken_grows last.taken_mark is.taken_mark taken_more;
        })
      where
        stays : (p : Pending) → IsDue search old before p → IsBefore next.mark next.taken_mark p → IsDue search old before next → IsDue search new after p
        stays p d b is = record {
          mark = omega (arith, b.0, no_shorter next.mark old.pairs new.pairs is.mark more);
          taken_mark = omega (arith, b.1, no_shorter next.taken_mark before.pairs after.pairs is.taken_mark taken_more);
          may = subst (λ t. MayVisit search p.node t (cut_back p.taken_mark after) p.whole) (sym (cut_same p.mark next.mark old new e b.0 is.mark more))
              (subst (λ t. MayVisit search p.node (cut_back p.mark old) t p.whole) (sym (cut_same p.taken_mark next.taken_mark before after f b.1 is.taken_mark taken_more)) d.may);
        }

-- ---- nodes
module _ (search : Search) (ready : IsReady search) (top : ℕ) (front : List Pending) (next : Pending) (entries : List Pending) (passed : List ℕ) (are : entries ≡ front ++ next ∷ []) (h : HasPassed search.tree.now (IsOpenAt search) top (keys_of entries) passed) where
  pub turned : HasPassed search.tree.now (IsOpenAt search) top (keys_of front ++ next.node ∷ []) passed
  turned = subst (λ l. HasPassed search.tree.now (IsOpenAt search) top l passed) (ap keys_of are ∙ map-append (λ p. p.node) front (next ∷ [])) h

  pub passed_over : (mine : List Pending) → IsNode search.tree.now next.node → IsClosedAt search next.node → mine ≡ front → HasPassed search.tree.now (IsOpenAt search) top (keys_of mine) passed
  passed_over mine is closed e =
      subst (λ l. HasPassed search.tree.now (IsOpenAt search) top (keys_of l) passed) (sym e)
      (passing_over search.tree.now (legal_nodes search.tree.now ready.legal) (IsOpenAt search) top (keys_of front) next.node passed turned (none_in search ready top next.node is closed))

  module _ (node : Node Term) (has : HasNode search.tree.now next.node node) where
    pub passed_on : (tops : List ℕ) → AreToVisit search next.node tops → (mine : List Pending) (p : Marks) → mine ≡ front ++ with_marks p tops → IsOpenAt search next.node → HasPassed search.tree.now (IsOpenAt search) top (keys_of mine) (next.node ∷ passed)
    passed_on tops visit mine p pushed is =
        subst (λ l. HasPassed search.tree.now (IsOpenAt search) top l (next.node ∷ passed)) (sym (keys_then front mine p tops pushed))
        (passing_on search.tree.now (legal_nodes search.tree.now ready.legal) (IsOpenAt search) top (keys_of front) next.node passed tops turned is visit.distinct
        (λ child a. among_child search.tree.now (legal_nodes search.tree.now ready.legal) next.node node has child (visit.within node has child a)) left)
      where
        left : (child : ℕ) → IsChildOf search.tree.now next.node child → IsAmong tops child ⊎ ((key : ℕ) (p : Path) → IsPath search.tree.now (Some key) p → PassesBy p child → IsOpenAt search key → ⊥)
        left child c = elim (visit.others node has child (child_among search.tree.now (legal_nodes search.tree.now ready.legal) next.node node has child c)) as (λ _. IsAmong tops child ⊎ ((key : ℕ) (p : Path) → IsPath search.tree.now (Some key) p → PassesBy p child → IsOpenAt search key → ⊥)) [
          | inl a ↦ inl a
          | inr closed ↦ inr (none_in search ready top child (c.0, c.1) closed)
        ]

    -- there are no more nodes than the tree has
    pub children_few : length front + length (children_of node.content) ≤ node_count search.tree.now
    children_few =
        let are = siblings search ready next.node node has in
        omega (
          arith,
          apart_few search.tree.now (legal_nodes search.tree.now ready.legal) (keys_of front ++ children_of node.content)
              (apart_next search.tree.now (legal_nodes search.tree.now ready.legal) (keys_of front) next.node turned.apart (children_of node.content) are.distinct are.are),
          length-append (keys_of front) (children_of node.content),
          keys_long front,
        )
