-- Where the entries of postings stand, and that the entries that stand there, in order, are those
-- of the postings.
use Rattle.std.proofs.Common.{◌≡◌, ◌⊎◌, inl, inr, ℕ, zero, suc, ◌+◌, ◌<◌, ◌≤◌, Bool, true, false, List, [], ◌∷◌, ◌++◌, length, map, get_or, take, refl, sym, ◌∙◌, ap, subst, arith, length-append}
use Rattle.std.specs.Prelude.{Some, slice_get}
use Rattle.std.proofs.Math.Seq.{take-suc}
use Rattle.std.specs.List.{AllByRecursion, AllZip, IsDistinct}
use Rattle.std.specs.List.Sorted.{IsPermutation}
use Rattle.std.proofs.lemmas.Bool.{cases_Bool, and_parts, eqb-true}
use Rattle.std.proofs.lemmas.List.{length-map, map-append}
use Rattle.std.proofs.lemmas.List.Elements.{All-from_recursion, recursion_from_All}
use Rattle.std.proofs.lemmas.List.Sorted.{All-permutation, IsPermutation-map, IsPermutation-sym}
use Rattle.std.proofs.lemmas.Map.Keys.{IsDistinct-cons}
use Rattle.std.proofs.lemmas.Option.{same_Some, none-some}
use Rattle.si_defs.specs.Symbols.{Numbering}
use Rattle.si_defs.specs.Clauses.{Clause, Pattern, literal_pattern, term_pattern}
use Rattle.si_defs.specs.Entries.{Entry, literal_entry, term_entry, Placed, entries, state_entries, placed_in}
use Rattle.si_defs.specs.Substitutions.{IsAmong, AreDistinct}
use Rattle.si_defs.specs.declared.Relation.{Relation}
use Rattle.si_defs.proofs.ListLaws.{all_at, all_from, all_weaker, all_append, among_parts, get_among}
use Rattle.si_state.specs.Answers.{Stands}
use Rattle.si_term.specs.Meaning.{clause_of}
use Rattle.si_flat.specs.declared.Cell.{Cell}
use Rattle.si_flat.specs.declared.flatten.FlatQuery.{FlatQuery}
use Rattle.si_flat.specs.Cells.{entry, Term}
use Rattle.si_flat.specs.Flattened.{FlattensPattern, numbered_entry}
use Rattle.si_form.proofs.Moving.{among_map}
use Rattle.si_keyed.specs.Placed.{PlacesRise}
use Rattle.si_keyed.proofs.PlacedLaws.{lower_position, same_position, key_there, key_is}
use Rattle.si_legal.specs.declared.Posting.{Posting}
use Rattle.si_legal.specs.Engines.{AreAnswers, AppendsAnswers}
use Rattle.si_legal.specs.KeptTrees.{is_literal, IsPostingOf}
use Rattle.si_legal.specs.Trees.{Tree, IsLeaf, StandsIn}
use Rattle.si_held.specs.TwoTrees.{tree_for}
use Rattle.si_held.proofs.Holding.{held}
use Rattle.si_held.proofs.KeyLaws.{one_entry as kept_once}
use Rattle.si_index.specs.Kept.{Kept, AreKeyed, TreesHold, paired, kept_clauses}
use Rattle.si_index.specs.Leaves.{HasLeafAt, AreUnmade, StayMade}
use Rattle.si_index.specs.Engines.{Answering, asks_literals, AreAsked, AnswersStanding, IsOfStanding, posted_from, posted_entries, AreAnswered}
use Rattle.si_index.specs.Gathering.{IsLower, IsBefore, Rise, IsPostingAt, StoresPosting, IsInLeaf, AreInOrder, IsHitAt, IsStandingAt}
use Rattle.si_index.specs.Slots.{Slots, HasSlots, IsIn}
use Rattle.si_index.specs.Sorting.{AreSorted}
use Rattle.si_index.specs.Searching.{numbers_of, pattern_in, tree_in, term_in, AreCompared, IsOfLeaf}
use Rattle.si_index.specs.declared.search.Search.{Search}
use Rattle.si_index.specs.declared.wanted.Leaf.{Leaf}
use Rattle.si_index.specs.declared.wanted.Ordered.{Ordered}
use Rattle.si_index.specs.declared.wanted.Wanted.{Wanted}
use Rattle.si_index.proofs.EngineLaws.{Posted, stands_at, got_there, among_key, one_clause}
use Rattle.si_index.proofs.FlatLaws.{alike_standing}
use Rattle.si_index.proofs.SlotLaws.{place_among, has_key, has_clause, one_key}
use Rattle.si_index.proofs.OrderLaws.{is_same, lower_then, sorted_rise, distinct_sorted}

-- ---- members of a list in another order
among_permutation : {X : Type 0} (xs ys : List X) → IsPermutation xs ys → (x : X) → IsAmong ys x → IsAmong xs x
among_permutation xs ys moved x a =
    all_at (IsAmong xs) ys x
    (recursion_from_All (IsAmong xs) ys (All-permutation (IsAmong xs) xs ys moved (All-from_recursion (IsAmong xs) xs (all_from (IsAmong xs) xs (λ y b. b)))))
    a

-- ---- postings, and where their entries stand
abbrev pub posting_at : Slots → Wanted → Posting
posting_at slots w = record { clause = key_there slots w.slot; entry = w.entry }

-- the entries of these postings stand there, and in these leaves
pub record ArePlaced (slots : Slots) (tree : Tree Term) (leaves : List Leaf) (postings : List Posting) (ws : List Wanted) : Type 0 where
  pub postings_are : map (posting_at slots) ws ≡ postings
  pub in_leaves : AllByRecursion (IsInLeaf slots tree leaves) ws

-- the one of this posting does
pub record IsPlaced (slots : Slots) (tree : Tree Term) (leaves : List Leaf) (p : Posting) (w : Wanted) : Type 0 where
  pub key : IsIn slots w.slot p.clause
  pub number : w.entry ≡ p.entry
  pub node : ℕ
  pub has_node : HasLeafAt leaves w.leaf node
  pub term : Term
  pub stands : StandsIn tree node term p

in_leaf : (slots : Slots) (tree : Tree Term) (leaves : List Leaf) (p : Posting) (w : Wanted) → IsPlaced slots tree leaves p w → IsInLeaf slots tree leaves w
in_leaf slots tree leaves p w h = record {
  key = p.clause;
  has_key = h.key;
  node = h.node;
  has_node = h.has_node;
  term = h.term;
  stands = subst (StandsIn tree h.node h.term) (λ i. record { clause = p.clause; entry = sym h.number i }) h.stands;
}

leaf_stays : (slots : Slots) (tree : Tree Term) (old new : List Leaf) (w : Wanted) → StayMade old new → IsInLeaf slots tree old w → IsInLeaf slots tree new w
leaf_stays slots tree old new w stay h = record {
  key = h.key;
  has_key = h.has_key;
  node = h.node;
  has_node = stay.nodes w.leaf h.node h.has_node;
  term = h.term;
  stands = h.stands;
}

placed_more : (slots : Slots) (tree : Tree Term) (old new : List Leaf) (postings : List Posting) (ws : List Wanted) (p : Posting) (w : Wanted) → PlacesRise slots → ArePlaced slots tree old postings ws → StayMade old new
    → IsPlaced slots tree new p w → ArePlaced slots tree new (postings ++ p ∷ []) (ws ++ w ∷ [])
placed_more slots tree old new postings ws p w rise h stay one =
    let same : posting_at slots w ≡ p = λ i. record { clause = key_is slots w.slot p.clause one.key.0 rise one.key.1 i; entry = one.number i } in
    record {
      postings_are = map-append (posting_at slots) ws (w ∷ []) ∙ (λ i. h.postings_are i ++ same i ∷ []);
      in_leaves =
          all_append (IsInLeaf slots tree new) ws (w ∷ []) (all_weaker (IsInLeaf slots tree old) (IsInLeaf slots tree new) ws (λ v. leaf_stays slots tree old new v stay) h.in_leaves)
          (in_leaf slots tree new p w one, tt);
    }

pub placed_next : (slots : Slots) (tree : Tree Term) (old new : List Leaf) (postings : List Posting) (ws : List Wanted) (i : ℕ) (d : Posting) (w : Wanted) → PlacesRise slots → i < length postings → ArePlaced slots tree old (take i postings) ws
    → StayMade old new → IsPlaced slots tree new (get_or postings i d) w → ArePlaced slots tree new (take (i + 1) postings) (ws ++ w ∷ [])
placed_next slots tree old new postings ws i d w rise less h stay one =
    let turn : suc i ≡ i + 1 = omega arith in
    subst (λ ps. ArePlaced slots tree new ps (ws ++ w ∷ [])) (sym (take-suc postings i d less) ∙ ap (λ n. take n postings) turn) (placed_more slots tree old new (take i postings) ws (get_or postings i d) w rise h stay one)

differ_from : (slots : Slots) (w : Wanted) (ws : List Wanted) → (IsAmong (map (posting_at slots) ws) (posting_at slots w) → ⊥) → AllByRecursion (λ v. is_same w v ≡ false) ws
differ_from slots w ws none = all_from (λ v. is_same w v ≡ false) ws (λ v a. apart v a (cases_Bool (is_same w v))) where
  apart : (v : Wanted) → IsAmong ws v → (is_same w v ≡ true) ⊎ (is_same w v ≡ false) → is_same w v ≡ false
  apart v a (inr differ) = differ
  apart v a (inl same) =
      let parts = and_parts _ _ same in
      let slot = eqb-true w.slot v.slot parts.0 in
      let number = eqb-true w.entry v.entry parts.1 in
      absurd (none (subst (IsAmong (map (posting_at slots) ws)) (λ i. record { clause = key_there slots (sym slot i); entry = sym number i }) (among_map (posting_at slots) ws v a)))

distinct_places : (slots : Slots) (ws : List Wanted) → AreDistinct (map (posting_at slots) ws) → IsDistinct is_same ws
unfolding IsDistinct
distinct_places slots [] distinct = tt
distinct_places slots (w ∷ ws) distinct = IsDistinct-cons is_same w ws (differ_from slots w ws distinct.0) (distinct_places slots ws distinct.1)

each_placed : (slots : Slots) (tree : Tree Term) (leaves : List Leaf) (ws : List Wanted) → PlacesRise slots → AllByRecursion (IsInLeaf slots tree leaves) ws → AllZip (IsPostingAt slots) (map (posting_at slots) ws) ws
each_placed slots tree leaves [] rise in_leaves = tt
each_placed slots tree leaves (w ∷ ws) rise in_leaves =
    let key = key_is slots w.slot in_leaves.0.key in_leaves.0.has_key.0 rise in_leaves.0.has_key.1 in
    ((subst (IsIn slots w.slot) (sym key) in_leaves.0.has_key, refl), each_placed slots tree leaves ws rise in_leaves.1)

moved_all : (P : Wanted → Type 0) (ws vs : List Wanted) → IsPermutation ws vs → AllByRecursion P ws → AllByRecursion P vs
moved_all P ws vs moved all = recursion_from_All P vs (All-permutation P ws vs moved (All-from_recursion P ws all))

pub sorted_in_order : (slots : Slots) (tree : Tree Term) (postings : List Posting) (ws : List Wanted) (o : Ordered) → PlacesRise slots → ArePlaced slots tree o.leaves.items postings ws → AreUnmade o.leaves.items → AreDistinct postings
    → IsPermutation ws o.places.items → AreSorted o.places.items → AreInOrder slots tree postings o
sorted_in_order slots tree postings ws o rise placed unmade distinct moved sorted =
    let vs = o.places.items in
    let in_leaves = moved_all (IsInLeaf slots tree o.leaves.items) ws vs moved placed.in_leaves in
    let apart = distinct_places slots ws (subst AreDistinct (sym placed.postings_are) distinct) in
    record {
      ordered = map (posting_at slots) vs;
      same = subst (λ ps. IsPermutation ps (map (posting_at slots) vs)) placed.postings_are (IsPermutation-map (posting_at slots) ws vs moved);
      each = each_placed slots tree o.leaves.items vs rise in_leaves;
      rise = sorted_rise vs sorted (distinct_sorted ws vs moved apart);
      in_leaves = in_leaves;
      unmade = unmade;
    }

-- ---- what stands there
paired_got : (keys : List ℕ) (cs : List Clause) (n key : ℕ) (c : Clause) → slice_get keys n ≡ Some key → slice_get cs n ≡ Some c → slice_get (paired keys cs) n ≡ Some (key, c)
paired_got [] cs n key c a b = absurd (none-some key a)
paired_got (k ∷ keys) [] n key c a b = absurd (none-some c b)
paired_got (k ∷ keys) (d ∷ cs) zero key c a b = λ i. Some (same_Some k key a i, same_Some d c b i)
paired_got (k ∷ keys) (d ∷ cs) (suc n) key c a b = paired_got keys cs n key c a b

same_kind : (p : Pattern) (e : Entry) → AreCompared p e → is_literal e ≡ asks_literals p
same_kind (literal_pattern l) (literal_entry k) alike = refl
same_kind (term_pattern t) (term_entry u) alike = refl
same_kind (literal_pattern l) (term_entry u) alike = absurd alike
same_kind (term_pattern t) (literal_entry k) alike = absurd alike

-- the tree that is asked stores it
stored_standing : (k : Kept) (relation : Relation) (p : Pattern) (q : Posting) → TreesHold k → IsOfStanding k relation p q → StoresPosting (tree_for (asks_literals p) k.trees) q
stored_standing k relation p q hold s = (
  numbered_entry k.numbers entry s.0,
  (held k.numbers (kept_clauses k) k.trees hold (asks_literals p) (numbered_entry k.numbers entry s.0) q).1 (s.0, s.1, same_kind p s.0 (alike_standing relation p s.0 s.2), refl),
)

pub postings_stored : (k : Kept) (relation : Relation) (p : Pattern) (postings : List Posting) → TreesHold k
    → ((q : Posting) → IsAmong postings q → IsOfStanding k relation p q) → AllByRecursion (StoresPosting (tree_for (asks_literals p) k.trees)) postings
postings_stored k relation p postings hold standing = all_from (StoresPosting (tree_for (asks_literals p) k.trees)) postings (λ q a. stored_standing k relation p q hold (standing q a))

-- of a search whose numbers are those of its index, and whose trees hold the clauses
module _ (s : Search) (leaves : List Leaf) (slots : HasSlots s.index.now s.slots) (keyed : AreKeyed s.index.now) (hold : TreesHold s.index.now) (numbers : numbers_of s ≡ s.index.now.numbers) where
  -- the leaf of a posting has the term of its entry
  leaf_term : (q : Posting) (w : Wanted) (e : Entry) → IsPostingAt s.slots q w → IsInLeaf s.slots (tree_in s) leaves w → IsPostingOf (kept_clauses s.index.now) q e → IsOfLeaf s leaves w.leaf e
  leaf_term q w e there h own =
      let k = s.index.now in
      let key = one_key s.slots w.slot h.key q.clause slots.rise h.has_key there.0 in
      let stands : StandsIn (tree_in s) h.node h.term q = subst (StandsIn (tree_in s) h.node h.term) (λ i. record { clause = key i; entry = there.1 i }) h.stands in
      let of = (held k.numbers (kept_clauses k) k.trees hold (asks_literals (pattern_in s)) h.term q).0 (h.node, stands) in
      let same : of.0 ≡ e = kept_once (kept_clauses k) q of.0 e hold.keys of.1 own in
      let term : h.term ≡ term_in s e = of.3 ∙ ap (numbered_entry k.numbers entry) same ∙ ap (λ ns. numbered_entry ns entry e) (sym numbers) in
      (h.node, h.has_node, (stands.0, subst (λ t. IsLeaf (tree_in s) h.node t stands.0) term stands.1))

  -- the entry of a posting of an entry in the relation
  standing_at : (q : Posting) (w : Wanted) → IsPostingAt s.slots q w → IsInLeaf s.slots (tree_in s) leaves w → IsOfStanding s.index.now s.relation (pattern_in s) q → IsStandingAt s leaves w
  standing_at q w there in_its standing =
      let k = s.index.now in
      let own = standing.1 in
      let c = there.0.0 in
      let at = place_among s.slots (w.slot, (q.clause, c)) there.0.1 in
      let pair = paired_got k.keys k.clauses at.0 q.clause (clause_of c) (has_key k s.slots slots at.0 w.slot q.clause c at.1) (has_clause k s.slots slots at.0 w.slot q.clause c at.1) in
      let clause : clause_of c ≡ own.clause = one_clause k.keys k.clauses q.clause (clause_of c) own.clause keyed.distinct (get_among (kept_clauses k) at.0 (q.clause, clause_of c) pair) own.is_kept in
      record {
        hit = (at.0, own.placed);
        at = record {
          key = q.clause;
          clause = c;
          there = at.1;
          numbered = (λ i. slice_get (entries (clause i)) (there.1 i)) ∙ own.numbered;
        };
        stands = subst (Stands s.relation (pattern_in s)) (sym own.entry_is) standing.2;
        of_leaf = subst (IsOfLeaf s leaves w.leaf) (sym own.entry_is) (leaf_term q w standing.0 there in_its own);
      }

  all_standing : (qs : List Posting) (ws : List Wanted) → AllZip (IsPostingAt s.slots) qs ws → AllByRecursion (IsInLeaf s.slots (tree_in s) leaves) ws
      → ((q : Posting) → IsAmong qs q → IsOfStanding s.index.now s.relation (pattern_in s) q) → AllByRecursion (IsStandingAt s leaves) ws
  all_standing [] [] each in_leaves standing = tt
  all_standing [] (w ∷ ws) each in_leaves standing = absurd each
  all_standing (q ∷ qs) [] each in_leaves standing = absurd each
  all_standing (q ∷ qs) (w ∷ ws) each in_leaves standing = (standing_at q w each.0 in_leaves.0 (standing q (inl refl)), all_standing qs ws each.1 in_leaves.1 (λ p a. standing p (inr a)))

pub wanted_stand : (s : Search) (postings : List Posting) (o : Ordered) → HasSlots s.index.now s.slots → AreKeyed s.index.now → TreesHold s.index.now → numbers_of s ≡ s.index.now.numbers → AreInOrder s.slots (tree_in s) postings o
    → ((q : Posting) → IsAmong postings q → IsOfStanding s.index.now s.relation (pattern_in s) q) → AllByRecursion (IsStandingAt s o.leaves.items) o.places.items
wanted_stand s postings o slots keyed hold numbers order standing =
    all_standing s o.leaves.items slots keyed hold numbers order.ordered o.places.items order.each order.in_leaves (λ q a. standing q (among_permutation postings order.ordered order.same q a))

-- ---- an engine was asked for the pattern, and answered this
pub record IsAnsweredBy (answers : Answering) (k : Kept) (relation : Relation) (p : Pattern) (cells : List Cell) (seen : List Posting) : Type 0 where
  pub asked : AreAsked k.numbers p cells
  pub are : AreAnswers (answers (asks_literals p) relation cells) seen
  pub standing : (q : Posting) → IsAmong seen q → IsOfStanding k relation p q

pub is_answered : (answers : Answering) (k : Kept) (relation : Relation) (p : Pattern) (numbers : Numbering) (query : FlatQuery) (literal : Bool) (old new seen : List Posting)
    → numbers ≡ k.numbers → FlattensPattern numbers p query → AnswersStanding answers k relation p → literal ≡ asks_literals p
    → AppendsAnswers (answers literal relation query.flat) old new → old ≡ [] → seen ≡ new → IsAnsweredBy answers k relation p query.flat seen
is_answered answers k relation p numbers query literal old new seen same flat standing kind appends none is =
    let asked : AreAsked k.numbers p query.flat = (query, subst (λ ns. FlattensPattern ns p query) same flat, refl) in
    let are : AreAnswers (answers (asks_literals p) relation query.flat) seen =
    subst (λ b. AreAnswers (answers b relation query.flat) seen) kind
    (subst (AreAnswers (answers literal relation query.flat)) (sym (is ∙ appends.appended ∙ ap (λ l. l ++ appends.answers) none)) appends.are) in
    record {
      asked = asked;
      are = are;
      standing = λ q a. standing query.flat asked q ((are.exact q).0 a);
    }

-- they have the keys of clauses
pub postings_keyed : (k : Kept) (relation : Relation) (p : Pattern) (postings : List Posting)
    → ((q : Posting) → IsAmong postings q → IsOfStanding k relation p q) → AllByRecursion (λ q. IsAmong k.keys q.clause) postings
postings_keyed k relation p postings standing =
    all_from (λ q. IsAmong k.keys q.clause) postings (λ q a. let own = (standing q a).1 in among_key k.keys k.clauses q.clause own.clause own.is_kept)

-- ---- entries, each before all after it
abbrev place : Posted → ℕ × ℕ
place x = (x.1.0, x.0.entry)

abbrev pub Follow : List Posted → Type 0
Follow [] = Unit {0}
Follow (x ∷ xs) = ((y : Posted) → IsAmong xs y → IsLower (place x) (place y)) × Follow xs

never_before : (w : ℕ × ℕ) → IsLower w w → ⊥
never_before w (inl less) = omega (arith, less)
never_before w (inr both) = omega (arith, both.1)

follow_append : (xs ys : List Posted) → Follow xs → Follow ys → ((x y : Posted) → IsAmong xs x → IsAmong ys y → IsLower (place x) (place y)) → Follow (xs ++ ys)
follow_append [] ys up ups over = ups
follow_append (x ∷ xs) ys up ups over = (
  (λ y a. elim (among_parts xs ys y a) [ inl b ↦ up.0 y b | inr b ↦ over x y (inl refl) b ]),
  follow_append xs ys up.1 ups (λ z y a b. over z y (inr a) b),
)

-- an entry that comes later isn't the first
not_later : (x : Posted) (xs rs : List Posted) (r : Posted) → Follow (x ∷ xs) → Follow (r ∷ rs) → IsAmong xs r → IsAmong (r ∷ rs) x → ⊥
not_later x xs rs r up ups later (inl is) = never_before (place x) (subst (λ (y : Posted). IsLower (place x) (place y)) is (up.0 r later))
not_later x xs rs r up ups later (inr a) = never_before (place x) (lower_then (place x) (place r) (place x) (up.0 r later) (ups.0 x a))

-- nor is the first among those after it
pub not_again : (x : Posted) (xs : List Posted) → Follow (x ∷ xs) → IsAmong xs x → ⊥
not_again x xs up a = never_before (place x) (up.0 x a)

-- of entries that follow each other, those that follow each other among them
module _ (these : Posting → Type 0) where
  abbrev AreAll : List Posted → List Posted → Type 0
  AreAll xs rs = (x : Posted) → IsAmong xs x → (these x.0 → IsAmong rs x) × (IsAmong rs x → these x.0)

  answered_in_turn : (xs rs : List Posted) → Follow xs → Follow rs → ((x : Posted) → IsAmong rs x → IsAmong xs x) → AreAll xs rs → AreAnswered these xs (map (λ x. x.1) rs)
  answered_in_turn [] [] up ups inside all = refl
  answered_in_turn [] (r ∷ rs) up ups inside all = absurd (inside r (inl refl))
  answered_in_turn (x ∷ xs) [] up ups inside all =
      inr ((all x (inl refl)).0, answered_in_turn xs [] up.1 tt (λ y a. absurd a) (λ y a. all y (inr a)))
  answered_in_turn (x ∷ xs) (r ∷ rs) up ups inside all =
      elim (inside r (inl refl)) [
        | inl same ↦
            inl (
              (all x (inl refl)).1 (inl (sym same)),
              (
                map (λ y. y.1) rs,
                answered_in_turn xs rs up.1 ups.1
                    (λ y a. elim (inside y (inr a)) [
                      | inl is ↦ absurd (not_again r rs ups (subst (IsAmong rs) (sym is ∙ same) a))
                      | inr b ↦ b
                    ])
                    (λ y a. (
                      (λ t. elim ((all y (inr a)).0 t) [
                        | inl is ↦ absurd (not_again x xs up (subst (IsAmong xs) (sym is ∙ sym same) a))
                        | inr b ↦ b
                      ]),
                      (λ b. (all y (inr a)).1 (inr b)),
                    )),
                ap (λ (y : Posted). y.1 ∷ map (λ z. z.1) rs) (sym same),
              ),
            )
        | inr later ↦
            inr (
              (λ t. not_later x xs rs r up ups later ((all x (inl refl)).0 t)),
              answered_in_turn xs (r ∷ rs) up.1 ups
                  (λ y a. elim (inside y a) [
                    | inl is ↦ absurd (not_later x xs rs r up ups later (subst (IsAmong (r ∷ rs)) (sym is) a))
                    | inr b ↦ b
                  ])
                  (λ y a. all y (inr a)),
            )
      ]

-- ---- all entries
record IsFromHere (position n : ℕ) (x : Posted) : Type 0 where
  position_is : x.1.0 ≡ position
  more : ℕ
  number_is : x.0.entry ≡ n + more

from_here : (key position n : ℕ) (es : List Placed) (x : Posted) → IsAmong (posted_from key position n es) x → IsFromHere position n x
from_here key position n [] x a = absurd a
from_here key position n (e ∷ es) x (inl s) =
    let zero_more : n ≡ n + 0 = omega arith in
    record { position_is = ap (λ (y : Posted). y.1.0) (sym s); more = 0; number_is = ap (λ (y : Posted). y.0.entry) (sym s) ∙ zero_more }
from_here key position n (e ∷ es) x (inr a) =
    let h = from_here key position (1 + n) es x a in
    record { position_is = h.position_is; more = suc h.more; number_is = omega (arith, h.number_is) }

own_follow : (key position n : ℕ) (es : List Placed) → Follow (posted_from key position n es)
own_follow key position n [] = tt
own_follow key position n (e ∷ es) = (
  (λ y a. let h = from_here key position (1 + n) es y a in inr (sym h.position_is, omega (arith, h.number_is))),
  own_follow key position (1 + n) es,
)

pub entries_follow : (position : ℕ) (cs : List (ℕ × Clause)) → Follow (posted_entries position cs)
entries_follow position [] = tt
entries_follow position (c ∷ cs) =
    follow_append (posted_from c.0 position 0 (entries c.1)) (posted_entries (1 + position) cs) (own_follow c.0 position 0 (entries c.1)) (entries_follow (1 + position) cs)
    (λ x y a b.
    let h = from_here c.0 position 0 (entries c.1) x a in
    let g = stands_at (1 + position) cs y b in
    inl (omega (arith, h.position_is, g.position_is)))

-- a key leads to one position
one_position : (keys : List ℕ) (cs : List Clause) (m n key : ℕ) (c d : Clause) → AreDistinct keys → slice_get (paired keys cs) m ≡ Some (key, c) → slice_get (paired keys cs) n ≡ Some (key, d) → m ≡ n
one_position [] cs m n key c d distinct a b = absurd (none-some (key, c) a)
one_position (k ∷ keys) [] m n key c d distinct a b = absurd (none-some (key, c) a)
one_position (k ∷ keys) (f ∷ cs) zero zero key c d distinct a b = refl
one_position (k ∷ keys) (f ∷ cs) zero (suc n) key c d distinct a b =
    absurd (distinct.0 (subst (IsAmong keys) (sym (ap (λ (p : ℕ × Clause). p.0) (same_Some (k, f) (key, c) a))) (among_key keys cs key d (get_among (paired keys cs) n (key, d) b))))
one_position (k ∷ keys) (f ∷ cs) (suc m) zero key c d distinct a b =
    absurd (distinct.0 (subst (IsAmong keys) (sym (ap (λ (p : ℕ × Clause). p.0) (same_Some (k, f) (key, d) b))) (among_key keys cs key c (get_among (paired keys cs) m (key, c) a))))
one_position (k ∷ keys) (f ∷ cs) (suc m) (suc n) key c d distinct a b = ap suc (one_position keys cs m n key c d distinct.1 a b)

pub one_posted : (k : Kept) (x y : Posted) → AreKeyed k → IsAmong (posted_entries 0 (kept_clauses k)) x → IsAmong (posted_entries 0 (kept_clauses k)) y → x.0 ≡ y.0 → x ≡ y
one_posted k x y keyed a b same =
    let h = stands_at 0 (kept_clauses k) x a in
    let g = stands_at 0 (kept_clauses k) y b in
    let key = ap (λ (q : Posting). q.clause) same in
    let here = h.there ∙ ap (λ n. Some (n, h.clause)) key in
    let at = one_position k.keys k.clauses h.at g.at y.0.clause h.clause g.clause keyed.distinct here g.there in
    let both = same_Some (y.0.clause, h.clause) (y.0.clause, g.clause) (sym here ∙ ap (slice_get (kept_clauses k)) at ∙ g.there) in
    let entry = same_Some x.1.1 y.1.1 (sym h.numbered ∙ (λ i. slice_get (entries (both i).1) (same i).entry) ∙ g.numbered) in
    let position : x.1.0 ≡ y.1.0 = h.position_is ∙ ap (λ n. 0 + n) at ∙ sym g.position_is in
    λ i. (same i, (position i, entry i))

-- ---- what was found
abbrev found : List Posting → List (ℕ × Placed) → List Posted
found [] hits = []
found (q ∷ qs) [] = []
found (q ∷ qs) (hit ∷ hits) = (q, hit) ∷ found qs hits

module _ (slots : Slots) where
  found_hits : (qs : List Posting) (ws : List Wanted) (hits : List (ℕ × Placed)) → AllZip (IsPostingAt slots) qs ws → AllZip (IsHitAt slots) ws hits → map (λ x. x.1) (found qs hits) ≡ hits
  found_hits [] [] [] each are = refl
  found_hits [] [] (hit ∷ hits) each are = absurd are
  found_hits [] (w ∷ ws) hits each are = absurd each
  found_hits (q ∷ qs) [] hits each are = absurd each
  found_hits (q ∷ qs) (w ∷ ws) [] each are = absurd are
  found_hits (q ∷ qs) (w ∷ ws) (hit ∷ hits) each are = ap (λ l. hit ∷ l) (found_hits qs ws hits each.1 are.1)

  record IsFoundAt (qs : List Posting) (ws : List Wanted) (x : Posted) : Type 0 where
    at : Wanted
    among : IsAmong ws at
    asked : IsAmong qs x.0
    there : IsPostingAt slots x.0 at
    hit : IsHitAt slots at x.1

  of_found : (qs : List Posting) (ws : List Wanted) (hits : List (ℕ × Placed)) (x : Posted) → AllZip (IsPostingAt slots) qs ws → AllZip (IsHitAt slots) ws hits → IsAmong (found qs hits) x → IsFoundAt qs ws x
  of_found [] ws hits x each are a = absurd a
  of_found (q ∷ qs) ws [] x each are a = absurd a
  of_found (q ∷ qs) [] (hit ∷ hits) x each are a = absurd each
  of_found (q ∷ qs) (w ∷ ws) (hit ∷ hits) x each are (inl s) =
      subst (IsFoundAt (q ∷ qs) (w ∷ ws)) s (record { at = w; among = inl refl; asked = inl refl; there = each.0; hit = are.0 })
  of_found (q ∷ qs) (w ∷ ws) (hit ∷ hits) x each are (inr a) =
      let h = of_found qs ws hits x each.1 are.1 a in
      record { at = h.at; among = inr h.among; asked = inr h.asked; there = h.there; hit = h.hit }

  with_found : (qs : List Posting) (ws : List Wanted) (hits : List (ℕ × Placed)) (q : Posting) → AllZip (IsPostingAt slots) qs ws → AllZip (IsHitAt slots) ws hits → IsAmong qs q → (hit : ℕ × Placed) × IsAmong (found qs hits) (q, hit)
  with_found [] ws hits q each are a = absurd a
  with_found (p ∷ qs) [] hits q each are a = absurd each
  with_found (p ∷ qs) (w ∷ ws) [] q each are a = absurd are
  with_found (p ∷ qs) (w ∷ ws) (hit ∷ hits) q each are (inl s) = (hit, inl (ap (λ (r : Posting). (r, hit)) s))
  with_found (p ∷ qs) (w ∷ ws) (hit ∷ hits) q each are (inr a) = let h = with_found qs ws hits q each.1 are.1 a in (h.0, inr h.1)

  -- positions rise with slots
  hits_rise : (w v : Wanted) (a b : ℕ × Placed) (m n : ℕ) → PlacesRise slots → IsHitAt slots w a → IsHitAt slots v b → w.entry ≡ m → v.entry ≡ n → IsBefore w v → IsLower (a.0, m) (b.0, n)
  hits_rise w v a b m n rise h g e f (inl less) = inl (lower_position slots a.0 b.0 _ _ rise h.there g.there less)
  hits_rise w v a b m n rise h g e f (inr both) = inr (same_position slots a.0 b.0 _ _ rise h.there g.there both.0, omega (arith, both.1, e, f))

  found_follow : (qs : List Posting) (ws : List Wanted) (hits : List (ℕ × Placed)) → PlacesRise slots → AllZip (IsPostingAt slots) qs ws → AllZip (IsHitAt slots) ws hits → Rise ws → Follow (found qs hits)
  found_follow [] ws hits up each are rise = tt
  found_follow (q ∷ qs) ws [] up each are rise = tt
  found_follow (q ∷ qs) [] (hit ∷ hits) up each are rise = absurd each
  found_follow (q ∷ qs) (w ∷ ws) (hit ∷ hits) up each are rise = (
    (λ y a.
        let h = of_found qs ws hits y each.1 are.1 a in
        hits_rise w h.at hit y.1 q.entry y.0.entry up are.0 h.hit each.0.1 h.there.1 (all_at (IsBefore w) ws h.at rise.0 h.among)),
    found_follow qs ws hits up each.1 are.1 rise.1,
  )

  found_kept : (k : Kept) (qs : List Posting) (ws : List Wanted) (x : Posted) → HasSlots k slots → IsFoundAt qs ws x → IsAmong (posted_entries 0 (kept_clauses k)) x
  found_kept k qs ws x of h =
      let n = x.1.0 in
      let c = h.hit.clause in
      let key : h.hit.key ≡ x.0.clause = one_key slots h.at.slot h.hit.key x.0.clause of.rise (c, get_among slots n (h.at.slot, (h.hit.key, c)) h.hit.there) h.there.0 in
      let pair = paired_got k.keys k.clauses n x.0.clause (clause_of c) (has_key k slots of n h.at.slot h.hit.key c h.hit.there ∙ ap Some key) (has_clause k slots of n h.at.slot h.hit.key c h.hit.there) in
      let from_zero : 0 + n ≡ n = omega arith in
      subst (IsAmong (posted_entries 0 (kept_clauses k))) (λ i. (record { clause = x.0.clause; entry = h.there.1 i }, (from_zero i, x.1.1)))
      (got_there 0 (kept_clauses k) n h.at.entry (x.0.clause, clause_of c) x.1.1 pair h.hit.numbered)

-- the hits are the entries of the answers
pub hits_answered : (k : Kept) (slots : Slots) (these : Posting → Type 0) (tree : Tree Term) (postings : List Posting) (o : Ordered) (hits : List (ℕ × Placed)) → AreKeyed k → HasSlots k slots
    → AreAnswers these postings → AreInOrder slots tree postings o → AllZip (IsHitAt slots) o.places.items hits → AreAnswered these (posted_entries 0 (kept_clauses k)) hits
hits_answered k slots these tree postings o hits keyed at answers order are =
    let ws = o.places.items in
    let qs = order.ordered in
    let all = posted_entries 0 (kept_clauses k) in
    let of : (x : Posted) → IsAmong (found qs hits) x → IsFoundAt slots qs ws x = λ x a. of_found slots qs ws hits x order.each are a in
    subst (AreAnswered these all) (found_hits slots qs ws hits order.each are)
    (answered_in_turn these all (found qs hits) (entries_follow 0 (kept_clauses k)) (found_follow slots qs ws hits at.rise order.each are order.rise)
    (λ x a. found_kept slots k qs ws x at (of x a))
    (λ x a. (
      (λ t.
          let h = with_found slots qs ws hits x.0 order.each are (among_permutation qs postings (IsPermutation-sym postings qs order.same) x.0 ((answers.exact x.0).1 t)) in
          subst (IsAmong (found qs hits)) (one_posted k (x.0, h.0) x keyed (found_kept slots k qs ws (x.0, h.0) at (of (x.0, h.0) h.1)) a refl) h.1),
      (λ b. (answers.exact x.0).0 (among_permutation postings qs order.same x.0 (of x b).asked)),
    )))

-- there are no more of them than entries
answered_few : (these : Posting → Type 0) (xs : List Posted) (hits : List (ℕ × Placed)) → AreAnswered these xs hits → length hits ≤ length xs
answered_few these [] hits h = omega (arith, ap length h)
answered_few these (x ∷ xs) hits (inl h) = omega (arith, ap length h.1.2, answered_few these xs h.1.0 h.1.1)
answered_few these (x ∷ xs) hits (inr h) = omega (arith, answered_few these xs hits h.1)

length_posted : (key position n : ℕ) (es : List Placed) → length (posted_from key position n es) ≡ length es
length_posted key position n [] = refl
length_posted key position n (e ∷ es) = omega (arith, length_posted key position (1 + n) es)

entries_posted : (position : ℕ) (keys : List ℕ) (cs : List Clause) → length (posted_entries position (paired keys cs)) ≤ length (state_entries cs)
entries_posted position [] cs = omega arith
entries_posted position (key ∷ keys) [] = omega arith
entries_posted position (key ∷ keys) (c ∷ cs) =
    omega (
      arith,
      length-append (posted_from key position 0 (entries c)) (posted_entries (1 + position) (paired keys cs)),
      length_posted key position 0 (entries c),
      length-append (map (placed_in c) (entries c)) (state_entries cs),
      length-map (entries c) (placed_in c),
      entries_posted (1 + position) keys cs,
    )

pub hits_few : (k : Kept) (these : Posting → Type 0) (hits : List (ℕ × Placed)) → AreAnswered these (posted_entries 0 (kept_clauses k)) hits → length hits ≤ length (state_entries k.clauses)
hits_few k these hits h = omega (arith, answered_few these (posted_entries 0 (kept_clauses k)) hits h, entries_posted 0 k.keys k.clauses)
