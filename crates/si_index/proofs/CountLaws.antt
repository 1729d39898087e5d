-- There are as many hits as postings that are answered, so they are counted without a list of them.
use Rattle.std.proofs.Common.{Result, Ok, Err, ◌≡◌, ◌⊎◌, inl, inr, ℕ, ◌+◌, ◌≤◌, Bool, true, ◌&&◌, List, [], ◌∷◌, ◌++◌, length, map, refl, sym, ◌∙◌, subst, arith}
use Rattle.std.specs.Prelude.{IfOk}
use Rattle.std.proofs.Math.Dec.{eqb}
use Rattle.std.proofs.lemmas.Bool.{and_from, and_parts, eq-eqb, eqb-true}
use Rattle.std.proofs.lemmas.List.{length-map}
use Rattle.si_defs.specs.Symbols.{Numbering}
use Rattle.si_defs.specs.Clauses.{Pattern, IsSoundPattern}
use Rattle.si_defs.specs.Entries.{Entry, Placed, state_entries, pattern_entry}
use Rattle.si_defs.specs.Substitutions.{IsAmong, AreDistinct}
use Rattle.si_defs.specs.declared.Relation.{Relation}
use Rattle.si_defs.specs.declared.TheConstants.{MOST_OCCURRENCES}
use Rattle.si_flat.specs.declared.Cell.{Cell}
use Rattle.si_flat.specs.declared.flatten.FlatQuery.{FlatQuery}
use Rattle.si_flat.specs.Cells.{query, Term, StandsFor}
use Rattle.si_flat.specs.Flattened.{extra_numbers, numbered_entry, FlattensPattern}
use Rattle.si_unify.proofs.Reading.{one_term}
use Rattle.si_form.proofs.Moving.{among_map, among_mapped}
use Rattle.si_form.proofs.UnifierLaws.{among_tells}
use Rattle.si_legal.specs.declared.Posting.{Posting}
use Rattle.si_legal.specs.Counts.{node_count}
use Rattle.si_legal.specs.Engines.{AreAnswers}
use Rattle.si_legal.specs.KeptTrees.{IsPostingOf}
use Rattle.si_held.specs.TwoTrees.{tree_for}
use Rattle.si_held.specs.Queries.{query_term}
use Rattle.si_held.proofs.AnswerLaws.{answers_held}
use Rattle.si_descend.specs.declared.counting.Counted.{Counted}
use Rattle.si_descend.specs.Answers.{IsStoredAnswer}
use Rattle.si_descend.specs.Counting.{at_most, CountsAnswers}
use Rattle.si_descend.proofs.ExactLists.{no_more}
use Rattle.si_index.specs.Kept.{Kept, AreKeyed, kept_clauses, TreesHold}
use Rattle.si_index.specs.Finding.{AreHits, entries_from_position}
use Rattle.si_index.specs.Engines.{Answering, asks_literals, AreAsked, posted_entries, AreAnswered}
use Rattle.si_index.specs.Explaining.{Explains, ExplainsFlat, IsQueryOf}
use Rattle.si_index.specs.declared.explain.Explained.{Explained}
use Rattle.si_index.proofs.EngineLaws.{Posted, got_there}
use Rattle.si_index.proofs.SlotLaws.{place_among}
use Rattle.si_index.proofs.StandingLaws.{IsOrderly, finds_all, by_terms}
use Rattle.si_index.proofs.WantedLaws.{Follow, not_again, entries_follow, one_posted, hits_few}

-- ---- whether a posting is among some
abbrev same_posting : Posting → Posting → Bool
same_posting p q = eqb p.clause q.clause && eqb p.entry q.entry

same_are_equal : (p q : Posting) → same_posting p q ≡ true → p ≡ q
same_are_equal p q same =
    let both = and_parts _ _ same in
    let key = eqb-true p.clause q.clause both.0 in
    let number = eqb-true p.entry q.entry both.1 in
    λ i. record { clause = key i; entry = number i }

same_with_itself : (p : Posting) → same_posting p p ≡ true
same_with_itself p = and_from (eqb p.clause p.clause) (eqb p.entry p.entry) (eq-eqb p.clause p.clause refl) (eq-eqb p.entry p.entry refl)

among_or_not : (qs : List Posting) (q : Posting) → IsAmong qs q ⊎ (IsAmong qs q → ⊥)
among_or_not = among_tells same_posting same_are_equal same_with_itself

-- ---- the entries of the answers
module _ (these : Posting → Type 0) (found : List Posting) (are : AreAnswers these found) where
  record AreChosen (xs chosen : List Posted) : Type 0 where
    answered : AreAnswered these xs (map (λ x. x.1) chosen)
    inside : (x : Posted) → IsAmong chosen x → IsAmong xs x × IsAmong found x.0
    all : (x : Posted) → IsAmong xs x → IsAmong found x.0 → IsAmong chosen x
    distinct : AreDistinct (map (λ x. x.0) xs) → AreDistinct (map (λ x. x.0) chosen)

  taken : (x : Posted) (xs chosen : List Posted) → IsAmong found x.0 → AreChosen xs chosen → AreChosen (x ∷ xs) (x ∷ chosen)
  taken x xs chosen a h = record {
    answered = inl ((are.exact x.0).0 a, (map (λ y. y.1) chosen, h.answered, refl));
    inside =
        λ y b. elim b [
          | inl same ↦ (inl same, subst (λ (z : Posted). IsAmong found z.0) same a)
          | inr c ↦ let g = h.inside y c in (inr g.0, g.1)
        ];
    all = λ y b f. elim b [ inl same ↦ inl same | inr c ↦ inr (h.all y c f) ];
    distinct =
        λ d. (
          (λ b.
              let y = among_mapped (λ (z : Posted). z.0) chosen x.0 b in
              d.0 (subst (IsAmong (map (λ z. z.0) xs)) y.2 (among_map (λ (z : Posted). z.0) xs y.0 (h.inside y.0 y.1).0))),
          h.distinct d.1,
        );
  }

  left_out : (x : Posted) (xs chosen : List Posted) → (IsAmong found x.0 → ⊥) → AreChosen xs chosen → AreChosen (x ∷ xs) chosen
  left_out x xs chosen none h = record {
    answered = inr ((λ t. none ((are.exact x.0).1 t)), h.answered);
    inside = λ y b. let g = h.inside y b in (inr g.0, g.1);
    all =
        λ y b f. elim b [
          | inl same ↦ absurd (none (subst (λ (z : Posted). IsAmong found z.0) (sym same) f))
          | inr c ↦ h.all y c f
        ];
    distinct = λ d. h.distinct d.1;
  }

  choose : (xs : List Posted) → (chosen : List Posted) × AreChosen xs chosen
  choose [] = ([], record { answered = refl; inside = λ x a. absurd a; all = λ x a f. absurd a; distinct = λ d. tt })
  choose (x ∷ xs) =
      let rest = choose xs in
      elim (among_or_not found x.0) [
        | inl a ↦ (x ∷ rest.0, taken x xs rest.0 a rest.1)
        | inr none ↦ (rest.0, left_out x xs rest.0 none rest.1)
      ]

-- ---- one posting for each entry
postings_apart : (k : Kept) (xs : List Posted) → AreKeyed k → ((x : Posted) → IsAmong xs x → IsAmong (posted_entries 0 (kept_clauses k)) x) → Follow xs → AreDistinct (map (λ x. x.0) xs)
postings_apart k [] keyed inside follow = tt
postings_apart k (x ∷ xs) keyed inside follow = (
  (λ a.
      let y = among_mapped (λ (z : Posted). z.0) xs x.0 a in
      not_again x xs follow (subst (IsAmong xs) (one_posted k y.0 x keyed (inside y.0 (inr y.1)) (inside x (inl refl)) y.2) y.1)),
  postings_apart k xs keyed (λ y a. inside y (inr a)) follow.1,
)

entry_of : (k : Kept) (q : Posting) (e : Entry) → IsPostingOf (kept_clauses k) q e → (x : Posted) × IsAmong (posted_entries 0 (kept_clauses k)) x × (x.0 ≡ q)
entry_of k q e h =
    let at = place_among (kept_clauses k) (q.clause, h.clause) h.is_kept in
    ((q, (0 + at.0, h.placed)), got_there 0 (kept_clauses k) at.0 q.entry (q.clause, h.clause) h.placed at.1 h.numbered, refl)

as_many : (k : Kept) (these : Posting → Type 0) (found : List Posting) → AreKeyed k → AreAnswers these found
    → ((q : Posting) → IsAmong found q → (e : Entry) × IsPostingOf (kept_clauses k) q e)
    → (hits : List (ℕ × Placed)) × AreAnswered these (posted_entries 0 (kept_clauses k)) hits × (length hits ≡ length found)
as_many k these found keyed are kept =
    let all = posted_entries 0 (kept_clauses k) in
    let chosen = choose these found are all in
    let h = chosen.1 in
    let own = map (λ (x : Posted). x.0) chosen.0 in
    let distinct = h.distinct (postings_apart k all keyed (λ x a. a) (entries_follow 0 (kept_clauses k))) in
    let few =
    no_more own found distinct
    (λ q a. let x = among_mapped (λ (z : Posted). z.0) chosen.0 q a in subst (IsAmong found) x.2 (h.inside x.0 x.1).1) in
    let many =
    no_more found own are.distinct
    (λ q a.
    let e = kept q a in
    let x = entry_of k q e.0 e.1 in
    subst (IsAmong own) x.2 (among_map (λ (z : Posted). z.0) chosen.0 x.0 (h.all x.0 x.1 (subst (IsAmong found) (sym x.2) a)))) in (
      map (λ x. x.1) chosen.0,
      h.answered,
      omega (arith, few, many, length-map chosen.0 (λ x. x.0), length-map chosen.0 (λ x. x.1)),
    )

-- ---- answers of the trees
abbrev by_trees : Kept → Answering
by_trees k literal relation cells q = (t : Term) × StandsFor cells t × IsStoredAnswer (tree_for literal k.trees) relation t q

pub record AreCounted (k : Kept) (relation : Relation) (p : Pattern) (found : List Posting) : Type 0 where
  pub hits : List (ℕ × Placed)
  pub are_hits : AreHits relation p (entries_from_position 0 k.clauses) hits
  pub number : length hits ≡ length found
  pub few : length hits ≤ length (state_entries k.clauses)

pub counted_hits : (k : Kept) (relation : Relation) (p : Pattern) (cells : List Cell) (q : Term) (found : List Posting)
    → IsOrderly k → IsSoundPattern p → TreesHold k → AreAsked k.numbers p cells → StandsFor cells q
    → AreAnswers (IsStoredAnswer (tree_for (asks_literals p) k.trees) relation q) found → AreCounted k relation p found
counted_hits k relation p cells q found orderly sound hold asked stands are =
    let tree = tree_for (asks_literals p) k.trees in
    let these = by_trees k (asks_literals p) relation cells in
    let of_cells : AreAnswers these found = record {
      distinct = are.distinct;
      exact =
          λ r. (
            (λ a. (q, stands, (are.exact r).0 a)),
            (λ t. (are.exact r).1 (subst (λ u. IsStoredAnswer tree relation u r) (one_term cells t.0 q t.1 stands) t.2)),
          );
    } in
    let kept : (r : Posting) → IsAmong found r → (e : Entry) × IsPostingOf (kept_clauses k) r e =
    λ r a. let e = (answers_held k.numbers (kept_clauses k) k.trees hold (asks_literals p) relation q r).0 ((are.exact r).0 a) in (e.0, e.1) in
    let many = as_many k these found orderly.keyed of_cells kept in
    let wanted =
    by_terms k (λ literal relation t r. IsStoredAnswer (tree_for literal k.trees) relation t r)
    (λ literal relation t r. answers_held k.numbers (kept_clauses k) k.trees hold literal relation t r) in
    record {
      hits = many.0;
      are_hits =
          finds_all (by_trees k) (λ literal relation list n. n ≡ 0) k relation p many.0 0 orderly sound wanted
          (record { cells = cells; asked = asked; answered = many.1; counted = refl });
      number = many.2;
      few = hits_few k these many.0 many.1;
    }

-- the cells of a pattern stand for its query
pub asked_term : (numbers : Numbering) (p : Pattern) (q : FlatQuery) → FlattensPattern numbers p q → StandsFor q.flat (query_term numbers p)
asked_term numbers p q flat =
    subst (λ symbols. StandsFor q.flat (numbered_entry (numbers ++ extra_numbers symbols) query (pattern_entry p))) flat.extra flat.flat.stands

-- a count of as many as entries are kept at most is exact
pub exact_count : (n : ℕ) → n ≤ MOST_OCCURRENCES → at_most n ≡ n
exact_count n few = omega (arith, few)

-- ---- what a query passes and answers
pub explained : (k : Kept) (relation : Relation) (p : Pattern) (q : FlatQuery) (literal : Bool) (c : Counted) (nodes : ℕ)
    → IsOrderly k → IsSoundPattern p → TreesHold k → length (state_entries k.clauses) ≤ MOST_OCCURRENCES → FlattensPattern k.numbers p q → literal ≡ asks_literals p
    → CountsAnswers (tree_for literal k.trees) relation q.flat c → nodes ≡ node_count (tree_for literal k.trees)
    → Explains k relation p (record { passed = c.passed; nodes = nodes; answers = c.answers })
explained k relation p q literal c nodes orderly sound hold few flat kind counts count =
    let stands = asked_term k.numbers p q flat in
    let told = subst (λ b. CountsAnswers (tree_for b k.trees) relation q.flat c) kind counts in
    let answers = told.answers (query_term k.numbers p) stands in
    let h = counted_hits k relation p q.flat (query_term k.numbers p) answers.0 orderly sound hold (q, flat, refl) stands answers.1 in
    record {
      passed = told.passed (query_term k.numbers p) stands;
      nodes = subst (λ b. nodes ≡ node_count (tree_for b k.trees)) kind count;
      hits = h.hits;
      are_hits = h.are_hits;
      answers = answers.2 ∙ exact_count (length answers.0) (omega (arith, few, h.few, h.number)) ∙ sym h.number;
    }

-- a pattern's flat term by the same numbers is its flat query
pub is_query : (k : Kept) (numbers : Numbering) (literal : Bool) (q : FlatQuery) (p : Pattern) → IsSoundPattern p → literal ≡ asks_literals p → numbers ≡ k.numbers → FlattensPattern numbers p q → IsQueryOf k literal q p
is_query k numbers literal q p sound asks same flat = record {
  sound = sound;
  asks = asks;
  flat = subst (λ ns. FlattensPattern ns p q) same flat;
}
