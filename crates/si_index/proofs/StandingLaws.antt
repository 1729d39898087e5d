-- For the cells of a pattern, an entry's flat term stands in the relation where the entry does. So
-- an engine over flat terms finds the entries in the relation.
use Rattle.std.proofs.Common.{◌≡◌, ℕ, Bool, true, false, List, [], ◌∷◌, ◌++◌, map, inl, inr, refl, sym, ap, subst}
use Rattle.std.specs.Prelude.{◌↔◌, bytes_eq}
use Rattle.std.specs.List.{AllByRecursion}
use Rattle.si_defs.specs.Terms.{app, var, symbols, variables, firsts}
use Rattle.si_defs.specs.Symbols.{Numbering, IsNumbering}
use Rattle.si_defs.specs.Substitutions.{IsAmong}
use Rattle.si_defs.specs.Clauses.{Term, Clause, Pattern, literal_pattern, term_pattern, IsSoundPattern, IsSoundAtom, IsSoundClause}
use Rattle.si_defs.specs.Entries.{Entry, literal_entry, term_entry, Placed}
use Rattle.si_defs.specs.Relations.{Relates}
use Rattle.si_defs.specs.declared.Relation.{Relation}
use Rattle.si_defs.proofs.ListLaws.{all_at, among_back}
use Rattle.si_state.specs.Signatures.{Signature, IsSignatureOf, numbering}
use Rattle.si_state.specs.Answers.{Stands}
use Rattle.si_term.specs.Terms.{symbol_of}
use Rattle.si_flat.specs.declared.Cell.{Cell}
use Rattle.si_flat.specs.declared.flatten.FlatQuery.{FlatQuery}
use Rattle.si_flat.specs.Cells as cells
use Rattle.si_flat.specs.Cells.{StandsFor}
use Rattle.si_flat.specs.Numbered.{number_in, signed}
use Rattle.si_flat.specs.Flattened.{extra_numbers, query_numbers, numbered_entry, IsQueryNumbering, FlattensPattern}
use Rattle.si_unify.proofs.Reading.{one_term}
use Rattle.si_form.specs.Numberings.{query_by, entry_by, TextsRelate, symbols_of}
use Rattle.si_form.specs.TableNumbers.{HaveNumbers}
use Rattle.si_form.proofs.NumberingLaws.{relations_are_kept}
use Rattle.si_form.proofs.SignLaws.{relates_heads, signs_apart}
use Rattle.si_form.proofs.TableLaws.{entries_need_the_table_alone}
use Rattle.si_form.proofs.Vocabularies.{with_numbers}
use Rattle.si_legal.specs.declared.Posting.{Posting}
use Rattle.si_legal.specs.Engines.{AppendsAnswers}
use Rattle.si_legal.specs.KeptTrees.{is_literal, IsPostingOf}
use Rattle.si_held.specs.TwoTrees.{TwoTrees, tree_for}
use Rattle.si_held.proofs.AnswerLaws.{answers_held}
use Rattle.si_descend.specs.Answers.{IsStoredAnswer}
use Rattle.si_index.specs.Kept.{Kept, AreKeyed, TreesHold, paired, kept_clauses}
use Rattle.si_index.specs.Finding.{AreHits, entries_from_position}
use Rattle.si_index.specs.Engines.{Answering, asks_literals, AreAsked, IsOfStanding, AnswersStanding, IsWantedEntry, IsOfWanted, AnswersWanted, Counting, FindsHits, IsStoredFor, CountsNodes, TreesAnswer}
use Rattle.si_index.specs.Searching.{IsKnownEntry, IsKnownClause}
use Rattle.si_index.proofs.EntryLaws.{known_entry, all_clauses_known}
use Rattle.si_index.proofs.FlatLaws.{all_numbered, more_numbers, tells_apart, both_numbered, is_for}
use Rattle.si_index.proofs.EngineLaws.{entries_are_hits}

-- ---- two terms and their numbers; the entry's are in the table
module _ (relation : Relation) (table extra : Numbering) (p u : Term) (numbering : IsQueryNumbering (table ++ extra)) (of_p : HaveNumbers (table ++ extra) (symbols p)) (of_u : HaveNumbers table (symbols u)) where
  abbrev pub query_term : Bool → cells.Term
  query_term positive = query_by (signed positive (number_in (table ++ extra))) (firsts bytes_eq (variables p)) p

  abbrev pub term_in : Numbering → Bool → cells.Term
  term_in numbers positive = entry_by (signed positive (number_in numbers)) (firsts bytes_eq (variables u)) u

  numbers_relate : (positive : Bool) → TextsRelate relation p u → Relates cells.same_variable relation (query_term positive) (term_in table positive)
  numbers_relate positive r =
      subst (Relates cells.same_variable relation (query_term positive)) (sym (entries_need_the_table_alone table extra positive (firsts bytes_eq (variables u)) u of_u))
      ((relations_are_kept relation p u (number_in (table ++ extra)) (firsts bytes_eq (variables p)) (firsts bytes_eq (variables u)) positive
      (is_for (table ++ extra) p u numbering of_p (more_numbers table extra (symbols u) of_u))).0 r)

  texts_relate : (positive : Bool) → Relates cells.same_variable relation (query_term positive) (term_in table positive) → TextsRelate relation p u
  texts_relate positive r =
      (relations_are_kept relation p u (number_in (table ++ extra)) (firsts bytes_eq (variables p)) (firsts bytes_eq (variables u)) positive
      (is_for (table ++ extra) p u numbering of_p (more_numbers table extra (symbols u) of_u))).1
      (subst (Relates cells.same_variable relation (query_term positive)) (entries_need_the_table_alone table extra positive (firsts bytes_eq (variables u)) u of_u) r)

-- literals of different signs don't
signs_differ : (relation : Relation) (table extra : Numbering) (p u : Term) (one other : Bool) → IsQueryNumbering (table ++ extra) → HaveNumbers (table ++ extra) (symbols p) → HaveNumbers table (symbols u)
    → IsSoundAtom p → IsSoundAtom u → (one ≡ other → ⊥)
    → Relates cells.same_variable relation (query_by (signed one (number_in (table ++ extra))) (firsts bytes_eq (variables p)) p) (entry_by (signed other (number_in table)) (firsts bytes_eq (variables u)) u) → ⊥
signs_differ relation table extra (var x) u one other numbering of_p of_u p_sound u_sound differ r = p_sound
signs_differ relation table extra (app s ts) (var y) one other numbering of_p of_u p_sound u_sound differ r = u_sound
signs_differ relation table extra (app s ts) (app t us) one other numbering of_p of_u p_sound u_sound differ r =
    let q = query_by (signed one (number_in (table ++ extra))) (firsts bytes_eq (variables (app s ts))) (app s ts) in
    let both = subst (Relates cells.same_variable relation q) (entries_need_the_table_alone table extra other (firsts bytes_eq (variables (app t us))) (app t us) of_u) r in
    let apart = tells_apart (table ++ extra) (symbols_of (app s ts) (app t us)) numbering (both_numbered (table ++ extra) (app s ts) (app t us) of_p (more_numbers table extra (symbols (app t us)) of_u)) in
    signs_apart (number_in (table ++ extra)) s t one other p_sound.0.on_side u_sound.0.on_side (apart.even s (inl refl))
    (apart.even t (among_back (symbols (app s ts)) (symbols (app t us)) t (inl refl))) differ
    (ap (λ (z : cells.Symbol). z.number) (relates_heads with_numbers _ _ _ _ relation both))

same_or_not : (a b : Bool) (P : Type 0) → (a ≡ b → P) → ((a ≡ b → ⊥) → P) → P
same_or_not true true P same differ = same refl
same_or_not false false P same differ = same refl
same_or_not true false P same differ = differ (λ e. let wrong : true ≡ false = e in cc)
same_or_not false true P same differ = differ (λ e. let wrong : false ≡ true = e in cc)

-- ---- an entry is wanted where it stands in the relation
module _ (relation : Relation) (table : Numbering) (q : FlatQuery) (numbering : IsNumbering table) where
  wanted_stands : (p : Pattern) (e : Entry) → IsSoundPattern p → FlattensPattern table p q → IsKnownEntry table e → IsWantedEntry table (asks_literals p) relation q.flat e → Stands relation p e
  wanted_stands (literal_pattern l) (literal_entry k) sound flat known w =
      let extra = extra_numbers (map symbol_of q.extra) in
      let of_p = all_numbered (query_numbers table q.extra) (symbols l.atom) flat.complete in
      let r = subst (λ t. Relates cells.same_variable relation t (numbered_entry table cells.entry (literal_entry k))) (one_term q.flat _ _ w.stands flat.flat.stands) w.relates in
      same_or_not l.positive k.positive (Stands relation (literal_pattern l) (literal_entry k))
      (λ same. (
        same,
        texts_relate relation table extra l.atom k.atom (flat.numbering numbering) of_p known.numbered k.positive
            (subst (λ b. Relates cells.same_variable relation (query_by (signed b (number_in (table ++ extra))) (firsts bytes_eq (variables l.atom)) l.atom) (numbered_entry table cells.entry (literal_entry k))) same r),
      ))
      (λ differ. absurd (signs_differ relation table extra l.atom k.atom l.positive k.positive (flat.numbering numbering) of_p known.numbered sound.0 known.sound.0 differ r))
  wanted_stands (term_pattern t) (term_entry u) sound flat known w =
      let extra = extra_numbers (map symbol_of q.extra) in
      let of_p = all_numbered (query_numbers table q.extra) (symbols t) flat.complete in
      texts_relate relation table extra t u (flat.numbering numbering) of_p known.numbered true
      (subst (λ s. Relates cells.same_variable relation s (numbered_entry table cells.entry (term_entry u))) (one_term q.flat _ _ w.stands flat.flat.stands) w.relates)
  wanted_stands (literal_pattern l) (term_entry u) sound flat known w = absurd (let wrong : false ≡ true = w.kind in cc)
  wanted_stands (term_pattern t) (literal_entry k) sound flat known w = absurd (let wrong : true ≡ false = w.kind in cc)

  stands_wanted : (p : Pattern) (e : Entry) → FlattensPattern table p q → IsKnownEntry table e → Stands relation p e → IsWantedEntry table (asks_literals p) relation q.flat e
  stands_wanted (literal_pattern l) (literal_entry k) flat known s =
      let extra = extra_numbers (map symbol_of q.extra) in
      let of_p = all_numbered (query_numbers table q.extra) (symbols l.atom) flat.complete in
      record {
        kind = refl;
        term = numbered_entry (query_numbers table q.extra) cells.query (literal_entry l);
        stands = flat.flat.stands;
        relates =
            subst (λ b. Relates cells.same_variable relation (query_by (signed b (number_in (table ++ extra))) (firsts bytes_eq (variables l.atom)) l.atom) (numbered_entry table cells.entry (literal_entry k))) (sym s.0)
            (numbers_relate relation table extra l.atom k.atom (flat.numbering numbering) of_p known.numbered k.positive s.1);
      }
  stands_wanted (term_pattern t) (term_entry u) flat known s =
      let extra = extra_numbers (map symbol_of q.extra) in
      let of_p = all_numbered (query_numbers table q.extra) (symbols t) flat.complete in
      record {
        kind = refl;
        term = numbered_entry (query_numbers table q.extra) cells.query (term_entry t);
        stands = flat.flat.stands;
        relates = numbers_relate relation table extra t u (flat.numbering numbering) of_p known.numbered true s;
      }
  stands_wanted (literal_pattern l) (term_entry u) flat known s = absurd s
  stands_wanted (term_pattern t) (literal_entry k) flat known s = absurd s

-- ---- what is known of an index
pub record IsOrderly (k : Kept) : Type 0 where
  pub keyed : AreKeyed k
  pub numbering : IsNumbering k.numbers
  pub known : AllByRecursion (IsKnownClause k.numbers) k.clauses

pub is_orderly : (k : Kept) (known : Signature) → AreKeyed k → IsNumbering k.numbers → numbering known ≡ k.numbers → IsSignatureOf k.clauses known → AllByRecursion IsSoundClause k.clauses → IsOrderly k
is_orderly k known keyed numbering same signed sound = record { keyed = keyed; numbering = numbering; known = all_clauses_known k.numbers k.clauses known same signed sound }

among_clauses : (keys : List ℕ) (cs : List Clause) (c : ℕ × Clause) → IsAmong (paired keys cs) c → IsAmong cs c.1
among_clauses [] cs c a = absurd a
among_clauses (key ∷ keys) [] c a = absurd a
among_clauses (key ∷ keys) (d ∷ cs) c (inl s) = inl (ap (λ (p : ℕ × Clause). p.1) s)
among_clauses (key ∷ keys) (d ∷ cs) c (inr a) = inr (among_clauses keys cs c a)

kept_is_known : (k : Kept) (q : Posting) (e : Entry) → IsOrderly k → IsPostingOf (kept_clauses k) q e → IsKnownEntry k.numbers e
kept_is_known k q e orderly h =
    let clause = all_at (IsKnownClause k.numbers) k.clauses h.clause orderly.known (among_clauses k.keys k.clauses (q.clause, h.clause) h.is_kept) in
    subst (IsKnownEntry k.numbers) h.entry_is (known_entry k.numbers h.clause q.entry h.placed clause h.numbered)

-- ---- engines over flat terms
wanted_is_standing : (k : Kept) (relation : Relation) (p : Pattern) (query : List Cell) (q : Posting) → IsOrderly k → IsSoundPattern p → AreAsked k.numbers p query
    → IsOfWanted k (asks_literals p) relation query q ↔ IsOfStanding k relation p q
wanted_is_standing k relation p query q orderly sound asked = (
  (λ w. (
    w.0,
    w.1,
    wanted_stands relation k.numbers asked.0 orderly.numbering p w.0 sound asked.1 (kept_is_known k q w.0 orderly w.1)
        (subst (λ cs. IsWantedEntry k.numbers (asks_literals p) relation cs w.0) asked.2 w.2),
  )),
  (λ s. (
    s.0,
    s.1,
    subst (λ cs. IsWantedEntry k.numbers (asks_literals p) relation cs s.0) (sym asked.2)
        (stands_wanted relation k.numbers asked.0 orderly.numbering p s.0 asked.1 (kept_is_known k q s.0 orderly s.1) s.2),
  )),
)

answers_standing : (answers : Answering) (k : Kept) (relation : Relation) (p : Pattern) (query : List Cell) (q : Posting) → IsOrderly k → IsSoundPattern p → AnswersWanted answers k → AreAsked k.numbers p query
    → answers (asks_literals p) relation query q ↔ IsOfStanding k relation p q
answers_standing answers k relation p query q orderly sound wanted asked =
    let of_wanted = wanted (asks_literals p) relation query q in
    let standing = wanted_is_standing k relation p query q orderly sound asked in
    ((λ a. standing.0 (of_wanted.0 a)), (λ s. of_wanted.1 (standing.1 s)))

-- what `find` asks of an engine
pub answers_stand : (answers : Answering) (k : Kept) (relation : Relation) (p : Pattern) → IsOrderly k → IsSoundPattern p → AnswersWanted answers k → AnswersStanding answers k relation p
answers_stand answers k relation p orderly sound wanted query asked q a = (answers_standing answers k relation p query q orderly sound wanted asked).0 a

-- the hits are then the kept entries in the relation
pub finds_all : (answers : Answering) (count : Counting) (k : Kept) (relation : Relation) (p : Pattern) (hits : List (ℕ × Placed)) (passed : ℕ)
    → IsOrderly k → IsSoundPattern p → AnswersWanted answers k → FindsHits answers count k relation p hits passed → AreHits relation p (entries_from_position 0 k.clauses) hits
finds_all answers count k relation p hits passed orderly sound wanted h =
    entries_are_hits k relation p (answers (asks_literals p) relation h.cells) hits orderly.keyed
    (λ q. answers_standing answers k relation p h.cells q orderly sound wanted h.asked) h.answered

-- an engine that has its answers by the query's term
pub by_terms : (k : Kept) (stored : Bool → Relation → cells.Term → Posting → Type 0)
    → ((literal : Bool) (relation : Relation) (t : cells.Term) (q : Posting)
    → stored literal relation t q ↔ ((e : Entry) × IsPostingOf (kept_clauses k) q e × (is_literal e ≡ literal) × Relates cells.same_variable relation t (numbered_entry k.numbers cells.entry e)))
    → AnswersWanted (λ literal relation query q. (t : cells.Term) × StandsFor query t × stored literal relation t q) k
by_terms k stored held literal relation query q = (
  (λ a. let h = (held literal relation a.0 q).0 a.2 in (h.0, h.1, record { kind = h.2; term = a.0; stands = a.1; relates = h.3 })),
  (λ w. (w.2.term, w.2.stands, (held literal relation w.2.term q).1 (w.0, w.1, w.2.kind, w.2.relates))),
)

-- ---- the trees
trees_wanted : (k : Kept) → TreesHold k → AnswersWanted (IsStoredFor k.trees) k
trees_wanted k hold =
    by_terms k (λ literal relation t q. IsStoredAnswer (tree_for literal k.trees) relation t q)
    (λ literal relation t q. answers_held k.numbers (kept_clauses k) k.trees hold literal relation t q)

pub trees_answer : (k : Kept) → IsOrderly k → TreesHold k → TreesAnswer k
trees_answer k orderly hold =
    let wanted = trees_wanted k hold in
    record {
      standing = λ relation p sound. answers_stand (IsStoredFor k.trees) k relation p orderly sound wanted;
      complete = λ relation p hits passed sound h. finds_all (IsStoredFor k.trees) (CountsNodes k.trees) k relation p hits passed orderly sound wanted h;
    }

-- an entry in the relation is among what they answer
pub standing_answered : (k : Kept) (relation : Relation) (p : Pattern) (query : List Cell) (q : Posting) (e : Entry) → IsOrderly k → TreesHold k → IsSoundPattern p → AreAsked k.numbers p query
    → IsPostingOf (kept_clauses k) q e → Stands relation p e → IsStoredFor k.trees (asks_literals p) relation query q
standing_answered k relation p query q e orderly hold sound asked own stands =
    (answers_standing (IsStoredFor k.trees) k relation p query q orderly sound (trees_wanted k hold) asked).1 (e, own, stands)

-- what a search of a tree appends
pub trees_append : (trees : TwoTrees) (literal : Bool) (relation : Relation) (query : List Cell) (q : cells.Term) (old new : List Posting) → StandsFor query q
    → AppendsAnswers (IsStoredAnswer (tree_for literal trees) relation q) old new → AppendsAnswers (IsStoredFor trees literal relation query) old new
trees_append trees literal relation query q old new stands h = record {
  answers = h.answers;
  appended = h.appended;
  are = record {
    distinct = h.are.distinct;
    exact = λ p. (
      (λ a. (q, stands, (h.are.exact p).0 a)),
      (λ s. (h.are.exact p).1 (subst (λ t. IsStoredAnswer (tree_for literal trees) relation t p) (one_term query s.0 q s.1 stands) s.2)),
    );
  };
}

-- the trees of an index, asked for a pattern
module _ (k : Kept) (trees : TwoTrees) (relation : Relation) (p : Pattern) (answer : TreesAnswer k) (same : trees ≡ k.trees) (sound : IsSoundPattern p) where
  pub trees_stand : AnswersStanding (IsStoredFor trees) k relation p
  trees_stand = subst (λ t. AnswersStanding (IsStoredFor t) k relation p) (sym same) (answer.standing relation p sound)

  pub trees_find : (hits : List (ℕ × Placed)) (passed : ℕ) → FindsHits (IsStoredFor trees) (CountsNodes trees) k relation p hits passed → AreHits relation p (entries_from_position 0 k.clauses) hits
  trees_find hits passed finds = answer.complete relation p hits passed sound (subst (λ t. FindsHits (IsStoredFor t) (CountsNodes t) k relation p hits passed) same finds)
