-- What is found, with its lists, is the answer; and its lines, written one after the other.
use Rattle.std.proofs.Common.{◌≡◌, inl, inr, ℕ, zero, suc, ◌+◌, ◌<◌, ◌≤◌, List, [], ◌∷◌, ◌++◌, length, map, Some, refl, sym, ◌∙◌, ap, subst, arith, append_assoc, length-append}
use Rattle.std.specs.Prelude.{Result, slice_get}
use Rattle.std.specs.List.{AllByRecursion, AllZip, concat, range_with_len}
use Rattle.std.proofs.lemmas.Slice.Zip.{AllZip-long}
use Rattle.si_defs.specs.Clauses.{Name, Clause, Pattern}
use Rattle.si_defs.specs.Printing.{place_text, solution_text}
use Rattle.si_reply.proofs.Pieces.{four_apart}
use Rattle.si_session.specs.Separators.{separator_text}
use Rattle.si_session.specs.declared.separator.Separator.TheVariants.{Space, LineFeed}
use Rattle.si_defs.specs.Entries.{Place, Placed, entries, state_entries, placed_in}
use Rattle.si_defs.specs.Variables.{Solution, variable_text}
use Rattle.si_defs.specs.declared.Relation.{Relation}
use Rattle.si_state.specs.Answers.{Hit, IsAnswer, Stands, hit_text, hit_texts}
use Rattle.si_exist.specs.OneList.{HasExactlyOneSolution}
use Rattle.si_defs.specs.Bytes.{Bytes}
use Rattle.si_steps.specs.Replies.{end_line, answer_reply}
use Rattle.si_steps.specs.Runs.{ended}
use Rattle.si_io.specs.Shown.{SinkShown}
use Rattle.si_io.specs.Sends.{Sends}
use Rattle.si_io.specs.Lines.{HaveTexts, WritesLines}
use Rattle.si_io.specs.declared.failed.Failed.{Failed}
use Rattle.si_defs.proofs.ListLaws.{all_got, get_some, get_here}
use Rattle.si_index.specs.Kept.{Kept}
use Rattle.si_index.specs.Searching.{HasCanonicalSolution, HaveCanonicalSolutions}
use Rattle.si_index.specs.Finding.{Finding, AreHits, at_position, entries_from_position, position_and_place}
use Rattle.si_session.specs.Answering.{IsHitOf, IsInside, IsHitLine, ReportsAnswer, hit_line}
use Rattle.si_session.proofs.EndedLines.{ended-append}

abbrev Found : Type 0
Found = List (ℕ × Placed)

module _ (relation : Relation) (p : Pattern) (clauses : List Clause) where
  abbrev HaveHits : Found → List Hit → Type 0
  HaveHits = AllZip (IsHitOf relation p clauses)

  -- what is found in one clause, and then in others
  of_clause : (k : ℕ) (c : Clause) → slice_get clauses k ≡ Some c → (es : List Placed) (rest : Found) (others : List (Clause × Placed))
      → ((fs : Found) (hits : List Hit) → AreHits relation p rest fs → HaveHits fs hits → IsAnswer relation p others hits)
      → (fs : Found) (hits : List Hit) → AreHits relation p (map (at_position k) es ++ rest) fs → HaveHits fs hits
      → IsAnswer relation p (map (placed_in c) es ++ others) hits
  of_clause k c there [] rest others more fs hits h g = more fs hits h g
  of_clause k c there (e ∷ es) rest others more fs hits (inr h) g = inr (h.0, of_clause k c there es rest others more fs hits h.1 g)
  of_clause k c there (e ∷ es) rest others more fs [] (inl h) g = absurd (subst (λ l. HaveHits l []) h.1.2 g)
  of_clause k c there (e ∷ es) rest others more fs (hit ∷ hits) (inl h) g =
      let found = subst (λ l. HaveHits l (hit ∷ hits)) h.1.2 g in
      let of = found.0 in
      let same : hit.clause ≡ c = (let both : Some hit.clause ≡ Some c = sym of.clause ∙ there in cc) in
      let is : hit ≡ record { clause = c; placed = e; solution = hit.solution } =
      λ i. record { clause = same i; placed = of.placed i; solution = hit.solution } in
      inl (h.0, (hit.solution, hits, of.solves, of_clause k c there es rest others more h.1.0 hits h.1.1 found.1, ap (λ x. x ∷ hits) is))

  none_found : (hits : List Hit) → HaveHits [] hits → hits ≡ []
  none_found [] g = refl
  none_found (hit ∷ hits) g = absurd g

  of_all : (front back : List Clause) → clauses ≡ front ++ back → (fs : Found) (hits : List Hit)
      → AreHits relation p (entries_from_position (length front) back) fs → HaveHits fs hits → IsAnswer relation p (state_entries back) hits
  of_all front [] e fs hits h g = none_found hits (subst (λ l. HaveHits l hits) h g)
  of_all front (c ∷ back) e fs hits h g =
      let behind : 1 + length front ≡ length (front ++ c ∷ []) = omega (arith, length-append front (c ∷ [])) in
      of_clause (length front) c (subst (λ l. slice_get l (length front) ≡ Some c) (sym e) (get_here front c back)) (entries c)
      (entries_from_position (1 + length front) back) (state_entries back)
      (λ gs xs a b.
      of_all (front ++ c ∷ []) back (e ∙ sym (append_assoc front (c ∷ []) back)) gs xs
      (subst (λ k. AreHits relation p (entries_from_position k back) gs) behind a) b)
      fs hits h g

  -- all that is found stands inside
  inside_clause : (k : ℕ) → k < length clauses → (es : List Placed) (rest : Found)
      → ((fs : Found) → AreHits relation p rest fs → AllByRecursion (IsInside clauses) fs)
      → (fs : Found) → AreHits relation p (map (at_position k) es ++ rest) fs → AllByRecursion (IsInside clauses) fs
  inside_clause k less [] rest more fs h = more fs h
  inside_clause k less (e ∷ es) rest more fs (inr h) = inside_clause k less es rest more fs h.1
  inside_clause k less (e ∷ es) rest more fs (inl h) =
      subst (AllByRecursion (IsInside clauses)) (sym h.1.2) (less, inside_clause k less es rest more h.1.0 h.1.1)

  inside_all : (k : ℕ) (back : List Clause) → k + length back ≡ length clauses → (fs : Found)
      → AreHits relation p (entries_from_position k back) fs → AllByRecursion (IsInside clauses) fs
  inside_all k [] e fs h = subst (AllByRecursion (IsInside clauses)) (sym h) tt
  inside_all k (c ∷ back) e fs h =
      inside_clause k (omega (arith, e)) (entries c) (entries_from_position (1 + k) back) (λ gs a. inside_all (1 + k) back (omega (arith, e)) gs a) fs h

  -- it stands in the relation, so it has a list
  all_stand : (es fs : Found) → AreHits relation p es fs → AllByRecursion (λ f. Stands relation p f.1.entry) fs
  all_stand [] fs h = subst (AllByRecursion (λ f. Stands relation p f.1.entry)) (sym h) tt
  all_stand (e ∷ es) fs (inl h) =
      subst (AllByRecursion (λ f. Stands relation p f.1.entry)) (sym h.1.2) (h.0, all_stand es h.1.0 h.1.1)
  all_stand (e ∷ es) fs (inr h) = all_stand es fs h.1

  pub all_solved : HasExactlyOneSolution relation → (es fs : Found) → AreHits relation p es fs → HaveCanonicalSolutions relation p fs
  all_solved one es fs h = by fs (all_stand es fs h) where
    by : (fs : Found) → AllByRecursion (λ f. Stands relation p f.1.entry) fs → HaveCanonicalSolutions relation p fs
    by [] stand = tt
    by (f ∷ fs) stand =
        let list = one p f.1.entry stand.0 in
        (record { stands = stand.0; solution = list.0; solves = list.1 }, by fs stand.1)

  -- each of them has its hit
  pub hits_of : (fs : Found) → AllByRecursion (IsInside clauses) fs → HaveCanonicalSolutions relation p fs → (hits : List Hit) × HaveHits fs hits
  hits_of [] inside solved = ([], tt)
  hits_of (f ∷ fs) inside solved =
      let others = hits_of fs inside.1 solved.1 in
      let c = get_some clauses f.0 inside.0 in
      let hit : Hit = record { clause = c.0; placed = f.1; solution = solved.0.solution } in
      (hit ∷ others.0, (record { clause = c.1; placed = refl; solves = solved.0.solves }, others.1))

  pub is_answer : (fs : Found) (hits : List Hit) → AreHits relation p (entries_from_position 0 clauses) fs → HaveHits fs hits → IsAnswer relation p (state_entries clauses) hits
  is_answer fs hits h g = of_all [] clauses refl fs hits h g

  -- the answer is no longer than what it is found among
  pub few_answers : (es : List (Clause × Placed)) (hits : List Hit) → IsAnswer relation p es hits → length hits ≤ length es
  few_answers [] hits h = omega (arith, ap length h)
  few_answers (e ∷ es) hits (inl h) = omega (arith, few_answers es h.1.1 h.1.3, ap length h.1.4)
  few_answers (e ∷ es) hits (inr h) = omega (arith, few_answers es hits h.1)

  pub are_inside : (fs : Found) → AreHits relation p (entries_from_position 0 clauses) fs → AllByRecursion (IsInside clauses) fs
  are_inside fs h = inside_all 0 clauses (omega arith) fs h

-- ---- lines
module _ (f : Finding) where
  -- each hit has a line
  pub hits_have : AllByRecursion (IsInside f.index.clauses) f.hits → HaveCanonicalSolutions f.relation f.pattern f.hits → HaveTexts (IsHitLine f) (length f.hits)
  hits_have inside solved n less =
      let x = get_some f.hits n less in
      let c = get_some f.index.clauses x.0.0 (all_got (IsInside f.index.clauses) f.hits n x.0 inside x.1) in
      let list = all_got (λ (h : ℕ × Placed). HasCanonicalSolution f.relation f.pattern h.1.entry) f.hits n x.0 solved x.1 in
      let hit : Hit = record { clause = c.0; placed = x.0.1; solution = list.solution } in
      (ended (hit_text hit ∷ []), (x.0, hit, x.1, record { clause = c.1; placed = refl; solves = list.solves }, refl))

  -- and the texts of all lines are those of hits
  texts_hits : (done rest : Found) → f.hits ≡ done ++ rest → (texts : List Bytes) → AllZip (IsHitLine f) (range_with_len (length done) (length rest)) texts
      → (hits : List Hit) × AllZip (IsHitOf f.relation f.pattern f.index.clauses) rest hits × (concat texts ≡ ended (hit_texts hits))
  texts_hits done [] e [] h = ([], tt, refl)
  texts_hits done [] e (text ∷ texts) h = absurd h
  texts_hits done (x ∷ rest) e [] h = absurd h
  texts_hits done (x ∷ rest) e (text ∷ texts) h =
      let line = h.0 in
      let there : slice_get f.hits (length done) ≡ Some x = subst (λ (l : Found). slice_get l (length done) ≡ Some x) (sym e) (get_here done x rest) in
      let same : line.0 ≡ x = (let both : Some line.0 ≡ Some x = sym line.2 ∙ there in cc) in
      let behind : length done + 1 ≡ length (done ++ x ∷ []) = omega (arith, length-append done (x ∷ [])) in
      let others = texts_hits (done ++ x ∷ []) rest (e ∙ sym (append_assoc done (x ∷ []) rest)) texts (subst (λ (k : ℕ). AllZip (IsHitLine f) (range_with_len k (length rest)) texts) behind h.1) in (
        line.1 ∷ others.0,
        (subst (λ (y : ℕ × Placed). IsHitOf f.relation f.pattern f.index.clauses y line.1) same line.3, others.1),
        ap (λ (l : Bytes). l ++ concat texts) line.4 ∙ ap (λ (l : Bytes). ended (hit_text line.1 ∷ []) ++ l) others.2 ∙ sym (ended-append (hit_text line.1 ∷ []) (hit_texts others.0)),
      )

  -- the whole answer
  pub answer_reported : (r : Result (Unit {0}) Failed) (a b : SinkShown) → WritesLines (IsHitLine f) (length f.hits) (end_line (length f.hits) ++ 10 ∷ []) r a b → ReportsAnswer f r a b
  answer_reported r a b h =
      let texts = texts_hits [] f.hits refl h.0 h.1 in
      let hits = texts.0 in
      let last : List ℕ → ℕ → Bytes = λ front n. front ++ (end_line n ++ 10 ∷ []) in
      let whole : concat h.0 ++ (end_line (length f.hits) ++ 10 ∷ []) ≡ ended (answer_reply hits) =
      ap (λ (l : Bytes). last l (length f.hits)) texts.2 ∙ ap (last (ended (hit_texts hits))) (sym (AllZip-long (IsHitOf f.relation f.pattern f.index.clauses) f.hits hits texts.1))
      ∙ sym (ended-append (hit_texts hits) (end_line (length hits) ∷ [])) in
      (hits, texts.1, subst (λ (l : Bytes). Sends r l a b) whole h.2)

-- ---- one line
pub line_parts : (name : Name) (place : Place) (list : Solution)
    → hit_line name place list ≡ place_text name place ++ (separator_text Space ++ (solution_text variable_text list ++ separator_text LineFeed))
unfolding hit_line
line_parts name place list = four_apart (place_text name place) (separator_text Space) (solution_text variable_text list) (separator_text LineFeed)

-- the line of a hit, with its end
pub line_is : (hit : Hit) → hit_line hit.clause.name hit.placed.place hit.solution ≡ ended (hit_text hit ∷ [])
unfolding hit_line separator_text
line_is hit = refl

-- ---- what a number finds
pub at_number : (fs : Found) (n : ℕ) (f : ℕ × Placed) (k : ℕ) (place : Place) → slice_get fs n ≡ Some f
    → slice_get (map position_and_place fs) n ≡ Some (k, place) → (f.0 ≡ k) × (f.1.place ≡ place)
at_number [] n f k place is at = absurd (let bad = is in cc)
at_number (x ∷ fs) zero f k place is at =
    let same : x ≡ f = cc in
    let there : ◌≡◌ {A = ℕ × Place} (x.0, x.1.place) (k, place) = cc in
    (sym (ap (λ y. y.0) same) ∙ ap (λ q. q.0) there, sym (ap (λ y. y.1.place) same) ∙ ap (λ q. q.1) there)
at_number (x ∷ fs) (suc n) f k place is at = at_number fs n f k place is at

-- ---- the whole answer
module _ (f : Finding) (index : Kept) (relation : Relation) (p : Pattern)
    (of_index : f.index ≡ index) (of_relation : f.relation ≡ relation) (of_pattern : f.pattern ≡ p)
    (found : AreHits relation p (entries_from_position 0 index.clauses) f.hits) where
  pub whole_answer : (hits : List Hit) → AllZip (IsHitOf f.relation f.pattern f.index.clauses) f.hits hits → IsAnswer relation p (state_entries index.clauses) hits
  whole_answer hits h =
      is_answer relation p index.clauses f.hits hits found
      (subst (λ k. AllZip (IsHitOf relation p k.clauses) f.hits hits) of_index
      (subst (λ q. AllZip (IsHitOf relation q f.index.clauses) f.hits hits) of_pattern
      (subst (λ r. AllZip (IsHitOf r f.pattern f.index.clauses) f.hits hits) of_relation h)))
