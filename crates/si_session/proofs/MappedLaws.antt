-- What is found by positions is what is answered; and its lines.
use Rattle.std.proofs.Common.{◌≡◌, inl, inr, ℕ, suc, ◌+◌, List, [], ◌∷◌, ◌++◌, length, map, Result, Some, refl, sym, ◌∙◌, ap, subst, arith, append_assoc, length-append}
use Rattle.std.specs.Prelude.{slice_get}
use Rattle.std.specs.List.{AllByRecursion, AllZip, concat, range_with_len}
use Rattle.si_defs.specs.Bytes.{Bytes}
use Rattle.si_defs.specs.Clauses.{Name, Literal, Clause}
use Rattle.si_defs.specs.Printing.{name_text, map_text}
use Rattle.si_state.specs.States.{State}
use Rattle.si_state.specs.Subsumption.{MappedClause, AreMapped, mapped_text}
use Rattle.si_steps.specs.Replies.{mapped_reply, end_line}
use Rattle.si_steps.specs.Runs.{ended}
use Rattle.si_io.specs.Shown.{SinkShown}
use Rattle.si_io.specs.Sends.{Sends}
use Rattle.si_io.specs.Lines.{HaveTexts, WritesLines}
use Rattle.si_io.specs.declared.failed.Failed.{Failed}
use Rattle.si_defs.proofs.ListLaws.{all_got, get_some, get_here}
use Rattle.si_index.specs.declared.subsuming.Mapped.{Mapped}
use Rattle.si_index.specs.Subsuming.{AreMappedFrom}
use Rattle.si_session.specs.Separators.{separator_text}
use Rattle.si_session.specs.MappedClauses.{IsKeptAt, IsMappedLine, mapped_at, all_mapped, mapped_line}
use Rattle.si_session.specs.Session.{Writes, HasPerformed, rightly}
use Rattle.si_session.specs.declared.separator.Separator.TheVariants.{Space, LineFeed}
use Rattle.si_session.specs.declared.stepped.Stepped.{Stepped}
use Rattle.si_session.proofs.EndedLines.{ended-append}
use Rattle.si_reply.proofs.Pieces.{four_apart}

-- ---- positions
one_behind : (front : List Clause) (c : Clause) → suc (length front) ≡ length (front ++ c ∷ [])
one_behind front c = omega (arith, length-append front (c ∷ []))

module _ (P : List Literal → List ℕ → Type 0) (clauses : List Clause) where
  kept_from : (k : ℕ) (back : List Clause) → k + length back ≡ length clauses → (found : List Mapped) → AreMappedFrom P k back found → AllByRecursion (IsKeptAt clauses) found
  kept_from k [] e found h = subst (AllByRecursion (IsKeptAt clauses)) (sym h) tt
  kept_from k (c ∷ back) e found (inr h) = kept_from (suc k) back (omega (arith, e)) found h.1
  kept_from k (c ∷ back) e found (inl h) =
      subst (AllByRecursion (IsKeptAt clauses)) (sym h.5) (omega (arith, e, h.2), kept_from (suc k) back (omega (arith, e)) h.1 h.4)

  mapped_from : (front back : List Clause) → clauses ≡ front ++ back → (found : List Mapped) → AreMappedFrom P (length front) back found → AreMapped P back (all_mapped clauses found)
  mapped_from front [] e found h = ap (all_mapped clauses) h
  mapped_from front (c ∷ back) e found (inr h) =
      inr (h.0, mapped_from (front ++ c ∷ []) back (e ∙ sym (append_assoc front (c ∷ []) back)) found (subst (λ k. AreMappedFrom P k back found) (one_behind front c) h.1))
  mapped_from front (c ∷ back) e found (inl h) =
      let there : slice_get clauses h.0.clause ≡ Some c = ap (slice_get clauses) h.2 ∙ subst (λ l. slice_get l (length front) ≡ Some c) (sym e) (get_here front c back) in
      let others = mapped_from (front ++ c ∷ []) back (e ∙ sym (append_assoc front (c ∷ []) back)) h.1 (subst (λ k. AreMappedFrom P k back h.1) (one_behind front c) h.4) in
      inl (h.0.map, all_mapped clauses h.1, h.3, others, ap (all_mapped clauses) h.5 ∙ ap (λ o. mapped_at o h.0 ++ all_mapped clauses h.1) there)

  -- all stand inside
  pub are_kept : (found : List Mapped) → AreMappedFrom P 0 clauses found → AllByRecursion (IsKeptAt clauses) found
  are_kept found h = kept_from 0 clauses (omega arith) found h

  -- what an answer does
  pub mapped : (found : List Mapped) → AreMappedFrom P 0 clauses found → (o : Stepped) (a b : SinkShown) → Writes o (mapped_reply (all_mapped clauses found)) a b
      → (state : State) → HasPerformed (λ reply new. (ms : List MappedClause) × AreMapped P clauses ms × (reply ≡ mapped_reply ms) × (new ≡ state)) state state o a b
  mapped found h o a b w state = rightly (mapped_reply (all_mapped clauses found)) (all_mapped clauses found, mapped_from [] clauses refl found h, refl, refl) w

-- ---- lines
pub line_parts : (name : Name) (ns : List ℕ) → mapped_line name ns ≡ name_text name ++ (separator_text Space ++ (map_text ns ++ separator_text LineFeed))
unfolding mapped_line
line_parts name ns = four_apart (name_text name) (separator_text Space) (map_text ns) (separator_text LineFeed)

-- the lines of the answer
abbrev pub lines_of : List Clause → List Mapped → Bytes
lines_of clauses found = ended (map mapped_text (all_mapped clauses found))

-- a line, and those after it
pub next_line : (clauses : List Clause) (m : Mapped) (found : List Mapped) (c : Clause) → slice_get clauses m.clause ≡ Some c
    → lines_of clauses (m ∷ found) ≡ mapped_line c.name m.map ++ lines_of clauses found
unfolding mapped_line separator_text
next_line clauses m found c there =
    ap (λ o. ended (map mapped_text (mapped_at o m ++ all_mapped clauses found))) there
    ∙ sym (append_assoc (mapped_text (record { clause = c; numbers = m.map })) (10 ∷ []) (lines_of clauses found))

pub length-mapped : (clauses : List Clause) (found : List Mapped) → AllByRecursion (IsKeptAt clauses) found → length found ≡ length (all_mapped clauses found)
length-mapped clauses [] inside = refl
length-mapped clauses (m ∷ found) inside =
    let there = get_some clauses m.clause inside.0 in
    ap suc (length-mapped clauses found inside.1) ∙ ap (λ o. length (mapped_at o m ++ all_mapped clauses found)) (sym there.1)

-- ---- the lines that are written
module _ (clauses : List Clause) (found : List Mapped) where
  -- each that was found has a line
  pub maps_have : AllByRecursion (IsKeptAt clauses) found → HaveTexts (IsMappedLine clauses found) (length found)
  maps_have kept n less =
      let m = get_some found n less in
      let c = get_some clauses m.0.clause (all_got (IsKeptAt clauses) found n m.0 kept m.1) in
      (mapped_line c.0.name m.0.map, (m.0, c.0, m.1, c.1, refl))

  -- and the texts of all lines are those of the answer
  texts_mapped : (done rest : List Mapped) → found ≡ done ++ rest → (texts : List Bytes) → AllZip (IsMappedLine clauses found) (range_with_len (length done) (length rest)) texts → concat texts ≡ lines_of clauses rest
  texts_mapped done [] e [] h = refl
  texts_mapped done [] e (text ∷ texts) h = absurd h
  texts_mapped done (x ∷ rest) e [] h = absurd h
  texts_mapped done (x ∷ rest) e (text ∷ texts) h =
      let line = h.0 in
      let there : slice_get found (length done) ≡ Some x = subst (λ (l : List Mapped). slice_get l (length done) ≡ Some x) (sym e) (get_here done x rest) in
      let same : line.0 ≡ x = (let both : Some line.0 ≡ Some x = sym line.2 ∙ there in cc) in
      let clause : slice_get clauses x.clause ≡ Some line.1 = subst (λ (m : Mapped). slice_get clauses m.clause ≡ Some line.1) same line.3 in
      let after : length done + 1 ≡ length (done ++ x ∷ []) = omega (arith, length-append done (x ∷ [])) in
      let others = texts_mapped (done ++ x ∷ []) rest (e ∙ sym (append_assoc done (x ∷ []) rest)) texts (subst (λ (k : ℕ). AllZip (IsMappedLine clauses found) (range_with_len k (length rest)) texts) after h.1) in
      ap (λ (l : Bytes). l ++ concat texts) (line.4 ∙ ap (λ (m : Mapped). mapped_line line.1.name m.map) same)
      ∙ ap (λ (l : Bytes). mapped_line line.1.name x.map ++ l) others ∙ sym (next_line clauses x rest line.1 clause)

  -- the whole answer
  pub maps_reported : AllByRecursion (IsKeptAt clauses) found → (r : Result (Unit {0}) Failed) (a b : SinkShown) → WritesLines (IsMappedLine clauses found) (length found) (end_line (length found) ++ 10 ∷ []) r a b
      → Sends r (ended (mapped_reply (all_mapped clauses found))) a b
  maps_reported kept r a b h =
      let ms = all_mapped clauses found in
      let last : Bytes → ℕ → Bytes = λ front n. front ++ (end_line n ++ 10 ∷ []) in
      let whole : concat h.0 ++ (end_line (length found) ++ 10 ∷ []) ≡ ended (mapped_reply ms) =
      ap (λ (l : Bytes). last l (length found)) (texts_mapped [] found refl h.0 h.1) ∙ ap (last (lines_of clauses found)) (length-mapped clauses found kept)
      ∙ sym (ended-append (map mapped_text ms) (end_line (length ms) ∷ [])) in
      subst (λ (l : Bytes). Sends r l a b) whole h.2
