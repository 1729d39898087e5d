-- Drafts and their numbers of cells.
use Rattle.std.proofs.Common.{◌≡◌, ℕ, zero, suc, ◌+◌, ◌-◌, ◌<◌, ◌≤◌, List, [], ◌∷◌, ◌++◌, length, take, drop, set, get_or, refl, ap, sym, ◌∙◌, subst, arith, append_assoc, append-nil, length-append, drop-drop}
use Rattle.std.proofs.Math.Seq.{drop-append_seam, take-length}
use Rattle.std.proofs.lemmas.List.{get_or-drop, length-drop, drop_all}
use Rattle.std.proofs.Common.{add-zero}
use Rattle.si_defs.specs.Terms as terms
use Rattle.si_flat.specs.declared.Cell.{Cell}
use Rattle.si_flat.specs.declared.Cell.TheVariants as cell
use Rattle.si_flat.specs.Cells.{Variable, query, entry, ind, Term, Terms, variable_cell, cells_of, cells_of_all, IsSound, AreSound, span, StandsFor}
use Rattle.si_flat.specs.Rows.{first_span}
use Rattle.si_defs.proofs.TermLaws.{size_some}
use Rattle.si_flat.proofs.Subterms.{length-cells_of, span-first}
use Rattle.si_mscg.specs.Generalising.{draft_of, draft_of_all, IsDraft, BeginsWithTerms, spans, with_span, respanned, HasArguments}

-- ---- the cells of some terms
first_term : (t : Term) (back : List Cell) → drop (first_span (cells_of t ++ back)) (cells_of t ++ back) ≡ back
first_term t back = ap (λ n. drop n (cells_of t ++ back)) (span-first t back (cell.Query 0) ∙ sym (length-cells_of t)) ∙ drop-append_seam (cells_of t) back

pub spans_all : (ts : Terms) (back : List Cell) → spans (terms.count ts) (cells_of_all ts ++ back) ≡ terms.sizes ts
spans_all terms.none back = refl
spans_all (terms.more t ts) back =
    let split = append_assoc (cells_of t) (cells_of_all ts) back in
    let one : 1 + terms.count ts ≡ suc (terms.count ts) = omega arith in
    (λ i. spans (one i) (split i))
    ∙ (λ i. span-first t (cells_of_all ts ++ back) (cell.Query 0) i + (ap (spans (terms.count ts)) (first_term t (cells_of_all ts ++ back)) ∙ spans_all ts back) i)

pub spans_front : (n : ℕ) (cells : List Cell) (h : BeginsWithTerms n cells) → spans n cells ≡ terms.sizes h.front
spans_front n cells h = (λ i. spans (sym h.counted i) (h.parts i)) ∙ spans_all h.front h.back

-- ---- drafts
mutual
  pub length-draft_of : (t : Term) → length (draft_of t) ≡ terms.size t
  length-draft_of (terms.var x) = refl
  length-draft_of (terms.app s ts) = omega (arith, length-draft_of_all ts)

  length-draft_of_all : (ts : Terms) → length (draft_of_all ts) ≡ terms.sizes ts
  length-draft_of_all terms.none = refl
  length-draft_of_all (terms.more t ts) = length-append (draft_of t) (draft_of_all ts) ∙ omega (arith, length-draft_of t, length-draft_of_all ts)

variable_span : (x : Variable) (cells : List Cell) → with_span (variable_cell x) cells ≡ variable_cell x
variable_span (query n) cells = refl
variable_span (entry n) cells = refl
variable_span (ind n) cells = refl

mutual
  pub respanned_draft : (t : Term) (rest : List Cell) → IsSound t → respanned (draft_of t ++ rest) ≡ cells_of t ++ respanned rest
  respanned_draft (terms.var x) rest sound = ap (λ c. c ∷ respanned rest) (variable_span x (respanned rest))
  respanned_draft (terms.app s ts) rest sound =
      let inside = respanned_all ts rest sound.1 in
      let counted : spans s.arity (respanned (draft_of_all ts ++ rest)) ≡ terms.sizes ts =
      (λ i. spans (sym sound.0 i) (inside i)) ∙ spans_all ts (respanned rest) in
      λ i. cell.App s.number s.arity (1 + counted i) ∷ inside i

  pub respanned_all : (ts : Terms) (rest : List Cell) → AreSound ts → respanned (draft_of_all ts ++ rest) ≡ cells_of_all ts ++ respanned rest
  respanned_all terms.none rest sound = refl
  respanned_all (terms.more t ts) rest sound =
      ap respanned (append_assoc (draft_of t) (draft_of_all ts) rest)
      ∙ respanned_draft t (draft_of_all ts ++ rest) sound.0
      ∙ ap (λ l. cells_of t ++ l) (respanned_all ts rest sound.1)
      ∙ sym (append_assoc (cells_of t) (cells_of_all ts) (respanned rest))

-- a draft with its spans is its term
pub draft_done : (cells : List Cell) (d : IsDraft cells) → StandsFor (respanned cells) d.term
draft_done cells d = record {
  cells_are = ap respanned (d.draft ∙ sym (append-nil (draft_of d.term))) ∙ respanned_draft d.term [] d.sound ∙ append-nil (cells_of d.term);
  sound = d.sound;
}

-- after each symbol stand its arguments
abbrev pub AreReady : List Cell → Type 0
AreReady [] = Unit {0}
AreReady (c ∷ cells) = HasArguments c (respanned cells) × AreReady cells

variable_ready : (x : Variable) (cells : List Cell) → HasArguments (variable_cell x) cells
variable_ready (query n) cells = tt
variable_ready (entry n) cells = tt
variable_ready (ind n) cells = tt

mutual
  draft_ready : (t : Term) (rest : List Cell) → IsSound t → AreReady rest → AreReady (draft_of t ++ rest)
  draft_ready (terms.var x) rest sound ready = (variable_ready x (respanned rest), ready)
  draft_ready (terms.app s ts) rest sound ready = (record { front = ts; back = respanned rest; counted = sound.0; parts = respanned_all ts rest sound.1 }, all_ready ts rest sound.1 ready)

  all_ready : (ts : Terms) (rest : List Cell) → AreSound ts → AreReady rest → AreReady (draft_of_all ts ++ rest)
  all_ready terms.none rest sound ready = ready
  all_ready (terms.more t ts) rest sound ready = subst AreReady (sym (append_assoc (draft_of t) (draft_of_all ts) rest)) (draft_ready t (draft_of_all ts ++ rest) sound.0 (all_ready ts rest sound.1 ready))

pub is_ready : (cells : List Cell) → IsDraft cells → AreReady cells
is_ready cells d = subst AreReady (append-nil (draft_of d.term) ∙ sym d.draft) (draft_ready d.term [] d.sound tt)

pub ready_at : (cells : List Cell) (k : ℕ) (d : Cell) → AreReady cells → k < length cells → HasArguments (get_or cells k d) (respanned (drop (suc k) cells))
ready_at [] k d ready less = absurd (omega (arith, less))
ready_at (c ∷ cells) zero d ready less = ready.0
ready_at (c ∷ cells) (suc k) d ready less = ready_at cells k d ready.1 (omega (arith, less))

-- ---- a loop over so many terms
pub record IsPast (total : ℕ) (cells : List Cell) (turns end : ℕ) : Type 0 where
  pub front : Terms
  pub back : List Cell
  pub counted : turns + terms.count front ≡ total
  pub parts : drop end cells ≡ cells_of_all front ++ back
  pub sum : end + terms.sizes front ≡ spans total cells
  pub inside : end ≤ length cells

pub past_none : (total : ℕ) (cells : List Cell) → BeginsWithTerms total cells → IsPast total cells 0 0
past_none total cells h = record {
  front = h.front;
  back = h.back;
  counted = omega (arith, h.counted);
  parts = h.parts;
  sum = omega (arith, spans_front total cells h);
  inside = omega arith;
}

pub record OneMore (total : ℕ) (cells : List Cell) (turns end : ℕ) : Type 0 where
  pub first : Term
  pub rest : Terms
  pub back : List Cell
  pub parts : drop end cells ≡ cells_of first ++ (cells_of_all rest ++ back)
  pub counted : turns + 1 + terms.count rest ≡ total
  pub sum : end + terms.size first + terms.sizes rest ≡ spans total cells

pub one_more : (total : ℕ) (cells : List Cell) (turns end : ℕ) → turns < total → IsPast total cells turns end → OneMore total cells turns end
one_more total cells turns end less p = by p.front p.counted p.parts p.sum where
  by : (front : Terms) → turns + terms.count front ≡ total → drop end cells ≡ cells_of_all front ++ p.back → end + terms.sizes front ≡ spans total cells → OneMore total cells turns end
  by terms.none counted parts sum = absurd (omega (arith, counted, less))
  by (terms.more t ts) counted parts sum = record {
    first = t;
    rest = ts;
    back = p.back;
    parts = parts ∙ append_assoc (cells_of t) (cells_of_all ts) p.back;
    counted = omega (arith, counted);
    sum = omega (arith, sum);
  }

pub past_inside : (total : ℕ) (cells : List Cell) (turns end : ℕ) (o : OneMore total cells turns end) → end + terms.size o.first ≤ length cells
past_inside total cells turns end o =
    omega (arith, length-drop end cells, ap length o.parts, length-append (cells_of o.first) (cells_of_all o.rest ++ o.back), length-cells_of o.first, size_some o.first)

pub past_span : (total : ℕ) (cells : List Cell) (turns end : ℕ) (d : Cell) (o : OneMore total cells turns end) → span (get_or cells end d) ≡ terms.size o.first
past_span total cells turns end d o =
    ap span (ap (λ n. get_or cells n d) (sym (add-zero end)) ∙ sym (get_or-drop end cells 0 d) ∙ ap (λ l. get_or l 0 d) o.parts)
    ∙ span-first o.first (cells_of_all o.rest ++ o.back) d

pub past_one : (total : ℕ) (cells : List Cell) (turns end : ℕ) (o : OneMore total cells turns end) → IsPast total cells (turns + 1) (end + terms.size o.first)
past_one total cells turns end o = record {
  front = o.rest;
  back = o.back;
  counted = o.counted;
  parts =
      sym (drop-drop (terms.size o.first) end cells)
      ∙ ap (drop (terms.size o.first)) o.parts
      ∙ subst (λ n. drop n (cells_of o.first ++ (cells_of_all o.rest ++ o.back)) ≡ cells_of_all o.rest ++ o.back) (length-cells_of o.first) (drop-append_seam (cells_of o.first) (cells_of_all o.rest ++ o.back));
  sum = o.sum;
  inside = past_inside total cells turns end o;
}

pub past_end : (total : ℕ) (cells : List Cell) (turns end : ℕ) → total ≤ turns → IsPast total cells turns end → end ≡ spans total cells
past_end total cells turns end less p = by p.front p.counted p.sum where
  by : (front : Terms) → turns + terms.count front ≡ total → end + terms.sizes front ≡ spans total cells → end ≡ spans total cells
  by terms.none counted sum = omega (arith, sum)
  by (terms.more t ts) counted sum = absurd (omega (arith, counted, less))

-- ---- one symbol after the other, from the last to the first
pub respan_start : (cells : List Cell) → cells ≡ take (length cells) cells ++ respanned (drop (length cells) cells)
respan_start cells = sym (append-nil cells) ∙ (λ i. sym (take-length cells) i ++ sym (ap respanned (drop_all (length cells) cells (omega arith))) i)

-- the cell before those that are done
pub respan_cell : (cells : List Cell) (at : ℕ) (d : Cell) → at < length cells → get_or (take (suc at) cells ++ respanned (drop (suc at) cells)) at d ≡ get_or cells at d
respan_cell [] at d less = absurd (omega (arith, less))
respan_cell (c ∷ cells) zero d less = refl
respan_cell (c ∷ cells) (suc at) d less = respan_cell cells at d (omega (arith, less))

pub respan_done : (cells : List Cell) (at : ℕ) → at < length cells → drop (suc at) (take (suc at) cells ++ respanned (drop (suc at) cells)) ≡ respanned (drop (suc at) cells)
respan_done [] at less = absurd (omega (arith, less))
respan_done (c ∷ cells) zero less = refl
respan_done (c ∷ cells) (suc at) less = respan_done cells at (omega (arith, less))

pub respan_step : (cells : List Cell) (at : ℕ) (d : Cell) → at < length cells → set (take (suc at) cells ++ respanned (drop (suc at) cells)) at (with_span (get_or cells at d) (respanned (drop (suc at) cells))) ≡ take at cells ++ respanned (drop at cells)
respan_step [] at d less = absurd (omega (arith, less))
respan_step (c ∷ cells) zero d less = refl
respan_step (c ∷ cells) (suc at) d less = ap (λ l. c ∷ l) (respan_step cells at d (omega (arith, less)))

-- where the cells from a place on are done
abbrev pub DoneFrom : List Cell → List Cell → ℕ → Type 0
DoneFrom old cells at = cells ≡ take at old ++ respanned (drop at old)

pub may_step : (old cells : List Cell) (count done : ℕ) (d : Cell) → count ≡ length old → done < count → DoneFrom old cells (count - done) → AreReady old → HasArguments (get_or cells (count - 1 - done) d) (drop (count - 1 - done + 1) cells)
may_step old cells count done d long less from ready =
    let here : count - done ≡ suc (count - 1 - done) = omega (arith, less) in
    let after : count - 1 - done + 1 ≡ suc (count - 1 - done) = omega arith in
    let inside : count - 1 - done < length old = omega (arith, long, less) in
    let is = subst (DoneFrom old cells) here from in
    subst (λ n. HasArguments (get_or cells (count - 1 - done) d) (drop n cells)) (sym after)
    (subst (λ l. HasArguments (get_or l (count - 1 - done) d) (drop (suc (count - 1 - done)) l)) (sym is)
    (subst (λ c. HasArguments c (drop (suc (count - 1 - done)) (take (suc (count - 1 - done)) old ++ respanned (drop (suc (count - 1 - done)) old)))) (sym (respan_cell old (count - 1 - done) d inside))
    (subst (HasArguments (get_or old (count - 1 - done) d)) (sym (respan_done old (count - 1 - done) inside))
    (ready_at old (count - 1 - done) d ready inside))))

pub stepped : (old cells new : List Cell) (count done : ℕ) (d : Cell) → count ≡ length old → done < count → DoneFrom old cells (count - done) → new ≡ set cells (count - 1 - done) (with_span (get_or cells (count - 1 - done) d) (drop (count - 1 - done + 1) cells)) → DoneFrom old new (count - (done + 1))
stepped old cells new count done d long less from is =
    let here : count - done ≡ suc (count - 1 - done) = omega (arith, less) in
    let after : count - 1 - done + 1 ≡ suc (count - 1 - done) = omega arith in
    let next : count - 1 - done ≡ count - (done + 1) = omega arith in
    let inside : count - 1 - done < length old = omega (arith, long, less) in
    let cells_are = subst (DoneFrom old cells) here from in
    let cell_is = ap (λ l. get_or l (count - 1 - done) d) cells_are ∙ respan_cell old (count - 1 - done) d inside in
    let rest_is = (λ i. drop (after i) (cells_are i)) ∙ respan_done old (count - 1 - done) inside in
    subst (DoneFrom old new) next
    (is ∙ (λ i. set (cells_are i) (count - 1 - done) (with_span (cell_is i) (rest_is i))) ∙ respan_step old (count - 1 - done) d inside)
