-- One turn of the walk over a right side, of cells.
use Rattle.std.proofs.Common.{◌≡◌, ℕ, ◌+◌, ◌<◌, ◌≤◌, inl, true, false, List, [], ◌∷◌, ◌++◌, length, take, drop, get_or, refl, sym, ◌∙◌, ap, subst, arith, append_assoc, append-nil, length-append}
use Rattle.std.proofs.lemmas.Bool.{eq-eqb, eqb-true}
use Rattle.std.proofs.lemmas.List.{get_or-drop, length-drop, drop-drop}
use Rattle.std.proofs.Math.Seq.{drop-append_seam}
use Rattle.si_defs.specs.Terms as terms
use Rattle.si_defs.specs.Substitutions.{IsAmong, AreDistinct}
use Rattle.si_defs.proofs.ListLaws.{same_first, same_tail}
use Rattle.si_defs.proofs.TermLaws.{same_more}
use Rattle.si_flat.specs.declared.Cell.{Cell}
use Rattle.si_flat.specs.declared.Cell.TheVariants as cell
use Rattle.si_flat.specs.Cells.{Symbol, Variable, query, entry, ind, Term, Terms, join, variable_cell, cells_of, cells_of_all, IsSound, IsWhole, span, StandsFor}
use Rattle.si_flat.specs.Rows.{first_span}
use Rattle.si_flat.proofs.RowLaws.{first_taken, distinct_parts}
use Rattle.si_flat.proofs.Subterms.{found, span-first, length-cells_of, cells_some, without_cells}
use Rattle.si_unify.proofs.Reading.{one_term}
use Rattle.si_legal.specs.Bindings.{Binding, indicator, indicators, indicators_among, applied}
use Rattle.si_legal.proofs.Splitting.{indicators_all, indicators-more, symbol_is, symbol_self}
use Rattle.si_mscg.specs.Generalising.{same_head_cell}
use Rattle.si_unify.proofs.Rows.{cells-join}
use Rattle.si_insert.specs.declared.open.Opened.{Opened}
use Rattle.si_insert.specs.Opened.{numbers, term_at}
use Rattle.si_insert.specs.Fitting.{FitsTerm, OpensFitting}
use Rattle.si_insert.proofs.FitLaws.{images, opened_at, Remains, LeftToFit, indicator_passed, variable_passed, symbol_passed}

-- ---- the first cell of a term
abbrev pub head_cell : Term → Cell
head_cell (terms.var x) = variable_cell x
head_cell (terms.app s ts) = cell.App s.number s.arity (1 + terms.sizes ts)

abbrev pub inner_cells : Term → List Cell
inner_cells (terms.var x) = []
inner_cells (terms.app s ts) = cells_of_all ts

pub first_cell : (t : Term) → cells_of t ≡ head_cell t ∷ inner_cells t
first_cell (terms.var x) = refl
first_cell (terms.app s ts) = refl

-- ---- where a turn stands
pub record Turn (c : Cell) (rest cells : List Cell) (place : ℕ) (t u : Term) (old now : List Opened) : Type 0 where
  pub a : Term
  pub b : Term
  pub ts : Terms
  pub us : Terms
  pub after : List Cell
  pub node_are : c ∷ rest ≡ cells_of a ++ cells_of_all ts
  pub cells_are : drop place cells ≡ cells_of b ++ (cells_of_all us ++ after)
  pub remains : Remains cells t u old now (terms.more a ts) (terms.more b us)

pub turn : (c : Cell) (rest cells : List Cell) (place : ℕ) (t u : Term) (old now : List Opened) → LeftToFit (c ∷ rest) cells place t u old now → Turn c rest cells place t u old now
turn c rest cells place t u old now l = by l.ts l.us l.node_are l.cells_are l.remains where
  by : (ts us : Terms) → c ∷ rest ≡ cells_of_all ts → drop place cells ≡ cells_of_all us ++ l.after → Remains cells t u old now ts us → Turn c rest cells place t u old now
  by terms.none us p q r = absurd cc
  by (terms.more a ts) terms.none p q r = absurd (omega (arith, r.counts))
  by (terms.more a ts) (terms.more b us) p q r = record {
    a = a;
    b = b;
    ts = ts;
    us = us;
    after = l.after;
    node_are = p;
    cells_are = q ∙ append_assoc (cells_of b) (cells_of_all us) l.after;
    remains = r;
  }

-- the term at the place
pub record IsThere (cells : List Cell) (place : ℕ) (b : Term) (after : List Cell) (d : Cell) : Type 0 where
  pub within : place < length cells
  pub head : get_or cells place d ≡ head_cell b
  pub term : term_at cells place ≡ cells_of b
  pub span_is : span (get_or cells place d) ≡ terms.size b
  pub passed : drop (place + terms.size b) cells ≡ after
  pub inside : drop (place + 1) cells ≡ inner_cells b ++ after

pub there : (cells : List Cell) (place : ℕ) (b : Term) (after : List Cell) (d : Cell) → IsSound b → drop place cells ≡ cells_of b ++ after → IsThere cells place b after d
there cells place b after d sound e =
    let at : get_or cells place d ≡ get_or (cells_of b ++ after) 0 d = ap (λ n. get_or cells n d) (omega arith) ∙ sym (get_or-drop place cells 0 d) ∙ ap (λ l. get_or l 0 d) e in
    record {
      within = omega (arith, length-drop place cells, ap length e, length-append (cells_of b) after, cells_some b);
      head = at ∙ ap (λ l. get_or (l ++ after) 0 d) (first_cell b);
      term = ap (λ l. take (first_span l) l) e ∙ first_taken (cells_of b) after (b, record { cells_are = refl; sound = sound });
      span_is = ap span at ∙ span-first b after d;
      passed = sym (drop-drop (terms.size b) place cells) ∙ ap (drop (terms.size b)) e ∙ ap (λ n. drop n (cells_of b ++ after)) (sym (length-cells_of b)) ∙ drop-append_seam (cells_of b) after;
      inside = sym (drop-drop 1 place cells) ∙ ap (drop 1) e ∙ ap (λ l. drop 1 (l ++ after)) (first_cell b);
    }

pub there_now : (c : Cell) (rest cells : List Cell) (place : ℕ) (t u : Term) (old now : List Opened) (d : Cell) → (r : Turn c rest cells place t u old now) → IsThere cells place r.b (cells_of_all r.us ++ r.after) d
there_now c rest cells place t u old now d r = there cells place r.b (cells_of_all r.us ++ r.after) d r.remains.other_sound.0 r.cells_are

-- ---- the turns
pub start : (node cells after : List Cell) (place : ℕ) (t u : Term) (old : List Opened) → StandsFor node t → IsSound u → drop place cells ≡ cells_of u ++ after → AreDistinct (numbers old ++ indicators t) → LeftToFit node cells place t u old old
start node cells after place t u old stands sound e distinct =
    let same : indicators_all (terms.more t terms.none) ≡ indicators t = indicators-more t terms.none ∙ append-nil (indicators t) in
    record {
      ts = terms.more t terms.none;
      us = terms.more u terms.none;
      after = after;
      node_are = stands.cells_are ∙ sym (append-nil (cells_of t));
      cells_are = e ∙ ap (λ l. l ++ after) (sym (append-nil (cells_of u)));
      remains = record {
        found = [];
        opens = record { others = []; grows = sym (append-nil old); stand = tt; free = tt; within = tt };
        sound = (stands.sound, tt);
        other_sound = (sound, tt);
        counts = refl;
        distinct = subst (λ l. AreDistinct (numbers old ++ l)) (sym same) distinct;
        gives = λ bs lefts gives. record { lefts = lefts ∙ same; gives = (same_more _ _ _ _ gives).0 };
        given = λ bs given. ap (λ v. terms.more v terms.none) given;
      };
    }

pub indicator_turn : (n : ℕ) (rest cells : List Cell) (place : ℕ) (t u : Term) (old now : List Opened) (d : Cell) → Turn (cell.Ind n) rest cells place t u old now → LeftToFit rest cells (place + span (get_or cells place d)) t u old (now ++ opened_at n place ∷ [])
indicator_turn n rest cells place t u old now d r = by r.a r.node_are r.remains where
  at : IsThere cells place r.b (cells_of_all r.us ++ r.after) d
  at = there_now (cell.Ind n) rest cells place t u old now d r

  by : (a : Term) → cell.Ind n ∷ rest ≡ cells_of a ++ cells_of_all r.ts → Remains cells t u old now (terms.more a r.ts) (terms.more r.b r.us) → LeftToFit rest cells (place + span (get_or cells place d)) t u old (now ++ opened_at n place ∷ [])
  by (terms.var (ind m)) e left =
      let same : n ≡ m = cc in
      record {
        ts = r.ts;
        us = r.us;
        after = r.after;
        node_are = same_tail e;
        cells_are = ap (λ k. drop (place + k) cells) at.span_is ∙ at.passed;
        remains = indicator_passed cells t u r.b r.ts r.us old now n place at.term at.within (subst (λ k. Remains cells t u old now (terms.more (indicator k) r.ts) (terms.more r.b r.us)) (sym same) left);
      }
  by (terms.var (entry m)) e left = absurd cc
  by (terms.var (query m)) e left = absurd cc
  by (terms.app s xs) e left = absurd cc

stays_entry : (bs : List Binding) (n : ℕ) → images bs (entry n) ≡ terms.var (entry n)
stays_entry [] n = refl
stays_entry (b ∷ bs) n = stays_entry bs n

stays_query : (bs : List Binding) (n : ℕ) → images bs (query n) ≡ terms.var (query n)
stays_query [] n = refl
stays_query (b ∷ bs) n = stays_query bs n

entry_told : (m : ℕ) (b : Term) → same_head_cell (cell.Entry m) (head_cell b) ≡ true → b ≡ terms.var (entry m)
entry_told m (terms.var (entry k)) e = ap (λ n. terms.var (entry n)) (sym (eqb-true m k e))
entry_told m (terms.var (query k)) e = absurd cc
entry_told m (terms.var (ind k)) e = absurd cc
entry_told m (terms.app s ys) e = absurd cc

query_told : (m : ℕ) (b : Term) → same_head_cell (cell.Query m) (head_cell b) ≡ true → b ≡ terms.var (query m)
query_told m (terms.var (query k)) e = ap (λ n. terms.var (query n)) (sym (eqb-true m k e))
query_told m (terms.var (entry k)) e = absurd cc
query_told m (terms.var (ind k)) e = absurd cc
query_told m (terms.app s ys) e = absurd cc

symbol_told : (s : Symbol) (n : ℕ) (b : Term) → same_head_cell (cell.App s.number s.arity n) (head_cell b) ≡ true → (ys : Terms) × (b ≡ terms.app s ys)
symbol_told s n (terms.app r ys) e = (ys, ap (λ q. terms.app q ys) (sym (symbol_is s r e)))
symbol_told s n (terms.var (query k)) e = absurd cc
symbol_told s n (terms.var (entry k)) e = absurd cc
symbol_told s n (terms.var (ind k)) e = absurd cc

-- the heads are the same: what is inside comes next
pub same_turn : (c : Cell) (rest cells : List Cell) (place : ℕ) (t u : Term) (old now : List Opened) (d : Cell) → ((n : ℕ) → c ≡ cell.Ind n → ⊥) → same_head_cell c (get_or cells place d) ≡ true → Turn c rest cells place t u old now → LeftToFit rest cells (place + 1) t u old now
same_turn c rest cells place t u old now d plain same r = by r.a r.b r.node_are at.inside (ap (same_head_cell c) (sym at.head) ∙ same) r.remains where
  at : IsThere cells place r.b (cells_of_all r.us ++ r.after) d
  at = there_now c rest cells place t u old now d r

  variable_turn : (x : Variable) (b : Term) → ((bs : List Binding) → images bs x ≡ terms.var x) → indicators_among (x ∷ []) ≡ [] → b ≡ terms.var x → c ∷ rest ≡ variable_cell x ∷ cells_of_all r.ts → drop (place + 1) cells ≡ inner_cells b ++ (cells_of_all r.us ++ r.after) → Remains cells t u old now (terms.more (terms.var x) r.ts) (terms.more b r.us) → LeftToFit rest cells (place + 1) t u old now
  variable_turn x b stays none is e inside left = record {
    ts = r.ts;
    us = r.us;
    after = r.after;
    node_are = same_tail e;
    cells_are = inside ∙ ap (λ v. inner_cells v ++ (cells_of_all r.us ++ r.after)) is;
    remains = variable_passed cells t u b r.ts r.us old now x stays none is left;
  }

  symbol_turn : (s : Symbol) (xs ys : Terms) → c ∷ rest ≡ cells_of (terms.app s xs) ++ cells_of_all r.ts → drop (place + 1) cells ≡ cells_of_all ys ++ (cells_of_all r.us ++ r.after) → Remains cells t u old now (terms.more (terms.app s xs) r.ts) (terms.more (terms.app s ys) r.us) → LeftToFit rest cells (place + 1) t u old now
  symbol_turn s xs ys e inside left = record {
    ts = join xs r.ts;
    us = join ys r.us;
    after = r.after;
    node_are = same_tail e ∙ sym (cells-join xs r.ts);
    cells_are = inside ∙ sym (append_assoc (cells_of_all ys) (cells_of_all r.us) r.after) ∙ ap (λ l. l ++ r.after) (sym (cells-join ys r.us));
    remains = symbol_passed cells t u s xs ys r.ts r.us old now (left.sound.0.0 ∙ sym left.other_sound.0.0) left;
  }

  by : (a b : Term) → c ∷ rest ≡ cells_of a ++ cells_of_all r.ts → drop (place + 1) cells ≡ inner_cells b ++ (cells_of_all r.us ++ r.after) → same_head_cell c (head_cell b) ≡ true → Remains cells t u old now (terms.more a r.ts) (terms.more b r.us) → LeftToFit rest cells (place + 1) t u old now
  by (terms.var (ind n)) b e inside told left = absurd (plain n (same_first e))
  by (terms.var (entry m)) b e inside told left = variable_turn (entry m) b (λ bs. stays_entry bs m) refl (entry_told m b (ap (λ x. same_head_cell x (head_cell b)) (sym (same_first e)) ∙ told)) e inside left
  by (terms.var (query m)) b e inside told left = variable_turn (query m) b (λ bs. stays_query bs m) refl (query_told m b (ap (λ x. same_head_cell x (head_cell b)) (sym (same_first e)) ∙ told)) e inside left
  by (terms.app s xs) b e inside told left =
      let known = symbol_told s (1 + terms.sizes xs) b (ap (λ x. same_head_cell x (head_cell b)) (sym (same_first e)) ∙ told) in
      symbol_turn s xs known.0 e (inside ∙ ap (λ v. inner_cells v ++ (cells_of_all r.us ++ r.after)) known.1) (subst (λ v. Remains cells t u old now (terms.more (terms.app s xs) r.ts) (terms.more v r.us)) known.1 left)

-- the heads differ: no bindings give the term
pub differ_turn : (c : Cell) (rest cells : List Cell) (place : ℕ) (t u : Term) (old now : List Opened) (d : Cell) → ((n : ℕ) → c ≡ cell.Ind n → ⊥) → same_head_cell c (get_or cells place d) ≡ false → Turn c rest cells place t u old now → (bs : List Binding) → applied bs t ≡ u → ⊥
differ_turn c rest cells place t u old now d plain differ r bs e = by r.a r.node_are (same_more _ _ _ _ (r.remains.given bs e)).0 (ap (same_head_cell c) (sym at.head) ∙ differ) where
  at : IsThere cells place r.b (cells_of_all r.us ++ r.after) d
  at = there_now c rest cells place t u old now d r

  clash : (b : Term) (x : Cell) → c ≡ x → same_head_cell x (head_cell b) ≡ true → same_head_cell c (head_cell b) ≡ false → ⊥
  clash b x e told not_told =
      let both : true ≡ false = sym told ∙ ap (λ y. same_head_cell y (head_cell b)) (sym e) ∙ not_told in
      cc

  by : (a : Term) → c ∷ rest ≡ cells_of a ++ cells_of_all r.ts → terms.substitute (images bs) a ≡ r.b → same_head_cell c (head_cell r.b) ≡ false → ⊥
  by (terms.var (ind n)) e is told = plain n (same_first e)
  by (terms.var (entry m)) e is told = clash r.b (cell.Entry m) (same_first e) (ap (λ v. same_head_cell (cell.Entry m) (head_cell v)) (sym is ∙ stays_entry bs m) ∙ eq-eqb m m refl) told
  by (terms.var (query m)) e is told = clash r.b (cell.Query m) (same_first e) (ap (λ v. same_head_cell (cell.Query m) (head_cell v)) (sym is ∙ stays_query bs m) ∙ eq-eqb m m refl) told
  by (terms.app s xs) e is told = clash r.b (head_cell (terms.app s xs)) (same_first e) (ap (λ v. same_head_cell (head_cell (terms.app s xs)) (head_cell v)) (sym is) ∙ symbol_self s) told

-- nothing is left: what was found gives the term
pub all_fits : (cells : List Cell) (place : ℕ) (t u : Term) (old now : List Opened) → LeftToFit [] cells place t u old now → OpensFitting cells old now t u
all_fits cells place t u old now l = by l.ts l.us (without_cells l.ts (sym l.node_are)) l.remains where
  by : (ts us : Terms) → ts ≡ terms.none → Remains cells t u old now ts us → OpensFitting cells old now t u
  by terms.none terms.none e r = record {
    bindings = r.found;
    fits = subst (λ bs. FitsTerm bs t u) (append-nil r.found) (r.gives [] refl refl);
    opens = r.opens;
  }
  by terms.none (terms.more u us) e r = absurd (omega (arith, r.counts))
  by (terms.more a ts) us e r = absurd cc

-- an indicator that comes next wasn't opened
pub indicator_new : (n : ℕ) (rest cells : List Cell) (place : ℕ) (t u : Term) (old now : List Opened) → Turn (cell.Ind n) rest cells place t u old now → IsAmong (numbers now) n → ⊥
indicator_new n rest cells place t u old now r among = by r.a r.node_are r.remains where
  by : (a : Term) → cell.Ind n ∷ rest ≡ cells_of a ++ cells_of_all r.ts → Remains cells t u old now (terms.more a r.ts) (terms.more r.b r.us) → ⊥
  by (terms.var (ind m)) e left = let same : n ≡ m = cc in (distinct_parts (numbers now) (m ∷ indicators_all r.ts) left.distinct).2 m (subst (IsAmong (numbers now)) same among) (inl refl)
  by (terms.var (entry m)) e left = cc
  by (terms.var (query m)) e left = cc
  by (terms.app s xs) e left = cc

-- ---- at the start, and at the end
-- the place of a term among cells
pub record IsAt (cells : List Cell) (at : ℕ) : Type 0 where
  pub term : Term
  pub sound : IsSound term
  pub after : List Cell
  pub begins : drop at cells ≡ cells_of term ++ after
  pub stands : StandsFor (term_at cells at) term

pub is_at : (cells : List Cell) (at : ℕ) → IsWhole cells → at < length cells → IsAt cells at
is_at cells at whole inside =
    let f = found whole.0 at whole.1.sound (omega (arith, ap length whole.1.cells_are, length-cells_of whole.0, inside)) in
    let begins : drop at cells ≡ cells_of f.term ++ f.after = (λ i. drop (sym f.place i) (whole.1.cells_are i)) ∙ ap (drop (length f.before)) f.parts ∙ drop-append_seam f.before (cells_of f.term ++ f.after) in
    record {
      term = f.term;
      sound = f.sound;
      after = f.after;
      begins = begins;
      stands = record { cells_are = (there cells at f.term f.after (cell.Query 0) f.sound begins).term; sound = f.sound };
    }

pub start_there : (node cells : List Cell) (at : ℕ) (t' t u : Term) (old : List Opened) → IsWhole cells → at < length cells → StandsFor node t' → AreDistinct (numbers old ++ indicators t') → StandsFor node t → StandsFor (term_at cells at) u → LeftToFit node cells at t u old old
start_there node cells at t' t u old whole inside stands' distinct stands other =
    let a = is_at cells at whole inside in
    let same : a.term ≡ u = one_term (term_at cells at) a.term u a.stands other in
    start node cells a.after at t u old stands other.sound (a.begins ∙ ap (λ v. cells_of v ++ a.after) same) (subst (λ v. AreDistinct (numbers old ++ indicators v)) (one_term node t' t stands' stands) distinct)

-- the walk stays within the cells
pub within_after : (c : Cell) (rest cells : List Cell) (place : ℕ) (t u : Term) (old now : List Opened) (d : Cell) → Turn c rest cells place t u old now → place + span (get_or cells place d) ≤ length cells
within_after c rest cells place t u old now d r =
    let at = there_now c rest cells place t u old now d r in
    omega (arith, at.span_is, at.within, length-drop place cells, ap length r.cells_are, length-append (cells_of r.b) (cells_of_all r.us ++ r.after), length-cells_of r.b)
