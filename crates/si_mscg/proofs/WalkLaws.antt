-- The walk over two terms: what is left of it gives what is left of the pieces.
use Rattle.std.proofs.Common.{◌≡◌, ℕ, ◌+◌, ◌<◌, true, false, cond, ◌&&◌, ◌==◌, List, [], ◌∷◌, ◌++◌, length, get_or, refl, ap, inl, sym, ◌∙◌, subst, arith, append_assoc, append-nil, length-append, ◌^◌}
use Rattle.std.proofs.lemmas.List.{map-append, nil_from_length}
use Rattle.si_defs.specs.Terms as terms
use Rattle.si_defs.specs.Substitutions.{IsAmong, AreDistinct}
use Rattle.si_flat.proofs.Subterms.{cells_some, some_cell}
use Rattle.si_flat.proofs.RowLaws.{distinct_parts}
use Rattle.si_mscg.proofs.PieceLaws.{all_fit}
use Rattle.si_flat.specs.declared.Cell.{Cell}
use Rattle.si_flat.specs.declared.Cell.TheVariants as cell
use Rattle.si_flat.specs.Cells.{Symbol, Variable, query, entry, ind, Term, Terms, join, variable_cell, cells_of, cells_of_all, IsSound, AreSound, IsWhole, StandsFor}
use Rattle.si_flat.specs.Rows.{CellPair, left_sides}
use Rattle.si_legal.specs.Bindings.{indicator, IsIndicator}
use Rattle.si_legal.specs.Generalizations.{same_head}
use Rattle.si_legal.specs.Pieces.{Piece, Pieces, kept, alike, apart, over, then, piece, pieces}
use Rattle.si_unify.proofs.Reading.{same_term}
use Rattle.si_unify.proofs.Rows.{cells-join, sound-join, count-join}
use Rattle.si_legal.proofs.Splitting.{symbol_is}
use Rattle.si_mscg.specs.Generalising.{same_head_cell, spanless, draft_of, draft_of_all}
use Rattle.si_mscg.specs.Walking.{PartsSoFar, cell_pairs, with_piece, MayEnd, BeginsWithTerm}

-- ---- rows of terms, one after the other
pub draft-join : (ts us : Terms) → draft_of_all (join ts us) ≡ draft_of_all ts ++ draft_of_all us
draft-join terms.none us = refl
draft-join (terms.more t ts) us = ap (λ l. draft_of t ++ l) (draft-join ts us) ∙ sym (append_assoc (draft_of t) (draft_of_all ts) (draft_of_all us))

-- the pieces of two rows in turn
abbrev pub both : Pieces → Pieces → Pieces
both p q = record { common = join p.common q.common; node = p.node ++ q.node; new = p.new ++ q.new; next = q.next }

pub pieces-join : (next : ℕ) (ts us ts' us' : Terms) → terms.count ts ≡ terms.count us → pieces next (join ts ts') (join us us') ≡ both (pieces next ts us) (pieces (pieces next ts us).next ts' us')
pieces-join next terms.none terms.none ts' us' e = refl
pieces-join next terms.none (terms.more u us) ts' us' e = absurd (omega (arith, e))
pieces-join next (terms.more t ts) terms.none ts' us' e = absurd (omega (arith, e))
pieces-join next (terms.more t ts) (terms.more u us) ts' us' e =
    let one = piece next t u in
    let inside = pieces one.next ts us in
    let rest = pieces-join one.next ts us ts' us' (omega (arith, e)) in
    ap (then one) rest
    ∙ (λ i. record {
      common = terms.more one.common (join inside.common (pieces inside.next ts' us').common);
      node = sym (append_assoc one.node inside.node (pieces inside.next ts' us').node) i;
      new = sym (append_assoc one.new inside.new (pieces inside.next ts' us').new) i;
      next = (pieces inside.next ts' us').next;
    })

-- ---- the state of a walk
-- from one state, with these terms left, the walk comes to another
pub record Leads (s : PartsSoFar) (ts us : Terms) (end : PartsSoFar) : Type 0 where
  pub draft : s.draft ++ draft_of_all (pieces s.next ts us).common ≡ end.draft
  pub common : s.common ≡ end.common
  pub node : s.node ++ cell_pairs (pieces s.next ts us).node ≡ end.node
  pub new : s.new ++ cell_pairs (pieces s.next ts us).new ≡ end.new
  pub next : (pieces s.next ts us).next ≡ end.next

-- what is left to walk over
pub record Left (node new : List Cell) (s end : PartsSoFar) : Type 0 where
  pub ts : Terms
  pub us : Terms
  pub node_are : node ≡ cells_of_all ts
  pub new_are : new ≡ cells_of_all us
  pub sound : AreSound ts
  pub new_sound : AreSound us
  pub counts : terms.count ts ≡ terms.count us
  pub leads : Leads s ts us end

-- a row that has a first term
abbrev pieces_from : Piece → Terms → Terms → Pieces
pieces_from p ts us = then p (pieces p.next ts us)

-- one term was split into a piece whose common part has one cell
pub one_done : (s end : PartsSoFar) (t u : Term) (ts us : Terms) (p : Piece) (c : Cell) → piece s.next t u ≡ p → draft_of p.common ≡ c ∷ [] → Leads s (terms.more t ts) (terms.more u us) end → Leads (record { draft = s.draft ++ c ∷ []; common = s.common; node = s.node ++ cell_pairs p.node; new = s.new ++ cell_pairs p.new; next = p.next }) ts us end
one_done s end t u ts us p c is one h =
    let all : pieces s.next (terms.more t ts) (terms.more u us) ≡ pieces_from p ts us = ap (λ q. pieces_from q ts us) is in
    record {
      draft =
          append_assoc s.draft (c ∷ []) (draft_of_all (pieces p.next ts us).common)
          ∙ ap (λ l. s.draft ++ (l ++ draft_of_all (pieces p.next ts us).common)) (sym one)
          ∙ ap (λ q. s.draft ++ draft_of_all q.common) (sym all)
          ∙ h.draft;
      common = h.common;
      node =
          append_assoc s.node (cell_pairs p.node) (cell_pairs (pieces p.next ts us).node)
          ∙ ap (λ l. s.node ++ l) (sym (map-append (λ b. (b.0, cells_of b.1)) p.node (pieces p.next ts us).node))
          ∙ ap (λ q. s.node ++ cell_pairs q.node) (sym all)
          ∙ h.node;
      new =
          append_assoc s.new (cell_pairs p.new) (cell_pairs (pieces p.next ts us).new)
          ∙ ap (λ l. s.new ++ l) (sym (map-append (λ b. (b.0, cells_of b.1)) p.new (pieces p.next ts us).new))
          ∙ ap (λ q. s.new ++ cell_pairs q.new) (sym all)
          ∙ h.new;
      next = ap (λ q. q.next) (sym all) ∙ h.next;
    }

-- two symbols are the same: their arguments come next
pub opened_app : (s end : PartsSoFar) (f g : Symbol) (xs ys ts us : Terms) → ((f.number == g.number) && (f.arity == g.arity)) ≡ true → terms.count xs ≡ terms.count ys → Leads s (terms.more (terms.app f xs) ts) (terms.more (terms.app g ys) us) end → Leads (record s { draft = s.draft ++ cell.App f.number f.arity 1 ∷ [] }) (join xs ts) (join ys us) end
opened_app s end f g xs ys ts us same counts h =
    let inside = pieces s.next xs ys in
    let rest = pieces inside.next ts us in
    let all : pieces s.next (terms.more (terms.app f xs) ts) (terms.more (terms.app g ys) us) ≡ then (over f inside) rest =
    ap (λ b. pieces_from (cond b (over f inside) (apart s.next (terms.app f xs) (terms.app g ys))) ts us) same in
    let joined = pieces-join s.next xs ys ts us counts in
    record {
      draft =
          append_assoc s.draft (cell.App f.number f.arity 1 ∷ []) (draft_of_all (pieces s.next (join xs ts) (join ys us)).common)
          ∙ ap (λ q. s.draft ++ cell.App f.number f.arity 1 ∷ draft_of_all q.common) joined
          ∙ ap (λ l. s.draft ++ cell.App f.number f.arity 1 ∷ l) (draft-join inside.common rest.common)
          ∙ ap (λ q. s.draft ++ draft_of_all q.common) (sym all)
          ∙ h.draft;
      common = h.common;
      node = ap (λ q. s.node ++ cell_pairs q.node) (joined ∙ refl) ∙ ap (λ q. s.node ++ cell_pairs q.node) (sym all) ∙ h.node;
      new = ap (λ q. s.new ++ cell_pairs q.new) (joined ∙ refl) ∙ ap (λ q. s.new ++ cell_pairs q.new) (sym all) ∙ h.new;
      next = ap (λ q. q.next) joined ∙ ap (λ q. q.next) (sym all) ∙ h.next;
    }

-- ---- one turn
-- what is left, by its first terms
pub record Turn (c : Cell) (rest new : List Cell) (s end : PartsSoFar) : Type 0 where
  pub t : Term
  pub u : Term
  pub ts : Terms
  pub us : Terms
  pub node_are : c ∷ rest ≡ cells_of t ++ cells_of_all ts
  pub new_are : new ≡ cells_of u ++ cells_of_all us
  pub sound : IsSound t × AreSound ts
  pub new_sound : IsSound u × AreSound us
  pub counts : terms.count ts ≡ terms.count us
  pub leads : Leads s (terms.more t ts) (terms.more u us) end

pub turn : (c : Cell) (rest new : List Cell) (s end : PartsSoFar) → Left (c ∷ rest) new s end → Turn c rest new s end
turn c rest new s end l = by l.ts l.us l.node_are l.new_are l.sound l.new_sound l.counts l.leads where
  by : (ts us : Terms) → c ∷ rest ≡ cells_of_all ts → new ≡ cells_of_all us → AreSound ts → AreSound us → terms.count ts ≡ terms.count us → Leads s ts us end → Turn c rest new s end
  by terms.none us p q h k e leads = absurd cc
  by (terms.more t ts) terms.none p q h k e leads = absurd (omega (arith, e))
  by (terms.more t ts) (terms.more u us) p q h k e leads = record {
    t = t;
    u = u;
    ts = ts;
    us = us;
    node_are = p;
    new_are = q;
    sound = h;
    new_sound = k;
    counts = omega (arith, e);
    leads = leads;
  }

-- ---- first cells
abbrev head_cell : Term → Cell
head_cell (terms.var x) = variable_cell x
head_cell (terms.app f xs) = cell.App f.number f.arity (1 + terms.sizes xs)

-- the first cell of a term, and what stands after it
abbrev inside_of : Term → Terms
inside_of (terms.var x) = terms.none
inside_of (terms.app f xs) = xs

opened_term : (t : Term) → cells_of t ≡ head_cell t ∷ cells_of_all (inside_of t)
opened_term (terms.var x) = refl
opened_term (terms.app f xs) = refl

first_is : (c : Cell) (rest after : List Cell) (t : Term) → c ∷ rest ≡ cells_of t ++ after → c ≡ head_cell t
first_is c rest after t e = by (e ∙ ap (λ l. l ++ after) (opened_term t)) where
  by : c ∷ rest ≡ head_cell t ∷ (cells_of_all (inside_of t) ++ after) → c ≡ head_cell t
  by p = cc

rest_is : (c : Cell) (rest after : List Cell) (t : Term) → c ∷ rest ≡ cells_of t ++ after → rest ≡ cells_of_all (inside_of t) ++ after
rest_is c rest after t e = by (e ∙ ap (λ l. l ++ after) (opened_term t)) where
  by : c ∷ rest ≡ head_cell t ∷ (cells_of_all (inside_of t) ++ after) → rest ≡ cells_of_all (inside_of t) ++ after
  by p = cc

same_cells : (t u : Term) → same_head_cell (head_cell t) (head_cell u) ≡ same_head t u
same_cells (terms.var (query m)) (terms.var (query n)) = refl
same_cells (terms.var (query m)) (terms.var (entry n)) = refl
same_cells (terms.var (query m)) (terms.var (ind n)) = refl
same_cells (terms.var (query m)) (terms.app g ys) = refl
same_cells (terms.var (entry m)) (terms.var (query n)) = refl
same_cells (terms.var (entry m)) (terms.var (entry n)) = refl
same_cells (terms.var (entry m)) (terms.var (ind n)) = refl
same_cells (terms.var (entry m)) (terms.app g ys) = refl
same_cells (terms.var (ind m)) (terms.var (query n)) = refl
same_cells (terms.var (ind m)) (terms.var (entry n)) = refl
same_cells (terms.var (ind m)) (terms.var (ind n)) = refl
same_cells (terms.var (ind m)) (terms.app g ys) = refl
same_cells (terms.app f xs) (terms.var (query n)) = refl
same_cells (terms.app f xs) (terms.var (entry n)) = refl
same_cells (terms.app f xs) (terms.var (ind n)) = refl
same_cells (terms.app f xs) (terms.app g ys) = refl

-- the first cells tell whether the heads are the same
pub heads_told : (c d : Cell) (rest inside after last : List Cell) (t u : Term) → c ∷ rest ≡ cells_of t ++ after → d ∷ inside ≡ cells_of u ++ last → same_head_cell c d ≡ same_head t u
heads_told c d rest inside after last t u p q = (λ i. same_head_cell (first_is c rest after t p i) (first_is d inside last u q i)) ∙ same_cells t u

pub heads_same : (cells others : List Cell) (d : Cell) (t u : Term) → StandsFor cells t → StandsFor others u → same_head_cell (get_or cells 0 d) (get_or others 0 d) ≡ same_head t u
heads_same cells others d t u h k =
    (λ i. same_head_cell (get_or ((h.cells_are ∙ opened_term t) i) 0 d) (get_or ((k.cells_are ∙ opened_term u) i) 0 d)) ∙ same_cells t u

-- ---- pieces of one kind
apart_is : (next : ℕ) (t u : Term) → (IsIndicator t → ⊥) → same_head t u ≡ false → piece next t u ≡ apart next t u
apart_is next (terms.var (query n)) u plain e = ap (λ b. cond b (alike next (terms.var (query n))) (apart next (terms.var (query n)) u)) e
apart_is next (terms.var (entry n)) u plain e = ap (λ b. cond b (alike next (terms.var (entry n))) (apart next (terms.var (entry n)) u)) e
apart_is next (terms.var (ind n)) u plain e = absurd (plain tt)
apart_is next (terms.app f xs) (terms.var x) plain e = refl
apart_is next (terms.app f xs) (terms.app g ys) plain e = ap (λ b. cond b (over f (pieces next xs ys)) (apart next (terms.app f xs) (terms.app g ys))) e

alike_is : (next : ℕ) (x : Variable) (u : Term) → (IsIndicator (terms.var x) → ⊥) → same_head (terms.var x) u ≡ true → piece next (terms.var x) u ≡ alike next (terms.var x)
alike_is next (query n) u plain e = ap (λ b. cond b (alike next (terms.var (query n))) (apart next (terms.var (query n)) u)) e
alike_is next (entry n) u plain e = ap (λ b. cond b (alike next (terms.var (entry n))) (apart next (terms.var (entry n)) u)) e
alike_is next (ind n) u plain e = absurd (plain tt)

-- ---- two fronts of the same cells
record SameFronts (t : Term) (after part rest : List Cell) : Type 0 where
  part_is : part ≡ cells_of t
  rest_is : rest ≡ after

same_fronts : (t : Term) (after part rest : List Cell) → IsSound t → IsWhole part → cells_of t ++ after ≡ part ++ rest → SameFronts t after part rest
same_fronts t after part rest sound whole e =
    let both = same_term t whole.0 after rest sound whole.1.sound (e ∙ ap (λ l. l ++ rest) whole.1.cells_are) in
    record { part_is = whole.1.cells_are ∙ ap cells_of (sym both.same); rest_is = sym both.rest }

-- ---- the three turns
-- an indicator of the node
kept_term : (n : ℕ) (t : Term) (rest after : List Cell) → cell.Ind n ∷ rest ≡ cells_of t ++ after → t ≡ indicator n
kept_term n (terms.var (query m)) rest after e = absurd cc
kept_term n (terms.var (entry m)) rest after e = absurd cc
kept_term n (terms.var (ind m)) rest after e = let same : m ≡ n = cc in ap indicator same
kept_term n (terms.app f xs) rest after e = absurd cc

pub kept_turn : (n : ℕ) (rest new part new_rest : List Cell) (s end : PartsSoFar) → Turn (cell.Ind n) rest new s end → IsWhole part → new ≡ part ++ new_rest → Left rest new_rest (record s { draft = s.draft ++ cell.Ind n ∷ []; new = s.new ++ (n, part) ∷ [] }) end
kept_turn n rest new part new_rest s end tr whole parts =
    let is = kept_term n tr.t rest (cells_of_all tr.ts) tr.node_are in
    let fronts = same_fronts tr.u (cells_of_all tr.us) part new_rest tr.new_sound.0 whole (sym tr.new_are ∙ parts) in
    let done = one_done s end tr.t tr.u tr.ts tr.us (kept s.next n tr.u) (cell.Ind n) (ap (λ t. piece s.next t tr.u) is) refl tr.leads in
    record {
      ts = tr.ts;
      us = tr.us;
      node_are = rest_is (cell.Ind n) rest (cells_of_all tr.ts) (indicator n) (tr.node_are ∙ ap (λ t. cells_of t ++ cells_of_all tr.ts) is);
      new_are = fronts.rest_is;
      sound = tr.sound.1;
      new_sound = tr.new_sound.1;
      counts = tr.counts;
      leads =
          subst (λ x. Leads x tr.ts tr.us end)
          (λ i. record {
            draft = s.draft ++ cell.Ind n ∷ [];
            common = s.common;
            node = append-nil s.node i;
            new = s.new ++ (n, sym fronts.part_is i) ∷ [];
            next = s.next;
          })
          done;
    }

plain_term : (c : Cell) (rest after : List Cell) (t : Term) → c ∷ rest ≡ cells_of t ++ after → ((n : ℕ) → c ≡ cell.Ind n → ⊥) → IsIndicator t → ⊥
plain_term c rest after (terms.var (query n)) e plain h = h
plain_term c rest after (terms.var (entry n)) e plain h = h
plain_term c rest after (terms.var (ind n)) e plain h = plain n (first_is c rest after (terms.var (ind n)) e)
plain_term c rest after (terms.app f xs) e plain h = h

-- different heads
pub cut_turn : (c d : Cell) (rest inside part other node_rest new_rest : List Cell) (s end : PartsSoFar) → Turn c rest (d ∷ inside) s end → ((n : ℕ) → c ≡ cell.Ind n → ⊥) → same_head_cell c d ≡ false → IsWhole part → IsWhole other → c ∷ rest ≡ part ++ node_rest → d ∷ inside ≡ other ++ new_rest → Left node_rest new_rest (record {
  draft = s.draft ++ cell.Ind s.next ∷ [];
  common = s.common;
  node = s.node ++ (s.next, part) ∷ [];
  new = s.new ++ (s.next, other) ∷ [];
  next = s.next + 1;
}) end
cut_turn c d rest inside part other node_rest new_rest s end tr plain differ whole other_whole parts other_parts =
    let fronts = same_fronts tr.t (cells_of_all tr.ts) part node_rest tr.sound.0 whole (sym tr.node_are ∙ parts) in
    let others = same_fronts tr.u (cells_of_all tr.us) other new_rest tr.new_sound.0 other_whole (sym tr.new_are ∙ other_parts) in
    let is = apart_is s.next tr.t tr.u (plain_term c rest (cells_of_all tr.ts) tr.t tr.node_are plain) (sym (heads_told c d rest inside (cells_of_all tr.ts) (cells_of_all tr.us) tr.t tr.u tr.node_are tr.new_are) ∙ differ) in
    let done = one_done s end tr.t tr.u tr.ts tr.us (apart s.next tr.t tr.u) (cell.Ind s.next) is refl tr.leads in
    let after : 1 + s.next ≡ s.next + 1 = omega arith in
    record {
      ts = tr.ts;
      us = tr.us;
      node_are = fronts.rest_is;
      new_are = others.rest_is;
      sound = tr.sound.1;
      new_sound = tr.new_sound.1;
      counts = tr.counts;
      leads = subst (λ x. Leads x tr.ts tr.us end) (λ i. record {
        draft = s.draft ++ cell.Ind s.next ∷ [];
        common = s.common;
        node = s.node ++ (s.next, sym fronts.part_is i) ∷ [];
        new = s.new ++ (s.next, sym others.part_is i) ∷ [];
        next = after i;
      }) done;
    }

spanless_variable : (x : Variable) → spanless (variable_cell x) ≡ variable_cell x
spanless_variable (query n) = refl
spanless_variable (entry n) = refl
spanless_variable (ind n) = refl

no_same : (x : Variable) (g : Symbol) (ys : Terms) → same_head (terms.var x) (terms.app g ys) ≡ true → ⊥
no_same x g ys e = cc

false_not_true : false ≡ true → ⊥
false_not_true e = cc

-- the same head
pub same_turn : (c d : Cell) (rest inside : List Cell) (s end : PartsSoFar) → Turn c rest (d ∷ inside) s end → ((n : ℕ) → c ≡ cell.Ind n → ⊥) → same_head_cell c d ≡ true → Left rest inside (record s { draft = s.draft ++ spanless c ∷ [] }) end
same_turn c d rest inside s end tr plain same =
    by tr.t tr.u tr.node_are tr.new_are tr.sound tr.new_sound (sym (heads_told c d rest inside (cells_of_all tr.ts) (cells_of_all tr.us) tr.t tr.u tr.node_are tr.new_are) ∙ same) tr.leads where
      Result : Type 0
      Result = Left rest inside (record s { draft = s.draft ++ spanless c ∷ [] }) end

      variables : (x y : Variable) → c ∷ rest ≡ variable_cell x ∷ cells_of_all tr.ts → d ∷ inside ≡ variable_cell y ∷ cells_of_all tr.us → same_head (terms.var x) (terms.var y) ≡ true → Leads s (terms.more (terms.var x) tr.ts) (terms.more (terms.var y) tr.us) end → Result
      variables x y p q e leads =
          let is : c ≡ variable_cell x = cc in
          let done = one_done s end (terms.var x) (terms.var y) tr.ts tr.us (alike s.next (terms.var x)) (variable_cell x) (alike_is s.next x (terms.var y) (plain_term c rest (cells_of_all tr.ts) (terms.var x) p plain) e) refl leads in
          record {
            ts = tr.ts;
            us = tr.us;
            node_are = cc;
            new_are = cc;
            sound = tr.sound.1;
            new_sound = tr.new_sound.1;
            counts = tr.counts;
            leads = subst (λ z. Leads z tr.ts tr.us end) (λ i. record {
              draft = s.draft ++ (sym (spanless_variable x) ∙ ap spanless (sym is)) i ∷ [];
              common = s.common;
              node = append-nil s.node i;
              new = append-nil s.new i;
              next = s.next;
            }) done;
          }

      by : (t u : Term) → c ∷ rest ≡ cells_of t ++ cells_of_all tr.ts → d ∷ inside ≡ cells_of u ++ cells_of_all tr.us → IsSound t × AreSound tr.ts → IsSound u × AreSound tr.us → same_head t u ≡ true → Leads s (terms.more t tr.ts) (terms.more u tr.us) end → Result
      by (terms.var x) (terms.var y) p q h k e leads = variables x y p q e leads
      by (terms.var x) (terms.app g ys) p q h k e leads = absurd (no_same x g ys e)
      by (terms.app f xs) (terms.var y) p q h k e leads = absurd (false_not_true e)
      by (terms.app f xs) (terms.app g ys) p q h k e leads =
          let is : c ≡ cell.App f.number f.arity (1 + terms.sizes xs) = cc in
          let symbols = symbol_is f g e in
          let long : terms.count xs ≡ terms.count ys = h.0.0 ∙ ap (λ r. r.arity) symbols ∙ sym k.0.0 in
          record {
            ts = join xs tr.ts;
            us = join ys tr.us;
            node_are = rest_is c rest (cells_of_all tr.ts) (terms.app f xs) p ∙ sym (cells-join xs tr.ts);
            new_are = rest_is d inside (cells_of_all tr.us) (terms.app g ys) q ∙ sym (cells-join ys tr.us);
            sound = sound-join xs tr.ts h.0.1 h.1;
            new_sound = sound-join ys tr.us k.0.1 k.1;
            counts = count-join xs tr.ts ∙ (λ i. long i + tr.counts i) ∙ sym (count-join ys tr.us);
            leads = subst (λ z. Leads (record s { draft = s.draft ++ z ∷ [] }) (join xs tr.ts) (join ys tr.us) end) (ap spanless (sym is)) (opened_app s end f g xs ys tr.ts tr.us e long leads);
          }

-- ---- what the calls of a turn need
pub new_some : (c : Cell) (rest new : List Cell) (s end : PartsSoFar) → Turn c rest new s end → 0 < length new
new_some c rest new s end tr = omega (arith, ap length tr.new_are, length-append (cells_of tr.u) (cells_of_all tr.us), cells_some tr.u)

pub node_begins : (c : Cell) (rest new : List Cell) (s end : PartsSoFar) → Turn c rest new s end → BeginsWithTerm (c ∷ rest)
node_begins c rest new s end tr = record { term = tr.t; rest = cells_of_all tr.ts; sound = tr.sound.0; parts = tr.node_are }

pub new_begins : (c : Cell) (rest new : List Cell) (s end : PartsSoFar) → Turn c rest new s end → BeginsWithTerm new
new_begins c rest new s end tr = record { term = tr.u; rest = cells_of_all tr.us; sound = tr.new_sound.0; parts = tr.new_are }

pub fronts_apart : (xs ys all : List CellPair) (n : ℕ) → xs ++ ys ≡ all → AreDistinct (left_sides all) → IsAmong (left_sides ys) n → IsAmong (left_sides xs) n → ⊥
fronts_apart xs ys all n e distinct b a = (distinct_parts (left_sides xs) (left_sides ys) (subst AreDistinct (ap (λ l. left_sides l) (sym e) ∙ map-append (λ p. p.0) xs ys) distinct)).2 n a b

pub kept_unbound : (n : ℕ) (rest new : List Cell) (s end : PartsSoFar) → Turn (cell.Ind n) rest new s end → MayEnd end → IsAmong (left_sides s.new) n → ⊥
kept_unbound n rest new s end tr may a =
    let is = kept_term n tr.t rest (cells_of_all tr.ts) tr.node_are in
    fronts_apart s.new (cell_pairs (pieces s.next (terms.more tr.t tr.ts) (terms.more tr.u tr.us)).new) end.new n tr.leads.new may.new
    (subst (λ t. IsAmong (left_sides (cell_pairs (pieces s.next (terms.more t tr.ts) (terms.more tr.u tr.us)).new)) n) (sym is) (inl refl))
    a

pub record MayCut (s : PartsSoFar) : Type 0 where
  pub unbound : IsAmong (left_sides s.node) s.next → ⊥
  pub new_unbound : IsAmong (left_sides s.new) s.next → ⊥
  pub small : s.next + 1 < 2 ^ 32

pub may_cut : (c d : Cell) (rest inside : List Cell) (s end : PartsSoFar) → Turn c rest (d ∷ inside) s end → ((n : ℕ) → c ≡ cell.Ind n → ⊥) → same_head_cell c d ≡ false → MayEnd end → MayCut s
may_cut c d rest inside s end tr plain differ may =
    let is = apart_is s.next tr.t tr.u (plain_term c rest (cells_of_all tr.ts) tr.t tr.node_are plain) (sym (heads_told c d rest inside (cells_of_all tr.ts) (cells_of_all tr.us) tr.t tr.u tr.node_are tr.new_are) ∙ differ) in
    let all : pieces s.next (terms.more tr.t tr.ts) (terms.more tr.u tr.us) ≡ pieces_from (apart s.next tr.t tr.u) tr.ts tr.us = ap (λ q. pieces_from q tr.ts tr.us) is in
    record {
      unbound = fronts_apart s.node (cell_pairs (pieces s.next (terms.more tr.t tr.ts) (terms.more tr.u tr.us)).node) end.node s.next tr.leads.node may.node (subst (λ q. IsAmong (left_sides (cell_pairs q.node)) s.next) (sym all) (inl refl));
      new_unbound = fronts_apart s.new (cell_pairs (pieces s.next (terms.more tr.t tr.ts) (terms.more tr.u tr.us)).new) end.new s.next tr.leads.new may.new (subst (λ q. IsAmong (left_sides (cell_pairs q.new)) s.next) (sym all) (inl refl));
      small =
          let last : (pieces (1 + s.next) tr.ts tr.us).next ≡ end.next = ap (λ q. q.next) (sym all) ∙ tr.leads.next in
          omega (arith, last, (all_fit (1 + s.next) tr.ts tr.us).grows, may.next);
    }

pub shorter : (cells part rest : List Cell) → IsWhole part → cells ≡ part ++ rest → length rest < length cells
shorter cells part rest whole e = omega (arith, ap length e, length-append part rest, some_cell part whole)

-- at the start all is left
pub all_left : (node new : List Cell) (s : PartsSoFar) (t u : Term) → node ≡ cells_of t → new ≡ cells_of u → IsSound t → IsSound u → Left node new s (with_piece s (piece s.next t u))
all_left node new s t u p q h k = record {
  ts = terms.more t terms.none;
  us = terms.more u terms.none;
  node_are = p ∙ sym (append-nil (cells_of t));
  new_are = q ∙ sym (append-nil (cells_of u));
  sound = (h, tt);
  new_sound = (k, tt);
  counts = refl;
  leads = record {
    draft = ap (λ l. s.draft ++ l) (append-nil (draft_of (piece s.next t u).common));
    common = refl;
    node = ap (λ bs. s.node ++ cell_pairs bs) (append-nil (piece s.next t u).node);
    new = ap (λ bs. s.new ++ cell_pairs bs) (append-nil (piece s.next t u).new);
    next = refl;
  };
}

-- ---- the end
-- at the end nothing is left
at_end : (new : List Cell) (s end : PartsSoFar) → Left [] new s end → s ≡ end
at_end new s end l = by l.ts l.us l.node_are l.leads where
  by : (ts us : Terms) → ◌≡◌ {A = List Cell} [] (cells_of_all ts) → Leads s ts us end → s ≡ end
  by terms.none us p h =
      let draft = sym (append-nil s.draft) ∙ h.draft in
      let node = sym (append-nil s.node) ∙ h.node in
      let new = sym (append-nil s.new) ∙ h.new in
      λ i. record { draft = draft i; common = h.common i; node = node i; new = new i; next = h.next i }
  by (terms.more (terms.var (query n)) ts) us p h = absurd cc
  by (terms.more (terms.var (entry n)) ts) us p h = absurd cc
  by (terms.more (terms.var (ind n)) ts) us p h = absurd cc
  by (terms.more (terms.app f xs) ts) us p h = absurd cc

pub none_left : (node new : List Cell) (s end : PartsSoFar) → length node ≡ 0 → Left node new s end → s ≡ end
none_left node new s end long h = at_end new s end (subst (λ l. Left l new s end) (nil_from_length node long) h)
