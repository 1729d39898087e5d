-- How far a folded term has been written.
use Rattle.std.proofs.Common.{◌≡◌, ℕ, ◌+◌, ◌-◌, ◌^◌, ◌<◌, ◌≤◌, List, [], ◌∷◌, ◌++◌, length, get_or, refl, sym, ◌∙◌, ap, subst, arith, append_assoc, append-nil, length-append, Some, None}
use Rattle.std.specs.Prelude.{slice_get}
use Rattle.std.specs.List.{AllByRecursion}
use Rattle.std.proofs.lemmas.Option.{slice_get_within, get_or_from_slice_get}
use Rattle.si_defs.specs.Terms as terms
use Rattle.si_defs.proofs.ListLaws.{all_front, all_back, all_append}
use Rattle.si_defs.proofs.TermLaws.{size_some}
use Rattle.si_flat.specs.declared.Cell.{Cell}
use Rattle.si_flat.specs.declared.Cell.TheVariants as cell
use Rattle.si_flat.specs.Cells.{Variable, Term, Terms, variable_cell, cells_of, cells_of_all, join}
use Rattle.si_flat.proofs.Subterms.{length-cells_of, length-cells_of_all}
use Rattle.si_unify.specs.declared.slots.Slots.{Slots}
use Rattle.si_unify.specs.Solving.{slot_count, variable_of}
use Rattle.si_unify.proofs.Rows.{cells-join}
use Rattle.si_form.specs.Folding.{leader, variable_or, folded, folded_all, HaveKnown, Folded, IsFolding, CanFold, HasFolded, HasSymbol, UnfoldsClass, WritesCells, HasWritten, IsWriting}
use Rattle.si_form.proofs.SizeLaws.{exact_sizes}
use Rattle.si_form.proofs.RightSides.{led}

folded-join : (slots : Slots) (f : Variable → Term) (ts us : Terms) → folded_all slots f (join ts us) ≡ join (folded_all slots f ts) (folded_all slots f us)
folded-join slots f terms.none us = refl
folded-join slots f (terms.more t ts) us = ap (terms.more (variable_or slots f (leader slots f t) (folded slots f t))) (folded-join slots f ts us)

all_variables-join : (P : Variable → Type 0) (ts us : Terms) → AllByRecursion P (terms.variables_of_all ts) → AllByRecursion P (terms.variables_of_all us) → AllByRecursion P (terms.variables_of_all (join ts us))
all_variables-join P terms.none us h k = k
all_variables-join P (terms.more t ts) us h k =
    all_append P (terms.variables t) (terms.variables_of_all (join ts us)) (all_front P (terms.variables t) (terms.variables_of_all ts) h)
    (all_variables-join P ts us (all_back P (terms.variables t) (terms.variables_of_all ts) h) k)

module _ (slots : Slots) (folding : Folded) (folds : IsFolding folding) (class : ℕ) where
  abbrev IsLed : (Variable → Term) → Variable → Type 0
  IsLed f y = leader slots f (terms.var y) ≡ None → ⊥

  size_at : (f : Variable → Term) (known : List Term) (t : Term) → CanFold slots folding class f known t → (n : ℕ) (u : Term) → slice_get known n ≡ Some u → terms.size (folded slots f u) ≤ 2 ^ 32 - 1 → get_or folding.sizes n 0 ≡ terms.size (folded slots f u)
  size_at f known t can n u at fits = get_or_from_slice_get folding.sizes n (terms.size (folded slots f u)) 0 (exact_sizes slots f folding.nodes known folding.leaders folding.sizes can.are can.led folds.sized n u at fits)

  -- the symbol has been written
  pub writing_begins : (left : List ℕ) (cells : List Cell) → WritesCells folding [] left [] cells class → IsWriting slots folding class cells left 1
  writing_begins left cells h f known t can =
      let w = h slots known can.symbol can.arguments terms.none can.are (can.class_is ∙ ap Some can.term_is) tt in
      let size = size_at f known t can class t can.class_is can.fits in
      let whole : cells_of (folded slots f t) ≡ cell.App can.symbol.number can.symbol.arity (terms.size (folded slots f t)) ∷ cells_of_all (folded_all slots f can.arguments) =
      ap (λ u. cells_of (folded slots f u)) can.term_is
      ∙ ap (λ u. cell.App can.symbol.number can.symbol.arity (terms.size (folded slots f u)) ∷ cells_of_all (folded_all slots f can.arguments)) (sym can.term_is) in
      record {
        rest = join can.arguments terms.none;
        piled = w.1;
        leads = all_variables-join (IsLed f) can.arguments terms.none (subst (λ u. AllByRecursion (IsLed f) (terms.variables u)) can.term_is can.leads) tt;
        whole =
            ap (λ l. l ++ cells_of_all (folded_all slots f (join can.arguments terms.none))) w.0
            ∙ ap (λ n. cell.App can.symbol.number can.symbol.arity n ∷ cells_of_all (folded_all slots f (join can.arguments terms.none))) size
            ∙ ap (λ us. cell.App can.symbol.number can.symbol.arity (terms.size (folded slots f t)) ∷ cells_of_all us) (folded-join slots f can.arguments terms.none)
            ∙ ap (λ l. cell.App can.symbol.number can.symbol.arity (terms.size (folded slots f t)) ∷ l) (cells-join (folded_all slots f can.arguments) terms.none ∙ append-nil (cells_of_all (folded_all slots f can.arguments)))
            ∙ sym whole;
        count_is = ap length w.0;
      }

  module _ (f : Variable → Term) (known : List Term) (t : Term) (can : CanFold slots folding class f known t) where
    -- nothing is left
    pub written_none : (cells : List Cell) (k : ℕ) → HasWritten slots f known t cells [] k → cells ≡ cells_of (folded slots f t)
    written_none cells k h = by h.rest h.piled h.whole
      where
        by : (rest : Terms) → HaveKnown known [] rest → cells ++ cells_of_all (folded_all slots f rest) ≡ cells_of (folded slots f t) → cells ≡ cells_of (folded slots f t)
        by terms.none p w = sym (append-nil cells) ∙ w
        by (terms.more u rest) p w = elim p [ ]

    -- so much is written as the whole has
    pub written_all : (cells : List Cell) (left : List ℕ) (k : ℕ) → terms.size (folded slots f t) ≤ k → HasWritten slots f known t cells left k → cells ≡ cells_of (folded slots f t)
    written_all cells left k less h = by h.rest h.whole
      where
        by : (rest : Terms) → cells ++ cells_of_all (folded_all slots f rest) ≡ cells_of (folded slots f t) → cells ≡ cells_of (folded slots f t)
        by terms.none w = sym (append-nil cells) ∙ w
        by (terms.more u rest) w =
            absurd (omega (
              arith,
              less,
              h.count_is,
              ap length w,
              length-append cells (cells_of_all (folded_all slots f (terms.more u rest))),
              length-cells_of_all (folded_all slots f (terms.more u rest)),
              length-cells_of (folded slots f t),
              size_some (variable_or slots f (leader slots f u) (folded slots f u)),
            ))

    -- the next one
    pub record HasNext (next : ℕ) (left : List ℕ) (cells : List Cell) (k : ℕ) : Type 0 where
      pub term : Term
      pub rest : Terms
      pub term_is : slice_get known next ≡ Some term
      pub piled : HaveKnown known left rest
      pub term_leads : AllByRecursion (IsLed f) (terms.variables term)
      pub leads : AllByRecursion (IsLed f) (terms.variables_of_all rest)
      pub whole : cells ++ (cells_of (variable_or slots f (leader slots f term) (folded slots f term)) ++ cells_of_all (folded_all slots f rest)) ≡ cells_of (folded slots f t)
      pub count_is : length cells ≡ k
      pub leader_at : slice_get folding.leaders next ≡ Some (leader slots f term)

    pub next_of : (next : ℕ) (left : List ℕ) (cells : List Cell) (k : ℕ) → HasWritten slots f known t cells (next ∷ left) k → HasNext next left cells k
    next_of next left cells k h = by h.rest h.piled h.leads h.whole
      where
        by : (rest : Terms) → HaveKnown known (next ∷ left) rest → AllByRecursion (IsLed f) (terms.variables_of_all rest) → cells ++ cells_of_all (folded_all slots f rest) ≡ cells_of (folded slots f t) → HasNext next left cells k
        by terms.none p l w = elim p [ ]
        by (terms.more u rest) p l w = record {
          term = u;
          rest = rest;
          term_is = p.0;
          piled = p.1;
          term_leads = all_front (IsLed f) (terms.variables u) (terms.variables_of_all rest) l;
          leads = all_back (IsLed f) (terms.variables u) (terms.variables_of_all rest) l;
          whole = w;
          count_is = h.count_is;
          leader_at = can.led next u p.0;
        }

    pub written_variable : (next slot : ℕ) (left : List ℕ) (cells cells' : List Cell) (k : ℕ) → HasNext next left cells k → get_or folding.leaders next None ≡ Some slot → cells' ≡ cells ++ variable_cell (variable_of slots slot) ∷ [] → HasWritten slots f known t cells' left (k + 1)
    written_variable next slot left cells cells' k h led is =
        let leader_is : leader slots f h.term ≡ Some slot = sym (get_or_from_slice_get folding.leaders next (leader slots f h.term) None h.leader_at) ∙ led in
        record {
          rest = h.rest;
          piled = h.piled;
          leads = h.leads;
          whole =
              ap (λ l. l ++ cells_of_all (folded_all slots f h.rest)) is
              ∙ append_assoc cells (variable_cell (variable_of slots slot) ∷ []) (cells_of_all (folded_all slots f h.rest))
              ∙ ap (λ o. cells ++ (cells_of (variable_or slots f o (folded slots f h.term)) ++ cells_of_all (folded_all slots f h.rest))) (sym leader_is)
              ∙ h.whole;
          count_is = ap length is ∙ length-append cells (variable_cell (variable_of slots slot) ∷ []) ∙ omega (arith, h.count_is);
        }

    pub written_symbol : (next : ℕ) (left left' : List ℕ) (cells cells' : List Cell) (k : ℕ) → HasNext next left cells k → get_or folding.leaders next None ≡ None → WritesCells folding left left' cells cells' next → HasWritten slots f known t cells' left' (k + 1)
    written_symbol next left left' cells cells' k h led writes = by h.term h.term_is h.term_leads (leader_none) (ap (λ o. cells ++ (cells_of (variable_or slots f o (folded slots f h.term)) ++ cells_of_all (folded_all slots f h.rest))) (sym leader_none) ∙ h.whole)
      where
        leader_none : leader slots f h.term ≡ None
        leader_none = sym (get_or_from_slice_get folding.leaders next (leader slots f h.term) None h.leader_at) ∙ led

        by : (u : Term) → slice_get known next ≡ Some u → AllByRecursion (IsLed f) (terms.variables u) → leader slots f u ≡ None → cells ++ (cells_of (folded slots f u) ++ cells_of_all (folded_all slots f h.rest)) ≡ cells_of (folded slots f t) → HasWritten slots f known t cells' left' (k + 1)
        by (terms.var y) at l none whole = absurd (l.0 none)
        by (terms.app s us) at l none whole =
            let w = writes slots known s us h.rest can.are at h.piled in
            let few : terms.size (folded slots f (terms.app s us)) ≤ 2 ^ 32 - 1 =
            omega (
              arith,
              can.fits,
              ap length whole,
              length-append cells (cells_of (folded slots f (terms.app s us)) ++ cells_of_all (folded_all slots f h.rest)),
              length-append (cells_of (folded slots f (terms.app s us))) (cells_of_all (folded_all slots f h.rest)),
              length-cells_of (folded slots f (terms.app s us)),
              length-cells_of (folded slots f t),
            ) in
            let size = size_at f known t can next (terms.app s us) at few in
            record {
              rest = join us h.rest;
              piled = w.1;
              leads = all_variables-join (IsLed f) us h.rest l h.leads;
              whole =
                  ap (λ m. m ++ cells_of_all (folded_all slots f (join us h.rest))) w.0
                  ∙ append_assoc cells (cell.App s.number s.arity (get_or folding.sizes next 0) ∷ []) (cells_of_all (folded_all slots f (join us h.rest)))
                  ∙ ap (λ n. cells ++ (cell.App s.number s.arity n ∷ cells_of_all (folded_all slots f (join us h.rest)))) size
                  ∙ ap (λ m. cells ++ (cell.App s.number s.arity (terms.size (folded slots f (terms.app s us))) ∷ m)) (ap cells_of_all (folded-join slots f us h.rest) ∙ cells-join (folded_all slots f us) (folded_all slots f h.rest))
                  ∙ whole;
              count_is = ap length w.0 ∙ length-append cells (cell.App s.number s.arity (get_or folding.sizes next 0) ∷ []) ∙ omega (arith, h.count_is);
            }

-- ---- a symbol
pub symbol_written : (folding : Folded) (left left' : List ℕ) (cells cells' : List Cell) (class a b size : ℕ) → UnfoldsClass folding.nodes left left' class (a, b) → size ≡ get_or folding.sizes class 0 → cells' ≡ cells ++ cell.App a b size ∷ [] → WritesCells folding left left' cells cells' class
symbol_written folding left left' cells cells' class a b size h size_is is slots known s ts rest are at have =
    let r = h slots known s ts rest are at have in (
      is
          ∙ ap (λ n. cells ++ cell.App a b n ∷ []) size_is
          ∙ ap (λ p. cells ++ cell.App p.0 p.1 (get_or folding.sizes class 0) ∷ []) r.0,
      r.1,
    )

-- while there are fewer cells than the whole has, classes are left
pub some_left : (slots : Slots) (folding : Folded) → IsFolding folding → (class : ℕ) (left : List ℕ) (cells : List Cell) (k : ℕ) → left ≡ [] → k < get_or folding.sizes class 0 → IsWriting slots folding class cells left k → (f : Variable → Term) × (known : List Term) × (t : Term) × CanFold slots folding class f known t → ⊥
some_left slots folding folds class left cells k none less h (f, known, t, can) =
    let written : HasWritten slots f known t cells [] k = subst (λ l. HasWritten slots f known t cells l k) none (h f known t can) in
    let size = size_at slots folding folds class f known t can class t can.class_is can.fits in
    omega (arith, less, size, written.count_is, ap length (written_none slots folding folds class f known t can cells k written), length-cells_of (folded slots f t))

-- what is asked has a witness
pub record IsAsked (slots : Slots) (folding : Folded) (next : ℕ) : Type 0 where
  pub class_inside : next < length folding.nodes
  pub symbol : get_or folding.leaders next None ≡ None → HasSymbol folding.nodes next
  pub slot_inside : (slot : ℕ) → get_or folding.leaders next None ≡ Some slot → slot < slot_count slots

pub asked : (slots : Slots) (folding : Folded) → IsFolding folding → (class next : ℕ) (left : List ℕ) (cells : List Cell) (k : ℕ) (f : Variable → Term) (known : List Term) (t : Term) → CanFold slots folding class f known t → HasWritten slots f known t cells (next ∷ left) k → IsAsked slots folding next
asked slots folding folds class next left cells k f known t can h =
    let n = next_of slots folding folds class f known t can next left cells k h in
    record {
      class_inside = omega (arith, slice_get_within known next n.term n.term_is, can.are.long);
      symbol = λ e. by n.term n.term_is n.term_leads (sym (get_or_from_slice_get folding.leaders next (leader slots f n.term) None n.leader_at) ∙ e);
      slot_inside = λ slot e. (led slots f (slot_count slots) slot n.term (sym (get_or_from_slice_get folding.leaders next (leader slots f n.term) None n.leader_at) ∙ e)).below;
    }
  where
    by : (u : Term) → slice_get known next ≡ Some u → AllByRecursion (λ y. leader slots f (terms.var y) ≡ None → ⊥) (terms.variables u) → leader slots f u ≡ None → HasSymbol folding.nodes next
    by (terms.var y) at l none = absurd (l.0 none)
    by (terms.app s us) at l none = record { slots = slots; known = known; are = can.are; symbol = s; arguments = us; class_is = at }

-- the whole begins with a symbol
pub can_symbol : (slots : Slots) (folding : Folded) (class : ℕ) (f : Variable → Term) (known : List Term) (t : Term) → CanFold slots folding class f known t → HasSymbol folding.nodes class
can_symbol slots folding class f known t can = record {
  slots = slots;
  known = known;
  are = can.are;
  symbol = can.symbol;
  arguments = can.arguments;
  class_is = can.class_is ∙ ap Some can.term_is;
}

module _ (slots : Slots) (folding : Folded) (folds : IsFolding folding) (class next : ℕ) (left left' : List ℕ) (cells : List Cell) (k : ℕ) (is : left ≡ next ∷ left') (h : IsWriting slots folding class cells left k) where
  taken : (f : Variable → Term) (known : List Term) (t : Term) → CanFold slots folding class f known t → HasWritten slots f known t cells (next ∷ left') k
  taken f known t can = subst (λ l. HasWritten slots f known t cells l k) is (h f known t can)

  pub asked_of : (f : Variable → Term) × (known : List Term) × (t : Term) × CanFold slots folding class f known t → IsAsked slots folding next
  asked_of w = asked slots folding folds class next left' cells k w.0 w.1 w.2 w.3 (taken w.0 w.1 w.2 w.3)

  pub writes_variable : (slot : ℕ) (cells' : List Cell) → get_or folding.leaders next None ≡ Some slot → cells' ≡ cells ++ variable_cell (variable_of slots slot) ∷ [] → IsWriting slots folding class cells' left' (k + 1)
  writes_variable slot cells' led is' f known t can =
      written_variable slots folding folds class f known t can next slot left' cells cells' k (next_of slots folding folds class f known t can next left' cells k (taken f known t can)) led is'

  pub writes_symbol : (left2 : List ℕ) (cells' : List Cell) → get_or folding.leaders next None ≡ None → WritesCells folding left' left2 cells cells' next → IsWriting slots folding class cells' left2 (k + 1)
  writes_symbol left2 cells' led writes f known t can =
      written_symbol slots folding folds class f known t can next left' left2 cells cells' k (next_of slots folding folds class f known t can next left' cells k (taken f known t can)) led writes

pub all_written : (slots : Slots) (folding : Folded) → IsFolding folding → (class : ℕ) (left : List ℕ) (cells : List Cell) (k : ℕ) → get_or folding.sizes class 0 ≤ k → IsWriting slots folding class cells left k → HasFolded slots folding class cells
all_written slots folding folds class left cells k less h f known t can =
    let size = size_at slots folding folds class f known t can class t can.class_is can.fits in
    written_all slots folding folds class f known t can cells left k (omega (arith, less, size)) (h f known t can)
