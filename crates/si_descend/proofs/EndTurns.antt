-- Where indicators end, and that the first nodes down to a leaf bind all that are open above.
use Rattle.std.proofs.Common.{◌≡◌, ◌↔◌, ◌⊎◌, inl, inr, ℕ, zero, suc, ◌<◌, ◌≤◌, Bool, true, false, IsTrue, List, [], ◌∷◌, ◌++◌, Option, None, Some, length, slice_get, get_or, refl, ap, sym, ◌∙◌, subst, arith, append_assoc}
use Rattle.std.proofs.lemmas.Bool.Decides.{eqb_tells}
use Rattle.std.proofs.lemmas.Bool.{eq-eqb}
use Rattle.std.proofs.lemmas.List.{map-append}
use Rattle.std.proofs.lemmas.Option.{same_Some}
use Rattle.std.specs.Prelude.{◌==◌}
use Rattle.std.specs.Option.{is_some}
use Rattle.std.specs.List.{AllByRecursion, list_any}
use Rattle.std.specs.Borrow.{Bor}
use Rattle.si_defs.specs.Terms as terms
use Rattle.si_defs.specs.Substitutions.{IsAmong, AreDistinct}
use Rattle.si_defs.proofs.ListLaws.{all_at, all_weaker, all_append, among_front, among_back, get_among}
use Rattle.si_flat.specs.declared.Cell.{Cell}
use Rattle.si_flat.specs.declared.Cell.TheVariants as cell
use Rattle.si_flat.specs.Cells.{Variable, query, entry, ind, Term, variable_cell}
use Rattle.si_flat.specs.Rows.{CellPair, left_sides}
use Rattle.si_flat.proofs.RowLaws.{distinct_append}
use Rattle.si_trail.specs.Trails.{value_at, HasDistinctSlots, IsSlotOf}
use Rattle.si_unify.specs.declared.slots.Slots.{Slots}
use Rattle.si_unify.specs.Solving.{Pairs, slot_of, variable_of, is_frozen, CellIsInRange, AreInRange, IsBinding}
use Rattle.si_unify.specs.Spots.{cell_slot, IsUnbound}
use Rattle.si_unify.proofs.Places.{whole_at, first_cell, cell-at, inside, in_range-at, in_range-variable}
use Rattle.si_unify.proofs.Reading.{one_term}
use Rattle.si_legal.specs.Bindings.{Binding, StandForBindings}
use Rattle.si_legal.specs.Trees.{Content, inner, leaf, Node, Tree, HasNode, Path, IsPath, path_term}
use Rattle.si_legal.specs.Legal.{IsLegal, IsOpenBelow, IsLegalContent}
use Rattle.si_legal.proofs.PathLaws.{one_path}
use Rattle.si_legal.proofs.SplitLaws.{occurs, occurs_not}
use Rattle.si_changes.proofs.Frames.{legal_nodes}
use Rattle.si_changes.proofs.HeadLaws.{indicator_variable}
use Rattle.si_changes.proofs.Permuted.{among_or_not}
use Rattle.si_changes.proofs.StoredLaws.{path_start}
use Rattle.si_changes.proofs.ComposeLaws.{is_open}
use Rattle.si_tree.specs.Reading.{IsNode, split_of}
use Rattle.si_fit.specs.Ends.{EndsAt}
use Rattle.si_fit.specs.Fitting.{AreRowsInRange}
use Rattle.si_fit.proofs.EndLaws.{no_cell}
use Rattle.si_descend.specs.Subtrees.{EndsFree, AreEndsOf, AddsEnds, IsClear, HasClearValue, AreClear, AreAllOpen}
use Rattle.si_descend.proofs.Along.{is_step}
use Rattle.si_descend.proofs.Openness.{of_kind, entry_no_ind}
use Rattle.si_descend.proofs.Below.{IsChildOf}
use Rattle.si_descend.proofs.RenameLaws.{got_within, none_got}

-- ---- lists of slots
untrue : (b : Bool) → b ≡ false → IsTrue b → ⊥
untrue b e t = by (sym e ∙ t) where
  by : false ≡ true → ⊥
  by p = cc

pub tells_among : (ns : List ℕ) (n : ℕ) → IsTrue (list_any (λ m. m == n) ns) ↔ IsAmong ns n
tells_among ns n = (
  λ t. elim (among_or_not ns n) as (λ _. IsAmong ns n) [ inl a ↦ a | inr o ↦ absurd (untrue (list_any (λ m. m == n) ns) (occurs_not ns n o) t) ],
  λ a. occurs ns n a,
)

-- ---- one end
variable_first : (t : Term) (x : Variable) → first_cell t ≡ variable_cell x → t ≡ terms.var x
variable_first (terms.var (query m)) (query n) e = cc
variable_first (terms.var (query m)) (entry n) e = cc
variable_first (terms.var (query m)) (ind n) e = cc
variable_first (terms.var (entry m)) (query n) e = cc
variable_first (terms.var (entry m)) (entry n) e = cc
variable_first (terms.var (entry m)) (ind n) e = cc
variable_first (terms.var (ind m)) (query n) e = cc
variable_first (terms.var (ind m)) (entry n) e = cc
variable_first (terms.var (ind m)) (ind n) e = cc
variable_first (terms.app s ts) (query n) e = cc
variable_first (terms.app s ts) (entry n) e = cc
variable_first (terms.app s ts) (ind n) e = cc

slot_of_cell : (slots : Slots) (x : Variable) → cell_slot slots (variable_cell x) ≡ Some (slot_of slots x)
slot_of_cell slots (query n) = refl
slot_of_cell slots (entry n) = refl
slot_of_cell slots (ind n) = refl

module _ (slots : Slots) (pairs : Pairs) where
  pub some_end : (start end : List Cell) → EndsAt slots pairs start end → 0 < length end
  some_end start end ends = inside end 0 ends.last (whole_at end ends.last ends.last_stands)

  pub ends_free : (n : ℕ) (start end : List Cell) → start ≡ cell.Ind n ∷ [] → EndsAt slots pairs start end → AreInRange slots end → (x : Variable) → get_or end 0 no_cell ≡ variable_cell x → ((m : ℕ) → x ≡ entry m → ⊥) → is_frozen slots x ≡ false → EndsFree slots pairs n (slot_of slots x)
  ends_free n start end is ends range x head no_entry unfrozen = record {
    variable = x;
    slot_is = refl;
    range = in_range-variable slots x (subst (CellIsInRange slots) head (in_range-at slots end 0 no_cell range (some_end start end ends)));
    no_entry = no_entry;
    unfrozen = unfrozen;
    unbound = subst (IsUnbound pairs) (ap (cell_slot slots) head ∙ slot_of_cell slots x) ends.unbound;
    same = λ f solved. ap (terms.substitute f) (sym first) ∙ ends.same f solved ∙ ap (terms.substitute f) last;
  } where
    first : ends.first ≡ terms.var (ind n)
    first = one_term start ends.first (terms.var (ind n)) ends.first_stands (record { cells_are = is; sound = tt })

    last : ends.last ≡ terms.var x
    last = variable_first ends.last x (sym (cell-at end 0 ends.last no_cell (whole_at end ends.last ends.last_stands)) ∙ head)

  -- ---- the ends of a list of bindings
  pub end_added : (ns old : List ℕ) (n slot : ℕ) → EndsFree slots pairs n slot → (IsAmong old slot → ⊥) → AreEndsOf slots pairs ns old → AreEndsOf slots pairs (ns ++ n ∷ []) (old ++ slot ∷ [])
  end_added ns old n slot free new are = record {
    rows = are.rows ++ (n, slot) ∷ [];
    indicators_are = map-append (λ r. r.0) are.rows ((n, slot) ∷ []) ∙ ap (λ l. l ++ n ∷ []) are.indicators_are;
    ends_are = map-append (λ r. r.1) are.rows ((n, slot) ∷ []) ∙ ap (λ l. l ++ slot ∷ []) are.ends_are;
    free = all_append (λ r. EndsFree slots pairs r.0 r.1) are.rows ((n, slot) ∷ []) are.free (free, tt);
    distinct = distinct_append old (slot ∷ []) are.distinct ((λ a. a), tt) (λ k a b. elim b as (λ _. ⊥) [ inl e ↦ new (subst (IsAmong old) (sym e) a) | inr c ↦ c ]);
  }

  pub record IsAdding (rows left : List CellPair) (old new : List ℕ) : Type 0 where
    pub done : List CellPair
    pub whole : rows ≡ done ++ left
    pub range : AreRowsInRange slots left
    pub adds : AddsEnds slots pairs (left_sides done) old new

  pub adding_more : (rows left : List CellPair) (old mid new : List ℕ) (row : CellPair) (rest : List CellPair) (slot : ℕ) → left ≡ row ∷ rest → IsAdding rows left old mid → EndsFree slots pairs row.0 slot → (IsAmong mid slot → ⊥) → new ≡ mid ++ slot ∷ [] → IsAdding rows rest old new
  adding_more rows left old mid new row rest slot first h free apart e = record {
    done = h.done ++ row ∷ [];
    whole = h.whole ∙ ap (λ l. h.done ++ l) first ∙ sym (append_assoc h.done (row ∷ []) rest);
    range = (subst (AreRowsInRange slots) first h.range).1;
    adds = λ ns are.
        subst (λ l. AreEndsOf slots pairs l new) (append_assoc ns (left_sides h.done) (row.0 ∷ []) ∙ ap (λ l. ns ++ l) (sym (map-append (λ r. r.0) h.done (row ∷ []))))
        (subst (AreEndsOf slots pairs ((ns ++ left_sides h.done) ++ row.0 ∷ [])) (sym e) (end_added (ns ++ left_sides h.done) mid row.0 slot free apart (h.adds ns are)));
  }

  -- ---- values of the entry's variables
  value_told : (all : Pairs) (n slot : ℕ) (v : Bor (List Cell)) → HasDistinctSlots all → slice_get all n ≡ Some (slot, v) → value_at all slot ≡ Some v
  value_told [] n slot v d e = absurd (none_got (slot, v) e)
  value_told (p ∷ all) zero slot v d e =
      let same = same_Some p (slot, v) e in
      rw (eq-eqb p.0 slot (ap (λ q. q.0) same)) (ap (λ q. Some q.1) same)
  value_told (p ∷ all) (suc n) slot v d e =
      let rest = value_told all n slot v d.1 e in
      elim (eqb_tells p.0 slot) [
        | inl k ↦ absurd (no_some v (sym rest ∙ ap (value_at all) (sym k.1) ∙ d.0))
        | inr k ↦ rw k.0 rest
      ]
    where
      no_some : (v : Bor (List Cell)) → Some v ≡ None → ⊥
      no_some v p = cc

  pub other_clear : (ends : List ℕ) (n found : ℕ) → IsSlotOf pairs n found → ((m : ℕ) × (variable_of slots found ≡ entry m) → ⊥) → HasClearValue slots pairs ends n
  other_clear ends n found is none slot m value e name =
      let same = same_Some (slot, value) (found, is.0) (sym e ∙ is.1) in
      absurd (none (m, ap (λ p. variable_of slots p.0) (sym same) ∙ name))

  pub clear_value : (ends : List ℕ) (n found : ℕ) (w : Bor (List Cell)) → HasDistinctSlots pairs → IsSlotOf pairs n found → Some w ≡ value_at pairs found → AllByRecursion (λ c. IsClear pairs ends (cell_slot slots c)) w.now → HasClearValue slots pairs ends n
  clear_value ends n found w distinct is bound clear slot m value e name =
      let same = same_Some (slot, value) (found, is.0) (sym e ∙ is.1) in
      let own : w ≡ is.0 = same_Some w is.0 (bound ∙ value_told pairs n found is.0 distinct is.1) in
      subst (λ u. AllByRecursion (λ c. IsClear pairs ends (cell_slot slots c)) u.now) (own ∙ sym (ap (λ p. p.1) same)) clear

  pub value_clear : (ends : List ℕ) (n found m : ℕ) (w : Bor (List Cell)) → HasDistinctSlots pairs → IsSlotOf pairs n found → Some w ≡ value_at pairs found → variable_of slots found ≡ entry m → HasClearValue slots pairs ends n → AllByRecursion (λ c. IsClear pairs ends (cell_slot slots c)) w.now
  value_clear ends n found m w distinct is bound name clear =
      let own : w ≡ is.0 = same_Some w is.0 (bound ∙ value_told pairs n found is.0 distinct is.1) in
      subst (λ u. AllByRecursion (λ c. IsClear pairs ends (cell_slot slots c)) u.now) (sym own) (clear found m is.0 is.1 name)

  -- frozen ones have none
  pub frozen_clear : (ends : List ℕ) → AllByRecursion (IsBinding slots) pairs → slots.freeze_entry ≡ true → AreClear slots pairs ends
  frozen_clear ends bindings frozen = all_weaker (IsBinding slots) (λ p. (m : ℕ) → variable_of slots p.0 ≡ entry m → AllByRecursion (λ c. IsClear pairs ends (cell_slot slots c)) p.1.now) pairs (λ p b m name. absurd (both (sym b.unfrozen ∙ ap (is_frozen slots) name ∙ frozen))) bindings where
    both : false ≡ true → ⊥
    both e = cc

  abbrev pub AreClearBefore : List ℕ → ℕ → Type 0
  AreClearBefore ends end = (n : ℕ) → n < end → HasClearValue slots pairs ends n

  pub all_clear : (ends : List ℕ) (end : ℕ) → length pairs ≤ end → AreClearBefore ends end → AreClear slots pairs ends
  all_clear ends end long h = by pairs (λ n p e m name. h n (omega (arith, long, got_within pairs n p e)) p.0 m p.1 e name) where
    by : (some : Pairs) → ((n : ℕ) (p : ℕ × Bor (List Cell)) → slice_get some n ≡ Some p → (m : ℕ) → variable_of slots p.0 ≡ entry m → AllByRecursion (λ c. IsClear pairs ends (cell_slot slots c)) p.1.now) → AllByRecursion (λ p. (m : ℕ) → variable_of slots p.0 ≡ entry m → AllByRecursion (λ c. IsClear pairs ends (cell_slot slots c)) p.1.now) some
    by [] give = tt
    by (p ∷ some) give = (give 0 p refl, by some (λ n q e. give (suc n) q e))

  pub clear_at : (ends : List ℕ) (n : ℕ) → AreClear slots pairs ends → HasClearValue slots pairs ends n
  clear_at ends n clear slot m value e =
      all_at (λ p. (m : ℕ) → variable_of slots p.0 ≡ entry m → AllByRecursion (λ c. IsClear pairs ends (cell_slot slots c)) p.1.now) pairs (slot, value) clear (get_among pairs n (slot, value) e) m

-- ---- down the first nodes
pub lefts_stand : (rows : List CellPair) (bs : List Binding) → StandForBindings rows bs → left_sides rows ≡ left_sides bs
lefts_stand [] [] h = refl
lefts_stand [] (b ∷ bs) h = absurd h
lefts_stand (r ∷ rows) [] h = absurd h
lefts_stand (r ∷ rows) (b ∷ bs) h = λ i. h.0 i ∷ lefts_stand rows bs h.2 i

module _ (slots : Slots) (pairs : Pairs) (tree : Tree Term) (top : ℕ) where
  pub record IsGoingDown (at : ℕ) (ends : List ℕ) : Type 0 where
    pub is_node : IsNode tree at
    pub ns : List ℕ
    pub are : AreEndsOf slots pairs ns ends
    pub opened : (path low : Path) → IsPath tree (Some top) path → IsPath tree (Some at) low → (n : ℕ) → IsOpenBelow path n → IsAmong ns n ⊎ IsOpenBelow low n

  pub down_starts : (ends : List ℕ) → ends ≡ [] → IsNode tree top → IsGoingDown top ends
  down_starts ends e is = record {
    is_node = is;
    ns = [];
    are = record { rows = []; indicators_are = refl; ends_are = sym e; free = tt; distinct = subst AreDistinct (sym e) tt };
    opened = λ path low reached reached' n o. inr (subst (λ p. IsOpenBelow p n) (one_path tree (Some top) path low reached reached') o);
  }

  pub down_more : IsLegal tree → (at child : ℕ) (ends new : List ℕ) (rows : List CellPair) → IsGoingDown at ends → (is : IsChildOf tree at child) → StandForBindings rows is.0.bindings → AddsEnds slots pairs (left_sides rows) ends new → IsGoingDown child new
  down_more legal at child ends new rows h is stand adds = record {
    is_node = (is.0, is.1);
    ns = h.ns ++ left_sides rows;
    are = adds h.ns h.are;
    opened = opened;
  } where
    opened : (path low : Path) → IsPath tree (Some top) path → IsPath tree (Some child) low → (n : ℕ) → IsOpenBelow path n → IsAmong (h.ns ++ left_sides rows) n ⊎ IsOpenBelow low n
    opened path low reached reached' n o =
        let start = path_start tree child is.0 low is.1 reached' in
        let here : IsPath tree (Some child) ((child, is.0) ∷ start.0) = subst (IsPath tree (Some child)) start.1 reached' in
        let step = is_step tree (legal_nodes tree legal) (child, is.0) start.0 is.1 here.2 in
        elim (h.opened path start.0 reached (subst (λ k. IsPath tree k start.0) is.2 here.2) n o) as (λ _. IsAmong (h.ns ++ left_sides rows) n ⊎ IsOpenBelow low n) [
          | inl a ↦ inl (among_front h.ns (left_sides rows) n a)
          | inr b ↦ elim (among_or_not (left_sides is.0.bindings) n) as (λ _. IsAmong (h.ns ++ left_sides rows) n ⊎ IsOpenBelow low n) [
            | inl a ↦ inl (among_back h.ns (left_sides rows) n (subst (λ l. IsAmong l n) (sym (lefts_stand rows is.0.bindings stand)) a))
            | inr other ↦ inr (subst (λ p. IsOpenBelow p n) (sym start.1) (is_open is.0.bindings (path_term start.0) n step.binds.distinct step.binds.lefts (inl (b, other))))
          ]
        ]

  -- at a leaf none is open
  no_split : false ≡ true → ⊥
  no_split e = cc

  pub down_at_leaf : (legal : IsLegal tree) (at : ℕ) (ends : List ℕ) (o : Option ℕ) (h : IsGoingDown at ends) → ((node : Node Term) → HasNode tree at node → o ≡ split_of node.content) → is_some o ≡ false → AreAllOpen tree top h.ns
  down_at_leaf legal at ends o h is none path reached n opened =
      elim (h.opened path ((at, h.is_node.0) ∷ (legal.nodes at h.is_node.0 h.is_node.1).above) reached here n opened) as (λ _. IsAmong h.ns n) [
        | inl a ↦ a
        | inr b ↦ absurd (at_content h.is_node.0.content refl b)
      ]
    where
      here : IsPath tree (Some at) ((at, h.is_node.0) ∷ (legal.nodes at h.is_node.0 h.is_node.1).above)
      here = (refl, h.is_node.1, (legal.nodes at h.is_node.0 h.is_node.1).reached)

      at_content : (c : Content) → h.is_node.0.content ≡ c → IsOpenBelow ((at, h.is_node.0) ∷ (legal.nodes at h.is_node.0 h.is_node.1).above) n → ⊥
      at_content (inner split children) e b = no_split (sym none ∙ ap is_some (is h.is_node.0 h.is_node.1 ∙ ap split_of e))
      at_content (leaf ps) e b =
          let node = legal.nodes at h.is_node.0 h.is_node.1 in
          let content = subst (IsLegalContent tree at ((at, h.is_node.0) ∷ node.above)) e node.content in
          let k = of_kind entry (path_term ((at, h.is_node.0) ∷ node.above)) (ind n) content.1.numbered (indicator_variable (terms.variables (path_term ((at, h.is_node.0) ∷ node.above))) n b) in
          entry_no_ind k.0 n k.1
