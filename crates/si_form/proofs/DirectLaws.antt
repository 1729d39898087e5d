-- Bindings to terms in which no bound variable stands, and none of these applications in another:
-- the right sides are the values, each variable replaced by the one that leads it.
use Rattle.std.proofs.Common.{◌≡◌, ◌≢◌, ℕ, ◌+◌, ◌<◌, ◌≤◌, inl, inr, List, [], ◌∷◌, ◌++◌, length, length-append, append_assoc, append-nil, get_or, map, refl, sym, ◌∙◌, ap, subst, arith, Option, Some, None}
use Rattle.std.proofs.lemmas.Bool.{cases_lt}
use Rattle.std.proofs.lemmas.Bool.Decides.{eqb_tells}
use Rattle.std.proofs.lemmas.List.{map-append}
use Rattle.std.specs.List.{AllByRecursion}
use Rattle.std.specs.Borrow.{Bor}
use Rattle.std.proofs.lemmas.Option.{same_Some}
use Rattle.si_defs.specs.Terms as terms
use Rattle.si_defs.specs.Substitutions.{IsAmong}
use Rattle.si_defs.proofs.ListLaws.{all_with, all_at, all_from}
use Rattle.si_flat.specs.declared.Cell.{Cell}
use Rattle.si_flat.specs.declared.Cell.TheVariants as cell
use Rattle.si_flat.specs.Cells.{Symbol, Variable, query, entry, ind, Term, Terms, variable_cell, cells_of, cells_of_all, IsSound, StandsFor}
use Rattle.si_trail.specs.Trails.{value_at}
use Rattle.si_unify.specs.declared.slots.Slots.{Slots}
use Rattle.si_unify.specs.Solving.{Pairs, slot_count, slot_of, variable_of, IsInRange, CellIsInRange, Equalizes, IsBinding, IsPieceOf}
use Rattle.si_unify.specs.Spots.{cell_slot, IsUnbound, CellIsUnbound}
use Rattle.si_unify.proofs.Places as places
use Rattle.si_unify.proofs.Places.{whole_at, cell-at, first_cell, in_range-variable, variable_of-slot_of, slot_variable}
use Rattle.si_unify.proofs.Binding.{slot_below}
use Rattle.si_unify.proofs.Meeting.{slot_of-cell}
use Rattle.si_unify.proofs.Solutions.{of_slot}
use Rattle.si_form.specs.Direct.{head_slot, IsDirect, AreDirect, BecomesThat, IsFirst, led_variable, leading, renamed, AreRenamed}
use Rattle.si_form.specs.Folding.{leader, variable_or, folded, folded_all}
use Rattle.si_form.specs.Unifying.{IsApplication, StaysFree, right_side, IsToBind, IsRightSide, IsGeneral, HasRightSide}
use Rattle.si_form.proofs.CanonicalLaws.{stays}
use Rattle.si_form.proofs.FoldedLaws.{images_inside}
use Rattle.si_form.proofs.NodeLaws.{slot_again}
use Rattle.si_form.proofs.TrailLaws.{variables_ranked}
use Rattle.si_form.proofs.DownLaws.{no_cell, variable_slot}
use Rattle.si_form.proofs.FoundLaws.{folded_sound, none_to_bind}
use Rattle.si_form.proofs.RightSides.{none_led, led, right_of_leader, right_of_follower}
use Rattle.si_form.proofs.AscendingLaws.{AreFlat}

-- ---- heads
unbound_variable : (slots : Slots) (pairs : Pairs) (x : Variable) → CellIsUnbound slots pairs (variable_cell x) → value_at pairs (slot_of slots x) ≡ None
unbound_variable slots pairs (query n) h = h
unbound_variable slots pairs (entry n) h = h
unbound_variable slots pairs (ind n) h = h

applied_term : (slots : Slots) (t : Term) → cell_slot slots (first_cell t) ≡ None → IsApplication t
applied_term slots (terms.var x) e = absurd (variable_slot slots x (sym e))
applied_term slots (terms.app s ts) e = (s, ts, refl)

-- no variable is an application
no_application : {P : Type 0} (y : Variable) (t : Term) → t ≡ terms.var y → IsApplication t → P
no_application y t e a = let bad : terms.var y ≡ terms.app a.0 a.1 = sym e ∙ a.2 in cc

no_head : (slots : Slots) (t : Term) → IsApplication t → cell_slot slots (first_cell t) ≡ None
no_head slots (terms.var y) a = no_application y (terms.var y) refl a
no_head slots (terms.app s ts) a = refl

head_is : (slots : Slots) (cells : List Cell) (t : Term) → StandsFor cells t → head_slot slots cells ≡ cell_slot slots (first_cell t)
head_is slots cells t stands = ap (cell_slot slots) (cell-at cells 0 t no_cell (whole_at cells t stands))

all_first : (P : Cell → Type 0) (cells : List Cell) → AllByRecursion P cells → 0 < length cells → P (get_or cells 0 no_cell)
all_first P [] h some = absurd (omega (arith, some))
all_first P (c ∷ cells) h some = h.0

-- the cell is that of the slot's variable
pub record IsCellOf (slots : Slots) (c : Cell) (j : ℕ) : Type 0 where
  pub cell_is : c ≡ variable_cell (variable_of slots j)
  pub inside : j < slot_count slots

of_variable : (slots : Slots) (x : Variable) (j : ℕ) → CellIsInRange slots (variable_cell x) → j ≡ slot_of slots x → IsCellOf slots (variable_cell x) j
of_variable slots x j range e =
    let r = in_range-variable slots x range in
    record {
      cell_is = ap (λ y. variable_cell y) (sym (ap (variable_of slots) e ∙ variable_of-slot_of slots x r));
      inside = subst (λ i. i < slot_count slots) (sym e) (slot_below slots x r);
    }

pub cell_variable : (slots : Slots) (c : Cell) (j : ℕ) → CellIsInRange slots c → Some j ≡ cell_slot slots c → IsCellOf slots c j
cell_variable slots (cell.App s a n) j range e = cc
cell_variable slots (cell.Query n) j range e = of_variable slots (query n) j range (same_Some j n e)
cell_variable slots (cell.Entry n) j range e = of_variable slots (entry n) j range (same_Some j (slots.query + n) e)
cell_variable slots (cell.Ind n) j range e = of_variable slots (ind n) j range (same_Some j (slots.query + slots.entry + n) e)

-- a variable, from its cell
pub of_query : (x : Variable) (n : ℕ) → variable_cell x ≡ cell.Query n → x ≡ query n
of_query (query m) n e = cc
of_query (entry m) n e = cc
of_query (ind m) n e = cc

pub of_entry : (x : Variable) (n : ℕ) → variable_cell x ≡ cell.Entry n → x ≡ entry n
of_entry (query m) n e = cc
of_entry (entry m) n e = cc
of_entry (ind m) n e = cc

pub no_symbol : (x : Variable) (s a len : ℕ) → variable_cell x ≡ cell.App s a len → ⊥
no_symbol (query m) s a len e = cc
no_symbol (entry m) s a len e = cc
no_symbol (ind m) s a len e = cc

of_ind : (x : Variable) (n : ℕ) → variable_cell x ≡ cell.Ind n → x ≡ ind n
of_ind (query m) n e = cc
of_ind (entry m) n e = cc
of_ind (ind m) n e = cc

-- where there are no indicators, none has a slot
pub no_indicator : (slots : Slots) (slot n : ℕ) → slots.inds ≡ 0 → slot < slot_count slots → variable_cell (variable_of slots slot) ≡ cell.Ind n → ⊥
no_indicator slots slot n none less e =
    let range : n < slots.inds = subst (IsInRange slots) (of_ind (variable_of slots slot) n e) (of_slot slots slot less).range in omega (arith, none, range)

-- ---- values
module _ (slots : Slots) (pairs : Pairs) (bindings : AllByRecursion (IsBinding slots) pairs) where
  pub binding_at : (k : ℕ) (v : Bor (List Cell)) → value_at pairs k ≡ Some v → IsBinding slots (k, v)
  binding_at k v bound = places.value_holds (IsBinding slots) pairs k v bindings bound

  pub some_cells : (k : ℕ) (v : Bor (List Cell)) → value_at pairs k ≡ Some v → 0 < length v.now
  some_cells k v bound = let whole = (binding_at k v bound).whole in places.inside v.now 0 whole.0 (whole_at v.now whole.0 whole.1)

-- ---- renamed terms
module _ (slots : Slots) (f : Variable → Term) where
  -- the variable that leads
  abbrev lead : Variable → Term
  lead y = terms.var (leading slots f y)

  mutual
    size_kept : (t : Term) → terms.size (terms.substitute lead t) ≡ terms.size t
    size_kept (terms.var y) = refl
    size_kept (terms.app s ts) = ap (λ n. 1 + n) (sizes_kept ts)

    sizes_kept : (ts : Terms) → terms.sizes (terms.substitute_all lead ts) ≡ terms.sizes ts
    sizes_kept terms.none = refl
    sizes_kept (terms.more t ts) = ap (λ n. n + terms.sizes (terms.substitute_all lead ts)) (size_kept t) ∙ ap (λ n. terms.size t + n) (sizes_kept ts)

  pub variable_renamed : (x : Variable) → variable_cell (leading slots f x) ≡ renamed slots f (variable_cell x)
  variable_renamed (query n) = refl
  variable_renamed (entry n) = refl
  variable_renamed (ind n) = refl

  mutual
    cells_renamed : (t : Term) → cells_of (terms.substitute lead t) ≡ map (renamed slots f) (cells_of t)
    cells_renamed (terms.var x) = ap (λ c. c ∷ []) (variable_renamed x)
    cells_renamed (terms.app s ts) =
        ap (λ n. cell.App s.number s.arity (1 + n) ∷ cells_of_all (terms.substitute_all lead ts)) (sizes_kept ts)
        ∙ ap (λ l. cell.App s.number s.arity (1 + terms.sizes ts) ∷ l) (row_renamed ts)

    row_renamed : (ts : Terms) → cells_of_all (terms.substitute_all lead ts) ≡ map (renamed slots f) (cells_of_all ts)
    row_renamed terms.none = refl
    row_renamed (terms.more t ts) =
        ap (λ l. l ++ cells_of_all (terms.substitute_all lead ts)) (cells_renamed t)
        ∙ ap (λ l. map (renamed slots f) (cells_of t) ++ l) (row_renamed ts)
        ∙ sym (map-append (renamed slots f) (cells_of t) (cells_of_all ts))

  led_by : (y : Variable) (o : Option ℕ) → variable_or slots f o (terms.var y) ≡ terms.var (led_variable slots o y)
  led_by y None = refl
  led_by y (Some w) = refl

module _ (slots : Slots) (pairs : Pairs) (bindings : AllByRecursion (IsBinding slots) pairs) (direct : AreDirect slots pairs) where
  pub direct_at : (k : ℕ) (v : Bor (List Cell)) → value_at pairs k ≡ Some v → IsDirect slots pairs (k, v)
  direct_at k v bound = places.value_holds (IsDirect slots pairs) pairs k v direct bound

  -- no application is a slice of another value
  no_piece : (j k : ℕ) (u v : Bor (List Cell)) → k ≢ j → head_slot slots u.now ≡ None → value_at pairs j ≡ Some u → value_at pairs k ≡ Some v → IsPieceOf v.now u.now → ⊥
  no_piece j k u v differs applied at_j at_k piece =
      places.value_holds (λ other. other.0 ≢ j → IsPieceOf other.1.now u.now → ⊥) pairs k v ((direct_at j u at_j).apart applied) at_k differs piece

  -- a value that is a variable is that of a slot that isn't bound
  pub next_inside : (k next : ℕ) (v : Bor (List Cell)) → value_at pairs k ≡ Some v → head_slot slots v.now ≡ Some next → next < slot_count slots
  next_inside k next v bound head =
      (cell_variable slots (get_or v.now 0 no_cell) next (all_first (CellIsInRange slots) v.now (binding_at slots pairs bindings k v bound).in_range (some_cells slots pairs bindings k v bound)) (sym head)).inside

  pub next_unbound : (k next : ℕ) (v : Bor (List Cell)) → value_at pairs k ≡ Some v → head_slot slots v.now ≡ Some next → value_at pairs next ≡ None
  next_unbound k next v bound head =
      subst (IsUnbound pairs) head (all_first (CellIsUnbound slots pairs) v.now (direct_at k v bound).unbound (some_cells slots pairs bindings k v bound))

  module _ (f : Variable → Term) (general : IsGeneral slots pairs f) where
    -- ---- images
    -- what the variable of a bound slot becomes
    image_at : (k : ℕ) (v : Bor (List Cell)) → value_at pairs k ≡ Some v → StandsFor v.now (f (variable_of slots k))
    image_at k v bound = subst (StandsFor v.now) (sym image) binding.whole.1
      where
        binding : IsBinding slots (k, v)
        binding = binding_at slots pairs bindings k v bound

        t : Term
        t = binding.whole.0

        left : (x : Variable) → CellIsInRange slots (variable_cell x) × CellIsUnbound slots pairs (variable_cell x) → f x ≡ terms.var x
        left x h =
            let range = in_range-variable slots x h.0 in
            subst (λ y. f y ≡ terms.var y) (variable_of-slot_of slots x range) (general.leaves (slot_of slots x) (slot_below slots x range) (unbound_variable slots pairs x h.1))

        both : AllByRecursion (λ c. CellIsInRange slots c × CellIsUnbound slots pairs c) v.now
        both = all_with (CellIsInRange slots) (CellIsUnbound slots pairs) (λ c. CellIsInRange slots c × CellIsUnbound slots pairs c) v.now (λ c p q. (p, q)) binding.in_range (direct_at k v bound).unbound

        image : f (variable_of slots k) ≡ t
        image =
            places.value_holds (λ pair. Equalizes f (variable_cell (variable_of slots pair.0) ∷ []) pair.1.now) pairs k v general.solves.equal bound
            (terms.var (variable_of slots k)) t (record { cells_are = refl; sound = tt }) binding.whole.1
            ∙ stays f t
            (
            variables_ranked (λ c. CellIsInRange slots c × CellIsUnbound slots pairs c) (λ x. f x ≡ terms.var x) t left
            (subst (AllByRecursion (λ c. CellIsInRange slots c × CellIsUnbound slots pairs c)) binding.whole.1.cells_are both)
            )

    head_at : (k : ℕ) (v : Bor (List Cell)) → value_at pairs k ≡ Some v → head_slot slots v.now ≡ cell_slot slots (first_cell (f (variable_of slots k)))
    head_at k v bound = head_is slots v.now (f (variable_of slots k)) (image_at k v bound)

    applied_at : (k : ℕ) (v : Bor (List Cell)) → value_at pairs k ≡ Some v → IsApplication (f (variable_of slots k)) → head_slot slots v.now ≡ None
    applied_at k v bound a = head_at k v bound ∙ no_head slots (f (variable_of slots k)) a

    -- a slot whose variable becomes an application is bound
    bound_at : (k : ℕ) → k < slot_count slots → IsApplication (f (variable_of slots k)) → (v : Bor (List Cell)) × (value_at pairs k ≡ Some v)
    bound_at k less a = by (value_at pairs k) refl
      where
        by : (o : Option (Bor (List Cell))) → value_at pairs k ≡ o → (v : Bor (List Cell)) × (value_at pairs k ≡ Some v)
        by None e = no_application (variable_of slots k) (f (variable_of slots k)) (general.leaves k less e) a
        by (Some v) e = (v, e)

    -- no two variables become the same application
    same_application : (j k : ℕ) → j < slot_count slots → k < slot_count slots → f (variable_of slots j) ≡ f (variable_of slots k) → IsApplication (f (variable_of slots k)) → j ≡ k
    same_application j k less less' same a =
        elim (eqb_tells j k) [
          | inl e ↦ e.1
          | inr e ↦
              let b = subst IsApplication (sym same) a in
              let u = bound_at j less b in
              let v = bound_at k less' a in
              let cells : v.0.now ≡ u.0.now = (image_at k v.0 v.1).cells_are ∙ ap cells_of (sym same) ∙ sym (image_at j u.0 u.1).cells_are in
              absurd (no_piece j k u.0 v.0 (λ s. e.1 (sym s)) (applied_at j u.0 u.1 b) u.1 v.1 (record { before = []; after = []; whole = cells ∙ sym (append-nil u.0.now) }))
        ]

    leads_application : (k : ℕ) → k < slot_count slots → IsApplication (f (variable_of slots k)) → leader slots f (f (variable_of slots k)) ≡ Some k
    leads_application k less a = by (leader slots f (f (variable_of slots k))) refl
      where
        by : (o : Option ℕ) → leader slots f (f (variable_of slots k)) ≡ o → leader slots f (f (variable_of slots k)) ≡ Some k
        by None e = absurd (none_led slots f (slot_count slots) (f (variable_of slots k)) e k less refl)
        by (Some w) e =
            let l = led slots f (slot_count slots) w (f (variable_of slots k)) e in
            e ∙ ap Some (same_application w k l.below less l.image_is a)

    -- ---- parts of a value
    module _ (k : ℕ) (v : Bor (List Cell)) (bound : value_at pairs k ≡ Some v) where
      unled : (s : Symbol) (ts : Terms) (before after : List Cell) → v.now ≡ before ++ cells_of (terms.app s ts) ++ after → 0 < length before → leader slots f (terms.app s ts) ≡ None
      unled s ts before after parts some = by (leader slots f (terms.app s ts)) refl
        where
          by : (o : Option ℕ) → leader slots f (terms.app s ts) ≡ o → leader slots f (terms.app s ts) ≡ None
          by None e = e
          by (Some w) e =
              let l = led slots f (slot_count slots) w (terms.app s ts) e in
              let a : IsApplication (f (variable_of slots w)) = (s, ts, l.image_is) in
              let u = bound_at w l.below a in
              let cells : u.0.now ≡ cells_of (terms.app s ts) = (image_at w u.0 u.1).cells_are ∙ ap cells_of l.image_is in
              elim (eqb_tells w k) [
                | inl same ↦
                    let value : u.0 ≡ v = same_Some u.0 v (sym u.1 ∙ ap (value_at pairs) same.1 ∙ bound) in
                    let long : length v.now ≡ length (cells_of (terms.app s ts)) = ap (λ b. length b.now) (sym value) ∙ ap (λ l. length l) cells in
                    absurd (omega (arith, long, ap (λ l. length l) parts, length-append (before ++ cells_of (terms.app s ts)) after, length-append before (cells_of (terms.app s ts)), some))
                | inr differs ↦
                    absurd (no_piece w k u.0 v (λ e. differs.1 (sym e)) (applied_at w u.0 u.1 a) u.1 bound (record {
                      before = before;
                      after = after;
                      whole = parts ∙ ap (λ l. before ++ l ++ after) (sym cells);
                    }))
              ]

      mutual
        part_renamed : (t : Term) (before after : List Cell) → v.now ≡ before ++ cells_of t ++ after → 0 < length before → variable_or slots f (leader slots f t) (folded slots f t) ≡ terms.substitute (lead slots f) t
        part_renamed (terms.var y) before after parts some = led_by slots f y (leader slots f (terms.var y))
        part_renamed (terms.app s ts) before after parts some =
            ap (λ o. variable_or slots f o (folded slots f (terms.app s ts))) (unled s ts before after parts some)
            ∙ ap (terms.app s)
            (
            parts_renamed ts (before ++ cell.App s.number s.arity (1 + terms.sizes ts) ∷ []) after
            (parts ∙ ap (λ l. l ++ after) (sym (append_assoc before (cell.App s.number s.arity (1 + terms.sizes ts) ∷ []) (cells_of_all ts))))
            (omega (arith, length-append before (cell.App s.number s.arity (1 + terms.sizes ts) ∷ [])))
            )

        parts_renamed : (ts : Terms) (before after : List Cell) → v.now ≡ before ++ cells_of_all ts ++ after → 0 < length before → folded_all slots f ts ≡ terms.substitute_all (lead slots f) ts
        parts_renamed terms.none before after parts some = refl
        parts_renamed (terms.more t ts) before after parts some =
            ap (λ u. terms.more u (folded_all slots f ts))
            (
            part_renamed t before (cells_of_all ts ++ after)
            (parts ∙ ap (λ l. l ++ after) (sym (append_assoc before (cells_of t) (cells_of_all ts))) ∙ append_assoc (before ++ cells_of t) (cells_of_all ts) after)
            some
            )
            ∙ ap (terms.more (terms.substitute (lead slots f) t))
            (
            parts_renamed ts (before ++ cells_of t) after
            (parts ∙ ap (λ l. l ++ after) (sym (append_assoc before (cells_of t) (cells_of_all ts))))
            (omega (arith, length-append before (cells_of t), some))
            )

      below : k < slot_count slots
      below = (binding_at slots pairs bindings k v bound).below

      application_folded : (t : Term) → v.now ≡ cells_of t → IsApplication t → folded slots f t ≡ terms.substitute (lead slots f) t
      application_folded (terms.var y) parts a = no_application y (terms.var y) refl a
      application_folded (terms.app s ts) parts a =
          ap (terms.app s) (parts_renamed ts (cell.App s.number s.arity (1 + terms.sizes ts) ∷ []) [] (parts ∙ sym (append-nil (cells_of (terms.app s ts)))) (omega arith))

      module _ (a : IsApplication (f (variable_of slots k))) where
        side_is : right_side slots f k ≡ folded slots f (f (variable_of slots k))
        side_is = right_of_leader slots f k (leads_application k below a)

        pub side_renamed : right_side slots f k ≡ terms.substitute (lead slots f) (f (variable_of slots k))
        side_renamed = side_is ∙ application_folded (f (variable_of slots k)) (image_at k v bound).cells_are a

        cells_stand : StandsFor (map (renamed slots f) v.now) (right_side slots f k)
        cells_stand = record {
          cells_are =
              ap (map (renamed slots f)) (image_at k v bound).cells_are
              ∙ sym (cells_renamed slots f (f (variable_of slots k)))
              ∙ ap cells_of (sym side_renamed);
          sound = subst IsSound (sym side_is) (folded_sound slots f (f (variable_of slots k)) (general.sound k below));
        }

        application_side : IsRightSide slots f k (Some (map (renamed slots f) v.now))
        application_side = ((below, inr (leads_application k below a, a)), cells_stand)

    -- ---- variables
    -- a variable that the map leaves has a leader, which isn't to be bound
    record HasFreeLeader (y : Variable) : Type 0 where
      slot : ℕ
      leads : leader slots f (terms.var y) ≡ Some slot
      unbound : IsToBind slots f slot → ⊥

    free_leader : (y : Variable) → StaysFree slots f y → HasFreeLeader y
    free_leader y free = by (leader slots f (terms.var y)) refl
      where
        by : (o : Option ℕ) → leader slots f (terms.var y) ≡ o → HasFreeLeader y
        by None e = absurd (none_led slots f (slot_count slots) (terms.var y) e free.0 free.1 (ap f (sym free.2) ∙ free.3))
        by (Some w) e =
            let image = (led slots f (slot_count slots) w (terms.var y) e).image_is in
            record { slot = w; leads = e; unbound = none_to_bind slots f w y (ap (leader slots f) image ∙ e) image }

    -- a slot whose variable becomes that of an unbound slot
    becomes : (slot k : ℕ) → slot < slot_count slots → value_at pairs slot ≡ None → BecomesThat slots pairs slot k → (f (variable_of slots k) ≡ terms.var (variable_of slots slot)) × (k < slot_count slots)
    becomes slot k less unbound h =
        elim h [
          | inl same ↦ (ap (λ i. f (variable_of slots i)) same ∙ general.leaves slot less unbound, omega (arith, same, less))
          | inr v ↦
              let range = (binding_at slots pairs bindings k v.0 v.1).below in
              let x = slot_variable slots (f (variable_of slots k)) slot (sym (head_at k v.0 v.1) ∙ v.2) in
              let free = (subst (λ t. AllByRecursion (StaysFree slots f) (terms.variables t)) x.1 (general.stays k range)).0 in
              let same : free.0 ≡ slot = sym (slot_again slots free.0) ∙ ap (slot_of slots) (sym free.2) ∙ x.2 in
              (x.1 ∙ ap (λ y. terms.var y) (free.2 ∙ ap (variable_of slots) same), range)
        ]

    pub first_leads : (slot first : ℕ) → slot < slot_count slots → value_at pairs slot ≡ None → IsFirst slots pairs slot first → leader slots f (terms.var (variable_of slots slot)) ≡ Some first
    first_leads slot first less unbound h = by (leader slots f (terms.var (variable_of slots slot))) refl
      where
        own : f (variable_of slots slot) ≡ terms.var (variable_of slots slot)
        own = general.leaves slot less unbound

        image : (f (variable_of slots first) ≡ terms.var (variable_of slots slot)) × (first < slot_count slots)
        image = becomes slot first less unbound h.becomes

        -- no slot before has this image
        least : (w : ℕ) → w < slot_count slots → f (variable_of slots w) ≡ terms.var (variable_of slots slot) → first ≤ w
        least w less' e = go (value_at pairs w) refl
          where
            go : (o : Option (Bor (List Cell))) → value_at pairs w ≡ o → first ≤ w
            go None none =
                let images : terms.var (variable_of slots w) ≡ terms.var (variable_of slots slot) = sym (general.leaves w less' none) ∙ e in
                let variables : variable_of slots w ≡ variable_of slots slot = cc in
                let same : w ≡ slot = sym (slot_again slots w) ∙ ap (slot_of slots) variables ∙ slot_again slots slot in
                omega (arith, same, h.own)
            go (Some v) some =
                places.value_holds (λ pair. head_slot slots pair.1.now ≡ Some slot → first ≤ pair.0) pairs w v h.others some
                (head_at w v some ∙ ap (λ t. cell_slot slots (first_cell t)) e ∙ slot_of-cell slots (variable_of slots slot) ∙ ap Some (slot_again slots slot))

        by : (o : Option ℕ) → leader slots f (terms.var (variable_of slots slot)) ≡ o → leader slots f (terms.var (variable_of slots slot)) ≡ Some first
        by None e = absurd (none_led slots f (slot_count slots) (terms.var (variable_of slots slot)) e slot less own)
        by (Some w) e =
            let l = led slots f (slot_count slots) w (terms.var (variable_of slots slot)) e in
            elim (cases_lt first w) [
              | inl before ↦ absurd (l.first first before image.0)
              | inr behind ↦ (let same : w ≡ first = omega (arith, behind, least w l.below l.image_is) in e ∙ ap Some same)
            ]

    module _ (slot k first : ℕ) (less : slot < slot_count slots) (unbound : value_at pairs slot ≡ None) (becoming : BecomesThat slots pairs slot k) (h : IsFirst slots pairs slot first) where
      leads_that : leader slots f (f (variable_of slots k)) ≡ Some first
      leads_that = ap (leader slots f) (becomes slot k less unbound becoming).0 ∙ first_leads slot first less unbound h

      leader_side : first ≡ k → IsRightSide slots f k None
      leader_side same = none_to_bind slots f k (variable_of slots slot) (leads_that ∙ ap Some same) (becomes slot k less unbound becoming).0

      follower_side : (cells : List Cell) → first ≢ k → cells ≡ variable_cell (variable_of slots first) ∷ [] → IsRightSide slots f k (Some cells)
      follower_side cells differs is = (
        ((becomes slot k less unbound becoming).1, inl (first, leads_that, differs)),
        subst (StandsFor cells) (sym (right_of_follower slots f k first leads_that differs)) (record { cells_are = is; sound = tt }),
      )

    -- ---- no right side has a variable that is to be bound
    flat : AreFlat slots f
    flat k j b a c = by (f (variable_of slots k)) refl
      where
        free_in : (t : Term) → f (variable_of slots k) ≡ t → AllByRecursion (StaysFree slots f) (terms.variables t)
        free_in t e = subst (λ u. AllByRecursion (StaysFree slots f) (terms.variables u)) e (general.stays k b.0)

        IsBindless : Variable → Type 0
        IsBindless x = (i : ℕ) → x ≡ variable_of slots i → IsToBind slots f i → ⊥

        bindless : (w : ℕ) → (IsToBind slots f w → ⊥) → IsBindless (variable_of slots w)
        bindless w none i e d = let same : i ≡ w = sym (slot_again slots i) ∙ ap (slot_of slots) (sym e) ∙ slot_again slots w in none (subst (IsToBind slots f) same d)

        by : (t : Term) → f (variable_of slots k) ≡ t → ⊥
        by (terms.var y) e =
            let l = free_leader y (free_in (terms.var y) e).0 in
            elim b.1 [
              | inl follows ↦
                  let same : l.slot ≡ follows.0 = same_Some l.slot follows.0 (sym l.leads ∙ ap (leader slots f) (sym e) ∙ follows.1) in
                  let among : IsAmong (variable_of slots follows.0 ∷ []) (variable_of slots j) = subst (λ t. IsAmong (terms.variables t) (variable_of slots j)) (right_of_follower slots f k follows.0 follows.1 follows.2) a in
                  elim among [ inl e' ↦ bindless l.slot l.unbound j (ap (variable_of slots) same ∙ e') c | inr none ↦ elim none [ ] ]
              | inr leads ↦ no_application y (f (variable_of slots k)) e leads.1
            ]
        by (terms.app s ts) e =
            let v = bound_at k b.0 (s, ts, e) in
            all_at IsBindless (terms.variables (terms.substitute (lead slots f) (f (variable_of slots k)))) (variable_of slots j)
            (
            images_inside IsBindless (lead slots f) (f (variable_of slots k))
            (
            all_from (λ y. AllByRecursion IsBindless (leading slots f y ∷ [])) (terms.variables (f (variable_of slots k)))
            (λ y m.
            let l = free_leader y (all_at (StaysFree slots f) (terms.variables (f (variable_of slots k))) y (general.stays k b.0) m) in
            (subst IsBindless (sym (ap (λ o. led_variable slots o y) l.leads)) (bindless l.slot l.unbound), tt))
            )
            )
            (subst (λ t. IsAmong (terms.variables t) (variable_of slots j)) (side_renamed k v.0 v.1 (s, ts, e)) a) j refl c

  -- ---- the right side of a slot
  pub application_right : (k : ℕ) (v : Bor (List Cell)) (cells : List Cell) → value_at pairs k ≡ Some v → head_slot slots v.now ≡ None → AreRenamed slots pairs v.now cells → HasRightSide slots pairs k (Some cells)
  application_right k v cells bound head renames f general =
      subst (λ l. IsRightSide slots f k (Some l)) (sym (renames f general))
      (application_side f general k v bound (applied_term slots (f (variable_of slots k)) (sym (head_at f general k v bound) ∙ head)))

  pub leader_right : (slot k first : ℕ) → slot < slot_count slots → value_at pairs slot ≡ None → BecomesThat slots pairs slot k → IsFirst slots pairs slot first → first ≡ k → HasRightSide slots pairs k None
  leader_right slot k first less unbound becoming h same f general = leader_side f general slot k first less unbound becoming h same

  pub follower_right : (slot k first : ℕ) (cells : List Cell) → slot < slot_count slots → value_at pairs slot ≡ None → BecomesThat slots pairs slot k → IsFirst slots pairs slot first → first ≢ k → cells ≡ variable_cell (variable_of slots first) ∷ [] → HasRightSide slots pairs k (Some cells)
  follower_right slot k first cells less unbound becoming h differs is f general = follower_side f general slot k first less unbound becoming h cells differs is

  pub are_flat : (f : Variable → Term) → IsGeneral slots pairs f → AreFlat slots f
  are_flat f general = flat f general
