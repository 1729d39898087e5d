-- The classes of slots, from the last of an order to the first.
use Rattle.std.proofs.Common.{◌≡◌, ℕ, ◌+◌, ◌<◌, ◌⊎◌, inl, inr, List, [], ◌∷◌, ◌++◌, length, refl, sym, ◌∙◌, ap, subst, arith, append_assoc, append-nil, length-append, Option, Some, None, Vec}
use Rattle.std.proofs.lemmas.Bool.Decides.{eqb_tells}
use Rattle.std.proofs.lemmas.List.{length-set}
use Rattle.std.proofs.Math.ListN.{set}
use Rattle.std.specs.Prelude.{slice_get}
use Rattle.std.specs.List.{AllByRecursion}
use Rattle.std.specs.Borrow.{Bor}
use Rattle.si_defs.specs.Substitutions.{IsAmong}
use Rattle.si_defs.specs.Terms as terms
use Rattle.si_defs.proofs.ListLaws.{among_parts, among_front, get_front, get_here, set_same, set_other}
use Rattle.si_flat.specs.declared.Cell.{Cell}
use Rattle.si_flat.specs.Cells.{Variable, Term, variable_cell}
use Rattle.si_trail.specs.Trails.{value_at}
use Rattle.si_unify.specs.declared.slots.Slots.{Slots}
use Rattle.si_unify.specs.Solving.{Pairs, slot_count, variable_of, Equalizes, IsSolvedBy, IsBinding}
use Rattle.si_unify.proofs.Places.{value_holds}
use Rattle.si_form.specs.declared.classes.Node.{Node}
use Rattle.si_form.specs.declared.classes.Node.TheVariants.{Variable as Of}
use Rattle.si_form.specs.Classes.{Interns, AreNodes, slots_of, KnowsSlot, HasClass, HasSingles, LeavesUnbound, KnowsWhere, HasClasses, IsClassing}
use Rattle.si_form.specs.Ordering.{uses_at, list_or_none, IsListed, MayComeNext, AreFirstUnused, AreOrdered}
use Rattle.si_form.specs.Uses.{used_in, UsesBelow}
use Rattle.si_defs.proofs.ListLaws as members
use Rattle.si_form.proofs.NodeLaws.{grows, still_known}
use Rattle.si_form.proofs.UsesLaws.{listed_inside, bound_of_listed, listed_of_bound, range_slots}

-- ---- single classes
pub singles_begin : (slots : Slots) (nodes : List Node) (classes : List ℕ) → nodes ≡ [] → classes ≡ [] → HasSingles slots nodes classes 0
singles_begin slots nodes classes none none' = record {
  known = [];
  are = subst (λ l. AreNodes slots l []) (sym none) (record { long = refl; stands = λ n a t e k. let bad : None ≡ Some a = e in cc; distinct = λ m n t e k. let bad : None ≡ Some t = e in cc });
  long = ap length none';
  knows = λ slot less. absurd (omega (arith, less));
}

pub singles_more : (slots : Slots) (nodes new : List Node) (classes classes' : List ℕ) (count n : ℕ) → count < slot_count slots → HasSingles slots nodes classes count → Interns nodes new (Of count) n → classes' ≡ classes ++ n ∷ [] → HasSingles slots new classes' (count + 1)
singles_more slots nodes new classes classes' count n less h adds is =
    let r = grows slots nodes h.known h.are new (Of count) n (terms.var (variable_of slots count)) adds (less, refl) in
    subst (λ l. HasSingles slots new l (count + 1)) (sym is) (record {
      known = r.0;
      are = r.1.nodes_are;
      long = length-append classes (n ∷ []) ∙ omega (arith, h.long);
      knows = λ slot inside.
          elim (eqb_tells slot count) [
            | inl e ↦ subst (KnowsSlot slots terms.var r.0 (classes ++ n ∷ [])) (sym e.1) (record { number = n; class_is = ap (slice_get (classes ++ n ∷ [])) (sym h.long) ∙ get_here classes n []; image_is = r.2 })
            | inr e ↦
                let k = h.knows slot (omega (arith, inside, e.1)) in
                record { number = k.number; class_is = get_front classes (n ∷ []) slot k.number k.class_is; image_is = still_known slots h.known new r.0 k.number (terms.var (variable_of slots slot)) r.1 k.image_is }
          ];
    })

-- ---- places in an order
module _ (used : ℕ → Option (List ℕ)) where
  open_at : (before left : List ℕ) (slot : ℕ) (done : List ℕ) → AreFirstUnused used before (left ++ slot ∷ done) → MayComeNext used (before ++ left) slot
  open_at before [] slot done h = subst (λ l. MayComeNext used l slot) (sym (append-nil before)) h.0.is_open
  open_at before (k ∷ left) slot done h = subst (λ l. MayComeNext used l slot) (append_assoc before (k ∷ []) left) (open_at (before ++ k ∷ []) left slot done h.1)

  not_used_before : (before left : List ℕ) (slot : ℕ) (done : List ℕ) (y : ℕ) → AreFirstUnused used before (left ++ slot ∷ done) → IsAmong left y → IsAmong (list_or_none (used slot)) y → ⊥
  not_used_before before [] slot done y h a u = elim a [ ]
  not_used_before before (k ∷ left) slot done y h a u =
      elim a [
        | inl e ↦
            let at_slot = open_at before (k ∷ left) slot done h in
            h.0.is_open.unused slot at_slot.listed (λ b. at_slot.behind (among_front before (k ∷ left) slot b)) (subst (IsAmong (list_or_none (used slot))) (sym e) u)
        | inr b ↦ not_used_before (before ++ k ∷ []) left slot done y h.1 b u
      ]

  used_done : (left : List ℕ) (slot : ℕ) (done : List ℕ) (y : ℕ) → AreOrdered used (left ++ slot ∷ done) → IsListed used y → IsAmong (list_or_none (used slot)) y → IsAmong done y
  used_done left slot done y h listed u =
      elim (among_parts left (slot ∷ done) y (h.all y listed)) [
        | inl a ↦ absurd (not_used_before [] left slot done y h.next a u)
        | inr a ↦
            elim a [
              | inl e ↦ (let at_slot = open_at [] left slot done h.next in absurd (at_slot.unused slot at_slot.listed at_slot.behind (subst (IsAmong (list_or_none (used slot))) (sym e) u)))
              | inr b ↦ b
            ]
      ]

-- ---- classes that change
module _ {A : Type 0} (slots : Slots) (pairs : Pairs) (lists : List (Option (Vec ℕ A))) (long : length lists ≡ slot_count slots) (below : UsesBelow slots pairs lists) (bindings : AllByRecursion (IsBinding slots) pairs) where
  pub classing_begins : (nodes : List Node) (classes order : List ℕ) → AreOrdered (uses_at lists) order → HasSingles slots nodes classes (slot_count slots) → IsClassing (uses_at lists) slots pairs nodes classes order
  classing_begins nodes classes order ordered h = record {
    done = [];
    ordered = subst (AreOrdered (uses_at lists)) (sym (append-nil order)) ordered;
    long = h.long;
    knows = λ f solves leaves. (
      h.known,
      h.are,
      (λ slot less which.
          elim which [
            | inl e ↦ (let k = h.knows slot less in record { number = k.number; class_is = k.class_is; image_is = k.image_is ∙ ap Some (sym (leaves slot less e)) })
            | inr a ↦ elim a [ ]
          ]),
    );
  }

  module _ (nodes : List Node) (classes left left' : List ℕ) (slot : ℕ) (is : left ≡ left' ++ slot ∷ []) (h : IsClassing (uses_at lists) slots pairs nodes classes left) where
    order_is : left ++ h.done ≡ left' ++ slot ∷ h.done
    order_is = ap (λ l. l ++ h.done) is ∙ append_assoc left' (slot ∷ []) h.done

    ordered_on : AreOrdered (uses_at lists) (left' ++ slot ∷ h.done)
    ordered_on = subst (AreOrdered (uses_at lists)) order_is h.ordered

    pub slot_inside : slot < slot_count slots
    slot_inside = listed_inside slots pairs lists long below bindings slot (open_at (uses_at lists) [] left' slot h.done ordered_on.next).listed

    pub left_bound : value_at pairs slot ≡ None → ⊥
    left_bound unbound =
        let bound = bound_of_listed slots pairs lists long below bindings slot (open_at (uses_at lists) [] left' slot h.done ordered_on.next).listed in
        let bad : None ≡ Some bound.0 = sym unbound ∙ bound.1 in cc

    pub classing_more : (new : List Node) (classes' : List ℕ) (n : ℕ) (v : Bor (List Cell)) → value_at pairs slot ≡ Some v → HasClass nodes new slots classes v.now n → classes' ≡ set classes slot n → IsClassing (uses_at lists) slots pairs new classes' left'
    classing_more new classes' n v bound numbered changed = subst (λ l. IsClassing (uses_at lists) slots pairs new l left') (sym changed) (record {
      done = slot ∷ h.done;
      ordered = ordered_on;
      long = length-set classes slot n ∙ h.long;
      knows = λ f solves leaves. known_now f solves leaves (h.knows f solves leaves);
    })
      where
        binding : IsBinding slots (slot, v)
        binding = value_holds (IsBinding slots) pairs slot v bindings bound

        listed : IsListed (uses_at lists) slot
        listed = listed_of_bound slots pairs lists long below bindings slot v slot_inside bound

        uses_are : list_or_none (uses_at lists slot) ≡ slots_of slots v.now
        uses_are = ap list_or_none (below slot (omega (arith, slot_inside, long)) ∙ ap (used_in slots) bound)

        ready : (y : ℕ) → IsAmong (slots_of slots v.now) y → (value_at pairs y ≡ None) ⊎ IsAmong h.done y
        ready y a = by (value_at pairs y) refl
          where
            by : (o : Option (Bor (List Cell))) → value_at pairs y ≡ o → (value_at pairs y ≡ None) ⊎ IsAmong h.done y
            by None e = inl e
            by (Some w) e =
                inr (used_done (uses_at lists) left' slot h.done y ordered_on
                (listed_of_bound slots pairs lists long below bindings y w (members.all_at (λ j. j < slot_count slots) (slots_of slots v.now) y (range_slots slots v.now binding.in_range) a) e)
                (subst (λ l. IsAmong l y) (sym uses_are) a))

        known_now : (f : Variable → Term) → IsSolvedBy slots pairs f → LeavesUnbound slots pairs f → KnowsWhere slots f nodes classes (λ y. (value_at pairs y ≡ None) ⊎ IsAmong h.done y) → KnowsWhere slots f new (set classes slot n) (λ y. (value_at pairs y ≡ None) ⊎ IsAmong (slot ∷ h.done) y)
        known_now f solves leaves r =
            let g =
            numbered binding.whole.0 f r.0 binding.whole.1 r.1
            (λ y a. r.2 y (members.all_at (λ j. j < slot_count slots) (slots_of slots v.now) y (range_slots slots v.now binding.in_range) a) (ready y a)) in
            let image : f (variable_of slots slot) ≡ terms.substitute f binding.whole.0 =
            value_holds (λ pair. Equalizes f (variable_cell (variable_of slots pair.0) ∷ []) pair.1.now) pairs slot v solves.equal bound
            (terms.var (variable_of slots slot)) binding.whole.0 (record { cells_are = refl; sound = tt }) binding.whole.1 in (
              g.0,
              g.1.nodes_are,
              (λ y less which.
                  elim (eqb_tells y slot) [
                    | inl e ↦
                        subst (KnowsSlot slots f g.0 (set classes slot n)) (sym e.1)
                        (record { number = n; class_is = set_same classes slot n (omega (arith, slot_inside, h.long)); image_is = g.2 ∙ ap Some (sym image) })
                    | inr e ↦
                        let k = r.2 y less (elim which [ inl u ↦ inl u | inr a ↦ elim a [ inl same ↦ absurd (e.1 (sym same)) | inr b ↦ inr b ] ]) in
                        record {
                          number = k.number;
                          class_is = set_other classes slot y n e.1 ∙ k.class_is;
                          image_is = still_known slots r.0 new g.0 k.number (f (variable_of slots y)) g.1 k.image_is;
                        }
                  ]),
            )

  pub classing_ends : (nodes : List Node) (classes left : List ℕ) → left ≡ [] → IsClassing (uses_at lists) slots pairs nodes classes left → HasClasses slots pairs nodes classes
  classing_ends nodes classes left none h = record {
    long = h.long;
    knows = λ f solves leaves.
        let r = h.knows f solves leaves in
        (r.0, r.1, (λ y less u. r.2 y less (which y less)));
  }
    where
      which : (y : ℕ) → y < slot_count slots → (value_at pairs y ≡ None) ⊎ IsAmong h.done y
      which y less = by (value_at pairs y) refl
        where
          by : (o : Option (Bor (List Cell))) → value_at pairs y ≡ o → (value_at pairs y ≡ None) ⊎ IsAmong h.done y
          by None e = inl e
          by (Some v) e = inr (subst (λ l. IsAmong (l ++ h.done) y) none (h.ordered.all y (listed_of_bound slots pairs lists long below bindings y v less e)))
