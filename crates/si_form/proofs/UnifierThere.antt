-- The canonical list of two terms that can be unified.
use Rattle.std.proofs.Common.{◌≡◌, ◌≢◌, ℕ, ◌+◌, ◌*◌, ◌<◌, ◌≤◌, inl, inr, Bool, true, false, List, [], ◌∷◌, ◌++◌, length, take, get_or, refl, sym, ◌∙◌, ap, subst, arith, length-append, Option, Some, None, Vec}
use Rattle.std.proofs.lemmas.Bool.{eq-eqb, cases_lt}
use Rattle.std.proofs.lemmas.Bool.Decides.{eqb_tells}
use Rattle.std.specs.Prelude.{◌==◌}
use Rattle.std.specs.List.{AllByRecursion}
use Rattle.si_defs.specs.Substitutions.{rights, IsAmong}
use Rattle.si_defs.specs.Terms as terms
use Rattle.si_flat.specs.declared.Cell.{Cell}
use Rattle.si_flat.specs.Cells.{Variable, query, entry, ind, Term, Terms, variable_cell, cells_of, cells_of_all, StandsFor, IsWhole}
use Rattle.si_unify.specs.declared.slots.Slots.{Slots}
use Rattle.si_unify.specs.Solving.{slot_count, slot_of, variable_of}
use Rattle.si_form.specs.Classes.{slots_of}
use Rattle.si_form.specs.Folding.{leader, folded, folded_all}
use Rattle.si_form.specs.Ordering.{list_of, uses_at, list_or_none, IsListed, HasNoCircle, AreOrdered}
use Rattle.si_form.specs.Unifying.{IsApplication, ImagesStay, right_side, IsToBind, IsRightSide, AreRightSides, listed_bindings, slots_among, AreUses, AreListed, ListsBindings, HasUses, IsWholeList}
use Rattle.si_form.proofs.OrderedLaws.{listed_all}
use Rattle.si_form.specs.declared.solution.Binding.{Binding}
use Rattle.si_form.specs.Answers.{StandsForPair, StandsForList}
use Rattle.si_flat.specs.Flattening.{owners_variable}
use Rattle.std.proofs.lemmas.List.{take_all, take_more, get_or_past}
use Rattle.std.proofs.lemmas.Option.{get_or_from_slice_get, slice_get_read}
use Rattle.si_defs.proofs.ListLaws.{all_at, all_from, all_front, among_parts, all_get}
use Rattle.si_form.proofs.NodeLaws.{slot_again}
use Rattle.si_form.proofs.UsesLaws.{slots_append, get_or_front, get_or_last}
use Rattle.si_form.proofs.RightSides.{right_is, right_of_leader, LeadsItself}

-- ---- slots of cells
module _ (slots : Slots) where
  abbrev pub slots_of_variables : List Variable → List ℕ
  slots_of_variables [] = []
  slots_of_variables (x ∷ xs) = slot_of slots x ∷ slots_of_variables xs

  variables_parts : (xs ys : List Variable) → slots_of_variables (xs ++ ys) ≡ slots_of_variables xs ++ slots_of_variables ys
  variables_parts [] ys = refl
  variables_parts (x ∷ xs) ys = ap (λ l. slot_of slots x ∷ l) (variables_parts xs ys)

  one_slot : (x : Variable) → slots_of slots (variable_cell x ∷ []) ≡ slot_of slots x ∷ []
  one_slot (query n) = refl
  one_slot (entry n) = refl
  one_slot (ind n) = refl

  mutual
    pub slots_of_term : (t : Term) → slots_of slots (cells_of t) ≡ slots_of_variables (terms.variables t)
    slots_of_term (terms.var x) = one_slot x
    slots_of_term (terms.app s ts) = slots_of_row ts

    slots_of_row : (ts : Terms) → slots_of slots (cells_of_all ts) ≡ slots_of_variables (terms.variables_of_all ts)
    slots_of_row terms.none = refl
    slots_of_row (terms.more t ts) =
        slots_append slots (cells_of t) (cells_of_all ts)
        ∙ ap (λ l. l ++ slots_of slots (cells_of_all ts)) (slots_of_term t)
        ∙ ap (λ l. slots_of_variables (terms.variables t) ++ l) (slots_of_row ts)
        ∙ sym (variables_parts (terms.variables t) (terms.variables_of_all ts))

  pub slot_among : (xs : List Variable) (x : Variable) → IsAmong xs x → IsAmong (slots_of_variables xs) (slot_of slots x)
  slot_among [] x a = elim a [ ]
  slot_among (y ∷ xs) x a = elim a [ inl e ↦ inl (ap (slot_of slots) e) | inr b ↦ inr (slot_among xs x b) ]

  pub of_slot_among : (xs : List Variable) (j : ℕ) → IsAmong (slots_of_variables xs) j → (x : Variable) × IsAmong xs x × (slot_of slots x ≡ j)
  of_slot_among [] j a = elim a [ ]
  of_slot_among (y ∷ xs) j a = elim a [ inl e ↦ (y, inl refl, e) | inr b ↦ (let r = of_slot_among xs j b in (r.0, inr r.1, r.2)) ]

-- ---- right sides and what they use
mutual
  pub size_inside : (f : Variable → Term) (t : Term) (y : Variable) → IsAmong (terms.variables t) y → terms.size (f y) ≤ terms.size (terms.substitute f t)
  size_inside f (terms.var x) y a = elim a [ inl e ↦ omega (arith, ap (λ z. terms.size (f z)) e) | inr b ↦ elim b [ ] ]
  size_inside f (terms.app s ts) y a = let r = sizes_inside f ts y a in omega (arith, r)

  sizes_inside : (f : Variable → Term) (ts : Terms) (y : Variable) → IsAmong (terms.variables_of_all ts) y → terms.size (f y) ≤ terms.sizes (terms.substitute_all f ts)
  sizes_inside f terms.none y a = elim a [ ]
  sizes_inside f (terms.more t ts) y a =
      elim (among_parts (terms.variables t) (terms.variables_of_all ts) y a) [
        | inl b ↦ (let r = size_inside f t y b in omega (arith, r))
        | inr b ↦ (let r = sizes_inside f ts y b in omega (arith, r))
      ]

-- a variable of an application is smaller
smaller_inside : (f : Variable → Term) (t : Term) (y : Variable) → IsApplication t → IsAmong (terms.variables t) y → terms.size (f y) < terms.size (terms.substitute f t)
smaller_inside f (terms.var x) y app a = let bad : terms.var x ≡ terms.app app.0 app.1 = app.2 in cc
smaller_inside f (terms.app s ts) y app a = let r = sizes_inside f ts y a in omega (arith, r)

folded_application : (slots : Slots) (f : Variable → Term) (t : Term) → IsApplication t → IsApplication (folded slots f t)
folded_application slots f (terms.var x) app = let bad : terms.var x ≡ terms.app app.0 app.1 = app.2 in cc
folded_application slots f (terms.app s ts) app = (s, folded_all slots f ts, refl)

-- what a list of uses says of a slot
record IsSide (slots : Slots) (f : Variable → Term) (o : Option (List ℕ)) (k : ℕ) : Type 0 where
  cells : List Cell
  used_is : o ≡ Some (slots_of slots cells)
  to_bind : IsToBind slots f k
  stands : StandsFor cells (right_side slots f k)

module _ {A B : Type 0} (slots : Slots) (f : Variable → Term) (rights : List (Option (Vec Cell A))) (lists : List (Option (Vec ℕ B))) (long : length rights ≡ slot_count slots) (as_long : length lists ≡ length rights) (uses : AreUses slots rights lists) (sides : AreRightSides slots f rights) where
  pub listed_inside : (k : ℕ) → IsListed (uses_at lists) k → k < length lists
  listed_inside k l =
      elim (cases_lt k (length lists)) [
        | inl less ↦ less
        | inr more ↦ let bad : None ≡ Some l.0 = sym (ap list_of (get_or_past lists k None more)) ∙ l.1 in cc
      ]

  side_of : (k : ℕ) → IsListed (uses_at lists) k → IsSide slots f (uses_at lists k) k
  side_of k l = by (list_of (get_or rights k None)) refl (sides k (omega (arith, listed_inside k l, as_long)))
    where
      at : uses_at lists k ≡ slots_among slots (list_of (get_or rights k None))
      at = uses k (listed_inside k l)

      by : (o : Option (List Cell)) → list_of (get_or rights k None) ≡ o → IsRightSide slots f k o → IsSide slots f (uses_at lists k) k
      by None e h = let bad : None ≡ Some l.0 = sym (at ∙ ap (slots_among slots) e) ∙ l.1 in cc
      by (Some cells) e h = record { cells = cells; used_is = at ∙ ap (slots_among slots) e; to_bind = h.0; stands = h.1 }

  pub to_bind_of : (k : ℕ) → IsListed (uses_at lists) k → IsToBind slots f k
  to_bind_of k l = (side_of k l).to_bind

  pub listed_of : (k : ℕ) → IsToBind slots f k → IsListed (uses_at lists) k
  listed_of k b = by (list_of (get_or rights k None)) refl (sides k (omega (arith, b.0, long)))
    where
      at : uses_at lists k ≡ slots_among slots (list_of (get_or rights k None))
      at = uses k (omega (arith, b.0, long, as_long))

      by : (o : Option (List Cell)) → list_of (get_or rights k None) ≡ o → IsRightSide slots f k o → IsListed (uses_at lists) k
      by None e h = absurd (h b)
      by (Some cells) e h = (slots_of slots cells, at ∙ ap (slots_among slots) e)

  -- the list is that of the variables
  uses_are : (k : ℕ) (l : IsListed (uses_at lists) k) → list_or_none (uses_at lists k) ≡ slots_of_variables slots (terms.variables (right_side slots f k))
  uses_are k l = let r = side_of k l in ap list_or_none r.used_is ∙ ap (slots_of slots) r.stands.cells_are ∙ slots_of_term slots (right_side slots f k)

  module _ (stays : ImagesStay slots f) where
    leads_at : (k : ℕ) (l : IsListed (uses_at lists) k) (x : Variable) → IsAmong (terms.variables (right_side slots f k)) x → LeadsItself slots f x
    leads_at k l x a = all_at (LeadsItself slots f) (terms.variables (right_side slots f k)) x (right_is slots f stays k (to_bind_of k l)).leads a

    -- the variable of a slot that is used
    used_variable : (k : ℕ) (l : IsListed (uses_at lists) k) (j : ℕ) → IsAmong (list_or_none (uses_at lists k)) j → IsAmong (terms.variables (right_side slots f k)) (variable_of slots j) × (j < slot_count slots) × (leader slots f (f (variable_of slots j)) ≡ Some j)
    used_variable k l j a =
        let r = of_slot_among slots (terms.variables (right_side slots f k)) j (subst (λ m. IsAmong m j) (uses_are k l) a) in
        let own = leads_at k l r.0 r.1 in
        let same : own.0 ≡ j = sym (slot_again slots own.0) ∙ ap (slot_of slots) (sym own.2) ∙ r.2 in (
          subst (IsAmong (terms.variables (right_side slots f k))) (own.2 ∙ ap (variable_of slots) same) r.1,
          subst (λ i. i < slot_count slots) same own.1,
          subst (λ i. leader slots f (f (variable_of slots i)) ≡ Some i) same own.3,
        )

    pub has_uses : (k : ℕ) → IsListed (uses_at lists) k → HasUses (uses_at lists) slots (right_side slots f) k
    has_uses k l = record {
      uses = λ x a. subst (λ m. IsAmong m (slot_of slots x)) (sym (uses_are k l)) (slot_among slots (terms.variables (right_side slots f k)) x a);
      used_in = λ j a. (used_variable k l j a).0;
    }

    -- ---- no circle: a leader has twice the size of its image, a follower one more
    abbrev follower_weight : Bool → ℕ
    follower_weight true = 0
    follower_weight false = 1

    abbrev leads_itself_weight : ℕ → Option ℕ → ℕ
    leads_itself_weight k None = 1
    leads_itself_weight k (Some w) = follower_weight (w == k)

    abbrev weight : ℕ → ℕ
    weight k = 2 * terms.size (f (variable_of slots k)) + leads_itself_weight k (leader slots f (f (variable_of slots k)))

    leader_weight : (k : ℕ) → leader slots f (f (variable_of slots k)) ≡ Some k → weight k ≡ 2 * terms.size (f (variable_of slots k))
    leader_weight k l =
        let none : leads_itself_weight k (leader slots f (f (variable_of slots k))) ≡ 0 = ap (leads_itself_weight k) l ∙ ap follower_weight (eq-eqb k k refl) in
        omega (arith, none)

    follows_weight : (k w : ℕ) → leader slots f (f (variable_of slots k)) ≡ Some w → w ≢ k → weight k ≡ 2 * terms.size (f (variable_of slots k)) + 1
    follows_weight k w l apart =
        let one : leads_itself_weight k (leader slots f (f (variable_of slots k))) ≡ 1 =
        ap (leads_itself_weight k) l ∙ elim (eqb_tells w k) [ inl h ↦ absurd (apart h.1) | inr h ↦ ap follower_weight h.0 ] in
        omega (arith, one)

    falls_at : (k : ℕ) (l : IsListed (uses_at lists) k) (j : ℕ) → IsAmong (list_or_none (uses_at lists k)) j → weight j < weight k
    falls_at k l j a =
        let v = used_variable k l j a in
        let b = to_bind_of k l in
        let solves = (right_is slots f stays k b).solves in
        elim b.1 [
          | inl follows ↦
              let least = size_inside f (right_side slots f k) (variable_of slots j) v.0 in
              omega (arith, leader_weight j v.2, follows_weight k follows.0 follows.1 follows.2, least, ap terms.size solves)
          | inr leads ↦
              let app = subst IsApplication (sym (right_of_leader slots f k leads.0)) (folded_application slots f (f (variable_of slots k)) leads.1) in
              let less = smaller_inside f (right_side slots f k) (variable_of slots j) app v.0 in
              omega (arith, leader_weight j v.2, leader_weight k leads.0, less, ap terms.size solves)
        ]

    of_uses : (P : ℕ → Type 0) (k : ℕ) → ((l : IsListed (uses_at lists) k) (j : ℕ) → IsAmong (list_or_none (uses_at lists k)) j → P j) → AllByRecursion P (list_or_none (uses_at lists k))
    of_uses P k give = by (uses_at lists k) refl
      where
        by : (o : Option (List ℕ)) → uses_at lists k ≡ o → AllByRecursion P (list_or_none o)
        by None e = tt
        by (Some xs) e = all_from P xs (λ j a. give (xs, e) j (subst (λ o. IsAmong (list_or_none o) j) (sym e) a))

    pub no_circle : HasNoCircle (uses_at lists) (length lists)
    no_circle = record {
      inside = λ k l. listed_inside k l;
      used_inside = λ k. of_uses (λ j. j < length lists) k (λ l j a. let v = used_variable k l j a in omega (arith, v.1, long, as_long));
      rank = weight;
      falls = λ k. of_uses (λ j. weight j < weight k) k (λ l j a. falls_at k l j a);
    }

-- ---- one list of uses more
pub sides_use_more : {A B : Type 0} (slots : Slots) (rights : List (Option (Vec Cell A))) (lists new : List (Option (Vec ℕ B))) (used : Option (Vec ℕ B)) (k : ℕ) → length lists ≡ k → AreUses slots rights lists → new ≡ lists ++ used ∷ [] → list_of used ≡ slots_among slots (list_of (get_or rights k None)) → AreUses slots rights new
sides_use_more slots rights lists new used k long h is last = subst (AreUses slots rights) (sym is) both
  where
    both : AreUses slots rights (lists ++ used ∷ [])
    both j less =
        elim (eqb_tells j k) [
          | inl e ↦ ap list_of (ap (λ n. get_or (lists ++ used ∷ []) n None) (e.1 ∙ sym long) ∙ get_or_last lists used None) ∙ last ∙ ap (λ i. slots_among slots (list_of (get_or rights i None))) (sym e.1)
          | inr e ↦
              let before : j < length lists = omega (arith, e.1, less, long, length-append lists (used ∷ [])) in
              ap list_of (get_or_front lists (used ∷ []) j None before) ∙ h j before
        ]

-- ---- bindings in order
pub bindings_parts : (slots : Slots) (right : ℕ → Term) (xs ys : List ℕ) → listed_bindings slots right (xs ++ ys) ≡ listed_bindings slots right xs ++ listed_bindings slots right ys
bindings_parts slots right [] ys = refl
bindings_parts slots right (x ∷ xs) ys = ap (λ l. (variable_of slots x, right x) ∷ l) (bindings_parts slots right xs ys)

pub stands_more : (bs : List Binding) (pairs : List (Variable × Term)) (b : Binding) (pair : Variable × Term) → StandsForList bs pairs → StandsForPair b pair → StandsForList (bs ++ b ∷ []) (pairs ++ pair ∷ [])
stands_more [] [] b pair h k = (k, tt)
stands_more [] (p ∷ pairs) b pair h k = elim h [ ]
stands_more (a ∷ bs) [] b pair h k = elim h [ ]
stands_more (a ∷ bs) (p ∷ pairs) b pair h k = (h.0, stands_more bs pairs b pair h.1 k)

take_none : {X : Type 0} (xs : List X) → take 0 xs ≡ []
take_none [] = refl
take_none (x ∷ xs) = refl

module _ {A : Type 0} (slots : Slots) (rights : List (Option (Vec Cell A))) (ks : List ℕ) where
  pub lists_begin : ListsBindings slots rights (take 0 ks) []
  lists_begin = subst (λ l. ListsBindings slots rights l []) (sym (take_none ks)) (λ f sides binds. tt)

  module _ (i k : ℕ) (bs : List Binding) (less : i < length ks) (is : k ≡ get_or ks i 0) (h : ListsBindings slots rights (take i ks) bs) where
    taken : take (i + 1) ks ≡ take i ks ++ k ∷ []
    taken = take_more ks i 0 less ∙ ap (λ j. take i ks ++ j ∷ []) (sym is)

    front_binds : (f : Variable → Term) → AllByRecursion (IsToBind slots f) (take (i + 1) ks) → AllByRecursion (IsToBind slots f) (take i ks)
    front_binds f binds = all_front (IsToBind slots f) (take i ks) (k ∷ []) (subst (AllByRecursion (IsToBind slots f)) taken binds)

    pub lists_more : (cells : List Cell) (b : Binding) (new : List Binding) → k < length rights → list_of (get_or rights k None) ≡ Some cells → variable_of slots k ≡ owners_variable b.owner b.slot → b.value ≡ cells → new ≡ bs ++ b ∷ [] → ListsBindings slots rights (take (i + 1) ks) new
    lists_more cells b new inside some left value_is is' f sides binds =
        let side = subst (IsRightSide slots f k) some (sides k inside) in
        let pair : StandsForPair b (variable_of slots k, right_side slots f k) = record { left = left; right = subst (λ l. StandsFor l (right_side slots f k)) (sym value_is) side.1 } in
        subst (λ l. StandsForList l (listed_bindings slots (right_side slots f) (take (i + 1) ks))) (sym is')
        (
        subst (StandsForList (bs ++ b ∷ [])) (sym (ap (listed_bindings slots (right_side slots f)) taken ∙ bindings_parts slots (right_side slots f) (take i ks) (k ∷ [])))
        (stands_more bs (listed_bindings slots (right_side slots f) (take i ks)) b (variable_of slots k, right_side slots f k) (h f sides (front_binds f binds)) pair)
        )

  pub listed_at : (i k : ℕ) → i < length ks → k ≡ get_or ks i 0 → length rights ≡ slot_count slots → AreListed slots rights ks → k < length rights
  listed_at i k less is long h = let b = all_get (IsToBind slots h.0) ks i 0 h.2 less in omega (arith, b.0, is, long)

  pub listed_some : (i k : ℕ) → i < length ks → k ≡ get_or ks i 0 → AreListed slots rights ks → k < length rights → list_of (get_or rights k None) ≡ None → ⊥
  listed_some i k less is h inside none =
      subst (IsRightSide slots h.0 k) none (h.1 k inside) (subst (IsToBind slots h.0) (sym is) (all_get (IsToBind slots h.0) ks i 0 h.2 less))

  pub whole_cells : (k : ℕ) (cells : List Cell) → k < length rights → list_of (get_or rights k None) ≡ Some cells → AreListed slots rights ks → IsWhole cells
  whole_cells k cells less some h = let side = subst (IsRightSide slots h.0 k) some (h.1 k less) in (right_side slots h.0 k, side.1)

  -- what was read is what stands at the place
  pub right_at : (k : ℕ) (o : Option (Vec Cell A)) → k < length rights → o ≡ get_or rights k o → list_of (get_or rights k None) ≡ list_of o
  right_at k o less is = ap list_of (get_or_from_slice_get rights k o None (slice_get_read rights _ k o refl less is))

  pub lists_end : (i : ℕ) (bs : List Binding) → length ks ≤ i → ListsBindings slots rights (take i ks) bs → ListsBindings slots rights ks bs
  lists_end i bs full h = subst (λ l. ListsBindings slots rights l bs) (take_all i ks full) h

-- ---- the whole list
module _ {A B : Type 0} (slots : Slots) (rights : List (Option (Vec Cell A))) (lists : List (Option (Vec ℕ B))) (long : length rights ≡ slot_count slots) (as_long : length lists ≡ length rights) (uses : AreUses slots rights lists) where
  all_bound : (f : Variable → Term) → AreRightSides slots f rights → (ks : List ℕ) → AreOrdered (uses_at lists) ks → AllByRecursion (IsToBind slots f) ks
  all_bound f sides ks ordered =
      all_from (IsToBind slots f) ks (λ k a. to_bind_of slots f rights lists long as_long uses sides k (all_at (IsListed (uses_at lists)) ks k (listed_all (uses_at lists) [] ks ordered.next) a))

  pub all_listed : (f : Variable → Term) → AreRightSides slots f rights → (ks : List ℕ) → AreOrdered (uses_at lists) ks → AreListed slots rights ks
  all_listed f sides ks ordered = (f, sides, all_bound f sides ks ordered)

  pub is_whole_list : (f : Variable → Term) → AreRightSides slots f rights → ImagesStay slots f → (ks : List ℕ) (bindings : List Binding) → AreOrdered (uses_at lists) ks → ListsBindings slots rights ks bindings → IsWholeList slots f bindings
  is_whole_list f sides stays ks bindings ordered h = record {
    used = λ k. uses_at lists k;
    ks = ks;
    ordered = ordered;
    to_bind = λ k l. to_bind_of slots f rights lists long as_long uses sides k l;
    of_bind = λ k b. listed_of slots f rights lists long as_long uses sides k b;
    has = λ k l. has_uses slots f rights lists long as_long uses sides stays k l;
    stands = h f sides (all_bound f sides ks ordered);
  }
