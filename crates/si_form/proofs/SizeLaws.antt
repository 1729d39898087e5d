-- The sizes of classes are those of their folded terms.
use Rattle.std.proofs.Common.{◌≡◌, ℕ, ◌+◌, ◌-◌, ◌^◌, ◌<◌, ◌≤◌, List, length, get_or, suc, zero, refl, sym, ◌∙◌, ap, arith, Option, Some, None}
use Rattle.std.specs.Prelude.{slice_get, min}
use Rattle.std.proofs.lemmas.Option.{slice_get_within, get_or_from_slice_get}
use Rattle.si_defs.specs.Terms as terms
use Rattle.si_flat.specs.Cells.{Variable, Term, Terms}
use Rattle.si_unify.specs.declared.slots.Slots.{Slots}
use Rattle.si_unify.specs.Solving.{slot_count}
use Rattle.si_form.specs.declared.classes.Node.{Node}
use Rattle.si_form.specs.declared.classes.Node.TheVariants.{Variable as Of, Head, With}
use Rattle.si_form.specs.Classes.{with_last, IsTermOfNode, AreNodes}
use Rattle.si_form.specs.Folding.{leader, variable_or, folded, folded_all, AreLeaders, part_size, node_size, AreSizes}
use Rattle.si_form.proofs.NodeLaws.{node_of}

folded_last : (slots : Slots) (f : Variable → Term) (ts : Terms) (u : Term) → terms.sizes (folded_all slots f (with_last ts u)) ≡ terms.sizes (folded_all slots f ts) + terms.size (variable_or slots f (leader slots f u) (folded slots f u))
folded_last slots f terms.none u = omega arith
folded_last slots f (terms.more t ts) u = omega (arith, folded_last slots f ts u)

capped : (a n : ℕ) → a ≤ n → min a n ≡ a
capped a n less = omega (arith, less)

module _ (slots : Slots) (f : Variable → Term) (nodes : List Node) (known : List Term) (leaders : List (Option ℕ)) (sizes : List ℕ) (are : AreNodes slots nodes known) (led : AreLeaders slots f (slot_count slots) known leaders) (sized : AreSizes nodes leaders (length nodes) sizes) where
  abbrev Fits : Term → Type 0
  Fits t = terms.size (folded slots f t) ≤ 2 ^ 32 - 1

  abbrev IsExact : ℕ → Type 0
  IsExact bound = (m : ℕ) (t : Term) → m < bound → slice_get known m ≡ Some t → Fits t → slice_get sizes m ≡ Some (terms.size (folded slots f t))

  part_exact : (bound q : ℕ) (u : Term) → IsExact bound → q < bound → slice_get known q ≡ Some u → terms.size (variable_or slots f (leader slots f u) (folded slots f u)) ≤ 2 ^ 32 - 1 → part_size (get_or leaders q None) (get_or sizes q 0) ≡ terms.size (variable_or slots f (leader slots f u) (folded slots f u))
  part_exact bound q u exact less at fits = ap (λ o. part_size o (get_or sizes q 0)) (get_or_from_slice_get leaders q (leader slots f u) None (led q u at)) ∙ by (leader slots f u) fits
    where
      by : (o : Option ℕ) → terms.size (variable_or slots f o (folded slots f u)) ≤ 2 ^ 32 - 1 → part_size o (get_or sizes q 0) ≡ terms.size (variable_or slots f o (folded slots f u))
      by (Some w) k = refl
      by None k = get_or_from_slice_get sizes q (terms.size (folded slots f u)) 0 (exact q u less at k)

  node_exact : (bound m : ℕ) (node : Node) (t : Term) → IsExact bound → m ≤ bound → IsTermOfNode slots known m node t → Fits t → node_size sizes leaders node ≡ terms.size (folded slots f t)
  node_exact bound m (Of slot) t exact less means fits = sym (ap (λ u. terms.size (folded slots f u)) means.1)
  node_exact bound m (Head s a) t exact less means fits =
      (let one : 1 ≡ 1 + 0 = omega arith in one) ∙ sym (ap (λ u. terms.size (folded slots f u)) means)
  node_exact bound m (With p q) t exact less means fits =
      let whole : terms.size (folded slots f t) ≡ 1 + (terms.sizes (folded_all slots f means.arguments) + terms.size (variable_or slots f (leader slots f means.last) (folded slots f means.last))) =
      ap (λ u. terms.size (folded slots f u)) means.term_is ∙ ap (λ n. 1 + n) (folded_last slots f means.arguments means.last) in
      let front : get_or sizes p 0 ≡ 1 + terms.sizes (folded_all slots f means.arguments) =
      get_or_from_slice_get sizes p (1 + terms.sizes (folded_all slots f means.arguments)) 0
      (exact p (terms.app means.symbol means.arguments) (omega (arith, means.front_before, less)) means.front_is (omega (arith, fits, whole))) in
      let part = part_exact bound q means.last exact (omega (arith, means.argument_before, less)) means.last_is (omega (arith, fits, whole)) in
      let sum : get_or sizes p 0 + part_size (get_or leaders q None) (get_or sizes q 0) ≡ terms.size (folded slots f t) = omega (arith, front, part, whole) in
      ap (λ n. min n (2 ^ 32 - 1)) sum ∙ capped (terms.size (folded slots f t)) (2 ^ 32 - 1) fits

  exact_below : (bound : ℕ) → IsExact bound
  exact_below zero m t less at fits = absurd (omega (arith, less))
  exact_below (suc bound) m t less at fits =
      let r = node_of slots nodes known are m t at in
      sized.sizes_are m r.0 (omega (arith, slice_get_within known m t at, are.long)) r.1
      ∙ ap Some (node_exact bound m r.0 t (λ k u l a b. exact_below bound k u l a b) (omega (arith, less)) r.2 fits)

  -- the size of a class is that of its folded term, if that can be written
  pub exact_sizes : (m : ℕ) (t : Term) → slice_get known m ≡ Some t → terms.size (folded slots f t) ≤ 2 ^ 32 - 1 → slice_get sizes m ≡ Some (terms.size (folded slots f t))
  exact_sizes m t at fits = exact_below (suc m) m t (omega arith) at fits
