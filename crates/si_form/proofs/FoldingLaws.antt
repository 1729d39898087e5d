-- Leaders of classes, and folded terms.
use Rattle.std.proofs.Common.{◌≡◌, ℕ, ◌+◌, ◌-◌, ◌<◌, ◌≤◌, inl, inr, Bool, true, false, List, [], ◌∷◌, ◌++◌, length, take, get_or, replicate, suc, zero, refl, sym, ◌∙◌, ap, subst, arith, length-append, Option, Some, None}
use Rattle.std.proofs.lemmas.Bool.Decides.{eqb_tells}
use Rattle.std.proofs.lemmas.Bool.{and_from, and_parts}
use Rattle.std.proofs.Math.ListN.{set}
use Rattle.std.specs.Prelude.{slice_get, min, ◌^◌}
use Rattle.std.proofs.lemmas.Option.{slice_get_within, same_Some, get_or_from_slice_get}
use Rattle.si_defs.specs.Terms as terms
use Rattle.si_defs.proofs.ListLaws.{get_some, get_front, get_here, set_same, set_other}
use Rattle.si_defs.proofs.TermLaws.{same_app}
use Rattle.si_flat.specs.Cells.{Symbol, Term, Terms, join}
use Rattle.si_unify.specs.declared.slots.Slots.{Slots}
use Rattle.si_unify.specs.Solving.{variable_of}
use Rattle.si_unify.proofs.Rows.{join-more, join-none}
use Rattle.si_form.specs.declared.classes.Node.{Node}
use Rattle.si_form.specs.declared.classes.Node.TheVariants.{Variable as Of, Head, With}
use Rattle.si_form.specs.Classes.{with_last, IsTermOfNode, AreNodes}
use Rattle.si_form.specs.Folding.{same_numbered, same_terms, same_rows, or_slot, leader_below, LeadClasses, HaveKnown, HasSymbol, UnfoldsClass, HasUnfolded, IsUnfolding, HasTerms, HasPartsBefore, AreSizes, node_size, part_size}
use Rattle.si_flat.proofs.VariableLaws.{variable_is, variable_self}
use Rattle.si_form.proofs.NodeLaws.{known_of}
use Rattle.si_form.proofs.Vocabularies.{number_tells, number_itself}
use Rattle.si_form.proofs.UsesLaws.{get_or_front}

-- ---- equal terms
mutual
  pub terms_tell : (t u : Term) → same_terms t u ≡ true → t ≡ u
  terms_tell (terms.var x) (terms.var y) e = ap terms.var (variable_is x y e)
  terms_tell (terms.var x) (terms.app r us) e = cc
  terms_tell (terms.app s ts) (terms.var y) e = cc
  terms_tell (terms.app s ts) (terms.app r us) e =
      let parts = and_parts (same_numbered s r) (same_rows ts us) e in
      ap (λ x. terms.app x ts) (number_tells s r parts.0) ∙ ap (terms.app r) (rows_tell ts us parts.1)

  pub rows_tell : (ts us : Terms) → same_rows ts us ≡ true → ts ≡ us
  rows_tell terms.none terms.none e = refl
  rows_tell terms.none (terms.more u us) e = cc
  rows_tell (terms.more t ts) terms.none e = cc
  rows_tell (terms.more t ts) (terms.more u us) e =
      let parts = and_parts (same_terms t u) (same_rows ts us) e in
      ap (λ x. terms.more x ts) (terms_tell t u parts.0) ∙ ap (terms.more u) (rows_tell ts us parts.1)

mutual
  pub terms_itself : (t : Term) → same_terms t t ≡ true
  terms_itself (terms.var x) = variable_self x
  terms_itself (terms.app s ts) =
      and_from (same_numbered s s) (same_rows ts ts) (number_itself s) (rows_itself ts)

  pub rows_itself : (ts : Terms) → same_rows ts ts ≡ true
  rows_itself terms.none = refl
  rows_itself (terms.more t ts) = and_from (same_terms t t) (same_rows ts ts) (terms_itself t) (rows_itself ts)

pub terms_differ : (t u : Term) → (t ≡ u → ⊥) → same_terms t u ≡ false
terms_differ t u apart = by (same_terms t u) refl
  where
    by : (b : Bool) → same_terms t u ≡ b → same_terms t u ≡ false
    by true e = absurd (apart (terms_tell t u e))
    by false e = e

-- ---- leaders of classes
get_replicate : {X : Type 0} (x : X) (n m : ℕ) → m < n → slice_get (replicate n x) m ≡ Some x
get_replicate x zero m less = absurd (omega (arith, less))
get_replicate x (suc n) zero less = refl
get_replicate x (suc n) (suc m) less = get_replicate x n m (omega (arith, less))

pub leads_begin : (slots : Slots) (nodes : List Node) (classes : List ℕ) (leaders : List (Option ℕ)) (n : ℕ) → n ≡ length nodes → leaders ≡ replicate n None → LeadClasses slots nodes classes 0 leaders
leads_begin slots nodes classes leaders n long is f known are m t e =
    ap (λ l. slice_get l m) is ∙ get_replicate None n m (omega (arith, slice_get_within known m t e, are.are.long, long))

pub leads_more :
    (slots : Slots) (nodes : List Node) (classes : List ℕ) (k c : ℕ) (leaders new : List (Option ℕ))
    → k < length classes
    → slice_get classes k ≡ Some c
    → new ≡ set leaders c (or_slot (get_or leaders c None) true k)
    → LeadClasses slots nodes classes k leaders
    → LeadClasses slots nodes classes (k + 1) new
leads_more slots nodes classes k c leaders new less class_is is h f known are m t e =
    let at_slot = are.knows k (omega (arith, less, are.long)) in
    let number_is : at_slot.number ≡ c = same_Some at_slot.number c (sym at_slot.class_is ∙ class_is) in
    let image : slice_get known c ≡ Some (f (variable_of slots k)) = ap (slice_get known) (sym number_is) ∙ at_slot.image_is in
    let before = h f known are in
    let next : leader_below slots f (k + 1) t ≡ or_slot (leader_below slots f k t) (same_terms (f (variable_of slots k)) t) k =
    (let n : k + 1 ≡ suc k = omega arith in ap (λ j. leader_below slots f j t) n) in
    elim (eqb_tells m c) [
      | inl same ↦
          let t_is : f (variable_of slots k) ≡ t = same_Some (f (variable_of slots k)) t (sym image ∙ ap (slice_get known) (sym same.1) ∙ e) in
          let fits : same_terms (f (variable_of slots k)) t ≡ true = ap (λ u. same_terms u t) t_is ∙ terms_itself t in
          let here = before m t e in
          ap (λ l. slice_get l m) is
          ∙ ap (slice_get (set leaders c (or_slot (get_or leaders c None) true k))) same.1
          ∙ set_same leaders c (or_slot (get_or leaders c None) true k) (slice_get_within leaders c (leader_below slots f k t) (ap (slice_get leaders) (sym same.1) ∙ here))
          ∙ ap (λ o. Some (or_slot o true k)) (get_or_from_slice_get leaders c (leader_below slots f k t) None (ap (slice_get leaders) (sym same.1) ∙ here))
          ∙ ap (λ b. Some (or_slot (leader_below slots f k t) b k)) (sym fits)
          ∙ ap Some (sym next)
      | inr differs ↦
          let misses : same_terms (f (variable_of slots k)) t ≡ false = terms_differ (f (variable_of slots k)) t (λ s. differs.1 (are.are.distinct m c t e (image ∙ ap Some s))) in
          ap (λ l. slice_get l m) is
          ∙ set_other leaders c m (or_slot (get_or leaders c None) true k) differs.1
          ∙ before m t e
          ∙ ap Some (sym (no_slot (leader_below slots f k t) k) ∙ ap (λ b. or_slot (leader_below slots f k t) b k) (sym misses))
          ∙ ap Some (sym next)
    ]
  where
    no_slot : (o : Option ℕ) (k : ℕ) → or_slot o false k ≡ o
    no_slot None k = refl
    no_slot (Some j) k = refl

take_none : {X : Type 0} (n : ℕ) (xs : List X) → xs ≡ [] → take n xs ≡ []
take_none zero [] e = refl
take_none (suc n) [] e = refl
take_none n (x ∷ xs) e = cc

pub all_fresh : {X : Type 0} (x : X) (n k : ℕ) (old new : List X) → old ≡ [] → k ≡ 0 → new ≡ take n old ++ replicate (n - k) x → new ≡ replicate n x
all_fresh x n k old new none zero_is is =
    let few : n - k ≡ n = omega (arith, zero_is) in
    is ∙ ap (λ l. l ++ replicate (n - k) x) (take_none n old none) ∙ ap (λ m. replicate m x) few

-- ---- from a class to its symbol
pub descending_begins : (nodes : List Node) (left : List ℕ) (class : ℕ) → IsUnfolding nodes left left class class
descending_begins nodes left class slots known s ts rest are class_is have = record {
  before = ts;
  behind = terms.none;
  parts = sym (join-none ts);
  front_is = class_is;
  piled = have;
}

front_known : (slots : Slots) (nodes : List Node) (known : List Term) (n : ℕ) (node : Node) (s : Symbol) (ts : Terms) → AreNodes slots nodes known → slice_get nodes n ≡ Some node → slice_get known n ≡ Some (terms.app s ts) → IsTermOfNode slots known n node (terms.app s ts)
front_known slots nodes known n node s ts are at_node at_term = are.stands n node (terms.app s ts) at_node at_term

pub descending_more : (nodes : List Node) (left left1 left2 : List ℕ) (class front before argument : ℕ) → IsUnfolding nodes left left1 class front → Some (With before argument) ≡ slice_get nodes front → left2 ≡ argument ∷ left1 → IsUnfolding nodes left left2 class before
descending_more nodes left left1 left2 class front before argument h node pushed slots known s ts rest are class_is have =
    let d = h slots known s ts rest are class_is have in
    let m = front_known slots nodes known front (With before argument) s d.before are (sym node) d.front_is in
    let same = same_app s m.symbol d.before (with_last m.arguments m.last) m.term_is in
    subst (λ l. HasUnfolded known l s ts rest before) (sym pushed) (record {
      before = m.arguments;
      behind = terms.more m.last d.behind;
      parts = d.parts ∙ ap (λ us. join us d.behind) same.1 ∙ join-more m.arguments d.behind m.last;
      front_is = m.front_is ∙ ap (λ r. Some (terms.app r m.arguments)) (sym same.0);
      piled = (m.last_is, d.piled);
    })

-- the node of such a class
symbol_node : (nodes : List Node) (front : ℕ) (node : Node) (h : HasSymbol nodes front) → Some node ≡ slice_get nodes front → IsTermOfNode h.slots h.known front node (terms.app h.symbol h.arguments)
symbol_node nodes front node h at = front_known h.slots nodes h.known front node h.symbol h.arguments h.are (sym at) h.class_is

pub descending_lower : (nodes : List Node) (front before argument : ℕ) → HasSymbol nodes front → Some (With before argument) ≡ slice_get nodes front → before < front
descending_lower nodes front before argument h node = (symbol_node nodes front (With before argument) h node).front_before

pub symbol_before : (nodes : List Node) (front before argument : ℕ) → HasSymbol nodes front → Some (With before argument) ≡ slice_get nodes front → HasSymbol nodes before
symbol_before nodes front before argument h node =
    let m = symbol_node nodes front (With before argument) h node in
    record { slots = h.slots; known = h.known; are = h.are; symbol = m.symbol; arguments = m.arguments; class_is = m.front_is }

pub symbol_no_variable : (nodes : List Node) (front slot : ℕ) → HasSymbol nodes front → Some (Of slot) ≡ slice_get nodes front → ⊥
symbol_no_variable nodes front slot h node =
    let m = symbol_node nodes front (Of slot) h node in
    let bad : terms.app h.symbol h.arguments ≡ terms.var (variable_of h.slots slot) = m.1 in cc

pub symbol_inside : (nodes : List Node) (front : ℕ) → HasSymbol nodes front → front < length nodes
symbol_inside nodes front h = omega (arith, slice_get_within h.known front (terms.app h.symbol h.arguments) h.class_is, h.are.long)

pub symbol_there : (nodes : List Node) (front : ℕ) → HasSymbol nodes front → None ≡ slice_get nodes front → ⊥
symbol_there nodes front h none =
    let r = get_some nodes front (symbol_inside nodes front h) in
    let bad : None ≡ Some r.0 = none ∙ r.1 in cc

pub descending_ends : (nodes : List Node) (left left1 : List ℕ) (class front a b : ℕ) → IsUnfolding nodes left left1 class front → Some (Head a b) ≡ slice_get nodes front → UnfoldsClass nodes left left1 class (a, b)
descending_ends nodes left left1 class front a b h node slots known s ts rest are class_is have =
    let d = h slots known s ts rest are class_is have in
    let m = front_known slots nodes known front (Head a b) s d.before are (sym node) d.front_is in
    let same = same_app s (record { number = a; arity = b }) d.before terms.none m in
    let pair : (a, b) ≡ (s.number, s.arity) = ap (λ (r : Symbol). (r.number, r.arity)) (sym same.0) in (
      pair,
      subst (λ us. HaveKnown known left1 (join us rest)) (sym (d.parts ∙ ap (λ us. join us d.behind) same.1)) d.piled,
    )

-- ---- sizes
pub is_before : (nodes : List Node) (n : ℕ) (node : Node) → HasTerms nodes → Some node ≡ slice_get nodes n → HasPartsBefore n node
is_before nodes n (Of slot) has at = tt
is_before nodes n (Head s a) has at = tt
is_before nodes n (With p q) has at = let m = (known_of has.0 nodes has.1 has.2 n (With p q) (sym at)).2 in (m.front_before, m.argument_before)

pub sizes_begin : (nodes : List Node) (leaders : List (Option ℕ)) (sizes : List ℕ) → sizes ≡ [] → AreSizes nodes leaders 0 sizes
sizes_begin nodes leaders sizes none = record { long = ap length none; sizes_are = λ n node less at. absurd (omega (arith, less)) }

size_front : (sizes more : List ℕ) (leaders : List (Option ℕ)) (node : Node) → HasPartsBefore (length sizes) node → node_size (sizes ++ more) leaders node ≡ node_size sizes leaders node
size_front sizes more leaders (Of slot) h = refl
size_front sizes more leaders (Head s a) h = refl
size_front sizes more leaders (With p q) h =
    ap (λ x. min (x + part_size (get_or leaders q None) (get_or (sizes ++ more) q 0)) (2 ^ 32 - 1)) (get_or_front sizes more p 0 h.0)
    ∙ ap (λ x. min (get_or sizes p 0 + part_size (get_or leaders q None) x) (2 ^ 32 - 1)) (get_or_front sizes more q 0 h.1)

later_before : (m n : ℕ) (node : Node) → m ≤ n → HasPartsBefore m node → HasPartsBefore n node
later_before m n (Of slot) less h = tt
later_before m n (Head s a) less h = tt
later_before m n (With p q) less h = (omega (arith, less, h.0), omega (arith, less, h.1))

pub sizes_more : (nodes : List Node) (leaders : List (Option ℕ)) (sizes new : List ℕ) (k size : ℕ) (node : Node) → HasTerms nodes → Some node ≡ slice_get nodes k → AreSizes nodes leaders k sizes → size ≡ node_size sizes leaders node → new ≡ sizes ++ size ∷ [] → AreSizes nodes leaders (k + 1) new
sizes_more nodes leaders sizes new k size node has at h size_is is = subst (AreSizes nodes leaders (k + 1)) (sym is) (record {
  long = length-append sizes (size ∷ []) ∙ omega (arith, h.long);
  sizes_are = λ n other less here.
      let before : HasPartsBefore (length sizes) other = later_before n (length sizes) other (omega (arith, less, h.long)) (is_before nodes n other has (sym here)) in
      let same : node_size (sizes ++ size ∷ []) leaders other ≡ node_size sizes leaders other = size_front sizes (size ∷ []) leaders other before in
      elim (eqb_tells n k) [
        | inl e ↦
            let node_is : other ≡ node = same_Some other node (sym here ∙ ap (slice_get nodes) e.1 ∙ sym at) in
            ap (slice_get (sizes ++ size ∷ [])) (e.1 ∙ sym h.long) ∙ get_here sizes size [] ∙ ap Some (size_is ∙ ap (node_size sizes leaders) (sym node_is) ∙ sym same)
        | inr e ↦ get_front sizes (size ∷ []) n (node_size sizes leaders other) (h.sizes_are n other (omega (arith, less, e.1)) here) ∙ ap Some (sym same)
      ];
})
