-- Nodes and their numbers.
use Rattle.std.proofs.Common.{◌≡◌, ℕ, ◌+◌, ◌<◌, ◌≤◌, inl, inr, Bool, true, false, List, [], ◌∷◌, ◌++◌, length, suc, refl, sym, ◌∙◌, ap, subst, arith, append_assoc, append-nil, length-append, reverse, Some}
use Rattle.std.proofs.lemmas.Bool.{eq-eqb, eqb-true, and_parts}
use Rattle.std.specs.Prelude.{◌==◌, ◌&&◌, slice_get, if◌then◌else◌}
use Rattle.std.specs.List.{list_any, position_or_len}
use Rattle.std.proofs.lemmas.Option.{slice_get_within, same_Some}
use Rattle.si_defs.specs.Substitutions.{IsAmong}
use Rattle.si_defs.specs.Terms as terms
use Rattle.si_defs.proofs.ListLaws.{get_some, get_front, get_here, get_either, get_among}
use Rattle.si_defs.proofs.TermLaws.{same_app}
use Rattle.si_flat.specs.Cells.{Symbol, Variable, Term, Terms, join}
use Rattle.si_unify.specs.declared.slots.Slots.{Slots}
use Rattle.si_unify.specs.Solving.{slot_of, variable_of}
use Rattle.si_unify.proofs.Solutions.{lt_tells}
use Rattle.si_unify.proofs.Rows.{count-join, join-none, join-more}
use Rattle.si_form.specs.declared.classes.Node.{Node}
use Rattle.si_form.specs.declared.classes.Node.TheVariants.{Variable as Of, Head, With}
use Rattle.si_form.specs.contracts.classes.NodePartialEq.TheImpl.{eq-value}
use Rattle.si_form.specs.Classes.{Interns, with_last, HasOneMore, IsTermOfNode, AreNodes, GrowsTo, HaveClasses, Applies, HasApplied, IsApplying}

-- ---- equal nodes
eq_tells : (a b : Node) → eq-value.it a b ≡ true → a ≡ b
eq_tells (Of m) (Of n) e = ap Of (eqb-true m n e)
eq_tells (Of m) (Head s a) e = cc
eq_tells (Of m) (With p q) e = cc
eq_tells (Head s a) (Of n) e = cc
eq_tells (Head s a) (Head r b) e = let parts = and_parts (s == r) (a == b) e in ap (λ x. Head x a) (eqb-true s r parts.0) ∙ ap (Head r) (eqb-true a b parts.1)
eq_tells (Head s a) (With p q) e = cc
eq_tells (With f g) (Of n) e = cc
eq_tells (With f g) (Head r b) e = cc
eq_tells (With f g) (With p q) e = let parts = and_parts (f == p) (g == q) e in ap (λ x. With x g) (eqb-true f p parts.0) ∙ ap (With p) (eqb-true g q parts.1)

eq_itself : (a : Node) → eq-value.it a a ≡ true
eq_itself (Of m) = eq-eqb m m refl
eq_itself (Head s a) = ap (λ b. b && a == a) (eq-eqb s s refl) ∙ eq-eqb a a refl
eq_itself (With f g) = ap (λ b. b && g == g) (eq-eqb f f refl) ∙ eq-eqb g g refl

place_found : (nodes : List Node) (node : Node) → list_any (eq-value.it node) nodes ≡ true → slice_get nodes (position_or_len (eq-value.it node) nodes) ≡ Some node
place_found [] node e = cc
place_found (x ∷ nodes) node e = by (eq-value.it node x) refl (λ k. place_found nodes node k)
  where
    by : (b : Bool) → eq-value.it node x ≡ b → (list_any (eq-value.it node) nodes ≡ true → slice_get nodes (position_or_len (eq-value.it node) nodes) ≡ Some node) → slice_get (x ∷ nodes) (position_or_len (eq-value.it node) (x ∷ nodes)) ≡ Some node
    by true k later = rw k (ap Some (sym (eq_tells node x k)))
    by false k later = (let n : position_or_len (eq-value.it node) (x ∷ nodes) ≡ suc (position_or_len (eq-value.it node) nodes) = rw k (omega arith) in ap (slice_get (x ∷ nodes)) n ∙ later (rw k at e))

place_missed : (nodes : List Node) (node : Node) → list_any (eq-value.it node) nodes ≡ false → (position_or_len (eq-value.it node) nodes ≡ length nodes) × (IsAmong nodes node → ⊥)
place_missed [] node e = (refl, λ a. elim a [ ])
place_missed (x ∷ nodes) node e = by (eq-value.it node x) refl (λ k. place_missed nodes node k)
  where
    by : (b : Bool) → eq-value.it node x ≡ b → (list_any (eq-value.it node) nodes ≡ false → (position_or_len (eq-value.it node) nodes ≡ length nodes) × (IsAmong nodes node → ⊥)) → (position_or_len (eq-value.it node) (x ∷ nodes) ≡ length (x ∷ nodes)) × (IsAmong (x ∷ nodes) node → ⊥)
    by true k later = let bad : true ≡ false = rw k at e in cc
    by false k later =
        let r = later (rw k at e) in
        ((let n : position_or_len (eq-value.it node) (x ∷ nodes) ≡ suc (position_or_len (eq-value.it node) nodes) = rw k (omega arith) in n ∙ ap suc r.0), λ a. elim a [ inl same ↦ (let bad : true ≡ false = sym (eq_itself node) ∙ ap (eq-value.it node) (sym same) ∙ k in cc) | inr b ↦ r.1 b ])

pub interned : (old new : List Node) (node : Node) (n : ℕ) → new ≡ (if list_any (eq-value.it node) old then old else old ++ node ∷ []) → n ≡ position_or_len (eq-value.it node) old → Interns old new node n
interned old new node n is place = by (list_any (eq-value.it node) old) refl
  where
    by : (b : Bool) → list_any (eq-value.it node) old ≡ b → Interns old new node n
    by true k = inl ((rw k at is), ap (slice_get old) place ∙ place_found old node k)
    by false k = let r = place_missed old node k in inr ((rw k at is), place ∙ r.0, r.1)

-- ---- rows
last_of_none : (ts : Terms) (u : Term) → with_last ts u ≡ terms.none → ⊥
last_of_none terms.none u e = cc
last_of_none (terms.more t ts) u e = cc

same_last : (ts us : Terms) (t u : Term) → with_last ts t ≡ with_last us u → (ts ≡ us) × (t ≡ u)
same_last terms.none terms.none t u e = (refl, cc)
same_last terms.none (terms.more v us) t u e = let bad : terms.none ≡ with_last us u = cc in absurd (last_of_none us u (sym bad))
same_last (terms.more v ts) terms.none t u e = let bad : with_last ts t ≡ terms.none = cc in absurd (last_of_none ts t bad)
same_last (terms.more v ts) (terms.more w us) t u e =
    let first : v ≡ w = cc in
    let others : with_last ts t ≡ with_last us u = cc in
    let r = same_last ts us t u others in
    (ap (λ x. terms.more x ts) first ∙ ap (terms.more w) r.0, r.1)

same_variables : (x y : Variable) (t : Term) → t ≡ terms.var x → t ≡ terms.var y → x ≡ y
same_variables x y t e f = cc

substitute_last : (f : Variable → Term) (ts : Terms) (u : Term) → terms.substitute_all f (with_last ts u) ≡ with_last (terms.substitute_all f ts) (terms.substitute f u)
substitute_last f terms.none u = refl
substitute_last f (terms.more t ts) u = ap (terms.more (terms.substitute f t)) (substitute_last f ts u)

count_last : (ts : Terms) (u : Term) → terms.count (with_last ts u) ≡ terms.count ts + 1
count_last terms.none u = omega arith
count_last (terms.more t ts) u = omega (arith, count_last ts u)

-- ---- slots
pub slot_again : (slots : Slots) (k : ℕ) → slot_of slots (variable_of slots k) ≡ k
slot_again slots k =
    elim (lt_tells k slots.query) [
      | inl h ↦ rw h.0 refl
      | inr h ↦
          elim (lt_tells k (slots.query + slots.entry)) [
            | inl j ↦ rw (h.0, j.0) (omega (arith, h.1))
            | inr j ↦ rw (h.0, j.0) (omega (arith, h.1, j.1))
          ]
    ]

pub same_slots : (slots : Slots) (m n : ℕ) → variable_of slots m ≡ variable_of slots n → m ≡ n
same_slots slots m n e = sym (slot_again slots m) ∙ ap (slot_of slots) e ∙ slot_again slots n

-- ---- what nodes stand for
node_known : (slots : Slots) (known more : List Term) (n : ℕ) (node : Node) (t : Term) → IsTermOfNode slots known n node t → IsTermOfNode slots (known ++ more) n node t
node_known slots known more n (Of k) t h = h
node_known slots known more n (Head s a) t h = h
node_known slots known more n (With p q) t h = record {
  symbol = h.symbol;
  arguments = h.arguments;
  last = h.last;
  front_is = get_front known more p (terms.app h.symbol h.arguments) h.front_is;
  last_is = get_front known more q h.last h.last_is;
  term_is = h.term_is;
  front_before = h.front_before;
  argument_before = h.argument_before;
}

node_term : (slots : Slots) (known : List Term) (m n : ℕ) (node : Node) (t u : Term) → IsTermOfNode slots known m node t → IsTermOfNode slots known n node u → t ≡ u
node_term slots known m n (Of k) t u h j = h.1 ∙ sym j.1
node_term slots known m n (Head s a) t u h j = h ∙ sym j
node_term slots known m n (With p q) t u h j =
    let fronts = same_app h.symbol j.symbol h.arguments j.arguments (same_Some (terms.app h.symbol h.arguments) (terms.app j.symbol j.arguments) (sym h.front_is ∙ j.front_is)) in
    let lasts = same_Some h.last j.last (sym h.last_is ∙ j.last_is) in
    h.term_is
    ∙ ap (λ s. terms.app s (with_last h.arguments h.last)) fronts.0
    ∙ ap (λ ts. terms.app j.symbol (with_last ts h.last)) fronts.1
    ∙ ap (λ v. terms.app j.symbol (with_last j.arguments v)) lasts
    ∙ sym j.term_is

module _ (slots : Slots) (nodes : List Node) (known : List Term) (are : AreNodes slots nodes known) where
  same_node : (m n : ℕ) (a b : Node) (t : Term) → IsTermOfNode slots known m a t → IsTermOfNode slots known n b t → a ≡ b
  same_node m n (Of k) (Of l) t h j =
      let variables_same : variable_of slots k ≡ variable_of slots l = same_variables (variable_of slots k) (variable_of slots l) t h.1 j.1 in
      ap Of (sym (slot_again slots k) ∙ ap (slot_of slots) variables_same ∙ slot_again slots l)
  same_node m n (Of k) (Head s a) t h j = let bad : terms.var (variable_of slots k) ≡ terms.app (record { number = s; arity = a }) terms.none = sym h.1 ∙ j in cc
  same_node m n (Of k) (With p q) t h j = let bad : terms.var (variable_of slots k) ≡ terms.app j.symbol (with_last j.arguments j.last) = sym h.1 ∙ j.term_is in cc
  same_node m n (Head s a) (Of k) t h j = let bad : terms.var (variable_of slots k) ≡ terms.app (record { number = s; arity = a }) terms.none = sym j.1 ∙ h in cc
  same_node m n (Head s a) (Head r b) t h j =
      let make : ℕ → ℕ → Symbol = λ x y. record { number = x; arity = y } in
      let symbols = (same_app (record { number = s; arity = a }) (record { number = r; arity = b }) terms.none terms.none (sym h ∙ j)).0 in
      ap (λ x. Head x a) (ap (λ y. y.number) symbols) ∙ ap (Head r) (ap (λ y. y.arity) symbols)
  same_node m n (Head s a) (With p q) t h j = absurd (last_of_none j.arguments j.last (sym (same_app (record { number = s; arity = a }) j.symbol terms.none (with_last j.arguments j.last) (sym h ∙ j.term_is)).1))
  same_node m n (With p q) (Of k) t h j = let bad : terms.var (variable_of slots k) ≡ terms.app h.symbol (with_last h.arguments h.last) = sym j.1 ∙ h.term_is in cc
  same_node m n (With p q) (Head s a) t h j = absurd (last_of_none h.arguments h.last (sym (same_app (record { number = s; arity = a }) h.symbol terms.none (with_last h.arguments h.last) (sym j ∙ h.term_is)).1))
  same_node m n (With p q) (With v w) t h j =
      let whole = same_app h.symbol j.symbol (with_last h.arguments h.last) (with_last j.arguments j.last) (sym h.term_is ∙ j.term_is) in
      let parts = same_last h.arguments j.arguments h.last j.last whole.1 in
      let fronts : p ≡ v =
      are.distinct p v (terms.app h.symbol h.arguments) h.front_is
      (j.front_is ∙ ap (λ s. Some (terms.app s j.arguments)) (sym whole.0) ∙ ap (λ ts. Some (terms.app h.symbol ts)) (sym parts.0)) in
      let lasts : q ≡ w = are.distinct q w h.last h.last_is (j.last_is ∙ ap Some (sym parts.1)) in
      ap (λ x. With x q) fronts ∙ ap (With v) lasts

  pub known_of : (n : ℕ) (node : Node) → slice_get nodes n ≡ Some node → (t : Term) × (slice_get known n ≡ Some t) × IsTermOfNode slots known n node t
  known_of n node e =
      let r = get_some known n (omega (arith, slice_get_within nodes n node e, are.long)) in
      (r.0, r.1, are.stands n node r.0 e r.1)

  pub node_of : (n : ℕ) (t : Term) → slice_get known n ≡ Some t → (node : Node) × (slice_get nodes n ≡ Some node) × IsTermOfNode slots known n node t
  node_of n t e =
      let r = get_some nodes n (omega (arith, slice_get_within known n t e, are.long)) in
      (r.0, r.1, are.stands n r.0 t r.1 e)

  one_more : (node : Node) (t : Term) → (IsAmong nodes node → ⊥) → IsTermOfNode slots known (length nodes) node t → AreNodes slots (nodes ++ node ∷ []) (known ++ t ∷ [])
  one_more node t fresh means = record {
    long = length-append known (t ∷ []) ∙ omega (arith, are.long) ∙ sym (length-append nodes (node ∷ []));
    stands = λ n a u e k.
        elim (get_either nodes node n a e) [
          | inl old ↦
              elim (get_either known t n u k) [
                | inl was ↦ node_known slots known (t ∷ []) n a u (are.stands n a u old was)
                | inr last ↦ absurd (omega (arith, last.0, are.long, slice_get_within nodes n a old))
              ]
          | inr new ↦
              elim (get_either known t n u k) [
                | inl was ↦ absurd (omega (arith, new.0, are.long, slice_get_within known n u was))
                | inr last ↦
                    subst (λ i. IsTermOfNode slots (known ++ t ∷ []) i a u) (sym new.0)
                    (subst (λ b. IsTermOfNode slots (known ++ t ∷ []) (length nodes) b u) (sym new.1)
                    (subst (IsTermOfNode slots (known ++ t ∷ []) (length nodes) node) (sym last.1) (node_known slots known (t ∷ []) (length nodes) node t means)))
              ]
        ];
    distinct = λ m n u e k.
        elim (get_either known t m u e) [
          | inl old ↦
              elim (get_either known t n u k) [
                | inl was ↦ are.distinct m n u old was
                | inr last ↦ absurd (stranger m u old last.1)
              ]
          | inr new ↦
              elim (get_either known t n u k) [
                | inl was ↦ absurd (stranger n u was new.1)
                | inr last ↦ new.0 ∙ sym last.0
              ]
        ];
  }
    where
      stranger : (m : ℕ) (u : Term) → slice_get known m ≡ Some u → u ≡ t → ⊥
      stranger m u e same =
          let r = node_of m u e in
          fresh (subst (IsAmong nodes) (same_node m (length nodes) r.0 node u r.2 (subst (IsTermOfNode slots known (length nodes) node) (sym same) means)) (get_among nodes m r.0 r.1))

  -- the node's number stands for its term
  pub grows : (nodes' : List Node) (node : Node) (n : ℕ) (t : Term) → Interns nodes nodes' node n → IsTermOfNode slots known (length nodes) node t → (known' : List Term) × GrowsTo slots known nodes' known' × (slice_get known' n ≡ Some t)
  grows nodes' node n t h means =
      elim h [
        | inl old ↦
            let r = known_of n node old.1 in
            let same : r.0 ≡ t = node_term slots known n (length nodes) node r.0 t r.2 means in (
              known,
              record { more = []; known_is = sym (append-nil known); nodes_are = subst (λ l. AreNodes slots l known) (sym old.0) are },
              r.1 ∙ ap Some same,
            )
        | inr new ↦ (
          known ++ t ∷ [],
          record {
            more = t ∷ [];
            known_is = refl;
            nodes_are = subst (λ l. AreNodes slots l (known ++ t ∷ [])) (sym new.0) (one_more node t new.2 means);
          },
          ap (slice_get (known ++ t ∷ [])) (new.1 ∙ sym are.long) ∙ get_here known t [],
        )
      ]

pub grows_on : (slots : Slots) (known known1 known2 : List Term) (nodes1 nodes2 : List Node) → GrowsTo slots known nodes1 known1 → GrowsTo slots known1 nodes2 known2 → GrowsTo slots known nodes2 known2
grows_on slots known known1 known2 nodes1 nodes2 h j = record {
  more = h.more ++ j.more;
  known_is = j.known_is ∙ ap (λ l. l ++ j.more) h.known_is ∙ append_assoc known h.more j.more;
  nodes_are = j.nodes_are;
}

pub still_known : (slots : Slots) (old : List Term) (nodes : List Node) (known : List Term) (n : ℕ) (t : Term) → GrowsTo slots old nodes known → slice_get old n ≡ Some t → slice_get known n ≡ Some t
still_known slots old nodes known n t h e = subst (λ l. slice_get l n ≡ Some t) (sym h.known_is) (get_front old h.more n t e)

pub still_numbers : (slots : Slots) (f : Variable → Term) (old : List Term) (nodes : List Node) (known : List Term) (ns : List ℕ) (ts : Terms) → GrowsTo slots old nodes known → HaveClasses f old ns ts → HaveClasses f known ns ts
still_numbers slots f old nodes known [] terms.none h k = tt
still_numbers slots f old nodes known [] (terms.more t ts) h k = k
still_numbers slots f old nodes known (n ∷ ns) terms.none h k = k
still_numbers slots f old nodes known (n ∷ ns) (terms.more t ts) h k =
    (still_known slots old nodes known n (terms.substitute f t) h k.0, still_numbers slots f old nodes known ns ts h k.1)

-- ---- an application
pub applying_begins : (nodes nodes' : List Node) (numbers : List ℕ) (s : Symbol) (n : ℕ) → Interns nodes nodes' (Head s.number s.arity) n → IsApplying nodes nodes' numbers numbers s 0 n
applying_begins nodes nodes' numbers s n h slots f known us rest are have count_is =
    let r = grows slots nodes known are nodes' (Head s.number s.arity) n (terms.app s terms.none) h refl in
    record {
      known' = r.0;
      done = terms.none;
      left = us;
      grows = r.1;
      arguments = refl;
      count_is = refl;
      front_is = r.2;
      others = still_numbers slots f known nodes' r.0 numbers (join us rest) r.1 have;
    }

module _ (slots : Slots) (f : Variable → Term) (known : List Term) (nodes nodes' : List Node) (s : Symbol) (us rest : Terms) (k front : ℕ) (count_all : terms.count us ≡ s.arity) (less : k < s.arity) where
  applied_more : (argument n : ℕ) (numbers : List ℕ) → HasApplied slots f known nodes (argument ∷ numbers) s us rest k front → Interns nodes nodes' (With front argument) n → HasApplied slots f known nodes' numbers s us rest (k + 1) n
  applied_more argument n numbers h adds = by h.left h.arguments h.others
    where
      by : (left : Terms) → us ≡ join h.done left → HaveClasses f h.known' (argument ∷ numbers) (join left rest) → HasApplied slots f known nodes' numbers s us rest (k + 1) n
      by terms.none e have = absurd (omega (arith, ap terms.count e, count-join h.done terms.none, h.count_is, count_all, less))
      by (terms.more u left) e have =
          let means : HasOneMore h.known' front argument (length nodes) (terms.app s (with_last (terms.substitute_all f h.done) (terms.substitute f u))) =
          record {
            symbol = s;
            arguments = terms.substitute_all f h.done;
            last = terms.substitute f u;
            front_is = h.front_is;
            last_is = have.0;
            term_is = refl;
            front_before = omega (arith, slice_get_within h.known' front (terms.app s (terms.substitute_all f h.done)) h.front_is, h.grows.nodes_are.long);
            argument_before = omega (arith, slice_get_within h.known' argument (terms.substitute f u) have.0, h.grows.nodes_are.long);
          } in
          let r = grows slots nodes h.known' h.grows.nodes_are nodes' (With front argument) n (terms.app s (with_last (terms.substitute_all f h.done) (terms.substitute f u))) adds means in
          record {
            known' = r.0;
            done = with_last h.done u;
            left = left;
            grows = grows_on slots known h.known' r.0 nodes nodes' h.grows r.1;
            arguments = e ∙ sym (join-more h.done left u);
            count_is = omega (arith, count_last h.done u, h.count_is);
            front_is = r.2 ∙ ap (λ ts. Some (terms.app s ts)) (sym (substitute_last f h.done u));
            others = still_numbers slots f h.known' nodes' r.0 numbers (join left rest) r.1 have.1;
          }

pub applying_more : (nodes nodes1 nodes2 : List Node) (numbers numbers1 numbers2 : List ℕ) (s : Symbol) (k front argument n : ℕ) → k < s.arity → IsApplying nodes nodes1 numbers numbers1 s k front → numbers1 ≡ argument ∷ numbers2 → Interns nodes1 nodes2 (With front argument) n → IsApplying nodes nodes2 numbers numbers2 s (k + 1) n
applying_more nodes nodes1 nodes2 numbers numbers1 numbers2 s k front argument n less h e adds slots f known us rest are have count_is =
    applied_more slots f known nodes1 nodes2 s us rest k front count_is less argument n numbers2
    (subst (λ l. HasApplied slots f known nodes1 l s us rest k front) e (h slots f known us rest are have count_is))
    adds

pub applying_ends : (nodes nodes1 : List Node) (numbers numbers1 : List ℕ) (s : Symbol) (k front : ℕ) → s.arity ≤ k → IsApplying nodes nodes1 numbers numbers1 s k front → Applies nodes nodes1 numbers numbers1 s front
applying_ends nodes nodes1 numbers numbers1 s k front less h slots f known us rest are have count_is =
    let a = h slots f known us rest are have count_is in
    by a a.left a.arguments a.others
  where
    by : (a : HasApplied slots f known nodes1 numbers1 s us rest k front) (left : Terms) → us ≡ join a.done left → HaveClasses f a.known' numbers1 (join left rest) → (known' : List Term) × GrowsTo slots known nodes1 known' × (slice_get known' front ≡ Some (terms.app s (terms.substitute_all f us))) × HaveClasses f known' numbers1 rest
    by a terms.none e others = (a.known', a.grows, a.front_is ∙ ap (λ ts. Some (terms.app s (terms.substitute_all f ts))) (sym (e ∙ join-none a.done)), others)
    by a (terms.more u left) e others = absurd (omega (arith, ap terms.count e, count-join a.done (terms.more u left), a.count_is, count_is, less))

pub none_piled : (xs : List ℕ) → length xs ≡ 0 → reverse xs ≡ []
none_piled [] e = refl
none_piled (x ∷ xs) e = absurd (omega (arith, e))
