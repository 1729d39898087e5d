-- A term without indicators stands in the relation to the query exactly where it is open.
use Rattle.std.proofs.Common.{◌≡◌, ◌↔◌, inl, inr, ℕ, cond, List, [], ◌∷◌, ◌++◌, map, refl, ap, sym, ◌∙◌, subst}
use Rattle.si_defs.specs.Terms as terms
use Rattle.si_defs.specs.Substitutions.{Substitution, image, apply, lefts, IsAmong, IsOn}
use Rattle.si_defs.specs.Relations.{Matches, Relates}
use Rattle.si_defs.specs.declared.Relation.{Relation}
use Rattle.si_defs.specs.declared.Relation.TheVariants.{Variants, Instances, Generalizations, Unifiable}
use Rattle.si_defs.proofs.ListLaws.{all_weaker, among_front, among_parts}
use Rattle.si_defs.proofs.TermLaws.{same_app, same_more}
use Rattle.si_flat.specs.Cells.{Symbol, Variable, query, entry, ind, same_variable, Term, Terms}
use Rattle.si_flat.specs.Flattened.{IsNumberedBy}
use Rattle.si_legal.specs.Bindings.{indicators}
use Rattle.si_legal.specs.OpenNodes.{IsOpen, RenamesEntry}
use Rattle.si_changes.proofs.HeadLaws.{indicator_variable}
use Rattle.si_changes.proofs.ComposeLaws.{substituted_twice, is_substituted}
use Rattle.si_descend.proofs.Tabulated.{variable_tells, left_alone, substituted_none}
use Rattle.si_descend.proofs.Openness.{of_kind, query_no_entry, entry_no_ind}

-- ---- terms that a map leaves as a whole
mutual
  pub fixed : (h : Variable → Term) (t : Term) (x : Variable) → terms.substitute h t ≡ t → IsAmong (terms.variables t) x → h x ≡ terms.var x
  fixed h (terms.var y) x e (inl p) = subst (λ z. h z ≡ terms.var z) p e
  fixed h (terms.var y) x e (inr a) = absurd a
  fixed h (terms.app s ts) x e a = all_fixed h ts x (same_app s s (terms.substitute_all h ts) ts e).1 a

  pub all_fixed : (h : Variable → Term) (ts : Terms) (x : Variable) → terms.substitute_all h ts ≡ ts → IsAmong (terms.variables_of_all ts) x → h x ≡ terms.var x
  all_fixed h terms.none x e a = absurd a
  all_fixed h (terms.more t ts) x e a =
      let parts = same_more (terms.substitute h t) t (terms.substitute_all h ts) ts e in
      elim (among_parts (terms.variables t) (terms.variables_of_all ts) x a) as (λ _. h x ≡ terms.var x) [
        | inl b ↦ fixed h t x parts.0 b
        | inr b ↦ all_fixed h ts x parts.1 b
      ]

same_variables : (x y : Variable) → ◌≡◌ {A = Term} (terms.var x) (terms.var y) → x ≡ y
same_variables x y e = cc

same_entry : (m n : ℕ) → entry m ≡ entry n → m ≡ n
same_entry m n e = cc

-- ---- the way back
abbrev inverted : Term → Variable → Substitution Symbol Variable → Substitution Symbol Variable
inverted (terms.var y) x rest = (y, terms.var x) ∷ rest
inverted (terms.app s ts) x rest = rest

abbrev inverse : Substitution Symbol Variable → List Variable → Substitution Symbol Variable
inverse s [] = []
inverse s (x ∷ xs) = inverted (image same_variable s x) x (inverse s xs)

-- the map takes these variables to variables, different ones to different ones
record RenamesAll (s : Substitution Symbol Variable) (xs : List Variable) : Type 0 where
  renames : (x : Variable) → IsAmong xs x → (y : Variable) × (image same_variable s x ≡ terms.var y)
  apart : (x z : Variable) → IsAmong xs x → IsAmong xs z → image same_variable s x ≡ image same_variable s z → x ≡ z

fewer : (s : Substitution Symbol Variable) (x : Variable) (xs : List Variable) → RenamesAll s (x ∷ xs) → RenamesAll s xs
fewer s x xs h = record {
  renames = λ z a. h.renames z (inr a);
  apart = λ y z a b. h.apart y z (inr a) (inr b);
}

inverse_is : (s : Substitution Symbol Variable) (xs : List Variable) (x y : Variable) → RenamesAll s xs → IsAmong xs x → image same_variable s x ≡ terms.var y → image same_variable (inverse s xs) y ≡ terms.var x
inverse_is s [] x y h a e = absurd a
inverse_is s (z ∷ xs) x y h a e =
    let w = h.renames z (inl refl) in
    subst (λ t. image same_variable (inverted t z (inverse s xs)) y ≡ terms.var x) (sym w.1)
    (elim (variable_tells w.0 y) as (λ _. cond (same_variable w.0 y) (terms.var z) (image same_variable (inverse s xs) y) ≡ terms.var x) [
      | inl t ↦ ap (λ b. cond b (terms.var z) (image same_variable (inverse s xs) y)) t.0 ∙ ap terms.var (h.apart z x (inl refl) a (w.1 ∙ ap terms.var t.1 ∙ sym e))
      | inr t ↦ ap (λ b. cond b (terms.var z) (image same_variable (inverse s xs) y)) t.0 ∙ inverse_is s xs x y (fewer s z xs h) (later w.0 w.1 t.1 a) e
    ])
  where
    later : (w : Variable) → image same_variable s z ≡ terms.var w → (w ≡ y → ⊥) → IsAmong (z ∷ xs) x → IsAmong xs x
    later w p other (inl q) = absurd (other (same_variables w y (sym p ∙ ap (image same_variable s) q ∙ e)))
    later w p other (inr b) = b

inverse_on : (s : Substitution Symbol Variable) (ys xs : List Variable) → ((x y : Variable) → IsAmong xs x → image same_variable s x ≡ terms.var y → IsAmong ys y) → IsOn ys (inverse s xs)
inverse_on s ys [] give = tt
inverse_on s ys (x ∷ xs) give = by (image same_variable s x) refl (inverse_on s ys xs (λ z y a e. give z y (inr a) e)) where
  by : (t : Term) → image same_variable s x ≡ t → IsOn ys (inverse s xs) → IsOn ys (inverted t x (inverse s xs))
  by (terms.var y) e rest = (give x y (inl refl) e, rest)
  by (terms.app r ts) e rest = rest

module _ (q t : Term) (of_query : IsNumberedBy query q) (of_entry : IsNumberedBy entry t) where
  renamed_all : (s : Substitution Symbol Variable) → RenamesEntry (terms.variables t) s → RenamesAll s (terms.variables t)
  renamed_all s h = record {
    renames = λ x a. (let k = of_kind entry t x of_entry a in subst (λ z. (y : Variable) × (image same_variable s z ≡ terms.var y)) k.1 (h.renames k.0 (subst (IsAmong (terms.variables t)) (sym k.1) a)));
    apart = λ x z a b e. (
        let k = of_kind entry t x of_entry a in
        let l = of_kind entry t z of_entry b in
        sym k.1 ∙ ap entry (h.apart k.0 l.0 (subst (IsAmong (terms.variables t)) (sym k.1) a) (subst (IsAmong (terms.variables t)) (sym l.1) b) (ap (image same_variable s) k.1 ∙ e ∙ sym (ap (image same_variable s) l.1))) ∙ l.1);
  }

  inverse_matches : (s : Substitution Symbol Variable) → Matches same_variable t q s → RenamesEntry (terms.variables t) s → Matches same_variable q t (inverse s (terms.variables t))
  inverse_matches s m h = record {
    on = inverse_on s (terms.variables q) (terms.variables t) (λ x y a e. subst (λ u. IsAmong (terms.variables u) y) m.takes (is_substituted (image same_variable s) t y (x, a, subst (λ u. IsAmong (terms.variables u) y) (sym e) (inl refl))));
    takes =
        ap (apply same_variable (inverse s (terms.variables t))) (sym m.takes)
        ∙ substituted_twice (image same_variable s) (image same_variable (inverse s (terms.variables t))) (λ x. terms.var x) t back
        ∙ substituted_none (λ x. terms.var x) t (λ x a. refl);
  } where
    back : (x : Variable) → IsAmong (terms.variables t) x → apply same_variable (inverse s (terms.variables t)) (image same_variable s x) ≡ terms.var x
    back x a =
        let y = (renamed_all s h).renames x a in
        ap (apply same_variable (inverse s (terms.variables t))) y.1 ∙ inverse_is s (terms.variables t) x y.0 (renamed_all s h) a y.1

  -- both ways
  renames_back : (a b : Substitution Symbol Variable) → Matches same_variable q t a → Matches same_variable t q b → RenamesEntry (terms.variables t) b
  renames_back a b m n = record {
    renames = λ k i. by (image same_variable b (entry k)) refl (back (entry k) i);
    apart = λ k l i j e. same_entry k l (same_variables (entry k) (entry l) (sym (back (entry k) i) ∙ ap (apply same_variable a) e ∙ back (entry l) j));
  } where
    back : (x : Variable) → IsAmong (terms.variables t) x → apply same_variable a (image same_variable b x) ≡ terms.var x
    back x i = fixed (λ y. apply same_variable a (image same_variable b y)) t x
        (sym (substituted_twice (image same_variable b) (image same_variable a) (λ y. apply same_variable a (image same_variable b y)) t (λ y j. refl)) ∙ ap (apply same_variable a) n.takes ∙ m.takes) i

    by : {x : Variable} (u : Term) → image same_variable b x ≡ u → apply same_variable a (image same_variable b x) ≡ terms.var x → (y : Variable) × (image same_variable b x ≡ terms.var y)
    by (terms.var y) e p = (y, e)
    by {x} (terms.app r us) e p = absurd (never (sym (ap (apply same_variable a) e) ∙ p)) where
      never : terms.app r (terms.substitute_all (image same_variable a) us) ≡ terms.var x → ⊥
      never c = cc

  no_indicators : (n : ℕ) → IsAmong (indicators t) n → ⊥
  no_indicators n a = let k = of_kind entry t (ind n) of_entry (indicator_variable (terms.variables t) n a) in entry_no_ind k.0 n k.1

  term_kept : (s : Substitution Symbol Variable) → IsOn (terms.variables q) s → apply same_variable s t ≡ t
  term_kept s on = substituted_none (image same_variable s) t (λ x a.
      let k = of_kind entry t x of_entry a in
      subst (λ y. image same_variable s y ≡ terms.var y) k.1 (left_alone (terms.variables q) s (entry k.0) on (λ i. let l = of_kind query q (entry k.0) of_query i in query_no_entry l.0 k.0 l.1)))

  pub open_relates : (relation : Relation) → IsOpen relation q t ↔ Relates same_variable relation q t
  open_relates Unifiable = (λ h. h, λ h. h)
  open_relates Generalizations = (λ h. h, λ h. h)
  open_relates Instances = (
    λ h. (let on = all_weaker (IsAmong (terms.variables q ++ map ind (indicators t))) (IsAmong (terms.variables q)) (lefts h.0) on_query h.1 in (h.0, record { on = on; takes = h.2 ∙ term_kept h.0 on })),
    λ h. (h.0, all_weaker (IsAmong (terms.variables q)) (IsAmong (terms.variables q ++ map ind (indicators t))) (lefts h.0) (λ x a. among_front (terms.variables q) (map ind (indicators t)) x a) h.1.on, h.1.takes ∙ sym (term_kept h.0 h.1.on)),
  ) where
    on_query : (x : Variable) → IsAmong (terms.variables q ++ map ind (indicators t)) x → IsAmong (terms.variables q) x
    on_query x a = elim (among_parts (terms.variables q) (map ind (indicators t)) x a) as (λ _. IsAmong (terms.variables q) x) [
      | inl b ↦ b
      | inr b ↦ absurd (none (indicators t) (λ n i. no_indicators n i) b)
    ] where
      none : (ns : List ℕ) → ((n : ℕ) → IsAmong ns n → ⊥) → IsAmong (map ind ns) x → ⊥
      none [] no_one b = b
      none (n ∷ ns) no_one b = no_one n (inl refl)
  open_relates Variants = (
    λ h. ((inverse h.0 (terms.variables t), inverse_matches h.0 h.1 h.2), (h.0, h.1)),
    λ h. (h.1.0, h.1.1, renames_back h.0.0 h.1.0 h.0.1 h.1.1),
  )
