-- The canonical lists of terms.
use Rattle.std.proofs.Common.{◌≡◌, ◌+◌, List, [], ◌∷◌, ◌++◌, codes, refl, ap, sym, ◌∙◌, subst, ◌⊎◌, inl, inr, arith}
use Rattle.std.specs.List.{AllByRecursion}
use Rattle.si_defs.specs.Bytes.{Bytes}
use Rattle.si_defs.specs.Terms as terms
use Rattle.si_defs.specs.Symbols.{Symbol}
use Rattle.si_defs.specs.Substitutions.{IsAmong}
use Rattle.si_defs.specs.Solutions.{AreJoined, IsLeader, bind, in_sequence}
use Rattle.si_defs.specs.Variables.{Variable, of_pattern, of_entry, same_variable, Apart, Solution}
use Rattle.si_defs.specs.declared.SymKind.TheVariants.{Word}
use Rattle.si_defs.specs.declared.Side.TheVariants.{Function}
use Rattle.si_defs.proofs.ListLaws.{not_empty}
use Rattle.si_examples.specs.Entries.{function}
use Rattle.si_examples.specs.Unifiers.{asked, kept_variable, other, asked_term, kept_term, part, both_asked, BoundToTerm, NoListOfCycle, EqualVariables, NoTermTwice, NoPartForVariable}
use Rattle.si_examples.proofs.TwoVariables.{first, never_same, no_asked}
use Rattle.si_examples.proofs.Differ.{differ, first_byte}

-- ---- which terms differ
abbrev behind : List Variable → List Variable
behind [] = []
behind (x ∷ xs) = xs

abbrev text_of : Variable → Bytes
text_of (of_pattern x) = x
text_of (of_entry x) = x

other_kept : other ≡ kept_variable → ⊥
other_kept e = never_same (codes "Z") (codes "Y") e

asked_other : asked ≡ other → ⊥
asked_other e = differ 88 90 refl (ap (λ x. first_byte (text_of x)) e)

never_variable : (x : Variable) (s : Symbol) (ts : terms.Terms Symbol Variable) → terms.var x ≡ terms.app s ts → ⊥
never_variable x s ts e = cc

-- the arguments of g
pair_first : (s r : Symbol) (t u v w : Apart) → terms.app s (terms.more t (terms.more u terms.none)) ≡ terms.app r (terms.more v (terms.more w terms.none)) → (t ≡ v) × (u ≡ w)
pair_first s r t u v w e = (cc, cc)

-- ---- cycles
-- applied in sequence, f(t) is larger than t
grows : (s : Symbol) (bs : Solution) (t : Apart) → terms.size (in_sequence same_variable bs (terms.app s (terms.more t terms.none))) ≡ 1 + terms.size (in_sequence same_variable bs t)
grows s [] t = omega arith
grows s (b ∷ bs) t = grows s bs (bind same_variable b.0 b.1 t)

-- applied in sequence to two arguments
sequence_pair : (s : Symbol) (bs : Solution) (t u : Apart)
    → in_sequence same_variable bs (terms.app s (terms.more t (terms.more u terms.none)))
    ≡ terms.app s (terms.more (in_sequence same_variable bs t) (terms.more (in_sequence same_variable bs u) terms.none))
sequence_pair s [] t u = refl
sequence_pair s (b ∷ bs) t u = sequence_pair s bs (bind same_variable b.0 b.1 t) (bind same_variable b.0 b.1 u)

pub no_list_of_cycle : NoListOfCycle
no_list_of_cycle bs c =
    let pair : Symbol = record { kind = Word; text = codes "g"; side = Function; arity = 2 } in
    let k = pair_first _ _ _ _ _ _ (sym (sequence_pair pair bs asked_term asked_term) ∙ c.achieves ∙ sequence_pair pair bs kept_term part) in
    let e = ap terms.size (sym k.0 ∙ k.1) in
    let g = grows (record { kind = Word; text = codes "f"; side = Function; arity = 1 }) bs kept_term in
    absurd (omega arith)

-- ---- ?X and f(Y)
abbrev JoinedOne : Variable → Variable → Type 0
JoinedOne x y = AreJoined same_variable asked_term part (terms.var x) (terms.var y)

one_apart : JoinedOne kept_variable asked → ⊥
one_apart j = never_variable kept_variable _ _ (j ((asked, part) ∷ []) refl)

one_followed : (x w : Variable) → IsAmong (asked ∷ kept_variable ∷ []) x → IsLeader same_variable asked_term part x w → (w ≡ x → ⊥) → IsAmong {V = Variable × Apart} ((asked, part) ∷ []) (x, terms.var w)
one_followed x w a l n = absurd (by l.1.0 l.1.1 a l.1.2 l.1.3) where
  joined : JoinedOne x w
  joined = l.0

  by : (before after : List Variable) → IsAmong (asked ∷ kept_variable ∷ []) x → asked ∷ kept_variable ∷ [] ≡ before ++ w ∷ after → AllByRecursion (λ y. JoinedOne x y → ⊥) before → ⊥
  by [] after (inl e) h k = n (sym (ap first h) ∙ e)
  by [] after (inr (inl e)) h k = one_apart (subst (λ v. JoinedOne v asked) (sym e) (subst (λ v. JoinedOne x v) (sym (ap first h)) joined))
  by (b ∷ before) after (inl e) h k = k.0 (subst (λ v. JoinedOne x v) (ap first h) (subst (λ v. JoinedOne v asked) e (λ s u. refl)))
  by (b ∷ []) after (inr (inl e)) h k = n (sym (ap (λ vs. first (behind vs)) h) ∙ e)
  by (b ∷ d ∷ before) after (inr (inl e)) h k = not_empty before w after (ap (λ vs. behind (behind vs)) h)
  by before after (inr (inr f)) h k = f

pub bound_to_term : BoundToTerm
bound_to_term = record {
  triangular = (λ h. h, (no_asked, tt), tt);
  achieves = refl;
  most_general = λ s u. (u, tt);
  known = ((inl refl, (inr (inl refl), tt)), tt);
  leaders = ((((λ s u. refl), (asked ∷ [], [], refl, (one_apart, tt))), tt), tt);
  followers = one_followed;
  folded = ((tt, tt), tt);
  ordered = (((inl refl, (no_asked, tt)), ([], kept_variable ∷ [], refl, tt)), tt);
}

-- ---- g(?X,?Z) and g(f(Y),f(Y))
abbrev both_parts : Apart
both_parts = function (codes "g") (part ∷ part ∷ [])

abbrev Joined : Variable → Variable → Type 0
Joined x y = AreJoined same_variable both_asked both_parts (terms.var x) (terms.var y)

abbrev unifier : Solution
unifier = (asked, part) ∷ (other, part) ∷ []

other_asked : Joined other asked
other_asked = λ s u. let k = pair_first _ _ _ _ _ _ u in k.1 ∙ sym k.0

kept_alone : (x : Variable) → (x ≡ asked) ⊎ (x ≡ other) → Joined kept_variable x → ⊥
kept_alone x (inl e) j = never_variable kept_variable _ _ (subst (λ v. Joined kept_variable v) e j unifier refl)
kept_alone x (inr e) j = never_variable kept_variable _ _ (subst (λ v. Joined kept_variable v) e j unifier refl)

-- ?Z follows ?X, and no other variable follows one
followed : (x w : Variable) → IsAmong (asked ∷ other ∷ kept_variable ∷ []) x → IsLeader same_variable both_asked both_parts x w → (w ≡ x → ⊥)
    → IsAmong {V = Variable × Apart} ((other, asked_term) ∷ (asked, part) ∷ []) (x, terms.var w)
followed x w a l n = by l.1.0 l.1.1 a l.1.2 l.1.3 where
  joined : Joined x w
  joined = l.0

  by : (before after : List Variable) → IsAmong (asked ∷ other ∷ kept_variable ∷ []) x → asked ∷ other ∷ kept_variable ∷ [] ≡ before ++ w ∷ after → AllByRecursion (λ y. Joined x y → ⊥) before
      → IsAmong {V = Variable × Apart} ((other, asked_term) ∷ (asked, part) ∷ []) (x, terms.var w)
  by [] after (inl e) h k = absurd (n (sym (ap first h) ∙ e))
  by [] after (inr (inl e)) h k = let f = ap first h in inl (λ i. (e i, terms.var (f i)))
  by (b ∷ before) after (inl e) h k = absurd (k.0 (subst (λ v. Joined x v) (ap first h) (subst (λ v. Joined v asked) e (λ s u. refl))))
  by (b ∷ before) after (inr (inl e)) h k = absurd (k.0 (subst (λ v. Joined x v) (ap first h) (subst (λ v. Joined v asked) e other_asked)))
  by [] after (inr (inr (inl e))) h k = absurd (kept_alone w (inl (sym (ap first h))) (subst (λ v. Joined v w) (sym e) joined))
  by (b ∷ []) after (inr (inr (inl e))) h k = absurd (kept_alone w (inr (sym (ap (λ vs. first (behind vs)) h))) (subst (λ v. Joined v w) (sym e) joined))
  by (b ∷ d ∷ []) after (inr (inr (inl e))) h k = absurd (n (sym (ap (λ vs. first (behind (behind vs))) h) ∙ e))
  by (b ∷ d ∷ f ∷ before) after (inr (inr (inl e))) h k = absurd (not_empty before w after (ap (λ vs. behind (behind (behind vs))) h))
  by before after (inr (inr (inr f))) h k = absurd f

pub equal_variables : EqualVariables
equal_variables = record {
  triangular = (no_other, (no_other, (λ h. no_kept h, tt)), (λ h. h, (no_asked, tt), tt));
  achieves = refl;
  most_general = λ s u. let k = pair_first _ _ _ _ _ _ u in (k.1 ∙ sym k.0, (k.0, tt));
  known = ((inr (inl refl), (inl refl, tt)), ((inl refl, (inr (inr (inl refl)), tt)), tt));
  leaders = ((((λ s u. refl), ([], other ∷ kept_variable ∷ [], refl, tt)), tt), ((((λ s u. refl), (asked ∷ other ∷ [], [], refl, (kept_alone asked (inl refl), (kept_alone other (inr refl), tt)))), tt), tt));
  followers = followed;
  folded = (tt, ((tt, tt), tt));
  ordered = (
    ((inl refl, (no_other, (no_kept, tt))), (asked ∷ [], kept_variable ∷ [], refl, ((λ h. h.1.0 (inl refl)), tt))),
    (((inl refl, (no_asked, tt)), ([], other ∷ kept_variable ∷ [], refl, tt)), tt),
  );
} where
  no_other : IsAmong (asked ∷ []) other → ⊥
  no_other (inl e) = asked_other e
  no_other (inr h) = h

  no_kept : IsAmong (kept_variable ∷ []) other → ⊥
  no_kept (inl e) = other_kept (sym e)
  no_kept (inr h) = h

-- ?Z is bound to ?X
pub no_term_twice : NoTermTwice
no_term_twice c = by (c.followers other asked (inr (inl refl)) (other_asked, ([], other ∷ kept_variable ∷ [], refl, tt)) asked_other) where
  second : (p q : Variable × Apart) → p ≡ q → p.1 ≡ q.1
  second p q e = ap (λ (r : Variable × Apart). r.1) e

  by : IsAmong {V = Variable × Apart} ((asked, part) ∷ (other, part) ∷ []) (other, asked_term) → ⊥
  by (inl e) = never_variable asked _ _ (sym (second (asked, part) (other, asked_term) e))
  by (inr (inl e)) = never_variable asked _ _ (sym (second (other, part) (other, asked_term) e))
  by (inr (inr h)) = h

-- f(Y) inside h(f(Y)) is joined with ?X
pub no_part_for_variable : NoPartForVariable
no_part_for_variable c = c.folded.1.0.0.0.0 (λ s u. let k = pair_first _ _ _ _ _ _ u in sym k.0)
