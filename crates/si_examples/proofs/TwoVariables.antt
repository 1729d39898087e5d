-- The canonical list of two variables.
use Rattle.std.proofs.Common.{◌≡◌, List, [], ◌∷◌, ◌++◌, codes, refl, ap, sym, ◌∙◌, subst, inl, inr}
use Rattle.std.specs.List.{AllByRecursion}
use Rattle.si_defs.specs.Bytes.{Bytes}
use Rattle.si_defs.specs.Terms as terms
use Rattle.si_defs.specs.Substitutions.{IsAmong}
use Rattle.si_defs.specs.Solutions.{AreJoined, IsLeader}
use Rattle.si_defs.specs.Variables.{Variable, of_pattern, of_entry, same_variable, Apart}
use Rattle.si_examples.specs.Unifiers.{asked, kept_variable, asked_term, kept_term, FirstVariableLeads, SecondVariableFollows, NoEmptyList}

abbrev Joined : Variable → Variable → Type 0
Joined x y = AreJoined same_variable asked_term kept_term (terms.var x) (terms.var y)

abbrev Leads : Variable → Variable → Type 0
Leads x w = IsLeader same_variable asked_term kept_term x w

abbrev pub first : List Variable → Variable
first [] = asked
first (x ∷ xs) = x

-- ---- who is joined
self : (x : Variable) → Joined x x
self x = λ s u. refl

kept_asked : Joined kept_variable asked
kept_asked = λ s u. sym u

-- no variable of a pattern is one of an entry
pub never_same : (x y : Bytes) → of_pattern x ≡ of_entry y → ⊥
never_same x y e = cc

pub apart : asked ≡ kept_variable → ⊥
apart e = never_same (codes "X") (codes "Y") e

pub no_asked : IsAmong (kept_variable ∷ []) asked → ⊥
no_asked (inl e) = apart (sym e)
no_asked (inr h) = h

-- whatever is joined with the first variable is led by it
first_leads : (x w : Variable) → Joined x asked → Leads x w → w ≡ asked
first_leads x w j l = by l.1.0 l.1.1 l.1.2 l.1.3 where
  by : (before after : List Variable) → asked ∷ kept_variable ∷ [] ≡ before ++ w ∷ after → AllByRecursion (λ y. Joined x y → ⊥) before → w ≡ asked
  by [] after e n = sym (ap first e)
  by (b ∷ before) after e n = absurd (n.0 (subst (λ v. Joined x v) (ap first e) j))

-- the one binding, where x is the second variable
followed : (x w : Variable) → IsAmong (asked ∷ kept_variable ∷ []) x → Leads x w → (w ≡ x → ⊥) → IsAmong {V = Variable × Apart} ((kept_variable, asked_term) ∷ []) (x, terms.var w)
followed x w (inl e) l n = absurd (n (first_leads x w (subst (λ v. Joined v asked) e (self asked)) l ∙ e))
followed x w (inr (inl e)) l n =
    let f = first_leads x w (subst (λ v. Joined v asked) e kept_asked) l in
    inl (λ i. (e i, terms.var (sym f i)))
followed x w (inr (inr h)) l n = absurd h

pub leads : FirstVariableLeads
leads = record {
  triangular = (λ h. h, (λ h. by h, tt), tt);
  achieves = refl;
  most_general = λ s u. (sym u, tt);
  known = ((inr (inl refl), (inl refl, tt)), tt);
  leaders = (((self asked, ([], kept_variable ∷ [], refl, tt)), tt), tt);
  followers = followed;
  folded = (tt, tt);
  ordered = (((inl refl, ((λ h. by h), tt)), (asked ∷ [], [], refl, ((λ h. no_asked h.0), tt))), tt);
} where
  by : IsAmong (asked ∷ []) kept_variable → ⊥
  by (inl e) = apart e
  by (inr h) = h

-- the second variable leads not even itself
pub follows : SecondVariableFollows
follows c = apart (sym (first_leads kept_variable kept_variable kept_asked c.leaders.0.0))

pub no_list : NoEmptyList
no_list c = apart (ap name c.achieves) where
  name : Apart → Variable
  name (terms.var x) = x
  name (terms.app s ts) = asked
