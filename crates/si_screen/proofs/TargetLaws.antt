-- A map takes each literal to one that is like it.
use Rattle.std.proofs.Common.{◌≡◌, ℕ, zero, suc, List, [], ◌∷◌, map, take, None, Some, ap, sym, subst}
use Rattle.std.specs.List.{AllByRecursion}
use Rattle.std.proofs.lemmas.Option.{same_Some}
use Rattle.si_defs.specs.Terms as terms
use Rattle.si_defs.specs.Terms.{var, app, none, more, head, substitute, substitute_all, rename, rename_all}
use Rattle.si_defs.specs.Symbols.{Symbol}
use Rattle.si_defs.specs.Substitutions.{apply, image}
use Rattle.si_defs.specs.Clauses.{Term, Terms, Literal}
use Rattle.si_defs.specs.Variables.{Variable, of_pattern, of_entry, Apart, same_variable, pattern_term, entry_term, Solution}
use Rattle.si_state.specs.Subsumption.{item_at, AreImages, TakesTo}
use Rattle.si_term.specs.Meaning.{literal_of}
use Rattle.si_term.specs.declared.clause.Literal as program
use Rattle.si_screen.specs.Likeness.{IsLike, AreLike, IsLiteralLike, HasNoTarget, HasTarget}

-- ---- terms
-- the substitution takes the term to the other
abbrev Takes : Solution → Term → Term → Type 0
Takes w t u = apply same_variable w (pattern_term t) ≡ entry_term u

no_variable : {A : Type 0} (w : Solution) (s : Symbol) (ts : Terms) (y : List ℕ) → Takes w (app s ts) (var y) → A
no_variable w s ts y h = let wrong : Some s ≡ None = ap head h in cc

abbrev arguments : Apart → terms.Terms Symbol Variable
arguments (var x) = none
arguments (app s ts) = ts

abbrev first : terms.Terms Symbol Variable → Apart → Apart
first none d = d
first (more t ts) d = t

abbrev others : terms.Terms Symbol Variable → terms.Terms Symbol Variable
others none = none
others (more t ts) = ts

mutual
  taken_like : (w : Solution) (t u : Term) → Takes w t u → IsLike t u
  taken_like w (var x) u h = tt
  taken_like w (app s ts) (var y) h = no_variable w s ts y h
  taken_like w (app s ts) (app r us) h = (same_Some s r (ap head h), all_taken_like w ts us (ap arguments h))

  all_taken_like : (w : Solution) (ts us : Terms) → substitute_all (image same_variable w) (rename_all of_pattern ts) ≡ rename_all of_entry us → AreLike ts us
  all_taken_like w none us e = tt
  all_taken_like w (more t ts) none e = tt
  all_taken_like w (more t ts) (more u us) e =
      (taken_like w t u (ap (λ l. first l (substitute (image same_variable w) (rename of_pattern t))) e), all_taken_like w ts us (ap others e))

literal_taken_like : (w : Solution) (l k : Literal) → TakesTo w l k → IsLiteralLike l k
literal_taken_like w l k takes = record { sign = takes.sign; atom = taken_like w l.atom k.atom takes.atom }

-- ---- lists of literals
none_with_number : (ks : List program.Literal) (l : program.Literal) (n : ℕ) (k : Literal) → item_at (map literal_of ks) n ≡ Some k
    → HasNoTarget ks l → IsLiteralLike (literal_of l) k → ⊥
none_with_number ks l zero k e absent like = let wrong : None ≡ Some k = e in cc
none_with_number [] l (suc n) k e absent like = let wrong : None ≡ Some k = e in cc
none_with_number (x ∷ ks) l (suc zero) k e absent like =
    let same : literal_of x ≡ k = same_Some (literal_of x) k e in absent.0 (subst (IsLiteralLike (literal_of l)) (sym same) like)
none_with_number (x ∷ ks) l (suc (suc n)) k e absent like = none_with_number ks l (suc n) k e absent.1 like

pub mapped_have_targets : (w : Solution) (ks ls : List program.Literal) (ns : List ℕ) (n : ℕ)
    → AreImages (TakesTo w) (map literal_of ks) (map literal_of ls) ns → AllByRecursion (HasTarget ks) (take n ls)
mapped_have_targets w ks ls ns zero taken = tt
mapped_have_targets w ks [] ns (suc n) taken = tt
mapped_have_targets w ks (l ∷ ls) [] (suc n) taken = absurd taken
mapped_have_targets w ks (l ∷ ls) (m ∷ ns) (suc n) taken = (
  (λ absent. none_with_number ks l m taken.0.0 taken.0.1 absent (literal_taken_like w (literal_of l) taken.0.0 taken.0.2)),
  mapped_have_targets w ks ls ns n taken.1,
)
