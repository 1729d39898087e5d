-- The lists of the tests may be split.
use Rattle.std.proofs.Common.{◌≡◌, ℕ, List, [], ◌∷◌, ◌++◌, inl, inr, refl, ap, sym, ◌∙◌, subst, arith}
use Rattle.si_defs.specs.Terms as terms
use Rattle.si_defs.specs.Substitutions.{IsAmong}
use Rattle.si_flat.specs.declared.Cell.{Cell}
use Rattle.si_flat.specs.Cells.{Term, cells_of, IsSound, IsWhole}
use Rattle.si_flat.specs.Rows.{CellPair, left_sides}
use Rattle.si_legal.specs.Bindings.{indicator}
use Rattle.si_mscg.specs.Generalising.{MayGeneralise}

abbrev pub constant : ℕ → Term
constant n = terms.app (record { number = n; arity = 0 }) terms.none

abbrev pub a : Term
a = constant 6

abbrev pub b : Term
b = constant 8

abbrev pub c : Term
c = constant 10

abbrev pub g : Term → Term
g t = terms.app (record { number = 4; arity = 1 }) (terms.more t terms.none)

abbrev pub f : Term → Term → Term
f t u = terms.app (record { number = 2; arity = 2 }) (terms.more t (terms.more u terms.none))

no_other : (m n : ℕ) → (m ≡ n → ⊥) → IsAmong {V = ℕ} (m ∷ []) n → ⊥
no_other m n differ (inl e) = differ e
no_other m n differ (inr h) = h

pub whole_constant : (n : ℕ) → IsWhole (cells_of (constant n))
whole_constant n = (constant n, record { cells_are = refl; sound = (refl, tt) })

pub whole_f : (t u : Term) → IsSound t → IsSound u → IsWhole (cells_of (f t u))
whole_f t u h k = (f t u, record { cells_are = refl; sound = (refl, (h, (k, tt))) })

-- a list that a binding was appended to
pub pushed : (xs old new : List CellPair) (p : CellPair) → old ≡ xs → new ≡ old ++ p ∷ [] → new ≡ xs ++ p ∷ []
pushed xs old new p d e = e ∙ ap (λ l. l ++ p ∷ []) d

pub none_left : (bs : List CellPair) (n : ℕ) → bs ≡ [] → IsAmong (left_sides bs) n → ⊥
none_left bs n e m = subst (λ l. IsAmong (left_sides l) n) e m

pub two_left : (bs : List CellPair) (cells : List Cell) → bs ≡ (1, cells) ∷ [] → IsAmong (left_sides bs) 2 → ⊥
two_left bs cells e m = no_other 1 2 (λ d. omega (arith, d)) (subst (λ l. IsAmong (left_sides l) 2) e m)

pub one_fresh : (node new : List CellPair) → node ≡ (0, cells_of (f a (g b))) ∷ [] → new ≡ (0, cells_of (f c (g b))) ∷ [] → MayGeneralise 1 node new
one_fresh node new d e =
    subst (λ l. MayGeneralise 1 l new) (sym d) (subst (λ l. MayGeneralise 1 ((0, cells_of (f a (g b))) ∷ []) l) (sym e) (
      (0, f a (g b)) ∷ [],
      (0, f c (g b)) ∷ [],
      (refl, record { cells_are = refl; sound = (refl, ((refl, tt), ((refl, ((refl, tt), tt)), tt))) }, tt),
      (refl, record { cells_are = refl; sound = (refl, ((refl, tt), ((refl, ((refl, tt), tt)), tt))) }, tt),
      record {
        same_lefts = refl;
        distinct = ((λ h. h), tt);
        low = (omega arith, tt);
        ground = refl;
        opens_once = tt;
        opens_low = tt;
        opens_others = tt;
        no_bare = ((λ h. h), tt);
        room = omega arith;
      },
    ))

pub one_kept : (node new : List CellPair) → node ≡ (0, cells_of (f (indicator 1) a)) ∷ [] → new ≡ (0, cells_of (f b c)) ∷ [] → MayGeneralise 2 node new
one_kept node new d e =
    subst (λ l. MayGeneralise 2 l new) (sym d) (subst (λ l. MayGeneralise 2 ((0, cells_of (f (indicator 1) a)) ∷ []) l) (sym e) (
      (0, f (indicator 1) a) ∷ [],
      (0, f b c) ∷ [],
      (refl, record { cells_are = refl; sound = (refl, (tt, ((refl, tt), tt))) }, tt),
      (refl, record { cells_are = refl; sound = (refl, ((refl, tt), ((refl, tt), tt))) }, tt),
      record {
        same_lefts = refl;
        distinct = ((λ h. h), tt);
        low = (omega arith, tt);
        ground = refl;
        opens_once = ((λ h. h), tt);
        opens_low = (omega arith, tt);
        opens_others = (no_other 0 1 (λ e. omega (arith, e)), tt);
        no_bare = ((λ h. h), tt);
        room = omega arith;
      },
    ))

pub one_whole : (node new : List CellPair) → node ≡ (1, cells_of a) ∷ (2, cells_of b) ∷ [] → new ≡ (1, cells_of a) ∷ (2, cells_of c) ∷ [] → MayGeneralise 3 node new
one_whole node new d e =
    subst (λ l. MayGeneralise 3 l new) (sym d) (subst (λ l. MayGeneralise 3 ((1, cells_of a) ∷ (2, cells_of b) ∷ []) l) (sym e) (
      (1, a) ∷ (2, b) ∷ [],
      (1, a) ∷ (2, c) ∷ [],
      (refl, record { cells_are = refl; sound = (refl, tt) }, (refl, record { cells_are = refl; sound = (refl, tt) }, tt)),
      (refl, record { cells_are = refl; sound = (refl, tt) }, (refl, record { cells_are = refl; sound = (refl, tt) }, tt)),
      record {
        same_lefts = refl;
        distinct = (no_other 2 1 (λ e. omega (arith, e)), ((λ h. h), tt));
        low = (omega arith, (omega arith, tt));
        ground = refl;
        opens_once = tt;
        opens_low = tt;
        opens_others = tt;
        no_bare = ((λ h. h), ((λ h. h), tt));
        room = omega arith;
      },
    ))
