-- Heads among others, as a test by `==` and a hash tell them.
use Rattle.std.proofs.Common.{◌≡◌, ℕ, zero, suc, ◌<◌, Bool, true, false, ◌||◌, ◌&&◌, ◌==◌, List, [], ◌∷◌, ◌++◌, length, take, get_or, position, Option, None, Some, IfSome, IfNone, inl, inr, refl, sym, ◌∙◌, ap, subst, ◌+◌, arith, is_some, if◌then◌else◌}
use Rattle.std.specs.Prelude.{slice_get}
use Rattle.std.specs.List.{list_any}
use Rattle.std.proofs.lemmas.Bool.{and_parts, eqb-true, eq-eqb}
use Rattle.std.proofs.lemmas.List.{take_more}
use Rattle.std.proofs.lemmas.List.Quantifiers.{position-Some}
use Rattle.std.proofs.lemmas.Option.{slice_get-get_or}
use Rattle.indexmap.specs.IndexSet.{insert_key}
use Rattle.si_defs.specs.Substitutions.{IsAmong, AreDistinct}
use Rattle.si_defs.proofs.ListLaws.{get_among}
use Rattle.si_tree.specs.contracts.node.HeadPartialEq.TheImpl.{eq-value}
use Rattle.si_tree.specs.declared.node.Head.{Head}
use Rattle.si_tree.specs.declared.node.Head.TheVariants.{Sym, Var}

-- ---- equal heads
pub eq_tells : (h k : Head) → eq-value.it h k ≡ true → h ≡ k
eq_tells (Sym n a) (Sym m b) e =
    let both = and_parts (n == m) (a == b) e in
    λ i. Sym (eqb-true n m both.0 i) (eqb-true a b both.1 i)
eq_tells (Var n) (Var m) e = ap Var (eqb-true n m e)
eq_tells (Sym n a) (Var m) e = cc
eq_tells (Var n) (Sym m b) e = cc

eq_itself : (h : Head) → eq-value.it h h ≡ true
eq_itself (Sym n a) = (λ i. eq-eqb n n refl i && eq-eqb a a refl i)
eq_itself (Var n) = eq-eqb n n refl

pub not_equal : (h k : Head) → h ≡ k → eq-value.it h k ≡ false → ⊥
not_equal h k e f = differ (sym (eq_itself h) ∙ ap (eq-value.it h) e ∙ f) where
  differ : true ≡ false → ⊥
  differ g = cc

-- ---- heads in lists
any_from : (hs : List Head) (h : Head) → IsAmong hs h → list_any (eq-value.it h) hs ≡ true
any_from [] h a = absurd a
any_from (k ∷ hs) h (inl same) = ap (λ b. b || list_any (eq-value.it h) hs) (ap (eq-value.it h) same ∙ eq_itself h)
any_from (k ∷ hs) h (inr a) = ap (λ b. eq-value.it h k || b) (any_from hs h a) ∙ or_true (eq-value.it h k) where
  or_true : (b : Bool) → (b || true) ≡ true
  or_true true = refl
  or_true false = refl

any_told : (hs : List Head) (h : Head) → list_any (eq-value.it h) hs ≡ true → IsAmong hs h
any_told [] h e = cc
any_told (k ∷ hs) h e = by (eq-value.it h k) refl (any_told hs h) where
  by : (b : Bool) → eq-value.it h k ≡ b → (list_any (eq-value.it h) hs ≡ true → IsAmong hs h) → IsAmong (k ∷ hs) h
  by true f later = inl (sym (eq_tells h k f))
  by false f later = inr (later (sym (ap (λ b. b || list_any (eq-value.it h) hs) f) ∙ e))

-- a new one goes last
pub appended : (old new : List Head) (h : Head) → (IsAmong old h → ⊥) → new ≡ insert_key eq-value.it old h → new ≡ old ++ h ∷ []
appended old new h none e = by (list_any (eq-value.it h) old) refl where
  by : (b : Bool) → list_any (eq-value.it h) old ≡ b → new ≡ old ++ h ∷ []
  by true f = absurd (none (any_told old h f))
  by false f = e ∙ ap (λ b. if b then old else old ++ h ∷ []) f

place_some : (hs : List Head) (h : Head) (place : ℕ) → position (eq-value.it h) hs ≡ Some place → slice_get hs place ≡ Some h
place_some hs h place e =
    let found = position-Some (eq-value.it h) hs place h e in
    slice_get-get_or hs place h found.0 ∙ ap Some (sym (eq_tells h (get_or hs place h) found.1))

place_none : (hs : List Head) (h : Head) (r : Option ℕ) → r ≡ None → is_some r ≡ list_any (eq-value.it h) hs → IsAmong hs h → ⊥
place_none hs h r none e a = differ (sym (ap is_some none) ∙ e ∙ any_from hs h a) where
  differ : false ≡ true → ⊥
  differ f = cc

pub found_some : (hs : List Head) (h : Head) (r : Option ℕ) → r ≡ position (eq-value.it h) hs → IfSome r (λ place. slice_get hs place ≡ Some h)
found_some hs h None e = tt
found_some hs h (Some place) e = place_some hs h place (sym e)

pub found_none : (hs : List Head) (h : Head) (r : Option ℕ) → is_some r ≡ list_any (eq-value.it h) hs → IfNone r (IsAmong hs h → ⊥)
found_none hs h None e = place_none hs h None refl e
found_none hs h (Some place) e = tt

-- ---- of different heads, each is new after those before it
new_behind : (hs : List Head) (n : ℕ) (d : Head) → AreDistinct hs → n < length hs → IsAmong (take n hs) (get_or hs n d) → ⊥
new_behind [] n d distinct inside a = absurd (omega (arith, inside))
new_behind (k ∷ hs) zero d distinct inside a = absurd a
new_behind (k ∷ hs) (suc n) d distinct inside (inl same) =
    distinct.0 (get_among hs n k (slice_get-get_or hs n d (omega (arith, inside)) ∙ ap Some (sym same)))
new_behind (k ∷ hs) (suc n) d distinct inside (inr a) = new_behind hs n d distinct.1 (omega (arith, inside)) a

pub one_more : (hs old new : List Head) (n : ℕ) (d : Head) → AreDistinct hs → n < length hs → old ≡ take n hs → new ≡ insert_key eq-value.it old (get_or hs n d) → new ≡ take (n + 1) hs
one_more hs old new n d distinct inside was is =
    appended old new (get_or hs n d) (λ a. new_behind hs n d distinct inside (subst (λ ks. IsAmong ks (get_or hs n d)) was a)) is
    ∙ ap (λ ks. ks ++ get_or hs n d ∷ []) was
    ∙ sym (take_more hs n d inside)
