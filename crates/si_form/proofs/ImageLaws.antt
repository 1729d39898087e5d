-- Images and the terms that their slices stand for.
use Rattle.std.proofs.Common.{◌≡◌, ℕ, ◌+◌, ◌<◌, List, [], ◌∷◌, ◌++◌, length, suc, zero, refl, ◌∙◌, ap, arith, Some, None}
use Rattle.std.specs.Prelude.{slice_get}
use Rattle.std.specs.Borrow.{Bor}
use Rattle.si_flat.specs.declared.Cell.{Cell}
use Rattle.si_flat.specs.Cells.{Variable, Term, StandsFor}
use Rattle.si_flat.specs.declared.Owner.{Owner}
use Rattle.si_form.specs.declared.matching.Image.{Image}
use Rattle.si_flat.specs.Flattening.{owners_variable}
use Rattle.si_form.specs.Matching.{AreNumberedImages, Assigns}

-- the image with this number, and its term
pub record HasImage (images : List Image) (us : List Term) (n : ℕ) : Type 0 where
  pub image : Image
  pub term : Term
  pub image_is : slice_get images n ≡ Some image
  pub term_is : slice_get us n ≡ Some term
  pub stands : StandsFor image.value.now term

pub image_at : (k n : ℕ) (images : List Image) (us : List Term) → AreNumberedImages k images us → n < length us → HasImage images us n
image_at k n [] [] h less = absurd (omega (arith, less))
image_at k n [] (u ∷ us) h less = elim h [ ]
image_at k n (i ∷ is) [] h less = absurd (omega (arith, less))
image_at k zero (i ∷ is) (u ∷ us) h less = record { image = i; term = u; image_is = refl; term_is = refl; stands = h.1 }
image_at k (suc n) (i ∷ is) (u ∷ us) h less =
    let rest = image_at (suc k) n is us h.2 (omega (arith, less)) in
    record { image = rest.image; term = rest.term; image_is = rest.image_is; term_is = rest.term_is; stands = rest.stands }

pub no_image : (k : ℕ) (images : List Image) (us : List Term) → AreNumberedImages k images us → slice_get images (length us) ≡ None
no_image k [] [] h = refl
no_image k [] (u ∷ us) h = elim h [ ]
no_image k (i ∷ is) [] h = elim h [ ]
no_image k (i ∷ is) (u ∷ us) h = no_image (suc k) is us h.2

pub image_added : (k n : ℕ) (images : List Image) (us : List Term) (value : Bor (List Cell)) (u : Term) → AreNumberedImages k images us → n ≡ k + length us → StandsFor value.now u → AreNumberedImages k (images ++ (record { number = n; value = value }) ∷ []) (us ++ u ∷ [])
image_added k n [] [] value u h e s = (omega (arith, e), s, tt)
image_added k n [] (v ∷ us) value u h e s = elim h [ ]
image_added k n (i ∷ is) [] value u h e s = elim h [ ]
image_added k n (i ∷ is) (v ∷ us) value u h e s = (h.0, h.1, image_added (suc k) n is us value u h.2 (omega (arith, e)) s)

-- ---- agreeing
pub agrees_at : (owner : Owner) (f : Variable → Term) (k n m : ℕ) (us : List Term) (u : Term) → m ≡ k + n → Assigns owner f k us → slice_get us n ≡ Some u → f (owners_variable owner m) ≡ u
agrees_at owner f k n m [] u place h e = cc
agrees_at owner f k zero m (v ∷ us) u place h e =
    let same : v ≡ u = cc in
    ap (λ l. f (owners_variable owner l)) (omega (arith, place)) ∙ h.0 ∙ same
agrees_at owner f k (suc n) m (v ∷ us) u place h e = agrees_at owner f (suc k) n m us u (omega (arith, place)) h.1 e

pub agrees_front : (owner : Owner) (f : Variable → Term) (k m : ℕ) (us : List Term) (u : Term) → m ≡ k + length us → Assigns owner f k (us ++ u ∷ []) → Assigns owner f k us × (f (owners_variable owner m) ≡ u)
agrees_front owner f k m [] u place h = (tt, ap (λ l. f (owners_variable owner l)) (omega (arith, place)) ∙ h.0)
agrees_front owner f k m (v ∷ us) u place h =
    let rest = agrees_front owner f (suc k) m us u (omega (arith, place)) h.1 in
    ((h.0, rest.0), rest.1)

pub agrees_more : (owner : Owner) (f : Variable → Term) (k m : ℕ) (us : List Term) (u : Term) → m ≡ k + length us → Assigns owner f k us → f (owners_variable owner m) ≡ u → Assigns owner f k (us ++ u ∷ [])
agrees_more owner f k m [] u place h e = (ap (λ l. f (owners_variable owner l)) (omega (arith, place)) ∙ e, tt)
agrees_more owner f k m (v ∷ us) u place h e = (h.0, agrees_more owner f (suc k) m us u (omega (arith, place)) h.1 e)
