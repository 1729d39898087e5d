-- How far a pattern and a target have been compared, cell by cell of the pattern.
use Rattle.std.proofs.Common.{◌≡◌, ℕ, ◌+◌, ◌-◌, ◌<◌, ◌≤◌, ◌↔◌, inl, inr, Bool, true, false, if◌then◌else◌, List, [], ◌∷◌, ◌++◌, length, take, drop, get_or, suc, refl, sym, ◌∙◌, ap, subst, arith, append-nil, append_assoc, length-append, Option, Some, None}
use Rattle.std.proofs.lemmas.List.{drop-drop, get_or-drop, take-append-drop, length-drop, length-take}
use Rattle.std.proofs.Math.Seq.{drop-append_seam}
use Rattle.std.specs.Prelude.{slice_get, IsTrue}
use Rattle.std.specs.Borrow.{Bor}
use Rattle.si_defs.specs.Terms as terms
use Rattle.si_defs.proofs.TermLaws.{size_some}
use Rattle.si_flat.specs.declared.Cell.{Cell}
use Rattle.si_flat.specs.declared.Cell.TheVariants as cell
use Rattle.si_flat.specs.Cells.{Symbol, Variable, same_variable, Term, Terms, variable_cell, cells_of, cells_of_all, IsSound, AreSound, StandsFor, IsWhole, join}
use Rattle.si_flat.proofs.Subterms.{length-cells_of}
use Rattle.si_unify.specs.Symbols.{same_symbol}
use Rattle.si_unify.proofs.Meeting.{HaveHead, both_heads, have_head}
use Rattle.si_unify.proofs.Places.{first_cell}
use Rattle.si_unify.proofs.Reading.{same_term, one_term}
use Rattle.si_unify.proofs.Rows.{cells-join, sound-join, count-join, substitute-join, count-substitute, join_injective}
use Rattle.si_flat.specs.declared.Owner.{Owner}
use Rattle.si_flat.specs.declared.Owner.TheVariants.{Query, Entry}
use Rattle.si_form.specs.declared.matching.Image.{Image}
use Rattle.si_flat.specs.Flattening.{owners_variable}
use Rattle.si_form.specs.Answers.{owners_variables, AreNumbered}
use Rattle.si_form.specs.Matching.{variable_number, HasKnownAs, StepsOver, ComparesSymbols, StepsAs, StepsOnCell, AreNumberedImages, Assigns, NoMatch, IsMatchedBy, IsMatched}
use Rattle.si_form.proofs.VariableLaws.{number_of}
use Rattle.si_form.proofs.Counting.{NumberedTo, numbered_to}
use Rattle.si_form.proofs.ImageLaws.{HasImage, image_at, no_image, image_added, agrees_at, agrees_front, agrees_more}

-- ---- places in lists
pub drop_none : {X : Type 0} (xs : List X) → drop 0 xs ≡ xs
drop_none [] = refl
drop_none (x ∷ xs) = refl

head_at : {X : Type 0} (xs : List X) (i : ℕ) (c d : X) (rest : List X) → drop i xs ≡ c ∷ rest → get_or xs i d ≡ c
head_at xs i c d rest e = ap (λ k. get_or xs k d) (omega arith) ∙ sym (get_or-drop i xs 0 d) ∙ ap (λ l. get_or l 0 d) e

behind_front : {X : Type 0} (xs front rest : List X) (i : ℕ) → drop i xs ≡ front ++ rest → drop (i + length front) xs ≡ rest
behind_front xs front rest i e = sym (drop-drop (length front) i xs) ∙ ap (drop (length front)) e ∙ drop-append_seam front rest

-- ---- terms
variables-join : (ts us : Terms) → terms.variables_of_all (join ts us) ≡ terms.variables_of_all ts ++ terms.variables_of_all us
variables-join terms.none us = refl
variables-join (terms.more t ts) us =
    ap (λ l. terms.variables t ++ l) (variables-join ts us) ∙ sym (append_assoc (terms.variables t) (terms.variables_of_all ts) (terms.variables_of_all us))

pub no_number : (owner : Owner) (s a n : ℕ) → variable_number owner (cell.App s a n) ≡ None
no_number Query s a n = refl
no_number Entry s a n = refl

-- ---- what is left
-- the rows ts and rs are left to compare; a map takes q to e if and only if it takes ts to rs and
-- each variable that was met to its term
pub record LeftOf (owner : Owner) (q e : Term) (pattern target : List Cell) (images : List Image) (i j m : ℕ) (ts rs : Terms) (us : List Term) : Type 0 where
  pub pattern_rest : drop i pattern ≡ cells_of_all ts
  pub target_rest : drop j target ≡ cells_of_all rs
  pub ts_sound : AreSound ts
  pub rs_sound : AreSound rs
  pub same_count : terms.count ts ≡ terms.count rs
  pub are_images : AreNumberedImages 0 images us
  pub numbered : NumberedTo owner (length us) (terms.variables_of_all ts) m
  pub tells : (f : Variable → Term) → (terms.substitute f q ≡ e) ↔ ((terms.substitute_all f ts ≡ rs) × Assigns owner f 0 us)

abbrev pub Left : Owner → Term → Term → List Cell → List Cell → List Image → ℕ → ℕ → ℕ → Type 0
Left owner q e pattern target images i j m =
    (ts : Terms) × (rs : Terms) × (us : List Term) × LeftOf owner q e pattern target images i j m ts rs us

pub begins : (owner : Owner) (q e : Term) (pattern target : List Cell) (m : ℕ) → StandsFor pattern q → StandsFor target e → terms.firsts same_variable (terms.variables q) ≡ owners_variables owner 0 m → Left owner q e pattern target [] 0 0 m
begins owner q e pattern target m p t numbered = (
  terms.more q terms.none,
  terms.more e terms.none,
  [],
  record {
    pattern_rest = drop_none pattern ∙ p.cells_are ∙ sym (append-nil (cells_of q));
    target_rest = drop_none target ∙ t.cells_are ∙ sym (append-nil (cells_of e));
    ts_sound = (p.sound, tt);
    rs_sound = (t.sound, tt);
    same_count = refl;
    are_images = tt;
    numbered = subst (λ l. NumberedTo owner 0 l m) (sym (append-nil (terms.variables q))) (numbered_to owner m (terms.variables q) numbered);
    tells = λ f. (λ h. (ap (λ u. terms.more u terms.none) h, tt), λ h. only f h.0);
  },
)
  where
    only : (f : Variable → Term) → terms.more (terms.substitute f q) terms.none ≡ terms.more e terms.none → terms.substitute f q ≡ e
    only f h = cc

-- ---- one step
abbrev pub Goes : Owner → Term → Term → List Cell → List Cell → List Image → ℕ → ℕ → ℕ → Option ℕ → Type 0
Goes owner q e pattern target images i j m None = NoMatch q e
Goes owner q e pattern target images i j m (Some n) = Left owner q e pattern target images (i + 1) (j + n) m

module _ (owner : Owner) (q e : Term) (pattern target : List Cell) (i j m : ℕ) where
  abbrev Rest : List Image → Terms → Terms → List Term → Type 0
  Rest images ts rs us = LeftOf owner q e pattern target images i j m ts rs us

  -- the symbols at both places
  symbol_off : (old : List Image) (s : Symbol) (as' ts rs : Terms) (us : List Term) (c d : Cell) → Rest old (terms.more (terms.app s as') ts) rs us → c ≡ cell.App s.number s.arity (1 + terms.sizes as') → d ≡ get_or target j (cell.App 0 0 0) → same_symbol c d ≡ false → NoMatch q e
  symbol_off old s as' ts rs us c d h head there differs f takes = clash rs refl
    where
      row : terms.substitute_all f (terms.more (terms.app s as') ts) ≡ rs
      row = ((h.tells f).0 takes).0

      clash : (all : Terms) → rs ≡ all → ⊥
      clash terms.none is = let bad : terms.more (terms.app s (terms.substitute_all f as')) (terms.substitute_all f ts) ≡ terms.none = row ∙ is in cc
      clash (terms.more (terms.var y) others) is =
          let bad : terms.more (terms.app s (terms.substitute_all f as')) (terms.substitute_all f ts) ≡ terms.more (terms.var y) others = row ∙ is in cc
      clash (terms.more (terms.app r bs) others) is =
          let same : terms.more (terms.app s (terms.substitute_all f as')) (terms.substitute_all f ts) ≡ terms.more (terms.app r bs) others = row ∙ is in
          let symbols : s ≡ r = cc in
          let here : d ≡ cell.App r.number r.arity (1 + terms.sizes bs) =
          there ∙ head_at target j (cell.App r.number r.arity (1 + terms.sizes bs)) (cell.App 0 0 0) (cells_of_all bs ++ cells_of_all others) (h.target_rest ∙ ap cells_of_all is) in
          let bad : true ≡ false =
          sym (both_heads s r (1 + terms.sizes as') (1 + terms.sizes bs) symbols)
          ∙ ap (λ x. same_symbol x (cell.App r.number r.arity (1 + terms.sizes bs))) (sym head)
          ∙ ap (same_symbol c) (sym here)
          ∙ differs in
          cc

  heads : (s : Symbol) (as' : Terms) (c d : Cell) (u : Term) → c ≡ cell.App s.number s.arity (1 + terms.sizes as') → d ≡ first_cell u → same_symbol c d ≡ true → HaveHead (terms.app s as') u
  heads s as' c d u head here same =
      have_head (terms.app s as') u (ap (λ x. same_symbol x (first_cell u)) (sym head) ∙ ap (same_symbol c) (sym here) ∙ same)

  symbol_on : (old : List Image) (s : Symbol) (as' ts rs : Terms) (us : List Term) (c d : Cell) (n : ℕ) → Rest old (terms.more (terms.app s as') ts) rs us → c ≡ cell.App s.number s.arity (1 + terms.sizes as') → d ≡ get_or target j (cell.App 0 0 0) → same_symbol c d ≡ true → n ≡ 1 → Left owner q e pattern target old (i + 1) (j + n) m
  symbol_on old s as' ts terms.none us c d n h head there same one = absurd (omega (arith, h.same_count))
  symbol_on old s as' ts (terms.more (terms.var y) others) us c d n h head there same one =
      let both = heads s as' c d (terms.var y) head (there ∙ head_at target j (variable_cell y) (cell.App 0 0 0) (cells_of_all others) h.target_rest) same in
      let bad : terms.var y ≡ terms.app both.symbol both.right_arguments = both.right in
      cc
  symbol_on old s as' ts (terms.more (terms.app r bs) others) us c d n h head there same one =
      let here : d ≡ cell.App r.number r.arity (1 + terms.sizes bs) =
      there ∙ head_at target j (cell.App r.number r.arity (1 + terms.sizes bs)) (cell.App 0 0 0) (cells_of_all bs ++ cells_of_all others) h.target_rest in
      let both = heads s as' c d (terms.app r bs) head here same in
      let left : terms.app s as' ≡ terms.app both.symbol both.left_arguments = both.left in
      let right : terms.app r bs ≡ terms.app both.symbol both.right_arguments = both.right in
      let symbols : s ≡ r = cc in
      let counts : terms.count as' ≡ terms.count bs = h.ts_sound.0.0 ∙ ap (λ x. x.arity) symbols ∙ sym h.rs_sound.0.0 in (
        join as' ts,
        join bs others,
        us,
        record {
          pattern_rest =
              behind_front pattern (cell.App s.number s.arity (1 + terms.sizes as') ∷ []) (cells_of_all as' ++ cells_of_all ts) i h.pattern_rest ∙ sym (cells-join as' ts);
          target_rest =
              ap (λ k. drop (j + k) target) one
              ∙ behind_front target (cell.App r.number r.arity (1 + terms.sizes bs) ∷ []) (cells_of_all bs ++ cells_of_all others) j h.target_rest
              ∙ sym (cells-join bs others);
          ts_sound = sound-join as' ts h.ts_sound.0.1 h.ts_sound.1;
          rs_sound = sound-join bs others h.rs_sound.0.1 h.rs_sound.1;
          same_count = omega (arith, count-join as' ts, count-join bs others, counts, h.same_count);
          are_images = h.are_images;
          numbered = subst (λ l. NumberedTo owner (length us) l m) (sym (variables-join as' ts)) h.numbered;
          tells = λ f. (
            λ takes. let k = (h.tells f).0 takes in (substitute-join f as' ts ∙ parts f k.0, k.1),
            λ k. (h.tells f).1 (whole f symbols counts (sym (substitute-join f as' ts) ∙ k.0), k.1),
          );
        },
      )
    where
      parts : (f : Variable → Term) → terms.more (terms.app s (terms.substitute_all f as')) (terms.substitute_all f ts) ≡ terms.more (terms.app r bs) others → join (terms.substitute_all f as') (terms.substitute_all f ts) ≡ join bs others
      parts f k =
          let front : terms.substitute_all f as' ≡ bs = cc in
          let back : terms.substitute_all f ts ≡ others = cc in
          ap (λ x. join x (terms.substitute_all f ts)) front ∙ ap (join bs) back

      whole : (f : Variable → Term) → s ≡ r → terms.count as' ≡ terms.count bs → join (terms.substitute_all f as') (terms.substitute_all f ts) ≡ join bs others → terms.more (terms.app s (terms.substitute_all f as')) (terms.substitute_all f ts) ≡ terms.more (terms.app r bs) others
      whole f symbols counts k =
          let halves = join_injective (terms.substitute_all f as') (terms.substitute_all f ts) bs others (count-substitute f as' ∙ counts) k in
          ap (λ x. terms.more (terms.app x (terms.substitute_all f as')) (terms.substitute_all f ts)) symbols
          ∙ ap (λ x. terms.more (terms.app r x) (terms.substitute_all f ts)) halves.front
          ∙ ap (terms.more (terms.app r bs)) halves.back

  -- the slice that begins in the target stands for the first term that is left there
  slice_stands : (value : List Cell) (r : Term) (others : Terms) → drop j target ≡ cells_of r ++ cells_of_all others → IsSound r → value ≡ take (length value) (drop j target) → IsWhole value → StandsFor value r
  slice_stands value r others e sound place whole =
      let w : Term = whole.0 in
      let parts : cells_of w ++ drop (length value) (drop j target) ≡ cells_of r ++ cells_of_all others =
      ap (λ l. l ++ drop (length value) (drop j target)) (sym whole.1.cells_are ∙ place) ∙ take-append-drop (length value) (drop j target) ∙ e in
      subst (StandsFor value) (same_term w r (drop (length value) (drop j target)) (cells_of_all others) whole.1.sound sound parts).same whole.1

  -- ---- a variable of the pattern
  -- a variable that was met, and its image
  known_on :
      (old : List Image) (x : Variable) (k : ℕ) (ts : Terms) (r : Term) (others : Terms) (us : List Term) (value : List Cell)
      → Rest old (terms.more (terms.var x) ts) (terms.more r others) us
      → k < length us
      → x ≡ owners_variable owner k
      → NumberedTo owner (length us) (terms.variables_of_all ts) m
      → StandsFor value r
      → (image : HasImage old us k)
      → image.image.value.now ≡ value
      → LeftOf owner q e pattern target old (i + 1) (j + length value) m ts others us
  known_on old x k ts r others us value h less is numbered stands image same = record {
    pattern_rest = behind_front pattern (variable_cell x ∷ []) (cells_of_all ts) i h.pattern_rest;
    target_rest =
        ap (λ l. drop (j + length l) target) stands.cells_are ∙ behind_front target (cells_of r) (cells_of_all others) j h.target_rest;
    ts_sound = h.ts_sound.1;
    rs_sound = h.rs_sound.1;
    same_count = omega (arith, h.same_count);
    are_images = h.are_images;
    numbered = numbered;
    tells = λ f. (
      λ takes. let row = (h.tells f).0 takes in (rest f row.0, row.1),
      λ row. (h.tells f).1 (both f (ap f is ∙ agrees_at owner f 0 k k us image.term (omega arith) row.1 image.term_is ∙ term_same) row.0, row.1),
    );
  }
    where
      term_same : image.term ≡ r
      term_same = one_term value image.term r (subst (λ l. StandsFor l image.term) same image.stands) stands

      rest : (f : Variable → Term) → terms.more (f x) (terms.substitute_all f ts) ≡ terms.more r others → terms.substitute_all f ts ≡ others
      rest f row = cc

      both : (f : Variable → Term) → f x ≡ r → terms.substitute_all f ts ≡ others → terms.more (f x) (terms.substitute_all f ts) ≡ terms.more r others
      both f front back = ap (λ t. terms.more t (terms.substitute_all f ts)) front ∙ ap (terms.more r) back

  known_off :
      (old : List Image) (x : Variable) (k : ℕ) (ts : Terms) (r : Term) (others : Terms) (us : List Term) (value : List Cell)
      → Rest old (terms.more (terms.var x) ts) (terms.more r others) us
      → x ≡ owners_variable owner k
      → StandsFor value r
      → (image : HasImage old us k)
      → (image.image.value.now ≡ value → ⊥)
      → NoMatch q e
  known_off old x k ts r others us value h is stands image differs f takes =
      let row = (h.tells f).0 takes in
      let terms_same : image.term ≡ r = sym (ap f is ∙ agrees_at owner f 0 k k us image.term (omega arith) row.1 image.term_is) ∙ first row.0 in
      differs (image.stands.cells_are ∙ ap cells_of terms_same ∙ sym stands.cells_are)
    where
      first : terms.more (f x) (terms.substitute_all f ts) ≡ terms.more r others → f x ≡ r
      first row = cc

  -- a new variable
  new_on :
      (old : List Image) (x : Variable) (ts : Terms) (r : Term) (others : Terms) (us : List Term) (value : Bor (List Cell))
      → Rest old (terms.more (terms.var x) ts) (terms.more r others) us
      → x ≡ owners_variable owner (length us)
      → NumberedTo owner (suc (length us)) (terms.variables_of_all ts) m
      → StandsFor value.now r
      → LeftOf owner q e pattern target (old ++ (record { number = length us; value = value }) ∷ []) (i + 1) (j + length value.now) m ts others (us ++ r ∷ [])
  new_on old x ts r others us value h is numbered stands = record {
    pattern_rest = behind_front pattern (variable_cell x ∷ []) (cells_of_all ts) i h.pattern_rest;
    target_rest =
        ap (λ l. drop (j + length l) target) stands.cells_are ∙ behind_front target (cells_of r) (cells_of_all others) j h.target_rest;
    ts_sound = h.ts_sound.1;
    rs_sound = h.rs_sound.1;
    same_count = omega (arith, h.same_count);
    are_images = image_added 0 (length us) old us value r h.are_images (omega arith) stands;
    numbered = subst (λ n. NumberedTo owner n (terms.variables_of_all ts) m) (omega (arith, length-append us (r ∷ []))) numbered;
    tells = λ f. (
      λ takes.
          let row = (h.tells f).0 takes in
          (rest f row.0, agrees_more owner f 0 (length us) us r (omega arith) row.1 (sym (ap f is) ∙ first f row.0)),
      λ row.
          let agrees = agrees_front owner f 0 (length us) us r (omega arith) row.1 in
          (h.tells f).1 (both f (ap f is ∙ agrees.1) row.0, agrees.0),
    );
  }
    where
      rest : (f : Variable → Term) → terms.more (f x) (terms.substitute_all f ts) ≡ terms.more r others → terms.substitute_all f ts ≡ others
      rest f row = cc

      first : (f : Variable → Term) → terms.more (f x) (terms.substitute_all f ts) ≡ terms.more r others → f x ≡ r
      first f row = cc

      both : (f : Variable → Term) → f x ≡ r → terms.substitute_all f ts ≡ others → terms.more (f x) (terms.substitute_all f ts) ≡ terms.more r others
      both f front back = ap (λ t. terms.more t (terms.substitute_all f ts)) front ∙ ap (terms.more r) back

  -- ---- the answers
  known_told :
      (old new : List Image) (x : Variable) (k : ℕ) (ts : Terms) (r : Term) (others : Terms) (us : List Term) (value : Bor (List Cell)) (fits : Bool) (answer : Option ℕ)
      → Rest old (terms.more (terms.var x) ts) (terms.more r others) us
      → k < length us
      → x ≡ owners_variable owner k
      → NumberedTo owner (length us) (terms.variables_of_all ts) m
      → StandsFor value.now r
      → (image : HasImage old us k)
      → new ≡ old
      → (IsTrue fits ↔ (image.image.value.now ≡ value.now))
      → answer ≡ (if fits then Some (length value.now) else None)
      → Goes owner q e pattern target new i j m answer
  known_told old new x k ts r others us value true answer h less is numbered stands image stays fit told =
      subst (Goes owner q e pattern target new i j m) (sym told)
      (
      subst (λ l. Left owner q e pattern target l (i + 1) (j + length value.now) m) (sym stays)
      (ts, others, us, known_on old x k ts r others us value.now h less is numbered stands image (fit.0 refl))
      )
  known_told old new x k ts r others us value false answer h less is numbered stands image stays fit told =
      subst (Goes owner q e pattern target new i j m) (sym told)
      (known_off old x k ts r others us value.now h is stands image (λ same. let bad : false ≡ true = fit.1 same in cc))

  new_told :
      (old new : List Image) (x : Variable) (k : ℕ) (ts : Terms) (r : Term) (others : Terms) (us : List Term) (value : Bor (List Cell)) (fits : Bool) (answer : Option ℕ)
      → Rest old (terms.more (terms.var x) ts) (terms.more r others) us
      → k ≡ length us
      → x ≡ owners_variable owner (length us)
      → NumberedTo owner (suc (length us)) (terms.variables_of_all ts) m
      → StandsFor value.now r
      → fits ≡ true
      → new ≡ old ++ (record { number = k; value = value }) ∷ []
      → answer ≡ (if fits then Some (length value.now) else None)
      → Goes owner q e pattern target new i j m answer
  new_told old new x k ts r others us value fits answer h last is numbered stands fit grows told =
      let make : ℕ → Image = λ n. record { number = n; value = value } in
      subst (Goes owner q e pattern target new i j m) (sym (told ∙ ap (λ b. if b then Some (length value.now) else None) fit))
      (
      subst (λ l. Left owner q e pattern target l (i + 1) (j + length value.now) m) (sym (grows ∙ ap (λ n. old ++ make n ∷ []) last))
      (ts, others, us ++ r ∷ [], new_on old x ts r others us value h is numbered stands)
      )

  variable_told :
      (old new : List Image) (x : Variable) (k : ℕ) (ts rs : Terms) (us : List Term) (answer : Option ℕ)
      → Rest old (terms.more (terms.var x) ts) rs us
      → Some k ≡ variable_number owner (variable_cell x)
      → StepsOver k target j old new answer
      → Goes owner q e pattern target new i j m answer
  variable_told old new x k ts terms.none us answer h number step = absurd (omega (arith, h.same_count))
  variable_told old new x k ts (terms.more r others) us answer h number step =
      let stands : StandsFor step.value.now r = slice_stands step.value.now r others h.target_rest h.rs_sound.0 step.place step.whole in
      elim h.numbered [
        | inl met ↦
            let same : k ≡ met.0 = number_is met.0 met.2 in
            let image : HasImage old us k = image_at 0 k old us h.are_images (omega (arith, same, met.1)) in
            let known : HasKnownAs k step.value old new (Some image.image) step.fits =
            subst (λ o. HasKnownAs k step.value old new o step.fits) image.image_is step.known in
            known_told old new x k ts r others us step.value step.fits answer h (omega (arith, same, met.1)) (met.2 ∙ ap (owners_variable owner) (sym same)) met.3 stands image known.0 known.1 step.answer_is
        | inr next ↦
            let same : k ≡ length us = number_is (length us) next.0 in
            let known : HasKnownAs k step.value old new None step.fits =
            subst (λ o. HasKnownAs k step.value old new o step.fits) (ap (slice_get old) same ∙ no_image 0 old us h.are_images) step.known in
            new_told old new x k ts r others us step.value step.fits answer h same next.0 next.1 stands known.0 known.1 step.answer_is
      ]
    where
      number_is : (n : ℕ) → x ≡ owners_variable owner n → k ≡ n
      number_is n is = let both : Some k ≡ Some n = number ∙ ap (λ y. variable_number owner (variable_cell y)) is ∙ number_of owner n in cc

  number_of_left : (old : List Image) (x : Variable) (ts rs : Terms) (us : List Term) → Rest old (terms.more (terms.var x) ts) rs us → (k : ℕ) × (variable_number owner (variable_cell x) ≡ Some k)
  number_of_left old x ts rs us h =
      elim h.numbered [
        | inl met ↦ (met.0, ap (λ y. variable_number owner (variable_cell y)) met.2 ∙ number_of owner met.0)
        | inr next ↦ (length us, ap (λ y. variable_number owner (variable_cell y)) next.0 ∙ number_of owner (length us))
      ]

  pub goes :
      (old new : List Image) (c : Cell) (ts rs : Terms) (us : List Term) (answer : Option ℕ)
      → Rest old ts rs us
      → i < length pattern
      → c ≡ get_or pattern i (cell.App 0 0 0)
      → StepsOnCell owner c target j old new answer
      → Goes owner q e pattern target new i j m answer
  goes old new c terms.none rs us answer h less is steps =
      absurd (omega (arith, less, ap length h.pattern_rest, length-drop i pattern))
  goes old new c (terms.more (terms.var x) ts) rs us answer h less is steps =
      let head : c ≡ variable_cell x = is ∙ head_at pattern i (variable_cell x) (cell.App 0 0 0) (cells_of_all ts) h.pattern_rest in
      let number = number_of_left old x ts rs us h in
      variable_told old new x number.0 ts rs us answer h (sym number.1)
      (subst (λ o. StepsAs c target j old new o answer) (ap (variable_number owner) head ∙ number.1) steps)
  goes old new c (terms.more (terms.app s as') ts) rs us answer h less is steps =
      let first : Cell = cell.App s.number s.arity (1 + terms.sizes as') in
      let head : c ≡ cell.App s.number s.arity (1 + terms.sizes as') =
      is ∙ head_at pattern i (cell.App s.number s.arity (1 + terms.sizes as')) (cell.App 0 0 0) (cells_of_all as' ++ cells_of_all ts) h.pattern_rest in
      let told : (new ≡ old) × ComparesSymbols c (get_or target j (cell.App 0 0 0)) answer =
      subst (λ o. StepsAs c target j old new o answer) (ap (variable_number owner) head ∙ no_number owner s.number s.arity (1 + terms.sizes as')) steps in
      by answer head told.0 told.1
    where
      by : (o : Option ℕ) → c ≡ cell.App s.number s.arity (1 + terms.sizes as') → new ≡ old → ComparesSymbols c (get_or target j (cell.App 0 0 0)) o → Goes owner q e pattern target new i j m o
      by None head stays differs = symbol_off old s as' ts rs us c (get_or target j (cell.App 0 0 0)) h head refl differs
      by (Some n) head stays same =
          subst (λ l. Left owner q e pattern target l (i + 1) (j + n) m) (sym stays)
          (symbol_on old s as' ts rs us c (get_or target j (cell.App 0 0 0)) n h head refl same.0 same.1)

  -- there is a cell of the target for each of the pattern
  pub still_inside : (old : List Image) (ts rs : Terms) (us : List Term) → Rest old ts rs us → i < length pattern → j < length target
  still_inside old terms.none rs us h less = absurd (omega (arith, less, ap length h.pattern_rest, length-drop i pattern))
  still_inside old (terms.more t ts) terms.none us h less = absurd (omega (arith, h.same_count))
  still_inside old (terms.more t ts) (terms.more r others) us h less =
      omega (arith, ap length h.target_rest, length-drop j target, length-append (cells_of r) (cells_of_all others), length-cells_of r, size_some r)

  -- the whole pattern has been compared
  pub ends : (images : List Image) (ts rs : Terms) (us : List Term) → Rest images ts rs us → length pattern ≤ i → terms.firsts same_variable (terms.variables q) ≡ owners_variables owner 0 m → IsMatchedBy owner q e images true
  ends images (terms.more t ts) rs us h done numbered =
      absurd (omega (arith, done, ap length h.pattern_rest, length-drop i pattern, length-append (cells_of t) (cells_of_all ts), length-cells_of t, size_some t))
  ends images terms.none (terms.more r others) us h done numbered = absurd (omega (arith, h.same_count))
  ends images terms.none terms.none us h done numbered = (
    us,
    h.are_images,
    record { numbered = numbered ∙ ap (owners_variables owner 0) (sym h.numbered); takes = λ f agrees. (h.tells f).1 (refl, agrees) },
  )

-- ---- the loop over the pattern
pub record IsGoing (owner : Owner) (pattern target : List Cell) (images : List Image) (i j : ℕ) : Type 0 where
  pub within : j ≤ length target
  pub left :
      (q e : Term) (m : ℕ)
      → StandsFor pattern q
      → StandsFor target e
      → terms.firsts same_variable (terms.variables q) ≡ owners_variables owner 0 m
      → Left owner q e pattern target images i j m

pub going_at_first : (owner : Owner) (pattern target : List Cell) (images : List Image) → images ≡ [] → IsGoing owner pattern target images 0 0
going_at_first owner pattern target images e = record {
  within = omega arith;
  left = λ q f m p t numbered. subst (λ l. Left owner q f pattern target l 0 0 m) (sym e) (begins owner q f pattern target m p t numbered);
}

pub going_inside : (owner : Owner) (pattern target : List Cell) (images : List Image) (i j : ℕ) → IsGoing owner pattern target images i j → IsWhole pattern → IsWhole target → AreNumbered owner pattern → i < length pattern → j < length target
going_inside owner pattern target images i j h p t numbered less =
    let n = numbered p.0 p.1 in
    let left = h.left p.0 t.0 n.0 p.1 t.1 n.1 in
    still_inside owner p.0 t.0 pattern target i j n.0 images left.0 left.1 left.2 left.3 less

-- what a step passed over is inside
pub passed_within : (owner : Owner) (c : Cell) (target : List Cell) (j n : ℕ) (old new : List Image) → StepsOnCell owner c target j old new (Some n) → j < length target → j + n ≤ length target
passed_within owner c target j n old new steps less = by (variable_number owner c) steps
  where
    long : (value : List Cell) → value ≡ take (length value) (drop j target) → length value ≤ length target - j
    long value place = omega (arith, ap length place, length-take (length value) (drop j target), length-drop j target)

    passed : (value : List Cell) (fits : Bool) → value ≡ take (length value) (drop j target) → Some n ≡ (if fits then Some (length value) else None) → j + n ≤ length target
    passed value true place told = let same : n ≡ length value = cc in omega (arith, same, long value place, less)
    passed value false place told = cc

    by : (o : Option ℕ) → StepsAs c target j old new o (Some n) → j + n ≤ length target
    by (Some k) h = passed h.value.now h.fits h.place h.answer_is
    by None h = omega (arith, h.1.1, less)

pub going_on : (owner : Owner) (pattern target : List Cell) (old new : List Image) (i j n : ℕ) (c : Cell) → IsGoing owner pattern target old i j → i < length pattern → j < length target → c ≡ get_or pattern i (cell.App 0 0 0) → StepsOnCell owner c target j old new (Some n) → IsGoing owner pattern target new (i + 1) (j + n)
going_on owner pattern target old new i j n c h less inside is steps = record {
  within = passed_within owner c target j n old new steps inside;
  left = λ q e m p t numbered.
      let left = h.left q e m p t numbered in
      goes owner q e pattern target i j m old new c left.0 left.1 left.2 (Some n) left.3 less is steps;
}

pub going_wrong : (owner : Owner) (pattern target : List Cell) (old new : List Image) (i j : ℕ) (c : Cell) → IsGoing owner pattern target old i j → AreNumbered owner pattern → i < length pattern → c ≡ get_or pattern i (cell.App 0 0 0) → StepsOnCell owner c target j old new None → IsMatched owner pattern target new false
going_wrong owner pattern target old new i j c h numbered less is steps = λ q e p t.
    let n = numbered q p in
    let left = h.left q e n.0 p t n.1 in
    goes owner q e pattern target i j n.0 old new c left.0 left.1 left.2 None left.3 less is steps

pub going_ends : (owner : Owner) (pattern target : List Cell) (images : List Image) (i j : ℕ) → IsGoing owner pattern target images i j → AreNumbered owner pattern → length pattern ≤ i → IsMatched owner pattern target images true
going_ends owner pattern target images i j h numbered done = λ q e p t.
    let n = numbered q p in
    let left = h.left q e n.0 p t n.1 in
    ends owner q e pattern target i j n.0 images left.0 left.1 left.2 left.3 done n.1
