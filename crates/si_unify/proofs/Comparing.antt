-- Comparing two terms argument by argument.
use Rattle.std.proofs.Common.{◌≡◌, ℕ, ◌+◌, ◌<◌, ◌≤◌, Bool, true, false, List, [], ◌∷◌, ◌++◌, length, take, drop, get_or, refl, sym, ◌∙◌, ap, subst, arith, append_assoc, length-append, Ok, Err}
use Rattle.std.proofs.Math.ListN.{drop_of_length-le}
use Rattle.std.proofs.Common.{add-zero}
use Rattle.std.proofs.lemmas.List.{drop-drop, get_or-drop, length-drop, drop-append-le}
use Rattle.std.proofs.Math.Seq.{drop-append_seam}
use Rattle.si_defs.specs.Substitutions.{Grows}
use Rattle.si_flat.proofs.Subterms.{length-cells_of, without_cells}
use Rattle.std.specs.Prelude.{IfOk, Result}
use Rattle.std.specs.Borrow.{Bor}
use Rattle.std.specs.List.{AllByRecursion}
use Rattle.si_defs.specs.Terms as terms
use Rattle.si_defs.proofs.ListLaws.{all_weaker, all_front}
use Rattle.si_defs.proofs.TermLaws.{size_some, no_arguments}
use Rattle.si_flat.specs.declared.Cell.{Cell}
use Rattle.si_flat.specs.Cells.{Variable, Term, Terms, cells_of, cells_of_all, IsSound, AreSound, StandsFor, IsWhole, join}
use Rattle.si_unify.specs.declared.spots.Spot.{Spot}
use Rattle.si_unify.specs.declared.spots.SpotPair.{SpotPair}
use Rattle.si_unify.specs.declared.spots.Question.{Question}
use Rattle.si_unify.specs.Solving.{Pairs, IsSolvedBy}
use Rattle.si_unify.specs.Spots.{text, SpotStandsFor, IsSpot, IsSubterm, at_spot, IsEnd, ComesTo, IsSoundQuestion, MakesEqual, MakesEqualUpTo, IsApart, ArePairs, IsGoingOn, HasMetSpots, HasCompared}
use Rattle.si_unify.specs.Symbols.{same_symbol}
use Rattle.si_unify.proofs.Places.{at_unique, first_cell, first_of}
use Rattle.si_unify.proofs.Binding.{stands_still, stood, solved_front, cut_stands}
use Rattle.si_unify.proofs.Pieces.{handed_on}
use Rattle.si_unify.proofs.Meeting.{goes_nowhere, have_head}
use Rattle.si_unify.proofs.Rows.{cells-join, sound-join, count-join, sizes-join, substitute-join, count-substitute, join_injective}

-- ---- meeting at the ends of two chains
pub end_of : (q : Question) (pairs : Pairs) (from to : Spot) → IsSpot q pairs from → ((t : Term) → SpotStandsFor q pairs from t → ComesTo q pairs t to) → IsEnd q pairs to
end_of q pairs from to some comes = let h = comes some.0 some.1 in record { spot_is = (h.term, h.stands); ends = h.ends }

pub met_through :
    (q : Question) (old new : Pairs) (old_keys new_keys : List SpotPair) (left right left_end right_end : Spot) (b : Bool)
    → ((t : Term) → SpotStandsFor q old left t → ComesTo q old t left_end)
    → ((t : Term) → SpotStandsFor q old right t → ComesTo q old t right_end)
    → HasMetSpots q old new old_keys new_keys left_end right_end b
    → HasMetSpots q old new old_keys new_keys left right b
met_through q old new old_keys new_keys left right left_end right_end false left_comes right_comes h =
    λ t u left_stands right_stands f solved e.
    let l = left_comes t left_stands in
    let r = right_comes u right_stands in
    h l.term r.term l.stands r.stands f solved (sym (l.same f solved) ∙ e ∙ r.same f solved)
met_through q old new old_keys new_keys left right left_end right_end true left_comes right_comes h = (
  h.0,
  λ t u left_stands right_stands.
      let l = left_comes t left_stands in
      let r = right_comes u right_stands in
      let m = h.1 l.term r.term l.stands r.stands in
      record {
        sound = λ f solved equal.
            let before : IsSolvedBy q.slots old f = solved_front q.slots old h.0.grows.0 f (subst (λ l. IsSolvedBy q.slots l f) h.0.grows.1 solved) in
            l.same f before
            ∙ m.sound f solved (subst (λ w. AllByRecursion (MakesEqualUpTo q new f (terms.size w)) new_keys) (l.same f before) equal)
            ∙ sym (r.same f before);
        complete = λ f solved equal e. m.complete f solved equal (sym (l.same f solved) ∙ e ∙ r.same f solved);
      },
)

pub ok_told : {E : Type 0} (r : Result Bool E) (b : Bool) (P : Bool → Type 0) → r ≡ Ok b → P b → IfOk r P
ok_told r b P e h = subst (λ o. IfOk o P) (sym e) h

pub err_told : {E : Type 0} (r : Result Bool E) (e : E) (P : Bool → Type 0) → r ≡ Err e → IfOk r P
err_told r e P is = subst (λ o. IfOk o P) (sym is) tt

-- ---- the rest of two terms that are being compared
pub record IsComparing (q : Question) (old pairs : Pairs) (old_keys keys : List SpotPair) (pair : SpotPair) (left right : List Cell) (i j : ℕ) : Type 0 where
  pub going : IsGoingOn q old pairs old_keys keys
  pub left_term : Term
  pub right_term : Term
  pub left_stands : SpotStandsFor q old pair.left left_term
  pub right_stands : SpotStandsFor q old pair.right right_term
  pub left_whole : StandsFor left left_term
  pub right_whole : StandsFor right right_term
  pub left_rest : Terms
  pub right_rest : Terms
  pub left_cells : drop i left ≡ cells_of_all left_rest
  pub right_cells : drop j right ≡ cells_of_all right_rest
  pub left_within : i ≤ length left
  pub right_within : j ≤ length right
  pub left_sound : AreSound left_rest
  pub right_sound : AreSound right_rest
  pub same_count : terms.count left_rest ≡ terms.count right_rest
  pub smaller : (f : Variable → Term) → terms.sizes (terms.substitute_all f left_rest) < terms.size (terms.substitute f left_term)
  pub sound :
      (f : Variable → Term)
      → IsSolvedBy q.slots pairs f
      → ((n : ℕ) → n < terms.size (terms.substitute f left_term) → AllByRecursion (MakesEqualUpTo q pairs f n) keys)
      → terms.substitute_all f left_rest ≡ terms.substitute_all f right_rest
      → terms.substitute f left_term ≡ terms.substitute f right_term
  pub complete :
      (f : Variable → Term)
      → IsSolvedBy q.slots old f
      → AllByRecursion (MakesEqual q old f) old_keys
      → terms.substitute f left_term ≡ terms.substitute f right_term
      → IsSolvedBy q.slots pairs f × AllByRecursion (MakesEqual q pairs f) keys × (terms.substitute_all f left_rest ≡ terms.substitute_all f right_rest)

drop_one : (c : Cell) (cells : List Cell) → drop 1 (c ∷ cells) ≡ cells
drop_one c cells = refl

pub comparing_starts :
    (q : Question) (pairs : Pairs) (keys : List SpotPair) (pair : SpotPair) (left right : List Cell)
    → IsSoundQuestion q pairs
    → ArePairs q pairs keys
    → (apart : IsApart q pairs pair)
    → StandsFor left (terms.app apart.symbol apart.left_arguments)
    → StandsFor right (terms.app apart.symbol apart.right_arguments)
    → IsComparing q pairs pairs keys keys pair left right 1 1
comparing_starts q pairs keys pair left right legal keys_apart apart left_whole right_whole = record {
  going = goes_nowhere q pairs keys legal keys_apart;
  left_term = terms.app apart.symbol apart.left_arguments;
  right_term = terms.app apart.symbol apart.right_arguments;
  left_stands = apart.left;
  right_stands = apart.right;
  left_whole = left_whole;
  right_whole = right_whole;
  left_rest = apart.left_arguments;
  right_rest = apart.right_arguments;
  left_cells = ap (drop 1) left_whole.cells_are;
  right_cells = ap (drop 1) right_whole.cells_are;
  left_within = omega (arith, ap length left_whole.cells_are);
  right_within = omega (arith, ap length right_whole.cells_are);
  left_sound = left_whole.sound.1;
  right_sound = right_whole.sound.1;
  same_count = left_whole.sound.0 ∙ sym right_whole.sound.0;
  smaller = λ f. omega arith;
  sound = λ f _ _ e. ap (terms.app apart.symbol) e;
  complete = λ f solved equal e. (solved, equal, cc);
}

pub comparing_ends :
    (q : Question) (old pairs : Pairs) (old_keys keys : List SpotPair) (pair : SpotPair) (left right : List Cell) (i j : ℕ)
    → IsComparing q old pairs old_keys keys pair left right i j
    → length left ≤ i
    → HasCompared q old pairs old_keys keys pair true
comparing_ends q old pairs old_keys keys pair left right i j h over =
    let left_none : h.left_rest ≡ terms.none = without_cells h.left_rest (sym h.left_cells ∙ drop_of_length-le left over) in
    let right_none : h.right_rest ≡ terms.none = no_arguments h.right_rest (sym h.same_count ∙ ap terms.count left_none) in
    let same : (f : Variable → Term) → terms.substitute_all f h.left_rest ≡ terms.substitute_all f h.right_rest =
    λ f. ap (terms.substitute_all f) (left_none ∙ sym right_none) in (
      h.going,
      λ t u left_stands right_stands f solved equal.
          let t_is : t ≡ h.left_term = at_unique _ _ t h.left_term (back_to h.left_term t pair.left h.left_stands left_stands) h.left_stands in
          let u_is : u ≡ h.right_term = at_unique _ _ u h.right_term (back_to h.right_term u pair.right h.right_stands right_stands) h.right_stands in
          ap (terms.substitute f) t_is
          ∙ h.sound f solved (subst (λ w. (n : ℕ) → n < terms.size (terms.substitute f w) → AllByRecursion (MakesEqualUpTo q pairs f n) keys) t_is equal) (same f)
          ∙ ap (terms.substitute f) (sym u_is),
      λ f solved equal here.
          let r = h.complete f solved equal (here h.left_term h.right_term h.left_stands h.right_stands) in
          (r.0, r.1),
    )
  where
    back_to : (before after : Term) (spot : Spot) → SpotStandsFor q old spot before → SpotStandsFor q pairs spot after → SpotStandsFor q old spot after
    back_to before after spot stands k = stood q old h.going.grows.0 spot before after stands (subst (λ l. SpotStandsFor q l spot after) h.going.grows.1 k)

-- ---- one step
-- what stands at the two places, and what is left after it
pub record AreNext (left_rest right_rest : Terms) : Type 0 where
  pub left : Term
  pub left_others : Terms
  pub right : Term
  pub right_others : Terms
  pub left_is : left_rest ≡ terms.more left left_others
  pub right_is : right_rest ≡ terms.more right right_others

next_of : (ts us : Terms) (cells : List Cell) → cells ≡ cells_of_all ts → 0 < length cells → terms.count ts ≡ terms.count us → AreNext ts us
next_of terms.none us cells e some n = absurd (omega (arith, ap length e))
next_of (terms.more t ts) terms.none cells e some n = absurd (omega (arith, n))
next_of (terms.more t ts) (terms.more u us) cells e some n = record {
  left = t;
  left_others = ts;
  right = u;
  right_others = us;
  left_is = refl;
  right_is = refl;
}

pub next_at :
    (q : Question) (old pairs : Pairs) (old_keys keys : List SpotPair) (pair : SpotPair) (left right : List Cell) (i j : ℕ)
    → (h : IsComparing q old pairs old_keys keys pair left right i j)
    → i < length left
    → AreNext h.left_rest h.right_rest
next_at q old pairs old_keys keys pair left right i j h less = next_of h.left_rest h.right_rest (drop i left) h.left_cells (omega (arith, length-drop i left)) h.same_count

-- the cells from a place on, where the rest of the terms begins with this one
rest_cells : (cells : List Cell) (i : ℕ) (rest others : Terms) (t : Term) → drop i cells ≡ cells_of_all rest → rest ≡ terms.more t others → drop i cells ≡ cells_of t ++ cells_of_all others
rest_cells cells i rest others t e is = e ∙ ap cells_of_all is

cell_of : (cells : List Cell) (i : ℕ) (t : Term) (back : List Cell) (d : Cell) → drop i cells ≡ cells_of t ++ back → get_or cells i d ≡ first_cell t
cell_of cells i t back d e = ap (λ k. get_or cells k d) (sym (add-zero i)) ∙ sym (get_or-drop i cells 0 d) ∙ ap (λ l. get_or l 0 d) e ∙ first_of t back d

after_cell : (cells : List Cell) (i : ℕ) (t : Term) (back : List Cell) → drop i cells ≡ cells_of t ++ back → drop (i + terms.size t) cells ≡ back
after_cell cells i t back e =
    sym (drop-drop (terms.size t) i cells)
    ∙ ap (drop (terms.size t)) e
    ∙ subst (λ n. drop n (cells_of t ++ back) ≡ back) (length-cells_of t) (drop-append_seam (cells_of t) back)

pub right_inside :
    (q : Question) (old pairs : Pairs) (old_keys keys : List SpotPair) (pair : SpotPair) (left right : List Cell) (i j : ℕ)
    → IsComparing q old pairs old_keys keys pair left right i j
    → i < length left
    → j < length right
right_inside q old pairs old_keys keys pair left right i j h less =
    let n = next_at q old pairs old_keys keys pair left right i j h less in
    let e = rest_cells right j h.right_rest n.right_others n.right h.right_cells n.right_is in
    omega (arith, ap length e, length-drop j right, length-append (cells_of n.right) (cells_of_all n.right_others), length-cells_of n.right, size_some n.right)

pub comparing_descends :
    (q : Question) (old pairs : Pairs) (old_keys keys : List SpotPair) (pair : SpotPair) (left right : List Cell) (i j : ℕ) (d : Cell)
    → IsComparing q old pairs old_keys keys pair left right i j
    → i < length left
    → same_symbol (get_or left i d) (get_or right j d) ≡ true
    → IsComparing q old pairs old_keys keys pair left right (i + 1) (j + 1)
comparing_descends q old pairs old_keys keys pair left right i j d h less common =
    let n = next_at q old pairs old_keys keys pair left right i j h less in
    let left_e = rest_cells left i h.left_rest n.left_others n.left h.left_cells n.left_is in
    let right_e = rest_cells right j h.right_rest n.right_others n.right h.right_cells n.right_is in
    let head = have_head n.left n.right (rw (cell_of left i n.left _ d left_e, cell_of right j n.right _ d right_e) at common) in
    let left_is : h.left_rest ≡ terms.more (terms.app head.symbol head.left_arguments) n.left_others = n.left_is ∙ ap (λ t. terms.more t n.left_others) head.left in
    let right_is : h.right_rest ≡ terms.more (terms.app head.symbol head.right_arguments) n.right_others = n.right_is ∙ ap (λ t. terms.more t n.right_others) head.right in
    let left_sound : AreSound (terms.more (terms.app head.symbol head.left_arguments) n.left_others) = subst AreSound left_is h.left_sound in
    let right_sound : AreSound (terms.more (terms.app head.symbol head.right_arguments) n.right_others) = subst AreSound right_is h.right_sound in
    let counts : terms.count head.left_arguments ≡ terms.count head.right_arguments = left_sound.0.0 ∙ sym right_sound.0.0 in
    let count_left = ap terms.count left_is in
    let count_right = ap terms.count right_is in
    record {
      going = h.going;
      left_term = h.left_term;
      right_term = h.right_term;
      left_stands = h.left_stands;
      right_stands = h.right_stands;
      left_whole = h.left_whole;
      right_whole = h.right_whole;
      left_rest = join head.left_arguments n.left_others;
      right_rest = join head.right_arguments n.right_others;
      left_cells =
          sym (drop-drop 1 i left) ∙ ap (drop 1) (left_e ∙ ap (λ t. cells_of t ++ cells_of_all n.left_others) head.left) ∙ sym (cells-join head.left_arguments n.left_others);
      right_cells =
          sym (drop-drop 1 j right) ∙ ap (drop 1) (right_e ∙ ap (λ t. cells_of t ++ cells_of_all n.right_others) head.right) ∙ sym (cells-join head.right_arguments n.right_others);
      left_within = omega (arith, less);
      right_within = omega (arith, right_inside q old pairs old_keys keys pair left right i j h less);
      left_sound = sound-join head.left_arguments n.left_others left_sound.0.1 left_sound.1;
      right_sound = sound-join head.right_arguments n.right_others right_sound.0.1 right_sound.1;
      same_count =
          omega (arith, counts, count-join head.left_arguments n.left_others, count-join head.right_arguments n.right_others, count_left, count_right, h.same_count);
      smaller = λ f.
          let before = ap (λ ts. terms.sizes (terms.substitute_all f ts)) left_is in
          let after = ap terms.sizes (substitute-join f head.left_arguments n.left_others) ∙ sizes-join (terms.substitute_all f head.left_arguments) (terms.substitute_all f n.left_others) in
          omega (arith, before, after, h.smaller f);
      sound = λ f solved equal e.
          let halves = join_injective
          (terms.substitute_all f head.left_arguments) (terms.substitute_all f n.left_others)
          (terms.substitute_all f head.right_arguments) (terms.substitute_all f n.right_others)
          (count-substitute f head.left_arguments ∙ counts ∙ sym (count-substitute f head.right_arguments))
          (sym (substitute-join f head.left_arguments n.left_others) ∙ e ∙ substitute-join f head.right_arguments n.right_others) in
          h.sound f solved equal
          (
          ap (terms.substitute_all f) left_is
          ∙ ap (λ ts. terms.more (terms.app head.symbol ts) (terms.substitute_all f n.left_others)) halves.front
          ∙ ap (λ ts. terms.more (terms.app head.symbol (terms.substitute_all f head.right_arguments)) ts) halves.back
          ∙ sym (ap (terms.substitute_all f) right_is)
          );
      complete = λ f solved equal e.
          let r = h.complete f solved equal e in
          let rows : terms.more (terms.app head.symbol (terms.substitute_all f head.left_arguments)) (terms.substitute_all f n.left_others)
          ≡ terms.more (terms.app head.symbol (terms.substitute_all f head.right_arguments)) (terms.substitute_all f n.right_others) =
          sym (ap (terms.substitute_all f) left_is) ∙ r.2 ∙ ap (terms.substitute_all f) right_is in
          let front : terms.substitute_all f head.left_arguments ≡ terms.substitute_all f head.right_arguments = cc in
          let back : terms.substitute_all f n.left_others ≡ terms.substitute_all f n.right_others = cc in (
            r.0,
            r.1,
            substitute-join f head.left_arguments n.left_others
                ∙ ap (λ ts. join ts (terms.substitute_all f n.left_others)) front
                ∙ ap (join (terms.substitute_all f head.right_arguments)) back
                ∙ sym (substitute-join f head.right_arguments n.right_others),
          );
    }

-- the spot so many cells further on
abbrev pub moved : Spot → ℕ → Spot
moved spot i = record { base = spot.base; at = spot.at + i }

spot_of_next : (q : Question) (pairs : Pairs) (spot : Spot) (cells : List Cell) (whole t : Term) (i : ℕ) (others : Terms) → SpotStandsFor q pairs spot whole → StandsFor cells whole → i ≤ length cells → IsSound t → drop i cells ≡ cells_of t ++ cells_of_all others → SpotStandsFor q pairs (moved spot i) t
spot_of_next q pairs spot cells whole t i others stands w within sound e = record {
  after = cells_of_all others ++ stands.after;
  from =
      sym (drop-drop i spot.at (text q pairs spot.base))
      ∙ ap (drop i) (stands.from ∙ ap (λ l. l ++ stands.after) (sym w.cells_are))
      ∙ drop-append-le i cells stands.after within
      ∙ ap (λ l. l ++ stands.after) e
      ∙ append_assoc (cells_of t) (cells_of_all others) stands.after;
  sound = sound;
}

stands_now : (q : Question) (old pairs : Pairs) (spot : Spot) (t : Term) → Grows old pairs → SpotStandsFor q old spot t → SpotStandsFor q pairs spot t
stands_now q old pairs spot t grows stands = subst (λ l. SpotStandsFor q l spot t) (sym grows.1) (stands_still q old grows.0 spot t stands)

pub left_next :
    (q : Question) (old pairs : Pairs) (old_keys keys : List SpotPair) (pair : SpotPair) (left right : List Cell) (i j : ℕ)
    → (h : IsComparing q old pairs old_keys keys pair left right i j)
    → (n : AreNext h.left_rest h.right_rest)
    → SpotStandsFor q pairs (moved pair.left i) n.left
left_next q old pairs old_keys keys pair left right i j h n =
    let sound : AreSound (terms.more n.left n.left_others) = subst AreSound n.left_is h.left_sound in
    spot_of_next q pairs pair.left left h.left_term n.left i n.left_others
    (stands_now q old pairs pair.left h.left_term h.going.grows h.left_stands) h.left_whole h.left_within sound.0
    (rest_cells left i h.left_rest n.left_others n.left h.left_cells n.left_is)

pub right_next :
    (q : Question) (old pairs : Pairs) (old_keys keys : List SpotPair) (pair : SpotPair) (left right : List Cell) (i j : ℕ)
    → (h : IsComparing q old pairs old_keys keys pair left right i j)
    → (n : AreNext h.left_rest h.right_rest)
    → SpotStandsFor q pairs (moved pair.right j) n.right
right_next q old pairs old_keys keys pair left right i j h n =
    let sound : AreSound (terms.more n.right n.right_others) = subst AreSound n.right_is h.right_sound in
    spot_of_next q pairs pair.right right h.right_term n.right j n.right_others
    (stands_now q old pairs pair.right h.right_term h.going.grows h.right_stands) h.right_whole h.right_within sound.0
    (rest_cells right j h.right_rest n.right_others n.right h.right_cells n.right_is)

-- keys and bindings that are known later say as much of those that were known before
pub equal_before : (q : Question) (old new : Pairs) (old_keys new_keys : List SpotPair) (f : Variable → Term) (n : ℕ) → Grows old new → Grows old_keys new_keys → AllByRecursion (MakesEqualUpTo q new f n) new_keys → AllByRecursion (MakesEqualUpTo q old f n) old_keys
equal_before q old new old_keys new_keys f n grows keys_grow equal =
    all_weaker (MakesEqualUpTo q new f n) (MakesEqualUpTo q old f n) old_keys
    (λ pair h t u left right few. h t u (stands_now q old new pair.left t grows left) (stands_now q old new pair.right u grows right) few)
    (all_front (MakesEqualUpTo q new f n) old_keys keys_grow.0 (subst (AllByRecursion (MakesEqualUpTo q new f n)) keys_grow.1 equal))

pub solved_before : (q : Question) (old new : Pairs) (f : Variable → Term) → Grows old new → IsSolvedBy q.slots new f → IsSolvedBy q.slots old f
solved_before q old new f grows solved = solved_front q.slots old grows.0 f (subst (λ l. IsSolvedBy q.slots l f) grows.1 solved)

pub grows_on : {X : Type 0} (xs ys zs : List X) → Grows xs ys → Grows ys zs → Grows xs zs
grows_on xs ys zs a b = (a.0 ++ b.0, b.1 ∙ ap (λ l. l ++ b.0) a.1 ∙ append_assoc xs a.0 b.0)

pub going_further : (q : Question) (old pairs new : Pairs) (old_keys keys new_keys : List SpotPair) → IsGoingOn q old pairs old_keys keys → IsGoingOn q pairs new keys new_keys → IsGoingOn q old new old_keys new_keys
going_further q old pairs new old_keys keys new_keys a b = record {
  grows = grows_on old pairs new a.grows b.grows;
  keys_grow = grows_on old_keys keys new_keys a.keys_grow b.keys_grow;
  legal = b.legal;
  keys = b.keys;
  handed_in = handed_on old pairs new q.left.now q.right.now a.handed_in b.handed_in;
}

pub comparing_goes_on :
    (q : Question) (old pairs new : Pairs) (old_keys keys new_keys : List SpotPair) (pair : SpotPair) (left right : List Cell) (i j m n : ℕ)
    → (h : IsComparing q old pairs old_keys keys pair left right i j)
    → (less : i < length left)
    → m ≡ terms.size (next_at q old pairs old_keys keys pair left right i j h less).left
    → n ≡ terms.size (next_at q old pairs old_keys keys pair left right i j h less).right
    → HasMetSpots q pairs new keys new_keys (moved pair.left i) (moved pair.right j) true
    → IsComparing q old new old_keys new_keys pair left right (i + m) (j + n)
comparing_goes_on q old pairs new old_keys keys new_keys pair left right i j m n h less left_span right_span met =
    let x = next_at q old pairs old_keys keys pair left right i j h less in
    let left_e = rest_cells left i h.left_rest x.left_others x.left h.left_cells x.left_is in
    let right_e = rest_cells right j h.right_rest x.right_others x.right h.right_cells x.right_is in
    let left_sound : AreSound (terms.more x.left x.left_others) = subst AreSound x.left_is h.left_sound in
    let right_sound : AreSound (terms.more x.right x.right_others) = subst AreSound x.right_is h.right_sound in
    let meets = met.1 x.left x.right
    (left_next q old pairs old_keys keys pair left right i j h x) (right_next q old pairs old_keys keys pair left right i j h x) in
    record {
      going = going_further q old pairs new old_keys keys new_keys h.going met.0;
      left_term = h.left_term;
      right_term = h.right_term;
      left_stands = h.left_stands;
      right_stands = h.right_stands;
      left_whole = h.left_whole;
      right_whole = h.right_whole;
      left_rest = x.left_others;
      right_rest = x.right_others;
      left_cells = ap (λ k. drop (i + k) left) left_span ∙ after_cell left i x.left (cells_of_all x.left_others) left_e;
      right_cells = ap (λ k. drop (j + k) right) right_span ∙ after_cell right j x.right (cells_of_all x.right_others) right_e;
      left_within =
          omega (arith, left_span, length-cells_of x.left, ap length left_e, length-append (cells_of x.left) (cells_of_all x.left_others), length-drop i left, h.left_within);
      right_within =
          omega (arith, right_span, length-cells_of x.right, ap length right_e, length-append (cells_of x.right) (cells_of_all x.right_others), length-drop j right, h.right_within);
      left_sound = left_sound.1;
      right_sound = right_sound.1;
      same_count = omega (arith, ap terms.count x.left_is, ap terms.count x.right_is, h.same_count);
      smaller = λ f. omega (arith, ap (λ ts. terms.sizes (terms.substitute_all f ts)) x.left_is, h.smaller f);
      sound = λ f solved equal e.
          let small : terms.size (terms.substitute f x.left) < terms.size (terms.substitute f h.left_term) =
          omega (arith, ap (λ ts. terms.sizes (terms.substitute_all f ts)) x.left_is, h.smaller f) in
          let first = meets.sound f solved (equal (terms.size (terms.substitute f x.left)) small) in
          h.sound f (solved_before q pairs new f met.0.grows solved)
          (λ k k_less. equal_before q pairs new keys new_keys f k met.0.grows met.0.keys_grow (equal k k_less))
          (
          ap (terms.substitute_all f) x.left_is
          ∙ ap (λ t. terms.more t (terms.substitute_all f x.left_others)) first
          ∙ ap (terms.more (terms.substitute f x.right)) e
          ∙ sym (ap (terms.substitute_all f) x.right_is)
          );
      complete = λ f solved equal e.
          let r = h.complete f solved equal e in
          let rows : terms.more (terms.substitute f x.left) (terms.substitute_all f x.left_others) ≡ terms.more (terms.substitute f x.right) (terms.substitute_all f x.right_others) =
          sym (ap (terms.substitute_all f) x.left_is) ∙ r.2 ∙ ap (terms.substitute_all f) x.right_is in
          let front : terms.substitute f x.left ≡ terms.substitute f x.right = cc in
          let back : terms.substitute_all f x.left_others ≡ terms.substitute_all f x.right_others = cc in
          let c = meets.complete f r.0 r.1 front in
          (c.0, c.1, back);
    }

pub comparing_fails :
    (q : Question) (old pairs new : Pairs) (old_keys keys new_keys : List SpotPair) (pair : SpotPair) (left right : List Cell) (i j : ℕ)
    → IsComparing q old pairs old_keys keys pair left right i j
    → i < length left
    → HasMetSpots q pairs new keys new_keys (moved pair.left i) (moved pair.right j) false
    → HasCompared q old new old_keys new_keys pair false
comparing_fails q old pairs new old_keys keys new_keys pair left right i j h less met f solved equal here =
    let x = next_at q old pairs old_keys keys pair left right i j h less in
    let r = h.complete f solved equal (here h.left_term h.right_term h.left_stands h.right_stands) in
    let rows : terms.more (terms.substitute f x.left) (terms.substitute_all f x.left_others) ≡ terms.more (terms.substitute f x.right) (terms.substitute_all f x.right_others) =
    sym (ap (terms.substitute_all f) x.left_is) ∙ r.2 ∙ ap (terms.substitute_all f) x.right_is in
    let front : terms.substitute f x.left ≡ terms.substitute f x.right = cc in
    met x.left x.right
    (left_next q old pairs old_keys keys pair left right i j h x) (right_next q old pairs old_keys keys pair left right i j h x)
    f r.0 front

-- what was cut out at the two places
left_cut :
    (q : Question) (old pairs : Pairs) (old_keys keys : List SpotPair) (pair : SpotPair) (left right : List Cell) (i j : ℕ) (piece : List Cell)
    → (h : IsComparing q old pairs old_keys keys pair left right i j)
    → (less : i < length left)
    → piece ≡ take (length piece) (drop i left)
    → IsWhole piece
    → StandsFor piece (next_at q old pairs old_keys keys pair left right i j h less).left
left_cut q old pairs old_keys keys pair left right i j piece h less place whole =
    let x = next_at q old pairs old_keys keys pair left right i j h less in
    let sound : AreSound (terms.more x.left x.left_others) = subst AreSound x.left_is h.left_sound in
    cut_stands left piece i x.left
    (record { after = cells_of_all x.left_others; from = rest_cells left i h.left_rest x.left_others x.left h.left_cells x.left_is; sound = sound.0 })
    place whole

right_cut :
    (q : Question) (old pairs : Pairs) (old_keys keys : List SpotPair) (pair : SpotPair) (left right : List Cell) (i j : ℕ) (piece : List Cell)
    → (h : IsComparing q old pairs old_keys keys pair left right i j)
    → (less : i < length left)
    → piece ≡ take (length piece) (drop j right)
    → IsWhole piece
    → StandsFor piece (next_at q old pairs old_keys keys pair left right i j h less).right
right_cut q old pairs old_keys keys pair left right i j piece h less place whole =
    let x = next_at q old pairs old_keys keys pair left right i j h less in
    let sound : AreSound (terms.more x.right x.right_others) = subst AreSound x.right_is h.right_sound in
    cut_stands right piece j x.right
    (record { after = cells_of_all x.right_others; from = rest_cells right j h.right_rest x.right_others x.right h.right_cells x.right_is; sound = sound.0 })
    place whole

pub left_part :
    (q : Question) (old pairs : Pairs) (old_keys keys : List SpotPair) (pair : SpotPair) (left right : List Cell) (i j : ℕ) (piece : Bor (List Cell))
    → IsComparing q old pairs old_keys keys pair left right i j
    → i < length left
    → piece.now ≡ take (length piece.now) (drop i left)
    → IsWhole piece.now
    → IsSubterm q pairs (at_spot (moved pair.left i) piece)
left_part q old pairs old_keys keys pair left right i j piece h less place whole =
    let x = next_at q old pairs old_keys keys pair left right i j h less in
    record {
      term = x.left;
      stands = left_next q old pairs old_keys keys pair left right i j h x;
      whole = left_cut q old pairs old_keys keys pair left right i j piece.now h less place whole;
    }

pub right_part :
    (q : Question) (old pairs : Pairs) (old_keys keys : List SpotPair) (pair : SpotPair) (left right : List Cell) (i j : ℕ) (piece : Bor (List Cell))
    → IsComparing q old pairs old_keys keys pair left right i j
    → i < length left
    → piece.now ≡ take (length piece.now) (drop j right)
    → IsWhole piece.now
    → IsSubterm q pairs (at_spot (moved pair.right j) piece)
right_part q old pairs old_keys keys pair left right i j piece h less place whole =
    let x = next_at q old pairs old_keys keys pair left right i j h less in
    record {
      term = x.right;
      stands = right_next q old pairs old_keys keys pair left right i j h x;
      whole = right_cut q old pairs old_keys keys pair left right i j piece.now h less place whole;
    }

-- it has as many cells as the term has signs
pub left_size :
    (q : Question) (old pairs : Pairs) (old_keys keys : List SpotPair) (pair : SpotPair) (left right : List Cell) (i j : ℕ) (piece : List Cell)
    → (h : IsComparing q old pairs old_keys keys pair left right i j)
    → (less : i < length left)
    → piece ≡ take (length piece) (drop i left)
    → IsWhole piece
    → length piece ≡ terms.size (next_at q old pairs old_keys keys pair left right i j h less).left
left_size q old pairs old_keys keys pair left right i j piece h less place whole =
    ap length (left_cut q old pairs old_keys keys pair left right i j piece h less place whole).cells_are
    ∙ length-cells_of (next_at q old pairs old_keys keys pair left right i j h less).left

pub right_size :
    (q : Question) (old pairs : Pairs) (old_keys keys : List SpotPair) (pair : SpotPair) (left right : List Cell) (i j : ℕ) (piece : List Cell)
    → (h : IsComparing q old pairs old_keys keys pair left right i j)
    → (less : i < length left)
    → piece ≡ take (length piece) (drop j right)
    → IsWhole piece
    → length piece ≡ terms.size (next_at q old pairs old_keys keys pair left right i j h less).right
right_size q old pairs old_keys keys pair left right i j piece h less place whole =
    ap length (right_cut q old pairs old_keys keys pair left right i j piece h less place whole).cells_are
    ∙ length-cells_of (next_at q old pairs old_keys keys pair left right i j h less).right

pub stood_before : (q : Question) (old pairs : Pairs) (spot : Spot) (before after : Term) → Grows old pairs → SpotStandsFor q old spot before → SpotStandsFor q pairs spot after → SpotStandsFor q old spot after
stood_before q old pairs spot before after grows stands k = stood q old grows.0 spot before after stands (subst (λ l. SpotStandsFor q l spot after) grows.1 k)

-- ---- two terms whose arguments have been compared have met
pub up_to_fewer : (q : Question) (pairs : Pairs) (keys : List SpotPair) (f : Variable → Term) (m n : ℕ) → m ≤ n → AllByRecursion (MakesEqualUpTo q pairs f n) keys → AllByRecursion (MakesEqualUpTo q pairs f m) keys
up_to_fewer q pairs keys f m n less h =
    all_weaker (MakesEqualUpTo q pairs f n) (MakesEqualUpTo q pairs f m) keys (λ k e t u left right few. e t u left right (omega (arith, few, less))) h

makes_equal : (q : Question) (pairs : Pairs) (f : Variable → Term) (pair : SpotPair) (t u : Term) → SpotStandsFor q pairs pair.left t → SpotStandsFor q pairs pair.right u → terms.substitute f t ≡ terms.substitute f u → MakesEqual q pairs f pair
makes_equal q pairs f pair t u left right e t' u' left' right' =
    ap (terms.substitute f) (at_unique _ _ t' t left' left) ∙ e ∙ ap (terms.substitute f) (at_unique _ _ u u' right right')

pub compared_met :
    (q : Question) (old new : Pairs) (old_keys new_keys : List SpotPair) (pair : SpotPair) (b : Bool)
    → old_keys ≡ []
    → HasCompared q old new old_keys new_keys pair b
    → HasMetSpots q old new old_keys new_keys pair.left pair.right b
compared_met q old new old_keys new_keys pair true none h = (
  h.0,
  λ t u left right. record {
    sound = λ f solved equal.
        h.1 t u (stands_now q old new pair.left t h.0.grows left) (stands_now q old new pair.right u h.0.grows right) f solved
        (λ n less. up_to_fewer q new new_keys f n (terms.size (terms.substitute f t)) (omega (arith, less)) equal);
    complete = λ f solved equal e. h.2 f solved equal (makes_equal q old f pair t u left right e);
  },
)
compared_met q old new old_keys new_keys pair false none h =
    λ t u left right f solved e. h f solved (subst (AllByRecursion (MakesEqual q old f)) (sym none) tt) (makes_equal q old f pair t u left right e)
