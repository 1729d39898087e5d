-- What pieces of sound terms are: sound, no longer than the node's, with numbers that rise.
use Rattle.std.proofs.Common.{◌≡◌, ℕ, ◌+◌, ◌≤◌, List, [], ◌∷◌, refl, ap, sym, ◌∙◌, arith}
use Rattle.std.specs.List.{AllByRecursion}
use Rattle.si_defs.specs.Terms as terms
use Rattle.si_defs.proofs.ListLaws.{all_append}
use Rattle.si_defs.proofs.TermLaws.{size_some}
use Rattle.si_flat.specs.Cells.{query, entry, ind, Term, Terms, IsSound, AreSound}
use Rattle.si_legal.specs.Bindings.{Binding}
use Rattle.si_legal.specs.Generalizations.{Sides, same_head}
use Rattle.si_legal.proofs.Splitting.{either, symbol_is}
use Rattle.si_legal.specs.Pieces.{Piece, Pieces, alike, apart, over, piece, pieces, side_pairs, with_lefts}

-- ---- sizes and numbers
pub record Fits (next size common after : ℕ) : Type 0 where
  pub grows : next ≤ after
  pub bounded : after ≤ next + size
  pub short : common ≤ size

fits_apart : (next : ℕ) (t : Term) → Fits next (terms.size t) 1 (1 + next)
fits_apart next t = record { grows = omega arith; bounded = omega (arith, size_some t); short = omega (arith, size_some t) }

abbrev PieceFits : ℕ → Term → Piece → Type 0
PieceFits next t p = Fits next (terms.size t) (terms.size p.common) p.next

fits_alike : (next : ℕ) (t : Term) → Fits next (terms.size t) (terms.size t) next
fits_alike next t = record { grows = omega arith; bounded = omega arith; short = omega arith }

mutual
  pub fits : (next : ℕ) (t u : Term) → Fits next (terms.size t) (terms.size (piece next t u).common) (piece next t u).next
  fits next (terms.var (query n)) u =
      either (PieceFits next (terms.var (query n))) (same_head (terms.var (query n)) u) (alike next (terms.var (query n))) (apart next (terms.var (query n)) u) (λ e. fits_alike next (terms.var (query n))) (λ e. fits_apart next (terms.var (query n)))
  fits next (terms.var (entry n)) u =
      either (PieceFits next (terms.var (entry n))) (same_head (terms.var (entry n)) u) (alike next (terms.var (entry n))) (apart next (terms.var (entry n)) u) (λ e. fits_alike next (terms.var (entry n))) (λ e. fits_apart next (terms.var (entry n)))
  fits next (terms.var (ind n)) u = fits_alike next (terms.var (ind n))
  fits next (terms.app f xs) (terms.var x) = fits_apart next (terms.app f xs)
  fits next (terms.app f xs) (terms.app g ys) =
      let inside = all_fit next xs ys in
      either (PieceFits next (terms.app f xs)) (same_head (terms.app f xs) (terms.app g ys)) (over f (pieces next xs ys)) (apart next (terms.app f xs) (terms.app g ys))
      (λ e. record { grows = inside.grows; bounded = omega (arith, inside.bounded); short = omega (arith, inside.short) })
      (λ e. fits_apart next (terms.app f xs))

  pub all_fit : (next : ℕ) (ts us : Terms) → Fits next (terms.sizes ts) (terms.sizes (pieces next ts us).common) (pieces next ts us).next
  all_fit next terms.none us = record { grows = omega arith; bounded = omega arith; short = omega arith }
  all_fit next (terms.more t ts) terms.none = record { grows = omega arith; bounded = omega arith; short = omega arith }
  all_fit next (terms.more t ts) (terms.more u us) =
      let one = fits next t u in
      let rest = all_fit (piece next t u).next ts us in
      record {
        grows = omega (arith, one.grows, rest.grows);
        bounded = omega (arith, one.bounded, rest.bounded);
        short = omega (arith, one.short, rest.short);
      }

-- ---- soundness
abbrev pub AreSoundSides : List Binding → Type 0
AreSoundSides bs = AllByRecursion (λ b. IsSound b.1) bs

pub record IsSoundPiece (p : Piece) : Type 0 where
  pub common : IsSound p.common
  pub node : AreSoundSides p.node
  pub new : AreSoundSides p.new

pub record AreSoundPieces (ts : Terms) (p : Pieces) : Type 0 where
  pub counts : terms.count p.common ≡ terms.count ts
  pub common : AreSound p.common
  pub node : AreSoundSides p.node
  pub new : AreSoundSides p.new

sound_apart : (next : ℕ) (t u : Term) → IsSound t → IsSound u → IsSoundPiece (apart next t u)
sound_apart next t u h k = record { common = tt; node = (h, tt); new = (k, tt) }

mutual
  pub sound_piece : (next : ℕ) (t u : Term) → IsSound t → IsSound u → IsSoundPiece (piece next t u)
  sound_piece next (terms.var (query n)) u h k =
      either IsSoundPiece (same_head (terms.var (query n)) u) (alike next (terms.var (query n))) (apart next (terms.var (query n)) u) (λ e. record { common = tt; node = tt; new = tt }) (λ e. sound_apart next (terms.var (query n)) u h k)
  sound_piece next (terms.var (entry n)) u h k =
      either IsSoundPiece (same_head (terms.var (entry n)) u) (alike next (terms.var (entry n))) (apart next (terms.var (entry n)) u) (λ e. record { common = tt; node = tt; new = tt }) (λ e. sound_apart next (terms.var (entry n)) u h k)
  sound_piece next (terms.var (ind n)) u h k = record { common = tt; node = tt; new = (k, tt) }
  sound_piece next (terms.app f xs) (terms.var x) h k = sound_apart next (terms.app f xs) (terms.var x) h k
  sound_piece next (terms.app f xs) (terms.app g ys) h k =
      either IsSoundPiece (same_head (terms.app f xs) (terms.app g ys)) (over f (pieces next xs ys)) (apart next (terms.app f xs) (terms.app g ys))
      (λ e. let inside = sound_pieces next xs ys (h.0 ∙ ap (λ r. r.arity) (symbol_is f g e) ∙ sym k.0) h.1 k.1 in record { common = (inside.counts ∙ h.0, inside.common); node = inside.node; new = inside.new })
      (λ e. sound_apart next (terms.app f xs) (terms.app g ys) h k)

  pub sound_pieces : (next : ℕ) (ts us : Terms) → terms.count ts ≡ terms.count us → AreSound ts → AreSound us → AreSoundPieces ts (pieces next ts us)
  sound_pieces next terms.none us long h k = record { counts = refl; common = tt; node = tt; new = tt }
  sound_pieces next (terms.more t ts) terms.none long h k = absurd (omega (arith, long))
  sound_pieces next (terms.more t ts) (terms.more u us) long h k =
      let one = sound_piece next t u h.0 k.0 in
      let rest = sound_pieces (piece next t u).next ts us (omega (arith, long)) h.1 k.1 in
      record {
        counts = ap (λ n. 1 + n) rest.counts;
        common = (one.common, rest.common);
        node = all_append (λ b. IsSound b.1) (piece next t u).node (pieces (piece next t u).next ts us).node one.node rest.node;
        new = all_append (λ b. IsSound b.1) (piece next t u).new (pieces (piece next t u).next ts us).new one.new rest.new;
      }

pub sound_side_pairs : (side : Sides → Term) (ss : List Sides) → AllByRecursion (λ s. IsSound (side s)) ss → AreSoundSides (side_pairs side ss)
sound_side_pairs side [] h = tt
sound_side_pairs side (s ∷ ss) h = (h.0, sound_side_pairs side ss h.1)

pub sound_with_lefts : (ss : List Sides) (cs : Terms) → AreSound cs → AreSoundSides (with_lefts ss cs)
sound_with_lefts [] cs h = tt
sound_with_lefts (s ∷ ss) terms.none h = tt
sound_with_lefts (s ∷ ss) (terms.more c cs) h = (h.0, sound_with_lefts ss cs h.1)
