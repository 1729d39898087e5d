-- Terms that are put together from others.
use Rattle.std.proofs.Common.{◌≡◌, ℕ, ◌+◌, List, ◌∷◌, ◌++◌, length, sym, ◌∙◌, ap, arith, refl, append-nil}
use Rattle.si_defs.specs.Terms as terms
use Rattle.si_flat.specs.declared.Cell.{Cell}
use Rattle.si_flat.specs.declared.Cell.TheVariants as cell
use Rattle.si_flat.specs.Cells.{cells_of, IsWhole}
use Rattle.si_flat.proofs.Subterms.{length-cells_of}

-- a symbol with one argument
pub one_whole : (n len : ℕ) (xs all : List Cell) → IsWhole xs → len ≡ 1 + length xs → all ≡ cell.App n 1 len ∷ xs → IsWhole all
one_whole n len xs all h long e = (
  terms.app (record { number = n; arity = 1 }) (terms.more h.0 terms.none),
  record {
    cells_are =
        e ∙ ap (λ k. cell.App n 1 k ∷ xs) (omega (arith, long, ap length h.1.cells_are, length-cells_of h.0))
        ∙ ap (λ l. cell.App n 1 (1 + (terms.size h.0 + 0)) ∷ l) (h.1.cells_are ∙ sym (append-nil (cells_of h.0)));
    sound = (refl, (h.1.sound, tt));
  },
)

-- a symbol with two
pub two_whole : (n len : ℕ) (xs ys all : List Cell) → IsWhole xs → IsWhole ys → len ≡ 1 + length xs + length ys → all ≡ cell.App n 2 len ∷ (xs ++ ys) → IsWhole all
two_whole n len xs ys all h k long e = (
  terms.app (record { number = n; arity = 2 }) (terms.more h.0 (terms.more k.0 terms.none)),
  record {
    cells_are =
        e
        ∙ ap (λ m. cell.App n 2 m ∷ (xs ++ ys)) (omega (arith, long, ap length h.1.cells_are, length-cells_of h.0, ap length k.1.cells_are, length-cells_of k.0))
        ∙ ap (λ l. cell.App n 2 (1 + (terms.size h.0 + (terms.size k.0 + 0))) ∷ (l ++ ys)) h.1.cells_are
        ∙ ap (λ l. cell.App n 2 (1 + (terms.size h.0 + (terms.size k.0 + 0))) ∷ (cells_of h.0 ++ l)) (k.1.cells_are ∙ sym (append-nil (cells_of k.0)));
    sound = (refl, (h.1.sound, (k.1.sound, tt)));
  },
)
