-- The printed texts, cut into the pieces that are written.
use Rattle.std.proofs.Common.{◌≡◌, ℕ, zero, suc, ◌+◌, ◌-◌, ◌<◌, List, [], ◌∷◌, ◌++◌, length, get_or, take, drop, map, refl, sym, ap, ◌∙◌, append_assoc, append-nil, arith, take_all, length-drop}
use Rattle.std.specs.Prelude.{codes, decimal}
use Rattle.si_defs.specs.Bytes.{Bytes}
use Rattle.si_defs.specs.Terms as terms
use Rattle.si_defs.specs.Symbols.{Symbol}
use Rattle.si_defs.specs.Printing.{separated, decimals, path_text, map_text, symbol_text, term_text, more_texts}
use Rattle.si_term.specs.Terms.{term_of}
use Rattle.si_term.specs.declared.term.Term.{Term}
use Rattle.si_term.proofs.Rows.{from, from-read, positive}
use Rattle.si_reply.specs.PrintedParts.{arguments_text, numbers_behind, number_list}

-- the items of a list after the first
pub tail_is : {A : Type 0} (xs : List A) → take (length xs - 1) (drop 1 xs) ≡ drop 1 xs
tail_is xs = take_all _ _ (omega (arith, length-drop 1 xs))

-- a list of one item
pub single : (xs : List ℕ) → length xs ≡ 1 → xs ≡ get_or xs 0 0 ∷ []
single [] h = absurd (omega (arith, h))
single (x ∷ []) h = refl
single (x ∷ y ∷ xs) h = absurd (omega (arith, h))

-- ---- texts
pub separated-numbers : (mark : Bytes) (n : ℕ) (ns : List ℕ) → separated mark (decimals (n ∷ ns)) ≡ decimal n ++ numbers_behind mark ns
separated-numbers mark n [] = sym (append-nil (decimal n))
separated-numbers mark n (m ∷ ms) =
    append_assoc (decimal n) mark _
    ∙ ap (λ l. decimal n ++ (mark ++ l)) (separated-numbers mark m ms)
    ∙ ap (λ l. decimal n ++ l) (sym (append_assoc mark (decimal m) (numbers_behind mark ms)))

pub path_split : (ns : List ℕ) → 0 < length ns → path_text ns ≡ (codes ":" ++ decimal (get_or ns 0 0)) ++ numbers_behind (codes ".") (drop 1 ns)
path_split [] h = absurd (omega arith)
path_split (n ∷ ns) h = ap (λ l. codes ":" ++ l) (separated-numbers (codes ".") n ns) ∙ sym (append_assoc (codes ":") (decimal n) (numbers_behind (codes ".") ns))

pub list_split : (ns : List ℕ) → 0 < length ns → number_list ns ≡ decimal (get_or ns 0 0) ++ numbers_behind (codes ",") (drop 1 ns)
unfolding number_list
list_split [] h = absurd (omega arith)
list_split (n ∷ ns) h = separated-numbers (codes ",") n ns

pub empty_list : (ns : List ℕ) → length ns ≡ 0 → number_list ns ≡ []
unfolding number_list
empty_list [] h = refl
empty_list (n ∷ ns) h = absurd (omega (arith, h))

pub map_parts : (ns : List ℕ) → map_text ns ≡ codes "[" ++ (number_list ns ++ codes "]")
unfolding number_list
map_parts ns = append_assoc (codes "[") (separated (codes ",") (decimals ns)) (codes "]")

pub place_split : (name colon literal path : List ℕ) → name ++ colon ++ literal ++ path ≡ name ++ ((colon ++ literal) ++ path)
place_split name colon literal path = append_assoc (name ++ colon) literal path ∙ append_assoc name colon (literal ++ path) ∙ ap (λ l. name ++ l) (sym (append_assoc colon literal path))

-- four texts after each other, the first apart
pub five_apart : (a b c d e : List ℕ) → a ++ b ++ c ++ d ++ e ≡ a ++ (b ++ c ++ d ++ e)
five_apart a b c d e =
    ap (λ l. (l ++ d) ++ e) (append_assoc a b c)
    ∙ ap (λ l. l ++ e) (append_assoc a (b ++ c) d)
    ∙ append_assoc a ((b ++ c) ++ d) e

pub four_apart : (a b c d : List ℕ) → a ++ b ++ c ++ d ≡ a ++ (b ++ (c ++ d))
four_apart a b c d = append_assoc (a ++ b) c d ∙ append_assoc a b (c ++ d)

module _ {V : Type 0} (f : V → Bytes) where
  pub app_text : (s : Symbol) (ts : terms.Terms Symbol V) → term_text f (terms.app s ts) ≡ symbol_text s ++ arguments_text f ts
  app_text s terms.none = sym (append-nil (symbol_text s))
  app_text s (terms.more t ts) = five_apart (symbol_text s) (codes "(") (term_text f t) (more_texts f ts) (codes ")")

-- the arguments, the first apart from the others
module _ (f : Bytes → Bytes) where
  pub arguments_split : (ts : List Term) (t : Term) → 0 < length ts → t ≡ get_or ts 0 t
      → arguments_text f (terms.row (map term_of ts)) ≡ codes "(" ++ (term_text f (term_of t) ++ (more_texts f (terms.row (map term_of (take (length ts - 1) (drop 1 ts)))) ++ codes ")"))
  arguments_split ts t some read =
      ap (arguments_text f) (from-read ts 0 t some read)
      ∙ four_apart (codes "(") (term_text f (term_of t)) (more_texts f (terms.row (map term_of (drop 1 ts)))) (codes ")")
      ∙ ap (λ us. codes "(" ++ (term_text f (term_of t) ++ (more_texts f (terms.row (map term_of us)) ++ codes ")"))) (sym (tail_is ts))

  pub more_split : (ts : List Term) (i : ℕ) (t : Term) → i < length ts → t ≡ get_or ts i t
      → more_texts f (from ts i) ≡ codes "," ++ (term_text f (term_of t) ++ more_texts f (from ts (i + 1)))
  more_split ts i t h read = ap (more_texts f) (from-read ts i t h read) ∙ append_assoc (codes ",") (term_text f (term_of t)) (more_texts f (from ts (i + 1)))

pub sizes_tail : (ts : List Term) → 0 < length ts → terms.sizes (terms.row (map term_of (take (length ts - 1) (drop 1 ts)))) < terms.sizes (terms.row (map term_of ts))
sizes_tail [] h = absurd (omega arith)
sizes_tail (t ∷ ts) h = omega (arith, positive (term_of t), ap (λ us. terms.sizes (terms.row (map term_of us))) (tail_is (t ∷ ts)))

-- what stands after the first mark
module _ (f : Bytes → Bytes) where
  pub some_arguments : (ts : List Term) → 0 < length ts → (rest : Bytes) × (arguments_text f (terms.row (map term_of ts)) ≡ codes "(" ++ rest)
  some_arguments [] h = absurd (omega arith)
  some_arguments (t ∷ ts) h = (_, four_apart (codes "(") (term_text f (term_of t)) (more_texts f (terms.row (map term_of ts))) (codes ")"))

  pub some_more : (ts : List Term) (i : ℕ) → i < length ts → (rest : Bytes) × (more_texts f (from ts i) ≡ codes "," ++ rest)
  some_more [] i h = absurd (omega arith)
  some_more (t ∷ ts) zero h = (_, append_assoc (codes ",") (term_text f (term_of t)) (more_texts f (terms.row (map term_of ts))))
  some_more (t ∷ ts) (suc i) h = some_more ts i (omega arith)
