-- The cells of sound terms are read back as those terms.
use Rattle.std.proofs.Common.{◌≡◌, ℕ, suc, ◌+◌, List, [], ◌∷◌, ◌++◌, drop, refl, sym, ◌∙◌, ap, subst, append_assoc, arith}
use Rattle.si_defs.specs.Terms as terms
use Rattle.si_flat.specs.declared.Cell.{Cell}
use Rattle.si_flat.specs.Cells.{Symbol, query, entry, ind, Term, Terms, cells_of, cells_of_all, IsSound, AreSound, StandsFor, IsWhole}
use Rattle.si_flat.specs.Rows.{CellPair, AreWhole}
use Rattle.si_legal.specs.Bindings.{Binding, StandForBindings}
use Rattle.si_tree.specs.Decoding.{arguments_of, terms_of, first_term_of, term_of, bindings_of}

-- ---- arguments among further terms
one_more : (n : ℕ) → 1 + n ≡ suc n
one_more n = omega arith

arguments_read : (ts : Terms) (rest : List Term) → arguments_of (terms.count ts) (terms.list ts ++ rest) ≡ ts
arguments_read terms.none rest = refl
arguments_read (terms.more t ts) rest =
    ap (λ n. arguments_of n (t ∷ (terms.list ts ++ rest))) (one_more (terms.count ts))
    ∙ ap (terms.more t) (arguments_read ts rest)

arguments_dropped : (ts : Terms) (rest : List Term) → drop (terms.count ts) (terms.list ts ++ rest) ≡ rest
arguments_dropped terms.none rest = refl
arguments_dropped (terms.more t ts) rest =
    ap (λ n. drop n (t ∷ (terms.list ts ++ rest))) (one_more (terms.count ts))
    ∙ arguments_dropped ts rest

-- a symbol takes as many of the terms after it as it has arguments
taken : (s : Symbol) (ts : Terms) (n : ℕ) (rest : List Term) → terms.count ts ≡ n → terms.app s (arguments_of n (terms.list ts ++ rest)) ∷ drop n (terms.list ts ++ rest) ≡ terms.app s ts ∷ rest
taken s ts n rest e =
    ap (λ k. terms.app s (arguments_of k (terms.list ts ++ rest)) ∷ drop k (terms.list ts ++ rest)) (sym e)
    ∙ ap (λ us. terms.app s us ∷ drop (terms.count ts) (terms.list ts ++ rest)) (arguments_read ts rest)
    ∙ ap (λ us. terms.app s ts ∷ us) (arguments_dropped ts rest)

-- ---- terms
mutual
  pub terms_read : (t : Term) (rest : List Cell) → IsSound t → terms_of (cells_of t ++ rest) ≡ t ∷ terms_of rest
  terms_read (terms.var (query n)) rest sound = refl
  terms_read (terms.var (entry n)) rest sound = refl
  terms_read (terms.var (ind n)) rest sound = refl
  terms_read (terms.app s ts) rest sound =
      ap (λ us. terms.app s (arguments_of s.arity us) ∷ drop s.arity us) (rows_read ts rest sound.1)
      ∙ taken s ts s.arity (terms_of rest) sound.0

  pub rows_read : (ts : Terms) (rest : List Cell) → AreSound ts → terms_of (cells_of_all ts ++ rest) ≡ terms.list ts ++ terms_of rest
  rows_read terms.none rest sound = refl
  rows_read (terms.more t ts) rest sound =
      ap terms_of (append_assoc (cells_of t) (cells_of_all ts) rest)
      ∙ terms_read t (cells_of_all ts ++ rest) sound.0
      ∙ ap (λ us. t ∷ us) (rows_read ts rest sound.1)

-- cells without more after them
no_more : (xs : List Cell) → xs ≡ xs ++ []
no_more [] = refl
no_more (x ∷ xs) = ap (λ ys. x ∷ ys) (no_more xs)

pub term_read : (cells : List Cell) (t : Term) → StandsFor cells t → term_of cells ≡ t
term_read cells t stands =
    ap term_of (stands.cells_are ∙ no_more (cells_of t))
    ∙ ap first_term_of (terms_read t [] stands.sound)

-- ---- bindings
pub bindings_read : (cells : List CellPair) (bs : List Binding) → StandForBindings cells bs → bindings_of cells ≡ bs
bindings_read [] [] stand = refl
bindings_read [] (b ∷ bs) stand = absurd stand
bindings_read (c ∷ cells) [] stand = absurd stand
bindings_read (c ∷ cells) (b ∷ bs) stand =
    let left = stand.0 in
    let right = term_read c.1 b.1 stand.1 in
    let rest = bindings_read cells bs stand.2 in
    λ i. (left i, right i) ∷ rest i

pub whole_read : (cells : List CellPair) → AreWhole cells → StandForBindings cells (bindings_of cells)
whole_read [] whole = tt
whole_read (c ∷ cells) whole =
    (refl, read c.1 whole.0, whole_read cells whole.1) where
      read : (right : List Cell) → IsWhole right → StandsFor right (term_of right)
      read right w = subst (λ t. StandsFor right t) (sym (term_read right w.0 w.1)) w.1

pub stand_whole : (cs : List CellPair) (bs : List Binding) → StandForBindings cs bs → AreWhole cs
stand_whole [] [] h = tt
stand_whole [] (b ∷ bs) h = absurd h
stand_whole (c ∷ cs) [] h = absurd h
stand_whole (c ∷ cs) (b ∷ bs) h = ((b.1, h.1), stand_whole cs bs h.2)
