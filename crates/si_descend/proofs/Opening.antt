-- The indicators that a node opens are fresh where its bindings are made to fit.
use Rattle.std.proofs.Common.{◌≡◌, ◌⊎◌, inl, inr, ℕ, List, [], ◌∷◌, ◌++◌, Option, refl, ap, sym, ◌∙◌, subst}
use Rattle.std.specs.List.{AllByRecursion}
use Rattle.si_defs.specs.Terms as terms
use Rattle.si_defs.specs.Substitutions.{Substitution, image, apply, IsAmong, AreDistinct}
use Rattle.si_defs.proofs.ListLaws.{all_from, among_front, among_back, among_parts}
use Rattle.si_flat.specs.declared.Cell.{Cell}
use Rattle.si_flat.specs.declared.Cell.TheVariants as cell
use Rattle.si_flat.specs.Cells.{Symbol, Variable, query, ind, same_variable, Term, StandsFor}
use Rattle.si_flat.specs.Flattened.{IsNumberedBy}
use Rattle.si_flat.specs.Rows.{CellPair, left_sides, row_of}
use Rattle.si_flat.proofs.RowLaws.{distinct_parts}
use Rattle.si_unify.specs.declared.slots.Slots.{Slots}
use Rattle.si_unify.specs.Solving.{Pairs, IsSolution}
use Rattle.si_legal.specs.Bindings.{Binding, indicator, indicators, right_indicators, StandForBindings}
use Rattle.si_legal.specs.Trees.{Node, Tree, HasNode, Path, IsPath, opened}
use Rattle.si_legal.specs.Legal.{IsLegalNode}
use Rattle.si_legal.specs.Descents.{SolvesBindings, SolvesPath}
use Rattle.si_changes.proofs.Frames.{HasLegalNodes, legal_nodes}
use Rattle.si_changes.proofs.HeadLaws.{indicator_variable}
use Rattle.si_changes.proofs.ComposeLaws.{same_substituted, indicator_in}
use Rattle.si_tree.specs.Numbers.{indicators_in}
use Rattle.si_tree.proofs.NumberLaws.{indicators_of}
use Rattle.si_fit.specs.Fresh.{StandOnce, IsUntold, AreFresh}
use Rattle.si_fit.proofs.FreshLaws.{elsewhere, still_frozen}
use Rattle.si_descend.specs.declared.search.Search.{Search}
use Rattle.si_descend.specs.Descending.{SolvesFrom}
use Rattle.si_descend.specs.Searching.{IsReady, HasComeTo}
use Rattle.si_descend.proofs.Along.{left_opened, right_new}
use Rattle.si_descend.proofs.Openness.{of_kind}

-- ---- a map changed at an indicator that a path doesn't open
module _ (n : ℕ) (t : Term) (s : Substitution Symbol Variable) where
  kept : (u : Term) → (IsAmong (indicators u) n → ⊥) → apply same_variable ((ind n, t) ∷ s) u ≡ apply same_variable s u
  kept u lacks =
      same_substituted (image same_variable ((ind n, t) ∷ s)) (image same_variable s) u
      (λ x a. elsewhere n t s x (λ e. lacks (indicator_in (terms.variables u) n (subst (IsAmong (terms.variables u)) e a))))

  bindings_still : (bs : List Binding) → (IsAmong (left_sides bs) n → ⊥) → (IsAmong (right_indicators bs) n → ⊥) → SolvesBindings s bs → SolvesBindings ((ind n, t) ∷ s) bs
  bindings_still [] left right h = tt
  bindings_still (b ∷ bs) left right h = (
    kept (indicator b.0) (λ a. elim a [ inl e ↦ left (inl e) | inr k ↦ k ])
        ∙ h.0
        ∙ sym (kept b.1 (λ a. right (among_front (indicators b.1) (right_indicators bs) n a))),
    bindings_still bs (λ a. left (inr a)) (λ a. right (among_back (indicators b.1) (right_indicators bs) n a)) h.1,
  )

  module _ (tree : Tree Term) (legal : HasLegalNodes tree) where
    path_still : (from : Option ℕ) (p : Path) → IsPath tree from p → (IsAmong (opened p) n → ⊥) → SolvesPath s p → SolvesPath ((ind n, t) ∷ s) p
    path_still from [] reached new h = tt
    path_still from (step ∷ above) reached new h = (
      bindings_still step.1.bindings
          (λ a. new (among_front (opened above) (right_indicators step.1.bindings) n (left_opened tree legal step above reached.1 reached.2 n a)))
          (λ a. new (among_back (opened above) (right_indicators step.1.bindings) n a)) h.0,
      path_still step.1.parent above reached.2 (λ a. new (among_front (opened above) (right_indicators step.1.bindings) n a)) h.1,
    )

    zero_opened : (p : Path) → IsAmong (opened p) 0
    zero_opened [] = inl refl
    zero_opened (step ∷ above) = among_front (opened above) (right_indicators step.1.bindings) 0 (zero_opened above)

    no_indicator : (q : Term) → IsNumberedBy query q → IsAmong (indicators q) n → ⊥
    no_indicator q numbered a = by (of_kind query q (ind n) numbered (indicator_variable (terms.variables q) n a)) where
      by : (m : ℕ) × (query m ≡ ind n) → ⊥
      by (m, e) = cc

    solves_still : (slots : Slots) (q : Term) → IsNumberedBy query q → (from : Option ℕ) (p : Path) → IsPath tree from p → (IsAmong (opened p) n → ⊥) → SolvesFrom slots q p s → SolvesFrom slots q p ((ind n, t) ∷ s)
    solves_still slots q numbered from p reached new h = record {
      frozen = still_frozen n t s slots h.frozen;
      zero =
          kept (indicator 0) (λ a. elim a [ inl e ↦ new (subst (IsAmong (opened p)) e (zero_opened p)) | inr k ↦ k ])
          ∙ h.zero
          ∙ sym (kept q (no_indicator q numbered));
      bindings = path_still from p reached new h.bindings;
    }

-- ---- cells and their indicators
cell_among : (cells : List Cell) (n : ℕ) → IsAmong cells (cell.Ind n) → IsAmong (indicators_in cells) n
cell_among (cell.App s k m ∷ cells) n (inl e) = let bad : cell.App s k m ≡ cell.Ind n = e in cc
cell_among (cell.Query m ∷ cells) n (inl e) = let bad : cell.Query m ≡ cell.Ind n = e in cc
cell_among (cell.Entry m ∷ cells) n (inl e) = let bad : cell.Entry m ≡ cell.Ind n = e in cc
cell_among (cell.Ind m ∷ cells) n (inl e) = inl (number e) where
  number : cell.Ind m ≡ cell.Ind n → m ≡ n
  number e = cc
cell_among (cell.App s k m ∷ cells) n (inr a) = cell_among cells n a
cell_among (cell.Query m ∷ cells) n (inr a) = cell_among cells n a
cell_among (cell.Entry m ∷ cells) n (inr a) = cell_among cells n a
cell_among (cell.Ind m ∷ cells) n (inr a) = inr (cell_among cells n a)
cell_among [] n a = absurd a

once_of : (cells : List Cell) → AreDistinct (indicators_in cells) → StandOnce cells
once_of [] h = tt
once_of (cell.App s k m ∷ cells) h = (λ n e a. (let bad : cell.App s k m ≡ cell.Ind n = e in cc), once_of cells h)
once_of (cell.Query m ∷ cells) h = (λ n e a. (let bad : cell.Query m ≡ cell.Ind n = e in cc), once_of cells h)
once_of (cell.Entry m ∷ cells) h = (λ n e a. (let bad : cell.Entry m ≡ cell.Ind n = e in cc), once_of cells h)
once_of (cell.Ind m ∷ cells) h = (λ n e a. h.0 (cell_among cells m a), once_of cells h.1)

once_append : (xs ys : List Cell) → StandOnce xs → StandOnce ys → ((n : ℕ) → IsAmong xs (cell.Ind n) → IsAmong ys (cell.Ind n) → ⊥) → StandOnce (xs ++ ys)
once_append [] ys p q apart = q
once_append (x ∷ xs) ys p q apart = (
  λ n e a. elim (among_parts xs ys x a) as (λ _. ⊥) [
    | inl b ↦ p.0 n e b
    | inr b ↦ apart n (inl e) (subst (IsAmong ys) e b)
  ],
  once_append xs ys p.1 q (λ n a b. apart n (inr a) b),
)

term_among : (cells : List Cell) (t : Term) (n : ℕ) → StandsFor cells t → IsAmong cells (cell.Ind n) → IsAmong (indicators t) n
term_among cells t n h a = subst (λ l. IsAmong l n) (ap indicators_in h.cells_are ∙ indicators_of t) (cell_among cells n a)

-- ---- bindings in cells
row_among : (rows : List CellPair) (bs : List Binding) (n : ℕ) → StandForBindings rows bs → IsAmong (row_of rows) (cell.Ind n) → IsAmong (left_sides bs) n ⊎ IsAmong (right_indicators bs) n
row_among [] bs n h a = absurd a
row_among (r ∷ rows) [] n h a = absurd h
row_among (r ∷ rows) (b ∷ bs) n h (inl e) = inl (inl (sym h.0 ∙ number e)) where
  number : cell.Ind r.0 ≡ cell.Ind n → r.0 ≡ n
  number e = cc
row_among (r ∷ rows) (b ∷ bs) n h (inr a) =
    elim (among_parts r.1 (row_of rows) (cell.Ind n) a) as (λ _. IsAmong (left_sides (b ∷ bs)) n ⊎ IsAmong (right_indicators (b ∷ bs)) n) [
      | inl k ↦ inr (among_front (indicators b.1) (right_indicators bs) n (term_among r.1 b.1 n h.1 k))
      | inr k ↦
          elim (row_among rows bs n h.2 k) as (λ _. IsAmong (left_sides (b ∷ bs)) n ⊎ IsAmong (right_indicators (b ∷ bs)) n) [
            | inl l ↦ inl (inr l)
            | inr l ↦ inr (among_back (indicators b.1) (right_indicators bs) n l)
          ]
    ]

row_once : (rows : List CellPair) (bs : List Binding) → StandForBindings rows bs → AreDistinct (left_sides bs) → AreDistinct (right_indicators bs) → ((n : ℕ) → IsAmong (left_sides bs) n → IsAmong (right_indicators bs) n → ⊥) → StandOnce (row_of rows)
row_once [] bs h lefts rights apart = tt
row_once (r ∷ rows) [] h lefts rights apart = absurd h
row_once (r ∷ rows) (b ∷ bs) h lefts rights apart = (
  λ n e a. elim (among_parts r.1 (row_of rows) (cell.Ind r.0) a) as (λ _. ⊥) [
    | inl k ↦ apart r.0 (inl (sym h.0)) (among_front (indicators b.1) (right_indicators bs) r.0 (term_among r.1 b.1 r.0 h.1 k))
    | inr k ↦
        elim (row_among rows bs r.0 h.2 k) as (λ _. ⊥) [
          | inl l ↦ lefts.0 (subst (IsAmong (left_sides bs)) h.0 l)
          | inr l ↦ apart r.0 (inl (sym h.0)) (among_back (indicators b.1) (right_indicators bs) r.0 l)
        ]
  ],
  once_append r.1 (row_of rows)
      (once_of r.1 (subst AreDistinct (sym (ap indicators_in h.1.cells_are ∙ indicators_of b.1)) parts.0))
      (row_once rows bs h.2 lefts.1 parts.1 (λ n l k. apart n (inr l) (among_back (indicators b.1) (right_indicators bs) n k)))
      (λ n k l. elim (row_among rows bs n h.2 l) as (λ _. ⊥) [
        | inl m ↦ apart n (inr m) (among_front (indicators b.1) (right_indicators bs) n (term_among r.1 b.1 n h.1 k))
        | inr m ↦ parts.2 n (term_among r.1 b.1 n h.1 k) m
      ]),
) where
  parts : AreDistinct (indicators b.1) × AreDistinct (right_indicators bs) × ((n : ℕ) → IsAmong (indicators b.1) n → IsAmong (right_indicators bs) n → ⊥)
  parts = distinct_parts (indicators b.1) (right_indicators bs) rights

rows_untold : (slots : Slots) (pairs : Pairs) (rows : List CellPair) (bs : List Binding) → StandForBindings rows bs → ((n : ℕ) → IsAmong (right_indicators bs) n → (s : Substitution Symbol Variable) (t : Term) → IsSolution slots pairs s → IsSolution slots pairs ((ind n, t) ∷ s)) → AllByRecursion (λ r. AllByRecursion (IsUntold slots pairs) r.1) rows
rows_untold slots pairs [] bs h give = tt
rows_untold slots pairs (r ∷ rows) [] h give = absurd h
rows_untold slots pairs (r ∷ rows) (b ∷ bs) h give = (
  all_from (IsUntold slots pairs) r.1 (λ c a n s t e is. give n (among_front (indicators b.1) (right_indicators bs) n (term_among r.1 b.1 n h.1 (subst (IsAmong r.1) e a))) s t is),
  rows_untold slots pairs rows bs h.2 (λ n a. give n (among_back (indicators b.1) (right_indicators bs) n a)),
)

-- ---- at a node
module _ (search : Search) (ready : IsReady search) (key : ℕ) (node : Node Term) (has : HasNode search.tree.now key node) (rows : List CellPair) (stand : StandForBindings rows node.bindings) (old : Pairs) (above : HasComeTo search node.parent old) where
  abbrev legal : HasLegalNodes search.tree.now
  legal = legal_nodes search.tree.now ready.legal

  abbrev here : IsLegalNode search.tree.now key node
  here = ready.legal.nodes key node has

  -- a solution of what is told so far stays one
  untold : (n : ℕ) → IsAmong (right_indicators node.bindings) n → (s : Substitution Symbol Variable) (t : Term) → IsSolution search.slots old s → IsSolution search.slots old ((ind n, t) ∷ s)
  untold n a s t is =
      (above.shows ready.term here.above ready.query.stands here.reached ((ind n, t) ∷ s)).1
      (solves_still n t s search.tree.now legal search.slots ready.term ready.query.numbered node.parent here.above here.reached (right_new search.tree.now legal (key, node) here.above has here.reached n a)
      ((above.shows ready.term here.above ready.query.stands here.reached s).0 is))

  pub entered_fresh : AreFresh search.slots old rows
  entered_fresh = record {
    once =
        row_once rows node.bindings stand here.binds.distinct
        (distinct_parts (opened here.above) (right_indicators node.bindings) here.opens).1
        (λ n l r. right_new search.tree.now legal (key, node) here.above has here.reached n r (left_opened search.tree.now legal (key, node) here.above has here.reached n l));
    untold = rows_untold search.slots old rows node.bindings stand untold;
  }
