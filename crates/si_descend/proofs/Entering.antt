-- What the trail shows once the bindings of a node fit, and that the node is closed where they
-- don't.
use Rattle.std.proofs.Common.{◌≡◌, ◌↔◌, ◌<◌, ℕ, true, false, List, [], ◌∷◌, Some, refl, ap, sym, ◌∙◌, subst}
use Rattle.std.specs.List.{AllByRecursion}
use Rattle.si_defs.specs.Terms as terms
use Rattle.si_defs.specs.Substitutions.{Substitution, image, apply}
use Rattle.si_defs.proofs.ListLaws.{all_front, all_back, all_append}
use Rattle.si_flat.specs.declared.Cell.{Cell}
use Rattle.si_flat.specs.declared.Cell.TheVariants as cell
use Rattle.si_flat.specs.Cells.{Symbol, Variable, query, entry, ind, same_variable, Term, Terms, cells_of, cells_of_all, StandsFor}
use Rattle.si_flat.specs.Flattened.{IsNumberedBy}
use Rattle.si_flat.specs.Rows.{CellPair}
use Rattle.si_unify.specs.declared.slots.Slots.{Slots}
use Rattle.si_unify.specs.Solving.{Pairs, IsInRange, CellIsInRange, AreInRange, Equalizes, IsSolution}
use Rattle.si_unify.proofs.Reading.{one_term}
use Rattle.si_legal.specs.Bindings.{Binding, indicator, StandForBindings}
use Rattle.si_legal.specs.Trees.{Node, HasNode, Path, IsPath, path_term}
use Rattle.si_legal.specs.Descents.{SolvesBindings}
use Rattle.si_legal.specs.OpenNodes.{IsOpen}
use Rattle.si_changes.proofs.Frames.{legal_nodes}
use Rattle.si_changes.proofs.StoredLaws.{path_start}
use Rattle.si_descend.specs.declared.search.Search.{Search}
use Rattle.si_descend.specs.Descending.{ShowsPath, Renames}
use Rattle.si_fit.specs.Fitting.{AreRowsInRange, EqualizesRows, HasFitted}
use Rattle.si_descend.specs.Searching.{IsReady, HasComeTo, IsOpenAt, IsClosedAt}
use Rattle.si_descend.proofs.Openness.{open_solved, solved_open}

-- ---- the bindings of a node in cells
pub one_row : (s : Substitution Symbol Variable) (n : ℕ) (cells : List Cell) (t : Term) → StandsFor cells t → Equalizes (image same_variable s) (cell.Ind n ∷ []) cells ↔ (apply same_variable s (indicator n) ≡ apply same_variable s t)
one_row s n cells t h = (
  λ g. g (indicator n) t left h,
  λ g a b p q. ap (apply same_variable s) (one_term (cell.Ind n ∷ []) a (indicator n) p left) ∙ g ∙ ap (apply same_variable s) (one_term cells t b h q),
) where
  left : StandsFor (cell.Ind n ∷ []) (indicator n)
  left = record { cells_are = refl; sound = tt }

pub rows_solved : (s : Substitution Symbol Variable) (rows : List CellPair) (bs : List Binding) → StandForBindings rows bs → EqualizesRows (image same_variable s) rows ↔ SolvesBindings s bs
rows_solved s [] [] h = (λ g. g, λ g. g)
rows_solved s [] (b ∷ bs) h = absurd h
rows_solved s (r ∷ rows) [] h = absurd h
rows_solved s (r ∷ rows) (b ∷ bs) h =
    let one = subst (λ n. Equalizes (image same_variable s) (cell.Ind r.0 ∷ []) r.1 ↔ (apply same_variable s (indicator n) ≡ apply same_variable s b.1)) h.0 (one_row s r.0 r.1 b.1 h.1) in
    let rest = rows_solved s rows bs h.2 in
    (λ g. (one.0 g.0, rest.0 g.1), λ g. (one.1 g.0, rest.1 g.1))

mutual
  pub term_in_range : (slots : Slots) (t : Term) → AllByRecursion (IsInRange slots) (terms.variables t) → AreInRange slots (cells_of t)
  term_in_range slots (terms.var (query n)) h = (h.0, tt)
  term_in_range slots (terms.var (entry n)) h = (h.0, tt)
  term_in_range slots (terms.var (ind n)) h = (h.0, tt)
  term_in_range slots (terms.app s ts) h = (tt, terms_in_range slots ts h)

  pub terms_in_range : (slots : Slots) (ts : Terms) → AllByRecursion (IsInRange slots) (terms.variables_of_all ts) → AreInRange slots (cells_of_all ts)
  terms_in_range slots terms.none h = tt
  terms_in_range slots (terms.more t ts) h =
      all_append (CellIsInRange slots) (cells_of t) (cells_of_all ts)
      (term_in_range slots t (all_front (IsInRange slots) (terms.variables t) (terms.variables_of_all ts) h))
      (terms_in_range slots ts (all_back (IsInRange slots) (terms.variables t) (terms.variables_of_all ts) h))

pub rows_in_range : (slots : Slots) (rows : List CellPair) (bs : List Binding) → StandForBindings rows bs → AllByRecursion (λ b. IsInRange slots (ind b.0) × AllByRecursion (IsInRange slots) (terms.variables b.1)) bs → AreRowsInRange slots rows
rows_in_range slots [] bs h range = tt
rows_in_range slots (r ∷ rows) [] h range = absurd h
rows_in_range slots (r ∷ rows) (b ∷ bs) h range = (
  (subst (λ n. n < slots.inds) (sym h.0) range.0.0, subst (AreInRange slots) (sym h.1.cells_are) (term_in_range slots b.1 range.0.1)),
  rows_in_range slots rows bs h.2 range.1,
)

-- ---- one step down
module _ (search : Search) (ready : IsReady search) (key : ℕ) (node : Node Term) (has : HasNode search.tree.now key node) (rows : List CellPair) (stand : StandForBindings rows node.bindings) (old : Pairs) (above : HasComeTo search node.parent old) where
  pub entered_range : AreRowsInRange search.slots rows
  entered_range =
      rows_in_range search.slots rows node.bindings stand (ready.room.nodes key node has)

  -- the query's term is the one that its cells stand for
  pub numbered : (q : Term) → StandsFor search.query.now q → IsNumberedBy query q
  numbered q h = subst (IsNumberedBy query) (one_term search.query.now ready.term q ready.query.stands h) ready.query.numbered

  -- a path to the node begins there
  on_path : (P : Path → Type 0) → ((up : Path) → IsPath search.tree.now node.parent up → P ((key, node) ∷ up)) → (path : Path) → IsPath search.tree.now (Some key) path → P path
  on_path P give path reached =
      let start = path_start search.tree.now key node path has reached in
      let here : IsPath search.tree.now (Some key) ((key, node) ∷ start.0) = subst (IsPath search.tree.now (Some key)) start.1 reached in
      subst P (sym start.1) (give start.0 here.2)

  module _ (new : Pairs) (fitted : HasFitted search.slots old new rows true) where
    pub entered_shows : (q : Term) (path : Path) → StandsFor search.query.now q → IsPath search.tree.now (Some key) path → ShowsPath search.slots new q path
    entered_shows q path h = on_path (λ p. ShowsPath search.slots new q p) (λ up reached s. (
      λ g. (let both = (fitted.1 s).0 g in let old = (above.shows q up h reached s).0 both.0 in record { frozen = old.frozen; zero = old.zero; bindings = ((rows_solved s rows node.bindings stand).0 both.1, old.bindings) }),
      λ g. (fitted.1 s).1 ((above.shows q up h reached s).1 (record { frozen = g.frozen; zero = g.zero; bindings = g.bindings.1 }), (rows_solved s rows node.bindings stand).1 g.bindings.0),
    )) path

    -- a solution that renames what it has to opens the node
    pub entered_open : (s : Substitution Symbol Variable) → IsSolution search.slots new s → ((path : Path) → IsPath search.tree.now (Some key) path → Renames search.relation (path_term path) s) → IsOpenAt search key
    entered_open s is renames = λ q path h reached.
        solved_open search.tree.now (legal_nodes search.tree.now ready.legal) search.slots q (numbered q h) (Some key) path reached search.relation ready.freezes s ((entered_shows q path h reached s).0 is) (renames path reached)

    -- and an open node has one
    pub open_entered : (q : Term) (path : Path) → StandsFor search.query.now q → IsPath search.tree.now (Some key) path → IsOpen search.relation q (path_term path) → (s : Substitution Symbol Variable) × IsSolution search.slots new s × Renames search.relation (path_term path) s
    open_entered q path h reached is =
        let e = open_solved search.tree.now (legal_nodes search.tree.now ready.legal) search.slots q (numbered q h) (Some key) path reached search.relation ready.freezes is in
        (e.map, (entered_shows q path h reached e.map).1 e.solves, e.renames)

  pub never_entered : (new : Pairs) → HasFitted search.slots old new rows false → IsClosedAt search key
  never_entered new fitted = λ q path h. on_path (λ p. IsOpen search.relation q (path_term p) → ⊥) (λ up reached is.
      let e = open_solved search.tree.now (legal_nodes search.tree.now ready.legal) search.slots q (numbered q h) (Some key) ((key, node) ∷ up) (refl, has, reached) search.relation ready.freezes is in
      fitted e.map ((above.shows q up h reached e.map).1 (record { frozen = e.solves.frozen; zero = e.solves.zero; bindings = e.solves.bindings.1 })) ((rows_solved e.map rows node.bindings stand).1 e.solves.bindings.0)) path
