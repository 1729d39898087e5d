-- A child whose head can't be that of the split is closed.
use Rattle.std.proofs.Common.{◌≡◌, ◌+◌, ◌<◌, inl, inr, ℕ, true, false, nat_eq, not, IsTrue, List, ◌∷◌, Option, None, Some, refl, ap, sym, ◌∙◌, subst, arith}
use Rattle.std.proofs.lemmas.Bool.Decides.{eqb_tells}
use Rattle.std.proofs.lemmas.Option.{same_Some}
use Rattle.std.specs.Borrow.{Bor}
use Rattle.si_defs.specs.Terms as terms
use Rattle.si_defs.specs.Substitutions.{Substitution, image, apply, IsAmong}
use Rattle.si_defs.specs.declared.Relation.{Relation}
use Rattle.si_defs.specs.declared.Relation.TheVariants.{Variants, Instances, Generalizations, Unifiable}
use Rattle.si_defs.proofs.ListLaws.{all_at}
use Rattle.si_flat.specs.declared.Cell.{Cell}
use Rattle.si_flat.specs.declared.Cell.TheVariants as cell
use Rattle.si_flat.specs.Cells.{Symbol, Variable, query, entry, ind, same_variable, Term, Terms, cells_of}
use Rattle.si_flat.specs.Rows.{left_sides}
use Rattle.si_trail.specs.Trails.{value_at}
use Rattle.si_unify.specs.declared.slots.Slots.{Slots}
use Rattle.si_unify.specs.Solving.{Pairs, IsBinding, AllowsSolving}
use Rattle.si_legal.specs.Bindings.{indicator}
use Rattle.si_legal.specs.Legal.{ChildBinds, IsOpenBelow}
use Rattle.si_legal.specs.Trees.{IsPath, path_term}
use Rattle.si_legal.specs.OpenNodes.{IsOpen}
use Rattle.si_legal.proofs.PathLaws.{one_node}
use Rattle.si_legal.proofs.SplitLaws.{binding_left}
use Rattle.si_changes.proofs.ComposeLaws.{right_applied}
use Rattle.si_changes.proofs.Frames.{legal_nodes}
use Rattle.si_changes.proofs.StoredLaws.{path_start}
use Rattle.si_tree.specs.declared.node.Head.{Head}
use Rattle.si_tree.specs.declared.node.Head.TheVariants.{Sym, Var}
use Rattle.si_tree.specs.Heads.{IsChildBy}
use Rattle.si_tree.specs.Reading.{AtNode, split_of}
use Rattle.si_unify.proofs.Places.{value_holds}
use Rattle.si_fit.specs.Ends.{EndsAt}
use Rattle.si_fit.proofs.EndLaws.{value_same}
use Rattle.si_descend.specs.declared.heads.Wanted.{Wanted}
use Rattle.si_descend.specs.declared.search.Search.{Search}
use Rattle.si_descend.specs.Descending.{Renames}
use Rattle.si_fit.specs.Meeting.{first_cell_of}
use Rattle.si_descend.specs.Heads.{KeepsVariables, CannotMeet, CannotHave, SplitsBy, IsSplitOf, IsWanted, IsUnwanted, RulesOut}
use Rattle.si_descend.specs.Searching.{IsReady, HasComeTo, IsClosedAt}
use Rattle.si_descend.proofs.Below.{IsChildOf}
use Rattle.si_descend.proofs.Along.{is_step}
use Rattle.si_descend.proofs.Openness.{open_solved, renames_fewer}
use Rattle.si_descend.proofs.Visiting.{query_numbered}

-- ---- terms by their first cell
is_app : (t : Term) (s a n : ℕ) → first_cell_of (cells_of t) ≡ cell.App s a n → (ts : Terms) × (t ≡ terms.app (record { number = s; arity = a }) ts)
is_app (terms.var (query k)) s a n e = absurd (by e) where
  by : cell.Query k ≡ cell.App s a n → ⊥
  by p = cc
is_app (terms.var (entry k)) s a n e = absurd (by e) where
  by : cell.Entry k ≡ cell.App s a n → ⊥
  by p = cc
is_app (terms.var (ind k)) s a n e = absurd (by e) where
  by : cell.Ind k ≡ cell.App s a n → ⊥
  by p = cc
is_app (terms.app r ts) s a n e = (ts, λ i. terms.app (record { number = number e i; arity = arity e i }) ts) where
  number : cell.App r.number r.arity (1 + terms.sizes ts) ≡ cell.App s a n → r.number ≡ s
  number p = cc

  arity : cell.App r.number r.arity (1 + terms.sizes ts) ≡ cell.App s a n → r.arity ≡ a
  arity p = cc

is_entry : (t : Term) (m : ℕ) → first_cell_of (cells_of t) ≡ cell.Entry m → t ≡ terms.var (entry m)
is_entry (terms.var (query k)) m e = absurd (by e) where
  by : cell.Query k ≡ cell.Entry m → ⊥
  by p = cc
is_entry (terms.var (entry k)) m e = ap (λ i. terms.var (entry i)) (by e) where
  by : cell.Entry k ≡ cell.Entry m → k ≡ m
  by p = cc
is_entry (terms.var (ind k)) m e = absurd (by e) where
  by : cell.Ind k ≡ cell.Entry m → ⊥
  by p = cc
is_entry (terms.app r ts) m e = absurd (by e) where
  by : cell.App r.number r.arity (1 + terms.sizes ts) ≡ cell.Entry m → ⊥
  by p = cc

is_query : (t : Term) (m : ℕ) → first_cell_of (cells_of t) ≡ cell.Query m → t ≡ terms.var (query m)
is_query (terms.var (query k)) m e = ap (λ i. terms.var (query i)) (by e) where
  by : cell.Query k ≡ cell.Query m → k ≡ m
  by p = cc
is_query (terms.var (entry k)) m e = absurd (by e) where
  by : cell.Entry k ≡ cell.Query m → ⊥
  by p = cc
is_query (terms.var (ind k)) m e = absurd (by e) where
  by : cell.Ind k ≡ cell.Query m → ⊥
  by p = cc
is_query (terms.app r ts) m e = absurd (by e) where
  by : cell.App r.number r.arity (1 + terms.sizes ts) ≡ cell.Query m → ⊥
  by p = cc

app_var : (r : Symbol) (ts : Terms) (x : Variable) → terms.app r ts ≡ terms.var x → ⊥
app_var r ts x e = cc

-- ---- terms that can't meet
module _ (relation : Relation) (slots : Slots) where
  pub symbols_apart : (s a n r b m : ℕ) → ((s ≡ r) × (a ≡ b) → ⊥) → CannotMeet relation slots (cell.App s a n) (cell.App r b m)
  symbols_apart s a n r b m apart f t u frozen renames p q e =
      let x = is_app t s a n p in
      let y = is_app u r b m q in
      by (sym (ap (apply same_variable f) x.1) ∙ e ∙ ap (apply same_variable f) y.1)
    where
      by : {ts us : Terms} → terms.app (record { number = s; arity = a }) ts ≡ terms.app (record { number = r; arity = b }) us → ⊥
      by c = apart (ap number c, ap arity c) where
        number : Term → ℕ
        number (terms.var x) = 0
        number (terms.app l vs) = l.number

        arity : Term → ℕ
        arity (terms.var x) = 0
        arity (terms.app l vs) = l.arity

  -- a symbol and a variable that is left
  symbol_variable : (s a n m : ℕ) (x : Variable) (f : Substitution Symbol Variable) (t u : Term) → first_cell_of (cells_of t) ≡ cell.App s a n → u ≡ terms.var (entry m) → image same_variable f (entry m) ≡ terms.var x → apply same_variable f t ≡ apply same_variable f u → ⊥
  symbol_variable s a n m x f t u p is left e =
      let y = is_app t s a n p in
      app_var (record { number = s; arity = a }) (terms.substitute_all (image same_variable f) y.0) x
      (sym (ap (apply same_variable f) y.1) ∙ e ∙ ap (apply same_variable f) is ∙ left)

  pub symbol_entry : (s a n m : ℕ) → KeepsVariables relation slots → CannotMeet relation slots (cell.App s a n) (cell.Entry m)
  symbol_entry s a n m keeps f t u frozen renames p q e =
      let is = is_entry u m q in
      let left = by_relation relation keeps (subst (λ v. Renames relation v f) is renames) in
      symbol_variable s a n m left.0 f t u p is left.1 e
    where
      by_relation : (r : Relation) → KeepsVariables r slots → Renames r (terms.var (entry m)) f → (x : Variable) × (image same_variable f (entry m) ≡ terms.var x)
      by_relation Variants keeps renames = renames.renames m (inl refl)
      by_relation Instances keeps renames = (entry m, frozen (entry m) keeps)
      by_relation Generalizations keeps renames = (entry m, frozen (entry m) keeps)
      by_relation Unifiable keeps renames = (entry m, frozen (entry m) keeps)

  pub entry_symbol : (s a n m : ℕ) → slots.freeze_entry ≡ true → CannotMeet relation slots (cell.Entry m) (cell.App s a n)
  entry_symbol s a n m is f t u frozen renames p q e = symbol_variable s a n m (entry m) f u t q (is_entry t m p) (frozen (entry m) is) (sym e)

  pub query_symbol : (s a n m : ℕ) → slots.freeze_query ≡ true → CannotMeet relation slots (cell.Query m) (cell.App s a n)
  query_symbol s a n m is f t u frozen renames p q e =
      let x = is_app u s a n q in
      app_var (record { number = s; arity = a }) (terms.substitute_all (image same_variable f) x.0) (query m)
      (sym (ap (apply same_variable f) x.1) ∙ sym e ∙ ap (apply same_variable f) (is_query t m p) ∙ frozen (query m) is)

  pub entries_apart : (m n : ℕ) → slots.freeze_entry ≡ true → (m ≡ n → ⊥) → CannotMeet relation slots (cell.Entry m) (cell.Entry n)
  entries_apart m n is apart f t u frozen renames p q e =
      apart (by (sym (frozen (entry m) is) ∙ sym (ap (apply same_variable f) (is_entry t m p)) ∙ e ∙ ap (apply same_variable f) (is_entry u n q) ∙ frozen (entry n) is))
    where
      by : ◌≡◌ {A = Term} (terms.var (entry m)) (terms.var (entry n)) → m ≡ n
      by c = cc

  -- ---- terms with a head
  -- none that begins with the symbol
  pub cannot_have_symbol : (first : Cell) (r b : ℕ) → ((n : ℕ) → CannotMeet relation slots first (cell.App r b n)) → CannotHave relation slots first (Sym r b)
  cannot_have_symbol first r b cannot_meet (terms.var (query k)) h = absurd h
  cannot_have_symbol first r b cannot_meet (terms.var (entry k)) h = absurd h
  cannot_have_symbol first r b cannot_meet (terms.var (ind k)) h = absurd h
  cannot_have_symbol first r b cannot_meet (terms.app l ts) h =
      let n = 1 + terms.sizes ts in
      subst (CannotMeet relation slots first) (λ i. cell.App (sym h.0 i) (sym h.1 i) n) (cannot_meet n)

  -- nor the variable
  pub cannot_have_entry : (first : Cell) (m : ℕ) → CannotMeet relation slots first (cell.Entry m) → CannotHave relation slots first (Var m)
  cannot_have_entry first m cannot_meet (terms.var (query k)) h = absurd h
  cannot_have_entry first m cannot_meet (terms.var (entry k)) h = subst (CannotMeet relation slots first) (ap cell.Entry (sym h)) cannot_meet
  cannot_have_entry first m cannot_meet (terms.var (ind k)) h = absurd h
  cannot_have_entry first m cannot_meet (terms.app l ts) h = absurd h

  pub cannot_have : (first a : Cell) (head h : Head) → first ≡ a → head ≡ h → CannotHave relation slots a h → CannotHave relation slots first head
  cannot_have first a head h e f cannot = subst (λ c. CannotHave relation slots c head) (sym e) (subst (CannotHave relation slots a) (sym f) cannot)

-- ---- a child that is ruled out
pub ruled_out : (search : Search) → IsReady search → (key child : ℕ) → IsChildOf search.tree.now key child → (pairs : Pairs) → HasComeTo search (Some key) pairs → (w : Option Wanted) → IsWanted search key pairs w → RulesOut search w child → IsClosedAt search child
ruled_out search ready key child is pairs there None wanted out = absurd out
ruled_out search ready key child is pairs there (Some w) wanted out = λ q path h reached is_open.
    let start = path_start search.tree.now child is.0 path is.1 reached in
    let here : IsPath search.tree.now (Some child) ((child, is.0) ∷ start.0) = subst (IsPath search.tree.now (Some child)) start.1 reached in
    let s = open_solved search.tree.now (legal_nodes search.tree.now ready.legal) search.slots q (query_numbered search ready q h) (Some child) ((child, is.0) ∷ start.0) here search.relation ready.freezes (subst (λ p. IsOpen search.relation q (path_term p)) start.1 is_open) in
    let up : IsPath search.tree.now (Some key) start.0 = subst (λ k. IsPath search.tree.now k start.0) is.2 here.2 in
    let solution = (there.shows q start.0 h up s.map).1 (record { frozen = s.solves.frozen; zero = s.solves.zero; bindings = s.solves.bindings.1 }) in
    let bound = all_at (λ b. apply same_variable s.map (indicator b.0) ≡ apply same_variable s.map b.1) is.0.bindings (w.split, out.0) s.solves.bindings.0 (subst (λ n. IsAmong n.bindings (w.split, out.0)) (one_node search.tree.now child out.1.0 is.0 out.1.1 is.1) out.1.2) in
    let among = subst (λ n. IsAmong n.bindings (w.split, out.0)) (one_node search.tree.now child out.1.0 is.0 out.1.1 is.1) out.1.2 in
    let bound = all_at (λ b. apply same_variable s.map (indicator b.0) ≡ apply same_variable s.map b.1) is.0.bindings (w.split, out.0) s.solves.bindings.0 among in
    let binds = (is_step search.tree.now (legal_nodes search.tree.now ready.legal) (child, is.0) start.0 is.1 here.2).binds in
    let below = all_at (IsOpenBelow start.0) (left_sides is.0.bindings) w.split binds.lefts (binding_left is.0.bindings w.split out.0 among) in
    let renames =
    renames_fewer search.relation out.0 (path_term ((child, is.0) ∷ start.0)) s.map (λ m a. right_applied is.0.bindings (path_term start.0) (w.split, out.0) (entry m) binds.distinct among below a) s.renames in
    out.2 s.map wanted.1.0 out.0 s.solves.frozen renames wanted.1.1 refl (sym (wanted.1.2 s.map solution) ∙ bound)

-- a child with a head that can't have what is wanted
pub unwanted_out : (search : Search) (key child : ℕ) (w : Option Wanted) (head : Head) → SplitsBy search key w → IsUnwanted search w head → IsChildBy search.tree.now key head child → RulesOut search w child
unwanted_out search key child None head splits unwanted is = absurd unwanted
unwanted_out search key child (Some w) head splits unwanted is =
    let same : is.split ≡ w.split = same_Some is.split w.split (sym (ap split_of is.content) ∙ splits is.node is.has) in
    (is.by.0, subst (λ n. ChildBinds search.tree.now child n is.by.0) same is.by.1, unwanted is.by.0 is.by.2)

-- ---- answers
pub told_apart : (m n : ℕ) → IsTrue (not (nat_eq m n)) → m ≡ n → ⊥
told_apart m n e = elim (eqb_tells m n) as (λ _. m ≡ n → ⊥) [
  | inl same ↦ absurd (by (sym (ap not same.0) ∙ e))
  | inr apart ↦ apart.1
] where
  by : false ≡ true → ⊥
  by p = cc

-- ---- the split of a node
pub split_wanted : (search : Search) (key : ℕ) (pairs : Pairs) (count split : ℕ) (v : Bor (List Cell)) (end : List Cell) (first : Cell) → AllowsSolving search.slots pairs count → AtNode search.tree.now key (λ n. split_of n.content ≡ Some split) → Some v ≡ value_at pairs (search.slots.query + search.slots.entry + split) → EndsAt search.slots pairs v.now end → first ≡ first_cell_of end → IsSplitOf search key pairs split first
split_wanted search key pairs count split v end first solving is bound ends e = (
  is,
  (ends.last, ap first_cell_of (sym ends.last_stands.cells_are) ∙ sym e, λ s h. value_same search.slots pairs (ind split) v ends.first range (sym bound) ends.first_stands (image same_variable s) h ∙ ends.same (image same_variable s) h),
) where
  range : split < search.slots.inds
  range = let b = value_holds (IsBinding search.slots) pairs (search.slots.query + search.slots.entry + split) v solving.bindings (sym bound) in omega (arith, b.below)
