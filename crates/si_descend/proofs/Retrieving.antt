-- A descent from the root, where only indicator 0 is bound.
use Rattle.std.proofs.Common.{◌≡◌, ◌↔◌, inl, inr, ℕ, ◌+◌, ◌<◌, zero, suc, List, [], ◌∷◌, ◌++◌, length, get_or, Option, None, Some, refl, ap, sym, ◌∙◌, subst, arith}
use Rattle.std.specs.List.{AllByRecursion}
use Rattle.std.specs.Borrow.{Bor}
use Rattle.si_defs.specs.Terms as terms
use Rattle.si_defs.specs.Substitutions.{Substitution, image, apply, IsAmong}
use Rattle.si_defs.specs.declared.Relation.{Relation}
use Rattle.si_defs.proofs.ListLaws.{all_at, all_from, all_weaker, all_append, among_front, among_back}
use Rattle.si_flat.specs.declared.Cell.{Cell}
use Rattle.si_flat.specs.declared.Cell.TheVariants as cell
use Rattle.si_flat.specs.Cells.{Symbol, Variable, query, entry, ind, same_variable, Term, Terms, variable_cell, cells_of, cells_of_all, StandsFor, IsWhole}
use Rattle.si_flat.specs.Flattened.{IsNumberedBy, counted_from}
use Rattle.si_flat.specs.Rows.{left_sides}
use Rattle.si_flat.proofs.Subterms.{length-cells_of}
use Rattle.si_flat.proofs.VariableLaws.{variable_is}
use Rattle.si_flat.proofs.FirstPlaces.{among_firsts}
use Rattle.si_unify.specs.declared.slots.Slots.{Slots}
use Rattle.si_unify.specs.Solving.{Pairs, slot_count, slot_of, variable_of, is_frozen, IsInRange, AreInRange, Equalizes, IsBinding, RanksBelow, AllowsSolving}
use Rattle.si_unify.proofs.Places.{variable_of-slot_of, first_cell, cell-at, whole_at}
use Rattle.si_unify.proofs.Reading.{one_term}
use Rattle.si_legal.specs.declared.Posting.{Posting}
use Rattle.si_legal.specs.Bindings.{indicator}
use Rattle.si_legal.specs.Trees.{Node, Tree, HasNode, Path, IsPath, PassesBy}
use Rattle.si_legal.specs.Legal.{IsLegal, IsWithin, IsOpenBelow}
use Rattle.si_legal.specs.Descents.{IsAnswerBelow}
use Rattle.si_legal.proofs.PathLaws.{one_node}
use Rattle.si_legal.proofs.SplitLaws.{binding_left}
use Rattle.si_changes.proofs.Frames.{legal_nodes}
use Rattle.si_changes.proofs.NewLeaves.{firsts_few, variables_few}
use Rattle.si_changes.proofs.OpenLaws.{open_opened, opened_low}
use Rattle.si_descend.specs.Answers.{Finds, Retrieves, IsStoredAnswer}
use Rattle.si_descend.specs.Descending.{HasSlotsForDescent, ShowsPath, AreQueryCells, ShowsAbove}
use Rattle.si_descend.proofs.Along.{is_step}
use Rattle.si_descend.proofs.Entering.{one_row, term_in_range}
use Rattle.si_descend.proofs.Openness.{of_kind}

-- ---- the variables of a query are fewer than its cells
counted_long : (k n : ℕ) → length (counted_from query k n) ≡ n
counted_long k zero = refl
counted_long k (suc n) = omega (arith, counted_long (suc k) n)

counted_low : (k n m : ℕ) → IsAmong (counted_from query k n) (query m) → m < k + n
counted_low k zero m a = absurd a
counted_low k (suc n) m (inl e) = omega (arith, number e) where
  number : query k ≡ query m → k ≡ m
  number p = cc
counted_low k (suc n) m (inr a) = omega (arith, counted_low (suc k) n m a)

pub query_low : (cells : List Cell) (q : Term) (n : ℕ) → StandsFor cells q → IsNumberedBy query q → IsAmong (terms.variables q) (query n) → n < length cells
query_low cells q n stands numbered a =
    let low = counted_low 0 numbered.0 n (subst (λ l. IsAmong l (query n)) numbered.1 (among_firsts same_variable variable_is (terms.variables q) (query n) a)) in
    omega (arith, low, ap length numbered.1, counted_long 0 numbered.0, firsts_few (terms.variables q), variables_few q, length-cells_of q, ap length stands.cells_are)

query_slots : (slots : Slots) (cells : List Cell) (q : Term) → slots.query ≡ length cells → StandsFor cells q → IsNumberedBy query q → AllByRecursion (IsInRange slots) (terms.variables q)
query_slots slots cells q size stands numbered = all_from (IsInRange slots) (terms.variables q) by where
  by : (x : Variable) → IsAmong (terms.variables q) x → IsInRange slots x
  by (query n) a = omega (arith, size, query_low cells q n stands numbered a)
  by (entry n) a = absurd (no_entry (of_kind query q (entry n) numbered a).0 (of_kind query q (entry n) numbered a).1) where
    no_entry : (m : ℕ) → query m ≡ entry n → ⊥
    no_entry m e = cc
  by (ind n) a = absurd (no_ind (of_kind query q (ind n) numbered a).0 (of_kind query q (ind n) numbered a).1) where
    no_ind : (m : ℕ) → query m ≡ ind n → ⊥
    no_ind m e = cc

-- ---- slots for the whole tree
within_slots : (tree : Tree Term) (slots : Slots) (x : Variable) → slots.entry ≡ tree.vars → slots.inds ≡ tree.next → IsWithin tree x → IsInRange slots x
within_slots tree slots (query n) e f h = absurd h
within_slots tree slots (entry n) e f h = omega (arith, e, h)
within_slots tree slots (ind n) e f h = omega (arith, f, h)

pub has_room : (tree : Tree Term) (slots : Slots) (cells : List Cell) → IsLegal tree → slots.query ≡ length cells → slots.entry ≡ tree.vars → slots.inds ≡ tree.next → (is : AreQueryCells cells) → HasSlotsForDescent slots tree cells
has_room tree slots cells legal d e f is q stands = record {
  query = query_slots slots cells q d stands (subst (IsNumberedBy query) (one_term cells is.0 q is.1.stands stands) is.1.numbered);
  zero = omega (arith, f, legal.zero_known);
  nodes = λ key node has. (
      let h = legal.nodes key node has in
      let step = is_step tree (legal_nodes tree legal) (key, node) h.above has h.reached in
      all_from (λ b. IsInRange slots (ind b.0) × AllByRecursion (IsInRange slots) (terms.variables b.1)) node.bindings (λ b a. (
        left_in node.parent b.0 h.above h.reached (all_at (IsOpenBelow h.above) (left_sides node.bindings) b.0 step.binds.lefts (binding_left node.bindings b.0 b.1 a)),
        all_weaker (IsWithin tree) (IsInRange slots) (terms.variables b.1) (λ x w. within_slots tree slots x e f w) (all_at (λ c. AllByRecursion (IsWithin tree) (terms.variables c.1)) node.bindings b step.binds.within a),
      )));
} where
  left_in : (from : Option ℕ) (n : ℕ) (above : Path) → IsPath tree from above → IsOpenBelow above n → n < slots.inds
  left_in from n above reached is = omega (arith, f, opened_low tree legal from above reached n (open_opened tree (legal_nodes tree legal) from above reached n is))

-- ---- the first binding
mutual
  ranks_from : (slots : Slots) (rank : ℕ → ℕ) (slot : ℕ) (t : Term) → ((x : Variable) → IsAmong (terms.variables t) x → rank (slot_of slots x) < rank slot) → AllByRecursion (RanksBelow slots rank slot) (cells_of t)
  ranks_from slots rank slot (terms.var (query n)) give = (give (query n) (inl refl), tt)
  ranks_from slots rank slot (terms.var (entry n)) give = (give (entry n) (inl refl), tt)
  ranks_from slots rank slot (terms.var (ind n)) give = (give (ind n) (inl refl), tt)
  ranks_from slots rank slot (terms.app s ts) give = (tt, all_ranks_from slots rank slot ts give)

  all_ranks_from : (slots : Slots) (rank : ℕ → ℕ) (slot : ℕ) (ts : Terms) → ((x : Variable) → IsAmong (terms.variables_of_all ts) x → rank (slot_of slots x) < rank slot) → AllByRecursion (RanksBelow slots rank slot) (cells_of_all ts)
  all_ranks_from slots rank slot terms.none give = tt
  all_ranks_from slots rank slot (terms.more t ts) give =
      all_append (RanksBelow slots rank slot) (cells_of t) (cells_of_all ts)
      (ranks_from slots rank slot t (λ x a. give x (among_front (terms.variables t) (terms.variables_of_all ts) x a)))
      (all_ranks_from slots rank slot ts (λ x a. give x (among_back (terms.variables t) (terms.variables_of_all ts) x a)))

module _ (slots : Slots) (cells : List Cell) (q : Term) (v : Bor (List Cell)) (v_is : v.now ≡ cells) (stands : StandsFor cells q) (numbered : IsNumberedBy query q) (some : 0 < slots.inds) (range : AllByRecursion (IsInRange slots) (terms.variables q)) (slot : ℕ) (slot_is : slot ≡ slots.query + slots.entry) (pairs : Pairs) (pairs_are : pairs ≡ (slot, v) ∷ []) where
  name : variable_of slots slot ≡ ind 0
  name = let same : slot ≡ slots.query + slots.entry + 0 = omega (arith, slot_is) in ap (variable_of slots) same ∙ variable_of-slot_of slots (ind 0) some

  value_stands : StandsFor v.now q
  value_stands = subst (λ l. StandsFor l q) (sym v_is) stands

  ranked : AllByRecursion (RanksBelow slots (λ k. k) slot) v.now
  ranked = subst (AllByRecursion (RanksBelow slots (λ k. k) slot)) (sym value_stands.cells_are) (ranks_from slots (λ k. k) slot q by) where
    by : (x : Variable) → IsAmong (terms.variables q) x → slot_of slots x < slot
    by x a =
        let k = of_kind query q x numbered a in
        let inside : k.0 < slots.query = subst (IsInRange slots) (sym k.1) (all_at (IsInRange slots) (terms.variables q) x range a) in
        subst (λ y. slot_of slots y < slot) k.1 (omega (arith, inside, slot_is))

  pub first_solving : (count : ℕ) → count ≡ slot_count slots → AllowsSolving slots pairs count
  first_solving count e = record {
    room = omega (arith, e);
    bindings = subst (AllByRecursion (IsBinding slots)) (sym pairs_are) (
      record {
        below = omega (arith, slot_is, some);
        unfrozen = ap (is_frozen slots) name;
        whole = (q, value_stands);
        in_range = subst (AreInRange slots) (sym value_stands.cells_are) (term_in_range slots q range);
      },
      tt,
    );
    triangular = ((λ k. k), subst (AllByRecursion (λ pair. AllByRecursion (RanksBelow slots (λ k. k) pair.0) pair.1.now)) (sym pairs_are) (ranked, tt));
  }

  pub first_shows : ShowsPath slots pairs q []
  first_shows = subst (λ l. ShowsPath slots l q []) (sym pairs_are) (λ s. (
    λ h. record { frozen = h.frozen; zero = (one s).0 h.equal.0; bindings = tt },
    λ h. record { frozen = h.frozen; equal = ((one s).1 h.zero, tt) },
  )) where
    one : (s : Substitution Symbol Variable) → Equalizes (image same_variable s) (variable_cell (variable_of slots slot) ∷ []) v.now ↔ (apply same_variable s (indicator 0) ≡ apply same_variable s q)
    one s = subst (λ x. Equalizes (image same_variable s) (variable_cell x ∷ []) v.now ↔ (apply same_variable s (indicator 0) ≡ apply same_variable s q)) (sym name) (one_row s 0 v.now q value_stands)

-- nothing stands above the root
pub shows_root : (tree : Tree Term) (slots : Slots) (pairs : Pairs) (cells : List Cell) (q : Term) → IsLegal tree → StandsFor cells q → ShowsPath slots pairs q [] → ShowsAbove slots pairs tree tree.root cells
shows_root tree slots pairs cells q legal stands shows node above q' has reached stands' =
    subst (λ p. ShowsPath slots pairs q' p) (sym (nothing above (subst (λ k. IsPath tree k above) parent reached)))
    (subst (λ t. ShowsPath slots pairs t []) (one_term cells q q' stands stands') shows)
  where
    parent : node.parent ≡ None
    parent = ap (λ n. n.parent) (one_node tree tree.root node legal.root.0 has legal.root.1) ∙ legal.root.2.parent

    nothing : (p : Path) → IsPath tree None p → p ≡ []
    nothing [] h = refl
    nothing (step ∷ p) h = absurd (bad h.0) where
      bad : None ≡ Some step.0 → ⊥
      bad e = cc

pub root_there : (tree : Tree Term) → IsLegal tree → (node : Node Term) × HasNode tree tree.root node
root_there tree legal = (legal.root.0, legal.root.1)

-- ---- all leaves stand below the root
passes_root : (tree : Tree Term) → IsLegal tree → (from : Option ℕ) (key : ℕ) (p : Path) → from ≡ Some key → IsPath tree from p → PassesBy p tree.root
passes_root tree legal from key [] e reached = absurd (bad (sym e ∙ reached)) where
  bad : Some key ≡ None → ⊥
  bad c = cc
passes_root tree legal from key (step ∷ above) e reached = by (λ up f. passes_root tree legal step.1.parent up above f reached.2) step.1.parent refl where
  by : ((up : ℕ) → step.1.parent ≡ Some up → PassesBy above tree.root) → (o : Option ℕ) → step.1.parent ≡ o → PassesBy (step ∷ above) tree.root
  by go None f = inl ((legal.nodes step.0 step.1 reached.1).only_root f)
  by go (Some up) f = inr (go up f)

pub stored_answers : (tree : Tree Term) → IsLegal tree → (relation : Relation) (q : Term) (p : Posting) → IsAnswerBelow tree tree.root relation q p ↔ IsStoredAnswer tree relation q p
stored_answers tree legal relation q p = (
  λ h. (h.term, (h.key, (h.postings, h.leaf, h.among)), h.relates),
  λ h. record {
    key = h.1.0;
    term = h.0;
    postings = h.1.1.0;
    leaf = h.1.1.1;
    below = passes_root tree legal (Some h.1.0) h.1.0 ((h.1.0, h.1.1.1.node) ∷ h.1.1.1.above) refl h.1.1.1.reached;
    relates = h.2;
    among = h.1.1.2;
  },
)

pub found_retrieves : (tree : Tree Term) (relation : Relation) (cells : List Cell) (old new : List Posting) (n : ℕ) → IsLegal tree → Finds tree tree.root relation cells old new n → Retrieves tree relation cells old new n
found_retrieves tree relation cells old new n legal h = record {
  counts = h.counts;
  appends = λ q stands. (
      let a = h.appends q stands in
      record {
        answers = a.answers;
        appended = a.appended;
        are = record {
          distinct = a.are.distinct;
          exact = λ p. (
            λ i. (stored_answers tree legal relation q p).0 ((a.are.exact p).0 i),
            λ i. (a.are.exact p).1 ((stored_answers tree legal relation q p).1 i),
          );
        };
      });
}

-- ---- the first cell of a term
pub head_cell : (cells : List Cell) (d : Cell) → (is : IsWhole cells) → get_or cells 0 d ≡ first_cell is.0
head_cell cells d is = cell-at cells 0 is.0 d (whole_at cells is.0 is.1)

long_as : (cells : List Cell) (is : IsWhole cells) → length cells ≡ terms.size is.0
long_as cells is = ap length is.1.cells_are ∙ length-cells_of is.0

pub app_length : (cells : List Cell) (d : Cell) (s a n : ℕ) → IsWhole cells → get_or cells 0 d ≡ cell.App s a n → n ≡ length cells
app_length cells d s a n is e = by is.0 (sym (head_cell cells d is) ∙ e) (long_as cells is) where
  by : (t : Term) → first_cell t ≡ cell.App s a n → length cells ≡ terms.size t → n ≡ length cells
  by (terms.var (query k)) p size = absurd (bad p) where
    bad : cell.Query k ≡ cell.App s a n → ⊥
    bad q = cc
  by (terms.var (entry k)) p size = absurd (bad p) where
    bad : cell.Entry k ≡ cell.App s a n → ⊥
    bad q = cc
  by (terms.var (ind k)) p size = absurd (bad p) where
    bad : cell.Ind k ≡ cell.App s a n → ⊥
    bad q = cc
  by (terms.app r ts) p size = omega (arith, number p, size) where
    number : cell.App r.number r.arity (1 + terms.sizes ts) ≡ cell.App s a n → 1 + terms.sizes ts ≡ n
    number q = cc

pub variable_length : (cells : List Cell) (d : Cell) → IsWhole cells → ((s a n : ℕ) → get_or cells 0 d ≡ cell.App s a n → ⊥) → 1 ≡ length cells
variable_length cells d is none = by is.0 (head_cell cells d is) (long_as cells is) where
  by : (t : Term) → get_or cells 0 d ≡ first_cell t → length cells ≡ terms.size t → 1 ≡ length cells
  by (terms.var x) p size = sym size
  by (terms.app r ts) p size = absurd (none r.number r.arity (1 + terms.sizes ts) p)

pub query_no_app : (c : Cell) (k : ℕ) → c ≡ cell.Query k → (s a n : ℕ) → c ≡ cell.App s a n → ⊥
query_no_app c k e s a n f = by (sym e ∙ f) where
  by : cell.Query k ≡ cell.App s a n → ⊥
  by q = cc

pub entry_no_app : (c : Cell) (k : ℕ) → c ≡ cell.Entry k → (s a n : ℕ) → c ≡ cell.App s a n → ⊥
entry_no_app c k e s a n f = by (sym e ∙ f) where
  by : cell.Entry k ≡ cell.App s a n → ⊥
  by q = cc

pub ind_no_app : (c : Cell) (k : ℕ) → c ≡ cell.Ind k → (s a n : ℕ) → c ≡ cell.App s a n → ⊥
ind_no_app c k e s a n f = by (sym e ∙ f) where
  by : cell.Ind k ≡ cell.App s a n → ⊥
  by q = cc

pub bound_first : {X : Type 0} (slots : Slots) (pairs old : List (ℕ × X)) (slot : ℕ) (v : X) → slot ≡ slot_of slots (ind 0) → pairs ≡ old ++ (slot, v) ∷ [] → old ≡ [] → pairs ≡ (slots.query + slots.entry, v) ∷ []
bound_first slots pairs old slot v is e none =
    let first : slot ≡ slots.query + slots.entry = omega (arith, is) in
    e ∙ ap (λ l. l ++ (slot, v) ∷ []) none ∙ ap (λ k. (k, v) ∷ []) first
