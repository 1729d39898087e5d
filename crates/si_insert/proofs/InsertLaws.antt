-- What the calls of an insertion need, and what they give.
use Rattle.std.proofs.Common.{◌≡◌, ℕ, inl, inr, List, [], ◌∷◌, ◌++◌, None, Some, refl, sym, ◌∙◌, ap, subst}
use Rattle.std.proofs.lemmas.Bool.{cases_eq}
use Rattle.std.proofs.lemmas.Option.{same_Some}
use Rattle.si_defs.specs.Terms as terms
use Rattle.si_defs.specs.Substitutions.{IsAmong, AreDistinct}
use Rattle.si_defs.proofs.ListLaws.{among_back}
use Rattle.si_flat.specs.declared.Cell.{Cell}
use Rattle.si_flat.specs.Cells.{Variable, query, entry, ind, same_variable, Term, IsWhole, StandsFor}
use Rattle.si_flat.specs.Rows.{CellPair, AreWhole}
use Rattle.si_flat.proofs.FirstPlaces.{among_firsts}
use Rattle.si_flat.proofs.VariableLaws.{variable_is}
use Rattle.si_unify.proofs.Reading.{one_term}
use Rattle.si_legal.specs.declared.Posting.{Posting}
use Rattle.si_legal.specs.Bindings.{Binding, applied, StandForBindings}
use Rattle.si_legal.specs.Trees.{Content, inner, leaf, Node, Tree, HasNode, Path, IsPath, path_term, IsLeaf, StandsIn, opened}
use Rattle.si_legal.specs.StoredSets.{Gains}
use Rattle.si_legal.specs.Legal.{IsOpenBelow, IsLeafTerm, IsLegalContent, IsLegal}
use Rattle.si_legal.proofs.SplitLaws.{binding_left}
use Rattle.si_legal.proofs.PathLaws.{one_path, one_node}
use Rattle.si_changes.specs.Nodes.{MayComeIn, leaf_below}
use Rattle.si_changes.specs.Leaves.{MayAddLeaf, IsTermAt}
use Rattle.si_changes.proofs.Borrowed.{bound_left}
use Rattle.si_changes.proofs.NewLeaves.{counted}
use Rattle.si_changes.proofs.ComposeLaws.{right_applied}
use Rattle.si_changes.proofs.LeafLaws.{adds_leaf, other_leaves_stay}
use Rattle.si_changes.proofs.PostingLaws.{leaf_here}
use Rattle.si_changes.proofs.StoredLaws.{OtherLeavesStay}
use Rattle.si_tree.specs.declared.node.Head.{Head}
use Rattle.si_tree.specs.declared.node.Head.TheVariants.{Sym, Var}
use Rattle.si_tree.specs.Decoding.{bindings_of}
use Rattle.si_tree.specs.Heads.{HasHead, IsChildBy}
use Rattle.si_tree.specs.Reading.{AtNode, split_of}
use Rattle.si_tree.specs.Changes.{MayAddPosting, AddsPosting, HasNewLeaf}
use Rattle.si_tree.proofs.DecodingLaws.{bindings_read}
use Rattle.si_insert.specs.declared.open.Opened.{Opened}
use Rattle.si_insert.specs.Opened.{open_pairs}
use Rattle.si_insert.specs.Inserting.{Inserts}
use Rattle.si_insert.specs.Underway.{IsInsertUnderway}
use Rattle.si_insert.specs.Walking.{IsAtInner, GivesHead}
use Rattle.si_insert.proofs.UnderwayLaws.{at_leaf}
use Rattle.si_insert.proofs.EndLaws.{may_add_leaf}
use Rattle.si_insert.proofs.WalkLaws.{Walk}

-- ---- where the walk stands
pub record IsHere (tree : Tree Term) (key : ℕ) (path : Path) : Type 0 where
  pub node : Node Term
  pub above : Path
  pub path_is : path ≡ (key, node) ∷ above
  pub has : HasNode tree key node

pub here : (tree : Tree Term) (cells : List Cell) (t : Term) (key : ℕ) (all : List Opened) → (w : Walk tree cells t key all) → IsHere tree key w.path
here tree cells t key all w = by w.path w.underway.reached where
  by : (p : Path) → IsPath tree (Some key) p → IsHere tree key p
  by [] reached = absurd cc
  by (step ∷ above) reached =
      let same : step.0 ≡ key = sym (same_Some key step.0 reached.0) in
      record {
        node = step.1;
        above = above;
        path_is = λ i. (same i, step.1) ∷ above;
        has = subst (λ k. HasNode tree k step.1) same reached.1;
      }

pub record IsInner (tree : Tree Term) (key split : ℕ) (path : Path) (there : List Binding) : Type 0 where
  pub node : Node Term
  pub above : Path
  pub children : List ℕ
  pub path_is : path ≡ (key, node) ∷ above
  pub has : HasNode tree key node
  pub content : node.content ≡ inner split children
  pub part : Term
  pub among : IsAmong there (split, part)

pub inner_here : (tree : Tree Term) (cells : List Cell) (t : Term) (key split : ℕ) (all : List Opened) → IsLegal tree → (w : Walk tree cells t key all) → AtNode tree key (λ n. Some split ≡ split_of n.content) → IsInner tree key split w.path w.there
inner_here tree cells t key split all legal w at = by h.node.content refl (at h.node h.has) where
  h : IsHere tree key w.path
  h = here tree cells t key all w

  by : (c : Content) → h.node.content ≡ c → Some split ≡ split_of h.node.content → IsInner tree key split w.path w.there
  by (leaf ps) e told = absurd (none (told ∙ ap split_of e)) where
    none : Some split ≡ None → ⊥
    none f = cc
  by (inner s children) e told =
      let is : s ≡ split = sym (same_Some split s (told ∙ ap split_of e)) in
      let content : h.node.content ≡ inner split children = e ∙ ap (λ n. inner n children) is in
      let k = legal.nodes key h.node h.has in
      let inside = (subst (IsLegalContent tree key ((key, h.node) ∷ k.above)) content k.content).0 in
      let same : (key, h.node) ∷ k.above ≡ w.path = one_path tree (Some key) ((key, h.node) ∷ k.above) w.path (refl, h.has, k.reached) w.underway.reached in
      let part = bound_left w.there split ((w.underway.binds.1 split).1 (subst (λ p. IsOpenBelow p split) same inside)) in
      record {
        node = h.node;
        above = h.above;
        children = children;
        path_is = h.path_is;
        has = h.has;
        content = content;
        part = part.0;
        among = part.1;
      }

-- what is open stands for terms of entries
some_head : (v : Term) → ((x : Variable) → IsAmong (terms.variables v) x → (m : ℕ) × (x ≡ entry m)) → (head : Head) × HasHead v head
some_head (terms.app s ts) h = (Sym s.number s.arity, (refl, refl))
some_head (terms.var (entry m)) h = (Var m, refl)
some_head (terms.var (query m)) h = absurd (no (h (query m) (inl refl)).0 (h (query m) (inl refl)).1) where
  no : (k : ℕ) → query m ≡ entry k → ⊥
  no k e = cc
some_head (terms.var (ind m)) h = absurd (no (h (ind m) (inl refl)).0 (h (ind m) (inl refl)).1) where
  no : (k : ℕ) → ind m ≡ entry k → ⊥
  no k e = cc

pub at_inner : (tree : Tree Term) (cells : List Cell) (t : Term) (key split : ℕ) (all : List Opened) → IsLegal tree → IsWhole cells → IsLeafTerm t → (w : Walk tree cells t key all) → IsInner tree key split w.path w.there → IsAtInner cells all split
at_inner tree cells t key split all legal whole is w i = record {
  whole = whole;
  there = w.there;
  stand = w.holds.stand;
  within = w.holds.within;
  distinct = subst AreDistinct (sym w.holds.numbers_are) (subst (λ p. AreDistinct (opened p)) (one_path tree (Some key) ((key, i.node) ∷ (legal.nodes key i.node i.has).above) w.path (refl, i.has, (legal.nodes key i.node i.has).reached) w.underway.reached) (legal.nodes key i.node i.has).opens);
  part = i.part;
  among = i.among;
  has_head = some_head i.part (λ x a.
      let inside = right_applied w.there (path_term w.path) (split, i.part) x w.underway.binds.0 i.among ((w.underway.binds.1 split).0 (binding_left w.there split i.part i.among)) a in
      let c = counted 0 is.numbered.0 x (subst (λ l. IsAmong l x) is.numbered.1 (among_firsts same_variable variable_is (terms.variables t) x (subst (λ v. IsAmong (terms.variables v) x) w.underway.gives inside))) in
      (c.0, c.1));
}

-- ---- a new leaf
pub stand_whole : (cs : List CellPair) (bs : List Binding) → StandForBindings cs bs → AreWhole cs
stand_whole [] [] h = tt
stand_whole [] (b ∷ bs) h = absurd h
stand_whole (c ∷ cs) [] h = absurd h
stand_whole (c ∷ cs) (b ∷ bs) h = ((b.1, h.1), stand_whole cs bs h.2)

pub bindings_whole : (tree : Tree Term) (cells : List Cell) (t : Term) (key : ℕ) (all : List Opened) (bindings : List CellPair) → (w : Walk tree cells t key all) → bindings ≡ open_pairs cells all → AreWhole bindings
bindings_whole tree cells t key all bindings w e = subst AreWhole (sym e) (stand_whole (open_pairs cells all) w.there w.holds.stand)

bindings_are : (tree : Tree Term) (cells : List Cell) (t : Term) (key : ℕ) (all : List Opened) (bindings : List CellPair) → (w : Walk tree cells t key all) → bindings ≡ open_pairs cells all → bindings_of bindings ≡ w.there
bindings_are tree cells t key all bindings w e = ap bindings_of e ∙ bindings_read (open_pairs cells all) w.there w.holds.stand

may_add : (tree : Tree Term) (cells : List Cell) (t : Term) (key split : ℕ) (all : List Opened) (p : Posting) (head : Head) → (w : Walk tree cells t key all) → (i : IsInner tree key split w.path w.there) → MayComeIn tree t p → HasHead i.part head → ((child : ℕ) → IsChildBy tree key head child → ⊥) → MayAddLeaf tree key w.there p
may_add tree cells t key split all p head w i may has none = may_add_leaf tree key split i.children i.node i.above t i.part w.there p head (subst (λ q. IsInsertUnderway tree key t q w.there) i.path_is w.underway) i.content i.among has none may

pub may_add_here : (tree : Tree Term) (cells : List Cell) (t : Term) (key split : ℕ) (all : List Opened) (p : Posting) (head : Head) (bindings : List CellPair) → (w : Walk tree cells t key all) → IsInner tree key split w.path w.there → MayComeIn tree t p → GivesHead cells all split head → ((child : ℕ) → IsChildBy tree key head child → ⊥) → bindings ≡ open_pairs cells all → MayAddLeaf tree key (bindings_of bindings) p
may_add_here tree cells t key split all p head bindings w i may gives none e = subst (λ bs. MayAddLeaf tree key bs p) (sym (bindings_are tree cells t key all bindings w e)) (may_add tree cells t key split all p head w i may (gives w.there i.part w.holds.stand i.among) none)

-- a leaf at this key, whose path has this term
pub leaf_at : (tree : Tree Term) (key : ℕ) (node : Node Term) (ps : List Posting) (t : Term) → HasNode tree key node → node.content ≡ leaf ps → IsTermAt tree key t → IsLeaf tree key t ps
leaf_at tree key node ps t has content at = by at.0 at.1 at.2 where
  by : (p : Path) → IsPath tree (Some key) p → t ≡ path_term p → IsLeaf tree key t ps
  by [] reached e = absurd cc
  by (step ∷ above) reached e =
      let same : step.0 ≡ key = sym (same_Some key step.0 reached.0) in
      let one : step.1 ≡ node = one_node tree key step.1 node (subst (λ k. HasNode tree k step.1) same reached.1) has in
      let all : step ∷ above ≡ (key, node) ∷ above = λ i. (same i, one i) ∷ above in
      record {
        node = node;
        above = above;
        reached = subst (IsPath tree (Some key)) all reached;
        content = content;
        term = e ∙ ap path_term all;
      }

-- a leaf with the new leaf's term is the new leaf, as all others stay
pub again_there : (old new : Tree Term) (key : ℕ) (t : Term) (ps : List Posting) → IsLegal new → OtherLeavesStay old new key → IsLeaf new key t ps → (k : ℕ) (qs : List Posting) → IsLeaf old k t qs → k ≡ key
again_there old new key t ps legal stay is k qs l = elim (cases_eq k key) as (λ _. k ≡ key) [
  | inl same ↦ same
  | inr differs ↦ legal.terms_differ k key t qs ps ((stay k differs t qs).0 l) is
]

pub leaf_added : (old new : Tree Term) (cells : List Cell) (t : Term) (key split new_key : ℕ) (all : List Opened) (p : Posting) (head : Head) (bindings : List CellPair) → IsLegal old → StandsFor cells t → (w : Walk old cells t key all) → IsInner old key split w.path w.there → MayComeIn old t p → GivesHead cells all split head → ((child : ℕ) → IsChildBy old key head child → ⊥) → bindings ≡ open_pairs cells all → HasNewLeaf old new key (bindings_of bindings) p new_key → Inserts old new cells p new_key
leaf_added old new cells t key split new_key all p head bindings legal stands w i may gives none e leaf_there =
    let may_here = may_add_here old cells t key split all p head bindings w i may gives none e in
    let a = adds_leaf old new key new_key (bindings_of bindings) p legal may_here leaf_there.adds t (term_is may_here) in
    let is_leaf = leaf_at new new_key (leaf_below key (bindings_of bindings) (p ∷ [])) (p ∷ []) t leaf_there.adds.new_leaf refl a.3 in
    record {
      gains = λ u other. subst (λ v. Gains old new v p) (one_term cells t u stands other) a.1;
      stands = λ u other. subst (λ v. StandsIn new new_key v p) (one_term cells t u stands other) (p ∷ [], is_leaf, inl refl);
      keeps = a.2;
      again = λ u k qs other l. again_there old new new_key t (p ∷ []) a.0 (other_leaves_stay old new key new_key (bindings_of bindings) p legal may_here leaf_there.adds) is_leaf k qs (subst (λ v. IsLeaf old k v qs) (sym (one_term cells t u stands other)) l);
    } where
      term_is : (m : MayAddLeaf old key (bindings_of bindings) p) → t ≡ applied (bindings_of bindings) (path_term ((key, m.node) ∷ m.above))
      term_is m = sym w.underway.gives ∙ (λ j. applied (sym (bindings_are old cells t key all bindings w e) j) (path_term (one_path old (Some key) w.path ((key, m.node) ∷ m.above) w.underway.reached m.reached j)))

-- ---- a leaf that is there
pub leaf_found : (tree : Tree Term) (cells : List Cell) (t : Term) (key : ℕ) (all : List Opened) → IsLegal tree → (w : Walk tree cells t key all) → AtNode tree key (λ n. None ≡ split_of n.content) → (ps : List Posting) × IsLeaf tree key t ps
leaf_found tree cells t key all legal w at = by h.node.content refl (at h.node h.has) where
  h : IsHere tree key w.path
  h = here tree cells t key all w

  by : (c : Content) → h.node.content ≡ c → None ≡ split_of h.node.content → (ps : List Posting) × IsLeaf tree key t ps
  by (inner s children) e told = absurd (some (told ∙ ap split_of e)) where
    some : None ≡ Some s → ⊥
    some f = cc
  by (leaf ps) e told = (ps, at_leaf tree key h.node h.above t w.there ps legal (subst (λ q. IsInsertUnderway tree key t q w.there) h.path_is w.underway) e)

pub may_post : (tree : Tree Term) (key : ℕ) (t : Term) (ps : List Posting) (p : Posting) → IsLeaf tree key t ps → MayComeIn tree t p → MayAddPosting tree key p
may_post tree key t ps p is may = record {
  node = is.node;
  postings = ps;
  has = is.reached.1;
  content = is.content;
  not_stored = may.not_stored;
}

pub posted : (old new : Tree Term) (cells : List Cell) (key : ℕ) (t : Term) (ps : List Posting) (p : Posting) → IsLegal old → StandsFor cells t → IsLeaf old key t ps → AddsPosting old new key p → Inserts old new cells p key
posted old new cells key t ps p legal stands is adds =
    let same : adds.changes.node ≡ is.node = one_node old key adds.changes.node is.node adds.changes.had is.reached.1 in
    let ps_are : ps ≡ adds.postings = leaf_same ps adds.postings (sym is.content ∙ ap (λ n. n.content) (sym same) ∙ adds.changes.content) in
    let is' = subst (IsLeaf old key t) ps_are is in
    let after = leaf_here old new key adds.postings (adds.postings ++ p ∷ []) legal adds.changes t adds.postings is' in
    record {
      gains = λ u other. subst (λ v. Gains old new v p) (one_term cells t u stands other) (adds.gains t is');
      stands = λ u other. subst (λ v. StandsIn new key v p) (one_term cells t u stands other) (adds.postings ++ p ∷ [], after, among_back adds.postings (p ∷ []) p (inl refl));
      keeps = adds.keeps;
      again = λ u k qs other l. legal.terms_differ k key t qs ps (subst (λ v. IsLeaf old k v qs) (sym (one_term cells t u stands other)) l) is;
    } where
      leaf_same : (qs rs : List Posting) → leaf qs ≡ leaf rs → qs ≡ rs
      leaf_same qs rs e = cc
