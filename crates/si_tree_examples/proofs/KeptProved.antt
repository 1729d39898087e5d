-- The two trees of kept clauses, proved.
use Rattle.std.proofs.Common.{◌≡◌, ◌⊎◌, inl, inr, ℕ, ◌*◌, ◌^◌, ◌<◌, zero, suc, Bool, true, false, List, [], ◌∷◌, ◌++◌, map, None, Some, Option, refl, ap, sym, ◌∙◌, subst, arith}
use Rattle.std.specs.Prelude.{slice_get, codes}
use Rattle.std.specs.List.{AllByRecursion}
use Rattle.std.proofs.lemmas.Option.{same_Some}
use Rattle.si_defs.specs.Bytes.{Bytes}
use Rattle.si_defs.specs.Clauses.{Clause}
use Rattle.si_defs.specs.Terms as terms
use Rattle.si_defs.specs.Symbols.{Symbol, IsNumbering}
use Rattle.si_defs.specs.Substitutions.{IsAmong, AreDistinct}
use Rattle.si_defs.specs.Entries.{Entry, literal_entry, term_entry, Placed, entries}
use Rattle.si_flat.specs.Cells.{entry, Term}
use Rattle.si_flat.specs.Flattened.{numbered_entry}
use Rattle.si_legal.specs.declared.Posting.{Posting}
use Rattle.si_legal.specs.Bindings.{IsIndicator, indicators_among}
use Rattle.si_legal.specs.Trees.{leaf, Node, Tree, HasNode, Path, IsPath, path_term, IsLeaf}
use Rattle.si_legal.specs.Legal.{IsWithin, IsLegal, IsLegalNode, IsLeafTerm, AreChildren}
use Rattle.si_legal.specs.StoredSets.{IsUnder}
use Rattle.si_legal.specs.KeptTrees.{is_literal, IsPostingOf, HoldsEntries}
use Rattle.si_legal.proofs.PathLaws.{one_path}
use Rattle.si_tree_examples.specs.SomeTerms.{f, a}
use Rattle.si_tree_examples.specs.SomeTrees.{root, leaf_holding, two_nodes, new_tree}
use Rattle.si_tree_examples.specs.SomeKept.{predicate_f, constant_a, argument, literal, clause_named, numbers, entry_of, literal_tree, subterm_tree, OneClause, NoForgottenSubterm, NoSwappedTrees, TwoClauses, NoForgottenClause}
use Rattle.si_tree_examples.proofs.FiveNodesProved.{each_node, no_leaf, not_none, other, postings_in}

-- ---- a tree of two nodes
record FitsLeaf (t : Term) : Type 0 where
  leaf_term : IsLeafTerm t
  plain : IsIndicator t → ⊥
  ground : terms.variables t ≡ []

abbrev top : Node Term
top = root (1 ∷ [])

abbrev bottom : Term → List Posting → Node Term
bottom t held = leaf_holding 0 ((0, t) ∷ []) held

record IsTheLeaf (t : Term) (held : List Posting) (key : ℕ) (u : Term) (postings : List Posting) : Type 0 where
  key_is : key ≡ 1
  term_is : u ≡ t
  postings_are : postings ≡ held

abbrev Tells : Term → List Posting → ℕ → Node Term → Type 0
Tells t held key node =
    (above : Path) → IsPath (two_nodes t held) node.parent above → (postings : List Posting)
    → node.content ≡ leaf postings → IsTheLeaf t held key (path_term ((key, node) ∷ above)) postings

tells : (t : Term) (held : List Posting) (key : ℕ) (node : Node Term) → HasNode (two_nodes t held) key node → Tells t held key node
tells t held =
    each_node (Tells t held) (two_nodes t held).nodes (
      (λ above path postings e. absurd (no_leaf 0 (1 ∷ []) postings e)),
      (
        (λ above path postings e. record {
          key_is = refl;
          term_is = ap (λ q. path_term ((1, bottom t held) ∷ q)) (one_path (two_nodes t held) (Some 0) above ((0, top) ∷ []) path (refl, refl, refl));
          postings_are = sym (ap postings_in e);
        }),
        tt,
      ),
    )

the_leaf : (t : Term) (held : List Posting) (key : ℕ) (u : Term) (postings : List Posting) → IsLeaf (two_nodes t held) key u postings → IsTheLeaf t held key u postings
the_leaf t held key u postings h = subst (λ v. IsTheLeaf t held key v postings) (sym h.term) (tells t held key h.node h.reached.1 h.above h.reached.2 postings h.content)

pub there : (t : Term) (held : List Posting) (p : Posting) → IsAmong held p → IsUnder (two_nodes t held) t p
there t held p among = (
  1,
  (
    held,
    record { node = bottom t held; above = (0, top) ∷ []; reached = (refl, refl, (refl, refl, refl)); content = refl; term = refl },
    among,
  ),
)

pub only : (t : Term) (held : List Posting) (u : Term) (q : Posting) → IsUnder (two_nodes t held) u q → (u ≡ t) × IsAmong held q
only t held u q h =
    let l = the_leaf t held h.0 u h.1.0 h.1.1 in
    (l.term_is, subst (λ ps. IsAmong ps q) l.postings_are h.1.2)

-- ---- it is legal
abbrev IsChild : Term → List Posting → ℕ → ℕ → Type 0
IsChild t held key child = (node : Node Term) × HasNode (two_nodes t held) child node × (node.parent ≡ Some key)

children_of_top : (t : Term) (held : List Posting) → AreChildren (two_nodes t held) 0 (1 ∷ [])
children_of_top t held child = (
  by,
  (λ h. each_node (λ k n. n.parent ≡ Some 0 → IsAmong (1 ∷ []) k) (two_nodes t held).nodes ((λ e. absurd (not_none 0 e)), ((λ e. inl refl), tt)) child h.0 h.1 h.2),
) where
  by : IsAmong (1 ∷ []) child → IsChild t held 0 child
  by (inl e) = subst (IsChild t held 0) e (bottom t held, refl, refl)
  by (inr n) = absurd n

children_of_bottom : (t : Term) (held : List Posting) → AreChildren (two_nodes t held) 1 []
children_of_bottom t held child = (
  absurd,
  (λ h. each_node (λ k n. n.parent ≡ Some 1 → ⊥) (two_nodes t held).nodes (not_none 1, (other 0 1 (λ e. omega (arith, e)), tt)) child h.0 h.1 h.2),
)

legal_top : (t : Term) (held : List Posting) → IsLegalNode (two_nodes t held) 0 top
legal_top t held = record {
  above = [];
  reached = refl;
  only_root = λ e. refl;
  binds = record { lefts = tt; distinct = tt; rights = tt; within = tt };
  opens = ((λ h. h), tt);
  content = (inl refl, children_of_top t held, ((t, (bottom t held, refl, inl refl), tt), tt), (λ differ. absurd (differ refl)));
}

legal_bottom : (t : Term) (held : List Posting) → FitsLeaf t → AreDistinct held → IsLegalNode (two_nodes t held) 1 (bottom t held)
legal_bottom t held fits distinct = record {
  above = (0, top) ∷ [];
  reached = (refl, refl, refl);
  only_root = λ e. absurd (not_none 0 (sym e));
  binds = record {
    lefts = (inl refl, tt);
    distinct = ((λ h. h), tt);
    rights = (fits.plain, tt);
    within = (subst (λ l. AllByRecursion (IsWithin (two_nodes t held)) l) (sym fits.ground) tt, tt);
  };
  opens = subst (λ l. AreDistinct (0 ∷ (indicators_among l ++ []))) (sym fits.ground) ((λ h. h), tt);
  content = (children_of_bottom t held, fits.leaf_term, distinct);
}

legal : (t : Term) (held : List Posting) → FitsLeaf t → AreDistinct held → IsLegal (two_nodes t held)
legal t held fits distinct = record {
  root = (top, refl, record { parent = refl; bindings = refl; splits = (1 ∷ [], refl) });
  nodes = each_node (IsLegalNode (two_nodes t held)) (two_nodes t held).nodes (legal_top t held, (legal_bottom t held fits distinct, tt));
  terms_differ = λ j k u ps qs m n. (the_leaf t held j u ps m).key_is ∙ sym (the_leaf t held k u qs n).key_is;
  postings_differ = λ j k u v q m n. (the_leaf t held j u m.0 m.1).key_is ∙ sym (the_leaf t held k v n.0 n.1).key_is;
  zero_known = omega arith;
  few_variables = omega arith;
}

-- ---- the entries of such clauses
-- the keys and the names of some that are kept
abbrev pub Named : Type 0
Named = List (ℕ × Bytes)

abbrev clauses_of : Named → List (ℕ × Clause)
clauses_of ns = map (λ n. (n.0, clause_named n.1)) ns

-- a posting of each, of the entry with this number
abbrev pub postings_of : ℕ → Named → List Posting
postings_of number ns = map (λ n. entry_of n.0 number) ns

abbrev pub entry_at : Bool → Entry
entry_at true = literal_entry literal
entry_at false = term_entry argument

abbrev pub number_at : Bool → ℕ
number_at true = 0
number_at false = 1

abbrev Places : Named → Posting → Entry → Type 0
Places ns p e = (literals : Bool) × IsAmong (postings_of (number_at literals) ns) p × (entry_at literals ≡ e)

places_of : (key : ℕ) (name : Bytes) (ns : Named) (p : Posting) (e : Entry) (placed : Placed) → key ≡ p.clause → slice_get (entries (clause_named name)) p.entry ≡ Some placed → placed.entry ≡ e → Places ((key, name) ∷ ns) p e
places_of key name ns p e placed k is entry_is = with_number p.entry refl is where
  none_some : ◌≡◌ {A = Option Placed} None (Some placed) → ⊥
  none_some d = cc

  posting_is : (n : ℕ) → n ≡ p.entry → entry_of key n ≡ p
  posting_is n d = λ i. record { clause = k i; entry = d i }

  with_number : (n : ℕ) → n ≡ p.entry → slice_get (entries (clause_named name)) n ≡ Some placed → Places ((key, name) ∷ ns) p e
  with_number zero d has = (true, inl (posting_is 0 d), ap (λ q. q.entry) (same_Some _ placed has) ∙ entry_is)
  with_number (suc zero) d has = (false, inl (posting_is 1 d), ap (λ q. q.entry) (same_Some _ placed has) ∙ entry_is)
  with_number (suc (suc n)) d has = absurd (none_some has)

further : (n : ℕ × Bytes) (ns : Named) (p : Posting) (e : Entry) → Places ns p e → Places (n ∷ ns) p e
further n ns p e at = (at.0, inr at.1, at.2)

places : (ns : Named) (p : Posting) (e : Entry) (h : IsPostingOf (clauses_of ns) p e) → Places ns p e
places ns p e h = by ns h.is_kept where
  by : (ms : Named) → IsAmong (clauses_of ms) (p.clause, h.clause) → Places ms p e
  by [] a = absurd a
  by (m ∷ ms) (inl d) = places_of m.0 m.1 ms p e h.placed (ap (λ q. q.0) d) (subst (λ c. slice_get (entries c) p.entry ≡ Some h.placed) (sym (ap (λ q. q.1) d)) h.numbered) h.entry_is
  by (m ∷ ms) (inr a) = further m ms p e (by ms a)

-- the entry of each stands there
abbrev KeepsEntry : Named → Bool → Posting → Type 0
KeepsEntry ns literals p = IsPostingOf (clauses_of ns) p (entry_at literals)

first_keeps : (n : ℕ × Bytes) (ns : Named) (literals : Bool) → KeepsEntry (n ∷ ns) literals (entry_of n.0 (number_at literals))
first_keeps n ns true = record {
  clause = clause_named n.1;
  placed = record { entry = literal_entry literal; place = record { literal = 1; path = [] } };
  is_kept = inl refl;
  numbered = refl;
  entry_is = refl;
}
first_keeps n ns false = record {
  clause = clause_named n.1;
  placed = record { entry = term_entry argument; place = record { literal = 1; path = 1 ∷ [] } };
  is_kept = inl refl;
  numbered = refl;
  entry_is = refl;
}

others_keep : (n : ℕ × Bytes) (ns : Named) (literals : Bool) (p : Posting) → KeepsEntry ns literals p → KeepsEntry (n ∷ ns) literals p
others_keep n ns literals p h = record {
  clause = h.clause;
  placed = h.placed;
  is_kept = inr h.is_kept;
  numbered = h.numbered;
  entry_is = h.entry_is;
}

each_keeps : (ns : Named) (literals : Bool) (p : Posting) → IsAmong (postings_of (number_at literals) ns) p → KeepsEntry ns literals p
each_keeps [] literals p a = absurd a
each_keeps (n ∷ ns) literals p (inl e) = subst (KeepsEntry (n ∷ ns) literals) e (first_keeps n ns literals)
each_keeps (n ∷ ns) literals p (inr a) = others_keep n ns literals p (each_keeps ns literals p a)

-- ---- their terms
abbrev pub term_at : Bool → Term
term_at literals = numbered_entry numbers entry (entry_at literals)

abbrev pub tree_at : Named → Bool → Tree Term
tree_at ns literals = two_nodes (term_at literals) (postings_of (number_at literals) ns)

pub kind_is : (literals : Bool) → is_literal (entry_at literals) ≡ literals
kind_is true = refl
kind_is false = refl

holds : (ns : Named) (literals : Bool) → HoldsEntries numbers (clauses_of ns) literals (tree_at ns literals)
holds ns literals t p = (
  (λ u. let is = only (term_at literals) (postings_of (number_at literals) ns) t p u in (entry_at literals, each_keeps ns literals p is.1, kind_is literals, is.0)),
  (λ h. by h.0 h.2 h.3 (places ns p h.0 h.1)),
) where
  by : (e : Entry) → is_literal e ≡ literals → t ≡ numbered_entry numbers entry e → Places ns p e → IsUnder (tree_at ns literals) t p
  by e kind is at =
      let same : at.0 ≡ literals = sym (kind_is at.0) ∙ ap is_literal at.2 ∙ kind in
      let term : term_at literals ≡ t = ap term_at (sym same) ∙ ap (numbered_entry numbers entry) at.2 ∙ sym is in
      subst (λ u. IsUnder (tree_at ns literals) u p) term
      (there (term_at literals) (postings_of (number_at literals) ns) p (subst (λ l. IsAmong (postings_of (number_at l) ns) p) same at.1))

-- ---- its numbers
abbrev Numbers : Symbol → ℕ → Type 0
Numbers s n = ((predicate_f ≡ s) × (2 ≡ n)) ⊎ ((constant_a ≡ s) × (6 ≡ n))

numbers_are : (s : Symbol) (n : ℕ) → IsAmong numbers (s, n) → Numbers s n
numbers_are s n (inl e) = inl (ap (λ q. q.0) e, ap (λ q. q.1) e)
numbers_are s n (inr (inl e)) = inr (ap (λ q. q.0) e, ap (λ q. q.1) e)
numbers_are s n (inr (inr h)) = absurd h

symbols_apart : predicate_f ≡ constant_a → ⊥
symbols_apart e = omega (arith, ap (λ s. s.arity) e)

are_numbers : IsNumbering numbers
are_numbers = record {
  one_number = λ s m n x y. one_number s m n (numbers_are s m x) (numbers_are s n y);
  one_symbol = λ s r n x y. one_symbol s r n (numbers_are s n x) (numbers_are r n y);
  even = λ s n x. even s n (numbers_are s n x);
  small = λ s n x. small s n (numbers_are s n x);
} where
  one_number : (s : Symbol) (m n : ℕ) → Numbers s m → Numbers s n → m ≡ n
  one_number s m n (inl x) (inl y) = sym x.1 ∙ y.1
  one_number s m n (inl x) (inr y) = absurd (symbols_apart (x.0 ∙ sym y.0))
  one_number s m n (inr x) (inl y) = absurd (symbols_apart (y.0 ∙ sym x.0))
  one_number s m n (inr x) (inr y) = sym x.1 ∙ y.1

  one_symbol : (s r : Symbol) (n : ℕ) → Numbers s n → Numbers r n → s ≡ r
  one_symbol s r n (inl x) (inl y) = sym x.0 ∙ y.0
  one_symbol s r n (inl x) (inr y) = absurd (omega (arith, x.1, y.1))
  one_symbol s r n (inr x) (inl y) = absurd (omega (arith, x.1, y.1))
  one_symbol s r n (inr x) (inr y) = sym x.0 ∙ y.0

  even : (s : Symbol) (n : ℕ) → Numbers s n → (half : ℕ) × (n ≡ 2 * half)
  even s n (inl x) = (1, sym x.1)
  even s n (inr x) = (3, sym x.1)

  small : (s : Symbol) (n : ℕ) → Numbers s n → n < 2 ^ 31
  small s n (inl x) = omega (arith, x.1)
  small s n (inr x) = omega (arith, x.1)

fits_literal : FitsLeaf (f (a ∷ []))
fits_literal = record {
  leaf_term = record { sound = (refl, ((refl, tt), tt)); numbered = (0, refl); size = omega arith };
  plain = λ h. h;
  ground = refl;
}

fits_subterm : FitsLeaf a
fits_subterm = record {
  leaf_term = record { sound = (refl, tt); numbered = (0, refl); size = omega arith };
  plain = λ h. h;
  ground = refl;
}

-- ---- one clause
abbrev pub one : Named
one = (5, codes "k") ∷ []

pub one_clause : OneClause
one_clause = record {
  keys = ((λ h. h), tt);
  numbering = are_numbers;
  numbered = (refl, (refl, tt));
  literals_legal = legal (f (a ∷ [])) (entry_of 5 0 ∷ []) fits_literal ((λ h. h), tt);
  subterms_legal = legal a (entry_of 5 1 ∷ []) fits_subterm ((λ h. h), tt);
  literals_held = holds one true;
  subterms_held = holds one false;
}

-- a new tree holds nothing
pub no_forgotten_subterm : NoForgottenSubterm
no_forgotten_subterm h =
    let under : IsUnder new_tree a (entry_of 5 1) = (h.subterms_held a (entry_of 5 1)).1 (term_entry argument, first_keeps (5, codes "k") [] false, refl, refl) in
    let l = under.1.1 in
    each_node (λ k n. n.content ≡ leaf under.1.0 → ⊥) new_tree.nodes ((λ e. no_leaf 0 [] under.1.0 e), tt) under.0 l.node l.reached.1 l.content

-- the entry of the literal isn't under the subterm
one_among : (p q : Posting) → IsAmong (p ∷ []) q → p ≡ q
one_among p q (inl e) = e
one_among p q (inr n) = absurd n

pub no_swapped_trees : NoSwappedTrees
no_swapped_trees h =
    let under : IsUnder subterm_tree (f (a ∷ [])) (entry_of 5 0) = (h.literals_held (f (a ∷ [])) (entry_of 5 0)).1 (literal_entry literal, first_keeps (5, codes "k") [] true, refl, refl) in
    let is = one_among (entry_of 5 1) (entry_of 5 0) (only a (entry_of 5 1 ∷ []) (f (a ∷ [])) (entry_of 5 0) under).1 in
    omega (arith, ap (λ p. p.entry) is)

-- ---- two clauses
abbrev pub two : Named
two = (5, codes "k") ∷ (7, codes "m") ∷ []

keys_differ : IsAmong {V = ℕ} (7 ∷ []) 5 → ⊥
keys_differ (inl e) = omega (arith, e)
keys_differ (inr n) = n

differ : (number : ℕ) → IsAmong (entry_of 7 number ∷ []) (entry_of 5 number) → ⊥
differ number (inl e) = omega (arith, ap (λ p. p.clause) e)
differ number (inr n) = n

pub two_clauses : TwoClauses
two_clauses = record {
  keys = (keys_differ, ((λ h. h), tt));
  numbering = are_numbers;
  numbered = (refl, (refl, (refl, (refl, tt))));
  literals_legal = legal (f (a ∷ [])) (entry_of 5 0 ∷ entry_of 7 0 ∷ []) fits_literal (differ 0, ((λ h. h), tt));
  subterms_legal = legal a (entry_of 5 1 ∷ entry_of 7 1 ∷ []) fits_subterm (differ 1, ((λ h. h), tt));
  literals_held = holds two true;
  subterms_held = holds two false;
}

pub no_forgotten_clause : NoForgottenClause
no_forgotten_clause h =
    let second = others_keep (5, codes "k") ((7, codes "m") ∷ []) true (entry_of 7 0) (first_keeps (7, codes "m") [] true) in
    let under : IsUnder literal_tree (f (a ∷ [])) (entry_of 7 0) = (h.literals_held (f (a ∷ [])) (entry_of 7 0)).1 (literal_entry literal, second, refl, refl) in
    let is = one_among (entry_of 5 0) (entry_of 7 0) (only (f (a ∷ [])) (entry_of 5 0 ∷ []) (f (a ∷ [])) (entry_of 7 0) under).1 in
    omega (arith, ap (λ p. p.clause) is)
