-- Which postings are stored in a tree that gains and loses them one by one, as the tests want it.
use Rattle.std.proofs.Common.{◌≡◌, ◌<◌, ◌⊎◌, ◌++◌, ℕ, suc, List, [], ◌∷◌, inl, inr, ap, ◌∙◌, subst, arith}
use Rattle.si_defs.specs.Substitutions.{IsAmong}
use Rattle.si_defs.proofs.ListLaws.{among_either}
use Rattle.si_flat.specs.declared.Cell.{Cell}
use Rattle.si_flat.specs.Cells.{Term, StandsFor, cells_of}
use Rattle.si_legal.specs.declared.Posting.{Posting}
use Rattle.si_legal.specs.Trees.{Tree, StandsIn}
use Rattle.si_legal.specs.Legal.{IsLegal, IsLeafTerm}
use Rattle.si_legal.specs.StoredSets.{AreUnder, IsUnder, Gains, Loses}
use Rattle.si_legal.proofs.PathLaws.{one_node}
use Rattle.si_changes.proofs.EqualTerms.{term_or_not}
use Rattle.si_changes.proofs.PostingLaws.{among_without}
use Rattle.si_changes.proofs.StoredLaws.{among_leaf}
use Rattle.si_tree.specs.NewTrees.{IsRootAlone}
use Rattle.si_tree.specs.Changes.{DropsPosting}
use Rattle.si_tree.proofs.RootLaws.{no_leaf}
use Rattle.si_insert.specs.Inserting.{MayInsert, Inserts}
use Rattle.si_insert.proofs.AnewLaws.{stored_there}

-- this holds of all that are stored
abbrev pub AllStored : Tree Term → (Posting → Type 0) → Type 0
AllStored tree P = (t : Term) (p : Posting) → IsUnder tree t p → P p

-- all that are stored are of clauses below this one
abbrev pub AreBelow : Tree Term → ℕ → Type 0
AreBelow tree n = AllStored tree (λ p. p.clause < n)

pub all_of_none : (P : Posting → Type 0) (tree : Tree Term) → IsRootAlone tree → AllStored tree P
all_of_none P tree alone t p h = absurd (no_leaf tree h.0 t h.1.0 alone h.1.1)

pub none_stored : (tree : Tree Term) → IsRootAlone tree → AreBelow tree 0
none_stored tree alone = all_of_none (λ p. p.clause < 0) tree alone

-- ---- under one term
all_in : (P : Posting → Type 0) (tree : Tree Term) (t : Term) (ps : List Posting) (q : Posting) → AreUnder tree t ps → AllStored tree P → IsAmong ps q → P q
all_in P tree t ps q (inl there) all a = all t q (there.0, (ps, there.1, a))
all_in P tree t ps q (inr none) all a = absurd (subst (λ qs. IsAmong qs q) none.1 a)

below_in : (tree : Tree Term) (t : Term) (ps : List Posting) (n : ℕ) (q : Posting) → AreUnder tree t ps → AreBelow tree n → IsAmong ps q → q.clause < n
below_in tree t ps n q under below a = all_in (λ p. p.clause < n) tree t ps q under below a

-- ---- what comes and goes
pub all_gained : (P Q : Posting → Type 0) (old new : Tree Term) (t : Term) (p : Posting) → IsLegal new → AllStored old P → Gains old new t p → ((q : Posting) → P q → Q q) → Q p → AllStored new Q
all_gained P Q old new t p legal all g weaker this u q h = elim (term_or_not u t) as (λ _. Q q) [
  | inl same ↦ here (among_either g.before p q (among_leaf new t (g.before ++ p ∷ []) q legal g.last (subst (λ x. IsUnder new x q) same h)))
  | inr other ↦ weaker q (all u q (stored_there new old u q (λ ps k. (g.others u ps other).1 k) h))
] where
  here : IsAmong g.before q ⊎ (p ≡ q) → Q q
  here (inl a) = weaker q (all_in P old t g.before q g.had all a)
  here (inr e) = subst Q e this

pub gained : (old new : Tree Term) (t : Term) (p : Posting) → IsLegal new → AreBelow old p.clause → Gains old new t p → AreBelow new (suc p.clause)
gained old new t p legal below g = all_gained (λ q. q.clause < p.clause) (λ q. q.clause < suc p.clause) old new t p legal below g (λ q h. omega (arith, h)) (omega arith)

pub lost : (old new : Tree Term) (t : Term) (p : Posting) (n : ℕ) → IsLegal new → AreBelow old n → Loses old new t p → AreBelow new n
lost old new t p n legal below l u q h = elim (term_or_not u t) as (λ _. q.clause < n) [
  | inl same ↦ below_in old t (l.before ++ p ∷ l.after) n q l.had below (among_without l.before l.after p q (among_leaf new t (l.before ++ l.after) q legal l.has (subst (λ x. IsUnder new x q) same h)))
  | inr other ↦ below u q (stored_there new old u q (λ ps k. (l.others u ps other).1 k) h)
]

pub dropped : (old new : Tree Term) (key : ℕ) (t : Term) (p : Posting) (n : ℕ) → IsLegal new → AreBelow old n → StandsIn old key t p → DropsPosting old new key p → AreBelow new n
dropped old new key t p n legal below stands d = lost old new t p n legal below (d.loses t (record {
  node = stands.1.node;
  above = stands.1.above;
  reached = stands.1.reached;
  content = ap (λ m. m.content) (one_node old key stands.1.node d.changes.node stands.1.reached.1 d.changes.had) ∙ d.changes.content;
  term = stands.1.term;
}))

-- ---- insertions
stands_for : (cells : List Cell) (t : Term) → cells ≡ cells_of t → IsLeafTerm t → StandsFor cells t
stands_for cells t e is = record { cells_are = e; sound = is.sound }

pub may_insert_beside : (P : Posting → Type 0) (tree : Tree Term) (cells : List Cell) (t : Term) (p : Posting) → cells ≡ cells_of t → IsLeafTerm t → AllStored tree P → (P p → ⊥) → MayInsert tree cells p
may_insert_beside P tree cells t p e is all not = (
  t,
  stands_for cells t e is,
  record { leaf_term = is; not_stored = λ u h. not (all u p h) },
)

pub may_insert : (tree : Tree Term) (cells : List Cell) (t : Term) (p : Posting) → cells ≡ cells_of t → IsLeafTerm t → AreBelow tree p.clause → MayInsert tree cells p
may_insert tree cells t p e is below = may_insert_beside (λ q. q.clause < p.clause) tree cells t p e is below (λ h. omega (arith, h))

module _ (old new : Tree Term) (cells : List Cell) (t : Term) (p : Posting) (key : ℕ) (e : cells ≡ cells_of t) (is : IsLeafTerm t) (i : Inserts old new cells p key) where
  pub inserted : IsLegal new → AreBelow old p.clause → AreBelow new (suc p.clause)
  inserted legal below = gained old new t p legal below (i.gains t (stands_for cells t e is))

  pub stands_in : StandsIn new key t p
  stands_in = i.stands t (stands_for cells t e is)

  pub all_inserted : (P Q : Posting → Type 0) → IsLegal new → AllStored old P → ((q : Posting) → P q → Q q) → Q p → AllStored new Q
  all_inserted P Q legal all weaker this = all_gained P Q old new t p legal all (i.gains t (stands_for cells t e is)) weaker this
