-- A tree gains a posting and loses one, proved.
use Rattle.std.proofs.Common.{◌≡◌, inl, inr, ℕ, zero, suc, List, [], ◌∷◌, ◌++◌, Some, refl, ap, sym, ◌∙◌, subst, arith}
use Rattle.std.specs.Prelude.{◌≢◌}
use Rattle.si_flat.specs.Cells.{Term}
use Rattle.si_legal.specs.declared.Posting.{Posting}
use Rattle.si_legal.specs.Trees.{leaf, Node, HasNode, Path, IsPath, path_term, IsLeaf, StandsIn}
use Rattle.si_defs.specs.Substitutions.{IsAmong}
use Rattle.si_legal.specs.StoredSets.{AreUnder, IsUnder, OthersStay}
use Rattle.si_legal.proofs.PathLaws.{one_path}
use Rattle.si_changes.specs.Nodes.{OtherNodesStay, ChangesPostings}
use Rattle.si_changes.proofs.PostingLaws as gained
use Rattle.si_changes.proofs.StoredLaws.{one_leaf}
use Rattle.si_tree_examples.specs.SomeTerms.{c}
use Rattle.si_tree_examples.specs.SomeTrees.{posting, leaf_holding, five_holding, five_nodes, five_shared, SharedLeaf, NoTurnedPostings}
use Rattle.si_tree_examples.specs.SomeChanges.{GainsPosting, NoGainInFront, LosesPosting, KeepsLeaf}
use Rattle.si_tree_examples.proofs.FiveNodesProved.{each_node, leaf_a, leaf_b, above_leaf, above_middle, no_leaf, postings_in, key_of, symbol_in, five_legal, holds}

abbrev holder : List Posting → Node Term
holder held = leaf_holding 0 ((0, c) ∷ []) held

-- what is known of a leaf: that of c has what is held, and the others don't go by it
record Known (held : List Posting) (key : ℕ) (t : Term) (postings : List Posting) : Type 0 where
  by_term : key ≡ key_of t
  stays : (others : List Posting) → t ≢ c → IsLeaf (five_holding others) key t postings
  holds : t ≡ c → postings ≡ held

abbrev Tells : List Posting → ℕ → Node Term → Type 0
Tells held key node =
    (above : Path) → IsPath (five_holding held) node.parent above → (postings : List Posting)
    → node.content ≡ leaf postings → Known held key (path_term ((key, node) ∷ above)) postings

tells_other : (held : List Posting) (key : ℕ) (node : Node Term) → ((others : List Posting) → IsPath (five_holding others) (Some key) ((key, node) ∷ above_leaf)) → path_term ((key, node) ∷ above_leaf) ≢ c → key ≡ key_of (path_term ((key, node) ∷ above_leaf)) → Tells held key node
tells_other held key node leads differs by_term above path postings e =
    subst (λ q. Known held key (path_term ((key, node) ∷ q)) postings) (one_path (five_holding held) node.parent above_leaf above (leads held).2 path) (record {
      by_term = by_term;
      stays = λ others d. record { node = node; above = above_leaf; reached = leads others; content = e; term = refl };
      holds = λ d. absurd (differs d);
    })

tells : (held : List Posting) (key : ℕ) (node : Node Term) → HasNode (five_holding held) key node → Tells held key node
tells held =
    each_node (Tells held) (five_holding held).nodes (
      (λ above path postings e. absurd (no_leaf 0 (2 ∷ 4 ∷ []) postings e)),
      (
        tells_other held 1 leaf_a (λ others. (refl, refl, (refl, refl, (refl, refl, refl)))) (λ d. omega (arith, ap symbol_in d)) refl,
        (
          (λ above path postings e. absurd (no_leaf 1 (1 ∷ 3 ∷ []) postings e)),
          (
            tells_other held 3 leaf_b (λ others. (refl, refl, (refl, refl, (refl, refl, refl)))) (λ d. omega (arith, ap symbol_in d)) refl,
            (tells_c, tt),
          ),
        ),
      ),
    ) where
      tells_c : Tells held 4 (holder held)
      tells_c above path postings e =
          subst (λ q. Known held 4 (path_term ((4, holder held) ∷ q)) postings) (one_path (five_holding held) (Some 0) above_middle above (refl, refl, refl) path) (record {
            by_term = refl;
            stays = λ others d. absurd (d refl);
            holds = λ d. sym (ap postings_in e);
          })

known : (held : List Posting) (key : ℕ) (t : Term) (postings : List Posting) → IsLeaf (five_holding held) key t postings → Known held key t postings
known held key t postings h = subst (λ u. Known held key u postings) (sym h.term) (tells held key h.node h.reached.1 h.above h.reached.2 postings h.content)

-- ---- under other terms
stays_under : (held others : List Posting) (t : Term) (postings : List Posting) → t ≢ c → AreUnder (five_holding held) t postings → AreUnder (five_holding others) t postings
stays_under held others t postings differ (inl h) = inl (h.0, (known held h.0 t postings h.1).stays others differ)
stays_under held others t postings differ (inr h) = inr ((λ key ps l. h.0 key ps ((known others key t ps l).stays held differ)), h.1)

others_stay : (held others : List Posting) → OthersStay (five_holding held) (five_holding others) c
others_stay held others = λ t postings differ. (stays_under held others t postings differ, stays_under others held t postings differ)

-- ---- under c
leaf_of_c : (held : List Posting) → IsLeaf (five_holding held) 4 c held
leaf_of_c held = record {
  node = holder held;
  above = above_middle;
  reached = (refl, refl, (refl, refl, refl));
  content = refl;
  term = refl;
}

under_c : (held : List Posting) → AreUnder (five_holding held) c held
under_c held = inl (4, leaf_of_c held)

only_under_c : (held postings : List Posting) → AreUnder (five_holding held) c postings → postings ≡ held
only_under_c held postings (inl h) = (known held h.0 c postings h.1).holds refl
only_under_c held postings (inr h) = absurd (h.0 4 held (leaf_of_c held))

-- ---- changes
pub gains_posting : GainsPosting
gains_posting = record {
  before = posting 2 ∷ [];
  had = under_c (posting 2 ∷ []);
  last = under_c (posting 2 ∷ posting 3 ∷ []);
  others = others_stay (posting 2 ∷ []) (posting 2 ∷ posting 3 ∷ []);
}

abbrev first_clause : List Posting → ℕ
first_clause [] = 0
first_clause (p ∷ ps) = p.clause

pub no_turned_postings : NoTurnedPostings
no_turned_postings h = omega (arith, ap first_clause (only_under_c (posting 2 ∷ posting 3 ∷ []) (posting 3 ∷ posting 2 ∷ []) h))

-- the second posting comes into a legal tree
same_elsewhere : OtherNodesStay five_nodes five_shared (4 ∷ [])
same_elsewhere zero other = refl
same_elsewhere (suc zero) other = refl
same_elsewhere (suc (suc zero)) other = refl
same_elsewhere (suc (suc (suc zero))) other = refl
same_elsewhere (suc (suc (suc (suc zero)))) other = absurd (other (inl refl))
same_elsewhere (suc (suc (suc (suc (suc n))))) other = refl

shared : ChangesPostings five_nodes five_shared 4 (posting 2 ∷ []) (posting 2 ∷ posting 3 ∷ [])
shared = record {
  node = holder (posting 2 ∷ []);
  had = refl;
  content = refl;
  has = refl;
  others = same_elsewhere;
  root = refl;
  next = refl;
  vars = refl;
}

third_new : (u : Term) → IsUnder five_nodes u (posting 3) → ⊥
third_new u h =
    let key : h.0 ≡ 4 = holds h.0 u (posting 3) h.1 in
    let here : IsLeaf five_nodes 4 u h.1.0 = subst (λ k. IsLeaf five_nodes k u h.1.0) key h.1.1 in
    by (subst (λ ps. IsAmong ps (posting 3)) (one_leaf five_nodes 4 u c h.1.0 (posting 2 ∷ []) here (leaf_of_c (posting 2 ∷ []))).1 h.1.2) where
      by : IsAmong (posting 2 ∷ []) (posting 3) → ⊥
      by (inl e) = omega (arith, ap (λ p. p.clause) e)
      by (inr n) = n

pub shared_leaf : SharedLeaf
shared_leaf = (
  (gained.gains_posting five_nodes five_shared 4 (posting 2 ∷ []) (posting 3) c five_legal shared (leaf_of_c (posting 2 ∷ [])) third_new).0,
  refl,
  under_c (posting 2 ∷ posting 3 ∷ []),
)

pub no_gain_in_front : NoGainInFront
no_gain_in_front h =
    let was = only_under_c (posting 2 ∷ []) h.before h.had in
    let is = only_under_c (posting 3 ∷ posting 2 ∷ []) (h.before ++ posting 3 ∷ []) h.last in
    omega (arith, ap first_clause (sym (ap (λ l. l ++ posting 3 ∷ []) was) ∙ is))

pub loses_posting : LosesPosting
loses_posting = record {
  before = [];
  after = posting 3 ∷ [];
  had = under_c (posting 2 ∷ posting 3 ∷ []);
  has = under_c (posting 3 ∷ []);
  others = others_stay (posting 2 ∷ posting 3 ∷ []) (posting 3 ∷ []);
}

pub keeps_leaf : KeepsLeaf
keeps_leaf key t p was is =
    let key_was = (known (posting 2 ∷ posting 3 ∷ []) key t was.0 was.1).by_term in
    let key_is = (known (posting 3 ∷ []) is.0 t is.1.0 is.1.1).by_term in
    subst (λ k. StandsIn (five_holding (posting 3 ∷ [])) k t p) (key_is ∙ sym key_was) is.1
