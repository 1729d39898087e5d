-- Each kept entry is posted in one leaf of one of two trees, once.
use Rattle.std.proofs.Common.{◌≡◌, inl, inr, ℕ, Bool, List, ◌∷◌, refl, sym, ap, ◌∙◌, subst}
use Rattle.si_defs.specs.Symbols.{Numbering}
use Rattle.si_defs.specs.Substitutions.{IsAmong}
use Rattle.si_defs.specs.Clauses.{Clause}
use Rattle.si_defs.specs.Entries.{Entry}
use Rattle.si_flat.specs.Cells.{entry, Term}
use Rattle.si_flat.specs.Flattened.{numbered_entry}
use Rattle.si_legal.specs.declared.Posting.{Posting}
use Rattle.si_legal.specs.Trees.{leaf, IsLeaf, StandsIn}
use Rattle.si_legal.specs.Legal.{IsLegalContent}
use Rattle.si_legal.specs.Engines.{AreAnswers}
use Rattle.si_legal.specs.StoredSets.{AreUnder, IsUnder}
use Rattle.si_legal.specs.KeptTrees.{is_literal, IsPostingOf}
use Rattle.si_changes.proofs.StoredLaws.{one_leaf}
use Rattle.si_held.specs.TwoTrees.{TwoTrees, tree_for, Hold}
use Rattle.si_held.specs.KeptEntries.{IsKeptEntry, IsPostedOnce}
use Rattle.si_held.proofs.KeyLaws.{one_entry}
use Rattle.si_held.proofs.Holding.{held, legal_for}

module _ (numbers : Numbering) (kept : List (ℕ × Clause)) (trees : TwoTrees) (h : Hold numbers kept trees) where
  -- under each term stand the postings of the kept entries that are this term, each once, and no others
  pub posted_under : (literals : Bool) (t : Term) (postings : List Posting) → AreUnder (tree_for literals trees) t postings → AreAnswers (IsKeptEntry numbers kept literals t) postings
  posted_under literals t postings (inl l) =
      let node = (legal_for numbers kept trees h literals).nodes l.0 l.1.node l.1.reached.1 in
      let content : IsLegalContent (tree_for literals trees) l.0 ((l.0, l.1.node) ∷ node.above) (leaf postings) = subst (IsLegalContent (tree_for literals trees) l.0 ((l.0, l.1.node) ∷ node.above)) l.1.content node.content in
      record {
        distinct = content.2;
        exact = λ p. (
          (λ a. (held numbers kept trees h literals t p).0 (l.0, (postings, l.1, a))),
          (λ e. of_leaf p ((held numbers kept trees h literals t p).1 e)),
        );
      }
    where
      of_leaf : (p : Posting) → IsUnder (tree_for literals trees) t p → IsAmong postings p
      of_leaf p u =
          let same : u.0 ≡ l.0 = (legal_for numbers kept trees h literals).terms_differ u.0 l.0 t u.1.0 postings u.1.1 l.1 in
          let there = subst (λ k. IsLeaf (tree_for literals trees) k t u.1.0) same u.1.1 in
          subst (λ ps. IsAmong ps p) (one_leaf (tree_for literals trees) l.0 t t u.1.0 postings there l.1).1 u.1.2
  posted_under literals t postings (inr none) =
      let no_one : (p : Posting) → IsUnder (tree_for literals trees) t p → ⊥ = λ p u. none.0 u.0 u.1.0 u.1.1 in
      subst (AreAnswers (IsKeptEntry numbers kept literals t)) (sym none.1) (record {
        distinct = tt;
        exact = λ p. ((λ a. absurd a), (λ e. no_one p ((held numbers kept trees h literals t p).1 e)));
      })

  -- each kept entry's posting stands in one leaf, under the entry's term
  pub posted_once : (p : Posting) (e : Entry) → IsPostingOf kept p e → IsPostedOnce trees (is_literal e) (numbered_entry numbers entry e) p
  posted_once p e posting =
      let t = numbered_entry numbers entry e in
      let there = (held numbers kept trees h (is_literal e) t p).1 (e, posting, refl, refl) in
      record {
        key = there.0;
        postings = there.1.0;
        leaf = there.1.1;
        among = there.1.2;
        distinct = (posted_under (is_literal e) t there.1.0 (inl (there.0, there.1.1))).distinct;
        only = λ other k u stands. only other k u stands ((held numbers kept trees h other u p).0 (k, stands)) there.0 there.1;
      }
    where
      only : (other : Bool) (k : ℕ) (u : Term) → StandsIn (tree_for other trees) k u p → IsKeptEntry numbers kept other u p → (key : ℕ) → StandsIn (tree_for (is_literal e) trees) key (numbered_entry numbers entry e) p → (other ≡ is_literal e) × (k ≡ key) × (u ≡ numbered_entry numbers entry e)
      only other k u stands f key there =
          let same : f.0 ≡ e = one_entry kept p f.0 e h.keys f.1 posting in
          let kind : other ≡ is_literal e = sym f.2 ∙ ap is_literal same in (
            kind,
            (legal_for numbers kept trees h (is_literal e)).postings_differ k key u (numbered_entry numbers entry e) p (subst (λ b. StandsIn (tree_for b trees) k u p) kind stands) there,
            f.3 ∙ ap (numbered_entry numbers entry) same,
          )
