-- What is found at the nodes that were passed.
use Rattle.std.proofs.Common.{◌≡◌, ◌↔◌, inl, inr, ℕ, ◌+◌, ◌≤◌, List, [], ◌∷◌, ◌++◌, Some, length, vec_capacity, refl, sym, ◌∙◌, subst}
use Rattle.std.proofs.lemmas.Option.{same_Some}
use Rattle.std.specs.Prelude.{Vec}
use Rattle.si_defs.specs.Substitutions.{IsAmong, AreDistinct}
use Rattle.si_defs.proofs.ListLaws.{among_front, among_back, among_parts}
use Rattle.si_flat.specs.Cells.{Term, StandsFor}
use Rattle.si_unify.proofs.Reading.{one_term}
use Rattle.si_legal.specs.declared.Posting.{Posting}
use Rattle.si_legal.specs.Descents.{IsAnswerBelow}
use Rattle.si_legal.specs.Trees.{Content, inner, leaf, Node, Tree, HasNode, Path, IsPath, PassesBy, IsLeaf, path_term}
use Rattle.si_legal.specs.Legal.{IsLegal, IsLegalContent}
use Rattle.si_legal.specs.OpenNodes.{IsOpen}
use Rattle.si_legal.proofs.PathLaws.{one_path}
use Rattle.si_changes.proofs.Frames.{legal_nodes}
use Rattle.si_tree.specs.Reading.{IsNode, postings_of}
use Rattle.si_descend.specs.declared.search.Search.{Search}
use Rattle.si_descend.specs.Lending.{HasRoomForAnswers}
use Rattle.si_descend.specs.Searching.{IsReady, IsOpenAt, IsClosedAt, HasFound}
use Rattle.si_descend.proofs.AtLeaves.{open_relates}
use Rattle.si_descend.proofs.ExactLists.{distinct_both}
use Rattle.si_descend.proofs.Finding.{none_open, leaf_numbered, answer_open}
use Rattle.si_descend.proofs.Passing.{HasPassed, passing_ends}
use Rattle.si_descend.proofs.Visiting.{query_numbered}

-- the posting stands in one of these nodes
pub record StandsAtOne (tree : Tree Term) (keys : List ℕ) (p : Posting) : Type 0 where
  pub key : ℕ
  pub there : IsAmong keys key
  pub node : Node Term
  pub has : HasNode tree key node
  pub among : IsAmong (postings_of node.content) p

-- these are all postings of these nodes
pub record HasGathered (tree : Tree Term) (keys : List ℕ) (ps : List Posting) : Type 0 where
  pub distinct : AreDistinct ps
  pub exact : (p : Posting) → IsAmong ps p ↔ StandsAtOne tree keys p

module _ (tree : Tree Term) (legal : IsLegal tree) where
  -- ---- one node
  up : (key : ℕ) (node : Node Term) → HasNode tree key node → Path
  up key node has = (legal.nodes key node has).above

  there : (key : ℕ) (node : Node Term) (has : HasNode tree key node) → IsPath tree (Some key) ((key, node) ∷ up key node has)
  unfolding up
  there key node has = (refl, has, (legal.nodes key node has).reached)

  leaf_there : (key : ℕ) (node : Node Term) (has : HasNode tree key node) (p : Posting) → IsAmong (postings_of node.content) p → IsLeaf tree key (path_term ((key, node) ∷ up key node has)) (postings_of node.content)
  leaf_there key node has p = by node.content refl where
    by : (content : Content) → node.content ≡ content → IsAmong (postings_of content) p → IsLeaf tree key (path_term ((key, node) ∷ up key node has)) (postings_of content)
    by (inner split children) e a = absurd a
    by (leaf ps) e a = record { node = node; above = up key node has; reached = there key node has; content = e; term = refl }

  own_distinct : (key : ℕ) (node : Node Term) → HasNode tree key node → AreDistinct (postings_of node.content)
  own_distinct key node has = by node.content (legal.nodes key node has).content where
    by : (content : Content) → IsLegalContent tree key ((key, node) ∷ (legal.nodes key node has).above) content → AreDistinct (postings_of content)
    by (inner split children) h = tt
    by (leaf ps) h = h.2

  one_key : (key other : ℕ) (node node' : Node Term) (p : Posting) → HasNode tree key node → HasNode tree other node' → IsAmong (postings_of node.content) p → IsAmong (postings_of node'.content) p → key ≡ other
  one_key key other node node' p has has' a b =
      legal.postings_differ key other (path_term ((key, node) ∷ up key node has)) (path_term ((other, node') ∷ up other node' has')) p (postings_of node.content, leaf_there key node has p a, a) (postings_of node'.content, leaf_there other node' has' p b, b)

  -- ---- turns
  pub gathered_none : HasGathered tree [] []
  gathered_none = record { distinct = tt; exact = λ p. (λ a. absurd a, λ s. s.there) }

  pub gathered_more : (keys : List ℕ) (ps : List Posting) (key : ℕ) (node : Node Term) → HasGathered tree keys ps → (IsAmong keys key → ⊥) → HasNode tree key node → HasGathered tree (key ∷ keys) (ps ++ postings_of node.content)
  gathered_more keys ps key node h new has = record {
    distinct = distinct_both ps (postings_of node.content) h.distinct (own_distinct key node has) (λ p a b. (
        let s = (h.exact p).0 a in
        new (subst (IsAmong keys) (one_key s.key key s.node node p s.has has s.among b) s.there)));
    exact = λ p. (
      λ a. elim (among_parts ps (postings_of node.content) p a) as (λ _. StandsAtOne tree (key ∷ keys) p) [
        | inl b ↦ (let s = (h.exact p).0 b in record { key = s.key; there = inr s.there; node = s.node; has = s.has; among = s.among })
        | inr b ↦ record { key = key; there = inl refl; node = node; has = has; among = b }
      ],
      λ s. back p s.key s.node s.there s.has s.among,
    );
  } where
    back : (p : Posting) (k : ℕ) (n : Node Term) → IsAmong (key ∷ keys) k → HasNode tree k n → IsAmong (postings_of n.content) p → IsAmong (ps ++ postings_of node.content) p
    back p k n (inl e) has' b =
        among_back ps (postings_of node.content) p (subst (λ m. IsAmong (postings_of m.content) p) (sym (one_here node n has (subst (λ j. HasNode tree j n) (sym e) has'))) b)
      where
        one_here : (m n : Node Term) → HasNode tree key m → HasNode tree key n → m ≡ n
        one_here m n p q = same_Some m n (sym p ∙ q)
    back p k n (inr a) has' b = among_front ps (postings_of node.content) p ((h.exact p).1 (record { key = k; there = a; node = n; has = has'; among = b }))

module _ (search : Search) (ready : IsReady search) (top : ℕ) where
  -- below a closed node no node is open
  pub none_in : (closed : ℕ) → IsNode search.tree.now closed → IsClosedAt search closed → (key : ℕ) (p : Path) → IsPath search.tree.now (Some key) p → PassesBy p closed → IsOpenAt search key → ⊥
  none_in closed is shut key p leads passes open_there =
      let path = there search.tree.now ready.legal closed is.0 is.1 in
      none_open search.tree.now ready.legal search.relation ready.term ready.query.numbered closed ((closed, is.0) ∷ up search.tree.now ready.legal closed is.0 is.1) path
      (shut ready.term ((closed, is.0) ∷ up search.tree.now ready.legal closed is.0 is.1) ready.query.stands path)
      key (record { path = p; leads = leads; below = passes; open_for = open_there ready.term p ready.query.stands leads })

  open_for_all : (q : Term) → StandsFor search.query.now q → (key : ℕ) (p : Path) → IsPath search.tree.now (Some key) p → IsOpen search.relation q (path_term p) → IsOpenAt search key
  open_for_all q h key p leads is q' p' h' leads' =
      subst (λ t. IsOpen search.relation t (path_term p')) (one_term search.query.now q q' h h')
      (subst (λ r. IsOpen search.relation q (path_term r)) (one_path search.tree.now (Some key) p p' leads leads') is)

  -- ---- what is found in the end, and underway
  answer_there : (tops keys : List ℕ) (ps : List Posting) → HasPassed search.tree.now (IsOpenAt search) top tops keys → HasGathered search.tree.now keys ps → (q : Term) → StandsFor search.query.now q → (p : Posting) → IsAmong ps p → IsAnswerBelow search.tree.now top search.relation q p
  answer_there tops keys ps passed gathered q h p a =
      let s = (gathered.exact p).0 a in
      let own = leaf_there search.tree.now ready.legal s.key s.node s.has p s.among in
      let in_there = passed.are_in s.key s.there in
      record {
        key = s.key;
        term = path_term ((s.key, s.node) ∷ up search.tree.now ready.legal s.key s.node s.has);
        postings = postings_of s.node.content;
        leaf = own;
        below = subst (λ r. PassesBy r top) (one_path search.tree.now (Some s.key) in_there.1.path ((s.key, own.node) ∷ own.above) in_there.1.leads own.reached) in_there.1.below;
        relates = (open_relates q (path_term ((s.key, s.node) ∷ up search.tree.now ready.legal s.key s.node s.has)) (query_numbered search ready q h) (leaf_numbered search.tree.now ready.legal search.relation q (query_numbered search ready q h) s.key (path_term ((s.key, s.node) ∷ up search.tree.now ready.legal s.key s.node s.has)) (postings_of s.node.content) own).numbered search.relation).0
            (in_there.0 q ((s.key, s.node) ∷ up search.tree.now ready.legal s.key s.node s.has) h (there search.tree.now ready.legal s.key s.node s.has));
        among = s.among;
      }

  pub found_in_end : (keys : List ℕ) (ps old : List Posting) → HasPassed search.tree.now (IsOpenAt search) top [] keys → HasGathered search.tree.now keys ps → HasFound search top old (old ++ ps) (length keys)
  found_in_end keys ps old passed gathered = record {
    counts = λ q h. (
      keys,
      passed.distinct,
      λ key. (
        λ a. (let i = passed.are_in key a in record { path = i.1.path; leads = i.1.leads; below = i.1.below; open_for = i.0 q i.1.path h i.1.leads }),
        λ o. passing_ends search.tree.now (legal_nodes search.tree.now ready.legal) (IsOpenAt search) top keys passed key o.path o.leads o.below (open_for_all q h key o.path o.leads o.open_for),
      ),
      refl,
    );
    appends = λ q h. record {
      answers = ps;
      appended = refl;
      are = record {
        distinct = gathered.distinct;
        exact = λ p. (answer_there [] keys ps passed gathered q h p, λ g. back q h p g);
      };
    };
  } where
    back : (q : Term) → StandsFor search.query.now q → (p : Posting) → IsAnswerBelow search.tree.now top search.relation q p → IsAmong ps p
    back q h p g =
        (gathered.exact p).1 (record {
          key = g.key;
          there = passing_ends search.tree.now (legal_nodes search.tree.now ready.legal) (IsOpenAt search) top keys passed g.key ((g.key, g.leaf.node) ∷ g.leaf.above) g.leaf.reached g.below
              (open_for_all q h g.key ((g.key, g.leaf.node) ∷ g.leaf.above) g.leaf.reached (answer_open search.tree.now ready.legal search.relation q (query_numbered search ready q h) top p g));
          node = g.leaf.node;
          has = g.leaf.reached.1;
          among = subst (λ content. IsAmong (postings_of content) p) (sym g.leaf.content) g.among;
        })

  -- for what was found there is room
  pub gathered_fits : {A : Type 0} (tops keys : List ℕ) (ps : List Posting) (out : Vec Posting A) → HasPassed search.tree.now (IsOpenAt search) top tops keys → HasGathered search.tree.now keys ps → HasRoomForAnswers search.tree.now top search.relation search.query.now out → length out.items + length ps ≤ vec_capacity out
  gathered_fits tops keys ps out passed gathered room =
      room ready.term ready.query.stands ps gathered.distinct (answer_there tops keys ps passed gathered ready.term ready.query.stands)
