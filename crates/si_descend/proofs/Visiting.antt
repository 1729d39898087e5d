-- The children of a node, and down to one of them.
use Rattle.std.specs.Borrow.{Bor}
use Rattle.std.specs.Bool.{⊤}
use Rattle.std.proofs.Common.{◌≡◌, ℕ, List, ◌∷◌, Some, ap, sym, ◌∙◌, subst}
use Rattle.si_defs.specs.Substitutions.{IsAmong, AreDistinct}
use Rattle.si_trail.specs.Trails.{Trail}
use Rattle.si_flat.specs.declared.Cell.{Cell}
use Rattle.si_flat.specs.Cells.{query, Term, StandsFor}
use Rattle.si_flat.specs.Flattened.{IsNumberedBy}
use Rattle.si_unify.proofs.Reading.{one_term}
use Rattle.si_legal.specs.Trees.{Content, inner, leaf, Node, HasNode}
use Rattle.si_legal.specs.Legal.{IsLegalContent}
use Rattle.si_legal.proofs.PathLaws.{one_node}
use Rattle.si_changes.proofs.Frames.{legal_nodes, differ_told}
use Rattle.si_tree.specs.Reading.{AtNode, children_of}
use Rattle.si_unify.specs.declared.slots.Slots.{Slots}
use Rattle.si_unify.specs.Solving.{Pairs, AllowsSolving}
use Rattle.si_descend.specs.declared.search.Search.{Search}
use Rattle.si_descend.specs.Searching.{IsReady, HasComeTo, IsAboveNode, IsAtNode}
use Rattle.si_descend.proofs.Below.{IsChildOf}
use Rattle.si_descend.proofs.Entered.{still_noted}
use Rattle.si_descend.proofs.RightLaws.{among_child}

pub query_numbered : (search : Search) → IsReady search → (q : Term) → StandsFor search.query.now q → IsNumberedBy query q
query_numbered search ready q h = subst (IsNumberedBy query) (one_term search.query.now ready.term q ready.query.stands h) ready.query.numbered

module _ (search : Search) (ready : IsReady search) (key : ℕ) (node : Node Term) (has : HasNode search.tree.now key node) where
  pub record AreSiblings (children : List ℕ) : Type 0 where
    pub are : (child : ℕ) → IsAmong children child → IsChildOf search.tree.now key child
    pub distinct : AreDistinct children

  pub siblings : AreSiblings (children_of node.content)
  siblings = record {
    are = among_child search.tree.now (legal_nodes search.tree.now ready.legal) key node has;
    distinct = by node.content (ready.legal.nodes key node has).content;
  } where
    by : (content : Content) → IsLegalContent search.tree.now key ((key, node) ∷ (ready.legal.nodes key node has).above) content → AreDistinct (children_of content)
    by (leaf ps) h = tt
    by (inner split children) h = (differ_told search.tree.now split children (legal_nodes search.tree.now ready.legal) h.2).distinct

-- ---- down to a child, and back
pub same_trail : {T : Type 0} (one other : Trail T) → one.slots ≡ other.slots → one.pairs ≡ other.pairs → one ≡ other
same_trail one other e f i = record { slots = e i; pairs = f i }

still_solving : (slots : Slots) (old new : Pairs) (count count' : ℕ) → new ≡ old → count' ≡ count → AllowsSolving slots old count → AllowsSolving slots new count'
still_solving slots old new count count' e f h = subst (λ n. AllowsSolving slots new n) (sym f) (subst (λ p. AllowsSolving slots p count) (sym e) h)

come_down : (search : Search) (key child : ℕ) (old new : Pairs) → IsChildOf search.tree.now key child → new ≡ old → HasComeTo search (Some key) old → AtNode search.tree.now child (λ n. HasComeTo search n.parent new)
come_down search key child old new is e h node has =
    subst (λ p. HasComeTo search node.parent p) (sym e)
    (subst (λ k. HasComeTo search k old) (sym (ap (λ n. n.parent) (one_node search.tree.now child node is.0 has is.1) ∙ is.2)) h)

pub goes_down : (search : Search) (key child : ℕ) (old new : Trail (Bor (List Cell))) (before after : Trail ⊤) → IsChildOf search.tree.now key child → new.pairs ≡ old.pairs → new.slots ≡ old.slots → after ≡ before → IsAtNode search key old before → IsAboveNode search child new after
goes_down search key child old new before after is e f g at = record {
  node = (is.0, is.1);
  searching = record {
    ready = at.searching.ready;
    solving = still_solving search.slots old.pairs new.pairs old.slots new.slots e f at.searching.solving;
    noted = still_noted search.relation search.slots old.pairs new.pairs before after e g at.searching.noted;
  };
  above = come_down search key child old.pairs new.pairs is e at.there;
}
