use Rattle.std.proofs.Common.{◌≡◌, Some, IfSome, IfNone, ap, subst}
use Rattle.std.specs.Prelude.{slice_get}
use Rattle.si_defs.specs.Substitutions.{IsAmong}
use Rattle.si_tree.specs.HashedHeads.{heads_seen}
use Rattle.si_tree.proofs.HeadPlaces.{found_some, found_none}
use Rattle.si_tree.proofs.hashed.HashedHeads.place.Goals as goal

pub returns-clause-some : goal.returns-clause-some
returns-clause-some c =
    subst (λ hs. IfSome c.get_index_of.result (λ place. slice_get hs place ≡ Some c.args.head)) (ap heads_seen c.self.view_is)
    (found_some c.self.inside.set.keys c.args.head c.get_index_of.result c.get_index_of.ensures.index)

pub returns-clause-none : goal.returns-clause-none
returns-clause-none c =
    subst (λ hs. IfNone c.get_index_of.result (IsAmong hs c.args.head → ⊥)) (ap heads_seen c.self.view_is)
    (found_none c.self.inside.set.keys c.args.head c.get_index_of.result c.get_index_of.ensures.found)
