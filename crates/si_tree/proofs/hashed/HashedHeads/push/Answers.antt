use Rattle.std.proofs.Common.{◌≡◌, ◌∷◌, ◌++◌, [], IfOk, sym, ◌∙◌, ap, subst, arith}
use Rattle.indexmap.specs.IndexSet.{insert_key}
use Rattle.si_defs.specs.Substitutions.{IsAmong}
use Rattle.si_tree.specs.HashedHeads.{heads_seen, AreVariablesBelow}
use Rattle.si_tree.specs.contracts.node.HeadPartialEq.TheImpl.{eq-value}
use Rattle.si_tree.proofs.HeadPlaces.{appended}
use Rattle.si_tree.proofs.HeadBounds.{below_more}
use Rattle.si_tree.proofs.hashed.HashedHeads.push.Goals as goal

pub returns : goal.returns
returns c =
    let old = c.self.inside.set.keys in
    let new = c.insert.new.self.keys in
    let is = ap heads_seen c.self.view_is in
    appended old new c.args.head (λ a. c.requires.new (subst (λ hs. IsAmong hs c.args.head) is a))
    (subst (λ r. IfOk r (λ _. new ≡ insert_key eq-value.it old c.args.head)) c.unwrap.ensures c.insert.ensures.keys)
    ∙ ap (λ hs. hs ++ c.args.head ∷ []) is

pub invariant_of-self : goal.invariant_of-self
invariant_of-self c =
    let old = c.self.inside.set.keys in
    let new = c.insert.new.self.keys in
    let is = ap heads_seen c.self.view_is in
    let gained = appended old new c.args.head (λ a. c.requires.new (subst (λ hs. IsAmong hs c.args.head) is a))
    (subst (λ r. IfOk r (λ _. new ≡ insert_key eq-value.it old c.args.head)) c.unwrap.ensures c.insert.ensures.keys) in (
      subst (AreVariablesBelow c.max-self-inside.result) (sym gained)
          (below_more c.self.inside.vars c.beyond_variable.result c.max-self-inside.result old c.args.head (omega (arith, c.max-self-inside.ensures)) (omega (arith, c.max-self-inside.ensures)) c.self.invariant.0 c.beyond_variable.ensures.below),
      omega (arith, c.max-self-inside.ensures, c.self.invariant.1, c.beyond_variable.ensures.few),
    )
