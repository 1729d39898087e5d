use Rattle.std.proofs.Common.{ap, sym, ◌∙◌, [], ◌∷◌, ◌++◌, subst}
use Rattle.si_defs.specs.Substitutions.{IsAmong}
use Rattle.si_flat.specs.Cells.{StandsFor}
use Rattle.si_flat.specs.Rows.{left_sides}
use Rattle.si_legal.specs.Pieces.{piece}
use Rattle.si_mscg.specs.Walking.{state_of}
use Rattle.si_mscg.proofs.PairLaws.{drafted, shared}
use Rattle.si_mscg.proofs.walk.Walk.share_pair.Goals as goal

pub share-requires-clause-whole : goal.share-requires-clause-whole
share-requires-clause-whole c = c.right.ensures.whole

pub share-requires-clause-new_whole : goal.share-requires-clause-new_whole
share-requires-clause-new_whole c = c.right-2.ensures.whole

pub share-requires-clause-may_share : goal.share-requires-clause-may_share
share-requires-clause-may_share c = λ t u h k. (c.requires t u (subst (λ l. StandsFor l t) c.right.ensures.cells h) (subst (λ l. StandsFor l u) c.right-2.ensures.cells k)).may_end

pub set_spans-requires-clause-draft : goal.set_spans-requires-clause-draft
set_spans-requires-clause-draft c =
    let t = c.right.ensures.whole in
    let u = c.right-2.ensures.whole in
    (drafted (state_of c.args.self.now) (state_of c.share.new.self) c.args.pair.now.0 t.0 u.0 t.1.sound u.1.sound
    (c.requires t.0 u.0 (subst (λ l. StandsFor l t.0) c.right.ensures.cells t.1) (subst (λ l. StandsFor l u.0) c.right-2.ensures.cells u.1))
    (c.in_ok-share.ensures t.0 u.0 t.1 u.1)).draft

pub set_spans-requires-clause-short : goal.set_spans-requires-clause-short
set_spans-requires-clause-short c =
    let t = c.right.ensures.whole in
    let u = c.right-2.ensures.whole in
    (drafted (state_of c.args.self.now) (state_of c.share.new.self) c.args.pair.now.0 t.0 u.0 t.1.sound u.1.sound
    (c.requires t.0 u.0 (subst (λ l. StandsFor l t.0) c.right.ensures.cells t.1) (subst (λ l. StandsFor l u.0) c.right-2.ensures.cells u.1))
    (c.in_ok-share.ensures t.0 u.0 t.1 u.1)).short

pub push-requires-clause-new : goal.push-requires-clause-new
push-requires-clause-new c =
    let t = c.right.ensures.whole in
    let u = c.right-2.ensures.whole in
    let may = c.requires t.0 u.0 (subst (λ l. StandsFor l t.0) c.right.ensures.cells t.1) (subst (λ l. StandsFor l u.0) c.right-2.ensures.cells u.1) in
    let common = ap (λ x. x.common) (c.in_ok-share.ensures t.0 u.0 t.1 u.1) in
    λ a. may.unbound (subst (IsAmong (left_sides c.args.self.now.split.common)) c.left.ensures (subst (λ l. IsAmong (left_sides l) c.left.result) common a))

pub push-requires-clause-whole : goal.push-requires-clause-whole
push-requires-clause-whole c =
    let t = c.right.ensures.whole in
    let u = c.right-2.ensures.whole in
    let done =
    (drafted (state_of c.args.self.now) (state_of c.share.new.self) c.args.pair.now.0 t.0 u.0 t.1.sound u.1.sound
    (c.requires t.0 u.0 (subst (λ l. StandsFor l t.0) c.right.ensures.cells t.1) (subst (λ l. StandsFor l u.0) c.right-2.ensures.cells u.1))
    (c.in_ok-share.ensures t.0 u.0 t.1 u.1)).done in
    let common = (piece c.args.self.now.next t.0 u.0).common in
    (common, subst (λ l. StandsFor l common) (sym (c.as_slice.ensures.value ∙ c.set_spans.ensures)) done)

pub returns : goal.returns
returns c =
    λ t u h k.
    let s = state_of c.args.self.now in
    let one = state_of c.share.new.self in
    let h' = subst (λ l. StandsFor l t) (sym c.right.ensures.cells) h in
    let k' = subst (λ l. StandsFor l u) (sym c.right-2.ensures.cells) k in
    let e = c.in_ok-share.ensures t u h' k' in
    let done = (drafted s one c.args.pair.now.0 t u h.sound k.sound (c.requires t u h k) e).done in
    let cells = c.as_slice.ensures.value ∙ c.set_spans.ensures in
    let common = (piece s.next t u).common in
    shared s one c.args.pair.now.0 t u c.clear.new.self.items c.clear.ensures.items c.as_slice.result.now
    (subst (λ l. StandsFor l common) (sym cells) done) e c.push.new.self
    (c.in_ok-push.ensures.ok ∙ (λ i. one.common ++ (c.left.ensures i, c.as_slice.result.now) ∷ []))
