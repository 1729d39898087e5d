use Rattle.std.proofs.Common.{true, map, subst, sym, ◌∙◌, ap}
use Rattle.si_form.specs.Answers.{StandsForList}
use Rattle.si_form.specs.Matching.{IsMatched, AreWholeImages, pairs, binding_of}
use Rattle.si_form.proofs.AnswerLaws.{images_stand, images_whole}
use Rattle.si_form.proofs.relations.matched.Goals as goal

pub bindings-requires : goal.bindings-requires
bindings-requires c =
    let met : IsMatched c.args.owner c.args.pattern.now c.args.target.now c.matches.new.images.items true =
    subst (IsMatched c.args.owner c.args.pattern.now c.args.target.now c.matches.new.images.items) c.if-not-branch.false c.in_ok-matches.ensures in
    let found = met c.requires.pattern.0 c.requires.target.0 c.requires.pattern.1 c.requires.target.1 in
    subst AreWholeImages (sym c.as_slice.ensures) (images_whole 0 c.matches.new.images.items found.0 found.1)

pub returns : goal.returns
returns c = λ q e p t.
    let met : IsMatched c.args.owner c.args.pattern.now c.args.target.now c.matches.new.images.items true =
    subst (IsMatched c.args.owner c.args.pattern.now c.args.target.now c.matches.new.images.items) c.if-not-branch.false c.in_ok-matches.ensures in
    let found = met q e p t in (
      found.0,
      subst (λ l. StandsForList l (pairs c.args.owner 0 found.0)) (sym (c.in_ok-solution.ensures ∙ ap (map (binding_of c.args.owner)) c.as_slice.ensures))
          (images_stand c.args.owner 0 c.matches.new.images.items found.0 found.1),
      found.2,
    )
