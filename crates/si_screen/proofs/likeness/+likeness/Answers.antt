use Rattle.std.proofs.Common.{rules, ◌≡◌, ◌<◌, ap, arith, length, true, false, refl}
use Rattle.si_defs.specs.Terms.{size}
use Rattle.si_term.proofs.Rows.{app-term, size-read}
use Rattle.si_term.specs.Terms.{term_of}
use Rattle.si_screen.specs.Likeness.{IsLike}
use Rattle.si_screen.proofs.LikenessLaws.{like_at, ended}
use Rattle.si_screen.proofs.likeness.+likeness.Goals as goal

pub are_like-is_like-requires : goal.are_like-is_like-requires
are_like-is_like-requires t c =
    let less : c.loop-i.i < length c.args.terms.now = search rules in
    omega (arith, size-read c.args.terms.now c.loop-i.i c.index-terms-i.result less c.index-terms-i.is)

pub is_like-are_like-requires : goal.is_like-are_like-requires
is_like-are_like-requires t c =
    omega (arith, ap size (app-term c.args.term.now c.in-App-App.symbol c.in-App-App.terms c.as_slice.result.now c.in-App-App.is-0 c.as_slice.ensures))

pub are_like-returns-then-not-is_like : goal.are_like-returns-then-not-is_like
are_like-returns-then-not-is_like t c =
    let less : c.loop-i.i < length c.args.terms.now = search rules in
    let fits : c.loop-i.i < length c.args.targets.now = search rules in
    let differ : IsLike (term_of c.index-terms-i.result) (term_of c.index-targets-i.result) → ⊥ = search rules in (
      (λ wrong. let no : false ≡ true = wrong in cc),
      λ like.
          absurd (differ (like_at c.args.terms.now c.args.targets.now c.loop-i.i c.index-terms-i.result c.index-targets-i.result less fits c.index-terms-i.is c.index-targets-i.is like)),
    )

pub are_like-returns : goal.are_like-returns
are_like-returns t c =
    ((λ _. c.loop-i.invariant (ended c.args.terms.now c.args.targets.now c.loop-i.i (search rules))), λ _. refl)
