use Rattle.std.proofs.Common.{◌≡◌, [], ◌∷◌, ◌++◌, sym, ◌∙◌, ap, subst, arith}
use Rattle.std.specs.List.{AllByRecursion}
use Rattle.si_entries.specs.Walks.{IsSmallRow, rows_left, weight_of}
use Rattle.si_entries.proofs.WalkLaws.{rows_climb, climbs_small, weight_more, none_there}
use Rattle.si_entries.proofs.walk.Entries.climb.Goals as goal

pub loop-self-preserved : goal.loop-self-preserved
loop-self-preserved c =
    let s = c.loop-self.self in
    let kept = c.loop-self.invariant in
    let rows = c.pop.new.self.items in
    let q = c.in-Some.row in
    let items : s.around.items ≡ rows ++ q ∷ [] = c.in-Some.ensures.items in
    let done : s.row.left.now ≡ [] = none_there s.row.left.now c.loop-self-test.ensures in
    let small = climbs_small rows q (subst (AllByRecursion IsSmallRow) items kept.0.around) in (
      record { around = small.0; row = small.1; literals = kept.0.literals },
      record { literals = kept.1.literals; literal = kept.1.literal },
      sym (ap (λ l. rows_left s.literal [] (l ++ s.row ∷ [])) items ∙ rows_climb s.literal rows q s.row done) ∙ kept.2,
      omega (arith, kept.3, weight_more (rows ++ q ∷ []) s.row, ap (λ l. weight_of (l ++ s.row ∷ [])) items),
    )
