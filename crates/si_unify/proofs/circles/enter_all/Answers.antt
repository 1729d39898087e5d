use Rattle.std.proofs.Common.{◌≡◌, ℕ, ◌≤◌, length, Some, sym, arith}
use Rattle.std.proofs.lemmas.Result.{on_err_weaker}
use Rattle.si_trail.specs.Trails.{value_at}
use Rattle.si_unify.specs.Rooms.{AreNoLongerThan}
use Rattle.si_unify.proofs.Places.{value_holds}
use Rattle.si_unify.proofs.circles.enter_all.Goals as goal

pub returns-in-Some-clause-full : goal.returns-in-Some-clause-full
returns-in-Some-clause-full c =
    let bound : value_at c.args.trail.now.pairs c.args.slot ≡ Some c.in-Some.value.now = sym c.in-Some.ensures in
    let few : (n : ℕ) → AreNoLongerThan n c.args.trail.now.pairs → length c.in-Some.value.now.now ≤ n =
    λ n within. value_holds (λ pair. length pair.1.now ≤ n) c.args.trail.now.pairs c.args.slot c.in-Some.value.now within bound in
    on_err_weaker c.enter_cells.result (λ full n within. omega (arith, full, few n within)) c.enter_cells.ensures.full
