use Rattle.std.proofs.Common.{ℕ, ◌+◌, ◌*◌, ◌≤◌, length, arith}
use Rattle.std.specs.Prelude.{vec_capacity}
use Rattle.std.proofs.lemmas.Result.{on_err_weaker}
use Rattle.si_term.proofs.Results.{on_err}
use Rattle.si_unify.specs.Solving.{slot_count}
use Rattle.si_unify.specs.Rooms.{AreNoLongerThan}
use Rattle.si_unify.proofs.VisitLaws.{few_bindings, some_visits, search_fits}
use Rattle.std.proofs.lemmas.Result.{IfOk-weaker}
use Rattle.si_unify.proofs.Triangular.{search_begins, search_tells, resolved_tells}
use Rattle.si_unify.proofs.circles.is_triangular.Goals as goal

pub returns-clause-triangular : goal.returns-clause-triangular
returns-clause-triangular c =
    IfOk-weaker c.search.result _ _ (λ b h. search_tells _ _ _ _ _ _ b c.in_ok-enter_bound.ensures.entered c.requires.before h) c.search.ensures.searched

pub returns-then-are_resolved-clause-triangular : goal.returns-then-are_resolved-clause-triangular
returns-then-are_resolved-clause-triangular c = resolved_tells _ _ c.args.mark (c.are_resolved.ensures.0 c.if-are_resolved.true) c.requires.before

pub search-requires : goal.search-requires
search-requires c =
    search_begins _ _ _ _ _ _ c.requires.bindings (omega (arith, c.count.ensures.count, c.in_ok-make_room.ensures.long)) c.in_ok-make_room.ensures.fresh
    c.in_ok-enter_bound.ensures.entered

pub returns-in_err-enter_bound-clause-full : goal.returns-in_err-enter_bound-clause-full
returns-in_err-enter_bound-clause-full c =
    let refused : (n : ℕ) → AreNoLongerThan n c.args.trail.now.pairs → slot_count c.args.slots.now ≤ c.args.states.now.room → slot_count c.args.slots.now * (n + 2) ≤ vec_capacity c.args.visits.now → ⊥ =
    λ n within states visits.
    omega (arith, few_bindings c.args.slots.now c.args.trail.now.pairs c.requires.bindings c.in_err-enter_bound.ensures.distinct, some_visits (slot_count c.args.slots.now) n, c.in_err-enter_bound.ensures.full, visits) in
    on_err _ refused

pub returns-clause-full : goal.returns-clause-full
returns-clause-full c =
    on_err_weaker c.search.result
    (λ lacks n within states visits.
    omega (
      arith,
      lacks n within,
      search_fits n c.args.slots.now c.make_room.new.self.items (length c.enter_bound.new.visits.items)
          (omega (arith, c.in_ok-enter_bound.ensures.few, few_bindings c.args.slots.now c.args.trail.now.pairs c.requires.bindings c.in_ok-enter_bound.ensures.distinct)),
      c.in_ok-enter_bound.ensures.keeps,
      visits,
    ))
    c.search.ensures.full
