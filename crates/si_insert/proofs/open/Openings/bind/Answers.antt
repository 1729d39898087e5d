use Rattle.std.proofs.Common.{◌≡◌, sym, ◌∙◌, ap, subst, arith}
use Rattle.std.proofs.lemmas.Option.{slice_get_within}
use Rattle.std.specs.Prelude.{slice_set, true}
use Rattle.si_defs.specs.Substitutions.{AreDistinct}
use Rattle.si_insert.specs.Opened.{numbers, with_bound, AreListedFrom}
use Rattle.si_insert.proofs.OpenedLaws.{found_in, number_read, number_within, read, at_bound, numbers-bound, bound_there}
use Rattle.si_insert.proofs.open.Openings.bind.Goals as goal

pub index-number-requires : goal.index-number-requires
index-number-requires c =
    let f = found_in c.self.inside.places.items c.self.inside.opened.items _ c.args.indicator c.self.invariant.0 c.self.view_is c.requires in
    omega (arith, slice_get_within c.self.inside.places.items c.args.indicator f.place f.leads, c.self.inside.places.ok)

pub index_mut-requires : goal.index_mut-requires
index_mut-requires c =
    let f = found_in c.self.inside.places.items c.self.inside.opened.items _ c.args.indicator c.self.invariant.0 c.self.view_is c.requires in
    omega (arith, number_within c.self.inside.places.items c.self.inside.opened.items c.args.indicator c.index-number.result.now f c.index-number.ensures, c.self.inside.opened.ok)

pub invariant_of-self : goal.invariant_of-self
invariant_of-self c =
    let f = found_in c.self.inside.places.items c.self.inside.opened.items _ c.args.indicator c.self.invariant.0 c.self.view_is c.requires in
    let there : c.index-number.result.now ≡ f.number = number_read c.self.inside.places.items c.self.inside.opened.items c.args.indicator c.index-number.result.now f c.index-number.ensures in
    let one : c.index_mut.result.now ≡ f.opened = read c.self.inside.opened.items f.number c.index_mut.result.now f.opened (rw there at c.index_mut.ensures.value) f.item in
    let all : slice_set c.self.inside.opened.items c.index-number.result.now (record c.index_mut.result.now { bound = true }) ≡ with_bound c.args.indicator c.self.inside.opened.items =
    (λ i. slice_set c.self.inside.opened.items (there i) (record (one i) { bound = true })) ∙ bound_there c.args.indicator f.number c.self.inside.opened.items f.opened c.self.invariant.1 f.item f.indicator in (
      subst (AreListedFrom c.self.inside.places.items 0) (sym all) (at_bound c.self.inside.places.items 0 c.args.indicator c.self.inside.opened.items c.self.invariant.0),
      subst AreDistinct (sym (numbers-bound c.args.indicator c.self.inside.opened.items) ∙ ap numbers (sym all)) c.self.invariant.1,
    )

pub returns : goal.returns
returns c =
    let f = found_in c.self.inside.places.items c.self.inside.opened.items _ c.args.indicator c.self.invariant.0 c.self.view_is c.requires in
    let there : c.index-number.result.now ≡ f.number = number_read c.self.inside.places.items c.self.inside.opened.items c.args.indicator c.index-number.result.now f c.index-number.ensures in
    let one : c.index_mut.result.now ≡ f.opened = read c.self.inside.opened.items f.number c.index_mut.result.now f.opened (rw there at c.index_mut.ensures.value) f.item in
    (λ i. slice_set c.self.inside.opened.items (there i) (record (one i) { bound = true })) ∙ bound_there c.args.indicator f.number c.self.inside.opened.items f.opened c.self.invariant.1 f.item f.indicator ∙ ap (with_bound c.args.indicator) c.self.view_is
