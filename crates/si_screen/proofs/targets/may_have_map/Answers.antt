use Rattle.std.proofs.Common.{◌≡◌, length, take, min, true, false, ap, sym, ◌∙◌, subst}
use Rattle.std.specs.Prelude.{IsTrue, ◌↔◌}
use Rattle.std.specs.List.{AllByRecursion}
use Rattle.std.proofs.lemmas.List.{take_min}
use Rattle.si_screen.specs.Likeness.{HasTarget}
use Rattle.si_screen.proofs.TargetLaws.{mapped_have_targets}
use Rattle.si_screen.proofs.targets.may_have_map.Goals as goal

looked : goal.returns-clause-targets
looked c =
    let same : take c.min.result c.as_slice.result.now ≡ take 8 c.args.c.now =
    ap (λ n. take n c.as_slice.result.now) (c.min.ensures ∙ ap (min 8) c.len.ensures) ∙ ap (take (min 8 (length c.args.c.now))) c.as_slice.ensures ∙ take_min 8 c.args.c.now in
    subst (λ ks. IsTrue c.have_targets.result ↔ AllByRecursion (HasTarget ks) (take 8 c.args.c.now)) c.as_slice-2.ensures
    (subst (λ ls. IsTrue c.have_targets.result ↔ AllByRecursion (HasTarget c.as_slice-2.result.now) ls) same c.have_targets.ensures)

pub returns-clause-targets : goal.returns-clause-targets
returns-clause-targets c = looked c

pub returns-clause-no_map : goal.returns-clause-no_map
returns-clause-no_map c = λ no ns m.
    let yes : true ≡ false = sym ((looked c).1 (mapped_have_targets m.0 c.args.d.now c.args.c.now ns 8 m.1.taken)) ∙ no in cc
