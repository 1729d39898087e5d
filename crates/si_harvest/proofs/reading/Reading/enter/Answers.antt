use Rattle.si_io.specs.Library.{faults_in}
use Rattle.std.proofs.Common.{◌+◌, rules, subst, refl, inl, inr}
use Rattle.std.specs.Prelude.{IfSome}
use Rattle.si_state.specs.States.{Rules}
use Rattle.si_state.specs.Harvest.{MayAsk, IsBarred, IsWithheld}
use Rattle.si_harvest.specs.declared.faults.HarvestFault.{HarvestFault}
use Rattle.si_harvest.specs.Faults.{NamesWhy, bounds_of}
use Rattle.si_harvest.specs.Opened.{opened_names, IsUnopened, HasOpened}
use Rattle.si_io.proofs.Fetching.{same_files}
use Rattle.si_harvest.proofs.Errors.{why_weaker, err_again, cause_again}
use Rattle.si_harvest.proofs.reading.Reading.enter.Goals as goal

pub returns-in_err-may_ask-clause-enters : goal.returns-in_err-may_ask-clause-enters
returns-in_err-may_ask-clause-enters g c =
    let told = (g.L.Library.shown c.args.library.now).files in
    let bounds = bounds_of c.args.limits.now in
    let P : HarvestFault → Type 0 = λ e. (rules : Rules) → NamesWhy rules e (IsUnopened told bounds c.args.name.now c.args.self.now.files.items c.args.self.now.fetches c.args.self.now.fetches) in
    record {
      entered = search rules;
      unopened = err_again c.from_residual.result c.in_err-may_ask.field-0.0 P c.from_residual.ensures.1
          (λ rules. why_weaker rules c.in_err-may_ask.field-0.0 _ _ (λ fault h. inl (subst (λ fs. IsBarred bounds (opened_names fs) c.args.self.now.fetches c.args.name.now fault) c.as_slice.ensures.value h, refl)) (c.in_err-may_ask.ensures.barred rules));
      once = inl refl;
    }

pub returns-in_err-may_ask-clause-library : goal.returns-in_err-may_ask-clause-library
returns-in_err-may_ask-clause-library g c = record {
  keeps = same_files _;
  cause = cause_again c.from_residual.result c.in_err-may_ask.field-0.0 _ _ _ c.from_residual.ensures.1 (c.in_err-may_ask.ensures.cause (g.L.Library.shown c.args.library.now).may_fail (faults_in (g.L.Library.shown c.args.library.now).counts));
}

pub returns-in_err-file-clause-enters : goal.returns-in_err-file-clause-enters
returns-in_err-file-clause-enters g c =
    let told = (g.L.Library.shown c.args.library.now).files in
    let bounds = bounds_of c.args.limits.now in
    let P : HarvestFault → Type 0 = λ e. (rules : Rules) → NamesWhy rules e (IsUnopened told bounds c.args.name.now c.args.self.now.files.items c.args.self.now.fetches (c.args.self.now.fetches + 1)) in
    let may : MayAsk bounds (opened_names c.args.self.now.files.items) c.args.self.now.fetches c.args.name.now = subst (λ fs. MayAsk bounds (opened_names fs) c.args.self.now.fetches c.args.name.now) c.as_slice.ensures.value c.in_ok-may_ask.ensures.may in
    record {
      entered = search rules;
      unopened = err_again c.from_residual-in_err-file.result c.in_err-file.field-0.0 P c.from_residual-in_err-file.ensures.1
          (λ rules. why_weaker rules c.in_err-file.field-0.0 _ _ (λ fault h. inr (may, subst (λ n. IfSome told (λ files. IsWithheld files bounds n fault)) c.in_ok-file_name.ensures h, refl)) (c.in_err-file.ensures.withheld rules));
      once = inr (may, refl);
    }

pub returns-clause-enters : goal.returns-clause-enters
returns-clause-enters g c =
    let may : MayAsk (bounds_of c.args.limits.now) (opened_names c.args.self.now.files.items) c.args.self.now.fetches c.args.name.now = subst (λ fs. MayAsk (bounds_of c.args.limits.now) (opened_names fs) c.args.self.now.fetches c.args.name.now) c.as_slice.ensures.value c.in_ok-may_ask.ensures.may in
    record {
      entered = record {
        may = may;
        file = c.in_ok-file.file;
        chosen = c.args.chosen;
        listed = refl;
        given = subst (λ n. HasOpened (g.L.Library.shown c.args.library.now).files (bounds_of c.args.limits.now) n c.args.chosen c.in_ok-file.file) c.in_ok-file_name.ensures c.in_ok-file.ensures.opened;
        inside = c.in_ok-push.ensures.files;
        counted = c.push.ensures.fetches;
      };
      unopened = tt;
      once = inr (may, c.push.ensures.fetches);
    }
