use Rattle.std.proofs.Common.{refl, sym, inr, arith}
use Rattle.si_state.specs.Harvest.{cycle, too_deep, too_many}
use Rattle.si_harvest.proofs.Stands.{is_open, is_closed, opened_count}
use Rattle.si_harvest.proofs.files.may_ask.Goals as goal

pub returns-then-has_name-clause-barred : goal.returns-then-has_name-clause-barred
returns-then-has_name-clause-barred c = λ rules. inr (record {
  fault = cycle c.in_ok-from_bytes.field-0;
  named = refl;
  holds = (c.in_ok-from_bytes.ensures, is_open c.args.files.now c.args.name.now (sym c.if-has_name.ensures));
})

pub returns-then-files-limits-clause-barred : goal.returns-then-files-limits-clause-barred
returns-then-files-limits-clause-barred c = λ rules. inr (record {
  fault = too_deep c.in_ok-from_bytes-2.field-0;
  named = refl;
  holds = (
    c.in_ok-from_bytes-2.ensures,
    is_closed c.args.files.now c.args.name.now (sym c.if-has_name.ensures),
    omega (arith, c.if-files-limits.true, opened_count c.args.files.now),
  );
})

pub returns-then-fetches-limits-clause-barred : goal.returns-then-fetches-limits-clause-barred
returns-then-fetches-limits-clause-barred c = λ rules. inr (record {
  fault = too_many;
  named = refl;
  holds = (
    is_closed c.args.files.now c.args.name.now (sym c.if-has_name.ensures),
    omega (arith, c.if-files-limits.false, opened_count c.args.files.now),
    omega (arith, c.if-fetches-limits.true),
  );
})

pub returns-clause-may : goal.returns-clause-may
returns-clause-may c = record {
  fresh = is_closed c.args.files.now c.args.name.now (sym c.if-has_name.ensures);
  shallow = omega (arith, c.if-files-limits.false, opened_count c.args.files.now);
  few = omega (arith, c.if-fetches-limits.false);
}
