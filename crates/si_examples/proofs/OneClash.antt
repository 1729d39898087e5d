-- Symbols of two clauses, and a clause that is tried.
use Rattle.std.proofs.Common.{[], ◌∷◌, refl, ap, inl, inr, arith}
use Rattle.std.specs.Prelude.{codes}
use Rattle.std.proofs.lemmas.Fmt.{decimal_digit}
use Rattle.si_defs.specs.Entries.{clause_symbols}
use Rattle.si_state.specs.Acceptance.{AllAgree, full}
use Rattle.si_examples.specs.Entries.{first_atom}
use Rattle.si_examples.specs.Steps.{kept_clause, front_symbol, AddedClause, FullIndex, ClashingSymbol, NoClash, NoAgreement, RemovedClause, NothingCounted, NoneUncounted}
use Rattle.si_examples.proofs.Differ.{texts_differ}

-- p, f and a differ in their texts
agree : AllAgree [] (clause_symbols kept_clause)
agree = (
  tt,
  (
    (λ h. texts_differ (codes "f") (codes "p") refl h.text, tt),
    ((λ h. texts_differ (codes "a") (codes "p") refl h.text, (λ h. texts_differ (codes "a") (codes "f") refl h.text, tt)), tt),
  ),
)

pub added_clause : AddedClause
added_clause setting room = inr (record { free = λ h. h; agree = agree; room = room; added = refl }, rw (decimal_digit 1 (omega arith), decimal_digit 3 (omega arith)) refl, refl)

pub full_index : FullIndex
full_index setting two = inl (full 3, (λ h. h, agree, omega (arith, two), refl), rw two (rw (decimal_digit 3 (omega arith), decimal_digit 2 (omega arith)) refl), refl)

pub clashing_symbol : ClashingSymbol
clashing_symbol = (
  elim [ inl e ↦ texts_differ (codes "c1") (codes "d") refl (ap (λ n. n.text) e) | inr h ↦ h ],
  record {
    before = [];
    after = _;
    splits = refl;
    position = refl;
    earlier = tt;
    against = inr (inr (inl refl));
    clashes = record { kind = refl; text = refl; differ = λ side arity. cc };
  },
)

pub no_clash : NoClash
no_clash = (
  (λ h. h.differ refl refl, (λ h. texts_differ (codes "p") (codes "f") refl h.text, (λ h. texts_differ (codes "p") (codes "a") refl h.text, tt))),
  (
    (λ h. texts_differ (codes "f") (codes "p") refl h.text, (λ h. h.differ refl refl, (λ h. texts_differ (codes "f") (codes "a") refl h.text, (λ h. texts_differ (codes "f") (codes "p") refl h.text, tt)))),
    ((λ h. texts_differ (codes "a") (codes "p") refl h.text, (λ h. texts_differ (codes "a") (codes "f") refl h.text, (λ h. h.differ refl refl, (λ h. texts_differ (codes "a") (codes "p") refl h.text, (λ h. texts_differ (codes "a") (codes "f") refl h.text, tt))))), tt),
  ),
)

pub no_agreement : NoAgreement
no_agreement h = h.0.1.1.0 (record { kind = refl; text = refl; differ = λ side arity. cc })

pub removed_clause : RemovedClause
removed_clause setting = inr (kept_clause, record { before = []; after = []; splits = refl; named = refl; rest = refl }, rw (decimal_digit 1 (omega arith), decimal_digit 3 (omega arith)) refl, refl)

pub nothing_counted : NothingCounted
nothing_counted setting = (0, ([], tt, λ s. (λ h. h, λ h. h), refl), rw (decimal_digit 0 (omega arith)) refl, refl)

pub none_uncounted : NoneUncounted
none_uncounted ([], distinct, same, count) = (same (front_symbol first_atom)).1 (inl refl)
none_uncounted (x ∷ xs, distinct, same, count) = absurd (omega (arith, count))
