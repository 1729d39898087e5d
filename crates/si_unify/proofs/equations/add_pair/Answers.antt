use Rattle.std.proofs.Common.{◌≤◌, sym, ◌∙◌, subst, arith, inl, inr}
use Rattle.std.proofs.lemmas.Bool.{cases_lt, false≢true}
use Rattle.std.specs.List.{IsDistinct}
use Rattle.indexmap.specs.IndexSet.{spare}
use Rattle.si_term.proofs.Results.{on_err}
use Rattle.si_unify.specs.Rooms.{spot_pairs_room}
use Rattle.si_unify.specs.Spots.{same_spots, HasNoRoomFor}
use Rattle.si_unify.proofs.PairLaws.{added_before}
use Rattle.si_unify.proofs.equations.add_pair.Goals as goal

pub returns-then-contains-clause-added : goal.returns-then-contains-clause-added
returns-then-contains-clause-added c = added_before c.args.pair c.args.keys.now.keys (sym c.contains.ensures ∙ c.if-contains.true)

pub returns-in_err-insert_full-clause-full : goal.returns-in_err-insert_full-clause-full
returns-in_err-insert_full-clause-full c =
    let none : spare c.args.keys.now ≤ 0 = elim (cases_lt 0 (spare c.args.keys.now)) [
      | inl room ↦ absurd (false≢true (c.in_err-insert_full.ensures.succeeds room))
      | inr le ↦ le
    ] in
    let refused : HasNoRoomFor c.args.keys.now.keys (spot_pairs_room c.args.keys.now) c.args.pair = record {
      full = omega (arith, none);
      distinct = subst (IsDistinct same_spots) c.in_err-insert_full.ensures.err c.in_err-insert_full.ensures.unique;
      absent = c.in_err-insert_full.ensures.absent;
    } in
    on_err _ refused
