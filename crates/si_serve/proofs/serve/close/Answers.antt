-- The line that was begun is the last one, for it isn't empty.
use Rattle.std.proofs.Common.{◌≡◌, ℕ, Bool, true, false, List, [], ◌∷◌, refl, length, ap, ◌∙◌, arith, eq-eqb}
use Rattle.std.proofs.lemmas.Bool.Decides.{nat_tests}
use Rattle.std.specs.Prelude.{◌==◌}
use Rattle.std.proofs.lemmas.Result.{on_ok_weaker, IfErr-weaker}
use Rattle.si_serve.specs.Lines.{held_of}
use Rattle.si_io.proofs.Fetching.{same_files}
use Rattle.si_serve.proofs.Progress.{Closes_none, Closes_line, Cuts_line, counts_on}
use Rattle.si_serve.proofs.serve.close.Goals as goal

empty_not : (held bytes : List ℕ) (b : Bool) → held ≡ [] → bytes ≡ held → b ≡ (length bytes == 0) → b ≡ false → ⊥
empty_not held bytes b none same is false_is =
    let zero : length bytes ≡ 0 = ap length (same ∙ none) in
    let yes : (length bytes == 0) ≡ true = eq-eqb (length bytes) 0 zero in
    cc

empty_is : (held bytes : List ℕ) (b : Bool) → bytes ≡ held → b ≡ (length bytes == 0) → b ≡ true → held ≡ []
empty_is [] bytes b same by_length is_true = refl
empty_is (x ∷ held) bytes b same by_length is_true =
    let zero : length bytes ≡ 0 = grind (arith, nat_tests, by_length, is_true) in
    absurd (omega (arith, zero, ap length same))

pub returns-then-is_empty : goal.returns-then-is_empty
returns-then-is_empty g c = record {
  closed = Closes_none _ _ _ _ _ _ (empty_is _ _ _ c.bytes.ensures c.is_empty.ensures c.if-is_empty.true);
  cut = tt;
  rest = record { setting = refl; library = same_files _; faults = counts_on _ _ refl };
}

pub returns : goal.returns
returns g c =
    let some : held_of c.args.pending.now ≡ [] → ⊥ = λ e. empty_not _ _ _ e c.bytes.ensures c.is_empty.ensures c.if-is_empty.false in
    let did = c.act.ensures.acts in
    record {
      closed = on_ok_weaker _ (Closes_line _ _ _ _ _ _ _ _ some) did.acted;
      cut = IfErr-weaker c.act.result _ _ (λ halt. Cuts_line halt _ _ _ _ _ _ _ _ some) did.broken;
      rest = did.rest;
    }
