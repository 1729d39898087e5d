use Rattle.std.proofs.Common.{◌≡◌, ◌+◌, ◌-◌, [], ◌∷◌, ◌++◌, length, get_or, take, drop, refl, sym, ap, ◌∙◌, take_all, length-drop, arith, rules}
use Rattle.std.specs.Prelude.{flat_map}
use Rattle.si_defs.specs.Tokens.{escaped}
use Rattle.si_term.proofs.Results.{on_err}
use Rattle.si_reply.proofs.Writing.{wrote_piece, wrote_part, wrote_as, puts_rest}
use Rattle.si_reply.proofs.Escapes.{first_run, last_run}
use Rattle.si_reply.proofs.printing.put_escaped.Goals as goal

pub returns-in_err-put_run : goal.returns-in_err-put_run
returns-in_err-put_run g c =
    let rest = c.loop-run.rest.now in
    let at = c.in-Some.run' in
    let each = escaped c.args.quote in
    let left = flat_map each (drop (at + 1) rest) in
    let split : flat_map each rest ≡ (take at rest ++ 92 ∷ get_or rest at 0 ∷ []) ++ left =
    first_run c.args.quote rest at (get_or rest at 0) c.in-Some.ensures.first refl in
    record {
      all = search rules;
      part = on_err c.from_residual.result (wrote_part _ _ (g.K.Sink.shown c.put_run.new.sink) (flat_map each c.args.text.now) (flat_map each rest) _ left split c.loop-run.invariant.wrote c.in_err-put_run.ensures.part);
    }

pub overflow_add-rest : goal.overflow_add-rest
overflow_add-rest g c = omega (arith, c.loop-run.invariant.shorter, c.in-Some.ensures.within)

pub loop-run-preserved : goal.loop-run-preserved
loop-run-preserved g c =
    let rest = c.loop-run.rest.now in
    let at = c.in-Some.run' in
    let each = escaped c.args.quote in
    let same : take (length rest - (at + 1)) (drop (at + 1) rest) ≡ drop (at + 1) rest = take_all _ _ (omega (arith, length-drop (at + 1) rest)) in
    let left = flat_map each (take (length rest - (at + 1)) (drop (at + 1) rest)) in
    let split : flat_map each rest ≡ (take at rest ++ 92 ∷ get_or rest at 0 ∷ []) ++ left =
    first_run c.args.quote rest at (get_or rest at 0) c.in-Some.ensures.first refl
    ∙ ap (λ l. (take at rest ++ 92 ∷ get_or rest at 0 ∷ []) ++ flat_map each l) (sym same) in
    record {
      wrote = wrote_piece _ _ (g.K.Sink.shown c.put_run.new.sink) (flat_map each c.args.text.now) (flat_map each rest) _ left split c.loop-run.invariant.wrote c.in_ok-put_run.ensures.all;
      shorter = omega (arith, c.loop-run.invariant.shorter, ap length same, length-drop (at + 1) rest);
    }

pub returns : goal.returns
returns g c =
    let rest = c.loop-run.rest.now in
    let each = escaped c.args.quote in
    let same = last_run c.args.quote rest c.in_default.ensures.first in
    puts_rest c.put_bytes.result _ _ (g.K.Sink.shown c.put_bytes.new.sink) (flat_map each c.args.text.now) rest (wrote_as _ _ _ (flat_map each rest) rest same c.loop-run.invariant.wrote) c.put_bytes.ensures
