use Rattle.std.proofs.Common.{rules, ◌≡◌, ◌+◌, ◌++◌, length, drop, refl}
use Rattle.std.specs.Prelude.{codes}
use Rattle.si_term.proofs.Results.{on_err}
use Rattle.si_reply.specs.PrintedParts.{binding_text, more_bindings_text, bindings_text}
use Rattle.si_reply.proofs.Writing.{wrote_none, wrote_piece, wrote_part, wrote_all}
use Rattle.si_reply.proofs.NamingLaws.{shows_none, pair_at, pair_there, all_dropped, bindings_begin, more_bindings_begin, no_bindings, no_more_bindings}
use Rattle.si_reply.proofs.solution.put_bindings.Goals as goal

pub returns-then-len-eq0 : goal.returns-then-len-eq0
returns-then-len-eq0 g c = λ list h.
    let old = (g.K.Sink.shown c.args.sink.now) in
    let none : length c.args.solution.now ≡ 0 = search rules in
    let empty = no_bindings list (shows_none _ _ list h none) in
    record { all = wrote_all old old (bindings_text list) (bindings_text list) empty (wrote_none old (bindings_text list)); part = search rules }

pub put_binding-requires : goal.put_binding-requires
put_binding-requires g c =
    let p = pair_at _ _ c.requires.known.0 0 c.at.result.now c.requires.known.1 c.at.ensures in
    record { known = (p.pair, p.shows) }

pub returns-in_err-put_binding : goal.returns-in_err-put_binding
returns-in_err-put_binding g c = λ list h.
    let old = (g.K.Sink.shown c.args.sink.now) in
    let one = (g.K.Sink.shown c.put_binding.new.sink) in
    let p = pair_at _ _ list 0 c.at.result.now h c.at.ensures in
    let whole = bindings_text list in
    record { all = search rules; part = on_err c.from_residual.result (wrote_part old old one whole whole (binding_text p.pair) (more_bindings_text (drop 1 list)) (bindings_begin list p.pair p.from) (wrote_none old whole) (c.in_err-put_binding.ensures p.pair p.shows).part) }

pub loop-n-init : goal.loop-n-init
loop-n-init g c =
    let old = (g.K.Sink.shown c.args.sink.now) in
    let one = (g.K.Sink.shown c.put_binding.new.sink) in
    record {
      wrote = λ list h.
          let p = pair_at _ _ list 0 c.at.result.now h c.at.ensures in
          let whole = bindings_text list in
          wrote_piece old old one whole whole (binding_text p.pair) (more_bindings_text (drop 1 list)) (bindings_begin list p.pair p.from) (wrote_none old whole) (c.in_ok-put_binding.ensures p.pair p.shows).all;
    }

pub returns-in_err-put_bytes : goal.returns-in_err-put_bytes
returns-in_err-put_bytes g c = λ list h.
    let sign = (g.K.Sink.shown c.put_bytes.new.sink) in
    let n = c.loop-n.n in
    let p = pair_there _ _ list n h (search rules) in
    record { all = search rules; part = on_err c.from_residual-in_err-put_bytes.result (wrote_part _ _ sign (bindings_text list) (more_bindings_text (drop n list)) (codes "; ") (binding_text p.0 ++ more_bindings_text (drop (n + 1) list)) (more_bindings_begin list n p.0 p.1) (c.loop-n.invariant.wrote list h) c.in_err-put_bytes.ensures.part) }

pub put_binding-requires-in-loop-n : goal.put_binding-requires-in-loop-n
put_binding-requires-in-loop-n g c =
    let p = pair_at _ _ c.requires.known.0 c.loop-n.n c.at-in-loop-n.result.now c.requires.known.1 c.at-in-loop-n.ensures in
    record { known = (p.pair, p.shows) }

pub returns-in_err-put_binding-2 : goal.returns-in_err-put_binding-2
returns-in_err-put_binding-2 g c = λ list h.
    let sign = (g.K.Sink.shown c.put_bytes.new.sink) in
    let last = (g.K.Sink.shown c.put_binding-in-loop-n.new.sink) in
    let n = c.loop-n.n in
    let p = pair_at _ _ list n c.at-in-loop-n.result.now h c.at-in-loop-n.ensures in
    let text = binding_text p.pair in
    let more = more_bindings_text (drop (n + 1) list) in
    let whole = bindings_text list in
    let first = wrote_piece _ _ sign whole (more_bindings_text (drop n list)) (codes "; ") (text ++ more) (more_bindings_begin list n p.pair p.from) (c.loop-n.invariant.wrote list h) c.in_ok-put_bytes.ensures.all in
    record { all = search rules; part = on_err c.from_residual-in_err-put_binding-2.result (wrote_part _ sign last whole (text ++ more) text more refl first (c.in_err-put_binding-2.ensures p.pair p.shows).part) }

pub loop-n-preserved : goal.loop-n-preserved
loop-n-preserved g c =
    let sign = (g.K.Sink.shown c.put_bytes.new.sink) in
    let last = (g.K.Sink.shown c.put_binding-in-loop-n.new.sink) in
    let n = c.loop-n.n in
    record {
      wrote = λ list h.
          let p = pair_at _ _ list n c.at-in-loop-n.result.now h c.at-in-loop-n.ensures in
          let text = binding_text p.pair in
          let more = more_bindings_text (drop (n + 1) list) in
          let whole = bindings_text list in
          let first = wrote_piece _ _ sign whole (more_bindings_text (drop n list)) (codes "; ") (text ++ more) (more_bindings_begin list n p.pair p.from) (c.loop-n.invariant.wrote list h) c.in_ok-put_bytes.ensures.all in
          wrote_piece _ sign last whole (text ++ more) text more refl first (c.in_ok-put_binding-2.ensures p.pair p.shows).all;
    }

pub returns : goal.returns
returns g c = λ list h.
    let whole = bindings_text list in
    let none = no_more_bindings (drop c.loop-n.n list) (all_dropped _ _ list c.loop-n.n h (search rules)) in
    record { all = wrote_all _ _ whole (more_bindings_text (drop c.loop-n.n list)) none (c.loop-n.invariant.wrote list h); part = search rules }
