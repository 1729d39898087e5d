-- What was written over the sink that gathers bytes, once the last line was ended.
use Rattle.std.proofs.Common.{◌≡◌, ◌∷◌, [], ◌++◌, ap, sym, subst, ◌∙◌, append_assoc}
use Rattle.std.specs.List.{concat}
use Rattle.si_io.specs.Sends.{Sends}
use Rattle.si_io.specs.Buffering.{gathered, begun}
use Rattle.si_io.proofs.Buffers.{nothing_held}
use Rattle.si_io.proofs.lines.put_over.Goals as goal

pub returns-clause-written : goal.returns-clause-written
returns-clause-written g c =
    let shown = g.S.Borrowed.shown in
    let over = c.over-buffered.result in
    let start = shown c.args.sink in
    let last = c.finish.result in
    let empty : gathered (shown over.sink) over.bytes over.start over.end ≡ begun start =
    nothing_held (shown over.sink) over.bytes over.start over.end c.over-buffered.ensures.none ∙ ap (λ k. begun (shown k)) c.over-buffered.ensures.sink in
    let written = c.put_all-written.ensures in
    let end = g.A.Lines.last c.args.lines.now in
    let text = concat written.0 ++ end in
    let over_now = c.put_all-written.new.sink in
    let now = gathered (shown over_now.sink) over_now.bytes over_now.start over_now.end in
    let front = subst (λ t. Sends c.put_all-written.result text t now) (empty ∙ ap begun c.requires.start) written.2 in
    let whole = subst (λ t. Sends last.0 (text ++ 10 ∷ []) t (shown last.1)) (sym c.requires.start) (c.finish.ensures.written text front) in
    (written.0, written.1, subst (λ t. Sends last.0 t start (shown last.1)) (append_assoc (concat written.0) end (10 ∷ [])) whole)
