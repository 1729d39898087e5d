use Rattle.std.proofs.Common.{rules, ◌≡◌, ◌<◌, ◌++◌, ◌-◌, length, drop, refl, sym, ◌∙◌, ap, subst, arith, take_all, length-drop}
use Rattle.std.specs.Prelude.{codes}
use Rattle.si_defs.specs.Printing.{symbol_text, term_text, more_texts}
use Rattle.si_defs.specs.Variables.{variable_text}
use Rattle.si_term.specs.Terms.{symbol_of}
use Rattle.si_term.proofs.Results.{on_err}
use Rattle.si_flat.specs.declared.Cell.TheVariants as cell
use Rattle.si_reply.specs.PrintedParts.{arguments_text}
use Rattle.si_reply.specs.NamedLists.{ShowAll}
use Rattle.si_reply.proofs.Pieces.{app_text}
use Rattle.si_reply.proofs.Writing.{wrote_none, wrote_piece, wrote_part, wrote_all, puts_rest}
use Rattle.si_reply.proofs.NamingLaws.{some_cells, app_front, query_front, entry_front, no_indicator, begins, none_left, halves, arguments_apart, more_apart}
use Rattle.si_reply.proofs.solution.+put_terms.Goals as goal

-- ---- a term
pub put_flat-bounds-0 : goal.put_flat-bounds-0
put_flat-bounds-0 g t c = some_cells _ _ c.requires.known.0 c.requires.known.1

pub put_flat-bounds-cells-0 : goal.put_flat-bounds-cells-0
put_flat-bounds-cells-0 g t c = some_cells _ _ c.requires.known.0 c.requires.known.1

pub put_flat-symbol_at-requires : goal.put_flat-symbol_at-requires
put_flat-symbol_at-requires g t c =
    let f = app_front _ _ c.requires.known.0 (cell.App 0 0 0) c.in-App.sym c.in-App.arity c.in-App.len c.requires.known.1 c.in-App.is in
    record { known = (f.symbol, f.head) }

pub put_flat-returns-in_err-put_symbol-in-App : goal.put_flat-returns-in_err-put_symbol-in-App
put_flat-returns-in_err-put_symbol-in-App g t c = λ u h.
    let old = (g.K.Sink.shown c.args.sink.now) in
    let mid = (g.K.Sink.shown c.put_symbol.new.sink) in
    let f = app_front _ _ u (cell.App 0 0 0) c.in-App.sym c.in-App.arity c.in-App.len h c.in-App.is in
    let head = symbol_text (symbol_of c.symbol_at.result.now) in
    let rest = arguments_text variable_text f.arguments in
    let whole = term_text variable_text u in
    let split : whole ≡ head ++ rest =
    ap (term_text variable_text) f.is ∙ app_text variable_text f.symbol f.arguments
    ∙ ap (λ s. symbol_text s ++ rest) (sym (c.symbol_at.ensures f.symbol f.head)) in
    record { all = search rules; part = on_err c.from_residual.result (wrote_part old old mid whole whole head rest split (wrote_none old whole) c.in_err-put_symbol-in-App.ensures.part) }

pub put_flat-slice_bounds-put_flat_arguments-count : goal.put_flat-slice_bounds-put_flat_arguments-count
put_flat-slice_bounds-put_flat_arguments-count g t c = some_cells _ _ c.requires.known.0 c.requires.known.1

pub put_flat-slice_bounds-put_flat_arguments-start : goal.put_flat-slice_bounds-put_flat_arguments-start
put_flat-slice_bounds-put_flat_arguments-start g t c = some_cells _ _ c.requires.known.0 c.requires.known.1

pub put_flat-put_flat_arguments-requires : goal.put_flat-put_flat_arguments-requires
put_flat-put_flat_arguments-requires g t c κs within =
    let some = some_cells _ _ c.requires.known.0 c.requires.known.1 in
    let f = app_front _ _ c.requires.known.0 (cell.App 0 0 0) c.in-App.sym c.in-App.arity c.in-App.len c.requires.known.1 c.in-App.is in
    let same = take_all (length c.args.cells.now - 1) (drop 1 c.args.cells.now) (omega (arith, length-drop 1 c.args.cells.now)) in (
      omega (arith, some, ap length same, length-drop 1 c.args.cells.now),
      (within.0, (within.1.0, (within.1.1, (f.arguments, subst (λ l. ShowAll c.args.naming.now l f.arguments) (sym same) f.rest)))),
    )

pub put_flat-put_variable-requires : goal.put_flat-put_variable-requires
put_flat-put_variable-requires g t c =
    let f = query_front _ _ c.requires.known.0 (cell.App 0 0 0) c.in-Query.number c.requires.known.1 c.in-Query.is in
    record { known = (f.0, f.2) }

pub put_flat-put_variable-requires-in-Entry : goal.put_flat-put_variable-requires-in-Entry
put_flat-put_variable-requires-in-Entry g t c =
    let f = entry_front _ _ c.requires.known.0 (cell.App 0 0 0) c.in-Entry.number c.requires.known.1 c.in-Entry.is in
    record { known = (f.0, f.2) }

pub put_flat-unreachable-requires : goal.put_flat-unreachable-requires
put_flat-unreachable-requires g t c = no_indicator _ _ c.requires.known.0 _ c.in-Ind.field-0 c.requires.known.1 c.in-Ind.is

pub put_flat-returns-in_ok-put_symbol-in-App : goal.put_flat-returns-in_ok-put_symbol-in-App
put_flat-returns-in_ok-put_symbol-in-App g t c = λ u h.
    let old = (g.K.Sink.shown c.args.sink.now) in
    let mid = (g.K.Sink.shown c.put_symbol.new.sink) in
    let last = (g.K.Sink.shown c.put_flat_arguments.new.sink) in
    let f = app_front _ _ u (cell.App 0 0 0) c.in-App.sym c.in-App.arity c.in-App.len h c.in-App.is in
    let head = symbol_text (symbol_of c.symbol_at.result.now) in
    let rest = arguments_text variable_text f.arguments in
    let whole = term_text variable_text u in
    let split : whole ≡ head ++ rest =
    ap (term_text variable_text) f.is ∙ app_text variable_text f.symbol f.arguments
    ∙ ap (λ s. symbol_text s ++ rest) (sym (c.symbol_at.ensures f.symbol f.head)) in
    let first = wrote_piece old old mid whole whole head rest split (wrote_none old whole) c.in_ok-put_symbol-in-App.ensures.all in
    let same = take_all (length c.args.cells.now - 1) (drop 1 c.args.cells.now) (omega (arith, length-drop 1 c.args.cells.now)) in
    puts_rest c.put_flat_arguments.result old mid last whole rest first
    (c.put_flat_arguments.ensures f.arguments (subst (λ l. ShowAll c.args.naming.now l f.arguments) (sym same) f.rest))

-- ---- arguments
pub put_flat_arguments-split_at-requires : goal.put_flat_arguments-split_at-requires
put_flat_arguments-split_at-requires g t c =
    let some : 0 < length c.args.cells.now = search rules in
    let b = begins _ _ (cell.App 0 0 0) c.requires.known.0 c.requires.known.1 some in
    omega (arith, c.span.ensures, b.inside)

pub put_flat_arguments-put_flat-requires : goal.put_flat_arguments-put_flat-requires
put_flat_arguments-put_flat-requires g t c κs within =
    let some : 0 < length c.args.cells.now = search rules in
    let h = halves _ _ _ _ c.span.result (cell.App 0 0 0) c.requires.known.0 c.requires.known.1 some c.span.ensures c.split_at.ensures.front c.split_at.ensures.back in
    (omega (arith, c.split_at.ensures.back_len, c.split_at.ensures.front_len), (within.0, (within.1.0, (within.1.1, (h.term, h.shows)))))

pub put_flat_arguments-returns-in_err-put_flat : goal.put_flat_arguments-returns-in_err-put_flat
put_flat_arguments-returns-in_err-put_flat g t c = λ ts shown.
    let old = (g.K.Sink.shown c.args.sink.now) in
    let opened = (g.K.Sink.shown c.put_bytes.new.sink) in
    let last = (g.K.Sink.shown c.put_flat.new.sink) in
    let some : 0 < length c.args.cells.now = search rules in
    let h = halves _ _ _ _ c.span.result (cell.App 0 0 0) ts shown some c.span.ensures c.split_at.ensures.front c.split_at.ensures.back in
    let whole = arguments_text variable_text ts in
    let text = term_text variable_text h.term in
    let more = more_texts variable_text h.behind in
    let split = arguments_apart _ _ _ ts h in
    let first = wrote_piece old old opened whole whole (codes "(") (text ++ (more ++ codes ")")) split (wrote_none old whole) c.in_ok-put_bytes.ensures.all in
    record { all = search rules; part = on_err c.from_residual-in_err-put_flat.result (wrote_part old opened last whole (text ++ (more ++ codes ")")) text (more ++ codes ")") refl first (c.in_err-put_flat.ensures h.term h.shows).part) }

pub put_flat_arguments-put_flat_others-requires : goal.put_flat_arguments-put_flat_others-requires
put_flat_arguments-put_flat_others-requires g t c κs within =
    let some : 0 < length c.args.cells.now = search rules in
    let b = begins _ _ (cell.App 0 0 0) c.requires.known.0 c.requires.known.1 some in
    let h = halves _ _ _ _ c.span.result (cell.App 0 0 0) c.requires.known.0 c.requires.known.1 some c.span.ensures c.split_at.ensures.front c.split_at.ensures.back in
    (omega (arith, c.split_at.ensures.back_len, c.span.ensures, b.some), (within.0, (within.1.0, (within.1.1, (h.behind, h.rest)))))

pub put_flat_arguments-returns-in_err-put_flat_others : goal.put_flat_arguments-returns-in_err-put_flat_others
put_flat_arguments-returns-in_err-put_flat_others g t c = λ ts shown.
    let old = (g.K.Sink.shown c.args.sink.now) in
    let opened = (g.K.Sink.shown c.put_bytes.new.sink) in
    let mid = (g.K.Sink.shown c.put_flat.new.sink) in
    let last = (g.K.Sink.shown c.put_flat_others.new.sink) in
    let some : 0 < length c.args.cells.now = search rules in
    let h = halves _ _ _ _ c.span.result (cell.App 0 0 0) ts shown some c.span.ensures c.split_at.ensures.front c.split_at.ensures.back in
    let whole = arguments_text variable_text ts in
    let text = term_text variable_text h.term in
    let more = more_texts variable_text h.behind in
    let split = arguments_apart _ _ _ ts h in
    let first = wrote_piece old old opened whole whole (codes "(") (text ++ (more ++ codes ")")) split (wrote_none old whole) c.in_ok-put_bytes.ensures.all in
    let second = wrote_piece old opened mid whole (text ++ (more ++ codes ")")) text (more ++ codes ")") refl first (c.in_ok-put_flat.ensures h.term h.shows).all in
    record { all = search rules; part = on_err c.from_residual-in_err-put_flat_others.result (wrote_part old mid last whole (more ++ codes ")") more (codes ")") refl second (c.in_err-put_flat_others.ensures h.behind h.rest).part) }

pub put_flat_arguments-returns : goal.put_flat_arguments-returns
put_flat_arguments-returns g t c = λ ts shown.
    let old = (g.K.Sink.shown c.args.sink.now) in
    let opened = (g.K.Sink.shown c.put_bytes.new.sink) in
    let mid = (g.K.Sink.shown c.put_flat.new.sink) in
    let later = (g.K.Sink.shown c.put_flat_others.new.sink) in
    let last = (g.K.Sink.shown c.put_bytes-2.new.sink) in
    let some : 0 < length c.args.cells.now = search rules in
    let h = halves _ _ _ _ c.span.result (cell.App 0 0 0) ts shown some c.span.ensures c.split_at.ensures.front c.split_at.ensures.back in
    let whole = arguments_text variable_text ts in
    let text = term_text variable_text h.term in
    let more = more_texts variable_text h.behind in
    let split = arguments_apart _ _ _ ts h in
    let first = wrote_piece old old opened whole whole (codes "(") (text ++ (more ++ codes ")")) split (wrote_none old whole) c.in_ok-put_bytes.ensures.all in
    let second = wrote_piece old opened mid whole (text ++ (more ++ codes ")")) text (more ++ codes ")") refl first (c.in_ok-put_flat.ensures h.term h.shows).all in
    let third = wrote_piece old mid later whole (more ++ codes ")") more (codes ")") refl second (c.in_ok-put_flat_others.ensures h.behind h.rest).all in
    puts_rest c.put_bytes-2.result old later last whole (codes ")") third c.put_bytes-2.ensures

-- ---- arguments after the first
pub put_flat_others-split_at-requires : goal.put_flat_others-split_at-requires
put_flat_others-split_at-requires g t c =
    let some : 0 < length c.loop-rest.rest.now = search rules in
    let l = c.loop-rest.invariant.left c.requires.known.0 c.requires.known.1 in
    let b = begins _ _ (cell.App 0 0 0) l.left l.shows some in
    omega (arith, c.span.ensures, b.inside)

pub put_flat_others-returns-in_err-put_bytes : goal.put_flat_others-returns-in_err-put_bytes
put_flat_others-returns-in_err-put_bytes g t c = λ ts shown.
    let some : 0 < length c.loop-rest.rest.now = search rules in
    let l = c.loop-rest.invariant.left ts shown in
    let h = halves _ _ _ _ c.span.result (cell.App 0 0 0) l.left l.shows some c.span.ensures c.split_at.ensures.front c.split_at.ensures.back in
    record { all = search rules; part = on_err c.from_residual.result (wrote_part _ _ (g.K.Sink.shown c.put_bytes.new.sink) (more_texts variable_text ts) (more_texts variable_text l.left) (codes ",") (term_text variable_text h.term ++ more_texts variable_text h.behind) (more_apart _ _ _ l.left h) l.wrote c.in_err-put_bytes.ensures.part) }

pub put_flat_others-put_flat-requires : goal.put_flat_others-put_flat-requires
put_flat_others-put_flat-requires g t c κs within =
    let some : 0 < length c.loop-rest.rest.now = search rules in
    let l = c.loop-rest.invariant.left c.requires.known.0 c.requires.known.1 in
    let h = halves _ _ _ _ c.span.result (cell.App 0 0 0) l.left l.shows some c.span.ensures c.split_at.ensures.front c.split_at.ensures.back in
    (omega (arith, c.split_at.ensures.back_len, c.split_at.ensures.front_len, c.loop-rest.invariant.shorter), (within.0, (within.1.0, (within.1.1, (h.term, h.shows)))))

pub put_flat_others-returns-in_err-put_flat : goal.put_flat_others-returns-in_err-put_flat
put_flat_others-returns-in_err-put_flat g t c = λ ts shown.
    let comma = (g.K.Sink.shown c.put_bytes.new.sink) in
    let last = (g.K.Sink.shown c.put_flat.new.sink) in
    let some : 0 < length c.loop-rest.rest.now = search rules in
    let l = c.loop-rest.invariant.left ts shown in
    let h = halves _ _ _ _ c.span.result (cell.App 0 0 0) l.left l.shows some c.span.ensures c.split_at.ensures.front c.split_at.ensures.back in
    let whole = more_texts variable_text ts in
    let text = term_text variable_text h.term in
    let more = more_texts variable_text h.behind in
    let first = wrote_piece _ _ comma whole (more_texts variable_text l.left) (codes ",") (text ++ more) (more_apart _ _ _ l.left h) l.wrote c.in_ok-put_bytes.ensures.all in
    record { all = search rules; part = on_err c.from_residual-in_err-put_flat.result (wrote_part _ comma last whole (text ++ more) text more refl first (c.in_err-put_flat.ensures h.term h.shows).part) }

pub put_flat_others-loop-rest-preserved : goal.put_flat_others-loop-rest-preserved
put_flat_others-loop-rest-preserved g t c =
    let comma = (g.K.Sink.shown c.put_bytes.new.sink) in
    let last = (g.K.Sink.shown c.put_flat.new.sink) in
    let some : 0 < length c.loop-rest.rest.now = search rules in
    record {
      left = λ ts shown.
          let l = c.loop-rest.invariant.left ts shown in
          let h = halves _ _ _ _ c.span.result (cell.App 0 0 0) l.left l.shows some c.span.ensures c.split_at.ensures.front c.split_at.ensures.back in
          let whole = more_texts variable_text ts in
          let text = term_text variable_text h.term in
          let more = more_texts variable_text h.behind in
          let first = wrote_piece _ _ comma whole (more_texts variable_text l.left) (codes ",") (text ++ more) (more_apart _ _ _ l.left h) l.wrote c.in_ok-put_bytes.ensures.all in
          record {
            left = h.behind;
            shows = h.rest;
            wrote = wrote_piece _ comma last whole (text ++ more) text more refl first (c.in_ok-put_flat.ensures h.term h.shows).all;
          };
      shorter = omega (arith, c.split_at.ensures.back_len, c.loop-rest.invariant.shorter);
    }

pub put_flat_others-returns : goal.put_flat_others-returns
put_flat_others-returns g t c = λ ts shown.
    let none : length c.loop-rest.rest.now ≡ 0 = search rules in
    let l = c.loop-rest.invariant.left ts shown in
    let left = none_left _ _ l.left l.shows none in
    record { all = wrote_all _ _ (more_texts variable_text ts) (more_texts variable_text l.left) (ap (more_texts variable_text) left) l.wrote; part = search rules }
