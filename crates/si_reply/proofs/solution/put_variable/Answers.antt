use Rattle.std.proofs.Common.{◌≡◌, ◌++◌, sym, ◌∙◌, ap, subst}
use Rattle.std.specs.Prelude.{codes}
use Rattle.si_defs.specs.Variables.{variable_text}
use Rattle.si_flat.specs.declared.Owner.TheVariants.{Query, Entry}
use Rattle.si_io.specs.Sends.{Sends}
use Rattle.si_reply.specs.NamedLists.{ShowsVariable}
use Rattle.si_reply.proofs.NamingLaws.{pattern_name, entry_name}
use Rattle.si_reply.proofs.Writing.{wrote_none, wrote_piece, puts_rest}
use Rattle.si_reply.proofs.solution.put_variable.Goals as goal

pub at-requires : goal.at-requires
at-requires g c =
    let x = c.requires.known.0 in
    let h = subst (λ n. ShowsVariable n Query c.args.slot x) (sym c.naming.view_is) (subst (λ o. ShowsVariable c.args.naming.now o c.args.slot x) c.in-Query.is c.requires.known.1) in
    (pattern_name _ c.args.slot x h).at.inside

pub name-requires : goal.name-requires
name-requires g c =
    let x = c.requires.known.0 in
    let h = subst (λ n. ShowsVariable n Entry c.args.slot x) (sym c.naming.view_is) (subst (λ o. ShowsVariable c.args.naming.now o c.args.slot x) c.in-Entry.is c.requires.known.1) in
    (entry_name _ c.args.slot x h).at.inside

pub returns-in_ok-put_bytes-in-Query : goal.returns-in_ok-put_bytes-in-Query
returns-in_ok-put_bytes-in-Query g c = λ x h.
    let old = (g.K.Sink.shown c.args.sink.now) in
    let mid = (g.K.Sink.shown c.put_bytes.new.sink) in
    let last = (g.K.Sink.shown c.put_bytes-in-Query.new.sink) in
    let k = subst (λ n. ShowsVariable n Query c.args.slot x) (sym c.naming.view_is) (subst (λ o. ShowsVariable c.args.naming.now o c.args.slot x) c.in-Query.is h) in
    let y = pattern_name _ c.args.slot x k in
    let name = c.as_bytes.result.now in
    let is : name ≡ y.name = c.as_bytes.ensures ∙ y.at.found c.at.result.now c.at.ensures in
    let whole : variable_text x ≡ codes "?" ++ name = ap variable_text y.is ∙ ap (λ l. codes "?" ++ l) (sym is) in
    let first = wrote_piece old old mid (variable_text x) (variable_text x) (codes "?") name whole (wrote_none old (variable_text x)) c.in_ok-put_bytes-in-Query.ensures.all in
    puts_rest c.put_bytes-in-Query.result old mid last (variable_text x) name first c.put_bytes-in-Query.ensures

pub returns-in-Entry : goal.returns-in-Entry
returns-in-Entry g c = λ x h.
    let old = (g.K.Sink.shown c.args.sink.now) in
    let last = (g.K.Sink.shown c.put_bytes-in-Entry.new.sink) in
    let k = subst (λ n. ShowsVariable n Entry c.args.slot x) (sym c.naming.view_is) (subst (λ o. ShowsVariable c.args.naming.now o c.args.slot x) c.in-Entry.is h) in
    let y = entry_name _ c.args.slot x k in
    let is : c.name.result.now ≡ variable_text x = y.at.found c.name.result.now c.name.ensures ∙ sym (ap variable_text y.is) in
    subst (λ l. Sends c.put_bytes-in-Entry.result l old last) is c.put_bytes-in-Entry.ensures
