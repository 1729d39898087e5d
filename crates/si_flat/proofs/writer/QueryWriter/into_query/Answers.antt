use Rattle.std.proofs.Common.{refl, sym, subst}
use Rattle.std.proofs.lemmas.Result.{IfOk-weaker}
use Rattle.si_defs.specs.Entries.{pattern_entry}
use Rattle.si_flat.specs.Flattening.{WritesPattern}
use Rattle.si_flat.proofs.FlattenLaws.{pattern_whole, pattern_written}
use Rattle.si_flat.proofs.writer.QueryWriter.into_query.Goals as goal

pub into_query-requires : goal.into_query-requires
into_query-requires c =
    let (pairs, p, sound, h) = c.requires in
    pattern_whole pairs p (pattern_entry p) c.self.inside.written refl sound (subst (WritesPattern pairs p) (sym c.self.view_is) h)

pub returns : goal.returns
returns c =
    IfOk-weaker c.into_query.result _ _
    (λ q h pairs p sound written. pattern_written pairs p (pattern_entry p) c.self.inside.written refl sound (subst (WritesPattern pairs p) (sym c.self.view_is) written) q h.0 h.1)
    c.into_query.ensures
