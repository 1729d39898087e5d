use Rattle.std.proofs.Common.{sym}
use Rattle.std.proofs.lemmas.List.{length-take-le}
use Rattle.si_flat.proofs.Subterms.{cut_at}
use Rattle.si_flat.proofs.sub.Goals as goal

pub slice_bounds-result-end : goal.slice_bounds-result-end
slice_bounds-result-end c = sym (length-take-le _ _ (cut_at _ _ _ _ c.requires.whole c.requires.inside c.span.ensures).long)

pub returns-clause-whole : goal.returns-clause-whole
returns-clause-whole c = (cut_at _ _ _ _ c.requires.whole c.requires.inside c.span.ensures).whole
