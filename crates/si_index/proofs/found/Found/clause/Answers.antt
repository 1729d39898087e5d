use Rattle.std.proofs.Common.{ap, subst}
use Rattle.si_term.specs.Meaning.{clause_of}
use Rattle.si_index.specs.Finding.{Finding, IsClauseOf}
use Rattle.si_index.specs.Searching.{hit_of, IsMatch}
use Rattle.si_index.proofs.FoundLaws.{inside, hit_at, each_at}
use Rattle.si_index.proofs.found.Found.clause.Goals as goal

pub returns : goal.returns
returns c =
    let ms = c.self.inside.matches.found.items in
    let m = c.index.result.now in
    let less = inside ms c.args.n c.args.self.now.hits (ap (λ (f : Finding). f.hits) c.self.view_is) c.requires in
    let here = each_at (IsMatch c.self.inside.search c.self.inside.matches.leaves.items) ms c.args.n m less c.index.ensures c.self.invariant.each in
    subst (λ (f : Finding). IsClauseOf f c.args.n (clause_of m.clause.now)) c.self.view_is (hit_of m, hit_at ms c.args.n m less c.index.ensures, here.there)
