use Rattle.std.proofs.Common.{arith, ◌≡◌, ℕ, Some, [], ◌∷◌, refl, sym, ◌∙◌, ap, subst}
use Rattle.std.specs.Prelude.{slice_get}
use Rattle.si_defs.specs.Entries.{Placed}
use Rattle.si_state.specs.Answers.{Hit, hit_text}
use Rattle.si_steps.specs.Runs.{ended}
use Rattle.si_io.specs.Sends.{Sends}
use Rattle.si_term.specs.Meaning.{clause_of, place_of}
use Rattle.si_index.specs.Showing.{shown_of}
use Rattle.si_session.specs.Answering.{hit_line}
use Rattle.si_session.proofs.Answering.{line_is, at_number}
use Rattle.si_session.proofs.Shown.{shows_hit}
use Rattle.si_session.proofs.answer.HitsLines.put_line.Goals as goal

pub overflow_cast-n : goal.overflow_cast-n
overflow_cast-n g c = omega (arith, c.requires, c.args.self.now.counted, c.args.self.now.few)

pub put_hit-requires : goal.put_hit-requires
put_hit-requires g c =
    let numbers = sym c.signature.ensures.numbers in
    record { known = (c.lent-lent.ensures.2.solution, shows_hit c.args.self.now.found.now c.args.n _ (shown_of c.lent-lent.result) numbers c.lent-lent.ensures) }

pub returns : goal.returns
returns g c =
    let shows = c.lent-lent.ensures in
    let f = shows.0 in
    let e = shows.2 in
    let numbers = sym c.signature.ensures.numbers in
    let known = shows_hit c.args.self.now.found.now c.args.n _ (shown_of c.lent-lent.result) numbers shows in
    let at = at_number c.args.self.now.found.now.hits c.args.n f c.hit-hit.result.now.clause (place_of c.hit-hit.result.now.place) shows.1 c.hit-hit.ensures in
    let hit : Hit = record { clause = clause_of c.clause-clause.result.now; placed = f.1; solution = e.solution } in
    let of = c.clause-clause.ensures in
    let same : of.0 ≡ f = (let both : Some of.0 ≡ Some f = sym of.1 ∙ shows.1 in cc) in
    let there : slice_get c.args.self.now.found.now.index.clauses f.0 ≡ Some hit.clause =
    subst (λ (g : ℕ × Placed). slice_get c.args.self.now.found.now.index.clauses g.0 ≡ Some hit.clause) same of.2 in
    let line : hit_line hit.clause.name (place_of c.hit-hit.result.now.place) e.solution ≡ ended (hit_text hit ∷ []) =
    ap (λ p. hit_line hit.clause.name p e.solution) (sym at.1) ∙ line_is hit in (
      ended (hit_text hit ∷ []),
      (f, hit, shows.1, record { clause = there; placed = λ i. f.1; solves = e.solves }, refl),
      subst (λ l. Sends c.put_hit.result l (g.K.Sink.shown c.args.sink.now) (g.K.Sink.shown c.put_hit.new.sink)) line (c.put_hit.ensures e.solution known),
    )
