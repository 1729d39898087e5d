use Rattle.std.proofs.Common.{length, ap, rules, subst, arith}
use Rattle.si_defs.specs.Clauses.{IsSoundClause}
use Rattle.si_lex.specs.Lexemes.{tokens_of}
use Rattle.si_lex.specs.Places.{IsNext, IsNextToken}
use Rattle.si_term.specs.Meaning.{clause_of}
use Rattle.si_parse.specs.Parsing.{IfFound}
use Rattle.si_parse.proofs.ParseReads.{reads_some}
use Rattle.si_parse.proofs.ReadingLaws.{item_few, clause_read}
use Rattle.si_parse.proofs.GrammarBrief.{few_of, clause_of_all}
use Rattle.si_session.proofs.AddingLaws.{added_line}
use Rattle.si_session.proofs.adding.added.Goals as goal

pub clause-requires : goal.clause-requires
clause-requires c =
    let h = c.in_ok-item.ensures.read in
    omega (arith, ap length c.as_slice.ensures.value, few_of h.brief, item_few c.args.line.now c.in-Token.word.end h.all _ _ _ h.read, c.requires)

pub returns-in-Some : goal.returns-in-Some
returns-in-Some c =
    let line = c.args.line.now in
    let word = c.in-Token.word in
    let l = c.in_ok-item.item in
    let h = c.in_ok-item.ensures.read in
    let first : IsNextToken line 0 word = subst (IsNext line 0) c.in-Token.is c.in_ok-word.ensures.next in
    let reads = clause_of_all h.brief c.as_slice.ensures.value (reads_some clause_of c.as_slice.result.now c.in_ok-clause.ensures.read c.in-Some.is) in
    let item = clause_read line word.end h.all l.start l.end l.why h.read (clause_of c.in-Some.clause) (tokens_of c.in-Some.field-0-1.now) reads in
    let blanks = subst (IsNext line l.end) c.in-End.is c.in_ok-next_token.ensures.next in (
      (first.more, added_line line word c.in-Some.clause l.end first (search rules) item blanks),
      subst (IfFound (λ x. IsSoundClause (clause_of x))) c.in-Some.is c.in_ok-clause.ensures.sound,
    )
