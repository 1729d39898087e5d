use Rattle.std.proofs.Common.{◌≡◌, ◌∷◌, ◌++◌, [], List, Bor, Some, ◌-◌, ◌+◌, length, take, drop, refl, sym, ap, ◌∙◌, subst, arith}
use Rattle.std.specs.Option.{option_map}
use Rattle.si_defs.specs.Grammar.{closing_of, right_bracket}
use Rattle.si_lex.specs.Lexemes.{token_of, tokens_of}
use Rattle.si_lex.specs.declared.lexeme.Lexeme.{Lexeme}
use Rattle.si_lex.proofs.BracketLaws.{open_after, open_more}
use Rattle.si_parse.specs.Brackets.{pending_of, IsTurn}
use Rattle.si_parse.proofs.ParseSteps.{parses_at}
use Rattle.si_parse.proofs.ParseReads.{token_at, tokens_more, tokens_split, tokens_all, some_before}
use Rattle.si_parse.proofs.GrammarNotes.{annotations_some, annotations_empty, annotations_fail, annotations_open, right_closes}
use Rattle.si_parse.proofs.grammar.annotations.annotations.Goals as goal
use Rattle.si_parse.proofs.grammar.annotations.annotations.Goals.{then-n-eq0, else-n-eq0}

pub loop-n-init : goal.loop-n-init
loop-n-init c = ap (λ bs. Some (pending_of bs)) (sym c.new-pending.ensures.items)

pub returns-in-Ends : goal.returns-in-Ends
returns-in-Ends c =
    let tokens = c.args.tokens.now in
    let n = c.loop-n.n in
    let rest = tokens_of (take (length tokens - (n + 1)) (drop (n + 1) tokens)) in
    let h = subst (IsTurn (token_of (token_at tokens n)) (pending_of c.loop-n.pending.items) (pending_of c.step_over.new.pending.items)) c.in-Ends.is c.in_ok-step_over.ensures in
    let ends = right_closes (token_of (token_at tokens n)) h.0 h.1 in
    let none : open_after (tokens_of (take n tokens)) [] ≡ Some [] = c.loop-n.invariant ∙ ap Some h.2 in
    let split : tokens_of tokens ≡ tokens_of (take n tokens) ++ right_bracket ∷ rest = tokens_split tokens n c.loop-n-test.true ∙ ap (λ x. tokens_of (take n tokens) ++ x ∷ rest) ends in
    elim c.if-n-eq0.branch [
      | then-n-eq0 w ↦ parses_at (split ∙ ap (λ k. tokens_of (take k tokens) ++ right_bracket ∷ rest) w.if-n-eq0.true)
          (ap (option_map (λ (r : Bor (List Lexeme)). (tt {0}, tokens_of r.now))) w.result-is) (annotations_empty rest _ refl)
      | else-n-eq0 w ↦ parses_at refl (ap (option_map (λ (r : Bor (List Lexeme)). (tt {0}, tokens_of r.now))) w.result-is)
          (annotations_some (tokens_of (take n tokens)) rest (tokens_of tokens) none split (some_before tokens n c.loop-n-test.true w.if-n-eq0.false))
    ]

pub returns-in-Fails : goal.returns-in-Fails
returns-in-Fails c =
    let tokens = c.args.tokens.now in
    let n = c.loop-n.n in
    let t = token_of (token_at tokens n) in
    let h = subst (IsTurn t (pending_of c.loop-n.pending.items) (pending_of c.step_over.new.pending.items)) c.in-Fails.is c.in_ok-step_over.ensures in
    annotations_fail (tokens_of (take n tokens)) (tokens_of (take (length tokens - (n + 1)) (drop (n + 1) tokens))) (tokens_of tokens) t (pending_of c.loop-n.pending.items) c.loop-n.invariant
    (tokens_split tokens n c.loop-n-test.true) h.0 (λ is. h.1 (ap closing_of is))

pub loop-n-preserved : goal.loop-n-preserved
loop-n-preserved c =
    let tokens = c.args.tokens.now in
    let n = c.loop-n.n in
    let t = token_of (token_at tokens n) in
    let h = subst (IsTurn t (pending_of c.loop-n.pending.items) (pending_of c.step_over.new.pending.items)) c.in-GoesOn.is c.in_ok-step_over.ensures in
    ap (λ ts. open_after ts []) (tokens_more tokens n c.loop-n-test.true) ∙ open_more (tokens_of (take n tokens)) t [] (pending_of c.loop-n.pending.items) c.loop-n.invariant ∙ h

pub returns : goal.returns
returns c =
    annotations_open (tokens_of c.args.tokens.now) (pending_of c.loop-n.pending.items)
    (ap (λ ts. open_after ts []) (sym (tokens_all c.args.tokens.now c.loop-n.n (omega arith))) ∙ c.loop-n.invariant)
