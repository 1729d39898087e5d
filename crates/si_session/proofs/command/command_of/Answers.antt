use Rattle.std.proofs.Common.{rules, ◌≡◌, List, ◌∷◌, inl, inr, refl, ap, sym, ◌∙◌, subst}
use Rattle.std.specs.Prelude.{IfOk}
use Rattle.si_defs.specs.Tokens.{Token, lower}
use Rattle.si_steps.specs.declared.word.Word.TheVariants.{Stats, Tree}
use Rattle.si_steps.specs.Words.{command_text}
use Rattle.si_lex.specs.Lexemes.{token_of, tokens_of}
use Rattle.si_lex.specs.declared.lexeme.Lexeme.{Lexeme}
use Rattle.si_lex.specs.declared.lexing.TokensEnd.TheVariants.{End}
use Rattle.si_session.specs.Commands.{Commands}
use Rattle.si_session.specs.declared.command.Command.TheVariants as command
use Rattle.si_session.proofs.CommandLaws.{no_word}
use Rattle.si_session.proofs.command.command_of.Goals as goal

front : (tokens : List Lexeme) (t : Lexeme) (rest : List Lexeme) (w : Token) → tokens ≡ t ∷ rest → token_of t ≡ w → w ∷ tokens_of rest ≡ tokens_of tokens
front tokens t rest w e h = sym (ap tokens_of e ∙ ap (λ x. x ∷ tokens_of rest) h)

pub returns-in-Some-Add-clause-read : goal.returns-in-Some-Add-clause-read
returns-in-Some-Add-clause-read c =
    let end : c.args.why ≡ End = search rules in
    subst (λ s. IfOk c.add_command.result (Commands (tokens_of c.args.tokens.now) s)) (sym end)
    (subst (λ ts. IfOk c.add_command.result (Commands ts End))
    (front c.args.tokens.now c.in-Some.first.now c.in-Some.rest.now _ c.in-Some.ensures.cases.0
    (c.in-Some-Add.ensures.found ∙ ap (λ w. lower (command_text w)) c.in-Some-Add.field-0-is)) c.add_command.ensures)

pub returns-in-Some-Load-clause-read : goal.returns-in-Some-Load-clause-read
returns-in-Some-Load-clause-read c =
    let end : c.args.why ≡ End = search rules in
    subst (λ s. IfOk c.load_command.result (Commands (tokens_of c.args.tokens.now) s)) (sym end)
    (subst (λ ts. IfOk c.load_command.result (Commands ts End))
    (front c.args.tokens.now c.in-Some.first.now c.in-Some.rest.now _ c.in-Some.ensures.cases.0
    (c.in-Some-Load.ensures.found ∙ ap (λ w. lower (command_text w)) c.in-Some-Load.field-0-is)) c.load_command.ensures)

pub returns-in-Some-Remove-clause-read : goal.returns-in-Some-Remove-clause-read
returns-in-Some-Remove-clause-read c =
    let end : c.args.why ≡ End = search rules in
    subst (λ s. IfOk c.remove_command.result (Commands (tokens_of c.args.tokens.now) s)) (sym end)
    (subst (λ ts. IfOk c.remove_command.result (Commands ts End))
    (front c.args.tokens.now c.in-Some.first.now c.in-Some.rest.now _ c.in-Some.ensures.cases.0
    (c.in-Some-Remove.ensures.found ∙ ap (λ w. lower (command_text w)) c.in-Some-Remove.field-0-is)) c.remove_command.ensures)

pub returns-in-Some-Stats-clause-read : goal.returns-in-Some-Stats-clause-read
returns-in-Some-Stats-clause-read c =
    let end : c.args.why ≡ End = search rules in
    subst (λ s. Commands (tokens_of c.args.tokens.now) s c.lone_command.result) (sym end)
    (subst (λ ts. Commands ts End c.lone_command.result)
    (front c.args.tokens.now c.in-Some.first.now c.in-Some.rest.now _ c.in-Some.ensures.cases.0
    (c.in-Some-Stats.ensures.found ∙ ap (λ w. lower (command_text w)) c.in-Some-Stats.field-0-is)) (c.lone_command.ensures Stats (inl (refl, refl))))

pub returns-in-Some-Sample-clause-read : goal.returns-in-Some-Sample-clause-read
returns-in-Some-Sample-clause-read c =
    let end : c.args.why ≡ End = search rules in
    subst (λ s. Commands (tokens_of c.args.tokens.now) s c.sample_command.result) (sym end)
    (subst (λ ts. Commands ts End c.sample_command.result)
    (front c.args.tokens.now c.in-Some.first.now c.in-Some.rest.now _ c.in-Some.ensures.cases.0
    (c.in-Some-Sample.ensures.found ∙ ap (λ w. lower (command_text w)) c.in-Some-Sample.field-0-is)) c.sample_command.ensures)

pub returns-in-Some-Ask-clause-read : goal.returns-in-Some-Ask-clause-read
returns-in-Some-Ask-clause-read c =
    let end : c.args.why ≡ End = search rules in
    subst (λ s. IfOk c.query_command.result (Commands (tokens_of c.args.tokens.now) s)) (sym end)
    (subst (λ ts. IfOk c.query_command.result (Commands ts End))
    (front c.args.tokens.now c.in-Some.first.now c.in-Some.rest.now _ c.in-Some.ensures.cases.0
    (c.in-Some-Ask.ensures.found ∙ ap (λ w. lower (command_text w)) c.in-Some-Ask.field-0-is)) c.query_command.ensures)

pub returns-in-None-clause-read : goal.returns-in-None-clause-read
returns-in-None-clause-read c =
    let end : c.args.why ≡ End = search rules in
    subst (λ s. Commands (tokens_of c.args.tokens.now) s command.Wrong) (sym end)
    (subst (λ ts. Commands ts End command.Wrong) (sym (ap tokens_of c.in-Some.ensures.cases.0))
    (no_word (token_of c.in-Some.first.now) (tokens_of c.in-Some.rest.now) End c.in-None.ensures.none))

pub returns-in-Some-Subsumers-clause-read : goal.returns-in-Some-Subsumers-clause-read
returns-in-Some-Subsumers-clause-read c =
    let end : c.args.why ≡ End = search rules in
    subst (λ s. IfOk c.subsumers_command.result (Commands (tokens_of c.args.tokens.now) s)) (sym end)
    (subst (λ ts. IfOk c.subsumers_command.result (Commands ts End))
    (front c.args.tokens.now c.in-Some.first.now c.in-Some.rest.now _ c.in-Some.ensures.cases.0
    (c.in-Some-Subsumers.ensures.found ∙ ap (λ w. lower (command_text w)) c.in-Some-Subsumers.field-0-is)) c.subsumers_command.ensures)

pub returns-in-Some-Subsumed-clause-read : goal.returns-in-Some-Subsumed-clause-read
returns-in-Some-Subsumed-clause-read c =
    let end : c.args.why ≡ End = search rules in
    subst (λ s. IfOk c.subsumed_command.result (Commands (tokens_of c.args.tokens.now) s)) (sym end)
    (subst (λ ts. IfOk c.subsumed_command.result (Commands ts End))
    (front c.args.tokens.now c.in-Some.first.now c.in-Some.rest.now _ c.in-Some.ensures.cases.0
    (c.in-Some-Subsumed.ensures.found ∙ ap (λ w. lower (command_text w)) c.in-Some-Subsumed.field-0-is)) c.subsumed_command.ensures)

pub returns-in-Some-Tree-clause-read : goal.returns-in-Some-Tree-clause-read
returns-in-Some-Tree-clause-read c =
    let end : c.args.why ≡ End = search rules in
    subst (λ s. Commands (tokens_of c.args.tokens.now) s c.lone_command-in-Some-Tree.result) (sym end)
    (subst (λ ts. Commands ts End c.lone_command-in-Some-Tree.result)
    (front c.args.tokens.now c.in-Some.first.now c.in-Some.rest.now _ c.in-Some.ensures.cases.0
    (c.in-Some-Tree.ensures.found ∙ ap (λ w. lower (command_text w)) c.in-Some-Tree.field-0-is)) (c.lone_command-in-Some-Tree.ensures Tree (inr (refl, refl))))

pub returns-in-Some-Explain-clause-read : goal.returns-in-Some-Explain-clause-read
returns-in-Some-Explain-clause-read c =
    let end : c.args.why ≡ End = search rules in
    subst (λ s. IfOk c.explain_command.result (Commands (tokens_of c.args.tokens.now) s)) (sym end)
    (subst (λ ts. IfOk c.explain_command.result (Commands ts End))
    (front c.args.tokens.now c.in-Some.first.now c.in-Some.rest.now _ c.in-Some.ensures.cases.0
    (c.in-Some-Explain.ensures.found ∙ ap (λ w. lower (command_text w)) c.in-Some-Explain.field-0-is)) c.explain_command.ensures)

pub returns-then-ne-clause-read : goal.returns-then-ne-clause-read
returns-then-ne-clause-read c =
    let more : c.args.why ≡ End → ⊥ = search rules in
    c.unended_command.ensures c.args.why more
