use Rattle.std.proofs.Common.{◌∷◌, refl, ap, ◌∙◌}
use Rattle.si_lex.specs.Lexemes.{tokens_of}
use Rattle.si_parse.proofs.ParseSteps.{parses_at}
use Rattle.si_parse.proofs.ParseReads.{first_token, others_of}
use Rattle.si_parse.proofs.GrammarNames.{opening_behind}
use Rattle.si_parse.proofs.grammar.opening.Goals as goal

pub returns-in-len1-up : goal.returns-in-len1-up
returns-in-len1-up c =
    let rest = others_of c.args.tokens.now in
    parses_at (first_token c.args.tokens.now c.in-len1-up.len_at_least ∙ ap (λ x. x ∷ tokens_of rest) (c.if-is_lower.ensures.0 refl)) refl
    (opening_behind c.args.word.now (tokens_of rest) _ c.mark_at.ensures)
