use Rattle.std.proofs.Common.{◌<◌, MatchOption, ap, sym, ◌∙◌, subst}
use Rattle.si_defs.specs.declared.TheConstants.{DEEPEST_NESTING}
use Rattle.si_lex.specs.Firsts.{depth_behind}
use Rattle.si_lex.specs.Lexemes.{token_of}
use Rattle.si_lex.specs.Places.{IsLexemeWithin, NoTokenWithin}
use Rattle.si_lex.proofs.FirstLaws.{token_depth}
use Rattle.si_lex.proofs.lexing.lexeme_within.Goals as goal

pub returns-in_err-behind : goal.returns-in_err-behind
returns-in_err-behind c =
    let bytes = c.args.bytes.now in
    let at = c.args.at in
    let depth = c.args.depth in
    subst (λ result. MatchOption result (NoTokenWithin bytes at depth) (λ found. IsLexemeWithin bytes at depth found.0 found.1)) (sym c.from_residual-in_err-behind.ensures)
    (λ t rest stands.
    let behind = ap (depth_behind depth) c.first_of.ensures ∙ sym (token_depth bytes at depth t rest c.requires.place stands) in
    subst (λ n. DEEPEST_NESTING < n) behind c.in_err-behind.ensures)

pub returns-in_err-lexeme : goal.returns-in_err-lexeme
returns-in_err-lexeme c =
    let bytes = c.args.bytes.now in
    let at = c.args.at in
    let depth = c.args.depth in
    subst (λ result. MatchOption result (NoTokenWithin bytes at depth) (λ found. IsLexemeWithin bytes at depth found.0 found.1)) (sym c.from_residual.ensures)
    (λ t rest stands. absurd (c.in_err-lexeme.ensures t rest stands))

pub returns : goal.returns
returns c =
    let same = token_depth c.args.bytes.now c.args.at c.args.depth (token_of c.in_ok-lexeme.lexeme) _ c.requires.place c.in_ok-lexeme.ensures.stands in
    record {
      stands = c.in_ok-lexeme.ensures;
      opened = c.in_ok-behind.ensures.0 ∙ ap (depth_behind c.args.depth) c.first_of.ensures ∙ sym same;
      shallow = c.in_ok-behind.ensures.1;
    }
