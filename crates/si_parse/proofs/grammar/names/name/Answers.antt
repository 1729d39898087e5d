use Rattle.std.proofs.Common.{◌≡◌, Some, sym, ap, ◌∙◌}
use Rattle.si_lex.specs.Lexemes.{token_of, tokens_of}
use Rattle.si_parse.proofs.ParseSteps.{parses_at}
use Rattle.si_parse.proofs.ParseReads.{first_token, token_at, others_of}
use Rattle.si_parse.proofs.GrammarNames.{name_kind, name_some}
use Rattle.si_parse.proofs.grammar.names.name.Goals as goal
use Rattle.si_parse.proofs.grammar.names.name.Goals.{in-Lower, in-Single, in-Int}

pub returns-in_ok-text-in-len1-up : goal.returns-in_ok-text-in-len1-up
returns-in_ok-text-in-len1-up c =
    let rest = tokens_of (others_of c.args.tokens.now) in
    let kind : name_kind (token_at c.args.tokens.now 0).kind ≡ Some c.match-first.kind =
    elim c.match-first.branch [
      | in-Lower w ↦ ap name_kind w.in-Lower.is ∙ ap Some (sym w.kind-is)
      | in-Single w ↦ ap name_kind w.in-Single.is ∙ ap Some (sym w.kind-is)
      | in-Int w ↦ ap name_kind w.in-Int.is ∙ ap Some (sym w.kind-is)
    ] in
    parses_at (first_token c.args.tokens.now c.in-len1-up.len_at_least) (ap (λ x. Some (record { kind = c.match-first.kind; text = x }, rest)) c.in_ok-text-in-len1-up.ensures)
    (name_some (token_of (token_at c.args.tokens.now 0)) rest c.match-first.kind kind)
