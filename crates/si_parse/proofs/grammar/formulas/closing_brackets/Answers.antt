use Rattle.std.proofs.Common.{◌≡◌, ◌++◌, replicate, sym, ◌∙◌, subst, arith}
use Rattle.std.proofs.lemmas.Bool.{false≢true}
use Rattle.si_defs.specs.Grammar.{right_bracket}
use Rattle.si_defs.proofs.ListLaws.{same_first}
use Rattle.si_lex.specs.Lexemes.{tokens_of}
use Rattle.si_parse.proofs.ParseReads.{first_token, no_token}
use Rattle.si_parse.proofs.GrammarFormulas.{closing_none, closing_some, none_empty}
use Rattle.si_parse.proofs.grammar.formulas.closing_brackets.Goals as goal

pub returns-in_default : goal.returns-in_default
returns-in_default c =
    closing_none c.args.count c.loop-n.n (tokens_of c.args.tokens.now) (tokens_of c.loop-n.left.now) c.loop-n-test.true c.loop-n.invariant
    (none_empty (no_token c.loop-n.left.now (omega arith)))

pub returns-then-not-is_mark : goal.returns-then-not-is_mark
returns-then-not-is_mark c =
    closing_none c.args.count c.loop-n.n (tokens_of c.args.tokens.now) (tokens_of c.loop-n.left.now) c.loop-n-test.true c.loop-n.invariant
    (λ rest e. false≢true (c.if-not-is_mark.ensures.1 (same_first (sym (first_token c.loop-n.left.now c.in-len1-up.len_at_least) ∙ e))))

pub returns : goal.returns
returns c =
    closing_some c.args.count (tokens_of c.args.tokens.now) (tokens_of c.loop-n.left.now)
    (subst (λ n. tokens_of c.args.tokens.now ≡ replicate n right_bracket ++ tokens_of c.loop-n.left.now) (omega arith) c.loop-n.invariant)
