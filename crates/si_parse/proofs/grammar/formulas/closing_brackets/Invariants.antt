use Rattle.std.proofs.Common.{◌≡◌, ◌++◌, replicate}
use Rattle.si_defs.specs.Grammar.{right_bracket}
use Rattle.si_lex.specs.Lexemes.{tokens_of}
use Rattle.si_parse.proofs.grammar.formulas.closing_brackets.Given as goal

-- the brackets so far stand in front of what is left
abbrev pub invariant-loop-n : goal.invariant-loop-n
invariant-loop-n l = tokens_of l.tokens ≡ replicate l.n right_bracket ++ tokens_of l.left
