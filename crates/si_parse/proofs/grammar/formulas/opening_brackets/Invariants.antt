use Rattle.std.proofs.Common.{◌≡◌, ◌+◌, ◌++◌, length, replicate}
use Rattle.si_defs.specs.Grammar.{left_bracket}
use Rattle.si_lex.specs.Lexemes.{tokens_of}
use Rattle.si_parse.proofs.grammar.formulas.opening_brackets.Given as goal

-- the brackets so far stand in front of what is left
abbrev pub invariant-loop-inner : goal.invariant-loop-inner
invariant-loop-inner l = record {
  front : tokens_of l.tokens ≡ replicate l.depth left_bracket ++ tokens_of l.inner;
  counted : l.depth + length l.inner ≡ length l.tokens;
}

abbrev pub decreases-loop-inner : goal.decreases-loop-inner
decreases-loop-inner l = length l.inner
