use Rattle.std.proofs.Common.{◌≡◌, [], take, Some}
use Rattle.si_lex.specs.Lexemes.{tokens_of}
use Rattle.si_parse.specs.Brackets.{pending_of}
use Rattle.si_lex.proofs.BracketLaws.{open_after}
use Rattle.si_parse.proofs.grammar.annotations.annotations.Given as goal

-- the brackets that are open after the tokens so far
abbrev pub invariant-loop-n : goal.invariant-loop-n
invariant-loop-n l = open_after (tokens_of (take l.n l.tokens)) [] ≡ Some (pending_of l.pending.items)
