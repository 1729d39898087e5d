use Rattle.std.proofs.Common.{◌≡◌, ◌++◌, false, drop}
use Rattle.si_lex.specs.Texts.{unescaped_behind}
use Rattle.si_lex.proofs.lexeme.without_escapes.Given as goal

abbrev pub invariant-loop-byte : goal.invariant-loop-byte
invariant-loop-byte l = l.text.items ++ unescaped_behind l.backslash (drop l.byte-index l.inner) ≡ unescaped_behind false l.inner
