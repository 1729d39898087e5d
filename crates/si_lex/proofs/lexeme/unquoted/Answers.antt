use Rattle.std.proofs.Common.{◌≡◌, ℕ, ◌-◌, List, length, take, drop, false, ◌==◌, Ok, Err, IfOk, Result, ap, sym, ◌∙◌, arith}
use Rattle.std.specs.List.{list_any}
use Rattle.si_lex.specs.Texts.{between_ends, unescaped}
use Rattle.si_lex.proofs.ScanLaws.{unescaped-plain}
use Rattle.si_lex.proofs.lexeme.unquoted.Goals as goal

-- a copy of what stands between the quotes is its text, without a backslash
copied : {E : Type 0} (spelling : List ℕ) (r : Result (List ℕ) E) → list_any (λ c. c == 92) (take (length spelling - 1 - 1) (drop 1 spelling)) ≡ false
    → IfOk r (λ t. t ≡ take (length spelling - 1 - 1) (drop 1 spelling)) → IfOk r (λ t. t ≡ unescaped (between_ends spelling))
copied spelling (Ok t) n e =
    let same : take (length spelling - 1 - 1) (drop 1 spelling) ≡ between_ends spelling = ap (λ k. take k (drop 1 spelling)) (omega arith) in
    e ∙ sym (unescaped-plain (take (length spelling - 1 - 1) (drop 1 spelling)) n) ∙ ap unescaped same
copied spelling (Err e) n k = tt

pub returns-in-len2-up-2 : goal.returns-in-len2-up-2
returns-in-len2-up-2 c = copied c.args.spelling.now _ (sym c.contains.ensures.value ∙ c.if-contains.false) c.from_bytes-in-len2-up-2.ensures
