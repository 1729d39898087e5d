-- What a byte begins.
use Rattle.std.specs.Prelude.{ℕ, ◌+◌, ◌-◌, Bool, true, false, cond, ◌||◌, ◌==◌, codes}
use Rattle.std.specs.List.{list_any}
use Rattle.si_defs.specs.Bytes.{is_white, is_small_letter, is_capital_letter, is_digit}
use Rattle.si_lex.specs.declared.bytes.First.{First}
use Rattle.si_lex.specs.declared.bytes.First.TheVariants.{White, Percent, Small, Capital, Digit, Sign, Dollar, SingleQuote, DoubleQuote, Exclamation, Slash, Opening, Closing, Underscore, LoneMark, Nothing}

-- a mark that begins no other token and no comment
abbrev pub is_lone_mark : ℕ → Bool
is_lone_mark c = list_any (λ m. m == c) (codes "()[],.=~|?&<>@*^;:#{}")

unfoldable pub mark_or_nothing : ℕ → First
mark_or_nothing c = cond (is_lone_mark c) LoneMark Nothing

abbrev pub first_of : ℕ → First
first_of c =
    cond (is_white c) White
    (cond (c == 37) Percent
    (cond (is_small_letter c) Small
    (cond (is_capital_letter c) Capital (cond (is_digit c) Digit (cond (c == 43 || c == 45) Sign
    (cond (c == 36) Dollar
    (cond (c == 39) SingleQuote
    (cond (c == 34) DoubleQuote (cond (c == 33) Exclamation (cond (c == 47) Slash
    (cond (c == 40 || c == 91) Opening
    (cond (c == 41 || c == 93) Closing (cond (c == 95) Underscore (mark_or_nothing c))))))))))))))

-- whether blanks may begin so
abbrev pub begins_blank : First → Bool
begins_blank White = true
begins_blank Percent = true
begins_blank Slash = true
begins_blank first = false

-- the number of brackets that are open after what begins so, where this many are open before
abbrev pub depth_behind : ℕ → First → ℕ
depth_behind depth Opening = depth + 1
depth_behind depth Closing = depth - 1
depth_behind depth first = depth
