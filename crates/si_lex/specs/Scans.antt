-- What the loops over bytes compute.
use Rattle.std.specs.Prelude.{ℕ, ◌+◌, Bool, true, false, not, cond, ◌&&◌, ◌||◌, ◌==◌, Option, Some, None, [], ◌∷◌}
use Rattle.std.specs.List.{prefix_len}
use Rattle.si_defs.specs.Bytes.{Bytes, is_small_letter, is_word_byte, is_digit, is_printable}
use Rattle.si_defs.specs.Tokens.{begins_with}

abbrev pub is_in_line : ℕ → Bool
is_in_line c = not (c == 10)

-- the number of bytes before the next `*/`, or of all if there is none
abbrev pub before_close : Bytes → ℕ
before_close [] = 0
before_close (c ∷ cs) = cond (c == 42 && begins_with 47 cs) 0 (1 + before_close cs)

-- the length of the longest decimal at the front, 0 where none stands
abbrev pub decimal_len : Bytes → ℕ
decimal_len [] = 0
decimal_len (c ∷ cs) = cond (c == 48) 1 (cond (is_digit c) (1 + prefix_len is_digit cs) 0)

-- the same of the longest lower word
abbrev pub lower_len : Bytes → ℕ
lower_len [] = 0
lower_len (c ∷ cs) = cond (is_small_letter c) (1 + prefix_len is_word_byte cs) 0

-- What stands after the quote that closes a quoted text; none where the text is not closed, or
-- something stands in it that is no character. The flag says that a backslash stands before.
abbrev pub behind_quote : ℕ → Bool → Bytes → Option Bytes
behind_quote quote backslash [] = None
behind_quote quote true (c ∷ cs) = cond (c == quote || c == 92) (behind_quote quote false cs) None
behind_quote quote false (c ∷ cs) =
    cond (c == quote) (Some cs)
    (cond (c == 92) (behind_quote quote true cs)
    (cond (is_printable c) (behind_quote quote false cs) None))
