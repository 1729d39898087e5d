-- Bytes and their classes (ASCII). A text is a list of bytes.
use Rattle.std.specs.Prelude.{ℕ, Bool, false, ◌&&◌, ◌||◌, ◌==◌, nat_le, List, [], ◌∷◌}
use Rattle.std.specs.List.{list_all}

abbrev pub Bytes : Type 0
Bytes = List ℕ

-- low to high, both included
abbrev pub is_between : ℕ → ℕ → ℕ → Bool
is_between low high c = nat_le low c && nat_le c high

abbrev pub is_small_letter : ℕ → Bool
is_small_letter c = is_between 97 122 c

abbrev pub is_capital_letter : ℕ → Bool
is_capital_letter c = is_between 65 90 c

abbrev pub is_digit : ℕ → Bool
is_digit c = is_between 48 57 c

-- a letter, a digit or `_`
abbrev pub is_word_byte : ℕ → Bool
is_word_byte c = is_small_letter c || is_capital_letter c || is_digit c || c == 95

-- tab, line feed, form feed, carriage return, space
abbrev pub is_white : ℕ → Bool
is_white c = c == 9 || c == 10 || c == 12 || c == 13 || c == 32

-- what may stand between quotes: a space to `~`
abbrev pub is_printable : ℕ → Bool
is_printable c = is_between 32 126 c

-- TPTP's lower_word
abbrev pub is_lower_word : Bytes → Bool
is_lower_word [] = false
is_lower_word (c ∷ cs) = is_small_letter c && list_all is_word_byte cs

-- TPTP's upper_word
abbrev pub is_upper_word : Bytes → Bool
is_upper_word [] = false
is_upper_word (c ∷ cs) = is_capital_letter c && list_all is_word_byte cs

-- TPTP's decimal: one digit, or several that do not begin with a zero
abbrev pub is_decimal : Bytes → Bool
is_decimal [] = false
is_decimal (c ∷ []) = is_digit c
is_decimal (c ∷ d ∷ ds) = is_between 49 57 c && list_all is_digit (d ∷ ds)

-- TPTP's integer: a decimal after an optional sign, `+` or `-`
abbrev pub is_integer : Bytes → Bool
is_integer [] = false
is_integer (c ∷ cs) = is_decimal (c ∷ cs) || ((c == 43 || c == 45) && is_decimal cs)

-- TPTP's dollar_word and dollar_dollar_word, a lower word after one `$` or two
abbrev pub is_dollar_word : Bytes → Bool
is_dollar_word [] = false
is_dollar_word (c ∷ []) = false
is_dollar_word (c ∷ d ∷ ds) = c == 36 && (is_lower_word (d ∷ ds) || (d == 36 && is_lower_word ds))
