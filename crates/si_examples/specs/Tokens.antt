-- How texts are cut into blanks and tokens.
use Rattle.std.specs.Prelude.{[], ◌∷◌, codes}
use Rattle.si_defs.specs.Bytes.{Bytes}
use Rattle.si_defs.specs.Tokens.{Token, upper, lower, TokenAt, AreBlanks, Consists}
use Rattle.si_defs.specs.Grammar.{left_bracket, right_bracket, full_stop, not_equal}
use Rattle.si_examples.specs.Grammar.{integer}

-- ---- blanks
-- `/**/` is a comment
abbrev pub ShortestComment : Type 0
ShortestComment = AreBlanks (codes "/**/")

-- `/*/` is none: its end is missing
abbrev pub UnclosedComment : Type 0
UnclosedComment = AreBlanks (codes "/*/") → ⊥

-- at the end of a text a line comment needs no line feed
abbrev pub LastLineComment : Type 0
LastLineComment = AreBlanks (codes " % p")

-- a word is no blank
abbrev pub WordIsNoBlank : Type 0
WordIsNoBlank = AreBlanks (codes "p") → ⊥

-- ---- tokens
-- `01` is two tokens
abbrev pub TwoIntegers : Type 0
TwoIntegers = Consists (codes "01") (integer (codes "0") ∷ integer (codes "1") ∷ [])

-- and not one
abbrev pub NoOneInteger : Type 0
NoOneInteger = (token : Token) → TokenAt (codes "01") token [] → ⊥

-- `X!=-3.` is four: a variable, a mark, an integer and a full stop
abbrev pub SignedInteger : Type 0
SignedInteger =
    Consists (codes "X!=-3.")
    (upper (codes "X") ∷ not_equal ∷ integer (codes "-3") ∷ full_stop ∷ [])

-- `f( X )` is four, with blanks between them
abbrev pub WordAndVariable : Type 0
WordAndVariable =
    Consists (codes "f( X )")
    (lower (codes "f") ∷ left_bracket ∷ upper (codes "X") ∷ right_bracket ∷ [])

-- a word ends only where it can go on no further: the first token of `ab` is not `a`
abbrev pub NoPartOfWord : Type 0
NoPartOfWord = TokenAt (codes "ab") (lower (codes "a")) (codes "b") → ⊥

-- no token begins where a comment opens
abbrev pub NoTokenAtComment : Type 0
NoTokenAtComment = (token : Token) (rest : Bytes) → TokenAt (codes "/*/") token rest → ⊥
