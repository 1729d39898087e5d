-- Brackets of annotations as the reader keeps them.
use Rattle.std.specs.Prelude.{◌≡◌, List, [], map, reverse, Option, Some, None}
use Rattle.si_defs.specs.Tokens.{Token}
use Rattle.si_defs.specs.Grammar.{round, square, neither, opening_of, closing_of, brackets_behind, right_bracket}
use Rattle.si_defs.specs.Grammar as grammar
use Rattle.si_parse.specs.declared.grammar.annotations.Bracket.{Bracket}
use Rattle.si_parse.specs.declared.grammar.annotations.Bracket.TheVariants.{Round, Square}
use Rattle.si_parse.specs.declared.grammar.annotations.Edge.{Edge}
use Rattle.si_parse.specs.declared.grammar.annotations.Edge.TheVariants.{Opens, Closes}
use Rattle.si_parse.specs.declared.grammar.annotations.Turn.{Turn}
use Rattle.si_parse.specs.declared.grammar.annotations.Turn.TheVariants.{GoesOn, Ends, Fails}

abbrev pub bracket_of : Bracket → grammar.Bracket
bracket_of Round = round
bracket_of Square = square

-- the brackets that are open, the last one first
abbrev pub pending_of : List Bracket → List grammar.Bracket
pending_of bs = reverse (map bracket_of bs)

-- what a token does as a bracket
abbrev pub IsEdge : Token → Option Edge → Type 0
IsEdge t None = (opening_of t ≡ neither) × (closing_of t ≡ neither)
IsEdge t (Some (Opens b)) = opening_of t ≡ bracket_of b
IsEdge t (Some (Closes b)) = (opening_of t ≡ neither) × (closing_of t ≡ bracket_of b)

-- what a token does to the brackets that are open: others are open after it, it closes one more
-- than was opened as the end of annotations does, or it closes another than the last
abbrev pub IsTurn : Token → List grammar.Bracket → List grammar.Bracket → Turn → Type 0
IsTurn t before behind GoesOn = brackets_behind t before ≡ Some behind
IsTurn t before behind Ends = (opening_of t ≡ neither) × (closing_of t ≡ round) × (before ≡ [])
IsTurn t before behind Fails =
    (brackets_behind t before ≡ None) × (closing_of t ≡ round → before ≡ [] → ⊥)
