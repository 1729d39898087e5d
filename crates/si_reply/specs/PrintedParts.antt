-- Parts of printed terms and places.
use Rattle.std.specs.Prelude.{ℕ, List, [], ◌∷◌, ◌++◌, codes, decimal}
use Rattle.si_defs.specs.Bytes.{Bytes}
use Rattle.si_defs.specs.Terms as terms
use Rattle.si_defs.specs.Symbols.{Symbol}
use Rattle.si_defs.specs.Printing.{term_text, more_texts, separated, decimals}
use Rattle.si_defs.specs.Variables.{Variable, Apart, Solution, variable_text}

-- the arguments of a symbol, in parentheses where there are any
abbrev pub arguments_text : {V : Type 0} → (V → Bytes) → terms.Terms Symbol V → Bytes
arguments_text f terms.none = []
arguments_text f (terms.more t ts) = codes "(" ++ term_text f t ++ more_texts f ts ++ codes ")"

-- numbers, each after a mark
abbrev pub numbers_behind : Bytes → List ℕ → Bytes
numbers_behind mark [] = []
numbers_behind mark (n ∷ ns) = mark ++ decimal n ++ numbers_behind mark ns

-- numbers with commas between them
unfoldable pub number_list : List ℕ → Bytes
number_list ns = separated (codes ",") (decimals ns)

-- a variable and its term
unfoldable pub binding_text : Variable × Apart → Bytes
binding_text b = variable_text b.0 ++ codes " -> " ++ term_text variable_text b.1

-- bindings, each after a semicolon
unfoldable pub more_bindings_text : Solution → Bytes
more_bindings_text [] = []
more_bindings_text (b ∷ bs) = codes "; " ++ binding_text b ++ more_bindings_text bs

-- bindings with semicolons between them
unfoldable pub bindings_text : Solution → Bytes
bindings_text [] = []
bindings_text (b ∷ bs) = binding_text b ++ more_bindings_text bs
