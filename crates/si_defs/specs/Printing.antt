-- Printed texts: how names, symbols, terms, places and solution lists are written (TPTP's
-- spellings; the forms of places and solution lists are this project's profile).
use Rattle.std.specs.Prelude.{ℕ, cond, List, [], ◌∷◌, ◌++◌, codes, decimal}
use Rattle.si_defs.specs.Bytes.{Bytes, is_lower_word}
use Rattle.si_defs.specs.Terms as terms
use Rattle.si_defs.specs.Symbols.{Symbol}
use Rattle.si_defs.specs.Clauses.{Name}
use Rattle.si_defs.specs.Entries.{Place}
use Rattle.si_defs.specs.Tokens.{quoted}
use Rattle.si_defs.specs.declared.SymKind.{SymKind}
use Rattle.si_defs.specs.declared.SymKind.TheVariants.{Word, Distinct}
use Rattle.si_defs.specs.declared.Side.{Side}
use Rattle.si_defs.specs.declared.Side.TheVariants.{Predicate, Function}
use Rattle.si_defs.specs.declared.NameKind.{NameKind}
use Rattle.si_defs.specs.declared.NameKind.TheVariants as named

-- texts with a separator between each two
abbrev pub separated : Bytes → List Bytes → Bytes
separated separator [] = []
separated separator (text ∷ []) = text
separated separator (text ∷ next ∷ texts) = text ++ separator ++ separated separator (next ∷ texts)

-- bare where that is a lower word, else in single quotes
abbrev pub word_text : Bytes → Bytes
word_text text = cond (is_lower_word text) text (quoted 39 text)

abbrev pub symbol_text_of : SymKind → Bytes → Bytes
symbol_text_of Word text = word_text text
symbol_text_of Distinct text = quoted 34 text
symbol_text_of kind text = text

abbrev pub symbol_text : Symbol → Bytes
symbol_text s = symbol_text_of s.kind s.text

abbrev pub name_text_of : NameKind → Bytes → Bytes
name_text_of named.Word text = word_text text
name_text_of named.Int text = text

abbrev pub name_text : Name → Bytes
name_text n = name_text_of n.kind n.text

abbrev pub file_text : Bytes → Bytes
file_text file = quoted 39 file

-- a term, by the texts of its variables
abbrev mutual
  pub term_text : {V : Type 0} → (V → Bytes) → terms.Term Symbol V → Bytes
  term_text f (terms.var x) = f x
  term_text f (terms.app s terms.none) = symbol_text s
  term_text f (terms.app s (terms.more t ts)) =
      symbol_text s ++ codes "(" ++ term_text f t ++ more_texts f ts ++ codes ")"

  -- each after a comma
  pub more_texts : {V : Type 0} → (V → Bytes) → terms.Terms Symbol V → Bytes
  more_texts f terms.none = []
  more_texts f (terms.more t ts) = codes "," ++ term_text f t ++ more_texts f ts

abbrev pub decimals : List ℕ → List Bytes
decimals [] = []
decimals (n ∷ ns) = decimal n ∷ decimals ns

-- the path after the literal's number, where there is one
abbrev pub path_text : List ℕ → Bytes
path_text [] = []
path_text (n ∷ ns) = codes ":" ++ separated (codes ".") (decimals (n ∷ ns))

abbrev pub place_text : Name → Place → Bytes
place_text name place = name_text name ++ codes ":" ++ decimal place.literal ++ path_text place.path

abbrev pub bindings_texts : {V : Type 0} → (V → Bytes) → List (V × terms.Term Symbol V) → List Bytes
bindings_texts f [] = []
bindings_texts f (b ∷ bs) = (f b.0 ++ codes " -> " ++ term_text f b.1) ∷ bindings_texts f bs

abbrev pub solution_text : {V : Type 0} → (V → Bytes) → List (V × terms.Term Symbol V) → Bytes
solution_text f bs = codes "{" ++ separated (codes "; ") (bindings_texts f bs) ++ codes "}"

-- a map of literals, by their numbers
abbrev pub map_text : List ℕ → Bytes
map_text ns = codes "[" ++ separated (codes ",") (decimals ns) ++ codes "]"

abbrev pub side_text : Side → Bytes
side_text Predicate = codes "predicate"
side_text Function = codes "function"

-- a side and an arity
abbrev pub shape_text : Side → ℕ → Bytes
shape_text side arity = side_text side ++ codes "/" ++ decimal arity
