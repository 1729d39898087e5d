-- The grammar over tokens: which tokens spell this term, literal, formula, name or item? (TPTP's
-- cnf_annotated and include, cut to this project's profile.) Each rule goes by the meaning.
use Rattle.std.specs.Prelude.{◌≡◌, ◌≢◌, ℕ, ◌+◌, ◌-◌, ◌⊎◌, Bool, true, false, ◌==◌, cond, List, [], ◌∷◌, ◌++◌, replicate, max, codes, IsTrue, Option, Some, None}
use Rattle.std.specs.Option.{option_map_or}
use Rattle.si_defs.specs.Bytes.{Bytes}
use Rattle.si_defs.specs.Terms as terms
use Rattle.si_defs.specs.Symbols.{Symbol}
use Rattle.si_defs.specs.Clauses.{Term, Terms, Name, Literal, Clause}
use Rattle.si_defs.specs.Tokens.{Token, mark, lower, upper}
use Rattle.si_defs.specs.declared.SymKind.{SymKind}
use Rattle.si_defs.specs.declared.SymKind.TheVariants.{Word, Dollar, Number, Distinct, Equal}
use Rattle.si_defs.specs.declared.Side.TheVariants.{Predicate, Function}
use Rattle.si_defs.specs.declared.NameKind.{NameKind}
use Rattle.si_defs.specs.declared.NameKind.TheVariants as named
use Rattle.si_defs.specs.declared.TokenKind as token_kind
use Rattle.si_defs.specs.declared.TokenKind.TheVariants as token

abbrev pub left_bracket : Token
left_bracket = mark 40

abbrev pub right_bracket : Token
right_bracket = mark 41

abbrev pub comma : Token
comma = mark 44

abbrev pub full_stop : Token
full_stop = mark 46

abbrev pub not_equal : Token
not_equal = record { kind = token.NotEqual; text = codes "!=" }

-- ---- words and names
-- a lower word, or any text in single quotes
abbrev pub IsWord : Bytes → Token → Type 0
IsWord text t = (t ≡ lower text) ⊎ (t ≡ record { kind = token.Single; text = text })

abbrev pub IsName : Name → Token → Type 0
IsName n t = NameOf n.kind n.text t where
  NameOf : NameKind → Bytes → Token → Type 0
  NameOf named.Word text t = IsWord text t
  NameOf named.Int text t = t ≡ record { kind = token.Int; text = text }

-- the token of a symbol that may have arguments
abbrev pub IsHead : SymKind → Bytes → Token → Type 0
IsHead Word text t = IsWord text t
IsHead Dollar text t = t ≡ record { kind = token.Dollar; text = text }
IsHead Number text t = ⊥
IsHead Distinct text t = ⊥
IsHead Equal text t = ⊥

-- the token of a symbol without arguments, inside a term
abbrev pub IsConstant : SymKind → Bytes → Token → Type 0
IsConstant Number text t = t ≡ record { kind = token.Int; text = text }
IsConstant Distinct text t = t ≡ record { kind = token.Double; text = text }
IsConstant kind text t = IsHead kind text t

-- ---- terms
abbrev mutual
  pub IsTerm : Term → List Token → Type 0
  IsTerm (terms.var x) ts = ts ≡ upper x ∷ []
  IsTerm (terms.app s terms.none) ts =
      (s.side ≡ Function) × (s.arity ≡ 0)
      × ((t : Token) × IsConstant s.kind s.text t × (ts ≡ t ∷ []))
  IsTerm (terms.app s (terms.more u us)) ts =
      (s.side ≡ Function) × (s.arity ≡ 1 + terms.count us)
      × ((t : Token) × (first : List Token) × (others : List Token) × IsHead s.kind s.text t
      × IsTerm u first × AreMoreTerms us others
      × (ts ≡ t ∷ left_bracket ∷ first ++ others ++ right_bracket ∷ []))

  -- each after a comma
  pub AreMoreTerms : Terms → List Token → Type 0
  AreMoreTerms terms.none ts = ts ≡ []
  AreMoreTerms (terms.more u us) ts = (first : List Token) × (others : List Token) × IsTerm u first
      × AreMoreTerms us others × (ts ≡ comma ∷ first ++ others)

-- ---- literals and formulas
abbrev pub equality : Symbol
equality = record { kind = Equal; text = codes "="; side = Predicate; arity = 2 }

-- two terms with this token between them, which is `=` or `!=`
abbrev pub AreSides : Token → Symbol → Term → Terms → List Token → Type 0
AreSides between s l terms.none ts = ⊥
AreSides between s l (terms.more r terms.none) ts =
    (s ≡ equality) × ((left : List Token) × (right : List Token) × IsTerm l left × IsTerm r right
    × (ts ≡ left ++ between ∷ right))
AreSides between s l (terms.more r (terms.more u us)) ts = ⊥

-- a word with its arguments, or two terms with `=` between them
abbrev pub IsAtom : Term → List Token → Type 0
IsAtom (terms.var x) ts = ⊥
IsAtom (terms.app s terms.none) ts =
    (s.side ≡ Predicate) × (s.arity ≡ 0) × ((t : Token) × IsHead s.kind s.text t × (ts ≡ t ∷ []))
IsAtom (terms.app s (terms.more u us)) ts =
    ((s.side ≡ Predicate) × (s.arity ≡ 1 + terms.count us)
    × ((t : Token) × (first : List Token) × (others : List Token) × IsHead s.kind s.text t
    × IsTerm u first × AreMoreTerms us others
    × (ts ≡ t ∷ left_bracket ∷ first ++ others ++ right_bracket ∷ [])))
    ⊎ AreSides (mark 61) s u us ts

-- two terms with `!=` between them
abbrev pub IsInequation : Term → List Token → Type 0
IsInequation (terms.var x) ts = ⊥
IsInequation (terms.app s terms.none) ts = ⊥
IsInequation (terms.app s (terms.more u us)) ts = AreSides not_equal s u us ts

abbrev pub IsSignedAtom : Bool → Term → List Token → Type 0
IsSignedAtom true atom ts = IsAtom atom ts
IsSignedAtom false atom ts =
    ((us : List Token) × IsAtom atom us × (ts ≡ mark 126 ∷ us))
    ⊎ (((us : List Token) × IsAtom atom us
    × (ts ≡ mark 126 ∷ left_bracket ∷ us ++ right_bracket ∷ []))
    ⊎ IsInequation atom ts)

abbrev pub IsLiteral : Literal → List Token → Type 0
IsLiteral l ts = IsSignedAtom l.positive l.atom ts

-- each after a bar
abbrev pub AreMoreLiterals : List Literal → List Token → Type 0
AreMoreLiterals [] ts = ts ≡ []
AreMoreLiterals (l ∷ ls) ts = (first : List Token) × (others : List Token) × IsLiteral l first
    × AreMoreLiterals ls others × (ts ≡ mark 124 ∷ first ++ others)

abbrev pub IsDisjunction : List Literal → List Token → Type 0
IsDisjunction [] ts = ⊥
IsDisjunction (l ∷ ls) ts = (first : List Token) × (others : List Token) × IsLiteral l first
    × AreMoreLiterals ls others × (ts ≡ first ++ others)

-- a disjunction in any number of round brackets
abbrev pub IsFormula : List Literal → List Token → Type 0
IsFormula ls ts = (n : ℕ) × (inner : List Token) × IsDisjunction ls inner
    × (ts ≡ replicate n left_bracket ++ inner ++ replicate n right_bracket)

-- ---- brackets
pub data Bracket : Type 0 where
  round square neither : Bracket

abbrev pub opening_of : Token → Bracket
opening_of t = of t.kind t.text where
  of : token_kind.TokenKind → Bytes → Bracket
  of token.Mark (c ∷ []) = cond (c == 40) round (cond (c == 91) square neither)
  of kind text = neither

abbrev pub closing_of : Token → Bracket
closing_of t = of t.kind t.text where
  of : token_kind.TokenKind → Bytes → Bracket
  of token.Mark (c ∷ []) = cond (c == 41) round (cond (c == 93) square neither)
  of kind text = neither

-- the brackets open after a token, the last one first; none where it closes another than the last
abbrev pub closed : Bracket → List Bracket → Option (List Bracket)
closed neither pending = Some pending
closed round (round ∷ pending) = Some pending
closed square (square ∷ pending) = Some pending
closed bracket pending = None

abbrev pub brackets_behind : Token → List Bracket → Option (List Bracket)
brackets_behind t pending = by (opening_of t) where
  by : Bracket → Option (List Bracket)
  by round = Some (round ∷ pending)
  by square = Some (square ∷ pending)
  by neither = closed (closing_of t) pending

-- each closing bracket matches the last one that is open, and none is open at the end
abbrev pub balances : List Token → List Bracket → Bool
balances [] pending = is_empty pending where
  is_empty : List Bracket → Bool
  is_empty [] = true
  is_empty (b ∷ bs) = false
balances (t ∷ ts) pending = option_map_or (balances ts) (brackets_behind t pending) false

-- the greatest number of brackets that are open at once, where this many are open before
abbrev pub open_behind : ℕ → Token → ℕ
open_behind depth t = step (opening_of t) (closing_of t) where
  step : Bracket → Bracket → ℕ
  step neither neither = depth
  step neither closing = depth - 1
  step opening closing = depth + 1

abbrev pub nesting_from : ℕ → List Token → ℕ
nesting_from depth [] = depth
nesting_from depth (t ∷ ts) = max depth (nesting_from (open_behind depth t) ts)

abbrev pub nesting : List Token → ℕ
nesting ts = nesting_from 0 ts

-- ---- items
-- the clauses that an include keeps: all, or those with these names
pub data Selection : Type 0 where
  all : Selection
  only : List Name → Selection

pub data Item : Type 0 where
  clause_item : Clause → Item
  include_item : Bytes → Selection → Item

-- annotations: nothing, or a comma and some tokens whose brackets balance
abbrev pub IsExtra : List Token → Type 0
IsExtra [] = Unit {0}
IsExtra (t ∷ ts) = (t ≡ comma) × (ts ≢ []) × IsTrue (balances ts [])

abbrev pub IsClause : Clause → List Token → Type 0
IsClause c ts =
    (name : Token) × (formula : List Token) × (extra : List Token) × IsName c.name name
    × IsFormula c.literals formula × IsExtra extra
    × (ts ≡ lower (codes "cnf") ∷ left_bracket ∷ name ∷ comma ∷ lower c.role ∷ comma ∷ formula
    ++ extra ++ right_bracket ∷ full_stop ∷ [])

-- each after a comma
abbrev pub AreMoreNames : List Name → List Token → Type 0
AreMoreNames [] ts = ts ≡ []
AreMoreNames (n ∷ ns) ts = (t : Token) × (others : List Token) × IsName n t × AreMoreNames ns others
    × (ts ≡ comma ∷ t ∷ others)

abbrev pub IsSelection : Selection → List Token → Type 0
IsSelection all ts = ts ≡ []
IsSelection (only []) ts = ⊥
IsSelection (only (n ∷ ns)) ts =
    (t : Token) × (others : List Token) × IsName n t × AreMoreNames ns others
    × (ts ≡ comma ∷ mark 91 ∷ t ∷ others ++ mark 93 ∷ [])

abbrev pub IsItem : Item → List Token → Type 0
IsItem (clause_item c) ts = IsClause c ts
IsItem (include_item file selection) ts =
    (names : List Token) × IsSelection selection names
    × (ts ≡ lower (codes "include") ∷ left_bracket ∷ record { kind = token.Single; text = file }
    ∷ names ++ right_bracket ∷ full_stop ∷ [])
