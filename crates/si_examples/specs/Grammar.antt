-- What tokens spell.
use Rattle.std.specs.Prelude.{◌≡◌, ℕ, ◌≤◌, true, false, List, [], ◌∷◌, ◌++◌, replicate, codes}
use Rattle.si_defs.specs.Bytes.{Bytes}
use Rattle.si_defs.specs.Terms as terms
use Rattle.si_defs.specs.Clauses.{Term, Name, Literal}
use Rattle.si_defs.specs.Tokens.{Token, mark, upper, lower}
use Rattle.si_defs.specs.Grammar.{left_bracket, right_bracket, comma, full_stop, not_equal, equality, IsName, IsTerm, IsAtom, IsLiteral, IsFormula, IsExtra, IsClause, only, Item, include_item, IsItem, nesting}
use Rattle.si_defs.specs.declared.SymKind.TheVariants.{Distinct}
use Rattle.si_defs.specs.declared.Side.TheVariants.{Function}
use Rattle.si_defs.specs.declared.NameKind.TheVariants as named
use Rattle.si_defs.specs.declared.TokenKind.TheVariants.{Int, Single, Double}
use Rattle.si_defs.specs.declared.TheConstants.{DEEPEST_NESTING}
use Rattle.si_examples.specs.Entries.{constant, predicate, first_atom, fact}

-- ---- items
-- `cnf(c1,axiom,p(f(X),a)).` is the clause
abbrev pub FirstClause : Type 0
FirstClause = IsClause (fact (codes "c1") first_atom)
    (lower (codes "cnf") ∷ left_bracket ∷ lower (codes "c1") ∷ comma ∷ lower (codes "axiom") ∷ comma
    ∷ lower (codes "p") ∷ left_bracket ∷ lower (codes "f") ∷ left_bracket ∷ upper (codes "X")
    ∷ right_bracket ∷ comma ∷ lower (codes "a") ∷ right_bracket
    ∷ right_bracket ∷ full_stop ∷ [])

-- `cnf(c2,axiom,).` is no item
abbrev pub NoEmptyFormula : Type 0
NoEmptyFormula = (item : Item)
    → IsItem item (lower (codes "cnf") ∷ left_bracket ∷ lower (codes "c2") ∷ comma
    ∷ lower (codes "axiom") ∷ comma ∷ right_bracket ∷ full_stop ∷ []) → ⊥

-- and `cnf(c2,axiom,~).` is none
abbrev pub NoTildeAlone : Type 0
NoTildeAlone = (item : Item)
    → IsItem item (lower (codes "cnf") ∷ left_bracket ∷ lower (codes "c2") ∷ comma
    ∷ lower (codes "axiom") ∷ comma ∷ mark 126 ∷ right_bracket ∷ full_stop ∷ []) → ⊥

-- and `cnf(c2,axiom,p(X).`, where a bracket stays open, is none
abbrev pub NoOpenBracket : Type 0
NoOpenBracket = (item : Item)
    → IsItem item
    (lower (codes "cnf") ∷ left_bracket ∷ lower (codes "c2") ∷ comma ∷ lower (codes "axiom") ∷ comma
    ∷ lower (codes "p") ∷ left_bracket ∷ upper (codes "X") ∷ right_bracket ∷ full_stop ∷ []) → ⊥

-- ---- clauses and literals
-- a clause of no literals has no text
abbrev pub NoEmptyClause : Type 0
NoEmptyClause = (tokens : List Token) → IsFormula [] tokens → ⊥

-- `X` is no atom
abbrev pub NoVariableAtom : Type 0
NoVariableAtom = (atom : Term) → IsAtom atom (upper (codes "X") ∷ []) → ⊥

-- `~ p` and `~ ( p )` are one literal
abbrev pub not_p : Literal
not_p = record { positive = false; atom = predicate (codes "p") [] }

abbrev pub NegatedLiteral : Type 0
NegatedLiteral =
    IsLiteral not_p (mark 126 ∷ lower (codes "p") ∷ [])
    × IsLiteral not_p (mark 126 ∷ left_bracket ∷ lower (codes "p") ∷ right_bracket ∷ [])

-- `~ ~ p` is none
abbrev pub NoDoubleSign : Type 0
NoDoubleSign = (l : Literal) → IsLiteral l (mark 126 ∷ mark 126 ∷ lower (codes "p") ∷ []) → ⊥

-- `s != t` and `~ s = t` are one literal, the negation of an equality
abbrev pub unequal : Literal
unequal =
    record {
      positive = false;
      atom = terms.app equality (terms.row (constant (codes "s") ∷ constant (codes "t") ∷ []));
    }

abbrev pub Inequation : Type 0
Inequation =
    IsLiteral unequal (lower (codes "s") ∷ not_equal ∷ lower (codes "t") ∷ [])
    × IsLiteral unequal (mark 126 ∷ lower (codes "s") ∷ mark 61 ∷ lower (codes "t") ∷ [])

-- `s != t` is no atom
abbrev pub NoUnequalAtom : Type 0
NoUnequalAtom = (atom : Term)
    → IsAtom atom (lower (codes "s") ∷ not_equal ∷ lower (codes "t") ∷ []) → ⊥

-- ---- symbols and names
-- these texts in single and in double quotes
abbrev pub single : Bytes → Token
single text = record { kind = Single; text = text }

abbrev pub double : Bytes → Token
double text = record { kind = Double; text = text }

abbrev pub integer : Bytes → Token
integer text = record { kind = Int; text = text }

-- `cat` and `'cat'` are one symbol
abbrev pub QuotedWord : Type 0
QuotedWord =
    IsTerm (constant (codes "cat")) (lower (codes "cat") ∷ [])
    × IsTerm (constant (codes "cat")) (single (codes "cat") ∷ [])

-- `"cat"` is another: a distinct object
abbrev pub DistinctObject : Type 0
DistinctObject =
    IsTerm (terms.app (record {
      kind = Distinct;
      text = codes "cat";
      side = Function;
      arity = 0;
    }) terms.none) (double (codes "cat") ∷ [])

abbrev pub NoDistinctWord : Type 0
NoDistinctWord = IsTerm (constant (codes "cat")) (double (codes "cat") ∷ []) → ⊥

-- it has no arguments: `"f"(X)` is no term
abbrev pub NoDistinctFunction : Type 0
NoDistinctFunction = (t : Term)
    → IsTerm t (double (codes "f") ∷ left_bracket ∷ upper (codes "X") ∷ right_bracket ∷ []) → ⊥

-- `c1` and `'c1'` are one name
abbrev pub named_word : Bytes → Name
named_word text = record { kind = named.Word; text = text }

abbrev pub named_integer : Bytes → Name
named_integer text = record { kind = named.Int; text = text }

abbrev pub QuotedName : Type 0
QuotedName =
    IsName (named_word (codes "c1")) (lower (codes "c1"))
    × IsName (named_word (codes "c1")) (single (codes "c1"))

-- but `'1'` is not the name `1`
abbrev pub NoQuotedInteger : Type 0
NoQuotedInteger = IsName (named_integer (codes "1")) (single (codes "1")) → ⊥

-- ---- includes
-- `include('a.p',[c1,2]).` keeps the clauses of these names
abbrev pub SelectedInclude : Type 0
SelectedInclude =
    IsItem (include_item (codes "a.p")
    (only (named_word (codes "c1") ∷ named_integer (codes "2") ∷ [])))
    (lower (codes "include") ∷ left_bracket ∷ single (codes "a.p") ∷ comma ∷ mark 91
    ∷ lower (codes "c1") ∷ comma ∷ integer (codes "2") ∷ mark 93
    ∷ right_bracket ∷ full_stop ∷ [])

-- `include('a.p',[]).` is no item
abbrev pub NoEmptySelection : Type 0
NoEmptySelection = (item : Item)
    → IsItem item (lower (codes "include") ∷ left_bracket ∷ single (codes "a.p") ∷ comma ∷ mark 91
    ∷ mark 93 ∷ right_bracket ∷ full_stop ∷ []) → ⊥

-- ---- annotations
-- the annotations `,[()]` balance
abbrev pub BalancedExtra : Type 0
BalancedExtra = IsExtra (comma ∷ mark 91 ∷ left_bracket ∷ right_bracket ∷ mark 93 ∷ [])

-- `,[(])` do not
abbrev pub CrossedBrackets : Type 0
CrossedBrackets = IsExtra (comma ∷ mark 91 ∷ left_bracket ∷ mark 93 ∷ right_bracket ∷ []) → ⊥

-- ---- nesting
-- in `p(f(X),f(a))` no more than two brackets are open at once
abbrev pub NestingOfTwo : Type 0
NestingOfTwo =
    nesting
    (lower (codes "p") ∷ left_bracket ∷ lower (codes "f") ∷ left_bracket ∷ upper (codes "X")
    ∷ right_bracket ∷ comma
    ∷ lower (codes "f") ∷ left_bracket ∷ lower (codes "a") ∷ right_bracket ∷ right_bracket ∷ [])
    ≡ 2

-- `p` in this many brackets
abbrev pub bracketed : ℕ → List Token
bracketed n = replicate n left_bracket ++ (lower (codes "p") ∷ []) ++ replicate n right_bracket

-- it is a formula however many there are
abbrev pub BracketedFormula : Type 0
BracketedFormula = (n : ℕ)
    → IsFormula (record { positive = true; atom = predicate (codes "p") [] } ∷ []) (bracketed n)

-- it may be read with 512
abbrev pub DeepestNesting : Type 0
DeepestNesting = (n : ℕ) → n ≡ 512 → nesting (bracketed n) ≤ DEEPEST_NESTING

-- and not with 513
abbrev pub NoDeeperNesting : Type 0
NoDeeperNesting = (n : ℕ) → n ≡ 513 → nesting (bracketed n) ≤ DEEPEST_NESTING → ⊥
