-- Clauses that are drawn at random, the same ones from the same start: a grammar in which a linear
-- congruential generator picks among the alternatives (the multiplier and the increment of the C
-- standard's example of `rand`; the grammar is this project's profile).
use Rattle.std.specs.Prelude.{◌≡◌, ℕ, zero, suc, ◌+◌, ◌*◌, ◌/◌, ◌%◌, List, [], ◌∷◌, ◌++◌, length, codes, decimal}
use Rattle.si_defs.specs.Bytes.{Bytes}

-- ---- draws
-- the state after a state
abbrev pub next : ℕ → ℕ
next state = (1103515245 * state + 12345) % 2147483648

-- what is drawn below a bound, by the state after the draw: its high bits
abbrev pub drawn : ℕ → ℕ → ℕ
drawn bound state = state / 65536 % bound

-- ---- rules
-- which text is drawn from a state, and which state stands after it
abbrev pub Rule : Type 1
Rule = ℕ → Bytes → ℕ → Type 0

-- these bytes, without a draw
unfoldable pub exactly : Bytes → Rule
exactly bytes before text after = (text ≡ bytes) × (after ≡ before)

-- one rule and then another
infixl 20 ◌before◌
unfoldable pub ◌before◌ : Rule → Rule → Rule
(P before Q) first text last =
    (left : Bytes) × (between : ℕ) × (right : Bytes) × P first left between × Q between right last
    × (text ≡ left ++ right)

-- the rule with this number, from 0
abbrev pub rule_at : List Rule → ℕ → Rule
rule_at [] number first text last = ⊥
rule_at (P ∷ Ps) zero first text last = P first text last
rule_at (P ∷ Ps) (suc number) first text last = rule_at Ps number first text last

-- one of these rules, by a draw below their number
unfoldable pub one_of : List Rule → Rule
one_of rules first text last =
    rule_at rules (drawn (length rules) (next first)) (next first) text last

-- ---- the grammar
-- the variables and the constants
abbrev pub leaves : List Rule
leaves = exactly (codes "X") ∷ exactly (codes "Y") ∷ exactly (codes "a") ∷ exactly (codes "b") ∷ []

-- a term of at most this depth
unfoldable pub term : ℕ → Rule
term zero = one_of leaves
term (suc depth) =
    one_of
    (leaves
    ++ (exactly (codes "g(") before term depth before exactly (codes ")"))
    ∷ (exactly (codes "f(") before term depth before exactly (codes ",") before term depth
    before exactly (codes ")"))
    ∷ [])

abbrev pub sign : Rule
sign = one_of (exactly [] ∷ exactly (codes "~") ∷ [])

abbrev pub atom : Rule
atom =
    one_of
    ((exactly (codes "p(") before term 2 before exactly (codes ",") before term 2
    before exactly (codes ")"))
    ∷ (exactly (codes "q(") before term 2 before exactly (codes ")"))
    ∷ [])

unfoldable pub literal : Rule
literal = sign before atom

-- one literal, or two with a bar between them
abbrev pub literals : Rule
literals = one_of (literal ∷ (literal before exactly (codes "|") before literal) ∷ [])

-- the line of the clause with this number
unfoldable pub clause : ℕ → Rule
clause number =
    exactly (codes "cnf(s" ++ decimal number ++ codes ",axiom,") before literals
    before exactly (codes ").\n")

-- the lines of the clauses with the numbers from 1 to this one
unfoldable pub clauses : ℕ → Rule
clauses zero = exactly []
clauses (suc count) = clauses count before clause (count + 1)

-- the text of so many clauses, drawn from a start
abbrev pub IsSample : ℕ → ℕ → Bytes → Type 0
IsSample start count text = (last : ℕ) × clauses count start text last
