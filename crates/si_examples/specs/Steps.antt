-- Lines, their replies and the state after them.
use Rattle.std.specs.Prelude.{◌≡◌, ◌≤◌, ◌<◌, length, true, List, [], ◌∷◌, codes, Option}
use Rattle.si_defs.specs.Bytes.{Bytes}
use Rattle.si_defs.specs.Clauses.{Clause}
use Rattle.si_defs.specs.Symbols.{Symbol}
use Rattle.si_state.specs.States.{State, Rules, empty_state, limited_to}
use Rattle.si_state.specs.Acceptance.{IsTaken, Accepts, Refuses, misused, AllAgree}
use Rattle.si_defs.specs.Entries.{clause_symbols, state_symbols}
use Rattle.si_state.specs.Signatures.{CountsSymbols}
use Rattle.si_steps.specs.Settings.{Setting}
use Rattle.si_steps.specs.Replies.{Reply, is_refusal}
use Rattle.si_steps.specs.Commands.{add, remove, stats, tree}
use Rattle.si_state.specs.Harvest.{Files}
use Rattle.si_steps.specs.Loads.{Owed, nothing}
use Rattle.si_steps.specs.Steps.{RightStep, Step, Performs}
use Rattle.si_defs.specs.declared.NameKind.TheVariants as named
use Rattle.si_defs.specs.Terms as terms
use Rattle.si_defs.specs.Clauses.{Term}
use Rattle.si_defs.specs.declared.SymKind.TheVariants.{Word}
use Rattle.si_defs.specs.declared.Side.TheVariants.{Function}
use Rattle.si_examples.specs.Entries.{first_atom, second_atom, fact, predicate, constant, a, keeping}

-- the clause c1, and another of that name
abbrev pub kept_clause : Clause
kept_clause = fact (codes "c1") first_atom

abbrev pub of_taken_name : Clause
of_taken_name = fact (codes "c1") second_atom

-- the atom a(b)
abbrev pub a_of_b : Term
a_of_b = predicate (codes "a") (constant (codes "b") ∷ [])

-- the symbol at the front of a term
abbrev pub front_symbol : Term → Symbol
front_symbol (terms.var x) = record { kind = Word; text = x; side = Function; arity = 0 }
front_symbol (terms.app s ts) = s

-- ---- lines that change nothing
-- where the line is not too long, this reply is right and no other, and the state stays
abbrev pub HasOneReply : Bytes → Reply → Type 0
HasOneReply line reply = (setting : Setting) (told : Option Files) (state : State)
    → length line ≤ setting.limits.line
    → RightStep setting told state line reply nothing state
    × ((other : Reply) (owed : Owed) (new : State)
    → RightStep setting told state line other owed new → (other ≡ reply) × (new ≡ state))

-- a line of white space alone has no reply
abbrev pub SilentLine : Type 0
SilentLine = HasOneReply (codes " \t ") []

-- nor has a comment alone
abbrev pub SilentComment : Type 0
SilentComment = HasOneReply (codes "% a") []

-- and white space has none even where memory runs out
abbrev pub SilentOnly : Type 0
SilentOnly = (setting : Setting) (told : Option Files) (state : State) (reply : Reply)
    (owed : Owed) (new : State) → 1 ≤ setting.limits.line
    → Step setting told state (codes " ") reply owed new → (reply ≡ []) × (new ≡ state)

-- a comment that is not closed is wrong
abbrev pub OpenComment : Type 0
OpenComment = HasOneReply (codes "/* a") (codes "! syntax" ∷ [])

-- no command has the word `find`
abbrev pub UnknownWord : Type 0
UnknownWord = HasOneReply (codes "find p") (codes "! syntax" ∷ [])

-- a command begins with a bare word, not with a quoted one
abbrev pub WordInQuotes : Type 0
WordInQuotes = HasOneReply (codes "'add' cnf(c,axiom,p).") (codes "! syntax" ∷ [])

-- `addcnf` is one word
abbrev pub JoinedWord : Type 0
JoinedWord = HasOneReply (codes "addcnf(c,axiom,p).") (codes "! syntax" ∷ [])

-- `add` adds something
abbrev pub WordAlone : Type 0
WordAlone = HasOneReply (codes "add") (codes "! syntax" ∷ [])

-- a formula of another language is not added
abbrev pub OtherLanguageAdded : Type 0
OtherLanguageAdded = HasOneReply (codes "add fof(a,axiom,p).") (codes "! language" ∷ [])

-- without a bracket the word `fof` begins no formula
abbrev pub LanguageAlone : Type 0
LanguageAlone = HasOneReply (codes "add fof.") (codes "! syntax" ∷ [])

-- ---- lines that are too long
-- a line that is too long has one reply, whatever it says, and the state stays
abbrev pub TooLong : Type 0
TooLong = (setting : Setting) (told : Option Files) (state : State) (line : Bytes)
    (reply : Reply) (owed : Owed) (new : State) → setting.limits.line < length line
    → Step setting told state line reply owed new → (reply ≡ codes "! long" ∷ []) × (new ≡ state)

-- also where it is blank
abbrev pub TooLongBlank : Type 0
TooLongBlank = (setting : Setting) (told : Option Files) (state : State) → setting.limits.line < 2
    → RightStep setting told state (codes "  ") (codes "! long" ∷ []) nothing state

-- a line that is too long does not run out of memory
abbrev pub NoMemoryWhereTooLong : Type 0
NoMemoryWhereTooLong = (setting : Setting) (told : Option Files) (state : State) (line : Bytes)
    (owed : Owed) (new : State) → setting.limits.line < length line
    → Step setting told state line (codes "! memory" ∷ []) owed new → ⊥

-- ---- clauses that are added
-- a clause of a new name is counted, and its three entries
abbrev pub AddedClause : Type 0
AddedClause = (setting : Setting) → 3 ≤ setting.rules.entries
    → Performs setting (add kept_clause) empty_state (codes "ok 1 3" ∷ [])
    (keeping (kept_clause ∷ []))

-- a clause of a taken name is refused, and the state stays
abbrev pub TakenName : Type 0
TakenName = (setting : Setting)
    → Performs setting (add of_taken_name) (keeping (kept_clause ∷ []))
    (codes "! taken c1" ∷ []) (keeping (kept_clause ∷ []))

-- the reply of an added clause is wrong there
abbrev pub NoOtherReply : Type 0
NoOtherReply = (setting : Setting) (new : State)
    → Performs setting (add of_taken_name) (keeping (kept_clause ∷ []))
    (codes "ok 1 3" ∷ []) new → ⊥

-- it is never accepted, whatever the state after it
abbrev pub NoSecondClause : Type 0
NoSecondClause = (rules : Rules) (new : List Clause)
    → Accepts rules (kept_clause ∷ []) of_taken_name new → ⊥

-- where two entries may be, three are too many
abbrev pub FullIndex : Type 0
FullIndex = (setting : Setting) → setting.rules.entries ≡ 2
    → Performs setting (add kept_clause) empty_state (codes "! full 3 2" ∷ []) empty_state

-- one entry more than may be is not accepted
abbrev pub NoClauseTooMany : Type 0
NoClauseTooMany = (new : List Clause) → Accepts (limited_to 2) [] kept_clause new → ⊥

-- `a` with an argument stands against the constant `a`
abbrev pub ClashingSymbol : Type 0
ClashingSymbol =
    Refuses (limited_to 9) (kept_clause ∷ []) (fact (codes "d") a_of_b)
    (misused 0 (front_symbol a_of_b) (front_symbol a))

-- the same symbols in two clauses agree
abbrev pub NoClash : Type 0
NoClash = AllAgree (state_symbols (kept_clause ∷ [])) (clause_symbols (fact (codes "d") first_atom))

-- but not with an atom `a(b)` between them
abbrev pub NoAgreement : Type 0
NoAgreement =
    AllAgree (state_symbols (kept_clause ∷ [])) (clause_symbols (fact (codes "d") a_of_b)) → ⊥

-- ---- clauses that go
-- the clause of this name goes, with its three entries
abbrev pub RemovedClause : Type 0
RemovedClause = (setting : Setting)
    → Performs setting (remove kept_clause.name) (keeping (kept_clause ∷ []))
    (codes "ok 1 3" ∷ []) empty_state

-- none has this name
abbrev pub UnknownName : Type 0
UnknownName = (setting : Setting)
    → Performs setting (remove (record { kind = named.Int; text = codes "1" }))
    (keeping (kept_clause ∷ [])) (codes "! unknown 1" ∷ []) (keeping (kept_clause ∷ []))

-- a clause that is kept is not unknown
abbrev pub NoUnknownName : Type 0
NoUnknownName = (setting : Setting) (new : State)
    → Performs setting (remove kept_clause.name) (keeping (kept_clause ∷ []))
    (codes "! unknown c1" ∷ []) new → ⊥

-- ---- counts
-- nothing is kept
abbrev pub NothingCounted : Type 0
NothingCounted = (setting : Setting)
    → Performs setting stats empty_state (codes "clauses 0 entries 0 symbols 0" ∷ []) empty_state

-- a symbol that occurs is counted
abbrev pub NoneUncounted : Type 0
NoneUncounted = CountsSymbols (kept_clause ∷ []) 0 → ⊥

-- ---- trees
-- numbers of nodes are free
abbrev pub ShownTrees : Type 0
ShownTrees = (setting : Setting) (state : State)
    → Performs setting tree state
    (codes "literals nodes 5 leaves 3 unmerged 1" ∷ codes "terms nodes 1 leaves 0 unmerged 0" ∷ [])
    state

-- but both trees are shown
abbrev pub NoTreeAlone : Type 0
NoTreeAlone = (setting : Setting) (state new : State) (line : Bytes)
    → Performs setting tree state (line ∷ []) new → ⊥

-- ---- names
-- `1` and `'1'` are two names
abbrev pub TwoNames : Type 0
TwoNames =
    IsTaken (record {
      name = record { kind = named.Int; text = codes "1" };
      role = codes "axiom";
      literals = [];
    } ∷ []) (record { kind = named.Word; text = codes "1" }) → ⊥

-- ---- refusals
-- a reply that begins with `!` is a refusal
abbrev pub RefusalBeginsSo : Type 0
RefusalBeginsSo = is_refusal (codes "! taken c1" ∷ []) ≡ true

-- so is one that ends with such a line
abbrev pub LateRefusal : Type 0
LateRefusal = is_refusal (codes "c1:1:2 {}" ∷ codes "! memory" ∷ []) ≡ true

-- an answer is none
abbrev pub NoRefusal : Type 0
NoRefusal = is_refusal (codes "c1:1:2 {}" ∷ codes "end 1" ∷ []) ≡ true → ⊥

-- no reply is none
abbrev pub SilenceIsNoRefusal : Type 0
SilenceIsNoRefusal = is_refusal [] ≡ true → ⊥
