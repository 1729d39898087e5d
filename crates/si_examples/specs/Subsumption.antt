-- Which clauses subsume others, and by which map.
use Rattle.std.specs.Prelude.{true, false, List, [], ◌∷◌, codes}
use Rattle.si_defs.specs.Bytes.{Bytes}
use Rattle.si_defs.specs.Clauses.{Term, Literal, Clause}
use Rattle.si_defs.specs.declared.NameKind.TheVariants as named
use Rattle.si_state.specs.States.{State}
use Rattle.si_state.specs.Subsumption.{IsLeastMap, Subsumes}
use Rattle.si_steps.specs.Settings.{Setting}
use Rattle.si_steps.specs.Commands.{subsumers, subsumed}
use Rattle.si_steps.specs.Steps.{Performs}
use Rattle.si_examples.specs.Entries.{predicate, constant, a, keeping}
use Rattle.si_examples.specs.Relations.{x, y}

-- a literal of one argument
abbrev pub atom_of : Bytes → Term → Literal
atom_of text t = record { positive = true; atom = predicate text (t ∷ []) }

abbrev pub b : Term
b = constant (codes "b")

-- q(X)|r(X)
abbrev pub linked : List Literal
linked = atom_of (codes "q") x ∷ atom_of (codes "r") x ∷ []

-- q(a)|q(b)|r(b)
abbrev pub three : List Literal
three = atom_of (codes "q") a ∷ atom_of (codes "q") b ∷ atom_of (codes "r") b ∷ []

-- q(a)|r(b)
abbrev pub two : List Literal
two = atom_of (codes "q") a ∷ atom_of (codes "r") b ∷ []

-- p(X)|p(Y) subsumes p(a): both go to its one literal
abbrev pub TwoToOne : Type 0
TwoToOne =
    IsLeastMap (atom_of (codes "p") x ∷ atom_of (codes "p") y ∷ []) (atom_of (codes "p") a ∷ [])
    (1 ∷ 1 ∷ [])

-- q(X)|r(X) subsumes q(a)|q(b)|r(b): the first literal there is of no use
abbrev pub SkippedLiteral : Type 0
SkippedLiteral = IsLeastMap linked three (2 ∷ 3 ∷ [])

-- it doesn't subsume q(a)|r(b), which has an image of each literal by itself
abbrev pub NoCommonImage : Type 0
NoCommonImage = Subsumes linked two → ⊥

-- ~p(a)
abbrev pub negative : List Literal
negative = record { positive = false; atom = predicate (codes "p") (a ∷ []) } ∷ []

-- p(X) doesn't subsume ~p(a)
abbrev pub NoOtherSign : Type 0
NoOtherSign = Subsumes (atom_of (codes "p") x ∷ []) negative → ⊥

-- ---- answers
-- the clause of these literals, with this name
abbrev pub clause_with : Bytes → List Literal → Clause
clause_with name literals =
    record {
      name = record { kind = named.Word; text = name };
      role = codes "axiom";
      literals = literals;
    }

-- the clause s: p(X)|p(Y)
abbrev pub pair : Clause
pair = clause_with (codes "s") (atom_of (codes "p") x ∷ atom_of (codes "p") y ∷ [])

-- `subsumers p(a)` names it, with its map
abbrev pub ReportedSubsumer : Type 0
ReportedSubsumer = (setting : Setting)
    → Performs setting (subsumers (atom_of (codes "p") a ∷ [])) (keeping (pair ∷ []))
    (codes "s [1,1]" ∷ codes "end 1" ∷ []) (keeping (pair ∷ []))

-- The clause n: ~p(a) is not named at `subsumed p(X)`.
abbrev pub NoSubsumedReported : Type 0
NoSubsumedReported = (setting : Setting) (line : Bytes) (new : State)
    → Performs setting (subsumed (atom_of (codes "p") x ∷ []))
    (keeping (clause_with (codes "n") negative ∷ [])) (line ∷ codes "end 1" ∷ []) new → ⊥
