-- Children that can't be open, as what they give the split has another head than it has.
use Rattle.std.specs.Prelude.{◌≡◌, ℕ, true, List, Option, None, Some, get_or}
use Rattle.si_defs.specs.Substitutions.{Substitution, image, apply}
use Rattle.si_defs.specs.declared.Relation.{Relation}
use Rattle.si_defs.specs.declared.Relation.TheVariants.{Variants}
use Rattle.si_flat.specs.declared.Cell.{Cell}
use Rattle.si_flat.specs.declared.Cell.TheVariants as cell
use Rattle.si_flat.specs.Cells.{Symbol, Variable, ind, same_variable, Term, cells_of}
use Rattle.si_unify.specs.declared.slots.Slots.{Slots}
use Rattle.si_unify.specs.Solving.{Pairs, IsSolution}
use Rattle.si_tree.specs.declared.node.Head.{Head}
use Rattle.si_tree.specs.Heads.{HasHead}
use Rattle.si_tree.specs.Reading.{AtNode, split_of}
use Rattle.si_legal.specs.Legal.{ChildBinds}
use Rattle.si_descend.specs.declared.heads.Wanted.{Wanted}
use Rattle.si_descend.specs.declared.search.Search.{Search}
use Rattle.si_fit.specs.Meeting.{first_cell_of, LeavesFrozen}
use Rattle.si_descend.specs.Descending.{Renames}

-- no variable of an entry can become a term that begins with a symbol
abbrev pub KeepsVariables : Relation → Slots → Type 0
KeepsVariables Variants slots = Unit {0}
KeepsVariables relation slots = slots.freeze_entry ≡ true

-- no map that leaves frozen variables, and renames those of the second term where the relation
-- wants that, makes terms equal that begin so
abbrev pub CannotMeet : Relation → Slots → Cell → Cell → Type 0
CannotMeet relation slots one other =
    (s : Substitution Symbol Variable) (t u : Term)
    → LeavesFrozen slots (image same_variable s) → Renames relation u s
    → first_cell_of (cells_of t) ≡ one → first_cell_of (cells_of u) ≡ other
    → apply same_variable s t ≡ apply same_variable s u → ⊥

-- nor terms of which the second has this head
abbrev pub CannotHave : Relation → Slots → Cell → Head → Type 0
CannotHave relation slots first head =
    (t : Term) → HasHead t head → CannotMeet relation slots first (first_cell_of (cells_of t))

-- the node splits by what is wanted
abbrev pub SplitsBy : Search → ℕ → Option Wanted → Type 0
SplitsBy search key None = Unit {0}
SplitsBy search key (Some w) = AtNode search.tree.now key (λ n. split_of n.content ≡ Some w.split)

-- each solution makes the split equal to a term that begins so
abbrev pub IsSplitOf : Search → ℕ → Pairs → ℕ → Cell → Type 0
IsSplitOf search key pairs split first =
    AtNode search.tree.now key (λ n. split_of n.content ≡ Some split)
    × ((t : Term) × (first_cell_of (cells_of t) ≡ first)
    × ((s : Substitution Symbol Variable) → IsSolution search.slots pairs s
    → image same_variable s (ind split) ≡ apply same_variable s t))

abbrev pub IsWanted : Search → ℕ → Pairs → Option Wanted → Type 0
IsWanted search key pairs None = Unit {0}
IsWanted search key pairs (Some w) = IsSplitOf search key pairs w.split w.first

-- a child with this head can't have what is wanted
abbrev pub IsUnwanted : Search → Option Wanted → Head → Type 0
IsUnwanted search None head = ⊥
IsUnwanted search (Some w) head = CannotHave search.relation search.slots w.first head

-- the child gives the split a term that can't meet what is wanted
abbrev pub RulesOut : Search → Option Wanted → ℕ → Type 0
RulesOut search None child = ⊥
RulesOut search (Some w) child =
    (t : Term) × ChildBinds search.tree.now child w.split t
    × CannotMeet search.relation search.slots w.first (first_cell_of (cells_of t))
