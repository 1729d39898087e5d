-- What the replies to `tree` and `explain` show of trees.
use Rattle.std.specs.Prelude.{◌≡◌, ◌⊎◌, ℕ, [], ◌∷◌}
use Rattle.si_defs.specs.Symbols.{Numbering}
use Rattle.si_flat.specs.Cells.{Term}
use Rattle.si_legal.specs.Trees.{Tree}
use Rattle.si_legal.specs.Counts.{node_count, leaf_count, unmerged_count}
use Rattle.si_held.specs.TwoTrees.{TwoTrees}
use Rattle.si_held.specs.Queries.{asked_tree, PassesNodes, HaveTrees}
use Rattle.si_state.specs.States.{State}
use Rattle.si_defs.specs.Bytes.{Bytes}
use Rattle.si_steps.specs.declared.limits.Limits.{Limits}
use Rattle.si_steps.specs.Commands.{Command, tree, explain, Means, IsShort}
use Rattle.si_steps.specs.Replies.{Reply, NodeCounts, tree_reply, explain_line, memory_line}

abbrev pub nodes_of : Tree Term → NodeCounts
nodes_of t = record { nodes = node_count t; leaves = leaf_count t; unmerged = unmerged_count t }

-- what the reply to a command shows of trees, it shows of these, where symbols have these numbers
abbrev pub ShowsTrees : Numbering → TwoTrees → Command → Reply → Type 0
ShowsTrees numbers trees tree reply =
    reply ≡ tree_reply (nodes_of trees.literals) (nodes_of trees.subterms)
ShowsTrees numbers trees (explain relation pattern) reply =
    (passed answers : ℕ) × PassesNodes relation pattern numbers trees passed
    × (reply ≡ explain_line passed (node_count (asked_tree pattern trees)) answers ∷ [])
ShowsTrees numbers trees command reply = Unit {0}

-- the line is this command, and no longer than a line may be
abbrev pub Asks : Limits → Bytes → Command → Type 0
Asks limits line command = IsShort limits line × Means command line

-- Memory ran out at once, or the line is no command, or the reply is to a command that it means,
-- and shows these trees.
abbrev pub IsShownBy : Limits → Numbering → TwoTrees → Bytes → Reply → Type 0
IsShownBy limits numbers trees line reply =
    (reply ≡ memory_line ∷ []) ⊎ ((command : Command) → Asks limits line command → ⊥)
    ⊎ ((command : Command) × Asks limits line command × ShowsTrees numbers trees command reply)

-- the same of two legal trees that hold the entries of the kept clauses
abbrev pub ShowsSome : Limits → State → Bytes → Reply → Type 0
ShowsSome limits state line reply =
    (shown : HaveTrees state.clauses) × IsShownBy limits shown.numbers shown.trees line reply
