-- How two trees of clauses are asked for a pattern, and what it passes in them (this project's
-- profile).
use Rattle.std.specs.Prelude.{◌≡◌, ℕ, List, ◌++◌, map}
use Rattle.si_defs.specs.Terms.{firsts, symbols}
use Rattle.si_defs.specs.Symbols.{Symbol, Numbering, same_symbol}
use Rattle.si_defs.specs.Clauses.{Clause, Pattern}
use Rattle.si_defs.specs.Entries.{pattern_entry, whole_of}
use Rattle.si_defs.specs.declared.Relation.{Relation}
use Rattle.si_flat.specs.Cells.{query, Term}
use Rattle.si_flat.specs.Flattened.{numbered_entry, unnumbered, extra_numbers}
use Rattle.si_legal.specs.Trees.{Tree}
use Rattle.si_legal.specs.KeptTrees.{is_literal}
use Rattle.si_legal.specs.OpenNodes.{CountsOpen}
use Rattle.si_held.specs.TwoTrees.{TwoTrees, tree_for, Hold}

-- ---- the query of a pattern
-- the symbols of the pattern that have no number, each once, in the order of their first occurrence
abbrev pub lacking : Numbering → Pattern → List Symbol
lacking numbers p =
    firsts same_symbol (unnumbered numbers (symbols (whole_of (pattern_entry p))))

-- The pattern with these numbers for its symbols. Those that have none get further ones, which no
-- other symbol has.
abbrev pub query_term : Numbering → Pattern → Term
query_term numbers p =
    numbered_entry (numbers ++ extra_numbers (lacking numbers p)) query (pattern_entry p)

-- ---- the tree that is asked
abbrev pub asked_tree : Pattern → TwoTrees → Tree Term
asked_tree p trees = tree_for (is_literal (pattern_entry p)) trees

-- so many of its nodes are open for the pattern
abbrev pub PassesNodes : Relation → Pattern → Numbering → TwoTrees → ℕ → Type 0
PassesNodes relation p numbers trees passed =
    let tree = asked_tree p trees in
    CountsOpen tree tree.root relation (query_term numbers p) passed

-- ---- trees of clauses
-- Two legal trees hold the entries of exactly these clauses, by some numbers of their symbols and
-- some keys.
pub record HaveTrees (clauses : List Clause) : Type 0 where
  pub numbers : Numbering
  pub kept : List (ℕ × Clause)
  pub are_kept : map (λ k. k.1) kept ≡ clauses
  pub trees : TwoTrees
  pub hold : Hold numbers kept trees
