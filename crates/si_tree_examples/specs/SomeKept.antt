-- The two trees of a kept clause, and of two that share their terms.
use Rattle.std.specs.Prelude.{ℕ, true, List, [], ◌∷◌, codes}
use Rattle.si_defs.specs.Bytes.{Bytes}
use Rattle.si_defs.specs.Terms as terms
use Rattle.si_defs.specs.Symbols.{Symbol, Numbering}
use Rattle.si_defs.specs.Clauses as clauses
use Rattle.si_defs.specs.Clauses.{Literal, Clause}
use Rattle.si_defs.specs.declared.SymKind.TheVariants.{Word}
use Rattle.si_defs.specs.declared.Side.TheVariants.{Predicate, Function}
use Rattle.si_defs.specs.declared.NameKind.TheVariants as named
use Rattle.si_flat.specs.Cells.{Term}
use Rattle.si_legal.specs.declared.Posting.{Posting}
use Rattle.si_legal.specs.Trees.{Tree}
use Rattle.si_legal.specs.KeptTrees.{HoldKept}
use Rattle.si_held.specs.TwoTrees.{TwoTrees, Hold, AddsClause, RemovesClause}
use Rattle.si_tree_examples.specs.SomeTerms.{f, a}
use Rattle.si_tree_examples.specs.SomeTrees.{two_nodes, new_tree}

-- ---- the clause f(a), which has the key 5
abbrev pub predicate_f : Symbol
predicate_f = record { kind = Word; text = codes "f"; side = Predicate; arity = 1 }

abbrev pub constant_a : Symbol
constant_a = record { kind = Word; text = codes "a"; side = Function; arity = 0 }

abbrev pub argument : clauses.Term
argument = terms.app constant_a terms.none

abbrev pub literal : Literal
literal = record {
  positive = true;
  atom = terms.app predicate_f (terms.more argument terms.none);
}

abbrev pub clause_named : Bytes → Clause
clause_named text = record {
  name = record { kind = named.Word; text = text };
  role = codes "axiom";
  literals = literal ∷ [];
}

abbrev pub kept : List (ℕ × Clause)
kept = (5, clause_named (codes "k")) ∷ []

abbrev pub numbers : Numbering
numbers = (predicate_f, 2) ∷ (constant_a, 6) ∷ []

-- ---- its trees
abbrev pub entry_of : ℕ → ℕ → Posting
entry_of key number = record { clause = key; entry = number }

abbrev pub literal_tree : Tree Term
literal_tree = two_nodes (f (a ∷ [])) (entry_of 5 0 ∷ [])

abbrev pub subterm_tree : Tree Term
subterm_tree = two_nodes a (entry_of 5 1 ∷ [])

abbrev pub OneClause : Type 0
OneClause = HoldKept numbers kept literal_tree subterm_tree

-- a tree that forgets the subterm doesn't do
abbrev pub NoForgottenSubterm : Type 0
NoForgottenSubterm = HoldKept numbers kept literal_tree new_tree → ⊥

-- nor does each tree in the other's place
abbrev pub NoSwappedTrees : Type 0
NoSwappedTrees = HoldKept numbers kept subterm_tree literal_tree → ⊥

-- ---- two clauses of the same literal
abbrev pub second_clause : Clause
second_clause = clause_named (codes "m")

abbrev pub kept_twice : List (ℕ × Clause)
kept_twice = (5, clause_named (codes "k")) ∷ (7, second_clause) ∷ []

abbrev pub trees_of_one : TwoTrees
trees_of_one = record { literals = literal_tree; subterms = subterm_tree }

-- each term has one leaf, with a posting of each clause
abbrev pub trees_of_two : TwoTrees
trees_of_two = record {
  literals = two_nodes (f (a ∷ [])) (entry_of 5 0 ∷ entry_of 7 0 ∷ []);
  subterms = two_nodes a (entry_of 5 1 ∷ entry_of 7 1 ∷ []);
}

abbrev pub TwoClauses : Type 0
TwoClauses = Hold numbers kept_twice trees_of_two

abbrev pub NoForgottenClause : Type 0
NoForgottenClause = Hold numbers kept_twice trees_of_one → ⊥

-- ---- the second comes and goes
abbrev pub AddsSecond : Type 0
AddsSecond = AddsClause numbers 7 second_clause trees_of_one trees_of_two

abbrev pub NoOtherKeyAdded : Type 0
NoOtherKeyAdded = AddsClause numbers 9 second_clause trees_of_one trees_of_two → ⊥

abbrev pub RemovesSecond : Type 0
RemovesSecond = RemovesClause 7 trees_of_two trees_of_one

abbrev pub NoOtherKeyRemoved : Type 0
NoOtherKeyRemoved = RemovesClause 5 trees_of_two trees_of_one → ⊥
