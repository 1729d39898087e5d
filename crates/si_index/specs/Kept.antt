-- What an index is seen as: the clauses that are kept, in the order of acceptance, each with its
-- key, the rules by which they were accepted, the numbers of their symbols, and two trees of their
-- entries.
use Rattle.std.specs.Prelude.{◌≡◌, ◌↔◌, ℕ, true, List, [], ◌∷◌, Some, refl, length, map, slice_get}
use Rattle.std.specs.Coded.{Coded, code_by, coded×, coded_ℕ, coded_list}
use Rattle.si_defs.specs.Symbols.{Symbol, Numbering}
use Rattle.si_defs.specs.Clauses.{Clause}
use Rattle.si_defs.specs.Entries.{state_symbols}
use Rattle.si_flat.specs.Flattened.{has_number}
use Rattle.si_defs.specs.Substitutions.{IsAmong, AreDistinct}
use Rattle.si_defs.specs.Codes.{symbol_code, clause_code}
use Rattle.si_state.specs.States.{Rules, rules_code}
use Rattle.si_held.specs.TwoTrees.{TwoTrees, Hold}
use Rattle.si_tree.specs.NewTrees.{IsRootAlone}
use Rattle.si_forest.specs.Codes.{two_trees_code}
use Rattle.si_forest.specs.Pairs.{LoseEach}
use Rattle.si_term.specs.Meaning.{clause_of}
use Rattle.si_term.specs.declared.clause.Clause as term

pub record Kept : Type 0 where
  pub clauses : List Clause
  pub keys : List ℕ
  pub rules : Rules
  pub numbers : Numbering
  pub trees : TwoTrees

abbrev pub kept_code : Coded Kept
kept_code =
    code_by
    (List Clause × (List ℕ × (Rules × (List (Symbol × ℕ) × TwoTrees))))
    (coded× (coded_list clause_code)
    (coded× (coded_list coded_ℕ)
    (coded× rules_code (coded× (coded_list (coded× symbol_code coded_ℕ)) two_trees_code))))
    (λ k. (k.clauses, (k.keys, (k.rules, (k.numbers, k.trees)))))
    (λ p. record {
      clauses = p.0;
      keys = p.1.0;
      rules = p.1.1.0;
      numbers = p.1.1.1.0;
      trees = p.1.1.1.1;
    })
    (λ _. refl)

-- each clause has a key, and no two have the same
pub record AreKeyed (k : Kept) : Type 0 where
  pub number : length k.keys ≡ length k.clauses
  pub distinct : AreDistinct k.keys

-- the clauses, each with its key
abbrev pub paired : List ℕ → List Clause → List (ℕ × Clause)
paired [] cs = []
paired (k ∷ ks) [] = []
paired (k ∷ ks) (c ∷ cs) = (k, c) ∷ paired ks cs

abbrev pub kept_clauses : Kept → List (ℕ × Clause)
kept_clauses k = paired k.keys k.clauses

-- exactly the symbols of these clauses have numbers
abbrev pub NumbersExactly : Numbering → List Clause → Type 0
NumbersExactly numbers clauses =
    (s : Symbol) → (has_number numbers s ≡ true) ↔ IsAmong (state_symbols clauses) s

-- the trees hold the entries of exactly the kept clauses
abbrev pub TreesHold : Kept → Type 0
TreesHold k = Hold k.numbers (kept_clauses k) k.trees

-- the trees lose the postings of one kept clause, each as one that goes alone
abbrev pub TreesLose : Kept → Kept → Type 0
TreesLose old new = (key : ℕ) × IsAmong old.keys key × LoseEach key old.trees new.trees

-- nothing is kept, and each tree is the root alone
pub record IsEmpty (rules : Rules) (k : Kept) : Type 0 where
  pub no_clauses : k.clauses ≡ []
  pub no_keys : k.keys ≡ []
  pub no_numbers : k.numbers ≡ []
  pub ruled : k.rules ≡ rules
  pub literals : IsRootAlone k.trees.literals
  pub subterms : IsRootAlone k.trees.subterms

-- the clause is kept by this key
abbrev pub IsKeptBy : Kept → ℕ → Clause → Type 0
IsKeptBy k key c =
    (n : ℕ) × (slice_get k.keys n ≡ Some key) × (slice_get k.clauses n ≡ Some c)

-- a clause that is kept at both times has the same key
abbrev pub KeysStay : Kept → Kept → Type 0
KeysStay old new = (c : Clause) (m n : ℕ) → IsKeptBy old m c → IsKeptBy new n c → m ≡ n

-- a symbol that has a number at both times has the same
abbrev pub NumbersStay : Kept → Kept → Type 0
NumbersStay old new = (s : Symbol) (m n : ℕ) → IsAmong old.numbers (s, m)
    → IsAmong new.numbers (s, n) → m ≡ n

-- the clauses of a list where they go by keys
abbrev pub clauses_of : List (ℕ × term.Clause) → List Clause
clauses_of items = map (λ p. clause_of p.1) items
