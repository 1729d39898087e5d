-- First-order terms over any symbols S and any variables V (Robinson 1965; TPTP's fof_term).
use Rattle.std.specs.Prelude.{ℕ, ◌+◌, Bool, not, filter, List, [], ◌∷◌, ◌++◌, map, Option, Some, None}

mutual
  -- a variable, or a symbol with its arguments
  pub data Term (S V : Type 0) : Type 0 where
    var : V → Term S V
    app : S → Terms S V → Term S V

  -- the arguments of a symbol, in order
  pub data Terms (S V : Type 0) : Type 0 where
    none : Terms S V
    more : Term S V → Terms S V → Terms S V

module _ {S V : Type 0} where
  -- the same arguments, as a list and back
  abbrev pub row : List (Term S V) → Terms S V
  row [] = none
  row (t ∷ ts) = more t (row ts)

  abbrev pub list : Terms S V → List (Term S V)
  list none = []
  list (more t ts) = t ∷ list ts

  -- those of a term; a variable has none
  abbrev pub arguments : Term S V → Terms S V
  arguments (var x) = none
  arguments (app s ts) = ts

  -- how many arguments
  abbrev pub count : Terms S V → ℕ
  count none = 0
  count (more t ts) = 1 + count ts

  -- the number of occurrences of symbols and variables
  abbrev mutual
    pub size : Term S V → ℕ
    size (var x) = 1
    size (app s ts) = 1 + sizes ts

    pub sizes : Terms S V → ℕ
    sizes none = 0
    sizes (more t ts) = size t + sizes ts

  -- the occurrences of variables, from left to right
  abbrev mutual
    pub variables : Term S V → List V
    variables (var x) = x ∷ []
    variables (app s ts) = variables_of_all ts

    pub variables_of_all : Terms S V → List V
    variables_of_all none = []
    variables_of_all (more t ts) = variables t ++ variables_of_all ts

  -- the occurrences of symbols, in preorder
  abbrev mutual
    pub symbols : Term S V → List S
    symbols (var x) = []
    symbols (app s ts) = s ∷ symbols_of_all ts

    pub symbols_of_all : Terms S V → List S
    symbols_of_all none = []
    symbols_of_all (more t ts) = symbols t ++ symbols_of_all ts

  -- the symbol at the front of a term that is no variable
  abbrev pub head : Term S V → Option S
  head (var x) = None
  head (app s ts) = Some s

  -- The occurrences of subterms that are no variables, in preorder, the term itself first, each
  -- with its path: the numbers from 1 of the arguments that lead to it.
  abbrev pub below : ℕ → List ℕ × Term S V → List ℕ × Term S V
  below k (path, t) = (k ∷ path, t)

  abbrev mutual
    pub occurrences : Term S V → List (List ℕ × Term S V)
    occurrences (var x) = []
    occurrences (app s ts) = ([], app s ts) ∷ occurrences_from 1 ts

    -- those in the arguments, of which the first has the number k
    pub occurrences_from : ℕ → Terms S V → List (List ℕ × Term S V)
    occurrences_from k none = []
    occurrences_from k (more t ts) = map (below k) (occurrences t) ++ occurrences_from (1 + k) ts

  -- each variable replaced by the term that f gives for it, all at once
  abbrev mutual
    pub substitute : (V → Term S V) → Term S V → Term S V
    substitute f (var x) = f x
    substitute f (app s ts) = app s (substitute_all f ts)

    pub substitute_all : (V → Term S V) → Terms S V → Terms S V
    substitute_all f none = none
    substitute_all f (more t ts) = more (substitute f t) (substitute_all f ts)

-- the term with other variables
abbrev mutual
  pub rename : {S V W : Type 0} → (V → W) → Term S V → Term S W
  rename f (var x) = var (f x)
  rename f (app s ts) = app s (rename_all f ts)

  pub rename_all : {S V W : Type 0} → (V → W) → Terms S V → Terms S W
  rename_all f none = none
  rename_all f (more t ts) = more (rename f t) (rename_all f ts)

-- the members of a list, each once, in the order of their first occurrence
abbrev pub firsts : {V : Type 0} → (V → V → Bool) → List V → List V
firsts same [] = []
firsts same (x ∷ xs) = x ∷ filter (λ y. not (same x y)) (firsts same xs)
