-- Codes of trees as lists of numbers, one to one. The checker tells ghost values apart by them;
-- nothing else rests on them.
use Rattle.std.specs.Prelude.{◌≡◌, ◌⊎◌, ℕ, List, Option, refl}
use Rattle.std.specs.Coded.{Coded, code_by, coded×, coded⊎, coded_ℕ, coded_list, coded_option}
use Rattle.std.proofs.Common.{inl, inr}
use Rattle.si_defs.specs.Codes.{coded_term}
use Rattle.si_flat.specs.Cells.{Symbol, Variable, query, entry, ind, Term}
use Rattle.si_legal.specs.declared.Posting.{Posting}
use Rattle.si_legal.specs.contracts.Posting as posting_contracts
use Rattle.si_legal.specs.Trees.{Content, inner, leaf, Node, Tree}

abbrev symbol_code : Coded Symbol
symbol_code =
    code_by (ℕ × ℕ) (coded× coded_ℕ coded_ℕ) (λ s. (s.number, s.arity))
    (λ p. record { number = p.0; arity = p.1 })
    (λ _. refl)

abbrev variable_parts : Variable → ℕ ⊎ (ℕ ⊎ ℕ)
variable_parts (query n) = inl n
variable_parts (entry n) = inr (inl n)
variable_parts (ind n) = inr (inr n)

abbrev variable_from : ℕ ⊎ (ℕ ⊎ ℕ) → Variable
variable_from (inl n) = query n
variable_from (inr (inl n)) = entry n
variable_from (inr (inr n)) = ind n

pub variable_back : (x : Variable) → variable_from (variable_parts x) ≡ x
variable_back (query n) = refl
variable_back (entry n) = refl
variable_back (ind n) = refl

abbrev variable_code : Coded Variable
variable_code =
    code_by (ℕ ⊎ (ℕ ⊎ ℕ)) (coded⊎ coded_ℕ (coded⊎ coded_ℕ coded_ℕ)) variable_parts variable_from
    variable_back

abbrev term_code : Coded Term
term_code = coded_term symbol_code variable_code

abbrev content_parts : Content → (ℕ × List ℕ) ⊎ List Posting
content_parts (inner split children) = inl (split, children)
content_parts (leaf postings) = inr postings

abbrev content_from : (ℕ × List ℕ) ⊎ List Posting → Content
content_from (inl (split, children)) = inner split children
content_from (inr postings) = leaf postings

pub content_back : (c : Content) → content_from (content_parts c) ≡ c
content_back (inner split children) = refl
content_back (leaf postings) = refl

abbrev content_code : Coded Content
content_code =
    code_by ((ℕ × List ℕ) ⊎ List Posting)
    (coded⊎ (coded× coded_ℕ (coded_list coded_ℕ)) (coded_list posting_contracts.the_row.coded))
    content_parts content_from content_back

abbrev node_code : Coded (Node Term)
node_code =
    code_by (Option ℕ × (List (ℕ × Term) × Content))
    (coded× (coded_option coded_ℕ)
    (coded× (coded_list (coded× coded_ℕ term_code)) content_code))
    (λ n. (n.parent, (n.bindings, n.content)))
    (λ p. record { parent = p.0; bindings = p.1.0; content = p.1.1 })
    (λ _. refl)

abbrev pub tree_code : Coded (Tree Term)
tree_code =
    code_by (List (Option (Node Term)) × (ℕ × (ℕ × ℕ)))
    (coded× (coded_list (coded_option node_code)) (coded× coded_ℕ (coded× coded_ℕ coded_ℕ)))
    (λ t. (t.nodes, (t.root, (t.next, t.vars))))
    (λ p. record { nodes = p.0; root = p.1.0; next = p.1.1.0; vars = p.1.1.1 })
    (λ _. refl)
