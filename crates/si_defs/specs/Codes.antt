-- Codes of symbols and terms as trees of numbers, one to one. The checker tells ghost values apart
-- by them; nothing else rests on them.
use Rattle.std.specs.Prelude.{◌≡◌, ℕ, Bool, List, refl}
use Rattle.std.specs.Coded.{Coded, code_by, coded×, coded_ℕ, coded_bool, coded_list}
use Rattle.std.proofs.Common.{ap, sym}
use base.Stored.{Gv, gnil, gnum, gcons}
use native.Mathlib.Nat.{suc-ne-zero}
use Rattle.si_defs.specs.Bytes.{Bytes}
use Rattle.si_defs.specs.Terms.{Term, Terms, var, app, none, more}
use Rattle.si_defs.specs.Symbols.{Symbol}
use Rattle.si_defs.specs.Clauses.{Name, Literal, Clause}
use Rattle.si_defs.specs.declared.NameKind.{NameKind}
use Rattle.si_defs.specs.contracts.NameKind as name_contracts
use Rattle.si_defs.specs.declared.SymKind.{SymKind}
use Rattle.si_defs.specs.declared.Side.{Side}
use Rattle.si_defs.specs.contracts.SymKind as kind_contracts
use Rattle.si_defs.specs.contracts.Side as side_contracts

-- A term's code as a tree of numbers, one to one, by which ghost values of it are told apart.
abbrev left : Gv → Gv
left gnil = gnil
left (gnum n) = gnil
left (gcons a b) = a

abbrev right : Gv → Gv
right gnil = gnil
right (gnum n) = gnil
right (gcons a b) = b

abbrev number : Gv → ℕ
number gnil = 0
number (gnum n) = n
number (gcons a b) = 0

abbrev is_pair : Gv → ℕ
is_pair gnil = 0
is_pair (gnum n) = 0
is_pair (gcons a b) = 1

module _ {S V : Type 0} (symbols : Coded S) (variables : Coded V) where
  abbrev mutual
    pub term_tree : Term S V → Gv
    term_tree (var x) = gcons (gnum 0) (variables.code x)
    term_tree (app s ts) = gcons (gnum 1) (gcons (symbols.code s) (terms_tree ts))

    pub terms_tree : Terms S V → Gv
    terms_tree none = gnil
    terms_tree (more t ts) = gcons (term_tree t) (terms_tree ts)

  mutual
    pub term_tree_injective : (t u : Term S V) → term_tree t ≡ term_tree u → t ≡ u
    term_tree_injective (var x) (var y) p = ap var (variables.inj x y (ap right p))
    term_tree_injective (app s ts) (app r us) p =
        λ i. app (symbols.inj s r (ap (λ g. left (right g)) p) i)
        (terms_tree_injective ts us (ap (λ g. right (right g)) p) i)
    term_tree_injective (var x) (app r us) p =
        absurd (suc-ne-zero 0 (sym (ap (λ g. number (left g)) p)))
    term_tree_injective (app s ts) (var y) p = absurd (suc-ne-zero 0 (ap (λ g. number (left g)) p))

    pub terms_tree_injective : (ts us : Terms S V) → terms_tree ts ≡ terms_tree us → ts ≡ us
    terms_tree_injective none none p = refl
    terms_tree_injective (more t ts) (more u us) p =
        λ i. more (term_tree_injective t u (ap left p) i)
        (terms_tree_injective ts us (ap right p) i)
    terms_tree_injective none (more u us) p = absurd (suc-ne-zero 0 (sym (ap is_pair p)))
    terms_tree_injective (more t ts) none p = absurd (suc-ne-zero 0 (ap is_pair p))

  abbrev pub coded_term : Coded (Term S V)
  coded_term = record { code = term_tree; inj = term_tree_injective }

abbrev pub symbol_code : Coded Symbol
symbol_code =
    code_by (SymKind × (Bytes × (Side × ℕ)))
    (coded× kind_contracts.the_row.coded
    (coded× (coded_list coded_ℕ) (coded× side_contracts.the_row.coded coded_ℕ)))
    (λ s. (s.kind, (s.text, (s.side, s.arity))))
    (λ p. record { kind = p.0; text = p.1.0; side = p.1.1.0; arity = p.1.1.1 })
    (λ _. refl)

abbrev pub name_code : Coded Name
name_code =
    code_by (NameKind × Bytes) (coded× name_contracts.the_row.coded (coded_list coded_ℕ))
    (λ n. (n.kind, n.text)) (λ p. record { kind = p.0; text = p.1 }) (λ _. refl)

abbrev pub literal_code : Coded Literal
literal_code =
    code_by (Bool × Term Symbol Bytes)
    (coded× coded_bool (coded_term symbol_code (coded_list coded_ℕ)))
    (λ l. (l.positive, l.atom)) (λ p. record { positive = p.0; atom = p.1 }) (λ _. refl)

abbrev pub clause_code : Coded Clause
clause_code =
    code_by (Name × (Bytes × List Literal))
    (coded× name_code (coded× (coded_list coded_ℕ) (coded_list literal_code)))
    (λ c. (c.name, (c.role, c.literals)))
    (λ p. record { name = p.0; role = p.1.0; literals = p.1.1 })
    (λ _. refl)
