-- Clauses: what the reader of them gives.
use Rattle.std.proofs.Common.{◌≡◌, ℕ, List, [], ◌∷◌, ◌++◌, Some, None, refl, sym, ap, ◌∙◌, subst, append_assoc}
use Rattle.std.specs.Prelude.{codes}
use Rattle.si_defs.specs.Bytes.{Bytes}
use Rattle.si_defs.specs.Clauses.{Literal, Name, Clause}
use Rattle.si_defs.specs.Tokens.{Token, lower}
use Rattle.si_defs.specs.Grammar.{IsFormula, IsClause, left_bracket, right_bracket, comma, full_stop}
use Rattle.si_parse.specs.Parsing.{ReadsTokens, Anything, NoLiteral}
use Rattle.si_parse.specs.GrammarRules.{IsMark, IsOpening, IsNameToken, IsRole, IsHeading, IsClosed}
use Rattle.si_parse.proofs.ParseSequences.{Then, then_none, then_stop, renamed_some, renamed_none}
use Rattle.si_parse.proofs.GrammarNotes.{closed_follows}

-- a mark as what is passed
abbrev pub Mark : ℕ → Unit {0} → List Token → Type 0
Mark c u ts = IsMark c ts

-- ---- headings
-- the role and its comma
abbrev pub Role : Bytes × Unit {0} → List Token → Type 0
Role = Then IsRole (Mark 44)

-- the comma and the role
abbrev pub CommaRole : Unit {0} × (Bytes × Unit {0}) → List Token → Type 0
CommaRole = Then (Mark 44) Role

-- the name and the role, in four parts
abbrev pub Heading : Name × (Unit {0} × (Bytes × Unit {0})) → List Token → Type 0
Heading = Then IsNameToken CommaRole

abbrev pub heading_from : Name × (Unit {0} × (Bytes × Unit {0})) → Name × Bytes
heading_from p = (p.0, p.1.1.0)

to_heading : (p : Name × (Unit {0} × (Bytes × Unit {0}))) (ts : List Token) → Heading p ts → IsHeading (heading_from p) ts
to_heading p ts (n, r, (t, is, one), (c, s, comma_is, (l, d, role_is, last, g), f), e) =
    (t, is, e ∙ ap (λ x. x ++ r) one ∙ ap (λ x. t ∷ x) (f ∙ ap (λ x. x ++ s) comma_is ∙ ap (λ x. comma ∷ x) (g ∙ ap (λ x. x ++ d) role_is ∙ ap (λ x. lower p.1.1.0 ∷ x) last)))

from_heading : {tokens : List Token} (h : Name × Bytes) (used rest : List Token) → tokens ≡ used ++ rest → IsHeading h used → Anything rest → (p : Name × (Unit {0} × (Bytes × Unit {0}))) × (heading_from p ≡ h) × Heading p used
from_heading h used rest e (t, is, f) follows = (
  (h.0, (tt, (h.1, tt))),
  refl,
  (t ∷ [], comma ∷ lower h.1 ∷ comma ∷ [], (t, is, refl), (comma ∷ [], lower h.1 ∷ comma ∷ [], refl, (lower h.1 ∷ [], comma ∷ [], refl, refl, refl), refl), f),
)

pub heading_some : {tokens rest : List Token} {p : Name × (Unit {0} × (Bytes × Unit {0}))} → ReadsTokens Heading Anything tokens (Some (p, rest)) → ReadsTokens IsHeading Anything tokens (Some (heading_from p, rest))
heading_some {tokens = tokens} q = renamed_some heading_from to_heading (from_heading {tokens = tokens}) q

pub heading_none : {tokens : List Token} → ReadsTokens Heading Anything tokens None → ReadsTokens IsHeading Anything tokens None
heading_none {tokens = tokens} q = renamed_none heading_from to_heading (from_heading {tokens = tokens}) q

-- the parts of a heading, where one is missing
pub name_first : {tokens : List Token} → ReadsTokens IsNameToken Anything tokens None → ReadsTokens Heading Anything tokens None
name_first p = then_none {F = Anything} (λ n used rest b g. tt) p

pub name_then : {tokens left : List Token} {n : Name} → ReadsTokens IsNameToken Anything tokens (Some (n, left)) → ReadsTokens CommaRole Anything left None → ReadsTokens Heading Anything tokens None
name_then p q = then_stop {F = Anything} (λ n used rest b g. tt) p q

pub comma_first : {tokens : List Token} → ReadsTokens (Mark 44) Anything tokens None → ReadsTokens CommaRole Anything tokens None
comma_first p = then_none {F = Anything} (λ n used rest b g. tt) p

pub comma_then : {tokens left : List Token} → ReadsTokens (Mark 44) Anything tokens (Some (tt {0}, left)) → ReadsTokens Role Anything left None → ReadsTokens CommaRole Anything tokens None
comma_then p q = then_stop {F = Anything} (λ n used rest b g. tt) p q

pub role_first : {tokens : List Token} → ReadsTokens IsRole Anything tokens None → ReadsTokens Role Anything tokens None
role_first p = then_none {F = Anything} (λ n used rest b g. tt) p

pub role_then : {tokens left : List Token} {text : Bytes} → ReadsTokens IsRole Anything tokens (Some (text, left)) → ReadsTokens (Mark 44) Anything left None → ReadsTokens Role Anything tokens None
role_then p q = then_stop {F = Anything} (λ n used rest b g. tt) p q

-- ---- clauses
-- what ends a clause, in two parts
abbrev pub Ending : Unit {0} × Unit {0} → List Token → Type 0
Ending = Then (λ (u : Unit {0}) used. IsClosed used) (Mark 46)

-- the formula and the end
abbrev pub Body : List Literal × (Unit {0} × Unit {0}) → List Token → Type 0
Body = Then IsFormula Ending

-- the heading and what stands after it
abbrev pub FromHeading : (Name × Bytes) × (List Literal × (Unit {0} × Unit {0})) → List Token → Type 0
FromHeading = Then IsHeading Body

-- the parts of a clause: what opens it, its heading, its formula, and what ends it
abbrev pub Parts : Type 0
Parts = Unit {0} × ((Name × Bytes) × (List Literal × (Unit {0} × Unit {0})))

abbrev pub Whole : Parts → List Token → Type 0
Whole = Then (λ (u : Unit {0}) used. IsOpening (codes "cnf") used) FromHeading

-- the clause with these parts
abbrev pub clause_from : Parts → Clause
clause_from p = record { name = p.1.0.0; role = p.1.0.1; literals = p.1.1.0 }

to_clause : (p : Parts) (ts : List Token) → Whole p ts → IsClause (clause_from p) ts
to_clause p ts (o, r, opening, (h, s, (t, is, heading), (f, q, formula, (c, d, (extra, is_extra, closed), stop, i), j), k), e) = (
  t,
  f,
  extra,
  is,
  formula,
  is_extra,
  e ∙ ap (λ x. x ++ r) opening ∙ ap (λ x. lower (codes "cnf") ∷ left_bracket ∷ x) (k ∙ ap (λ x. x ++ s) heading
      ∙ ap (λ x. t ∷ comma ∷ lower p.1.0.1 ∷ comma ∷ x)
      (j ∙ ap (λ x. f ++ x) (i ∙ ap (λ x. c ++ x) stop ∙ ap (λ x. x ++ full_stop ∷ []) closed ∙ append_assoc extra (right_bracket ∷ []) (full_stop ∷ [])) ∙ sym (append_assoc f extra (right_bracket ∷ full_stop ∷ [])))),
)

from_clause : {tokens : List Token} (c : Clause) (used rest : List Token) → tokens ≡ used ++ rest → IsClause c used → Anything rest → (p : Parts) × (clause_from p ≡ c) × Whole p used
from_clause c used rest e (name, formula, extra, is_name, is_formula, is_extra, f) follows =
    let end = extra ++ right_bracket ∷ full_stop ∷ [] in (
      (tt, ((c.name, c.role), (c.literals, (tt, tt)))),
      refl,
      (
        lower (codes "cnf") ∷ left_bracket ∷ [],
        name ∷ comma ∷ lower c.role ∷ comma ∷ formula ++ end,
        refl,
        (
          name ∷ comma ∷ lower c.role ∷ comma ∷ [],
          formula ++ end,
          (name, is_name, refl),
          (formula, end, is_formula, (extra ++ right_bracket ∷ [], full_stop ∷ [], (extra, is_extra, refl), refl, sym (append_assoc extra (right_bracket ∷ []) (full_stop ∷ []))), refl),
          refl,
        ),
        f ∙ ap (λ x. lower (codes "cnf") ∷ left_bracket ∷ name ∷ comma ∷ lower c.role ∷ comma ∷ x) (append_assoc formula extra (right_bracket ∷ full_stop ∷ [])),
      ),
    )

pub clause_some : {tokens rest : List Token} {p : Parts} → ReadsTokens Whole Anything tokens (Some (p, rest)) → ReadsTokens IsClause Anything tokens (Some (clause_from p, rest))
clause_some {tokens = tokens} q = renamed_some clause_from to_clause (from_clause {tokens = tokens}) q

pub clause_none : {tokens : List Token} → ReadsTokens Whole Anything tokens None → ReadsTokens IsClause Anything tokens None
clause_none {tokens = tokens} q = renamed_none clause_from to_clause (from_clause {tokens = tokens}) q

-- no literal goes on where a clause ends
pub ending_follows : (p : Unit {0} × Unit {0}) (used rest : List Token) → Ending p used → Anything rest → NoLiteral (used ++ rest)
ending_follows p used rest (c, d, closed, stop, e) follows =
    subst NoLiteral (sym (ap (λ x. x ++ rest) e ∙ append_assoc c d rest)) (closed_follows c (d ++ rest) closed)

-- the parts of a clause, where one is missing
pub opening_first : {tokens : List Token} → ReadsTokens (λ (u : Unit {0}) used. IsOpening (codes "cnf") used) Anything tokens None → ReadsTokens Whole Anything tokens None
opening_first p = then_none {F = Anything} (λ n used rest b g. tt) p

pub opening_then : {tokens left : List Token} → ReadsTokens (λ (u : Unit {0}) used. IsOpening (codes "cnf") used) Anything tokens (Some (tt {0}, left)) → ReadsTokens FromHeading Anything left None → ReadsTokens Whole Anything tokens None
opening_then p q = then_stop {F = Anything} (λ n used rest b g. tt) p q

pub heading_first : {tokens : List Token} → ReadsTokens IsHeading Anything tokens None → ReadsTokens FromHeading Anything tokens None
heading_first p = then_none {F = Anything} (λ n used rest b g. tt) p

pub heading_then : {tokens left : List Token} {h : Name × Bytes} → ReadsTokens IsHeading Anything tokens (Some (h, left)) → ReadsTokens Body Anything left None → ReadsTokens FromHeading Anything tokens None
heading_then p q = then_stop {F = Anything} (λ n used rest b g. tt) p q

pub formula_first : {tokens : List Token} → ReadsTokens IsFormula NoLiteral tokens None → ReadsTokens Body Anything tokens None
formula_first p = then_none {F = NoLiteral} ending_follows p

pub formula_then : {tokens left : List Token} {ls : List Literal} → ReadsTokens IsFormula NoLiteral tokens (Some (ls, left)) → ReadsTokens Ending Anything left None → ReadsTokens Body Anything tokens None
formula_then p q = then_stop {F = NoLiteral} ending_follows p q

pub closed_first : {tokens : List Token} → ReadsTokens (λ (u : Unit {0}) used. IsClosed used) Anything tokens None → ReadsTokens Ending Anything tokens None
closed_first p = then_none {F = Anything} (λ n used rest b g. tt) p

pub closed_then : {tokens left : List Token} → ReadsTokens (λ (u : Unit {0}) used. IsClosed used) Anything tokens (Some (tt {0}, left)) → ReadsTokens (Mark 46) Anything left None → ReadsTokens Ending Anything tokens None
closed_then p q = then_stop {F = Anything} (λ n used rest b g. tt) p q
