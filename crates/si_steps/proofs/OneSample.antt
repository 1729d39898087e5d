-- From each start each rule of the generator draws one text.
use Rattle.std.proofs.Common.{◌≡◌, ℕ, zero, suc, ◌+◌, ◌<◌, List, [], ◌∷◌, ◌++◌, length, refl, sym, ap₂, subst, ◌∙◌, arith, codes}
use Rattle.std.specs.Prelude.{decimal}
use Rattle.si_defs.specs.Bytes.{Bytes}
use Rattle.si_defs.specs.Generator.{Rule, exactly, ◌before◌, one_of, rule_at, drawn, next, leaves, term, sign, atom, literal, literals, clause, clauses, IsSample}

-- the one text that is drawn from a state, and the state after it
pub record One (rule : Rule) (first : ℕ) : Type 0 where
  pub text : Bytes
  pub last : ℕ
  pub is_drawn : rule first text last
  pub alone : (other : Bytes) (end : ℕ) → rule first other end → (other ≡ text) × (end ≡ last)

pub record HasOne (rule : Rule) : Type 0 where
  pub each : (first : ℕ) → One rule first

pub one_exactly : (bytes : Bytes) → HasOne (exactly bytes)
unfolding exactly
one_exactly bytes = record { each = λ first. record { text = bytes; last = first; is_drawn = (refl, refl); alone = λ other end r. (r.0, r.1) } }

pub one_before : {P Q : Rule} → HasOne P → HasOne Q → HasOne (P before Q)
unfolding ◌before◌
one_before {P} {Q} p q = record { each = both } where
  both : (first : ℕ) → One (P before Q) first
  both first = record {
    text = a.text ++ b.text;
    last = b.last;
    is_drawn = (a.text, a.last, b.text, a.is_drawn, b.is_drawn, refl);
    alone = λ other end r. let w = a.alone r.0 r.1 r.3 in
        let v = b.alone r.2 end (subst (λ s. Q s r.2 end) w.1 r.4) in
        (r.5 ∙ ap₂ (λ l m. l ++ m) w.0 v.0, v.1);
  } where
    a : One P first
    a = p.each first

    b : One Q a.last
    b = q.each a.last

-- ---- alternatives
pub record HaveOne (rules : List Rule) : Type 0 where
  pub each : (number first : ℕ) → number < length rules → One (rule_at rules number) first

pub one_none : HaveOne []
one_none = record { each = λ number first h. absurd (omega (arith, h)) }

pub one_more : {P : Rule} {Ps : List Rule} → HasOne P → HaveOne Ps → HaveOne (P ∷ Ps)
one_more {P} {Ps} p ps = record { each = by } where
  by : (number first : ℕ) → number < length (P ∷ Ps) → One (rule_at (P ∷ Ps) number) first
  by zero first h = let one : One P first = p.each first in record { text = one.text; last = one.last; is_drawn = one.is_drawn; alone = one.alone }
  by (suc number) first h =
      let one : One (rule_at Ps number) first = ps.each number first (omega (arith, h)) in
      record { text = one.text; last = one.last; is_drawn = one.is_drawn; alone = one.alone }

pub one_one_of : {rules : List Rule} → 0 < length rules → HaveOne rules → HasOne (one_of rules)
unfolding one_of
one_one_of {rules} some ps = record { each = by } where
  by : (first : ℕ) → One (one_of rules) first
  by first =
      let one : One (rule_at rules (drawn (length rules) (next first))) (next first) =
      ps.each (drawn (length rules) (next first)) (next first) (omega (arith, some)) in
      record { text = one.text; last = one.last; is_drawn = one.is_drawn; alone = one.alone }

-- ---- the grammar
one_leaves : {others : List Rule} → HaveOne others → HaveOne (leaves ++ others)
one_leaves others = one_more (one_exactly (codes "X")) (one_more (one_exactly (codes "Y")) (one_more (one_exactly (codes "a")) (one_more (one_exactly (codes "b")) others)))

-- a symbol and its bracket, arguments, and the closing bracket
one_unary : {P : Rule} (head : Bytes) → HasOne P → HasOne (exactly head before P before exactly (codes ")"))
one_unary head p = one_before (one_before (one_exactly head) p) (one_exactly (codes ")"))

one_binary : {P : Rule} (head : Bytes) → HasOne P → HasOne (exactly head before P before exactly (codes ",") before P before exactly (codes ")"))
one_binary head p = one_before (one_before (one_before (one_before (one_exactly head) p) (one_exactly (codes ","))) p) (one_exactly (codes ")"))

one_term : (depth : ℕ) → HasOne (term depth)
unfolding term
one_term zero = one_one_of (omega arith) (one_leaves one_none)
one_term (suc depth) =
    let argument : HasOne (term depth) = one_term depth in
    one_one_of (omega arith) (one_leaves (one_more (one_unary (codes "g(") argument) (one_more (one_binary (codes "f(") argument) one_none)))

one_literal : HasOne literal
unfolding literal
one_literal = one_before one_sign one_atom where
  one_sign : HasOne sign
  one_sign = one_one_of (omega arith) (one_more (one_exactly []) (one_more (one_exactly (codes "~")) one_none))

  one_atom : HasOne atom
  one_atom = one_one_of (omega arith) (one_more (one_binary (codes "p(") (one_term 2)) (one_more (one_unary (codes "q(") (one_term 2)) one_none))

one_clause : (number : ℕ) → HasOne (clause number)
unfolding clause
one_clause number = one_before (one_before (one_exactly (codes "cnf(s" ++ decimal number ++ codes ",axiom,")) one_literals) (one_exactly (codes ").\n")) where
  one_literals : HasOne literals
  one_literals = one_one_of (omega arith) (one_more one_literal (one_more (one_before (one_before one_literal (one_exactly (codes "|"))) one_literal) one_none))

one_clauses : (count : ℕ) → HasOne (clauses count)
unfolding clauses
one_clauses zero = one_exactly []
one_clauses (suc count) = one_before (one_clauses count) (one_clause (count + 1))

pub some_text : (start count : ℕ) → (text : Bytes) × IsSample start count text
some_text start count = let one = (one_clauses count).each start in (one.text, (one.last, one.is_drawn))

pub no_other_text : (start count : ℕ) (text other : Bytes) → IsSample start count text → IsSample start count other → other ≡ text
no_other_text start count text other (last, a) (end, b) =
    let one = (one_clauses count).each start in
    (one.alone other end b).0 ∙ sym ((one.alone text last a).0)
