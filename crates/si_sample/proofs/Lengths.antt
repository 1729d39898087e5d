-- How long a text is that is drawn by a rule.
use Rattle.std.proofs.Common.{ℕ, zero, suc, ◌+◌, ◌*◌, ◌≤◌, List, [], ◌∷◌, ◌++◌, length, length-append, subst, sym, ap, arith, codes}
use Rattle.std.specs.Prelude.{decimal}
use Rattle.std.proofs.lemmas.Fmt.{length-decimal-le}
use Rattle.si_defs.specs.Bytes.{Bytes}
use Rattle.si_defs.specs.Generator.{Rule, exactly, ◌before◌, one_of, rule_at, drawn, next, leaves, term, sign, atom, literal, literals, clause, clauses, IsSample}

-- no text that is drawn by the rule has more bytes
pub record HasMost (rule : Rule) (most : ℕ) : Type 0 where
  pub each : (first : ℕ) (text : Bytes) (last : ℕ) → rule first text last → length text ≤ most

pub most_of : (bytes : Bytes) (most : ℕ) → length bytes ≤ most → HasMost (exactly bytes) most
unfolding exactly
most_of bytes most h = record { each = λ first text last r. subst (λ l. length l ≤ most) (sym r.0) h }

pub most_before : {P Q : Rule} {m n : ℕ} → HasMost P m → HasMost Q n → HasMost (P before Q) (m + n)
unfolding ◌before◌
most_before {P} {Q} {m} {n} p q = record { each = both } where
  both : (first : ℕ) (text : Bytes) (last : ℕ) → (P before Q) first text last → length text ≤ m + n
  both first text last (left, between, right, l, r, whole) =
      omega (arith, ap length whole, length-append left right, p.each first left between l, q.each between right last r)

-- ---- alternatives
pub record HaveMost (rules : List Rule) (most : ℕ) : Type 0 where
  pub each : (number first : ℕ) (text : Bytes) (last : ℕ) → rule_at rules number first text last → length text ≤ most

pub most_none : (most : ℕ) → HaveMost [] most
most_none most = record { each = λ number first text last r. absurd r }

pub most_more : {P : Rule} {Ps : List Rule} {m most : ℕ} → HasMost P m → m ≤ most → HaveMost Ps most → HaveMost (P ∷ Ps) most
most_more {P} {Ps} {m} {most} p h ps = record { each = by } where
  by : (number first : ℕ) (text : Bytes) (last : ℕ) → rule_at (P ∷ Ps) number first text last → length text ≤ most
  by zero first text last r = omega (arith, p.each first text last r, h)
  by (suc number) first text last r = ps.each number first text last r

pub most_one_of : {rules : List Rule} {most : ℕ} → HaveMost rules most → HasMost (one_of rules) most
unfolding one_of
most_one_of {rules} ps = record { each = λ first text last r. ps.each (drawn (length rules) (next first)) (next first) text last r }

-- ---- the grammar
most_leaves : {others : List Rule} {most : ℕ} → 1 ≤ most → HaveMost others most → HaveMost (leaves ++ others) most
most_leaves h others =
    most_more (most_of (codes "X") 1 (omega arith)) h (most_more (most_of (codes "Y") 1 (omega arith)) h
    (most_more (most_of (codes "a") 1 (omega arith)) h (most_more (most_of (codes "b") 1 (omega arith)) h others)))

-- a symbol and its bracket, arguments, and the closing bracket
most_unary : {P : Rule} {most : ℕ} (head : Bytes) → length head ≤ 2 → HasMost P most → HasMost (exactly head before P before exactly (codes ")")) (2 + most + 1)
most_unary head h p = most_before (most_before (most_of head 2 h) p) (most_of (codes ")") 1 (omega arith))

most_binary : {P : Rule} {most : ℕ} (head : Bytes) → length head ≤ 2 → HasMost P most
    → HasMost (exactly head before P before exactly (codes ",") before P before exactly (codes ")")) (2 + most + 1 + most + 1)
most_binary head h p =
    most_before
    (most_before (most_before (most_before (most_of head 2 h) p) (most_of (codes ",") 1 (omega arith))) p)
    (most_of (codes ")") 1 (omega arith))

-- no term of the depth has more bytes
abbrev most_bytes : ℕ → ℕ
most_bytes zero = 1
most_bytes (suc depth) = 4 + 2 * most_bytes depth

most_term : (depth : ℕ) → HasMost (term depth) (most_bytes depth)
unfolding term
most_term zero = most_one_of (most_leaves (omega arith) (most_none 1))
most_term (suc depth) =
    let argument : HasMost (term depth) (most_bytes depth) = most_term depth in
    most_one_of
    (most_leaves (omega arith)
    (most_more (most_unary (codes "g(") (omega arith) argument) (omega arith)
    (most_more (most_binary (codes "f(") (omega arith) argument) (omega arith) (most_none _))))

most_argument : HasMost (term 2) 16
most_argument = most_term 2

most_literal : HasMost literal 37
unfolding literal
most_literal = most_before most_sign most_atom where
  most_sign : HasMost sign 1
  most_sign = most_one_of (most_more (most_of [] 1 (omega arith)) (omega arith) (most_more (most_of (codes "~") 1 (omega arith)) (omega arith) (most_none 1)))

  most_atom : HasMost atom 36
  most_atom =
      most_one_of
      (most_more (most_binary (codes "p(") (omega arith) most_argument) (omega arith)
      (most_more (most_unary (codes "q(") (omega arith) most_argument) (omega arith) (most_none 36)))

most_literals : HasMost literals 75
most_literals = most_one_of (most_more most_literal (omega arith) (most_more two (omega arith) (most_none 75))) where
  two : HasMost (literal before exactly (codes "|") before literal) 75
  two = most_before (most_before most_literal (most_of (codes "|") 1 (omega arith))) most_literal

most_clause : (number : ℕ) → number ≤ 10000 → HasMost (clause number) 95
unfolding clause
most_clause number h = most_before (most_before (most_of (codes "cnf(s" ++ decimal number ++ codes ",axiom,") 17 head) most_literals) (most_of (codes ").\n") 3 (omega arith)) where
  head : length (codes "cnf(s" ++ decimal number ++ codes ",axiom,") ≤ 17
  head =
      omega (
        arith,
        length-append (codes "cnf(s" ++ decimal number) (codes ",axiom,"),
        length-append (codes "cnf(s") (decimal number),
        length-decimal-le 5 number (omega arith) (omega (arith, h)) (omega (arith, h)),
      )

most_clauses : (count : ℕ) → count ≤ 10000 → HasMost (clauses count) (95 * count)
unfolding clauses
most_clauses zero h = most_of [] 0 (omega arith)
most_clauses (suc count) h = subst (HasMost (clauses (suc count))) (omega arith) (most_before (most_clauses count (omega (arith, h))) (most_clause (count + 1) (omega (arith, h))))

pub length_sample : (start count : ℕ) (text : Bytes) → count ≤ 10000 → IsSample start count text → length text ≤ 95 * count
length_sample start count text h (last, drawn) = (most_clauses count h).each start text last drawn
