-- Two clauses that are drawn from the start 1, draw by draw.
use Rattle.std.proofs.Common.{◌≡◌, ℕ, List, [], ◌++◌, length, refl, ap, arith, codes, drop, false, ◌==◌}
use Rattle.std.specs.Prelude.{decimal}
use Rattle.std.proofs.lemmas.Fmt.{decimal_digit}
use Rattle.si_defs.specs.Bytes.{Bytes}
use Rattle.si_defs.specs.Generator.{Rule, exactly, ◌before◌, one_of, rule_at, drawn, next, term, literal, literals, clause, clauses, IsSample}
use Rattle.si_examples.specs.Samples.{TwoClauses, NoOtherVariable, NoClauseZero}
use Rattle.si_examples.proofs.Differ.{first_byte, texts_differ}
use Rattle.si_steps.proofs.OneSample.{no_other_text}

-- the rule draws the text
record Derives (rule : Rule) (first : ℕ) (text : Bytes) (last : ℕ) : Type 0 where
  by_rule : rule first text last

plain : {bytes : Bytes} {state : ℕ} → Derives (exactly bytes) state bytes state
unfolding exactly
plain = record { by_rule = (refl, refl) }

both : {P Q : Rule} {first last : ℕ} (left : Bytes) (between : ℕ) (right : Bytes) → Derives P first left between → Derives Q between right last
    → Derives (P before Q) first (left ++ right) last
unfolding ◌before◌
both left between right p q = record { by_rule = (left, between, right, p.by_rule, q.by_rule, refl) }

picked : {first last : ℕ} {text : Bytes} (rules : List Rule) → Derives (rule_at rules (drawn (length rules) (next first))) (next first) text last
    → Derives (one_of rules) first text last
unfolding one_of
picked rules p = record { by_rule = p.by_rule }

first_literals : Derives literals 1 (codes "q(Y)") 1147902781
unfolding literal term
first_literals = picked _ (both ([]) 377401575 (codes "q(Y)") (picked _ plain) (picked _ (both (codes "q(Y") 1147902781 (codes ")") (both (codes "q(") 662824084 (codes "Y") plain (picked _ plain)) plain)))

second_literals : Derives literals 1147902781 (codes "~p(b,X)|q(f(X,X))") 790425851
unfolding literal term
second_literals = picked _ (both (codes "~p(b,X)|") 1062517886 (codes "q(f(X,X))") (both (codes "~p(b,X)") 1062517886 (codes "|") (both (codes "~") 368800899 (codes "p(b,X)") (picked _ plain) (picked _ (both (codes "p(b,X") 1062517886 (codes ")") (both (codes "p(b,") 486256185 (codes "X") (both (codes "p(b") 486256185 (codes ",") (both (codes "p(") 1508029952 (codes "b") plain (picked _ plain)) plain) (picked _ plain)) plain))) plain) (both ([]) 267834847 (codes "q(f(X,X))") (picked _ plain) (picked _ (both (codes "q(f(X,X)") 790425851 (codes ")") (both (codes "q(") 180171308 (codes "f(X,X)") plain (picked _ (both (codes "f(X,X") 790425851 (codes ")") (both (codes "f(X,") 595337866 (codes "X") (both (codes "f(X") 595337866 (codes ",") (both (codes "f(") 836760821 (codes "X") plain (picked _ plain)) plain) (picked _ plain)) plain))) plain))))

line : (number first last : ℕ) (text : Bytes) → Derives literals first text last
    → Derives (clause number) first (codes "cnf(s" ++ decimal number ++ codes ",axiom," ++ text ++ codes ").\n") last
unfolding clause
line number first last text l = both _ last (codes ").\n") (both (codes "cnf(s" ++ decimal number ++ codes ",axiom,") first text plain l) plain

one_line : Derives (clauses 1) 1 ([] ++ (codes "cnf(s" ++ decimal 1 ++ codes ",axiom," ++ codes "q(Y)" ++ codes ").\n")) 1147902781
unfolding clauses
one_line = both [] 1 _ plain (line 1 1 1147902781 (codes "q(Y)") first_literals)

two_lines : Derives (clauses 2) 1 (([] ++ (codes "cnf(s" ++ decimal 1 ++ codes ",axiom," ++ codes "q(Y)" ++ codes ").\n")) ++ (codes "cnf(s" ++ decimal 2 ++ codes ",axiom," ++ codes "~p(b,X)|q(f(X,X))" ++ codes ").\n")) 790425851
unfolding clauses
two_lines = both _ 1147902781 _ one_line (line 2 1147902781 790425851 (codes "~p(b,X)|q(f(X,X))") second_literals)

pub two_clauses : TwoClauses
two_clauses = (790425851, rw (decimal_digit 1 (omega arith), decimal_digit 2 (omega arith)) at two_lines.by_rule)

one_clause : IsSample 1 1 (codes "cnf(s1,axiom,q(Y)).\n")
one_clause = (1147902781, rw (decimal_digit 1 (omega arith)) at one_line.by_rule)

-- another byte stands at a place
other_byte : (place : ℕ) (text : Bytes) → first_byte (drop place text) == first_byte (drop place (codes "cnf(s1,axiom,q(Y)).\n")) ≡ false → IsSample 1 1 text → ⊥
other_byte place text h drawn = texts_differ (drop place text) (drop place _) h (ap (drop place) (no_other_text 1 1 _ text one_clause drawn))

pub no_other_variable : NoOtherVariable
no_other_variable h = other_byte 15 _ refl h

pub no_clause_zero : NoClauseZero
no_clause_zero h = other_byte 5 _ refl h
