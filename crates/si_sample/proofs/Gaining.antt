-- What a text gains by one rule after the other.
use Rattle.std.proofs.Common.{◌≡◌, ℕ, zero, suc, ◌+◌, ◌-◌, ◌<◌, List, [], ◌∷◌, ◌++◌, length, get_or, refl, sym, ap, ap₂, subst, ◌∙◌, append_assoc, append-nil, arith, codes}
use Rattle.std.specs.Prelude.{Result, Ok, Err, OnOk, decimal, is_ok, if◌then◌else◌}
use Rattle.si_defs.specs.Generator.{Rule, exactly, ◌before◌, one_of, rule_at, drawn, leaves, term, sign, atom, literal, literals, clause, clauses, IsSample}
use Rattle.si_sample.specs.declared.sampler.Sampler.{Sampler}
use Rattle.si_sample.specs.Sampling.{Draws, DrawsOnto}

-- ---- bytes without a draw
pub gains_exactly : (a b : Sampler) (bytes : List ℕ) → b.text.items ≡ a.text.items ++ bytes → b.state ≡ a.state → DrawsOnto (exactly bytes) a b
unfolding exactly
gains_exactly a b bytes text state = record { piece = bytes; drawn = (refl, state); text = text }

pub gains_nothing : (a : Sampler) → DrawsOnto (exactly []) a a
gains_nothing a = gains_exactly a a [] (sym (append-nil a.text.items)) refl

pub gains_put : {T E : Type 0} (r : Result T E) (a b : Sampler) (bytes : List ℕ) → b.text.items ≡ (if is_ok r then a.text.items ++ bytes else a.text.items)
    → b.state ≡ a.state → OnOk r (DrawsOnto (exactly bytes) a b)
gains_put (Ok x) a b bytes text state = gains_exactly a b bytes text state
gains_put (Err e) a b bytes text state = tt

pub gains_both : {a b c : Sampler} (bytes more : List ℕ) → DrawsOnto (exactly bytes) a b → DrawsOnto (exactly more) b c → DrawsOnto (exactly (bytes ++ more)) a c
unfolding exactly
gains_both {a} {b} {c} bytes more first second = record {
  piece = bytes ++ more;
  drawn = (refl, second.drawn.1 ∙ first.drawn.1);
  text =
      second.text
      ∙ ap (λ l. l ++ second.piece) first.text
      ∙ append_assoc a.text.items first.piece second.piece
      ∙ ap₂ (λ l m. a.text.items ++ (l ++ m)) first.drawn.0 second.drawn.0;
}

-- ---- rules
-- one rule and then another
pub gains_before : {P Q : Rule} {a b c : Sampler} → DrawsOnto P a b → DrawsOnto Q b c → DrawsOnto (P before Q) a c
unfolding ◌before◌
gains_before {P} {Q} {a} {b} {c} first second = record {
  piece = first.piece ++ second.piece;
  drawn = (first.piece, b.state, second.piece, first.drawn, second.drawn, refl);
  text = second.text ∙ ap (λ l. l ++ second.piece) first.text ∙ append_assoc a.text.items first.piece second.piece;
}

-- the rule with the number that was drawn
pub gains_one_of : {a b c : Sampler} (rules : List Rule) (number : ℕ) → Draws (length rules) number a b → DrawsOnto (rule_at rules number) b c → DrawsOnto (one_of rules) a c
unfolding one_of
gains_one_of {a} {b} {c} rules number d g = record {
  piece = g.piece;
  drawn =
      subst (λ s. rule_at rules (drawn (length rules) s) s g.piece c.state) d.state
      (subst (λ n. rule_at rules n b.state g.piece c.state) d.value g.drawn);
  text = g.text ∙ ap (λ l. l ++ g.piece) d.text;
}

-- the first of two rules
pub gains_first : {P : Rule} {a b c : Sampler} (Q : Rule) (number : ℕ) → number ≡ 0 → Draws 2 number a b → DrawsOnto P b c → DrawsOnto (one_of (P ∷ Q ∷ [])) a c
gains_first {P} {a} {b} {c} Q number is d g =
    gains_one_of (P ∷ Q ∷ []) 0 (subst (λ n. Draws 2 n a b) is d) (record { piece = g.piece; drawn = g.drawn; text = g.text })

-- the second of two rules
pub gains_second : {Q : Rule} {a b c : Sampler} (P : Rule) (number : ℕ) → (number ≡ 0 → ⊥) → number < 2 → Draws 2 number a b → DrawsOnto Q b c
    → DrawsOnto (one_of (P ∷ Q ∷ [])) a c
gains_second {Q} {a} {b} {c} P number some below d g =
    let one : number ≡ 1 = omega (arith, some, below) in
    gains_one_of (P ∷ Q ∷ []) 1 (subst (λ n. Draws 2 n a b) one d) (record { piece = g.piece; drawn = g.drawn; text = g.text })

-- ---- terms
-- a term that is no leaf, by the depth of its arguments
abbrev pub applied : ℕ → List Rule
applied depth =
    (exactly (codes "g(") before term depth before exactly (codes ")"))
    ∷ (exactly (codes "f(") before term depth before exactly (codes ",") before term depth before exactly (codes ")"))
    ∷ []

pub gains_leaf : {a b : Sampler} (depth : ℕ) → depth ≡ 0 → DrawsOnto (one_of leaves) a b → DrawsOnto (term depth) a b
unfolding term
gains_leaf zero e g = g
gains_leaf (suc depth) e g = absurd (omega (arith, e))

pub gains_term : {a b : Sampler} (depth : ℕ) → (depth ≡ 0 → ⊥) → DrawsOnto (one_of (leaves ++ applied (depth - 1))) a b → DrawsOnto (term depth) a b
unfolding term
gains_term zero some g = absurd (some refl)
gains_term {a} {b} (suc depth) some g =
    let same : suc depth - 1 ≡ depth = omega arith in
    subst (λ d. DrawsOnto (one_of (leaves ++ applied d)) a b) same g

-- each alternative of a term
pub gains_unary : {a b c : Sampler} (depth number : ℕ) → (depth ≡ 0 → ⊥) → number ≡ 4 → Draws 6 number a b
    → DrawsOnto (exactly (codes "g(") before term (depth - 1) before exactly (codes ")")) b c → DrawsOnto (term depth) a c
gains_unary {a} {b} {c} depth number some is d g =
    gains_term depth some
    (gains_one_of (leaves ++ applied (depth - 1)) 4 (subst (λ n. Draws 6 n a b) is d) (record { piece = g.piece; drawn = g.drawn; text = g.text }))

pub gains_binary : {a b c : Sampler} (depth number : ℕ) → (depth ≡ 0 → ⊥) → number ≡ 5 → Draws 6 number a b
    → DrawsOnto (exactly (codes "f(") before term (depth - 1) before exactly (codes ",") before term (depth - 1) before exactly (codes ")")) b c → DrawsOnto (term depth) a c
gains_binary {a} {b} {c} depth number some is d g =
    gains_term depth some
    (gains_one_of (leaves ++ applied (depth - 1)) 5 (subst (λ n. Draws 6 n a b) is d) (record { piece = g.piece; drawn = g.drawn; text = g.text }))

-- a leaf is an alternative of each term
pub gains_early : {a b : Sampler} (number : ℕ) (others : List Rule) → number < 4 → DrawsOnto (rule_at leaves number) a b → DrawsOnto (rule_at (leaves ++ others) number) a b
gains_early zero others h g = record { piece = g.piece; drawn = g.drawn; text = g.text }
gains_early (suc zero) others h g = record { piece = g.piece; drawn = g.drawn; text = g.text }
gains_early (suc (suc zero)) others h g = record { piece = g.piece; drawn = g.drawn; text = g.text }
gains_early (suc (suc (suc zero))) others h g = record { piece = g.piece; drawn = g.drawn; text = g.text }
gains_early (suc (suc (suc (suc number)))) others h g = absurd (omega (arith, h))

pub gains_other : {a b c : Sampler} (depth number : ℕ) → (depth ≡ 0 → ⊥) → number < 4 → Draws 6 number a b → DrawsOnto (rule_at leaves number) b c → DrawsOnto (term depth) a c
gains_other depth number some early d g = gains_term depth some (gains_one_of (leaves ++ applied (depth - 1)) number d (gains_early number (applied (depth - 1)) early g))

-- the leaf with this number, by its letter
pub gains_letter : {a b : Sampler} (number : ℕ) → number < 4 → DrawsOnto (exactly (get_or (codes "XYab") number 0 ∷ [])) a b → DrawsOnto (rule_at leaves number) a b
gains_letter zero h g = record { piece = g.piece; drawn = g.drawn; text = g.text }
gains_letter (suc zero) h g = record { piece = g.piece; drawn = g.drawn; text = g.text }
gains_letter (suc (suc zero)) h g = record { piece = g.piece; drawn = g.drawn; text = g.text }
gains_letter (suc (suc (suc zero))) h g = record { piece = g.piece; drawn = g.drawn; text = g.text }
gains_letter (suc (suc (suc (suc number)))) h g = absurd (omega (arith, h))

-- ---- clauses
pub gains_literal : {a b c : Sampler} → DrawsOnto sign a b → DrawsOnto atom b c → DrawsOnto literal a c
unfolding literal
gains_literal first second = gains_before first second

pub gains_clause : {a b c d : Sampler} (number : ℕ) → DrawsOnto (exactly (codes "cnf(s" ++ decimal number ++ codes ",axiom,")) a b → DrawsOnto literals b c
    → DrawsOnto (exactly (codes ").\n")) c d → DrawsOnto (clause number) a d
unfolding clause
gains_clause number first second last = gains_before (gains_before first second) last

pub gains_no_clause : (a : Sampler) → DrawsOnto (clauses 0) a a
unfolding clauses
gains_no_clause a = gains_nothing a

pub gains_one_more : {a b c : Sampler} (count : ℕ) → DrawsOnto (clauses count) a b → DrawsOnto (clause (count + 1)) b c → DrawsOnto (clauses (count + 1)) a c
unfolding clauses
gains_one_more {a} {b} {c} count first second =
    let same : suc count ≡ count + 1 = omega arith in
    subst (λ n. DrawsOnto (clauses n) a c) same (gains_before first second)

pub is_sample : {a b : Sampler} (start count : ℕ) (text : List ℕ) → a.state ≡ start → a.text.items ≡ [] → text ≡ b.text.items → DrawsOnto (clauses count) a b
    → IsSample start count text
is_sample {a} {b} start count text state empty same g =
    let all : g.piece ≡ text = sym (same ∙ g.text ∙ ap (λ l. l ++ g.piece) empty) in
    (b.state, subst (λ l. clauses count start l b.state) all (subst (λ s. clauses count s g.piece b.state) state g.drawn))
