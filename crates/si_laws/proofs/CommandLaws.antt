-- A line means one command at most.
use Rattle.std.proofs.Common.{◌≡◌, ℕ, ◌<◌, ◌^◌, List, [], ◌∷◌, ◌++◌, refl, sym, ap, ◌∙◌, subst, arith}
use Rattle.std.proofs.lemmas.Fmt.{decimal_injective}
use Rattle.std.specs.Prelude.{codes}
use Rattle.si_defs.specs.Bytes.{Bytes}
use Rattle.si_defs.specs.Clauses.{Literal, Pattern, literal_pattern, term_pattern}
use Rattle.si_defs.specs.Tokens.{Token, lower}
use Rattle.si_defs.specs.Grammar.{IsFormula}
use Rattle.si_defs.proofs.ListLaws.{same_first, same_tail}
use Rattle.si_state.specs.Samples.{AllowsSample}
use Rattle.si_lex.proofs.TokenLaws.{consists_unique}
use Rattle.si_steps.specs.declared.word.Word.{Word}
use Rattle.si_steps.specs.declared.word.Word.TheVariants.{Add, Load, Remove, Ask, Subsumers, Subsumed, Stats, Tree, Explain, Sample}
use Rattle.si_steps.specs.Commands.{Command, add, load, remove, query, subsumers, subsumed, explain, sample, command_word, IsQuery, IsCommand}
use Rattle.si_steps.proofs.CommandLaws.{IsOf, of_word, same_relation}
use Rattle.si_laws.specs.OneReply.{HasOneMeaning}
use Rattle.si_laws.proofs.GrammarLaws.{term_one, literal_one, formula_one, name_one, clause_one}

-- ---- operands
abbrev first_byte : Bytes → ℕ
first_byte [] = 0
first_byte (c ∷ cs) = c

literal_no_term : lower (codes "lit") ≡ lower (codes "term") → ⊥
literal_no_term e = by (ap (λ (t : Token). first_byte t.text) e) where
  by : ◌≡◌ {A = ℕ} 108 116 → ⊥
  by f = absurd (omega (arith, f))

-- a formula that is all the tokens
whole_one : (ls ks : List Literal) (ts us : List Token) → ts ≡ us → IsFormula ls ts → IsFormula ks us → ls ≡ ks
whole_one ls ks ts us e h k = formula_one ls ks ts us [] [] (ap (λ z. z ++ []) e) h k tt tt

-- what can be drawn fits the numbers of a machine
drawable_start : (start count : ℕ) → AllowsSample start count → start < 2 ^ 64
drawable_start start count h = omega (arith, h.start_fits)

drawable_count : (start count : ℕ) → AllowsSample start count → count < 2 ^ 64
drawable_count start count h = omega (arith, h.count_fits)

query_one : (p q : Pattern) (ts us : List Token) → ts ≡ us → IsQuery p ts → IsQuery q us → p ≡ q
query_one (literal_pattern l) (literal_pattern k) ts us e (vs, h, f) (ws, i, g) =
    ap literal_pattern (literal_one l k vs ws [] [] (ap (λ z. z ++ []) (same_tail (sym f ∙ e ∙ g))) h i tt tt).0
query_one (term_pattern t) (term_pattern u) ts us e (vs, h, f) (ws, i, g) =
    ap term_pattern (term_one t u vs ws [] [] (ap (λ z. z ++ []) (same_tail (sym f ∙ e ∙ g))) h i tt tt).0
query_one (literal_pattern l) (term_pattern u) ts us e (vs, h, f) (ws, i, g) = absurd (literal_no_term (same_first (sym f ∙ e ∙ g)))
query_one (term_pattern t) (literal_pattern k) ts us e (vs, h, f) (ws, i, g) = absurd (literal_no_term (sym (same_first (sym f ∙ e ∙ g))))

-- the operands determine it
one_of_word : (w : Word) (c d : Command) (ts us : List Token) → ts ≡ us → IsOf w c ts → IsOf w d us → c ≡ d
one_of_word Add c d ts us e (a, of, h) (b, of_too, k) = of ∙ ap add (clause_one a b ts us e h k) ∙ sym of_too
one_of_word Load c d ts us e (file, of, h) (other, of_too, k) = of ∙ ap (λ (t : Token). load t.text) (same_first (sym h ∙ e ∙ k)) ∙ sym of_too
one_of_word Remove c d ts us e (n, t, of, h, f) (m, u, of_too, k, g) = of ∙ ap remove (name_one n m t u (same_first (sym f ∙ e ∙ g)) h k) ∙ sym of_too
one_of_word (Ask relation) c d ts us e (p, of, h) (q, of_too, k) = of ∙ ap (query relation) (query_one p q ts us e h k) ∙ sym of_too
one_of_word Subsumers c d ts us e (ls, of, h) (ks, of_too, k) = of ∙ ap subsumers (whole_one ls ks ts us e h k) ∙ sym of_too
one_of_word Subsumed c d ts us e (ls, of, h) (ks, of_too, k) = of ∙ ap subsumed (whole_one ls ks ts us e h k) ∙ sym of_too
one_of_word Stats c d ts us e (of, h) (of_too, k) = of ∙ sym of_too
one_of_word Sample c d ts us e (m, i, of, h, f) (n, j, of_too, k, g) =
    let both = sym f ∙ e ∙ g in
    let start = decimal_injective m n (drawable_start m i h) (drawable_start n j k) (ap (λ (t : Token). t.text) (same_first both)) in
    let count = decimal_injective i j (drawable_count m i h) (drawable_count n j k) (ap (λ (t : Token). t.text) (same_first (same_tail both))) in
    of ∙ (λ x. sample (start x) (count x)) ∙ sym of_too
one_of_word Tree c d ts us e (of, h) (of_too, k) = of ∙ sym of_too
one_of_word Explain c d ts us e (r, p, vs, of, h, f) (s, q, ws, of_too, k, g) =
    let both = sym f ∙ e ∙ g in
    let relation = same_relation r s (ap (λ (t : Token). t.text) (same_first both)) in
    let pattern = query_one p q vs ws (same_tail both) h k in
    of ∙ (λ x. explain (relation x) (pattern x)) ∙ sym of_too

-- ---- commands
command_one : (c d : Command) (ts : List Token) → IsCommand c ts → IsCommand d ts → c ≡ d
command_one c d ts h k =
    let word = command_word d in
    one_of_word word c d k.operands k.operands refl
    (of_word word c k.operands (subst (IsCommand c) k.whole h)) (of_word word d k.operands (subst (IsCommand d) k.whole k))

pub one_meaning : (line : Bytes) → HasOneMeaning line
one_meaning line one other h k =
    let same = consists_unique h.tokens k.tokens line h.consists k.consists in
    command_one one other h.tokens h.spelled (subst (IsCommand other) (sym same) k.spelled)
