-- The answer over one clause.
use Rattle.std.proofs.Common.{◌≡◌, ℕ, ◌+◌, Bool, true, false, List, [], ◌∷◌, ◌++◌, codes, refl, ap, sym, ◌∙◌, inl, inr, arith}
use Rattle.std.specs.Prelude.{decimal}
use Rattle.std.proofs.lemmas.Fmt.{decimal_digit}
use Rattle.std.proofs.lemmas.List.{same_from_push}
use Rattle.std.proofs.lemmas.Bool.{false≢true}
use Rattle.si_defs.specs.Terms as terms
use Rattle.si_defs.specs.Entries.{term_entry, state_entries}
use Rattle.si_defs.proofs.ListLaws.{same_first}
use Rattle.si_defs.specs.declared.Relation.TheVariants.{Instances}
use Rattle.si_state.specs.Answers.{Hit, Stands, Solves}
use Rattle.si_defs.specs.Variables.{Apart}
use Rattle.si_examples.specs.Entries.{f_of_x, a}
use Rattle.si_steps.specs.Replies.{explain_line}
use Rattle.si_steps.specs.Steps.{CountsStanding}
use Rattle.si_examples.proofs.Differ.{differ}
use Rattle.si_examples.specs.Answers.{state, pattern, hit, OneHit, NoAnswerUnreported, NoHitLeftOut, NoHitTwice, NoGeneralization}

-- Has the term arguments?
abbrev has_arguments : Apart → Bool
has_arguments (terms.var x) = false
has_arguments (terms.app s terms.none) = false
has_arguments (terms.app s (terms.more t ts)) = true

-- a is no instance of f(Y)
not_a : Stands Instances pattern (term_entry a) → ⊥
not_a s = false≢true (sym (ap has_arguments s.1.takes))

-- and f(Y) none of a
pub no_generalization : NoGeneralization
no_generalization s = false≢true (ap has_arguments s.1.takes)

f_solves : Solves Instances pattern (term_entry f_of_x) hit.solution
f_solves = record {
  matches = record { on = (inl refl, tt); takes = refl };
  achieves = ((inl refl, tt), refl);
  each = refl;
}

f_stands : Stands Instances pattern (term_entry f_of_x)
f_stands = (hit.solution, f_solves.matches)

pub one_hit : OneHit
one_hit = inr (λ h. h, inl (f_stands, (hit.solution, [], f_solves, inr (not_a, refl), refl)))

pub counts_one : CountsStanding Instances pattern (state_entries state.clauses) 1
counts_one = inr (λ h. h, inl (f_stands, (0, inr (not_a, refl), refl)))

one_alone : (n : ℕ) → CountsStanding Instances pattern (state_entries state.clauses) n → n ≡ 1
one_alone n (inl k) = absurd k.0
one_alone n (inr k) = elim k.1 [
  | inl m ↦ elim m.1.1 [ inl o ↦ absurd (not_a o.0) | inr o ↦ m.1.2 ∙ ap (λ others. 1 + others) o.1 ]
  | inr m ↦ absurd (m.0 f_stands)
]

pub no_answer_unreported : NoAnswerUnreported
no_answer_unreported setting new (passed, nodes, answers, counts, said, stays) =
    let line = same_first (said ∙ ap (λ n. explain_line passed nodes n ∷ []) (one_alone answers counts)) in
    let front = codes "passed " ++ decimal passed ++ codes " nodes " ++ decimal nodes ++ codes " answers " in
    differ 48 49 refl (same_from_push (codes "passed 2 nodes 3 answers ") front 48 49 (line ∙ ap (λ ds. front ++ ds) (decimal_digit 1 (omega arith)))).1

none_one : (h : Hit) (hs : List Hit) → [] ≡ h ∷ hs → ⊥
none_one h hs e = cc

one_two : (h k l : Hit) (hs : List Hit) → hs ≡ [] → h ∷ k ∷ [] ≡ l ∷ hs → ⊥
one_two h k l hs n e = cc

pub none_left_out : NoHitLeftOut
none_left_out (inl k) = k.0
none_left_out (inr k) = elim k.1 [ inl m ↦ none_one _ _ m.1.4 | inr m ↦ m.0 f_stands ]

pub not_twice : NoHitTwice
not_twice (inl k) = k.0
not_twice (inr k) = elim k.1 [ inl m ↦ elim m.1.3 [ inl n ↦ not_a n.0 | inr n ↦ one_two _ _ _ _ n.1 m.1.4 ] | inr m ↦ m.0 f_stands ]
