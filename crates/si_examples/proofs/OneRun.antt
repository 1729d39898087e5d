-- A run of two lines.
use Rattle.std.proofs.Common.{[], ◌∷◌, true, codes, refl, inl, inr, arith}
use Rattle.std.proofs.lemmas.Fmt.{decimal_digit}
use Rattle.si_defs.specs.Bytes.{Bytes}
use Rattle.si_defs.specs.Clauses.{Literal, literal_pattern}
use Rattle.si_defs.specs.Entries.{literal_entry}
use Rattle.si_defs.specs.declared.Relation.TheVariants.{Instances}
use Rattle.si_defs.specs.Tokens.{lower, Consists}
use Rattle.si_state.specs.Answers.{Hit, IsAnswer}
use Rattle.si_steps.specs.Commands.{Means, add, query}
use Rattle.si_steps.specs.Loads.{nothing}
use Rattle.si_steps.specs.Steps.{performed, right}
use Rattle.si_examples.specs.Entries.{predicate, placed, keeping}
use Rattle.si_examples.specs.Runs.{AddedAndFound}
use Rattle.si_examples.proofs.Pieces.{space, word, consists}
use Rattle.si_examples.proofs.OneLine.{clause, added_line}

abbrev first_line : Bytes
first_line = codes "add cnf(c,axiom,p)."

abbrev second_line : Bytes
second_line = codes "instances lit p"

-- ---- the second line
second_tokens : Consists second_line (lower (codes "instances") ∷ lower (codes "lit") ∷ lower (codes "p") ∷ [])
second_tokens = consists (word (codes "instances") ∷ space 32 ∷ word (codes "lit") ∷ space 32 ∷ word (codes "p") ∷ []) refl

abbrev literal : Literal
literal = record { positive = true; atom = predicate (codes "p") [] }

asked : Means (query Instances (literal_pattern literal)) second_line
asked = record {
  tokens = lower (codes "instances") ∷ lower (codes "lit") ∷ lower (codes "p") ∷ [];
  consists = second_tokens;
  spelled = record {
    operands = lower (codes "lit") ∷ lower (codes "p") ∷ [];
    spelled = (lower (codes "p") ∷ [], (refl, refl, (lower (codes "p"), inl refl, refl)), refl);
    whole = refl;
  };
  nested = omega arith;
}

abbrev hit : Hit
hit = record { clause = clause; placed = placed (literal_entry literal) []; solution = [] }

answered : IsAnswer Instances (literal_pattern literal) ((clause, placed (literal_entry literal) []) ∷ []) (hit ∷ [])
answered =
    inl (
      (refl, ([], record { on = tt; takes = refl })),
      ([], [], (refl, record { matches = record { on = tt; takes = refl }; achieves = (tt, refl); each = refl }), refl, refl),
    )

pub added_and_found : AddedAndFound
added_and_found setting told strict w room = (
  keeping (clause ∷ []),
  (
    codes "ok 1 1" ∷ [],
    nothing,
    keeping (clause ∷ []),
    codes "c:1 {}\nend 1\n",
    nothing,
    right (performed (omega arith) (add clause) added_line
        (inr (record { free = λ h. h; agree = (tt, tt); room = room; added = refl }, rw (decimal_digit 1 (omega arith)) refl, refl)) refl),
    (λ s. refl),
    (
      codes "c:1 {}" ∷ codes "end 1" ∷ [],
      nothing,
      keeping (clause ∷ []),
      [],
      nothing,
      right (performed (omega arith) (query Instances (literal_pattern literal)) asked
          (hit ∷ [], answered, rw (decimal_digit 1 (omega arith)) refl, refl) refl),
      (λ s. refl),
      (refl, refl, refl),
      refl,
      refl,
    ),
    refl,
    refl,
  ),
)
