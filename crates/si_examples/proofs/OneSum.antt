-- The sum of the answers to one entry.
use Rattle.std.proofs.Common.{true, [], ◌∷◌, codes, refl, inl}
use Rattle.si_defs.specs.Clauses.{Pattern, literal_pattern, Clause}
use Rattle.si_defs.specs.Entries.{pattern_entry}
use Rattle.si_defs.specs.declared.Relation.TheVariants.{Unifiable}
use Rattle.si_state.specs.Answers.{Hit, Stands, Solves}
use Rattle.si_examples.specs.Entries.{predicate, placed}
use Rattle.si_examples.specs.Samples.{kept, drawn_fact, KeptCounted}

abbrev pattern : Pattern
pattern = literal_pattern (record { positive = true; atom = predicate (codes "p") [] })

stands : Stands Unifiable pattern (pattern_entry pattern)
stands = (refl, ([], refl))

-- nothing is bound
solves : Solves Unifiable pattern (pattern_entry pattern) []
solves = (
  refl,
  record {
    triangular = tt;
    achieves = refl;
    most_general = λ s u. tt;
    known = tt;
    leaders = tt;
    followers = λ x w among leads other. elim among [ ];
    folded = tt;
    ordered = tt;
  },
)

abbrev hit_in : Clause → Hit
hit_in clause = record { clause = clause; placed = placed (pattern_entry pattern) []; solution = [] }

pub kept_counted : KeptCounted
kept_counted = (
  pattern,
  hit_in kept ∷ hit_in drawn_fact ∷ [],
  0,
  refl,
  inl (stands, ([], hit_in drawn_fact ∷ [], solves, inl (stands, ([], [], solves, refl, refl)), refl)),
  refl,
  refl,
)
