-- Which names a set of them holds.
use Rattle.std.specs.Prelude.{◌≡◌, ◌↔◌, Bool, true, List, bytes_eq}
use Rattle.std.specs.List.{list_any}
use Rattle.si_defs.specs.Clauses.{Name}
use Rattle.si_defs.specs.Substitutions.{IsAmong}
use Rattle.si_defs.specs.declared.NameKind.{NameKind}
use Rattle.si_defs.specs.declared.NameKind.TheVariants.{Word, Int}
use Rattle.si_harvest.specs.declared.names.NameSet.{NameSet}

-- the set has the name
abbrev pub holds : NameSet → Name → Bool
holds set name = of name.kind where
  of : NameKind → Bool
  of Word = list_any (λ k. bytes_eq name.text k.items) set.words.keys
  of Int = list_any (λ k. bytes_eq name.text k.items) set.integers.keys

-- it has these names and no others
pub record IsSetOf (names : List Name) (set : NameSet) : Type 0 where
  pub exactly : (name : Name) → (holds set name ≡ true) ↔ IsAmong names name
