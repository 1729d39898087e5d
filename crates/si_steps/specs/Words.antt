-- The words that commands begin with, and their texts (this project's profile). No two have the
-- same text.
use Rattle.std.specs.Prelude.{codes}
use Rattle.si_defs.specs.Bytes.{Bytes}
use Rattle.si_defs.specs.declared.Relation.{Relation}
use Rattle.si_defs.specs.declared.Relation.TheVariants.{Variants, Instances, Generalizations, Unifiable}
use Rattle.si_steps.specs.declared.word.Word.{Word}
use Rattle.si_steps.specs.declared.word.Word.TheVariants.{Add, Load, Remove, Ask, Subsumers, Subsumed, Stats, Tree, Explain, Sample}

abbrev pub relation_text : Relation → Bytes
relation_text Variants = codes "variants"
relation_text Instances = codes "instances"
relation_text Generalizations = codes "generalizations"
relation_text Unifiable = codes "unifiable"

abbrev pub command_text : Word → Bytes
command_text Add = codes "add"
command_text Load = codes "load"
command_text Remove = codes "remove"
command_text (Ask relation) = relation_text relation
command_text Subsumers = codes "subsumers"
command_text Subsumed = codes "subsumed"
command_text Stats = codes "stats"
command_text Tree = codes "tree"
command_text Explain = codes "explain"
command_text Sample = codes "sample"
