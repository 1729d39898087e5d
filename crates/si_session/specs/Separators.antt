-- The texts of separators. They stay closed in proofs about writing.
use Rattle.std.specs.Prelude.{[], ◌∷◌, codes}
use Rattle.si_defs.specs.Bytes.{Bytes}
use Rattle.si_session.specs.declared.separator.Separator.{Separator}
use Rattle.si_session.specs.declared.separator.Separator.TheVariants.{Space, LineFeed}

unfoldable pub separator_text : Separator → Bytes
separator_text Space = codes " "
separator_text LineFeed = 10 ∷ []
