-- The text of a token, by its spelling.
use Rattle.std.specs.Prelude.{◌-◌, Bool, true, false, not, cond, ◌&&◌, ◌==◌, [], ◌∷◌, length, take, drop}
use Rattle.si_defs.specs.Bytes.{Bytes}
use Rattle.si_defs.specs.declared.TokenKind.{TokenKind}
use Rattle.si_defs.specs.declared.TokenKind.TheVariants.{Single, Double}

-- The characters of a quoted text: a backslash goes, and the byte after it stays, whatever it is.
-- The flag says that such a backslash stands before.
abbrev pub unescaped_behind : Bool → Bytes → Bytes
unescaped_behind backslash [] = []
unescaped_behind backslash (c ∷ cs) =
    cond (not backslash && c == 92) (unescaped_behind true cs) (c ∷ unescaped_behind false cs)

abbrev pub unescaped : Bytes → Bytes
unescaped bytes = unescaped_behind false bytes

-- what stands between the first byte and the last
abbrev pub between_ends : Bytes → Bytes
between_ends bytes = take (length bytes - 2) (drop 1 bytes)

-- the text that a spelling has in a token of this kind
abbrev pub text_of : TokenKind → Bytes → Bytes
text_of Single spelling = unescaped (between_ends spelling)
text_of Double spelling = unescaped (between_ends spelling)
text_of kind spelling = spelling
