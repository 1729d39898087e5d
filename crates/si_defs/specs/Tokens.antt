-- From bytes to tokens: blanks, spellings, and the longest token at a place (TPTP's token grammar;
-- which marks there are, and that no other byte than a space to `~` stands in a quoted text, is
-- this project's profile).
use Rattle.std.specs.Prelude.{◌≡◌, ℕ, ◌≤◌, ◌⊎◌, Bool, false, ◌||◌, ◌&&◌, ◌==◌, cond, List, [], ◌∷◌, ◌++◌, length, IsTrue, IsFalse, flat_map, codes}
use Rattle.std.specs.List.{list_all, list_any, AllByRecursion, concat}
use Rattle.si_defs.specs.Bytes.{Bytes, is_white, is_printable, is_lower_word, is_upper_word, is_integer, is_dollar_word}
use Rattle.si_defs.specs.declared.TokenKind.{TokenKind}
use Rattle.si_defs.specs.declared.TokenKind.TheVariants.{Lower, Upper, Dollar, Int, Single, Double, NotEqual, Mark}

-- a token: its kind, and its text, which is its spelling but for quotes and escapes
pub record Token : Type 0 where
  pub kind : TokenKind
  pub text : Bytes

abbrev pub mark : ℕ → Token
mark c = record { kind = Mark; text = c ∷ [] }

abbrev pub lower : Bytes → Token
lower text = record { kind = Lower; text = text }

abbrev pub upper : Bytes → Token
upper text = record { kind = Upper; text = text }

-- ---- blanks
abbrev pub begins_with : ℕ → Bytes → Bool
begins_with c [] = false
begins_with c (d ∷ ds) = d == c

-- `*/` stands somewhere in the text
abbrev pub has_close : Bytes → Bool
has_close [] = false
has_close (c ∷ cs) = (c == 42 && begins_with 47 cs) || has_close cs

-- `/*` begins the text
abbrev pub opens_comment : Bytes → Bool
opens_comment [] = false
opens_comment (c ∷ cs) = c == 47 && begins_with 42 cs

-- `%` and what follows it in its line
abbrev pub IsLineComment : Bytes → Type 0
IsLineComment text = (body : Bytes) × (text ≡ 37 ∷ body) × IsFalse (list_any (λ c. c == 10) body)

-- `/*` up to the next `*/`
abbrev pub IsBlockComment : Bytes → Type 0
IsBlockComment text = (body : Bytes) × (text ≡ codes "/*" ++ body ++ codes "*/")
    × IsFalse (has_close (body ++ 42 ∷ []))

-- one byte of white space, or one comment; a line comment has its line feed with it
pub data IsBlank (text : Bytes) : Type 0 where
  white : (c : ℕ) → text ≡ c ∷ [] → IsTrue (is_white c) → IsBlank text
  line_comment : (comment : Bytes) → text ≡ comment ++ 10 ∷ [] → IsLineComment comment
      → IsBlank text
  block_comment : IsBlockComment text → IsBlank text

-- rest is what stands in the bytes after some blanks
pub record Skips (bytes rest : Bytes) : Type 0 where
  pub blanks : List Bytes
  pub each : AllByRecursion IsBlank blanks
  pub whole : bytes ≡ concat blanks ++ rest

-- the bytes are blanks up to their end, where a line comment needs no line feed
pub record AreBlanks (bytes : Bytes) : Type 0 where
  pub rest : Bytes
  pub skips : Skips bytes rest
  pub ends : (rest ≡ []) ⊎ IsLineComment rest

-- ---- tokens
abbrev pub is_mark : ℕ → Bool
is_mark c = list_any (λ m. m == c) (codes "()[],.=~|!?&<>@*+-^;/:#{}")

-- a character of a quoted text: the quote and the backslash stand after a backslash
abbrev pub escaped : ℕ → ℕ → Bytes
escaped quote c = cond (c == quote || c == 92) (92 ∷ c ∷ []) (c ∷ [])

abbrev pub quoted : ℕ → Bytes → Bytes
quoted quote text = quote ∷ flat_map (escaped quote) text ++ quote ∷ []

-- these bytes spell a token of this kind with this text
abbrev pub Spells : TokenKind → Bytes → Bytes → Type 0
Spells Lower text bytes = (bytes ≡ text) × IsTrue (is_lower_word text)
Spells Upper text bytes = (bytes ≡ text) × IsTrue (is_upper_word text)
Spells Dollar text bytes = (bytes ≡ text) × IsTrue (is_dollar_word text)
Spells Int text bytes = (bytes ≡ text) × IsTrue (is_integer text)
Spells Single text bytes = (bytes ≡ quoted 39 text) × IsTrue (list_all is_printable text)
    × (text ≡ [] → ⊥)
Spells Double text bytes = (bytes ≡ quoted 34 text) × IsTrue (list_all is_printable text)
Spells NotEqual text bytes = (bytes ≡ text) × (text ≡ codes "!=")
Spells Mark text bytes = (bytes ≡ text) × ((c : ℕ) × (text ≡ c ∷ []) × IsTrue (is_mark c))

-- The bytes begin with this token, and rest stands after it: no token at this place is longer, and
-- no comment opens here.
pub record TokenAt (bytes : Bytes) (token : Token) (rest : Bytes) : Type 0 where
  pub spelling : Bytes
  pub spelled : Spells token.kind token.text spelling
  pub front : bytes ≡ spelling ++ rest
  pub longest : (kind : TokenKind) (text other behind : Bytes) → Spells kind text other
      → bytes ≡ other ++ behind → length other ≤ length spelling
  pub no_comment : IsFalse (opens_comment bytes)

-- the token stands after some blanks
pub record NextToken (bytes : Bytes) (token : Token) (rest : Bytes) : Type 0 where
  pub place : Bytes
  pub skips : Skips bytes place
  pub stands : TokenAt place token rest

-- the bytes begin with these tokens, each after some blanks, and rest stands after the last
abbrev pub Begins : Bytes → List Token → Bytes → Type 0
Begins bytes [] rest = bytes ≡ rest
Begins bytes (token ∷ tokens) rest = (after : Bytes) × NextToken bytes token after
    × Begins after tokens rest

-- the bytes are these tokens, with blanks before, between and after them
pub record Consists (bytes : Bytes) (tokens : List Token) : Type 0 where
  pub rest : Bytes
  pub begins : Begins bytes tokens rest
  pub blanks : AreBlanks rest
