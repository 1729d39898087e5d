-- Texts by their pieces, blanks and tokens: which tokens a text consists of is computed.
use Rattle.std.proofs.Common.{◌≡◌, ℕ, Bool, true, false, not, ◌&&◌, ◌==◌, List, [], ◌∷◌, ◌++◌, codes, refl, ap₂, sym, subst, inl}
use Rattle.std.specs.Prelude.{IsTrue}
use Rattle.std.specs.List.{list_all}
use Rattle.std.proofs.lemmas.Bool.{and_parts, false≢true, not-true, eqb-true}
use Rattle.si_defs.specs.Bytes.{Bytes, is_white, is_printable, is_lower_word, is_upper_word, is_dollar_word, is_integer}
use Rattle.si_defs.specs.Tokens.{Spells, Token, TokenAt, NextToken, Skips, AreBlanks, Consists, IsBlank, white, block_comment, quoted, has_close, opens_comment, is_mark}
use Rattle.si_defs.specs.declared.TokenKind.{TokenKind}
use Rattle.si_defs.specs.declared.TokenKind.TheVariants.{Lower, Upper, Dollar, Int, Single, Double, NotEqual, Mark}
use Rattle.si_defs.proofs.TokenLaws.{skips_nothing}
use Rattle.si_lex.proofs.BlankLaws.{skips_first}
use Rattle.si_lex.proofs.ReadBackTokens.{stops, stands_where}

-- a byte of white space, a comment in `/*` with this body, or a token
pub data Piece : Type 0 where
  space : ℕ → Piece
  comment : Bytes → Piece
  token : TokenKind → Bytes → Piece

abbrev pub word : Bytes → Piece
word text = token Lower text

abbrev pub one_mark : ℕ → Piece
one_mark c = token Mark (c ∷ [])

-- ---- one token
abbrev spelling : TokenKind → Bytes → Bytes
spelling Single text = quoted 39 text
spelling Double text = quoted 34 text
spelling kind text = text

abbrev is_some : Bytes → Bool
is_some [] = false
is_some (c ∷ cs) = true

abbrev is_one_mark : Bytes → Bool
is_one_mark [] = false
is_one_mark (c ∷ []) = is_mark c
is_one_mark (c ∷ d ∷ ds) = false

abbrev is_not_equal : Bytes → Bool
is_not_equal (c ∷ d ∷ []) = c == 33 && d == 61
is_not_equal text = false

-- the text is one of a token of this kind
abbrev is_text : TokenKind → Bytes → Bool
is_text Lower text = is_lower_word text
is_text Upper text = is_upper_word text
is_text Dollar text = is_dollar_word text
is_text Int text = is_integer text
is_text Single text = list_all is_printable text && is_some text
is_text Double text = list_all is_printable text
is_text NotEqual text = is_not_equal text
is_text Mark text = is_one_mark text

some_text : (text : Bytes) → is_some text ≡ true → text ≡ [] → ⊥
some_text [] h e = false≢true h
some_text (c ∷ cs) h e = cc

spelled : (kind : TokenKind) (text : Bytes) → is_text kind text ≡ true → Spells kind text (spelling kind text)
spelled Lower text h = (refl, h)
spelled Upper text h = (refl, h)
spelled Dollar text h = (refl, h)
spelled Int text h = (refl, h)
spelled Single text h = let w = and_parts (list_all is_printable text) (is_some text) h in (refl, w.0, some_text text w.1)
spelled Double text h = (refl, h)
spelled NotEqual [] h = absurd (false≢true h)
spelled NotEqual (c ∷ []) h = absurd (false≢true h)
spelled NotEqual (c ∷ d ∷ []) h = let w = and_parts (c == 33) (d == 61) h in (refl, ap₂ (λ x y. x ∷ y ∷ []) (eqb-true c 33 w.0) (eqb-true d 61 w.1))
spelled NotEqual (c ∷ d ∷ e ∷ es) h = absurd (false≢true h)
spelled Mark [] h = absurd (false≢true h)
spelled Mark (c ∷ []) h = (refl, (c, refl, h))
spelled Mark (c ∷ d ∷ ds) h = absurd (false≢true h)

abbrev pub token_of : TokenKind → Bytes → Token
token_of kind text = record { kind = kind; text = text }

-- ---- a text
abbrev pub bytes_of : List Piece → Bytes
bytes_of [] = []
bytes_of (space c ∷ ps) = c ∷ bytes_of ps
bytes_of (comment body ∷ ps) = (codes "/*" ++ body ++ codes "*/") ++ bytes_of ps
bytes_of (token kind text ∷ ps) = spelling kind text ++ bytes_of ps

abbrev pub tokens_of : List Piece → List Token
tokens_of [] = []
tokens_of (space c ∷ ps) = tokens_of ps
tokens_of (comment body ∷ ps) = tokens_of ps
tokens_of (token kind text ∷ ps) = token_of kind text ∷ tokens_of ps

abbrev pub stands_first : TokenKind → Bytes → Bytes → Bool
stands_first kind text rest = is_text kind text && (stops kind (spelling kind text) rest && not (opens_comment (spelling kind text ++ rest)))

abbrev pub are_read : List Piece → Bool
are_read [] = true
are_read (space c ∷ ps) = is_white c && are_read ps
are_read (comment body ∷ ps) = not (has_close (body ++ 42 ∷ [])) && are_read ps
are_read (token kind text ∷ ps) = stands_first kind text (bytes_of ps) && are_read ps

-- the first token, where no blank stands before it
pub first : (kind : TokenKind) (text rest : Bytes) → IsTrue (stands_first kind text rest) → TokenAt (spelling kind text ++ rest) (token_of kind text) rest
first kind text rest h =
    let w = and_parts (is_text kind text) (stops kind (spelling kind text) rest && not (opens_comment (spelling kind text ++ rest))) h in
    let v = and_parts (stops kind (spelling kind text) rest) (not (opens_comment (spelling kind text ++ rest))) w.1 in
    stands_where kind text (spelling kind text) rest (spelled kind text w.0) v.0 (not-true (opens_comment (spelling kind text ++ rest)) v.1)

pub next : (kind : TokenKind) (text rest : Bytes) → IsTrue (stands_first kind text rest) → NextToken (spelling kind text ++ rest) (token_of kind text) rest
next kind text rest h = record {
  place = spelling kind text ++ rest;
  skips = skips_nothing (spelling kind text ++ rest);
  stands = first kind text rest h;
}

-- a blank before the tokens
behind_blank : (blank rest : Bytes) (ts : List Token) → IsBlank blank → Consists rest ts → Consists (blank ++ rest) ts
behind_blank blank rest [] b c = record {
  rest = blank ++ rest;
  begins = refl;
  blanks = record { rest = c.blanks.rest; skips = skips_first (blank ++ rest) blank rest c.blanks.rest b refl skipped; ends = c.blanks.ends };
} where
  skipped : Skips rest c.blanks.rest
  skipped = subst (λ x. Skips x c.blanks.rest) (sym c.begins) c.blanks.skips
behind_blank blank rest (t ∷ ts) b c = record {
  rest = c.rest;
  begins = (c.begins.0, record { place = n.place; skips = skips_first (blank ++ rest) blank rest n.place b refl n.skips; stands = n.stands }, c.begins.2);
  blanks = c.blanks;
} where
  n : NextToken rest t c.begins.0
  n = c.begins.1

-- nothing is blank
pub nothing : AreBlanks []
nothing = record { rest = []; skips = skips_nothing []; ends = inl refl }

-- the text consists of its tokens
pub consists : (ps : List Piece) → IsTrue (are_read ps) → Consists (bytes_of ps) (tokens_of ps)
consists [] h = record { rest = []; begins = refl; blanks = nothing }
consists (space c ∷ ps) h =
    let w = and_parts (is_white c) (are_read ps) h in
    behind_blank (c ∷ []) (bytes_of ps) (tokens_of ps) (white c refl w.0) (consists ps w.1)
consists (comment body ∷ ps) h =
    let w = and_parts (not (has_close (body ++ 42 ∷ []))) (are_read ps) h in
    behind_blank (codes "/*" ++ body ++ codes "*/") (bytes_of ps) (tokens_of ps) (block_comment (body, refl, not-true (has_close (body ++ 42 ∷ [])) w.0)) (consists ps w.1)
consists (token kind text ∷ ps) h =
    let w = and_parts (stands_first kind text (bytes_of ps)) (are_read ps) h in
    let c = consists ps w.1 in
    record { rest = c.rest; begins = (bytes_of ps, next kind text (bytes_of ps) w.0, c.begins); blanks = c.blanks }
