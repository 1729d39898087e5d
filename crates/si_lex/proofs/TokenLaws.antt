-- At each place there is one next token at most, and none where only blanks are left: so a text has
-- one list of tokens.
use Rattle.std.proofs.Common.{◌≡◌, List, [], ◌∷◌, ◌++◌, length, take, drop, refl, ap, ap₂, sym, ◌∙◌, subst, ◌⊎◌, inl, inr, arith}
use Rattle.std.proofs.lemmas.Bool.{false≢true, eq-eqb}
use Rattle.std.proofs.lemmas.List.{take_at, drop_at}
use Rattle.si_defs.specs.Bytes.{Bytes, is_white}
use Rattle.si_defs.specs.Tokens.{IsBlank, white, line_comment, block_comment, Skips, AreBlanks, IsLineComment, opens_comment, Spells, Token, TokenAt, NextToken, Begins, Consists}
use Rattle.si_defs.specs.Texts.{IsPlace}
use Rattle.si_lex.specs.Texts.{text_of}
use Rattle.si_lex.specs.Blanks.{NoBlankAt}
use Rattle.si_lex.proofs.BlankLaws.{skips_none, skips_further, skips_nil, line_open, place_where}
use Rattle.si_lex.proofs.SpellingLaws.{spelling_some, spelling_dark, kind_of, kind_of-spelling, text_of-spelling}

-- ---- the token at a place
-- two fronts of one list that are equally long are equal
fronts_same : (a b r s : Bytes) → a ++ r ≡ b ++ s → length a ≡ length b → (a ≡ b) × (r ≡ s)
fronts_same a b r s e l = (
  sym (take_at a r (length a) refl) ∙ ap (take (length a)) e ∙ take_at b s (length a) (sym l),
  sym (drop_at a r (length a) refl) ∙ ap (drop (length a)) e ∙ drop_at b s (length a) (sym l),
)

-- a token with its spelling is the only one with it
pub spelled_token : (t : Token) (spelling : Bytes) → Spells t.kind t.text spelling
    → t ≡ (let u : Token = record { kind = kind_of spelling; text = text_of (kind_of spelling) spelling } in u)
spelled_token t spelling s =
    let k = sym (kind_of-spelling t.kind t.text spelling s) in
    let x : t.text ≡ text_of (kind_of spelling) spelling = sym (text_of-spelling t.kind t.text spelling s) ∙ ap (λ kind. text_of kind spelling) k in
    ap₂ (λ kind text. let u : Token = record { kind = kind; text = text } in u) k x

pub token_unique : (bytes : Bytes) (t u : Token) (r s : Bytes) → TokenAt bytes t r → TokenAt bytes u s → (t ≡ u) × (r ≡ s)
token_unique bytes t u r s a b =
    let below = a.longest u.kind u.text b.spelling s b.spelled b.front in
    let above = b.longest t.kind t.text a.spelling r a.spelled a.front in
    let same = fronts_same a.spelling b.spelling r s (sym a.front ∙ b.front) (omega arith) in (
      spelled_token t a.spelling a.spelled ∙ ap (λ x. let w : Token = record { kind = kind_of x; text = text_of (kind_of x) x } in w) same.0 ∙ sym (spelled_token u b.spelling b.spelled),
      same.1,
    )

-- no blank stands where a token does
pub token_no_blank : (bytes : Bytes) (t : Token) (rest : Bytes) → TokenAt bytes t rest → NoBlankAt bytes
token_no_blank bytes t rest a blank after b e = at a.spelling a.spelled a.front b where
  at : (s : Bytes) → Spells t.kind t.text s → bytes ≡ s ++ rest → IsBlank blank → ⊥
  at [] s f b = spelling_some t.kind t.text s
  at (c ∷ o) s f (white d g h) =
      let same : c ≡ d = let k = sym f ∙ e ∙ ap (λ x. x ++ after) g in cc in
      false≢true (sym (spelling_dark t.kind t.text c o s).0 ∙ ap is_white same ∙ h)
  at (c ∷ o) s f (line_comment comment g k) =
      let same : c ≡ 37 = let l = sym f ∙ e ∙ ap (λ x. x ++ after) g ∙ ap (λ x. x ++ 10 ∷ [] ++ after) k.1 in cc in
      false≢true (sym (spelling_dark t.kind t.text c o s).1 ∙ eq-eqb c 37 same)
  at (c ∷ o) s f (block_comment k) =
      false≢true (sym a.no_comment ∙ ap opens_comment (e ∙ ap (λ x. x ++ after) k.1))

-- no token stands at the end of the bytes
pub token_some : (t : Token) (rest : Bytes) → TokenAt [] t rest → ⊥
token_some t rest a = at a.spelling a.spelled a.front where
  at : (s : Bytes) → Spells t.kind t.text s → [] ≡ s ++ rest → ⊥
  at [] s f = spelling_some t.kind t.text s
  at (c ∷ o) s f = cc

-- nor where a line comment does
pub token_no_line : (bytes : Bytes) (t : Token) (rest : Bytes) → TokenAt bytes t rest → IsLineComment bytes → ⊥
token_no_line bytes t rest a k = at a.spelling a.spelled a.front where
  at : (s : Bytes) → Spells t.kind t.text s → bytes ≡ s ++ rest → ⊥
  at [] s f = spelling_some t.kind t.text s
  at (c ∷ o) s f =
      let same : c ≡ 37 = let l = sym f ∙ k.1 in cc in
      false≢true (sym (spelling_dark t.kind t.text c o s).1 ∙ eq-eqb c 37 same)

-- ---- the next token
pub next_place : (bytes : Bytes) (t : Token) (r : Bytes) (n : NextToken bytes t r) → IsPlace bytes n.place
next_place bytes t r n = place_where bytes n.place n.skips (token_no_blank n.place t r n.stands)

pub next_unique : (bytes : Bytes) (t u : Token) (r s : Bytes) → NextToken bytes t r → NextToken bytes u s → (t ≡ u) × (r ≡ s)
next_unique bytes t u r s a b =
    let same : b.place ≡ a.place =
    sym (skips_none b.place a.place (token_no_blank b.place u s b.stands) (skips_further bytes a.place b.place a.skips (token_no_blank a.place t r a.stands) b.skips)) in
    token_unique a.place t u r s a.stands (subst (λ p. TokenAt p u s) same b.stands)

-- where only blanks are left no token stands
pub blanks_none : (bytes : Bytes) → AreBlanks bytes → (t : Token) (r : Bytes) → NextToken bytes t r → ⊥
blanks_none bytes b t r n = at b.ends where
  further : Skips b.rest n.place
  further = skips_further bytes n.place b.rest n.skips (token_no_blank n.place t r n.stands) b.skips

  at : (b.rest ≡ []) ⊎ IsLineComment b.rest → ⊥
  at (inl e) = token_some t r (subst (λ p. TokenAt p t r) (skips_nil n.place (subst (λ x. Skips x n.place) e further)) n.stands)
  at (inr k) = token_no_line b.rest t r (subst (λ p. TokenAt p t r) (skips_none b.rest n.place (line_open b.rest k) further) n.stands) k

-- ---- lists of tokens
-- the same tokens have the same bytes after them
pub begins_unique : (ts : List Token) (bytes r s : Bytes) → Begins bytes ts r → Begins bytes ts s → r ≡ s
begins_unique [] bytes r s a b = sym a ∙ b
begins_unique (t ∷ ts) bytes r s a b =
    begins_unique ts a.0 r s a.2 (subst (λ x. Begins x ts s) (next_unique bytes t t b.0 a.0 b.1 a.1).1 b.2)

-- of two lists that the bytes begin with, one begins with the other
pub begins_prefix : (ts us : List Token) (bytes r s : Bytes) → Begins bytes ts r → Begins bytes us s
    → ((more : List Token) × (ts ≡ us ++ more)) ⊎ ((more : List Token) × (us ≡ ts ++ more))
begins_prefix ts [] bytes r s a b = inl (ts, refl)
begins_prefix [] (u ∷ us) bytes r s a b = inr (u ∷ us, refl)
begins_prefix (t ∷ ts) (u ∷ us) bytes r s a b = by (begins_prefix ts us a.0 r s a.2 (subst (λ x. Begins x us s) same.1 b.2)) where
  same : (u ≡ t) × (b.0 ≡ a.0)
  same = next_unique bytes u t b.0 a.0 b.1 a.1

  by : ((more : List Token) × (ts ≡ us ++ more)) ⊎ ((more : List Token) × (us ≡ ts ++ more))
      → ((more : List Token) × (t ∷ ts ≡ u ∷ us ++ more)) ⊎ ((more : List Token) × (u ∷ us ≡ t ∷ ts ++ more))
  by (inl m) = inl (m.0, cc (same.0, m.1))
  by (inr m) = inr (m.0, cc (same.0, m.1))

-- the bytes consist of one list of tokens only
pub consists_unique : (ts us : List Token) (bytes : Bytes) → Consists bytes ts → Consists bytes us → ts ≡ us
consists_unique ts us bytes a b = walk ts us bytes a.begins b.begins where
  walk : (ts us : List Token) (from : Bytes) → Begins from ts a.rest → Begins from us b.rest → ts ≡ us
  walk [] [] from p q = refl
  walk [] (u ∷ us) from p q = absurd (blanks_none from (subst (λ x. AreBlanks x) (sym p) a.blanks) u q.0 q.1)
  walk (t ∷ ts) [] from p q = absurd (blanks_none from (subst (λ x. AreBlanks x) (sym q) b.blanks) t p.0 p.1)
  walk (t ∷ ts) (u ∷ us) from p q =
      let same = next_unique from u t q.0 p.0 q.1 p.1 in
      let rest = walk ts us p.0 p.2 (subst (λ x. Begins x us b.rest) same.1 q.2) in
      cc (same.0, rest)
