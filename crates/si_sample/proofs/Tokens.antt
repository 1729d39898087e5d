-- Words and single marks at the front of a text: where no word goes on, no longer token stands.
use Rattle.std.proofs.Common.{◌≡◌, ℕ, ◌≤◌, Bool, true, false, not, ◌&&◌, ◌||◌, ◌==◌, [], ◌∷◌, ◌++◌, length, refl, ap, sym, ◌∙◌, subst, ◌⊎◌, inl, inr, arith}
use Rattle.std.specs.Prelude.{IsTrue}
use Rattle.std.specs.List.{list_all}
use Rattle.std.proofs.lemmas.Bool.{and_parts, or_cases, or_parts, false≢true, not-true, eq-eqb}
use Rattle.si_defs.specs.Bytes.{Bytes, is_small_letter, is_capital_letter, is_digit, is_word_byte, is_lower_word, is_upper_word, is_dollar_word, is_integer, is_decimal}
use Rattle.si_defs.specs.Tokens.{Spells, NextToken, opens_comment}
use Rattle.si_defs.specs.declared.TokenKind.{TokenKind}
use Rattle.si_defs.specs.declared.TokenKind.TheVariants.{Lower, Upper, Dollar, Int, Single, Double, NotEqual, Mark}
use Rattle.si_defs.proofs.TokenLaws.{decimal_digit, skips_nothing}

abbrev pub is_letter : ℕ → Bool
is_letter c = is_small_letter c || is_capital_letter c

-- a word before these bytes would go on in them
abbrev pub continues_word : Bytes → Bool
continues_word [] = false
continues_word (c ∷ cs) = is_word_byte c

-- a byte that begins something else than words and single marks
abbrev is_special : ℕ → Bool
is_special c = is_digit c || (c == 43 || c == 45) || (c == 36 || c == 39) || (c == 34 || c == 33)

-- a byte that begins nothing but words, or nothing but a single mark
abbrev pub is_plain : ℕ → Bool
is_plain c = not (is_special c) && not (c == 47)

-- ---- what a token is that begins with such a byte
-- after the first byte of a word stand bytes of words, and nothing after a mark
abbrev MayFollow : ℕ → Bytes → Type 0
MayFollow c o = (o ≡ []) ⊎ ((is_letter c ≡ true) × (list_all is_word_byte o ≡ true))

record IsUsual (c : ℕ) : Type 0 where
  digit : is_digit c ≡ false
  sign : (c == 43 || c == 45) ≡ false
  dollar : (c == 36) ≡ false
  single : (c == 39) ≡ false
  double : (c == 34) ≡ false
  exclamation : (c == 33) ≡ false
  slash : (c == 47) ≡ false

usual : (c : ℕ) → is_plain c ≡ true → IsUsual c
usual c h =
    let w = and_parts (not (is_special c)) (not (c == 47)) h in
    let s = not-true (is_special c) w.0 in
    let t = or_parts (is_digit c || (c == 43 || c == 45) || (c == 36 || c == 39)) (c == 34 || c == 33) s in
    let u = or_parts (is_digit c || (c == 43 || c == 45)) (c == 36 || c == 39) t.0 in
    let v = or_parts (is_digit c) (c == 43 || c == 45) u.0 in
    let x = or_parts (c == 36) (c == 39) u.1 in
    let y = or_parts (c == 34) (c == 33) t.1 in
    record { digit = v.0; sign = v.1; dollar = x.0; single = x.1; double = y.0; exclamation = y.1; slash = not-true (c == 47) w.1 }

no_integer : (c : ℕ) (o : Bytes) → IsUsual c → is_integer (c ∷ o) ≡ true → ⊥
no_integer c o p h = by (or_cases (is_decimal (c ∷ o)) ((c == 43 || c == 45) && is_decimal o) h) where
  by : (is_decimal (c ∷ o) ≡ true) ⊎ (((c == 43 || c == 45) && is_decimal o) ≡ true) → ⊥
  by (inl e) = false≢true (sym p.digit ∙ decimal_digit c o e)
  by (inr e) = false≢true (sym p.sign ∙ (and_parts (c == 43 || c == 45) (is_decimal o) e).0)

small_is : (c : ℕ) → is_small_letter c ≡ true → is_letter c ≡ true
small_is c h = rw h refl

capital_is : (c : ℕ) → is_capital_letter c ≡ true → is_letter c ≡ true
capital_is c h = by (is_small_letter c) where
  by : (b : Bool) → (b || is_capital_letter c) ≡ true
  by true = refl
  by false = h

no_dollar : (c : ℕ) (o : Bytes) → IsUsual c → IsTrue (is_dollar_word (c ∷ o)) → ⊥
no_dollar c [] p h = false≢true h
no_dollar c (d ∷ o) p h = false≢true (sym p.dollar ∙ (and_parts (c == 36) (is_lower_word (d ∷ o) || (d == 36 && is_lower_word o)) h).0)

follows : (kind : TokenKind) (text : Bytes) (c : ℕ) (o : Bytes) → IsUsual c → Spells kind text (c ∷ o) → MayFollow c o
follows Lower text c o p s =
    let w = and_parts (is_small_letter c) (list_all is_word_byte o) (subst (λ t. is_lower_word t ≡ true) (sym s.0) s.1) in
    inr (small_is c w.0, w.1)
follows Upper text c o p s =
    let w = and_parts (is_capital_letter c) (list_all is_word_byte o) (subst (λ t. is_upper_word t ≡ true) (sym s.0) s.1) in
    inr (capital_is c w.0, w.1)
follows Dollar text c o p s = absurd (no_dollar c o p (subst (λ t. is_dollar_word t ≡ true) (sym s.0) s.1))
follows Int text c o p s = absurd (no_integer c o p (subst (λ t. is_integer t ≡ true) (sym s.0) s.1))
follows Single text c o p s = let e : c ≡ 39 = let f = s.0 in cc in absurd (false≢true (sym p.single ∙ eq-eqb c 39 e))
follows Double text c o p s = let e : c ≡ 34 = let f = s.0 in cc in absurd (false≢true (sym p.double ∙ eq-eqb c 34 e))
follows NotEqual text c o p s = let e : c ≡ 33 = let f = s.0 ∙ s.1 in cc in absurd (false≢true (sym p.exclamation ∙ eq-eqb c 33 e))
follows Mark text c o p s = let e : o ≡ [] = let f = s.0 ∙ s.1.1 in cc in inl e

-- ---- the longest
-- bytes of a word go no further than to a byte that is none
word_stops : (cs rest o behind : Bytes) → continues_word rest ≡ false → cs ++ rest ≡ o ++ behind → list_all is_word_byte o ≡ true → length o ≤ length cs
word_stops cs rest [] behind h e k = omega arith
word_stops [] rest (d ∷ o) behind h e k =
    let w = and_parts (is_word_byte d) (list_all is_word_byte o) k in
    absurd (false≢true (sym h ∙ ap continues_word e ∙ w.0))
word_stops (c ∷ cs) rest (d ∷ o) behind h e k =
    let tail : cs ++ rest ≡ o ++ behind = cc in
    let m = word_stops cs rest o behind h tail (and_parts (is_word_byte d) (list_all is_word_byte o) k).1 in
    omega arith

no_longer : (c : ℕ) (cs rest : Bytes) → IsUsual c → (is_letter c && continues_word rest) ≡ false → (kind : TokenKind) (text other behind : Bytes)
    → Spells kind text other → c ∷ cs ++ rest ≡ other ++ behind → length other ≤ length (c ∷ cs)
no_longer c cs rest p n kind text [] behind s e = omega arith
no_longer c cs rest p n kind text (d ∷ o) behind s e = by (follows kind text c o p (subst (λ b. Spells kind text (b ∷ o)) same s)) where
  same : d ≡ c
  same = cc

  tail : cs ++ rest ≡ o ++ behind
  tail = cc

  by : MayFollow c o → length (d ∷ o) ≤ length (c ∷ cs)
  by (inl g) = rw g (omega arith)
  by (inr g) =
      let ends : continues_word rest ≡ false = rw g.0 at n in
      let m = word_stops cs rest o behind ends tail g.1 in
      omega arith

-- the token at the front, without blanks before it
pub next_token : (kind : TokenKind) (text : Bytes) (c : ℕ) (cs rest : Bytes) → Spells kind text (c ∷ cs) → is_plain c ≡ true → (is_letter c && continues_word rest) ≡ false
    → NextToken (c ∷ cs ++ rest) (record { kind = kind; text = text }) rest
next_token kind text c cs rest s p n = record {
  place = c ∷ cs ++ rest;
  skips = skips_nothing (c ∷ cs ++ rest);
  stands = record {
    spelling = c ∷ cs;
    spelled = s;
    front = refl;
    longest = λ k u other behind t e. no_longer c cs rest (usual c p) n k u other behind t e;
    no_comment = no_slash (usual c p).slash;
  };
} where
  no_slash : (c == 47) ≡ false → opens_comment (c ∷ cs ++ rest) ≡ false
  no_slash h = rw h refl
