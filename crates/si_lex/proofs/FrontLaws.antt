-- Which token stands at the front of some bytes, by the first of them.
use Rattle.std.proofs.Common.{◌≡◌, ℕ, suc, ◌+◌, ◌<◌, ◌≤◌, Bool, true, false, cond, not, ◌&&◌, ◌||◌, ◌==◌, [], ◌∷◌, ◌++◌, length, take, drop, codes, Some, None, refl, ap, sym, ◌∙◌, subst, ◌⊎◌, inl, inr, arith, one-add, append_assoc, length-append}
use Rattle.std.specs.List.{list_all, prefix_len, flat_map}
use Rattle.std.proofs.lemmas.Bool.{and_parts, and_from, or_cases, or_left, or_right, false≢true, not-true, eqb-true, eq-eqb}
use Rattle.std.proofs.lemmas.List.{take-append-drop, length-take-le}
use Rattle.std.proofs.lemmas.List.Folds.{length-prefix_len}
use Rattle.std.proofs.lemmas.Bool.Decides.{nat_tests}
use Rattle.si_defs.specs.Bytes.{Bytes, is_small_letter, is_capital_letter, is_digit, is_word_byte, is_lower_word, is_upper_word, is_dollar_word, is_integer, is_decimal, is_printable}
use Rattle.si_defs.specs.Tokens.{Spells, TokenAt, Token, is_mark, escaped, quoted, opens_comment, begins_with}
use Rattle.si_defs.specs.declared.TokenKind.{TokenKind}
use Rattle.si_defs.specs.declared.TokenKind.TheVariants.{Lower, Upper, Dollar, Int, Single, Double, NotEqual, Mark}
use Rattle.si_defs.proofs.TokenLaws.{decimal_digit}
use Rattle.si_lex.specs.Texts.{text_of}
use Rattle.si_lex.specs.Places.{NoTokenAt}
use Rattle.si_lex.specs.Scans.{decimal_len, lower_len, behind_quote}
use Rattle.si_lex.specs.Firsts.{is_lone_mark}
use Rattle.si_lex.proofs.SpellingLaws.{of_listed, leads, spelling_leads, spelling_some, kind_of, kind_of-spelling, text_of-quoted, small_kind, capital_kind}
use Rattle.si_lex.proofs.ScanLaws.{run_passes, run_longest, decimal_is, decimal_longest, decimal_within, lower_is, lower_longest, lower_within, AreCharacters, quote_found}

-- the token of this kind that is spelled so
abbrev pub token_by : TokenKind → Bytes → Token
token_by kind spelling = record { kind = kind; text = text_of kind spelling }

-- what a spelling that begins with this byte is
abbrev pub EachFrom : ℕ → Bytes → (TokenKind → Bytes → Bytes → Type 0) → Type 0
EachFrom c cs P = (kind : TokenKind) (text o behind : Bytes) → Spells kind text (c ∷ o) → cs ≡ o ++ behind → P kind text o

-- a token is the longest if no spelling with its first byte is longer
pub token_from : (kind : TokenKind) (c : ℕ) (cs o rest : Bytes) → Spells kind (text_of kind (c ∷ o)) (c ∷ o) → cs ≡ o ++ rest
    → EachFrom c cs (λ k text other. length other ≤ length o) → opens_comment (c ∷ cs) ≡ false → TokenAt (c ∷ cs) (token_by kind (c ∷ o)) rest
token_from kind c cs o rest s f l n = record {
  spelling = c ∷ o;
  spelled = s;
  front = ap (λ t. c ∷ t) f;
  longest = longest;
  no_comment = n;
} where
  longest : (k : TokenKind) (text other behind : Bytes) → Spells k text other → c ∷ cs ≡ other ++ behind → length other ≤ length (c ∷ o)
  longest k text [] behind s f = omega arith
  longest k text (d ∷ other) behind s f =
      let same : d ≡ c = cc in
      let tail : cs ≡ other ++ behind = cc in
      let m = l k text other behind (subst (λ b. Spells k text (b ∷ other)) same s) tail in
      omega arith

-- no token stands where no spelling has the first byte
pub none_from : (c : ℕ) (cs : Bytes) → EachFrom c cs (λ k text other. ⊥) → NoTokenAt (c ∷ cs)
none_from c cs l t rest a = at a.spelling a.spelled a.front where
  at : (s : Bytes) → Spells t.kind t.text s → c ∷ cs ≡ s ++ rest → ⊥
  at [] s f = spelling_some t.kind t.text s
  at (d ∷ o) s f =
      let same : d ≡ c = cc in
      let tail : cs ≡ o ++ rest = cc in
      l t.kind t.text o rest (subst (λ b. Spells t.kind t.text (b ∷ o)) same s) tail

-- ---- words
no_slash : (c : ℕ) (cs : Bytes) → (c == 47) ≡ false → opens_comment (c ∷ cs) ≡ false
no_slash c cs h = rw h refl

pub token_lower : (c : ℕ) (cs : Bytes) → is_small_letter c ≡ true
    → TokenAt (c ∷ cs) (token_by Lower (c ∷ take (prefix_len is_word_byte cs) cs)) (drop (prefix_len is_word_byte cs) cs)
token_lower c cs h =
    let n = prefix_len is_word_byte cs in
    let slash : (c == 47) ≡ false = grind (arith, nat_tests) in
    token_from Lower c cs (take n cs) (drop n cs) (refl, and_from (is_small_letter c) (list_all is_word_byte (take n cs)) h (run_passes is_word_byte cs))
    (sym (take-append-drop n cs)) longest (no_slash c cs slash) where
      longest : EachFrom c cs (λ k text o. length o ≤ length (take (prefix_len is_word_byte cs) cs))
      longest k text o behind s f =
          let same : k ≡ Lower = sym (kind_of-spelling k text (c ∷ o) s) ∙ small_kind c o h in
          let t : Spells Lower text (c ∷ o) = subst (λ x. Spells x text (c ∷ o)) same s in
          let w = and_parts (is_small_letter c) (list_all is_word_byte o) (subst (λ x. is_lower_word x ≡ true) (sym t.0) t.1) in
          let r : length o ≤ prefix_len is_word_byte cs = rw f (run_longest is_word_byte o behind w.1) in
          rw (length-prefix_len is_word_byte cs) r

pub token_upper : (c : ℕ) (cs : Bytes) → is_capital_letter c ≡ true
    → TokenAt (c ∷ cs) (token_by Upper (c ∷ take (prefix_len is_word_byte cs) cs)) (drop (prefix_len is_word_byte cs) cs)
token_upper c cs h =
    let n = prefix_len is_word_byte cs in
    let slash : (c == 47) ≡ false = grind (arith, nat_tests) in
    token_from Upper c cs (take n cs) (drop n cs) (refl, and_from (is_capital_letter c) (list_all is_word_byte (take n cs)) h (run_passes is_word_byte cs))
    (sym (take-append-drop n cs)) longest (no_slash c cs slash) where
      longest : EachFrom c cs (λ k text o. length o ≤ length (take (prefix_len is_word_byte cs) cs))
      longest k text o behind s f =
          let same : k ≡ Upper = sym (kind_of-spelling k text (c ∷ o) s) ∙ capital_kind c o h in
          let t : Spells Upper text (c ∷ o) = subst (λ x. Spells x text (c ∷ o)) same s in
          let w = and_parts (is_capital_letter c) (list_all is_word_byte o) (subst (λ x. is_upper_word x ≡ true) (sym t.0) t.1) in
          let r : length o ≤ prefix_len is_word_byte cs = rw f (run_longest is_word_byte o behind w.1) in
          rw (length-prefix_len is_word_byte cs) r

-- ---- words after dollar signs
-- a spelling that begins with a dollar sign is such a word
dollar_spelling : (k : TokenKind) (text o : Bytes) → Spells k text (36 ∷ o) → is_dollar_word (36 ∷ o) ≡ true
dollar_spelling k text o s = by o s (sym (kind_of-spelling k text (36 ∷ o) s)) where
  mark : (k : TokenKind) → Spells k text (36 ∷ []) → k ≡ Mark → is_dollar_word (36 ∷ []) ≡ true
  mark k s e = let t : Spells Mark text (36 ∷ []) = subst (λ x. Spells x text (36 ∷ [])) e s in absurd (false≢true (spelling_leads Mark text 36 [] t))

  by : (o : Bytes) → Spells k text (36 ∷ o) → k ≡ kind_of (36 ∷ o) → is_dollar_word (36 ∷ o) ≡ true
  by [] s e = mark k s e
  by (d ∷ ds) s e = let t : Spells Dollar text (36 ∷ d ∷ ds) = subst (λ x. Spells x text (36 ∷ d ∷ ds)) e s in subst (λ x. is_dollar_word x ≡ true) (sym t.0) t.1

-- after one dollar sign stands a lower word, or another dollar sign
one_dollar : (o : Bytes) → is_dollar_word (36 ∷ o) ≡ true → (is_lower_word o ≡ true) ⊎ ((ds : Bytes) × (o ≡ 36 ∷ ds) × (is_lower_word ds ≡ true))
one_dollar [] h = absurd (false≢true h)
one_dollar (d ∷ ds) h = by (or_cases (is_lower_word (d ∷ ds)) (d == 36 && is_lower_word ds) h) where
  by : (is_lower_word (d ∷ ds) ≡ true) ⊎ ((d == 36 && is_lower_word ds) ≡ true) → (is_lower_word (d ∷ ds) ≡ true) ⊎ ((es : Bytes) × (d ∷ ds ≡ 36 ∷ es) × (is_lower_word es ≡ true))
  by (inl e) = inl e
  by (inr e) = let k = and_parts (d == 36) (is_lower_word ds) e in inr (ds, ap (λ x. x ∷ ds) (eqb-true d 36 k.0), k.1)

-- no lower word begins with a dollar sign
dollar_no_lower : (o : Bytes) → is_lower_word (36 ∷ o) ≡ true → ⊥
dollar_no_lower o h = false≢true h

lower_dollar : (o : Bytes) → is_lower_word o ≡ true → is_dollar_word (36 ∷ o) ≡ true
lower_dollar [] h = absurd (false≢true h)
lower_dollar (d ∷ ds) h = or_left (is_lower_word (d ∷ ds)) (d == 36 && is_lower_word ds) h

lower_two_dollars : (o : Bytes) → is_lower_word o ≡ true → is_dollar_word (36 ∷ 36 ∷ o) ≡ true
lower_two_dollars o h = or_right (is_lower_word (36 ∷ o)) (is_lower_word o) h

pub token_dollars : (cs : Bytes) → 0 < lower_len cs → TokenAt (36 ∷ 36 ∷ cs) (token_by Dollar (36 ∷ 36 ∷ take (lower_len cs) cs)) (drop (lower_len cs) cs)
token_dollars cs l =
    let n = lower_len cs in
    token_from Dollar 36 (36 ∷ cs) (36 ∷ take n cs) (drop n cs) (refl, lower_two_dollars (take n cs) (lower_is cs l))
    (ap (λ t. 36 ∷ t) (sym (take-append-drop n cs))) longest refl where
      at : (o behind : Bytes) → 36 ∷ cs ≡ o ++ behind → (is_lower_word o ≡ true) ⊎ ((ds : Bytes) × (o ≡ 36 ∷ ds) × (is_lower_word ds ≡ true)) → length o ≤ suc (lower_len cs)
      at [] behind f w = omega arith
      at (d ∷ o) behind f (inl w) =
          let e : d ≡ 36 = cc in
          absurd (dollar_no_lower o (subst (λ x. is_lower_word (x ∷ o) ≡ true) e w))
      at (d ∷ o) behind f (inr w) =
          let e : o ≡ w.0 = let g = w.1 in cc in
          let g : cs ≡ w.0 ++ behind = let h = w.1 in cc in
          let r : length w.0 ≤ lower_len cs = rw g (lower_longest w.0 behind w.2) in
          let q = ap length e in
          omega arith

      longest : EachFrom 36 (36 ∷ cs) (λ k text o. length o ≤ length (36 ∷ take (lower_len cs) cs))
      longest k text o behind s f =
          let r = at o behind f (one_dollar o (dollar_spelling k text o s)) in
          rw (length-take-le (lower_len cs) cs (lower_within cs)) r

pub no_token_dollars : (cs : Bytes) → lower_len cs ≡ 0 → NoTokenAt (36 ∷ 36 ∷ cs)
no_token_dollars cs l = none_from 36 (36 ∷ cs) none where
  at : (o behind : Bytes) → 36 ∷ cs ≡ o ++ behind → (is_lower_word o ≡ true) ⊎ ((ds : Bytes) × (o ≡ 36 ∷ ds) × (is_lower_word ds ≡ true)) → ⊥
  at [] behind f (inl w) = false≢true w
  at [] behind f (inr w) = let g = w.1 in cc
  at (d ∷ o) behind f (inl w) = let e : d ≡ 36 = cc in dollar_no_lower o (subst (λ x. is_lower_word (x ∷ o) ≡ true) e w)
  at (d ∷ o) behind f (inr w) =
      let g : cs ≡ w.0 ++ behind = let h = w.1 in cc in
      some w.0 w.2 (rw g (lower_longest w.0 behind w.2)) where
        some : (ds : Bytes) → is_lower_word ds ≡ true → length ds ≤ lower_len cs → ⊥
        some [] w r = false≢true w
        some (e ∷ es) w r = omega arith

  none : EachFrom 36 (36 ∷ cs) (λ k text o. ⊥)
  none k text o behind s f = at o behind f (one_dollar o (dollar_spelling k text o s))

-- where no other dollar sign follows
pub token_dollar : (cs : Bytes) → begins_with 36 cs ≡ false → 0 < lower_len cs → TokenAt (36 ∷ cs) (token_by Dollar (36 ∷ take (lower_len cs) cs)) (drop (lower_len cs) cs)
token_dollar cs b l =
    let n = lower_len cs in
    token_from Dollar 36 cs (take n cs) (drop n cs) (refl, lower_dollar (take n cs) (lower_is cs l)) (sym (take-append-drop n cs)) longest refl where
      at : (o behind : Bytes) → cs ≡ o ++ behind → (is_lower_word o ≡ true) ⊎ ((ds : Bytes) × (o ≡ 36 ∷ ds) × (is_lower_word ds ≡ true)) → length o ≤ lower_len cs
      at o behind f (inl w) = rw f (lower_longest o behind w)
      at o behind f (inr w) = absurd (false≢true (sym b ∙ ap (begins_with 36) (f ∙ ap (λ x. x ++ behind) w.1)))

      longest : EachFrom 36 cs (λ k text o. length o ≤ length (take (lower_len cs) cs))
      longest k text o behind s f =
          let r = at o behind f (one_dollar o (dollar_spelling k text o s)) in
          rw (length-take-le (lower_len cs) cs (lower_within cs)) r

pub no_token_dollar : (cs : Bytes) → begins_with 36 cs ≡ false → lower_len cs ≡ 0 → NoTokenAt (36 ∷ cs)
no_token_dollar cs b l = none_from 36 cs none where
  some : (ds : Bytes) → is_lower_word ds ≡ true → length ds ≤ lower_len cs → ⊥
  some [] w r = false≢true w
  some (e ∷ es) w r = omega arith

  at : (o behind : Bytes) → cs ≡ o ++ behind → (is_lower_word o ≡ true) ⊎ ((ds : Bytes) × (o ≡ 36 ∷ ds) × (is_lower_word ds ≡ true)) → ⊥
  at o behind f (inl w) = some o w (rw f (lower_longest o behind w))
  at o behind f (inr w) = false≢true (sym b ∙ ap (begins_with 36) (f ∙ ap (λ x. x ++ behind) w.1))

  none : EachFrom 36 cs (λ k text o. ⊥)
  none k text o behind s f = at o behind f (one_dollar o (dollar_spelling k text o s))

-- ---- integers
-- a digit is no sign, and begins no longer token of another kind
digit_alone : (c : ℕ) → is_digit c ≡ true
    → (is_small_letter c ≡ false) × (is_capital_letter c ≡ false) × (c == 36 ≡ false) × (c == 39 ≡ false) × (c == 34 ≡ false) × (c == 33 ≡ false) × ((c == 43 || c == 45) ≡ false) × (c == 47 ≡ false)
digit_alone c h =
    (grind (arith, nat_tests), grind (arith, nat_tests), grind (arith, nat_tests), grind (arith, nat_tests), grind (arith, nat_tests), grind (arith, nat_tests), grind (arith, nat_tests), grind (arith, nat_tests))

-- a spelling that begins with a digit is a decimal
digit_spelling : (c : ℕ) → is_digit c ≡ true → (k : TokenKind) (text o : Bytes) → Spells k text (c ∷ o) → is_decimal (c ∷ o) ≡ true
digit_spelling c h k text [] s = h
digit_spelling c h k text (d ∷ ds) s =
    let n = digit_alone c h in
    let kind : kind_of (c ∷ d ∷ ds) ≡ Int = rw (n.0, n.1, n.2, n.3, n.4, n.5) refl in
    let t : Spells Int text (c ∷ d ∷ ds) = subst (λ x. Spells x text (c ∷ d ∷ ds)) (sym (kind_of-spelling k text (c ∷ d ∷ ds) s) ∙ kind) s in
    by (or_cases (is_decimal (c ∷ d ∷ ds)) ((c == 43 || c == 45) && is_decimal (d ∷ ds)) (subst (λ x. is_integer x ≡ true) (sym t.0) t.1)) where
      by : (is_decimal (c ∷ d ∷ ds) ≡ true) ⊎ (((c == 43 || c == 45) && is_decimal (d ∷ ds)) ≡ true) → is_decimal (c ∷ d ∷ ds) ≡ true
      by (inl e) = e
      by (inr e) = absurd (false≢true (sym (digit_alone c h).6 ∙ (and_parts (c == 43 || c == 45) (is_decimal (d ∷ ds)) e).0))

-- a digit begins a decimal
pub digit_decimal : (c : ℕ) (cs : Bytes) → is_digit c ≡ true → (n : ℕ) × (decimal_len (c ∷ cs) ≡ suc n)
digit_decimal c cs h = by (c == 48) where
  by : (v : Bool) → (n : ℕ) × (cond v 1 (cond (is_digit c) (1 + prefix_len is_digit cs) 0) ≡ suc n)
  by true = (0, refl)
  by false = (prefix_len is_digit cs, rw h (one-add (prefix_len is_digit cs)))

decimal_integer : (c : ℕ) (o : Bytes) → is_decimal (c ∷ o) ≡ true → is_integer (c ∷ o) ≡ true
decimal_integer c o h = or_left (is_decimal (c ∷ o)) ((c == 43 || c == 45) && is_decimal o) h

pub token_digit : (c : ℕ) (cs : Bytes) (n : ℕ) → is_digit c ≡ true → decimal_len (c ∷ cs) ≡ suc n
    → TokenAt (c ∷ cs) (token_by Int (c ∷ take n cs)) (drop n cs)
token_digit c cs n h e =
    let w : is_decimal (take (suc n) (c ∷ cs)) ≡ true = subst (λ m. is_decimal (take m (c ∷ cs)) ≡ true) e (decimal_is (c ∷ cs) (omega arith)) in
    token_from Int c cs (take n cs) (drop n cs) (refl, decimal_integer c (take n cs) w)
    (sym (take-append-drop n cs)) longest (no_slash c cs (digit_alone c h).7) where
      longest : EachFrom c cs (λ k text o. length o ≤ length (take n cs))
      longest k text o behind s f =
          let r : length (c ∷ o) ≤ decimal_len (c ∷ cs) = rw f (decimal_longest (c ∷ o) behind (digit_spelling c h k text o s)) in
          let w = decimal_within (c ∷ cs) in
          rw (length-take-le n cs (omega arith)) (omega arith)

-- the bytes that begin a signed integer
abbrev pub is_sign : ℕ → Bool
is_sign c = c == 43 || c == 45

sign_alone : (c : ℕ) → is_sign c ≡ true
    → (is_small_letter c ≡ false) × (is_capital_letter c ≡ false) × (c == 36 ≡ false) × (c == 39 ≡ false) × (c == 34 ≡ false) × (c == 33 ≡ false) × (is_digit c ≡ false) × (c == 47 ≡ false)
sign_alone c h =
    (grind (arith, nat_tests), grind (arith, nat_tests), grind (arith, nat_tests), grind (arith, nat_tests), grind (arith, nat_tests), grind (arith, nat_tests), grind (arith, nat_tests), grind (arith, nat_tests))

-- a spelling that begins with a sign is the sign, or a decimal stands after it
sign_spelling : (c : ℕ) → is_sign c ≡ true → (k : TokenKind) (text o : Bytes) → Spells k text (c ∷ o) → (o ≡ []) ⊎ (is_decimal o ≡ true)
sign_spelling c h k text [] s = inl refl
sign_spelling c h k text (d ∷ ds) s =
    let n = sign_alone c h in
    let kind : kind_of (c ∷ d ∷ ds) ≡ Int = rw (n.0, n.1, n.2, n.3, n.4, n.5) refl in
    let t : Spells Int text (c ∷ d ∷ ds) = subst (λ x. Spells x text (c ∷ d ∷ ds)) (sym (kind_of-spelling k text (c ∷ d ∷ ds) s) ∙ kind) s in
    by (or_cases (is_decimal (c ∷ d ∷ ds)) (is_sign c && is_decimal (d ∷ ds)) (subst (λ x. is_integer x ≡ true) (sym t.0) t.1)) where
      by : (is_decimal (c ∷ d ∷ ds) ≡ true) ⊎ ((is_sign c && is_decimal (d ∷ ds)) ≡ true) → (d ∷ ds ≡ []) ⊎ (is_decimal (d ∷ ds) ≡ true)
      by (inl e) = absurd (false≢true (sym (sign_alone c h).6 ∙ decimal_digit c (d ∷ ds) e))
      by (inr e) = inr (and_parts (is_sign c) (is_decimal (d ∷ ds)) e).1

signed_integer : (c : ℕ) (o : Bytes) → is_sign c ≡ true → is_decimal o ≡ true → is_integer (c ∷ o) ≡ true
signed_integer c o h k = or_right (is_decimal (c ∷ o)) (is_sign c && is_decimal o) (and_from (is_sign c) (is_decimal o) h k)

-- no spelling that begins with a sign is longer than the decimal after it
sign_longest : (c : ℕ) (cs : Bytes) → is_sign c ≡ true → EachFrom c cs (λ k text o. length o ≤ decimal_len cs)
sign_longest c cs h k text o behind s f = by (sign_spelling c h k text o s) where
  by : (o ≡ []) ⊎ (is_decimal o ≡ true) → length o ≤ decimal_len cs
  by (inl e) = let n = ap length e in omega arith
  by (inr e) = rw f (decimal_longest o behind e)

pub token_signed : (c : ℕ) (cs : Bytes) → is_sign c ≡ true → 0 < decimal_len cs → TokenAt (c ∷ cs) (token_by Int (c ∷ take (decimal_len cs) cs)) (drop (decimal_len cs) cs)
token_signed c cs h l =
    let n = decimal_len cs in
    token_from Int c cs (take n cs) (drop n cs) (refl, signed_integer c (take n cs) h (decimal_is cs l))
    (sym (take-append-drop n cs)) longest (no_slash c cs (sign_alone c h).7) where
      longest : EachFrom c cs (λ k text o. length o ≤ length (take (decimal_len cs) cs))
      longest k text o behind s f = rw (length-take-le (decimal_len cs) cs (decimal_within cs)) (sign_longest c cs h k text o behind s f)

-- ---- marks
-- a mark is the token where no spelling with its byte is longer
mark_from : (c : ℕ) (cs : Bytes) → is_mark c ≡ true → EachFrom c cs (λ k text o. length o ≤ 0) → opens_comment (c ∷ cs) ≡ false
    → TokenAt (c ∷ cs) (token_by Mark (c ∷ [])) cs
mark_from c cs h l n = token_from Mark c cs [] cs (refl, (c, refl, h)) refl l n

pub token_sign : (c : ℕ) (cs : Bytes) → is_sign c ≡ true → decimal_len cs ≡ 0 → TokenAt (c ∷ cs) (token_by Mark (c ∷ [])) cs
token_sign c cs h l = mark_from c cs (marked (or_cases (c == 43) (c == 45) h)) longest (no_slash c cs (sign_alone c h).7) where
  marked : (c == 43 ≡ true) ⊎ (c == 45 ≡ true) → is_mark c ≡ true
  marked (inl e) = rw (eqb-true c 43 e) refl
  marked (inr e) = rw (eqb-true c 45 e) refl

  longest : EachFrom c cs (λ k text o. length o ≤ 0)
  longest k text o behind s f = subst (λ n. length o ≤ n) l (sign_longest c cs h k text o behind s f)

-- ---- the exclamation mark
-- a spelling that begins with it is it, or `!=`
exclamation_spelling : (k : TokenKind) (text o : Bytes) → Spells k text (33 ∷ o) → (o ≡ []) ⊎ (o ≡ 61 ∷ [])
exclamation_spelling k text [] s = inl refl
exclamation_spelling k text (d ∷ ds) s =
    let t : Spells NotEqual text (33 ∷ d ∷ ds) = subst (λ x. Spells x text (33 ∷ d ∷ ds)) (sym (kind_of-spelling k text (33 ∷ d ∷ ds) s)) s in
    let e = t.0 ∙ t.1 in
    let f : d ∷ ds ≡ 61 ∷ [] = cc in
    inr f

pub token_not_equal : (cs : Bytes) → TokenAt (33 ∷ 61 ∷ cs) (token_by NotEqual (33 ∷ 61 ∷ [])) cs
token_not_equal cs = token_from NotEqual 33 (61 ∷ cs) (61 ∷ []) cs (refl, refl) refl longest refl where
  longest : EachFrom 33 (61 ∷ cs) (λ k text o. length o ≤ 1)
  longest k text o behind s f = by (exclamation_spelling k text o s) where
    by : (o ≡ []) ⊎ (o ≡ 61 ∷ []) → length o ≤ 1
    by (inl e) = let n = ap length e in omega arith
    by (inr e) = let n = ap length e in omega arith

pub token_exclamation : (cs : Bytes) → begins_with 61 cs ≡ false → TokenAt (33 ∷ cs) (token_by Mark (33 ∷ [])) cs
token_exclamation cs b = mark_from 33 cs refl longest refl where
  longest : EachFrom 33 cs (λ k text o. length o ≤ 0)
  longest k text o behind s f = by (exclamation_spelling k text o s) where
    by : (o ≡ []) ⊎ (o ≡ 61 ∷ []) → length o ≤ 0
    by (inl e) = let n = ap length e in omega arith
    by (inr e) = absurd (false≢true (sym b ∙ ap (begins_with 61) (f ∙ ap (λ x. x ++ behind) e)))

-- ---- marks that begin no other token
-- a byte that begins no integer and is no letter, quote, dollar sign or exclamation mark
abbrev pub is_lone : ℕ → Bool
is_lone c = not (is_small_letter c) && (not (is_capital_letter c) && (not (c == 36) && (not (c == 39) && (not (c == 34) && (not (c == 33) && not (leads Int c))))))

-- a spelling that begins with such a byte is the byte
lone_spelling : (c : ℕ) → is_lone c ≡ true → (k : TokenKind) (text o : Bytes) → Spells k text (c ∷ o) → o ≡ []
lone_spelling c h k text [] s = refl
lone_spelling c h k text (d ∷ ds) s =
    let p = and_parts (not (is_small_letter c)) _ h in
    let q = and_parts (not (is_capital_letter c)) _ p.1 in
    let r = and_parts (not (c == 36)) _ q.1 in
    let t = and_parts (not (c == 39)) _ r.1 in
    let u = and_parts (not (c == 34)) _ t.1 in
    let v = and_parts (not (c == 33)) _ u.1 in
    let kind : kind_of (c ∷ d ∷ ds) ≡ Int = rw (not-true _ p.0, not-true _ q.0, not-true _ r.0, not-true _ t.0, not-true _ u.0, not-true _ v.0) refl in
    let w : Spells Int text (c ∷ d ∷ ds) = subst (λ x. Spells x text (c ∷ d ∷ ds)) (sym (kind_of-spelling k text (c ∷ d ∷ ds) s) ∙ kind) s in
    absurd (false≢true (sym (not-true _ v.1) ∙ spelling_leads Int text c (d ∷ ds) w))

lone_longest : (c : ℕ) (cs : Bytes) → is_lone c ≡ true → EachFrom c cs (λ k text o. length o ≤ 0)
lone_longest c cs h k text o behind s f = let n = ap length (lone_spelling c h k text o s) in omega arith

abbrev pub lone_marks : Bytes
lone_marks = codes "()[],.=~|?&<>@*^;:#{}"

pub token_mark : (c : ℕ) (cs : Bytes) → is_lone_mark c ≡ true → TokenAt (c ∷ cs) (token_by Mark (c ∷ [])) cs
token_mark c cs h =
    mark_from c cs (of_listed is_mark c lone_marks h refl) (lone_longest c cs (of_listed is_lone c lone_marks h refl))
    (no_slash c cs (not-true _ (of_listed (λ m. not (m == 47)) c lone_marks h refl)))

pub token_slash : (cs : Bytes) → begins_with 42 cs ≡ false → TokenAt (47 ∷ cs) (token_by Mark (47 ∷ [])) cs
token_slash cs b = mark_from 47 cs refl (lone_longest 47 cs refl) b

pub no_token_comment : (bytes : Bytes) → opens_comment bytes ≡ true → NoTokenAt bytes
no_token_comment bytes o t rest a = false≢true (sym a.no_comment ∙ o)

-- ---- quoted texts
-- a spelling that begins with a quote is that quote's
single_spelling : (k : TokenKind) (text o : Bytes) → Spells k text (39 ∷ o) → Spells Single text (39 ∷ o)
single_spelling k text o s = by o s (sym (kind_of-spelling k text (39 ∷ o) s)) where
  by : (o : Bytes) → Spells k text (39 ∷ o) → k ≡ kind_of (39 ∷ o) → Spells Single text (39 ∷ o)
  by [] s e = let t : Spells Mark text (39 ∷ []) = subst (λ x. Spells x text (39 ∷ [])) e s in absurd (false≢true (spelling_leads Mark text 39 [] t))
  by (d ∷ ds) s e = subst (λ x. Spells x text (39 ∷ d ∷ ds)) e s

double_spelling : (k : TokenKind) (text o : Bytes) → Spells k text (34 ∷ o) → Spells Double text (34 ∷ o)
double_spelling k text o s = by o s (sym (kind_of-spelling k text (34 ∷ o) s)) where
  by : (o : Bytes) → Spells k text (34 ∷ o) → k ≡ kind_of (34 ∷ o) → Spells Double text (34 ∷ o)
  by [] s e = let t : Spells Mark text (34 ∷ []) = subst (λ x. Spells x text (34 ∷ [])) e s in absurd (false≢true (spelling_leads Mark text 34 [] t))
  by (d ∷ ds) s e = subst (λ x. Spells x text (34 ∷ d ∷ ds)) e s

-- what stands after a quoted text is what the search finds
quoted_rest : (quote : ℕ) (cs text o behind : Bytes) → (92 == quote) ≡ false → quote ∷ o ≡ quoted quote text → list_all is_printable text ≡ true → cs ≡ o ++ behind
    → behind_quote quote false cs ≡ Some behind
quoted_rest quote cs text o behind q s p f =
    let e : o ≡ flat_map (escaped quote) text ++ quote ∷ [] = cc in
    let g : cs ≡ flat_map (escaped quote) text ++ quote ∷ behind = f ∙ ap (λ x. x ++ behind) e ∙ append_assoc (flat_map (escaped quote) text) (quote ∷ []) behind in
    ap (behind_quote quote false) g ∙ quote_found quote text behind q p

-- the longest spelling is the one up to what the search finds
quoted_longest : (cs o behind other rest : Bytes) → cs ≡ other ++ rest → cs ≡ o ++ behind → behind ≡ rest → length o ≤ length other
quoted_longest cs o behind other rest f g e =
    let l = ap length f ∙ length-append other rest in
    let m = ap length g ∙ length-append o behind in
    let n = ap length e in
    omega arith

-- some characters and the quote after them
abbrev pub closed_text : ℕ → Bytes → Bytes
closed_text quote text = flat_map (escaped quote) text ++ quote ∷ []

pub closed_front : (quote : ℕ) (cs rest : Bytes) (a : AreCharacters quote cs rest) → cs ≡ closed_text quote a.0 ++ rest
closed_front quote cs rest a = a.2 ∙ sym (append_assoc (flat_map (escaped quote) a.0) (quote ∷ []) rest)

pub token_single : (cs rest : Bytes) (a : AreCharacters 39 cs rest) → behind_quote 39 false cs ≡ Some rest → (a.0 ≡ [] → ⊥)
    → TokenAt (39 ∷ cs) (token_by Single (39 ∷ closed_text 39 a.0)) rest
token_single cs rest a e some =
    token_from Single 39 cs (closed_text 39 a.0) rest (spelled (text_of-quoted 39 a.0)) (closed_front 39 cs rest a) longest refl where
      spelled : text_of Single (39 ∷ closed_text 39 a.0) ≡ a.0 → Spells Single (text_of Single (39 ∷ closed_text 39 a.0)) (39 ∷ closed_text 39 a.0)
      spelled t = subst (λ x. Spells Single x (39 ∷ closed_text 39 a.0)) (sym t) (refl, a.1, some)

      longest : EachFrom 39 cs (λ k text o. length o ≤ length (closed_text 39 a.0))
      longest k text o behind s f =
          let t = single_spelling k text o s in
          let g = quoted_rest 39 cs text o behind refl t.0 t.1 f in
          let same : behind ≡ rest = cc (e, g) in
          quoted_longest cs o behind (closed_text 39 a.0) rest (closed_front 39 cs rest a) f same

pub token_double : (cs rest : Bytes) (a : AreCharacters 34 cs rest) → behind_quote 34 false cs ≡ Some rest
    → TokenAt (34 ∷ cs) (token_by Double (34 ∷ closed_text 34 a.0)) rest
token_double cs rest a e =
    token_from Double 34 cs (closed_text 34 a.0) rest (spelled (text_of-quoted 34 a.0)) (closed_front 34 cs rest a) longest refl where
      spelled : text_of Double (34 ∷ closed_text 34 a.0) ≡ a.0 → Spells Double (text_of Double (34 ∷ closed_text 34 a.0)) (34 ∷ closed_text 34 a.0)
      spelled t = subst (λ x. Spells Double x (34 ∷ closed_text 34 a.0)) (sym t) (refl, a.1)

      longest : EachFrom 34 cs (λ k text o. length o ≤ length (closed_text 34 a.0))
      longest k text o behind s f =
          let t = double_spelling k text o s in
          let g = quoted_rest 34 cs text o behind refl t.0 t.1 f in
          let same : behind ≡ rest = cc (e, g) in
          quoted_longest cs o behind (closed_text 34 a.0) rest (closed_front 34 cs rest a) f same

-- no quoted text where the search finds no quote
pub no_token_single : (cs : Bytes) → behind_quote 39 false cs ≡ None → NoTokenAt (39 ∷ cs)
no_token_single cs e = none_from 39 cs none where
  none : EachFrom 39 cs (λ k text o. ⊥)
  none k text o behind s f =
      let t = single_spelling k text o s in
      let g = quoted_rest 39 cs text o behind refl t.0 t.1 f in
      cc (e, g)

pub no_token_double : (cs : Bytes) → behind_quote 34 false cs ≡ None → NoTokenAt (34 ∷ cs)
no_token_double cs e = none_from 34 cs none where
  none : EachFrom 34 cs (λ k text o. ⊥)
  none k text o behind s f =
      let t = double_spelling k text o s in
      let g = quoted_rest 34 cs text o behind refl t.0 t.1 f in
      cc (e, g)

-- nothing in single quotes is no token
pub no_token_empty : (cs : Bytes) → NoTokenAt (39 ∷ 39 ∷ cs)
no_token_empty cs = none_from 39 (39 ∷ cs) none where
  empty : (text : Bytes) → (text ≡ [] → ⊥) → (o behind : Bytes)
      → 39 ∷ o ≡ quoted 39 text → 39 ∷ cs ≡ o ++ behind → ⊥
  empty [] n o behind s f = n refl
  empty (c ∷ text) n o behind s f = by (c == 39 || c == 92) refl s where
    by : (v : Bool) → (c == 39 || c == 92) ≡ v → 39 ∷ o ≡ 39 ∷ (cond v (92 ∷ c ∷ []) (c ∷ []) ++ flat_map (escaped 39) text ++ 39 ∷ []) → ⊥
    by true e g = let k : o ≡ 92 ∷ c ∷ (flat_map (escaped 39) text ++ 39 ∷ []) = cc in let m = f ∙ ap (λ x. x ++ behind) k in first_differs m where
      first_differs : 39 ∷ cs ≡ 92 ∷ c ∷ (flat_map (escaped 39) text ++ 39 ∷ []) ++ behind → ⊥
      first_differs m = false≢true (ap (begins_with 92) m)
    by false e g =
        let k : o ≡ c ∷ (flat_map (escaped 39) text ++ 39 ∷ []) = cc in
        let m = f ∙ ap (λ x. x ++ behind) k in
        let same : c ≡ 39 = cc in
        false≢true (sym e ∙ or_left (c == 39) (c == 92) (eq-eqb c 39 same))

  none : EachFrom 39 (39 ∷ cs) (λ k text o. ⊥)
  none k text o behind s f =
      let t = single_spelling k text o s in
      empty text t.2 o behind t.0 f

-- ---- no token
-- the other bytes begin no token
abbrev pub is_other : ℕ → Bool
is_other c = is_lone c && not (is_mark c)

pub no_token_other : (c : ℕ) (cs : Bytes) → is_other c ≡ true → NoTokenAt (c ∷ cs)
no_token_other c cs h = none_from c cs none where
  none : EachFrom c cs (λ k text o. ⊥)
  none k text o behind s f =
      let p = and_parts (is_lone c) (not (is_mark c)) h in
      let e = lone_spelling c p.0 k text o s in
      alone (subst (λ x. Spells k text (c ∷ x)) e s) (kind_alone p.0) p where
        kind_alone : is_lone c ≡ true → kind_of (c ∷ []) ≡ Mark
        kind_alone l = grind (arith, nat_tests)

        alone : Spells k text (c ∷ []) → kind_of (c ∷ []) ≡ Mark → (is_lone c ≡ true) × (not (is_mark c) ≡ true) → ⊥
        alone s e p =
            let t : Spells Mark text (c ∷ []) = subst (λ x. Spells x text (c ∷ [])) (sym (kind_of-spelling k text (c ∷ []) s) ∙ e) s in
            false≢true (sym (not-true (is_mark c) p.1) ∙ spelling_leads Mark text c [] t)
