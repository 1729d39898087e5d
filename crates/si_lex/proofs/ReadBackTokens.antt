-- Which token stands at the front of a text, by its spelling and the first byte after it.
use Rattle.std.proofs.Common.{◌≡◌, ℕ, ◌≤◌, Bool, true, false, cond, not, ◌&&◌, ◌||◌, ◌==◌, [], ◌∷◌, ◌++◌, length, codes, Some, refl, ap, sym, ◌∙◌, subst, ◌⊎◌, inl, inr, arith, append_assoc, length-append}
use Rattle.std.specs.List.{list_all, flat_map}
use Rattle.std.proofs.lemmas.Bool.{and_parts, or_cases, false≢true, not-true, eqb-true, eq-eqb}
use Rattle.std.proofs.lemmas.Bool.Decides.{nat_tests}
use Rattle.si_defs.specs.Bytes.{Bytes, is_small_letter, is_capital_letter, is_digit, is_word_byte, is_between, is_lower_word, is_upper_word, is_dollar_word, is_integer, is_decimal, is_printable}
use Rattle.si_defs.specs.Tokens.{Spells, TokenAt, NextToken, is_mark, escaped, opens_comment, begins_with}
use Rattle.si_defs.specs.declared.TokenKind.{TokenKind}
use Rattle.si_defs.specs.declared.TokenKind.TheVariants.{Lower, Upper, Dollar, Int, Single, Double, NotEqual, Mark}
use Rattle.si_defs.proofs.TokenLaws.{skips_nothing}
use Rattle.si_lex.specs.Scans.{behind_quote}
use Rattle.si_lex.proofs.SpellingLaws.{of_listed, marks, leads, spelling_leads, spelling_some, kind_of, small_kind, capital_kind, kind_of-spelling}
use Rattle.si_lex.proofs.ScanLaws.{quote_found}

-- the first byte passes
abbrev pub starts : (ℕ → Bool) → Bytes → Bool
starts p [] = false
starts p (c ∷ cs) = p c

-- No token that begins with this spelling is longer, whatever else follows: a word goes on as long
-- as it can, and a quoted text ends at its quote.
abbrev pub stops : TokenKind → Bytes → Bytes → Bool
stops Int (c ∷ []) rest = c == 48 || not (starts is_digit rest)
stops Int spelling rest = not (starts is_digit rest)
stops Single spelling rest = true
stops Double spelling rest = true
stops NotEqual spelling rest = true
stops Mark (c ∷ []) rest = cond (c == 43 || c == 45) (not (starts is_digit rest)) (cond (c == 33) (not (begins_with 61 rest)) true)
stops Mark spelling rest = true
stops kind spelling rest = not (starts is_word_byte rest)

-- no token that begins the bytes is longer
abbrev IsLongest : Bytes → Bytes → Type 0
IsLongest spelling rest = (kind : TokenKind) (text other behind : Bytes) → Spells kind text other → spelling ++ rest ≡ other ++ behind → length other ≤ length spelling

-- the same, of those with the first byte
abbrev IsLongestFrom : ℕ → Bytes → Bytes → Type 0
IsLongestFrom c cs rest = (kind : TokenKind) (text o behind : Bytes) → Spells kind text (c ∷ o) → cs ++ rest ≡ o ++ behind → length o ≤ length cs

by_first : (c : ℕ) (cs rest : Bytes) → IsLongestFrom c cs rest → IsLongest (c ∷ cs) rest
by_first c cs rest l k text [] behind s e = omega arith
by_first c cs rest l k text (d ∷ o) behind s e =
    let same : d ≡ c = cc in
    let tail : cs ++ rest ≡ o ++ behind = cc in
    let m = l k text o behind (subst (λ b. Spells k text (b ∷ o)) same s) tail in
    omega arith

of_kind : (k m : TokenKind) (text bytes : Bytes) → kind_of bytes ≡ m → Spells k text bytes → Spells m text bytes
of_kind k m text bytes e s = subst (λ x. Spells x text bytes) (sym (kind_of-spelling k text bytes s) ∙ e) s

-- ---- words and integers
-- bytes that pass go no further than to one that does not
run_stops : (p : ℕ → Bool) (cs rest o behind : Bytes) → not (starts p rest) ≡ true → cs ++ rest ≡ o ++ behind → list_all p o ≡ true → length o ≤ length cs
run_stops p cs rest [] behind h e k = omega arith
run_stops p [] rest (d ∷ o) behind h e k =
    let w = and_parts (p d) (list_all p o) k in
    absurd (false≢true (sym (not-true (starts p rest) h) ∙ ap (starts p) e ∙ w.0))
run_stops p (c ∷ cs) rest (d ∷ o) behind h e k =
    let tail : cs ++ rest ≡ o ++ behind = cc in
    let m = run_stops p cs rest o behind h tail (and_parts (p d) (list_all p o) k).1 in
    omega arith

lower_longest : (c : ℕ) (cs rest : Bytes) → is_small_letter c ≡ true → not (starts is_word_byte rest) ≡ true → IsLongestFrom c cs rest
lower_longest c cs rest h n k text o behind s e =
    let t = of_kind k Lower text (c ∷ o) (small_kind c o h) s in
    let w = and_parts (is_small_letter c) (list_all is_word_byte o) (subst (λ x. is_lower_word x ≡ true) (sym t.0) t.1) in
    run_stops is_word_byte cs rest o behind n e w.1

upper_longest : (c : ℕ) (cs rest : Bytes) → is_capital_letter c ≡ true → not (starts is_word_byte rest) ≡ true → IsLongestFrom c cs rest
upper_longest c cs rest h n k text o behind s e =
    let t = of_kind k Upper text (c ∷ o) (capital_kind c o h) s in
    let w = and_parts (is_capital_letter c) (list_all is_word_byte o) (subst (λ x. is_upper_word x ≡ true) (sym t.0) t.1) in
    run_stops is_word_byte cs rest o behind n e w.1

-- the bytes of a lower word
lower_bytes : (o : Bytes) → is_lower_word o ≡ true → list_all is_word_byte o ≡ true
lower_bytes [] h = refl
lower_bytes (c ∷ o) h =
    let w = and_parts (is_small_letter c) (list_all is_word_byte o) h in
    let b : is_word_byte c ≡ true = rw w.0 refl in
    rw b w.1

-- all but the first of those after a dollar sign
dollar_bytes : (d : ℕ) (ds : Bytes) → is_dollar_word (36 ∷ d ∷ ds) ≡ true → list_all is_word_byte ds ≡ true
dollar_bytes d ds h = by (or_cases (is_lower_word (d ∷ ds)) (d == 36 && is_lower_word ds) h) where
  by : (is_lower_word (d ∷ ds) ≡ true) ⊎ ((d == 36 && is_lower_word ds) ≡ true) → list_all is_word_byte ds ≡ true
  by (inl e) = (and_parts (is_small_letter d) (list_all is_word_byte ds) e).1
  by (inr e) = lower_bytes ds (and_parts (d == 36) (is_lower_word ds) e).1

dollar_longest : (c : ℕ) (cs rest : Bytes) → not (starts is_word_byte rest) ≡ true → IsLongestFrom 36 (c ∷ cs) rest
dollar_longest c cs rest n k text [] behind s e = omega arith
dollar_longest c cs rest n k text (d ∷ ds) behind s e =
    let t = of_kind k Dollar text (36 ∷ d ∷ ds) refl s in
    let w = dollar_bytes d ds (subst (λ x. is_dollar_word x ≡ true) (sym t.0) t.1) in
    let tail : cs ++ rest ≡ ds ++ behind = cc in
    let m = run_stops is_word_byte cs rest ds behind n tail w in
    omega arith

decimal_digits : (o : Bytes) → is_decimal o ≡ true → list_all is_digit o ≡ true
decimal_digits [] h = refl
decimal_digits (c ∷ []) h = rw h refl
decimal_digits (c ∷ d ∷ o) h =
    let w = and_parts (is_between 49 57 c) (list_all is_digit (d ∷ o)) h in
    let b : is_digit c ≡ true = digit c w.0 in
    rw b w.1 where
      digit : (c : ℕ) → is_between 49 57 c ≡ true → is_digit c ≡ true
      digit c h = grind (arith, nat_tests)

-- after the first byte of an integer stand digits
integer_digits : (c d : ℕ) (ds : Bytes) → is_integer (c ∷ d ∷ ds) ≡ true → list_all is_digit (d ∷ ds) ≡ true
integer_digits c d ds h = by (or_cases (is_decimal (c ∷ d ∷ ds)) ((c == 43 || c == 45) && is_decimal (d ∷ ds)) h) where
  by : (is_decimal (c ∷ d ∷ ds) ≡ true) ⊎ (((c == 43 || c == 45) && is_decimal (d ∷ ds)) ≡ true) → list_all is_digit (d ∷ ds) ≡ true
  by (inl e) = (and_parts (is_between 49 57 c) (list_all is_digit (d ∷ ds)) e).1
  by (inr e) = decimal_digits (d ∷ ds) (and_parts (c == 43 || c == 45) (is_decimal (d ∷ ds)) e).1

integer_kind : (c d : ℕ) (ds : Bytes) → leads Int c ≡ true → kind_of (c ∷ d ∷ ds) ≡ Int
integer_kind c d ds h = rw (n.0, n.1, n.2, n.3, n.4, n.5) refl where
  n : (is_small_letter c ≡ false) × (is_capital_letter c ≡ false) × (c == 36 ≡ false) × (c == 39 ≡ false) × (c == 34 ≡ false) × (c == 33 ≡ false)
  n = (grind (arith, nat_tests), grind (arith, nat_tests), grind (arith, nat_tests), grind (arith, nat_tests), grind (arith, nat_tests), grind (arith, nat_tests))

-- where no digit follows
integer_longest : (c : ℕ) (cs rest : Bytes) → leads Int c ≡ true → not (starts is_digit rest) ≡ true → IsLongestFrom c cs rest
integer_longest c cs rest h n k text [] behind s e = omega arith
integer_longest c cs rest h n k text (d ∷ ds) behind s e =
    let t = of_kind k Int text (c ∷ d ∷ ds) (integer_kind c d ds h) s in
    run_stops is_digit cs rest (d ∷ ds) behind n e (integer_digits c d ds (subst (λ x. is_integer x ≡ true) (sym t.0) t.1))

-- after a zero an integer ends
zero_longest : (rest : Bytes) → IsLongestFrom 48 [] rest
zero_longest rest k text [] behind s e = omega arith
zero_longest rest k text (d ∷ ds) behind s e =
    let t = of_kind k Int text (48 ∷ d ∷ ds) refl s in
    absurd (false≢true (subst (λ x. is_integer x ≡ true) (sym t.0) t.1))

-- ---- quoted texts
-- what the search after the quote finds, in a quoted text with more after it
closed : (quote : ℕ) (text rest : Bytes) → (92 == quote) ≡ false → list_all is_printable text ≡ true
    → behind_quote quote false ((flat_map (escaped quote) text ++ quote ∷ []) ++ rest) ≡ Some rest
closed quote text rest q p =
    ap (behind_quote quote false) (append_assoc (flat_map (escaped quote) text) (quote ∷ []) rest) ∙ quote_found quote text rest q p

same_length : (a b r s : Bytes) → a ++ r ≡ b ++ s → r ≡ s → length b ≤ length a
same_length a b r s e f =
    let l = sym (length-append a r) ∙ ap length e ∙ length-append b s in
    let m = ap length f in
    omega arith

-- of two quoted texts at one place neither is longer
quoted_longest : (quote : ℕ) (text rest u behind : Bytes) → (92 == quote) ≡ false → list_all is_printable text ≡ true → list_all is_printable u ≡ true
    → (flat_map (escaped quote) text ++ quote ∷ []) ++ rest ≡ (flat_map (escaped quote) u ++ quote ∷ []) ++ behind
    → length (flat_map (escaped quote) u ++ quote ∷ []) ≤ length (flat_map (escaped quote) text ++ quote ∷ [])
quoted_longest quote text rest u behind q p r e =
    let f = sym (closed quote text rest q p) ∙ ap (behind_quote quote false) e ∙ closed quote u behind q r in
    let same : rest ≡ behind = cc in
    same_length (flat_map (escaped quote) text ++ quote ∷ []) (flat_map (escaped quote) u ++ quote ∷ []) rest behind e same

single_longest : (text rest : Bytes) → list_all is_printable text ≡ true → IsLongestFrom 39 (flat_map (escaped 39) text ++ 39 ∷ []) rest
single_longest text rest p k u [] behind s e = omega arith
single_longest text rest p k u (d ∷ ds) behind s e =
    let t = of_kind k Single u (39 ∷ d ∷ ds) refl s in
    let f : d ∷ ds ≡ flat_map (escaped 39) u ++ 39 ∷ [] = let g = t.0 in cc in
    subst (λ x. length x ≤ length (flat_map (escaped 39) text ++ 39 ∷ [])) (sym f) (quoted_longest 39 text rest u behind refl p t.1 (e ∙ ap (λ x. x ++ behind) f))

double_longest : (text rest : Bytes) → list_all is_printable text ≡ true → IsLongestFrom 34 (flat_map (escaped 34) text ++ 34 ∷ []) rest
double_longest text rest p k u [] behind s e = omega arith
double_longest text rest p k u (d ∷ ds) behind s e =
    let t = of_kind k Double u (34 ∷ d ∷ ds) refl s in
    let f : d ∷ ds ≡ flat_map (escaped 34) u ++ 34 ∷ [] = let g = t.0 in cc in
    subst (λ x. length x ≤ length (flat_map (escaped 34) text ++ 34 ∷ [])) (sym f) (quoted_longest 34 text rest u behind refl p t.1 (e ∙ ap (λ x. x ++ behind) f))

-- ---- marks
not_equal_longest : (rest : Bytes) → IsLongestFrom 33 (61 ∷ []) rest
not_equal_longest rest k text [] behind s e = omega arith
not_equal_longest rest k text (d ∷ ds) behind s e =
    let t = of_kind k NotEqual text (33 ∷ d ∷ ds) refl s in
    let l = ap length (t.0 ∙ t.1) in
    omega arith

-- a mark begins a longer token only as a sign, or in `!=`
mark_kind : (c d : ℕ) (ds : Bytes) (v : Bool) → is_mark c ≡ true → (c == 33) ≡ v → kind_of (c ∷ d ∷ ds) ≡ cond v NotEqual Int
mark_kind c d ds v h e = rw (n.0, n.1, n.2, n.3, n.4, e) refl where
  n : (is_small_letter c ≡ false) × (is_capital_letter c ≡ false) × (c == 36 ≡ false) × (c == 39 ≡ false) × (c == 34 ≡ false)
  n = (
    not-true _ (of_listed (λ m. not (is_small_letter m)) c marks h refl),
    not-true _ (of_listed (λ m. not (is_capital_letter m)) c marks h refl),
    not-true _ (of_listed (λ m. not (m == 36)) c marks h refl),
    not-true _ (of_listed (λ m. not (m == 39)) c marks h refl),
    not-true _ (of_listed (λ m. not (m == 34)) c marks h refl),
  )

-- an integer of several bytes that begins with a mark begins with a sign
signed : (c d : ℕ) (ds : Bytes) → is_mark c ≡ true → is_integer (c ∷ d ∷ ds) ≡ true → (c == 43 || c == 45) ≡ true
signed c d ds h i = by (or_cases (is_decimal (c ∷ d ∷ ds)) ((c == 43 || c == 45) && is_decimal (d ∷ ds)) i) where
  by : (is_decimal (c ∷ d ∷ ds) ≡ true) ⊎ (((c == 43 || c == 45) && is_decimal (d ∷ ds)) ≡ true) → (c == 43 || c == 45) ≡ true
  by (inl e) =
      let w = and_parts (is_between 49 57 c) (list_all is_digit (d ∷ ds)) e in
      absurd (false≢true (sym (not-true _ (of_listed (λ m. not (is_between 49 57 m)) c marks h refl)) ∙ w.0))
  by (inr e) = (and_parts (c == 43 || c == 45) (is_decimal (d ∷ ds)) e).0

mark_longest : (c : ℕ) (rest : Bytes) → is_mark c ≡ true → stops Mark (c ∷ []) rest ≡ true → IsLongestFrom c [] rest
mark_longest c rest h n k text [] behind s e = omega arith
mark_longest c rest h n k text (d ∷ ds) behind s e = by (c == 33) refl where
  two : (text : Bytes) → c ∷ d ∷ ds ≡ text → text ≡ codes "!=" → d ≡ 61
  two text f g = let m = f ∙ g in cc

  no_sign : (c == 33) ≡ true → (c == 43 || c == 45) ≡ false
  no_sign f = rw (eqb-true c 33 f) refl

  by : (v : Bool) → (c == 33) ≡ v → length (d ∷ ds) ≤ 0
  by true f =
      let t = of_kind k NotEqual text (c ∷ d ∷ ds) (mark_kind c d ds true h f) s in
      let m : not (begins_with 61 rest) ≡ true = rw (no_sign f, f) at n in
      absurd (false≢true (sym (not-true (begins_with 61 rest) m) ∙ ap (begins_with 61) e ∙ eq-eqb d 61 (two text t.0 t.1)))
  by false f =
      let t = of_kind k Int text (c ∷ d ∷ ds) (mark_kind c d ds false h f) s in
      let i = subst (λ x. is_integer x ≡ true) (sym t.0) t.1 in
      let m : not (starts is_digit rest) ≡ true = rw (signed c d ds h i) at n in
      let w = and_parts (is_digit d) (list_all is_digit ds) (integer_digits c d ds i) in
      absurd (false≢true (sym (not-true (starts is_digit rest) m) ∙ ap (starts is_digit) e ∙ w.0))

-- ---- all of them
each_longest : (kind : TokenKind) (text spelling rest : Bytes) → Spells kind text spelling → stops kind spelling rest ≡ true → IsLongest spelling rest
each_longest kind text [] rest s h = absurd (spelling_some kind text s)
each_longest Lower text (c ∷ cs) rest s h = by_first c cs rest (lower_longest c cs rest (spelling_leads Lower text c cs s) h)
each_longest Upper text (c ∷ cs) rest s h = by_first c cs rest (upper_longest c cs rest (spelling_leads Upper text c cs s) h)
each_longest Dollar text (c ∷ []) rest s h = absurd (false≢true (subst (λ x. is_dollar_word x ≡ true) (sym s.0) s.1))
each_longest Dollar text (c ∷ d ∷ ds) rest s h =
    let e = eqb-true c 36 (spelling_leads Dollar text c (d ∷ ds) s) in
    subst (λ x. IsLongest (x ∷ d ∷ ds) rest) (sym e) (by_first 36 (d ∷ ds) rest (dollar_longest d ds rest h))
each_longest Int text (c ∷ []) rest s h = by (or_cases (c == 48) (not (starts is_digit rest)) h) where
  by : (c == 48 ≡ true) ⊎ (not (starts is_digit rest) ≡ true) → IsLongest (c ∷ []) rest
  by (inl e) = subst (λ x. IsLongest (x ∷ []) rest) (sym (eqb-true c 48 e)) (by_first 48 [] rest (zero_longest rest))
  by (inr e) = by_first c [] rest (integer_longest c [] rest (spelling_leads Int text c [] s) e)
each_longest Int text (c ∷ d ∷ ds) rest s h = by_first c (d ∷ ds) rest (integer_longest c (d ∷ ds) rest (spelling_leads Int text c (d ∷ ds) s) h)
each_longest Single text (c ∷ cs) rest s h =
    subst (λ x. IsLongest x rest) (sym s.0) (by_first 39 (flat_map (escaped 39) text ++ 39 ∷ []) rest (single_longest text rest s.1))
each_longest Double text (c ∷ cs) rest s h =
    subst (λ x. IsLongest x rest) (sym s.0) (by_first 34 (flat_map (escaped 34) text ++ 34 ∷ []) rest (double_longest text rest s.1))
each_longest NotEqual text (c ∷ cs) rest s h = subst (λ x. IsLongest x rest) (sym (s.0 ∙ s.1)) (by_first 33 (61 ∷ []) rest (not_equal_longest rest))
each_longest Mark text (c ∷ []) rest s h = by_first c [] rest (mark_longest c rest (spelling_leads Mark text c [] s) h)
each_longest Mark text (c ∷ d ∷ ds) rest s h = let e = s.0 ∙ s.1.1 in cc

-- a token stands where its spelling stops, if no comment opens
pub stands_where : (kind : TokenKind) (text spelling rest : Bytes) → Spells kind text spelling → stops kind spelling rest ≡ true → opens_comment (spelling ++ rest) ≡ false
    → TokenAt (spelling ++ rest) (record { kind = kind; text = text }) rest
stands_where kind text spelling rest s h n = record {
  spelling = spelling;
  spelled = s;
  front = refl;
  longest = λ k u other behind t e. each_longest kind text spelling rest s h k u other behind t e;
  no_comment = n;
}

-- with no blank before it
pub next_where : (kind : TokenKind) (text spelling rest : Bytes) → Spells kind text spelling → stops kind spelling rest ≡ true → opens_comment (spelling ++ rest) ≡ false
    → NextToken (spelling ++ rest) (record { kind = kind; text = text }) rest
next_where kind text spelling rest s h n = record {
  place = spelling ++ rest;
  skips = skips_nothing (spelling ++ rest);
  stands = stands_where kind text spelling rest s h n;
}
