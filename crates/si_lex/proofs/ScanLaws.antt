-- What the loops over bytes find, as the definitions say it.
use Rattle.std.proofs.Common.{◌≡◌, ℕ, suc, ◌+◌, ◌<◌, ◌≤◌, Bool, true, false, cond, not, ◌&&◌, ◌||◌, ◌==◌, Some, None, [], ◌∷◌, ◌++◌, length, take, drop, refl, ap, sym, ◌∙◌, subst, inl, inr, arith, one-add}
use Rattle.std.specs.List.{list_all, list_any, prefix_len, flat_map}
use Rattle.std.proofs.lemmas.Bool.{and_parts, and_from, or_cases, or_parts, or_from, false≢true, eqb-true, eq-eqb}
use Rattle.std.proofs.lemmas.Bool.Decides.{nat_tests}
use Rattle.si_defs.specs.Bytes.{Bytes, is_small_letter, is_digit, is_word_byte, is_between, is_decimal, is_lower_word, is_printable}
use Rattle.si_defs.specs.Tokens.{has_close, begins_with, escaped}
use Rattle.si_lex.specs.Texts.{unescaped}
use Rattle.si_lex.specs.Scans.{is_in_line, before_close, decimal_len, lower_len, behind_quote}

-- ---- runs
-- a run is a front of its length
pub run_passes : (p : ℕ → Bool) (xs : Bytes) → list_all p (take (prefix_len p xs) xs) ≡ true
run_passes p [] = refl
run_passes p (x ∷ xs) = step (run_passes p xs) (p x) refl where
  step : list_all p (take (prefix_len p xs) xs) ≡ true → (v : Bool) → p x ≡ v → list_all p (take (cond v (1 + prefix_len p xs) 0) (x ∷ xs)) ≡ true
  step r true e = rw (one-add, e) r
  step r false e = refl

-- no front that passes is longer
pub run_longest : (p : ℕ → Bool) (o b : Bytes) → list_all p o ≡ true → length o ≤ prefix_len p (o ++ b)
run_longest p [] b h = omega arith
run_longest p (x ∷ o) b h =
    let k = and_parts (p x) (list_all p o) h in
    let r = run_longest p o b k.1 in
    rw k.0 (omega arith)

-- a run is no longer than the list
pub run_within : (p : ℕ → Bool) (xs : Bytes) → prefix_len p xs ≤ length xs
run_within p [] = omega arith
run_within p (x ∷ xs) =
    let h = run_within p xs in
    elim (p x) as (λ v. cond v (1 + prefix_len p xs) 0 ≤ length (x ∷ xs)) [ true ↦ omega arith | false ↦ omega arith ]

-- ---- lines
pub line_has_no_feed : (cs : Bytes) → list_any (λ c. c == 10) (take (prefix_len is_in_line cs) cs) ≡ false
line_has_no_feed [] = refl
line_has_no_feed (c ∷ cs) = step (line_has_no_feed cs) (c == 10) refl where
  step : list_any (λ d. d == 10) (take (prefix_len is_in_line cs) cs) ≡ false → (v : Bool) → (c == 10) ≡ v
      → list_any (λ d. d == 10) (take (cond (not v) (1 + prefix_len is_in_line cs) 0) (c ∷ cs)) ≡ false
  step r true e = refl
  step r false e = rw (one-add, e) r

pub line_feed_behind : (cs : Bytes) → prefix_len is_in_line cs < length cs → cs ≡ take (prefix_len is_in_line cs) cs ++ 10 ∷ drop (suc (prefix_len is_in_line cs)) cs
line_feed_behind [] l = absurd (omega arith)
line_feed_behind (c ∷ cs) l = step (line_feed_behind cs) (c == 10) refl l where
  step : (prefix_len is_in_line cs < length cs → cs ≡ take (prefix_len is_in_line cs) cs ++ 10 ∷ drop (suc (prefix_len is_in_line cs)) cs) → (v : Bool) → (c == 10) ≡ v
      → cond (not v) (1 + prefix_len is_in_line cs) 0 < length (c ∷ cs)
      → c ∷ cs ≡ take (cond (not v) (1 + prefix_len is_in_line cs) 0) (c ∷ cs) ++ 10 ∷ drop (suc (cond (not v) (1 + prefix_len is_in_line cs) 0)) (c ∷ cs)
  step r true e l = ap (λ d. d ∷ cs) (eqb-true c 10 e)
  step r false e l = rw one-add (ap (λ ds. c ∷ ds) (r (omega arith)))

-- ---- closed comments
pub comment_not_closed : (cs : Bytes) → has_close (take (before_close cs) cs ++ 42 ∷ []) ≡ false
comment_not_closed [] = refl
comment_not_closed (c ∷ cs) = step (comment_not_closed cs) (c == 42 && begins_with 47 cs) refl where
  first : (ds : Bytes) → begins_with 47 ds ≡ false → begins_with 47 (take (before_close ds) ds ++ 42 ∷ []) ≡ false
  first [] h = refl
  first (d ∷ ds) h = by (d == 42 && begins_with 47 ds) where
    by : (v : Bool) → begins_with 47 (take (cond v 0 (1 + before_close ds)) (d ∷ ds) ++ 42 ∷ []) ≡ false
    by true = refl
    by false = rw one-add h

  test : (a b d : Bool) → (b ≡ false → d ≡ false) → (a && b) ≡ false → (a && d) ≡ false
  test true b d k h = k h
  test false b d k h = refl

  step : has_close (take (before_close cs) cs ++ 42 ∷ []) ≡ false → (v : Bool) → (c == 42 && begins_with 47 cs) ≡ v
      → has_close (take (cond v 0 (1 + before_close cs)) (c ∷ cs) ++ 42 ∷ []) ≡ false
  step r true e = refl
  step r false e =
      rw one-add (or_from (c == 42 && begins_with 47 (take (before_close cs) cs ++ 42 ∷ [])) (has_close (take (before_close cs) cs ++ 42 ∷ []))
      (test (c == 42) (begins_with 47 cs) (begins_with 47 (take (before_close cs) cs ++ 42 ∷ [])) (first cs) e) r)

pub close_behind : (cs : Bytes) → before_close cs < length cs → cs ≡ take (before_close cs) cs ++ 42 ∷ 47 ∷ drop (suc (suc (before_close cs))) cs
close_behind [] l = absurd (omega arith)
close_behind (c ∷ cs) l = step (close_behind cs) (c == 42 && begins_with 47 cs) refl l where
  here : (ds : Bytes) → begins_with 47 ds ≡ true → ds ≡ 47 ∷ drop 1 ds
  here [] h = absurd (false≢true h)
  here (d ∷ ds) h = ap (λ e. e ∷ ds) (eqb-true d 47 h)

  step : (before_close cs < length cs → cs ≡ take (before_close cs) cs ++ 42 ∷ 47 ∷ drop (suc (suc (before_close cs))) cs) → (v : Bool) → (c == 42 && begins_with 47 cs) ≡ v
      → cond v 0 (1 + before_close cs) < length (c ∷ cs)
      → c ∷ cs ≡ take (cond v 0 (1 + before_close cs)) (c ∷ cs) ++ 42 ∷ 47 ∷ drop (suc (suc (cond v 0 (1 + before_close cs)))) (c ∷ cs)
  step r true e l =
      let k = and_parts (c == 42) (begins_with 47 cs) e in
      ap (λ d. d ∷ cs) (eqb-true c 42 k.0) ∙ ap (λ ds. 42 ∷ ds) (here cs k.1)
  step r false e l =
      subst (λ m. c ∷ cs ≡ take m (c ∷ cs) ++ 42 ∷ 47 ∷ drop (suc (suc m)) (c ∷ cs)) (sym (one-add (before_close cs))) (ap (λ ds. c ∷ ds) (r (omega arith)))

-- where a `*/` stands the search finds one
pub close_found : (body rest : Bytes) → before_close (body ++ 42 ∷ 47 ∷ rest) < length (body ++ 42 ∷ 47 ∷ rest)
close_found [] rest = omega arith
close_found (c ∷ body) rest =
    let r = close_found body rest in
    elim (c == 42 && begins_with 47 (body ++ 42 ∷ 47 ∷ rest)) as (λ v. cond v 0 (1 + before_close (body ++ 42 ∷ 47 ∷ rest)) < length (c ∷ body ++ 42 ∷ 47 ∷ rest))
    [ true ↦ omega arith | false ↦ omega arith ]

-- ---- decimals
zero_alone : (c : ℕ) → (c == 48) ≡ false → is_digit c ≡ true → is_between 49 57 c ≡ true
zero_alone c e h = grind (arith, nat_tests)

not_zero : (c : ℕ) → is_between 49 57 c ≡ true → ((c == 48) ≡ false) × (is_digit c ≡ true)
not_zero c h = (grind (arith, nat_tests), grind (arith, nat_tests))

pub decimal_is : (cs : Bytes) → 0 < decimal_len cs → is_decimal (take (decimal_len cs) cs) ≡ true
decimal_is [] l = absurd (omega arith)
decimal_is (c ∷ cs) l = by (c == 48) refl l where
  digits : (c == 48) ≡ false → is_digit c ≡ true → (ds : Bytes) → list_all is_digit ds ≡ true → is_decimal (c ∷ ds) ≡ true
  digits e h [] k = h
  digits e h (d ∷ ds) k = and_from (is_between 49 57 c) (list_all is_digit (d ∷ ds)) (zero_alone c e h) k

  other : (w : Bool) → is_digit c ≡ w → (c == 48) ≡ false → 0 < cond w (1 + prefix_len is_digit cs) 0 → is_decimal (take (cond w (1 + prefix_len is_digit cs) 0) (c ∷ cs)) ≡ true
  other true h e l = rw one-add (digits e h (take (prefix_len is_digit cs) cs) (run_passes is_digit cs))
  other false h e l = absurd (omega arith)

  by : (v : Bool) → (c == 48) ≡ v → 0 < cond v 1 (cond (is_digit c) (1 + prefix_len is_digit cs) 0)
      → is_decimal (take (cond v 1 (cond (is_digit c) (1 + prefix_len is_digit cs) 0)) (c ∷ cs)) ≡ true
  by true e l = rw (eqb-true c 48 e) refl
  by false e l = other (is_digit c) refl e l

pub decimal_longest : (o b : Bytes) → is_decimal o ≡ true → length o ≤ decimal_len (o ++ b)
decimal_longest [] b h = omega arith
decimal_longest (c ∷ []) b h =
    elim (c == 48) as (λ v. 1 ≤ cond v 1 (cond (is_digit c) (1 + prefix_len is_digit b) 0)) [ true ↦ omega arith | false ↦ rw h (omega arith) ]
decimal_longest (c ∷ d ∷ ds) b h =
    let k = and_parts (is_between 49 57 c) (list_all is_digit (d ∷ ds)) h in
    let n = not_zero c k.0 in
    let r = run_longest is_digit (d ∷ ds) b k.1 in
    rw (n.0, n.1) (omega arith)

pub decimal_within : (cs : Bytes) → decimal_len cs ≤ length cs
decimal_within [] = omega arith
decimal_within (c ∷ cs) =
    let r = run_within is_digit cs in
    elim (c == 48) as (λ v. cond v 1 (cond (is_digit c) (1 + prefix_len is_digit cs) 0) ≤ length (c ∷ cs)) [
      | true ↦ omega arith
      | false ↦ elim (is_digit c) as (λ v. cond v (1 + prefix_len is_digit cs) 0 ≤ length (c ∷ cs)) [ true ↦ omega arith | false ↦ omega arith ]
    ]

-- ---- lower words
pub lower_is : (cs : Bytes) → 0 < lower_len cs → is_lower_word (take (lower_len cs) cs) ≡ true
lower_is [] l = absurd (omega arith)
lower_is (c ∷ cs) l = by (is_small_letter c) refl l where
  by : (v : Bool) → is_small_letter c ≡ v → 0 < cond v (1 + prefix_len is_word_byte cs) 0 → is_lower_word (take (cond v (1 + prefix_len is_word_byte cs) 0) (c ∷ cs)) ≡ true
  by true h l = rw (one-add, h) (run_passes is_word_byte cs)
  by false h l = absurd (omega arith)

pub lower_longest : (o b : Bytes) → is_lower_word o ≡ true → length o ≤ lower_len (o ++ b)
lower_longest [] b h = omega arith
lower_longest (c ∷ o) b h =
    let k = and_parts (is_small_letter c) (list_all is_word_byte o) h in
    let r = run_longest is_word_byte o b k.1 in
    rw k.0 (omega arith)

pub lower_within : (cs : Bytes) → lower_len cs ≤ length cs
lower_within [] = omega arith
lower_within (c ∷ cs) =
    let r = run_within is_word_byte cs in
    elim (is_small_letter c) as (λ v. cond v (1 + prefix_len is_word_byte cs) 0 ≤ length (c ∷ cs)) [ true ↦ omega arith | false ↦ omega arith ]

-- ---- quoted texts
-- the search finds the quote after the characters
pub quote_found : (quote : ℕ) (text rest : Bytes) → (92 == quote) ≡ false → list_all is_printable text ≡ true
    → behind_quote quote false (flat_map (escaped quote) text ++ quote ∷ rest) ≡ Some rest
quote_found quote [] rest q h = rw (eq-eqb quote quote refl) refl
quote_found quote (c ∷ cs) rest q h =
    let k = and_parts (is_printable c) (list_all is_printable cs) h in
    step (flat_map (escaped quote) cs) (quote_found quote cs rest q k.1) k.0 (c == quote || c == 92) refl where
      step : (more : Bytes) → behind_quote quote false (more ++ quote ∷ rest) ≡ Some rest → is_printable c ≡ true → (v : Bool) → (c == quote || c == 92) ≡ v
          → behind_quote quote false (cond v (92 ∷ c ∷ []) (c ∷ []) ++ more ++ quote ∷ rest) ≡ Some rest
      step more r k true e = rw (q, e) r
      step more r k false e = let n = or_parts (c == quote) (c == 92) e in rw (n.0, n.1, k) r

-- bytes after a backslash, if one stands before
abbrev with_backslash : Bool → Bytes → Bytes
with_backslash true bytes = 92 ∷ bytes
with_backslash false bytes = bytes

-- some characters up to the quote
abbrev pub AreCharacters : ℕ → Bytes → Bytes → Type 0
AreCharacters quote bytes rest = (text : Bytes) × (list_all is_printable text ≡ true) × (bytes ≡ flat_map (escaped quote) text ++ quote ∷ rest)

-- a byte that stands after a backslash is a character
escaped_printable : (quote c : ℕ) → is_printable quote ≡ true → (c == quote || c == 92) ≡ true → is_printable c ≡ true
escaped_printable quote c q e =
    elim (or_cases (c == quote) (c == 92) e) [ inl h ↦ rw (eqb-true c quote h) q | inr h ↦ rw (eqb-true c 92 h) refl ]

-- and only characters stand before the quote that is found
characters : (quote : ℕ) → is_printable quote ≡ true → (bytes rest : Bytes) (backslash : Bool) → behind_quote quote backslash bytes ≡ Some rest
    → AreCharacters quote (with_backslash backslash bytes) rest
characters quote q [] rest backslash e = absurd (let n : None ≡ Some rest = e in cc)
characters quote q (c ∷ cs) rest true e = by (λ f. characters quote q cs rest false f) (c == quote || c == 92) refl e where
  by : (behind_quote quote false cs ≡ Some rest → AreCharacters quote cs rest) → (v : Bool) → (c == quote || c == 92) ≡ v
      → cond v (behind_quote quote false cs) None ≡ Some rest → AreCharacters quote (92 ∷ c ∷ cs) rest
  by r true h e =
      let s = r e in
      (c ∷ s.0, and_from (is_printable c) (list_all is_printable s.0) (escaped_printable quote c q h) s.1, rw h (ap (λ t. 92 ∷ c ∷ t) s.2))
  by r false h e = absurd (let n : None ≡ Some rest = e in cc)
characters quote q (c ∷ cs) rest false e = by (λ f. characters quote q cs rest true f) (λ f. characters quote q cs rest false f) (c == quote) refl e where
  other : (behind_quote quote true cs ≡ Some rest → AreCharacters quote (92 ∷ cs) rest) → (behind_quote quote false cs ≡ Some rest → AreCharacters quote cs rest)
      → (w x : Bool) → (c == quote) ≡ false → (c == 92) ≡ w → is_printable c ≡ x
      → cond w (behind_quote quote true cs) (cond x (behind_quote quote false cs) None) ≡ Some rest → AreCharacters quote (c ∷ cs) rest
  other r s true x n h k e = let t = r e in (t.0, t.1, ap (λ d. d ∷ cs) (eqb-true c 92 h) ∙ t.2)
  other r s false true n h k e =
      let t = s e in
      (c ∷ t.0, and_from (is_printable c) (list_all is_printable t.0) k t.1, rw (n, h) (ap (λ u. c ∷ u) t.2))
  other r s false false n h k e = absurd (let m : None ≡ Some rest = e in cc)

  by : (behind_quote quote true cs ≡ Some rest → AreCharacters quote (92 ∷ cs) rest) → (behind_quote quote false cs ≡ Some rest → AreCharacters quote cs rest)
      → (v : Bool) → (c == quote) ≡ v → cond v (Some cs) (cond (c == 92) (behind_quote quote true cs) (cond (is_printable c) (behind_quote quote false cs) None)) ≡ Some rest
      → AreCharacters quote (c ∷ cs) rest
  by r s true h e = let f : cs ≡ rest = cc in ([], refl, ap (λ d. d ∷ cs) (eqb-true c quote h) ∙ ap (λ ds. quote ∷ ds) f)
  by r s false h e = other r s (c == 92) (is_printable c) h refl refl e

pub quote_text : (quote : ℕ) → is_printable quote ≡ true → (bytes rest : Bytes) → behind_quote quote false bytes ≡ Some rest → AreCharacters quote bytes rest
quote_text quote q bytes rest e = characters quote q bytes rest false e

-- ---- texts without a backslash
-- they are kept as they are
pub unescaped-plain : (xs : Bytes) → list_any (λ c. c == 92) xs ≡ false → unescaped xs ≡ xs
unescaped-plain [] h = refl
unescaped-plain (c ∷ cs) h =
    let k = or_parts (c == 92) (list_any (λ d. d == 92) cs) h in
    rw k.0 (ap (λ ds. c ∷ ds) (unescaped-plain cs k.1))
