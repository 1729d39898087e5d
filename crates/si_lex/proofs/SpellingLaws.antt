-- The spelling of a token says what it is: its kind and its text.
use Rattle.std.proofs.Common.{◌≡◌, ℕ, ◌-◌, Bool, true, false, cond, not, ◌&&◌, ◌||◌, ◌==◌, List, [], ◌∷◌, ◌++◌, length, codes, refl, ap, sym, ◌∙◌, subst, ◌⊎◌, inl, inr, arith, length-append}
use Rattle.std.specs.List.{list_all, list_any, flat_map}
use Rattle.std.proofs.lemmas.Bool.{and_parts, or_cases, false≢true, not-true, eqb-true}
use Rattle.std.proofs.lemmas.List.{take_at}
use Rattle.std.proofs.lemmas.Bool.Decides.{nat_tests}
use Rattle.si_defs.specs.Bytes.{Bytes, is_small_letter, is_capital_letter, is_digit, is_word_byte, is_white, is_lower_word, is_upper_word, is_dollar_word, is_integer, is_decimal}
use Rattle.si_defs.specs.Tokens.{Spells, is_mark, escaped, quoted}
use Rattle.si_defs.specs.declared.TokenKind.{TokenKind}
use Rattle.si_defs.specs.declared.TokenKind.TheVariants.{Lower, Upper, Dollar, Int, Single, Double, NotEqual, Mark}
use Rattle.si_defs.proofs.TokenLaws.{decimal_digit}
use Rattle.si_lex.specs.Texts.{unescaped_behind, unescaped, between_ends, text_of}

-- what holds of each of a list of bytes holds of one that is among them
pub of_listed : (q : ℕ → Bool) (c : ℕ) (ms : List ℕ) → list_any (λ m. m == c) ms ≡ true → list_all q ms ≡ true → q c ≡ true
of_listed q c [] h k = absurd (false≢true h)
of_listed q c (m ∷ ms) h k = step (of_listed q c ms) (or_cases (m == c) (list_any (λ n. n == c) ms) h) where
  step : (list_any (λ n. n == c) ms ≡ true → list_all q ms ≡ true → q c ≡ true) → (m == c ≡ true) ⊎ (list_any (λ n. n == c) ms ≡ true) → q c ≡ true
  step r (inl e) = let p = and_parts (q m) (list_all q ms) k in subst (λ n. q n ≡ true) (eqb-true m c e) p.0
  step r (inr e) = let p = and_parts (q m) (list_all q ms) k in r e p.1

abbrev pub marks : Bytes
marks = codes "()[],.=~|!?&<>@*+-^;/:#{}"

-- ---- the first byte
-- the bytes that a spelling of this kind can begin with
abbrev pub leads : TokenKind → ℕ → Bool
leads Lower c = is_small_letter c
leads Upper c = is_capital_letter c
leads Dollar c = c == 36
leads Int c = is_digit c || c == 43 || c == 45
leads Single c = c == 39
leads Double c = c == 34
leads NotEqual c = c == 33
leads Mark c = is_mark c

-- a decimal is no sign
integer_leads : (c : ℕ) (o : Bytes) → is_integer (c ∷ o) ≡ true → leads Int c ≡ true
integer_leads c o h = by (or_cases (is_decimal (c ∷ o)) ((c == 43 || c == 45) && is_decimal o) h) where
  digit : is_digit c ≡ true → leads Int c ≡ true
  digit e = rw e refl

  sign : (c == 43 || c == 45) ≡ true → leads Int c ≡ true
  sign e = grind (arith, nat_tests)

  by : (is_decimal (c ∷ o) ≡ true) ⊎ (((c == 43 || c == 45) && is_decimal o) ≡ true) → leads Int c ≡ true
  by (inl e) = digit (decimal_digit c o e)
  by (inr e) = sign (and_parts (c == 43 || c == 45) (is_decimal o) e).0

pub spelling_leads : (kind : TokenKind) (text : Bytes) (c : ℕ) (o : Bytes) → Spells kind text (c ∷ o) → leads kind c ≡ true
spelling_leads Lower text c o s = (and_parts (is_small_letter c) (list_all is_word_byte o) (subst (λ t. is_lower_word t ≡ true) (sym s.0) s.1)).0
spelling_leads Upper text c o s = (and_parts (is_capital_letter c) (list_all is_word_byte o) (subst (λ t. is_upper_word t ≡ true) (sym s.0) s.1)).0
spelling_leads Dollar text c [] s = absurd (false≢true (subst (λ t. is_dollar_word t ≡ true) (sym s.0) s.1))
spelling_leads Dollar text c (d ∷ o) s =
    (and_parts (c == 36) (is_lower_word (d ∷ o) || (d == 36 && is_lower_word o)) (subst (λ t. is_dollar_word t ≡ true) (sym s.0) s.1)).0
spelling_leads Int text c o s = integer_leads c o (subst (λ t. is_integer t ≡ true) (sym s.0) s.1)
spelling_leads Single text c o s = let e : c ≡ 39 = cc in rw e refl
spelling_leads Double text c o s = let e : c ≡ 34 = cc in rw e refl
spelling_leads NotEqual text c o s = let e : c ≡ 33 = cc in rw e refl
spelling_leads Mark text c o s = let e : c ≡ s.1.0 = cc in rw e s.1.2

-- no token is empty
pub spelling_some : (kind : TokenKind) (text : Bytes) → Spells kind text [] → ⊥
spelling_some Lower text s = false≢true (subst (λ t. is_lower_word t ≡ true) (sym s.0) s.1)
spelling_some Upper text s = false≢true (subst (λ t. is_upper_word t ≡ true) (sym s.0) s.1)
spelling_some Dollar text s = false≢true (subst (λ t. is_dollar_word t ≡ true) (sym s.0) s.1)
spelling_some Int text s = false≢true (subst (λ t. is_integer t ≡ true) (sym s.0) s.1)
spelling_some Single text s = cc
spelling_some Double text s = cc
spelling_some NotEqual text s = cc
spelling_some Mark text s = cc

-- a byte that begins no blank
abbrev pub is_dark : ℕ → Bool
is_dark c = not (is_white c) && not (c == 37)

leads_dark : (kind : TokenKind) (c : ℕ) → leads kind c ≡ true → is_dark c ≡ true
leads_dark Lower c h = grind (arith, nat_tests)
leads_dark Upper c h = grind (arith, nat_tests)
leads_dark Dollar c h = rw (eqb-true c 36 h) refl
leads_dark Int c h = grind (arith, nat_tests)
leads_dark Single c h = rw (eqb-true c 39 h) refl
leads_dark Double c h = rw (eqb-true c 34 h) refl
leads_dark NotEqual c h = rw (eqb-true c 33 h) refl
leads_dark Mark c h = of_listed is_dark c marks h refl

-- no token begins with white space or `%`
pub spelling_dark : (kind : TokenKind) (text : Bytes) (c : ℕ) (o : Bytes) → Spells kind text (c ∷ o) → (is_white c ≡ false) × (c == 37 ≡ false)
spelling_dark kind text c o s =
    let k = and_parts (not (is_white c)) (not (c == 37)) (leads_dark kind c (spelling_leads kind text c o s)) in
    (not-true (is_white c) k.0, not-true (c == 37) k.1)

-- ---- the kind
-- the kind of a token by its spelling
abbrev pub kind_of : Bytes → TokenKind
kind_of [] = Mark
kind_of (c ∷ []) = cond (is_small_letter c) Lower (cond (is_capital_letter c) Upper (cond (is_digit c) Int Mark))
kind_of (c ∷ d ∷ ds) =
    cond (is_small_letter c) Lower (cond (is_capital_letter c) Upper (cond (c == 36) Dollar (cond (c == 39) Single (cond (c == 34) Double (cond (c == 33) NotEqual Int)))))

pub small_kind : (c : ℕ) (o : Bytes) → is_small_letter c ≡ true → kind_of (c ∷ o) ≡ Lower
small_kind c [] h = rw h refl
small_kind c (d ∷ ds) h = rw h refl

pub capital_kind : (c : ℕ) (o : Bytes) → is_capital_letter c ≡ true → kind_of (c ∷ o) ≡ Upper
capital_kind c [] h = let n : is_small_letter c ≡ false = grind (arith, nat_tests) in rw (n, h) refl
capital_kind c (d ∷ ds) h = let n : is_small_letter c ≡ false = grind (arith, nat_tests) in rw (n, h) refl

-- the bytes that begin an integer begin nothing else that is longer than a mark
not_other : (c : ℕ) → leads Int c ≡ true
    → (is_small_letter c ≡ false) × (is_capital_letter c ≡ false) × (c == 36 ≡ false) × (c == 39 ≡ false) × (c == 34 ≡ false) × (c == 33 ≡ false)
not_other c h = (grind (arith, nat_tests), grind (arith, nat_tests), grind (arith, nat_tests), grind (arith, nat_tests), grind (arith, nat_tests), grind (arith, nat_tests))

integer_kind : (c : ℕ) (o : Bytes) → is_integer (c ∷ o) ≡ true → kind_of (c ∷ o) ≡ Int
integer_kind c [] h = let n = not_other c (integer_leads c [] h) in rw (n.0, n.1) (digit h) where
  digit : is_integer (c ∷ []) ≡ true → cond (is_digit c) Int Mark ≡ Int
  digit h = by (or_cases (is_digit c) ((c == 43 || c == 45) && false) h) where
    by : (is_digit c ≡ true) ⊎ (((c == 43 || c == 45) && false) ≡ true) → cond (is_digit c) Int Mark ≡ Int
    by (inl e) = rw e refl
    by (inr e) = absurd (false≢true (and_parts (c == 43 || c == 45) false e).1)
integer_kind c (d ∷ ds) h = let n = not_other c (integer_leads c (d ∷ ds) h) in rw (n.0, n.1, n.2, n.3, n.4, n.5) refl

-- a mark is no letter and no digit
mark_other : (c : ℕ) → is_mark c ≡ true → (is_small_letter c ≡ false) × (is_capital_letter c ≡ false) × (is_digit c ≡ false)
mark_other c h = (
  not-true _ (of_listed (λ m. not (is_small_letter m)) c marks h refl),
  not-true _ (of_listed (λ m. not (is_capital_letter m)) c marks h refl),
  not-true _ (of_listed (λ m. not (is_digit m)) c marks h refl),
)

mark_kind : (c : ℕ) → is_mark c ≡ true → kind_of (c ∷ []) ≡ Mark
mark_kind c h = let n = mark_other c h in rw (n.0, n.1, n.2) refl

-- after the quote that opens something stands
quoted_more : (quote : ℕ) (text : Bytes) → (c : ℕ) × (cs : Bytes) × (flat_map (escaped quote) text ++ quote ∷ [] ≡ c ∷ cs)
quoted_more quote [] = (quote, [], refl)
quoted_more quote (d ∷ ds) = by (d == quote || d == 92) where
  by : (b : Bool) → (c : ℕ) × (cs : Bytes) × (cond b (92 ∷ d ∷ []) (d ∷ []) ++ flat_map (escaped quote) ds ++ quote ∷ [] ≡ c ∷ cs)
  by true = (92, d ∷ [] ++ flat_map (escaped quote) ds ++ quote ∷ [], refl)
  by false = (d, flat_map (escaped quote) ds ++ quote ∷ [], refl)

quoted_kind : (quote : ℕ) (kind : TokenKind) → ((c : ℕ) (cs : Bytes) → kind_of (quote ∷ c ∷ cs) ≡ kind) → (text : Bytes) → kind_of (quoted quote text) ≡ kind
quoted_kind quote kind k text =
    let m = quoted_more quote text in
    subst (λ t. kind_of (quote ∷ t) ≡ kind) (sym m.2) (k m.0 m.1)

pub kind_of-spelling : (kind : TokenKind) (text bytes : Bytes) → Spells kind text bytes → kind_of bytes ≡ kind
kind_of-spelling kind text [] s = absurd (spelling_some kind text s)
kind_of-spelling Lower text (c ∷ o) s = small_kind c o (spelling_leads Lower text c o s)
kind_of-spelling Upper text (c ∷ o) s = capital_kind c o (spelling_leads Upper text c o s)
kind_of-spelling Dollar text (c ∷ []) s = absurd (false≢true (subst (λ t. is_dollar_word t ≡ true) (sym s.0) s.1))
kind_of-spelling Dollar text (c ∷ d ∷ o) s = rw (eqb-true c 36 (spelling_leads Dollar text c (d ∷ o) s)) refl
kind_of-spelling Int text (c ∷ o) s = integer_kind c o (subst (λ t. is_integer t ≡ true) (sym s.0) s.1)
kind_of-spelling Single text (c ∷ o) s = ap kind_of s.0 ∙ quoted_kind 39 Single (λ d ds. refl) text
kind_of-spelling Double text (c ∷ o) s = ap kind_of s.0 ∙ quoted_kind 34 Double (λ d ds. refl) text
kind_of-spelling NotEqual text (c ∷ o) s = ap kind_of (s.0 ∙ s.1)
kind_of-spelling Mark text (c ∷ o) s = ap kind_of (s.0 ∙ s.1.1) ∙ mark_kind s.1.0 s.1.2

-- ---- the text
-- a character that is no backslash, or stands after one, is kept
unescaped_one : (quote c : ℕ) (rest : Bytes) → unescaped_behind false (escaped quote c ++ rest) ≡ c ∷ unescaped_behind false rest
unescaped_one quote c rest = by (c == quote || c == 92) refl where
  by : (b : Bool) → (c == quote || c == 92) ≡ b → unescaped_behind false (cond b (92 ∷ c ∷ []) (c ∷ []) ++ rest) ≡ c ∷ unescaped_behind false rest
  by true e = refl
  by false e = let n : c == 92 ≡ false = plain (c == quote) (c == 92) e in rw n refl where
    plain : (a b : Bool) → (a || b) ≡ false → b ≡ false
    plain true b e = absurd (false≢true (sym e))
    plain false b e = e

pub unescaped-escaped : (quote : ℕ) (text : Bytes) → unescaped (flat_map (escaped quote) text) ≡ text
unescaped-escaped quote [] = refl
unescaped-escaped quote (c ∷ cs) = unescaped_one quote c (flat_map (escaped quote) cs) ∙ ap (λ t. c ∷ t) (unescaped-escaped quote cs)

-- what stands between quotes
pub inside-quoted : (quote : ℕ) (inner : Bytes) → between_ends (quote ∷ inner ++ quote ∷ []) ≡ inner
inside-quoted quote inner =
    let e = length-append inner (quote ∷ []) in
    let n : length (quote ∷ inner ++ quote ∷ []) - 2 ≡ length inner = omega arith in
    rw n (take_at inner (quote ∷ []) (length inner) refl)

pub text_of-quoted : (quote : ℕ) (text : Bytes) → unescaped (between_ends (quoted quote text)) ≡ text
text_of-quoted quote text = ap unescaped (inside-quoted quote (flat_map (escaped quote) text)) ∙ unescaped-escaped quote text

pub text_of-spelling : (kind : TokenKind) (text bytes : Bytes) → Spells kind text bytes → text_of kind bytes ≡ text
text_of-spelling Lower text bytes s = s.0
text_of-spelling Upper text bytes s = s.0
text_of-spelling Dollar text bytes s = s.0
text_of-spelling Int text bytes s = s.0
text_of-spelling Single text bytes s = ap (text_of Single) s.0 ∙ text_of-quoted 39 text
text_of-spelling Double text bytes s = ap (text_of Double) s.0 ∙ text_of-quoted 34 text
text_of-spelling NotEqual text bytes s = s.0
text_of-spelling Mark text bytes s = s.0
