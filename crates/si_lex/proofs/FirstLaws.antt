-- What the first byte says.
use Rattle.std.proofs.Common.{◌≡◌, ℕ, ◌+◌, ◌<◌, List, [], ◌∷◌, ◌++◌, Bool, true, false, ◌||◌, ◌==◌, drop, length, get_or, refl, ap, sym, ◌∙◌, subst, ◌⊎◌, inl, inr, arith, Some}
use Rattle.std.proofs.lemmas.Bool.{cond_both, or_cases, or_parts, or_from, false_from_ne_true, false≢true, eqb-true, ne_eqb, cases_eq}
use Rattle.std.proofs.lemmas.Bool.Decides.{nat_tests}
use Rattle.std.proofs.lemmas.List.{drop_more}
use Rattle.si_defs.specs.Bytes.{Bytes, is_white, is_small_letter, is_capital_letter, is_digit}
use Rattle.si_defs.specs.Grammar.{Bracket, brackets_behind, open_behind}
use Rattle.si_defs.specs.Tokens.{Token, TokenAt, Spells, is_mark, mark}
use Rattle.si_defs.specs.declared.TokenKind.{TokenKind}
use Rattle.si_defs.specs.declared.TokenKind.TheVariants.{Lower, Upper, Dollar, Int, Single, Double, NotEqual, Mark}
use Rattle.si_lex.specs.declared.bytes.First.{First}
use Rattle.si_lex.specs.declared.bytes.First.TheVariants.{White, Percent, Small, Capital, Digit, Sign, Dollar, SingleQuote, DoubleQuote, Exclamation, Slash, Opening, Closing, Underscore, LoneMark, Nothing}
use Rattle.si_lex.specs.Firsts.{begins_blank, is_lone_mark, mark_or_nothing, first_of, depth_behind}
use Rattle.si_lex.specs.Blanks.{NothingBlankAt}
use Rattle.si_lex.specs.Places.{NoTokenAt}
use Rattle.si_lex.proofs.SpellingLaws.{of_listed, marks, leads, spelling_leads, spelling_some}
use Rattle.si_lex.proofs.FrontLaws.{is_other, no_token_other}
use Rattle.si_lex.proofs.PlaceLaws.{none_at}
use Rattle.si_lex.proofs.BlankPlaces.{no_blank_other}

-- what a byte is that begins this
abbrev pub Means : First → ℕ → Type 0
Means White c = is_white c ≡ true
Means Percent c = c ≡ 37
Means Small c = is_small_letter c ≡ true
Means Capital c = is_capital_letter c ≡ true
Means Digit c = is_digit c ≡ true
Means Sign c = (c ≡ 43) ⊎ (c ≡ 45)
Means Dollar c = c ≡ 36
Means SingleQuote c = c ≡ 39
Means DoubleQuote c = c ≡ 34
Means Exclamation c = c ≡ 33
Means Slash c = c ≡ 47
Means Opening c = (c ≡ 40) ⊎ (c ≡ 91)
Means Closing c = (c ≡ 41) ⊎ (c ≡ 93)
Means LoneMark c = is_lone_mark c ≡ true
Means Underscore c = c ≡ 95
Means Nothing c = is_other c ≡ true

-- a mark that is none of those that may begin something else begins nothing else
abbrev may_mark : ℕ → Bool
may_mark m = is_lone_mark m || (m == 33 || (m == 43 || m == 45) || m == 47)

no_mark : (c : ℕ) → is_lone_mark c ≡ false → (c == 33) ≡ false → (c == 43 || c == 45) ≡ false → (c == 47) ≡ false → is_mark c ≡ false
no_mark c l e s n =
    let none : may_mark c ≡ false = or_from (is_lone_mark c) _ l (or_from (c == 33 || (c == 43 || c == 45)) (c == 47) (or_from (c == 33) (c == 43 || c == 45) e s) n) in
    false_from_ne_true (is_mark c) (λ m. false≢true (sym none ∙ of_listed may_mark c marks m refl))

one_of_two : (c d e : ℕ) → (c == d || c == e) ≡ true → (c ≡ d) ⊎ (c ≡ e)
one_of_two c d e q = elim (or_cases (c == d) (c == e) q) [ inl h ↦ inl (eqb-true c d h) | inr h ↦ inr (eqb-true c e h) ]

-- brackets are marks
pub opening_mark : (c : ℕ) → Means Opening c → is_lone_mark c ≡ true
opening_mark c (inl e) = rw e refl
opening_mark c (inr e) = rw e refl

pub closing_mark : (c : ℕ) → Means Closing c → is_lone_mark c ≡ true
closing_mark c (inl e) = rw e refl
closing_mark c (inr e) = rw e refl

other : (c : ℕ) → is_small_letter c ≡ false → is_capital_letter c ≡ false → is_digit c ≡ false → (c == 43 || c == 45) ≡ false → (c == 36) ≡ false
    → (c == 39) ≡ false → (c == 34) ≡ false → (c == 33) ≡ false → is_mark c ≡ false → is_other c ≡ true
other c a b d s e f g h m = let q = or_parts (c == 43) (c == 45) s in rw (a, b, e, f, g, h, d, q.0, q.1, m) refl

pub first_means : (c : ℕ) → Means (first_of c) c
unfolding mark_or_nothing
first_means c =
    let P : First → Type 0 = λ f. Means f c in
    cond_both (is_white c) _ _ P (λ h. h) (λ w.
    cond_both (c == 37) _ _ P (λ h. eqb-true c 37 h) (λ p.
    cond_both (is_small_letter c) _ _ P (λ h. h) (λ a.
    cond_both (is_capital_letter c) _ _ P (λ h. h) (λ b.
    cond_both (is_digit c) _ _ P (λ h. h) (λ d.
    cond_both (c == 43 || c == 45) _ _ P (λ h. one_of_two c 43 45 h) (λ s.
    cond_both (c == 36) _ _ P (λ h. eqb-true c 36 h) (λ e.
    cond_both (c == 39) _ _ P (λ h. eqb-true c 39 h) (λ f.
    cond_both (c == 34) _ _ P (λ h. eqb-true c 34 h) (λ g.
    cond_both (c == 33) _ _ P (λ h. eqb-true c 33 h) (λ x.
    cond_both (c == 47) _ _ P (λ h. eqb-true c 47 h) (λ n.
    cond_both (c == 40 || c == 91) _ _ P (λ h. one_of_two c 40 91 h) (λ o.
    cond_both (c == 41 || c == 93) _ _ P (λ h. one_of_two c 41 93 h) (λ k.
    cond_both (c == 95) _ _ P (λ h. eqb-true c 95 h) (λ u.
    cond_both (is_lone_mark c) _ _ P (λ h. h) (λ l. other c a b d s e f g x (no_mark c l x s n))))))))))))))))

-- at a place
pub means_at : (bytes : List ℕ) (at : ℕ) (found first : First) → found ≡ first_of (get_or bytes at 0) → found ≡ first → Means first (get_or bytes at 0)
means_at bytes at found first e f = subst (λ x. Means x (get_or bytes at 0)) (sym e ∙ f) (first_means (get_or bytes at 0))

pub nothing_at : (bytes : List ℕ) (at : ℕ) → at < length bytes → Means Nothing (get_or bytes at 0) → NoTokenAt (drop at bytes)
nothing_at bytes at l h = none_at bytes at (get_or bytes at 0) l refl (no_token_other (get_or bytes at 0) (drop (at + 1) bytes) h)

-- no token begins with white space or `%`
white_other : (c : ℕ) → is_white c ≡ true → is_other c ≡ true
white_other c h = grind (arith, nat_tests)

pub white_at : (bytes : Bytes) (at : ℕ) → at < length bytes → Means White (get_or bytes at 0) → NoTokenAt (drop at bytes)
white_at bytes at l h = nothing_at bytes at l (white_other (get_or bytes at 0) h)

pub percent_at : (bytes : Bytes) (at : ℕ) → at < length bytes → Means Percent (get_or bytes at 0) → NoTokenAt (drop at bytes)
percent_at bytes at l h = nothing_at bytes at l (subst (λ c. is_other c ≡ true) (sym h) refl)

-- and a blank begins with nothing else but a slash
pub no_blank_first : (bytes : Bytes) (at : ℕ) → at < length bytes → (first_of (get_or bytes at 0) ≡ White → ⊥) → (first_of (get_or bytes at 0) ≡ Percent → ⊥)
    → (first_of (get_or bytes at 0) ≡ Slash → ⊥) → NothingBlankAt (drop at bytes)
no_blank_first bytes at l w p q =
    let c = get_or bytes at 0 in
    no_blank_other bytes at l (λ e. p (ap first_of e)) (λ e. q (ap first_of e)) (false_from_ne_true (is_white c) (λ h. w (rw h refl)))

pub no_blank_begins : (bytes : Bytes) (at : ℕ) → at < length bytes → begins_blank (first_of (get_or bytes at 0)) ≡ false → NothingBlankAt (drop at bytes)
no_blank_begins bytes at l h =
    no_blank_first bytes at l (λ e. false≢true (sym h ∙ ap begins_blank e)) (λ e. false≢true (sym h ∙ ap begins_blank e)) (λ e. false≢true (sym h ∙ ap begins_blank e))

pub underscore_at : (bytes : Bytes) (at : ℕ) → at < length bytes → Means Underscore (get_or bytes at 0) → NoTokenAt (drop at bytes)
underscore_at bytes at l h = nothing_at bytes at l (subst (λ c. is_other c ≡ true) (sym h) refl)

-- ---- open brackets
-- a byte that is no bracket opens and closes none
plain_depth : (depth c : ℕ) → (c == 40) ≡ false → (c == 91) ≡ false → (c == 41) ≡ false → (c == 93) ≡ false → depth_behind depth (first_of c) ≡ depth
unfolding mark_or_nothing
plain_depth depth c r s t u =
    let P : First → Type 0 = λ f. depth_behind depth f ≡ depth in
    cond_both (is_white c) _ _ P (λ h. refl) (λ w.
    cond_both (c == 37) _ _ P (λ h. refl) (λ p.
    cond_both (is_small_letter c) _ _ P (λ h. refl) (λ a.
    cond_both (is_capital_letter c) _ _ P (λ h. refl) (λ b.
    cond_both (is_digit c) _ _ P (λ h. refl) (λ d.
    cond_both (c == 43 || c == 45) _ _ P (λ h. refl) (λ e.
    cond_both (c == 36) _ _ P (λ h. refl) (λ f.
    cond_both (c == 39) _ _ P (λ h. refl) (λ g.
    cond_both (c == 34) _ _ P (λ h. refl) (λ x.
    cond_both (c == 33) _ _ P (λ h. refl) (λ y.
    cond_both (c == 47) _ _ P (λ h. refl) (λ z.
    cond_both (c == 40 || c == 91) _ _ P (λ h. absurd (false≢true (sym (or_from (c == 40) (c == 91) r s) ∙ h))) (λ o.
    cond_both (c == 41 || c == 93) _ _ P (λ h. absurd (false≢true (sym (or_from (c == 41) (c == 93) t u) ∙ h))) (λ k.
    cond_both (c == 95) _ _ P (λ h. refl) (λ q.
    cond_both (is_lone_mark c) _ _ P (λ h. refl) (λ l. refl)))))))))))))))

-- a mark does what its byte says
mark_depth : (depth c : ℕ) → open_behind depth (mark c) ≡ depth_behind depth (first_of c)
unfolding mark_or_nothing
mark_depth depth c =
    let P : ℕ → Type 0 = λ d. open_behind depth (mark d) ≡ depth_behind depth (first_of d) in
    elim (cases_eq c 40) [
      | inl e ↦ subst P (sym e) refl
      | inr m ↦
          elim (cases_eq c 91) [
            | inl e ↦ subst P (sym e) refl
            | inr n ↦
                elim (cases_eq c 41) [
                  | inl e ↦ subst P (sym e) refl
                  | inr o ↦
                      elim (cases_eq c 93) [ inl e ↦ subst P (sym e) refl | inr p ↦ plain (ne_eqb c 40 m) (ne_eqb c 91 n) (ne_eqb c 41 o) (ne_eqb c 93 p) ]
                ]
          ]
    ] where
      plain : (c == 40) ≡ false → (c == 91) ≡ false → (c == 41) ≡ false → (c == 93) ≡ false → open_behind depth (mark c) ≡ depth_behind depth (first_of c)
      plain m n o p =
          let stays : open_behind depth (mark c) ≡ depth = rw (m, n, o, p) refl in
          stays ∙ sym (plain_depth depth c m n o p)

-- and another token, since it begins with no bracket
apart : (kind : TokenKind) (c d : ℕ) → leads kind d ≡ false → leads kind c ≡ true → (c == d) ≡ false
apart kind c d f h = ne_eqb c d (λ e. false≢true (sym f ∙ ap (leads kind) (sym e) ∙ h))

led_depth : (kind : TokenKind) (depth c : ℕ) → leads kind 40 ≡ false → leads kind 91 ≡ false → leads kind 41 ≡ false → leads kind 93 ≡ false → leads kind c ≡ true
    → depth ≡ depth_behind depth (first_of c)
led_depth kind depth c m n o p h = sym (plain_depth depth c (apart kind c 40 m h) (apart kind c 91 n h) (apart kind c 41 o h) (apart kind c 93 p h))

abbrev as_token : TokenKind → Bytes → Token
as_token kind text = record { kind = kind; text = text }

spelled_depth : (depth : ℕ) (kind : TokenKind) (text : Bytes) (c : ℕ) (o : Bytes) → Spells kind text (c ∷ o)
    → open_behind depth (as_token kind text) ≡ depth_behind depth (first_of c)
spelled_depth depth Mark text c o s =
    let same : c ≡ s.1.0 = let k = s.0 ∙ s.1.1 in cc in
    subst (λ x. open_behind depth (as_token Mark x) ≡ depth_behind depth (first_of c)) (sym s.1.1)
    (subst (λ x. open_behind depth (mark s.1.0) ≡ depth_behind depth (first_of x)) (sym same) (mark_depth depth s.1.0))
spelled_depth depth Lower text c o s = led_depth Lower depth c refl refl refl refl (spelling_leads Lower text c o s)
spelled_depth depth Upper text c o s = led_depth Upper depth c refl refl refl refl (spelling_leads Upper text c o s)
spelled_depth depth Dollar text c o s = led_depth Dollar depth c refl refl refl refl (spelling_leads Dollar text c o s)
spelled_depth depth Int text c o s = led_depth Int depth c refl refl refl refl (spelling_leads Int text c o s)
spelled_depth depth Single text c o s = led_depth Single depth c refl refl refl refl (spelling_leads Single text c o s)
spelled_depth depth Double text c o s = led_depth Double depth c refl refl refl refl (spelling_leads Double text c o s)
spelled_depth depth NotEqual text c o s = led_depth NotEqual depth c refl refl refl refl (spelling_leads NotEqual text c o s)

-- the token at a place leaves as many brackets open as its first byte says
pub token_depth : (bytes : Bytes) (at depth : ℕ) (t : Token) (rest : Bytes) → at < length bytes → TokenAt (drop at bytes) t rest
    → open_behind depth t ≡ depth_behind depth (first_of (get_or bytes at 0))
token_depth bytes at depth t rest l a = by a.spelling a.spelled (sym (drop_more bytes at 0 l) ∙ a.front) where
  by : (s : Bytes) → Spells t.kind t.text s → get_or bytes at 0 ∷ drop (at + 1) bytes ≡ s ++ rest
      → open_behind depth t ≡ depth_behind depth (first_of (get_or bytes at 0))
  by [] s f = absurd (spelling_some t.kind t.text s)
  by (c ∷ o) s f =
      let same : get_or bytes at 0 ≡ c = cc in
      subst (λ x. open_behind depth t ≡ depth_behind depth (first_of x)) (sym same) (spelled_depth depth t.kind t.text c o s)

-- ---- which brackets
-- a mark that is no bracket opens and closes none
pub flat_mark : (c : ℕ) → (c == 40) ≡ false → (c == 91) ≡ false → (c == 41) ≡ false → (c == 93) ≡ false → (stack : List Bracket) → brackets_behind (mark c) stack ≡ Some stack
flat_mark c m n o p stack = rw (m, n, o, p) refl

-- nor does another token, and it begins with none
led_brackets : (kind : TokenKind) (c : ℕ) (stack : List Bracket) → leads kind 40 ≡ false → leads kind 91 ≡ false → leads kind 41 ≡ false → leads kind 93 ≡ false → leads kind c ≡ true
    → Some stack ≡ brackets_behind (mark c) stack
led_brackets kind c stack m n o p h = sym (flat_mark c (apart kind c 40 m h) (apart kind c 91 n h) (apart kind c 41 o h) (apart kind c 93 p h) stack)

spelled_brackets : (stack : List Bracket) (kind : TokenKind) (text : Bytes) (c : ℕ) (o : Bytes) → Spells kind text (c ∷ o)
    → brackets_behind (as_token kind text) stack ≡ brackets_behind (mark c) stack
spelled_brackets stack Mark text c o s =
    let same : c ≡ s.1.0 = let k = s.0 ∙ s.1.1 in cc in
    subst (λ x. brackets_behind (as_token Mark x) stack ≡ brackets_behind (mark c) stack) (sym s.1.1) (ap (λ x. brackets_behind (mark x) stack) (sym same))
spelled_brackets stack Lower text c o s = led_brackets Lower c stack refl refl refl refl (spelling_leads Lower text c o s)
spelled_brackets stack Upper text c o s = led_brackets Upper c stack refl refl refl refl (spelling_leads Upper text c o s)
spelled_brackets stack Dollar text c o s = led_brackets Dollar c stack refl refl refl refl (spelling_leads Dollar text c o s)
spelled_brackets stack Int text c o s = led_brackets Int c stack refl refl refl refl (spelling_leads Int text c o s)
spelled_brackets stack Single text c o s = led_brackets Single c stack refl refl refl refl (spelling_leads Single text c o s)
spelled_brackets stack Double text c o s = led_brackets Double c stack refl refl refl refl (spelling_leads Double text c o s)
spelled_brackets stack NotEqual text c o s = led_brackets NotEqual c stack refl refl refl refl (spelling_leads NotEqual text c o s)

-- the token at a place does to brackets what the mark of its first byte does
pub token_brackets : (bytes : Bytes) (at : ℕ) (t : Token) (rest : Bytes) (stack : List Bracket) → at < length bytes → TokenAt (drop at bytes) t rest
    → brackets_behind t stack ≡ brackets_behind (mark (get_or bytes at 0)) stack
token_brackets bytes at t rest stack l a = by a.spelling a.spelled (sym (drop_more bytes at 0 l) ∙ a.front) where
  by : (s : Bytes) → Spells t.kind t.text s → get_or bytes at 0 ∷ drop (at + 1) bytes ≡ s ++ rest
      → brackets_behind t stack ≡ brackets_behind (mark (get_or bytes at 0)) stack
  by [] s f = absurd (spelling_some t.kind t.text s)
  by (c ∷ o) s f =
      let same : get_or bytes at 0 ≡ c = cc in
      subst (λ x. brackets_behind t stack ≡ brackets_behind (mark x) stack) (sym same) (spelled_brackets stack t.kind t.text c o s)

-- where a closing round bracket stands, that is the token
led_round : (kind : TokenKind) (c : ℕ) → leads kind 41 ≡ false → c ≡ 41 → leads kind c ≡ true → ⊥
led_round kind c f e h = false≢true (sym f ∙ ap (leads kind) (sym e) ∙ h)

spelled_round : (kind : TokenKind) (text : Bytes) (c : ℕ) (o : Bytes) → Spells kind text (c ∷ o) → c ≡ 41 → as_token kind text ≡ mark 41
spelled_round Mark text c o s e =
    let same : c ≡ s.1.0 = let k = s.0 ∙ s.1.1 in cc in
    ap (as_token Mark) (s.1.1 ∙ ap (λ x. x ∷ []) (sym same ∙ e))
spelled_round Lower text c o s e = absurd (led_round Lower c refl e (spelling_leads Lower text c o s))
spelled_round Upper text c o s e = absurd (led_round Upper c refl e (spelling_leads Upper text c o s))
spelled_round Dollar text c o s e = absurd (led_round Dollar c refl e (spelling_leads Dollar text c o s))
spelled_round Int text c o s e = absurd (led_round Int c refl e (spelling_leads Int text c o s))
spelled_round Single text c o s e = absurd (led_round Single c refl e (spelling_leads Single text c o s))
spelled_round Double text c o s e = absurd (led_round Double c refl e (spelling_leads Double text c o s))
spelled_round NotEqual text c o s e = absurd (led_round NotEqual c refl e (spelling_leads NotEqual text c o s))

pub token_round : (bytes : Bytes) (at : ℕ) (t : Token) (rest : Bytes) → at < length bytes → TokenAt (drop at bytes) t rest → get_or bytes at 0 ≡ 41 → t ≡ mark 41
token_round bytes at t rest l a e = by a.spelling a.spelled (sym (drop_more bytes at 0 l) ∙ a.front) where
  by : (s : Bytes) → Spells t.kind t.text s → get_or bytes at 0 ∷ drop (at + 1) bytes ≡ s ++ rest → t ≡ mark 41
  by [] s f = absurd (spelling_some t.kind t.text s)
  by (c ∷ o) s f =
      let same : get_or bytes at 0 ≡ c = cc in
      spelled_round t.kind t.text c o s (sym same ∙ e)
