-- Tokens from one place of some bytes to another.
use Rattle.std.proofs.Common.{◌≡◌, ℕ, suc, ◌+◌, ◌<◌, ◌≤◌, true, false, [], ◌∷◌, ◌++◌, length, take, drop, get_or, Some, None, refl, ap, sym, ◌∙◌, subst, ◌⊎◌, inl, inr, arith, length-append}
use Rattle.std.specs.List.{prefix_len, flat_map}
use Rattle.std.proofs.lemmas.List.{drop_more, length-drop, length-take-le, take-append-drop, nil_from_length}
use Rattle.si_defs.specs.Bytes.{Bytes, is_word_byte, is_small_letter, is_capital_letter, is_digit}
use Rattle.si_defs.specs.Tokens.{TokenAt, begins_with, escaped}
use Rattle.si_defs.specs.declared.TokenKind.TheVariants.{Lower, Upper, Dollar, Int, Single, Double, NotEqual, Mark}
use Rattle.si_lex.specs.Places.{IsTokenTo, NoTokenAt}
use Rattle.si_lex.specs.Scans.{decimal_len, lower_len, behind_quote}
use Rattle.si_lex.specs.Firsts.{is_lone_mark}
use Rattle.si_lex.proofs.ScanLaws.{AreCharacters, lower_within, quote_text}
use Rattle.si_lex.proofs.PlaceLaws.{token_to, token_run, none_at, second_at}
use Rattle.si_lex.proofs.FrontLaws

-- ---- words and digits
pub lower_to : (bytes : Bytes) (at end : ℕ) → at < length bytes → is_small_letter (get_or bytes at 0) ≡ true
    → end ≡ at + 1 + prefix_len is_word_byte (drop (at + 1) bytes) → end ≤ length bytes → IsTokenTo bytes at Lower end
lower_to bytes at end l h e w =
    token_run bytes at end Lower (get_or bytes at 0) (prefix_len is_word_byte (drop (at + 1) bytes)) l e w refl
    (FrontLaws.token_lower (get_or bytes at 0) (drop (at + 1) bytes) h)

pub upper_to : (bytes : Bytes) (at end : ℕ) → at < length bytes → is_capital_letter (get_or bytes at 0) ≡ true
    → end ≡ at + 1 + prefix_len is_word_byte (drop (at + 1) bytes) → end ≤ length bytes → IsTokenTo bytes at Upper end
upper_to bytes at end l h e w =
    token_run bytes at end Upper (get_or bytes at 0) (prefix_len is_word_byte (drop (at + 1) bytes)) l e w refl
    (FrontLaws.token_upper (get_or bytes at 0) (drop (at + 1) bytes) h)

pub digit_to : (bytes : Bytes) (at end : ℕ) → at < length bytes → is_digit (get_or bytes at 0) ≡ true
    → end ≡ at + decimal_len (drop at bytes) → end ≤ length bytes → IsTokenTo bytes at Int end
digit_to bytes at end l h e w =
    let c = get_or bytes at 0 in
    let cs = drop (at + 1) bytes in
    let d = FrontLaws.digit_decimal c cs h in
    let f : decimal_len (drop at bytes) ≡ suc d.0 = ap decimal_len (drop_more bytes at 0 l) ∙ d.1 in
    token_run bytes at end Int c d.0 l (omega arith) w refl (FrontLaws.token_digit c cs d.0 h d.1)

signs : (c : ℕ) → (c ≡ 43) ⊎ (c ≡ 45) → FrontLaws.is_sign c ≡ true
signs c (inl e) = rw e refl
signs c (inr e) = rw e refl

pub signed_to : (bytes : Bytes) (at end : ℕ) → at < length bytes → (get_or bytes at 0 ≡ 43) ⊎ (get_or bytes at 0 ≡ 45)
    → end ≡ at + 1 + decimal_len (drop (at + 1) bytes) → end ≤ length bytes → at + 1 < end → IsTokenTo bytes at Int end
signed_to bytes at end l s e w m =
    token_run bytes at end Int (get_or bytes at 0) (decimal_len (drop (at + 1) bytes)) l e w refl
    (FrontLaws.token_signed (get_or bytes at 0) (drop (at + 1) bytes) (signs (get_or bytes at 0) s) (omega arith))

pub sign_to : (bytes : Bytes) (at end : ℕ) → at < length bytes → (get_or bytes at 0 ≡ 43) ⊎ (get_or bytes at 0 ≡ 45)
    → end ≡ at + 1 + decimal_len (drop (at + 1) bytes) → end ≤ length bytes → end ≤ at + 1 → IsTokenTo bytes at Mark end
sign_to bytes at end l s e w m =
    token_run bytes at end Mark (get_or bytes at 0) 0 l (omega arith) w refl
    (FrontLaws.token_sign (get_or bytes at 0) (drop (at + 1) bytes) (signs (get_or bytes at 0) s) (omega arith))

-- ---- marks
pub mark_to : (bytes : Bytes) (at : ℕ) → at < length bytes → is_lone_mark (get_or bytes at 0) ≡ true → IsTokenTo bytes at Mark (at + 1)
mark_to bytes at l h =
    token_run bytes at (at + 1) Mark (get_or bytes at 0) 0 l (omega arith) (omega arith) refl (FrontLaws.token_mark (get_or bytes at 0) (drop (at + 1) bytes) h)

pub slash_to : (bytes : Bytes) (at : ℕ) → at < length bytes → get_or bytes at 0 ≡ 47 → begins_with 42 (drop (at + 1) bytes) ≡ false → IsTokenTo bytes at Mark (at + 1)
slash_to bytes at l g b = token_run bytes at (at + 1) Mark 47 0 l (omega arith) (omega arith) g (FrontLaws.token_slash (drop (at + 1) bytes) b)

pub no_slash : (bytes : Bytes) (at : ℕ) → at < length bytes → get_or bytes at 0 ≡ 47 → begins_with 42 (drop (at + 1) bytes) ≡ true → NoTokenAt (drop at bytes)
no_slash bytes at l g b = none_at bytes at 47 l g (FrontLaws.no_token_comment (47 ∷ drop (at + 1) bytes) b)

pub exclamation_to : (bytes : Bytes) (at : ℕ) → at < length bytes → get_or bytes at 0 ≡ 33 → begins_with 61 (drop (at + 1) bytes) ≡ false → IsTokenTo bytes at Mark (at + 1)
exclamation_to bytes at l g b = token_run bytes at (at + 1) Mark 33 0 l (omega arith) (omega arith) g (FrontLaws.token_exclamation (drop (at + 1) bytes) b)

pub not_equal_to : (bytes : Bytes) (at : ℕ) → at < length bytes → get_or bytes at 0 ≡ 33 → begins_with 61 (drop (at + 1) bytes) ≡ true → at + 1 < length bytes
    → IsTokenTo bytes at NotEqual (at + 2)
not_equal_to bytes at l g b m =
    let f = second_at bytes at 33 61 l g b m in
    token_to bytes at (at + 2) NotEqual (33 ∷ 61 ∷ []) (drop (at + 2) bytes) (omega arith) (omega arith) f refl
    (subst (λ x. TokenAt x (FrontLaws.token_by NotEqual (33 ∷ 61 ∷ [])) (drop (at + 2) bytes)) (sym f) (FrontLaws.token_not_equal (drop (at + 2) bytes)))

-- ---- words after dollar signs
pub dollar_to : (bytes : Bytes) (at end : ℕ) → at < length bytes → get_or bytes at 0 ≡ 36 → begins_with 36 (drop (at + 1) bytes) ≡ false
    → end ≡ at + 1 + lower_len (drop (at + 1) bytes) → end ≤ length bytes → at + 1 < end → IsTokenTo bytes at Dollar end
dollar_to bytes at end l g b e w m =
    token_run bytes at end Dollar 36 (lower_len (drop (at + 1) bytes)) l e w g (FrontLaws.token_dollar (drop (at + 1) bytes) b (omega arith))

pub no_dollar : (bytes : Bytes) (at end : ℕ) → at < length bytes → get_or bytes at 0 ≡ 36 → begins_with 36 (drop (at + 1) bytes) ≡ false
    → end ≡ at + 1 + lower_len (drop (at + 1) bytes) → end ≤ at + 1 → NoTokenAt (drop at bytes)
no_dollar bytes at end l g b e m = none_at bytes at 36 l g (FrontLaws.no_token_dollar (drop (at + 1) bytes) b (omega arith))

pub dollars_to : (bytes : Bytes) (at end : ℕ) → at < length bytes → get_or bytes at 0 ≡ 36 → begins_with 36 (drop (at + 1) bytes) ≡ true → at + 1 < length bytes
    → end ≡ at + 2 + lower_len (drop (at + 2) bytes) → end ≤ length bytes → at + 2 < end → IsTokenTo bytes at Dollar end
dollars_to bytes at end l g b n e w m =
    let f = second_at bytes at 36 36 l g b n in
    let cs = drop (at + 2) bytes in
    let k : length (take (lower_len cs) cs) ≡ lower_len cs = length-take-le (lower_len cs) cs (lower_within cs) in
    let some : 0 < lower_len cs = omega arith in
    token_to bytes at end Dollar (36 ∷ 36 ∷ take (lower_len cs) cs) (drop (lower_len cs) cs) (omega arith) w
    (f ∙ ap (λ x. 36 ∷ 36 ∷ x) (sym (take-append-drop (lower_len cs) cs))) (omega arith)
    (subst (λ x. TokenAt x (FrontLaws.token_by Dollar (36 ∷ 36 ∷ take (lower_len cs) cs)) (drop (lower_len cs) cs)) (sym f) (FrontLaws.token_dollars cs some))

pub no_dollars : (bytes : Bytes) (at end : ℕ) → at < length bytes → get_or bytes at 0 ≡ 36 → begins_with 36 (drop (at + 1) bytes) ≡ true → at + 1 < length bytes
    → end ≡ at + 2 + lower_len (drop (at + 2) bytes) → end ≤ at + 2 → NoTokenAt (drop at bytes)
no_dollars bytes at end l g b n e m =
    subst (λ x. NoTokenAt x) (sym (second_at bytes at 36 36 l g b n)) (FrontLaws.no_token_dollars (drop (at + 2) bytes) (omega arith))

-- ---- quoted texts
-- the length of a quoted text
quoted_len : (quote : ℕ) (bytes : Bytes) (at end : ℕ) (a : AreCharacters quote (drop (at + 1) bytes) (drop end bytes)) → at < length bytes → end ≤ length bytes
    → end ≡ at + length (quote ∷ FrontLaws.closed_text quote a.0)
quoted_len quote bytes at end a l w =
    let e = ap length (FrontLaws.closed_front quote (drop (at + 1) bytes) (drop end bytes) a) ∙ length-append (FrontLaws.closed_text quote a.0) (drop end bytes) in
    let m = length-drop (at + 1) bytes in
    let n = length-drop end bytes in
    omega arith

pub double_to : (bytes : Bytes) (at end : ℕ) → at < length bytes → get_or bytes at 0 ≡ 34 → at + 1 < end → end ≤ length bytes
    → behind_quote 34 false (drop (at + 1) bytes) ≡ Some (drop end bytes) → IsTokenTo bytes at Double end
double_to bytes at end l g m w e =
    let a = quote_text 34 refl (drop (at + 1) bytes) (drop end bytes) e in
    let f : drop at bytes ≡ 34 ∷ drop (at + 1) bytes = drop_more bytes at 0 l ∙ ap (λ x. x ∷ drop (at + 1) bytes) g in
    token_to bytes at end Double (34 ∷ FrontLaws.closed_text 34 a.0) (drop end bytes) (omega arith) w
    (f ∙ ap (λ x. 34 ∷ x) (FrontLaws.closed_front 34 (drop (at + 1) bytes) (drop end bytes) a)) (quoted_len 34 bytes at end a l w)
    (subst (λ x. TokenAt x (FrontLaws.token_by Double (34 ∷ FrontLaws.closed_text 34 a.0)) (drop end bytes)) (sym f)
    (FrontLaws.token_double (drop (at + 1) bytes) (drop end bytes) a e))

pub no_double : (bytes : Bytes) (at : ℕ) → at < length bytes → get_or bytes at 0 ≡ 34 → behind_quote 34 false (drop (at + 1) bytes) ≡ None → NoTokenAt (drop at bytes)
no_double bytes at l g e = none_at bytes at 34 l g (FrontLaws.no_token_double (drop (at + 1) bytes) e)

pub single_to : (bytes : Bytes) (at end : ℕ) → at < length bytes → get_or bytes at 0 ≡ 39 → at + 2 < end → end ≤ length bytes
    → behind_quote 39 false (drop (at + 1) bytes) ≡ Some (drop end bytes) → IsTokenTo bytes at Single end
single_to bytes at end l g m w e =
    let a = quote_text 39 refl (drop (at + 1) bytes) (drop end bytes) e in
    let f : drop at bytes ≡ 39 ∷ drop (at + 1) bytes = drop_more bytes at 0 l ∙ ap (λ x. x ∷ drop (at + 1) bytes) g in
    let n = quoted_len 39 bytes at end a l w in
    token_to bytes at end Single (39 ∷ FrontLaws.closed_text 39 a.0) (drop end bytes) (omega arith) w
    (f ∙ ap (λ x. 39 ∷ x) (FrontLaws.closed_front 39 (drop (at + 1) bytes) (drop end bytes) a)) n
    (subst (λ x. TokenAt x (FrontLaws.token_by Single (39 ∷ FrontLaws.closed_text 39 a.0)) (drop end bytes)) (sym f)
    (FrontLaws.token_single (drop (at + 1) bytes) (drop end bytes) a e (some n))) where
      none : (text : Bytes) → text ≡ [] → length (39 ∷ FrontLaws.closed_text 39 text) ≡ 2
      none text e = ap (λ x. length (39 ∷ FrontLaws.closed_text 39 x)) e

      some : end ≡ at + length (39 ∷ FrontLaws.closed_text 39 (quote_text 39 refl (drop (at + 1) bytes) (drop end bytes) e).0)
          → (quote_text 39 refl (drop (at + 1) bytes) (drop end bytes) e).0 ≡ [] → ⊥
      some n k = let two = none (quote_text 39 refl (drop (at + 1) bytes) (drop end bytes) e).0 k in omega arith

pub no_single : (bytes : Bytes) (at : ℕ) → at < length bytes → get_or bytes at 0 ≡ 39 → behind_quote 39 false (drop (at + 1) bytes) ≡ None → NoTokenAt (drop at bytes)
no_single bytes at l g e = none_at bytes at 39 l g (FrontLaws.no_token_single (drop (at + 1) bytes) e)

-- nothing stands between the quotes
pub no_empty : (bytes : Bytes) (at end : ℕ) → at < length bytes → get_or bytes at 0 ≡ 39 → at + 1 < end → end ≤ at + 2 → end ≤ length bytes
    → behind_quote 39 false (drop (at + 1) bytes) ≡ Some (drop end bytes) → NoTokenAt (drop at bytes)
no_empty bytes at end l g m n w e =
    let a = quote_text 39 refl (drop (at + 1) bytes) (drop end bytes) e in
    let k = quoted_len 39 bytes at end a l w in
    let s = length-append (flat_map (escaped 39) a.0) (39 ∷ []) in
    let f : drop at bytes ≡ 39 ∷ drop (at + 1) bytes = drop_more bytes at 0 l ∙ ap (λ x. x ∷ drop (at + 1) bytes) g in
    let none : flat_map (escaped 39) a.0 ≡ [] = nil_from_length (flat_map (escaped 39) a.0) (omega arith) in
    subst (λ x. NoTokenAt x) (sym (f ∙ ap (λ x. 39 ∷ x) (a.2 ∙ ap (λ x. x ++ 39 ∷ drop end bytes) none))) (FrontLaws.no_token_empty (drop end bytes))
