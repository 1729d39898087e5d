-- From the front of some bytes to a place in them.
use Rattle.std.proofs.Common.{◌≡◌, ℕ, ◌+◌, ◌<◌, ◌≤◌, true, ◌∷◌, ◌++◌, length, take, drop, get_or, slice_range, refl, ap, sym, ◌∙◌, subst, arith, drop-drop}
use Rattle.std.proofs.lemmas.List.{drop_more, drop_at, length-drop, take-append-drop, length-take-le, append_cancel_right}
use Rattle.std.proofs.lemmas.List.Folds.{drop_split}
use Rattle.std.proofs.lemmas.Bool.{eqb-true}
use Rattle.si_defs.specs.Bytes.{Bytes}
use Rattle.si_defs.specs.Tokens.{TokenAt, begins_with}
use Rattle.si_defs.specs.declared.TokenKind.{TokenKind}
use Rattle.si_lex.specs.Places.{IsTokenTo, NoTokenAt}
use Rattle.si_lex.proofs.FrontLaws.{token_by}

-- ---- tokens
-- what stands between two places, by what stands from the first on
pub slice_is : (bytes : Bytes) (at end : ℕ) (spelling rest : Bytes) → drop at bytes ≡ spelling ++ rest → end ≡ at + length spelling
    → (slice_range bytes at end ≡ spelling) × (drop end bytes ≡ rest)
slice_is bytes at end spelling rest f e =
    let behind : drop end bytes ≡ rest =
    ap (λ n. drop n bytes) e ∙ sym (drop-drop (length spelling) at bytes) ∙ ap (drop (length spelling)) f ∙ drop_at spelling rest (length spelling) refl in (
      append_cancel_right (slice_range bytes at end) spelling (drop end bytes)
          (sym (drop_split bytes at end (omega arith)) ∙ f ∙ ap (λ r. spelling ++ r) (sym behind)),
      behind,
    )

pub token_to : (bytes : Bytes) (at end : ℕ) (kind : TokenKind) (spelling rest : Bytes) → at < end → end ≤ length bytes → drop at bytes ≡ spelling ++ rest
    → end ≡ at + length spelling → TokenAt (drop at bytes) (token_by kind spelling) rest → IsTokenTo bytes at kind end
token_to bytes at end kind spelling rest l w f e t =
    let s = slice_is bytes at end spelling rest f e in
    record {
      some = l;
      within = w;
      stands = subst (λ x. TokenAt (drop at bytes) (token_by kind x) (drop end bytes)) (sym s.0) (subst (λ r. TokenAt (drop at bytes) (token_by kind spelling) r) (sym s.1) t);
    }

-- a byte and a run after it
pub token_run : (bytes : Bytes) (at end : ℕ) (kind : TokenKind) (c n : ℕ) → at < length bytes → end ≡ at + 1 + n → end ≤ length bytes → get_or bytes at 0 ≡ c
    → TokenAt (c ∷ drop (at + 1) bytes) (token_by kind (c ∷ take n (drop (at + 1) bytes))) (drop n (drop (at + 1) bytes)) → IsTokenTo bytes at kind end
token_run bytes at end kind c n l e w g t =
    let f : drop at bytes ≡ c ∷ drop (at + 1) bytes = drop_more bytes at 0 l ∙ ap (λ d. d ∷ drop (at + 1) bytes) g in
    let m = length-drop (at + 1) bytes in
    let k : length (take n (drop (at + 1) bytes)) ≡ n = length-take-le n (drop (at + 1) bytes) (omega arith) in
    token_to bytes at end kind (c ∷ take n (drop (at + 1) bytes)) (drop n (drop (at + 1) bytes)) (omega arith) w
    (f ∙ ap (λ x. c ∷ x) (sym (take-append-drop n (drop (at + 1) bytes)))) (omega arith)
    (subst (λ b. TokenAt b (token_by kind (c ∷ take n (drop (at + 1) bytes))) (drop n (drop (at + 1) bytes))) (sym f) t)

-- no token, by the first byte
pub none_at : (bytes : Bytes) (at c : ℕ) → at < length bytes → get_or bytes at 0 ≡ c → NoTokenAt (c ∷ drop (at + 1) bytes) → NoTokenAt (drop at bytes)
none_at bytes at c l g n = subst (λ b. NoTokenAt b) (sym (drop_more bytes at 0 l ∙ ap (λ d. d ∷ drop (at + 1) bytes) g)) n

-- the second byte is this one
pub second_at : (bytes : Bytes) (at c d : ℕ) → at < length bytes → get_or bytes at 0 ≡ c → begins_with d (drop (at + 1) bytes) ≡ true → at + 1 < length bytes
    → drop at bytes ≡ c ∷ d ∷ drop (at + 2) bytes
second_at bytes at c d l g b m =
    let f = drop_more bytes (at + 1) 0 m in
    let e : get_or bytes (at + 1) 0 ≡ d = eqb-true (get_or bytes (at + 1) 0) d (sym (ap (begins_with d) f) ∙ b) in
    let next : drop (at + 1 + 1) bytes ≡ drop (at + 2) bytes = ap (λ k. drop k bytes) (omega arith) in
    drop_more bytes at 0 l ∙ ap (λ x. x ∷ drop (at + 1) bytes) g ∙ ap (λ x. c ∷ x) (f ∙ ap (λ x. x ∷ drop (at + 1 + 1) bytes) e ∙ ap (λ x. d ∷ x) next)
