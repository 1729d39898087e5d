-- Blanks from one place of some bytes to another.
use Rattle.std.proofs.Common.{◌≡◌, ℕ, suc, ◌+◌, ◌<◌, ◌≤◌, true, false, min, [], ◌∷◌, ◌++◌, length, take, drop, get_or, refl, ap, sym, ◌∙◌, subst, ◌⊎◌, inl, inr, arith, append_assoc, length-append, drop-drop, ◌==◌}
use Rattle.std.specs.List.{list_any, prefix_len}
use Rattle.std.proofs.lemmas.List.{drop_more, drop_all, length-drop, length-take-le, take_all}
use Rattle.std.proofs.lemmas.Bool.{false≢true, cases_lt}
use Rattle.si_defs.specs.Bytes.{Bytes, is_white}
use Rattle.si_defs.specs.Tokens.{IsBlank, white, line_comment, block_comment, Skips, AreBlanks, IsLineComment, begins_with}
use Rattle.si_defs.proofs.TokenLaws.{skips_nothing}
use Rattle.si_lex.specs.Blanks.{NoBlankAt, NothingBlankAt, IsOneBlank}
use Rattle.si_lex.specs.Places.{IsBehindBlanks}
use Rattle.si_lex.specs.Scans.{is_in_line, before_close}
use Rattle.si_lex.proofs.BlankLaws.{skips_first, skips_more, skips_none, skips_further, skips_nil, line_open, place_where}
use Rattle.si_lex.proofs.PlaceLaws.{second_at}
use Rattle.si_lex.proofs.ScanLaws.{line_has_no_feed, line_feed_behind, comment_not_closed, close_behind, close_found}

-- ---- one blank
pub one_white : (bytes : Bytes) (at : ℕ) → at < length bytes → is_white (get_or bytes at 0) ≡ true → IsOneBlank bytes at (at + 1)
one_white bytes at l h = record {
  from = omega arith;
  within = omega arith;
  blank = inl (get_or bytes at 0 ∷ [], white (get_or bytes at 0) refl h, drop_more bytes at 0 l);
}

-- the bytes after a place
behind_place : (bytes : Bytes) (at end n : ℕ) → end ≡ at + n → drop end bytes ≡ drop n (drop at bytes)
behind_place bytes at end n e = ap (λ k. drop k bytes) e ∙ sym (drop-drop n at bytes)

pub one_line : (bytes : Bytes) (at end : ℕ) → at < length bytes → get_or bytes at 0 ≡ 37
    → end ≡ min (at + 1 + prefix_len is_in_line (drop (at + 1) bytes) + 1) (length bytes) → IsOneBlank bytes at end
one_line bytes at end l g e = record {
  from = omega arith;
  within = omega arith;
  blank = by (prefix_len is_in_line (drop (at + 1) bytes)) refl;
} where
  cs : Bytes
  cs = drop (at + 1) bytes

  here : drop at bytes ≡ 37 ∷ cs
  here = drop_more bytes at 0 l ∙ ap (λ d. d ∷ cs) g

  by : (n : ℕ) → prefix_len is_in_line (drop (at + 1) bytes) ≡ n → ((b : Bytes) × IsBlank b × (drop at bytes ≡ b ++ drop end bytes)) ⊎ (IsLineComment (drop at bytes) × (end ≡ length bytes))
  by n m = elim (cases_lt n (length (drop (at + 1) bytes))) [ inl h ↦ inl (closed h) | inr h ↦ inr (open_ h) ] where
    closed : n < length (drop (at + 1) bytes) → (b : Bytes) × IsBlank b × (drop at bytes ≡ b ++ drop end bytes)
    closed h =
        let k = length-drop (at + 1) bytes in
        let f : cs ≡ take n cs ++ 10 ∷ drop (suc n) cs = subst (λ i. cs ≡ take i cs ++ 10 ∷ drop (suc i) cs) m (line_feed_behind cs (omega arith)) in
        let r : drop end bytes ≡ drop (suc n) cs = behind_place bytes (at + 1) end (suc n) (omega arith) in
        let feed : list_any (λ c. c == 10) (take n cs) ≡ false = subst (λ i. list_any (λ c. c == 10) (take i cs) ≡ false) m (line_has_no_feed cs) in (
          37 ∷ (take n cs ++ 10 ∷ []),
          line_comment (37 ∷ take n cs) refl (take n cs, refl, feed),
          here ∙ ap (λ x. 37 ∷ x) (f ∙ ap (λ x. take n cs ++ 10 ∷ x) (sym r) ∙ sym (append_assoc (take n cs) (10 ∷ []) (drop end bytes))),
        )

    open_ : length (drop (at + 1) bytes) ≤ n → IsLineComment (drop at bytes) × (end ≡ length bytes)
    open_ h =
        let k = length-drop (at + 1) bytes in
        let all : take n cs ≡ cs = take_all n cs h in
        let feed : list_any (λ c. c == 10) (take n cs) ≡ false = subst (λ i. list_any (λ c. c == 10) (take i cs) ≡ false) m (line_has_no_feed cs) in
        ((cs, here, ap (list_any (λ c. c == 10)) (sym all) ∙ feed), omega arith)

pub one_comment : (bytes : Bytes) (at close : ℕ) → at < length bytes → get_or bytes at 0 ≡ 47 → begins_with 42 (drop (at + 1) bytes) ≡ true → at + 1 < length bytes
    → close ≡ at + 2 + before_close (drop (at + 2) bytes) → close < length bytes → IsOneBlank bytes at (close + 2)
one_comment bytes at close l g b m e h =
    let cs = drop (at + 2) bytes in
    let n = before_close cs in
    let k = length-drop (at + 2) bytes in
    let few : n < length cs = omega arith in
    let f = close_behind cs few in
    let r : drop (close + 2) bytes ≡ drop (suc (suc n)) cs = behind_place bytes (at + 2) (close + 2) (suc (suc n)) (omega arith) in
    let two = ap length f ∙ length-append (take n cs) (42 ∷ 47 ∷ drop (suc (suc n)) cs) in
    let front : length (take n cs) ≡ n = length-take-le n cs (omega arith) in
    record {
      from = omega arith;
      within = omega arith;
      blank = inl (
        47 ∷ 42 ∷ (take n cs ++ 42 ∷ 47 ∷ []),
        block_comment (take n cs, refl, comment_not_closed cs),
        second_at bytes at 47 42 l g b m
            ∙ ap (λ x. 47 ∷ 42 ∷ x) (f ∙ ap (λ x. take n cs ++ 42 ∷ 47 ∷ x) (sym r) ∙ sym (append_assoc (take n cs) (42 ∷ 47 ∷ []) (drop (close + 2) bytes))),
      );
    }

-- after a slash no blank stands but a closed comment
no_blank_slash : (cs : Bytes) → ((body rest : Bytes) → cs ≡ 42 ∷ (body ++ 42 ∷ 47 ∷ rest) → ⊥) → NothingBlankAt (47 ∷ cs)
no_blank_slash cs n = (none, λ k. false≢true (ap (begins_with 37) k.1)) where
  none : NoBlankAt (47 ∷ cs)
  none blank rest (white c q h) e =
      let same : 47 ≡ c = let k = e ∙ ap (λ x. x ++ rest) q in cc in
      false≢true (ap is_white same ∙ h)
  none blank rest (line_comment comment q k) e = first (e ∙ ap (λ x. x ++ rest) q ∙ ap (λ x. x ++ 10 ∷ [] ++ rest) k.1) where
    first : 47 ∷ cs ≡ 37 ∷ k.0 ++ 10 ∷ [] ++ rest → ⊥
    first f = false≢true (ap (begins_with 37) f)
  none blank rest (block_comment k) e =
      let f = e ∙ ap (λ x. x ++ rest) k.1 in
      let g : cs ≡ 42 ∷ (k.0 ++ 42 ∷ 47 ∷ [] ++ rest) = cc in
      n k.0 rest (g ∙ ap (λ x. 42 ∷ x) (append_assoc k.0 (42 ∷ 47 ∷ []) rest))

pub no_comment_open : (bytes : Bytes) (at close : ℕ) → at < length bytes → get_or bytes at 0 ≡ 47 → begins_with 42 (drop (at + 1) bytes) ≡ true → at + 1 < length bytes
    → close ≡ at + 2 + before_close (drop (at + 2) bytes) → length bytes ≤ close → NothingBlankAt (drop at bytes)
no_comment_open bytes at close l g b m e h =
    let k = length-drop (at + 2) bytes in
    let many : length (drop (at + 2) bytes) ≤ before_close (drop (at + 2) bytes) = omega arith in
    subst (λ x. NothingBlankAt x) (sym (second_at bytes at 47 42 l g b m)) (no_blank_slash (42 ∷ drop (at + 2) bytes) (none (drop (at + 2) bytes) many)) where
      none : (cs : Bytes) → length cs ≤ before_close cs → (body rest : Bytes) → 42 ∷ cs ≡ 42 ∷ (body ++ 42 ∷ 47 ∷ rest) → ⊥
      none cs many body rest f =
          let g : cs ≡ body ++ 42 ∷ 47 ∷ rest = cc in
          let found : before_close cs < length cs = rw g (close_found body rest) in
          omega arith

pub no_comment_slash : (bytes : Bytes) (at : ℕ) → at < length bytes → get_or bytes at 0 ≡ 47 → begins_with 42 (drop (at + 1) bytes) ≡ false → NothingBlankAt (drop at bytes)
no_comment_slash bytes at l g b =
    subst (λ x. NothingBlankAt x) (sym (drop_more bytes at 0 l ∙ ap (λ d. d ∷ drop (at + 1) bytes) g))
    (no_blank_slash (drop (at + 1) bytes) (λ body rest f. false≢true (sym b ∙ ap (begins_with 42) f)))

-- no blank begins with another byte
pub no_blank_other : (bytes : Bytes) (at : ℕ) → at < length bytes → (get_or bytes at 0 ≡ 37 → ⊥) → (get_or bytes at 0 ≡ 47 → ⊥) → is_white (get_or bytes at 0) ≡ false
    → NothingBlankAt (drop at bytes)
no_blank_other bytes at l p q w = (none, λ k. p (let f = here ∙ k.1 in cc)) where
  here : get_or bytes at 0 ∷ drop (at + 1) bytes ≡ drop at bytes
  here = sym (drop_more bytes at 0 l)

  none : NoBlankAt (drop at bytes)
  none blank rest (white c f h) e =
      let same : get_or bytes at 0 ≡ c = let k = here ∙ e ∙ ap (λ x. x ++ rest) f in cc in
      false≢true (sym w ∙ ap is_white same ∙ h)
  none blank rest (line_comment comment f k) e =
      p (let g = here ∙ e ∙ ap (λ x. x ++ rest) f ∙ ap (λ x. x ++ 10 ∷ [] ++ rest) k.1 in cc)
  none blank rest (block_comment k) e = q (let g = here ∙ e ∙ ap (λ x. x ++ rest) k.1 in cc)

-- what goes on after blanks is not blanks alone
not_blanks : (bytes place : Bytes) → Skips bytes place → NothingBlankAt place → (place ≡ [] → ⊥) → AreBlanks bytes → ⊥
not_blanks bytes place s n some a = at a.ends where
  further : Skips a.rest place
  further = skips_further bytes place a.rest s n.0 a.skips

  at : (a.rest ≡ []) ⊎ IsLineComment a.rest → ⊥
  at (inl e) = some (skips_nil place (subst (λ x. Skips x place) e further))
  at (inr k) = n.1 (subst (λ x. IsLineComment x) (sym (skips_none a.rest place (line_open a.rest k) further)) k)

-- ---- blanks up to a place
pub record IsSkipped (bytes : Bytes) (at place : ℕ) : Type 0 where
  pub from : at ≤ place
  pub within : place ≤ length bytes
  pub more : place < length bytes → Skips (drop at bytes) (drop place bytes)
  pub end : place ≡ length bytes → AreBlanks (drop at bytes)

-- at the end of the bytes
blanks_to_end : (bytes : Bytes) (at place : ℕ) → Skips (drop at bytes) (drop place bytes) → place ≡ length bytes → AreBlanks (drop at bytes)
blanks_to_end bytes at place s e = record { rest = drop place bytes; skips = s; ends = inl (drop_all place bytes (omega arith)) }

pub skipped_none : (bytes : Bytes) (at : ℕ) → at ≤ length bytes → IsSkipped bytes at at
skipped_none bytes at l = record {
  from = omega arith;
  within = l;
  more = λ h. skips_nothing (drop at bytes);
  end = λ e. blanks_to_end bytes at at (skips_nothing (drop at bytes)) e;
}

pub skipped_more : (bytes : Bytes) (at place end : ℕ) → IsSkipped bytes at place → place < length bytes → IsOneBlank bytes place end → IsSkipped bytes at end
skipped_more bytes at place end s l b =
    let from = b.from in
    let before = s.from in
    record { from = omega arith; within = b.within; more = λ h. more h b.blank; end = λ e. at_end e b.blank } where
      one : (x : Bytes) → IsBlank x → drop place bytes ≡ x ++ drop end bytes → Skips (drop at bytes) (drop end bytes)
      one x k f = skips_more (drop at bytes) (drop place bytes) (drop end bytes) (s.more l) (skips_first (drop place bytes) x (drop end bytes) (drop end bytes) k f (skips_nothing (drop end bytes)))

      more : end < length bytes → ((x : Bytes) × IsBlank x × (drop place bytes ≡ x ++ drop end bytes)) ⊎ (IsLineComment (drop place bytes) × (end ≡ length bytes)) → Skips (drop at bytes) (drop end bytes)
      more h (inl k) = one k.0 k.1 k.2
      more h (inr k) = let e = k.1 in absurd (omega arith)

      at_end : end ≡ length bytes → ((x : Bytes) × IsBlank x × (drop place bytes ≡ x ++ drop end bytes)) ⊎ (IsLineComment (drop place bytes) × (end ≡ length bytes)) → AreBlanks (drop at bytes)
      at_end e (inl k) = blanks_to_end bytes at end (one k.0 k.1 k.2) e
      at_end e (inr k) = record { rest = drop place bytes; skips = s.more l; ends = inr k.0 }

pub skipped_all : (bytes : Bytes) (at place : ℕ) → IsSkipped bytes at place → length bytes ≤ place → IsBehindBlanks bytes (drop at bytes) place
skipped_all bytes at place s l = record { within = s.within; more = λ h. absurd (omega arith); goes_on = λ h. absurd (omega arith); end = s.end }

pub skipped_here : (bytes : Bytes) (at place : ℕ) → IsSkipped bytes at place → place < length bytes → NothingBlankAt (drop place bytes) → IsBehindBlanks bytes (drop at bytes) place
skipped_here bytes at place s l n = record {
  within = s.within;
  more = λ h. place_where (drop at bytes) (drop place bytes) (s.more h) n.0;
  goes_on = λ h. not_blanks (drop at bytes) (drop place bytes) (s.more h) n some;
  end = s.end;
} where
  some : drop place bytes ≡ [] → ⊥
  some e = let k = ap length e in let m = length-drop place bytes in omega arith
