-- Quoted texts in runs: what stands before a character that needs a backslash is written as it is.
use Rattle.std.proofs.Common.{◌≡◌, ℕ, zero, suc, ◌+◌, ◌<◌, ◌≤◌, [], ◌∷◌, ◌++◌, length, get_or, take, drop, refl, ap, sym, ◌∙◌, add-one, drop-cons, take_all, append-nil, append_assoc, arith, true, false, ltb}
use Rattle.std.specs.Prelude.{Bool, ◌||◌, ◌==◌, cond, Some, None, flat_map}
use Rattle.std.specs.List.{position, position_or_len}
use Rattle.std.proofs.lemmas.List.Quantifiers.{position-Some}
use Rattle.std.proofs.lemmas.List.Sums.{fails_before_first}
use Rattle.std.proofs.lemmas.List.{drop_all}
use Rattle.std.proofs.lemmas.Bool.Decides.{nat_tests}
use Rattle.si_defs.specs.Bytes.{Bytes}
use Rattle.si_defs.specs.Tokens.{escaped}

module _ (quote : ℕ) where
  -- whether a character needs a backslash
  abbrev needs : ℕ → Bool
  needs c = c == quote || c == 92

  escaped_plain : (c : ℕ) → needs c ≡ false → escaped quote c ≡ c ∷ []
  escaped_plain c h = ap (λ b. cond b (92 ∷ c ∷ []) (c ∷ [])) h

  escaped_needs : (c : ℕ) → needs c ≡ true → escaped quote c ≡ 92 ∷ c ∷ []
  escaped_needs c h = ap (λ b. cond b (92 ∷ c ∷ []) (c ∷ [])) h

  run : (i : ℕ) (xs : Bytes) → i ≤ length xs → ((k : ℕ) → k < i → needs (get_or xs k 0) ≡ false)
      → flat_map (escaped quote) xs ≡ take i xs ++ flat_map (escaped quote) (drop i xs)
  run zero xs h f = refl
  run (suc i) [] h f = absurd (omega arith)
  run (suc i) (x ∷ xs) h f =
      ap (λ l. l ++ flat_map (escaped quote) xs) (escaped_plain x (f 0 (omega arith)))
      ∙ ap (λ l. x ∷ l) (run i xs (omega arith) (λ k j. f (suc k) (omega arith)))

  -- the first run with the character after it, and what follows
  pub first_run : (xs : Bytes) (i c : ℕ) → Some i ≡ position (λ c. c == quote || c == 92) xs → get_or xs i 0 ≡ c
      → flat_map (escaped quote) xs ≡ (take i xs ++ 92 ∷ c ∷ []) ++ flat_map (escaped quote) (drop (i + 1) xs)
  first_run xs i c e g =
      let p = position-Some needs xs i 0 (sym e) in
      let h : i < length xs = p.0 in
      run i xs (omega arith) p.2
      ∙ ap (λ l. take i xs ++ flat_map (escaped quote) l) (drop-cons xs i 0 h)
      ∙ ap (λ l. take i xs ++ (l ++ flat_map (escaped quote) (drop (suc i) xs))) (escaped_needs (get_or xs i 0) p.1)
      ∙ sym (append_assoc (take i xs) (92 ∷ get_or xs i 0 ∷ []) (flat_map (escaped quote) (drop (suc i) xs)))
      ∙ ap (λ k. (take i xs ++ 92 ∷ get_or xs i 0 ∷ []) ++ flat_map (escaped quote) (drop k xs)) (sym (add-one i))
      ∙ ap (λ d. (take i xs ++ 92 ∷ d ∷ []) ++ flat_map (escaped quote) (drop (i + 1) xs)) g

  pub within_run : (xs : Bytes) (i : ℕ) → Some i ≡ position (λ c. c == quote || c == 92) xs → i < length xs
  within_run xs i e = (position-Some needs xs i 0 (sym e)).0

  -- and the last
  pub last_run : (xs : Bytes) → None ≡ position (λ c. c == quote || c == 92) xs → flat_map (escaped quote) xs ≡ xs
  last_run xs e = by (ltb (position_or_len needs xs) (length xs)) refl e where
    by : (b : Bool) → ltb (position_or_len needs xs) (length xs) ≡ b → None ≡ cond b (Some (position_or_len needs xs)) None → flat_map (escaped quote) xs ≡ xs
    by true f n = cc
    by false f n =
        let past : length xs ≤ position_or_len needs xs = grind (arith, nat_tests) in
        run (length xs) xs (omega arith) (λ k h. fails_before_first needs xs k 0 (omega arith))
        ∙ ap (λ l. take (length xs) xs ++ flat_map (escaped quote) l) (drop_all (length xs) xs (omega arith))
        ∙ append-nil (take (length xs) xs)
        ∙ take_all (length xs) xs (omega arith)
