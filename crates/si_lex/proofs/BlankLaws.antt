-- Blanks are found in one way only, so that the place after the longest of them is one.
use Rattle.std.proofs.Common.{◌≡◌, ◌≤◌, ◌<◌, Bool, true, false, cond, ◌&&◌, ◌||◌, ◌==◌, List, [], ◌∷◌, ◌++◌, length, drop, refl, ap, sym, ◌∙◌, subst, arith, append_assoc, length-append}
use Rattle.std.specs.List.{list_any, AllByRecursion, concat}
use Rattle.std.proofs.lemmas.Bool.{or_parts, false≢true}
use Rattle.si_defs.specs.Bytes.{Bytes, is_white}
use Rattle.si_defs.specs.Tokens.{IsBlank, white, line_comment, block_comment, Skips, IsLineComment, has_close, begins_with}
use Rattle.si_defs.specs.Texts.{IsPlace}
use Rattle.si_defs.proofs.TokenLaws.{skips_nothing}
use Rattle.si_lex.specs.Blanks.{NoBlankAt}

-- ---- what stands after the blank at the front
abbrev behind_line : Bytes → Bytes
behind_line [] = []
behind_line (c ∷ cs) = cond (c == 10) cs (behind_line cs)

abbrev behind_close : Bytes → Bytes
behind_close [] = []
behind_close (c ∷ cs) = cond (c == 42 && begins_with 47 cs) (drop 1 cs) (behind_close cs)

abbrev behind_blank : Bytes → Bytes
behind_blank [] = []
behind_blank (c ∷ cs) = cond (is_white c) cs (cond (c == 37) (behind_line cs) (behind_close (drop 1 cs)))

line_ends : (body rest : Bytes) → list_any (λ c. c == 10) body ≡ false → behind_line (body ++ 10 ∷ rest) ≡ rest
line_ends [] rest h = refl
line_ends (c ∷ body) rest h =
    let k = or_parts (c == 10) (list_any (λ d. d == 10) body) h in
    rw k.0 (line_ends body rest k.1)

-- the first byte after some bytes, with more after it or not
pub begins_same : (body rest : Bytes) → begins_with 47 (body ++ 42 ∷ []) ≡ begins_with 47 (body ++ 42 ∷ rest)
begins_same [] rest = refl
begins_same (c ∷ body) rest = refl

comment_closes : (body rest : Bytes) → has_close (body ++ 42 ∷ []) ≡ false → behind_close (body ++ 42 ∷ 47 ∷ rest) ≡ rest
comment_closes [] rest h = refl
comment_closes (c ∷ body) rest h =
    let k = or_parts (c == 42 && begins_with 47 (body ++ 42 ∷ [])) (has_close (body ++ 42 ∷ [])) h in
    let e : (c == 42 && begins_with 47 (body ++ 42 ∷ 47 ∷ rest)) ≡ false = ap (λ b. c == 42 && b) (sym (begins_same body (47 ∷ rest))) ∙ k.0 in
    rw e (comment_closes body rest k.1)

behind_blank_is : (blank rest : Bytes) → IsBlank blank → behind_blank (blank ++ rest) ≡ rest
behind_blank_is blank rest (white c e h) = subst (λ b. behind_blank (b ++ rest) ≡ rest) (sym e) (rw h refl)
behind_blank_is blank rest (line_comment comment e c) =
    let f : blank ≡ 37 ∷ (c.0 ++ 10 ∷ []) = e ∙ ap (λ t. t ++ 10 ∷ []) c.1 in
    subst (λ b. behind_blank (b ++ rest) ≡ rest) (sym f) (ap behind_line (append_assoc c.0 (10 ∷ []) rest) ∙ line_ends c.0 rest c.2)
behind_blank_is blank rest (block_comment c) =
    subst (λ b. behind_blank (b ++ rest) ≡ rest) (sym c.1) (ap behind_close (append_assoc c.0 (42 ∷ 47 ∷ []) rest) ∙ comment_closes c.0 rest c.2)

-- two blanks at one place have the same bytes after them
pub blank_unique : (a b r s : Bytes) → IsBlank a → IsBlank b → a ++ r ≡ b ++ s → r ≡ s
blank_unique a b r s p q e = sym (behind_blank_is a r p) ∙ ap behind_blank e ∙ behind_blank_is b s q

-- ---- blanks after blanks
pub skips_first : (bytes blank rest place : Bytes) → IsBlank blank → bytes ≡ blank ++ rest → Skips rest place → Skips bytes place
skips_first bytes blank rest place b e s = record {
  blanks = blank ∷ s.blanks;
  each = (b, s.each);
  whole = e ∙ ap (λ r. blank ++ r) s.whole ∙ sym (append_assoc blank (concat s.blanks) place);
}

pub skips_more : (bytes middle place : Bytes) → Skips bytes middle → Skips middle place → Skips bytes place
skips_more bytes middle place s t = walk s.blanks s.each bytes s.whole where
  walk : (blanks : List Bytes) → AllByRecursion IsBlank blanks → (from : Bytes) → from ≡ concat blanks ++ middle → Skips from place
  walk [] each from e = subst (λ b. Skips b place) (sym e) t
  walk (b ∷ bs) each from e =
      skips_first from b (concat bs ++ middle) place each.0 (e ∙ append_assoc b (concat bs) middle) (walk bs each.1 (concat bs ++ middle) refl)

-- where no blank stands none is skipped
pub skips_none : (bytes place : Bytes) → NoBlankAt bytes → Skips bytes place → place ≡ bytes
skips_none bytes place n s = at s.blanks s.each s.whole where
  at : (blanks : List Bytes) → AllByRecursion IsBlank blanks → bytes ≡ concat blanks ++ place → place ≡ bytes
  at [] each e = sym e
  at (b ∷ bs) each e = absurd (n b (concat bs ++ place) each.0 (e ∙ append_assoc b (concat bs) place))

-- blanks that end where no blank stands are the longest: after any others the rest of them stands
pub skips_further : (bytes place other : Bytes) → Skips bytes place → NoBlankAt place → Skips bytes other → Skips other place
skips_further bytes place other s n t = walk s.blanks s.each t.blanks t.each bytes s.whole t.whole where
  walk : (ps : List Bytes) → AllByRecursion IsBlank ps → (qs : List Bytes) → AllByRecursion IsBlank qs
      → (from : Bytes) → from ≡ concat ps ++ place → from ≡ concat qs ++ other → Skips other place
  walk ps p [] q from e f = record { blanks = ps; each = p; whole = sym f ∙ e }
  walk [] p (b ∷ qs) q from e f = absurd (n b (concat qs ++ other) q.0 (sym e ∙ f ∙ append_assoc b (concat qs) other))
  walk (a ∷ ps) p (b ∷ qs) q from e f =
      let g = blank_unique a b (concat ps ++ place) (concat qs ++ other) p.0 q.0
      (sym (append_assoc a (concat ps) place) ∙ sym e ∙ f ∙ append_assoc b (concat qs) other) in
      walk ps p.1 qs q.1 (concat ps ++ place) refl g

-- skipping leaves no more bytes than there were
pub skips_shorter : (bytes place : Bytes) → Skips bytes place → length place ≤ length bytes
skips_shorter bytes place s = let e = ap length s.whole ∙ length-append (concat s.blanks) place in omega arith

-- so they end at the place after the longest blanks
pub place_where : (bytes place : Bytes) → Skips bytes place → NoBlankAt place → IsPlace bytes place
place_where bytes place s n = record {
  skips = s;
  longest = λ other t. skips_shorter other place (skips_further bytes place other s n t);
}

-- no blank is empty
pub blank_some : (blank : Bytes) → IsBlank blank → 0 < length blank
blank_some blank (white c e h) = let l = ap length e in omega arith
blank_some blank (line_comment comment e c) = let l = ap length e ∙ length-append comment (10 ∷ []) in omega arith
blank_some blank (block_comment c) = let l = ap length c.1 in omega arith

-- and no blank stands there
pub place_no_blank : (bytes place : Bytes) → IsPlace bytes place → NoBlankAt place
place_no_blank bytes place p blank rest b e =
    let l = p.longest rest (skips_more bytes place rest p.skips (skips_first place blank rest rest b e (skips_nothing rest))) in
    let m = ap length e ∙ length-append blank rest in
    let s = blank_some blank b in
    omega arith

-- the place after the longest blanks is the only one
pub place_unique : (bytes place other : Bytes) → IsPlace bytes place → IsPlace bytes other → place ≡ other
place_unique bytes place other p q =
    skips_none other place (place_no_blank bytes other q) (skips_further bytes place other p.skips (place_no_blank bytes place p) q.skips)

-- nothing stands after the end
pub skips_nil : (place : Bytes) → Skips [] place → place ≡ []
skips_nil place s = at_end s.blanks place s.whole where
  at_end : (blanks : List Bytes) (p : Bytes) → [] ≡ concat blanks ++ p → p ≡ []
  at_end blanks [] e = refl
  at_end blanks (c ∷ cs) e = absurd (omega (arith, ap length e, length-append (concat blanks) (c ∷ cs)))

-- a line comment that no line feed closes is no blank
pub line_open : (bytes : Bytes) → IsLineComment bytes → NoBlankAt bytes
line_open bytes k blank rest b e = at b where
  passes : (body : Bytes) (after : Bytes) → list_any (λ c. c == 10) (body ++ 10 ∷ after) ≡ true
  passes [] after = refl
  passes (c ∷ body) after = by (c == 10) (passes body after) where
    by : (b : Bool) → list_any (λ d. d == 10) (body ++ 10 ∷ after) ≡ true → (b || list_any (λ d. d == 10) (body ++ 10 ∷ after)) ≡ true
    by true h = refl
    by false h = h

  at : IsBlank blank → ⊥
  at (white c f h) = let same : 37 ≡ c = let l = sym k.1 ∙ e ∙ ap (λ x. x ++ rest) f in cc in false≢true (ap is_white same ∙ h)
  at (line_comment comment f l) =
      let g : 37 ∷ k.0 ≡ 37 ∷ (l.0 ++ 10 ∷ rest) = sym k.1 ∙ e ∙ ap (λ x. x ++ rest) f ∙ ap (λ x. x ++ 10 ∷ [] ++ rest) l.1 ∙ ap (λ x. 37 ∷ x) (append_assoc l.0 (10 ∷ []) rest) in
      let same : k.0 ≡ l.0 ++ 10 ∷ rest = cc in
      false≢true (sym k.2 ∙ ap (list_any (λ c. c == 10)) same ∙ passes l.0 rest)
  at (block_comment l) =
      let g = sym k.1 ∙ e ∙ ap (λ x. x ++ rest) l.1 in
      false≢true (ap opens_first g) where
        opens_first : Bytes → Bool
        opens_first [] = false
        opens_first (c ∷ cs) = c == 47
