-- Rows: what the reader of items with a sign between them gives, by what the reader of one item
-- gives.
use Rattle.std.proofs.Common.{◌≡◌, ◌+◌, ◌≤◌, List, [], ◌∷◌, ◌++◌, length, Some, None, refl, sym, ap, ◌∙◌, subst, append_assoc, append-nil, arith}
use Rattle.std.proofs.lemmas.List.{length-append}
use Rattle.si_defs.specs.Tokens.{Token}
use Rattle.si_defs.proofs.ListLaws.{same_tail}
use Rattle.si_parse.specs.Parsing.{ReadsTokens}
use Rattle.si_parse.specs.GrammarRules.{AreMore, AreSeparated}
use Rattle.si_parse.proofs.ParseSteps.{parses_none, parses_some, parses_uses, parses_one, parses_never}

-- Some items of a row were read: what is left goes on with a sign and the others as the tokens do.
pub record Along {M : Type 0} (Means : M → List Token → Type 0) (sign : Token) (Ends : List Token → Type 0) (tokens : List Token) (done : List M) (left : List Token) : Type 0 where
  found : (whole : List Token) × (tokens ≡ whole ++ left) × AreSeparated Means sign done whole
  every : (ms : List M) (used rest : List Token) → tokens ≡ used ++ rest → AreSeparated Means sign ms used → Ends rest
      → (others : List M) × (behind : List Token) × (ms ≡ done ++ others) × (left ≡ behind ++ rest) × AreMore Means sign others behind

-- the same items, said otherwise
pub along_at : {M : Type 0} {Means : M → List Token → Type 0} {sign : Token} {Ends : List Token → Type 0} {tokens left : List Token} {done same : List M} → done ≡ same
    → Along Means sign Ends tokens same left → Along Means sign Ends tokens done left
along_at {Means = Means} {sign = sign} {Ends = Ends} {tokens = tokens} {left = left} e along = subst (λ x. Along Means sign Ends tokens x left) (sym e) along

-- there are no more items than tokens, and one
more_few : {M : Type 0} (Means : M → List Token → Type 0) (sign : Token) (ms : List M) (ts : List Token) → AreMore Means sign ms ts → length ms ≤ length ts
more_few Means sign [] ts h = omega arith
more_few Means sign (m ∷ ms) ts (first, others, one, all, e) = omega (arith, more_few Means sign ms others all, ap length e, length-append first others)

pub row_few : {M : Type 0} {Means : M → List Token → Type 0} {Ends : List Token → Type 0} {sign : Token} {tokens rest : List Token} (ms : List M) → ReadsTokens (AreSeparated Means sign) Ends tokens (Some (ms, rest)) → length ms ≤ length tokens + 1
row_few {M = M} {Means = Means} {sign = sign} {tokens = tokens} {rest = rest} ms p = few ms (parses_uses ms rest p) where
  few : (ms : List M) → (used : List Token) × (tokens ≡ used ++ rest) × AreSeparated Means sign ms used → length ms ≤ length tokens + 1
  few [] h = omega arith
  few (m ∷ ms) (used, e, (first, others, one, all, f)) =
      omega (arith, more_few Means sign ms others all, ap length f, ap length e, length-append used rest, length-append first others)

module _ {M : Type 0} (Means : M → List Token → Type 0) {sign : Token} {Follows Ends : List Token → Type 0}
    (last : (rest : List Token) → Ends rest → Follows rest) (goes_on : (rest : List Token) → Follows (sign ∷ rest)) (stops : (rest : List Token) → Ends (sign ∷ rest) → ⊥) where
  -- what may stand after one item of a row may follow it
  behind_one : (ms : List M) (others rest : List Token) → AreMore Means sign ms others → Ends rest → Follows (others ++ rest)
  behind_one [] others rest e ends = subst Follows (ap (λ x. x ++ rest) (sym e)) (last rest ends)
  behind_one (m ∷ ms) others rest (first, more, one, all, e) ends = subst Follows (ap (λ x. x ++ rest) (sym e)) (goes_on ((first ++ more) ++ rest))

  -- one more item at the end
  more_push : (ms : List M) (m : M) (ts first : List Token) → AreMore Means sign ms ts → Means m first → AreMore Means sign (ms ++ m ∷ []) (ts ++ sign ∷ first)
  more_push [] m ts first e one = (first, [], one, refl, ap (λ x. x ++ sign ∷ first) e ∙ ap (λ x. sign ∷ x) (sym (append-nil first)))
  more_push (u ∷ us) m ts first (next, others, two, all, e) one =
      (next, others ++ sign ∷ first, two, more_push us m others first all one, ap (λ x. x ++ sign ∷ first) e ∙ ap (λ x. sign ∷ x) (append_assoc next others (sign ∷ first)))

  row_push : (ms : List M) (m : M) (ts first : List Token) → AreSeparated Means sign ms ts → Means m first → AreSeparated Means sign (ms ++ m ∷ []) (ts ++ sign ∷ first)
  row_push [] m ts first h one = absurd h
  row_push (u ∷ us) m ts first (next, others, two, all, e) one =
      (next, others ++ sign ∷ first, two, more_push us m others first all one, ap (λ x. x ++ sign ∷ first) e ∙ append_assoc next others (sign ∷ first))

  -- where no item is read there is no row
  pub row_none : {tokens : List Token} → ReadsTokens Means Follows tokens None → ReadsTokens (AreSeparated Means sign) Ends tokens None
  row_none {tokens = tokens} p = parses_none never where
    never : (ms : List M) (used rest : List Token) → tokens ≡ used ++ rest → AreSeparated Means sign ms used → Ends rest → ⊥
    never [] used rest e h ends = h
    never (u ∷ us) used rest e (first, more, one, all, f) ends =
        parses_never p u first (more ++ rest) (e ∙ ap (λ x. x ++ rest) f ∙ append_assoc first more rest) one (behind_one us more rest all ends)

  -- the first item was read
  pub along_first : {tokens left : List Token} {m : M} → ReadsTokens Means Follows tokens (Some (m, left)) → Along Means sign Ends tokens (m ∷ []) left
  along_first {tokens = tokens} {left = left} {m = m} p = record { found = let h = parses_uses m left p in (h.0, h.1, (h.0, [], h.2, refl, sym (append-nil h.0))); every = every } where
    every : (ms : List M) (used rest : List Token) → tokens ≡ used ++ rest → AreSeparated Means sign ms used → Ends rest
        → (others : List M) × (behind : List Token) × (ms ≡ m ∷ others) × (left ≡ behind ++ rest) × AreMore Means sign others behind
    every [] used rest e h ends = absurd h
    every (u ∷ us) used rest e (first, more, one, all, f) ends =
        let same = parses_one p u first (more ++ rest) (e ∙ ap (λ x. x ++ rest) f ∙ append_assoc first more rest) one (behind_one us more rest all ends) in
        (us, more, ap (λ x. x ∷ us) (sym same.0), same.1, all)

  module _ {tokens left : List Token} {done : List M} (along : Along Means sign Ends tokens done left) where
    -- no sign after the items: they are the whole row
    pub row_some : ((rest : List Token) → left ≡ sign ∷ rest → ⊥) → ReadsTokens (AreSeparated Means sign) Ends tokens (Some (done, left))
    row_some none = parses_some done along.found.0 left along.found.1 along.found.2 (λ ms used rest e row ends.
        let o = along.every ms used rest e row ends in unique ms o.0 o.1 rest o.2 o.3 o.4) where
          unique : (ms others : List M) (behind rest : List Token) → ms ≡ done ++ others → left ≡ behind ++ rest → AreMore Means sign others behind → (done ≡ ms) × (left ≡ rest)
          unique ms [] behind rest e f all = (sym (e ∙ append-nil done), f ∙ ap (λ x. x ++ rest) all)
          unique ms (u ∷ us) behind rest e f (first, more, one, all, g) = absurd (none _ (f ∙ ap (λ x. x ++ rest) g))

    -- a sign after the items
    module _ {next : List Token} (goes : left ≡ sign ∷ next) where
      -- how every row goes on after the sign
      row_goes : (others : List M) (behind rest : List Token) → left ≡ behind ++ rest → AreMore Means sign others behind → Ends rest
          → (u : M) × (us : List M) × (first : List Token) × (more : List Token) × (others ≡ u ∷ us) × Means u first × AreMore Means sign us more × (next ≡ first ++ (more ++ rest)) × Follows (more ++ rest)
      row_goes [] behind rest e all ends = absurd (stops next (subst Ends (sym e ∙ goes) (subst (λ x. Ends (x ++ rest)) (sym all) ends)))
      row_goes (u ∷ us) behind rest e (first, more, one, all, f) ends =
          (u, us, first, more, refl, one, all, same_tail (sym goes ∙ e ∙ ap (λ x. x ++ rest) f) ∙ append_assoc first more rest, behind_one us more rest all ends)

      -- without an item after it there is no row
      pub row_stop : ReadsTokens Means Follows next None → ReadsTokens (AreSeparated Means sign) Ends tokens None
      row_stop p = parses_none (λ ms used rest e row ends.
          let o = along.every ms used rest e row ends in
          let g = row_goes o.0 o.1 rest o.3 o.4 ends in
          parses_never p g.0 g.2 (g.3 ++ rest) g.7 g.5 g.8)

      -- one more item was read
      pub along_more : {m : M} {behind : List Token} → ReadsTokens Means Follows next (Some (m, behind)) → Along Means sign Ends tokens (done ++ m ∷ []) behind
      along_more {m = m} {behind = behind} p = record { found = found; every = every } where
        found : (whole : List Token) × (tokens ≡ whole ++ behind) × AreSeparated Means sign (done ++ m ∷ []) whole
        found =
            let h = parses_uses m behind p in (
              along.found.0 ++ sign ∷ h.0,
              along.found.1 ∙ ap (λ x. along.found.0 ++ x) (goes ∙ ap (λ x. sign ∷ x) h.1) ∙ sym (append_assoc along.found.0 (sign ∷ h.0) behind),
              row_push done m along.found.0 h.0 along.found.2 h.2,
            )

        every : (ms : List M) (used rest : List Token) → tokens ≡ used ++ rest → AreSeparated Means sign ms used → Ends rest
            → (others : List M) × (after : List Token) × (ms ≡ (done ++ m ∷ []) ++ others) × (behind ≡ after ++ rest) × AreMore Means sign others after
        every ms used rest e row ends =
            let o = along.every ms used rest e row ends in
            let g = row_goes o.0 o.1 rest o.3 o.4 ends in
            let same = parses_one p g.0 g.2 (g.3 ++ rest) g.7 g.5 g.8 in
            (g.1, g.3, o.2 ∙ ap (λ x. done ++ x) (g.4 ∙ ap (λ x. x ∷ g.1) (sym same.0)) ∙ sym (append_assoc done (m ∷ []) g.1), same.1, g.6)
