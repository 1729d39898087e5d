-- Readers one after another, and the same meanings by another name.
use Rattle.std.proofs.Common.{◌≡◌, List, ◌++◌, Some, None, refl, sym, ap, ◌∙◌, append_assoc}
use Rattle.si_defs.specs.Tokens.{Token}
use Rattle.si_parse.specs.Parsing.{ReadsTokens}
use Rattle.si_parse.proofs.ParseSteps.{parses_none, parses_some, parses_uses, parses_one, parses_never}

-- two meanings, one after the other
abbrev pub Then : {M N : Type 0} → (M → List Token → Type 0) → (N → List Token → Type 0) → M × N → List Token → Type 0
Then A B p ts = (front : List Token) × (back : List Token) × A p.0 front × B p.1 back × (ts ≡ front ++ back)

module _ {M N : Type 0} {A : M → List Token → Type 0} {B : N → List Token → Type 0} {F G : List Token → Type 0} {tokens : List Token}
    (follows : (n : N) (used rest : List Token) → B n used → G rest → F (used ++ rest)) where
  -- both are read
  pub then_some : {m : M} {n : N} {left rest : List Token} → ReadsTokens A F tokens (Some (m, left)) → ReadsTokens B G left (Some (n, rest))
      → ReadsTokens (Then A B) G tokens (Some ((m, n), rest))
  then_some {m = m} {n = n} {left = left} {rest = rest} p q =
      let h = parses_uses m left p in
      let k = parses_uses n rest q in
      parses_some (m, n) (h.0 ++ k.0) rest (h.1 ∙ ap (λ x. h.0 ++ x) k.1 ∙ sym (append_assoc h.0 k.0 rest)) (h.0, k.0, h.2, k.2, refl) unique where
        unique : (other : M × N) (front behind : List Token) → tokens ≡ front ++ behind → Then A B other front → G behind
            → (◌≡◌ {A = M × N} (m, n) other) × (rest ≡ behind)
        unique other front behind e (u, v, one, two, f) g =
            let first = parses_one p other.0 u (v ++ behind) (e ∙ ap (λ x. x ++ behind) f ∙ append_assoc u v behind) one (follows other.1 v behind two g) in
            let second = parses_one q other.1 v behind first.1 two g in
            (λ i. (first.0 i, second.0 i), second.1)

  -- the first is not read
  pub then_none : ReadsTokens A F tokens None → ReadsTokens (Then A B) G tokens None
  then_none p = parses_none never where
    never : (other : M × N) (front behind : List Token) → tokens ≡ front ++ behind → Then A B other front → G behind → ⊥
    never other front behind e (u, v, one, two, f) g =
        parses_never p other.0 u (v ++ behind) (e ∙ ap (λ x. x ++ behind) f ∙ append_assoc u v behind) one (follows other.1 v behind two g)

  -- the second is not read
  pub then_stop : {m : M} {left : List Token} → ReadsTokens A F tokens (Some (m, left)) → ReadsTokens B G left None → ReadsTokens (Then A B) G tokens None
  then_stop p q = parses_none never where
    never : (other : M × N) (front behind : List Token) → tokens ≡ front ++ behind → Then A B other front → G behind → ⊥
    never other front behind e (u, v, one, two, f) g =
        let first = parses_one p other.0 u (v ++ behind) (e ∙ ap (λ x. x ++ behind) f ∙ append_assoc u v behind) one (follows other.1 v behind two g) in
        parses_never q other.1 v behind first.1 two g

-- Meanings by another name: each of the first is one of the second, and each of the second at the
-- front of these tokens is one of the first.
module _ {M N : Type 0} {A : M → List Token → Type 0} {B : N → List Token → Type 0} {F : List Token → Type 0} {tokens : List Token} (f : M → N)
    (to : (m : M) (used : List Token) → A m used → B (f m) used)
    (from : (n : N) (used rest : List Token) → tokens ≡ used ++ rest → B n used → F rest → (m : M) × (f m ≡ n) × A m used) where
  pub renamed_some : {m : M} {rest : List Token} → ReadsTokens A F tokens (Some (m, rest)) → ReadsTokens B F tokens (Some (f m, rest))
  renamed_some {m = m} {rest = rest} p =
      let h = parses_uses m rest p in
      parses_some (f m) h.0 rest h.1 (to m h.0 h.2) (λ other front behind e means follows.
      let k = from other front behind e means follows in
      let same = parses_one p k.0 front behind e k.2 follows in (ap f same.0 ∙ k.1, same.1))

  pub renamed_none : ReadsTokens A F tokens None → ReadsTokens B F tokens None
  renamed_none p = parses_none (λ other front behind e means follows.
      let k = from other front behind e means follows in parses_never p k.0 front behind e k.2 follows)
