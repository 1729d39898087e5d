-- Steps of readers: what a reader of a sequence gives, by what its parts give.
use Rattle.std.proofs.Common.{◌≡◌, List, ◌∷◌, ◌++◌, Option, Some, None, refl, sym, ap, ◌∙◌, subst}
use Rattle.std.proofs.lemmas.Option.{none-some, same_Some}
use Rattle.si_defs.specs.Tokens.{Token}
use Rattle.si_defs.proofs.ListLaws.{same_first, same_tail}
use Rattle.si_parse.specs.Parsing.{ReadsTokens}

-- of equal meanings
same_meaning : {A : Type 0} {x y : A} {xs ys : List Token} → ◌≡◌ {A = Option (A × List Token)} (Some (x, xs)) (Some (y, ys)) → x ≡ y
same_meaning e = ap (λ p. p.0) (same_Some _ _ e)

-- and equal rests
same_rest : {A : Type 0} {x y : A} {xs ys : List Token} → ◌≡◌ {A = Option (A × List Token)} (Some (x, xs)) (Some (y, ys)) → xs ≡ ys
same_rest e = ap (λ p. p.1) (same_Some _ _ e)

-- equal meanings and rests make equal results
same_result : {A : Type 0} {x y : A} {xs ys : List Token} → x ≡ y → xs ≡ ys → ◌≡◌ {A = Option (A × List Token)} (Some (x, xs)) (Some (y, ys))
same_result e f = cc

-- nothing is read where no front of the tokens has a meaning
pub parses_none : {M : Type 0} {Means : M → List Token → Type 0} {Follows : List Token → Type 0} {tokens : List Token}
    → ((m : M) (used rest : List Token) → tokens ≡ used ++ rest → Means m used → Follows rest → ⊥)
    → ReadsTokens Means Follows tokens None
parses_none never = record {
  found = λ m rest e. absurd (none-some _ e);
  every = λ m used rest e means follows. absurd (never m used rest e means follows);
}

-- what is read is the one meaning of a front
pub parses_some : {M : Type 0} {Means : M → List Token → Type 0} {Follows : List Token → Type 0} {tokens : List Token}
    (m : M) (used rest : List Token) → tokens ≡ used ++ rest → Means m used
    → ((other : M) (front behind : List Token) → tokens ≡ front ++ behind → Means other front → Follows behind → (m ≡ other) × (rest ≡ behind))
    → ReadsTokens Means Follows tokens (Some (m, rest))
parses_some {Means = Means} {tokens = tokens} m used rest front means unique = record {
  found = λ other behind e. (used, front ∙ ap (λ r. used ++ r) (same_rest e), subst (λ x. Means x used) (same_meaning e) means);
  every = λ other front behind e means' follows. let same = unique other front behind e means' follows in same_result same.0 same.1;
}

-- what a reader's result says
pub parses_uses : {M : Type 0} {Means : M → List Token → Type 0} {Follows : List Token → Type 0} {tokens : List Token}
    (m : M) (rest : List Token) → ReadsTokens Means Follows tokens (Some (m, rest)) → (used : List Token) × (tokens ≡ used ++ rest) × Means m used
parses_uses m rest p = p.found m rest refl

-- a second meaning at the front is the one that was read
pub parses_one : {M : Type 0} {Means : M → List Token → Type 0} {Follows : List Token → Type 0} {tokens : List Token}
    {m : M} {rest : List Token} → ReadsTokens Means Follows tokens (Some (m, rest))
    → (other : M) (front behind : List Token) → tokens ≡ front ++ behind → Means other front → Follows behind → (m ≡ other) × (rest ≡ behind)
parses_one p other front behind e means follows =
    let same = p.every other front behind e means follows in (same_meaning same, same_rest same)

-- where nothing was read no front has a meaning
pub parses_never : {M : Type 0} {Means : M → List Token → Type 0} {Follows : List Token → Type 0} {tokens : List Token}
    → ReadsTokens Means Follows tokens None
    → (m : M) (used rest : List Token) → tokens ≡ used ++ rest → Means m used → Follows rest → ⊥
parses_never p m used rest e means follows = none-some _ (p.every m used rest e means follows)

-- where what follows is not allowed, no front has a meaning with what is allowed after it
pub parses_refused : {M : Type 0} {Means : M → List Token → Type 0} {Follows : List Token → Type 0} {tokens : List Token}
    {m : M} {rest : List Token} → ReadsTokens Means Follows tokens (Some (m, rest)) → (Follows rest → ⊥) → ReadsTokens Means Follows tokens None
parses_refused {Follows = Follows} p refused = parses_none (λ other used behind e means follows.
    refused (subst Follows (sym (parses_one p other used behind e means follows).1) follows))

-- ---- fronts of lists
-- the first token of a front that is known
pub front_heads : {x y : Token} {xs used ys : List Token} (rest : List Token) → x ∷ xs ≡ used ++ rest → used ≡ y ∷ ys → x ≡ y
front_heads rest e f = same_first (e ∙ ap (λ u. u ++ rest) f)

-- and what stands after it
pub front_tails : {x y : Token} {xs used ys : List Token} (rest : List Token) → x ∷ xs ≡ used ++ rest → used ≡ y ∷ ys → xs ≡ ys ++ rest
front_tails rest e f = same_tail (e ∙ ap (λ u. u ++ rest) f)

-- the same reading of equal tokens with an equal result
pub parses_at : {M : Type 0} {Means : M → List Token → Type 0} {Follows : List Token → Type 0} {tokens same : List Token} {result other : Option (M × List Token)}
    → tokens ≡ same → result ≡ other → ReadsTokens Means Follows same other → ReadsTokens Means Follows tokens result
parses_at {Means = Means} {Follows = Follows} {same = same} {result = result} e f p =
    subst (λ x. ReadsTokens Means Follows x result) (sym e) (subst (λ x. ReadsTokens Means Follows same x) (sym f) p)
