-- There is at most one least map, and so at most one answer to a question of subsumption.
use Rattle.std.proofs.Common.{◌≡◌, ℕ, inl, inr, List, [], ◌∷◌, refl, sym, ◌∙◌, arith}
use Rattle.si_defs.specs.Clauses.{Literal, Clause}
use Rattle.si_state.specs.Subsumption.{IsNoLater, IsLeast, MappedClause, AreMapped}

-- the order of lists is antisymmetric
both_ways : (ms ns : List ℕ) → IsNoLater ms ns → IsNoLater ns ms → ms ≡ ns
both_ways [] [] h k = refl
both_ways [] (n ∷ ns) h k = absurd k
both_ways (m ∷ ms) [] h k = absurd h
both_ways (m ∷ ms) (n ∷ ns) (inl less) (inl more) = absurd (omega (arith, less, more))
both_ways (m ∷ ms) (n ∷ ns) (inl less) (inr k) = absurd (omega (arith, less, k.0))
both_ways (m ∷ ms) (n ∷ ns) (inr h) (inl more) = absurd (omega (arith, more, h.0))
both_ways (m ∷ ms) (n ∷ ns) (inr h) (inr k) = let rest = both_ways ms ns h.1 k.1 in λ i. h.0 i ∷ rest i

one_least : (P : List ℕ → Type 0) (ms ns : List ℕ) → IsLeast P ms → IsLeast P ns → ms ≡ ns
one_least P ms ns h k = both_ways ms ns (h.no_later ns k.is_one) (k.no_later ms h.is_one)

pub same_mappings : (P : List Literal → List ℕ → Type 0) (cs : List Clause) (ms others : List MappedClause) → AreMapped P cs ms → AreMapped P cs others → ms ≡ others
same_mappings P [] ms others h k = h ∙ sym k
same_mappings P (c ∷ cs) ms others (inl (ns, rest, least, mapped, whole)) (inl (ks, left, least_too, mapped_too, whole_too)) =
    let same = one_least (P c.literals) ns ks least least_too in
    let after = same_mappings P cs rest left mapped mapped_too in
    whole ∙ (λ i. record { clause = c; numbers = same i } ∷ after i) ∙ sym whole_too
same_mappings P (c ∷ cs) ms others (inl h) (inr k) = absurd (k.0 h.0 h.2.is_one)
same_mappings P (c ∷ cs) ms others (inr h) (inl k) = absurd (h.0 k.0 k.2.is_one)
same_mappings P (c ∷ cs) ms others (inr h) (inr k) = same_mappings P cs ms others h.1 k.1
