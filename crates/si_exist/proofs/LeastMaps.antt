-- Where a clause has maps, one of them is the least; so questions of subsumption have an answer.
use Rattle.std.proofs.Common.{◌≡◌, ◌⊎◌, ℕ, zero, suc, ◌≤◌, List, [], ◌∷◌, length, inl, inr, refl, sym, ap, subst, arith}
use Rattle.std.proofs.Math.Nat.{eq-or-lt_of_le}
use Rattle.si_defs.specs.Clauses.{Literal, Clause}
use Rattle.si_state.specs.Subsumption.{AreImages, IsNoLater, IsLeast, IsMap, MappedClause, AreMapped, AreSubsumers, AreSubsumed}
use Rattle.si_exist.specs.OneList.{IsNotAbsent}
use Rattle.si_exist.proofs.NotAbsent.{there, and_then, either_way}

-- ---- numbers
module _ (P : ℕ → Type 0) where
  record IsLeastNumber (m : ℕ) : Type 0 where
    is_one : P m
    no_less : (k : ℕ) → P k → m ≤ k

  -- one of those below is the least, or there is none
  least_below : (n : ℕ) → IsNotAbsent (((m : ℕ) × IsLeastNumber m) ⊎ ((k : ℕ) → P k → n ≤ k))
  least_below zero = there (inr (λ k p. omega arith))
  least_below (suc n) =
      and_then (least_below n)
      (λ found.
      elim found [
        | inl m ↦ there (inl m)
        | inr low ↦
            either_way (P n)
            (λ here.
            elim here [
              | inl p ↦ there (inl (n, record { is_one = p; no_less = low }))
              | inr gone ↦
                  there
                  (
                  inr
                  (λ k p.
                  elim (eq-or-lt_of_le (low k p)) [
                    | inl e ↦ absurd (gone (subst P (sym e) p))
                    | inr less ↦ less
                  ])
                  )
            ])
      ])

  least_number : (n : ℕ) → P n → IsNotAbsent ((m : ℕ) × IsLeastNumber m)
  least_number n p =
      and_then (least_below (suc n))
      (λ found. elim found [ inl m ↦ there m | inr low ↦ (let high = low n p in absurd (omega (arith, high))) ])

-- ---- lists of numbers
no_later_than :
    (P : List ℕ → Type 0) (m : ℕ) (ms : List ℕ)
    → ((k : ℕ) → ((ks : List ℕ) × P (k ∷ ks)) → m ≤ k)
    → IsLeast (λ ks. P (m ∷ ks)) ms
    → (P [] → ⊥)
    → (ns : List ℕ) → P ns → IsNoLater (m ∷ ms) ns
no_later_than P m ms low least some [] p = absurd (some p)
no_later_than P m ms low least some (n ∷ ns) p =
    elim (eq-or-lt_of_le (low n (ns, p))) [
      | inl e ↦ inr (e, least.no_later ns (subst (λ k. P (k ∷ ns)) (sym e) p))
      | inr less ↦ inl less
    ]

least_list : (k : ℕ) (P : List ℕ → Type 0) → ((ns : List ℕ) → P ns → length ns ≡ k) → (ns : List ℕ) → P ns → IsNotAbsent ((ms : List ℕ) × IsLeast P ms)
least_list zero P sized [] p = there ([], record { is_one = p; no_later = λ ms q. tt })
least_list zero P sized (n ∷ ns) p = let long = sized (n ∷ ns) p in absurd (omega (arith, long))
least_list (suc k) P sized [] p = let short = sized [] p in absurd (omega (arith, short))
least_list (suc k) P sized (n ∷ ns) p =
    and_then (least_number (λ m. (ms : List ℕ) × P (m ∷ ms)) n (ns, p))
    (λ first.
    and_then
    (least_list k (λ ms. P (first.0 ∷ ms)) (λ ms q. let long = sized (first.0 ∷ ms) q in omega (arith, long)) first.1.is_one.0 first.1.is_one.1)
    (λ rest.
    there (
      first.0 ∷ rest.0,
      record {
        is_one = rest.1.is_one;
        no_later = no_later_than P first.0 rest.0 first.1.no_less rest.1 (λ q. let short = sized [] q in absurd (omega (arith, short)));
      },
    )))

-- ---- maps
images_count : {L K : Type 0} (P : L → K → Type 0) (ks : List K) (ls : List L) (ns : List ℕ) → AreImages P ks ls ns → length ns ≡ length ls
images_count P ks [] [] h = refl
images_count P ks [] (n ∷ ns) h = absurd h
images_count P ks (l ∷ ls) [] h = absurd h
images_count P ks (l ∷ ls) (n ∷ ns) h = ap suc (images_count P ks ls ns h.1)

map_count : (c d : List Literal) (ns : List ℕ) → IsMap c d ns → length ns ≡ length c
map_count c d ns h = images_count _ d c ns h.1.taken

mapped : (P : List Literal → List ℕ → Type 0) (count : List Literal → ℕ) → ((ls : List Literal) (ns : List ℕ) → P ls ns → length ns ≡ count ls) → (cs : List Clause) → IsNotAbsent ((ms : List MappedClause) × AreMapped P cs ms)
mapped P count sized [] = there ([], refl)
mapped P count sized (c ∷ cs) =
    and_then (mapped P count sized cs)
    (λ rest.
    either_way ((ns : List ℕ) × P c.literals ns)
    (λ here.
    elim here [
      | inr gone ↦ there (rest.0, inr (λ ns p. gone (ns, p), rest.1))
      | inl m ↦
          and_then (least_list (count c.literals) (P c.literals) (sized c.literals) m.0 m.1)
          (λ least. there (record { clause = c; numbers = least.0 } ∷ rest.0, inl (least.0, rest.0, least.1, rest.1, refl)))
    ]))

pub subsuming : (formula : List Literal) (cs : List Clause) → IsNotAbsent ((ms : List MappedClause) × AreSubsumers formula cs ms)
subsuming formula cs = mapped (λ ls. IsMap ls formula) length (λ ls ns h. map_count ls formula ns h) cs

pub being_subsumed : (formula : List Literal) (cs : List Clause) → IsNotAbsent ((ms : List MappedClause) × AreSubsumed formula cs ms)
being_subsumed formula cs = mapped (λ ls. IsMap formula ls) (λ ls. length formula) (λ ls ns h. map_count formula ls ns h) cs
