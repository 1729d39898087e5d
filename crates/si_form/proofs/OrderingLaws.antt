-- How far an ordering has come.
use Rattle.std.proofs.Common.{◌≡◌, ◌≢◌, ℕ, ◌+◌, ◌-◌, ◌<◌, ◌≤◌, ◌↔◌, ◌⊎◌, inl, inr, true, false, if◌then◌else◌, List, [], ◌∷◌, ◌++◌, length, take, drop, get_or, suc, zero, refl, sym, ◌∙◌, ap, subst, arith, append_assoc, append-nil, length-append, Option, Some, None}
use Rattle.std.proofs.lemmas.Bool.Decides.{eqb_tells}
use Rattle.std.proofs.lemmas.Bool.{cases_lt}
use Rattle.std.proofs.lemmas.List.{drop_more, get_or_default, get_or-set_same, get_or-set_other, length-set, length-take, take_more}
use Rattle.std.proofs.Math.ListN.{set}
use Rattle.std.specs.Prelude.{◌==◌, Vec}
use Rattle.std.proofs.Common.{Ordering, Less, Equal, Greater}
use Rattle.std.specs.Ordering.{nat_cmp, match_ordering, MatchOrdering}
use Rattle.std.specs.Cmp.{ranks}
use Rattle.std.specs.BTreeSet.{insert_key}
use Rattle.std.specs.List.{AllByRecursion}
use Rattle.si_defs.specs.Substitutions.{IsAmong, AreDistinct}
use Rattle.si_defs.proofs.ListLaws.{all_at, all_from, among_parts, among_front, among_back}
use Rattle.si_form.specs.Ordering.{list_of, uses_at, list_or_none, times_among, IsListed, IsFirstUnused, AreFirstUnused, AreOrdered, HasNoCircle, times_used, with_listed, listed_below, IsPartlyOrdered, IsListedFree}

-- ---- occurrences
times_of_among : (xs : List ℕ) (j : ℕ) → IsAmong xs j → 0 < times_among xs j
times_of_among [] j a = elim a [ ]
times_of_among (x ∷ xs) j a =
    elim (eqb_tells x j) [
      | inl h ↦ rw h.0 (omega arith)
      | inr h ↦ rw h.0 (elim a [ inl e ↦ absurd (h.1 e) | inr b ↦ (let k = times_of_among xs j b in omega (arith, k)) ])
    ]

among_of_times : (xs : List ℕ) (j : ℕ) → 0 < times_among xs j → IsAmong xs j
among_of_times [] j h = absurd (omega (arith, h))
among_of_times (x ∷ xs) j h =
    elim (eqb_tells x j) [
      | inl e ↦ inl e.1
      | inr e ↦ inr (among_of_times xs j (let k = (rw e.0 at h) in omega (arith, k)))
    ]

-- ---- one taken out
abbrev without : ℕ → List ℕ → List ℕ
without k [] = []
without k (x ∷ xs) = if x == k then xs else x ∷ without k xs

among_without : (k : ℕ) (xs : List ℕ) (j : ℕ) → IsAmong (without k xs) j → IsAmong xs j
among_without k [] j a = a
among_without k (x ∷ xs) j a =
    elim (eqb_tells x k) [
      | inl e ↦ inr (rw e.0 at a)
      | inr e ↦ (let b : IsAmong (x ∷ without k xs) j = rw e.0 at a in elim b [ inl f ↦ inl f | inr c ↦ inr (among_without k xs j c) ])
    ]

among_rest : (k : ℕ) (xs : List ℕ) (j : ℕ) → IsAmong xs j → (k ≡ j) ⊎ IsAmong (without k xs) j
among_rest k [] j a = inr a
among_rest k (x ∷ xs) j a =
    elim (eqb_tells x k) [
      | inl e ↦ rw e.0 (elim a [ inl f ↦ inl (sym e.1 ∙ f) | inr b ↦ inr b ])
      | inr e ↦ rw e.0 (elim a [ inl f ↦ inr (inl f) | inr b ↦ elim (among_rest k xs j b) [ inl f ↦ inl f | inr c ↦ inr (inr c) ] ])
    ]

distinct_without : (k : ℕ) (xs : List ℕ) → AreDistinct xs → AreDistinct (without k xs)
distinct_without k [] h = tt
distinct_without k (x ∷ xs) h =
    elim (eqb_tells x k) [
      | inl e ↦ rw e.0 h.1
      | inr e ↦ rw e.0 ((λ a. h.0 (among_without k xs x a)), distinct_without k xs h.1)
    ]

gone_without : (k : ℕ) (xs : List ℕ) → AreDistinct xs → IsAmong (without k xs) k → ⊥
gone_without k [] h a = elim a [ ]
gone_without k (x ∷ xs) h a =
    elim (eqb_tells x k) [
      | inl e ↦ h.0 (subst (IsAmong xs) (sym e.1) (rw e.0 at a))
      | inr e ↦ (let b : IsAmong (x ∷ without k xs) k = rw e.0 at a in elim b [ inl f ↦ e.1 f | inr c ↦ gone_without k xs h.1 c ])
    ]

length_without : (k : ℕ) (xs : List ℕ) → IsAmong xs k → length xs ≡ suc (length (without k xs))
length_without k [] a = elim a [ ]
length_without k (x ∷ xs) a =
    elim (eqb_tells x k) [
      | inl e ↦ rw e.0 refl
      | inr e ↦ rw e.0 (elim a [ inl f ↦ absurd (e.1 f) | inr b ↦ ap suc (length_without k xs b) ])
    ]

-- the member with the greatest rank
greatest : (rank : ℕ → ℕ) (x : ℕ) (xs : List ℕ) → (m : ℕ) × IsAmong (x ∷ xs) m × AllByRecursion (λ y. rank y ≤ rank m) (x ∷ xs)
greatest rank x [] = (x, inl refl, (omega arith, tt))
greatest rank x (y ∷ ys) =
    let r = greatest rank y ys in
    elim (cases_lt (rank r.0) (rank x)) [
      | inl less ↦ (x, inl refl, (omega arith, all_from (λ z. rank z ≤ rank x) (y ∷ ys) (λ z a. (let k = all_at (λ w. rank w ≤ rank r.0) (y ∷ ys) z r.2 a in omega (arith, k, less)))))
      | inr more ↦ (r.0, inr r.1, (omega (arith, more), r.2))
    ]

module _ (used : ℕ → Option (List ℕ)) where
  -- ---- how often some use a number
  used_without : (k : ℕ) (is : List ℕ) (j : ℕ) → IsAmong is k → times_used used is j ≡ times_used used (without k is) j + times_among (list_or_none (used k)) j
  used_without k [] j a = elim a [ ]
  used_without k (i ∷ is) j a =
      elim (eqb_tells i k) [
        | inl e ↦ rw e.0 (let same : times_among (list_or_none (used i)) j ≡ times_among (list_or_none (used k)) j = ap (λ z. times_among (list_or_none (used z)) j) e.1 in omega (arith, same))
        | inr e ↦ rw e.0 (elim a [ inl f ↦ absurd (e.1 f) | inr b ↦ (let r = used_without k is j b in omega (arith, r)) ])
      ]

  used_some : (is : List ℕ) (j : ℕ) → 0 < times_used used is j → (i : ℕ) × IsAmong is i × IsAmong (list_or_none (used i)) j
  used_some [] j h = absurd (omega (arith, h))
  used_some (i ∷ is) j h =
      elim (cases_lt 0 (times_among (list_or_none (used i)) j)) [
        | inl some ↦ (i, inl refl, among_of_times (list_or_none (used i)) j some)
        | inr none ↦ (let r = used_some is j (omega (arith, h, none)) in (r.0, inr r.1, r.2))
      ]

  used_none : (is : List ℕ) (j i : ℕ) → times_used used is j ≡ 0 → IsAmong is i → IsAmong (list_or_none (used i)) j → ⊥
  used_none [] j i h a b = elim a [ ]
  used_none (x ∷ is) j i h a b =
      elim a [
        | inl e ↦ (let k = times_of_among (list_or_none (used x)) j (subst (λ z. IsAmong (list_or_none (used z)) j) (sym e) b) in absurd (omega (arith, h, k)))
        | inr c ↦ used_none is j i (omega (arith, h)) c b
      ]

  zero_or_more : (n : ℕ) → (n ≡ 0) ⊎ (0 < n)
  zero_or_more zero = inl refl
  zero_or_more (suc n) = inr (omega arith)

  -- ---- one place more
  pub next_more : (before ks : List ℕ) (k : ℕ) → AreFirstUnused used before ks → IsFirstUnused used (before ++ ks) k → AreFirstUnused used before (ks ++ k ∷ [])
  next_more before [] k h next = (subst (λ l. IsFirstUnused used l k) (append-nil before) next, tt)
  next_more before (x ∷ ks) k h next = (h.0, next_more (before ++ x ∷ []) ks k h.1 (subst (λ l. IsFirstUnused used l k) (sym (append_assoc before (x ∷ []) ks)) next))

  -- ---- the start
  listed_among : (n k : ℕ) → IsAmong (listed_below used n) k → (k < n) × IsListed used k
  listed_among zero k a = elim a [ ]
  listed_among (suc n) k a = by (used n) refl a (λ b. listed_among n k b)
    where
      by : (o : Option (List ℕ)) → used n ≡ o → IsAmong (with_listed n o (listed_below used n)) k → (IsAmong (listed_below used n) k → (k < n) × IsListed used k) → (k < suc n) × IsListed used k
      by None e b later = let r = later b in (omega (arith, r.0), r.1)
      by (Some xs) e b later =
          elim b [
            | inl same ↦ (omega (arith, same), (xs, ap used (sym same) ∙ e))
            | inr c ↦ (let r = later c in (omega (arith, r.0), r.1))
          ]

  lower : (k n : ℕ) → k < suc n → k ≢ n → k < n
  lower k n less differs = omega (arith, less, differs)

  among_listed : (n k : ℕ) (xs : List ℕ) → k < n → used k ≡ Some xs → IsAmong (listed_below used n) k
  among_listed zero k xs less e = absurd (omega (arith, less))
  among_listed (suc n) k xs less e = by (used n) refl (λ m. among_listed n k xs m e)
    where
      by : (o : Option (List ℕ)) → used n ≡ o → (k < n → IsAmong (listed_below used n) k) → IsAmong (with_listed n o (listed_below used n)) k
      by None f later =
          elim (eqb_tells k n) [
            | inl same ↦ let bad : None ≡ Some xs = sym f ∙ ap used (sym same.1) ∙ e in cc
            | inr differs ↦ later (lower k n less differs.1)
          ]
      by (Some ys) f later =
          elim (eqb_tells k n) [
            | inl same ↦ inl (sym same.1)
            | inr differs ↦ inr (later (lower k n less differs.1))
          ]

  distinct_listed : (n : ℕ) → AreDistinct (listed_below used n)
  distinct_listed zero = tt
  distinct_listed (suc n) = by (used n) (distinct_listed n)
    where
      by : (o : Option (List ℕ)) → AreDistinct (listed_below used n) → AreDistinct (with_listed n o (listed_below used n))
      by None h = h
      by (Some xs) h = ((λ a. absurd (omega (arith, (listed_among n n a).0))), h)

  few_listed : (n : ℕ) → length (listed_below used n) ≤ n
  few_listed zero = omega arith
  few_listed (suc n) = by (used n) (few_listed n)
    where
      by : (o : Option (List ℕ)) → length (listed_below used n) ≤ n → length (with_listed n o (listed_below used n)) ≤ suc n
      by None h = omega (arith, h)
      by (Some xs) h = omega (arith, h)

  pub begins :
      (n : ℕ) (counts free : List ℕ)
      → HasNoCircle used n
      → length counts ≡ n
      → ((j : ℕ) → get_or counts j 0 ≡ times_used used (listed_below used n) j)
      → ((j : ℕ) → IsAmong free j ↔ (IsAmong (listed_below used n) j × (get_or counts j 0 ≡ 0)))
      → IsPartlyOrdered used n counts free [] []
  begins n counts free circle long counted free_is = record {
    rest = listed_below used n;
    long = long;
    next = tt;
    all = λ k l. inr (among_listed n k l.0 (circle.inside k l) l.1);
    listed = all_from (IsListed used) (listed_below used n) (λ k a. (listed_among n k a).1);
    behind = all_from (λ k. ⊥ → ⊥) (listed_below used n) (λ k a b. b);
    distinct = distinct_listed n;
    counted = λ j. counted j ∙ omega arith;
    passed = λ j a. elim a [ ];
    free_is = free_is;
    few = omega (arith, few_listed n);
    left_inside = tt;
  }

  -- ---- the least that is free is taken
  take_first : (order free free' : List ℕ) (k j : ℕ) → free ≡ k ∷ free' → AllByRecursion (λ i. k < i) free' → IsAmong free j → (j ≡ k) ⊎ ((k < j) × IsAmong free' j)
  take_first order free free' k j is above a =
      elim (subst (λ l. IsAmong l j) is a) [
        | inl e ↦ inl (sym e)
        | inr b ↦ inr (all_at (λ i. k < i) free' j above b, b)
      ]

  pub takes :
      (n : ℕ) (counts free free' order order' xs : List ℕ) (k : ℕ)
      → HasNoCircle used n
      → IsPartlyOrdered used n counts free order []
      → free ≡ k ∷ free'
      → AllByRecursion (λ i. k < i) free'
      → order' ≡ order ++ k ∷ []
      → list_or_none (used k) ≡ xs
      → IsPartlyOrdered used n counts free' order' xs
  takes n counts free free' order order' xs k circle h is above order_is xs_are =
      subst (λ l. IsPartlyOrdered used n counts free' l xs) (sym order_is) (subst (IsPartlyOrdered used n counts free' (order ++ k ∷ [])) xs_are taken)
    where
      is_free : IsAmong free k
      is_free = subst (λ l. IsAmong l k) (sym is) (inl refl)

      both : IsAmong h.rest k × (get_or counts k 0 ≡ 0)
      both = (h.free_is k).0 is_free

      unused : (j : ℕ) → get_or counts j 0 ≡ 0 → times_used used h.rest j ≡ 0
      unused j e = omega (arith, e, h.counted j)

      is_next : IsFirstUnused used order k
      is_next = record {
        is_open = record {
          listed = all_at (IsListed used) h.rest k h.listed both.0;
          behind = all_at (λ i. IsAmong order i → ⊥) h.rest k h.behind both.0;
          unused = λ i l b a. elim (h.all i l) [ inl c ↦ b c | inr c ↦ used_none h.rest k i (unused k both.1) c a ];
        };
        first = λ j less open_j.
            let in_rest : IsAmong h.rest j = elim (h.all j open_j.listed) [ inl c ↦ absurd (open_j.behind c) | inr c ↦ c ] in
            let none : times_used used h.rest j ≡ 0 =
            elim (zero_or_more (times_used used h.rest j)) [
              | inl e ↦ e
              | inr some ↦
                  let r = used_some h.rest j some in
                  absurd (open_j.unused r.0 (all_at (IsListed used) h.rest r.0 h.listed r.1) (all_at (λ i. IsAmong order i → ⊥) h.rest r.0 h.behind r.1) r.2)
            ] in
            let free_j = (h.free_is j).1 (in_rest, omega (arith, none, h.counted j)) in
            elim (take_first order free free' k j is above free_j) [
              | inl e ↦ omega (arith, e, less)
              | inr more ↦ omega (arith, more.0, less)
            ];
      }

      old : (j : ℕ) → IsAmong (order ++ k ∷ []) j → IsAmong order j ⊎ (k ≡ j)
      old j a = elim (among_parts order (k ∷ []) j a) [ inl b ↦ inl b | inr b ↦ elim b [ inl e ↦ inr e | inr n ↦ elim n [ ] ] ]

      taken : IsPartlyOrdered used n counts free' (order ++ k ∷ []) (list_or_none (used k))
      taken = record {
        rest = without k h.rest;
        long = h.long;
        next = next_more [] order k h.next is_next;
        all = λ j l.
            elim (h.all j l) [
              | inl a ↦ inl (among_front order (k ∷ []) j a)
              | inr a ↦ elim (among_rest k h.rest j a) [ inl e ↦ inl (among_back order (k ∷ []) j (inl e)) | inr b ↦ inr b ]
            ];
        listed = all_from (IsListed used) (without k h.rest) (λ j a. all_at (IsListed used) h.rest j h.listed (among_without k h.rest j a));
        behind =
            all_from (λ j. IsAmong (order ++ k ∷ []) j → ⊥) (without k h.rest)
            (λ j a b.
            elim (old j b) [
              | inl c ↦ all_at (λ i. IsAmong order i → ⊥) h.rest j h.behind (among_without k h.rest j a) c
              | inr e ↦ gone_without k h.rest h.distinct (subst (IsAmong (without k h.rest)) (sym e) a)
            ]);
        distinct = distinct_without k h.rest h.distinct;
        counted = λ j. h.counted j ∙ omega (arith, used_without k h.rest j both.0);
        passed = λ j a. elim (old j a) [ inl b ↦ h.passed j b | inr e ↦ ap (λ i. get_or counts i 0) (sym e) ∙ both.1 ];
        free_is = λ j. (
          (λ a.
              let r = (h.free_is j).0 (subst (λ l. IsAmong l j) (sym is) (inr a)) in
              elim (among_rest k h.rest j r.0) [
                | inl e ↦ absurd (let less = all_at (λ i. k < i) free' j above a in omega (arith, less, e))
                | inr b ↦ (b, r.1)
              ]),
          (λ r.
              elim (take_first order free free' k j is above ((h.free_is j).1 (among_without k h.rest j r.0, r.1))) [
                | inl e ↦ absurd (gone_without k h.rest h.distinct (subst (IsAmong (without k h.rest)) e r.0))
                | inr more ↦ more.1
              ]),
        );
        few = omega (arith, h.few, length_without k h.rest both.0, length-append order (k ∷ []));
        left_inside = circle.used_inside k;
      }

  -- ---- what it used is used once less
  abbrev pub IsReleased : List ℕ → List ℕ → ℕ → Type 0
  IsReleased free free' y = (j : ℕ) → IsAmong free' j ↔ ((j ≡ y) ⊎ IsAmong free j)

  module _ (n : ℕ) (counts counts' free order xs : List ℕ) (y : ℕ) (h : IsPartlyOrdered used n counts free order (y ∷ xs)) where
    pub used_now : 0 < get_or counts y 0
    used_now = let k = times_of_among (y ∷ xs) y (inl refl) in omega (arith, k, h.counted y)

    module _ (at : get_or counts' y 0 + 1 ≡ get_or counts y 0) (others : (j : ℕ) → j ≢ y → get_or counts' j 0 ≡ get_or counts j 0) (long : length counts' ≡ n) where
      not_now : (j : ℕ) → get_or counts j 0 ≡ 0 → j ≢ y
      not_now j e same = omega (arith, e, ap (λ i. get_or counts i 0) same, used_now)

      counted_now : (j : ℕ) → get_or counts' j 0 ≡ times_used used h.rest j + times_among xs j
      counted_now j =
          elim (eqb_tells y j) [
            | inl e ↦ (let k = h.counted j in let was : get_or counts j 0 ≡ times_used used h.rest j + (1 + times_among xs j) = rw e.0 at k in omega (arith, was, at, ap (λ i. get_or counts i 0) e.1, ap (λ i. get_or counts' i 0) e.1))
            | inr e ↦ (let k = h.counted j in let was : get_or counts j 0 ≡ times_used used h.rest j + (0 + times_among xs j) = rw e.0 at k in omega (arith, was, others j (λ s. e.1 (sym s))))
          ]

      released : (free' : List ℕ) → ((j : ℕ) → IsAmong free' j ↔ (IsAmong h.rest j × (get_or counts' j 0 ≡ 0))) → IsPartlyOrdered used n counts' free' order xs
      released free' free_is = record {
        rest = h.rest;
        long = long;
        next = h.next;
        all = h.all;
        listed = h.listed;
        behind = h.behind;
        distinct = h.distinct;
        counted = counted_now;
        passed = λ j a. others j (not_now j (h.passed j a)) ∙ h.passed j a;
        free_is = free_is;
        few = h.few;
        left_inside = h.left_inside.1;
      }

      still_free : (j : ℕ) → IsAmong free j → IsAmong h.rest j × (get_or counts' j 0 ≡ 0)
      still_free j a = let r = (h.free_is j).0 a in (r.0, others j (not_now j r.1) ∙ r.1)

      free_before : (j : ℕ) → j ≢ y → IsAmong h.rest j × (get_or counts' j 0 ≡ 0) → IsAmong free j
      free_before j apart r = (h.free_is j).1 (r.0, sym (others j apart) ∙ r.1)

      -- another uses it, or it isn't listed
      pub passes : (get_or counts' y 0 ≡ 0 → IsListed used y → ⊥) → IsPartlyOrdered used n counts' free order xs
      passes held =
          released free
          (λ j. (
            still_free j,
            (λ r. free_before j (λ e. held (ap (λ i. get_or counts' i 0) (sym e) ∙ r.1) (subst (IsListed used) e (all_at (IsListed used) h.rest j h.listed r.0))) r),
          ))

      -- no other uses it
      pub frees : (free' : List ℕ) → get_or counts' y 0 ≡ 0 → IsListed used y → IsReleased free free' y → IsPartlyOrdered used n counts' free' order xs
      frees free' none listed gains =
          released free'
          (λ j. (
            (λ a. elim ((gains j).0 a) [ inl e ↦ subst (λ i. IsAmong h.rest i × (get_or counts' i 0 ≡ 0)) (sym e) (in_rest, none) | inr b ↦ still_free j b ]),
            (λ r. (gains j).1 (elim (eqb_tells j y) [ inl e ↦ inl e.1 | inr e ↦ inr (free_before j e.1 r) ])),
          ))
        where
          in_rest : IsAmong h.rest y
          in_rest = elim (h.all y listed) [ inl a ↦ absurd (not_now y (h.passed y a) refl) | inr a ↦ a ]

  -- ---- none is free
  pub ends : (n : ℕ) (counts free order : List ℕ) → HasNoCircle used n → IsPartlyOrdered used n counts free order [] → free ≡ [] → AreOrdered used order
  ends n counts free order circle h is = record {
    next = h.next;
    all = λ k l. elim (h.all k l) [ inl a ↦ a | inr a ↦ absurd (none h.rest k h.counted h.free_is a) ];
  }
    where
      none :
          (rest : List ℕ) (k : ℕ)
          → ((j : ℕ) → get_or counts j 0 ≡ times_used used rest j + 0)
          → ((j : ℕ) → IsAmong free j ↔ (IsAmong rest j × (get_or counts j 0 ≡ 0)))
          → IsAmong rest k
          → ⊥
      none [] k counted free_is a = elim a [ ]
      none (x ∷ rest) k counted free_is a =
          let m = greatest circle.rank x rest in
          elim (zero_or_more (times_used used (x ∷ rest) m.0)) [
            | inl e ↦ subst (λ l. IsAmong l m.0) is ((free_is m.0).1 (m.1, omega (arith, e, counted m.0)))
            | inr some ↦
                let r = used_some (x ∷ rest) m.0 some in
                let falls = all_at (λ j. circle.rank j < circle.rank r.0) (list_or_none (used r.0)) m.0 (circle.falls r.0) r.2 in
                let top = all_at (λ j. circle.rank j ≤ circle.rank m.0) (x ∷ rest) r.0 m.2 r.1 in
                omega (arith, falls, top)
          ]

-- ---- keys of a set
inserted_by : (ks : List ℕ) (k x j : ℕ) (r : Ordering) → MatchOrdering r (k < x) (k ≡ x) (x < k) → (IsAmong (insert_key nat_cmp ks k) j ↔ ((j ≡ k) ⊎ IsAmong ks j)) → IsAmong (match_ordering r (k ∷ x ∷ ks) (x ∷ ks) (x ∷ insert_key nat_cmp ks k)) j ↔ ((j ≡ k) ⊎ IsAmong (x ∷ ks) j)
inserted_by ks k x j Less m h = ((λ a. elim a [ inl e ↦ inl (sym e) | inr b ↦ inr b ]), (λ a. elim a [ inl e ↦ inl (sym e) | inr b ↦ inr b ]))
inserted_by ks k x j Equal m h = ((λ a. inr a), (λ a. elim a [ inl e ↦ inl (sym m ∙ sym e) | inr b ↦ b ]))
inserted_by ks k x j Greater m h = (
  (λ a. elim a [ inl e ↦ inr (inl e) | inr b ↦ elim (h.0 b) [ inl e ↦ inl e | inr c ↦ inr (inr c) ] ]),
  (λ a. elim a [ inl e ↦ inr (h.1 (inl e)) | inr b ↦ elim b [ inl e ↦ inl e | inr c ↦ inr (h.1 (inr c)) ] ]),
)

pub inserted : (ks : List ℕ) (k j : ℕ) → IsAmong (insert_key nat_cmp ks k) j ↔ ((j ≡ k) ⊎ IsAmong ks j)
inserted [] k j = ((λ a. elim a [ inl e ↦ inl (sym e) | inr n ↦ elim n [ ] ]), (λ a. elim a [ inl e ↦ inl (sym e) | inr n ↦ elim n [ ] ]))
inserted (x ∷ ks) k j = inserted_by ks k x j (nat_cmp k x) (ranks k x) (inserted ks k j)

less_tells : (a b : ℕ) (r : Ordering) → r ≡ Less → MatchOrdering r (a < b) (a ≡ b) (b < a) → a < b
less_tells a b Less e m = m
less_tells a b Equal e m = cc
less_tells a b Greater e m = cc

pub all_above : (k : ℕ) (ks : List ℕ) → ((i d : ℕ) → i < length ks → nat_cmp k (get_or ks i d) ≡ Less) → AllByRecursion (λ j. k < j) ks
all_above k [] h = tt
all_above k (x ∷ ks) h = (less_tells k x (nat_cmp k x) (h 0 0 (omega arith)) (ranks k x), all_above k ks (λ i d less. h (suc i) d (omega (arith, less))))

-- ---- counting
times_append : (xs ys : List ℕ) (j : ℕ) → times_among (xs ++ ys) j ≡ times_among xs j + times_among ys j
times_append [] ys j = omega arith
times_append (x ∷ xs) ys j = omega (arith, times_append xs ys j)

pub times_few : (xs : List ℕ) (j : ℕ) → times_among xs j ≤ length xs
times_few [] j = omega arith
times_few (x ∷ xs) j = elim (eqb_tells x j) [ inl e ↦ rw e.0 (omega (arith, times_few xs j)) | inr e ↦ rw e.0 (omega (arith, times_few xs j)) ]

-- the counts with one use more
pub raised_more :
    (old now new : List ℕ) (used : List ℕ) (i : ℕ)
    → i < length used
    → new ≡ set now (get_or used i 0) (get_or now (get_or used i 0) 0 + 1)
    → get_or used i 0 < length now
    → ((j : ℕ) → get_or now j 0 ≡ get_or old j 0 + times_among (take i used) j)
    → (j : ℕ) → get_or new j 0 ≡ get_or old j 0 + times_among (take (i + 1) used) j
raised_more old now new used i less is inside so_far j =
    let x : ℕ = get_or used i 0 in
    let taken : times_among (take (i + 1) used) j ≡ times_among (take i used) j + times_among (get_or used i 0 ∷ []) j =
    ap (λ l. times_among l j) (take_more used i 0 less) ∙ times_append (take i used) (get_or used i 0 ∷ []) j in
    elim (eqb_tells (get_or used i 0) j) [
      | inl e ↦
          let one : times_among (get_or used i 0 ∷ []) j ≡ 1 = rw e.0 refl in
          let now_is : get_or new j 0 ≡ get_or now (get_or used i 0) 0 + 1 =
          ap (λ l. get_or l j 0) is ∙ ap (λ k. get_or (set now (get_or used i 0) (get_or now (get_or used i 0) 0 + 1)) k 0) (sym e.1)
          ∙ get_or-set_same now (get_or used i 0) (get_or now (get_or used i 0) 0 + 1) 0 inside in
          omega (arith, one, taken, now_is, so_far j, ap (λ k. get_or now k 0) e.1)
      | inr e ↦
          let none : times_among (get_or used i 0 ∷ []) j ≡ 0 = rw e.0 refl in
          let now_is : get_or new j 0 ≡ get_or now j 0 =
          ap (λ l. get_or l j 0) is
          ∙ get_or-set_other now (get_or used i 0) j (get_or now (get_or used i 0) 0 + 1) 0 (λ k. e.1 (sym k)) in
          omega (arith, none, taken, now_is, so_far j)
    ]

-- each count stays small
pub raised_room : (old now : List ℕ) (used : List ℕ) (i k n : ℕ) → i < length used → get_or old k 0 + length used < n → ((j : ℕ) → get_or now j 0 ≡ get_or old j 0 + times_among (take i used) j) → get_or now k 0 + 1 < n
raised_room old now used i k n less room so_far = let few = times_few (take i used) k in omega (arith, few, so_far k, room, length-take i used, less)

-- ---- the steps of the loops
module _ (used : ℕ → Option (List ℕ)) where
  module _ (n : ℕ) (counts counts' free order xs : List ℕ) (y m : ℕ) (h : IsPartlyOrdered used n counts free order (y ∷ xs)) (is : counts' ≡ set counts y m) (less : m + 1 ≡ get_or counts y 0) where
    inside : y < length counts
    inside = omega (arith, h.long, h.left_inside.0)

    now_is : get_or counts' y 0 ≡ m
    now_is = ap (λ l. get_or l y 0) is ∙ get_or-set_same counts y m 0 inside

    others_are : (j : ℕ) → j ≢ y → get_or counts' j 0 ≡ get_or counts j 0
    others_are j apart = ap (λ l. get_or l j 0) is ∙ get_or-set_other counts y j m 0 apart

    long_as : length counts' ≡ n
    long_as = ap length is ∙ length-set counts y m ∙ h.long

    pub passes_over : (m ≡ 0 → IsListed used y → ⊥) → IsPartlyOrdered used n counts' free order xs
    passes_over held = passes used n counts counts' free order xs y h (omega (arith, now_is, less)) others_are long_as (λ e. held (sym now_is ∙ e))

    pub sets_free : (free' : List ℕ) → m ≡ 0 → IsListed used y → free' ≡ insert_key nat_cmp free y → IsPartlyOrdered used n counts' free' order xs
    sets_free free' none listed free_is =
        subst (λ l. IsPartlyOrdered used n counts' l order xs) (sym free_is)
        (frees used n counts counts' free order xs y h (omega (arith, now_is, less)) others_are long_as (insert_key nat_cmp free y) (now_is ∙ none) listed (λ j. inserted free y j))

  -- what is free among one number more
  pub free_more : (counts keys keys' : List ℕ) (k : ℕ) → get_or counts k 0 ≡ 0 → IsListed used k → keys' ≡ insert_key nat_cmp keys k → ((j : ℕ) → IsAmong keys j ↔ IsListedFree used k counts j) → (j : ℕ) → IsAmong keys' j ↔ IsListedFree used (k + 1) counts j
  free_more counts keys keys' k none listed is so_far j =
      subst (λ l. IsAmong l j ↔ IsListedFree used (k + 1) counts j) (sym is)
      (subst (λ l. IsAmong (insert_key nat_cmp keys k) j ↔ (IsAmong l j × (get_or counts j 0 ≡ 0))) (sym below_is) (
        (λ a. elim ((inserted keys k j).0 a) [ inl e ↦ (inl (sym e), ap (λ i. get_or counts i 0) e ∙ none) | inr b ↦ (let r = (so_far j).0 b in (inr r.0, r.1)) ]),
        (λ r. (inserted keys k j).1 (elim r.0 [ inl e ↦ inl (sym e) | inr b ↦ inr ((so_far j).1 (b, r.1)) ])),
      ))
    where
      below_is : listed_below used (k + 1) ≡ k ∷ listed_below used k
      below_is = (let n : k + 1 ≡ suc k = omega arith in ap (listed_below used) n) ∙ ap (λ o. with_listed k o (listed_below used k)) listed.1

  -- the uses counted among one number more
  pub below_more : (k : ℕ) (xs : List ℕ) (j : ℕ) → used k ≡ Some xs → times_used used (listed_below used (k + 1)) j ≡ times_used used (listed_below used k) j + times_among xs j
  below_more k xs j e =
      ap (λ l. times_used used l j) ((let n : k + 1 ≡ suc k = omega arith in ap (listed_below used) n) ∙ ap (λ o. with_listed k o (listed_below used k)) e)
      ∙ omega (arith, ap (λ o. times_among (list_or_none o) j) e)

-- ---- the lists as they stand in memory
pub listed_at : {A : Type 0} (lists : List (Option (Vec ℕ A))) (k : ℕ) (o : Option (Vec ℕ A)) (v : Vec ℕ A) → k < length lists → o ≡ get_or lists k o → o ≡ Some v → uses_at lists k ≡ Some v.items
listed_at lists k o v less is some = ap list_of (get_or_default lists k None o less ∙ sym is ∙ some)

pub unlisted_at : {A : Type 0} (lists : List (Option (Vec ℕ A))) (k : ℕ) (o : Option (Vec ℕ A)) → k < length lists → o ≡ get_or lists k o → o ≡ None → uses_at lists k ≡ None
unlisted_at lists k o less is none = ap list_of (get_or_default lists k None o less ∙ sym is ∙ none)

pub used_next : {A : Type 0} (lists : List (Option (Vec ℕ A))) (k : ℕ) (o : Option (Vec ℕ A)) (v : Vec ℕ A) → {xs : List ℕ} → k < length lists → o ≡ get_or lists k o → o ≡ Some v → xs ≡ v.items → list_or_none (uses_at lists k) ≡ xs
used_next lists k o v less is some same = ap list_or_none (listed_at lists k o v less is some) ∙ sym same

pub not_listed : (used : ℕ → Option (List ℕ)) (k : ℕ) → used k ≡ None → IsListed used k → ⊥
not_listed used k none l = let bad : None ≡ Some l.0 = sym none ∙ l.1 in cc

module _ (used : ℕ → Option (List ℕ)) (n : ℕ) (counts free free' order : List ℕ) (k : ℕ) (h : IsPartlyOrdered used n counts free order []) (is : free ≡ k ∷ free') where
  first_left : IsAmong h.rest k
  first_left = ((h.free_is k).0 (subst (λ l. IsAmong l k) (sym is) (inl refl))).0

  pub first_listed : IsListed used k
  first_listed = all_at (IsListed used) h.rest k h.listed first_left

  pub first_inside : HasNoCircle used n → k < n
  first_inside circle = circle.inside k first_listed

  pub fewer_left : (order' : List ℕ) → order' ≡ order ++ k ∷ [] → n - length order' < n - length order
  fewer_left order' e = omega (arith, h.few, length_without k h.rest first_left, ap length e, length-append order (k ∷ []))

pub left_now : (used : ℕ → Option (List ℕ)) (n : ℕ) (counts free order xs : List ℕ) (i : ℕ) → i < length xs → IsPartlyOrdered used n counts free order (drop i xs) → IsPartlyOrdered used n counts free order (get_or xs i 0 ∷ drop (i + 1) xs)
left_now used n counts free order xs i less h = subst (IsPartlyOrdered used n counts free order) (drop_more xs i 0 less) h

pub no_keys : (keys : List ℕ) → (0 < length keys → false ≡ true) → keys ≡ []
no_keys [] give = refl
no_keys (k ∷ keys) give = let bad = give (omega arith) in cc
