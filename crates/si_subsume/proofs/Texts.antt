-- Maps between the literals of flat clauses are maps between the literals themselves.
use Rattle.std.proofs.Common.{◌≡◌, inl, inr, ℕ, ◌+◌, ◌*◌, ◌==◌, Bool, true, false, cond, List, [], ◌∷◌, map, refl, ap, sym, ◌∙◌, arith}
use Rattle.std.proofs.lemmas.Bool.Decides.{eqb_tells}
use Rattle.std.proofs.lemmas.Slice.Eq.{bytes_eq-Decides}
use Rattle.std.specs.Prelude.{bytes_eq}
use Rattle.std.specs.List.{AllByRecursion}
use Rattle.si_defs.specs.Bytes.{Bytes}
use Rattle.si_defs.specs.Terms as terms
use Rattle.si_defs.specs.Terms.{var, app, none, more, rename_all, substitute, substitute_all, variables, variables_of_all, symbols, symbols_of_all}
use Rattle.si_defs.specs.Symbols as texts
use Rattle.si_defs.specs.Symbols.{Numbering}
use Rattle.si_defs.specs.Clauses as clauses
use Rattle.si_defs.specs.Clauses.{Literal, IsSoundTerm, AreSoundTerms, IsSoundAtom, IsSoundLiteral}
use Rattle.si_defs.specs.Substitutions.{Substitution, image, IsAmong, lefts}
use Rattle.si_defs.specs.Variables as apart
use Rattle.si_defs.specs.Variables.{Apart, of_pattern, of_entry, pattern_term, entry_term, Solution}
use Rattle.si_defs.specs.declared.SymKind.TheVariants.{Word}
use Rattle.si_defs.specs.declared.Side.TheVariants.{Predicate, Function}
use Rattle.si_defs.proofs.ListLaws.{all_front, all_back}
use Rattle.si_flat.specs.Cells.{Symbol, Variable, query, entry, ind, same_variable, Term, Terms}
use Rattle.si_flat.specs.Numbered.{number_in, signed, one_above, place_in, numbered, all_numbered}
use Rattle.si_flat.specs.Flattened.{has_number, IsQueryNumbering}
use Rattle.si_flat.proofs.Numbers.{among-number}
use Rattle.si_flat.proofs.FirstPlaces.{at_place, text_at, place_one}

-- ---- back from numbers
-- the first symbol with a number
abbrev symbol_at : Numbering → ℕ → texts.Symbol
symbol_at [] n = record { kind = Word; text = []; side = Function; arity = 0 }
symbol_at (pair ∷ pairs) n = cond (pair.1 == n) pair.0 (symbol_at pairs n)

symbol_with : (pairs : Numbering) (s : texts.Symbol) (n : ℕ) → IsAmong pairs (s, n) → ((r : texts.Symbol) → IsAmong pairs (r, n) → r ≡ s) → symbol_at pairs n ≡ s
symbol_with [] s n a one = absurd a
symbol_with (pair ∷ pairs) s n a one =
    elim (eqb_tells pair.1 n) [
      | inl k ↦ rw k.0 (one pair.0 (inl (λ i. (pair.0, k.1 i))))
      | inr k ↦
          rw k.0 (
          elim a [
            | inl e ↦ absurd (k.1 (ap (λ (p : texts.Symbol × ℕ). p.1) e))
            | inr b ↦ symbol_with pairs s n b (λ r c. one r (inr c))
          ]
          )
    ]

module _ (pairs : Numbering) (numbering : IsQueryNumbering pairs) (xs ys : List Bytes) where
  abbrev number : texts.Symbol → ℕ
  number s = number_in pairs s

  abbrev pub IsKnown : texts.Symbol → Type 0
  IsKnown s = has_number pairs s ≡ true

  known_back : (s : texts.Symbol) → IsKnown s → symbol_at pairs (number s) ≡ s
  known_back s h = symbol_with pairs s (number s) (among-number pairs s h) (λ r a. numbering.one_symbol r s (number s) a (among-number pairs s h))

  one_symbol : (s r : texts.Symbol) → IsKnown s → IsKnown r → number s ≡ number r → s ≡ r
  one_symbol s r h k e = sym (known_back s h) ∙ ap (symbol_at pairs) e ∙ known_back r k

  abbrev pub pattern_variable : Bytes → Variable
  pattern_variable x = query (place_in bytes_eq xs x)

  abbrev pub entry_variable : Bytes → Variable
  entry_variable y = entry (place_in bytes_eq ys y)

  abbrev variable_of : apart.Variable → Variable
  variable_of (of_pattern x) = pattern_variable x
  variable_of (of_entry y) = entry_variable y

  -- ---- to numbers
  abbrev up : Apart → Term
  up t = numbered number variable_of t

  abbrev all_up : terms.Terms texts.Symbol apart.Variable → Terms
  all_up ts = all_numbered number variable_of ts

  mutual
    entry_up : (u : clauses.Term) → up (entry_term u) ≡ numbered number entry_variable u
    entry_up (var y) = refl
    entry_up (app s us) = ap (app (record { number = number s; arity = s.arity })) (entries_up us)

    entries_up : (us : clauses.Terms) → all_up (rename_all of_entry us) ≡ all_numbered number entry_variable us
    entries_up none = refl
    entries_up (more u us) = (λ i. more (entry_up u i) (entries_up us i))

  module _ (S : Solution) where
    abbrev raised : List Bytes → Substitution Symbol Variable
    raised [] = []
    raised (z ∷ zs) = (pattern_variable z, up (image apart.same_variable S (of_pattern z))) ∷ raised zs

    pub raised_stays : (zs : List Bytes) (n : ℕ) → image same_variable (raised zs) (entry n) ≡ var (entry n)
    raised_stays [] n = refl
    raised_stays (z ∷ zs) n = raised_stays zs n

    raised_at : (zs : List Bytes) (x : Bytes) → ((z : Bytes) → IsAmong zs z → IsAmong xs z) → IsAmong xs x → IsAmong zs x → image same_variable (raised zs) (pattern_variable x) ≡ up (image apart.same_variable S (of_pattern x))
    raised_at [] x inside a b = absurd b
    raised_at (z ∷ zs) x inside a b =
        elim (eqb_tells (place_in bytes_eq xs z) (place_in bytes_eq xs x)) [
          | inl k ↦ rw k.0 (ap (λ y. up (image apart.same_variable S (of_pattern y))) (place_one bytes_eq bytes_eq-Decides xs z x (inside z (inl refl)) a k.1))
          | inr k ↦
              rw k.0 (
              elim b [
                | inl e ↦ absurd (k.1 (ap (place_in bytes_eq xs) e))
                | inr c ↦ raised_at zs x (λ y d. inside y (inr d)) a c
              ]
              )
        ]

    abbrev pub raise : Substitution Symbol Variable
    raise = raised xs

    mutual
      raise_term : (t : clauses.Term) → AllByRecursion (IsAmong xs) (variables t) → substitute (image same_variable raise) (numbered number pattern_variable t) ≡ up (substitute (image apart.same_variable S) (pattern_term t))
      raise_term (var x) h = raised_at xs x (λ z a. a) h.0 h.0
      raise_term (app s ts) h = ap (app (record { number = number s; arity = s.arity })) (raise_terms ts h)

      raise_terms : (ts : clauses.Terms) → AllByRecursion (IsAmong xs) (variables_of_all ts) → substitute_all (image same_variable raise) (all_numbered number pattern_variable ts) ≡ all_up (substitute_all (image apart.same_variable S) (rename_all of_pattern ts))
      raise_terms none h = refl
      raise_terms (more t ts) h =
          (λ i. more (raise_term t (all_front (IsAmong xs) (variables t) (variables_of_all ts) h) i) (raise_terms ts (all_back (IsAmong xs) (variables t) (variables_of_all ts) h) i))

  -- ---- and back
  abbrev variable_back : Variable → apart.Variable
  variable_back (query n) = of_pattern (text_at xs n)
  variable_back (entry n) = of_entry (text_at ys n)
  variable_back (ind n) = of_pattern []

  abbrev mutual
    down : Term → Apart
    down (var x) = var (variable_back x)
    down (app s ts) = app (symbol_at pairs s.number) (all_down ts)

    all_down : Terms → terms.Terms texts.Symbol apart.Variable
    all_down none = none
    all_down (more t ts) = more (down t) (all_down ts)

  mutual
    entry_down : (u : clauses.Term) → AllByRecursion IsKnown (symbols u) → AllByRecursion (IsAmong ys) (variables u) → down (numbered number entry_variable u) ≡ entry_term u
    entry_down (var y) known placed = ap (λ z. var (of_entry z)) (at_place ys y placed.0)
    entry_down (app s us) known placed = (λ i. app (known_back s known.0 i) (entries_down us known.1 placed i))

    entries_down : (us : clauses.Terms) → AllByRecursion IsKnown (symbols_of_all us) → AllByRecursion (IsAmong ys) (variables_of_all us) → all_down (all_numbered number entry_variable us) ≡ rename_all of_entry us
    entries_down none known placed = refl
    entries_down (more u us) known placed =
        (λ i. more (entry_down u (all_front IsKnown (symbols u) (symbols_of_all us) known) (all_front (IsAmong ys) (variables u) (variables_of_all us) placed) i) (entries_down us (all_back IsKnown (symbols u) (symbols_of_all us) known) (all_back (IsAmong ys) (variables u) (variables_of_all us) placed) i))

  module _ (f : Variable → Term) where
    abbrev lowered : List Bytes → Solution
    lowered [] = []
    lowered (z ∷ zs) = (of_pattern z, down (f (pattern_variable z))) ∷ lowered zs

    lowered_at : (zs : List Bytes) (x : Bytes) → IsAmong zs x → image apart.same_variable (lowered zs) (of_pattern x) ≡ down (f (pattern_variable x))
    lowered_at [] x a = absurd a
    lowered_at (z ∷ zs) x a = by (bytes_eq z x) refl (lowered_at zs x)
      where
        by : (b : Bool) → bytes_eq z x ≡ b → (IsAmong zs x → image apart.same_variable (lowered zs) (of_pattern x) ≡ down (f (pattern_variable x))) → cond b (down (f (pattern_variable z))) (image apart.same_variable (lowered zs) (of_pattern x)) ≡ down (f (pattern_variable x))
        by true e rest = ap (λ y. down (f (pattern_variable y))) ((bytes_eq-Decides z x).0 e)
        by false e rest =
            elim a [
              | inl same ↦ (let bad : true ≡ false = sym ((bytes_eq-Decides z x).1 same) ∙ e in cc)
              | inr b ↦ rest b
            ]

    pub lefts_lowered : (zs : List Bytes) → lefts (lowered zs) ≡ map of_pattern zs
    lefts_lowered [] = refl
    lefts_lowered (z ∷ zs) = ap (λ l. of_pattern z ∷ l) (lefts_lowered zs)

    abbrev pub lower : Solution
    lower = lowered xs

    mutual
      lower_term : (t u : clauses.Term)
          → AllByRecursion IsKnown (symbols t) → AllByRecursion (IsAmong xs) (variables t)
          → AllByRecursion IsKnown (symbols u) → AllByRecursion (IsAmong ys) (variables u)
          → substitute f (numbered number pattern_variable t) ≡ numbered number entry_variable u
          → substitute (image apart.same_variable lower) (pattern_term t) ≡ entry_term u
      lower_term (var x) u known placed known_u placed_u e = lowered_at xs x placed.0 ∙ ap down e ∙ entry_down u known_u placed_u
      lower_term (app s ts) (var y) known placed known_u placed_u e = cc
      lower_term (app s ts) (app r us) known placed known_u placed_u e =
          let heads : ◌≡◌ {A = Symbol} (record { number = number s; arity = s.arity }) (record { number = number r; arity = r.arity }) = cc in
          let rows : substitute_all f (all_numbered number pattern_variable ts) ≡ all_numbered number entry_variable us = cc in
          let same = one_symbol s r known.0 known_u.0 (ap (λ (q : Symbol). q.number) heads) in
          (λ i. app (same i) (lower_terms ts us known.1 placed known_u.1 placed_u rows i))

      lower_terms : (ts us : clauses.Terms)
          → AllByRecursion IsKnown (symbols_of_all ts) → AllByRecursion (IsAmong xs) (variables_of_all ts)
          → AllByRecursion IsKnown (symbols_of_all us) → AllByRecursion (IsAmong ys) (variables_of_all us)
          → substitute_all f (all_numbered number pattern_variable ts) ≡ all_numbered number entry_variable us
          → substitute_all (image apart.same_variable lower) (rename_all of_pattern ts) ≡ rename_all of_entry us
      lower_terms none none known placed known_u placed_u e = refl
      lower_terms none (more u us) known placed known_u placed_u e = cc
      lower_terms (more t ts) none known placed known_u placed_u e = cc
      lower_terms (more t ts) (more u us) known placed known_u placed_u e =
          let one : substitute f (numbered number pattern_variable t) ≡ numbered number entry_variable u = cc in
          let rest : substitute_all f (all_numbered number pattern_variable ts) ≡ all_numbered number entry_variable us = cc in
          (λ i. more (lower_term t u (all_front IsKnown (symbols t) (symbols_of_all ts) known) (all_front (IsAmong xs) (variables t) (variables_of_all ts) placed) (all_front IsKnown (symbols u) (symbols_of_all us) known_u) (all_front (IsAmong ys) (variables u) (variables_of_all us) placed_u) one i) (lower_terms ts us (all_back IsKnown (symbols t) (symbols_of_all ts) known) (all_back (IsAmong xs) (variables t) (variables_of_all ts) placed) (all_back IsKnown (symbols u) (symbols_of_all us) known_u) (all_back (IsAmong ys) (variables u) (variables_of_all us) placed_u) rest i))

  -- ---- signs
  mutual
    unsigned : (b : Bool) (v : Bytes → Variable) (t : clauses.Term) → IsSoundTerm t → numbered (signed b number) v t ≡ numbered number v t
    unsigned b v (var x) h = refl
    unsigned b v (app s ts) h = (λ i. app (record { number = inner b s h.0.on_side i; arity = s.arity }) (all_unsigned b v ts h.1 i))
      where
        inner : (b : Bool) (s : texts.Symbol) → s.side ≡ Function → signed b number s ≡ number s
        inner true s e = refl
        inner false s e = ap (λ side. one_above side (number s)) e

    all_unsigned : (b : Bool) (v : Bytes → Variable) (ts : clauses.Terms) → AreSoundTerms ts → all_numbered (signed b number) v ts ≡ all_numbered number v ts
    all_unsigned b v none h = refl
    all_unsigned b v (more t ts) h = (λ i. more (unsigned b v t h.0 i) (all_unsigned b v ts h.1 i))

  same_sign : (a b : Bool) (s r : texts.Symbol) → s.side ≡ Predicate → r.side ≡ Predicate → IsKnown s → IsKnown r → signed a number s ≡ signed b number r → (a ≡ b) × (number s ≡ number r)
  same_sign a b s r p q h k e = by a b (numbering.even s (number s) (among-number pairs s h)) (numbering.even r (number r) (among-number pairs r k)) e
    where
      above : (z : texts.Symbol) → z.side ≡ Predicate → signed false number z ≡ 1 + number z
      above z side = ap (λ d. one_above d (number z)) side

      by : (a b : Bool) → (m : ℕ) × (number s ≡ 2 * m) → (n : ℕ) × (number r ≡ 2 * n) → signed a number s ≡ signed b number r → (a ≡ b) × (number s ≡ number r)
      by true true m n e = (refl, e)
      by true false m n e = absurd (omega (arith, m.1, n.1, e, above r q))
      by false true m n e = absurd (omega (arith, m.1, n.1, e, above s p))
      by false false m n e = (refl, omega (arith, e, above s p, above r q))

  -- ---- one literal
  pub record IsPlaced (zs : List Bytes) (l : Literal) : Type 0 where
    pub sound : IsSoundLiteral l
    pub known : AllByRecursion IsKnown (symbols l.atom)
    pub placed : AllByRecursion (IsAmong zs) (variables l.atom)

  abbrev pub flat_literal : (Bytes → Variable) → Literal → Term
  flat_literal v l = numbered (signed l.positive (number_in pairs)) v l.atom

  pub literal_raised : (S : Solution) (l k : Literal) → IsPlaced xs l → IsPlaced ys k → l.positive ≡ k.positive
      → substitute (image apart.same_variable S) (pattern_term l.atom) ≡ entry_term k.atom
      → substitute (image same_variable (raise S)) (flat_literal pattern_variable l) ≡ flat_literal entry_variable k
  literal_raised S l k h m signs e = by l.atom k.atom l.positive k.positive signs h.sound m.sound h.placed e
    where
      by : (t u : clauses.Term) (a b : Bool) → a ≡ b → IsSoundAtom t → IsSoundAtom u → AllByRecursion (IsAmong xs) (variables t)
          → substitute (image apart.same_variable S) (pattern_term t) ≡ entry_term u
          → substitute (image same_variable (raise S)) (numbered (signed a (number_in pairs)) pattern_variable t) ≡ numbered (signed b (number_in pairs)) entry_variable u
      by (var x) u a b same h m placed e = absurd h
      by (app s ts) (var y) a b same h m placed e = absurd m
      by (app s ts) (app r us) a b same h m placed e =
          let heads : s ≡ r = cc in
          let rows : substitute_all (image apart.same_variable S) (rename_all of_pattern ts) ≡ rename_all of_entry us = cc in
          let there : substitute_all (image same_variable (raise S)) (all_numbered (signed a (number_in pairs)) pattern_variable ts) ≡ all_numbered (signed b (number_in pairs)) entry_variable us =
          ap (substitute_all (image same_variable (raise S))) (all_unsigned a pattern_variable ts h.1) ∙ raise_terms S ts placed ∙ ap all_up rows ∙ entries_up us ∙ sym (all_unsigned b entry_variable us m.1) in
          (λ i. app (record { number = signed (same i) (number_in pairs) (heads i); arity = (heads i).arity }) (there i))

  pub record IsTakenBack (f : Variable → Term) (l k : Literal) : Type 0 where
    pub sign : l.positive ≡ k.positive
    pub atom : substitute (image apart.same_variable (lower f)) (pattern_term l.atom) ≡ entry_term k.atom

  pub literal_lowered : (f : Variable → Term) (l k : Literal) → IsPlaced xs l → IsPlaced ys k → substitute f (flat_literal pattern_variable l) ≡ flat_literal entry_variable k → IsTakenBack f l k
  literal_lowered f l k h m e = let r = by l.atom k.atom l.positive k.positive h.sound m.sound h.known h.placed m.known m.placed e in record { sign = r.0; atom = r.1 }
    where
      by : (t u : clauses.Term) (a b : Bool) → IsSoundAtom t → IsSoundAtom u
          → AllByRecursion IsKnown (symbols t) → AllByRecursion (IsAmong xs) (variables t)
          → AllByRecursion IsKnown (symbols u) → AllByRecursion (IsAmong ys) (variables u)
          → substitute f (numbered (signed a (number_in pairs)) pattern_variable t) ≡ numbered (signed b (number_in pairs)) entry_variable u
          → (a ≡ b) × (substitute (image apart.same_variable (lower f)) (pattern_term t) ≡ entry_term u)
      by (var x) u a b h m known placed known_u placed_u e = absurd h
      by (app s ts) (var y) a b h m known placed known_u placed_u e = absurd m
      by (app s ts) (app r us) a b h m known placed known_u placed_u e =
          let heads : ◌≡◌ {A = Symbol} (record { number = signed a (number_in pairs) s; arity = s.arity }) (record { number = signed b (number_in pairs) r; arity = r.arity }) = cc in
          let rows : substitute_all f (all_numbered (signed a (number_in pairs)) pattern_variable ts) ≡ all_numbered (signed b (number_in pairs)) entry_variable us = cc in
          let told = same_sign a b s r h.0.on_side m.0.on_side known.0 known_u.0 (ap (λ (q : Symbol). q.number) heads) in
          let same = one_symbol s r known.0 known_u.0 told.1 in
          let plain : substitute_all f (all_numbered number pattern_variable ts) ≡ all_numbered number entry_variable us =
          ap (substitute_all f) (sym (all_unsigned a pattern_variable ts h.1)) ∙ rows ∙ all_unsigned b entry_variable us m.1 in
          (told.0, λ i. app (same i) (lower_terms f ts us known.1 placed known_u.1 placed_u plain i))
