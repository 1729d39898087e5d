-- Occurrences that are taken, refused and given back one after the other.
use Rattle.std.proofs.Common.{◌≡◌, ◌⊎◌, inl, inr, ℕ, zero, suc, ◌+◌, ◌≤◌, List, [], ◌∷◌, ◌++◌, length, sym, ap, ◌∙◌, subst, arith, append_assoc, append-nil, length-append}
use Rattle.std.specs.Prelude.{Result, Ok, Err, OnOk, OnErr}
use Rattle.si_defs.specs.Symbols.{Symbol, times}
use Rattle.si_defs.specs.Substitutions.{IsAmong}
use Rattle.si_defs.proofs.ListLaws.{among_front, among_back, among_parts, all_from, all_at}
use Rattle.si_state.specs.Acceptance.{Clashes, AllAgree}
use Rattle.si_state.specs.Signatures.{Used, Signature, IsSignature, known_symbols, numbering, uses_of, KeepsNumbers}
use Rattle.si_sign.specs.Taking.{TakesUses, GivesBack, RefusesFrom}
use Rattle.si_sign.specs.declared.faults.TakeFault.{TakeFault}
use Rattle.si_sign.specs.declared.faults.TakeFault.TheVariants as take_fault
use Rattle.si_sign.proofs.SeenLaws.{IsRising, same_rising}
use Rattle.si_sign.proofs.UsesOf.{among_symbols, among_numbering, symbols_among, numbering_among, uses_positive, uses_among, times_append, times_among, among_times}

-- ---- which symbols are in use
pub symbols_used : (us : Signature) → IsSignature us → (s : Symbol) → IsAmong (known_symbols us) s → 1 ≤ uses_of us s
symbols_used us is s h =
    let m = symbols_among us s h in
    let one = all_at (λ (u : Used). 1 ≤ u.uses) us m.used is.used m.among in
    omega (arith, one, uses_among us m.used is.one_shape m.among, ap (uses_of us) m.is)

pub used_symbols : (us : Signature) (s : Symbol) → 1 ≤ uses_of us s → IsAmong (known_symbols us) s
used_symbols us s h = let m = uses_positive us s h in subst (IsAmong (known_symbols us)) m.is (among_symbols us m.used m.among)

numbered_symbols : (us : Signature) (s : Symbol) (n : ℕ) → IsAmong (numbering us) (s, n) → IsAmong (known_symbols us) s
numbered_symbols us s n h =
    let m = numbering_among us (s, n) h in
    subst (IsAmong (known_symbols us)) (ap (λ p. p.0) m.is) (among_symbols us m.used m.among)

keeps_through : (a b c : Signature) → ((s : Symbol) → IsAmong (known_symbols a) s → IsAmong (known_symbols c) s → IsAmong (known_symbols b) s)
    → KeepsNumbers a b → KeepsNumbers b c → KeepsNumbers a c
keeps_through a b c between f g s m n x y =
    let u = symbols_among b s (between s (numbered_symbols a s m x) (numbered_symbols c s n y)) in
    let p = subst (λ r. IsAmong (numbering b) (r, u.used.number)) u.is (among_numbering b u.used u.among) in
    f s m u.used.number x p ∙ g s u.used.number n p y

positive_either : (m n : ℕ) → 1 ≤ m + n → (1 ≤ m) ⊎ (1 ≤ n)
positive_either zero n h = inr (omega (arith, h))
positive_either (suc m) n h = inl (omega arith)

-- ---- agreement
pub agree_within : (ks ls ss : List Symbol) → ((r : Symbol) → IsAmong ls r → IsAmong ks r) → AllAgree ks ss → AllAgree ls ss
agree_within ks ls [] sub a = tt
agree_within ks ls (s ∷ ss) sub a = (
  all_from (λ r. Clashes s r → ⊥) ls (λ r h. all_at (λ r. Clashes s r → ⊥) ks r a.0 (sub r h)),
  agree_within (ks ++ s ∷ []) (ls ++ s ∷ []) ss (λ r h. by r (among_parts ls (s ∷ []) r h)) a.1,
) where
  by : (r : Symbol) → IsAmong ls r ⊎ IsAmong (s ∷ []) r → IsAmong (ks ++ s ∷ []) r
  by r (inl h) = among_front ks (s ∷ []) r (sub r h)
  by r (inr h) = among_back ks (s ∷ []) r h

pub agree_append : (ks xs ys : List Symbol) → AllAgree ks xs → AllAgree (ks ++ xs) ys → AllAgree ks (xs ++ ys)
agree_append ks [] ys a b = subst (λ l. AllAgree l ys) (append-nil ks) b
agree_append ks (x ∷ xs) ys a b = (a.0, agree_append (ks ++ x ∷ []) xs ys a.1 (subst (λ l. AllAgree l ys) (sym (append_assoc ks (x ∷ []) xs)) b))

pub agree_split : (ks xs ys : List Symbol) → AllAgree ks (xs ++ ys) → AllAgree ks xs × AllAgree (ks ++ xs) ys
agree_split ks [] ys a = (tt, subst (λ l. AllAgree l ys) (sym (append-nil ks)) a)
agree_split ks (x ∷ xs) ys a =
    let rest = agree_split (ks ++ x ∷ []) xs ys a.1 in
    ((a.0, rest.0), subst (λ l. AllAgree l ys) (append_assoc ks (x ∷ []) xs) rest.1)

-- those that stay agree without those between them
pub agree_between : (xs own ys : List Symbol) → AllAgree [] (xs ++ (own ++ ys)) → AllAgree [] (xs ++ ys)
agree_between xs own ys a =
    let front = agree_split [] xs (own ++ ys) a in
    let back = agree_split xs own ys front.1 in
    agree_append [] xs ys front.0 (agree_within (xs ++ own) xs ys (among_front xs own) back.1)

-- ---- taking
pub takes_none : (a : Signature) → IsSignature a → TakesUses [] a a
takes_none a is = record {
  agree = tt;
  uses = λ s. omega arith;
  numbers = λ s m n. is.numbered.one_number s m n;
  sum = omega arith;
}

module _ (a b : Signature) (xs ys : List Symbol) (at_first : IsSignature a) (taken : TakesUses xs a b) where
  kept_or_own : (r : Symbol) → IsAmong (known_symbols a ++ xs) r → IsAmong (known_symbols b) r
  kept_or_own r h = by (among_parts (known_symbols a) xs r h) where
    by : IsAmong (known_symbols a) r ⊎ IsAmong xs r → IsAmong (known_symbols b) r
    by (inl k) = used_symbols b r (omega (arith, taken.uses r, symbols_used a at_first r k))
    by (inr k) = used_symbols b r (omega (arith, taken.uses r, times_among r xs k))

  pub takes_more : (c : Signature) → TakesUses ys b c → TakesUses (xs ++ ys) a c
  takes_more c more = record {
    agree = agree_append (known_symbols a) xs ys taken.agree (agree_within (known_symbols b) (known_symbols a ++ xs) ys kept_or_own more.agree);
    uses = λ s. omega (arith, taken.uses s, more.uses s, times_append s xs ys);
    numbers = keeps_through a b c (λ s h k. used_symbols b s (omega (arith, taken.uses s, symbols_used a at_first s h))) taken.numbers more.numbers;
    sum = omega (arith, taken.sum, more.sum, length-append xs ys);
  }

  against_more : IsSignature b → (before : List Symbol) (r : Symbol) → IsAmong (known_symbols b ++ before) r → IsAmong (known_symbols a ++ (xs ++ before)) r
  against_more now before r h = by (among_parts (known_symbols b) before r h) where
    of : (1 ≤ uses_of a r) ⊎ (1 ≤ times r xs) → IsAmong (known_symbols a ++ (xs ++ before)) r
    of (inl k) = among_front (known_symbols a) (xs ++ before) r (used_symbols a r k)
    of (inr k) = among_back (known_symbols a) (xs ++ before) r (among_front xs before r (among_times r xs k))

    by : IsAmong (known_symbols b) r ⊎ IsAmong before r → IsAmong (known_symbols a ++ (xs ++ before)) r
    by (inl k) = of (positive_either (uses_of a r) (times r xs) (omega (arith, taken.uses r, symbols_used b now r k)))
    by (inr k) = among_back (known_symbols a) (xs ++ before) r (among_back xs before r k)

  -- what is refused after what was taken
  pub refuses_more : IsSignature b → (begin : ℕ) (f : TakeFault) → RefusesFrom begin b ys f → RefusesFrom begin a (xs ++ ys) f
  refuses_more now begin (take_fault.Clash c) (number, found, kept, first, shapes, position) = (
    length xs + number,
    found,
    kept,
    record {
      before = xs ++ first.before;
      after = first.after;
      splits = ap (λ l. xs ++ l) first.splits ∙ sym (append_assoc xs first.before (found ∷ first.after));
      position = omega (arith, first.position, length-append xs first.before);
      earlier = agree_append (known_symbols a) xs first.before taken.agree (agree_within (known_symbols b) (known_symbols a ++ xs) first.before kept_or_own first.earlier);
      against = against_more now first.before kept first.against;
      clashes = first.clashes;
    },
    shapes,
    omega (arith, position, taken.sum),
  )
  refuses_more now begin take_fault.Memory why = tt

-- what is refused already in the front
pub refuses_front : (begin : ℕ) (a : Signature) (xs ys : List Symbol) (f : TakeFault) → RefusesFrom begin a xs f → RefusesFrom begin a (xs ++ ys) f
refuses_front begin a xs ys (take_fault.Clash c) (number, found, kept, first, shapes, position) = (
  number,
  found,
  kept,
  record {
    before = first.before;
    after = first.after ++ ys;
    splits = ap (λ l. l ++ ys) first.splits ∙ append_assoc first.before (found ∷ first.after) ys;
    position = first.position;
    earlier = first.earlier;
    against = first.against;
    clashes = first.clashes;
  },
  shapes,
  position,
)
refuses_front begin a xs ys take_fault.Memory why = tt

-- ---- giving back
pub gives_none : (a : Signature) → IsSignature a → GivesBack [] a a
gives_none a is = record {
  uses = λ s. omega arith;
  numbers = λ s m n. is.numbered.one_number s m n;
  sum = omega arith;
}

pub gives_more : (a b c : Signature) (xs ys : List Symbol) → IsSignature c → GivesBack xs a b → GivesBack ys b c → GivesBack (xs ++ ys) a c
gives_more a b c xs ys last given more = record {
  uses = λ s. omega (arith, given.uses s, more.uses s, times_append s xs ys);
  numbers = keeps_through a b c (λ s h k. used_symbols b s (omega (arith, more.uses s, symbols_used c last s k))) given.numbers more.numbers;
  sum = omega (arith, given.sum, more.sum, length-append xs ys);
}

-- ---- taken and given back
carried : (a c : Signature) → IsSignature a → IsSignature c → ((s : Symbol) → uses_of a s ≡ uses_of c s)
    → ((s : Symbol) (m n : ℕ) → IsAmong (numbering a) (s, m) → IsAmong (numbering c) (s, n) → m ≡ n) → (u : Used) → IsAmong c u → IsAmong a u
carried a c first last same numbers u h =
    let uses = uses_among c u last.one_shape h in
    let one = all_at (λ (v : Used). 1 ≤ v.uses) c u last.used h in
    let m = uses_positive a u.symbol (omega (arith, uses, one, same u.symbol)) in
    let number = numbers u.symbol m.used.number u.number (subst (λ r. IsAmong (numbering a) (r, m.used.number)) m.is (among_numbering a m.used m.among)) (among_numbering c u h) in
    let times_used : m.used.uses ≡ u.uses = omega (arith, uses, same u.symbol, uses_among a m.used first.one_shape m.among, ap (uses_of a) m.is) in
    let e : m.used ≡ u = λ i. record { symbol = m.is i; uses = times_used i; number = number i } in
    subst (IsAmong a) e m.among

pub undone : (a b c : Signature) (xs : List Symbol) → IsSignature a → IsSignature c → IsRising 0 a → IsRising 0 c → TakesUses xs a b → GivesBack xs b c → c ≡ a
undone a b c xs first last rising again taken given =
    let same : (s : Symbol) → uses_of a s ≡ uses_of c s = λ s. omega (arith, taken.uses s, given.uses s) in
    let numbers = keeps_through a b c (λ s h k. used_symbols b s (omega (arith, taken.uses s, symbols_used a first s h))) taken.numbers given.numbers in
    same_rising 0 0 c a again rising
    (carried a c first last same numbers)
    (carried c a last first (λ s. sym (same s)) (λ s m n x y. sym (numbers s n m y x)))

-- numbers stay where occurrences are taken, and where nothing changes
pub keeps_either : {T E : Type 0} (r : Result T E) (own : List Symbol) (a b : Signature) → IsSignature a → OnOk r (TakesUses own a b) → OnErr r (b ≡ a) → KeepsNumbers a b
keeps_either (Ok x) own a b is taken same = taken.numbers
keeps_either (Err e) own a b is taken same = λ s m n x y. is.numbered.one_number s m n x (subst (λ k. IsAmong (numbering k) (s, n)) same y)
