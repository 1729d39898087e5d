-- Walks over the occurrences of symbols: what was taken, or given back, up to a place.
use Rattle.std.proofs.Common.{◌≡◌, ℕ, ◌+◌, ◌<◌, ◌≤◌, List, [], ◌∷◌, ◌++◌, length, get_or, take, drop, map, refl, sym, ap, ◌∙◌, subst, add-one, arith, append_assoc, append-nil, length-append}
use Rattle.std.proofs.Math.ListN.{drop_of_length-le}
use Rattle.std.proofs.Math.Seq.{take-suc}
use Rattle.std.proofs.lemmas.List.{take-append-drop}
use Rattle.si_defs.specs.Terms.{row, symbols, symbols_of_all}
use Rattle.si_defs.specs.Symbols.{Symbol, times}
use Rattle.si_defs.specs.Entries.{literals_symbols}
use Rattle.si_state.specs.Signatures.{uses_of}
use Rattle.si_term.specs.Terms.{term_of}
use Rattle.si_term.specs.Meaning.{literal_of}
use Rattle.si_term.specs.declared.term.Term.{Term}
use Rattle.si_term.specs.declared.clause.Literal.{Literal}
use Rattle.si_sign.specs.Uses.{seen, IsUses}
use Rattle.si_sign.specs.Taking.{TakesUses, GivesBack, RefusesFrom}
use Rattle.si_sign.specs.declared.faults.TakeFault.{TakeFault}
use Rattle.si_sign.specs.declared.uses.Uses.{Uses}
use Rattle.si_sign.proofs.SeenLaws.{seen_rising}
use Rattle.si_sign.proofs.UsesOf.{times_append}
use Rattle.si_sign.proofs.KeptLaws.{is_signature}
use Rattle.si_sign.proofs.TakeLaws.{takes_none, takes_more, refuses_more, refuses_front, gives_none, gives_more, undone}

-- ---- the symbols of items, one item after the other
abbrev pub gather : {A : Type 0} → (A → List Symbol) → List A → List Symbol
gather f [] = []
gather f (x ∷ xs) = f x ++ gather f xs

module _ {A : Type 0} (f : A → List Symbol) where
  gather_append : (xs ys : List A) → gather f (xs ++ ys) ≡ gather f xs ++ gather f ys
  gather_append [] ys = refl
  gather_append (x ∷ xs) ys = ap (λ l. f x ++ l) (gather_append xs ys) ∙ sym (append_assoc (f x) (gather f xs) (gather f ys))

  pub gather_next : (xs : List A) (i : ℕ) (x : A) → i < length xs → x ≡ get_or xs i x → gather f (take (i + 1) xs) ≡ gather f (take i xs) ++ f x
  gather_next xs i x h read =
      ap (λ n. gather f (take n xs)) (add-one i)
      ∙ ap (gather f) (take-suc xs i x h)
      ∙ gather_append (take i xs) (get_or xs i x ∷ [])
      ∙ ap (λ l. gather f (take i xs) ++ l) (append-nil (f (get_or xs i x)) ∙ ap f (sym read))

  pub gather_all : (xs : List A) (i : ℕ) → length xs ≤ i → gather f (take i xs) ≡ gather f xs
  gather_all xs i h =
      ap (gather f) (sym (append-nil (take i xs)) ∙ ap (λ l. take i xs ++ l) (sym (drop_of_length-le xs h)) ∙ take-append-drop i xs)

  pub gather_split : (xs : List A) (i : ℕ) (x : A) → i < length xs → x ≡ get_or xs i x → gather f xs ≡ (gather f (take i xs) ++ f x) ++ gather f (drop (i + 1) xs)
  gather_split xs i x h read =
      ap (gather f) (sym (take-append-drop (i + 1) xs))
      ∙ gather_append (take (i + 1) xs) (drop (i + 1) xs)
      ∙ ap (λ l. l ++ gather f (drop (i + 1) xs)) (gather_next xs i x h read)

abbrev pub in_term : Term → List Symbol
in_term t = symbols (term_of t)

abbrev pub in_literal : Literal → List Symbol
in_literal l = symbols (term_of l.atom)

pub in_terms : (ts : List Term) → symbols_of_all (row (map term_of ts)) ≡ gather in_term ts
in_terms [] = refl
in_terms (t ∷ ts) = ap (λ l. symbols (term_of t) ++ l) (in_terms ts)

pub in_literals : (ls : List Literal) → literals_symbols (map literal_of ls) ≡ gather in_literal ls
in_literals [] = refl
in_literals (l ∷ ls) = ap (λ k. symbols (term_of l.atom) ++ k) (in_literals ls)

-- ---- taking
pub record TakesSoFar (u v : Uses) (own : List Symbol) : Type 0 where
  pub uses : IsUses v
  pub takes : TakesUses own (seen u) (seen v)

module _ (u : Uses) (facts : IsUses u) where
  pub takes_first : TakesSoFar u u []
  takes_first = record { uses = facts; takes = takes_none (seen u) (is_signature u facts) }

  module _ (v : Uses) (own ys : List Symbol) (so_far : TakesSoFar u v own) where
    pub takes_on : (w : Uses) (now : List Symbol) → IsUses w → TakesUses ys (seen v) (seen w) → now ≡ own ++ ys → TakesSoFar u w now
    takes_on w now uses more e = record {
      uses = uses;
      takes = subst (λ l. TakesUses l (seen u) (seen w)) (sym e) (takes_more (seen u) (seen v) own ys (is_signature u facts) so_far.takes (seen w) more);
    }

    pub total_so_far : v.total ≡ u.total + length own
    total_so_far = omega (arith, facts.counted, so_far.uses.counted, so_far.takes.sum)

    pub leaves_room : (all rest : List Symbol) (n : ℕ) → all ≡ (own ++ ys) ++ rest → u.total + length all ≤ n → v.total + length ys ≤ n
    leaves_room all rest n split room =
        omega (arith, room, total_so_far, ap length split, length-append (own ++ ys) rest, length-append own ys)

    pub refused : (begin : ℕ) (all rest : List Symbol) (fault : TakeFault) → all ≡ (own ++ ys) ++ rest → RefusesFrom begin (seen v) ys fault → RefusesFrom begin (seen u) all fault
    refused begin all rest fault split why =
        subst (λ l. RefusesFrom begin (seen u) l fault) (sym split)
        (refuses_front begin (seen u) (own ++ ys) rest fault
        (refuses_more (seen u) (seen v) own ys (is_signature u facts) so_far.takes (is_signature v so_far.uses) begin fault why))

  module _ (v : Uses) (own own_too : List Symbol) (so_far : TakesSoFar u v own) (same : own_too ≡ own) (w : Uses) (stays : seen w ≡ seen v) where
    pub enough : (s : Symbol) → times s own_too ≤ uses_of (seen w) s
    enough s = omega (arith, so_far.takes.uses s, ap (times s) same, ap (λ k. uses_of k s) stays)

    pub put_back : (z : Uses) → IsUses z → GivesBack own_too (seen w) (seen z) → seen z ≡ seen u
    put_back z uses gives =
        undone (seen u) (seen v) (seen z) own (is_signature u facts) (is_signature z uses) (seen_rising 0 u.slots.slots) (seen_rising 0 z.slots.slots) so_far.takes
        (subst (λ k. GivesBack own k (seen z)) stays (subst (λ l. GivesBack l (seen w) (seen z)) same gives))

-- ---- giving back
pub record GivesSoFar (u v : Uses) (own : List Symbol) : Type 0 where
  pub uses : IsUses v
  pub gives : GivesBack own (seen u) (seen v)

pub gives_first : (u : Uses) → IsUses u → GivesSoFar u u []
gives_first u facts = record { uses = facts; gives = gives_none (seen u) (is_signature u facts) }

module _ (u v : Uses) (own ys : List Symbol) (so_far : GivesSoFar u v own) where
  pub gives_on : (w : Uses) (now : List Symbol) → IsUses w → GivesBack ys (seen v) (seen w) → now ≡ own ++ ys → GivesSoFar u w now
  gives_on w now uses more e = record {
    uses = uses;
    gives = subst (λ l. GivesBack l (seen u) (seen w)) (sym e) (gives_more (seen u) (seen v) (seen w) own ys (is_signature w uses) so_far.gives more);
  }

  pub still_used : (all rest : List Symbol) → all ≡ (own ++ ys) ++ rest → ((s : Symbol) → times s all ≤ uses_of (seen u) s) → (s : Symbol) → times s ys ≤ uses_of (seen v) s
  still_used all rest split used s =
      omega (
        arith,
        used s,
        so_far.gives.uses s,
        ap (times s) split,
        times_append s (own ++ ys) rest,
        times_append s own ys,
      )
