-- What a consistent list of clauses determines: first clashes, the clause that goes, the number of
-- symbols, and that it stays consistent.
use Rattle.std.proofs.Common.{◌≡◌, ◌⊎◌, inl, inr, ℕ, ◌≤◌, Bool, true, false, ◌&&◌, ◌==◌, List, [], ◌∷◌, ◌++◌, length, refl, sym, ap, ◌∙◌, subst, arith, append_assoc, append-nil, length-append}
use Rattle.std.proofs.lemmas.Bool.{eq-eqb, eqb-true, and_parts, false≢true}
use Rattle.si_defs.specs.Symbols.{Symbol, same_side}
use Rattle.si_defs.specs.Clauses.{Name, Clause}
use Rattle.si_defs.specs.Substitutions.{IsAmong, AreDistinct}
use Rattle.si_state.specs.States.{Rules}
use Rattle.si_state.specs.Acceptance.{names, IsTaken, HasDistinctNames, Clashes, Agrees, AllAgree, IsFirstClash, Accepts, Removes}
use Rattle.si_state.specs.Signatures.{CountsSymbols}
use Rattle.si_defs.proofs.SymbolLaws.{side_is, side_self}
use Rattle.si_defs.proofs.ListLaws.{among_front, among_back, among_parts, all_at, same_first, same_tail}
use Rattle.si_sign.proofs.TakeLaws.{agree_append, agree_split}
use Rattle.si_sign.proofs.StoreLaws.{names_append, names_more, names_less, symbols_more, symbols_less}
use Rattle.si_laws.specs.OneReply.{IsConsistent}

-- ---- symbols that agree
clash_back : (s r : Symbol) → Clashes s r → Clashes r s
clash_back s r c = record { kind = sym c.kind; text = sym c.text; differ = λ side arity. c.differ (sym side) (sym arity) }

agree_one : (ks ss : List Symbol) (k s : Symbol) → AllAgree ks ss → IsAmong ks k → IsAmong ss s → Clashes s k → ⊥
agree_one ks [] k s a known h c = h
agree_one ks (r ∷ ss) k s a known (inl e) c = all_at (λ q. Clashes s q → ⊥) ks k (subst (Agrees ks) e a.0) known c
agree_one ks (r ∷ ss) k s a known (inr h) c = agree_one (ks ++ r ∷ []) ss k s a.1 (among_front ks (r ∷ []) k known) h c

agree_two : (ks ss : List Symbol) (r s : Symbol) → AllAgree ks ss → IsAmong ss r → IsAmong ss s → Clashes r s → ⊥
agree_two ks [] r s a h k c = h
agree_two ks (q ∷ ss) r s a (inl d) (inl e) c = c.differ (ap (λ (p : Symbol). p.side) (sym d ∙ e)) (ap (λ (p : Symbol). p.arity) (sym d ∙ e))
agree_two ks (q ∷ ss) r s a (inl d) (inr k) c =
    agree_one (ks ++ q ∷ []) ss r s a.1 (among_back ks (q ∷ []) r (inl d)) k (clash_back r s c)
agree_two ks (q ∷ ss) r s a (inr h) (inl e) c = agree_one (ks ++ q ∷ []) ss s r a.1 (among_back ks (q ∷ []) s (inl e)) h c
agree_two ks (q ∷ ss) r s a (inr h) (inr k) c = agree_two (ks ++ q ∷ []) ss r s a.1 h k c

-- symbols of one kind and text that don't clash have one shape
shape_is : (s r : Symbol) → s.kind ≡ r.kind → s.text ≡ r.text → (Clashes s r → ⊥) → (s.side ≡ r.side) × (s.arity ≡ r.arity)
shape_is s r kind text agree = by (same_side s.side r.side && s.arity == r.arity) refl where
  by : (b : Bool) → (same_side s.side r.side && s.arity == r.arity) ≡ b → (s.side ≡ r.side) × (s.arity ≡ r.arity)
  by true e = let parts = and_parts (same_side s.side r.side) (s.arity == r.arity) e in (side_is s.side r.side parts.0, eqb-true s.arity r.arity parts.1)
  by false e = absurd (agree (record {
    kind = kind;
    text = text;
    differ = λ side arity. absurd (false≢true (sym e ∙ (λ n. same_side s.side (sym side n) && s.arity == sym arity n) ∙ (λ n. side_self s.side n && eq-eqb s.arity s.arity refl n)));
  }))

-- ---- the first clash
-- no clash stands before symbols that agree
pub no_clash : (known own : List Symbol) (n : ℕ) (f k : Symbol) → IsFirstClash known own n f k → AllAgree known own → ⊥
no_clash known own n f k first agree =
    let behind = agree_split known first.before (f ∷ first.after) (subst (AllAgree known) first.splits agree) in
    all_at (λ r. Clashes f r → ⊥) (known ++ first.before) k behind.1.0 first.against first.clashes

front_agrees : (known : List Symbol) (y f k : Symbol) → Agrees known y → f ≡ y → IsAmong (known ++ []) k → Clashes f k → ⊥
front_agrees known y f k agree e h c = all_at (λ r. Clashes y r → ⊥) known k agree (subst (λ l. IsAmong l k) (append-nil known) h) (subst (λ s. Clashes s k) e c)

same_front : (known xs ys : List Symbol) (f g k l : Symbol) (us vs : List Symbol) → xs ++ f ∷ us ≡ ys ++ g ∷ vs → AllAgree known xs → AllAgree known ys
    → IsAmong (known ++ xs) k → Clashes f k → IsAmong (known ++ ys) l → Clashes g l → (xs ≡ ys) × (f ≡ g)
same_front known [] [] f g k l us vs e a b h c i d = (refl, same_first e)
same_front known [] (y ∷ ys) f g k l us vs e a b h c i d = absurd (front_agrees known y f k b.0 (same_first e) h c)
same_front known (x ∷ xs) [] f g k l us vs e a b h c i d = absurd (front_agrees known x g l a.0 (sym (same_first e)) i d)
same_front known (x ∷ xs) (y ∷ ys) f g k l us vs e a b h c i d =
    let same = same_first e in
    let rest =
    same_front (known ++ x ∷ []) xs ys f g k l us vs (same_tail e) a.1
    (subst (λ z. AllAgree (known ++ z ∷ []) ys) (sym same) b.1)
    (subst (λ z. IsAmong z k) (sym (append_assoc known (x ∷ []) xs)) h) c
    (subst (λ z. IsAmong z l) (ap (λ z. known ++ z ∷ ys) (sym same) ∙ sym (append_assoc known (x ∷ []) ys)) i) d in
    ((λ n. same n ∷ rest.0 n), rest.1)

-- what clashes first is one symbol at one occurrence, and it clashes with one other
pub same_clash : (known own : List Symbol) (m n : ℕ) (f g k l : Symbol) → AllAgree [] known → IsFirstClash known own m f k → IsFirstClash known own n g l
    → (m ≡ n) × (f ≡ g) × (k ≡ l)
same_clash known own m n f g k l agree one other =
    let front = same_front known one.before other.before f g k l one.after other.after (sym one.splits ∙ other.splits) one.earlier other.earlier one.against one.clashes other.against other.clashes in
    let there = subst (λ z. IsAmong (known ++ z) l) (sym front.0) other.against in
    let kind = sym one.clashes.kind ∙ ap (λ (s : Symbol). s.kind) front.1 ∙ other.clashes.kind in
    let text = sym one.clashes.text ∙ ap (λ (s : Symbol). s.text) front.1 ∙ other.clashes.text in
    let shape = shape_is k l kind text (agree_two [] (known ++ one.before) k l (agree_append [] known one.before agree one.earlier) one.against there) in (
      one.position ∙ ap length front.0 ∙ sym other.position,
      front.1,
      λ i. record { kind = kind i; text = text i; side = shape.0 i; arity = shape.1 i },
    )

-- ---- the clause that goes
name_among : (bs : List Clause) (c : Clause) (ds : List Clause) → IsAmong (names (bs ++ c ∷ ds)) c.name
name_among bs c ds = subst (λ l. IsAmong l c.name) (sym (names_append bs (c ∷ ds))) (among_back (names bs) (c.name ∷ names ds) c.name (inl refl))

same_gone : (bs cs : List Clause) (r s : Clause) (ds es : List Clause) → bs ++ r ∷ ds ≡ cs ++ s ∷ es → HasDistinctNames (bs ++ r ∷ ds) → r.name ≡ s.name
    → (r ≡ s) × (bs ++ ds ≡ cs ++ es)
same_gone [] [] r s ds es e d n = (same_first e, same_tail e)
same_gone [] (c ∷ cs) r s ds es e d n =
    let rest = same_tail e in
    absurd (d.0 (subst (λ l. IsAmong (names l) r.name) (sym rest) (subst (IsAmong (names (cs ++ s ∷ es))) (sym n) (name_among cs s es))))
same_gone (b ∷ bs) [] r s ds es e d n =
    let same = same_first e in
    absurd (d.0 (subst (IsAmong (names (bs ++ r ∷ ds))) (n ∙ ap (λ (c : Clause). c.name) (sym same)) (name_among bs r ds)))
same_gone (b ∷ bs) (c ∷ cs) r s ds es e d n =
    let rest = same_gone bs cs r s ds es (same_tail e) d.1 n in
    (rest.0, (λ i. same_first e i ∷ rest.1 i))

pub same_removal : (state : List Clause) (name : Name) (r s : Clause) (new behind : List Clause) → HasDistinctNames state → Removes state name r new → Removes state name s behind
    → (r ≡ s) × (new ≡ behind)
same_removal state name r s new behind distinct one other =
    let same =
    same_gone one.before other.before r s one.after other.after (sym one.splits ∙ other.splits) (subst HasDistinctNames one.splits distinct) (one.named ∙ sym other.named) in
    (same.0, one.rest ∙ same.1 ∙ sym other.rest)

pub removes_taken : (state : List Clause) (name : Name) (r : Clause) (new : List Clause) → Removes state name r new → IsTaken state name
removes_taken state name r new removes =
    subst (λ l. IsTaken l name) (sym removes.splits) (subst (IsAmong (names (removes.before ++ r ∷ removes.after))) removes.named (name_among removes.before r removes.after))

-- ---- the number of symbols
module _ {A : Type 0} where
  parted : (ys : List A) (x : A) → IsAmong ys x → (before : List A) × (after : List A) × (ys ≡ before ++ x ∷ after)
  parted [] x h = absurd h
  parted (y ∷ ys) x (inl e) = ([], ys, ap (λ z. z ∷ ys) e)
  parted (y ∷ ys) x (inr h) = let rest = parted ys x h in (y ∷ rest.0, rest.1, ap (λ l. y ∷ l) rest.2)

  fewer : (xs ys : List A) → AreDistinct xs → ((x : A) → IsAmong xs x → IsAmong ys x) → length xs ≤ length ys
  fewer [] ys distinct within = omega arith
  fewer (x ∷ xs) ys distinct within =
      let part = parted ys x (within x (inl refl)) in
      let rest = fewer xs (part.0 ++ part.1) distinct.1 (λ z h. other part.0 part.1 z h (among_parts part.0 (x ∷ part.1) z (subst (λ l. IsAmong l z) part.2 (within z (inr h))))) in
      omega (arith, rest, ap length part.2, length-append part.0 (x ∷ part.1), length-append part.0 part.1) where
        other : (before after : List A) (z : A) → IsAmong xs z → IsAmong before z ⊎ IsAmong (x ∷ after) z → IsAmong (before ++ after) z
        other before after z h (inl k) = among_front before after z k
        other before after z h (inr (inl e)) = absurd (distinct.0 (subst (IsAmong xs) (sym e) h))
        other before after z h (inr (inr k)) = among_back before after z k

pub same_count : (state : List Clause) (m n : ℕ) → CountsSymbols state m → CountsSymbols state n → m ≡ n
same_count state m n (xs, one, members, count) (ys, other, those, number) =
    let at_most = fewer xs ys one (λ s h. (those s).1 ((members s).0 h)) in
    let at_least = fewer ys xs other (λ s h. (members s).1 ((those s).0 h)) in
    omega (arith, at_most, at_least, count, number)

-- ---- consistent lists
-- a state of these clauses is consistent
abbrev pub AreConsistent : List Clause → Type 0
AreConsistent clauses = IsConsistent (record { clauses = clauses })

pub consistent_none : AreConsistent []
consistent_none = record { distinct = tt; agree = tt }

pub consistent_more : (rules : Rules) (state : List Clause) (c : Clause) (new : List Clause) → AreConsistent state → Accepts rules state c new → AreConsistent new
consistent_more rules state c new is accepts =
    subst AreConsistent (sym accepts.added) (record { distinct = names_more state c is.distinct accepts.free; agree = symbols_more state c is.agree accepts.agree })

pub consistent_less : (state : List Clause) (name : Name) (c : Clause) (new : List Clause) → AreConsistent state → Removes state name c new → AreConsistent new
consistent_less state name c new is removes =
    let of = subst AreConsistent removes.splits is in
    subst AreConsistent (sym removes.rest) (record {
      distinct = names_less removes.before c removes.after of.distinct;
      agree = symbols_less removes.before c removes.after of.agree;
    })
