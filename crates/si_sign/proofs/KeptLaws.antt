-- What the program keeps of the symbols in use is a signature.
use Rattle.std.proofs.Common.{◌≡◌, ℕ, suc, ◌+◌, ◌*◌, ◌≤◌, Bool, true, false, cond, [], ◌∷◌, Option, Some, None, length, refl, sym, ap, ◌∙◌, subst, arith}
use Rattle.std.proofs.lemmas.Option.{same_Some}
use Rattle.std.specs.Prelude.{count_by, is_some}
use Rattle.std.specs.List.{AllByRecursion}
use Rattle.std.proofs.lemmas.List.Sums.{sum_by-cons}
use Rattle.std.proofs.lemmas.Bool.{false≢true}
use Rattle.slab.specs.Slab.{get, slab_len}
use Rattle.si_defs.specs.Symbols.{Symbol, IsNumbering, same_symbol}
use Rattle.si_defs.specs.Bytes.{Bytes}
use Rattle.si_defs.specs.declared.SymKind.{SymKind}
use Rattle.si_defs.specs.Substitutions.{IsAmong, AreDistinct}
use Rattle.si_state.specs.Signatures.{Used, Signature, IsSignature, keys, numbering, known_symbols, uses_of, total}
use Rattle.si_term.specs.Terms.{symbol_of}
use Rattle.si_sign.specs.Uses.{key_in}
use Rattle.si_sign.specs.Uses.{used_at, seen_from, seen, IsUses}
use Rattle.si_sign.specs.declared.uses.CountedSymbol.{CountedSymbol}
use Rattle.si_sign.specs.declared.uses.Uses.{Uses}
use Rattle.si_defs.proofs.SymbolLaws.{symbol_is, symbol_same}
use Rattle.si_defs.proofs.ListLaws.{all_from}
use Rattle.si_sign.proofs.SeenLaws.{Slots, at, among_seen, seen_among}
use Rattle.si_sign.proofs.UsesOf.{key, keys_among, symbols_among, numbering_among, among_symbols, among_numbering, uses_absent, uses_among}

-- no two slots have a symbol of one kind and text
abbrev IsOneShape : Slots → Type 0
IsOneShape xs = (i j : ℕ) (c d : CountedSymbol) → at xs i ≡ Some c → at xs j ≡ Some d → c.sym.kind ≡ d.sym.kind → c.sym.text ≡ d.sym.text → i ≡ j

distinct : (n : ℕ) (xs : Slots) → IsOneShape xs → AreDistinct (keys (seen_from n xs))
distinct n [] one = tt
distinct n (None ∷ xs) one = distinct (1 + n) xs (λ i j c d a b k t. let e = one (suc i) (suc j) c d a b k t in omega (arith, e))
distinct n (Some c ∷ xs) one = (
  λ h.
      let m = keys_among (seen_from (1 + n) xs) (c.sym.kind, c.sym.text) h in
      let s = seen_among (1 + n) xs m.used m.among in
      let same : key (used_at (1 + n + s.key) s.counted) ≡ (c.sym.kind, c.sym.text) = ap key s.is ∙ m.is in
      let e = one 0 (suc s.key) c s.counted refl s.there (sym (ap (λ p. p.0) same)) (sym (ap (λ p. p.1) same)) in
      omega (arith, e),
  distinct (1 + n) xs (λ i j c d a b k t. let e = one (suc i) (suc j) c d a b k t in omega (arith, e)),
)

module _ (u : Uses) (facts : IsUses u) where
  pub one_shape : AreDistinct (keys (seen u))
  one_shape = distinct 0 u.slots.slots (λ i j c d a b k t.
      same_Some i j (sym (facts.held i c a) ∙ (λ n. key_in u (k n) (t n)) ∙ facts.held j d b))

  -- the slot of a symbol in use
  pub record Kept (s : Symbol) : Type 0 where
    pub slot : ℕ
    pub counted : CountedSymbol
    pub there : get u.slots slot ≡ Some counted
    pub is : symbol_of counted.sym ≡ s

  pub slot_key : (k : ℕ) (c : CountedSymbol) (s : Symbol) → get u.slots k ≡ Some c → symbol_of c.sym ≡ s → key_in u s.kind s.text ≡ Some k
  slot_key k c s there e = (λ n. key_in u (sym e n).kind (sym e n).text) ∙ facts.held k c there

  -- a symbol has one slot
  pub one_slot : (i j : ℕ) (c d : CountedSymbol) (s : Symbol) → get u.slots i ≡ Some c → get u.slots j ≡ Some d → symbol_of c.sym ≡ s → symbol_of d.sym ≡ s → i ≡ j
  one_slot i j c d s a b e f = same_Some i j (sym (slot_key i c s a e) ∙ slot_key j d s b f)

  pub record Numbered (s : Symbol) (m : ℕ) : Type 0 where
    pub slot : ℕ
    pub counted : CountedSymbol
    pub there : get u.slots slot ≡ Some counted
    pub is : symbol_of counted.sym ≡ s
    pub twice : 2 * slot ≡ m

  pub slot_of : (s : Symbol) (m : ℕ) → IsAmong (numbering (seen u)) (s, m) → Numbered s m
  slot_of s m h =
      let a = numbering_among (seen u) (s, m) h in
      let t = seen_among 0 u.slots.slots a.used a.among in
      let pair : (symbol_of t.counted.sym, 2 * (0 + t.key)) ≡ (s, m) = ap (λ (v : Used). (v.symbol, v.number)) t.is ∙ a.is in
      let number : 2 * (0 + t.key) ≡ m = ap (λ p. p.1) pair in
      record { slot = t.key; counted = t.counted; there = t.there; is = ap (λ p. p.0) pair; twice = omega (arith, number) }

  pub in_seen : (k : ℕ) (c : CountedSymbol) → get u.slots k ≡ Some c → IsAmong (seen u) (used_at k c)
  in_seen k c there =
      let e : 0 + k ≡ k = omega arith in
      subst (λ m. IsAmong (seen u) (used_at m c)) e (among_seen 0 u.slots.slots k c there)

  pub number_of : (k : ℕ) (c : CountedSymbol) → get u.slots k ≡ Some c → IsAmong (numbering (seen u)) (symbol_of c.sym, 2 * k)
  number_of k c there = among_numbering (seen u) (used_at k c) (in_seen k c there)

  pub kept_of : (s : Symbol) → IsAmong (known_symbols (seen u)) s → Kept s
  kept_of s h =
      let a = symbols_among (seen u) s h in
      let t = seen_among 0 u.slots.slots a.used a.among in
      record { slot = t.key; counted = t.counted; there = t.there; is = ap (λ (v : Used). v.symbol) t.is ∙ a.is }

  numbered : IsNumbering (numbering (seen u))
  numbered = record {
    one_number = λ s m n a b.
        let x = slot_of s m a in
        let y = slot_of s n b in
        let e = one_slot x.slot y.slot x.counted y.counted s x.there y.there x.is y.is in
        omega (arith, e, x.twice, y.twice);
    one_symbol = λ s r n a b.
        let x = slot_of s n a in
        let y = slot_of r n b in
        let e : x.slot ≡ y.slot = omega (arith, x.twice, y.twice) in
        let c = same_Some x.counted y.counted (sym x.there ∙ ap (get u.slots) e ∙ y.there) in
        sym x.is ∙ ap (λ (d : CountedSymbol). symbol_of d.sym) c ∙ y.is;
    even = λ s n a. let x = slot_of s n a in (x.slot, sym x.twice);
    small = λ s n a.
        let x = slot_of s n a in
        omega (arith, x.twice, facts.below x.slot x.counted x.there);
  }

  pub is_signature : IsSignature (seen u)
  is_signature = record {
    one_shape = one_shape;
    numbered = numbered;
    used = all_from (λ v. 1 ≤ v.uses) (seen u) (λ v h.
        let t = seen_among 0 u.slots.slots v h in
        omega (arith, facts.used t.key t.counted t.there, ap (λ (w : Used). w.uses) t.is));
  }

  -- a kind and text without a key aren't in use
  pub no_key : (kind : SymKind) (text : Bytes) → key_in u kind text ≡ None → IsAmong (keys (seen u)) (kind, text) → ⊥
  no_key kind text none h =
      let m = keys_among (seen u) (kind, text) h in
      let t = seen_among 0 u.slots.slots m.used m.among in
      let pair : key (used_at (0 + t.key) t.counted) ≡ (kind, text) = ap key t.is ∙ m.is in
      let clash : None ≡ Some t.key = sym none ∙ (λ n. key_in u (sym pair n).0 (sym pair n).1) ∙ facts.held t.key t.counted t.there in
      cc

  pub no_symbol : (s : Symbol) → key_in u s.kind s.text ≡ None → (n : ℕ) → IsAmong (numbering (seen u)) (s, n) → ⊥
  no_symbol s none n h =
      let x = slot_of s n h in
      let clash : None ≡ Some x.slot = sym none ∙ slot_key x.slot x.counted s x.there x.is in
      cc

  -- ---- uses by slots
  pub uses_at : (k : ℕ) (c : CountedSymbol) → get u.slots k ≡ Some c → uses_of (seen u) (symbol_of c.sym) ≡ c.uses
  uses_at k c there = uses_among (seen u) (used_at k c) one_shape (in_seen k c there)

-- how often a slot's symbol is used as this one
abbrev pub uses_for : Option CountedSymbol → Symbol → ℕ
uses_for None s = 0
uses_for (Some c) s = cond (same_symbol (symbol_of c.sym) s) c.uses 0

module _ (u : Uses) (facts : IsUses u) (s : Symbol) where
  pub uses_unknown : key_in u s.kind s.text ≡ None → uses_of (seen u) s ≡ 0
  uses_unknown none = uses_absent (seen u) s (λ v h e.
      let k = kept_of u facts s (subst (IsAmong (known_symbols (seen u))) e (among_symbols (seen u) v h)) in
      let clash : None ≡ Some k.slot = sym none ∙ slot_key u facts k.slot k.counted s k.there k.is in
      cc)

  pub uses_known : (k : ℕ) (c : CountedSymbol) → key_in u s.kind s.text ≡ Some k → get u.slots k ≡ Some c → uses_of (seen u) s ≡ uses_for (Some c) s
  uses_known k c known there = by (same_symbol (symbol_of c.sym) s) refl where
    by : (b : Bool) → same_symbol (symbol_of c.sym) s ≡ b → uses_of (seen u) s ≡ cond b c.uses 0
    by true e = ap (uses_of (seen u)) (sym (symbol_is (symbol_of c.sym) s e)) ∙ uses_at u facts k c there
    by false e = uses_absent (seen u) s (λ v h f.
        let t = kept_of u facts s (subst (IsAmong (known_symbols (seen u))) f (among_symbols (seen u) v h)) in
        let slot = same_Some t.slot k (sym (slot_key u facts t.slot t.counted s t.there t.is) ∙ known) in
        let same = same_Some t.counted c (sym t.there ∙ ap (get u.slots) slot ∙ there) in
        absurd (false≢true (sym e ∙ symbol_same (symbol_of c.sym) s (ap (λ (d : CountedSymbol). symbol_of d.sym) (sym same) ∙ t.is))))

-- ---- how many
count_seen : (n : ℕ) (xs : Slots) → length (seen_from n xs) ≡ count_by is_some xs
count_seen n [] = refl
count_seen n (None ∷ xs) = omega (arith, count_seen (1 + n) xs, sum_by-cons (λ (o : Option CountedSymbol). cond (is_some o) 1 0) None xs)
count_seen n (Some c ∷ xs) = omega (arith, count_seen (1 + n) xs, sum_by-cons (λ (o : Option CountedSymbol). cond (is_some o) 1 0) (Some c) xs)

pub length_seen : (u : Uses) → length (seen u) ≡ slab_len u.slots
length_seen u = count_seen 0 u.slots.slots

pub length_total : (us : Signature) → AllByRecursion (λ v. 1 ≤ v.uses) us → length us ≤ total us
length_total [] all = omega arith
length_total (u ∷ us) all = omega (arith, all.0, length_total us all.1)
