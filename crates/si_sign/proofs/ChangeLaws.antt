-- One slot of the symbols in use changes.
use Rattle.std.proofs.Common.{◌≡◌, ◌⊎◌, inl, inr, ℕ, ◌+◌, ◌*◌, ◌<◌, ◌≤◌, Bool, true, false, cond, Option, Some, None, refl, sym, ap, ◌∙◌, arith}
use Rattle.std.proofs.lemmas.Option.{same_Some}
use Rattle.std.proofs.lemmas.Bool.Decides.{eqb_tells}
use Rattle.slab.specs.Slab.{get}
use Rattle.si_defs.specs.Bytes.{Bytes}
use Rattle.si_defs.specs.Symbols.{Symbol, same_symbol}
use Rattle.si_defs.specs.declared.SymKind.{SymKind}
use Rattle.si_state.specs.Signatures.{uses_of, KeepsNumbers}
use Rattle.si_term.specs.Terms.{symbol_of}
use Rattle.si_sign.specs.Uses.{key_in}
use Rattle.si_sign.specs.Uses.{seen, IsUses}
use Rattle.si_sign.specs.declared.uses.CountedSymbol.{CountedSymbol}
use Rattle.si_sign.specs.declared.uses.Uses.{Uses}
use Rattle.si_sign.specs.declared.uses.TheConstants.{MOST_USES}
use Rattle.si_defs.proofs.SymbolLaws.{symbol_is, name_either}
use Rattle.si_sign.proofs.SeenLaws.{uses_in, total_changes}
use Rattle.si_sign.proofs.KeptLaws.{slot_key, slot_of, uses_for, uses_unknown, uses_known}

-- the key, where the slot has a symbol
abbrev pub key_if : ℕ → Option CountedSymbol → Option ℕ
key_if k None = None
key_if k (Some c) = Some k

record IsKeyOf (k : ℕ) (o : Option CountedSymbol) (key : ℕ) : Type 0 where
  counted : CountedSymbol
  there : o ≡ Some counted
  same : key ≡ k

key_if_some : (k : ℕ) (o : Option CountedSymbol) (key : ℕ) → key_if k o ≡ Some key → IsKeyOf k o key
key_if_some k None key h = cc
key_if_some k (Some c) key h = record { counted = c; there = refl; same = sym (same_Some k key h) }

-- The slot with the key k is one of this kind and text, or of no symbol, before and after.
pub record Changes (t v : Uses) (kind : SymKind) (text : Bytes) (k : ℕ) : Type 0 where
  pub others : (j : ℕ) → (j ≡ k → ⊥) → get v.slots j ≡ get t.slots j
  pub keys : (l : SymKind) (x : Bytes) → (l ≡ kind → x ≡ text → ⊥) → key_in v l x ≡ key_in t l x
  pub was : key_in t kind text ≡ key_if k (get t.slots k)
  pub is : key_in v kind text ≡ key_if k (get v.slots k)
  pub before : (c : CountedSymbol) → get t.slots k ≡ Some c → (c.sym.kind ≡ kind) × (c.sym.text ≡ text)
  pub after : (c : CountedSymbol) → get v.slots k ≡ Some c → (c.sym.kind ≡ kind) × (c.sym.text ≡ text)
  pub used : (c : CountedSymbol) → get v.slots k ≡ Some c → 1 ≤ c.uses
  pub small : k < MOST_USES
  pub sum : v.total + uses_in (get t.slots k) ≡ t.total + uses_in (get v.slots k)
  pub few : v.total ≤ MOST_USES

uses_here : (u : Uses) → IsUses u → (s : Symbol) (k : ℕ) (o : Option CountedSymbol) → get u.slots k ≡ o → key_in u s.kind s.text ≡ key_if k o → uses_of (seen u) s ≡ uses_for o s
uses_here u facts s k None there key = uses_unknown u facts s key
uses_here u facts s k (Some c) there key = uses_known u facts s k c key there

uses_apart : (o : Option CountedSymbol) (s : Symbol) (kind : SymKind) (text : Bytes) → ((c : CountedSymbol) → o ≡ Some c → (c.sym.kind ≡ kind) × (c.sym.text ≡ text))
    → (s.kind ≡ kind → s.text ≡ text → ⊥) → uses_for o s ≡ 0
uses_apart None s kind text of apart = refl
uses_apart (Some c) s kind text of apart = by (same_symbol (symbol_of c.sym) s) refl where
  by : (b : Bool) → same_symbol (symbol_of c.sym) s ≡ b → cond b c.uses 0 ≡ 0
  by true e =
      let same = symbol_is (symbol_of c.sym) s e in
      absurd (apart (ap (λ (r : Symbol). r.kind) (sym same) ∙ (of c refl).0) (ap (λ (r : Symbol). r.text) (sym same) ∙ (of c refl).1))
  by false e = refl

module _ (t v : Uses) (kind : SymKind) (text : Bytes) (k : ℕ) (facts : IsUses t) (change : Changes t v kind text k) where
  -- what is found under another kind and text stands in another slot
  other_slot : (l : SymKind) (x : Bytes) (j : ℕ) → key_in t l x ≡ Some j → (l ≡ kind → x ≡ text → ⊥) → j ≡ k → ⊥
  other_slot l x j known apart e =
      let r = facts.found l x j known in
      let b = change.before r.0 (ap (get t.slots) (sym e) ∙ r.1) in
      apart (sym r.2 ∙ b.0) (sym r.3 ∙ b.1)

  -- what stands in another slot is of another kind or text
  other_name : (j : ℕ) (c : CountedSymbol) → get t.slots j ≡ Some c → (j ≡ k → ⊥) → c.sym.kind ≡ kind → c.sym.text ≡ text → ⊥
  other_name j c there apart e f =
      apart (key_if_some k (get t.slots k) j (sym change.was ∙ (λ n. key_in t (sym e n) (sym f n)) ∙ facts.held j c there)).same

  held : (j : ℕ) (c : CountedSymbol) → get v.slots j ≡ Some c → key_in v c.sym.kind c.sym.text ≡ Some j
  held j c there =
      elim (eqb_tells j k) [
        | inl e ↦
            let here = ap (get v.slots) (sym e.1) ∙ there in
            let a = change.after c here in
            (λ n. key_in v (a.0 n) (a.1 n)) ∙ change.is ∙ ap (key_if k) here ∙ ap Some (sym e.1)
        | inr e ↦
            let before = sym (change.others j e.1) ∙ there in
            change.keys c.sym.kind c.sym.text (other_name j c before e.1) ∙ facts.held j c before
      ]

  found : (l : SymKind) (x : Bytes) (j : ℕ) → key_in v l x ≡ Some j → (c : CountedSymbol) × (get v.slots j ≡ Some c) × (c.sym.kind ≡ l) × (c.sym.text ≡ x)
  found l x j known = by (name_either l kind x text) where
    by : ((l ≡ kind) × (x ≡ text)) ⊎ (l ≡ kind → x ≡ text → ⊥) → (c : CountedSymbol) × (get v.slots j ≡ Some c) × (c.sym.kind ≡ l) × (c.sym.text ≡ x)
    by (inl e) =
        let r = key_if_some k (get v.slots k) j (sym change.is ∙ (λ n. key_in v (sym e.0 n) (sym e.1 n)) ∙ known) in
        let a = change.after r.counted r.there in
        (r.counted, ap (get v.slots) r.same ∙ r.there, a.0 ∙ sym e.0, a.1 ∙ sym e.1)
    by (inr apart) =
        let before = sym (change.keys l x apart) ∙ known in
        let r = facts.found l x j before in
        (r.0, change.others j (other_slot l x j before apart) ∙ r.1, r.2, r.3)

  used : (j : ℕ) (c : CountedSymbol) → get v.slots j ≡ Some c → 1 ≤ c.uses
  used j c there =
      elim (eqb_tells j k) [
        | inl e ↦ change.used c (ap (get v.slots) (sym e.1) ∙ there)
        | inr e ↦ facts.used j c (sym (change.others j e.1) ∙ there)
      ]

  below : (j : ℕ) (c : CountedSymbol) → get v.slots j ≡ Some c → j < MOST_USES
  below j c there =
      elim (eqb_tells j k) [
        | inl e ↦ omega (arith, e.1, change.small)
        | inr e ↦ facts.below j c (sym (change.others j e.1) ∙ there)
      ]

  pub changed : IsUses v
  changed = record {
    held = held;
    found = found;
    used = used;
    below = below;
    counted = omega (arith, facts.counted, change.sum, total_changes t.slots.slots v.slots.slots k change.others);
    few = change.few;
  }

  same_uses : (s : Symbol) → (s.kind ≡ kind → s.text ≡ text → ⊥) → (o : Option ℕ) → key_in t s.kind s.text ≡ o → uses_of (seen v) s ≡ uses_of (seen t) s
  same_uses s apart None none =
      uses_unknown v changed s (change.keys s.kind s.text apart ∙ none) ∙ sym (uses_unknown t facts s none)
  same_uses s apart (Some j) known =
      let r = facts.found s.kind s.text j known in
      let there = change.others j (other_slot s.kind s.text j known apart) ∙ r.1 in
      uses_known v changed s j r.0 (change.keys s.kind s.text apart ∙ known) there ∙ sym (uses_known t facts s j r.0 known r.1)

  pub uses_change : (s : Symbol) → uses_of (seen v) s + uses_for (get t.slots k) s ≡ uses_of (seen t) s + uses_for (get v.slots k) s
  uses_change s = by (name_either s.kind kind s.text text) where
    by : ((s.kind ≡ kind) × (s.text ≡ text)) ⊎ (s.kind ≡ kind → s.text ≡ text → ⊥) → uses_of (seen v) s + uses_for (get t.slots k) s ≡ uses_of (seen t) s + uses_for (get v.slots k) s
    by (inl e) =
        omega (
          arith,
          uses_here t facts s k (get t.slots k) refl ((λ n. key_in t (e.0 n) (e.1 n)) ∙ change.was),
          uses_here v changed s k (get v.slots k) refl ((λ n. key_in v (e.0 n) (e.1 n)) ∙ change.is),
        )
    by (inr apart) =
        omega (
          arith,
          uses_apart (get t.slots k) s kind text change.before apart,
          uses_apart (get v.slots k) s kind text change.after apart,
          same_uses s apart (key_in t s.kind s.text) refl,
        )

  pub keeps_numbers : KeepsNumbers (seen t) (seen v)
  keeps_numbers s m n a b =
      let x = slot_of t facts s m a in
      let y = slot_of v changed s n b in
      let old = slot_key t facts x.slot x.counted s x.there x.is in
      let new = slot_key v changed y.slot y.counted s y.there y.is in
      by s x.slot y.slot old new m n x.twice y.twice (name_either s.kind kind s.text text) where
        by : (s : Symbol) (i j : ℕ) → key_in t s.kind s.text ≡ Some i → key_in v s.kind s.text ≡ Some j → (m n : ℕ) → 2 * i ≡ m → 2 * j ≡ n
            → ((s.kind ≡ kind) × (s.text ≡ text)) ⊎ (s.kind ≡ kind → s.text ≡ text → ⊥) → m ≡ n
        by s i j old new m n p q (inl e) =
            let f = key_if_some k (get t.slots k) i (sym change.was ∙ (λ h. key_in t (sym e.0 h) (sym e.1 h)) ∙ old) in
            let g = key_if_some k (get v.slots k) j (sym change.is ∙ (λ h. key_in v (sym e.0 h) (sym e.1 h)) ∙ new) in
            omega (arith, p, q, f.same, g.same)
        by s i j old new m n p q (inr apart) =
            let f = same_Some i j (sym old ∙ sym (change.keys s.kind s.text apart) ∙ new) in
            omega (arith, p, q, f)
