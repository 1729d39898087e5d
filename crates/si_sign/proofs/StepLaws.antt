-- One occurrence of a symbol is taken, refused or given back.
use Rattle.std.proofs.Common.{◌≡◌, ◌⊎◌, inl, inr, ℕ, zero, suc, ◌+◌, ◌<◌, ◌≤◌, Bool, true, false, ◌&&◌, ◌==◌, cond, [], ◌∷◌, Option, Some, None, length, refl, sym, ap, ◌∙◌, arith}
use Rattle.std.proofs.lemmas.Option.{same_Some}
use Rattle.std.proofs.lemmas.List.{get_or-set_same, get_or-set_other}
use Rattle.std.proofs.lemmas.Bool.{eq-eqb, false≢true}
use Rattle.slab.specs.Slab.{get, with_value}
use Rattle.si_defs.specs.Symbols.{Symbol, same_side, same_symbol, times}
use Rattle.si_state.specs.Acceptance.{Clashes, Agrees}
use Rattle.si_state.specs.Signatures.{Signature, total, known_symbols, uses_of}
use Rattle.si_term.specs.Terms.{symbol_of}
use Rattle.si_defs.specs.Bytes.{Bytes}
use Rattle.si_defs.specs.Symbols.{same_kind}
use Rattle.si_defs.specs.declared.SymKind.{SymKind}
use Rattle.std.specs.Prelude.{bytes_eq}
use Rattle.std.proofs.lemmas.Bool.Decides.{eqb_tells}
use Rattle.si_sign.specs.Hashed.{chosen}
use Rattle.si_sign.specs.Keys.{is_named, LeadsTo, LeadsAway, StayLed}
use Rattle.si_sign.proofs.KeyLaws.{found_same, leads_to, leads_away}
use Rattle.si_sign.specs.Uses.{key_in}
use Rattle.si_sign.specs.Shapes.{shape_of}
use Rattle.si_sign.specs.Uses.{used_at, seen, seen_from, IsUses}
use Rattle.si_sign.specs.Taking.{TakesUses, GivesBack, RefusesFrom}
use Rattle.si_sign.specs.declared.faults.Clash.{Clash}
use Rattle.si_sign.specs.declared.faults.TakeFault.TheVariants as take_fault
use Rattle.si_sign.specs.declared.uses.CountedSymbol.{CountedSymbol}
use Rattle.si_sign.specs.declared.uses.Uses.{Uses}
use Rattle.si_sign.specs.declared.uses.TheConstants.{MOST_USES}
use Rattle.si_defs.proofs.SymbolLaws.{symbol_is, symbol_same, symbol_either, side_self}
use Rattle.si_defs.proofs.ListLaws.{among_front, all_from}
use Rattle.si_sign.proofs.SeenLaws.{Slots, at, uses_in}
use Rattle.si_sign.proofs.UsesOf.{among_symbols, times_cons}
use Rattle.si_sign.proofs.KeptLaws.{slot_key, kept_of, in_seen, uses_for}
use Rattle.si_sign.proofs.ChangeLaws.{Changes, changed, uses_change, keeps_numbers, key_if}
use Rattle.si_sign.proofs.TakeLaws.{used_symbols}

within : (xs : Slots) (k : ℕ) (c : CountedSymbol) → at xs k ≡ Some c → k < length xs
within [] k c h = cc
within (x ∷ xs) zero c h = omega arith
within (x ∷ xs) (suc k) c h = omega (arith, within xs k c h)

-- ---- the slot of a symbol that has a key
pub known_slot : (t : Uses) → IsUses t → (s : Symbol) (k : ℕ) (c : CountedSymbol) → key_in t s.kind s.text ≡ Some k → get t.slots k ≡ Some c → (c.sym.kind ≡ s.kind) × (c.sym.text ≡ s.text)
known_slot t facts s k c known there =
    let r = facts.found s.kind s.text k known in
    let same = same_Some r.0 c (sym r.1 ∙ there) in
    (ap (λ (d : CountedSymbol). d.sym.kind) (sym same) ∙ r.2, ap (λ (d : CountedSymbol). d.sym.text) (sym same) ∙ r.3)

pub record UsedSlot (t : Uses) (s : Symbol) : Type 0 where
  pub slot : ℕ
  pub counted : CountedSymbol
  pub known : key_in t s.kind s.text ≡ Some slot
  pub there : get t.slots slot ≡ Some counted
  pub is : symbol_of counted.sym ≡ s

pub used_slot : (t : Uses) → IsUses t → (s : Symbol) → 1 ≤ uses_of (seen t) s → UsedSlot t s
used_slot t facts s h =
    let k = kept_of t facts s (used_symbols (seen t) s h) in
    record { slot = k.slot; counted = k.counted; known = slot_key t facts k.slot k.counted s k.there k.is; there = k.there; is = k.is }

pub uses_total : (us : Signature) (s : Symbol) → uses_of us s ≤ total us
uses_total [] s = omega arith
uses_total (u ∷ us) s = by (same_symbol u.symbol s) (uses_total us s) where
  by : (b : Bool) → uses_of us s ≤ total us → cond b u.uses (uses_of us s) ≤ u.uses + total us
  by true h = omega arith
  by false h = omega (arith, h)

-- ---- changes of one slot
abbrev pub recount : Uses → ℕ → CountedSymbol → ℕ → Uses
recount t k d n = record { keys = t.keys; slots = with_value t.slots k d; total = n; recent = tt }

pub recounted_there : (t : Uses) (k : ℕ) (c d : CountedSymbol) (n : ℕ) → get t.slots k ≡ Some c → get (recount t k d n).slots k ≡ Some d
recounted_there t k c d n there = get_or-set_same t.slots.slots k (Some d) None (within t.slots.slots k c there)

recounted_found : (t : Uses) (k : ℕ) (c d : CountedSymbol) (n : ℕ) → get t.slots k ≡ Some c → d.sym ≡ c.sym → (l : SymKind) (x : Bytes) → key_in (recount t k d n) l x ≡ key_in t l x
recounted_found t k c d n there same l x = found_same t.keys (get t.slots) (get (recount t k d n).slots) l x (λ j.
    elim (eqb_tells j k) [
      | inl e ↦
          (λ i. is_named l x (get (recount t k d n).slots (e.1 i))) ∙ ap (is_named l x) (recounted_there t k c d n there) ∙ (λ i. same_kind (same i).kind l && bytes_eq (same i).text x)
          ∙ ap (is_named l x) (sym there) ∙ (λ i. is_named l x (get t.slots (sym e.1 i)))
      | inr e ↦ ap (is_named l x) (get_or-set_other t.slots.slots k j (Some d) None e.1)
    ])

pub recounted : (t : Uses) → IsUses t → (s : Symbol) (k : ℕ) (c d : CountedSymbol) (n : ℕ) → key_in t s.kind s.text ≡ Some k → get t.slots k ≡ Some c
    → d.sym ≡ c.sym → 1 ≤ d.uses → n + c.uses ≡ t.total + d.uses → n ≤ MOST_USES → Changes t (recount t k d n) s.kind s.text k
recounted t facts s k c d n known there same one sum few =
    let here = recounted_there t k c d n there in
    let of = known_slot t facts s k c known there in
    let found = recounted_found t k c d n there same in
    record {
      others = λ j apart. get_or-set_other t.slots.slots k j (Some d) None apart;
      keys = λ l x apart. found l x;
      was = known ∙ ap (key_if k) (sym there);
      is = found s.kind s.text ∙ known ∙ ap (key_if k) (sym here);
      before = λ e h. known_slot t facts s k e known h;
      after = λ e h.
          let f = same_Some d e (sym here ∙ h) in
          (ap (λ (g : CountedSymbol). g.sym.kind) (sym f) ∙ ap (λ y. y.kind) same ∙ of.0, ap (λ (g : CountedSymbol). g.sym.text) (sym f) ∙ ap (λ y. y.text) same ∙ of.1);
      used = λ e h. omega (arith, one, ap (λ (g : CountedSymbol). g.uses) (same_Some d e (sym here ∙ h)));
      small = facts.below k c there;
      sum = omega (arith, sum, ap uses_in there, ap uses_in here);
      few = few;
    }

pub admitted : (t v : Uses) → IsUses t → (s : Symbol) (k : ℕ) (d : CountedSymbol) → symbol_of d.sym ≡ s → d.uses ≡ 1 → key_in t s.kind s.text ≡ None
    → get t.slots k ≡ None → k < MOST_USES → LeadsTo s.kind s.text k t.keys v.keys
    → get v.slots k ≡ Some d → ((j : ℕ) → (j ≡ k → ⊥) → get v.slots j ≡ get t.slots j) → v.total ≡ t.total + 1 → t.total < MOST_USES → Changes t v s.kind s.text k
admitted t v facts s k d is one none vacant small led here others sum room =
    let before : (e : CountedSymbol) → get t.slots k ≡ Some e → (e.sym.kind ≡ s.kind) × (e.sym.text ≡ s.text) = λ e h.
    let clash : None ≡ Some e = sym vacant ∙ h in
    cc in
    let after : (e : CountedSymbol) → get v.slots k ≡ Some e → (e.sym.kind ≡ s.kind) × (e.sym.text ≡ s.text) = λ e h.
    let f = same_Some d e (sym here ∙ h) in
    (ap (λ (g : CountedSymbol). g.sym.kind) (sym f) ∙ ap (λ (r : Symbol). r.kind) is, ap (λ (g : CountedSymbol). g.sym.text) (sym f) ∙ ap (λ (r : Symbol). r.text) is) in
    let keyed = leads_to s.kind s.text k (get t.slots) (get v.slots) others before after t.keys v.keys led none d here in
    record {
      others = others;
      keys = keyed.others;
      was = none ∙ ap (key_if k) (sym vacant);
      is = keyed.here ∙ ap (key_if k) (sym here);
      before = before;
      after = after;
      used = λ e h. omega (arith, one, ap (λ (g : CountedSymbol). g.uses) (same_Some d e (sym here ∙ h)));
      small = small;
      sum = omega (arith, sum, one, ap uses_in vacant, ap uses_in here);
      few = omega (arith, sum, room);
    }

-- where nothing changes
pub unmoved : (t v : Uses) → IsUses t → StayLed t.keys v.keys → v.slots.slots ≡ t.slots.slots → v.total ≡ t.total → IsUses v
unmoved t v facts led slots sum =
    let there : (k : ℕ) (c : CountedSymbol) → get v.slots k ≡ Some c → get t.slots k ≡ Some c = λ k c h. ap (λ xs. at xs k) (sym slots) ∙ h in
    let found : (l : SymKind) (x : Bytes) → key_in v l x ≡ key_in t l x = λ l x i. chosen (λ k. is_named l x (at (slots i) k)) (led.hashed x i) (led.others l x i) in
    record {
      held = λ k c h. found c.sym.kind c.sym.text ∙ facts.held k c (there k c h);
      found = λ l x k h. let r = facts.found l x k (sym (found l x) ∙ h) in (r.0, ap (λ xs. at xs k) slots ∙ r.1, r.2, r.3);
      used = λ k c h. facts.used k c (there k c h);
      below = λ k c h. facts.below k c (there k c h);
      counted = sum ∙ facts.counted ∙ ap (λ xs. total (seen_from 0 xs)) (sym slots);
      few = omega (arith, sum, facts.few);
    }

pub removed : (t v : Uses) → IsUses t → (s : Symbol) (k : ℕ) (c : CountedSymbol) → key_in t s.kind s.text ≡ Some k → get t.slots k ≡ Some c → c.uses ≡ 1
    → LeadsAway s.kind s.text k t.keys v.keys
    → get v.slots k ≡ None → ((j : ℕ) → (j ≡ k → ⊥) → get v.slots j ≡ get t.slots j) → v.total + 1 ≡ t.total → Changes t v s.kind s.text k
removed t v facts s k c known there one left gone others sum =
    let before : (e : CountedSymbol) → get t.slots k ≡ Some e → (e.sym.kind ≡ s.kind) × (e.sym.text ≡ s.text) = λ e h. known_slot t facts s k e known h in
    let after : (e : CountedSymbol) → get v.slots k ≡ Some e → (e.sym.kind ≡ s.kind) × (e.sym.text ≡ s.text) = λ e h.
    let clash : None ≡ Some e = sym gone ∙ h in
    cc in
    let keyed = leads_away s.kind s.text k (get t.slots) (get v.slots) others before after t.keys v.keys left known in
    record {
      others = others;
      keys = keyed.others;
      was = known ∙ ap (key_if k) (sym there);
      is = keyed.here ∙ ap (key_if k) (sym gone);
      before = before;
      after = after;
      used = λ e h. let clash : None ≡ Some e = sym gone ∙ h in cc;
      small = facts.below k c there;
      sum = omega (arith, sum, one, ap uses_in gone, ap uses_in there);
      few = omega (arith, sum, facts.few);
    }

-- ---- what a change makes of the uses
pub times_one : (s r : Symbol) → s ≡ r → times s (r ∷ []) ≡ 1
times_one s r e = omega (arith, times_cons s r [], ap {B = ℕ} (λ b. cond b 1 0) (symbol_same s r e))

other_symbol : (s r : Symbol) → (s ≡ r → ⊥) → same_symbol s r ≡ false
other_symbol s r apart = by (same_symbol s r) refl where
  by : (b : Bool) → same_symbol s r ≡ b → same_symbol s r ≡ false
  by true e = absurd (apart (symbol_is s r e))
  by false e = e

times_zero : (s r : Symbol) → (s ≡ r → ⊥) → times s (r ∷ []) ≡ 0
times_zero s r apart = omega (arith, times_cons s r [], ap {B = ℕ} (λ b. cond b 1 0) (other_symbol s r apart))

uses_for_same : (c : CountedSymbol) (s : Symbol) → symbol_of c.sym ≡ s → uses_for (Some c) s ≡ c.uses
uses_for_same c s e = ap {B = ℕ} (λ b. cond b c.uses 0) (symbol_same (symbol_of c.sym) s e)

uses_for_other : (c : CountedSymbol) (s : Symbol) → (symbol_of c.sym ≡ s → ⊥) → uses_for (Some c) s ≡ 0
uses_for_other c s apart = ap {B = ℕ} (λ b. cond b c.uses 0) (other_symbol (symbol_of c.sym) s apart)

-- the slot's symbol is used once more in o than in b
abbrev pub IsOneMore : Symbol → Option CountedSymbol → Option CountedSymbol → Type 0
IsOneMore s b o = (r : Symbol) → uses_for o r ≡ uses_for b r + times r (s ∷ [])

pub first_use : (s : Symbol) (d : CountedSymbol) → symbol_of d.sym ≡ s → d.uses ≡ 1 → IsOneMore s None (Some d)
first_use s d is one r = by (symbol_either r s) where
  by : (r ≡ s) ⊎ (r ≡ s → ⊥) → uses_for (Some d) r ≡ 0 + times r (s ∷ [])
  by (inl e) = omega (arith, uses_for_same d r (is ∙ sym e), times_one r s e, one)
  by (inr apart) = omega (arith, uses_for_other d r (λ e. apart (sym e ∙ is)), times_zero r s apart)

pub another_use : (s : Symbol) (c d : CountedSymbol) → symbol_of c.sym ≡ s → symbol_of d.sym ≡ s → d.uses ≡ c.uses + 1 → IsOneMore s (Some c) (Some d)
another_use s c d is is_too more r = by (symbol_either r s) where
  by : (r ≡ s) ⊎ (r ≡ s → ⊥) → uses_for (Some d) r ≡ uses_for (Some c) r + times r (s ∷ [])
  by (inl e) = omega (arith, uses_for_same c r (is ∙ sym e), uses_for_same d r (is_too ∙ sym e), times_one r s e, more)
  by (inr apart) = omega (arith, uses_for_other c r (λ e. apart (sym e ∙ is)), uses_for_other d r (λ e. apart (sym e ∙ is_too)), times_zero r s apart)

module _ (t v : Uses) (s : Symbol) (k : ℕ) (b o : Option CountedSymbol) (facts : IsUses t) (change : Changes t v s.kind s.text k) (was : get t.slots k ≡ b) (is : get v.slots k ≡ o) where
  now : IsUses v
  now = changed t v s.kind s.text k facts change

  uses : (r : Symbol) → uses_of (seen v) r + uses_for b r ≡ uses_of (seen t) r + uses_for o r
  uses r =
      omega (
        arith,
        uses_change t v s.kind s.text k facts change r,
        ap (λ x. uses_for x r) was,
        ap (λ x. uses_for x r) is,
      )

  pub takes_step : IsOneMore s b o → v.total ≡ t.total + 1 → Agrees (known_symbols (seen t)) s → TakesUses (s ∷ []) (seen t) (seen v)
  takes_step more sum agrees = record {
    agree = (agrees, tt);
    uses = λ r. omega (arith, uses r, more r);
    numbers = keeps_numbers t v s.kind s.text k facts change;
    sum = omega (arith, sum, facts.counted, now.counted);
  }

  pub gives_step : IsOneMore s o b → v.total + 1 ≡ t.total → GivesBack (s ∷ []) (seen t) (seen v)
  gives_step more sum = record {
    uses = λ r. omega (arith, uses r, more r);
    numbers = keeps_numbers t v s.kind s.text k facts change;
    sum = omega (arith, sum, facts.counted, now.counted);
  }

-- ---- whether a symbol agrees
pub agrees_new : (t : Uses) → IsUses t → (s : Symbol) → key_in t s.kind s.text ≡ None → Agrees (known_symbols (seen t)) s
agrees_new t facts s none = all_from (λ r. Clashes s r → ⊥) (known_symbols (seen t)) (λ r h clash.
    let k = kept_of t facts r h in
    let e : None ≡ Some k.slot = sym none ∙ (λ n. key_in t (clash.kind n) (clash.text n)) ∙ slot_key t facts k.slot k.counted r k.there k.is in
    cc)

pub agrees_known : (t : Uses) → IsUses t → (s : Symbol) (k : ℕ) (c : CountedSymbol) → key_in t s.kind s.text ≡ Some k → get t.slots k ≡ Some c → symbol_of c.sym ≡ s → Agrees (known_symbols (seen t)) s
agrees_known t facts s k c known there is = all_from (λ r. Clashes s r → ⊥) (known_symbols (seen t)) (λ r h clash.
    let m = kept_of t facts r h in
    let slot = same_Some m.slot k (sym (slot_key t facts m.slot m.counted r m.there m.is) ∙ (λ n. key_in t (sym clash.kind n) (sym clash.text n)) ∙ known) in
    let same = same_Some m.counted c (sym m.there ∙ ap (get t.slots) slot ∙ there) in
    let e : s ≡ r = sym is ∙ ap (λ (d : CountedSymbol). symbol_of d.sym) (sym same) ∙ m.is in
    clash.differ (ap (λ (q : Symbol). q.side) e) (ap (λ (q : Symbol). q.arity) e))

pub refuses_known : (begin : ℕ) (t : Uses) → IsUses t → (s : Symbol) (k : ℕ) (c : CountedSymbol) (e : Clash) → key_in t s.kind s.text ≡ Some k → get t.slots k ≡ Some c
    → (same_side s.side c.sym.side && s.arity == c.sym.arity) ≡ false → e.found ≡ shape_of s → e.kept ≡ shape_of (symbol_of c.sym) → begin + e.occurrence ≡ t.total
    → RefusesFrom begin (seen t) (s ∷ []) (take_fault.Clash e)
refuses_known begin t facts s k c e known there other found kept position =
    let of = known_slot t facts s k c known there in (
      0,
      s,
      symbol_of c.sym,
      record {
        before = [];
        after = [];
        splits = refl;
        position = refl;
        earlier = tt;
        against = among_front (known_symbols (seen t)) [] (symbol_of c.sym) (among_symbols (seen t) (used_at k c) (in_seen t facts k c there));
        clashes = record {
          kind = sym of.0;
          text = sym of.1;
          differ = λ side arity. absurd (false≢true (sym other ∙ (λ n. same_side s.side (sym side n) && s.arity == sym arity n) ∙ (λ n. side_self s.side n && eq-eqb s.arity s.arity refl n)));
        };
      },
      (found, kept),
      omega (arith, position, facts.counted),
    )

-- a symbol of the slot's kind and text, with its side and arity, is the slot's
pub same_shape : (s : Symbol) (c : CountedSymbol) → (c.sym.kind ≡ s.kind) × (c.sym.text ≡ s.text) → s.side ≡ c.sym.side → s.arity ≡ c.sym.arity → symbol_of c.sym ≡ s
same_shape s c of side arity = λ n. record { kind = of.0 n; text = of.1 n; side = sym side n; arity = sym arity n }

-- the slot that a used symbol's key names has that symbol
pub slot_symbol : (t : Uses) → IsUses t → (s : Symbol) (k : ℕ) (c : CountedSymbol) → 1 ≤ uses_of (seen t) s → key_in t s.kind s.text ≡ Some k → get t.slots k ≡ Some c → symbol_of c.sym ≡ s
slot_symbol t facts s k c h known there =
    let u = used_slot t facts s h in
    let slot = same_Some u.slot k (sym u.known ∙ known) in
    let same = same_Some u.counted c (sym u.there ∙ ap (get t.slots) slot ∙ there) in
    ap (λ (d : CountedSymbol). symbol_of d.sym) (sym same) ∙ u.is
