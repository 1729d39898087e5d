-- Changes of finite maps from texts, and from kinds and texts, to keys, and of what is found by them.
use Rattle.std.proofs.Common.{◌≡◌, ◌⊎◌, inl, inr, ℕ, Bool, true, false, ◌&&◌, List, Option, Some, None, refl, sym, ap, ◌∙◌, subst}
use Rattle.std.proofs.lemmas.Bool.{and_parts}
use Rattle.std.specs.Prelude.{bytes_eq}
use Rattle.std.specs.Map.{lookup, IsKeyTest, AreApart, KeepsOthers}
use Rattle.si_defs.specs.Bytes.{Bytes}
use Rattle.si_defs.specs.declared.SymKind.{SymKind}
use Rattle.si_defs.specs.Symbols.{same_kind}
use Rattle.si_sign.specs.Hashed.{hashed_key}
use Rattle.si_sign.specs.Keys.{HasAt, HasAtKind, is_named, kind_key, symbol_key, LeadsTo, LeadsAway}
use Rattle.si_sign.specs.declared.keys.SymbolKeys.{SymbolKeys}
use Rattle.si_sign.specs.declared.uses.CountedSymbol.{CountedSymbol}
use Rattle.si_defs.proofs.SymbolLaws.{text_is, text_self, kind_is, kind_self, kind_either}
use Rattle.si_sign.proofs.HashedLaws.{chosen_same, led_here, led_apart, left_here, left_apart}

abbrev Map : Type 0
Map = Bytes → Option ℕ

module _ {V : Type 0} (items : V → Bytes) where
  abbrev tests : Bytes → V → Bool
  tests text k = bytes_eq text (items k)

  abbrev same : V → V → Bool
  same x y = bytes_eq (items x) (items y)

  key_test : (text : Bytes) → IsKeyTest same (tests text)
  key_test text x y h = ap (λ z. bytes_eq z (items y)) (text_is text (items x) h)

  apart_tests : (text other : Bytes) → (other ≡ text → ⊥) → AreApart (tests text) (tests other)
  apart_tests text other apart k h = by (bytes_eq other (items k)) refl where
    by : (b : Bool) → bytes_eq other (items k) ≡ b → bytes_eq other (items k) ≡ false
    by true e = absurd (apart (text_is other (items k) e ∙ sym (text_is text (items k) h)))
    by false e = e

  -- what a map from texts of the program's tells of a change
  pub has_at : (text : Bytes) (key : Option ℕ) (es fs : List (V × ℕ)) → lookup (tests text) fs ≡ key → KeepsOthers same (tests text) es fs
      → HasAt text key (λ t. lookup (tests t) es) (λ t. lookup (tests t) fs)
  unfolding KeepsOthers
  has_at text key es fs here keeps = (here, λ other apart. keeps (tests other) (key_test other) (apart_tests text other apart))

-- a map of one kind changes, and those of the others stay
pub at_kind : (kind k : SymKind) (old new : SymKind → Map) (text : Bytes) (key : Option ℕ) → k ≡ kind → HasAt text key (old kind) (new kind)
    → ((other : SymKind) → (other ≡ kind → ⊥) → new other ≡ old other) → HasAtKind k text key old new
at_kind kind k old new text key is has same = subst (λ n. HasAtKind n text key old new) (sym is) (record {
  here = has.0;
  others = λ other t apart. by other t apart (kind_either other kind);
}) where
  by : (other : SymKind) (t : Bytes) → (other ≡ kind → t ≡ text → ⊥) → (other ≡ kind) ⊎ (other ≡ kind → ⊥) → new other t ≡ old other t
  by other t apart (inl e) = ap (λ n. new n t) e ∙ has.1 t (apart e) ∙ ap (λ n. old n t) (sym e)
  by other t apart (inr f) = ap (λ g. g t) (same other f)

-- ---- symbols by kind and text
pub named_here : (kind : SymKind) (text : Bytes) (c : CountedSymbol) → c.sym.kind ≡ kind → c.sym.text ≡ text → is_named kind text (Some c) ≡ true
named_here kind text c k t = (λ i. same_kind (k i) kind && bytes_eq (t i) text) ∙ (λ i. kind_self kind i && text_self text i)

pub named_apart : (kind k : SymKind) (text t : Bytes) (o : Option CountedSymbol) → ((c : CountedSymbol) → o ≡ Some c → (c.sym.kind ≡ kind) × (c.sym.text ≡ text))
    → (k ≡ kind → t ≡ text → ⊥) → is_named k t o ≡ false
named_apart kind k text t None of apart = refl
named_apart kind k text t (Some c) of apart = by (is_named k t (Some c)) refl where
  by : (b : Bool) → is_named k t (Some c) ≡ b → is_named k t (Some c) ≡ false
  by true h =
      let p = and_parts (same_kind c.sym.kind k) (bytes_eq c.sym.text t) h in
      absurd (apart (sym (kind_is c.sym.kind k p.0) ∙ (of c refl).0) (sym (text_is c.sym.text t p.1) ∙ (of c refl).1))
  by false h = h

abbrev At : Type 0
At = ℕ → Option CountedSymbol

-- what is found in slots whose symbols go by the same kinds and texts
pub found_same : (m : SymbolKeys) (old new : At) (kind : SymKind) (text : Bytes) → ((k : ℕ) → is_named kind text (new k) ≡ is_named kind text (old k))
    → symbol_key m new kind text ≡ symbol_key m old kind text
found_same m old new kind text same = chosen_same (λ k. is_named kind text (old k)) (λ k. is_named kind text (new k)) (hashed_key m.hashed text) (kind_key m.others kind text) same

-- one slot has a symbol of this kind and text, or none, before and after
module _ (kind : SymKind) (text : Bytes) (key : ℕ) (old new : At) (away : (k : ℕ) → (k ≡ key → ⊥) → new k ≡ old k)
    (was : (c : CountedSymbol) → old key ≡ Some c → (c.sym.kind ≡ kind) × (c.sym.text ≡ text))
    (is : (c : CountedSymbol) → new key ≡ Some c → (c.sym.kind ≡ kind) × (c.sym.text ≡ text)) (m n : SymbolKeys) where
  abbrev Name : Type 0
  Name = SymKind × Bytes

  abbrev named_in : At → Name → ℕ → Bool
  named_in at x k = is_named x.0 x.1 (at k)

  keep_away : (x : Name) (k : ℕ) → (k ≡ key → ⊥) → named_in new x k ≡ named_in old x k
  keep_away x k f = ap (is_named x.0 x.1) (away k f)

  keep_apart : (x : Name) → (x ≡ (kind, text) → ⊥) → (named_in old x key ≡ false) × (named_in new x key ≡ false)
  keep_apart x f =
      let apart : x.0 ≡ kind → x.1 ≡ text → ⊥ = λ k t. f (λ i. (k i, t i)) in
      (named_apart kind x.0 text x.1 (old key) was apart, named_apart kind x.0 text x.1 (new key) is apart)

  pub leads_to : LeadsTo kind text key m n → symbol_key m old kind text ≡ None → (c : CountedSymbol) → new key ≡ Some c
      → HasAtKind kind text (Some key) (symbol_key m old) (symbol_key n new)
  leads_to led none c there = record {
    here = led_here (kind, text) key (named_in old) (named_in new) keep_away keep_apart (λ x. hashed_key m.hashed x.1) (λ x. hashed_key n.hashed x.1) (λ x. kind_key m.others x.0 x.1) (λ x. kind_key n.others x.0 x.1)
        none (ap (is_named kind text) there ∙ named_here kind text c (is c there).0 (is c there).1) led.here (led.hashed text);
    others = λ k t f. led_apart (kind, text) key (named_in old) (named_in new) keep_away keep_apart (λ x. hashed_key m.hashed x.1) (λ x. hashed_key n.hashed x.1) (λ x. kind_key m.others x.0 x.1) (λ x. kind_key n.others x.0 x.1)
        (k, t) (λ e. f (ap (λ x. x.0) e) (ap (λ x. x.1) e)) (led.hashed t) (led.others k t f);
  }

  pub leads_away : LeadsAway kind text key m n → symbol_key m old kind text ≡ Some key → HasAtKind kind text None (symbol_key m old) (symbol_key n new)
  leads_away left known = record {
    here = left_here (kind, text) key (named_in old) (named_in new) keep_away keep_apart (λ x. hashed_key m.hashed x.1) (λ x. hashed_key n.hashed x.1) (λ x. kind_key m.others x.0 x.1) (λ x. kind_key n.others x.0 x.1)
        known left.hash_gone left.text_gone.here (left.hashed text);
    others = λ k t f. left_apart (kind, text) key (named_in old) (named_in new) keep_away keep_apart (λ x. hashed_key m.hashed x.1) (λ x. hashed_key n.hashed x.1) (λ x. kind_key m.others x.0 x.1) (λ x. kind_key n.others x.0 x.1)
        (k, t) (λ e. f (ap (λ x. x.0) e) (ap (λ x. x.1) e)) (left.hashed t) (left.text_gone.others k t f);
  }
