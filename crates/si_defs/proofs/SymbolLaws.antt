-- Symbols, their kinds and their texts are told apart.
use Rattle.std.proofs.Common.{◌≡◌, ◌⊎◌, inl, inr, Bool, true, false, ◌&&◌, ◌==◌, refl, sym, ap, ◌∙◌, Decides}
use Rattle.std.specs.Prelude.{bytes_eq}
use Rattle.std.proofs.lemmas.Bool.{false≢true, eqb-true, eq-eqb, and_parts}
use Rattle.std.proofs.lemmas.Slice.Eq.{bytes_eq-Decides}
use Rattle.si_defs.specs.Bytes.{Bytes}
use Rattle.si_defs.specs.Symbols.{Symbol, same_kind, same_side, same_symbol}
use Rattle.si_defs.specs.declared.SymKind.{SymKind}
use Rattle.si_defs.specs.declared.SymKind.TheVariants.{Word, Dollar, Number, Distinct, Equal}
use Rattle.si_defs.specs.declared.Side.{Side}
use Rattle.si_defs.specs.declared.Side.TheVariants.{Predicate, Function}

pub kind_is : (a b : SymKind) → same_kind a b ≡ true → a ≡ b
kind_is Word Word h = refl
kind_is Word Dollar h = absurd (false≢true h)
kind_is Word Number h = absurd (false≢true h)
kind_is Word Distinct h = absurd (false≢true h)
kind_is Word Equal h = absurd (false≢true h)
kind_is Dollar Word h = absurd (false≢true h)
kind_is Dollar Dollar h = refl
kind_is Dollar Number h = absurd (false≢true h)
kind_is Dollar Distinct h = absurd (false≢true h)
kind_is Dollar Equal h = absurd (false≢true h)
kind_is Number Word h = absurd (false≢true h)
kind_is Number Dollar h = absurd (false≢true h)
kind_is Number Number h = refl
kind_is Number Distinct h = absurd (false≢true h)
kind_is Number Equal h = absurd (false≢true h)
kind_is Distinct Word h = absurd (false≢true h)
kind_is Distinct Dollar h = absurd (false≢true h)
kind_is Distinct Number h = absurd (false≢true h)
kind_is Distinct Distinct h = refl
kind_is Distinct Equal h = absurd (false≢true h)
kind_is Equal Word h = absurd (false≢true h)
kind_is Equal Dollar h = absurd (false≢true h)
kind_is Equal Number h = absurd (false≢true h)
kind_is Equal Distinct h = absurd (false≢true h)
kind_is Equal Equal h = refl

pub kind_self : (a : SymKind) → same_kind a a ≡ true
kind_self Word = refl
kind_self Dollar = refl
kind_self Number = refl
kind_self Distinct = refl
kind_self Equal = refl

pub side_is : (a b : Side) → same_side a b ≡ true → a ≡ b
side_is Predicate Predicate h = refl
side_is Predicate Function h = absurd (false≢true h)
side_is Function Predicate h = absurd (false≢true h)
side_is Function Function h = refl

pub side_self : (a : Side) → same_side a a ≡ true
side_self Predicate = refl
side_self Function = refl

pub text_is : (x y : Bytes) → bytes_eq x y ≡ true → x ≡ y
text_is x y h = (bytes_eq-Decides x y).0 h

pub text_self : (x : Bytes) → bytes_eq x x ≡ true
text_self x = (bytes_eq-Decides x x).1 refl

pub symbol_is : (s r : Symbol) → same_symbol s r ≡ true → s ≡ r
symbol_is s r h =
    let texts = and_parts (same_kind s.kind r.kind && same_side s.side r.side && s.arity == r.arity) (bytes_eq s.text r.text) h in
    let arities = and_parts (same_kind s.kind r.kind && same_side s.side r.side) (s.arity == r.arity) texts.0 in
    let kinds = and_parts (same_kind s.kind r.kind) (same_side s.side r.side) arities.0 in
    λ i. record {
      kind = kind_is s.kind r.kind kinds.0 i;
      text = text_is s.text r.text texts.1 i;
      side = side_is s.side r.side kinds.1 i;
      arity = eqb-true s.arity r.arity arities.1 i;
    }

pub symbol_self : (s : Symbol) → same_symbol s s ≡ true
symbol_self s = λ i. kind_self s.kind i && side_self s.side i && eq-eqb s.arity s.arity refl i && text_self s.text i

pub symbol_same : (s r : Symbol) → s ≡ r → same_symbol s r ≡ true
symbol_same s r e = ap (same_symbol s) (sym e) ∙ symbol_self s

pub symbol-Decides : (s r : Symbol) → Decides (same_symbol s r) (s ≡ r)
symbol-Decides s r = (symbol_is s r, symbol_same s r)

-- ---- either they are equal, or they aren't
pub symbol_either : (s r : Symbol) → (s ≡ r) ⊎ (s ≡ r → ⊥)
symbol_either s r = by (same_symbol s r) refl where
  by : (b : Bool) → same_symbol s r ≡ b → (s ≡ r) ⊎ (s ≡ r → ⊥)
  by true h = inl (symbol_is s r h)
  by false h = inr (λ e. absurd (false≢true (sym h ∙ symbol_same s r e)))

pub text_either : (x y : Bytes) → (x ≡ y) ⊎ (x ≡ y → ⊥)
text_either x y = by (bytes_eq x y) refl where
  by : (b : Bool) → bytes_eq x y ≡ b → (x ≡ y) ⊎ (x ≡ y → ⊥)
  by true h = inl (text_is x y h)
  by false h = inr (λ e. absurd (false≢true (sym h ∙ (bytes_eq-Decides x y).1 e)))

pub kind_either : (a b : SymKind) → (a ≡ b) ⊎ (a ≡ b → ⊥)
kind_either a b = by (same_kind a b) refl where
  by : (c : Bool) → same_kind a b ≡ c → (a ≡ b) ⊎ (a ≡ b → ⊥)
  by true h = inl (kind_is a b h)
  by false h = inr (λ e. absurd (false≢true (sym h ∙ ap (same_kind a) (sym e) ∙ kind_self a)))

-- two symbols of one kind and text, or not
pub name_either : (k l : SymKind) (x y : Bytes) → ((k ≡ l) × (x ≡ y)) ⊎ (k ≡ l → x ≡ y → ⊥)
name_either k l x y = by (kind_either k l) (text_either x y) where
  by : (k ≡ l) ⊎ (k ≡ l → ⊥) → (x ≡ y) ⊎ (x ≡ y → ⊥) → ((k ≡ l) × (x ≡ y)) ⊎ (k ≡ l → x ≡ y → ⊥)
  by (inl a) (inl b) = inl (a, b)
  by (inl a) (inr b) = inr (λ e. b)
  by (inr a) b = inr (λ e f. a e)
