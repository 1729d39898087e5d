-- Finite maps from texts, and from kinds and texts, to keys, as functions.
use Rattle.std.specs.Prelude.{◌≡◌, ◌⊎◌, ℕ, Bool, false, ◌&&◌, Option, None, Some, bytes_eq}
use Rattle.std.specs.Map.{lookup}
use Rattle.si_defs.specs.Bytes.{Bytes}
use Rattle.si_defs.specs.Symbols.{same_kind}
use Rattle.si_defs.specs.declared.SymKind.{SymKind}
use Rattle.si_defs.specs.declared.SymKind.TheVariants.{Word, Dollar, Number, Distinct, Equal}
use Rattle.si_sign.specs.Hashed.{hashed_key, chosen}
use Rattle.si_sign.specs.declared.texts.TextKeys.{TextKeys}
use Rattle.si_sign.specs.declared.kinds.KindKeys.{KindKeys}
use Rattle.si_sign.specs.declared.keys.SymbolKeys.{SymbolKeys}
use Rattle.si_sign.specs.declared.uses.CountedSymbol.{CountedSymbol}

-- the one for the kind
abbrev pub of_kind : {A : Type 0} → A → A → A → A → A → SymKind → A
of_kind word dollar number distinct equal Word = word
of_kind word dollar number distinct equal Dollar = dollar
of_kind word dollar number distinct equal Number = number
of_kind word dollar number distinct equal Distinct = distinct
of_kind word dollar number distinct equal Equal = equal

-- the key of a text
abbrev pub text_key : TextKeys → Bytes → Option ℕ
text_key m text = lookup (bytes_eq text) m.keys.entries

-- the key of a kind and text that are kept in the map
abbrev pub kind_key : KindKeys → SymKind → Bytes → Option ℕ
kind_key m kind =
    of_kind (text_key m.words) (text_key m.dollars) (text_key m.numbers) (text_key m.distincts)
    (text_key m.equals) kind

-- the text has this now, and each other one has what it had
abbrev pub HasAt : Bytes → Option ℕ → (Bytes → Option ℕ) → (Bytes → Option ℕ) → Type 0
HasAt text key old new =
    (new text ≡ key) × ((other : Bytes) → (other ≡ text → ⊥) → new other ≡ old other)

-- the same for a kind and text
pub record HasAtKind (kind : SymKind) (text : Bytes) (key : Option ℕ)
    (old new : SymKind → Bytes → Option ℕ) : Type 0 where
  pub here : new kind text ≡ key
  pub others : (k : SymKind) (t : Bytes) → (k ≡ kind → t ≡ text → ⊥) → new k t ≡ old k t

-- whether it is a symbol of this kind and text
abbrev pub is_named : SymKind → Bytes → Option CountedSymbol → Bool
is_named kind text None = false
is_named kind text (Some c) = same_kind c.sym.kind kind && bytes_eq c.sym.text text

-- the key of a kind and text, where `at` gives the symbol that has a key
abbrev pub symbol_key : SymbolKeys → (at : ℕ → Option CountedSymbol) → SymKind → Bytes → Option ℕ
symbol_key m at kind text =
    chosen (λ key. is_named kind text (at key)) (hashed_key m.hashed text)
    (kind_key m.others kind text)

-- The kind and text lead to the key: by the hash, or by the text where the hash led to a key
-- already. A hash leads where it led, or from nowhere to the key.
pub record LeadsTo (kind : SymKind) (text : Bytes) (key : ℕ)
    (old new : SymbolKeys) : Type 0 where
  pub here : (hashed_key new.hashed text ≡ Some key)
      ⊎ (((k : ℕ) × (hashed_key old.hashed text ≡ Some k))
      × (kind_key new.others kind text ≡ Some key))
  pub hashed : (t : Bytes) → (hashed_key new.hashed t ≡ hashed_key old.hashed t)
      ⊎ ((hashed_key old.hashed t ≡ None) × (hashed_key new.hashed t ≡ Some key))
  pub others : (k : SymKind) (t : Bytes) → (k ≡ kind → t ≡ text → ⊥)
      → kind_key new.others k t ≡ kind_key old.others k t

-- The kind and text don't lead to the key, neither by the hash nor by the text. A hash leads where
-- it led, or from the key to nowhere.
pub record LeadsAway (kind : SymKind) (text : Bytes) (key : ℕ)
    (old new : SymbolKeys) : Type 0 where
  pub hash_gone : hashed_key new.hashed text ≡ Some key → ⊥
  pub hashed : (t : Bytes) → (hashed_key new.hashed t ≡ hashed_key old.hashed t)
      ⊎ ((hashed_key old.hashed t ≡ Some key) × (hashed_key new.hashed t ≡ None))
  pub text_gone : HasAtKind kind text None (kind_key old.others) (kind_key new.others)

-- all lead where they led
pub record StayLed (old new : SymbolKeys) : Type 0 where
  pub hashed : (t : Bytes) → hashed_key new.hashed t ≡ hashed_key old.hashed t
  pub others : (k : SymKind) (t : Bytes) → kind_key new.others k t ≡ kind_key old.others k t
