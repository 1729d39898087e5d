-- Keys by hashes of texts.
use Rattle.std.specs.Prelude.{◌≡◌, ◌⊎◌, ℕ, ◌*◌, ◌%◌, ◌^◌, Bool, true, false, cond, nat_eq, Option, None, Some, fold, bit_xor}
use Rattle.std.specs.Map.{lookup}
use Rattle.si_defs.specs.Bytes.{Bytes}
use Rattle.si_sign.specs.declared.hashed.HashedKeys.{HashedKeys}

-- FNV-1a with 32 bits, by Fowler, Noll and Vo: the hash after one more byte
abbrev pub hashed_on : ℕ → ℕ → ℕ
hashed_on hash byte = (bit_xor hash byte * 16777619) % 2 ^ 32

unfoldable pub text_hash : Bytes → ℕ
text_hash text = fold hashed_on 2166136261 text

-- the key to which the text's hash leads
abbrev pub hashed_key : HashedKeys → Bytes → Option ℕ
hashed_key m text = lookup (nat_eq (text_hash text)) m.keys.entries

-- the key to which the hash leads where it is the one that is sought; else the other one
abbrev pub chosen : (is_sought : ℕ → Bool) (led other : Option ℕ) → Option ℕ
chosen is_sought None other = other
chosen is_sought (Some key) other = cond (is_sought key) (Some key) other

-- The text's hash leads to the key if it was free. Each other text's leads where it led, or from
-- nowhere to the key. If it wasn't free, it led to a key, and all lead where they led.
abbrev pub LeadsIfFree : Bool → Bytes → ℕ → (old new : Bytes → Option ℕ) → Type 0
LeadsIfFree true text key old new =
    (new text ≡ Some key)
    × ((other : Bytes) → (new other ≡ old other) ⊎ ((old other ≡ None) × (new other ≡ Some key)))
LeadsIfFree false text key old new =
    ((k : ℕ) × (old text ≡ Some k)) × ((other : Bytes) → new other ≡ old other)

-- The text's hash doesn't lead to the key. Each other text's leads where it led, or from the key to
-- nowhere.
abbrev pub LeadsNoMore : Bytes → ℕ → (old new : Bytes → Option ℕ) → Type 0
LeadsNoMore text key old new =
    (new text ≡ Some key → ⊥)
    × ((other : Bytes) → (new other ≡ old other) ⊎ ((old other ≡ Some key) × (new other ≡ None)))
