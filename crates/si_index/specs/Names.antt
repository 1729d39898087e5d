-- Maps from names to keys, as functions, and how they change.
use Rattle.std.specs.Prelude.{◌≡◌, ◌⊎◌, ℕ, Bool, true, false, cond, ◌&&◌, ◌==◌, List, [], ◌∷◌, Option, None, Some, bytes_eq}
use Rattle.si_defs.specs.Bytes.{Bytes}
use Rattle.si_defs.specs.Clauses.{Name}
use Rattle.si_defs.specs.Substitutions.{IsAmong}
use Rattle.si_defs.specs.declared.NameKind.{NameKind}
use Rattle.si_defs.specs.declared.NameKind.TheVariants.{Word, Int}
use Rattle.si_term.specs.Meaning.{name_of}
use Rattle.si_term.specs.declared.clause.Clause.{Clause}
use Rattle.si_sign.specs.Keys.{text_key}
use Rattle.si_sign.specs.Hashed.{hashed_key, chosen}
use Rattle.si_keyed.specs.Keyed.{HasKey}
use Rattle.si_index.specs.declared.name_keys.NameKeys.{NameKeys}
use Rattle.si_index.specs.declared.names.ClauseNames.{ClauseNames}

-- the one for the kind
abbrev pub of_name_kind : Option ℕ → Option ℕ → NameKind → Option ℕ
of_name_kind word integer Word = word
of_name_kind word integer Int = integer

-- the key of a name that is kept in the map
abbrev pub key_of : NameKeys → Name → Option ℕ
key_of names name =
    of_name_kind (text_key names.words name.text) (text_key names.integers name.text) name.kind

-- the name has this now, and each other one has what it had
pub record ChangesName (name : Name) (is : Option ℕ) (old new : Name → Option ℕ) : Type 0 where
  pub here : new name ≡ is
  pub others : (other : Name) → (other ≡ name → ⊥) → new other ≡ old other

abbrev pub same_name_kind : NameKind → NameKind → Bool
same_name_kind Word Word = true
same_name_kind Word Int = false
same_name_kind Int Word = false
same_name_kind Int Int = true

abbrev pub same_name : Name → Name → Bool
same_name m n = same_name_kind m.kind n.kind && bytes_eq m.text n.text

-- whether a clause with this key has this name
abbrev pub has_name_at : List (ℕ × Clause) → Name → ℕ → Bool
has_name_at [] name key = false
has_name_at (p ∷ items) name key =
    cond (p.0 == key && same_name (name_of p.1.name) name) true (has_name_at items name key)

-- the key of a name, of these clauses
abbrev pub key_of_name : List (ℕ × Clause) → ClauseNames → Name → Option ℕ
key_of_name items names name =
    chosen (has_name_at items name) (hashed_key names.hashed name.text) (key_of names.others name)

-- the name of each of these clauses leads to its key, and no other name leads anywhere
pub record AreNamed (items : List (ℕ × Clause)) (key_for : Name → Option ℕ) : Type 0 where
  pub there : (name : Name) (key : ℕ) → key_for name ≡ Some key → HasKey items key
  pub named : (name : Name) (key : ℕ) → key_for name ≡ Some key
      → (c : Clause) → IsAmong items (key, c) → name_of c.name ≡ name
  pub listed : (key : ℕ) (c : Clause) → IsAmong items (key, c) → key_for (name_of c.name) ≡ Some key

-- The name leads to the key: by its hash, or by itself where its hash led to a key already. A hash
-- leads where it led, or from nowhere to the key.
pub record NameLeadsTo (name : Name) (key : ℕ) (old new : ClauseNames) : Type 0 where
  pub here : (hashed_key new.hashed name.text ≡ Some key)
      ⊎ (((k : ℕ) × (hashed_key old.hashed name.text ≡ Some k))
      × (key_of new.others name ≡ Some key))
  pub hashed : (t : Bytes) → (hashed_key new.hashed t ≡ hashed_key old.hashed t)
      ⊎ ((hashed_key old.hashed t ≡ None) × (hashed_key new.hashed t ≡ Some key))
  pub others : (n : Name) → (n ≡ name → ⊥) → key_of new.others n ≡ key_of old.others n

-- The name leads to the key no more, neither by its hash nor by itself. A hash leads where it
-- led, or from the key to nowhere.
pub record NameLeadsAway (name : Name) (key : ℕ) (old new : ClauseNames) : Type 0 where
  pub hash_gone : hashed_key new.hashed name.text ≡ Some key → ⊥
  pub hashed : (t : Bytes) → (hashed_key new.hashed t ≡ hashed_key old.hashed t)
      ⊎ ((hashed_key old.hashed t ≡ Some key) × (hashed_key new.hashed t ≡ None))
  pub name_gone : ChangesName name None (key_of old.others) (key_of new.others)

-- all lead where they led
pub record NamesStayLed (old new : ClauseNames) : Type 0 where
  pub hashed : (t : Bytes) → hashed_key new.hashed t ≡ hashed_key old.hashed t
  pub others : (n : Name) → key_of new.others n ≡ key_of old.others n
