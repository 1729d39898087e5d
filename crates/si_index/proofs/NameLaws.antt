-- Changes of maps from names to keys.
use Rattle.std.proofs.Common.{◌≡◌, ◌⊎◌, inl, inr, ℕ, Option, refl, sym, ap, ◌∙◌}
use Rattle.si_defs.specs.Bytes.{Bytes}
use Rattle.si_defs.specs.Clauses.{Name}
use Rattle.si_defs.specs.declared.NameKind.{NameKind}
use Rattle.si_defs.specs.declared.NameKind.TheVariants.{Word, Int}
use Rattle.si_sign.specs.Keys.{HasAt}
use Rattle.si_defs.proofs.SymbolLaws.{text_either}
use Rattle.si_defs.proofs.NameLaws.{name_is}
use Rattle.si_sign.specs.Keys.{text_key}
use Rattle.si_index.specs.Names.{of_name_kind, key_of, ChangesName}
use Rattle.si_index.specs.declared.name_keys.NameKeys.{NameKeys}

-- ---- names are one or not
same_kind_either : (a b : NameKind) → (a ≡ b) ⊎ (a ≡ b → ⊥)
same_kind_either Word Word = inl refl
same_kind_either Int Int = inl refl
same_kind_either Word Int = inr (λ e. cc)
same_kind_either Int Word = inr (λ e. cc)

pub name_either : (m n : Name) → (m ≡ n) ⊎ (m ≡ n → ⊥)
name_either m n = by (same_kind_either m.kind n.kind) (text_either m.text n.text) where
  by : (m.kind ≡ n.kind) ⊎ (m.kind ≡ n.kind → ⊥) → (m.text ≡ n.text) ⊎ (m.text ≡ n.text → ⊥) → (m ≡ n) ⊎ (m ≡ n → ⊥)
  by (inl k) (inl t) = inl (name_is m n k t)
  by (inl k) (inr f) = inr (λ e. f (ap (λ (n : Name). n.text) e))
  by (inr f) t = inr (λ e. f (ap (λ (n : Name). n.kind) e))

-- ---- a map changes
module _ (old new : NameKeys) (name : Name) (is : Option ℕ) where
  pub words_change : name.kind ≡ Word → HasAt name.text is (text_key old.words) (text_key new.words) → new.integers ≡ old.integers
      → ChangesName name is (key_of old) (key_of new)
  words_change kind change stays = record {
    here = ap (of_name_kind (text_key new.words name.text) (text_key new.integers name.text)) kind ∙ change.0;
    others = λ other apart. by other.kind (λ k. change.1 other.text (λ t. apart (name_is other name (k ∙ sym kind) t))) (ap (λ s. text_key s other.text) stays);
  } where
    by : {a b c d : Option ℕ} (k : NameKind) → (k ≡ Word → a ≡ b) → c ≡ d → of_name_kind a c k ≡ of_name_kind b d k
    by Word f e = f refl
    by Int f e = e

  pub integers_change : name.kind ≡ Int → HasAt name.text is (text_key old.integers) (text_key new.integers) → new.words ≡ old.words
      → ChangesName name is (key_of old) (key_of new)
  integers_change kind change stays = record {
    here = ap (of_name_kind (text_key new.words name.text) (text_key new.integers name.text)) kind ∙ change.0;
    others = λ other apart. by other.kind (λ k. change.1 other.text (λ t. apart (name_is other name (k ∙ sym kind) t))) (ap (λ s. text_key s other.text) stays);
  } where
    by : {a b c d : Option ℕ} (k : NameKind) → (k ≡ Int → c ≡ d) → a ≡ b → of_name_kind a c k ≡ of_name_kind b d k
    by Word f e = e
    by Int f e = f refl

-- the map stays as it was, kind by kind
pub words_stay : (old new : NameKeys) → ((text : Bytes) → text_key new.words text ≡ text_key old.words text) → new.integers ≡ old.integers
    → (name : Name) → key_of new name ≡ key_of old name
words_stay old new e f name = λ i. of_name_kind (e name.text i) (text_key (f i) name.text) name.kind

pub integers_stay : (old new : NameKeys) → ((text : Bytes) → text_key new.integers text ≡ text_key old.integers text) → new.words ≡ old.words
    → (name : Name) → key_of new name ≡ key_of old name
integers_stay old new e f name = λ i. of_name_kind (text_key (f i) name.text) (e name.text i) name.kind
