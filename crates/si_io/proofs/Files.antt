-- What a look-up by name gives once a file was put.
use Rattle.std.proofs.Common.{◌≡◌, ◌≢◌, ℕ, Bool, true, false, cond, List, [], ◌∷◌, Option, Some, refl, sym, ap, ◌∙◌}
use Rattle.std.specs.Map.{lookup}
use Rattle.std.specs.Str.{bytes_eq}
use Rattle.std.proofs.lemmas.Slice.Eq.{bytes_eq-Decides}
use Rattle.indexmap.specs.IndexMap.{insert_entry}

module _ {K V : Type 0} (eq : K → K → Bool) (test : K → Bool) (k : K) (v : V) where
  replaced : (c d : Bool) (w : V) (rest : Option V) → c ≡ d → cond c (Some v) rest ≡ cond d (Some v) (cond c (Some w) rest)
  replaced true true w rest same = refl
  replaced true false w rest same = cc
  replaced false true w rest same = cc
  replaced false false w rest same = refl

  passed : (c d : Bool) (w : V) (new rest : Option V) → (d ≡ true → c ≡ false) → new ≡ cond d (Some v) rest → cond c (Some w) new ≡ cond d (Some v) (cond c (Some w) rest)
  passed true true w new rest apart e = let h = apart refl in cc
  passed true false w new rest apart e = refl
  passed false true w new rest apart e = e
  passed false false w new rest apart e = e

  -- a test that takes the new key takes the keys that are equal to it, and no other; so it finds
  -- the new value first
  pub lookup-insert_entry : ((j : K) → eq k j ≡ true → test j ≡ test k) → ((j : K) → test k ≡ true → test j ≡ eq k j) → (es : List (K × V))
      → lookup test (insert_entry eq es k v) ≡ cond (test k) (Some v) (lookup test es)
  lookup-insert_entry alike own [] = refl
  lookup-insert_entry alike own (e ∷ es) = by (eq k e.0) (alike e.0) (own e.0) (lookup-insert_entry alike own es) where
    by : (b : Bool) → (b ≡ true → test e.0 ≡ test k) → (test k ≡ true → test e.0 ≡ b)
        → lookup test (insert_entry eq es k v) ≡ cond (test k) (Some v) (lookup test es)
        → lookup test (cond b ((e.0, v) ∷ es) (e ∷ insert_entry eq es k v)) ≡ cond (test k) (Some v) (cond (test e.0) (Some e.1) (lookup test es))
    by true same mine next = replaced (test e.0) (test k) e.1 (lookup test es) (same refl)
    by false same mine next = passed (test e.0) (test k) e.1 _ (lookup test es) mine next

-- keys that are told apart by their bytes, as the code does it
module _ {K V : Type 0} (items : K → List ℕ) (eq : K → K → Bool) (eq_is : (a b : K) → eq a b ≡ bytes_eq (items a) (items b)) (k : K) (v : V) (es : List (K × V)) where
  finds : (name : List ℕ) → lookup (λ j. bytes_eq name (items j)) (insert_entry eq es k v)
      ≡ cond (bytes_eq name (items k)) (Some v) (lookup (λ j. bytes_eq name (items j)) es)
  finds name = lookup-insert_entry eq (λ j. bytes_eq name (items j)) k v
      (λ j same. ap (bytes_eq name) (sym ((bytes_eq-Decides (items k) (items j)).0 (sym (eq_is k j) ∙ same))))
      (λ j mine. ap (λ l. bytes_eq l (items j)) ((bytes_eq-Decides name (items k)).0 mine) ∙ sym (eq_is k j))
      es

  -- the name of the new file gives its bytes
  pub put_finds : lookup (λ j. bytes_eq (items k) (items j)) (insert_entry eq es k v) ≡ Some v
  put_finds = finds (items k)
      ∙ ap (λ b. cond b (Some v) (lookup (λ j. bytes_eq (items k) (items j)) es)) ((bytes_eq-Decides (items k) (items k)).1 refl)

  -- any other name gives what it gave before
  pub put_keeps : (name : List ℕ) → name ≢ items k → lookup (λ j. bytes_eq name (items j)) (insert_entry eq es k v) ≡ lookup (λ j. bytes_eq name (items j)) es
  put_keeps name other = finds name ∙ by (bytes_eq name (items k)) (bytes_eq-Decides name (items k)).0 where
    by : (b : Bool) → (b ≡ true → name ≡ items k) → cond b (Some v) (lookup (λ j. bytes_eq name (items j)) es) ≡ lookup (λ j. bytes_eq name (items j)) es
    by true same = absurd (other (same refl))
    by false same = refl
