-- One more name in a set of names.
use Rattle.std.proofs.Common.{◌≡◌, ℕ, suc, ◌+◌, ◌<◌, Vec, Global, take, map, length, get_or, arith, Bool, true, false, cond, ◌||◌, List, [], ◌∷◌, ◌++◌, refl, sym, ap, ◌∙◌, subst, ◌⊎◌, inl, inr}
use Rattle.std.specs.Prelude.{bytes_eq}
use Rattle.std.proofs.Math.Seq.{take-suc}
use Rattle.std.proofs.lemmas.List.{map-append}
use Rattle.si_term.specs.declared.clause.Name as program
use Rattle.si_term.specs.Meaning.{name_of}
use Rattle.std.specs.List.{list_any}
use Rattle.std.proofs.lemmas.Bool.{false≢true, or_right}
use Rattle.std.proofs.lemmas.Slice.Eq.{bytes_eq-Decides}
use Rattle.si_defs.specs.Bytes.{Bytes}
use Rattle.si_defs.specs.Clauses.{Name}
use Rattle.si_defs.specs.Substitutions.{IsAmong}
use Rattle.si_defs.specs.declared.NameKind.{NameKind}
use Rattle.si_defs.specs.declared.NameKind.TheVariants.{Word, Int}
use Rattle.si_defs.proofs.ListLaws.{among_front, among_back, among_either}
use Rattle.si_defs.proofs.SymbolLaws.{text_is}
use Rattle.si_defs.proofs.NameLaws.{name_is}
use Rattle.si_harvest.specs.declared.names.NameSet.{NameSet}
use Rattle.si_harvest.specs.Chosen.{holds, IsSetOf}
use Rattle.si_harvest.proofs.AnyLaws.{any_last}

module _ {K : Type 0} (items : K → Bytes) where
  abbrev pub has_key : List K → Bytes → Bool
  has_key keys text = list_any (λ k. bytes_eq text (items k)) keys

  -- the keys after the insertion of one
  abbrev pub inserted : List K → K → List K
  inserted keys key = cond (has_key keys (items key)) keys (keys ++ key ∷ [])

  key-append : (keys : List K) (key : K) (text : Bytes) → has_key (keys ++ key ∷ []) text ≡ (bytes_eq text (items key) || has_key keys text)
  key-append keys key text = any_last (λ k. bytes_eq text (items k)) keys key

  pub key_found : (keys : List K) (key : K) (text : Bytes) → has_key (inserted keys key) text ≡ true → (has_key keys text ≡ true) ⊎ (items key ≡ text)
  key_found keys key text h = by (has_key keys (items key)) refl where
    last : (b : Bool) → bytes_eq text (items key) ≡ b → (b || has_key keys text) ≡ true → (has_key keys text ≡ true) ⊎ (items key ≡ text)
    last true q g = inr (sym (text_is text (items key) q))
    last false q g = inl g

    by : (b : Bool) → has_key keys (items key) ≡ b → (has_key keys text ≡ true) ⊎ (items key ≡ text)
    by true q = inl (subst (λ b. has_key (cond b keys (keys ++ key ∷ [])) text ≡ true) q h)
    by false q =
        let g : has_key (keys ++ key ∷ []) text ≡ true = subst (λ b. has_key (cond b keys (keys ++ key ∷ [])) text ≡ true) q h in
        last (bytes_eq text (items key)) refl (sym (key-append keys key text) ∙ g)

  pub key_kept : (keys : List K) (key : K) (text : Bytes) → has_key keys text ≡ true → has_key (inserted keys key) text ≡ true
  key_kept keys key text h = by (has_key keys (items key)) where
    by : (b : Bool) → has_key (cond b keys (keys ++ key ∷ [])) text ≡ true
    by true = h
    by false = key-append keys key text ∙ or_right (bytes_eq text (items key)) (has_key keys text) h

  pub key_there : (keys : List K) (key : K) → has_key (inserted keys key) (items key) ≡ true
  key_there keys key = by (has_key keys (items key)) refl where
    by : (b : Bool) → has_key keys (items key) ≡ b → has_key (cond b keys (keys ++ key ∷ [])) (items key) ≡ true
    by true q = q
    by false q = key-append keys key (items key) ∙ ap (λ b. b || has_key keys (items key)) ((bytes_eq-Decides (items key) (items key)).1 refl)

-- ---- names
-- the set has one name more
pub record Gains (before after : NameSet) (n : Name) : Type 0 where
  pub found : (m : Name) → holds after m ≡ true → (holds before m ≡ true) ⊎ (n ≡ m)
  pub kept : (m : Name) → holds before m ≡ true → holds after m ≡ true
  pub there : (m : Name) → n ≡ m → holds after m ≡ true

pub set_more : (before after : NameSet) (names : List Name) (n : Name) → Gains before after n → IsSetOf names before → IsSetOf (names ++ n ∷ []) after
set_more before after names n g s = record { exactly = λ m. (there m, back m) } where
  there : (m : Name) → holds after m ≡ true → IsAmong (names ++ n ∷ []) m
  there m h = elim (g.found m h) [ inl k ↦ among_front names (n ∷ []) m ((s.exactly m).0 k) | inr e ↦ among_back names (n ∷ []) m (inl e) ]

  back : (m : Name) → IsAmong (names ++ n ∷ []) m → holds after m ≡ true
  back m h = elim (among_either names n m h) [ inl k ↦ g.kept m ((s.exactly m).1 k) | inr e ↦ g.there m e ]

-- ---- one kind of names
abbrev Key : Type 0
Key = Vec ℕ Global

abbrev text_of : Key → Bytes
text_of k = k.items

module _ (kind other : NameKind) (cases : (k : NameKind) → (k ≡ kind) ⊎ (k ≡ other))
    (column rest : NameSet → List Key)
    (own : (set : NameSet) (m : Name) → m.kind ≡ kind → holds set m ≡ has_key text_of (column set) m.text)
    (apart : (set : NameSet) (m : Name) → m.kind ≡ other → holds set m ≡ has_key text_of (rest set) m.text) where
  grows : (before after : NameSet) (n : Name) (key : Key) → n.kind ≡ kind → key.items ≡ n.text → column after ≡ inserted text_of (column before) key → rest after ≡ rest before
      → Gains before after n
  grows before after n key k t c r = record {
    found = λ m h. elim (cases m.kind) [
      | inl q ↦ elim (key_found text_of (column before) key m.text (ap (λ ks. has_key text_of ks m.text) (sym c) ∙ sym (own after m q) ∙ h)) [
        | inl g ↦ inl (own before m q ∙ g)
        | inr g ↦ inr (name_is n m (k ∙ sym q) (sym t ∙ g))
      ]
      | inr q ↦ inl (apart before m q ∙ ap (λ ks. has_key text_of ks m.text) (sym r) ∙ sym (apart after m q) ∙ h)
    ];
    kept = λ m h. elim (cases m.kind) [
      | inl q ↦ own after m q ∙ ap (λ ks. has_key text_of ks m.text) c ∙ key_kept text_of (column before) key m.text (sym (own before m q) ∙ h)
      | inr q ↦ apart after m q ∙ ap (λ ks. has_key text_of ks m.text) r ∙ sym (apart before m q) ∙ h
    ];
    there = λ m e. subst (λ x. holds after x ≡ true) e
        (own after n k ∙ ap (λ ks. has_key text_of ks n.text) c ∙ ap (has_key text_of (inserted text_of (column before) key)) (sym t) ∙ key_there text_of (column before) key);
  }

of_kind : (set : NameSet) (m : Name) (kind : NameKind) → m.kind ≡ kind → holds set m ≡ holds set (record { kind = kind; text = m.text })
of_kind set m kind e = ap (λ k. holds set (record { kind = k; text = m.text })) e

either : (k : NameKind) → (k ≡ Word) ⊎ (k ≡ Int)
either Word = inl refl
either Int = inr refl

other_way : (k : NameKind) → (k ≡ Int) ⊎ (k ≡ Word)
other_way Word = inr refl
other_way Int = inl refl

pub word_more : (before after : NameSet) (names : List Name) (n : Name) (key : Key) → n.kind ≡ Word → key.items ≡ n.text → after.words.keys ≡ inserted text_of before.words.keys key
    → after.integers.keys ≡ before.integers.keys → IsSetOf names before → IsSetOf (names ++ n ∷ []) after
word_more before after names n key k t c r s =
    set_more before after names n
    (grows Word Int either (λ set. set.words.keys) (λ set. set.integers.keys) (λ set m e. of_kind set m Word e) (λ set m e. of_kind set m Int e) before after n key k t c r) s

pub integer_more : (before after : NameSet) (names : List Name) (n : Name) (key : Key) → n.kind ≡ Int → key.items ≡ n.text → after.integers.keys ≡ inserted text_of before.integers.keys key
    → after.words.keys ≡ before.words.keys → IsSetOf names before → IsSetOf (names ++ n ∷ []) after
integer_more before after names n key k t c r s =
    set_more before after names n
    (grows Int Word other_way (λ set. set.integers.keys) (λ set. set.words.keys) (λ set m e. of_kind set m Int e) (λ set m e. of_kind set m Word e) before after n key k t c r) s

pub no_names : (set : NameSet) → set.words.keys ≡ [] → set.integers.keys ≡ [] → IsSetOf [] set
no_names set w i = record { exactly = λ m. (λ h. none m (either m.kind) h, λ h. absurd h) } where
  none : (m : Name) → (m.kind ≡ Word) ⊎ (m.kind ≡ Int) → holds set m ≡ true → ⊥
  none m (inl e) h = false≢true (sym (of_kind set m Word e ∙ ap (λ ks. has_key text_of ks m.text) w) ∙ h)
  none m (inr e) h = false≢true (sym (of_kind set m Int e ∙ ap (λ ks. has_key text_of ks m.text) i) ∙ h)

-- the names up to the next one
pub names_more : (names : List program.Name) (i : ℕ) (x : program.Name) → i < length names → x ≡ get_or names i x
    → map name_of (take (i + 1) names) ≡ map name_of (take i names) ++ name_of x ∷ []
names_more names i x h e =
    ap (λ n. map name_of (take n names)) next
    ∙ ap (map name_of) (take-suc names i x h)
    ∙ map-append name_of (take i names) (get_or names i x ∷ [])
    ∙ ap (λ y. map name_of (take i names) ++ name_of y ∷ []) (sym e) where
      next : i + 1 ≡ suc i
      next = omega arith
