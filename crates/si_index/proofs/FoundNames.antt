-- What is found of names by the hashes of their texts, where a clause comes or goes.
use Rattle.std.proofs.Common.{◌≡◌, ◌⊎◌, inl, inr, ℕ, Bool, true, false, ◌&&◌, ◌==◌, cond, List, [], ◌∷◌, ◌++◌, Option, Some, None, refl, sym, ap, ◌∙◌, subst, append-nil}
use Rattle.std.proofs.lemmas.Bool.{false≢true, eqb-true, eq-eqb, and_parts}
use Rattle.std.specs.Prelude.{bytes_eq}
use Rattle.si_defs.specs.Clauses.{Name}
use Rattle.si_defs.specs.Substitutions.{IsAmong}
use Rattle.si_defs.specs.declared.NameKind.{NameKind}
use Rattle.si_defs.specs.declared.NameKind.TheVariants.{Word, Int}
use Rattle.si_defs.proofs.SymbolLaws.{text_is, text_self}
use Rattle.si_defs.proofs.NameLaws.{name_is}
use Rattle.si_defs.proofs.ListLaws.{among_front, among_back, among_parts}
use Rattle.si_term.specs.Meaning.{name_of}
use Rattle.si_term.specs.declared.clause.Clause.{Clause}
use Rattle.si_sign.specs.Hashed.{hashed_key, chosen}
use Rattle.si_sign.proofs.HashedLaws.{led_here, led_apart, left_here, left_apart}
use Rattle.si_keyed.specs.Keyed.{HasKey}
use Rattle.si_keyed.proofs.KeyLaws.{key_among, pushed_item}
use Rattle.si_index.proofs.NamedLaws.{name_gone}
use Rattle.si_index.specs.Names.{same_name_kind, same_name, has_name_at, key_of, key_of_name, AreNamed, ChangesName, NameLeadsTo, NameLeadsAway, NamesStayLed}
use Rattle.si_index.specs.declared.names.ClauseNames.{ClauseNames}

-- ---- names are told apart
kind_is : (a b : NameKind) → same_name_kind a b ≡ true → a ≡ b
kind_is Word Word h = refl
kind_is Word Int h = absurd (false≢true h)
kind_is Int Word h = absurd (false≢true h)
kind_is Int Int h = refl

kind_self : (a : NameKind) → same_name_kind a a ≡ true
kind_self Word = refl
kind_self Int = refl

same_is : (m n : Name) → same_name m n ≡ true → m ≡ n
same_is m n h = let p = and_parts (same_name_kind m.kind n.kind) (bytes_eq m.text n.text) h in name_is m n (kind_is m.kind n.kind p.0) (text_is m.text n.text p.1)

same_self : (n : Name) → same_name n n ≡ true
same_self n = λ i. kind_self n.kind i && text_self n.text i

-- ---- whether a clause with a key has a name
abbrev Items : Type 0
Items = List (ℕ × Clause)

abbrev test : ℕ × Clause → Name → ℕ → Bool
test p n k = p.0 == k && same_name (name_of p.1.name) n

test_true : (p : ℕ × Clause) (n : Name) (k : ℕ) (c : Clause) → p ≡ (k, c) → name_of c.name ≡ n → test p n k ≡ true
test_true p n k c is e =
    let names : same_name (name_of p.1.name) n ≡ true = ap (λ (q : ℕ × Clause). same_name (name_of q.1.name) n) is ∙ ap (λ m. same_name m n) e ∙ same_self n in
    λ i. eq-eqb p.0 k (ap (λ (q : ℕ × Clause). q.0) is) i && names i

pub named_among : (items : Items) (n : Name) (k : ℕ) (c : Clause) → IsAmong items (k, c) → name_of c.name ≡ n → has_name_at items n k ≡ true
named_among [] n k c h e = absurd h
named_among (p ∷ items) n k c (inl is) e = ap {B = Bool} (λ b. cond b true (has_name_at items n k)) (test_true p n k c is e)
named_among (p ∷ items) n k c (inr h) e = by (test p n k) (named_among items n k c h e) where
  by : (b : Bool) → has_name_at items n k ≡ true → cond b true (has_name_at items n k) ≡ true
  by true r = refl
  by false r = r

pub among_named : (items : Items) (n : Name) (k : ℕ) → has_name_at items n k ≡ true → (c : Clause) × IsAmong items (k, c) × (name_of c.name ≡ n)
among_named [] n k h = absurd (false≢true h)
among_named (p ∷ items) n k h = by (test p n k) refl h (among_named items n k) where
  by : (b : Bool) → test p n k ≡ b → cond b true (has_name_at items n k) ≡ true → (has_name_at items n k ≡ true → (c : Clause) × IsAmong items (k, c) × (name_of c.name ≡ n))
      → (c : Clause) × IsAmong (p ∷ items) (k, c) × (name_of c.name ≡ n)
  by true t g rec =
      let q = and_parts (p.0 == k) (same_name (name_of p.1.name) n) t in
      (p.1, inl (λ i. (eqb-true p.0 k q.0 i, p.1)), same_is (name_of p.1.name) n q.1)
  by false t g rec = let r = rec g in (r.0, inr r.1, r.2)

pub named_unless : (items : Items) (n : Name) (k : ℕ) → ((c : Clause) → IsAmong items (k, c) → name_of c.name ≡ n → ⊥) → has_name_at items n k ≡ false
named_unless items n k none = by (has_name_at items n k) refl where
  by : (b : Bool) → has_name_at items n k ≡ b → has_name_at items n k ≡ false
  by true h = let r = among_named items n k h in absurd (none r.0 r.1 r.2)
  by false h = h

same_bool : (b c : Bool) → (b ≡ true → c ≡ true) → (c ≡ true → b ≡ true) → b ≡ c
same_bool true c f g = sym (f refl)
same_bool false true f g = absurd (false≢true (g refl))
same_bool false false f g = refl

-- ---- where nothing changes
pub stay_found : (items : Items) (old new : ClauseNames) → NamesStayLed old new → (n : Name) → key_of_name items new n ≡ key_of_name items old n
stay_found items old new stay n = λ i. chosen (has_name_at items n) (stay.hashed n.text i) (stay.others n i)

-- ---- the key by the hash is right, or isn't
module _ (items : Items) (names : ClauseNames) (n : Name) (k : ℕ) (led : hashed_key names.hashed n.text ≡ Some k) where
  pub found_here : has_name_at items n k ≡ true → key_of_name items names n ≡ Some k
  found_here h = ap (λ o. chosen (has_name_at items n) o (key_of names.others n)) led ∙ ap {B = Option ℕ} (λ b. cond b (Some k) (key_of names.others n)) h

  pub found_past : has_name_at items n k ≡ false → key_of_name items names n ≡ key_of names.others n
  found_past h = ap (λ o. chosen (has_name_at items n) o (key_of names.others n)) led ∙ ap {B = Option ℕ} (λ b. cond b (Some k) (key_of names.others n)) h

  pub key_unknown : (HasKey items k → ⊥) → key_of_name items names n ≡ key_of names.others n
  key_unknown none = found_past (named_unless items n k (λ d a e. none (key_among items (k, d) a)))

  pub name_differs : AreNamed items (key_of_name items names) → (c : Clause) → IsAmong items (k, c) → (name_of c.name ≡ n → ⊥) → key_of_name items names n ≡ key_of names.others n
  name_differs are c among differ = found_past (named_unless items n k (λ d a e. differ (are.named (name_of d.name) k (are.listed k d a) c among ∙ e)))

  pub name_agrees : (c : Clause) → IsAmong items (k, c) → name_of c.name ≡ n → key_of_name items names n ≡ Some k
  name_agrees c among same = found_here (named_among items n k c among same)

-- ---- a clause comes
module _ (items : Items) (key : ℕ) (c : Clause) (fresh : HasKey items key → ⊥) where
  abbrev more : Items
  more = items ++ (key, c) ∷ []

  more_away : (n : Name) (k : ℕ) → (k ≡ key → ⊥) → has_name_at more n k ≡ has_name_at items n k
  more_away n k f = same_bool (has_name_at more n k) (has_name_at items n k) back (λ h. let r = among_named items n k h in named_among more n k r.0 (among_front items ((key, c) ∷ []) (k, r.0) r.1) r.2) where
    back : has_name_at more n k ≡ true → has_name_at items n k ≡ true
    back h = let r = among_named more n k h in by r.0 r.2 (among_parts items ((key, c) ∷ []) (k, r.0) r.1) where
      by : (d : Clause) → name_of d.name ≡ n → IsAmong items (k, d) ⊎ IsAmong {V = ℕ × Clause} ((key, c) ∷ []) (k, d) → has_name_at items n k ≡ true
      by d e (inl a) = named_among items n k d a e
      by d e (inr (inl is)) = absurd (f (sym (ap (λ (p : ℕ × Clause). p.0) is)))
      by d e (inr (inr a)) = absurd a

  more_apart : (n : Name) → (n ≡ name_of c.name → ⊥) → (has_name_at items n key ≡ false) × (has_name_at more n key ≡ false)
  more_apart n f = (
    named_unless items n key (λ d a e. fresh (key_among items (key, d) a)),
    named_unless more n key (λ d a e. by d e (among_parts items ((key, c) ∷ []) (key, d) a)),
  ) where
    by : (d : Clause) → name_of d.name ≡ n → IsAmong items (key, d) ⊎ IsAmong {V = ℕ × Clause} ((key, c) ∷ []) (key, d) → ⊥
    by d e (inl a) = fresh (key_among items (key, d) a)
    by d e (inr (inl is)) = f (sym e ∙ ap (λ (p : ℕ × Clause). name_of p.1.name) (sym is))
    by d e (inr (inr a)) = a

  pub name_comes : (old new : ClauseNames) → NameLeadsTo (name_of c.name) key old new → key_of_name items old (name_of c.name) ≡ None
      → ChangesName (name_of c.name) (Some key) (key_of_name items old) (key_of_name more new)
  name_comes old new led free = record {
    here = led_here (name_of c.name) key (has_name_at items) (has_name_at more) more_away more_apart (λ n. hashed_key old.hashed n.text) (λ n. hashed_key new.hashed n.text) (key_of old.others) (key_of new.others)
        free (named_among more (name_of c.name) key c (among_back items ((key, c) ∷ []) (key, c) (inl refl)) refl) led.here (led.hashed c.name.text);
    others = λ n f. led_apart (name_of c.name) key (has_name_at items) (has_name_at more) more_away more_apart (λ n. hashed_key old.hashed n.text) (λ n. hashed_key new.hashed n.text) (key_of old.others) (key_of new.others)
        n f (led.hashed n.text) (led.others n f);
  }

-- ---- a clause goes
module _ (before : Items) (key : ℕ) (c : Clause) (after : Items) (own : (d : Clause) → IsAmong (before ++ (key, c) ∷ after) (key, d) → name_of d.name ≡ name_of c.name) where
  abbrev all : Items
  all = before ++ (key, c) ∷ after

  abbrev rest : Items
  rest = before ++ after

  around : (k : ℕ) (d : Clause) → IsAmong rest (k, d) → IsAmong all (k, d)
  around k d h = by (among_parts before after (k, d) h) where
    by : IsAmong before (k, d) ⊎ IsAmong after (k, d) → IsAmong all (k, d)
    by (inl a) = among_front before ((key, c) ∷ after) (k, d) a
    by (inr a) = among_back before ((key, c) ∷ after) (k, d) (inr a)

  less_away : (n : Name) (k : ℕ) → (k ≡ key → ⊥) → has_name_at rest n k ≡ has_name_at all n k
  less_away n k f = same_bool (has_name_at rest n k) (has_name_at all n k) (λ h. let r = among_named rest n k h in named_among all n k r.0 (around k r.0 r.1) r.2) back where
    back : has_name_at all n k ≡ true → has_name_at rest n k ≡ true
    back h = let r = among_named all n k h in by r.0 r.2 (among_parts before ((key, c) ∷ after) (k, r.0) r.1) where
      by : (d : Clause) → name_of d.name ≡ n → IsAmong before (k, d) ⊎ IsAmong {V = ℕ × Clause} ((key, c) ∷ after) (k, d) → has_name_at rest n k ≡ true
      by d e (inl a) = named_among rest n k d (among_front before after (k, d) a) e
      by d e (inr (inl is)) = absurd (f (sym (ap (λ (p : ℕ × Clause). p.0) is)))
      by d e (inr (inr a)) = named_among rest n k d (among_back before after (k, d) a) e

  less_apart : (n : Name) → (n ≡ name_of c.name → ⊥) → (has_name_at all n key ≡ false) × (has_name_at rest n key ≡ false)
  less_apart n f = (
    named_unless all n key (λ d a e. f (sym e ∙ own d a)),
    named_unless rest n key (λ d a e. f (sym e ∙ own d (around key d a))),
  )

  pub name_goes : (old new : ClauseNames) → NameLeadsAway (name_of c.name) key old new → key_of_name all old (name_of c.name) ≡ Some key
      → ChangesName (name_of c.name) None (key_of_name all old) (key_of_name rest new)
  name_goes old new left known = record {
    here = left_here (name_of c.name) key (has_name_at all) (has_name_at rest) less_away less_apart (λ n. hashed_key old.hashed n.text) (λ n. hashed_key new.hashed n.text) (key_of old.others) (key_of new.others)
        known left.hash_gone left.name_gone.here (left.hashed c.name.text);
    others = λ n f. left_apart (name_of c.name) key (has_name_at all) (has_name_at rest) less_away less_apart (λ n. hashed_key old.hashed n.text) (λ n. hashed_key new.hashed n.text) (key_of old.others) (key_of new.others)
        n f (left.hashed n.text) (left.name_gone.others n f);
  }

-- a clause came, and goes again
pub name_back : (items : Items) (key : ℕ) (c : Clause) → (HasKey items key → ⊥) → (old between new : ClauseNames) → key_of_name items old (name_of c.name) ≡ None
    → ChangesName (name_of c.name) (Some key) (key_of_name items old) (key_of_name (items ++ (key, c) ∷ []) between) → NameLeadsAway (name_of c.name) key between new
    → (name : Name) → key_of_name items new name ≡ key_of_name items old name
name_back items key c fresh old between new free came left =
    name_gone c c key (key_of_name items old) (key_of_name (items ++ (key, c) ∷ []) between) (key_of_name items new) refl free came
    (subst (λ l. ChangesName (name_of c.name) None (key_of_name (items ++ (key, c) ∷ []) between) (key_of_name l new)) (append-nil items)
    (name_goes items key c [] (λ d a. ap (λ (e : Clause). name_of e.name) (pushed_item items key c d fresh a)) between new left came.here))
