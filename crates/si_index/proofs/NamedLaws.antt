-- Laws of names that lead to the keys of their clauses.
use Rattle.std.proofs.Common.{◌≡◌, ◌⊎◌, inl, inr, ℕ, List, [], ◌∷◌, ◌++◌, Option, Some, None, IfSome, refl, sym, ap, ◌∙◌, subst}
use Rattle.std.specs.Borrow.{Bor}
use Rattle.std.proofs.lemmas.Option.{same_Some, none-some}
use Rattle.si_defs.specs.Clauses as defs
use Rattle.si_defs.specs.Substitutions.{IsAmong}
use Rattle.si_defs.proofs.ListLaws.{among_front, among_back, among_parts}
use Rattle.si_state.specs.Acceptance.{IsTaken}
use Rattle.si_term.specs.Meaning.{name_of}
use Rattle.si_term.specs.declared.clause.Clause.{Clause}
use Rattle.si_keyed.specs.Keyed.{HasKey, IsTakenOut}
use Rattle.si_index.specs.Kept.{clauses_of}
use Rattle.si_index.specs.Names.{AreNamed, ChangesName}
use Rattle.si_index.proofs.NameLaws.{name_either}
use Rattle.si_keyed.proofs.KeyLaws.{item_of, key_taken, pushed_item, pushed_key, key_among}

-- ---- clauses by names
pub among_taken : (items : List (ℕ × Clause)) (key : ℕ) (c : Clause) → IsAmong items (key, c) → IsTaken (clauses_of items) (name_of c.name)
among_taken [] key c h = h
among_taken (x ∷ items) key c (inl e) = inl (ap (λ (p : ℕ × Clause). name_of p.1.name) e)
among_taken (x ∷ items) key c (inr h) = inr (among_taken items key c h)

taken_among : (items : List (ℕ × Clause)) (n : defs.Name) → IsTaken (clauses_of items) n → (p : ℕ × Clause) × IsAmong items p × (name_of p.1.name ≡ n)
taken_among [] n h = absurd h
taken_among (x ∷ items) n (inl e) = (x, inl refl, e)
taken_among (x ∷ items) n (inr h) = let found = taken_among items n h in (found.0, inr found.1, found.2)

module _ (items : List (ℕ × Clause)) (names : defs.Name → Option ℕ) (are : AreNamed items names) where
  pub leads_taken : (n : defs.Name) (key : ℕ) → names n ≡ Some key → IsTaken (clauses_of items) n
  leads_taken n key h =
      let found = item_of items key (are.there n key h) in
      subst (IsTaken (clauses_of items)) (are.named n key h found.0 found.1) (among_taken items key found.0 found.1)

  pub unknown_free : (n : defs.Name) → names n ≡ None → IsTaken (clauses_of items) n → ⊥
  unknown_free n h taken =
      let found = taken_among items n taken in
      none-some _ (sym h ∙ ap names (sym found.2) ∙ are.listed found.0.0 found.0.1 found.1)

-- ---- a clause more
module _ (items : List (ℕ × Clause)) (key : ℕ) (c : Clause) (old new : defs.Name → Option ℕ) (are : AreNamed items old) (fresh : HasKey items key → ⊥)
    (free : old (name_of c.name) ≡ None) (change : ChangesName (name_of c.name) (Some key) old new) where
  own_key : (n : defs.Name) (k : ℕ) → new n ≡ Some k → n ≡ name_of c.name → key ≡ k
  own_key n k h e = same_Some _ _ (sym change.here ∙ ap new (sym e) ∙ h)

  other_key : (n : defs.Name) (k : ℕ) → new n ≡ Some k → (n ≡ name_of c.name → ⊥) → old n ≡ Some k
  other_key n k h f = sym (change.others n f) ∙ h

  more_there : (n : defs.Name) (k : ℕ) → new n ≡ Some k → (n ≡ name_of c.name) ⊎ (n ≡ name_of c.name → ⊥) → HasKey (items ++ (key, c) ∷ []) k
  more_there n k h (inl e) = subst (HasKey (items ++ (key, c) ∷ [])) (own_key n k h e) (pushed_key items key c)
  more_there n k h (inr f) =
      let found = item_of items k (are.there n k (other_key n k h f)) in
      key_among (items ++ (key, c) ∷ []) (k, found.0) (among_front items ((key, c) ∷ []) (k, found.0) found.1)

  more_named : (n : defs.Name) (k : ℕ) → new n ≡ Some k → (d : Clause) → (n ≡ name_of c.name) ⊎ (n ≡ name_of c.name → ⊥)
      → IsAmong items (k, d) ⊎ IsAmong {V = ℕ × Clause} ((key, c) ∷ []) (k, d) → name_of d.name ≡ n
  more_named n k h d (inl e) (inl among) = absurd (fresh (subst (HasKey items) (sym (own_key n k h e)) (key_among items (k, d) among)))
  more_named n k h d (inl e) (inr (inl is)) = ap (λ (p : ℕ × Clause). name_of p.1.name) (sym is) ∙ sym e
  more_named n k h d (inr f) (inl among) = are.named n k (other_key n k h f) d among
  more_named n k h d (inr f) (inr (inl is)) =
      absurd (fresh (subst (HasKey items) (ap (λ (p : ℕ × Clause). p.0) (sym is)) (are.there n k (other_key n k h f))))
  more_named n k h d either (inr (inr among)) = absurd among

  more_listed : (k : ℕ) (d : Clause) → IsAmong items (k, d) ⊎ IsAmong {V = ℕ × Clause} ((key, c) ∷ []) (k, d) → new (name_of d.name) ≡ Some k
  more_listed k d (inl among) =
      let known = are.listed k d among in
      change.others (name_of d.name) (λ e. none-some _ (sym free ∙ ap old (sym e) ∙ known)) ∙ known
  more_listed k d (inr (inl is)) =
      ap (λ (p : ℕ × Clause). new (name_of p.1.name)) (sym is) ∙ change.here ∙ ap (λ (p : ℕ × Clause). Some p.0) is
  more_listed k d (inr (inr among)) = absurd among

  pub named_more : AreNamed (items ++ (key, c) ∷ []) new
  named_more = record {
    there = λ n k h. more_there n k h (name_either n (name_of c.name));
    named = λ n k h d among. more_named n k h d (name_either n (name_of c.name)) (among_parts items ((key, c) ∷ []) (k, d) among);
    listed = λ k d among. more_listed k d (among_parts items ((key, c) ∷ []) (k, d) among);
  }

-- ---- a clause less
module _ (before : List (ℕ × Clause)) (key : ℕ) (c : Clause) (after : List (ℕ × Clause)) (old new : defs.Name → Option ℕ) (are : AreNamed (before ++ (key, c) ∷ after) old)
    (free : IsTaken (clauses_of (before ++ after)) (name_of c.name) → ⊥) (change : ChangesName (name_of c.name) None old new) where
  still : (n : defs.Name) (k : ℕ) → new n ≡ Some k → (n ≡ name_of c.name) ⊎ (n ≡ name_of c.name → ⊥) → (old n ≡ Some k) × (n ≡ name_of c.name → ⊥)
  still n k h (inl e) = absurd (none-some _ (sym change.here ∙ ap new (sym e) ∙ h))
  still n k h (inr f) = (sym (change.others n f) ∙ h, f)

  around : (k : ℕ) (d : Clause) → IsAmong (before ++ after) (k, d) → IsAmong (before ++ (key, c) ∷ after) (k, d)
  around k d h = by (among_parts before after (k, d) h) where
    by : IsAmong before (k, d) ⊎ IsAmong after (k, d) → IsAmong (before ++ (key, c) ∷ after) (k, d)
    by (inl among) = among_front before ((key, c) ∷ after) (k, d) among
    by (inr among) = among_back before ((key, c) ∷ after) (k, d) (inr among)

  less_there : (n : defs.Name) (k : ℕ) → (old n ≡ Some k) × (n ≡ name_of c.name → ⊥) → HasKey (before ++ after) k
  less_there n k h =
      let found = item_of (before ++ (key, c) ∷ after) k (are.there n k h.0) in
      by found.0 (are.named n k h.0 found.0 found.1) (among_parts before ((key, c) ∷ after) (k, found.0) found.1) where
        by : (d : Clause) → name_of d.name ≡ n → IsAmong before (k, d) ⊎ IsAmong {V = ℕ × Clause} ((key, c) ∷ after) (k, d) → HasKey (before ++ after) k
        by d e (inl among) = key_among (before ++ after) (k, d) (among_front before after (k, d) among)
        by d e (inr (inl is)) = absurd (h.1 (sym e ∙ ap (λ (p : ℕ × Clause). name_of p.1.name) (sym is)))
        by d e (inr (inr among)) = key_among (before ++ after) (k, d) (among_back before after (k, d) among)

  less_listed : (k : ℕ) (d : Clause) → IsAmong (before ++ after) (k, d) → new (name_of d.name) ≡ Some k
  less_listed k d among =
      change.others (name_of d.name) (λ e. free (subst (IsTaken (clauses_of (before ++ after))) e (among_taken (before ++ after) k d among)))
      ∙ are.listed k d (around k d among)

  pub named_less : AreNamed (before ++ after) new
  named_less = record {
    there = λ n k h. less_there n k (still n k h (name_either n (name_of c.name)));
    named = λ n k h d among. are.named n k (still n k h (name_either n (name_of c.name))).0 d (around k d among);
    listed = less_listed;
  }

-- ---- as many as before
pub named_stays : (items : List (ℕ × Clause)) (old new : defs.Name → Option ℕ) → AreNamed items old → ((n : defs.Name) → new n ≡ old n) → AreNamed items new
named_stays items old new are same = record {
  there = λ n k h. are.there n k (sym (same n) ∙ h);
  named = λ n k h. are.named n k (sym (same n) ∙ h);
  listed = λ k c among. same (name_of c.name) ∙ are.listed k c among;
}

-- ---- the clause that was put
pub put_item : (items more : List (ℕ × Clause)) (key : ℕ) (c : Clause) (found : Option (Bor Clause)) (kept : Bor Clause) → (HasKey items key → ⊥)
    → more ≡ items ++ (key, c) ∷ [] → found ≡ Some kept → IfSome found (λ item. IsAmong {V = ℕ × Clause} more (key, item.now)) → kept.now ≡ c
put_item items more key c found kept fresh pushed is among =
    pushed_item items key c kept.now fresh
    (subst (λ l. IsAmong {V = ℕ × Clause} l (key, kept.now)) pushed (subst (λ r. IfSome r (λ item. IsAmong {V = ℕ × Clause} more (key, item.now))) is among))

pub put_taken : (items more : List (ℕ × Clause)) (key : ℕ) (c back : Clause) (rest : List (ℕ × Clause)) → (HasKey items key → ⊥) → more ≡ items ++ (key, c) ∷ [] → IsTakenOut more key back rest → back ≡ c
put_taken items more key c back rest fresh pushed taken =
    pushed_item items key c back fresh (subst (λ l. IsAmong {V = ℕ × Clause} l (key, back)) pushed (key_taken more key back rest taken))

-- its name is taken out again
pub name_gone : (c d : Clause) (key : ℕ) (old between new : defs.Name → Option ℕ) → d ≡ c → old (name_of c.name) ≡ None → ChangesName (name_of c.name) (Some key) old between
    → ChangesName (name_of d.name) None between new → (name : defs.Name) → new name ≡ old name
name_gone c d key old between new same free came went name = by (name_either name (name_of c.name)) where
  gone : ChangesName (name_of c.name) None between new
  gone = subst (λ (e : Clause). ChangesName (name_of e.name) None between new) same went

  by : (name ≡ name_of c.name) ⊎ (name ≡ name_of c.name → ⊥) → new name ≡ old name
  by (inl e) = ap new e ∙ gone.here ∙ sym free ∙ sym (ap old e)
  by (inr apart) = gone.others name apart ∙ came.others name apart
