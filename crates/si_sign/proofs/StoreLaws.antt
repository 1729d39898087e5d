-- A list of clauses that is stored stays so when a clause is accepted, and when one goes.
use Rattle.std.proofs.Common.{◌≡◌, ◌⊎◌, inl, inr, ◌+◌, List, [], ◌∷◌, ◌++◌, length, map, refl, sym, ap, ◌∙◌, subst, arith, append-nil, length-append}
use Rattle.std.proofs.lemmas.List.{length-map}
use Rattle.si_defs.specs.Clauses.{Clause, IsSoundClause}
use Rattle.si_defs.specs.Entries.{entries, placed_in, state_entries, clause_symbols, state_symbols}
use Rattle.si_defs.specs.Substitutions.{IsAmong, AreDistinct}
use Rattle.si_defs.proofs.ListLaws.{among_front, among_back, among_parts, all_append, all_front, all_back}
use Rattle.si_state.specs.States.{Rules}
use Rattle.si_state.specs.Acceptance.{names, IsTaken, HasDistinctNames, AllAgree, Accepts}
use Rattle.si_sign.specs.Stores.{IsStored}
use Rattle.si_sign.proofs.TakeLaws.{agree_append, agree_between}
use Rattle.si_sign.proofs.StateLaws.{state_append}

module _ {A : Type 0} where
  distinct_more : (xs : List A) (x : A) → AreDistinct xs → (IsAmong xs x → ⊥) → AreDistinct (xs ++ x ∷ [])
  distinct_more [] x d new = ((λ h. h), tt)
  distinct_more (y ∷ ys) x d new = ((λ h. by (among_parts ys (x ∷ []) y h)), distinct_more ys x d.1 (λ h. new (inr h))) where
    by : IsAmong ys y ⊎ IsAmong (x ∷ []) y → ⊥
    by (inl k) = d.0 k
    by (inr (inl e)) = new (inl (sym e))
    by (inr (inr k)) = elim k [ ]

  distinct_less : (xs : List A) (y : A) (zs : List A) → AreDistinct (xs ++ y ∷ zs) → AreDistinct (xs ++ zs)
  distinct_less [] y zs d = d.1
  distinct_less (x ∷ xs) y zs d = ((λ h. d.0 (by (among_parts xs zs x h))), distinct_less xs y zs d.1) where
    by : IsAmong xs x ⊎ IsAmong zs x → IsAmong (xs ++ y ∷ zs) x
    by (inl k) = among_front xs (y ∷ zs) x k
    by (inr k) = among_back xs (y ∷ zs) x (inr k)

pub names_append : (cs ds : List Clause) → names (cs ++ ds) ≡ names cs ++ names ds
names_append [] ds = refl
names_append (c ∷ cs) ds = ap (λ l. c.name ∷ l) (names_append cs ds)

-- the numbers of entries
pub count_front : (c : Clause) (cs : List Clause) → length (state_entries (c ∷ cs)) ≡ length (entries c) + length (state_entries cs)
count_front c cs = omega (arith, length-append (map (placed_in c) (entries c)) (state_entries cs), length-map (entries c) (placed_in c))

pub count_append : (cs ds : List Clause) → length (state_entries (cs ++ ds)) ≡ length (state_entries cs) + length (state_entries ds)
count_append [] ds = omega arith
count_append (c ∷ cs) ds = omega (arith, count_front c (cs ++ ds), count_front c cs, count_append cs ds)

-- ---- names and symbols, with one clause more or less
pub names_more : (state : List Clause) (c : Clause) → HasDistinctNames state → (IsTaken state c.name → ⊥) → HasDistinctNames (state ++ c ∷ [])
names_more state c distinct free = subst AreDistinct (sym (names_append state (c ∷ []))) (distinct_more (names state) c.name distinct free)

pub names_less : (before : List Clause) (c : Clause) (after : List Clause) → HasDistinctNames (before ++ c ∷ after) → HasDistinctNames (before ++ after)
names_less before c after distinct =
    subst AreDistinct (sym (names_append before after))
    (distinct_less (names before) c.name (names after) (subst AreDistinct (names_append before (c ∷ after)) distinct))

pub symbols_more : (state : List Clause) (c : Clause) → AllAgree [] (state_symbols state) → AllAgree (state_symbols state) (clause_symbols c)
    → AllAgree [] (state_symbols (state ++ c ∷ []))
symbols_more state c agree own =
    subst (AllAgree []) (sym (state_append state (c ∷ []) ∙ ap (λ l. state_symbols state ++ l) (append-nil (clause_symbols c))))
    (agree_append [] (state_symbols state) (clause_symbols c) agree own)

pub symbols_less : (before : List Clause) (c : Clause) (after : List Clause) → AllAgree [] (state_symbols (before ++ c ∷ after)) → AllAgree [] (state_symbols (before ++ after))
symbols_less before c after agree =
    subst (AllAgree []) (sym (state_append before after))
    (agree_between (state_symbols before) (clause_symbols c) (state_symbols after) (subst (AllAgree []) (state_append before (c ∷ after)) agree))

-- ---- a list of clauses that is stored
pub stored_none : (rules : Rules) → IsStored rules []
stored_none rules = record { distinct = tt; agree = tt; sound = tt; few = omega arith }

pub stored_more : (rules : Rules) (state : List Clause) (c : Clause) → IsStored rules state → IsSoundClause c → Accepts rules state c (state ++ c ∷ []) → IsStored rules (state ++ c ∷ [])
stored_more rules state c is sound accepts = record {
  distinct = names_more state c is.distinct accepts.free;
  agree = symbols_more state c is.agree accepts.agree;
  sound = all_append IsSoundClause state (c ∷ []) is.sound (sound, tt);
  few = omega (arith, accepts.room, count_append state (c ∷ []), count_front c []);
}

pub stored_less : (rules : Rules) (before : List Clause) (c : Clause) (after : List Clause) → IsStored rules (before ++ c ∷ after) → IsStored rules (before ++ after)
stored_less rules before c after is = record {
  distinct = names_less before c after is.distinct;
  agree = symbols_less before c after is.agree;
  sound = all_append IsSoundClause before after (all_front IsSoundClause before (c ∷ after) is.sound) (all_back IsSoundClause before (c ∷ after) is.sound).1;
  few = omega (arith, is.few, count_append before (c ∷ after), count_append before after, count_front c after);
}
