-- Looking through lists of symbols and of clauses.
use Rattle.std.proofs.Common.{◌≡◌, ◌⊎◌, inl, inr, ℕ, zero, suc, ◌+◌, ◌<◌, ◌≤◌, Bool, true, false, not, ◌&&◌, ◌==◌, List, [], ◌∷◌, ◌++◌, length, get_or, take, drop, map, refl, sym, ap, ◌∙◌, subst, add-one, arith, append_assoc, append-nil, Option, None, Some, length-take-le}
use Rattle.std.specs.Prelude.{bytes_eq, option_to_list, slice_get, is_some, IfSome, if◌then◌else◌}
use Rattle.std.specs.List.{AllByRecursion, remove}
use Rattle.std.specs.Borrow.{Bor}
use Rattle.std.proofs.Math.Seq.{take-suc}
use Rattle.std.proofs.lemmas.List.{map-append, take-append-drop, take_all, length-map}
use Rattle.std.proofs.lemmas.Option.{get_or_from_slice_get, slice_get_within}
use Rattle.std.proofs.lemmas.Bool.{eq-eqb, eqb-true, not-true, and_parts, false≢true}
use Rattle.si_defs.specs.Clauses.{Name, IsSoundClause}
use Rattle.si_defs.specs.Entries.{entries, state_entries, clause_symbols, state_symbols}
use Rattle.si_defs.specs.Symbols.{Symbol, same_kind, same_side}
use Rattle.si_defs.specs.Substitutions.{IsAmong}
use Rattle.si_state.specs.States.{Rules}
use Rattle.si_state.specs.Acceptance.{names, IsTaken, Accepts, Removes, Clashes, Agrees, AllAgree, IsFirstClash}
use Rattle.si_term.specs.Terms.{symbol_of}
use Rattle.si_term.specs.declared.term.Sym.{Sym}
use Rattle.si_term.specs.Meaning.{clause_of, name_of}
use Rattle.si_term.specs.declared.clause.Clause as term
use Rattle.si_sign.specs.Stores.{IsStored}
use Rattle.si_sign.specs.Plain.{lent_symbols, is_clash}
use Rattle.si_defs.proofs.SymbolLaws.{kind_is, kind_self, side_is, side_self, text_is, text_self}
use Rattle.si_defs.proofs.ListLaws.{among_back, among_parts, all_from, all_at, all_back}
use Rattle.si_sign.proofs.StateLaws.{state_append}
use Rattle.si_sign.proofs.StoreLaws.{names_append, count_front, count_append, stored_more, stored_less}

pub clash_is : (s r : Symbol) → is_clash s r ≡ true → Clashes s r
clash_is s r h =
    let parts = and_parts (same_kind s.kind r.kind && bytes_eq s.text r.text) (not (same_side s.side r.side && s.arity == r.arity)) h in
    let names = and_parts (same_kind s.kind r.kind) (bytes_eq s.text r.text) parts.0 in
    let other = not-true (same_side s.side r.side && s.arity == r.arity) parts.1 in
    record {
      kind = kind_is s.kind r.kind names.0;
      text = text_is s.text r.text names.1;
      differ = λ side arity. absurd (false≢true (sym other ∙ (λ n. same_side s.side (sym side n) && s.arity == sym arity n) ∙ (λ n. side_self s.side n && eq-eqb s.arity s.arity refl n)));
    }

pub no_clash : (s r : Symbol) → is_clash s r ≡ false → Clashes s r → ⊥
no_clash s r h clash = by (same_side s.side r.side && s.arity == r.arity) refl where
  names : (same_kind s.kind r.kind && bytes_eq s.text r.text) ≡ true
  names = (λ n. same_kind s.kind (sym clash.kind n) && bytes_eq s.text (sym clash.text n)) ∙ (λ n. kind_self s.kind n && text_self s.text n)

  by : (b : Bool) → (same_side s.side r.side && s.arity == r.arity) ≡ b → ⊥
  by true e =
      let parts = and_parts (same_side s.side r.side) (s.arity == r.arity) e in
      clash.differ (side_is s.side r.side parts.0) (eqb-true s.arity r.arity parts.1)
  by false e = absurd (false≢true (sym h ∙ (λ n. names n && not (e n))))

-- ---- one more of the symbols that are lent
pub shown_next : (ss : List (Bor Sym)) (i : ℕ) (d : Bor Sym) → i < length ss → lent_symbols (take (i + 1) ss) ≡ lent_symbols (take i ss) ++ symbol_of (get_or ss i d).now ∷ []
shown_next ss i d h =
    ap (λ n. lent_symbols (take n ss)) (add-one i) ∙ ap lent_symbols (take-suc ss i d h) ∙ map-append (λ s. symbol_of s.now) (take i ss) (get_or ss i d ∷ [])

pub shown_split : (ss : List (Bor Sym)) (i : ℕ) (d : Bor Sym) → i < length ss → lent_symbols ss ≡ lent_symbols (take i ss) ++ symbol_of (get_or ss i d).now ∷ lent_symbols (drop (i + 1) ss)
shown_split ss i d h =
    ap lent_symbols (sym (take-append-drop (i + 1) ss))
    ∙ map-append (λ s. symbol_of s.now) (take (i + 1) ss) (drop (i + 1) ss)
    ∙ ap (λ l. l ++ lent_symbols (drop (i + 1) ss)) (shown_next ss i d h)
    ∙ append_assoc (lent_symbols (take i ss)) (symbol_of (get_or ss i d).now ∷ []) (lent_symbols (drop (i + 1) ss))

pub shown_among : (ss : List (Bor Sym)) (i : ℕ) (d : Bor Sym) → i < length ss → IsAmong (lent_symbols ss) (symbol_of (get_or ss i d).now)
shown_among [] i d h = absurd (omega arith)
shown_among (s ∷ ss) zero d h = inl refl
shown_among (s ∷ ss) (suc i) d h = inr (shown_among ss i d (omega arith))

pub agrees_next : (s : Symbol) (ks : List Symbol) (r : Symbol) → Agrees ks s → is_clash s r ≡ false → Agrees (ks ++ r ∷ []) s
agrees_next s ks r a h = all_from (λ q. Clashes s q → ⊥) (ks ++ r ∷ []) (λ q k. by q (among_parts ks (r ∷ []) q k)) where
  by : (q : Symbol) → IsAmong ks q ⊎ IsAmong (r ∷ []) q → Clashes s q → ⊥
  by q (inl k) = all_at (λ p. Clashes s p → ⊥) ks q a k
  by q (inr (inl e)) = subst (λ p. Clashes s p → ⊥) e (no_clash s r h)
  by q (inr (inr k)) = elim k [ ]

pub agrees_both : (s : Symbol) (ks ls : List Symbol) → Agrees ks s → Agrees ls s → Agrees (ks ++ ls) s
agrees_both s ks ls a b = all_from (λ q. Clashes s q → ⊥) (ks ++ ls) (λ q k. by q (among_parts ks ls q k)) where
  by : (q : Symbol) → IsAmong ks q ⊎ IsAmong ls q → Clashes s q → ⊥
  by q (inl k) = all_at (λ p. Clashes s p → ⊥) ks q a k
  by q (inr k) = all_at (λ p. Clashes s p → ⊥) ls q b k

-- the symbol with this number clashes, and those before it agree
pub first_at : (ks : List Symbol) (os : List (Bor Sym)) (i : ℕ) (one : Bor Sym) (kept : Symbol) → i < length os → one ≡ get_or os i one → AllAgree ks (lent_symbols (take i os))
    → IsAmong (ks ++ lent_symbols (take i os)) kept → Clashes (symbol_of one.now) kept → IsFirstClash ks (lent_symbols os) i (symbol_of one.now) kept
first_at ks os i one kept h read agree against clashes = record {
  before = lent_symbols (take i os);
  after = lent_symbols (drop (i + 1) os);
  splits = shown_split os i one h ∙ ap (λ o. lent_symbols (take i os) ++ symbol_of o.now ∷ lent_symbols (drop (i + 1) os)) (sym read);
  position = omega (arith, length-map (take i os) (λ s. symbol_of s.now), length-take-le i os (omega arith));
  earlier = agree;
  against = against;
  clashes = clashes;
}

-- ---- clauses
pub clauses_all : (cs : List term.Clause) (i : ℕ) → length cs ≤ i → map clause_of (take i cs) ≡ map clause_of cs
clauses_all cs i past = ap (map clause_of) (take_all i cs past)

-- one clause after those in front of it
module _ (cs : List term.Clause) (i : ℕ) (one : term.Clause) (within : i < length cs) (read : one ≡ get_or cs i one) where
  pub clauses_next : map clause_of (take (i + 1) cs) ≡ map clause_of (take i cs) ++ clause_of one ∷ []
  clauses_next =
      ap (λ n. map clause_of (take n cs)) (add-one i)
      ∙ ap (map clause_of) (take-suc cs i one within)
      ∙ map-append clause_of (take i cs) (get_or cs i one ∷ [])
      ∙ ap (λ c. map clause_of (take i cs) ++ clause_of c ∷ []) (sym read)

  pub clauses_split : map clause_of cs ≡ map clause_of (take i cs) ++ clause_of one ∷ map clause_of (drop (i + 1) cs)
  clauses_split =
      ap (map clause_of) (sym (take-append-drop (i + 1) cs))
      ∙ map-append clause_of (take (i + 1) cs) (drop (i + 1) cs)
      ∙ ap (λ l. l ++ map clause_of (drop (i + 1) cs)) clauses_next
      ∙ append_assoc (map clause_of (take i cs)) (clause_of one ∷ []) (map clause_of (drop (i + 1) cs))

  pub sound_at : AllByRecursion IsSoundClause (map clause_of cs) → IsSoundClause (clause_of one)
  sound_at all = (all_back IsSoundClause (map clause_of (take i cs)) (clause_of one ∷ map clause_of (drop (i + 1) cs)) (subst (AllByRecursion IsSoundClause) clauses_split all)).0

  pub symbols_next : state_symbols (map clause_of (take (i + 1) cs)) ≡ state_symbols (map clause_of (take i cs)) ++ clause_symbols (clause_of one)
  symbols_next =
      ap state_symbols clauses_next
      ∙ state_append (map clause_of (take i cs)) (clause_of one ∷ [])
      ∙ ap (λ l. state_symbols (map clause_of (take i cs)) ++ l) (append-nil (clause_symbols (clause_of one)))

  pub count_next : length (state_entries (map clause_of (take (i + 1) cs))) ≡ length (state_entries (map clause_of (take i cs))) + length (entries (clause_of one))
  count_next =
      omega (
        arith,
        ap (λ l. length (state_entries l)) clauses_next,
        count_append (map clause_of (take i cs)) (clause_of one ∷ []),
        count_front (clause_of one) [],
      )

  pub count_within : length (state_entries (map clause_of (take i cs))) + length (entries (clause_of one)) ≤ length (state_entries (map clause_of cs))
  count_within =
      omega (
        arith,
        ap (λ l. length (state_entries l)) clauses_split,
        count_append (map clause_of (take i cs)) (clause_of one ∷ map clause_of (drop (i + 1) cs)),
        count_front (clause_of one) (map clause_of (drop (i + 1) cs)),
      )

  pub taken_next : (n : Name) → IsTaken (map clause_of (take (i + 1) cs)) n → IsTaken (map clause_of (take i cs)) n ⊎ (name_of one.name ≡ n)
  taken_next n h =
      by
      (among_parts (names (map clause_of (take i cs))) (name_of one.name ∷ []) n
      (subst (λ l. IsAmong l n) (names_append (map clause_of (take i cs)) (clause_of one ∷ [])) (subst (λ l. IsTaken l n) clauses_next h))) where
        by : IsTaken (map clause_of (take i cs)) n ⊎ IsAmong (name_of one.name ∷ []) n → IsTaken (map clause_of (take i cs)) n ⊎ (name_of one.name ≡ n)
        by (inl k) = inl k
        by (inr (inl e)) = inr e
        by (inr (inr k)) = elim k [ ]

  pub taken_at : (n : Name) → name_of one.name ≡ n → IsTaken (map clause_of cs) n
  taken_at n e =
      subst (λ l. IsTaken l n) (sym clauses_split)
      (subst (λ l. IsAmong l n) (sym (names_append (map clause_of (take i cs)) (clause_of one ∷ map clause_of (drop (i + 1) cs))))
      (among_back (names (map clause_of (take i cs))) (name_of one.name ∷ names (map clause_of (drop (i + 1) cs))) n (inl e)))

  less : map clause_of (remove cs i) ≡ map clause_of (take i cs) ++ map clause_of (drop (i + 1) cs)
  less = map-append clause_of (take i cs) (drop (suc i) cs) ∙ ap (λ n. map clause_of (take i cs) ++ map clause_of (drop n cs)) (sym (add-one i))

  pub removes_at : (n : Name) → name_of one.name ≡ n → Removes (map clause_of cs) n (clause_of one) (map clause_of (remove cs i))
  removes_at n named = record {
    before = map clause_of (take i cs);
    after = map clause_of (drop (i + 1) cs);
    splits = clauses_split;
    named = named;
    rest = less;
  }

  pub stored_without : (rules : Rules) → IsStored rules (map clause_of cs) → IsStored rules (map clause_of (remove cs i))
  stored_without rules stored =
      subst (IsStored rules) (sym less)
      (stored_less rules (map clause_of (take i cs)) (clause_of one) (map clause_of (drop (i + 1) cs)) (subst (IsStored rules) clauses_split stored))

-- ---- the position of a clause
pub taken_if_some : (cs : List term.Clause) (n : Name) (at : Option ℕ) → IfSome at (λ i. (c : term.Clause) × (slice_get cs i ≡ Some c) × (name_of c.name ≡ n)) → is_some at ≡ true
    → IsTaken (map clause_of cs) n
taken_if_some cs n None found some = absurd (false≢true some)
taken_if_some cs n (Some i) (c, read, named) some = taken_at cs i c (slice_get_within cs i c read) (sym (get_or_from_slice_get cs i c c read)) n named

-- ---- a clause is pushed
pub stored_pushed : (rules : Rules) (cs new : List term.Clause) (c : term.Clause) (pushed : Bool) → new ≡ (if pushed then cs ++ c ∷ [] else cs)
    → IsStored rules (map clause_of cs) → IsSoundClause (clause_of c)
    → Accepts rules (map clause_of cs) (clause_of c) (map clause_of cs ++ clause_of c ∷ []) → IsStored rules (map clause_of new)
stored_pushed rules cs new c true is stored sound accepts =
    subst (IsStored rules) (sym (ap (map clause_of) is ∙ map-append clause_of cs (c ∷ []))) (stored_more rules (map clause_of cs) (clause_of c) stored sound accepts)
stored_pushed rules cs new c false is stored sound accepts = subst (λ l. IsStored rules (map clause_of l)) (sym is) stored

-- ---- the last clause goes, if there is one
pub last_gone : (cs rest : List term.Clause) (last : Option term.Clause) (c : term.Clause) → cs ≡ rest ++ option_to_list last → last ≡ Some c
    → map clause_of cs ≡ map clause_of rest ++ clause_of c ∷ []
last_gone cs rest last c whole is = ap (map clause_of) (whole ∙ ap (λ l. rest ++ option_to_list l) is) ∙ map-append clause_of rest (c ∷ [])

pub stored_but_last : (rules : Rules) (cs rest : List term.Clause) (last : Option term.Clause) → cs ≡ rest ++ option_to_list last → IsStored rules (map clause_of cs)
    → IsStored rules (map clause_of rest)
stored_but_last rules cs rest None whole stored = subst (λ l. IsStored rules (map clause_of l)) (whole ∙ append-nil rest) stored
stored_but_last rules cs rest (Some c) whole stored =
    subst (IsStored rules) (append-nil (map clause_of rest))
    (stored_less rules (map clause_of rest) (clause_of c) [] (subst (IsStored rules) (last_gone cs rest (Some c) c whole refl) stored))
