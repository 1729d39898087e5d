-- The register of clauses, as one is added, refused or taken away.
use Rattle.std.proofs.Common.{◌≡◌, inl, inr, ℕ, ◌+◌, ◌-◌, ◌≤◌, List, [], ◌∷◌, ◌++◌, Option, None, Some, IsSome, length, refl, sym, ap, ◌∙◌, subst, subst₂, arith, append-nil, length-append}
use Rattle.std.proofs.lemmas.List.{map-append}
use Rattle.std.proofs.lemmas.Bool.{false≢true}
use Rattle.si_defs.specs.Symbols.{Symbol, times}
use Rattle.si_defs.specs.Clauses.{Name, Clause, IsSoundClause}
use Rattle.si_defs.specs.Entries.{entries, state_entries, clause_symbols, state_symbols}
use Rattle.si_defs.specs.Substitutions.{IsAmong}
use Rattle.si_state.specs.States.{Rules}
use Rattle.si_state.specs.Acceptance.{IsTaken, Accepts}
use Rattle.si_state.specs.Signatures.{Signature, IsSignature, IsSignatureOf, KeepsNumbers, numbering, uses_of, total}
use Rattle.si_term.specs.Meaning.{clause_of, name_of}
use Rattle.si_term.specs.declared.clause.Clause as term
use Rattle.si_defs.specs.declared.TheConstants.{MOST_OCCURRENCES}
use Rattle.si_sign.specs.Stores.{IsStored, Rejects}
use Rattle.si_sign.specs.declared.faults.AddFault.{AddFault}
use Rattle.si_sign.specs.declared.faults.AddFault.TheVariants as add_fault
use Rattle.si_sign.specs.declared.uses.TheConstants.{MOST_USES}
use Rattle.si_defs.proofs.ListLaws.{among_back, all_at}
use Rattle.si_sign.specs.Shapes.{NamesFirstClash}
use Rattle.si_sign.proofs.StateLaws.{agrees_in_state, clashes_in_state}
use Rattle.si_sign.proofs.StoreLaws.{stored_more, stored_less}
use Rattle.si_sign.proofs.UsesOf.{among_numbering, numbering_among, uses_positive, uses_among}
use Rattle.si_keyed.specs.Keyed.{HasKey, HasKeyAt, IsTakenOut}
use Rattle.si_index.specs.Kept.{KeysStay, clauses_of}
use Rattle.si_index.specs.Names.{key_of_name, AreNamed, ChangesName, NameLeadsAway}
use Rattle.si_index.specs.Register.{IsRegisterOf, HasPut, Admits, CountsClause, UncountsClause, StrikesOut, IsSameRegister, Bars}
use Rattle.si_index.specs.Stored.{IsKeptIndex}
use Rattle.si_index.specs.declared.register.Register.{Register}
use Rattle.si_index.specs.declared.names.ClauseNames.{ClauseNames}
use Rattle.si_keyed.proofs.KeyLaws.{item_of, key_taken, last_behind}
use Rattle.si_index.proofs.NamedLaws.{among_taken, leads_taken, unknown_free, named_more, named_less, named_stays}
use Rattle.si_index.proofs.FoundNames.{name_goes}
use Rattle.si_index.proofs.KeyStays.{kept_as, keys_stay, keys_through}
use Rattle.si_index.proofs.StoreLaws.{few_entries, symbols_few, as_many_symbols, entries_between, symbols_between, times_between, sound_between, distinct_between}

-- ---- why a clause isn't added
some_is : {A : Type 0} (o : Option A) → IsSome o → (x : A) × (o ≡ Some x)
some_is None h = absurd (false≢true h)
some_is (Some x) h = (x, refl)

module _ (rules : Rules) (items : List (ℕ × term.Clause)) (register : Register) (c : Clause) (is : IsRegisterOf items register) (good : IsSignature register.signature) where
  pub name_free : key_of_name items register.names c.name ≡ None → IsTaken (clauses_of items) c.name → ⊥
  name_free e = unknown_free items (key_of_name items register.names) is.names c.name e

  pub rejects : IsSoundClause c → (f : AddFault) → Bars rules items register c f → Rejects rules (clauses_of items) c f
  rejects sound add_fault.Taken why = let found = some_is (key_of_name items register.names c.name) why in leads_taken items (key_of_name items register.names) is.names c.name found.0 found.1
  rejects sound (add_fault.Clash clash) (free, names) = by (clashes_in_state (clauses_of items) register.signature good is.signed (clause_symbols c) clash names) where
    by : NamesFirstClash (state_symbols (clauses_of items)) (clause_symbols c) clash → Rejects rules (clauses_of items) c (add_fault.Clash clash)
    by (found, kept, first, shapes) = (found, kept, (name_free free, first), shapes)
  rejects sound (add_fault.Full needed most) (free, agree, over, number, same) = (
    (
      name_free free,
      agrees_in_state (clauses_of items) register.signature good is.signed (clause_symbols c) agree,
      omega (arith, over, number, is.counted),
      omega (arith, number, is.counted),
    ),
    same,
  )
  rejects sound add_fault.Memory why = tt

  pub accepts : IsSoundClause c → Admits rules items register c → Accepts rules (clauses_of items) c (clauses_of items ++ c ∷ [])
  accepts sound admits = record {
    free = name_free admits.free;
    agree = agrees_in_state (clauses_of items) register.signature good is.signed (clause_symbols c) admits.agree;
    room = omega (arith, admits.room, is.counted);
    added = refl;
  }

-- ---- what is kept, before and after a change
pub room_for : (rules : Rules) (items : List (ℕ × term.Clause)) (register : Register) (c : Clause) → IsKeptIndex rules items register → IsSoundClause c
    → total register.signature + length (clause_symbols c) ≤ MOST_USES
room_for rules items register c kept sound =
    omega (arith, kept.registered.used, as_many_symbols (clauses_of items) kept.stored.sound, kept.stored.few, kept.small, symbols_few c sound)

pub counted_few : (rules : Rules) (items : List (ℕ × term.Clause)) (register : Register) → IsKeptIndex rules items register → register.entries ≤ MOST_OCCURRENCES
counted_few rules items register kept = omega (arith, kept.registered.counted, kept.stored.few, kept.small)

pub kept_stays : (rules : Rules) (old new : Register) (items : List (ℕ × term.Clause)) → IsKeptIndex rules items old → IsSameRegister items old new → IsKeptIndex rules items new
kept_stays rules old new items kept same = record {
  small = kept.small;
  stored = kept.stored;
  registered = record {
    names = named_stays items (key_of_name items old.names) (key_of_name items new.names) kept.registered.names same.names;
    signature = same.signature;
    signed = λ s. same.uses s ∙ kept.registered.signed s;
    used = same.sum ∙ kept.registered.used;
    counted = same.entered ∙ kept.registered.counted;
  };
}

-- a clause that is put last
module _ (rules : Rules) (old between : Register) (items more : List (ℕ × term.Clause)) (c : term.Clause) (names : ClauseNames) (good : IsSignature old.signature)
    (kept : IsKeptIndex rules items old) (sound : IsSoundClause (clause_of c)) (admits : Admits rules items old (clause_of c)) (enters : CountsClause (clause_of c) old between)
    (put : HasPut c items more between.names names) where
  clauses_more : clauses_of more ≡ clauses_of items ++ clause_of c ∷ []
  clauses_more = ap clauses_of put.1.pushed ∙ map-append (λ p. clause_of p.1) items ((put.0, c) ∷ [])

  pub accepts_more : Accepts rules (clauses_of items) (clause_of c) (clauses_of more)
  accepts_more = subst (Accepts rules (clauses_of items) (clause_of c)) (sym clauses_more) (accepts rules items old (clause_of c) kept.registered good sound admits)

  names_more : AreNamed more (key_of_name more names)
  names_more =
      subst (λ l. AreNamed l (key_of_name more names)) (sym put.1.pushed)
      (named_more items put.0 c (key_of_name items between.names) (key_of_name more names) (subst (λ m. AreNamed items (key_of_name items m)) (sym enters.names) kept.registered.names) put.1.fresh
      (ap (λ m. key_of_name items m (name_of c.name)) enters.names ∙ admits.free) put.1.name)

  pub kept_more : IsKeptIndex rules more (record { names = names; signature = between.signature; entries = between.entries })
  kept_more =
      let behind = append-nil (clauses_of items) in
      record {
        small = kept.small;
        stored =
            subst (IsStored rules) (sym clauses_more)
            (stored_more rules (clauses_of items) (clause_of c) kept.stored sound (accepts rules items old (clause_of c) kept.registered good sound admits));
        registered = record {
          names = names_more;
          signature = enters.signature;
          signed = λ s.
              omega (
                arith,
                enters.uses s,
                kept.registered.signed s,
                times_between (clause_of c) [] (clauses_of items) s,
                ap (λ l. times s (state_symbols l)) behind,
                ap (λ l. times s (state_symbols l)) clauses_more,
              );
          used =
              omega (
                arith,
                enters.sum,
                kept.registered.used,
                symbols_between (clause_of c) [] (clauses_of items),
                ap (λ l. length (state_symbols l)) behind,
                ap (λ l. length (state_symbols l)) clauses_more,
              );
          counted =
              omega (
                arith,
                enters.entered,
                kept.registered.counted,
                entries_between (clause_of c) [] (clauses_of items),
                ap (λ l. length (state_entries l)) behind,
                ap (λ l. length (state_entries l)) clauses_more,
              );
        };
      }

  pub keys_more : KeysStay (kept_as items) (kept_as more)
  keys_more =
      let free = ap (λ m. key_of_name items m (name_of c.name)) enters.names ∙ admits.free in
      keys_stay items more (key_of_name items between.names) (key_of_name more names) (subst (λ m. AreNamed items (key_of_name items m)) (sym enters.names) kept.registered.names) names_more
      (keys_through (name_of c.name) (Some put.0) (key_of_name items between.names) (key_of_name more names) put.1.name (inl free))

-- the same with other names
pub register_with : (new between : Register) → new.signature ≡ between.signature → new.entries ≡ between.entries → record { names = new.names; signature = between.signature; entries = between.entries } ≡ new
register_with new between signature counted = λ i. record { names = new.names; signature = sym signature i; entries = sym counted i }

pub uncounted_as : (c : Clause) (between middle new : Register) → middle.signature ≡ between.signature → middle.entries ≡ between.entries → UncountsClause c middle new → UncountsClause c between new
uncounted_as c between middle new signature counted undone = record {
  uses = λ s. undone.uses s ∙ ap (λ g. uses_of g s) signature;
  sum = undone.sum ∙ ap total signature;
  entered = undone.entered ∙ counted;
  signature = undone.signature;
  numbers = subst (λ g. KeepsNumbers g new.signature) signature undone.numbers;
}

-- a clause that couldn't be put is struck out again
-- a number that stays from one signature to the next, and from there on, stays
pub numbers_through : (old between new : Signature) → IsSignature old → ((s : Symbol) → uses_of old s ≤ uses_of between s) → KeepsNumbers old between → KeepsNumbers between new → KeepsNumbers old new
numbers_through old between new good more first second s m n a b =
    let there = numbering_among old (s, m) a in
    let uses : uses_of old there.used.symbol ≡ there.used.uses = uses_among old there.used good.one_shape there.among in
    let some : 1 ≤ there.used.uses = all_at (λ u. 1 ≤ u.uses) old there.used good.used there.among in
    let symbol : there.used.symbol ≡ s = ap (λ p. p.0) there.is in
    let still : 1 ≤ uses_of between s = omega (arith, some, uses, ap (uses_of old) symbol, more s) in
    let here = uses_positive between s still in
    let middle : IsAmong (numbering between) (s, here.used.number) =
    subst (λ r. IsAmong (numbering between) (r, here.used.number)) here.is (among_numbering between here.used here.among) in
    first s m here.used.number a middle ∙ second s here.used.number n middle b

pub entered_back : (items : List (ℕ × term.Clause)) (old between new : Register) (c : Clause) → IsSignature old.signature → CountsClause c old between
    → ((name : Name) → key_of_name items new.names name ≡ key_of_name items between.names name)
    → ((s : Symbol) → uses_of new.signature s + times s (clause_symbols c) ≡ uses_of between.signature s)
    → total new.signature + length (clause_symbols c) ≡ total between.signature → new.entries ≡ old.entries
    → KeepsNumbers between.signature new.signature → IsSignature new.signature → IsSameRegister items old new
entered_back items old between new c good enters same uses sum entered numbers signature = record {
  names = λ name. same name ∙ ap (λ m. key_of_name items m name) enters.names;
  uses = λ s. omega (arith, enters.uses s, uses s);
  sum = omega (arith, enters.sum, sum);
  entered = entered;
  signature = signature;
  numbers = numbers_through old.signature between.signature new.signature good (λ s. omega (arith, enters.uses s)) enters.numbers numbers;
}

-- a clause that stands between others
module _ (rules : Rules) (old : Register) (items : List (ℕ × term.Clause)) (key : ℕ) (c : term.Clause) (rest : List (ℕ × term.Clause)) (kept : IsKeptIndex rules items old)
    (out : IsTakenOut items key c rest) where
  pub splits : clauses_of items ≡ clauses_of out.before ++ clause_of c ∷ clauses_of out.after
  splits = ap clauses_of out.whole ∙ map-append (λ p. clause_of p.1) out.before ((key, c) ∷ out.after)

  pub rest_is : clauses_of rest ≡ clauses_of out.before ++ clauses_of out.after
  rest_is = ap clauses_of out.rest ∙ map-append (λ p. clause_of p.1) out.before out.after

  stored_there : IsStored rules (clauses_of out.before ++ clause_of c ∷ clauses_of out.after)
  stored_there = subst (IsStored rules) splits kept.stored

  signed_there : IsSignatureOf (clauses_of out.before ++ clause_of c ∷ clauses_of out.after) old.signature
  signed_there = subst (λ l. IsSignatureOf l old.signature) splits kept.registered.signed

  -- its symbols are used as often as they occur in it
  pub uses_few : (s : Symbol) → times s (clause_symbols (clause_of c)) ≤ uses_of old.signature s
  uses_few s = omega (arith, signed_there s, times_between (clause_of c) (clauses_of out.after) (clauses_of out.before) s)

  sound_there : IsSoundClause (clause_of c)
  sound_there = (sound_between (clause_of c) (clauses_of out.after) (clauses_of out.before) stored_there.sound).0

  -- its entries are among those that were counted
  pub entries_counted : length (entries (clause_of c)) ≤ old.entries
  entries_counted =
      omega (
        arith,
        kept.registered.counted,
        ap (λ l. length (state_entries l)) splits,
        entries_between (clause_of c) (clauses_of out.after) (clauses_of out.before),
      )

  pub entries_there : length (entries (clause_of c)) ≤ MOST_OCCURRENCES
  entries_there = few_entries (clause_of c) sound_there

  free_without : IsTaken (clauses_of (out.before ++ out.after)) (name_of c.name) → ⊥
  free_without h =
      (distinct_between (clause_of c) (clauses_of out.after) (clauses_of out.before) stored_there.distinct).0
      (subst (λ l. IsTaken l (name_of c.name)) (map-append (λ p. clause_of p.1) out.before out.after) h)

  names_there : AreNamed (out.before ++ (key, c) ∷ out.after) (key_of_name (out.before ++ (key, c) ∷ out.after) old.names)
  names_there = subst (λ l. AreNamed l (key_of_name l old.names)) out.whole kept.registered.names

  known_there : key_of_name (out.before ++ (key, c) ∷ out.after) old.names (name_of c.name) ≡ Some key
  known_there = names_there.listed key c (among_back out.before ((key, c) ∷ out.after) (key, c) (inl refl))

  name_gone : (new : ClauseNames) → NameLeadsAway (name_of c.name) key old.names new
      → ChangesName (name_of c.name) None (key_of_name (out.before ++ (key, c) ∷ out.after) old.names) (key_of_name (out.before ++ out.after) new)
  name_gone new left = name_goes out.before key c out.after (names_there.named (name_of c.name) key known_there) old.names new left known_there

  names_less : (new : ClauseNames) → NameLeadsAway (name_of c.name) key old.names new → AreNamed rest (key_of_name rest new)
  names_less new left =
      subst (λ l. AreNamed l (key_of_name l new)) (sym out.rest)
      (named_less out.before key c out.after (key_of_name (out.before ++ (key, c) ∷ out.after) old.names) (key_of_name (out.before ++ out.after) new) names_there free_without (name_gone new left))

  pub kept_less : (new : Register) → StrikesOut (clause_of c) key old new → IsKeptIndex rules rest new
  kept_less new leaves = record {
    small = kept.small;
    stored = subst (IsStored rules) (sym rest_is) (stored_less rules (clauses_of out.before) (clause_of c) (clauses_of out.after) stored_there);
    registered = record {
      names = names_less new.names leaves.name;
      signature = leaves.counts.signature;
      signed = λ s.
          omega (
            arith,
            leaves.counts.uses s,
            signed_there s,
            times_between (clause_of c) (clauses_of out.after) (clauses_of out.before) s,
            ap (λ l. times s (state_symbols l)) rest_is,
          );
      used =
          omega (
            arith,
            leaves.counts.sum,
            kept.registered.used,
            ap (λ l. length (state_symbols l)) splits,
            symbols_between (clause_of c) (clauses_of out.after) (clauses_of out.before),
            ap (λ l. length (state_symbols l)) rest_is,
          );
      counted =
          omega (
            arith,
            leaves.counts.entered,
            kept.registered.counted,
            ap (λ l. length (state_entries l)) splits,
            entries_between (clause_of c) (clauses_of out.after) (clauses_of out.before),
            ap (λ l. length (state_entries l)) rest_is,
          );
    };
  }

  pub keys_less : (new : ClauseNames) → NameLeadsAway (name_of c.name) key old.names new → KeysStay (kept_as items) (kept_as rest)
  keys_less new left =
      keys_stay items rest (key_of_name items old.names) (key_of_name rest new) kept.registered.names (names_less new left)
      (keys_through (name_of c.name) None (key_of_name items old.names) (key_of_name rest new)
      (subst₂ (λ l m. ChangesName (name_of c.name) None (key_of_name l old.names) (key_of_name m new)) (sym out.whole) (sym out.rest) (name_gone new left)) (inr refl))

  -- the clause that a name leads to has that name
  pub named_so : (n : Name) → key_of_name items old.names n ≡ Some key → name_of c.name ≡ n
  named_so n h = kept.registered.names.named n key h c (key_taken items key c rest out)

  listed_there : (d : term.Clause) → IsAmong (out.before ++ (key, c) ∷ out.after) (key, d) → key_of_name items old.names (name_of d.name) ≡ Some key
  listed_there d among = kept.registered.names.listed key d (subst (λ l. IsAmong l (key, d)) (sym out.whole) among)

  -- no other clause goes by its key
  key_once : (d : term.Clause) → IsAmong out.after (key, d) → ⊥
  key_once d among =
      free_without
      (subst (IsTaken (clauses_of (out.before ++ out.after)))
      (sym (named_so (name_of d.name) (listed_there d (among_back out.before ((key, c) ∷ out.after) (key, d) (inr among)))))
      (among_taken (out.before ++ out.after) key d (among_back out.before out.after (key, d) among)))

  key_behind : HasKeyAt items (length items - 1) key → 1 ≤ length out.after → HasKey out.after key
  key_behind last some =
      last_behind out.before (key, c) out.after (length items - 1) key (subst (λ l. HasKeyAt l (length items - 1) key) out.whole last)
      (omega (arith, ap length out.whole, length-append out.before ((key, c) ∷ out.after))) some

  last_alone : (after : List (ℕ × term.Clause)) → out.after ≡ after → HasKeyAt items (length items - 1) key → out.after ≡ []
  last_alone [] e last = e
  last_alone (x ∷ after) e last =
      let found = item_of out.after key (key_behind last (omega (arith, ap length e))) in
      absurd (key_once found.0 found.1)

  -- the clause of the last key is the last one
  pub last_taken : HasKeyAt items (length items - 1) key → clauses_of items ≡ clauses_of rest ++ clause_of c ∷ []
  last_taken last =
      let e = last_alone out.after refl last in
      splits
      ∙ ap (λ l. clauses_of out.before ++ clause_of c ∷ clauses_of l) e
      ∙ ap (λ l. l ++ clause_of c ∷ []) (sym (rest_is ∙ ap (λ l. clauses_of out.before ++ clauses_of l) e ∙ append-nil (clauses_of out.before)))
