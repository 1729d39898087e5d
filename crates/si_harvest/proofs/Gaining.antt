-- What one more clause adds to what a load has gained.
use Rattle.std.proofs.Common.{◌≡◌, ℕ, ◌+◌, ◌-◌, ◌<◌, List, [], ◌∷◌, ◌++◌, map, take, length, length-append, refl, sym, ap, ap₂, ◌∙◌, subst, append_assoc, append-nil, arith}
use Rattle.std.proofs.lemmas.List.{length-map}
use Rattle.std.proofs.Math.Seq.{take-append_seam}
use Rattle.si_defs.specs.Clauses.{Literal, Clause, IsSoundClause}
use Rattle.si_defs.specs.Entries.{entries, entries_from, literal_entries, placed_in, state_entries}
use Rattle.si_state.specs.States.{Rules}
use Rattle.si_state.specs.Acceptance.{Accepts}
use Rattle.si_state.specs.Harvest.{AreAccepted}
use Rattle.si_sign.proofs.StoreLaws.{count_append}
use Rattle.si_harvest.specs.declared.faults.Loaded.{Loaded}
use Rattle.si_harvest.specs.Gains.{CountsNoMore, Gained, nothing_loaded}

one_entries : (c : Clause) → length (state_entries (c ∷ [])) ≡ length (entries c)
one_entries c = omega (arith, length-append (map (placed_in c) (entries c)) [], length-map (entries c) (placed_in c))

-- a sound clause has an entry
some_entries : (c : Clause) → IsSoundClause c → 0 < length (entries c)
some_entries c s = by c.literals s.some where
  by : (ls : List Literal) → (ls ≡ [] → ⊥) → 0 < length (entries_from 1 ls)
  by [] h = absurd (h refl)
  by (l ∷ ls) h = omega (arith, length-append (literal_entries 1 l) (entries_from (1 + 1) ls))

accepted-append : (rules : Rules) (start gained : List Clause) (c : Clause) → AreAccepted rules start gained
    → Accepts rules (start ++ gained) c ((start ++ gained) ++ c ∷ []) → AreAccepted rules start (gained ++ c ∷ [])
accepted-append rules start [] c h a =
    (subst (λ l. Accepts rules l c (l ++ c ∷ [])) (append-nil start) a, tt)
accepted-append rules start (d ∷ ds) c h a =
    (h.0, accepted-append rules (start ++ d ∷ []) ds c h.1 (subst (λ l. Accepts rules l c (l ++ c ∷ [])) (sym (append_assoc start (d ∷ []) ds)) a))

pub counts_more : (loaded : Loaded) (rules : Rules) (state state' : List Clause) (c : Clause) (n : ℕ) → IsSoundClause c → Accepts rules state c state' → n ≡ length (entries c)
    → CountsNoMore loaded state → CountsNoMore (record { clauses = loaded.clauses + 1; entries = loaded.entries + n }) state'
counts_more loaded rules state state' c n s a e h = record {
  clauses = omega (arith, h.clauses, some_entries c s, e);
  entries = omega (arith, h.entries, e, ap (λ l. length (state_entries l)) a.added, count_append state (c ∷ []), one_entries c);
}

pub gained_more : (loaded : Loaded) (rules : Rules) (start state state' : List Clause) (c : Clause) (n : ℕ) → Accepts rules state c state' → n ≡ length (entries c)
    → Gained rules start loaded state → Gained rules start (record { clauses = loaded.clauses + 1; entries = loaded.entries + n }) state'
gained_more loaded rules start state state' c n a e h = record {
  gained = h.gained ++ c ∷ [];
  whole = a.added ∙ ap (λ l. l ++ c ∷ []) h.whole ∙ append_assoc start h.gained (c ∷ []);
  accepted = accepted-append rules start h.gained c h.accepted
      (subst (λ l. Accepts rules l c (l ++ c ∷ [])) h.whole (subst (Accepts rules state c) a.added a));
  clauses = omega (arith, h.clauses, length-append h.gained (c ∷ []));
  entries = omega (arith, h.entries, e, count_append h.gained (c ∷ []), one_entries c);
}

pub gained_nothing : (rules : Rules) (state : List Clause) (loaded : Loaded) → loaded ≡ nothing_loaded → Gained rules state loaded state
gained_nothing rules state loaded none = record {
  gained = [];
  whole = sym (append-nil state);
  accepted = tt;
  clauses = ap (λ (l : Loaded). l.clauses) none;
  entries = ap (λ (l : Loaded). l.entries) none;
}

pub counts_nothing : (state : List Clause) (loaded : Loaded) → loaded ≡ nothing_loaded → CountsNoMore loaded state
counts_nothing state loaded none = record {
  clauses = omega (arith, ap (λ (l : Loaded). l.clauses) none, ap (λ (l : Loaded). l.entries) none);
  entries = omega (arith, ap (λ (l : Loaded). l.entries) none);
}

-- what was gained is taken away
pub rolled_back : (rules : Rules) (start state left : List Clause) (loaded : Loaded) → Gained rules start loaded state → left ≡ take (length state - loaded.clauses) state → left ≡ start
rolled_back rules start state left loaded h e = e ∙ ap₂ take count h.whole ∙ take-append_seam start h.gained where
  count : length state - loaded.clauses ≡ length start
  count = omega (arith, ap (λ l. length l) h.whole, length-append start h.gained, h.clauses)

pub ruleset loads = (gained_nothing, counts_nothing, rolled_back)
