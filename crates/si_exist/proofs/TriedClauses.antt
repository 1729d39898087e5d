-- A clause that is tried is accepted or refused, and one whose name is taken can go.
use Rattle.std.proofs.Common.{◌⊎◌, ℕ, suc, List, [], ◌∷◌, ◌++◌, inl, inr, refl, sym, ap, subst, append_assoc, append-nil}
use Rattle.std.proofs.lemmas.Bool.{cases_lt}
use Rattle.si_defs.specs.Symbols.{Symbol}
use Rattle.si_defs.specs.Clauses.{Name, Clause}
use Rattle.si_defs.specs.Entries.{clause_symbols, state_symbols}
use Rattle.si_defs.specs.Substitutions.{IsAmong}
use Rattle.si_defs.proofs.ListLaws.{among_front}
use Rattle.si_state.specs.States.{Rules}
use Rattle.si_state.specs.Acceptance.{IsTaken, Clashes, Agrees, AllAgree, IsFirstClash, needed, Accepts, Refusal, taken, misused, full, Refuses, Removes}
use Rattle.si_state.specs.Harvest.{AreAccepted, IsFirstRefused}
use Rattle.si_exist.specs.OneList.{IsNotAbsent}
use Rattle.si_exist.proofs.NotAbsent.{there, and_then, either_way}

-- ---- symbols
agrees_or_clashes : (known : List Symbol) (s : Symbol) → IsNotAbsent (Agrees known s ⊎ ((kept : Symbol) × IsAmong known kept × Clashes s kept))
agrees_or_clashes [] s = there (inl tt)
agrees_or_clashes (r ∷ rs) s =
    either_way (Clashes s r)
    (λ here.
    elim here [
      | inl c ↦ there (inr (r, inl refl, c))
      | inr apart ↦
          and_then (agrees_or_clashes rs s)
          (λ rest. elim rest [ inl a ↦ there (inl (apart, a)) | inr k ↦ there (inr (k.0, inr k.1, k.2)) ])
    ])

abbrev HasFirstClash : List Symbol → List Symbol → Type 0
HasFirstClash known own = (occurrence : ℕ) × (found : Symbol) × (kept : Symbol) × IsFirstClash known own occurrence found kept

clash_later : (known : List Symbol) (s : Symbol) (ss : List Symbol) → Agrees known s → HasFirstClash (known ++ s ∷ []) ss → HasFirstClash known (s ∷ ss)
clash_later known s ss a (occurrence, found, kept, first) = (
  suc occurrence,
  found,
  kept,
  record {
    before = s ∷ first.before;
    after = first.after;
    splits = ap (λ l. s ∷ l) first.splits;
    position = ap suc first.position;
    earlier = (a, first.earlier);
    against = subst (λ l. IsAmong l kept) (append_assoc known (s ∷ []) first.before) first.against;
    clashes = first.clashes;
  },
)

agree_or_clash : (known own : List Symbol) → IsNotAbsent (AllAgree known own ⊎ HasFirstClash known own)
agree_or_clash known [] = there (inl tt)
agree_or_clash known (s ∷ ss) =
    and_then (agrees_or_clashes known s)
    (λ here.
    elim here [
      | inr k ↦
          there
          (
          inr (
            0,
            s,
            k.0,
            record { before = []; after = ss; splits = refl; position = refl; earlier = tt; against = among_front known [] k.0 k.1; clashes = k.2 },
          )
          )
      | inl a ↦
          and_then (agree_or_clash (known ++ s ∷ []) ss)
          (λ rest. elim rest [ inl b ↦ there (inl (a, b)) | inr k ↦ there (inr (clash_later known s ss a k)) ])
    ])

-- ---- clauses
module _ (rules : Rules) where
  pub accepted_or_refused : (clauses : List Clause) (c : Clause) → IsNotAbsent (Accepts rules clauses c (clauses ++ c ∷ []) ⊎ ((why : Refusal) × Refuses rules clauses c why))
  accepted_or_refused clauses c =
      either_way (IsTaken clauses c.name)
      (λ named.
      elim named [
        | inl t ↦ there (inr (taken, t))
        | inr free ↦
            and_then (agree_or_clash (state_symbols clauses) (clause_symbols c))
            (λ symbols.
            elim symbols [
              | inr k ↦ there (inr (misused k.0 k.1 k.2, (free, k.3)))
              | inl agree ↦
                  elim (cases_lt rules.entries (needed clauses c)) [
                    | inl less ↦ there (inr (full (needed clauses c), (free, agree, less, refl)))
                    | inr room ↦ there (inl (record { free = free; agree = agree; room = room; added = refl }))
                  ]
            ])
      ])

  abbrev HasFirstRefused : List Clause → List Clause → Type 0
  HasFirstRefused kept clauses = (clause : Clause) × (why : Refusal) × IsFirstRefused rules kept clauses clause why

  refused_later : (kept : List Clause) (c : Clause) (cs : List Clause) → Accepts rules kept c (kept ++ c ∷ []) → HasFirstRefused (kept ++ c ∷ []) cs → HasFirstRefused kept (c ∷ cs)
  refused_later kept c cs a (clause, why, first) = (
    clause,
    why,
    record {
      before = c ∷ first.before;
      after = first.after;
      splits = ap (λ l. c ∷ l) first.splits;
      earlier = (a, first.earlier);
      refused = subst (λ s. Refuses rules s clause why) (append_assoc kept (c ∷ []) first.before) first.refused;
    },
  )

  pub all_or_first_refused : (kept clauses : List Clause) → IsNotAbsent (AreAccepted rules kept clauses ⊎ HasFirstRefused kept clauses)
  all_or_first_refused kept [] = there (inl tt)
  all_or_first_refused kept (c ∷ cs) =
      and_then (accepted_or_refused kept c)
      (λ here.
      elim here [
        | inr r ↦
            there
            (
            inr (
              c,
              r.0,
              record { before = []; after = cs; splits = refl; earlier = tt; refused = subst (λ s. Refuses rules s c r.0) (sym (append-nil kept)) r.1 },
            )
            )
        | inl a ↦
            and_then (all_or_first_refused (kept ++ c ∷ []) cs)
            (λ rest. elim rest [ inl b ↦ there (inl (a, b)) | inr r ↦ there (inr (refused_later kept c cs a r)) ])
      ])

-- ---- a clause goes
pub goes : (clauses : List Clause) (name : Name) → IsTaken clauses name → (removed : Clause) × (new : List Clause) × Removes clauses name removed new
goes [] name t = absurd t
goes (c ∷ cs) name (inl e) = (c, cs, record { before = []; after = cs; splits = refl; named = e; rest = refl })
goes (c ∷ cs) name (inr t) =
    let r = goes cs name t in (
      r.0,
      c ∷ r.1,
      record {
        before = c ∷ r.2.before;
        after = r.2.after;
        splits = ap (λ l. c ∷ l) r.2.splits;
        named = r.2.named;
        rest = ap (λ l. c ∷ l) r.2.rest;
      },
    )
