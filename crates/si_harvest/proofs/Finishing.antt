-- What is to come of a reading, one item earlier.
use Rattle.std.proofs.Common.{◌≡◌, ℕ, ◌+◌, List, [], ◌∷◌, ◌++◌, refl, sym, ap, ◌∙◌, subst, Option, None, Some, inl, inr, append_assoc, append-nil, arith}
use Rattle.si_defs.specs.Bytes.{Bytes}
use Rattle.si_defs.specs.Clauses.{Clause}
use Rattle.si_defs.specs.Tokens.{AreBlanks}
use Rattle.si_defs.specs.Grammar.{Selection, clause_item, include_item}
use Rattle.si_defs.specs.Texts.{BeginsWithItem}
use Rattle.si_state.specs.States.{Rules}
use Rattle.si_state.specs.Acceptance.{Refusal, Accepts, Refuses}
use Rattle.si_state.specs.Harvest.{Files, Bounds, Event, ask, attempt, Fault, rejected, fetches, tried, MayAsk, IsBarred, IsWithheld, narrowed, IsSelected, ReadingPoint, IsStuck, Harvests, barred, withheld, fetched, Continues, ended, stuck, passed_over, accepted, refused, expanded, broken_off, Loads}
use Rattle.std.specs.Prelude.{length, ◌≤◌}
use Rattle.si_state.proofs.HarvestLaws.{tried-append}
use Rattle.si_steps.proofs.FetchLaws.{fetches-append}
use Rattle.si_harvest.specs.Underway.{Finishes}

module _ (files : Files) (bounds : Bounds) (rules : Rules) where
  -- the count and the state may be written in another way
  finishes_as : (ss : List ReadingPoint) (made made' : ℕ) (state state' : List Clause) (es : List Event) (fault : Option Fault) → made ≡ made' → state ≡ state'
      → Finishes files bounds rules ss made state es fault → Finishes files bounds rules ss made' state' es fault
  finishes_as ss made made' state state' es fault m s h =
      subst (λ t. Finishes files bounds rules ss made' t es fault) s (subst (λ n. Finishes files bounds rules ss n state es fault) m h)

  -- the file is at its end
  pub finishes_end : (s : ReadingPoint) (ss : List ReadingPoint) (made : ℕ) (state : List Clause) (es : List Event) (fault : Option Fault) → AreBlanks s.rest
      → Finishes files bounds rules ss made state es fault → Finishes files bounds rules (s ∷ ss) made state es fault
  finishes_end s ss made state es fault b h =
      inl ([], es, ended s made state b, finishes_as ss made (made + 0) state (state ++ []) es fault (omega arith) (sym (append-nil state)) h, refl)

  -- a clause that isn't selected
  pub finishes_over : (s : ReadingPoint) (ss : List ReadingPoint) (made : ℕ) (state : List Clause) (clause : Clause) (after : Bytes) (es : List Event) (fault : Option Fault)
      → BeginsWithItem s.rest (clause_item clause) after → (IsSelected s.around clause.name → ⊥)
      → Finishes files bounds rules (record s { rest = after } ∷ ss) made state es fault → Finishes files bounds rules (s ∷ ss) made state es fault
  finishes_over s ss made state clause after es fault b n (inl (own, others, c, f, e)) = inl (own, others, passed_over s made state clause after b n own None c, f, e)
  finishes_over s ss made state clause after es fault b n (inr (early, c, e)) = inr (early, passed_over s made state clause after b n es (Some early) c, e)

  -- a clause that is accepted
  pub finishes_accepted : (s : ReadingPoint) (ss : List ReadingPoint) (made : ℕ) (state : List Clause) (clause : Clause) (after : Bytes) (es : List Event) (fault : Option Fault)
      → BeginsWithItem s.rest (clause_item clause) after → IsSelected s.around clause.name → Accepts rules state clause (state ++ clause ∷ [])
      → Finishes files bounds rules (record s { rest = after } ∷ ss) made (state ++ clause ∷ []) es fault
      → Finishes files bounds rules (s ∷ ss) made state (attempt clause ∷ es) fault
  finishes_accepted s ss made state clause after es fault b n a (inl (own, others, c, f, e)) =
      inl (
        attempt clause ∷ own,
        others,
        accepted s made state clause after b n a own None c,
        finishes_as ss _ _ _ _ others fault refl (append_assoc state (clause ∷ []) (tried own)) f,
        ap (λ l. attempt clause ∷ l) e,
      )
  finishes_accepted s ss made state clause after es fault b n a (inr (early, c, e)) = inr (early, accepted s made state clause after b n a es (Some early) c, e)

  -- a file that is included
  pub finishes_opened : (s : ReadingPoint) (ss : List ReadingPoint) (made : ℕ) (state : List Clause) (file bytes : Bytes) (selection : Selection) (after : Bytes) (es : List Event) (fault : Option Fault)
      → BeginsWithItem s.rest (include_item file selection) after → MayAsk bounds s.opened made file → files file ≡ Some bytes → length bytes ≤ bounds.file
      → Finishes files bounds rules
      (record { file = file; bytes = bytes; opened = file ∷ s.opened; around = narrowed selection s.around; rest = bytes } ∷ record s { rest = after } ∷ ss) (made + 1) state es fault
      → Finishes files bounds rules (s ∷ ss) made state (ask file ∷ es) fault
  finishes_opened s ss made state file bytes selection after es fault b may given small (inr (early, c, e)) =
      inr (
        early,
        broken_off s made state file selection after b (ask file ∷ es) early
            (fetched s.opened (narrowed selection s.around) made state file bytes may given small es (Some early) c),
        e,
      )
  finishes_opened s ss made state file bytes selection after es fault b may given small (inl (own, others, c, f, e)) = behind f where
    whole : Harvests files bounds rules s.opened (narrowed selection s.around) made state file (ask file ∷ own) None
    whole = fetched s.opened (narrowed selection s.around) made state file bytes may given small own None c

    as_made : made + 1 + fetches own ≡ made + (1 + fetches own)
    as_made = omega arith

    later : (events : List Event) (end : Option Fault) → Continues files bounds rules (record s { rest = after }) (made + 1 + fetches own) (state ++ tried own) events end
        → Continues files bounds rules s made state ((ask file ∷ own) ++ events) end
    later events end k =
        expanded s made state file selection after b (ask file ∷ own) events ((ask file ∷ own) ++ events) end whole
        (subst (λ n. Continues files bounds rules (record s { rest = after }) n (state ++ tried own) events end) as_made k) refl

    behind : Finishes files bounds rules (record s { rest = after } ∷ ss) (made + 1 + fetches own) (state ++ tried own) others fault
        → Finishes files bounds rules (s ∷ ss) made state (ask file ∷ es) fault
    behind (inr (early, k, g)) = inr (early, subst (λ l. Continues files bounds rules s made state l (Some early)) (ap (λ l. ask file ∷ l) (sym e)) (later others (Some early) k), g)
    behind (inl (mine, rest, k, h, g)) =
        inl (
          (ask file ∷ own) ++ mine,
          rest,
          later mine None k,
          finishes_as ss _ _ _ _ rest fault fetched_all tried_all h,
          ap (λ l. ask file ∷ l) (e ∙ ap (λ l. own ++ l) g ∙ sym (append_assoc own mine rest)),
        ) where
          fetched_all : made + 1 + fetches own + fetches mine ≡ made + fetches ((ask file ∷ own) ++ mine)
          fetched_all = omega (arith, fetches-append own mine)

          tried_all : (state ++ tried own) ++ tried mine ≡ state ++ tried ((ask file ∷ own) ++ mine)
          tried_all = append_assoc state (tried own) (tried mine) ∙ ap (λ l. state ++ l) (sym (tried-append own mine))

  -- ---- faults
  pub finishes_stuck : (s : ReadingPoint) (ss : List ReadingPoint) (made : ℕ) (state : List Clause) (early : Fault) → IsStuck s early
      → Finishes files bounds rules (s ∷ ss) made state [] (Some early)
  finishes_stuck s ss made state early h = inr (early, stuck s made state early h, refl)

  pub finishes_refused : (s : ReadingPoint) (ss : List ReadingPoint) (made : ℕ) (state : List Clause) (clause : Clause) (after : Bytes) (refusal : Refusal)
      → BeginsWithItem s.rest (clause_item clause) after → IsSelected s.around clause.name → Refuses rules state clause refusal
      → Finishes files bounds rules (s ∷ ss) made state (attempt clause ∷ []) (Some (rejected clause refusal))
  finishes_refused s ss made state clause after refusal b n r = inr (rejected clause refusal, refused s made state clause after b n refusal r, refl)

  pub finishes_barred : (s : ReadingPoint) (ss : List ReadingPoint) (made : ℕ) (state : List Clause) (file : Bytes) (selection : Selection) (after : Bytes) (early : Fault)
      → BeginsWithItem s.rest (include_item file selection) after → IsBarred bounds s.opened made file early
      → Finishes files bounds rules (s ∷ ss) made state (ask file ∷ []) (Some early)
  finishes_barred s ss made state file selection after early b h =
      inr (early, broken_off s made state file selection after b (ask file ∷ []) early (barred s.opened (narrowed selection s.around) made state file early h), refl)

  pub finishes_withheld : (s : ReadingPoint) (ss : List ReadingPoint) (made : ℕ) (state : List Clause) (file : Bytes) (selection : Selection) (after : Bytes) (early : Fault)
      → BeginsWithItem s.rest (include_item file selection) after → MayAsk bounds s.opened made file → IsWithheld files bounds file early
      → Finishes files bounds rules (s ∷ ss) made state (ask file ∷ []) (Some early)
  finishes_withheld s ss made state file selection after early b may h =
      inr (early, broken_off s made state file selection after b (ask file ∷ []) early (withheld s.opened (narrowed selection s.around) made state file early may h), refl)

  -- the first file
  pub loads_opened : (start : List Clause) (file bytes : Bytes) (es : List Event) (fault : Option Fault) → MayAsk bounds [] 0 file → files file ≡ Some bytes → length bytes ≤ bounds.file
      → Finishes files bounds rules (record { file = file; bytes = bytes; opened = file ∷ []; around = []; rest = bytes } ∷ []) 1 start es fault
      → Loads files bounds rules start file (ask file ∷ es) fault
  loads_opened start file bytes es fault may given small (inl (own, others, c, f, e)) =
      let last : es ≡ own = e ∙ ap (λ l. own ++ l) f.0 ∙ append-nil own in
      subst (λ x. Loads files bounds rules start file (ask file ∷ es) x) (sym f.1)
      (subst (λ l. Loads files bounds rules start file (ask file ∷ l) None) (sym last) (fetched [] [] 0 start file bytes may given small own None c))
  loads_opened start file bytes es fault may given small (inr (early, c, e)) =
      subst (λ x. Loads files bounds rules start file (ask file ∷ es) x) (sym e) (fetched [] [] 0 start file bytes may given small es (Some early) c)
