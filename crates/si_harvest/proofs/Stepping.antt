-- The steps of a load, item by item.
use Rattle.std.proofs.Common.{◌≡◌, ℕ, ◌≤◌, true, false, Bool, List, [], ◌∷◌, ◌++◌, take, drop, refl, sym, ◌∙◌, subst, Option, inl, inr}
use Rattle.std.proofs.lemmas.List.{take-append-drop}
use Rattle.std.specs.Prelude.{Result, Ok, Err, IsErrAnd}
use Rattle.si_defs.specs.Bytes.{Bytes}
use Rattle.si_defs.specs.Clauses.{Clause}
use Rattle.si_defs.specs.Tokens.{AreBlanks}
use Rattle.si_defs.specs.Grammar.{Selection, clause_item, include_item}
use Rattle.si_defs.specs.Texts.{IsFaulty, IsForeign, IsPlace, line_of}
use Rattle.si_defs.specs.declared.TheConstants.{MOST_OCCURRENCES}
use Rattle.si_state.specs.States.{Rules}
use Rattle.si_state.specs.Harvest.{Files, Bounds, foreign, malformed, ReadingPoint, IsOnLine, IsStuck, IsRejected}
use Rattle.si_parse.specs.Reading.{IsItemRead, IsFault, IsRead}
use Rattle.si_parse.specs.declared.item.Read.{Read}
use Rattle.si_harvest.specs.declared.files.OpenFile.{OpenFile}
use Rattle.si_harvest.specs.declared.reading.Reading.{Reading}
use Rattle.si_harvest.specs.declared.faults.HarvestFault.{HarvestFault}
use Rattle.si_harvest.specs.declared.faults.HarvestFault.TheVariants.{Memory, Syntax, Language}
use Rattle.si_harvest.specs.Faults.{NamesWhy}
use Rattle.si_harvest.specs.Opened.{is_selected, OpensInside, IsUnopened, FetchesOnce, TriesClause, HasFault, HasFetched}
use Rattle.si_harvest.specs.Underway.{IsAtPoint, IsLoadUnderway, AreFilesWithin, Lists}
use Rattle.si_harvest.specs.Stepping.{StepsOn, StepsReading}
use Rattle.si_harvest.proofs.Errors.{why_weaker}
use Rattle.si_harvest.proofs.Moves.{at_end, takes, is_refused, is_stuck, enters, is_unopened, still_fetched, once_fetched}
use Rattle.si_harvest.proofs.Stands.{moved}
use Rattle.si_harvest.proofs.Safety.{within_others, within_moved, within_entered, falls_end, falls_item, falls_entered}

-- what was read, in other words
pub read_as : (bytes bytes' : Bytes) (at : ℕ) (r r' : Read) → bytes ≡ bytes' → r ≡ r' → IsRead bytes at r → IsRead bytes' at r'
read_as bytes bytes' at r r' b e h = subst (IsRead bytes' at) e (subst (λ l. IsRead l at r) b h)

module _ (told : Option Files) (bounds : Bounds) (rules : Rules) where
  -- an error that is passed on
  pub steps_fault : (r : Result Bool HarvestFault) (e : HarvestFault) (old new : Reading) (before after : List Clause) → IsErrAnd r (λ x. x ≡ e)
      → ((start : List Clause) (file : Bytes) → IsLoadUnderway told bounds rules start file old before
      → NamesWhy rules e (HasFault told bounds rules start file new.fetches) × HasFetched told bounds rules start file new.fetches)
      → StepsReading told bounds rules old new before after r
  steps_fault (Ok x) e old new before after h f = absurd h
  steps_fault (Err x) e old new before after h f = subst (λ y. StepsReading told bounds rules old new before after (Err y)) (sym h) f

  pub steps_memory : (r : Result Bool HarvestFault) (old new : Reading) (before after : List Clause) → IsErrAnd r (λ x. x ≡ Memory) → new.fetches ≡ old.fetches
      → StepsReading told bounds rules old new before after r
  steps_memory r old new before after h same = steps_fault r Memory old new before after h (λ start file u. (inl refl, still_fetched told bounds rules start file old before new.fetches same u))

  pub step_end : (old new : Reading) (state : List Clause) (items : List OpenFile) (f : OpenFile) → old.files.items ≡ items ++ f ∷ [] → AreBlanks (drop f.at f.bytes.items)
      → new.files.items ≡ items → new.fetches ≡ old.fetches → AreFilesWithin old.files.items → StepsOn told bounds rules old new state state
  step_end old new state items f e b n m w = record {
    underway = λ start file u. at_end told bounds rules start file old new state items f e b n m u;
    within = subst AreFilesWithin (sym n) (within_others items f (subst AreFilesWithin e w));
    falls = falls_end bounds old new items f e n m;
  }

  pub step_clause : (old new : Reading) (state state' : List Clause) (items : List OpenFile) (f : OpenFile) (end : ℕ) (clause : Clause) → old.files.items ≡ items ++ f ∷ []
      → IsItemRead f.bytes.items f.at (clause_item clause) end → new.files.items ≡ moved items f end → new.fetches ≡ old.fetches
      → TriesClause rules new.files.items clause state state' → AreFilesWithin old.files.items → StepsOn told bounds rules old new state state'
  step_clause old new state state' items f end clause e r n m t w = record {
    underway = λ start file u. takes told bounds rules start file old new state state' items f end clause e r.begins n m t u;
    within = subst AreFilesWithin (sym n) (within_moved items f end (subst AreFilesWithin e w) r.within);
    falls = falls_item bounds old new items f (clause_item clause) end e r.begins n m;
  }

  pub step_refused : (old : Reading) (state : List Clause) (items : List OpenFile) (f : OpenFile) (end : ℕ) (clause : Clause) (made : ℕ) (x : HarvestFault) → old.files.items ≡ items ++ f ∷ []
      → IsItemRead f.bytes.items f.at (clause_item clause) end
      → NamesWhy rules x (λ fault. (is_selected (moved items f end) clause.name ≡ true) × IsRejected rules state clause fault) → made ≡ old.fetches
      → (start : List Clause) (file : Bytes) → IsLoadUnderway told bounds rules start file old state
      → NamesWhy rules x (HasFault told bounds rules start file made) × HasFetched told bounds rules start file made
  step_refused old state items f end clause made x e r b same start file u = (
    why_weaker rules x _ _ (λ fault h. is_refused told bounds rules start file old state items f end clause made fault e r.begins h.0 h.1 same u) b,
    still_fetched told bounds rules start file old state made same u,
  )

  pub step_include : (old new : Reading) (state : List Clause) (items : List OpenFile) (f : OpenFile) (end : ℕ) (name : Bytes) (selection : Selection)
      → old.files.items ≡ items ++ f ∷ [] → IsItemRead f.bytes.items f.at (include_item name selection) end
      → OpensInside told bounds name (Lists selection) (moved items f end) old.fetches new
      → bounds.file ≤ MOST_OCCURRENCES → AreFilesWithin old.files.items → StepsOn told bounds rules old new state state
  step_include old new state items f end name selection e r h b w = record {
    underway = λ start file u. enters told bounds rules start file old new state items f end name selection e r.begins h u;
    within = within_entered told bounds name (Lists selection) (moved items f end) old.fetches new b h (within_moved items f end (subst AreFilesWithin e w) r.within);
    falls = falls_entered told bounds name (Lists selection) old new items f (include_item name selection) end e r.begins h;
  }

  pub step_unopened : (old : Reading) (state : List Clause) (items : List OpenFile) (f : OpenFile) (end : ℕ) (name : Bytes) (selection : Selection) (made : ℕ) (x : HarvestFault)
      → old.files.items ≡ items ++ f ∷ [] → IsItemRead f.bytes.items f.at (include_item name selection) end
      → NamesWhy rules x (IsUnopened told bounds name (moved items f end) old.fetches made) → FetchesOnce bounds name (moved items f end) old.fetches made
      → (start : List Clause) (file : Bytes) → IsLoadUnderway told bounds rules start file old state
      → NamesWhy rules x (HasFault told bounds rules start file made) × HasFetched told bounds rules start file made
  step_unopened old state items f end name selection made x e r b once start file u = (
    why_weaker rules x _ _ (λ fault h. is_unopened told bounds rules start file old state items f end name selection made fault e r.begins h u) b,
    once_fetched told bounds rules start file old state items f end name selection made e r.begins once u,
  )

  -- ---- where no item stands
  point_stuck : (f : OpenFile) (place : ℕ) (outer : List ReadingPoint) (s : ReadingPoint) (P : Bytes → Type 0) → IsFault f.bytes.items f.at place → IsAtPoint f outer s → P (drop f.at f.bytes.items)
      → (f.name ≡ s.file) × IsFaulty s.rest × IsOnLine s (line_of (take place f.bytes.items)) × P s.rest
  point_stuck f place outer s P r h k = (
    sym h.named,
    subst (λ l. IsFaulty l) (sym h.left) r.faulty,
    (
      take place f.bytes.items,
      drop place f.bytes.items,
      subst (λ l. IsPlace l (drop place f.bytes.items)) (sym h.left) r.behind,
      h.whole ∙ sym (take-append-drop place f.bytes.items),
      refl,
    ),
    subst P (sym h.left) k,
  )

  pub step_foreign : (old : Reading) (state : List Clause) (items : List OpenFile) (f : OpenFile) (place line : ℕ) → old.files.items ≡ items ++ f ∷ []
      → IsFault f.bytes.items f.at place × IsForeign (drop f.at f.bytes.items) → line ≡ line_of (take place f.bytes.items)
      → (start : List Clause) (file : Bytes) → IsLoadUnderway told bounds rules start file old state
      → NamesWhy rules (Language f.name line) (HasFault told bounds rules start file old.fetches) × HasFetched told bounds rules start file old.fetches
  step_foreign old state items f place line e r l start file u = (
    inr (record {
      fault = foreign f.name line;
      named = refl;
      holds = is_stuck told bounds rules start file old state items f (foreign f.name line) e
          (λ s outer h. subst (λ n. IsStuck s (foreign f.name n)) (sym l) (point_stuck f place outer s IsForeign r.0 h r.1)) u;
    }),
    u.fetched,
  )

  pub step_malformed : (old : Reading) (state : List Clause) (items : List OpenFile) (f : OpenFile) (place line : ℕ) → old.files.items ≡ items ++ f ∷ []
      → IsFault f.bytes.items f.at place × (IsForeign (drop f.at f.bytes.items) → ⊥) → line ≡ line_of (take place f.bytes.items)
      → (start : List Clause) (file : Bytes) → IsLoadUnderway told bounds rules start file old state
      → NamesWhy rules (Syntax f.name line) (HasFault told bounds rules start file old.fetches) × HasFetched told bounds rules start file old.fetches
  step_malformed old state items f place line e r l start file u = (
    inr (record {
      fault = malformed f.name line;
      named = refl;
      holds = is_stuck told bounds rules start file old state items f (malformed f.name line) e
          (λ s outer h. subst (λ n. IsStuck s (malformed f.name n)) (sym l) (point_stuck f place outer s (λ l. IsForeign l → ⊥) r.0 h r.1)) u;
    }),
    u.fetched,
  )

-- a step where a file was open, of a load with these files and this limit
pub steps_true : (told told' : Option Files) (bounds : Bounds) (rules rules' : Rules) (old new : Reading) (before after : List Clause) (more : Bool) → told ≡ told' → rules ≡ rules' → more ≡ true
    → StepsReading told bounds rules old new before after (Ok more) → StepsOn told' bounds rules' old new before after
steps_true told told' bounds rules rules' old new before after more t l m h =
    subst (λ x. StepsOn x bounds rules' old new before after) t
    (subst (λ n. StepsOn told bounds n old new before after) l
    (subst (λ b. StepsReading told bounds rules old new before after (Ok b)) m h))

-- and one where none was
pub steps_false : (told : Option Files) (bounds : Bounds) (rules : Rules) (old new : Reading) (before after : List Clause) (more : Bool) → more ≡ false
    → StepsReading told bounds rules old new before after (Ok more) → (old.files.items ≡ []) × (after ≡ before) × (new.fetches ≡ old.fetches)
steps_false told bounds rules old new before after more m h = subst (λ b. StepsReading told bounds rules old new before after (Ok b)) m h

-- an error of a step, of a load with these files and these rules
pub steps_error : (told told' : Option Files) (bounds : Bounds) (rules rules' : Rules) (old new : Reading) (before after : List Clause) (e : HarvestFault) → told ≡ told' → rules ≡ rules'
    → StepsReading told bounds rules old new before after (Err e)
    → (start : List Clause) (file : Bytes) → IsLoadUnderway told' bounds rules' start file old before
    → NamesWhy rules' e (HasFault told' bounds rules' start file new.fetches) × HasFetched told' bounds rules' start file new.fetches
steps_error told told' bounds rules rules' old new before after e t l h =
    subst (λ x. StepsReading x bounds rules' old new before after (Err e)) t
    (subst (λ n. StepsReading told bounds n old new before after (Err e)) l h)
