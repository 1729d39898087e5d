-- A load goes on by one item, or ends with a fault.
use Rattle.std.proofs.Common.{◌≡◌, ℕ, ◌+◌, ◌≤◌, arith, true, false, List, [], ◌∷◌, ◌++◌, drop, reverse, refl, sym, ap, ◌∙◌, subst, Option, None, Some, ◌⊎◌, inl, inr, append_assoc, append-nil}
use Rattle.std.specs.Prelude.{IfSome}
use Rattle.si_defs.specs.Bytes.{Bytes}
use Rattle.si_defs.specs.Clauses.{Name, Clause}
use Rattle.si_defs.specs.Tokens.{AreBlanks}
use Rattle.si_defs.specs.Grammar.{Selection, all, only, clause_item, include_item}
use Rattle.si_defs.specs.Texts.{BeginsWithItem}
use Rattle.si_state.specs.States.{Rules}
use Rattle.si_state.specs.Acceptance.{Accepts}
use Rattle.si_state.specs.Harvest.{Files, Bounds, Event, ask, attempt, Fault, cycle, too_deep, too_many, missing, too_big, failed, foreign, malformed, rejected, tried, fetches, MayAsk, IsBarred, IsWithheld, narrowed, IsSelected, ReadingPoint, IsStuck, IsRejected, Loads, barred, withheld}
use Rattle.si_state.proofs.HarvestLaws.{tried-append}
use Rattle.si_steps.specs.Loads.{fetches_made}
use Rattle.si_steps.proofs.FetchLaws.{fetches-append, barred_no_ask, made_barred, made_withheld, made_stuck}
use Rattle.si_harvest.specs.declared.files.OpenFile.{OpenFile}
use Rattle.si_harvest.specs.declared.names.NameSet.{NameSet}
use Rattle.si_harvest.specs.declared.reading.Reading.{Reading}
use Rattle.si_harvest.specs.Opened.{opened_names, is_selected, OpensInside, IsUnopened, FetchesOnce, TriesClause, HasFault, HasFetched}
use Rattle.si_harvest.specs.Underway.{Lists, Narrows, IsAtPoint, Stand, Finishes, IsLoadUnderway}
use Rattle.si_harvest.specs.Gains.{GainsByLoad}
use Rattle.si_harvest.proofs.Stands.{moved, innermost, stand_names, stand_selected, stand_unselected, selected-reverse}
use Rattle.si_harvest.proofs.Finishing.{finishes_end, finishes_over, finishes_accepted, finishes_opened, finishes_stuck, finishes_refused, finishes_barred, finishes_withheld, loads_opened}

-- the point of the innermost file, and those of the others
pub record Front (f : OpenFile) (fs : List OpenFile) (ss : List ReadingPoint) : Type 0 where
  pub point : ReadingPoint
  pub outer : List ReadingPoint
  pub first : ss ≡ point ∷ outer
  pub own : IsAtPoint f outer point
  pub others : Stand fs outer

front : (f : OpenFile) (fs : List OpenFile) (ss : List ReadingPoint) → Stand (f ∷ fs) ss → Front f fs ss
front f fs [] h = absurd h
front f fs (s ∷ ss) h = record { point = s; outer = ss; first = refl; own = h.0; others = h.1 }

-- ---- after an item of the innermost file
abbrev behind : OpenFile → ReadingPoint → ℕ → ReadingPoint
behind f s end = record s { rest = drop end f.bytes.items }

stand_behind : (items : List OpenFile) (f : OpenFile) (end : ℕ) (outer : List ReadingPoint) (s : ReadingPoint) → IsAtPoint f outer s → Stand (reverse items) outer
    → Stand (reverse (moved items f end)) (behind f s end ∷ outer)
stand_behind items f end outer s h others = subst (λ fs. Stand fs (behind f s end ∷ outer)) (sym (innermost items (record f { at = end }))) (after, others) where
  after : IsAtPoint (record f { at = end }) outer (behind f s end)
  after = record { named = h.named; whole = h.whole; among = h.among; selects = h.selects; left = refl }

-- ---- a load that is under way
module _ (told : Option Files) (bounds : Bounds) (rules : Rules) (start : List Clause) (file : Bytes) where
  Now : Reading → List Clause → Type 0
  Now reading state = IsLoadUnderway told bounds rules start file reading state

  -- the innermost file of a load that is under way
  pub now_front : (old : Reading) (state : List Clause) (items : List OpenFile) (f : OpenFile) → old.files.items ≡ items ++ f ∷ []
      → (u : IsLoadUnderway told bounds rules start file old state) → Front f (reverse items) u.points
  now_front old state items f e u =
      front f (reverse items) u.points (subst (λ fs. Stand fs u.points) (ap (λ l. reverse l) e ∙ innermost items f) u.stand)

  -- The load goes on after these events.
  pub goes_on : (old new : Reading) (state state' : List Clause) (gained : List Event) (points : List ReadingPoint) (u : IsLoadUnderway told bounds rules start file old state)
      → Stand (reverse new.files.items) points → state' ≡ state ++ tried gained → new.fetches ≡ old.fetches + fetches gained → HasFetched told bounds rules start file new.fetches
      → ((files : Files) → told ≡ Some files → (es : List Event) (fault : Option Fault) → Finishes files bounds rules points new.fetches state' es fault
      → Finishes files bounds rules u.points old.fetches state (gained ++ es) fault)
      → IsLoadUnderway told bounds rules start file new state'
  goes_on old new state state' gained points u stand whole made fetched finishes = record {
    points = points;
    stand = stand;
    events = u.events ++ gained;
    gained = whole ∙ ap (λ l. l ++ tried gained) u.gained ∙ append_assoc start (tried u.events) (tried gained) ∙ ap (λ l. start ++ l) (sym (tried-append u.events gained));
    asked = omega (arith, made, u.asked, fetches-append u.events gained);
    begun = omega (arith, made, u.begun);
    fetched = fetched;
    goes_on = λ files t es fault h. subst (λ l. Loads files bounds rules start file l fault) (sym (append_assoc u.events gained es)) (u.goes_on files t (gained ++ es) fault (finishes files t es fault h));
  }

  -- with no fetch more
  pub still_fetched : (old : Reading) (state : List Clause) (made : ℕ) → made ≡ old.fetches → IsLoadUnderway told bounds rules start file old state → HasFetched told bounds rules start file made
  still_fetched old state made same u = subst (λ n. HasFetched told bounds rules start file n) (sym same) u.fetched

  -- or it ends with a fault
  pub has_fault : (old : Reading) (state : List Clause) (gained : List Event) (made : ℕ) (fault : Fault) (u : IsLoadUnderway told bounds rules start file old state) → old.fetches ≤ made
      → ((files : Files) → told ≡ Some files
      → Finishes files bounds rules u.points old.fetches state gained (Some fault) × (made ≡ fetches_made (u.events ++ gained) (Some fault)))
      → HasFault told bounds rules start file made fault
  has_fault old state gained made fault u later finishes = (λ may. omega (arith, u.begun, later), by told refl) where
    by : (t : Option Files) → told ≡ t → IfSome t (λ files. (events : List Event) × Loads files bounds rules start file events (Some fault) × (made ≡ fetches_made events (Some fault)))
    by None e = tt
    by (Some files) e = let all = finishes files e in (u.events ++ gained, u.goes_on files e gained (Some fault) all.0, all.1)

  -- the file is at its end
  pub at_end : (old new : Reading) (state : List Clause) (items : List OpenFile) (f : OpenFile) → old.files.items ≡ items ++ f ∷ [] → AreBlanks (drop f.at f.bytes.items)
      → new.files.items ≡ items → new.fetches ≡ old.fetches → IsLoadUnderway told bounds rules start file old state → IsLoadUnderway told bounds rules start file new state
  at_end old new state items f e b same made u =
      let w = now_front old state items f e u in
      goes_on old new state state [] w.outer u (subst (λ fs. Stand (reverse fs) w.outer) (sym same) w.others) (sym (append-nil state)) (omega (arith, made)) (still_fetched old state new.fetches made u)
      (λ files t es fault h. subst (λ ss. Finishes files bounds rules ss old.fetches state es fault) (sym w.first)
      (finishes_end files bounds rules w.point w.outer old.fetches state es fault (subst AreBlanks (sym w.own.left) b)
      (subst (λ n. Finishes files bounds rules w.outer n state es fault) made h)))

  -- a clause is passed over, or accepted
  pub takes : (old new : Reading) (state state' : List Clause) (items : List OpenFile) (f : OpenFile) (end : ℕ) (clause : Clause) → old.files.items ≡ items ++ f ∷ []
      → BeginsWithItem (drop f.at f.bytes.items) (clause_item clause) (drop end f.bytes.items)
      → new.files.items ≡ moved items f end → new.fetches ≡ old.fetches → TriesClause rules new.files.items clause state state'
      → IsLoadUnderway told bounds rules start file old state → IsLoadUnderway told bounds rules start file new state'
  takes old new state state' items f end clause e b same made t u = by t where
    w : Front f (reverse items) u.points
    w = now_front old state items f e u

    next : ReadingPoint
    next = behind f w.point end

    stands : Stand (reverse new.files.items) (next ∷ w.outer)
    stands = subst (λ fs. Stand (reverse fs) (next ∷ w.outer)) (sym same) (stand_behind items f end w.outer w.point w.own w.others)

    item : BeginsWithItem w.point.rest (clause_item clause) (drop end f.bytes.items)
    item = subst (λ l. BeginsWithItem l (clause_item clause) (drop end f.bytes.items)) (sym w.own.left) b

    by : ((is_selected new.files.items clause.name ≡ false) × (state' ≡ state)) ⊎ ((is_selected new.files.items clause.name ≡ true) × Accepts rules state clause state')
        → IsLoadUnderway told bounds rules start file new state'
    by (inl (no_one, stays)) =
        let unselected : IsSelected w.point.around clause.name → ⊥ = stand_unselected (reverse new.files.items) (next ∷ w.outer) clause.name stands (selected-reverse new.files.items clause.name ∙ no_one) in
        goes_on old new state state' [] (next ∷ w.outer) u stands (stays ∙ sym (append-nil state)) (omega (arith, made)) (still_fetched old state new.fetches made u)
        (λ files t es fault h. subst (λ ss. Finishes files bounds rules ss old.fetches state es fault) (sym w.first)
        (finishes_over files bounds rules w.point w.outer old.fetches state clause (drop end f.bytes.items) es fault item unselected
        (subst (λ n. Finishes files bounds rules (next ∷ w.outer) n state es fault) made (subst (λ l. Finishes files bounds rules (next ∷ w.outer) new.fetches l es fault) stays h))))
    by (inr (each, accepts)) =
        let selected : IsSelected w.point.around clause.name = stand_selected (reverse new.files.items) (next ∷ w.outer) clause.name stands (selected-reverse new.files.items clause.name ∙ each) in
        let added : Accepts rules state clause (state ++ clause ∷ []) = subst (Accepts rules state clause) accepts.added accepts in
        goes_on old new state state' (attempt clause ∷ []) (next ∷ w.outer) u stands accepts.added (omega (arith, made)) (still_fetched old state new.fetches made u)
        (λ files t es fault h. subst (λ ss. Finishes files bounds rules ss old.fetches state (attempt clause ∷ es) fault) (sym w.first)
        (finishes_accepted files bounds rules w.point w.outer old.fetches state clause (drop end f.bytes.items) es fault item selected added
        (subst (λ n. Finishes files bounds rules (next ∷ w.outer) n (state ++ clause ∷ []) es fault) made (subst (λ l. Finishes files bounds rules (next ∷ w.outer) new.fetches l es fault) accepts.added h))))

  -- a clause is refused
  pub is_refused : (old : Reading) (state : List Clause) (items : List OpenFile) (f : OpenFile) (end : ℕ) (clause : Clause) (made : ℕ) (fault : Fault) → old.files.items ≡ items ++ f ∷ []
      → BeginsWithItem (drop f.at f.bytes.items) (clause_item clause) (drop end f.bytes.items)
      → is_selected (moved items f end) clause.name ≡ true → IsRejected rules state clause fault → made ≡ old.fetches
      → IsLoadUnderway told bounds rules start file old state → HasFault told bounds rules start file made fault
  is_refused old state items f end clause made fault e b each r same_made u = by fault r where
    w : Front f (reverse items) u.points
    w = now_front old state items f e u

    next : ReadingPoint
    next = behind f w.point end

    stands : Stand (reverse (moved items f end)) (next ∷ w.outer)
    stands = stand_behind items f end w.outer w.point w.own w.others

    item : BeginsWithItem w.point.rest (clause_item clause) (drop end f.bytes.items)
    item = subst (λ l. BeginsWithItem l (clause_item clause) (drop end f.bytes.items)) (sym w.own.left) b

    selected : IsSelected w.point.around clause.name
    selected = stand_selected (reverse (moved items f end)) (next ∷ w.outer) clause.name stands (selected-reverse (moved items f end) clause.name ∙ each)

    by : (x : Fault) → IsRejected rules state clause x → HasFault told bounds rules start file made x
    by (rejected c refusal) (same, refuses) =
        has_fault old state (attempt clause ∷ []) made (rejected c refusal) u (omega (arith, same_made))
        (λ files t. (
          subst (λ ss. Finishes files bounds rules ss old.fetches state (attempt clause ∷ []) (Some (rejected c refusal))) (sym w.first)
              (subst (λ d. Finishes files bounds rules (w.point ∷ w.outer) old.fetches state (attempt clause ∷ []) (Some (rejected d refusal))) (sym same)
              (finishes_refused files bounds rules w.point w.outer old.fetches state clause (drop end f.bytes.items) refusal item selected refuses)),
          omega (arith, same_made, u.asked, fetches-append u.events (attempt clause ∷ [])),
        ))
    by (cycle x) h = absurd h
    by (too_deep x) h = absurd h
    by too_many h = absurd h
    by (missing x) h = absurd h
    by (too_big x) h = absurd h
    by (failed x) h = absurd h
    by (foreign x n) h = absurd h
    by (malformed x n) h = absurd h

  -- no item stands there
  pub is_stuck : (old : Reading) (state : List Clause) (items : List OpenFile) (f : OpenFile) (fault : Fault) → old.files.items ≡ items ++ f ∷ []
      → ((s : ReadingPoint) (outer : List ReadingPoint) → IsAtPoint f outer s → IsStuck s fault) → IsLoadUnderway told bounds rules start file old state → HasFault told bounds rules start file old.fetches fault
  is_stuck old state items f fault e h u =
      let w = now_front old state items f e u in
      has_fault old state [] old.fetches fault u (omega arith)
      (λ files t. (
        subst (λ ss. Finishes files bounds rules ss old.fetches state [] (Some fault)) (sym w.first)
            (finishes_stuck files bounds rules w.point w.outer old.fetches state fault (h w.point w.outer w.own)),
        u.asked ∙ made_stuck w.point fault u.events (h w.point w.outer w.own) ∙ ap (λ es. fetches_made es (Some fault)) (sym (append-nil u.events)),
      ))

  -- ---- includes
  -- the file can't be opened inside the others
  pub is_unopened : (old : Reading) (state : List Clause) (items : List OpenFile) (f : OpenFile) (end : ℕ) (name : Bytes) (selection : Selection) (count : ℕ) (fault : Fault)
      → old.files.items ≡ items ++ f ∷ [] → BeginsWithItem (drop f.at f.bytes.items) (include_item name selection) (drop end f.bytes.items)
      → IsUnopened told bounds name (moved items f end) old.fetches count fault
      → IsLoadUnderway told bounds rules start file old state → HasFault told bounds rules start file count fault
  is_unopened old state items f end name selection count fault e b h u =
      has_fault old state (ask name ∷ []) count fault u (later h)
      (λ files t. (subst (λ ss. Finishes files bounds rules ss old.fetches state (ask name ∷ []) (Some fault)) (sym w.first) (by files t h), counted files t h)) where
        later : IsUnopened told bounds name (moved items f end) old.fetches count fault → old.fetches ≤ count
        later (inl (no_one, same_count)) = omega (arith, same_count)
        later (inr (may, no_file, one_more)) = omega (arith, one_more)

        counted : (files : Files) → told ≡ Some files → IsUnopened told bounds name (moved items f end) old.fetches count fault → count ≡ fetches_made (u.events ++ ask name ∷ []) (Some fault)
        counted files t (inl (no_one, same_count)) =
            same_count ∙ u.asked ∙ made_barred bounds (opened_names (moved items f end)) old.fetches name fault u.events no_one
        counted files t (inr (may, no_file, one_more)) =
            one_more ∙ ap (λ n. n + 1) u.asked ∙ made_withheld files bounds name fault u.events (subst (λ x. IfSome x (λ fs. IsWithheld fs bounds name fault)) t no_file)

        w : Front f (reverse items) u.points
        w = now_front old state items f e u

        next : ReadingPoint
        next = behind f w.point end

        stands : Stand (reverse (moved items f end)) (next ∷ w.outer)
        stands = stand_behind items f end w.outer w.point w.own w.others

        names : opened_names (moved items f end) ≡ w.point.opened
        names = sym (stand_names (reverse (moved items f end)) (next ∷ w.outer) stands)

        item : BeginsWithItem w.point.rest (include_item name selection) (drop end f.bytes.items)
        item = subst (λ l. BeginsWithItem l (include_item name selection) (drop end f.bytes.items)) (sym w.own.left) b

        by : (files : Files) → told ≡ Some files → IsUnopened told bounds name (moved items f end) old.fetches count fault
            → Finishes files bounds rules (w.point ∷ w.outer) old.fetches state (ask name ∷ []) (Some fault)
        by files t (inl (no_one, same_count)) =
            finishes_barred files bounds rules w.point w.outer old.fetches state name selection (drop end f.bytes.items) fault item
            (subst (λ l. IsBarred bounds l old.fetches name fault) names no_one)
        by files t (inr (may, no_file, one_more)) =
            finishes_withheld files bounds rules w.point w.outer old.fetches state name selection (drop end f.bytes.items) fault item
            (subst (λ l. MayAsk bounds l old.fetches name) names may)
            (subst (λ x. IfSome x (λ fs. IsWithheld fs bounds name fault)) t no_file)

  -- a fetch that is made may be one at which the library fails
  pub may_fail : (name : Bytes) (outer : List OpenFile) (before made : ℕ) → MayAsk bounds (opened_names outer) before name → made ≡ before + 1 → IsUnopened told bounds name outer before made (failed name)
  may_fail name outer before made may one_more = inr (may, any told, one_more) where
    any : (t : Option Files) → IfSome t (λ files. IsWithheld files bounds name (failed name))
    any None = tt
    any (Some files) = refl

  -- so the fetches so far are the first ones of the load
  pub once_fetched : (old : Reading) (state : List Clause) (items : List OpenFile) (f : OpenFile) (end : ℕ) (name : Bytes) (selection : Selection) (made : ℕ)
      → old.files.items ≡ items ++ f ∷ [] → BeginsWithItem (drop f.at f.bytes.items) (include_item name selection) (drop end f.bytes.items)
      → FetchesOnce bounds name (moved items f end) old.fetches made → IsLoadUnderway told bounds rules start file old state → HasFetched told bounds rules start file made
  once_fetched old state items f end name selection made e b (inl same) u = still_fetched old state made same u
  once_fetched old state items f end name selection made e b (inr (may, one_more)) u =
      (name, is_unopened old state items f end name selection made (failed name) e b (may_fail name (moved items f end) old.fetches made may one_more) u)

  narrows : (selection : Selection) (chosen : Option NameSet) (around : List (List Name)) → Lists selection chosen → Narrows chosen around (narrowed selection around)
  narrows all None around h = refl
  narrows all (Some set) around h = let e : Some set ≡ None = h in cc
  narrows (only names) None around h = absurd h
  narrows (only names) (Some set) around h = (names, h, refl)

  -- the file is open inside the others
  pub enters : (old new : Reading) (state : List Clause) (items : List OpenFile) (f : OpenFile) (end : ℕ) (name : Bytes) (selection : Selection)
      → old.files.items ≡ items ++ f ∷ [] → BeginsWithItem (drop f.at f.bytes.items) (include_item name selection) (drop end f.bytes.items)
      → OpensInside told bounds name (Lists selection) (moved items f end) old.fetches new
      → IsLoadUnderway told bounds rules start file old state → IsLoadUnderway told bounds rules start file new state
  enters old new state items f end name selection e b h u = by told refl where
    w : Front f (reverse items) u.points
    w = now_front old state items f e u

    next : ReadingPoint
    next = behind f w.point end

    stands : Stand (reverse (moved items f end)) (next ∷ w.outer)
    stands = stand_behind items f end w.outer w.point w.own w.others

    names : w.point.opened ≡ opened_names (moved items f end)
    names = stand_names (reverse (moved items f end)) (next ∷ w.outer) stands

    item : BeginsWithItem w.point.rest (include_item name selection) (drop end f.bytes.items)
    item = subst (λ l. BeginsWithItem l (include_item name selection) (drop end f.bytes.items)) (sym w.own.left) b

    inner : ReadingPoint
    inner = record { file = name; bytes = h.file.bytes.items; opened = name ∷ w.point.opened; around = narrowed selection w.point.around; rest = h.file.bytes.items }

    own : IsAtPoint h.file (next ∷ w.outer) inner
    own = record {
      named = sym h.given.named;
      whole = refl;
      among = ap (λ n. n ∷ w.point.opened) (sym h.given.named);
      selects = subst (λ c. Narrows c w.point.around (narrowed selection w.point.around)) (sym h.given.selects) (narrows selection h.chosen w.point.around h.listed);
      left = ap (λ n. drop n h.file.bytes.items) (sym h.given.front);
    }

    all_stand : Stand (reverse new.files.items) (inner ∷ next ∷ w.outer)
    all_stand = subst (λ fs. Stand fs (inner ∷ next ∷ w.outer)) (sym (ap (λ l. reverse l) h.inside ∙ innermost (moved items f end) h.file)) (own, stands)

    may : MayAsk bounds w.point.opened old.fetches name
    may = subst (λ l. MayAsk bounds l old.fetches name) (sym names) h.may

    by : (t : Option Files) → told ≡ t → IsLoadUnderway told bounds rules start file new state
    by t same_told =
        goes_on old new state state (ask name ∷ []) (inner ∷ next ∷ w.outer) u all_stand (sym (append-nil state)) (omega (arith, h.counted))
        (once_fetched old state items f end name selection new.fetches e b (inr (h.may, h.counted)) u)
        (λ files q es fault k. subst (λ ss. Finishes files bounds rules ss old.fetches state (ask name ∷ es) fault) (sym w.first)
        (finishes_opened files bounds rules w.point w.outer old.fetches state name h.file.bytes.items selection (drop end f.bytes.items) es fault item may
        (given files q) h.given.small
        (subst (λ n. Finishes files bounds rules (inner ∷ next ∷ w.outer) n state es fault) h.counted k))) where
          given : (files : Files) → told ≡ Some files → files name ≡ Some h.file.bytes.items
          given files q = subst (λ x. IfSome x (λ fs. fs name ≡ Some h.file.bytes.items)) q h.given.given

  -- ---- the first file
  pub may_begin : (old new : Reading) → old.files.items ≡ [] → old.fetches ≡ 0 → OpensInside told bounds file (λ names. names ≡ None) old.files.items old.fetches new → MayAsk bounds [] 0 file
  may_begin old new none zero h = subst (λ n. MayAsk bounds [] n file) zero (subst (λ l. MayAsk bounds (opened_names l) old.fetches file) none h.may)

  pub never_begins : (old : Reading) (made : ℕ) (fault : Fault) → old.files.items ≡ [] → old.fetches ≡ 0 → IsUnopened told bounds file old.files.items old.fetches made fault → HasFault told bounds rules start file made fault
  never_begins old made fault none zero h = (some h, by told refl h) where
    not_asked : IsBarred bounds (opened_names old.files.items) old.fetches file fault → IsBarred bounds [] 0 file fault
    not_asked no_one = subst (λ n. IsBarred bounds [] n file fault) zero (subst (λ l. IsBarred bounds (opened_names l) old.fetches file fault) none no_one)

    some : IsUnopened told bounds file old.files.items old.fetches made fault → MayAsk bounds [] 0 file → 1 ≤ made
    some (inl (no_one, same)) may = absurd (barred_no_ask bounds [] 0 file fault (not_asked no_one) may)
    some (inr (may, no_file, one_more)) asks = omega (arith, one_more)

    by : (t : Option Files) → told ≡ t → IsUnopened told bounds file old.files.items old.fetches made fault
        → IfSome t (λ files. (events : List Event) × Loads files bounds rules start file events (Some fault) × (made ≡ fetches_made events (Some fault)))
    by None e k = tt
    by (Some files) e (inl (no_one, same)) =
        (ask file ∷ [], barred [] [] 0 start file fault (not_asked no_one), same ∙ zero ∙ made_barred bounds [] 0 file fault [] (not_asked no_one))
    by (Some files) e (inr (may, no_file, one_more)) =
        let gone = subst (λ x. IfSome x (λ fs. IsWithheld fs bounds file fault)) e no_file in (
          ask file ∷ [],
          withheld [] [] 0 start file fault (subst (λ n. MayAsk bounds [] n file) zero (subst (λ l. MayAsk bounds (opened_names l) old.fetches file) none may)) gone,
          one_more ∙ ap (λ n. n + 1) zero ∙ made_withheld files bounds file fault [] gone,
        )

  pub first_fetched : (old : Reading) (made : ℕ) → old.files.items ≡ [] → old.fetches ≡ 0 → FetchesOnce bounds file old.files.items old.fetches made → (made ≡ 0) ⊎ HasFetched told bounds rules start file made
  first_fetched old made none zero (inl same) = inl (same ∙ zero)
  first_fetched old made none zero (inr (may, one_more)) = inr (file, never_begins old made (failed file) none zero (may_fail file old.files.items old.fetches made may one_more))

  pub begins : (old new : Reading) → old.files.items ≡ [] → old.fetches ≡ 0 → OpensInside told bounds file (λ names. names ≡ None) old.files.items old.fetches new → IsLoadUnderway told bounds rules start file new start
  begins old new none zero h = record {
    points = inner ∷ [];
    stand = subst (λ fs. Stand fs (inner ∷ [])) (sym (ap (λ l. reverse l) (h.inside ∙ ap (λ l. l ++ h.file ∷ []) none))) (own, tt);
    events = ask file ∷ [];
    gained = sym (append-nil start);
    asked = omega (arith, h.counted, zero);
    begun = omega (arith, h.counted);
    fetched = (file, never_begins old new.fetches (failed file) none zero (may_fail file old.files.items old.fetches new.fetches h.may h.counted));
    goes_on = λ files q es fault k. loads_opened files bounds rules start file h.file.bytes.items es fault (may_begin old new none zero h)
        (subst (λ x. IfSome x (λ fs. fs file ≡ Some h.file.bytes.items)) q h.given.given) h.given.small
        (subst (λ n. Finishes files bounds rules (inner ∷ []) n start es fault) (h.counted ∙ ap (λ n. n + 1) zero) k);
  } where
    inner : ReadingPoint
    inner = record { file = file; bytes = h.file.bytes.items; opened = file ∷ []; around = []; rest = h.file.bytes.items }

    own : IsAtPoint h.file [] inner
    own = record {
      named = sym h.given.named;
      whole = refl;
      among = ap (λ n. n ∷ []) (sym h.given.named);
      selects = subst (λ c. Narrows c [] []) (sym (h.given.selects ∙ h.listed)) refl;
      left = ap (λ n. drop n h.file.bytes.items) (sym h.given.front);
    }

  pub may_not_begin : (old : Reading) (made : ℕ) (fault : Fault) → old.files.items ≡ [] → old.fetches ≡ 0 → (MayAsk bounds [] 0 file → ⊥) → IsUnopened told bounds file old.files.items old.fetches made fault
      → IsBarred bounds [] 0 file fault
  may_not_begin old made fault none zero never h = by h where
    by : IsUnopened told bounds file old.files.items old.fetches made fault → IsBarred bounds [] 0 file fault
    by (inl (no_one, same)) = subst (λ n. IsBarred bounds [] n file fault) zero (subst (λ l. IsBarred bounds (opened_names l) old.fetches file fault) none no_one)
    by (inr (may, no_file, one_more)) = absurd (never (subst (λ n. MayAsk bounds [] n file) zero (subst (λ l. MayAsk bounds (opened_names l) old.fetches file) none may)))

  -- no file is open any more
  pub is_over : (old : Reading) (state : List Clause) → old.files.items ≡ [] → IsLoadUnderway told bounds rules start file old state
      → GainsByLoad told bounds rules start file old.fetches state
  is_over old state none u = (u.begun, by told refl) where
    no_points : (ss : List ReadingPoint) → Stand [] ss → ss ≡ []
    no_points [] h = refl
    no_points (s ∷ ss) h = absurd h

    by : (t : Option Files) → told ≡ t → IfSome t (λ files. (events : List Event) × Loads files bounds rules start file events None × (old.fetches ≡ fetches events) × (state ≡ start ++ tried events))
    by None e = tt
    by (Some files) e =
        let empty : u.points ≡ [] = no_points u.points (subst (λ fs. Stand (reverse fs) u.points) none u.stand) in (
          u.events,
          subst (λ l. Loads files bounds rules start file l None) (append-nil u.events)
              (u.goes_on files e [] None (subst (λ ss. Finishes files bounds rules ss old.fetches state [] None) (sym empty) (refl, refl))),
          u.asked,
          u.gained,
        )
