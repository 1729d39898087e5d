-- What a load did, from what the harvest answered and what was reported of it.
use Rattle.std.proofs.Common.{◌≡◌, ◌⊎◌, ℕ, Bool, List, [], ◌∷◌, ◌++◌, refl, sym, ap, ap₂, ◌∙◌, subst, inl, inr, Option, None, Some, Ok, Err, arith}
use Rattle.std.specs.Prelude.{slice_get, IsTrue}
use Rattle.si_defs.specs.Bytes.{Bytes}
use Rattle.si_defs.specs.Clauses.{Clause}
use Rattle.si_defs.specs.Entries.{clause_symbols}
use Rattle.si_state.specs.States.{State, Rules}
use Rattle.si_state.specs.Acceptance.{Refusal, Refuses}
use Rattle.si_state.specs.Harvest.{Files, Fault, cycle, too_deep, too_many, missing, too_big, failed, foreign, malformed, rejected, tried}
use Rattle.si_steps.specs.declared.limits.Limits.{Limits}
use Rattle.si_steps.specs.Replies.{refusal_line, misused_line, full_line, fault_line, ok_line, memory_line}
use Rattle.si_steps.specs.Loads.{misses_in, bigs_in, failures_in, owed_for, MayFetch, load_bounds, gained_line, PerformsLoad}
use Rattle.si_term.specs.Meaning.{name_of, clause_of}
use Rattle.si_io.specs.Shown.{SinkShown, LibraryShown}
use Rattle.si_io.specs.Library.{Counts, faults_in}
use Rattle.si_io.specs.declared.counts.LibraryCounts.{LibraryCounts}
use Rattle.si_io.specs.Counts.{raised_by}
use Rattle.si_sign.specs.Shapes.{shape_of}
use Rattle.si_sign.specs.Stores.{Rejects}
use Rattle.si_sign.specs.declared.faults.Rejected.{Rejected}
use Rattle.si_sign.specs.declared.faults.AddFault.{AddFault}
use Rattle.si_sign.specs.declared.faults.AddFault.TheVariants as add_fault
use Rattle.si_harvest.specs.declared.faults.Loaded.{Loaded}
use Rattle.si_harvest.specs.declared.faults.HarvestFault.{HarvestFault}
use Rattle.si_harvest.specs.declared.faults.HarvestFault.TheVariants as harvest_fault
use Rattle.si_harvest.specs.Faults.{IsReason, NamesFault, NamesWhy, HasFaultCause}
use Rattle.si_index.specs.Kept.{Kept}
use Rattle.si_harvest.specs.Gains.{Gained, GainsByLoad}
use Rattle.si_harvest.specs.Opened.{HasFault, HasFetched}
use Rattle.si_harvest.specs.Loading.{ReadsFiles}
use Rattle.si_session.specs.declared.reply.ReplyLine as program
use Rattle.si_session.specs.declared.stepped.Stepped.{Stepped}
use Rattle.si_session.specs.Replies.{reply_line, misused_text}
use Rattle.si_session.specs.Rejections.{ReportsFault, IsReportable, ReportsFaultOfLoad}
use Rattle.si_session.specs.Session.{around, behind_owed, HasCountedOwed, Writes, HasLoaded, LoadsOn, rightly_loaded, ran_out, view_of, holding}
use Rattle.si_session.proofs.Acting.{holds_same, at_seam, is_reportable}

-- ---- a clause that is refused
rejects : (rules : Rules) (state : List Clause) (clause : Clause) (refusal : Refusal) (why : AddFault) → IsReason rules why refusal
    → Refuses rules state clause refusal → Rejects rules state clause why
rejects rules state clause refusal add_fault.Taken reason h = subst (Refuses rules state clause) reason h
rejects rules state clause refusal (add_fault.Clash c) reason h = (reason.0, reason.1, subst (Refuses rules state clause) reason.2 h, reason.3)
rejects rules state clause refusal (add_fault.Full n most) reason h = (subst (Refuses rules state clause) reason.0 h, reason.1)
rejects rules state clause refusal add_fault.Memory reason h = absurd reason

-- the line that reports it
rejection_line : (rules : Rules) (state : List Clause) (r : Rejected) (reported : program.ReplyLine) (refusal : Refusal) (why : AddFault) → IsReason rules why refusal
    → Refuses rules state (clause_of r.clause) refusal → ReportsFault r reported why → reply_line reported ≡ refusal_line rules.entries (name_of r.clause.name) refusal
rejection_line rules state r reported refusal add_fault.Taken reason h t = t ∙ ap (refusal_line rules.entries (name_of r.clause.name)) (sym reason)
rejection_line rules state r reported refusal (add_fault.Clash c) reason h t =
    let clash = (subst (Refuses rules state (clause_of r.clause)) reason.2 h).1 in
    let there : slice_get (clause_symbols (clause_of r.clause)) c.occurrence ≡ Some reason.0 = at_seam clash.before clash.after _ reason.0 c.occurrence clash.splits clash.position in
    let same : misused_text reason.0 c.found c.kept ≡ misused_line reason.0 reason.1 =
    ap (λ shape. misused_text reason.0 shape c.kept) reason.3.0 ∙ ap (λ shape. misused_text reason.0 (shape_of reason.0) shape) reason.3.1 in
    t reason.0 there ∙ same ∙ ap (refusal_line rules.entries (name_of r.clause.name)) (sym reason.2)
rejection_line rules state r reported refusal (add_fault.Full n most) reason h t =
    t ∙ ap (full_line n) reason.1 ∙ ap (refusal_line rules.entries (name_of r.clause.name)) (sym reason.0)
rejection_line rules state r reported refusal add_fault.Memory reason h t = absurd reason

-- ---- any fault of a load
reportable_where : (rules : Rules) (e : HarvestFault) (fault : Fault) → NamesFault rules e fault → IsReportable e
reportable_where rules (harvest_fault.Syntax file line) fault n = tt
reportable_where rules (harvest_fault.Language file line) fault n = tt
reportable_where rules (harvest_fault.Rejected r) fault n =
    is_reportable rules n.2.kept r n.2.sound (rejects rules n.2.kept (clause_of r.clause) n.0 r.why n.2.reason n.2.refuses)
reportable_where rules (harvest_fault.Missing file) fault n = tt
reportable_where rules (harvest_fault.Big file) fault n = tt
reportable_where rules (harvest_fault.Fault file) fault n = tt
reportable_where rules (harvest_fault.Cycle file) fault n = tt
reportable_where rules (harvest_fault.Depth file) fault n = tt
reportable_where rules harvest_fault.Fetches fault n = tt
reportable_where rules harvest_fault.Memory fault n = absurd n

pub reportable : (rules : Rules) (e : HarvestFault) (P : Fault → Type 0) → NamesWhy rules e P → IsReportable e
reportable rules e P (inl m) = subst IsReportable (sym m) tt
reportable rules e P (inr t) = reportable_where rules e t.fault t.named

pub fault_reported : (rules : Rules) (e : HarvestFault) (fault : Fault) (reported : program.ReplyLine) → NamesFault rules e fault → ReportsFaultOfLoad e reported → reply_line reported ≡ fault_line rules.entries fault
fault_reported rules (harvest_fault.Syntax file line) fault reported n t = t ∙ ap (fault_line rules.entries) (sym n)
fault_reported rules (harvest_fault.Language file line) fault reported n t = t ∙ ap (fault_line rules.entries) (sym n)
fault_reported rules (harvest_fault.Rejected r) fault reported n t =
    rejection_line rules n.2.kept r reported n.0 r.why n.2.reason n.2.refuses t ∙ ap (fault_line rules.entries) (sym n.1)
fault_reported rules (harvest_fault.Missing file) fault reported n t = t ∙ ap (fault_line rules.entries) (sym n)
fault_reported rules (harvest_fault.Big file) fault reported n t = t ∙ ap (fault_line rules.entries) (sym n)
fault_reported rules (harvest_fault.Fault file) fault reported n t = t ∙ ap (fault_line rules.entries) (sym n)
fault_reported rules (harvest_fault.Cycle file) fault reported n t = t ∙ ap (fault_line rules.entries) (sym n)
fault_reported rules (harvest_fault.Depth file) fault reported n t = t ∙ ap (fault_line rules.entries) (sym n)
fault_reported rules harvest_fault.Fetches fault reported n t = t ∙ ap (fault_line rules.entries) (sym n)
fault_reported rules harvest_fault.Memory fault reported n t = absurd n

-- ---- what a load owes
-- so many fetches were counted, and the other counts moved by what a fault owes
counted_for : (made misses bigs failures : ℕ) (before now : LibraryCounts) → now.calls ≡ raised_by made before.calls
    → now.faults ≡ raised_by failures before.faults → now.misses ≡ raised_by misses before.misses → now.bigs ≡ raised_by bigs before.bigs
    → now ≡ behind_owed (record { fetches = made; misses = misses; bigs = bigs; failures = failures }) before
counted_for made misses bigs failures before now c f m b = λ i. record { calls = c i; faults = f i; misses = m i; bigs = b i }

-- the load has no fault that is owed
none_owed : (made : ℕ) (fault : Option Fault) (may_fail : Bool) (before now : LibraryCounts) → misses_in fault ≡ 0 → bigs_in fault ≡ 0 → failures_in fault ≡ 0
    → now.calls ≡ raised_by made before.calls → faults_in now ≡ faults_in before → HasCountedOwed may_fail (owed_for made fault) before now
none_owed made fault may_fail before now misses bigs failures calls same = record {
  counts = counted_for made (misses_in fault) (bigs_in fault) (failures_in fault) before now calls
      (omega (arith, failures, ap (λ (c : Counts). c.faults) same)) (omega (arith, misses, ap (λ (c : Counts). c.misses) same)) (omega (arith, bigs, ap (λ (c : Counts). c.bigs) same));
  sure = λ never. failures;
}

pub gained_counted : (made : ℕ) (may_fail : Bool) (before now : LibraryCounts) → now.calls ≡ raised_by made before.calls → faults_in now ≡ faults_in before
    → HasCountedOwed may_fail (owed_for made None) before now
gained_counted made may_fail before now calls same = none_owed made None may_fail before now refl refl refl calls same

module _ (rules : Rules) (made : ℕ) (fault : Fault) (may_fail : Bool) (before now : LibraryCounts) (calls : now.calls ≡ raised_by made before.calls) where
  -- of this fault
  as_named : (named : Fault) → fault ≡ named → HasCountedOwed may_fail (owed_for made (Some named)) before now → HasCountedOwed may_fail (owed_for made (Some fault)) before now
  as_named named n h = subst (λ f. HasCountedOwed may_fail (owed_for made (Some f)) before now) (sym n) h

  fault_counted : (e : HarvestFault) → NamesFault rules e fault → HasFaultCause may_fail (faults_in before) (faults_in now) e → HasCountedOwed may_fail (owed_for made (Some fault)) before now
  fault_counted (harvest_fault.Syntax file line) n h = as_named (malformed file line) n (none_owed made (Some (malformed file line)) may_fail before now refl refl refl calls h)
  fault_counted (harvest_fault.Language file line) n h = as_named (foreign file line) n (none_owed made (Some (foreign file line)) may_fail before now refl refl refl calls h)
  fault_counted (harvest_fault.Rejected r) n h =
      as_named (rejected (clause_of r.clause) n.0) n.1 (none_owed made (Some (rejected (clause_of r.clause) n.0)) may_fail before now refl refl refl calls h)
  fault_counted (harvest_fault.Missing file) n h = as_named (missing file) n (record {
    counts = counted_for made 1 0 0 before now calls (omega (arith, ap (λ (c : Counts). c.faults) h)) (ap (λ (c : Counts). c.misses) h) (omega (arith, ap (λ (c : Counts). c.bigs) h));
    sure = λ never. refl;
  })
  fault_counted (harvest_fault.Big file) n h = as_named (too_big file) n (record {
    counts = counted_for made 0 1 0 before now calls (omega (arith, ap (λ (c : Counts). c.faults) h)) (omega (arith, ap (λ (c : Counts). c.misses) h)) (ap (λ (c : Counts). c.bigs) h);
    sure = λ never. refl;
  })
  fault_counted (harvest_fault.Fault file) n h = as_named (failed file) n (record {
    counts = counted_for made 0 0 1 before now calls (ap (λ (c : Counts). c.faults) h.0) (omega (arith, ap (λ (c : Counts). c.misses) h.0)) (omega (arith, ap (λ (c : Counts). c.bigs) h.0));
    sure = λ never. let may : IsTrue may_fail = h.1 in cc;
  })
  fault_counted (harvest_fault.Cycle file) n h = as_named (cycle file) n (none_owed made (Some (cycle file)) may_fail before now refl refl refl calls h)
  fault_counted (harvest_fault.Depth file) n h = as_named (too_deep file) n (none_owed made (Some (too_deep file)) may_fail before now refl refl refl calls h)
  fault_counted harvest_fault.Fetches n h = as_named too_many n (none_owed made (Some too_many) may_fail before now refl refl refl calls h)
  fault_counted harvest_fault.Memory n h = absurd n

-- ---- the load
module _ (limits : Limits) (file : Bytes) (old new : Kept) (o : Stepped) (a b : SinkShown) (x y : LibraryShown) where
  refused_where : (told : Option Files) (fault : Fault) (made : ℕ) (state : State) → MayFetch (load_bounds limits) file made → HasFault told (load_bounds limits) old.rules old.clauses file made fault
      → new.clauses ≡ old.clauses
      → PerformsLoad (view_of limits old).setting told file (holding state old) (fault_line old.rules.entries fault ∷ []) (owed_for made (Some fault)) (holding state new)
  refused_where None fault made state may h e = (may, h.0, inr (fault, refl, refl, holds_same old new state e))
  refused_where (Some files) fault made state may h e =
      (h.1.0, Some fault, h.1.1, refl, ap (λ n. owed_for n (Some fault)) h.1.2, holds_same old new state e)

  -- the fetches of a load that memory broke off
  first_made : (told : Option Files) (made : ℕ) (state : State) → MayFetch (load_bounds limits) file made → (made ≡ 0) ⊎ HasFetched told (load_bounds limits) old.rules old.clauses file made
      → new.clauses ≡ old.clauses
      → (made ≡ 0) ⊎ ((name : Bytes) × PerformsLoad (view_of limits old).setting told file (holding state old) (fault_line old.rules.entries (failed name) ∷ []) (owed_for made (Some (failed name))) (holding state old))
  first_made told made state may (inl none) e = inl none
  first_made told made state may (inr (name, h)) e =
      inr (
        name,
        subst (λ s. PerformsLoad (view_of limits old).setting told file (holding state old) (fault_line old.rules.entries (failed name) ∷ []) (owed_for made (Some (failed name))) s) (holds_same old new state e)
            (refused_where told (failed name) made state may h e),
      )

  pub load_refused : (e : HarvestFault) (line : program.ReplyLine) → ReadsFiles {T = Loaded} x.files (load_bounds limits) old.rules file (Err e) old.clauses new.clauses x.counts.calls y.counts.calls
      → ReportsFaultOfLoad e line → HasFaultCause x.may_fail (faults_in x.counts) (faults_in y.counts) e → new.clauses ≡ old.clauses → Writes o (reply_line line ∷ []) a b
      → LoadsOn limits file old new o (around a x) (around b y)
  load_refused e line reads t h same w state = by reads.fault where
    by : NamesWhy old.rules e (HasFault x.files (load_bounds limits) old.rules old.clauses file reads.made)
        → HasLoaded (view_of limits old).setting file (holding state old) (holding state new) o (around a x) (around b y)
    by (inl m) =
        let out : reply_line line ≡ memory_line = subst (λ f. ReportsFaultOfLoad f line) m t in
        ran_out (owed_for reads.made None) (reads.may, refl, first_made x.files reads.made state reads.may reads.first same) (holds_same old new state same) (subst (λ l. Writes o (l ∷ []) a b) out w)
        (gained_counted reads.made x.may_fail x.counts y.counts reads.counted (subst (HasFaultCause x.may_fail (faults_in x.counts) (faults_in y.counts)) m h))
    by (inr r) =
        rightly_loaded (fault_line old.rules.entries r.fault ∷ []) (owed_for reads.made (Some r.fault)) (refused_where x.files r.fault reads.made state reads.may r.holds same)
        (subst (λ l. Writes o (l ∷ []) a b) (fault_reported old.rules e r.fault line r.named t) w)
        (fault_counted old.rules reads.made r.fault x.may_fail x.counts y.counts reads.counted e r.named h)

  gained_where : (told : Option Files) (loaded : Loaded) (made : ℕ) (state : State) → Gained old.rules old.clauses loaded new.clauses
      → MayFetch (load_bounds limits) file made → GainsByLoad told (load_bounds limits) old.rules old.clauses file made new.clauses
      → PerformsLoad (view_of limits old).setting told file (holding state old) (ok_line loaded.clauses loaded.entries ∷ []) (owed_for made None) (holding state new)
  gained_where None loaded made state g may h =
      (may, (λ asks. h.0), inl (g.gained, g.accepted, ap₂ (λ m n. ok_line m n ∷ []) g.clauses g.entries, refl, ap (λ cs. record state { clauses = cs }) g.whole))
  gained_where (Some files) loaded made state g may h =
      let same : tried h.1.0 ≡ g.gained = front old.clauses (tried h.1.0) g.gained (sym h.1.3 ∙ g.whole) in (
        h.1.0,
        None,
        h.1.1,
        ap₂ (λ m n. ok_line m n ∷ []) g.clauses g.entries ∙ ap (λ cs. gained_line cs ∷ []) (sym same),
        ap (λ n. owed_for n None) h.1.2,
        ap (λ cs. record state { clauses = cs }) h.1.3,
      ) where
        front : (xs ys zs : List Clause) → xs ++ ys ≡ xs ++ zs → ys ≡ zs
        front [] ys zs e = e
        front (c ∷ cs) ys zs e = let f : cs ++ ys ≡ cs ++ zs = cc in front cs ys zs f

  pub load_gained : (loaded : Loaded) (clauses entries : ℕ) → clauses ≡ loaded.clauses → entries ≡ loaded.entries → Gained old.rules old.clauses loaded new.clauses
      → ReadsFiles {T = Loaded} x.files (load_bounds limits) old.rules file (Ok loaded) old.clauses new.clauses x.counts.calls y.counts.calls
      → faults_in y.counts ≡ faults_in x.counts → Writes o (ok_line clauses entries ∷ []) a b → LoadsOn limits file old new o (around a x) (around b y)
  load_gained loaded clauses entries many more g reads same w state =
      rightly_loaded (ok_line loaded.clauses loaded.entries ∷ []) (owed_for reads.made None) (gained_where x.files loaded reads.made state g reads.may reads.right)
      (subst (λ r. Writes o r a b) (ap₂ (λ m n. ok_line m n ∷ []) many more) w) (gained_counted reads.made x.may_fail x.counts y.counts reads.counted same)
