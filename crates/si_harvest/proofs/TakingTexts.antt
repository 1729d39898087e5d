-- Texts of clauses, clause by clause.
use Rattle.std.proofs.Common.{◌≡◌, ℕ, ◌≤◌, ◌<◌, ◌-◌, List, [], ◌∷◌, ◌++◌, drop, length, length-drop, refl, sym, ap, ◌∙◌, subst, append_assoc, append-nil, arith, Option, Some, None}
use Rattle.std.specs.Prelude.{IfSome, IfNone}
use Rattle.std.proofs.lemmas.List.{append_cancel_left}
use Rattle.si_defs.specs.Bytes.{Bytes}
use Rattle.si_defs.specs.Clauses.{Clause}
use Rattle.si_defs.specs.Tokens.{AreBlanks}
use Rattle.si_defs.specs.Grammar.{Selection, clause_item, include_item}
use Rattle.si_state.specs.States.{Rules}
use Rattle.si_state.specs.Acceptance.{Refuses}
use Rattle.si_state.specs.Harvest.{Fault, cycle, too_deep, too_many, missing, too_big, failed, foreign, malformed, rejected, AreClauses, IsRejected}
use Rattle.si_parse.specs.Reading.{IsItemRead, IsFault}
use Rattle.si_parse.proofs.GrammarStops.{no_item_in_blanks}
use Rattle.si_harvest.specs.declared.faults.Loaded.{Loaded}
use Rattle.si_harvest.specs.declared.faults.HarvestFault.{HarvestFault}
use Rattle.si_harvest.specs.Faults.{NamesWhy}
use Rattle.si_harvest.specs.Gains.{CountsNoMore, Gained}
use Rattle.si_harvest.specs.Texts.{GainsText, RefusesFirst, RefusesText, RefusesNext, TakesNext}
use Rattle.si_harvest.proofs.Errors.{why_weaker}
use Rattle.si_harvest.proofs.Shorter.{item_shorter}

-- ---- what stands in front of a text of clauses
-- the clauses that are left after the first
pub record Behind (clauses : List Clause) (bytes : Bytes) (end : ℕ) (first : Clause) : Type 0 where
  pub others : List Clause
  pub split : clauses ≡ first ∷ others
  pub left : AreClauses others (drop end bytes)

pub behind : (clauses : List Clause) (bytes : Bytes) (at end : ℕ) (c : Clause) → AreClauses clauses (drop at bytes) → IsItemRead bytes at (clause_item c) end → Behind clauses bytes end c
behind [] bytes at end c h r = absurd (no_item_in_blanks (drop at bytes) (clause_item c) (drop end bytes) h r.begins)
behind (d ∷ ds) bytes at end c h r =
    let e = r.only (clause_item d) h.0 h.1 in
    let same : d ≡ c = let f : clause_item d ≡ clause_item c = e.0 in cc in
    record { others = ds; split = ap (λ x. x ∷ ds) same; left = subst (AreClauses ds) e.1 h.2 }

-- no include and no fault
pub no_include : (clauses : List Clause) (bytes : Bytes) (at end : ℕ) (file : Bytes) (selection : Selection) → AreClauses clauses (drop at bytes)
    → IsItemRead bytes at (include_item file selection) end → ⊥
no_include [] bytes at end file selection h r = no_item_in_blanks (drop at bytes) (include_item file selection) (drop end bytes) h r.begins
no_include (d ∷ ds) bytes at end file selection h r = let f : clause_item d ≡ include_item file selection = (r.only (clause_item d) h.0 h.1).0 in cc

pub no_fault : (clauses : List Clause) (bytes : Bytes) (at place : ℕ) → AreClauses clauses (drop at bytes) → IsFault bytes at place → ⊥
no_fault [] bytes at place h f = f.faulty.more h
no_fault (d ∷ ds) bytes at place h f = f.faulty.no_item (clause_item d) h.0 h.1

-- ---- a text between two of its clauses
-- the clauses of the text are those that were taken, and those that are left
pub record IsTaking (rules : Rules) (start : List Clause) (bytes : Bytes) (at : ℕ) (loaded : Loaded) (state : List Clause) : Type 0 where
  pub within : at ≤ length bytes
  pub counted : CountsNoMore loaded state
  pub gained : Gained rules start loaded state
  pub left : (clauses : List Clause) → AreClauses clauses bytes
      → (others : List Clause) × AreClauses others (drop at bytes) × (start ++ clauses ≡ state ++ others)

pub taking_begins : (rules : Rules) (start : List Clause) (bytes : Bytes) (loaded : Loaded) → CountsNoMore loaded start → Gained rules start loaded start
    → IsTaking rules start bytes 0 loaded start
taking_begins rules start bytes loaded c g = record {
  within = omega arith;
  counted = c;
  gained = g;
  left = λ clauses h. (clauses, h, refl);
}

-- one more is taken
pub taking_more : (rules : Rules) (start : List Clause) (bytes : Bytes) (at end : ℕ) (loaded loaded' : Loaded) (state state' : List Clause) → TakesNext rules bytes at end state state'
    → CountsNoMore loaded' state' → (Gained rules start loaded state → Gained rules start loaded' state') → IsTaking rules start bytes at loaded state
    → IsTaking rules start bytes end loaded' state'
taking_more rules start bytes at end loaded loaded' state state' t c g h = record {
  within = t.read.within;
  counted = c;
  gained = g h.gained;
  left = λ clauses a.
      let l = h.left clauses a in
      let b = behind l.0 bytes at end t.clause l.1 t.read in (
        b.others,
        b.left,
        l.2 ∙ ap (λ x. state ++ x) b.split ∙ sym (append_assoc state (t.clause ∷ []) b.others) ∙ ap (λ x. x ++ b.others) (sym t.accepted.added),
      );
}

pub taking_falls : (rules : Rules) (bytes : Bytes) (at end : ℕ) (state state' : List Clause) → TakesNext rules bytes at end state state' → length bytes - end < length bytes - at
taking_falls rules bytes at end state state' t =
    omega (arith, item_shorter (drop at bytes) (clause_item t.clause) (drop end bytes) t.read.begins, length-drop at bytes, length-drop end bytes)

-- all are taken
pub taking_ends : (rules : Rules) (start : List Clause) (bytes : Bytes) (at : ℕ) (loaded loaded' : Loaded) (state state' : List Clause) → AreBlanks (drop at bytes) → state' ≡ state
    → (Gained rules start loaded state → Gained rules start loaded' state') → IsTaking rules start bytes at loaded state → GainsText rules start bytes loaded' state'
taking_ends rules start bytes at loaded loaded' state state' b same g h = (all, exactly) where
  all : Gained rules start loaded' state'
  all = g h.gained

  none : (others : List Clause) → AreClauses others (drop at bytes) → others ≡ []
  none [] k = refl
  none (d ∷ ds) k = absurd (no_item_in_blanks (drop at bytes) (clause_item d) k.0 b k.1)

  exactly : (clauses : List Clause) → AreClauses clauses bytes → clauses ≡ all.gained
  exactly clauses a =
      let l = h.left clauses a in
      append_cancel_left start clauses all.gained (l.2 ∙ ap (λ x. state ++ x) (none l.0 l.1) ∙ append-nil state ∙ sym same ∙ all.whole)

-- the next is refused
pub taking_refused : (rules : Rules) (start : List Clause) (bytes : Bytes) (at : ℕ) (loaded : Loaded) (state : List Clause) (e : HarvestFault)
    → NamesWhy rules e (RefusesNext rules bytes at state) → IsTaking rules start bytes at loaded state → NamesWhy rules e (RefusesText rules start bytes)
taking_refused rules start bytes at loaded state e x h = why_weaker rules e (RefusesNext rules bytes at state) (RefusesText rules start bytes) by x where
  first : (fault : Fault) (clause : Clause) (end : ℕ) (clauses : List Clause) → AreClauses clauses bytes → IsItemRead bytes at (clause_item clause) end
      → IsRejected rules state clause fault → RefusesFirst rules start clauses fault
  first (rejected c refusal) clause end clauses a r (same, refuses) =
      let l = h.left clauses a in
      let b = behind l.0 bytes at end clause l.1 r in
      record {
        before = h.gained.gained;
        after = b.others;
        splits = append_cancel_left start clauses (h.gained.gained ++ c ∷ b.others)
            (l.2 ∙ ap (λ x. state ++ x) b.split ∙ ap (λ x. x ++ clause ∷ b.others) h.gained.whole
            ∙ append_assoc start h.gained.gained (clause ∷ b.others) ∙ ap (λ x. start ++ (h.gained.gained ++ x ∷ b.others)) (sym same));
        earlier = h.gained.accepted;
        refused = subst (λ d. Refuses rules (start ++ h.gained.gained) d refusal) (sym same) (subst (λ s. Refuses rules s clause refusal) h.gained.whole refuses);
      }
  first (cycle x) clause end clauses a r k = absurd k
  first (too_deep x) clause end clauses a r k = absurd k
  first too_many clause end clauses a r k = absurd k
  first (missing x) clause end clauses a r k = absurd k
  first (too_big x) clause end clauses a r k = absurd k
  first (failed x) clause end clauses a r k = absurd k
  first (foreign x n) clause end clauses a r k = absurd k
  first (malformed x n) clause end clauses a r k = absurd k

  by : (fault : Fault) → RefusesNext rules bytes at state fault → RefusesText rules start bytes fault
  by fault k clauses a = first fault k.0 k.1 clauses a k.2 k.3

-- ---- what one call answers
pub some_next : (rules rules' : Rules) (bytes : Bytes) (at : ℕ) (r : Option ℕ) (end : ℕ) (state state' : List Clause) → rules ≡ rules' → r ≡ Some end
    → IfSome r (λ n. TakesNext rules bytes at n state state') → TakesNext rules' bytes at end state state'
some_next rules rules' bytes at r end state state' l e h =
    subst (λ x. TakesNext x bytes at end state state') l (subst (λ o. IfSome o (λ n. TakesNext rules bytes at n state state')) e h)

pub none_next : (r : Option ℕ) (P : Type 0) → r ≡ None → IfNone r P → P
none_next r P e h = subst (λ o. IfNone o P) e h

pub gained_same : (rules rules' : Rules) (start : List Clause) (loaded loaded' : Loaded) (state state' : List Clause) → rules ≡ rules'
    → (Gained rules start loaded state → Gained rules start loaded' state') → Gained rules' start loaded state → Gained rules' start loaded' state'
gained_same rules rules' start loaded loaded' state state' l f =
    subst (λ n. Gained n start loaded state → Gained n start loaded' state') l f
