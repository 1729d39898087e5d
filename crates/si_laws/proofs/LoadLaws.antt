-- There is at most one reading of a file, up to a failure of the library, and what it accepts stays
-- consistent.
use Rattle.std.proofs.Common.{◌≡◌, ℕ, ◌+◌, ◌≤◌, ◌<◌, List, [], ◌∷◌, ◌++◌, length, Option, Some, None, IsSomeAnd, refl, sym, ap, ◌∙◌, subst, append_assoc, append-nil, arith}
use Rattle.std.proofs.lemmas.Option.{same_Some, none-some}
use Rattle.std.proofs.lemmas.List.{append_cancel_right}
use Rattle.si_defs.specs.Bytes.{Bytes}
use Rattle.si_defs.specs.Clauses.{Name, Clause}
use Rattle.si_defs.specs.Tokens.{AreBlanks}
use Rattle.si_defs.specs.Grammar.{Selection, Item, clause_item, include_item}
use Rattle.si_defs.specs.Texts.{BeginsWithItem, line_of}
use Rattle.si_state.specs.States.{Rules}
use Rattle.si_state.specs.Acceptance.{Refuses}
use Rattle.si_state.specs.Harvest.{Files, Bounds, Event, ask, attempt, tried, fetches, Fault, cycle, too_deep, too_many, missing, too_big, failed, foreign, malformed, rejected, IsBarred, IsWithheld, narrowed, IsSelected, ReadingPoint, IsOnLine, IsStuck, Harvests, barred, withheld, fetched, Continues, ended, stuck, passed_over, accepted, refused, expanded, broken_off, AreAccepted}
use Rattle.si_state.proofs.HarvestLaws.{tried-append}
use Rattle.si_steps.specs.Loads.{owed_for}
use Rattle.si_steps.proofs.FetchLaws.{barred_no_ask}
use Rattle.si_lex.proofs.BlankLaws.{place_unique}
use Rattle.si_parse.proofs.GrammarStops.{no_item_in_blanks}
use Rattle.si_laws.specs.OneReply.{ReportsNoFailure}
use Rattle.si_laws.proofs.ItemLaws.{one_item, item_is}
use Rattle.si_laws.proofs.RefusalLaws.{accepts_or_refuses, one_refusal}
use Rattle.si_laws.proofs.StateLaws.{AreConsistent, consistent_more}

-- ---- clauses that were accepted in turn
pub accepted_stay : (rules : Rules) (state gained : List Clause) → AreConsistent state → AreAccepted rules state gained → AreConsistent (state ++ gained)
accepted_stay rules state [] is h = subst AreConsistent (sym (append-nil state)) is
accepted_stay rules state (c ∷ cs) is h =
    subst AreConsistent (append_assoc state (c ∷ []) cs) (accepted_stay rules (state ++ c ∷ []) cs (consistent_more rules state c (state ++ c ∷ []) is h.0) h.1)

-- ---- why a file isn't opened
module _ (bounds : Bounds) (opened : List Bytes) (made : ℕ) (file : Bytes) where
  -- a file is barred for one first reason
  barred_one : (f g : Fault) → IsBarred bounds opened made file f → IsBarred bounds opened made file g → f ≡ g
  barred_one (cycle n) (cycle m) h k = ap cycle (h.0 ∙ sym k.0)
  barred_one (cycle n) (too_deep m) h k = absurd (k.1 h.1)
  barred_one (cycle n) too_many h k = absurd (k.0 h.1)
  barred_one (cycle n) (missing m) h k = absurd k
  barred_one (cycle n) (too_big m) h k = absurd k
  barred_one (cycle n) (failed m) h k = absurd k
  barred_one (cycle n) (foreign m point_line) h k = absurd k
  barred_one (cycle n) (malformed m point_line) h k = absurd k
  barred_one (cycle n) (rejected d because) h k = absurd k
  barred_one (too_deep n) (cycle m) h k = absurd (h.1 k.1)
  barred_one (too_deep n) (too_deep m) h k = ap too_deep (h.0 ∙ sym k.0)
  barred_one (too_deep n) too_many h k = absurd (omega (arith, h.2, k.1))
  barred_one (too_deep n) (missing m) h k = absurd k
  barred_one (too_deep n) (too_big m) h k = absurd k
  barred_one (too_deep n) (failed m) h k = absurd k
  barred_one (too_deep n) (foreign m point_line) h k = absurd k
  barred_one (too_deep n) (malformed m point_line) h k = absurd k
  barred_one (too_deep n) (rejected d because) h k = absurd k
  barred_one too_many (cycle m) h k = absurd (h.0 k.1)
  barred_one too_many (too_deep m) h k = absurd (omega (arith, h.1, k.2))
  barred_one too_many too_many h k = refl
  barred_one too_many (missing m) h k = absurd k
  barred_one too_many (too_big m) h k = absurd k
  barred_one too_many (failed m) h k = absurd k
  barred_one too_many (foreign m point_line) h k = absurd k
  barred_one too_many (malformed m point_line) h k = absurd k
  barred_one too_many (rejected d because) h k = absurd k
  barred_one (missing n) other h k = absurd h
  barred_one (too_big n) other h k = absurd h
  barred_one (failed n) other h k = absurd h
  barred_one (foreign n line) other h k = absurd h
  barred_one (malformed n line) other h k = absurd h
  barred_one (rejected c why) other h k = absurd h

-- the reading ends with no failure of the library
abbrev Ends : Option Fault → Type 0
Ends fault = ReportsNoFailure (owed_for 0 fault)

ends_well : Ends None
ends_well = refl

module _ (files : Files) (bounds : Bounds) (file : Bytes) where
  -- a file that is given is not withheld, but for a failure
  withheld_no_file : (f : Fault) (bytes : Bytes) → Ends (Some f) → IsWithheld files bounds file f → files file ≡ Some bytes → length bytes ≤ bounds.file → ⊥
  withheld_no_file (cycle n) bytes well h e small = h
  withheld_no_file (too_deep n) bytes well h e small = h
  withheld_no_file too_many bytes well h e small = h
  withheld_no_file (missing n) bytes well h e small = absurd (none-some _ (sym h.1 ∙ e))
  withheld_no_file (too_big n) bytes well h e small = absurd (omega (arith, subst (λ o. IsSomeAnd o (λ b. bounds.file < length b)) e h.1, small))
  withheld_no_file (failed n) bytes well h e small = absurd (omega (arith, well))
  withheld_no_file (foreign n line) bytes well h e small = h
  withheld_no_file (malformed n line) bytes well h e small = h
  withheld_no_file (rejected c why) bytes well h e small = h

  -- and it is withheld for one reason
  withheld_one : (f g : Fault) → Ends (Some f) → Ends (Some g) → IsWithheld files bounds file f → IsWithheld files bounds file g → f ≡ g
  withheld_one (cycle n) other a b h k = absurd h
  withheld_one (too_deep n) other a b h k = absurd h
  withheld_one too_many other a b h k = absurd h
  withheld_one (missing n) (cycle m) a b h k = absurd k
  withheld_one (missing n) (too_deep m) a b h k = absurd k
  withheld_one (missing n) too_many a b h k = absurd k
  withheld_one (missing n) (missing m) a b h k = ap missing (h.0 ∙ sym k.0)
  withheld_one (missing n) (too_big m) a b h k = absurd (subst (λ o. IsSomeAnd o (λ b. bounds.file < length b)) h.1 k.1)
  withheld_one (missing n) (failed m) a b h k = absurd (omega (arith, b))
  withheld_one (missing n) (foreign m point_line) a b h k = absurd k
  withheld_one (missing n) (malformed m point_line) a b h k = absurd k
  withheld_one (missing n) (rejected d because) a b h k = absurd k
  withheld_one (too_big n) (cycle m) a b h k = absurd k
  withheld_one (too_big n) (too_deep m) a b h k = absurd k
  withheld_one (too_big n) too_many a b h k = absurd k
  withheld_one (too_big n) (missing m) a b h k = absurd (subst (λ o. IsSomeAnd o (λ b. bounds.file < length b)) k.1 h.1)
  withheld_one (too_big n) (too_big m) a b h k = ap too_big (h.0 ∙ sym k.0)
  withheld_one (too_big n) (failed m) a b h k = absurd (omega (arith, b))
  withheld_one (too_big n) (foreign m point_line) a b h k = absurd k
  withheld_one (too_big n) (malformed m point_line) a b h k = absurd k
  withheld_one (too_big n) (rejected d because) a b h k = absurd k
  withheld_one (failed n) other a b h k = absurd (omega (arith, a))
  withheld_one (foreign n line) other a b h k = absurd h
  withheld_one (malformed n line) other a b h k = absurd h
  withheld_one (rejected c why) other a b h k = absurd h

-- ---- where no item stands
one_line : (point : ReadingPoint) (m n : ℕ) → IsOnLine point m → IsOnLine point n → m ≡ n
one_line point m n (before, place, is, whole, line) (front, other, is_too, whole_too, line_too) =
    let same = place_unique point.rest place other is is_too in
    let fronts = append_cancel_right before front place (sym whole ∙ whole_too ∙ ap (λ x. front ++ x) (sym same)) in
    line ∙ ap line_of fronts ∙ sym line_too

module _ (point : ReadingPoint) where
  stuck_one : (f g : Fault) → IsStuck point f → IsStuck point g → f ≡ g
  stuck_one (cycle n) other h k = absurd h
  stuck_one (too_deep n) other h k = absurd h
  stuck_one too_many other h k = absurd h
  stuck_one (missing n) other h k = absurd h
  stuck_one (too_big n) other h k = absurd h
  stuck_one (failed n) other h k = absurd h
  stuck_one (foreign n line) (cycle m) h k = absurd k
  stuck_one (foreign n line) (too_deep m) h k = absurd k
  stuck_one (foreign n line) too_many h k = absurd k
  stuck_one (foreign n line) (missing m) h k = absurd k
  stuck_one (foreign n line) (too_big m) h k = absurd k
  stuck_one (foreign n line) (failed m) h k = absurd k
  stuck_one (foreign n line) (foreign m point_line) h k = (let name = h.0 ∙ sym k.0 in let same = one_line point line point_line h.2 k.2 in λ i. foreign (name i) (same i))
  stuck_one (foreign n line) (malformed m point_line) h k = absurd (k.3 h.3)
  stuck_one (foreign n line) (rejected d because) h k = absurd k
  stuck_one (malformed n line) (cycle m) h k = absurd k
  stuck_one (malformed n line) (too_deep m) h k = absurd k
  stuck_one (malformed n line) too_many h k = absurd k
  stuck_one (malformed n line) (missing m) h k = absurd k
  stuck_one (malformed n line) (too_big m) h k = absurd k
  stuck_one (malformed n line) (failed m) h k = absurd k
  stuck_one (malformed n line) (foreign m point_line) h k = absurd (h.3 k.3)
  stuck_one (malformed n line) (malformed m point_line) h k = (let name = h.0 ∙ sym k.0 in let same = one_line point line point_line h.2 k.2 in λ i. malformed (name i) (same i))
  stuck_one (malformed n line) (rejected d because) h k = absurd k
  stuck_one (rejected c why) other h k = absurd h

  stuck_no_item : (f : Fault) (item : Item) (rest : Bytes) → IsStuck point f → BeginsWithItem point.rest item rest → ⊥
  stuck_no_item (cycle n) item rest h b = h
  stuck_no_item (too_deep n) item rest h b = h
  stuck_no_item too_many item rest h b = h
  stuck_no_item (missing n) item rest h b = h
  stuck_no_item (too_big n) item rest h b = h
  stuck_no_item (failed n) item rest h b = h
  stuck_no_item (foreign n line) item rest h b = h.1.no_item item rest b
  stuck_no_item (malformed n line) item rest h b = h.1.no_item item rest b
  stuck_no_item (rejected c why) item rest h b = h

  stuck_no_blanks : (f : Fault) → IsStuck point f → AreBlanks point.rest → ⊥
  stuck_no_blanks (cycle n) h b = h
  stuck_no_blanks (too_deep n) h b = h
  stuck_no_blanks too_many h b = h
  stuck_no_blanks (missing n) h b = h
  stuck_no_blanks (too_big n) h b = h
  stuck_no_blanks (failed n) h b = h
  stuck_no_blanks (foreign n line) h b = h.1.more b
  stuck_no_blanks (malformed n line) h b = h.1.more b
  stuck_no_blanks (rejected c why) h b = h

  -- a clause and an include don't both begin here
  no_both : (c : Clause) (file : Bytes) (s : Selection) (r q : Bytes) → BeginsWithItem point.rest (clause_item c) r → BeginsWithItem point.rest (include_item file s) q → ⊥
  no_both c file s r q a b = let same = (one_item point.rest (clause_item c) (include_item file s) r q a b).0 in cc

  same_clause : (c d : Clause) (r q : Bytes) → BeginsWithItem point.rest (clause_item c) r → BeginsWithItem point.rest (clause_item d) q → (c ≡ d) × (r ≡ q)
  same_clause c d r q a b = let same = one_item point.rest (clause_item c) (clause_item d) r q a b in (item_is c d same.0, same.1)

  same_include : (f g : Bytes) (s t : Selection) (r q : Bytes) → BeginsWithItem point.rest (include_item f s) r → BeginsWithItem point.rest (include_item g t) q → (f ≡ g) × (s ≡ t) × (r ≡ q)
  same_include f g s t r q a b = let same = one_item point.rest (include_item f s) (include_item g t) r q a b in (file_is f g s t same.0, selection_is f g s t same.0, same.1) where
    file_is : (f g : Bytes) (s t : Selection) → include_item f s ≡ include_item g t → f ≡ g
    file_is f g s t e = cc

    selection_is : (f g : Bytes) (s t : Selection) → include_item f s ≡ include_item g t → s ≡ t
    selection_is f g s t e = cc

-- ---- the reading of files
module _ (files : Files) (bounds : Bounds) (rules : Rules) where
  mutual
    -- what a reading without a fault accepted keeps the state consistent
    pub harvest_stays : (opened : List Bytes) (around : List (List Name)) (made : ℕ) (state : List Clause) (file : Bytes) (events : List Event) → AreConsistent state
        → Harvests files bounds rules opened around made state file events None → AreConsistent (state ++ tried events)
    harvest_stays opened around made state file events is (fetched _ _ _ _ _ bytes may found small own fault rest) =
        continues_stays (record { file = file; bytes = bytes; opened = file ∷ opened; around = around; rest = bytes }) (made + 1) state own is rest

    continues_stays : (point : ReadingPoint) (made : ℕ) (state : List Clause) (events : List Event) → AreConsistent state
        → Continues files bounds rules point made state events None → AreConsistent (state ++ tried events)
    continues_stays point made state events is (ended _ _ _ blanks) = subst AreConsistent (sym (append-nil state)) is
    continues_stays point made state events is (passed_over _ _ _ c after begins passed own fault rest) =
        continues_stays (record point { rest = after }) made state own is rest
    continues_stays point made state events is (accepted _ _ _ c after begins selected accepts own fault rest) =
        subst AreConsistent (append_assoc state (c ∷ []) (tried own))
        (continues_stays (record point { rest = after }) made (state ++ c ∷ []) own (consistent_more rules state c (state ++ c ∷ []) is accepts) rest)
    continues_stays point made state events is (expanded _ _ _ file selection after begins inside own whole fault harvest rest parts) =
        let behind = harvest_stays point.opened (narrowed selection point.around) made state file inside is harvest in
        let all = continues_stays (record point { rest = after }) (made + fetches inside) (state ++ tried inside) own behind rest in
        subst AreConsistent (append_assoc state (tried inside) (tried own) ∙ ap (λ cs. state ++ cs) (sym (tried-append inside own) ∙ ap tried (sym parts))) all

  mutual
    -- two readings of a file give the same events, and the same fault or none
    pub one_harvest : (opened : List Bytes) (around : List (List Name)) (made : ℕ) (state : List Clause) (file : Bytes) (events others : List Event) (f g : Option Fault) → AreConsistent state
        → Harvests files bounds rules opened around made state file events f → Harvests files bounds rules opened around made state file others g → Ends f → Ends g → (events ≡ others) × (f ≡ g)
    one_harvest opened around made state file events others f g is (barred _ _ _ _ _ why h) (barred _ _ _ _ _ because k) a b =
        (refl, ap Some (barred_one bounds opened made file why because h k))
    one_harvest opened around made state file events others f g is (barred _ _ _ _ _ why h) (withheld _ _ _ _ _ because may k) a b = absurd (barred_no_ask bounds opened made file why h may)
    one_harvest opened around made state file events others f g is (barred _ _ _ _ _ why h) (fetched _ _ _ _ _ bytes may found small own fault rest) a b =
        absurd (barred_no_ask bounds opened made file why h may)
    one_harvest opened around made state file events others f g is (withheld _ _ _ _ _ why may h) (barred _ _ _ _ _ because k) a b = absurd (barred_no_ask bounds opened made file because k may)
    one_harvest opened around made state file events others f g is (withheld _ _ _ _ _ why may h) (withheld _ _ _ _ _ because may_too k) a b =
        (refl, ap Some (withheld_one files bounds file why because a b h k))
    one_harvest opened around made state file events others f g is (withheld _ _ _ _ _ why may h) (fetched _ _ _ _ _ bytes may_too found small own fault rest) a b =
        absurd (withheld_no_file files bounds file why bytes a h found small)
    one_harvest opened around made state file events others f g is (fetched _ _ _ _ _ bytes may found small own fault rest) (barred _ _ _ _ _ because k) a b =
        absurd (barred_no_ask bounds opened made file because k may)
    one_harvest opened around made state file events others f g is (fetched _ _ _ _ _ bytes may found small own fault rest) (withheld _ _ _ _ _ because may_too k) a b =
        absurd (withheld_no_file files bounds file because bytes b k found small)
    one_harvest opened around made state file events others f g is (fetched _ _ _ _ _ bytes may found small own fault rest) (fetched _ _ _ _ _ content may_too found_too small_too more fault_too rest_too) a b =
        let same : bytes ≡ content = same_Some _ _ (sym found ∙ found_too) in
        let rests =
        one_continues (record { file = file; bytes = bytes; opened = file ∷ opened; around = around; rest = bytes }) (made + 1) state own more f g is rest
        (subst (λ x. Continues files bounds rules (record { file = file; bytes = x; opened = file ∷ opened; around = around; rest = x }) (made + 1) state more g) (sym same) rest_too) a b in
        (ap (λ es. ask file ∷ es) rests.0, rests.1)

    one_continues : (point : ReadingPoint) (made : ℕ) (state : List Clause) (events others : List Event) (f g : Option Fault) → AreConsistent state
        → Continues files bounds rules point made state events f → Continues files bounds rules point made state others g → Ends f → Ends g → (events ≡ others) × (f ≡ g)
    one_continues point made state events others f g is (ended _ _ _ blanks) (ended _ _ _ blanks_too) a b = (refl, refl)
    one_continues point made state events others f g is (ended _ _ _ blanks) (stuck _ _ _ because k) a b = absurd (stuck_no_blanks point because k blanks)
    one_continues point made state events others f g is (ended _ _ _ blanks) (passed_over _ _ _ d left starts passed_too more _ rest_too) a b = absurd (no_item_in_blanks point.rest (clause_item d) left blanks starts)
    one_continues point made state events others f g is (ended _ _ _ blanks) (accepted _ _ _ d left starts selected_too accepts_too more _ rest_too) a b = absurd (no_item_in_blanks point.rest (clause_item d) left blanks starts)
    one_continues point made state events others f g is (ended _ _ _ blanks) (refused _ _ _ d left starts selected_too cause refuses_too) a b = absurd (no_item_in_blanks point.rest (clause_item d) left blanks starts)
    one_continues point made state events others f g is (ended _ _ _ blanks) (expanded _ _ _ name choice left starts within more full _ harvest_too rest_too parts_too) a b = absurd (no_item_in_blanks point.rest (include_item name choice) left blanks starts)
    one_continues point made state events others f g is (ended _ _ _ blanks) (broken_off _ _ _ name choice left starts more because harvest_too) a b = absurd (no_item_in_blanks point.rest (include_item name choice) left blanks starts)
    one_continues point made state events others f g is (stuck _ _ _ why h) (ended _ _ _ blanks_too) a b = absurd (stuck_no_blanks point why h blanks_too)
    one_continues point made state events others f g is (stuck _ _ _ why h) (stuck _ _ _ because k) a b = (refl, ap Some (stuck_one point why because h k))
    one_continues point made state events others f g is (stuck _ _ _ why h) (passed_over _ _ _ d left starts passed_too more _ rest_too) a b = absurd (stuck_no_item point why (clause_item d) left h starts)
    one_continues point made state events others f g is (stuck _ _ _ why h) (accepted _ _ _ d left starts selected_too accepts_too more _ rest_too) a b = absurd (stuck_no_item point why (clause_item d) left h starts)
    one_continues point made state events others f g is (stuck _ _ _ why h) (refused _ _ _ d left starts selected_too cause refuses_too) a b = absurd (stuck_no_item point why (clause_item d) left h starts)
    one_continues point made state events others f g is (stuck _ _ _ why h) (expanded _ _ _ name choice left starts within more full _ harvest_too rest_too parts_too) a b = absurd (stuck_no_item point why (include_item name choice) left h starts)
    one_continues point made state events others f g is (stuck _ _ _ why h) (broken_off _ _ _ name choice left starts more because harvest_too) a b = absurd (stuck_no_item point why (include_item name choice) left h starts)
    one_continues point made state events others f g is (passed_over _ _ _ c after begins passed own _ rest) (ended _ _ _ blanks_too) a b = absurd (no_item_in_blanks point.rest (clause_item c) after blanks_too begins)
    one_continues point made state events others f g is (passed_over _ _ _ c after begins passed own _ rest) (stuck _ _ _ because k) a b = absurd (stuck_no_item point because (clause_item c) after k begins)
    one_continues point made state events others f g is (passed_over _ _ _ c after begins passed own _ rest) (passed_over _ _ _ d left starts passed_too more _ rest_too) a b =
        let same = same_clause point c d after left begins starts in
        one_continues (record point { rest = after }) made state own more f g is rest
        (subst (λ x. Continues files bounds rules (record point { rest = x }) made state more g) (sym same.1) rest_too) a b
    one_continues point made state events others f g is (passed_over _ _ _ c after begins passed own _ rest) (accepted _ _ _ d left starts selected_too accepts_too more _ rest_too) a b = absurd (passed (subst (λ (x : Clause). IsSelected point.around x.name) (sym (same_clause point c d after left begins starts).0) selected_too))
    one_continues point made state events others f g is (passed_over _ _ _ c after begins passed own _ rest) (refused _ _ _ d left starts selected_too cause refuses_too) a b = absurd (passed (subst (λ (x : Clause). IsSelected point.around x.name) (sym (same_clause point c d after left begins starts).0) selected_too))
    one_continues point made state events others f g is (passed_over _ _ _ c after begins passed own _ rest) (expanded _ _ _ name choice left starts within more full _ harvest_too rest_too parts_too) a b = absurd (no_both point c name choice after left begins starts)
    one_continues point made state events others f g is (passed_over _ _ _ c after begins passed own _ rest) (broken_off _ _ _ name choice left starts more because harvest_too) a b = absurd (no_both point c name choice after left begins starts)
    one_continues point made state events others f g is (accepted _ _ _ c after begins selected accepts own _ rest) (ended _ _ _ blanks_too) a b = absurd (no_item_in_blanks point.rest (clause_item c) after blanks_too begins)
    one_continues point made state events others f g is (accepted _ _ _ c after begins selected accepts own _ rest) (stuck _ _ _ because k) a b = absurd (stuck_no_item point because (clause_item c) after k begins)
    one_continues point made state events others f g is (accepted _ _ _ c after begins selected accepts own _ rest) (passed_over _ _ _ d left starts passed_too more _ rest_too) a b = absurd (passed_too (subst (λ (x : Clause). IsSelected point.around x.name) (same_clause point c d after left begins starts).0 selected))
    one_continues point made state events others f g is (accepted _ _ _ c after begins selected accepts own _ rest) (accepted _ _ _ d left starts selected_too accepts_too more _ rest_too) a b =
        let same = same_clause point c d after left begins starts in
        let rests =
        one_continues (record point { rest = after }) made (state ++ c ∷ []) own more f g (consistent_more rules state c (state ++ c ∷ []) is accepts) rest
        (subst (λ (x : Clause × Bytes). Continues files bounds rules (record point { rest = x.1 }) made (state ++ x.0 ∷ []) more g) (λ i. (sym same.0 i, sym same.1 i)) rest_too) a b in
        ((λ i. attempt (same.0 i) ∷ rests.0 i), rests.1)
    one_continues point made state events others f g is (accepted _ _ _ c after begins selected accepts own _ rest) (refused _ _ _ d left starts selected_too cause refuses_too) a b =
        absurd (accepts_or_refuses rules state c (state ++ c ∷ []) cause accepts
        (subst (λ x. Refuses rules state x cause) (sym (same_clause point c d after left begins starts).0) refuses_too))
    one_continues point made state events others f g is (accepted _ _ _ c after begins selected accepts own _ rest) (expanded _ _ _ name choice left starts within more full _ harvest_too rest_too parts_too) a b = absurd (no_both point c name choice after left begins starts)
    one_continues point made state events others f g is (accepted _ _ _ c after begins selected accepts own _ rest) (broken_off _ _ _ name choice left starts more because harvest_too) a b = absurd (no_both point c name choice after left begins starts)
    one_continues point made state events others f g is (refused _ _ _ c after begins selected reason refuses) (ended _ _ _ blanks_too) a b = absurd (no_item_in_blanks point.rest (clause_item c) after blanks_too begins)
    one_continues point made state events others f g is (refused _ _ _ c after begins selected reason refuses) (stuck _ _ _ because k) a b = absurd (stuck_no_item point because (clause_item c) after k begins)
    one_continues point made state events others f g is (refused _ _ _ c after begins selected reason refuses) (passed_over _ _ _ d left starts passed_too more _ rest_too) a b = absurd (passed_too (subst (λ (x : Clause). IsSelected point.around x.name) (same_clause point c d after left begins starts).0 selected))
    one_continues point made state events others f g is (refused _ _ _ c after begins selected reason refuses) (accepted _ _ _ d left starts selected_too accepts_too more _ rest_too) a b =
        absurd (accepts_or_refuses rules state d (state ++ d ∷ []) reason accepts_too
        (subst (λ x. Refuses rules state x reason) (same_clause point c d after left begins starts).0 refuses))
    one_continues point made state events others f g is (refused _ _ _ c after begins selected reason refuses) (refused _ _ _ d left starts selected_too cause refuses_too) a b =
        let same = same_clause point c d after left begins starts in
        let reasons = one_refusal rules state c is reason cause refuses (subst (λ x. Refuses rules state x cause) (sym same.0) refuses_too) in
        ((λ i. attempt (same.0 i) ∷ []), (λ i. Some (rejected (same.0 i) (reasons i))))
    one_continues point made state events others f g is (refused _ _ _ c after begins selected reason refuses) (expanded _ _ _ name choice left starts within more full _ harvest_too rest_too parts_too) a b = absurd (no_both point c name choice after left begins starts)
    one_continues point made state events others f g is (refused _ _ _ c after begins selected reason refuses) (broken_off _ _ _ name choice left starts more because harvest_too) a b = absurd (no_both point c name choice after left begins starts)
    one_continues point made state events others f g is (expanded _ _ _ file selection after begins inside own whole _ harvest rest parts) (ended _ _ _ blanks_too) a b = absurd (no_item_in_blanks point.rest (include_item file selection) after blanks_too begins)
    one_continues point made state events others f g is (expanded _ _ _ file selection after begins inside own whole _ harvest rest parts) (stuck _ _ _ because k) a b = absurd (stuck_no_item point because (include_item file selection) after k begins)
    one_continues point made state events others f g is (expanded _ _ _ file selection after begins inside own whole _ harvest rest parts) (passed_over _ _ _ d left starts passed_too more _ rest_too) a b = absurd (no_both point d file selection left after starts begins)
    one_continues point made state events others f g is (expanded _ _ _ file selection after begins inside own whole _ harvest rest parts) (accepted _ _ _ d left starts selected_too accepts_too more _ rest_too) a b = absurd (no_both point d file selection left after starts begins)
    one_continues point made state events others f g is (expanded _ _ _ file selection after begins inside own whole _ harvest rest parts) (refused _ _ _ d left starts selected_too cause refuses_too) a b = absurd (no_both point d file selection left after starts begins)
    one_continues point made state events others f g is (expanded _ _ _ file selection after begins inside own whole _ harvest rest parts) (expanded _ _ _ name choice left starts within more full _ harvest_too rest_too parts_too) a b =
        let same = same_include point file name selection choice after left begins starts in
        let inner =
        one_harvest point.opened (narrowed selection point.around) made state file inside within None None is harvest
        (subst (λ (x : Bytes × Selection). Harvests files bounds rules point.opened (narrowed x.1 point.around) made state x.0 within None) (λ i. (sym same.0 i, sym same.1 i)) harvest_too) ends_well ends_well in
        let rests =
        one_continues (record point { rest = after }) (made + fetches inside) (state ++ tried inside) own more f g
        (harvest_stays point.opened (narrowed selection point.around) made state file inside is harvest) rest
        (subst (λ (x : Bytes × List Event). Continues files bounds rules (record point { rest = x.0 }) (made + fetches x.1) (state ++ tried x.1) more g) (λ i. (sym same.2 i, sym inner.0 i)) rest_too) a b in
        (parts ∙ (λ i. inner.0 i ++ rests.0 i) ∙ sym parts_too, rests.1)
    one_continues point made state events others f g is (expanded _ _ _ file selection after begins inside own whole _ harvest rest parts) (broken_off _ _ _ name choice left starts more because harvest_too) a b =
        let same = same_include point file name selection choice after left begins starts in
        let inner =
        one_harvest point.opened (narrowed selection point.around) made state file inside more None (Some because) is harvest
        (subst (λ (x : Bytes × Selection). Harvests files bounds rules point.opened (narrowed x.1 point.around) made state x.0 more (Some because)) (λ i. (sym same.0 i, sym same.1 i)) harvest_too) ends_well b in
        absurd (none-some _ inner.1)
    one_continues point made state events others f g is (broken_off _ _ _ file selection after begins own why harvest) (ended _ _ _ blanks_too) a b = absurd (no_item_in_blanks point.rest (include_item file selection) after blanks_too begins)
    one_continues point made state events others f g is (broken_off _ _ _ file selection after begins own why harvest) (stuck _ _ _ because k) a b = absurd (stuck_no_item point because (include_item file selection) after k begins)
    one_continues point made state events others f g is (broken_off _ _ _ file selection after begins own why harvest) (passed_over _ _ _ d left starts passed_too more _ rest_too) a b = absurd (no_both point d file selection left after starts begins)
    one_continues point made state events others f g is (broken_off _ _ _ file selection after begins own why harvest) (accepted _ _ _ d left starts selected_too accepts_too more _ rest_too) a b = absurd (no_both point d file selection left after starts begins)
    one_continues point made state events others f g is (broken_off _ _ _ file selection after begins own why harvest) (refused _ _ _ d left starts selected_too cause refuses_too) a b = absurd (no_both point d file selection left after starts begins)
    one_continues point made state events others f g is (broken_off _ _ _ file selection after begins own why harvest) (expanded _ _ _ name choice left starts within more full _ harvest_too rest_too parts_too) a b =
        let same = same_include point file name selection choice after left begins starts in
        let inner =
        one_harvest point.opened (narrowed selection point.around) made state file own within (Some why) None is harvest
        (subst (λ (x : Bytes × Selection). Harvests files bounds rules point.opened (narrowed x.1 point.around) made state x.0 within None) (λ i. (sym same.0 i, sym same.1 i)) harvest_too) a ends_well in
        absurd (none-some _ (sym inner.1))
    one_continues point made state events others f g is (broken_off _ _ _ file selection after begins own why harvest) (broken_off _ _ _ name choice left starts more because harvest_too) a b =
        let same = same_include point file name selection choice after left begins starts in
        let inner =
        one_harvest point.opened (narrowed selection point.around) made state file own more (Some why) (Some because) is harvest
        (subst (λ (x : Bytes × Selection). Harvests files bounds rules point.opened (narrowed x.1 point.around) made state x.0 more (Some because)) (λ i. (sym same.0 i, sym same.1 i)) harvest_too) a b in
        inner
