-- Each file has a reading that reports no failure of the library: files are open at most as deep as
-- may be, and after each item fewer bytes are left.
use Rattle.std.proofs.Common.{◌≡◌, ℕ, zero, suc, ◌+◌, ◌≤◌, ◌<◌, List, [], ◌∷◌, ◌++◌, length, Option, None, Some, codes, inl, inr, refl, sym, ◌∙◌, ap, subst, arith, append_assoc, length-append}
use Rattle.std.proofs.lemmas.Bool.{cases_lt}
use Rattle.std.specs.List.{concat}
use Rattle.si_defs.specs.Bytes.{Bytes}
use Rattle.si_defs.specs.Clauses.{Name, Clause}
use Rattle.si_defs.specs.Substitutions.{IsAmong}
use Rattle.si_defs.specs.Tokens.{Token, lower, IsBlank, Skips, AreBlanks, Spells, NextToken, Begins}
use Rattle.si_defs.specs.declared.TokenKind.{TokenKind}
use Rattle.si_defs.specs.Grammar.{Selection, Item, clause_item, include_item}
use Rattle.si_defs.specs.Texts.{BeginsWithItem, IsFaulty, IsForeign, line_of}
use Rattle.si_defs.proofs.TokenLaws.{skips_nothing}
use Rattle.si_lex.specs.Blanks.{NoBlankAt}
use Rattle.si_lex.proofs.BlankLaws.{skips_first, blank_some, place_where}
use Rattle.si_lex.proofs.SpellingLaws.{spelling_some}
use Rattle.si_state.specs.States.{State, Rules}
use Rattle.si_state.specs.Harvest.{Files, Bounds, Event, ask, attempt, tried, fetches, Fault, cycle, too_deep, too_many, missing, too_big, foreign, malformed, rejected, MayAsk, narrowed, IsSelected, ReadingPoint, IsOnLine, Harvests, barred, withheld, fetched, Continues, ended, stuck, passed_over, accepted, refused, expanded, broken_off, clauses_behind}
use Rattle.si_steps.specs.Settings.{Setting}
use Rattle.si_steps.specs.Loads.{nothing, owed_for, owed_by, MayFetch, gained_line, load_line, load_bounds, PerformsLoad}
use Rattle.si_laws.specs.OneReply.{ReportsNoFailure}
use Rattle.si_exist.specs.OneList.{IsNotAbsent}
use Rattle.si_exist.specs.RightReplies.{HasOneWithoutFailure}
use Rattle.si_exist.proofs.NotAbsent.{there, and_then, either_way}
use Rattle.si_exist.proofs.TriedClauses.{accepted_or_refused}

-- ---- what reports no failure
pub owes_nothing : ReportsNoFailure nothing
owes_nothing = refl

-- ---- places
-- rest stands after some bytes
record IsBehind (bytes rest : Bytes) : Type 0 where
  front : Bytes
  whole : bytes ≡ front ++ rest
  some : 0 < length front

some_spelling : (kind : TokenKind) (text spelling : Bytes) → Spells kind text spelling → 0 < length spelling
some_spelling kind text [] h = absurd (spelling_some kind text h)
some_spelling kind text (c ∷ cs) h = omega arith

behind_token : (bytes : Bytes) (t : Token) (rest : Bytes) → NextToken bytes t rest → IsBehind bytes rest
behind_token bytes t rest n = record {
  front = concat n.skips.blanks ++ n.stands.spelling;
  whole = n.skips.whole ∙ ap (λ l. concat n.skips.blanks ++ l) n.stands.front ∙ sym (append_assoc (concat n.skips.blanks) n.stands.spelling rest);
  some =
      let own = some_spelling t.kind t.text n.stands.spelling n.stands.spelled in
      omega (arith, own, length-append (concat n.skips.blanks) n.stands.spelling);
}

behind_tokens : (bytes : Bytes) (t : Token) (ts : List Token) (rest : Bytes) → Begins bytes (t ∷ ts) rest → IsBehind bytes rest
behind_tokens bytes t [] rest (after, next, e) = subst (IsBehind bytes) e (behind_token bytes t after next)
behind_tokens bytes t (u ∷ us) rest (after, next, more) =
    let one = behind_token bytes t after next in
    let others = behind_tokens after u us rest more in
    record {
      front = one.front ++ others.front;
      whole = one.whole ∙ ap (λ l. one.front ++ l) others.whole ∙ sym (append_assoc one.front others.front rest);
      some = let own = one.some in omega (arith, own, length-append one.front others.front);
    }

behind_some : (bytes : Bytes) (t : Token) (ts us : List Token) (rest : Bytes) → us ≡ t ∷ ts → Begins bytes us rest → IsBehind bytes rest
behind_some bytes t ts us rest e b = behind_tokens bytes t ts rest (subst (λ vs. Begins bytes vs rest) e b)

behind_item : (bytes : Bytes) (item : Item) (rest : Bytes) → BeginsWithItem bytes item rest → IsBehind bytes rest
behind_item bytes (clause_item c) rest b = let s = b.spelled in behind_some bytes (lower (codes "cnf")) _ b.tokens rest s.6 b.begins
behind_item bytes (include_item file selection) rest b = let s = b.spelled in behind_some bytes (lower (codes "include")) _ b.tokens rest s.2 b.begins

behind_blanks : (n : ℕ) (bytes : Bytes) → length bytes < n → IsNotAbsent ((place : Bytes) × Skips bytes place × NoBlankAt place)
behind_blanks zero bytes short = absurd (omega (arith, short))
behind_blanks (suc n) bytes short =
    either_way ((blank : Bytes) × (rest : Bytes) × IsBlank blank × (bytes ≡ blank ++ rest))
    (λ here.
    elim here [
      | inr gone ↦ there (bytes, skips_nothing bytes, λ blank rest b e. gone (blank, rest, b, e))
      | inl b ↦
          and_then
          (behind_blanks n b.1 (let own = blank_some b.0 b.2 in omega (arith, short, own, ap length b.3, length-append b.0 b.1)))
          (λ p. there (p.0, skips_first bytes b.0 b.1 p.0 b.2 b.3 p.1, p.2))
    ])

-- ---- the reading of files
module _ (files : Files) (bounds : Bounds) (rules : Rules) where
  abbrev IsRead : List Bytes → List (List Name) → ℕ → List Clause → Bytes → Type 0
  IsRead opened around made clauses file =
      IsNotAbsent ((events : List Event) × (fault : Option Fault) × Harvests files bounds rules opened around made clauses file events fault × ReportsNoFailure (owed_for 0 fault))

  abbrev IsReadOn : ReadingPoint → ℕ → List Clause → Type 0
  IsReadOn point made clauses =
      IsNotAbsent ((events : List Event) × (fault : Option Fault) × Continues files bounds rules point made clauses events fault × ReportsNoFailure (owed_for 0 fault))

  -- files are read after so many open ones that no more than d may be opened
  abbrev AreReadBehind : ℕ → Type 0
  AreReadBehind d = (opened : List Bytes) (around : List (List Name)) (made : ℕ) (clauses : List Clause) (file : Bytes) → bounds.depth ≤ length opened + d → IsRead opened around made clauses file

  faulty_here : (point : ReadingPoint) (made : ℕ) (clauses : List Clause) (read : Bytes) → point.bytes ≡ read ++ point.rest → IsFaulty point.rest → IsReadOn point made clauses
  faulty_here point made clauses read whole faulty =
      and_then (behind_blanks (suc (length point.rest)) point.rest (omega arith))
      (λ p.
      let before = read ++ concat p.1.blanks in
      let on_line : IsOnLine point (line_of before) =
      (before, p.0, place_where point.rest p.0 p.1 p.2, whole ∙ ap (λ l. read ++ l) p.1.whole ∙ sym (append_assoc read (concat p.1.blanks) p.0), refl) in
      either_way (IsForeign point.rest)
      (λ other.
      elim other [
        | inl f ↦
            there ([], Some (foreign point.file (line_of before)), stuck point made clauses (foreign point.file (line_of before)) (refl, faulty, on_line, f), owes_nothing)
        | inr own ↦
            there ([], Some (malformed point.file (line_of before)), stuck point made clauses (malformed point.file (line_of before)) (refl, faulty, on_line, own), owes_nothing)
      ]))

  module _ (d : ℕ) (inner : AreReadBehind d) where
    -- so are files from here on where less is left
    abbrev AreReadOnBelow : ℕ → Type 0
    AreReadOnBelow n = (point : ReadingPoint) (made : ℕ) (clauses : List Clause) → length point.rest < n → bounds.depth ≤ length point.opened + d → (read : Bytes) → point.bytes ≡ read ++ point.rest → IsReadOn point made clauses

    module _ (n : ℕ) (below : AreReadOnBelow n) (point : ReadingPoint) (made : ℕ) (clauses : List Clause) (short : length point.rest < suc n) (deep : bounds.depth ≤ length point.opened + d) (read : Bytes) (whole : point.bytes ≡ read ++ point.rest) where
      go_on : (item : Item) (after : Bytes) → BeginsWithItem point.rest item after → (more : ℕ) (kept : List Clause) → IsReadOn (record point { rest = after }) more kept
      go_on item after begins more kept =
          let b = behind_item point.rest item after begins in
          below (record point { rest = after }) more kept
          (let some = b.some in omega (arith, short, some, ap length b.whole, length-append b.front after))
          deep
          (read ++ b.front)
          (whole ∙ ap (λ l. read ++ l) b.whole ∙ sym (append_assoc read b.front after))

      clause_here : (c : Clause) (after : Bytes) → BeginsWithItem point.rest (clause_item c) after → IsReadOn point made clauses
      clause_here c after begins =
          either_way (IsSelected point.around c.name)
          (λ chosen.
          elim chosen [
            | inr out ↦
                and_then (go_on (clause_item c) after begins made clauses)
                (λ r. there (r.0, r.1, passed_over point made clauses c after begins out r.0 r.1 r.2, r.3))
            | inl selected ↦
                and_then (accepted_or_refused rules clauses c)
                (λ here.
                elim here [
                  | inl a ↦
                      and_then (go_on (clause_item c) after begins made (clauses ++ c ∷ []))
                      (λ r. there (attempt c ∷ r.0, r.1, accepted point made clauses c after begins selected a r.0 r.1 r.2, r.3))
                  | inr w ↦
                      there (attempt c ∷ [], Some (rejected c w.0), refused point made clauses c after begins selected w.0 w.1, owes_nothing)
                ])
          ])

      include_here : (file : Bytes) (selection : Selection) (after : Bytes) → BeginsWithItem point.rest (include_item file selection) after → IsReadOn point made clauses
      include_here file selection after begins =
          and_then (inner point.opened (narrowed selection point.around) made clauses file deep) (λ h. by h.0 h.1 h.2 h.3)
        where
          by : (inside : List Event) (fault : Option Fault) → Harvests files bounds rules point.opened (narrowed selection point.around) made clauses file inside fault → ReportsNoFailure (owed_for 0 fault) → IsReadOn point made clauses
          by inside None h quiet =
              and_then (go_on (include_item file selection) after begins (made + fetches inside) (clauses ++ tried inside))
              (λ r. there (inside ++ r.0, r.1, expanded point made clauses file selection after begins inside r.0 (inside ++ r.0) r.1 h r.2 refl, r.3))
          by inside (Some fault) h quiet = there (inside, Some fault, broken_off point made clauses file selection after begins inside fault h, quiet)

      item_here : (item : Item) (after : Bytes) → BeginsWithItem point.rest item after → IsReadOn point made clauses
      item_here (clause_item c) after begins = clause_here c after begins
      item_here (include_item file selection) after begins = include_here file selection after begins

      read_here : IsReadOn point made clauses
      read_here =
          either_way (AreBlanks point.rest)
          (λ at_end.
          elim at_end [
            | inl blanks ↦ there ([], None, ended point made clauses blanks, owes_nothing)
            | inr more ↦
                either_way ((item : Item) × (after : Bytes) × BeginsWithItem point.rest item after)
                (λ here.
                elim here [
                  | inl i ↦ item_here i.0 i.1 i.2
                  | inr gone ↦ faulty_here point made clauses read whole (record { more = more; no_item = λ item rest b. gone (item, rest, b) })
                ])
          ])

    read_on_below : (n : ℕ) → AreReadOnBelow n
    read_on_below zero point made clauses short deep read whole = absurd (omega (arith, short))
    read_on_below (suc n) point made clauses short deep read whole = read_here n (read_on_below n) point made clauses short deep read whole

  -- a file that may be asked for
  asked : (d : ℕ) → AreReadBehind d → (opened : List Bytes) (around : List (List Name)) (made : ℕ) (clauses : List Clause) (file : Bytes) → bounds.depth ≤ length opened + suc d → MayAsk bounds opened made file → IsRead opened around made clauses file
  asked d inner opened around made clauses file deep may = by (files file) refl
    where
      by : (o : Option Bytes) → files file ≡ o → IsRead opened around made clauses file
      by None e = there (ask file ∷ [], Some (missing file), withheld opened around made clauses file (missing file) may (refl, e), refl)
      by (Some bytes) e =
          elim (cases_lt bounds.file (length bytes)) [
            | inl long ↦
                there (
                  ask file ∷ [],
                  Some (too_big file),
                  withheld opened around made clauses file (too_big file) may (refl, rw e long),
                  refl,
                )
            | inr fits ↦
                (let point : ReadingPoint = record { file = file; bytes = bytes; opened = file ∷ opened; around = around; rest = bytes } in
                and_then (read_on_below d inner (suc (length bytes)) point (made + 1) clauses (omega arith) (omega (arith, deep)) [] refl)
                (λ r. there (ask file ∷ r.0, r.1, fetched opened around made clauses file bytes may e fits r.0 r.1 r.2, r.3)))
          ]

  -- a file is barred, or may be asked for
  barred_or_asked : (opened : List Bytes) (around : List (List Name)) (made : ℕ) (clauses : List Clause) (file : Bytes) → (length opened < bounds.depth → MayAsk bounds opened made file → IsRead opened around made clauses file) → IsRead opened around made clauses file
  barred_or_asked opened around made clauses file go =
      either_way (IsAmong opened file)
      (λ again.
      elim again [
        | inl a ↦ there (ask file ∷ [], Some (cycle file), barred opened around made clauses file (cycle file) (refl, a), owes_nothing)
        | inr fresh ↦
            elim (cases_lt (length opened) bounds.depth) [
              | inr deep ↦ there (ask file ∷ [], Some (too_deep file), barred opened around made clauses file (too_deep file) (refl, fresh, deep), owes_nothing)
              | inl shallow ↦
                  elim (cases_lt made bounds.fetches) [
                    | inr enough ↦ there (ask file ∷ [], Some too_many, barred opened around made clauses file too_many (fresh, shallow, enough), owes_nothing)
                    | inl few ↦ go shallow (record { fresh = fresh; shallow = shallow; few = few })
                  ]
            ]
      ])

  read_behind : (d : ℕ) → AreReadBehind d
  read_behind zero opened around made clauses file deep =
      barred_or_asked opened around made clauses file (λ shallow may. absurd (omega (arith, deep, shallow)))
  read_behind (suc d) opened around made clauses file deep =
      barred_or_asked opened around made clauses file (λ shallow may. asked d (read_behind d) opened around made clauses file deep may)

-- ---- loads
pub load_of : (setting : Setting) (told : Option Files) (file : Bytes) (state : State) → HasOneWithoutFailure (PerformsLoad setting told file state)
load_of setting None file state =
    elim (cases_lt 0 bounds.fetches) [
      | inl few ↦
          elim (cases_lt 0 bounds.depth) [
            | inl shallow ↦ gains 1 (record { most = omega (arith, few); none = λ never. absurd (never (record { fresh = λ h. h; shallow = shallow; few = few })) }) (λ may. omega arith)
            | inr deep ↦ gains 0 (record { most = omega arith; none = λ never. refl }) (λ may. absurd (omega (arith, may.shallow, deep)))
          ]
      | inr many ↦ gains 0 (record { most = omega arith; none = λ never. refl }) (λ may. absurd (omega (arith, may.few, many)))
    ] where
      bounds : Bounds
      bounds = load_bounds setting.limits

      gains : (made : ℕ) → MayFetch bounds file made → (MayAsk bounds [] 0 file → 1 ≤ made) → HasOneWithoutFailure (PerformsLoad setting None file state)
      gains made may some =
          there (gained_line [] ∷ [], owed_for made None, record state { clauses = state.clauses ++ [] }, (may, some, inl ([], tt, refl, refl, refl)), owes_nothing)
load_of setting (Some files) file state =
    let bounds = load_bounds setting.limits in
    and_then (read_behind files bounds setting.rules bounds.depth [] [] 0 state.clauses file (omega arith))
    (λ r.
    there (
      load_line setting.rules.entries r.0 r.1 ∷ [],
      owed_by r.0 r.1,
      record state { clauses = clauses_behind state.clauses r.0 r.1 },
      (r.0, r.1, r.2, refl, refl, refl),
      r.3,
    ))
