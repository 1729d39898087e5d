-- What a command did, from what its parts wrote; and the step that its line made.
use Rattle.std.proofs.Common.{◌≡◌, ℕ, List, [], ◌∷◌, ◌++◌, length, map, refl, ap, ap₂, sym, ◌∙◌, subst, inl, inr, arith, length-append}
use Rattle.std.specs.Prelude.{◌⊎◌, Option, Some, None, slice_get, codes, IsTrue, IsFalse}
use Rattle.si_defs.specs.Bytes.{Bytes}
use Rattle.si_defs.specs.Tokens.{lower, AreBlanks, Begins, begins_with}
use Rattle.si_lex.proofs.TokenLaws.{blanks_none}
use Rattle.si_steps.specs.Words.{command_text}
use Rattle.si_defs.specs.Symbols.{Symbol}
use Rattle.si_defs.specs.Clauses.{Name, Clause, Pattern, IsSoundClause}
use Rattle.si_defs.specs.Entries.{entries, state_entries, clause_symbols}
use Rattle.si_defs.specs.declared.Relation.{Relation}
use Rattle.si_defs.proofs.ListLaws.{get_here}
use Rattle.si_state.specs.States.{State, Rules}
use Rattle.si_state.specs.Acceptance.{IsTaken, Accepts, Removes, taken, misused, full}
use Rattle.si_state.specs.Signatures.{CountsSymbols}
use Rattle.si_state.specs.Answers.{Hit, IsAnswer, hit_texts}
use Rattle.si_steps.specs.declared.limits.Limits.{Limits}
use Rattle.si_steps.specs.Settings.{Setting}
use Rattle.si_state.specs.Subsumption.{mapped_text}
use Rattle.si_steps.specs.Replies.{Reply, counts_line, tree_reply, explain_line, is_refusal, ok_line, end_line, stats_line, sample_line, misused_line, full_line, unknown_line, syntax_line, long_line, memory_line, answer_reply}
use Rattle.si_steps.specs.Commands.{Command, add, load, remove, query, subsumers, subsumed, stats, tree, explain, sample, command_word, IsLong, IsShort, IsSilent, Means}
use Rattle.si_state.specs.Harvest.{Files, Fault, tried, clauses_behind}
use Rattle.si_steps.specs.Loads.{Owed, nothing, PerformsLoad, gained_line, load_line}
use Rattle.si_steps.specs.Steps.{Performs, IsNoCommand, RightStep, right, long, memory_at_once, memory_behind, performed, loaded}
use Rattle.si_steps.specs.FileWords.{names_file, nameless, named, right_word, no_memory}
use Rattle.si_steps.specs.Runs.{a_line, a_word, ended}
use Rattle.si_io.specs.Shown.{SinkShown, LibraryShown}
use Rattle.si_io.specs.Sends.{SendsAll, SendsPart}
use Rattle.si_session.specs.Commands.{IsPerformed}
use Rattle.si_term.specs.Meaning.{clause_of}
use Rattle.si_sign.specs.Shapes.{shape_of}
use Rattle.si_sign.specs.Stores.{Rejects}
use Rattle.si_sign.specs.declared.faults.Rejected.{Rejected}
use Rattle.si_sign.specs.declared.faults.AddFault.{AddFault}
use Rattle.si_sign.specs.declared.faults.AddFault.TheVariants as add_fault
use Rattle.si_index.specs.Kept.{Kept, AreKeyed, NumbersExactly, TreesHold}
use Rattle.si_index.specs.declared.index.Stats.{Stats}
use Rattle.si_index.specs.declared.index.TreeCounts.{TreeCounts}
use Rattle.si_tree.specs.declared.node.Counts as node_counts
use Rattle.si_tree.specs.Reading.{counts_of}
use Rattle.si_legal.specs.Counts.{node_count}
use Rattle.si_held.specs.Queries.{asked_tree}
use Rattle.si_session.specs.Explained.{ReportsExplained}
use Rattle.si_session.proofs.Standing.{hits_standing}
use Rattle.si_session.specs.declared.reply.ReplyLine as reply
use Rattle.si_session.specs.Replies.{reply_line, misused_text, counts_text, counts_reply}
use Rattle.si_session.specs.Rejections.{IsReportableClause, NamesOccurrence, ReportsFault, ReportsWhy}
use Rattle.si_session.specs.ShownTrees.{nodes_of, Asks, ShowsTrees}
use Rattle.si_session.specs.Session.{Around, around, Steps, HoldsTrees, GoesByTrees, ChangesKept, Writes, HasPerformed, PerformsOn, ActsOn, rightly, at_once, behind, HasLoaded, LoadsInto, rightly_loaded, ran_out, view_of, holding}
use Rattle.si_session.specs.declared.stepped.Stepped.{Stepped}
use Rattle.si_io.proofs.Fetching.{same_files}
use Rattle.si_session.proofs.Owing.{counts_nothing}
use Rattle.si_session.specs.declared.stepped.Stepped.TheVariants.{Answered, Refused, Silent, SinkFailed}

-- ---- the last line of a reply
refusal-last : (lines : List Bytes) (line : Bytes) → is_refusal (lines ++ line ∷ []) ≡ begins_with 33 line
refusal-last [] line = refl
refusal-last (x ∷ []) line = refl
refusal-last (x ∷ y ∷ lines) line = refusal-last (y ∷ lines) line

some_line : (lines : List Bytes) (line : Bytes) → lines ++ line ∷ [] ≡ [] → ⊥
some_line [] line e = cc
some_line (x ∷ lines) line e = cc

-- an answer was written
pub answered : (lines : List Bytes) (n : ℕ) (a b : SinkShown) → SendsAll a (ended (lines ++ end_line n ∷ [])) b → Writes Answered (lines ++ end_line n ∷ []) a b
answered lines n a b h = (h, some_line lines (end_line n), refusal-last lines (end_line n))

-- what is kept stays
pub holds_same : (old new : Kept) (state : State) → new.clauses ≡ old.clauses → holding state new ≡ holding state old
holds_same old new state e = ap (λ cs. record state { clauses = cs }) e

-- memory ran out, and nothing changed
pub finds_no_memory : (command : Command) (index : Kept) (o : Stepped) (a b : SinkShown) → Writes o (memory_line ∷ []) a b → ActsOn command index index o a b
finds_no_memory command index o a b w = record { performed = λ setting state. at_once refl w; rules = refl }

-- ---- an answer
module _ (relation : Relation) (p : Pattern) (index : Kept) (hits : List Hit) (answer : IsAnswer relation p (state_entries index.clauses) hits) where
  pub answers : (a b : SinkShown) → SendsAll a (ended (answer_reply hits)) b → ActsOn (query relation p) index index Answered a b
  answers a b h = record {
    performed = λ setting state. rightly (answer_reply hits) (hits, answer, refl, refl) (answered (hit_texts hits) (length hits) a b h);
    rules = refl;
  }

  pub fails : (a b : SinkShown) → SendsPart a (ended (answer_reply hits)) b → ActsOn (query relation p) index index SinkFailed a b
  fails a b h = record { performed = λ setting state. rightly (answer_reply hits) (hits, answer, refl, refl) h; rules = refl }

-- ---- a clause
-- it is kept
pub added : (old new : Kept) (clause : Clause) (o : Stepped) (n : ℕ) (a b : SinkShown) → Accepts old.rules old.clauses clause new.clauses → n ≡ length (entries clause)
    → Writes o (ok_line 1 n ∷ []) a b → PerformsOn (add clause) old new o a b
added old new clause o n a b k e w setting state = rightly (ok_line 1 n ∷ []) (inr (k, ap (λ m. ok_line 1 m ∷ []) e, refl)) w

-- the symbol at a clash
pub at_seam : (before after own : List Symbol) (s : Symbol) (n : ℕ) → own ≡ before ++ s ∷ after → n ≡ length before → slice_get own n ≡ Some s
at_seam before after own s n e h =
    subst (λ l. slice_get l n ≡ Some s) (sym e) (subst (λ k. slice_get (before ++ s ∷ after) k ≡ Some s) (sym h) (get_here before s after))

-- it isn't kept
fault_acts : (old new : Kept) (r : Rejected) (reported : reply.ReplyLine) (o : Stepped) (a b : SinkShown) (why : AddFault)
    → Rejects old.rules old.clauses (clause_of r.clause) why → ReportsFault r reported why → new.clauses ≡ old.clauses → Writes o (reply_line reported ∷ []) a b
    → PerformsOn (add (clause_of r.clause)) old new o a b
fault_acts old new r reported o a b add_fault.Taken h t e w setting state =
    rightly (reply_line reported ∷ []) (inl (taken, h, ap (λ l. l ∷ []) t, holds_same old new state e)) w
fault_acts old new r reported o a b (add_fault.Clash c) h t e w setting state =
    let clash = h.2.1 in
    let there : slice_get (clause_symbols (clause_of r.clause)) c.occurrence ≡ Some h.0 = at_seam clash.before clash.after _ h.0 c.occurrence clash.splits clash.position in
    let same : misused_text h.0 c.found c.kept ≡ misused_line h.0 h.1 =
    ap (λ shape. misused_text h.0 shape c.kept) h.3.0 ∙ ap (λ shape. misused_text h.0 (shape_of h.0) shape) h.3.1 in
    rightly (reply_line reported ∷ []) (inl (misused c.occurrence h.0 h.1, h.2, ap (λ l. l ∷ []) (t h.0 there ∙ same), holds_same old new state e)) w
fault_acts old new r reported o a b (add_fault.Full needed most) h t e w setting state =
    rightly (reply_line reported ∷ []) (inl (full needed, h.0, ap (λ l. l ∷ []) (t ∙ ap (full_line needed) h.1), holds_same old new state e)) w
fault_acts old new r reported o a b add_fault.Memory h t e w setting state = at_once (holds_same old new state e) (subst (λ l. Writes o (l ∷ []) a b) t w)

pub refused : (old new : Kept) (r : Rejected) (reported : reply.ReplyLine) (o : Stepped) (a b : SinkShown)
    → Rejects old.rules old.clauses (clause_of r.clause) r.why → ReportsWhy r reported → new.clauses ≡ old.clauses → Writes o (reply_line reported ∷ []) a b
    → PerformsOn (add (clause_of r.clause)) old new o a b
refused old new r reported o a b h t e w = fault_acts old new r reported o a b r.why h t e w

-- the clash is named at an occurrence
pub is_reportable : (rules : Rules) (clauses : List Clause) (r : Rejected) → IsSoundClause (clause_of r.clause) → Rejects rules clauses (clause_of r.clause) r.why → IsReportableClause r
is_reportable rules clauses r sound h = (sound, by r.why h) where
  by : (why : AddFault) → Rejects rules clauses (clause_of r.clause) why → NamesOccurrence r why
  by add_fault.Taken h = tt
  by (add_fault.Clash c) h =
      let clash = h.2.1 in
      omega (arith, clash.position, ap length clash.splits, length-append clash.before (h.0 ∷ clash.after))
  by (add_fault.Full n most) h = tt
  by add_fault.Memory h = tt

-- ---- a clause that goes
pub removed : (old new : Kept) (name : Name) (o : Stepped) (n : ℕ) (a b : SinkShown) (c : Clause) → Removes old.clauses name c new.clauses → n ≡ length (entries c)
    → Writes o (ok_line 1 n ∷ []) a b → PerformsOn (remove name) old new o a b
removed old new name o n a b c h e w setting state = rightly (ok_line 1 n ∷ []) (inr (c, h, ap (λ m. ok_line 1 m ∷ []) e, refl)) w

pub unknown : (old new : Kept) (name : Name) (o : Stepped) (a b : SinkShown) → (IsTaken old.clauses name → ⊥) → new.clauses ≡ old.clauses
    → Writes o (unknown_line name ∷ []) a b → PerformsOn (remove name) old new o a b
unknown old new name o a b h e w setting state = rightly (unknown_line name ∷ []) (inl (h, refl, holds_same old new state e)) w

-- ---- counts
pub counts : (index : Kept) (reported : Stats) (o : Stepped) (a b : SinkShown) → reported.clauses ≡ length index.clauses → reported.entries ≡ length (state_entries index.clauses)
    → CountsSymbols index.clauses reported.symbols → Writes o (stats_line reported.clauses reported.entries reported.symbols ∷ []) a b → ActsOn stats index index o a b
counts index reported o a b clauses entries symbols w = record {
  performed = λ setting state. rightly (stats_line reported.clauses reported.entries reported.symbols ∷ [])
      (reported.symbols, symbols, ap (λ n. stats_line n reported.entries reported.symbols ∷ []) clauses ∙ ap (λ n. stats_line (length index.clauses) n reported.symbols ∷ []) entries, refl) w;
  rules = refl;
}

-- ---- the step
-- no command has an empty reply
some_reply : (setting : Setting) (command : Command) (state new : State) (reply : Reply) → Performs setting command state reply new → reply ≡ [] → ⊥
some_reply setting (add c) state new reply (inl h) e = some_line [] _ (sym h.2 ∙ e)
some_reply setting (add c) state new reply (inr h) e = some_line [] _ (sym h.1 ∙ e)
some_reply setting (load file) state new reply h e = h
some_reply setting (remove name) state new reply (inl h) e = some_line [] _ (sym h.1 ∙ e)
some_reply setting (remove name) state new reply (inr h) e = some_line [] _ (sym h.2 ∙ e)
some_reply setting (query relation pattern) state new reply h e = some_line (hit_texts h.0) _ (sym h.2 ∙ e)
some_reply setting (subsumers formula) state new reply h e = some_line (map mapped_text h.0) _ (sym h.2 ∙ e)
some_reply setting (subsumed formula) state new reply h e = some_line (map mapped_text h.0) _ (sym h.2 ∙ e)
some_reply setting stats state new reply h e = some_line [] _ (sym h.2 ∙ e)
some_reply setting tree state new reply h e = some_line (counts_line (codes "literals") h.0 ∷ []) _ (sym h.2 ∙ e)
some_reply setting (explain relation pattern) state new reply h e = some_line [] _ (sym h.4 ∙ e)
some_reply setting (sample start count) state new reply (drawn, are, inl h) e = some_line [] _ (sym h.3 ∙ e)
some_reply setting (sample start count) state new reply (drawn, are, inr h) e = some_line [] _ (sym h.3 ∙ e)

pub not_silent : (limits : Limits) (command : Command) (old new : Kept) (o : Stepped) (a b : SinkShown) → ActsOn command old new o a b → o ≡ Silent → ⊥
not_silent limits command old new o a b acts = by (acts.performed (view_of limits old).setting (view_of limits old).state) where
  by : HasPerformed (Performs (view_of limits old).setting command (view_of limits old).state) (view_of limits old).state (view_of limits new).state o a b → o ≡ Silent → ⊥
  by (rightly reply p w) e =
      let v : Writes Silent reply a b = subst (λ x. Writes x reply a b) e w in
      some_reply (view_of limits old).setting command (view_of limits old).state (view_of limits new).state reply p v.1
  by (at_once same w) e = let v : Writes Silent (memory_line ∷ []) a b = subst (λ x. Writes x (memory_line ∷ []) a b) e w in some_line [] memory_line v.1
  by (behind reply next p written left split some same w) e =
      let v : Writes Silent (written ++ memory_line ∷ []) a b = subst (λ x. Writes x (written ++ memory_line ∷ []) a b) e w in some_line written memory_line v.1

-- a reply that ends with a refusal leaves the state
performs_refused : (setting : Setting) (command : Command) (state new : State) (reply : Reply) → Performs setting command state reply new → IsTrue (is_refusal reply) → new ≡ state
performs_refused setting (add c) state new reply (inl h) t = h.3
performs_refused setting (add c) state new reply (inr h) t = let wrong : IsTrue (is_refusal (ok_line 1 (length (entries c)) ∷ [])) = subst (λ r. IsTrue (is_refusal r)) h.1 t in cc
performs_refused setting (load file) state new reply h t = absurd h
performs_refused setting (remove name) state new reply (inl h) t = h.2
performs_refused setting (remove name) state new reply (inr h) t = let wrong : IsTrue (is_refusal (ok_line 1 (length (entries h.0)) ∷ [])) = subst (λ r. IsTrue (is_refusal r)) h.2 t in cc
performs_refused setting (query relation pattern) state new reply h t = h.3
performs_refused setting (subsumers formula) state new reply h t = h.3
performs_refused setting (subsumed formula) state new reply h t = h.3
performs_refused setting stats state new reply h t = h.3
performs_refused setting tree state new reply h t = h.3
performs_refused setting (explain relation pattern) state new reply h t = h.5
performs_refused setting (sample start count) state new reply (drawn, are, inl h) t = h.4
performs_refused setting (sample start count) state new reply (drawn, are, inr h) t =
    let wrong : IsTrue (is_refusal (sample_line (length drawn) (length (state_entries drawn)) h.0 ∷ [])) = subst (λ r. IsTrue (is_refusal r)) h.3 t in cc

pub keeps_state : (limits : Limits) (command : Command) (old new : Kept) (o : Stepped) (a b : SinkShown) → ActsOn command old new o a b → o ≡ Refused
    → (view_of limits new).state ≡ (view_of limits old).state
keeps_state limits command old new o a b acts = by (acts.performed (view_of limits old).setting (view_of limits old).state) where
  by : HasPerformed (Performs (view_of limits old).setting command (view_of limits old).state) (view_of limits old).state (view_of limits new).state o a b → o ≡ Refused
      → (view_of limits new).state ≡ (view_of limits old).state
  by (rightly reply p w) e =
      let v : Writes Refused reply a b = subst (λ x. Writes x reply a b) e w in
      performs_refused (view_of limits old).setting command (view_of limits old).state (view_of limits new).state reply p v.1
  by (at_once same w) e = same
  by (behind reply next p written left split some same w) e = same

-- a line of a reply is some reply
pub line_not_silent : (o : Stepped) (line : Bytes) (a b : SinkShown) → Writes o (line ∷ []) a b → o ≡ Silent → ⊥
line_not_silent o line a b w e = let v : Writes Silent (line ∷ []) a b = subst (λ x. Writes x (line ∷ []) a b) e w in some_line [] line v.1

-- what a session goes by stays where an index keeps its rules
setting_stays : (limits : Limits) (old new : Kept) → new.rules ≡ old.rules → (view_of limits new).setting ≡ (view_of limits old).setting
setting_stays limits old new same = λ i. record { limits = limits; rules = same i }

-- a command was performed
by_trees : (limits : Limits) (old new : Kept) (line : Bytes) (command : Command) → IsShort limits line → Means command line → (reply : Reply) → ShowsTrees old.numbers old.trees command reply
    → ChangesKept command ⊎ (new.trees ≡ old.trees) → GoesByTrees (view_of limits old) (view_of limits new) line reply
by_trees limits old new line command short means reply shows stays = record {
  shown = inr (inr (command, (short, means), shows));
  stay = by stays;
} where
  by : ChangesKept command ⊎ (new.trees ≡ old.trees) → ((c : Command) × Asks limits line c × ChangesKept c) ⊎ (new.trees ≡ old.trees)
  by (inl changes) = inl (command, (short, means), changes)
  by (inr same) = inr same

pub stepped : (limits : Limits) (library : LibraryShown) (old new : Kept) (line : Bytes) (command : Command) (o : Stepped) (a b : SinkShown)
    → HoldsTrees (view_of limits old) → IsShort limits line → IsPerformed command line → ActsOn command old new o a b
    → ((reply : Reply) → ShowsTrees old.numbers old.trees command reply) → ChangesKept command ⊎ (new.trees ≡ old.trees)
    → Steps (view_of limits old) (view_of limits new) (a_line line) o (around a library) (around b library)
stepped limits library old new line command o a b held short performs acts shows stays = by (acts.performed (view_of limits old).setting (view_of limits old).state) where
  loud : IsSilent limits line → ⊥
  loud h = performs.0 h.1

  own : (reply : Reply) → GoesByTrees (view_of limits old) (view_of limits new) line reply
  own reply = by_trees limits old new line command short performs.1 reply (shows reply) stays

  same_setting : (view_of limits new).setting ≡ (view_of limits old).setting
  same_setting = setting_stays limits old new acts.rules

  by : HasPerformed (Performs (view_of limits old).setting command (view_of limits old).state) (view_of limits old).state (view_of limits new).state o a b
      → Steps (view_of limits old) (view_of limits new) (a_line line) o (around a library) (around b library)
  by (rightly reply p w) = record { reply = reply; owed = nothing; step = right (performed short command performs.1 p refl); setting = same_setting; held = held; own_trees = own _; written = w; counted = counts_nothing library.counts library.may_fail; library = same_files library }
  by (at_once same w) = record { reply = memory_line ∷ []; owed = nothing; step = memory_at_once loud short refl (inl refl) same; setting = same_setting; held = held; own_trees = own _; written = w; counted = counts_nothing library.counts library.may_fail; library = same_files library }
  by (behind whole next p written left split rest same w) = record {
    reply = written ++ memory_line ∷ [];
    owed = nothing;
    step = memory_behind whole nothing next (right_of p) short written left split rest refl refl same;
    setting = same_setting;
    held = held;
    own_trees = own _;
    written = w;
    counted = counts_nothing library.counts library.may_fail;
    library = same_files library;
  } where
    right_of : Performs (view_of limits old).setting command (view_of limits old).state whole next → RightStep (view_of limits old).setting library.files (view_of limits old).state line whole nothing next
    right_of p = performed short command performs.1 p refl

-- ---- lines that are no command
-- blanks are none
pub blanks_no_command : (line : Bytes) → AreBlanks line → IsNoCommand line
blanks_no_command line blanks c means =
    let b = subst (λ ts. Begins line ts means.consists.rest) means.spelled.whole means.consists.begins in
    blanks_none line blanks (lower (command_text (command_word c))) b.0 b.1

pub line_stepped : (limits : Limits) (library : LibraryShown) (index : Kept) (line : Bytes) (reply : Reply) (o : Stepped) (a b : SinkShown) → HoldsTrees (view_of limits index) → IsNoCommand line
    → RightStep (view_of limits index).setting library.files (view_of limits index).state line reply nothing (view_of limits index).state → Writes o reply a b
    → Steps (view_of limits index) (view_of limits index) (a_line line) o (around a library) (around b library)
line_stepped limits library index line reply o a b held none step w = record {
  reply = reply;
  owed = nothing;
  step = right step;
  setting = refl;
  held = held;
  own_trees = record { shown = inr (inl (λ c asks. none c asks.1)); stay = inr refl };
  written = w;
  counted = counts_nothing library.counts library.may_fail;
  library = same_files library;
}

-- a line that is too long
pub long_stepped : (limits : Limits) (library : LibraryShown) (index : Kept) (line : Bytes) (o : Stepped) (a b : SinkShown) → HoldsTrees (view_of limits index) → IsLong limits line
    → Writes o (long_line ∷ []) a b → Steps (view_of limits index) (view_of limits index) (a_line line) o (around a library) (around b library)
long_stepped limits library index line o a b held more w = record {
  reply = long_line ∷ [];
  owed = nothing;
  step = right (long more refl refl refl);
  setting = refl;
  held = held;
  own_trees = record { shown = inr (inl (λ c asks. absurd (omega (arith, more, asks.0)))); stay = inr refl };
  written = w;
  counted = counts_nothing library.counts library.may_fail;
  library = same_files library;
}

-- no memory for what a line says
pub unread_stepped : (limits : Limits) (library : LibraryShown) (index : Kept) (line : Bytes) (o : Stepped) (a b : SinkShown) → HoldsTrees (view_of limits index) → IsShort limits line
    → (AreBlanks line → ⊥) → Writes o (memory_line ∷ []) a b → Steps (view_of limits index) (view_of limits index) (a_line line) o (around a library) (around b library)
unread_stepped limits library index line o a b held short some w = record {
  reply = memory_line ∷ [];
  owed = nothing;
  step = memory_at_once (λ h. some h.1) short refl (inl refl) refl;
  setting = refl;
  held = held;
  own_trees = record { shown = inl refl; stay = inr refl };
  written = w;
  counted = counts_nothing library.counts library.may_fail;
  library = same_files library;
}

-- a word that can't name a file
pub nameless_stepped : (limits : Limits) (library : LibraryShown) (index : Kept) (word : Bytes) (o : Stepped) (a b : SinkShown) → HoldsTrees (view_of limits index) → IsFalse (names_file word)
    → Writes o (syntax_line ∷ []) a b → Steps (view_of limits index) (view_of limits index) (a_word word) o (around a library) (around b library)
nameless_stepped limits library index word o a b held none w =
    record { reply = syntax_line ∷ []; owed = nothing; step = right_word (nameless none refl refl refl); setting = refl; held = held; own_trees = tt; written = w; counted = counts_nothing library.counts library.may_fail; library = same_files library }

-- what is known of an index's trees
pub holds_trees : (limits : Limits) (index : Kept) → AreKeyed index → NumbersExactly index.numbers index.clauses → TreesHold index → HoldsTrees (view_of limits index)
holds_trees limits index keyed exactly hold = record { number = keyed.number; numbered = exactly; hold = hold }

-- ---- the trees
-- how many nodes they have
pub trees_stepped : (limits : Limits) (library : LibraryShown) (index : Kept) (line : Bytes) (shown : TreeCounts) (o : Stepped) (a b : SinkShown)
    → HoldsTrees (view_of limits index) → IsShort limits line → IsPerformed tree line → shown.literals ≡ counts_of index.trees.literals → shown.terms ≡ counts_of index.trees.subterms → Writes o (counts_reply shown) a b
    → Steps (view_of limits index) (view_of limits index) (a_line line) o (around a library) (around b library)
trees_stepped limits library index line shown o a b held short performs literals terms w =
    let whole : counts_reply shown ≡ tree_reply (nodes_of index.trees.literals) (nodes_of index.trees.subterms) =
    ap₂ (λ (x y : node_counts.Counts). counts_text (codes "literals") x ∷ counts_text (codes "terms") y ∷ []) literals terms in
    record {
      reply = counts_reply shown;
      owed = nothing;
      step = right (performed short tree performs.1 (nodes_of index.trees.literals, nodes_of index.trees.subterms, whole, refl) refl);
      setting = refl;
      held = held;
      own_trees = by_trees limits index index line tree short performs.1 (counts_reply shown) whole (inr refl);
      written = w;
      counted = counts_nothing library.counts library.may_fail;
      library = same_files library;
    }

-- what a query passes
pub explain_stepped : (limits : Limits) (library : LibraryShown) (index : Kept) (line : Bytes) (relation : Relation) (p : Pattern) (o : Stepped) (a b : SinkShown)
    → HoldsTrees (view_of limits index) → IsShort limits line → IsPerformed (explain relation p) line → ReportsExplained index relation p o a b
    → Steps (view_of limits index) (view_of limits index) (a_line line) o (around a library) (around b library)
explain_stepped limits library index line relation p o a b held short performs (inl (e, explains, w)) =
    let same : explain_line e.passed e.nodes e.answers ∷ [] ≡ explain_line e.passed (node_count (asked_tree p index.trees)) e.answers ∷ [] =
    ap (λ n. explain_line e.passed n e.answers ∷ []) explains.nodes in
    record {
      reply = explain_line e.passed e.nodes e.answers ∷ [];
      owed = nothing;
      step =
          right (performed short (explain relation p) performs.1
          (e.passed, e.nodes, e.answers, hits_standing relation p index.clauses explains.hits e.answers explains.are_hits explains.answers, refl, refl) refl);
      setting = refl;
      held = held;
      own_trees = by_trees limits index index line (explain relation p) short performs.1 _ (e.passed, e.answers, explains.passed, same) (inr refl);
      written = w;
      counted = counts_nothing library.counts library.may_fail;
      library = same_files library;
    }
explain_stepped limits library index line relation p o a b held short performs (inr w) = unread_stepped limits library index line o a b held short performs.0 w

-- ---- a load
load_some : (setting : Setting) (told : Option Files) (file : Bytes) (state new : State) (reply : Reply) (owed : Owed) → PerformsLoad setting told file state reply owed new → reply ≡ [] → ⊥
load_some setting None file state new reply owed (may, some, inl h) e = some_line [] _ (sym h.2 ∙ e)
load_some setting None file state new reply owed (may, some, inr h) e = some_line [] _ (sym h.1 ∙ e)
load_some setting (Some files) file state new reply owed h e = some_line [] _ (sym h.3 ∙ e)

not_gained : (gained : List Clause) (reply : Reply) → reply ≡ gained_line gained ∷ [] → IsTrue (is_refusal reply) → ⊥
not_gained gained reply e t = let wrong : IsTrue (is_refusal (gained_line gained ∷ [])) = subst (λ r. IsTrue (is_refusal r)) e t in cc

load_stays : (setting : Setting) (told : Option Files) (file : Bytes) (state new : State) (reply : Reply) (owed : Owed) → PerformsLoad setting told file state reply owed new
    → IsTrue (is_refusal reply) → new ≡ state
load_stays setting None file state new reply owed (may, some, inl h) t = absurd (not_gained h.0 reply h.2 t)
load_stays setting None file state new reply owed (may, some, inr h) t = h.3
load_stays setting (Some files) file state new reply owed h t = by h.1 h.3 h.5 where
  by : (fault : Option Fault) → reply ≡ load_line setting.rules.entries h.0 fault ∷ [] → new ≡ record state { clauses = clauses_behind state.clauses h.0 fault } → new ≡ state
  by None e s = absurd (not_gained (tried h.0) reply e t)
  by (Some f) e s = s

module _ (limits : Limits) (file : Bytes) (old new : Kept) (o : Stepped) (a b : Around) (loads : LoadsInto limits file old new o a b) where
  -- the load of a session with this index
  own : HasLoaded (view_of limits old).setting file (view_of limits old).state (view_of limits new).state o a b
  own = loads.loaded (view_of limits old).state

  pub load_not_silent : o ≡ Silent → ⊥
  load_not_silent = by own where
    by : HasLoaded (view_of limits old).setting file (view_of limits old).state (view_of limits new).state o a b → o ≡ Silent → ⊥
    by (rightly_loaded reply owed p w h) e =
        let v : Writes Silent reply a.sink b.sink = subst (λ x. Writes x reply a.sink b.sink) e w in
        load_some (view_of limits old).setting a.library.files file (view_of limits old).state (view_of limits new).state reply owed p v.1
    by (ran_out owed owes same w h) e = line_not_silent o memory_line a.sink b.sink w e

  pub load_keeps : o ≡ Refused → (view_of limits new).state ≡ (view_of limits old).state
  load_keeps = by own where
    by : HasLoaded (view_of limits old).setting file (view_of limits old).state (view_of limits new).state o a b → o ≡ Refused → (view_of limits new).state ≡ (view_of limits old).state
    by (rightly_loaded reply owed p w h) e =
        let v : Writes Refused reply a.sink b.sink = subst (λ x. Writes x reply a.sink b.sink) e w in
        load_stays (view_of limits old).setting a.library.files file (view_of limits old).state (view_of limits new).state reply owed p v.1
    by (ran_out owed owes same w h) e = same

  pub load_stepped : (line : Bytes) → HoldsTrees (view_of limits old) → IsShort limits line → IsPerformed (load file) line
      → Steps (view_of limits old) (view_of limits new) (a_line line) o a b
  load_stepped line held short performs = by own where
    loud : IsSilent limits line → ⊥
    loud h = performs.0 h.1

    own_trees : (reply : Reply) → GoesByTrees (view_of limits old) (view_of limits new) line reply
    own_trees reply = by_trees limits old new line (load file) short performs.1 reply tt (inl tt)

    by : HasLoaded (view_of limits old).setting file (view_of limits old).state (view_of limits new).state o a b
        → Steps (view_of limits old) (view_of limits new) (a_line line) o a b
    by (rightly_loaded reply owed p w h) = record {
      reply = reply;
      owed = owed;
      step = right (loaded short file performs.1 p);
      setting = setting_stays limits old new loads.rules;
      held = held;
      own_trees = own_trees reply;
      written = w;
      counted = h;
      library = loads.library;
    }
    by (ran_out owed owes same w h) =
        record { reply = memory_line ∷ []; owed = owed; step = memory_at_once loud short refl (inr (file, performs.1, owes)) same; setting = setting_stays limits old new loads.rules; held = held; own_trees = own_trees (memory_line ∷ []); written = w; counted = h; library = loads.library }

  -- a word that names the file
  pub word_stepped : HoldsTrees (view_of limits old) → IsTrue (names_file file) → Steps (view_of limits old) (view_of limits new) (a_word file) o a b
  word_stepped held names = by own where
    by : HasLoaded (view_of limits old).setting file (view_of limits old).state (view_of limits new).state o a b
        → Steps (view_of limits old) (view_of limits new) (a_word file) o a b
    by (rightly_loaded reply owed p w h) = record {
      reply = reply;
      owed = owed;
      step = right_word (named names p);
      setting = setting_stays limits old new loads.rules;
      held = held;
      own_trees = tt;
      written = w;
      counted = h;
      library = loads.library;
    }
    by (ran_out owed owes same w h) =
        record { reply = memory_line ∷ []; owed = owed; step = no_memory names refl owes same; setting = setting_stays limits old new loads.rules; held = held; own_trees = tt; written = w; counted = h; library = loads.library }
