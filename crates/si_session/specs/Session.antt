-- What a session is seen as, and what one step does.
use Rattle.std.specs.Prelude.{◌≡◌, ◌⊎◌, ℕ, Bool, List, [], ◌∷◌, ◌++◌, length, IsTrue, IsFalse, refl}
use Rattle.std.specs.Coded.{Coded, code_by, coded×, coded_ℕ, coded_list}
use Rattle.si_defs.specs.Bytes.{Bytes}
use Rattle.si_state.specs.States.{State, Rules, state_code, rules_code, empty_state}
use Rattle.si_steps.specs.declared.limits.Limits.{Limits}
use Rattle.si_steps.specs.contracts.limits.Limits as limits_contracts
use Rattle.si_steps.specs.Settings.{Setting}
use Rattle.si_defs.specs.Symbols.{Symbol, Numbering}
use Rattle.si_defs.specs.Codes.{symbol_code}
use Rattle.si_tree.specs.NewTrees.{IsRootAlone}
use Rattle.si_held.specs.TwoTrees.{TwoTrees, Hold}
use Rattle.si_forest.specs.Codes.{two_trees_code}
use Rattle.si_steps.specs.Commands.{Command, add, load, remove, sample}
use Rattle.si_steps.specs.Replies.{Reply, is_refusal, memory_line}
use Rattle.si_steps.specs.Loads.{Owed, OwesFetches, PerformsLoad}
use Rattle.si_steps.specs.Steps.{Performs}
use Rattle.si_steps.specs.Runs.{Request, a_word, a_line, Acts, ended}
use Rattle.si_io.specs.Shown.{SinkShown, LibraryShown, KeepsFiles}
use Rattle.si_io.specs.Sends.{SendsAll, SendsPart}
use Rattle.si_io.specs.declared.counts.LibraryCounts.{LibraryCounts}
use Rattle.si_io.specs.Counts.{raised_by}
use Rattle.si_index.specs.Kept.{Kept, NumbersExactly, paired}
use Rattle.si_session.specs.ShownTrees.{Asks, IsShownBy}
use Rattle.si_session.specs.declared.stepped.Stepped.{Stepped}
use Rattle.si_session.specs.declared.stepped.Stepped.TheVariants.{Answered, Refused, Silent, SinkFailed}

-- its state, what it goes by, and what it keeps of the clauses besides: their keys, the numbers of
-- their symbols, and two trees of their entries
pub record View : Type 0 where
  pub state : State
  pub setting : Setting
  pub keys : List ℕ
  pub numbers : Numbering
  pub trees : TwoTrees

abbrev pub setting_code : Coded Setting
setting_code =
    code_by (Limits × Rules) (coded× limits_contracts.the_row.coded rules_code)
    (λ s. (s.limits, s.rules)) (λ p. record { limits = p.0; rules = p.1 }) (λ _. refl)

abbrev pub view_code : Coded View
view_code =
    code_by (State × (Setting × (List ℕ × (List (Symbol × ℕ) × TwoTrees))))
    (coded× state_code
    (coded× setting_code
    (coded× (coded_list coded_ℕ)
    (coded× (coded_list (coded× symbol_code coded_ℕ)) two_trees_code))))
    (λ v. (v.state, (v.setting, (v.keys, (v.numbers, v.trees)))))
    (λ p. record {
      state = p.0;
      setting = p.1.0;
      keys = p.1.1.0;
      numbers = p.1.1.1.0;
      trees = p.1.1.1.1;
    })
    (λ _. refl)

-- what a session with these limits and this index is seen as
abbrev pub view_of : Limits → Kept → View
view_of limits index = record {
  state = record { clauses = index.clauses };
  setting = record { limits = limits; rules = index.rules };
  keys = index.keys;
  numbers = index.numbers;
  trees = index.trees;
}

-- a session that is new, in this setting: each tree is the root alone
pub record IsNewSession (setting : Setting) (session : View) : Type 0 where
  pub empty : session.state ≡ empty_state
  pub set : session.setting ≡ setting
  pub no_keys : session.keys ≡ []
  pub no_numbers : session.numbers ≡ []
  pub literals : IsRootAlone session.trees.literals
  pub subterms : IsRootAlone session.trees.subterms

-- exactly the symbols of the kept clauses have numbers, and the trees hold the entries of exactly
-- these clauses
pub record HoldsTrees (session : View) : Type 0 where
  pub number : length session.keys ≡ length session.state.clauses
  pub numbered : NumbersExactly session.numbers session.state.clauses
  pub hold : Hold session.numbers (paired session.keys session.state.clauses) session.trees

-- ---- the trees in a step
-- a command that may change what is kept
abbrev pub ChangesKept : Command → Type 0
ChangesKept (add c) = Unit {0}
ChangesKept (load file) = Unit {0}
ChangesKept (remove name) = Unit {0}
ChangesKept (sample start count) = Unit {0}
ChangesKept command = ⊥

-- At a line the reply shows the session's own trees. They stay, unless the line is a command that
-- may change what is kept.
pub record GoesByTrees (old new : View) (line : Bytes) (reply : Reply) : Type 0 where
  pub shown : IsShownBy old.setting.limits old.numbers old.trees line reply
  pub stay : ((command : Command) × Asks old.setting.limits line command × ChangesKept command)
      ⊎ (new.trees ≡ old.trees)

abbrev pub KeepsToTrees : View → View → Request → Reply → Type 0
KeepsToTrees old new (a_word word) reply = Unit {0}
KeepsToTrees old new (a_line line) reply = GoesByTrees old new line reply

-- what became of the sink in a step with this reply
abbrev pub Writes : Stepped → Reply → SinkShown → SinkShown → Type 0
Writes Answered reply before after =
    SendsAll before (ended reply) after × (reply ≡ [] → ⊥) × IsFalse (is_refusal reply)
Writes Refused reply before after = SendsAll before (ended reply) after × IsTrue (is_refusal reply)
Writes Silent reply before after = SendsAll before (ended reply) after × (reply ≡ [])
Writes SinkFailed reply before after = SendsPart before (ended reply) after

-- what a library counts after what is owed to it
abbrev pub behind_owed : Owed → LibraryCounts → LibraryCounts
behind_owed owed counts = record {
  calls = raised_by owed.fetches counts.calls;
  faults = raised_by owed.failures counts.faults;
  misses = raised_by owed.misses counts.misses;
  bigs = raised_by owed.bigs counts.bigs;
}

-- Exactly what is owed to the library was counted. A failure is owed only where it may fail.
pub record HasCountedOwed (may_fail : Bool) (owed : Owed) (before now : LibraryCounts)
    : Type 0 where
  pub counts : now ≡ behind_owed owed before
  pub sure : IsFalse may_fail → owed.failures ≡ 0

-- what a sink and a library show before a call, or after it
pub record Around : Type 0 where
  pub sink : SinkShown
  pub library : LibraryShown

abbrev pub around : SinkShown → LibraryShown → Around
around sink library = record { sink = sink; library = library }

-- The call went one step over a library: the state is the one after it, its reply was written, or
-- at a sink's fault a prefix of it, and what the reply owes to the library was counted. The setting
-- stays, and so do the library's files.
pub record Steps (old new : View) (request : Request) (outcome : Stepped)
    (before after : Around) : Type 0 where
  pub reply : Reply
  pub owed : Owed
  pub step : Acts old.setting before.library.files old.state request reply owed new.state
  pub setting : new.setting ≡ old.setting
  pub held : HoldsTrees old
  pub own_trees : KeepsToTrees old new request reply
  pub written : Writes outcome reply before.sink after.sink
  pub counted :
      HasCountedOwed before.library.may_fail owed before.library.counts after.library.counts
  pub library : KeepsFiles before.library after.library

-- ---- parts of a step
-- What a command did: its reply P was right, and so is the state after it; or memory ran out, at
-- once or after some of the lines of the right reply, and the state stayed.
pub data HasPerformed (P : Reply → State → Type 0) (old new : State) (outcome : Stepped)
    (before after : SinkShown) : Type 0 where
  rightly : (reply : Reply) → P reply new → Writes outcome reply before after
      → HasPerformed P old new outcome before after
  at_once : new ≡ old → Writes outcome (memory_line ∷ []) before after
      → HasPerformed P old new outcome before after
  behind : (whole : Reply) (next : State) → P whole next → (written left : Reply)
      → whole ≡ written ++ left → (left ≡ [] → ⊥)
      → new ≡ old → Writes outcome (written ++ memory_line ∷ []) before after
      → HasPerformed P old new outcome before after

-- the state and the setting of a session, with what the index has of them
abbrev pub holding : State → Kept → State
holding state index = record state { clauses = index.clauses }

abbrev pub ruled_by : Setting → Kept → Setting
ruled_by setting index = record setting { rules = index.rules }

-- The command was performed, whatever else there is of a state and a setting.
abbrev pub PerformsOn : Command → Kept → Kept → Stepped → SinkShown → SinkShown → Type 0
PerformsOn command old new outcome before after =
    (setting : Setting) (state : State)
    → HasPerformed (Performs (ruled_by setting old) command (holding state old))
    (holding state old) (holding state new) outcome before after

-- An index did what a command asks of it, by the rules that it keeps.
pub record ActsOn (command : Command) (old new : Kept) (outcome : Stepped)
    (before after : SinkShown) : Type 0 where
  pub performed : PerformsOn command old new outcome before after
  pub rules : new.rules ≡ old.rules

-- What a load did: its reply was right, what it owes was counted, and the state is the one after
-- it; or memory ran out, its fetches were counted, and the state stayed.
pub data HasLoaded (setting : Setting) (file : Bytes) (old new : State) (outcome : Stepped)
    (before after : Around) : Type 0 where
  rightly_loaded : (reply : Reply) (owed : Owed)
      → PerformsLoad setting before.library.files file old reply owed new
      → Writes outcome reply before.sink after.sink
      → HasCountedOwed before.library.may_fail owed before.library.counts after.library.counts
      → HasLoaded setting file old new outcome before after
  ran_out : (owed : Owed) → OwesFetches setting before.library.files file old owed → new ≡ old
      → Writes outcome (memory_line ∷ []) before.sink after.sink
      → HasCountedOwed before.library.may_fail owed before.library.counts after.library.counts
      → HasLoaded setting file old new outcome before after

-- the same of an index, under these limits
abbrev pub LoadsOn : Limits → (file : Bytes) → Kept → Kept → Stepped → Around → Around
    → Type 0
LoadsOn limits file old new outcome before after =
    (state : State)
    → HasLoaded (view_of limits old).setting file (holding state old) (holding state new) outcome
    before after

-- An index did a load, by the rules that it keeps. The library's files stay.
pub record LoadsInto (limits : Limits) (file : Bytes) (old new : Kept) (outcome : Stepped)
    (before after : Around) : Type 0 where
  pub loaded : LoadsOn limits file old new outcome before after
  pub rules : new.rules ≡ old.rules
  pub library : KeepsFiles before.library after.library
