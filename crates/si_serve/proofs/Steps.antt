-- The step at a line that is too long goes by its length alone, so that the front of it is enough
-- to know.
use Rattle.std.proofs.Common.{◌≡◌, inl, inr, ℕ, ◌+◌, ◌<◌, ◌≤◌, Bool, true, false, ltb, List, [], ◌∷◌, Option, length, map, refl, ap, subst, arith, take_all, length-take}
use Rattle.std.proofs.lemmas.Bool.Decides.{nat_tests}
use Rattle.si_defs.specs.Bytes.{Bytes}
use Rattle.si_steps.specs.Settings.{Setting}
use Rattle.si_steps.specs.Replies.{Reply}
use Rattle.si_state.specs.States.{State}
use Rattle.si_state.specs.Harvest.{Files}
use Rattle.si_steps.specs.Loads.{Owed}
use Rattle.si_steps.specs.Steps.{RightStep, long, silent, foreign, wrong, performed, loaded, Step, right, memory_at_once, memory_behind}
use Rattle.si_defs.specs.Clauses.{Clause}
use Rattle.si_held.specs.Queries.{HaveTrees}
use Rattle.si_index.specs.Kept.{paired}
use Rattle.si_steps.specs.Runs.{Request, a_word, a_line}
use Rattle.si_session.specs.ShownTrees.{IsShownBy, ShowsSome}
use Rattle.si_session.specs.Session.{View, Around, HoldsTrees, Steps}
use Rattle.si_session.specs.declared.stepped.Stepped.{Stepped}
use Rattle.si_serve.specs.Shown.{ShowsAt}
use Rattle.si_serve.specs.Progress.{shown}

long_right : (setting : Setting) (told : Option Files) (old new : State) (front line : Bytes) (reply : Reply) (owed : Owed)
    → setting.limits.line < length front → setting.limits.line < length line
    → RightStep setting told old front reply owed new → RightStep setting told old line reply owed new
long_right setting told old new front line reply owed more longer (long why replied due kept) = long longer replied due kept
long_right setting told old new front line reply owed more longer (silent why replied due kept) = absurd (omega (arith, why.0))
long_right setting told old new front line reply owed more longer (foreign decided adds none replied due kept) = absurd (omega (arith, decided))
long_right setting told old new front line reply owed more longer (wrong decided sounds not_foreign none replied due kept) = absurd (omega (arith, decided))
long_right setting told old new front line reply owed more longer (performed decided command means performs due) = absurd (omega (arith, decided))
long_right setting told old new front line reply owed more longer (loaded decided file means performs) = absurd (omega (arith, decided))

pub long_step : (setting : Setting) (told : Option Files) (old new : State) (front line : Bytes) (reply : Reply) (owed : Owed)
    → setting.limits.line < length front → setting.limits.line < length line
    → Step setting told old front reply owed new → Step setting told old line reply owed new
long_step setting told old new front line reply owed more longer (right step) = right (long_right setting told old new front line reply owed more longer step)
long_step setting told old new front line reply owed more longer (memory_at_once loud short replied due kept) = absurd (omega arith)
long_step setting told old new front line reply owed more longer (memory_behind whole gone next step short written left cut proper replied due kept) = absurd (omega arith)

-- what is held of a line has the line's step
pub shown_step : (setting : Setting) (told : Option Files) (old new : State) (line : Bytes) (reply : Reply) (owed : Owed)
    → Step setting told old (shown setting.limits line) reply owed new → Step setting told old line reply owed new
shown_step setting told old new line reply owed step = by (ltb setting.limits.line (length line)) refl where
  by : (b : Bool) → ltb setting.limits.line (length line) ≡ b → Step setting told old line reply owed new
  by true e =
      let longer : setting.limits.line < length line = grind (arith, nat_tests) in
      long_step setting told old new (shown setting.limits line) line reply owed (omega (arith, length-take (setting.limits.line + 1) line)) longer step
  by false e =
      let short : length line ≤ setting.limits.line = grind (arith, nat_tests) in
      subst (λ (l : Bytes). Step setting told old l reply owed new) (take_all (setting.limits.line + 1) line (omega arith)) step

-- and the line's trees
pub shown_shows : (setting : Setting) (state : State) (line : Bytes) (reply : Reply) → ShowsSome setting.limits state (shown setting.limits line) reply → ShowsSome setting.limits state line reply
shown_shows setting state line reply h = (h.0, by (ltb setting.limits.line (length line)) refl) where
  by : (b : Bool) → ltb setting.limits.line (length line) ≡ b → IsShownBy setting.limits h.0.numbers h.0.trees line reply
  by true e =
      let longer : setting.limits.line < length line = grind (arith, nat_tests) in
      inr (inl (λ c asks. absurd (omega (arith, longer, asks.0))))
  by false e =
      let short : length line ≤ setting.limits.line = grind (arith, nat_tests) in
      subst (λ (l : Bytes). IsShownBy setting.limits h.0.numbers h.0.trees l reply) (take_all (setting.limits.line + 1) line (omega arith)) h.1

-- ---- the trees of a session
paired_alone : (keys : List ℕ) (cs : List Clause) → length keys ≡ length cs → map (λ k. k.1) (paired keys cs) ≡ cs
paired_alone [] [] e = refl
paired_alone [] (c ∷ cs) e = absurd cc
paired_alone (k ∷ keys) [] e = absurd cc
paired_alone (k ∷ keys) (c ∷ cs) e = ap (λ l. c ∷ l) (paired_alone keys cs (omega (arith, e)))

abbrev have_trees : (session : View) → HoldsTrees session → HaveTrees session.state.clauses
have_trees session h = record {
  numbers = session.numbers;
  kept = paired session.keys session.state.clauses;
  are_kept = paired_alone session.keys session.state.clauses h.number;
  trees = session.trees;
  hold = h.hold;
}

-- what a step shows
pub step_shows : (old new : View) (request : Request) (outcome : Stepped) (before after : Around) (s : Steps old new request outcome before after)
    → ShowsAt old.setting old.state request s.reply
step_shows old new (a_word word) outcome before after s = tt
step_shows old new (a_line line) outcome before after s = (have_trees old s.held, s.own_trees.shown)
