-- A run over a source and a sink that can't fail ends in no fault, nor does one in which no count
-- rose.
use Rattle.std.proofs.Common.{◌≡◌, ◌<◌, ◌≤◌, ℕ, Bool, List, ◌++◌, Option, inl, inr, length, refl, ap, length-append, arith}
use Rattle.std.specs.Prelude.{IsTrue, IsFalse}
use Rattle.si_defs.specs.Bytes.{Bytes}
use Rattle.si_steps.specs.declared.limits.Limits.{Limits}
use Rattle.si_steps.specs.Runs.{ended}
use Rattle.si_steps.specs.Settings.{setting_of}
use Rattle.si_state.specs.Harvest.{Files}
use Rattle.si_session.specs.Session.{Around}
use Rattle.si_serve.specs.declared.status.Status.{Status}
use Rattle.si_serve.specs.declared.status.Status.TheVariants.{Ended, Refused, Usage, SourceFault, SinkFault, Memory, SessionLimit}
use Rattle.si_io.specs.Content.{Told, Receives}
use Rattle.si_io.specs.Faults.{Rose}
use Rattle.si_io.specs.Shown.{SourceShown}
use Rattle.si_serve.specs.Words.{usage_line, asked_by}
use Rattle.si_serve.specs.Serve.{Serves, Declines, DeclinesOrServes, IsFaultless, CountsFaults, HasRoomForOutputs}

-- a text that fits the room isn't past what its front left of it
past : (old now : Told) (front last whole : Bytes) → Receives old front now → whole ≡ front ++ last → length whole ≤ old.room → now.room < length last → ⊥
past old now front last whole given parts fits beyond = omega (arith, fits, beyond, ap (λ (t : Told). t.room) given, ap length parts, length-append front last)

module _ (limits : Limits) (told : Option Files) (words : List Bytes) (source now : SourceShown) (before after : Around)
    (room : HasRoomForOutputs limits told words before.library.may_fail source.left before.sink.told.room) where
  no_sink_fault : Serves (setting_of limits) told (asked_by words).strict (asked_by words).files SinkFault source now before after → ⊥
  no_sink_fault s = elim s.ends [
    | inl stop ↦
        let part = stop.1 in
        let fits : length part.output ≤ before.sink.told.room = room.outputs s.taken now.left s.lines s.rest part.reply part.output part.owed s.gives.left s.within s.splits (inl part.right) part.counted.counts.sure in
        past before.sink.told part.middle.told part.right.before (ended part.reply) part.output part.written.told part.right.whole fits part.stopped.told.past_room
    | inr end ↦
        let part = end.2 in
        let fits : length part.output ≤ before.sink.told.room = room.outputs s.taken now.left s.lines s.rest part.reply part.output part.owed s.gives.left s.within s.splits (inr (end.1, part.right)) part.counted.counts.sure in
        past before.sink.told part.middle.told part.right.before (ended part.reply) part.output part.written.told part.right.whole fits part.stopped.told.past_room
  ]

  no_usage_fault : Declines words SinkFault source now before after → ⊥
  no_usage_fault d = let fits : length usage_line ≤ before.sink.told.room = room.usage d.refused in omega (arith, fits, d.written.told.past_room)

  pub faultless_by : (status : Status) (may_fail : Bool) → DeclinesOrServes limits told words status source now before after
      → (status ≡ SourceFault → IsTrue may_fail) → IsFalse may_fail → IsFaultless status
  faultless_by Ended may_fail s sure never = tt
  faultless_by Refused may_fail s sure never = tt
  faultless_by Usage may_fail s sure never = tt
  faultless_by SourceFault may_fail s sure never = let fails : IsTrue may_fail = sure refl in cc
  faultless_by SinkFault may_fail (inl d) sure never = absurd (no_usage_fault d)
  faultless_by SinkFault may_fail (inr s) sure never = absurd (no_sink_fault s.serves)
  faultless_by Memory may_fail s sure never = tt
  faultless_by SessionLimit may_fail s sure never = tt

pub faultless_where_none_rose : (status : Status) (source source_now sink sink_now : ℕ) → CountsFaults status source source_now sink sink_now
    → (Rose source source_now → ⊥) → (Rose sink sink_now → ⊥) → IsFaultless status
faultless_where_none_rose Ended source source_now sink sink_now c a b = tt
faultless_where_none_rose Refused source source_now sink sink_now c a b = tt
faultless_where_none_rose Usage source source_now sink sink_now c a b = tt
faultless_where_none_rose SourceFault source source_now sink sink_now c a b = absurd (a (omega (arith, c.0)))
faultless_where_none_rose SinkFault source source_now sink sink_now c a b = absurd (b (omega (arith, c.1)))
faultless_where_none_rose Memory source source_now sink sink_now c a b = tt
faultless_where_none_rose SessionLimit source source_now sink sink_now c a b = tt
