-- What a sink that holds bytes tells, at its start, further on, and where it was broken off.
use Rattle.std.proofs.Common.{◌≡◌, ℕ, zero, suc, ◌+◌, ◌-◌, ◌<◌, ◌≤◌, List, [], ◌∷◌, ◌++◌, Option, None, Some, length, take, drop, refl, sym, ap, ◌∙◌, subst, append_assoc, lt_of_not-le, arith, length-append, length-drop, take-append-drop, drop-drop, take_all}
use lib.Seq.{take-take}
use Rattle.std.proofs.Math.Seq.{take-append_seam, drop-append_seam}
use Rattle.std.proofs.lemmas.Slice.{take-put_mid}
use borrow.Rule.Slice.PartMut.{put_mid}
use Rattle.std.proofs.lemmas.List.{append_cancel_left, drop-append-le, length-take-le, length-replicate}
use Rattle.std.specs.Prelude.{IsTrue, IsFalse, is_err, slice_set, Result, Ok, Err}
use Rattle.si_io.specs.Content.{Told, bytes_then, append_told, Receives, ReceivesPrefix}
use Rattle.si_io.specs.Counts.{raised, raised_by, write_counted}
use Rattle.si_io.specs.Sends.{WritesFew, SendsAll, SendsPart, Sends}
use Rattle.si_io.specs.Shown.{SinkShown}
use Rattle.si_io.specs.declared.failed.Failed.{Failed}
use Rattle.si_io.proofs.Content.{append_told-nil, append_told-append, Receives_then, ReceivesPrefix_more}
use Rattle.si_io.proofs.Sends.{WritesFew_then, SendsAll_more}
use Rattle.si_io.specs.Buffering.{held, told_with, uncounted, gathered, begun, given_since, since, HasBytesSince, HasRoomSince}

-- what is left of some bytes, once the first of them were taken
left_of : (now after : Told) (all : List ℕ) (n : ℕ) → Receives now (take n all) after → append_told after (drop n all) ≡ append_told now all
left_of now after all n h =
    ap (λ (t : Told). append_told t (drop n all)) h ∙ append_told-append now (take n all) (drop n all) ∙ ap (append_told now) (take-append-drop n all)

-- one line feed more
behind : (now start : Told) (kept text : List ℕ) → Receives start text (append_told now kept) → append_told now (kept ++ 10 ∷ []) ≡ append_told start (text ++ 10 ∷ [])
behind now start kept text h = sym (append_told-append now kept (10 ∷ [])) ∙ ap (λ (t : Told). append_told t (10 ∷ [])) h ∙ append_told-append start text (10 ∷ [])

-- ---- since the start
again : (before : Option (List ℕ)) (room : ℕ) (fs : List ℕ)
    → append_told (record { bytes = before; room = room }) fs
    ≡ append_told (record { bytes = before; room = room }) (given_since before (bytes_then before fs) (room - (room - length fs)))
again None room fs =
    ap (λ (k : ℕ). record { bytes = None; room = k }) (omega (arith, length-replicate {A = ℕ} (room - (room - length fs)) 0))
again (Some ws) room fs =
    ap (λ (l : List ℕ). append_told (record { bytes = Some ws; room = room }) l) (sym (drop-append_seam ws fs))

-- what some bytes make of the start is told since it
pub since_given : (start now : Told) (fs : List ℕ) → Receives start fs now → now ≡ append_told start (since start now)
since_given start now fs h =
    subst (λ (t : Told). t ≡ append_told start (since start t)) (sym h) (again start.bytes start.room fs)

both : (start now : Told) → HasBytesSince start now → HasRoomSince start now → now ≡ append_told start (since start now)
both start now bytes room =
    ap (λ (b : Option (List ℕ)). told_of b now.room) bytes ∙ ap (λ (k : ℕ). told_of (bytes_then start.bytes (since start now)) k) room
  where
    told_of : Option (List ℕ) → ℕ → Told
    told_of b k = record { bytes = b; room = k }

-- and so it is after more
pub since_more : (start now after : Told) (bs : List ℕ) → HasBytesSince start now → HasRoomSince start now → Receives now bs after → after ≡ append_told start (since start after)
since_more start now after bs bytes room h =
    since_given start after (since start now ++ bs) (Receives_then start now after (since start now) bs (both start now bytes room) h)

told_apart : (start now : Told) → now ≡ append_told start (since start now) → HasBytesSince start now × HasRoomSince start now
told_apart start now h = (ap (λ (t : Told). t.bytes) h, ap (λ (t : Told). t.room) h)

-- ---- what is held
-- a piece that was copied after it
pub held_more : (bytes copy piece : List ℕ) (start end n : ℕ) → copy ≡ piece → length piece ≡ n → start ≤ end → end ≤ length bytes
    → held (put_mid end (end + n - end) bytes copy) start (end + n) ≡ held bytes start end ++ piece
held_more bytes copy piece start end n same size order within =
    let front : take (end + n) (put_mid end (end + n - end) bytes copy) ≡ take end bytes ++ copy =
    take-put_mid end (end + n - end) bytes copy (end + n) (omega (arith, ap length same, size)) within in
    ap (drop start) front ∙ drop-append-le start (take end bytes) copy (omega (arith, length-take-le end bytes within)) ∙ ap (λ (l : List ℕ). drop start (take end bytes) ++ l) same

set_front : (bytes : List ℕ) (end byte : ℕ) → end < length bytes → take (suc end) (slice_set bytes end byte) ≡ take end bytes ++ byte ∷ []
set_front [] end byte within = absurd (omega (arith, within))
set_front (b ∷ bytes) zero byte within = refl
set_front (b ∷ bytes) (suc end) byte within = ap (λ (l : List ℕ). b ∷ l) (set_front bytes end byte (omega (arith, within)))

-- and one byte after it
pub held_ended : (bytes : List ℕ) (start end byte : ℕ) → start ≤ end → end < length bytes → held (slice_set bytes end byte) start (end + 1) ≡ held bytes start end ++ byte ∷ []
held_ended bytes start end byte order within =
    let next : end + 1 ≡ suc end = omega arith in
    let front : take (end + 1) (slice_set bytes end byte) ≡ take end bytes ++ byte ∷ [] = ap (λ (n : ℕ). take n (slice_set bytes end byte)) next ∙ set_front bytes end byte within in
    ap (drop start) front ∙ drop-append-le start (take end bytes) (byte ∷ []) (omega (arith, order, length-take-le end bytes (omega (arith, within))))

-- ---- handed on, call by call
-- what is left after the bytes between two places, once these were taken
pub left_behind : (now after : Told) (bytes : List ℕ) (from at : ℕ) → from ≤ at → Receives now (take (at - from) (drop from bytes)) after
    → append_told after (drop at bytes) ≡ append_told now (drop from bytes)
left_behind now after bytes from at on h =
    let rest : drop at bytes ≡ drop (at - from) (drop from bytes) = ap (λ (n : ℕ). drop n bytes) (omega (arith, on)) ∙ sym (drop-drop (at - from) from bytes) in
    ap (append_told after) rest ∙ left_of now after (drop from bytes) (at - from) h

-- the bytes up to a place were taken, and then some
pub sends_more : (a b c : SinkShown) (bytes rest : List ℕ) (from at count : ℕ) → rest ≡ drop at bytes → from ≤ at → at ≤ length bytes → count ≤ length rest → (count ≡ 0 → ⊥)
    → SendsAll a (take (at - from) (drop from bytes)) b → Receives b.told (take count rest) c.told
    → c.counts ≡ write_counted {E = Failed} (length rest) (Ok count) b.counts → SendsAll a (take (at + count - from) (drop from bytes)) c
sends_more a b c bytes rest from at count same on within fits some sent given counted =
    let left : rest ≡ drop (at - from) (drop from bytes) = same ∙ ap (λ (n : ℕ). drop n bytes) (omega (arith, on)) ∙ sym (drop-drop (at - from) from bytes) in
    let size : at - from + count ≡ at + count - from = omega (arith, on) in
    subst (λ (n : ℕ). SendsAll a (take n (drop from bytes)) c) size
    (SendsAll_more a b c (drop from bytes) rest (at - from) count (length rest) left (omega (arith, within, length-drop from bytes)) fits some sent given counted)

-- the bytes up to a place were taken, and a write of the others failed
pub sends_broken : (a b c : SinkShown) (bytes rest : List ℕ) (from at : ℕ) → rest ≡ drop at bytes → from ≤ at → at ≤ length bytes → (length rest ≤ b.told.room → ⊥)
    → SendsAll a (take (at - from) (drop from bytes)) b → c.told ≡ b.told → c.counts.bytes ≡ b.counts.bytes → c.counts.faults ≡ raised b.counts.faults → WritesFew b.counts c.counts
    → SendsPart a (drop from bytes) c
sends_broken a b c bytes rest from at same on within past sent told count faults few =
    let size : length (take (at - from) (drop from bytes)) ≡ at - from = length-take-le _ _ (omega (arith, within, length-drop from bytes)) in
    record {
      told = record {
        count = at - from;
        within = omega (arith, within, length-drop from bytes);
        given = told ∙ sent.told;
        past_room = omega (arith, on, within, size, lt_of_not-le past, ap length same, ap (λ (t : Told). t.room) sent.told, length-drop at bytes, length-drop from bytes);
      };
      bytes = omega (arith, on, within, size, count, sent.bytes, length-drop from bytes);
      faults = faults ∙ ap raised sent.faults;
      few = WritesFew_then _ _ _ sent.few few;
    }

-- some bytes from the front of those that are held were handed on, up to a place
front_held : (bytes : List ℕ) (at place end : ℕ) → at ≤ place → place ≤ end → end ≤ length bytes
    → held bytes at end ≡ drop at (take place bytes) ++ held bytes place end
front_held bytes at place end from to within =
    let split : take end bytes ≡ take place bytes ++ held bytes place end =
    sym (take-append-drop place (take end bytes)) ∙ ap (λ (l : List ℕ). l ++ held bytes place end) (take-take place end bytes to) in
    ap (drop at) split ∙ drop-append-le at (take place bytes) (held bytes place end) (omega (arith, from, length-take-le place bytes (omega (arith, to, within))))

pub front_handed_on : (now after : Told) (bytes : List ℕ) (start at place end : ℕ) → start ≤ place → at ≤ place → place ≤ end → end ≤ length bytes
    → append_told after (drop at (take place bytes)) ≡ append_told now (drop start (take place bytes)) → told_with after bytes at end ≡ told_with now bytes start end
front_handed_on now after bytes start at place end from on to within left =
    let rest = held bytes place end in
    ap (append_told after) (front_held bytes at place end on to within) ∙ sym (append_told-append after (drop at (take place bytes)) rest)
    ∙ ap (λ (t : Told). append_told t rest) left
    ∙ append_told-append now (drop start (take place bytes)) rest ∙ ap (append_told now) (sym (front_held bytes start place end from to within))

-- so many bytes were counted, and so many more
raised_then : (n more count : ℕ) → raised_by (n + more) count ≡ raised_by more (raised_by n count)
raised_then n more count = omega arith

held_size : (bytes : List ℕ) (at place end : ℕ) → at ≤ place → place ≤ end → end ≤ length bytes → length (held bytes at end) ≡ length (take place bytes) - at + (end - place)
held_size bytes at place end on to within =
    length-drop at (take end bytes) ∙ omega (arith, on, to, length-take-le end bytes within, length-take-le place bytes (omega (arith, to, within)))

-- those that are held count as taken before and after
pub count_handed_on : (bytes : List ℕ) (start at place end after now : ℕ) → start ≤ place → at ≤ place → place ≤ end → end ≤ length bytes
    → raised_by (length (take place bytes) - at) after ≡ raised_by (length (take place bytes) - start) now
    → raised_by (length (held bytes at end)) after ≡ raised_by (length (held bytes start end)) now
count_handed_on bytes start at place end after now from on to within counted =
    ap (λ n. raised_by n after) (held_size bytes at place end on to within)
    ∙ raised_then (length (take place bytes) - at) (end - place) after
    ∙ ap (raised_by (end - place)) counted
    ∙ sym (raised_then (length (take place bytes) - start) (end - place) now)
    ∙ sym (ap (λ n. raised_by n now) (held_size bytes start place end from to within))

-- what has no room for the front of them has none for all
pub past_held : (bytes : List ℕ) (start place end room : ℕ) → place ≤ end → end ≤ length bytes
    → room < length (drop start (take place bytes)) → room < length (held bytes start end)
past_held bytes start place end room to within past =
    subst (λ n. room < n) (sym (length-drop start (take end bytes)))
    (omega (arith, past, to, length-drop start (take place bytes), length-take-le end bytes within, length-take-le place bytes (omega (arith, to, within))))

-- ---- at the end of a reply
-- What was handed on since the start, and then some rest that wasn't, is the front of a text.
broken : (start now : Told) (text rest : List ℕ) (c : ℕ) → HasBytesSince start now → HasRoomSince start now
    → bytes_then now.bytes rest ≡ bytes_then start.bytes (take c text) → c ≤ length text → start.room < length text → ReceivesPrefix start text now
broken start now text rest c bytes room same within past =
    by start.bytes now.bytes bytes room same (both start now bytes room) where
      by : (sb nb : Option (List ℕ)) → nb ≡ bytes_then sb (given_since sb nb (start.room - now.room)) → now.room ≡ start.room - length (given_since sb nb (start.room - now.room))
          → bytes_then nb rest ≡ bytes_then sb (take c text) → ◌≡◌ {A = Told} (record { bytes = nb; room = now.room }) (append_told (record { bytes = sb; room = start.room }) (given_since sb nb (start.room - now.room)))
          → ReceivesPrefix (record { bytes = sb; room = start.room }) text (record { bytes = nb; room = now.room })
      by None None bytes room same since_it = record {
        count = start.room - now.room;
        within = omega (arith, past);
        given = since_it ∙ ap (λ (k : ℕ). record { bytes = None; room = start.room - k }) (length-replicate {A = ℕ} (start.room - now.room) 0 ∙ sym (length-take-le (start.room - now.room) text (omega (arith, past))));
        past_room = past;
      }
      by None (Some vs) bytes room same since_it = absurd cc
      by (Some ws) None bytes room same since_it = absurd cc
      by (Some ws) (Some vs) bytes room same since_it =
          let gs = drop (length ws) vs in
          let whole : vs ≡ ws ++ gs = cc in
          let ended : vs ++ rest ≡ ws ++ take c text = cc in
          let joined : ws ++ (gs ++ rest) ≡ ws ++ take c text = sym (append_assoc ws gs rest) ∙ ap (λ (l : List ℕ). l ++ rest) (sym whole) ∙ ended in
          let front : gs ++ rest ≡ take c text = append_cancel_left ws (gs ++ rest) (take c text) joined in
          let less : length gs ≤ c = omega (arith, ap length front, length-append gs rest, length-take-le c text within) in
          let taken : take (length gs) text ≡ gs =
          sym (take-take (length gs) c text less) ∙ ap (take (length gs)) (sym front) ∙ take-append_seam gs rest in
          record {
            count = length gs;
            within = omega (arith, less, within);
            given = since_it ∙ ap (λ (l : List ℕ). append_told (record { bytes = Some ws; room = start.room }) l) (sym taken);
            past_room = past;
          }

-- ---- what is shown at the start, and at the end
-- nothing is held yet
pub nothing_held : (below : SinkShown) (bytes : List ℕ) (start end : ℕ) → held bytes start end ≡ [] → gathered below bytes start end ≡ begun below
nothing_held below bytes start end none =
    let told : told_with below.told bytes start end ≡ below.told = ap (append_told below.told) none ∙ append_told-nil below.told in
    let count : raised_by (length (held bytes start end)) below.counts.bytes ≡ below.counts.bytes = omega (arith, ap length none) in
    ap (λ t. record { told = t; counts = record { calls = uncounted; bytes = raised_by (length (held bytes start end)) below.counts.bytes; faults = below.counts.faults } }) told
    ∙ ap (λ n. record { told = below.told; counts = record { calls = uncounted; bytes = n; faults = below.counts.faults } }) count

-- what is shown over a sink, where these bytes are held
abbrev pub shows_kept : SinkShown → List ℕ → SinkShown
shows_kept below kept = record {
  told = append_told below.told kept;
  counts = record { calls = uncounted; bytes = raised_by (length kept) below.counts.bytes; faults = below.counts.faults };
}

-- it was broken off before
pub written_part : {T E : Type 0} (r : Result T E) (start now : SinkShown) (kept text : List ℕ) → IsTrue (is_err r) → HasBytesSince start.told now.told → HasRoomSince start.told now.told
    → WritesFew start.counts now.counts → Sends r text (begun start) (shows_kept now kept) → Sends r (text ++ 10 ∷ []) start now
written_part (Ok x) start now kept text h bytes room few sent = absurd cc
written_part (Err e) start now kept text h bytes room few sent =
    let part = sent.part.told in
    record {
      all = tt;
      part = record {
        told = ReceivesPrefix_more start.told now.told text (10 ∷ []) (broken start.told now.told text kept part.count bytes room (ap (λ (t : Told). t.bytes) part.given) part.within part.past_room);
        bytes = omega (arith, sent.part.bytes, length-append text (10 ∷ []));
        faults = sent.part.faults;
        few = few;
      };
    }

-- all was written, and what was held and the last line feed were handed on, or some of it
pub written_all : {T F E : Type 0} (r : Result T F) (h : Result (Unit {0}) E) (start now after : SinkShown) (kept text : List ℕ) → IsFalse (is_err r) → HasBytesSince start.told now.told
    → HasRoomSince start.told now.told → WritesFew start.counts now.counts → Sends r text (begun start) (shows_kept now kept) → Sends h (kept ++ 10 ∷ []) now after → Sends h (text ++ 10 ∷ []) start after
written_all (Err e) h start now after kept text fine bytes room few sent handed = absurd cc
written_all (Ok x) (Ok y) start now after kept text fine bytes room few sent handed = record {
  all = record {
    told = handed.all.told ∙ behind now.told start.told kept text sent.all.told;
    bytes = omega (arith, handed.all.bytes, sent.all.bytes, length-append kept (10 ∷ []), length-append text (10 ∷ []));
    faults = handed.all.faults ∙ sent.all.faults;
    few = WritesFew_then _ _ _ few handed.all.few;
  };
  part = tt;
}
written_all (Ok x) (Err e) start now after kept text fine bytes room few sent handed =
    let part = handed.part.told in
    let since_it = told_apart start.told after.told (since_more start.told now.told after.told _ bytes room part.given) in
    let all = kept ++ 10 ∷ [] in
    let size : take (length (text ++ 10 ∷ [])) (text ++ 10 ∷ []) ≡ text ++ 10 ∷ [] = take_all _ _ (omega arith) in
    record {
      all = tt;
      part = record {
        told = broken start.told after.told (text ++ 10 ∷ []) (drop part.count all) (length (text ++ 10 ∷ [])) since_it.0 since_it.1
            (ap (λ (t : Told). t.bytes) (left_of now.told after.told all part.count part.given ∙ behind now.told start.told kept text sent.all.told ∙ ap (append_told start.told) (sym size)))
            (omega arith)
            (omega (arith, ap (λ (t : Told). t.room) sent.all.told, part.past_room, length-append kept (10 ∷ []), length-append text (10 ∷ [])));
        bytes = omega (arith, handed.part.bytes, sent.all.bytes, length-append kept (10 ∷ []), length-append text (10 ∷ []));
        faults = handed.part.faults ∙ ap raised sent.all.faults;
        few = WritesFew_then _ _ _ few handed.part.few;
      };
    }
