-- The piece that was read stands right after what was filled before.
use Rattle.std.proofs.Common.{◌≡◌, ℕ, ◌+◌, List, ◌++◌, Result, Ok, Err, OnOk, length, take, drop, ap, subst, sym, ◌∙◌, arith, take-add}
use Rattle.std.specs.Prelude.{is_err, false}
use Rattle.std.proofs.Math.Seq.{take-append_seam}
use Rattle.std.proofs.KnownBytes.{Consumes-trans}
use Rattle.std.specs.Io.KnownBytes.{Consumes}
use Rattle.si_io.proofs.real.library.read_file.Goals as goal

ok_so : {T E P : Type 0} (r : Result T E) → is_err r ≡ false → OnOk r P → P
ok_so (Ok x) ok p = p
ok_so (Err e) ok p = cc

-- of what is written over the first bytes of a list only the new bytes are seen
written : (new rest : List ℕ) (len n : ℕ) → length new ≡ len → take n (take len (new ++ rest)) ≡ take n new
written new rest len n size = ap (take n) (ap (λ (m : ℕ). take m (new ++ rest)) (sym size) ∙ take-append_seam new rest)

pub loop-filled-preserved : goal.loop-filled-preserved
loop-filled-preserved g c =
    let filled = c.loop-filled.filled in
    let count = c.in-Ok.count in
    let new = c.read_after.new.into in
    let len = c.make_room.new.into.len in
    let behind = drop (length new) c.make_room.new.into.items in
    let ok : is_err c.make_room.result ≡ false = cc (c.is_err.ensures.value, c.if-is_err.false) in
    let size : length new ≡ len = omega (arith, c.read_after.auto.into, c.deref_mut.ensures.len) in
    let front : take filled new ≡ take filled c.loop-filled.into.items =
    c.in-Ok.ensures.front ∙ ap (take filled) c.deref_mut.ensures.value ∙ ok_so c.make_room.result ok c.make_room.ensures.front in
    let all : take (filled + count) new ≡ take filled c.loop-filled.into.items ++ take count (drop filled new) =
    take-add filled count new ∙ ap (λ (l : List ℕ). l ++ take count (drop filled new)) front in
    let P : List ℕ → Type 0 = λ l. Consumes (g.F.Input.rest c.args.file.now) (g.F.Input.rest c.read_after.new.file) l in
    record {
      within = omega (arith, c.in-Ok.ensures.bound, size);
      room = ok_so c.make_room.result ok c.make_room.ensures.bound;
      taken = subst P (sym (written new behind len (filled + count) size ∙ all)) (Consumes-trans _ _ _ _ _ c.loop-filled.invariant.taken c.in-Ok.ensures.given);
    }
