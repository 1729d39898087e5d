-- What one call after the other makes of the bytes that a sink was given and of those that a source
-- has left.
use Rattle.std.proofs.Common.{◌≡◌, ℕ, ◌+◌, ◌-◌, ◌≤◌, List, [], ◌++◌, Option, None, Some, IfSome, length, take, drop, refl, sym, ap, ◌∙◌, append_assoc, append-nil, arith, take-add, length-append, drop-drop, take-append-drop}
use Rattle.std.proofs.Math.Seq.{take-append-add, take-append_seam, drop-append_seam}
use Rattle.std.proofs.lemmas.List.{take-append-le}
use Rattle.si_io.specs.Content.{Told, bytes_then, append_told, prepend_told, Receives, ReceivesPrefix, Takes}
use Rattle.std.specs.Io.KnownBytes.{IsAtEnd}

-- Sinks

bytes_then-nil : (a : Option (List ℕ)) → bytes_then a [] ≡ a
bytes_then-nil None = refl
bytes_then-nil (Some ws) = ap (λ (l : List ℕ). Some l) (append-nil ws)

bytes_then-append : (a : Option (List ℕ)) (bs cs : List ℕ) → bytes_then (bytes_then a bs) cs ≡ bytes_then a (bs ++ cs)
bytes_then-append None bs cs = refl
bytes_then-append (Some ws) bs cs = ap (λ (l : List ℕ). Some l) (append_assoc ws bs cs)

-- two things that are told are the same where their parts are
told : (a b : Option (List ℕ)) (n m : ℕ) → a ≡ b → n ≡ m → ◌≡◌ {A = Told} (record { bytes = a; room = n }) (record { bytes = b; room = m })
told a b n m same room = ap (λ (t : Option (List ℕ)). record { bytes = t; room = n }) same ∙ ap (λ (k : ℕ). record { bytes = b; room = k }) room

pub append_told-nil : (a : Told) → append_told a [] ≡ a
append_told-nil a = told _ _ (a.room - 0) a.room (bytes_then-nil a.bytes) (omega arith)

pub append_told-append : (a : Told) (bs cs : List ℕ) → append_told (append_told a bs) cs ≡ append_told a (bs ++ cs)
append_told-append a bs cs =
    told _ _ (a.room - length bs - length cs) (a.room - length (bs ++ cs)) (bytes_then-append a.bytes bs cs) (omega (arith, length-append bs cs))

-- one text after the other
pub Receives_then : (a b c : Told) (bs cs : List ℕ) → Receives a bs b → Receives b cs c → Receives a (bs ++ cs) c
Receives_then a b c bs cs first second = second ∙ ap (λ (t : Told). append_told t cs) first ∙ append_told-append a bs cs

-- the bytes before n, and then m more of the same text
pub Receives_more : (a b c : Told) (bs : List ℕ) (n m : ℕ) → Receives a (take n bs) b → Receives b (take m (drop n bs)) c → Receives a (take (n + m) bs) c
Receives_more a b c bs n m first second = Receives_then a b c (take n bs) (take m (drop n bs)) first second ∙ ap (λ (l : List ℕ). append_told a l) (sym (take-add n m bs))

-- a prefix of a text is one of a longer text
pub ReceivesPrefix_more : (a b : Told) (bs cs : List ℕ) → ReceivesPrefix a bs b → ReceivesPrefix a (bs ++ cs) b
ReceivesPrefix_more a b bs cs part = record {
  count = part.count;
  within = omega (arith, length-append bs cs, part.within);
  given = part.given ∙ ap (λ (l : List ℕ). append_told a l) (sym (take-append-le part.count bs cs part.within));
  past_room = omega (arith, length-append bs cs, part.past_room);
}

-- all of a text, and then a prefix of the next
pub ReceivesPrefix_then : (a b c : Told) (bs cs : List ℕ) → Receives a bs b → ReceivesPrefix b cs c → ReceivesPrefix a (bs ++ cs) c
ReceivesPrefix_then a b c bs cs first part = record {
  count = length bs + part.count;
  within = omega (arith, length-append bs cs, part.within);
  given = Receives_then a b c bs (take part.count cs) first part.given ∙ ap (λ (l : List ℕ). append_told a l) (sym (take-append-add bs cs part.count));
  past_room = omega (arith, length-append bs cs, ap (λ (t : Told). t.room) first, part.past_room);
}

-- Sources

pub prepend_told-nil : (a : Option (List ℕ)) → prepend_told [] a ≡ a
prepend_told-nil None = refl
prepend_told-nil (Some rest) = refl

pub prepend_told-append : (bs cs : List ℕ) (a : Option (List ℕ)) → prepend_told bs (prepend_told cs a) ≡ prepend_told (bs ++ cs) a
prepend_told-append bs cs None = refl
prepend_told-append bs cs (Some rest) = ap (λ (l : List ℕ). Some l) (sym (append_assoc bs cs rest))

-- a source that gave nothing
pub Takes_none : (a b : Option (List ℕ)) → b ≡ a → Takes a [] b
Takes_none a b kept = sym kept ∙ sym (prepend_told-nil b)

-- one piece after the other
pub Takes_then : (a b c : Option (List ℕ)) (bs cs : List ℕ) → Takes a bs b → Takes b cs c → Takes a (bs ++ cs) c
Takes_then a b c bs cs first second = first ∙ ap (λ (t : Option (List ℕ)). prepend_told bs t) second ∙ prepend_told-append bs cs c

-- a source that doesn't tell goes on so
pub Takes_untold : (bs : List ℕ) (b : Option (List ℕ)) → Takes None bs b → b ≡ None
Takes_untold bs None taken = refl
Takes_untold bs (Some rest) taken = cc

-- one that tells had these bytes at the front
pub Takes_front : (ws bs : List ℕ) (b : Option (List ℕ)) → Takes (Some ws) bs b → take (length bs) ws ≡ bs
Takes_front ws bs None taken = cc
Takes_front ws bs (Some rest) taken = let same : ws ≡ bs ++ rest = cc in rw same (take-append_seam bs rest)

-- and has the rest left
pub Takes_rest : (ws bs : List ℕ) (b : Option (List ℕ)) → Takes (Some ws) bs b → b ≡ Some (drop (length bs) ws)
Takes_rest ws bs None taken = cc
Takes_rest ws bs (Some rest) taken = let same : ws ≡ bs ++ rest = cc in ap (λ (l : List ℕ). Some l) (sym (drop-append_seam bs rest) ∙ ap (drop (length bs)) (sym same))

-- which are no more than there were
pub Takes_bound : (ws bs : List ℕ) (b : Option (List ℕ)) → Takes (Some ws) bs b → length bs ≤ length ws
Takes_bound ws bs None taken = cc
Takes_bound ws bs (Some rest) taken = let same : ws ≡ bs ++ rest = cc in omega (arith, ap length same, length-append bs rest)

-- a source that was read to its end gave all that it had
pub Takes_all : (a b : Option (List ℕ)) (bs : List ℕ) → Takes a bs b → IsAtEnd b → IfSome a (λ ws. ws ≡ bs)
Takes_all None b bs taken ended = tt
Takes_all (Some ws) None bs taken ended = cc
Takes_all (Some ws) (Some rest) bs taken ended = let same : ws ≡ bs ++ rest = cc in same ∙ ap (λ (l : List ℕ). bs ++ l) ended ∙ append-nil bs

-- a copy of the next n bytes at the front of a slice, from bytes that are held as a list and a
-- place in it
pub Takes_copy : (bytes front behind : List ℕ) (at n : ℕ) → front ≡ take n (drop at bytes) → length front ≡ n → Takes (Some (drop at bytes)) (take n (front ++ behind)) (Some (drop (at + n) bytes))
Takes_copy bytes front behind at n copied size =
    let given : take n (front ++ behind) ≡ take n (drop at bytes) = rw (← size) (take-append_seam front behind ∙ copied ∙ ap (λ (m : ℕ). take m (drop at bytes)) (sym size)) in
    let rest : drop (at + n) bytes ≡ drop n (drop at bytes) = sym (drop-drop n at bytes) in
    rw (given, rest) (ap (λ (l : List ℕ). Some l) (sym (take-append-drop n (drop at bytes))))
