-- What one call after the other makes of what a sink shows.
use Rattle.std.proofs.Common.{◌≡◌, ℕ, ◌+◌, ◌<◌, ◌≤◌, List, [], ◌++◌, Result, Ok, Err, length, take, drop, Bool, true, false, ◌&&◌, nat_lt, if◌then◌else◌, refl, sym, ap, ◌∙◌, subst, arith, length-take-le, length-drop, length-append}
use Rattle.std.proofs.lemmas.Bool.{ne_eqb, eq-eqb, lt-ltb}
use Rattle.si_io.specs.Content.{Receives}
use Rattle.si_io.specs.declared.counts.SinkCounts.{SinkCounts}
use Rattle.si_io.specs.declared.failed.Failed.{Failed}
use Rattle.si_io.specs.Counts.{none_of_some, raised, write_counted}
use Rattle.si_io.specs.Sends.{WritesFew, SendsAll, SendsPart, Sends}
use Rattle.si_io.specs.Faults.{HasCause}
use Rattle.si_io.specs.Shown.{SinkShown}
use Rattle.si_io.proofs.Content.{append_told-nil, Receives_then, Receives_more, ReceivesPrefix_then, ReceivesPrefix_more}

-- ---- few writes
pub WritesFew_none : (a : SinkCounts) → WritesFew a a
WritesFew_none a = record { bytes = omega arith; faults = omega arith; calls = λ b f. omega arith }

pub WritesFew_then : (a b c : SinkCounts) → WritesFew a b → WritesFew b c → WritesFew a c
WritesFew_then a b c first next = record {
  bytes = omega (arith, first.bytes, next.bytes);
  faults = omega (arith, first.faults, next.faults);
  calls = λ bytes faults. omega (
    arith,
    first.calls (omega (arith, next.bytes, bytes)) (omega (arith, next.faults, faults)),
    next.calls bytes faults,
  );
}

unfailed : (b : Bool) (x y : ℕ) → b ≡ false → (if b then x else y) ≡ y
unfailed true x y none = cc
unfailed false x y none = refl

failing : (b : Bool) (x y : ℕ) → b ≡ true → (if b then x else y) ≡ x
failing true x y some = refl
failing false x y some = cc

-- a write that took some bytes
pub faults_kept : (m size : ℕ) (before after : SinkCounts) → (m ≡ 0 → ⊥) → after ≡ write_counted {E = Failed} size (Ok m) before → after.faults ≡ before.faults
faults_kept m size before after some counted =
    let took : none_of_some m size ≡ false = ap (λ b. b && nat_lt 0 size) (ne_eqb m 0 some) in
    ap (λ (k : SinkCounts). k.faults) counted ∙ unfailed (none_of_some m size) _ _ took

pub few_some : (m size : ℕ) (before after : SinkCounts) → (m ≡ 0 → ⊥) → after ≡ write_counted {E = Failed} size (Ok m) before → WritesFew before after
few_some m size before after some counted =
    let bytes = ap (λ (k : SinkCounts). k.bytes) counted in
    let calls = ap (λ (k : SinkCounts). k.calls) counted in
    let faults = faults_kept m size before after some counted in
    record {
      bytes = omega (arith, bytes);
      faults = omega (arith, faults);
      calls = λ below _. omega (arith, bytes, calls, faults, some, below);
    }

-- one that took none of some
pub faults_raised : (m size : ℕ) (before after : SinkCounts) → m ≡ 0 → 0 < size → after ≡ write_counted {E = Failed} size (Ok m) before → after.faults ≡ raised before.faults
faults_raised m size before after none some counted =
    let stuck : none_of_some m size ≡ true = ap (λ b. b && nat_lt 0 size) (eq-eqb m 0 none) ∙ lt-ltb 0 size some in
    ap (λ (k : SinkCounts). k.faults) counted ∙ failing (none_of_some m size) _ _ stuck

pub few_none : (m size : ℕ) (before after : SinkCounts) → m ≡ 0 → 0 < size → after ≡ write_counted {E = Failed} size (Ok m) before → WritesFew before after
few_none m size before after none some counted =
    let bytes = ap (λ (k : SinkCounts). k.bytes) counted in
    let calls = ap (λ (k : SinkCounts). k.calls) counted in
    let faults = faults_raised m size before after none some counted in
    record {
      bytes = omega (arith, bytes);
      faults = omega (arith, faults);
      calls = λ _ below. omega (arith, bytes, calls, faults, none, below);
    }

-- one that failed
pub few_failed : (size : ℕ) (e : Failed) (before after : SinkCounts) → after ≡ write_counted size (Err e) before → WritesFew before after
few_failed size e before after counted =
    let bytes = ap (λ (k : SinkCounts). k.bytes) counted in
    let calls = ap (λ (k : SinkCounts). k.calls) counted in
    let faults = ap (λ (k : SinkCounts). k.faults) counted in
    record {
      bytes = omega (arith, bytes);
      faults = omega (arith, faults);
      calls = λ _ below. omega (arith, bytes, calls, faults, below);
    }

-- ---- one text after the other
-- nothing was sent
pub SendsAll-nil : (a : SinkShown) → SendsAll a [] a
SendsAll-nil a = record {
  told = sym (append_told-nil a.told);
  bytes = omega arith;
  faults = refl;
  few = WritesFew_none a.counts;
}

pub SendsAll_then : (a b c : SinkShown) (bs cs : List ℕ) → SendsAll a bs b → SendsAll b cs c → SendsAll a (bs ++ cs) c
SendsAll_then a b c bs cs first next = record {
  told = Receives_then _ _ _ bs cs first.told next.told;
  bytes = omega (arith, first.bytes, next.bytes, length-append bs cs);
  faults = next.faults ∙ first.faults;
  few = WritesFew_then _ _ _ first.few next.few;
}

-- a prefix of a text is one of a longer text
pub SendsPart_more : (a b : SinkShown) (bs cs : List ℕ) → SendsPart a bs b → SendsPart a (bs ++ cs) b
SendsPart_more a b bs cs part = record {
  told = ReceivesPrefix_more _ _ bs cs part.told;
  bytes = omega (arith, part.bytes, length-append bs cs);
  faults = part.faults;
  few = part.few;
}

-- all of a text, and then a prefix of the next
pub SendsPart_then : (a b c : SinkShown) (bs cs : List ℕ) → SendsAll a bs b → SendsPart b cs c → SendsPart a (bs ++ cs) c
SendsPart_then a b c bs cs first part = record {
  told = ReceivesPrefix_then _ _ _ bs cs first.told part.told;
  bytes = omega (arith, first.bytes, part.bytes, length-append bs cs);
  faults = part.faults ∙ ap raised first.faults;
  few = WritesFew_then _ _ _ first.few part.few;
}

-- all of a text, and then what a call writes of the next
pub Sends_then : {T E : Type 0} (r : Result T E) (a b c : SinkShown) (bs cs : List ℕ) → SendsAll a bs b → Sends r cs b c → Sends r (bs ++ cs) a c
Sends_then (Ok x) a b c bs cs first next = record { all = SendsAll_then a b c bs cs first next.all; part = tt }
Sends_then (Err e) a b c bs cs first next = record { all = tt; part = SendsPart_then a b c bs cs first next.part }

-- what a function owes that writes one text after the other: name it in the function's `using`
pub ruleset sends = (SendsAll_then, SendsPart_then, SendsPart_more, Sends_then)

-- ---- the writes of one text
-- one write more, which took some bytes
pub SendsAll_more : (a b c : SinkShown) (bs rest : List ℕ) (n m size : ℕ) → rest ≡ drop n bs → n ≤ length bs → m ≤ length rest → (m ≡ 0 → ⊥) → SendsAll a (take n bs) b → Receives b.told (take m rest) c.told
    → c.counts ≡ write_counted {E = Failed} size (Ok m) b.counts → SendsAll a (take (n + m) bs) c
SendsAll_more a b c bs rest n m size same within fits some sent given counted =
    let left : length rest ≡ length (drop n bs) = ap length same in
    let before : length (take n bs) ≡ n = length-take-le n bs within in
    let after : length (take (n + m) bs) ≡ n + m = length-take-le (n + m) bs (omega (arith, left, fits, within, length-drop n bs)) in
    let bytes = ap (λ (k : SinkCounts). k.bytes) counted in
    record {
      told = Receives_more _ _ _ bs n m sent.told (subst (λ (l : List ℕ). Receives b.told (take m l) c.told) same given);
      bytes = omega (arith, before, after, bytes, sent.bytes);
      faults = faults_kept m size b.counts c.counts some counted ∙ sent.faults;
      few = WritesFew_then _ _ _ sent.few (few_some m size b.counts c.counts some counted);
    }

-- one write, which took some bytes
pub SendsAll_once : (a b : SinkShown) (bs : List ℕ) (n : ℕ) → n ≤ length bs → (n ≡ 0 → ⊥) → Receives a.told (take n bs) b.told
    → b.counts ≡ write_counted {E = Failed} (length bs) (Ok n) a.counts → SendsAll a (take n bs) b
SendsAll_once a b bs n within some given counted = record {
  told = given;
  bytes = omega (arith, length-take-le n bs within, ap (λ (k : SinkCounts). k.bytes) counted);
  faults = faults_kept n (length bs) a.counts b.counts some counted;
  few = few_some n (length bs) a.counts b.counts some counted;
}

-- what is said of the faults alone
pub Sends_cause : {T E : Type 0} (r : Result T E) (bs : List ℕ) (a b : SinkShown) → Sends r bs a b → HasCause a.counts.faults b.counts.faults r
Sends_cause (Ok x) bs a b sent = record { later = omega (arith, sent.all.faults); kept = sent.all.faults; failed = tt }
Sends_cause (Err e) bs a b sent = record { later = omega (arith, sent.part.faults); kept = tt; failed = sent.part.faults }
