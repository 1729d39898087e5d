-- A text that is written piece by piece.
use Rattle.std.proofs.Common.{◌≡◌, ℕ, List, [], ◌++◌, Result, refl, sym, ap, subst, ◌∙◌, append_assoc, append-nil}
use Rattle.std.proofs.lemmas.Result.{on_ok_weaker, on_err_weaker}
use Rattle.si_io.specs.Shown.{SinkShown}
use Rattle.si_io.specs.Sends.{SendsAll, SendsPart, Sends}
use Rattle.si_io.proofs.Sends.{SendsAll-nil, SendsAll_then, SendsPart_then, SendsPart_more}

-- Some of the whole is written, and the rest is left.
pub record Wrote (old now : SinkShown) (whole rest : List ℕ) : Type 0 where
  pub done : List ℕ
  pub given : SendsAll old done now
  pub split : whole ≡ done ++ rest

pub wrote_none : (a : SinkShown) (whole : List ℕ) → Wrote a a whole whole
wrote_none a whole = record { done = []; given = SendsAll-nil a; split = refl }

-- one piece more
pub wrote_piece : (a b c : SinkShown) (whole rest piece left : List ℕ) → rest ≡ piece ++ left → Wrote a b whole rest → SendsAll b piece c → Wrote a c whole left
wrote_piece a b c whole rest piece left parts w more = record {
  done = w.done ++ piece;
  given = SendsAll_then a b c w.done piece w.given more;
  split = w.split ∙ ap (λ l. w.done ++ l) parts ∙ sym (append_assoc w.done piece left);
}

-- a part of a piece, at which the sink failed
pub wrote_part : (a b c : SinkShown) (whole rest piece left : List ℕ) → rest ≡ piece ++ left → Wrote a b whole rest → SendsPart b piece c → SendsPart a whole c
wrote_part a b c whole rest piece left parts w part =
    let joined : whole ≡ (w.done ++ piece) ++ left = w.split ∙ ap (λ l. w.done ++ l) parts ∙ sym (append_assoc w.done piece left) in
    let P : List ℕ → Type 0 = λ l. SendsPart a l c in
    subst P (sym joined) (SendsPart_more a c (w.done ++ piece) left (SendsPart_then a b c w.done piece w.given part))

-- all of it
pub wrote_all : (a b : SinkShown) (whole rest : List ℕ) → rest ≡ [] → Wrote a b whole rest → SendsAll a whole b
wrote_all a b whole rest none w =
    let all : whole ≡ w.done = w.split ∙ ap (λ l. w.done ++ l) none ∙ append-nil w.done in
    let P : List ℕ → Type 0 = λ l. SendsAll a l b in
    subst P (sym all) w.given

-- a text of which this is written, and then what a last call writes of the rest
pub puts_rest : {T E : Type 0} (r : Result T E) (a b c : SinkShown) (whole rest : List ℕ) → Wrote a b whole rest → Sends r rest b c → Sends r whole a c
puts_rest r a b c whole rest w p = record {
  all = on_ok_weaker r (λ h. wrote_all a c whole [] refl (wrote_piece a b c whole rest rest [] (sym (append-nil rest)) w h)) p.all;
  part = on_err_weaker r (wrote_part a b c whole rest rest [] (sym (append-nil rest)) w) p.part;
}

-- what is left has another form
pub wrote_as : (a b : SinkShown) (whole rest left : List ℕ) → rest ≡ left → Wrote a b whole rest → Wrote a b whole left
wrote_as a b whole rest left e w = record { done = w.done; given = w.given; split = w.split ∙ ap (λ l. w.done ++ l) e }
