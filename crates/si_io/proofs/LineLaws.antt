-- Texts of lines, one after the other.
use Rattle.std.proofs.Common.{◌≡◌, ℕ, zero, suc, ◌+◌, ◌-◌, ◌<◌, ◌≤◌, List, [], ◌∷◌, ◌++◌, Result, Ok, Err, sym, ap, subst, ◌∙◌, append-nil, arith}
use Rattle.std.proofs.lemmas.List.Folds.{concat-append}
use Rattle.std.specs.Prelude.{IsErrAnd}
use Rattle.std.specs.List.{AllZip, concat, range_with_len}
use Rattle.si_io.specs.declared.failed.Failed.{Failed}
use Rattle.si_io.specs.Shown.{SinkShown}
use Rattle.si_io.specs.Sends.{SendsAll, SendsPart, Sends}
use Rattle.si_io.specs.Lines.{HaveTexts, WritesLines}
use Rattle.si_io.proofs.Sends.{SendsAll-nil, SendsAll_then, SendsPart_then, SendsPart_more, Sends_then}

module _ (line : ℕ → List ℕ → Type 0) where
  -- some, and then more
  texts-append : (from m n mid whole : ℕ) (xs ys : List (List ℕ)) → m + from ≡ mid → m + n ≡ whole → AllZip line (range_with_len from m) xs → AllZip line (range_with_len mid n) ys → AllZip line (range_with_len from whole) (xs ++ ys)
  texts-append from zero n mid whole [] ys at sum h k =
      let here : mid ≡ from = omega (arith, at) in
      let all : n ≡ whole = omega (arith, sum) in
      subst (λ (w : ℕ). AllZip line (range_with_len from w) ys) all (subst (λ (i : ℕ). AllZip line (range_with_len i n) ys) here k)
  texts-append from zero n mid whole (x ∷ xs) ys at sum h k = absurd h
  texts-append from (suc m) n mid zero xs ys at sum h k = absurd (omega (arith, sum))
  texts-append from (suc m) n mid (suc whole) [] ys at sum h k = absurd h
  texts-append from (suc m) n mid (suc whole) (x ∷ xs) ys at sum h k =
      (h.0, texts-append (from + 1) m n mid whole xs ys (omega (arith, at)) (omega (arith, sum)) h.1 k)

  -- one more after them
  texts-more : (n : ℕ) (xs : List (List ℕ)) (text : List ℕ) → AllZip line (range_with_len 0 n) xs → line n text → AllZip line (range_with_len 0 (n + 1)) (xs ++ text ∷ [])
  texts-more n xs text h l = texts-append 0 n 1 n (n + 1) xs (text ∷ []) (omega arith) (omega arith) h (l, tt)

  -- all that are left
  texts-left : (count : ℕ) → HaveTexts line count → (from many : ℕ) → from + many ≤ count → (texts : List (List ℕ)) × AllZip line (range_with_len from many) texts
  texts-left count has from zero within = ([], tt)
  texts-left count has from (suc many) within =
      let this = has from (omega (arith, within)) in
      let others = texts-left count has (from + 1) many (omega (arith, within)) in
      (this.0 ∷ others.0, (this.1, others.1))

  -- The first lines were written.
  pub record WroteTo (n : ℕ) (before now : SinkShown) : Type 0 where
    pub texts : List (List ℕ)
    pub are : AllZip line (range_with_len 0 n) texts
    pub sent : SendsAll before (concat texts) now

  pub wrote_none : (before : SinkShown) → WroteTo 0 before before
  wrote_none before = record { texts = []; are = tt; sent = SendsAll-nil before }

  with_this : (xs : List (List ℕ)) (text : List ℕ) → concat (xs ++ text ∷ []) ≡ concat xs ++ text
  with_this xs text = concat-append xs (text ∷ []) ∙ ap (λ (l : List ℕ). concat xs ++ l) (append-nil text)

  pub wrote_more : (n : ℕ) (before now after : SinkShown) → WroteTo n before now → (h : (text : List ℕ) × line n text × SendsAll now text after) → WroteTo (n + 1) before after
  wrote_more n before now after w h = record {
    texts = w.texts ++ h.0 ∷ [];
    are = texts-more n w.texts h.0 w.are h.1;
    sent = subst (λ (l : List ℕ). SendsAll before l after) (sym (with_this w.texts h.0)) (SendsAll_then before now after (concat w.texts) h.0 w.sent h.2);
  }

  pub wrote_all : (n count : ℕ) (before now : SinkShown) → n ≡ count → WroteTo n before now → WritesLines {T = Unit {0}} {E = Failed} line count [] (Ok (tt {0})) before now
  wrote_all n count before now is w = (
    w.texts,
    subst (λ (m : ℕ). AllZip line (range_with_len 0 m) w.texts) is w.are,
    record { all = subst (λ (l : List ℕ). SendsAll before l now) (sym (append-nil (concat w.texts))) w.sent; part = tt },
  )

  -- the sink failed at this one
  pub wrote_part : (count n : ℕ) → n < count → HaveTexts line count → (r : Result (Unit {0}) Failed) (e : Failed) (before now after : SinkShown) → IsErrAnd r (λ x. x ≡ e) → WroteTo n before now
      → (h : (text : List ℕ) × line n text × SendsPart now text after) → WritesLines line count [] r before after
  wrote_part count n less has (Ok done) e before now after is w h = absurd is
  wrote_part count n less has (Err x) e before now after is w h =
      let these = w.texts ++ h.0 ∷ [] in
      let others = texts-left count has (n + 1) (count - (n + 1)) (omega (arith, less)) in
      let whole : concat (these ++ others.0) ++ [] ≡ (concat w.texts ++ h.0) ++ concat others.0 =
      append-nil (concat (these ++ others.0)) ∙ concat-append these others.0 ∙ ap (λ (l : List ℕ). l ++ concat others.0) (with_this w.texts h.0) in (
        these ++ others.0,
        texts-append 0 (n + 1) (count - (n + 1)) (n + 1) count these others.0 (omega arith) (omega (arith, less)) (texts-more n w.texts h.0 w.are h.1) others.1,
        record {
          all = tt;
          part = subst (λ (l : List ℕ). SendsPart before l after) (sym whole)
              (SendsPart_more before after (concat w.texts ++ h.0) (concat others.0) (SendsPart_then before now after (concat w.texts) h.0 w.sent h.2));
        },
      )

  -- and then the last line
  pub wrote_last : (count : ℕ) (last : List ℕ) (r : Result (Unit {0}) Failed) (before now after : SinkShown) → WritesLines {T = Unit {0}} {E = Failed} line count [] (Ok (tt {0})) before now → Sends r last now after
      → WritesLines line count last r before after
  wrote_last count last r before now after h sent =
      (h.0, h.1, Sends_then r before now after (concat h.0) last (subst (λ (l : List ℕ). SendsAll before l now) (append-nil (concat h.0)) h.2.all) sent)

  pub wrote_broken : (count : ℕ) (last : List ℕ) (r : Result (Unit {0}) Failed) (e : Failed) (before now : SinkShown) → IsErrAnd r (λ x. x ≡ e) → WritesLines {T = Unit {0}} {E = Failed} line count [] (Err e) before now
      → WritesLines line count last r before now
  wrote_broken count last (Ok done) e before now is h = absurd is
  wrote_broken count last (Err x) e before now is h =
      (h.0, h.1, record { all = tt; part = SendsPart_more before now (concat h.0) last (subst (λ (l : List ℕ). SendsPart before l now) (append-nil (concat h.0)) h.2.part) })

  -- no line stands before the last one
  pub only_last : (last : List ℕ) (r : Result (Unit {0}) Failed) (before after : SinkShown) → WritesLines line 0 last r before after → Sends r last before after
  only_last last r before after h = by h.0 h.1 h.2 where
    by : (texts : List (List ℕ)) → AllZip line [] texts → Sends r (concat texts ++ last) before after → Sends r last before after
    by [] none sent = sent
    by (text ∷ texts) none sent = absurd none
