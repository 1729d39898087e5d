-- How bytes fall into lines as more of them come, and how a run goes on by one line.
use Rattle.std.proofs.Common.{◌≡◌, ℕ, Bool, true, false, List, [], ◌∷◌, ◌++◌, refl, sym, ap, subst, ◌∙◌, append_assoc, append-nil, arith, Option, ltb, cond, length, get_or, map, take, drop, ◌≤◌, ◌+◌, suc, add-one, take_all, take-append-drop, drop-cons}
use Rattle.std.specs.Prelude.{◌==◌, ◌||◌}
use Rattle.std.specs.Prelude.{None, Some}
use Rattle.std.specs.List.{AllByRecursion, list_any, position, position_or_len}
use Rattle.std.proofs.lemmas.List.Quantifiers.{position-Some}
use Rattle.std.proofs.lemmas.List.{map-append}
use Rattle.std.proofs.lemmas.List.Folds.{list_any-append}
use Rattle.std.proofs.lemmas.Bool.Decides.{nat_tests}
use Rattle.si_defs.specs.Bytes.{Bytes}
use Rattle.si_steps.specs.Settings.{Setting}
use Rattle.si_steps.specs.Replies.{Reply}
use Rattle.si_state.specs.States.{State, empty_state}
use Rattle.si_state.specs.Harvest.{Files}
use Rattle.si_steps.specs.Loads.{Owed, nothing, together}
use Rattle.si_steps.specs.Steps.{Step}
use Rattle.si_session.proofs.EndedLines.{ended-append}
use Rattle.si_serve.specs.Lines.{IsLineEnd}
use Rattle.si_steps.specs.Runs.{ended, IsOneLine, SplitsLines, lines_at_end, Request, a_word, a_line, requests, Acts, GoesOn}
use Rattle.si_serve.specs.Shown.{ShowsAt, ShownRun}

-- ---- lines
each-append : (ls : List Bytes) (k : Bytes) → AllByRecursion IsOneLine ls → IsOneLine k → AllByRecursion IsOneLine (ls ++ k ∷ [])
each-append [] k each one = (one, tt)
each-append (l ∷ ls) k each one = (each.0, each-append ls k each.1 one)

pub IsOneLine-append : (a b : Bytes) → IsOneLine a → IsOneLine b → IsOneLine (a ++ b)
IsOneLine-append a b one two = rw (list_any-append, one, two) refl

-- no bytes have no lines
pub Splits_none : SplitsLines [] [] []
Splits_none = record { whole = refl; each = tt; last = refl }

-- bytes without a line feed belong to the line that was begun
pub Splits_more : (bytes : Bytes) (lines : List Bytes) (rest more : Bytes) → SplitsLines bytes lines rest → IsOneLine more → SplitsLines (bytes ++ more) lines (rest ++ more)
Splits_more bytes lines rest more s one = record {
  whole = ap (λ (b : Bytes). b ++ more) s.whole ∙ append_assoc (ended lines) rest more;
  each = s.each;
  last = IsOneLine-append rest more s.last one;
}

-- a line feed ends it
pub Splits_line : (bytes : Bytes) (lines : List Bytes) (rest : Bytes) → SplitsLines bytes lines rest → SplitsLines (bytes ++ 10 ∷ []) (lines ++ rest ∷ []) []
Splits_line bytes lines rest s = record {
  whole = ap (λ (b : Bytes). b ++ 10 ∷ []) s.whole ∙ append_assoc (ended lines) rest (10 ∷ [])
      ∙ sym (ended-append lines (rest ∷ [])) ∙ sym (append-nil (ended (lines ++ rest ∷ [])));
  each = each-append lines rest s.each s.last;
  last = refl;
}

-- all bytes fall into lines
abbrev pub Falls : Bytes → List Bytes → Type 0
Falls bytes lines = (others : List Bytes) × (end : Bytes) × SplitsLines bytes (lines ++ others) end

falls_by : (c : ℕ) (cs bytes : Bytes) (lines : List Bytes) (rest : Bytes) (b : Bool) → (c == 10) ≡ b → SplitsLines bytes lines rest
    → ((front : Bytes) (ls : List Bytes) (r : Bytes) → SplitsLines front ls r → Falls (front ++ cs) ls) → Falls (bytes ++ c ∷ cs) lines
falls_by c cs bytes lines rest true e s next =
    let is : c ≡ 10 = grind (arith, nat_tests) in
    let more = next (bytes ++ 10 ∷ []) (lines ++ rest ∷ []) [] (Splits_line bytes lines rest s) in (
      rest ∷ more.0,
      more.1,
      subst (λ (b : Bytes). SplitsLines b (lines ++ rest ∷ more.0) more.1) (append_assoc bytes (10 ∷ []) cs ∙ ap (λ (d : ℕ). bytes ++ d ∷ cs) (sym is))
          (subst (λ (ls : List Bytes). SplitsLines ((bytes ++ 10 ∷ []) ++ cs) ls more.1) (append_assoc lines (rest ∷ []) more.0) more.2),
    )
falls_by c cs bytes lines rest false e s next =
    let more = next (bytes ++ c ∷ []) lines (rest ++ c ∷ []) (Splits_more bytes lines rest (c ∷ []) s (rw e refl)) in
    (more.0, more.1, subst (λ (b : Bytes). SplitsLines b (lines ++ more.0) more.1) (append_assoc bytes (c ∷ []) cs) more.2)

pub Splits_any : (more bytes : Bytes) (lines : List Bytes) (rest : Bytes) → SplitsLines bytes lines rest → Falls (bytes ++ more) lines
Splits_any [] bytes lines rest s =
    ([], rest, subst (λ (b : Bytes). SplitsLines b (lines ++ []) rest) (sym (append-nil bytes)) (subst (λ (ls : List Bytes). SplitsLines bytes ls rest) (sym (append-nil lines)) s))
Splits_any (c ∷ cs) bytes lines rest s = falls_by c cs bytes lines rest (c == 10) refl s (Splits_any cs)

-- ---- one way to fall into lines
line_tail : (c : ℕ) (cs : Bytes) → IsOneLine (c ∷ cs) → (c ≡ 10 → ⊥) × IsOneLine cs
line_tail c cs one = by (c == 10) refl one where
  by : (b : Bool) → (c == 10) ≡ b → (b || list_any (λ d. d == 10) cs) ≡ false → (c ≡ 10 → ⊥) × IsOneLine cs
  by true e one = cc
  by false e one = (λ is. let feed : true ≡ false = sym (ap (λ (n : ℕ). n == 10) is) ∙ e in cc, one)

first_line : (a b xs ys : Bytes) → IsOneLine a → IsOneLine b → a ++ 10 ∷ xs ≡ b ++ 10 ∷ ys → (a ≡ b) × (xs ≡ ys)
first_line [] [] xs ys one two e = (refl, cc)
first_line [] (d ∷ ds) xs ys one two e = let is : d ≡ 10 = cc in absurd ((line_tail d ds two).0 is)
first_line (c ∷ cs) [] xs ys one two e = let is : c ≡ 10 = cc in absurd ((line_tail c cs one).0 is)
first_line (c ∷ cs) (d ∷ ds) xs ys one two e =
    let is : c ≡ d = cc in
    let left : cs ++ 10 ∷ xs ≡ ds ++ 10 ∷ ys = cc in
    let same = first_line cs ds xs ys (line_tail c cs one).1 (line_tail d ds two).1 left in
    (λ i. is i ∷ same.0 i, same.1)

no_line_feed : (rest before after : Bytes) → IsOneLine rest → rest ≡ before ++ 10 ∷ after → ⊥
no_line_feed rest before after one e =
    by (list_any (λ c. c == 10) before) (sym (list_any-append (λ (c : ℕ). c == 10) before (10 ∷ after)) ∙ subst IsOneLine e one) where
      by : (b : Bool) → (b || true) ≡ false → ⊥
      by true e = cc
      by false e = cc

same_lines : (ls ms : List Bytes) (r s : Bytes) → IsOneLine r → IsOneLine s → AllByRecursion IsOneLine ls → AllByRecursion IsOneLine ms → ended ls ++ r ≡ ended ms ++ s → ls ≡ ms
same_lines [] [] r s one two each all e = refl
same_lines [] (m ∷ ms) r s one two each all e = absurd (no_line_feed r m (ended ms ++ s) one (e ∙ append_assoc m (10 ∷ ended ms) s))
same_lines (l ∷ ls) [] r s one two each all e = absurd (no_line_feed s l (ended ls ++ r) two (sym e ∙ append_assoc l (10 ∷ ended ls) r))
same_lines (l ∷ ls) (m ∷ ms) r s one two each all e =
    let first = first_line l m (ended ls ++ r) (ended ms ++ s) each.0 all.0 (sym (append_assoc l (10 ∷ ended ls) r) ∙ e ∙ append_assoc m (10 ∷ ended ms) s) in
    let others = same_lines ls ms r s one two each.1 all.1 first.1 in
    λ i. first.0 i ∷ others i

pub Splits_one : (bytes : Bytes) (ls ms : List Bytes) (r s : Bytes) → SplitsLines bytes ls r → SplitsLines bytes ms s → ls ≡ ms
Splits_one bytes ls ms r s a b = same_lines ls ms r s a.last b.last a.each b.each (sym a.whole ∙ b.whole)

-- ---- the first line feed
one_line_before : (xs : Bytes) → IsOneLine (take (position_or_len (λ c. c == 10) xs) xs)
one_line_before [] = refl
one_line_before (x ∷ xs) = by (x == 10) refl (one_line_before xs) where
  by : (b : Bool) → (x == 10) ≡ b → IsOneLine (take (position_or_len (λ c. c == 10) xs) xs) → IsOneLine (take (position_or_len (λ c. c == 10) (x ∷ xs)) (x ∷ xs))
  by true e one = rw e refl
  by false e one =
      let next : 1 + position_or_len (λ c. c == 10) xs ≡ suc (position_or_len (λ c. c == 10) xs) = omega arith in
      rw (e, next, e) one

pub line_without_end : (bytes : Bytes) → None ≡ position (λ c. c == 10) bytes → IsOneLine bytes
line_without_end bytes none = by (ltb (position_or_len (λ c. c == 10) bytes) (length bytes)) refl none where
  by : (b : Bool) → ltb (position_or_len (λ c. c == 10) bytes) (length bytes) ≡ b → None ≡ cond b (Some (position_or_len (λ c. c == 10) bytes)) None → IsOneLine bytes
  by true e none = cc
  by false e none =
      let past : length bytes ≤ position_or_len (λ c. c == 10) bytes = grind (arith, nat_tests) in
      subst IsOneLine (take_all (position_or_len (λ c. c == 10) bytes) bytes past) (one_line_before bytes)

place_from : (bytes : Bytes) (at : ℕ) (b : Bool) → Some at ≡ cond b (Some (position_or_len (λ c. c == 10) bytes)) None → at ≡ position_or_len (λ c. c == 10) bytes
place_from bytes at true some = cc
place_from bytes at false some = cc

pub line_end : (bytes : Bytes) (at : ℕ) → Some at ≡ position (λ c. c == 10) bytes → IsLineEnd bytes at
line_end bytes at some =
    let found = position-Some (λ c. c == 10) bytes at 0 (sym some) in
    let here : at ≡ position_or_len (λ c. c == 10) bytes = place_from bytes at _ some in
    let feed : get_or bytes at 0 ≡ 10 = grind (arith, nat_tests, found.1) in
    record {
      within = found.0;
      line = subst (λ (n : ℕ). IsOneLine (take n bytes)) (sym here) (one_line_before bytes);
      parts = sym (take-append-drop at bytes) ∙ ap (λ (b : Bytes). take at bytes ++ b)
          (drop-cons bytes at 0 found.0 ∙ ap (λ (c : ℕ). c ∷ drop (suc at) bytes) feed ∙ ap (λ (n : ℕ). 10 ∷ drop n bytes) (sym (add-one at)));
    }

-- ---- the end of the input
pub lines_at_end-none : (lines : List Bytes) (rest : Bytes) → rest ≡ [] → lines_at_end lines rest ≡ lines
lines_at_end-none lines [] none = refl
lines_at_end-none lines (c ∷ cs) none = cc

pub lines_at_end-some : (lines : List Bytes) (rest : Bytes) → (rest ≡ [] → ⊥) → lines_at_end lines rest ≡ lines ++ rest ∷ []
lines_at_end-some lines [] some = absurd (some refl)
lines_at_end-some lines (c ∷ cs) some = refl

-- ---- runs
-- more lines are more requests
pub requests-append : (files lines others : List Bytes) → requests files (lines ++ others) ≡ requests files lines ++ map a_line others
requests-append files lines others =
    ap (λ (rs : List Request). map a_word files ++ rs) (map-append a_line lines others) ∙ sym (append_assoc (map a_word files) (map a_line lines) (map a_line others))

pub requests-more : (files lines : List Bytes) (line : Bytes) → requests files (lines ++ line ∷ []) ≡ requests files lines ++ a_line line ∷ []
requests-more files lines line = requests-append files lines (line ∷ [])

-- so are a line and those after it
pub requests-split : (files lines others : List Bytes) (line : Bytes) → requests files lines ++ a_line line ∷ map a_line others ≡ requests files ((lines ++ line ∷ []) ++ others)
requests-split files lines others line =
    sym (requests-append files lines (line ∷ others)) ∙ ap (requests files) (sym (append_assoc lines (line ∷ []) others))

-- ---- what is owed
-- nothing comes first or last
together_swapped : (due : Owed) → together nothing due ≡ together due nothing
together_swapped due =
    λ i. record { fetches = swap due.fetches i; misses = swap due.misses i; bigs = swap due.bigs i; failures = swap due.failures i } where
      swap : (n : ℕ) → 0 + n ≡ n + 0
      swap n = omega arith

together_assoc : (one two three : Owed) → together (together one two) three ≡ together one (together two three)
together_assoc one two three =
    λ i. record {
      fetches = assoc one.fetches two.fetches three.fetches i;
      misses = assoc one.misses two.misses three.misses i;
      bigs = assoc one.bigs two.bigs three.bigs i;
      failures = assoc one.failures two.failures three.failures i;
    } where
      assoc : (l m n : ℕ) → (l + m) + n ≡ l + (m + n)
      assoc l m n = omega arith

-- a run goes on by one request
pub Run_more : (setting : Setting) (told : Option Files) (strict : Bool) (old mid new : State) (done : List Request) (request : Request) (output : Bytes) (owed : Owed) (reply : Reply) (due : Owed)
    → ShownRun setting told strict old done output owed mid → Acts setting told mid request reply due new → GoesOn strict reply → ShowsAt setting mid request reply
    → ShownRun setting told strict old (done ++ request ∷ []) (output ++ ended reply) (together owed due) new
Run_more setting told strict old mid new [] request output owed reply due (run, shown) acts goes shows = (
  (
    reply,
    due,
    new,
    [],
    nothing,
    subst (λ (s : State). Acts setting told s request reply due new) run.2 acts,
    goes,
    (refl, refl, refl),
    ap (λ (b : Bytes). b ++ ended reply) run.0 ∙ sym (append-nil (ended reply)),
    ap (λ (o : Owed). together o due) run.1 ∙ together_swapped due,
  ),
  (subst (λ (s : State). ShowsAt setting s request reply) run.2 shows, tt),
)
Run_more setting told strict old mid new (r ∷ rs) request output owed reply due (run, shown) acts goes shows =
    let more = Run_more setting told strict run.2 mid new rs request run.3 run.4 reply due (run.7, shown.1) acts goes shows in (
      (
        run.0,
        run.1,
        run.2,
        run.3 ++ ended reply,
        together run.4 due,
        run.5,
        run.6,
        more.0,
        ap (λ (b : Bytes). b ++ ended reply) run.8 ∙ append_assoc (ended run.0) run.3 (ended reply),
        ap (λ (o : Owed). together o due) run.9 ∙ together_assoc run.1 run.4 due,
      ),
      (shown.0, more.1),
    )

-- by one line
pub Run_line : (setting : Setting) (told : Option Files) (strict : Bool) (mid new : State) (files lines : List Bytes) (line output : Bytes) (owed : Owed) (reply : Reply) (due : Owed)
    → ShownRun setting told strict empty_state (requests files lines) output owed mid → Step setting told mid line reply due new → GoesOn strict reply → ShowsAt setting mid (a_line line) reply
    → ShownRun setting told strict empty_state (requests files (lines ++ line ∷ [])) (output ++ ended reply) (together owed due) new
Run_line setting told strict mid new files lines line output owed reply due run step goes shows =
    subst (λ (rs : List Request). ShownRun setting told strict empty_state rs (output ++ ended reply) (together owed due) new) (sym (requests-more files lines line))
    (Run_more setting told strict empty_state mid new (requests files lines) (a_line line) output owed reply due run step goes shows)
