-- The tokens of some bytes without annotations, one more at each step.
use Rattle.std.proofs.Common.{◌≡◌, ℕ, zero, suc, ◌+◌, ◌<◌, ◌≤◌, Bool, true, false, not, List, [], ◌∷◌, ◌++◌, length, drop, IsTrue, refl, ap, sym, ◌∙◌, subst, ◌⊎◌, inl, inr, append_assoc, arith}
use Rattle.std.proofs.lemmas.Bool.{false≢true}
use Rattle.std.proofs.lemmas.List.{map_push, map-append, length-map}
use Rattle.si_defs.specs.Bytes.{Bytes}
use Rattle.si_defs.specs.Tokens.{Token, NextToken, Begins}
use Rattle.si_defs.specs.Grammar.{open_behind, nesting, nesting_from, comma, right_bracket}
use Rattle.si_defs.specs.declared.TheConstants.{DEEPEST_NESTING}
use Rattle.si_defs.proofs.TokenLaws.{begins_append}
use Rattle.si_lex.specs.declared.lexeme.Lexeme.{Lexeme}
use Rattle.si_lex.specs.declared.lexing.Lexing.{Lexing}
use Rattle.si_lex.specs.declared.lexing.TokensEnd.TheVariants.{End, Bad, FullStop}
use Rattle.si_lex.specs.Annotations.{IsComma, HasNoComma, BeginsClause, LeavesOut, IsBriefUpTo, IsPastAnnotations}
use Rattle.si_lex.specs.FullStops.{IsFullStop, HasNoFullStop, depth_from}
use Rattle.si_lex.specs.Lexemes.{token_of, tokens_of}
use Rattle.si_lex.specs.Lexing.{AreTokensUpTo}
use Rattle.si_lex.specs.Places.{IsBehindBlanks, IsLexemeAt, NoTokenWithin}
use Rattle.si_lex.proofs.LexingLaws.{IsSoFar, so_far_none, so_far_more, nesting_from-append, depth_append, no_stop_append, next_at, lexing_end, lexing_bad, lexing_stop}

-- ---- some more tokens at once
so_far_past : (item : Bool) (bytes : Bytes) (at start : ℕ) (all extra : List Lexeme) (depth place end next : ℕ) (s : IsSoFar item bytes at start all depth place)
    → Begins s.rest (tokens_of extra) (drop end bytes) → nesting_from depth (tokens_of extra) ≤ DEEPEST_NESTING → HasNoFullStop depth (tokens_of extra) → depth_from depth (tokens_of extra) ≡ 0
    → place ≤ next → IsBehindBlanks bytes (drop end bytes) next → IsSoFar item bytes at start (all ++ extra) 0 next
so_far_past item bytes at start all extra depth place end next s begins nested no_stop closed onward behind =
    let ts = tokens_of all in
    let us = tokens_of extra in
    let same : tokens_of (all ++ extra) ≡ ts ++ us = map-append token_of all extra in
    let whole = nesting_from-append 0 ts us in
    let deeper : nesting_from (depth_from 0 ts) us ≤ DEEPEST_NESTING = subst (λ d. nesting_from d us ≤ DEEPEST_NESTING) s.opened nested in
    record {
      rest = drop end bytes;
      from = s.from;
      onward = omega (arith, s.onward, onward);
      first = s.first;
      behind = behind;
      begins = subst (λ x. Begins (drop at bytes) x (drop end bytes)) (sym same) (begins_append ts us (drop at bytes) s.rest (drop end bytes) s.begins begins);
      nested = subst (λ x. nesting x ≤ DEEPEST_NESTING) (sym same) (omega (arith, whole, deeper, s.nested));
      opened = sym (ap (depth_from 0) same ∙ depth_append 0 ts us ∙ ap (λ d. depth_from d us) (sym s.opened) ∙ closed);
      shallow = omega arith;
      no_stop = λ i. subst (λ x. HasNoFullStop 0 x) (sym same) (no_stop_append 0 ts us (s.no_stop i) (subst (λ d. HasNoFullStop d us) s.opened no_stop));
    }

-- ---- commas
no_comma_push : (n d : ℕ) (ts : List Token) (t : Token) → HasNoComma n d ts → (n ≤ length ts → IsComma (depth_from d ts) t → ⊥) → HasNoComma n d (ts ++ t ∷ [])
no_comma_push zero d [] t h k = (k (omega arith), tt)
no_comma_push (suc n) d [] t h k = tt
no_comma_push zero d (u ∷ us) t h k = (h.0, no_comma_push zero (open_behind d u) us t h.1 (λ l. k (omega arith)))
no_comma_push (suc n) d (u ∷ us) t h k = no_comma_push n (open_behind d u) us t h (λ l. k (omega (arith, l)))

-- ---- annotations left out
-- one more token after them
leaves_more : (ts left : List Token) (t : Token) → LeavesOut ts left → LeavesOut (ts ++ t ∷ []) (left ++ t ∷ [])
leaves_more ts left t h = record {
  front = h.front;
  notes = h.notes;
  rest = h.rest ++ t ∷ [];
  word = h.word;
  long = h.long;
  depth = h.depth;
  no_comma = h.no_comma;
  no_stop = h.no_stop;
  some = h.some;
  balanced = h.balanced;
  whole = ap (λ x. x ++ t ∷ []) h.whole ∙ append_assoc (h.front ++ comma ∷ h.notes) (right_bracket ∷ h.rest) (t ∷ []);
  without = ap (λ x. x ++ t ∷ []) h.without ∙ append_assoc h.front (right_bracket ∷ h.rest) (t ∷ []);
}

-- ---- the tokens so far
-- All tokens up to a place, and those that are kept of them. Until a comma with one bracket open
-- stands after six tokens, these are the same.
pub record IsKept (item tried : Bool) (bytes : Bytes) (at start : ℕ) (tokens : List Lexeme) (depth place : ℕ) : Type 0 where
  pub all : List Lexeme
  pub so_far : IsSoFar item bytes at start all depth place
  pub wanted : tried ≡ false → IsTrue item
  pub kept : ((all ≡ tokens) × (tried ≡ false → HasNoComma 6 0 (tokens_of all)))
      ⊎ (IsTrue item × (tried ≡ false → ⊥) × LeavesOut (tokens_of all) (tokens_of tokens))

pub kept_none : (item : Bool) (bytes : Bytes) (at start : ℕ) (tokens : List Lexeme) → tokens ≡ [] → at ≤ start → IsBehindBlanks bytes (drop at bytes) start → IsKept item (not item) bytes at start tokens 0 start
kept_none item bytes at start tokens e l b = record {
  all = [];
  so_far = so_far_none item bytes at start l b;
  wanted = wanted item;
  kept = inl (sym e, λ f. tt);
} where
  wanted : (item : Bool) → not item ≡ false → IsTrue item
  wanted true f = refl
  wanted false f = absurd (false≢true (sym f))

module _ (item tried : Bool) (bytes : Bytes) (at start : ℕ) (tokens : List Lexeme) (depth place : ℕ) (s : IsKept item tried bytes at start tokens depth place) (w : place < length bytes)
    (l : Lexeme) (k : IsLexemeAt bytes place l) where
  pub kept_more : (then_tried : Bool) (next : ℕ) → (then_tried ≡ false → (tried ≡ false) × (6 ≤ length tokens → IsComma depth (token_of l) → ⊥)) → open_behind depth (token_of l) ≤ DEEPEST_NESTING
      → (IsTrue item → IsFullStop depth (token_of l) → ⊥) → place + length l.spelling.now ≤ next → IsBehindBlanks bytes (drop (place + length l.spelling.now) bytes) next
      → IsKept item then_tried bytes at start (tokens ++ l ∷ []) (open_behind depth (token_of l)) next
  kept_more then_tried next not_yet shallow no_stop m b = record {
    all = s.all ++ l ∷ [];
    so_far = so_far_more item bytes at start s.all depth place next l s.so_far w k shallow no_stop m b;
    wanted = λ e. s.wanted (not_yet e).0;
    kept = by s.kept;
  } where
    none_yet : (s.all ≡ tokens) → (tried ≡ false → HasNoComma 6 0 (tokens_of s.all)) → then_tried ≡ false → HasNoComma 6 0 (tokens_of (s.all ++ l ∷ []))
    none_yet same none e =
        subst (λ x. HasNoComma 6 0 x) (sym (map_push token_of s.all l))
        (no_comma_push 6 0 (tokens_of s.all) (token_of l) (none (not_yet e).0) (λ long here.
        (not_yet e).1 (omega (arith, long, length-map s.all token_of, ap length same)) (s.so_far.opened ∙ here.0, here.1)))

    by : ((s.all ≡ tokens) × (tried ≡ false → HasNoComma 6 0 (tokens_of s.all))) ⊎ (IsTrue item × (tried ≡ false → ⊥) × LeavesOut (tokens_of s.all) (tokens_of tokens))
        → ((s.all ++ l ∷ [] ≡ tokens ++ l ∷ []) × (then_tried ≡ false → HasNoComma 6 0 (tokens_of (s.all ++ l ∷ []))))
        ⊎ (IsTrue item × (then_tried ≡ false → ⊥) × LeavesOut (tokens_of (s.all ++ l ∷ [])) (tokens_of (tokens ++ l ∷ [])))
    by (inl (same, none)) = inl (ap (λ x. x ++ l ∷ []) same, none_yet same none)
    by (inr (i, n, out)) =
        inr (
          i,
          λ e. n (not_yet e).0,
          subst (λ x. LeavesOut x (tokens_of (tokens ++ l ∷ []))) (sym (map_push token_of s.all l))
              (subst (λ x. LeavesOut (tokens_of s.all ++ token_of l ∷ []) x) (sym (map_push token_of tokens l)) (leaves_more (tokens_of s.all) (tokens_of tokens) (token_of l) out)),
        )

  -- annotations after it, up to and with the bracket that closes the clause
  pub kept_past : (bracket : Lexeme) (end next : ℕ) → tried ≡ false → IsComma depth (token_of l) → 6 ≤ length tokens → BeginsClause (tokens_of tokens)
      → IsPastAnnotations bytes (place + length l.spelling.now) bracket end → end ≤ next → IsBehindBlanks bytes (drop end bytes) next
      → IsKept item true bytes at start (tokens ++ bracket ∷ []) 0 next
  kept_past bracket end next first is_comma six word p m b = by s.kept where
    far : IsSoFar item bytes at start s.all 1 place
    far = subst (λ d. IsSoFar item bytes at start s.all d place) is_comma.0 s.so_far

    behind_comma : ℕ
    behind_comma = place + length l.spelling.now

    extra : List Lexeme
    extra = l ∷ (p.notes ++ bracket ∷ [])

    notes : List Token
    notes = tokens_of p.notes

    spelled : tokens_of extra ≡ comma ∷ notes ++ right_bracket ∷ []
    spelled = ap (λ x. x ∷ tokens_of (p.notes ++ bracket ∷ [])) is_comma.1 ∙ ap (λ x. comma ∷ x) (map_push token_of p.notes bracket ∙ ap (λ x. notes ++ x ∷ []) p.closes)

    begins : Begins far.rest (comma ∷ notes ++ right_bracket ∷ []) (drop end bytes)
    begins = (
      drop behind_comma bytes,
      subst (λ t. NextToken far.rest t (drop behind_comma bytes)) is_comma.1 (next_at bytes far.rest place l far.behind w k),
      begins_append notes (right_bracket ∷ []) (drop behind_comma bytes) p.rest (drop end bytes) p.begins (drop end bytes, subst (λ t. NextToken p.rest t (drop end bytes)) p.closes p.next, refl),
    )

    closing : nesting_from (depth_from 1 notes) (right_bracket ∷ []) ≡ nesting_from 1 (right_bracket ∷ [])
    closing = ap (λ d. nesting_from d (right_bracket ∷ [])) p.depth

    nested : nesting_from 1 (comma ∷ notes ++ right_bracket ∷ []) ≤ DEEPEST_NESTING
    nested = omega (arith, nesting_from-append 1 notes (right_bracket ∷ []), closing, p.nested)

    inside : (t : Token) → IsFullStop 1 t → ⊥
    inside t h = absurd (omega (arith, h.0))

    no_stop : HasNoFullStop 1 (comma ∷ notes ++ right_bracket ∷ [])
    no_stop = (inside comma, no_stop_append 1 notes (right_bracket ∷ []) p.no_stop (subst (λ d. HasNoFullStop d (right_bracket ∷ [])) (sym p.depth) (inside right_bracket, tt)))

    closed : depth_from 1 (comma ∷ notes ++ right_bracket ∷ []) ≡ 0
    closed = depth_append 1 notes (right_bracket ∷ []) ∙ ap (λ d. depth_from d (right_bracket ∷ [])) p.depth

    onward : place ≤ next
    onward = omega (arith, p.onward, m)

    so_far : IsSoFar item bytes at start (s.all ++ extra) 0 next
    so_far =
        so_far_past item bytes at start s.all extra 1 place end next far (subst (λ x. Begins far.rest x (drop end bytes)) (sym spelled) begins)
        (subst (λ x. nesting_from 1 x ≤ DEEPEST_NESTING) (sym spelled) nested) (subst (λ x. HasNoFullStop 1 x) (sym spelled) no_stop) (ap (depth_from 1) spelled ∙ closed) onward b

    by : ((s.all ≡ tokens) × (tried ≡ false → HasNoComma 6 0 (tokens_of s.all))) ⊎ (IsTrue item × (tried ≡ false → ⊥) × LeavesOut (tokens_of s.all) (tokens_of tokens))
        → IsKept item true bytes at start (tokens ++ bracket ∷ []) 0 next
    by (inr (i, n, out)) = absurd (n first)
    by (inl (same, none)) = record {
      all = s.all ++ extra;
      so_far = so_far;
      wanted = λ e. s.wanted first;
      kept =
          inr (
            s.wanted first,
            λ e. false≢true (sym e),
            record {
              front = tokens_of s.all;
              notes = notes;
              rest = [];
              word = subst (λ x. BeginsClause (tokens_of x)) (sym same) word;
              long = omega (arith, six, length-map s.all token_of, ap length same);
              depth = sym far.opened;
              no_comma = none first;
              no_stop = far.no_stop (s.wanted first);
              some = p.some;
              balanced = p.balanced;
              whole = map-append token_of s.all extra ∙ ap (λ x. tokens_of s.all ++ x) spelled ∙ sym (append_assoc (tokens_of s.all) (comma ∷ notes) (right_bracket ∷ []));
              without = map_push token_of tokens bracket ∙ ap (λ x. tokens_of x ++ token_of bracket ∷ []) (sym same) ∙ ap (λ x. tokens_of s.all ++ x ∷ []) p.closes;
            },
          );
    }

-- ---- where they stop
module _ (item tried : Bool) (bytes : Bytes) (at : ℕ) (l : Lexing) where
  up_to : (all : List Lexeme) → ((all ≡ l.tokens.items) ⊎ (IsTrue item × LeavesOut (tokens_of all) (tokens_of l.tokens.items)))
      → AreTokensUpTo item bytes at all l.start l.end l.why → IsBriefUpTo item bytes at l
  up_to all kept h = by item kept h where
    by : (item : Bool) → ((all ≡ l.tokens.items) ⊎ (IsTrue item × LeavesOut (tokens_of all) (tokens_of l.tokens.items)))
        → AreTokensUpTo item bytes at all l.start l.end l.why → IsBriefUpTo item bytes at l
    by true (inl e) h = record { all = all; read = h; brief = inl e }
    by true (inr (i, out)) h = record { all = all; read = h; brief = inr out }
    by false (inl e) h = subst (λ x. AreTokensUpTo false bytes at x l.start l.end l.why) e h
    by false (inr (i, out)) h = absurd (false≢true i)

  parts : {start depth place : ℕ} {tokens : List Lexeme} (s : IsKept item tried bytes at start tokens depth place)
      → (s.all ≡ tokens) ⊎ (IsTrue item × LeavesOut (tokens_of s.all) (tokens_of tokens))
  parts {tokens = tokens} s = by s.kept where
    by : ((s.all ≡ tokens) × (tried ≡ false → HasNoComma 6 0 (tokens_of s.all))) ⊎ (IsTrue item × (tried ≡ false → ⊥) × LeavesOut (tokens_of s.all) (tokens_of tokens))
        → (s.all ≡ tokens) ⊎ (IsTrue item × LeavesOut (tokens_of s.all) (tokens_of tokens))
    by (inl (same, none)) = inl same
    by (inr (i, n, out)) = inr (i, out)

  pub brief_end : (depth : ℕ) → IsKept item tried bytes at l.start l.tokens.items depth l.end → length bytes ≤ l.end → l.why ≡ End → IsBriefUpTo item bytes at l
  brief_end depth s w e = up_to s.all (parts s) (lexing_end item bytes at s.all l.start l.end l.why depth s.so_far w e)

  pub brief_bad : (depth : ℕ) → IsKept item tried bytes at l.start l.tokens.items depth l.end → l.end < length bytes → NoTokenWithin bytes l.end depth → l.why ≡ Bad
      → IsBriefUpTo item bytes at l
  brief_bad depth s w n e = up_to s.all (parts s) (lexing_bad item bytes at s.all l.start l.end l.why depth s.so_far w n e)

  pub brief_stop : (tokens : List Lexeme) (depth place : ℕ) (t : Lexeme) → IsKept item tried bytes at l.start tokens depth place → item ≡ true → place < length bytes
      → IsLexemeAt bytes place t → open_behind depth (token_of t) ≤ DEEPEST_NESTING → IsFullStop depth (token_of t) → l.tokens.items ≡ tokens ++ t ∷ []
      → l.end ≡ place + length t.spelling.now → l.why ≡ FullStop → IsBriefUpTo item bytes at l
  brief_stop tokens depth place t s i w k d f items is_end stop =
      up_to (s.all ++ t ∷ []) (by (parts s))
      (subst (λ x. AreTokensUpTo x bytes at (s.all ++ t ∷ []) l.start l.end l.why) (sym i)
      (lexing_stop bytes at (s.all ++ t ∷ []) l.start l.end l.why s.all depth place t (subst (λ x. IsSoFar x bytes at l.start s.all depth place) i s.so_far) w k d f refl is_end stop)) where
        by : (s.all ≡ tokens) ⊎ (IsTrue item × LeavesOut (tokens_of s.all) (tokens_of tokens))
            → (s.all ++ t ∷ [] ≡ l.tokens.items) ⊎ (IsTrue item × LeavesOut (tokens_of (s.all ++ t ∷ [])) (tokens_of l.tokens.items))
        by (inl same) = inl (ap (λ x. x ++ t ∷ []) same ∙ sym items)
        by (inr (i, out)) =
            inr (
              i,
              subst (λ x. LeavesOut x (tokens_of l.tokens.items)) (sym (map_push token_of s.all t))
                  (subst (λ x. LeavesOut (tokens_of s.all ++ token_of t ∷ []) x) (sym (ap tokens_of items ∙ map_push token_of tokens t)) (leaves_more (tokens_of s.all) (tokens_of tokens) (token_of t) out)),
            )
