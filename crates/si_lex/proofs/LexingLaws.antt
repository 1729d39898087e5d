-- The tokens of some bytes, one more at each step, and why there are no more.
use Rattle.std.proofs.Common.{◌≡◌, ℕ, ◌+◌, ◌<◌, ◌≤◌, Bool, true, false, max, List, [], ◌∷◌, ◌++◌, length, drop, IsTrue, refl, ap, sym, ◌∙◌, subst, ◌⊎◌, inl, inr, arith}
use Rattle.std.proofs.lemmas.List.{map_push, append-nil}
use Rattle.std.proofs.lemmas.Bool.{cases_lt}
use Rattle.si_defs.specs.Bytes.{Bytes}
use Rattle.si_defs.specs.Tokens.{Token, TokenAt, NextToken, AreBlanks, Begins, Consists}
use Rattle.si_defs.specs.Grammar.{open_behind, nesting_from, nesting}
use Rattle.si_defs.specs.declared.TheConstants.{DEEPEST_NESTING}
use Rattle.si_defs.specs.Texts.{IsPlace}
use Rattle.si_defs.proofs.TokenLaws.{begins_append, begins_split}
use Rattle.si_lex.specs.declared.lexeme.Lexeme.{Lexeme}
use Rattle.si_lex.specs.declared.lexing.TokensEnd.{TokensEnd}
use Rattle.si_lex.specs.declared.lexing.TokensEnd.TheVariants.{End, Bad, FullStop}
use Rattle.si_lex.specs.Lexemes.{token_of, tokens_of}
use Rattle.si_lex.specs.Places.{IsBehindBlanks, IsLexemeAt, NoTokenWithin}
use Rattle.si_lex.specs.FullStops.{IsFullStop, HasNoFullStop, GoesToFullStop, EndsAtFullStop, depth_from}
use Rattle.si_lex.specs.Lexing.{IsLexed, AreTokensUpTo}
use Rattle.si_lex.proofs.BlankLaws.{place_unique}
use Rattle.si_lex.proofs.TokenLaws.{next_place, blanks_none, begins_unique, begins_prefix}

-- ---- open brackets
-- some tokens nest at least as deep as they begin
pub depth-le-nesting : (d : ℕ) (ts : List Token) → d ≤ nesting_from d ts
depth-le-nesting d [] = omega arith
depth-le-nesting d (t ∷ ts) = omega arith

-- the nesting of tokens and of what follows them
pub nesting_from-append : (d : ℕ) (ts us : List Token) → nesting_from d (ts ++ us) ≡ max (nesting_from d ts) (nesting_from (depth_from d ts) us)
nesting_from-append d [] us = omega (arith, depth-le-nesting d us)
nesting_from-append d (t ∷ ts) us = omega (arith, nesting_from-append (open_behind d t) ts us)

-- the number of open brackets after one more token
pub depth_push : (d : ℕ) (ts : List Token) (t : Token) → depth_from d (ts ++ t ∷ []) ≡ open_behind (depth_from d ts) t
depth_push d [] t = refl
depth_push d (u ∷ us) t = depth_push (open_behind d u) us t

-- and after more of them
pub depth_append : (d : ℕ) (ts us : List Token) → depth_from d (ts ++ us) ≡ depth_from (depth_from d ts) us
depth_append d [] us = refl
depth_append d (t ∷ ts) us = depth_append (open_behind d t) ts us

-- ---- full stops
-- tokens without one after others
pub no_stop_append : (d : ℕ) (ts us : List Token) → HasNoFullStop d ts → HasNoFullStop (depth_from d ts) us → HasNoFullStop d (ts ++ us)
no_stop_append d [] us h k = k
no_stop_append d (t ∷ ts) us h k = (h.0, no_stop_append (open_behind d t) ts us h.1 k)

-- one more token that does not end an item
pub stops_push : (d : ℕ) (ts : List Token) (t : Token) → HasNoFullStop d ts → (IsFullStop (depth_from d ts) t → ⊥) → HasNoFullStop d (ts ++ t ∷ [])
stops_push d [] t h n = (n, tt)
stops_push d (u ∷ us) t h n = (h.0, stops_push (open_behind d u) us t h.1 n)

-- and one that does
ends_push : (d : ℕ) (ts : List Token) (t : Token) → HasNoFullStop d ts → IsFullStop (depth_from d ts) t → EndsAtFullStop d (ts ++ t ∷ [])
ends_push d [] t h s = inl (s, refl)
ends_push d (u ∷ us) t h s = inr (h.0, ends_push (open_behind d u) us t h.1 s)

-- after the end of an item nothing stands
nothing_behind_stop : (d : ℕ) (ts : List Token) (u : Token) (us : List Token) → EndsAtFullStop d ts → GoesToFullStop d (ts ++ u ∷ us) → ⊥
nothing_behind_stop d [] u us e g = e
nothing_behind_stop d (t ∷ ts) u us (inl e) g = nothing ts (g.0 e.0) where
  nothing : (xs : List Token) → xs ++ u ∷ us ≡ [] → ⊥
  nothing [] e = cc
  nothing (x ∷ xs) e = cc
nothing_behind_stop d (t ∷ ts) u us (inr e) g = nothing_behind_stop (open_behind d t) ts u us e.1 g.1

-- ---- the tokens so far
-- the tokens up to the place after the blanks that follow, and the number of brackets that are
-- open there
pub record IsSoFar (item : Bool) (bytes : Bytes) (at start : ℕ) (tokens : List Lexeme) (depth place : ℕ) : Type 0 where
  pub rest : Bytes
  pub from : at ≤ start
  pub onward : start ≤ place
  pub first : IsBehindBlanks bytes (drop at bytes) start
  pub behind : IsBehindBlanks bytes rest place
  pub begins : Begins (drop at bytes) (tokens_of tokens) rest
  pub nested : nesting (tokens_of tokens) ≤ DEEPEST_NESTING
  pub opened : depth ≡ depth_from 0 (tokens_of tokens)
  pub shallow : depth ≤ DEEPEST_NESTING
  pub no_stop : IsTrue item → HasNoFullStop 0 (tokens_of tokens)

pub so_far_none : (item : Bool) (bytes : Bytes) (at start : ℕ) → at ≤ start → IsBehindBlanks bytes (drop at bytes) start → IsSoFar item bytes at start [] 0 start
so_far_none item bytes at start l b = record {
  rest = drop at bytes;
  from = l;
  onward = omega arith;
  first = b;
  behind = b;
  begins = refl;
  nested = omega arith;
  opened = refl;
  shallow = omega arith;
  no_stop = λ i. tt;
}

-- the token at the place is the next
pub next_at : (bytes rest : Bytes) (place : ℕ) (l : Lexeme) → IsBehindBlanks bytes rest place → place < length bytes → IsLexemeAt bytes place l
    → NextToken rest (token_of l) (drop (place + length l.spelling.now) bytes)
next_at bytes rest place l b w s = record { place = drop place bytes; skips = (b.more w).skips; stands = s.stands }

-- the tokens with it
pub push_begins : (bytes rest after : Bytes) (tokens : List Lexeme) (l : Lexeme) → Begins bytes (tokens_of tokens) rest → NextToken rest (token_of l) after
    → Begins bytes (tokens_of (tokens ++ l ∷ [])) after
push_begins bytes rest after tokens l b n =
    subst (λ ts. Begins bytes ts after) (sym (map_push token_of tokens l)) (begins_append (tokens_of tokens) (token_of l ∷ []) bytes rest after b (after, n, refl))

push_nested : (tokens : List Lexeme) (l : Lexeme) (depth : ℕ) → nesting (tokens_of tokens) ≤ DEEPEST_NESTING → depth ≡ depth_from 0 (tokens_of tokens)
    → depth ≤ DEEPEST_NESTING → open_behind depth (token_of l) ≤ DEEPEST_NESTING → nesting (tokens_of (tokens ++ l ∷ [])) ≤ DEEPEST_NESTING
push_nested tokens l depth n o s d =
    let step = nesting_from-append 0 (tokens_of tokens) (token_of l ∷ []) in
    let here : open_behind (depth_from 0 (tokens_of tokens)) (token_of l) ≤ DEEPEST_NESTING = subst (λ k. open_behind k (token_of l) ≤ DEEPEST_NESTING) o d in
    let before : depth_from 0 (tokens_of tokens) ≤ DEEPEST_NESTING = subst (λ k. k ≤ DEEPEST_NESTING) o s in
    subst (λ ts. nesting ts ≤ DEEPEST_NESTING) (sym (map_push token_of tokens l)) (omega arith)

pub so_far_more : (item : Bool) (bytes : Bytes) (at start : ℕ) (tokens : List Lexeme) (depth place next : ℕ) (l : Lexeme) → IsSoFar item bytes at start tokens depth place
    → place < length bytes → IsLexemeAt bytes place l → open_behind depth (token_of l) ≤ DEEPEST_NESTING → (IsTrue item → IsFullStop depth (token_of l) → ⊥)
    → place + length l.spelling.now ≤ next → IsBehindBlanks bytes (drop (place + length l.spelling.now) bytes) next
    → IsSoFar item bytes at start (tokens ++ l ∷ []) (open_behind depth (token_of l)) next
so_far_more item bytes at start tokens depth place next l s w k d n m b =
    let ahead = s.onward in
    record {
      rest = drop (place + length l.spelling.now) bytes;
      from = s.from;
      onward = omega arith;
      first = s.first;
      behind = b;
      begins = push_begins (drop at bytes) s.rest (drop (place + length l.spelling.now) bytes) tokens l s.begins (next_at bytes s.rest place l s.behind w k);
      nested = push_nested tokens l depth s.nested s.opened s.shallow d;
      opened =
          ap (λ x. open_behind x (token_of l)) s.opened ∙ sym (depth_push 0 (tokens_of tokens) (token_of l)) ∙ ap (depth_from 0) (sym (map_push token_of tokens l));
      shallow = d;
      no_stop = λ i.
          subst (λ ts. HasNoFullStop 0 ts) (sym (map_push token_of tokens l))
          (stops_push 0 (tokens_of tokens) (token_of l) (s.no_stop i) (λ x. n i (subst (λ y. IsFullStop y (token_of l)) (sym s.opened) x)));
    }

-- ---- where they stop
-- the first place after blanks
pub first_place : (bytes : Bytes) (at start : ℕ) → IsBehindBlanks bytes (drop at bytes) start → (AreBlanks (drop at bytes) → ⊥) → IsPlace (drop at bytes) (drop start bytes)
first_place bytes at start b n =
    elim (cases_lt start (length bytes)) [
      | inl l ↦ b.more l
      | inr l ↦ absurd (n (b.end (let w = b.within in omega arith)))
    ]

-- where a token stands the bytes are not blanks
first_no_blanks : (bytes rest : Bytes) (ts : List Token) → Begins bytes ts rest → (ts ≡ [] → ⊥) → AreBlanks bytes → ⊥
first_no_blanks bytes rest [] b n a = n refl
first_no_blanks bytes rest (t ∷ ts) b n a = blanks_none bytes a t b.0 b.1

-- nor are they where one stands after those so far
pub so_far_some : (item : Bool) (bytes : Bytes) (at start : ℕ) (tokens : List Lexeme) (depth place : ℕ) (l : Lexeme) → IsSoFar item bytes at start tokens depth place
    → place < length bytes → IsLexemeAt bytes place l → AreBlanks (drop at bytes) → ⊥
so_far_some item bytes at start tokens depth place l s w k a =
    let after = drop (place + length l.spelling.now) bytes in
    let begins = begins_append (tokens_of tokens) (token_of l ∷ []) (drop at bytes) s.rest after s.begins (after, next_at bytes s.rest place l s.behind w k, refl) in
    first_no_blanks (drop at bytes) after (tokens_of tokens ++ token_of l ∷ []) begins (some (tokens_of tokens)) a where
      some : (ts : List Token) → ts ++ token_of l ∷ [] ≡ [] → ⊥
      some [] e = cc
      some (t ∷ ts) e = cc

-- why no more tokens are taken, but for a full stop: only blanks follow, or no token, or brackets
-- would nest too deep
pub record IsOver (rest : Bytes) (depth : ℕ) (why : TokensEnd) : Type 0 where
  pub no_stop : why ≡ FullStop → ⊥
  pub blanks : why ≡ End → AreBlanks rest
  pub more : (why ≡ End → ⊥) → AreBlanks rest → ⊥
  pub deep : (u : Token) (after : Bytes) → NextToken rest u after → DEEPEST_NESTING < open_behind depth u

-- no longer list of tokens is nested so that it could go on
too_deep : (ts : List Token) (bytes rest behind : Bytes) (u : Token) (us : List Token) (why : TokensEnd) → Begins bytes ts rest → IsOver rest (depth_from 0 ts) why
    → Begins bytes (ts ++ u ∷ us) behind → nesting (ts ++ u ∷ us) ≤ DEEPEST_NESTING → ⊥
too_deep ts bytes rest behind u us why b o g n =
    let s = begins_split ts (u ∷ us) bytes behind g in
    let same : s.0 ≡ rest = begins_unique ts bytes s.0 rest s.1 b in
    let deep = o.deep u s.2.0 (subst (λ x. NextToken x u s.2.0) same s.2.1) in
    let whole = nesting_from-append 0 ts (u ∷ us) in
    let least = depth-le-nesting (open_behind (depth_from 0 ts) u) us in
    omega arith

over_every : (tokens : List Token) (bytes rest : Bytes) (why : TokensEnd) → Begins bytes tokens rest → IsOver rest (depth_from 0 tokens) why
    → (ts : List Token) (behind : Bytes) → Begins bytes ts behind → nesting ts ≤ DEEPEST_NESTING → (others : List Token) × (tokens ≡ ts ++ others)
over_every tokens bytes rest why b o ts behind g n = by (begins_prefix tokens ts bytes rest behind b g) where
  longer : (more : List Token) → ts ≡ tokens ++ more → (others : List Token) × (tokens ≡ ts ++ others)
  longer [] e = ([], sym (append-nil ts ∙ e ∙ append-nil tokens))
  longer (u ∷ us) e =
      absurd (too_deep tokens bytes rest behind u us why b o (subst (λ x. Begins bytes x behind) e g) (subst (λ x. nesting x ≤ DEEPEST_NESTING) e n))

  by : ((more : List Token) × (tokens ≡ ts ++ more)) ⊎ ((more : List Token) × (ts ≡ tokens ++ more)) → (others : List Token) × (tokens ≡ ts ++ others)
  by (inl m) = m
  by (inr m) = longer m.0 m.1

over_whole : (tokens : List Token) (bytes rest : Bytes) (why : TokensEnd) → ((why ≡ End) ⊎ (why ≡ End → ⊥)) → Begins bytes tokens rest → IsOver rest (depth_from 0 tokens) why
    → (ts : List Token) → Consists bytes ts → nesting ts ≤ DEEPEST_NESTING → (why ≡ End) × (tokens ≡ ts)
over_whole tokens bytes rest why d b o ts c n = by d (over_every tokens bytes rest why b o ts c.rest c.begins n) where
  none : (others : List Token) → tokens ≡ ts ++ others → tokens ≡ ts
  none [] e = e ∙ append-nil ts
  none (u ∷ us) e =
      let s = begins_split ts (u ∷ us) bytes rest (subst (λ x. Begins bytes x rest) e b) in
      let same : s.0 ≡ c.rest = begins_unique ts bytes s.0 c.rest s.1 c.begins in
      absurd (blanks_none c.rest c.blanks u s.2.0 (subst (λ x. NextToken x u s.2.0) same s.2.1))

  by : (why ≡ End) ⊎ (why ≡ End → ⊥) → (others : List Token) × (tokens ≡ ts ++ others) → (why ≡ End) × (tokens ≡ ts)
  by (inl e) m = (e, none m.0 m.1)
  by (inr e) m =
      let same = none m.0 m.1 in
      let r : rest ≡ c.rest = begins_unique ts bytes rest c.rest (subst (λ x. Begins bytes x rest) same b) c.begins in
      absurd (o.more e (subst (λ x. AreBlanks x) (sym r) c.blanks))

-- the reasons to stop differ
bad_no_end : Bad ≡ End → ⊥
bad_no_end e = cc

bad_no_full : Bad ≡ FullStop → ⊥
bad_no_full e = cc

end_no_full : End ≡ FullStop → ⊥
end_no_full e = cc

full_no_end : FullStop ≡ End → ⊥
full_no_end e = cc

full_no_bad : FullStop ≡ Bad → ⊥
full_no_bad e = cc

-- what was read so far, and no more
over_read : (item : Bool) (bytes : Bytes) (at : ℕ) (found : List Lexeme) (start end : ℕ) (why : TokensEnd) (depth : ℕ) (s : IsSoFar item bytes at start found depth end) → (why ≡ End → end ≡ length bytes)
    → IsOver s.rest depth why → IsLexed bytes at found start end why s.rest
over_read item bytes at found start end why depth s w o = record {
  from = s.from;
  onward = s.onward;
  within = s.behind.within;
  first = s.first;
  behind = λ n. s.behind;
  ended = w;
  begins = s.begins;
  nested = s.nested;
  blanks = o.blanks;
  bad = λ e. o.more (λ f. bad_no_end (sym e ∙ f));
  faulty = λ e. faulty (tokens_of found) s.begins e;
} where
  faulty : (ts : List Token) → Begins (drop at bytes) ts s.rest → (why ≡ End → ⊥) → AreBlanks (drop at bytes) → ⊥
  faulty [] b e a = o.more e (subst (λ x. AreBlanks x) b a)
  faulty (t ∷ ts) b e a = blanks_none (drop at bytes) a t b.0 b.1

pub over_lexing : (item : Bool) (bytes : Bytes) (at : ℕ) (found : List Lexeme) (start end : ℕ) (why : TokensEnd) (depth : ℕ) (s : IsSoFar item bytes at start found depth end) → (why ≡ End) ⊎ (why ≡ End → ⊥)
    → (why ≡ End → end ≡ length bytes) → IsOver s.rest depth why → AreTokensUpTo item bytes at found start end why
over_lexing true bytes at found start end why depth s d w o = record {
  rest = s.rest;
  read = over_read true bytes at found start end why depth s w o;
  stop = λ e. absurd (o.no_stop e);
  no_stop = λ e. s.no_stop refl;
  every = λ ts behind g n u.
      over_every (tokens_of found) (drop at bytes) s.rest why s.begins (subst (λ k. IsOver s.rest k why) s.opened o) ts behind g n;
}
over_lexing false bytes at found start end why depth s d w o = record {
  rest = s.rest;
  read = over_read false bytes at found start end why depth s w o;
  no_stop = o.no_stop;
  every = over_every (tokens_of found) (drop at bytes) s.rest why s.begins (subst (λ k. IsOver s.rest k why) s.opened o);
  whole = over_whole (tokens_of found) (drop at bytes) s.rest why d s.begins (subst (λ k. IsOver s.rest k why) s.opened o);
}

-- at the end of the bytes
pub lexing_end : (item : Bool) (bytes : Bytes) (at : ℕ) (found : List Lexeme) (start end : ℕ) (why : TokensEnd) (depth : ℕ) → IsSoFar item bytes at start found depth end → length bytes ≤ end → why ≡ End
    → AreTokensUpTo item bytes at found start end why
lexing_end item bytes at found start end why depth s w e =
    let here = s.behind.within in
    let blanks = s.behind.end (omega arith) in
    over_lexing item bytes at found start end why depth s (inl e) (λ f. omega arith) (record {
      no_stop = λ f. end_no_full (sym e ∙ f);
      blanks = λ f. blanks;
      more = λ f. absurd (f e);
      deep = λ u after n. absurd (blanks_none s.rest blanks u after n);
    })

-- where no token stands, or one that nests too deep
pub lexing_bad : (item : Bool) (bytes : Bytes) (at : ℕ) (found : List Lexeme) (start end : ℕ) (why : TokensEnd) (depth : ℕ) → IsSoFar item bytes at start found depth end → end < length bytes
    → NoTokenWithin bytes end depth → why ≡ Bad → AreTokensUpTo item bytes at found start end why
lexing_bad item bytes at found start end why depth s w n e =
    over_lexing item bytes at found start end why depth s (inr (λ f. bad_no_end (sym e ∙ f))) (λ f. absurd (bad_no_end (sym e ∙ f))) (record {
      no_stop = λ f. bad_no_full (sym e ∙ f);
      blanks = λ f. absurd (bad_no_end (sym e ∙ f));
      more = λ f. s.behind.goes_on w;
      deep = λ u after k.
          let same = place_unique s.rest k.place (drop end bytes) (next_place s.rest u after k) (s.behind.more w) in
          n u after (subst (λ p. TokenAt p u after) same k.stands);
    })

-- after a full stop outside brackets
pub lexing_stop : (bytes : Bytes) (at : ℕ) (found : List Lexeme) (start end : ℕ) (why : TokensEnd) (tokens : List Lexeme) (depth place : ℕ) (t : Lexeme) → IsSoFar true bytes at start tokens depth place
    → place < length bytes → IsLexemeAt bytes place t → open_behind depth (token_of t) ≤ DEEPEST_NESTING → IsFullStop depth (token_of t)
    → found ≡ tokens ++ t ∷ [] → end ≡ place + length t.spelling.now → why ≡ FullStop → AreTokensUpTo true bytes at found start end why
lexing_stop bytes at found start end why tokens depth place t s w k d f items is_end stop =
    let ahead = s.onward in
    let in_bytes = k.within in
    let begins : Begins (drop at bytes) (tokens_of found) (drop end bytes) =
    subst (λ ts. Begins (drop at bytes) (tokens_of ts) (drop end bytes)) (sym items)
    (subst (λ n. Begins (drop at bytes) (tokens_of (tokens ++ t ∷ [])) (drop n bytes)) (sym is_end)
    (push_begins (drop at bytes) s.rest (drop (place + length t.spelling.now) bytes) tokens t s.begins (next_at bytes s.rest place t s.behind w k))) in
    let ends : EndsAtFullStop 0 (tokens_of found) =
    subst (λ ts. EndsAtFullStop 0 (tokens_of ts)) (sym items) (subst (λ ts. EndsAtFullStop 0 ts) (sym (map_push token_of tokens t))
    (ends_push 0 (tokens_of tokens) (token_of t) (s.no_stop refl) (subst (λ n. IsFullStop n (token_of t)) s.opened f))) in
    record {
      rest = drop end bytes;
      read = record {
        from = s.from;
        onward = omega arith;
        within = omega arith;
        first = s.first;
        behind = λ n. absurd (n stop);
        ended = λ e. absurd (full_no_end (sym stop ∙ e));
        begins = begins;
        nested = subst (λ ts. nesting (tokens_of ts) ≤ DEEPEST_NESTING) (sym items) (push_nested tokens t depth s.nested s.opened s.shallow d);
        blanks = λ e. absurd (full_no_end (sym stop ∙ e));
        bad = λ e. absurd (full_no_bad (sym stop ∙ e));
        faulty = λ e. first_no_blanks (drop at bytes) (drop end bytes) (tokens_of found) begins (some ends);
      };
      stop = λ e. (ends, refl);
      no_stop = λ e. absurd (e stop);
      every = λ ts behind g n u. by ts behind g u ends (begins_prefix (tokens_of found) ts (drop at bytes) (drop end bytes) behind begins g);
    } where
      some : EndsAtFullStop 0 (tokens_of found) → tokens_of found ≡ [] → ⊥
      some e n = subst (λ ts. EndsAtFullStop 0 ts) n e

      longer : (ts : List Token) → GoesToFullStop 0 ts → EndsAtFullStop 0 (tokens_of found) → (more : List Token) → ts ≡ tokens_of found ++ more
          → (others : List Token) × (tokens_of found ≡ ts ++ others)
      longer ts u e [] q = ([], sym (append-nil ts ∙ q ∙ append-nil (tokens_of found)))
      longer ts u e (x ∷ xs) q = absurd (nothing_behind_stop 0 (tokens_of found) x xs e (subst (λ y. GoesToFullStop 0 y) q u))

      by : (ts : List Token) (behind : Bytes) → Begins (drop at bytes) ts behind → GoesToFullStop 0 ts → EndsAtFullStop 0 (tokens_of found)
          → ((more : List Token) × (tokens_of found ≡ ts ++ more)) ⊎ ((more : List Token) × (ts ≡ tokens_of found ++ more))
          → (others : List Token) × (tokens_of found ≡ ts ++ others)
      by ts behind g u e (inl m) = m
      by ts behind g u e (inr m) = longer ts u e m.0 m.1
