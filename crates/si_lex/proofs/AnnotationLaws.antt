-- Annotations that are passed by their brackets.
use Rattle.std.proofs.Common.{◌≡◌, ℕ, ◌+◌, ◌<◌, ◌≤◌, List, [], ◌∷◌, ◌++◌, length, drop, get_or, Some, refl, ap, sym, ◌∙◌, subst, arith}
use Rattle.std.proofs.lemmas.List.{map_push}
use Rattle.si_defs.specs.Bytes.{Bytes}
use Rattle.si_defs.specs.Tokens.{Token, Begins, mark}
use Rattle.si_defs.specs.Grammar.{Bracket, brackets_behind, open_behind, nesting_from}
use Rattle.si_defs.specs.declared.TheConstants.{DEEPEST_NESTING}
use Rattle.si_lex.specs.declared.lexeme.Lexeme.{Lexeme}
use Rattle.si_lex.specs.Annotations.{IsPastAnnotations}
use Rattle.si_lex.specs.FullStops.{HasNoFullStop, depth_from}
use Rattle.si_lex.specs.Lexemes.{token_of, tokens_of}
use Rattle.si_lex.specs.Places.{IsBehindBlanks, IsLexemeAt}
use Rattle.si_lex.proofs.BracketLaws.{open_after, open_more, open_balanced, step_depth}
use Rattle.si_lex.proofs.FirstLaws.{token_brackets, token_round}
use Rattle.si_lex.proofs.LexingLaws.{nesting_from-append, depth_push, stops_push, next_at, push_begins}

-- ---- the tokens passed so far
-- annotations up to a place, and the brackets that are open there
pub record IsInNotes (bytes : Bytes) (at first place : ℕ) (pending : List Bracket) : Type 0 where
  pub notes : List Lexeme
  pub rest : Bytes
  pub from : at ≤ place
  pub begins : Begins (drop at bytes) (tokens_of notes) rest
  pub behind : IsBehindBlanks bytes rest place
  pub opened : open_after (tokens_of notes) [] ≡ Some pending
  pub few : length pending ≤ 64
  pub here : tokens_of notes ≡ [] → place ≡ first
  pub nested : nesting_from 1 (tokens_of notes) ≤ DEEPEST_NESTING
  pub depth : depth_from 1 (tokens_of notes) ≡ length pending + 1
  pub no_stop : HasNoFullStop 1 (tokens_of notes)

pub in_notes_none : (bytes : Bytes) (at first : ℕ) (pending : List Bracket) → pending ≡ [] → at ≤ first → IsBehindBlanks bytes (drop at bytes) first → IsInNotes bytes at first first pending
in_notes_none bytes at first pending e l b = record {
  notes = [];
  rest = drop at bytes;
  from = l;
  begins = refl;
  behind = b;
  opened = ap Some (sym e);
  few = omega (arith, ap length e);
  here = λ e. refl;
  nested = omega arith;
  depth = omega (arith, ap length e);
  no_stop = tt;
}

pushed_some : (ts : List Token) (t : Token) → ts ++ t ∷ [] ≡ [] → ⊥
pushed_some [] t e = cc
pushed_some (u ∷ us) t e = cc

module _ (bytes : Bytes) (at first place : ℕ) (pending : List Bracket) (l : Lexeme) (s : IsInNotes bytes at first place pending) (w : place < length bytes) (k : IsLexemeAt bytes place l) where
  -- one more token
  pub in_notes_more : (then_at : ℕ) (next : List Bracket) → brackets_behind (mark (get_or bytes place 0)) pending ≡ Some next → length next ≤ 64 → place + length l.spelling.now ≤ then_at
      → IsBehindBlanks bytes (drop (place + length l.spelling.now) bytes) then_at → IsInNotes bytes at first then_at next
  in_notes_more then_at next by_byte few m b =
      let ts = tokens_of s.notes in
      let t = token_of l in
      let same : tokens_of (s.notes ++ l ∷ []) ≡ ts ++ t ∷ [] = map_push token_of s.notes l in
      let opens : brackets_behind t pending ≡ Some next = token_brackets bytes place t _ pending w k.stands ∙ by_byte in
      let deep : open_behind (depth_from 1 ts) t ≡ length next + 1 = ap (λ d. open_behind d t) s.depth ∙ step_depth t pending next 1 opens in
      let all = nesting_from-append 1 ts (t ∷ []) in
      record {
        notes = s.notes ++ l ∷ [];
        rest = drop (place + length l.spelling.now) bytes;
        from = omega (arith, s.from, m);
        begins = push_begins (drop at bytes) s.rest (drop (place + length l.spelling.now) bytes) s.notes l s.begins (next_at bytes s.rest place l s.behind w k);
        behind = b;
        opened = subst (λ x. open_after x [] ≡ Some next) (sym same) (open_more ts t [] pending s.opened ∙ opens);
        few = few;
        here = λ e. absurd (pushed_some ts t (sym same ∙ e));
        nested = subst (λ x. nesting_from 1 x ≤ DEEPEST_NESTING) (sym same) (omega (arith, all, deep, s.few, few, s.nested, s.depth));
        depth = ap (depth_from 1) same ∙ depth_push 1 ts t ∙ deep;
        no_stop = subst (λ x. HasNoFullStop 1 x) (sym same) (stops_push 1 ts t s.no_stop (λ x. absurd (omega (arith, x.0, s.depth))));
      }

  -- the bracket that closes the clause after them
  pub past_notes : get_or bytes place 0 ≡ 41 → pending ≡ [] → (place ≡ first → ⊥) → IsPastAnnotations bytes at l (place + length l.spelling.now)
  past_notes closes none some = record {
    notes = s.notes;
    rest = s.rest;
    begins = s.begins;
    some = λ e. some (s.here e);
    balanced = open_balanced (tokens_of s.notes) [] (s.opened ∙ ap Some none);
    nested = s.nested;
    depth = omega (arith, s.depth, ap length none);
    no_stop = s.no_stop;
    closes = token_round bytes place (token_of l) _ w k.stands closes;
    next = next_at bytes s.rest place l s.behind w k;
    onward = omega (arith, s.from);
    within = k.within;
  }
