-- Arguments that are read and written one after the other.
use Rattle.std.proofs.Common.{◌≡◌, ℕ, ◌+◌, ◌≤◌, Bool, List, [], ◌∷◌, ◌++◌, length, refl, ap, sym, arith, length-append}
use Rattle.std.specs.Prelude.{Some}
use Rattle.std.proofs.lemmas.List.{length-map}
use Rattle.si_defs.specs.Terms as terms
use Rattle.si_defs.specs.Symbols.{Numbering}
use Rattle.si_defs.specs.Clauses.{Term}
use Rattle.si_defs.specs.Tokens.{Token}
use Rattle.si_defs.specs.declared.Side.TheVariants.{Function}
use Rattle.si_defs.specs.Grammar.{IsTerm, comma, left_bracket, right_bracket}
use Rattle.si_lex.specs.Lexemes.{token_of, tokens_of}
use Rattle.si_lex.specs.declared.lexeme.Lexeme.{Lexeme}
use Rattle.si_parse.specs.Parsing.{NoTerm}
use Rattle.si_parse.proofs.ParseSteps.{parses_at}
use Rattle.si_parse.proofs.ParseRows.{Along, along_first, along_more, row_some}
use Rattle.si_parse.proofs.GrammarTerms.{term_last, term_goes_on, term_stops, no_bracket-none, applied_bare, applied_some}
use Rattle.si_flat.specs.declared.Owner.TheVariants.{Query}
use Rattle.si_flat.specs.Flattening.{WalkState, entry_scheme, terms_piece, Flattens}
use Rattle.si_flat.proofs.Walking.{flattens_none}
use Rattle.si_query.specs.Reading.{ReadsApplied, ReadsArguments, ReadsTerm, Spends}
use Rattle.si_flat.proofs.WriterLaws.{writes_end, writes_one}
use Rattle.si_query.proofs.ReaderLaws.{spends_more, spends_none, spends_then}

-- Some arguments were read and written: what is left goes on as the tokens do.
pub record IsAlong (pairs : Numbering) (tokens : List Lexeme) (old here : WalkState) (count : ℕ) (left : List Lexeme) : Type 0 where
  pub done : List Term
  pub along : Along IsTerm comma NoTerm (tokens_of tokens) done (tokens_of left)
  pub counted : count ≡ length done
  pub flat : (positive : Bool) → Flattens pairs (entry_scheme Query positive) old here (terms_piece (terms.row done))
  pub fewer : length left + count ≤ length tokens
  pub spends : Spends 0 tokens left old here

-- a token in front of others
shorter_by : (t : Token) (left rest : List Lexeme) → tokens_of left ≡ t ∷ tokens_of rest → length left ≡ 1 + length rest
shorter_by t left rest e = omega (arith, ap length e, length-map left token_of, length-map rest token_of)

module _ (pairs : Numbering) (tokens : List Lexeme) where
  -- the first one
  pub along_start : (old here : WalkState) (left : List Lexeme) → ReadsTerm pairs tokens old here left → IsAlong pairs tokens old here 1 left
  along_start old here left h = record {
    done = h.term ∷ [];
    along = along_first IsTerm term_last term_goes_on term_stops h.read;
    counted = refl;
    flat = writes_one pairs h.term old here h.flat;
    fewer = omega (arith, h.fewer);
    spends = h.spends;
  }

  -- one more
  pub along_next : (old here next : WalkState) (count : ℕ) (left rest after : List Lexeme) → IsAlong pairs tokens old here count left → tokens_of left ≡ comma ∷ tokens_of rest
      → ReadsTerm pairs rest here next after → IsAlong pairs tokens old next (count + 1) after
  along_next old here next count left rest after k e h = record {
    done = k.done ++ h.term ∷ [];
    along = along_more IsTerm term_last term_goes_on term_stops k.along e h.read;
    counted = omega (arith, k.counted, length-append k.done (h.term ∷ []));
    flat = writes_end pairs k.done h.term old here next k.flat h.flat;
    fewer = omega (arith, k.fewer, h.fewer, shorter_by comma left rest e);
    spends = spends_then tokens left after old here next k.spends (spends_more 0 left rest after after here next h.spends (omega (arith, shorter_by comma left rest e)) (omega arith));
  }

  -- where no comma stands, they are all
  pub along_end : (old here : WalkState) (count : ℕ) (left : List Lexeme) → IsAlong pairs tokens old here count left → ((rest : List Token) → tokens_of left ≡ comma ∷ rest → ⊥)
      → 1 ≤ count → ReadsArguments pairs tokens old here count left
  along_end old here count left k none some = record {
    arguments = k.done;
    read = row_some IsTerm term_last term_goes_on term_stops k.along none;
    counted = k.counted;
    flat = k.flat;
    fewer = omega (arith, k.fewer, some);
    spends = k.spends;
  }

  -- ---- what stands after a head
  -- nothing
  pub applied_none : (a : WalkState) → ((rest : List Token) → tokens_of tokens ≡ left_bracket ∷ rest → ⊥) → ReadsApplied pairs tokens a a 0 tokens
  applied_none a none = record {
    arguments = terms.none;
    read = λ kind text. applied_bare kind text (tokens_of tokens) (no_bracket-none (tokens_of tokens) none);
    flat = λ p. flattens_none pairs (entry_scheme Query p) a;
    fewer = omega arith;
    spends = spends_none tokens a;
  }

  -- arguments in brackets
  pub applied_all : (a b : WalkState) (count : ℕ) (inside after rest : List Lexeme) → tokens_of tokens ≡ left_bracket ∷ tokens_of inside → tokens_of after ≡ right_bracket ∷ tokens_of rest
      → ReadsArguments pairs inside a b count after → ReadsApplied pairs tokens a b count rest
  applied_all a b count inside after rest opens closes h = record {
    arguments = terms.row h.arguments;
    read = λ kind text.
        parses_at opens (ap (λ n. Some (terms.app (record { kind = kind; text = text; side = Function; arity = n }) (terms.row h.arguments), tokens_of rest)) h.counted)
        (applied_some kind text (tokens_of inside) h.arguments (tokens_of rest) (parses_at refl (ap (λ ts. Some (h.arguments, ts)) (sym closes)) h.read));
    flat = h.flat;
    fewer = omega (arith, h.fewer, shorter_by left_bracket tokens inside opens, shorter_by right_bracket after rest closes);
    spends =
        spends_more 0 tokens inside after rest a b h.spends (omega (arith, shorter_by left_bracket tokens inside opens)) (omega (arith, shorter_by right_bracket after rest closes));
  }
