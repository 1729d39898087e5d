-- Terms by their first token: what was read after it, and what was written.
use Rattle.std.proofs.Common.{◌≡◌, ◌≤◌, true, List, [], ◌∷◌, ◌++◌, length, Result, refl, sym, ap, subst, arith, IfOk, length-append}
use Rattle.std.specs.Prelude.{Option, Some, None, IfSome, bytes_eq}
use Rattle.std.specs.Borrow.{Bor}
use Rattle.std.proofs.lemmas.Result.{IfOk-weaker}
use Rattle.si_defs.specs.Bytes.{Bytes}
use Rattle.si_defs.specs.Terms as terms
use Rattle.si_defs.specs.Symbols.{Numbering}
use Rattle.si_defs.specs.Tokens.{Token}
use Rattle.si_defs.specs.Grammar.{IsConstant, IsHead}
use Rattle.si_defs.specs.declared.SymKind.{SymKind}
use Rattle.si_defs.specs.declared.TokenKind.TheVariants as token
use Rattle.si_lex.specs.Lexemes.{token_of, tokens_of}
use Rattle.si_lex.specs.Texts.{text_of}
use Rattle.si_lex.specs.declared.lexeme.Lexeme.{Lexeme}
use Rattle.si_parse.specs.GrammarRules.{function_symbol}
use Rattle.si_parse.proofs.ParseReads.{first_token, token_at, others_of, others_shorter}
use Rattle.si_parse.proofs.ParseSteps.{parses_at}
use Rattle.si_parse.proofs.GrammarTerms.{symbol_kind, term_upper, term_constant, term_head}
use Rattle.si_term.proofs.Inserted.{inserted_length}
use Rattle.si_flat.specs.declared.Owner.TheVariants.{Query}
use Rattle.si_flat.specs.Cells.{variable_cell}
use Rattle.si_flat.specs.Numbered.{place_in}
use Rattle.si_flat.specs.Flattening.{owners_variable, WalkState, term_piece}
use Rattle.si_flat.specs.Writing.{WritesPiece}
use Rattle.si_query.specs.Reading.{ReadsHeaded, ReadsTerm, WritesConstant}
use Rattle.si_query.proofs.ReaderLaws.{spends_head}

-- what was found has what each has that is found
pub found : {A : Type 0} (P : A → Type 0) {read : Option A} {x : A} → IfSome read P → read ≡ Some x → P x
found P h e = subst (λ r. IfSome r P) e h

module _ (pairs : Numbering) (tokens : List Lexeme) (some : 1 ≤ length tokens) (a b : WalkState) where
  abbrev first : Lexeme
  first = token_at tokens 0

  -- a variable
  pub variable_read : first.kind ≡ token.Upper
      → ((numbers : Numbering) → WritesPiece numbers a b (term_piece (terms.var first.spelling.now)))
      → ReadsTerm pairs tokens a b (others_of tokens)
  variable_read upper written =
      let text : (token_of first).text ≡ first.spelling.now = ap (λ k. text_of k first.spelling.now) upper in
      let one = written pairs true in
      record {
        term = terms.var first.spelling.now;
        read = parses_at (first_token tokens some) (ap (λ x. Some (terms.var x, tokens_of (others_of tokens))) (sym text)) (term_upper (token_of first) (tokens_of (others_of tokens)) upper);
        flat = written pairs;
        fewer = others_shorter tokens some;
        spends = record {
          names = omega (arith, ap length one.names, inserted_length bytes_eq a.names (first.spelling.now ∷ []), others_shorter tokens some);
          cells = omega (arith, ap length (one.cells [] []), length-append a.cells (variable_cell (owners_variable Query (place_in bytes_eq (b.names ++ []) first.spelling.now)) ∷ []), others_shorter tokens some);
        };
      }

  module _ {E : Type 0} (result : Result (Option (Bor (List Lexeme))) E) (kind : SymKind) where
    -- a constant
    pub constant_read : symbol_kind first.kind ≡ Some kind → ((text : Bytes) (u : Token) → IsHead kind text u → ⊥) → IsConstant kind (token_of first).text (token_of first)
        → IfOk result (λ read. IfSome read (λ rest. WritesConstant pairs kind (token_of first).text (others_of tokens) a b rest.now))
        → IfOk result (λ read. IfSome read (λ rest. ReadsTerm pairs tokens a b rest.now))
    constant_read is_kind no_head const = IfOk-weaker result _ _ (λ read. by read) where
      by : (read : Option (Bor (List Lexeme))) → IfSome read (λ rest. WritesConstant pairs kind (token_of first).text (others_of tokens) a b rest.now)
          → IfSome read (λ rest. ReadsTerm pairs tokens a b rest.now)
      by None h = h
      by (Some rest) h = record {
        term = terms.app (function_symbol kind (token_of first).text 0) terms.none;
        read =
            parses_at (first_token tokens some) (ap (λ ts. Some (terms.app (function_symbol kind (token_of first).text 0) terms.none, tokens_of ts)) h.left)
            (term_constant (token_of first) (tokens_of (others_of tokens)) kind is_kind no_head const);
        flat = h.flat;
        fewer = omega (arith, ap length h.left, others_shorter tokens some);
        spends = spends_head tokens (others_of tokens) rest.now a b h.spends (others_shorter tokens some);
      }

    -- a head and what stands after it
    pub headed_read : symbol_kind first.kind ≡ Some kind → IsHead kind (token_of first).text (token_of first)
        → IfOk result (λ read. IfSome read (λ rest. ReadsHeaded pairs kind (token_of first).text (others_of tokens) a b rest.now))
        → IfOk result (λ read. IfSome read (λ rest. ReadsTerm pairs tokens a b rest.now))
    headed_read is_kind head = IfOk-weaker result _ _ (λ read. by read) where
      by : (read : Option (Bor (List Lexeme))) → IfSome read (λ rest. ReadsHeaded pairs kind (token_of first).text (others_of tokens) a b rest.now)
          → IfSome read (λ rest. ReadsTerm pairs tokens a b rest.now)
      by None h = h
      by (Some rest) h = record {
        term = h.term;
        read = parses_at (first_token tokens some) refl (term_head (token_of first) (tokens_of (others_of tokens)) kind is_kind head _ h.read);
        flat = h.flat;
        fewer = omega (arith, h.fewer, others_shorter tokens some);
        spends = spends_head tokens (others_of tokens) rest.now a b h.spends (others_shorter tokens some);
      }
