-- Literals: what was read and written of them, by their parts.
use Rattle.std.proofs.Common.{◌≡◌, ◌≤◌, ℕ, Bool, true, false, not, List, ◌∷◌, length, Result, IfOk, refl, sym, ap, subst}
use Rattle.std.specs.Prelude.{Option, Some, None, IfSome, ◌&&◌}
use Rattle.std.specs.Borrow.{Bor}
use Rattle.std.specs.Option.{is_some}
use Rattle.std.proofs.lemmas.Bool.{false≢true}
use Rattle.std.proofs.lemmas.Result.{IfOk-weaker}
use Rattle.si_defs.specs.Terms as terms
use Rattle.si_defs.specs.Symbols.{Numbering}
use Rattle.si_defs.specs.Tokens.{Token, mark}
use Rattle.si_defs.specs.Grammar.{IsHead, IsTerm, left_bracket}
use Rattle.si_defs.specs.declared.SymKind.{SymKind}
use Rattle.si_defs.specs.declared.Side.TheVariants.{Predicate}
use Rattle.si_lex.specs.Lexemes.{token_of, tokens_of}
use Rattle.si_lex.specs.declared.lexeme.Lexeme.{Lexeme}
use Rattle.si_parse.specs.GrammarRules.{IsMark, IsEquationSign, function_symbol}
use Rattle.si_parse.specs.Parsing.{Anything, PassesTokens, Reads, ReadsTokens, NoBracket}
use Rattle.si_parse.proofs.ParseReads.{first_token, token_at, others_of, mark_front}
use Rattle.si_parse.proofs.ParseSteps.{parses_at}
use Rattle.si_parse.proofs.GrammarTerms.{head_constant, constant_is, term_head}
use Rattle.si_parse.proofs.GrammarLiterals.{statement_bare, atom_some, negated_some, literal_tilde, literal_plain, negatively}
use Rattle.si_flat.specs.declared.Owner.TheVariants.{Query}
use Rattle.si_flat.specs.Flattening.{WalkState, entry_scheme, term_piece, Flattens}
use Rattle.si_query.specs.Reading.{IsHeadKind, ReadsApplied, ReadsAtom, ReadsLiteral, ReadsNegated, ReadsStatement, statement}

-- where no sign was found
pub no_equation : {A : Type 0} (found : Option A) → is_some found ≡ false → found ≡ None
no_equation None h = refl
no_equation (Some x) h = absurd (false≢true (sym h))

module _ (pairs : Numbering) (tokens : List Lexeme) (a b : WalkState) where
  -- a predicate with its arguments, by its first token
  pub predicate_read : (kind : SymKind) (arity : ℕ) (positive : Bool) (rest : List Lexeme) (found : Option (Bool × Bor (List Lexeme))) (some : 1 ≤ length tokens)
      → IsHeadKind (token_at tokens 0).kind kind
      → {c d : WalkState} (h : ReadsApplied pairs (others_of tokens) c d arity rest)
      → Reads (λ (x : Bool). x) IsEquationSign Anything rest found → found ≡ None
      → Flattens pairs (entry_scheme Query positive) a b
      (term_piece (terms.app (record { kind = kind; text = (token_of (token_at tokens 0)).text; side = Predicate; arity = arity }) h.arguments))
      → ReadsStatement pairs true positive tokens a b rest
  predicate_read kind arity positive rest found some k h signs none flat =
      let first = token_of (token_at tokens 0) in
      let head : IsHead kind first.text first = k.head first.text in
      let is_kind = (constant_is kind first.text first (head_constant kind first.text first head)).0 in
      let atom = terms.app (record { kind = kind; text = first.text; side = Predicate; arity = arity }) h.arguments in
      let read : ReadsTokens IsTerm NoBracket (tokens_of tokens) (Some (terms.app (function_symbol kind first.text arity) h.arguments, tokens_of rest)) =
      parses_at (first_token tokens some) refl (term_head first (tokens_of (others_of tokens)) kind is_kind head _ (h.read kind first.text)) in
      record {
        atom = atom;
        read = statement_bare read (subst (Reads (λ (x : Bool). x) IsEquationSign Anything rest) none signs) (Some atom) (k.atom first.text arity h.arguments);
        flat = flat;
      }

  -- a positive statement is an atom
  pub atom_read : (equal : Bool) (rest : List Lexeme) → equal ≡ true → ReadsStatement pairs equal (equal && not true) tokens a b rest → ReadsAtom pairs tokens a b rest
  atom_read equal rest is h = by (subst (λ x. ReadsStatement pairs x (x && not true) tokens a b rest) is h) where
    by : ReadsStatement pairs true false tokens a b rest → ReadsAtom pairs tokens a b rest
    by k = record { meant = k.atom; read = atom_some (statement true k.atom) k.read refl; flat = k.flat }

  -- an atom in brackets
  pub round_read : (inside after : List Lexeme) (read : Option (Bor (List Lexeme))) → tokens_of tokens ≡ left_bracket ∷ tokens_of inside → ReadsAtom pairs inside a b after
      → PassesTokens (IsMark 41) after read → IfSome read (λ rest. ReadsNegated pairs tokens a b rest.now)
  round_read inside after None opens h closes = tt
  round_read inside after (Some rest) opens h closes = record {
    meant = h.meant;
    read = parses_at opens refl (negated_some (tokens_of inside) (parses_at refl (ap (λ ts. Some (h.meant, ts)) (sym (mark_front closes))) h.read));
    flat = h.flat;
  }

  -- a literal after a tilde
  pub tilde_read : {E : Type 0} (result : Result (Option (Bor (List Lexeme))) E) (after : List Lexeme) → tokens_of tokens ≡ mark 126 ∷ tokens_of after
      → IfOk result (λ read. IfSome read (λ rest. ReadsNegated pairs after a b rest.now)) → IfOk result (λ read. IfSome read (λ rest. ReadsLiteral pairs tokens a b rest.now))
  tilde_read result after opens = IfOk-weaker result _ _ (λ read. by read) where
    by : (read : Option (Bor (List Lexeme))) → IfSome read (λ rest. ReadsNegated pairs after a b rest.now) → IfSome read (λ rest. ReadsLiteral pairs tokens a b rest.now)
    by None h = h
    by (Some rest) h = record {
      meant = negatively h.meant;
      read = parses_at opens refl (literal_tilde (tokens_of after) (Some (h.meant, tokens_of rest.now)) h.read);
      flat = h.flat;
    }

  -- a literal without one
  pub plain_read : (equal : Bool) (rest : List Lexeme) → ((left : List Token) → tokens_of tokens ≡ mark 126 ∷ left → ⊥) → ReadsStatement pairs equal (equal && not false) tokens a b rest
      → ReadsLiteral pairs tokens a b rest
  plain_read equal rest none h = record {
    meant = statement equal h.atom;
    read = literal_plain none _ h.read;
    flat = subst (λ p. Flattens pairs (entry_scheme Query p) a b (term_piece h.atom)) (by equal) h.flat;
  } where
    by : (p : Bool) → (p && not false) ≡ p
    by true = refl
    by false = refl
