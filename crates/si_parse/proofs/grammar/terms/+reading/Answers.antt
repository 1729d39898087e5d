use Rattle.std.proofs.Common.{List, Option, Result, Bor, ◌≡◌, ◌<◌, ◌≤◌, Some, length, refl, sym, ap, ◌∙◌, arith, inl, inr, IfOk}
use Rattle.std.proofs.lemmas.Result.{IfOk-weaker}
use Rattle.std.proofs.lemmas.List.{length-map}
use Rattle.si_lex.specs.declared.lexeme.Lexeme.{Lexeme}
use Rattle.si_term.specs.declared.term.Term as program
use Rattle.si_defs.specs.declared.SymKind.{SymKind}
use Rattle.si_defs.specs.Terms as terms
use Rattle.si_defs.specs.Grammar.{IsTerm, IsHead}
use Rattle.si_defs.specs.declared.SymKind.TheVariants.{Word, Dollar, Number, Distinct}
use Rattle.si_lex.specs.Lexemes.{token_of, tokens_of}
use Rattle.si_parse.specs.GrammarRules.{IsApplied, function_symbol}
use Rattle.si_parse.specs.Parsing.{Reads, NoBracket}
use Rattle.si_term.specs.Terms.{symbol_of, term_of}
use Rattle.si_parse.proofs.ParseSteps.{parses_at}
use Rattle.si_parse.proofs.ParseReads.{reads_some, reads_none, mark_front, mark_none, mark_shorter, left_shorter, first_token, token_at, others_of}
use Rattle.si_parse.proofs.ParseRows.{row_none, row_stop, row_some, row_few, along_at, along_first, along_more}
use Rattle.si_parse.proofs.GrammarTerms.{symbol_kind, term_upper, term_constant, term_head, term_last, term_goes_on, term_stops, no_bracket-none, applied_bare, applied_none, applied_stop, applied_some}
use Rattle.si_parse.proofs.grammar.terms.+reading.Goals as goal

-- ---- heads
pub application-returns-in_default : goal.application-returns-in_default
application-returns-in_default t c =
    parses_at refl (ap (λ x. Some (x, tokens_of c.args.tokens.now)) (c.constant.ensures ∙ ap (λ x. terms.app (function_symbol c.args.kind x 0) terms.none) c.in_ok-text.ensures))
    (applied_bare c.args.kind (token_of c.args.head.now).text (tokens_of c.args.tokens.now) (no_bracket-none (tokens_of c.args.tokens.now) (mark_none c.in_default.ensures)))

pub application-returns-in_default-2 : goal.application-returns-in_default-2
application-returns-in_default-2 t c =
    parses_at (mark_front c.in-Some.ensures) refl
    (applied_none c.args.kind (token_of c.args.head.now).text (tokens_of c.in-Some.inside.now) (reads_none (λ ts. ts) c.in-Some.inside.now c.in_ok-args.ensures c.in_default-2.is))

pub application-overflow_cast-arity : goal.application-overflow_cast-arity
application-overflow_cast-arity t c =
    let p = reads_some (λ ts. ts) c.in-Some.inside.now c.in_ok-args.ensures c.in-Some-2.is in
    let few = row_few c.in-Some-2.args p in
    let inside = mark_shorter c.args.tokens.now c.in-Some.inside.now c.in-Some.ensures in
    omega (arith, few, inside, c.len-arity.ensures, c.requires, length-map c.in-Some.inside.now token_of)

pub application-returns-in-Some-mark_at : goal.application-returns-in-Some-mark_at
application-returns-in-Some-mark_at t c =
    let p = reads_some (λ ts. ts) c.in-Some.inside.now c.in_ok-args.ensures c.in-Some-2.is in
    let text = (token_of c.args.head.now).text in
    let symbol : symbol_of c.function.result ≡ function_symbol c.args.kind text (length c.in-Some-2.args) =
    c.function.ensures ∙ ap (λ x. function_symbol c.args.kind x c.len-arity.result) c.in_ok-text.ensures ∙ ap (function_symbol c.args.kind text) c.len-arity.ensures in
    parses_at (mark_front c.in-Some.ensures) (ap (λ x. Some (terms.app x (terms.row c.in-Some-2.args), tokens_of c.in-Some-mark_at.rest.now)) symbol)
    (applied_some c.args.kind text (tokens_of c.in-Some.inside.now) c.in-Some-2.args (tokens_of c.in-Some-mark_at.rest.now)
    (parses_at refl (ap (λ x. Some (c.in-Some-2.args, x)) (sym (mark_front c.in-Some-mark_at.ensures))) p))

pub application-returns : goal.application-returns
application-returns t c =
    parses_at (mark_front c.in-Some.ensures) refl
    (applied_stop c.args.kind (token_of c.args.head.now).text (tokens_of c.in-Some.inside.now) (reads_some (λ ts. ts) c.in-Some.inside.now c.in_ok-args.ensures c.in-Some-2.is) (mark_none c.in-None.ensures))

-- ---- arguments
pub arguments-returns-in_default : goal.arguments-returns-in_default
arguments-returns-in_default t c = row_none IsTerm term_last term_goes_on term_stops (reads_none term_of c.args.tokens.now c.in_ok-first.ensures c.in_default.is)

pub arguments-returns-in_default-mark_at : goal.arguments-returns-in_default-mark_at
arguments-returns-in_default-mark_at t c =
    let p = reads_some term_of c.args.tokens.now c.in_ok-first.ensures c.in-Some.is in
    parses_at refl (ap (λ ts. Some (ts, tokens_of c.in-Some.behind.now)) c.in_ok-one.ensures)
    (row_some IsTerm term_last term_goes_on term_stops (along_first IsTerm term_last term_goes_on term_stops p) (mark_none c.in_default-mark_at.ensures))

pub arguments-front_term-requires-2 : goal.arguments-front_term-requires-2
arguments-front_term-requires-2 t c =
    let one = left_shorter c.args.tokens.now c.in-Some.behind.now (reads_some term_of c.args.tokens.now c.in_ok-first.ensures c.in-Some.is) in
    let two = mark_shorter c.in-Some.behind.now c.in-Some-mark_at.rest.now c.in-Some-mark_at.ensures in
    (omega (arith, one, two), omega (arith, one, two, c.requires))

pub arguments-returns-in_default-2 : goal.arguments-returns-in_default-2
arguments-returns-in_default-2 t c =
    let p = reads_some term_of c.args.tokens.now c.in_ok-first.ensures c.in-Some.is in
    row_stop IsTerm term_last term_goes_on term_stops (along_first IsTerm term_last term_goes_on term_stops p) (mark_front c.in-Some-mark_at.ensures)
    (reads_none term_of c.in-Some-mark_at.rest.now c.in_ok-second.ensures c.in_default-2.is)

pub arguments-returns-in_default-mark_at-2 : goal.arguments-returns-in_default-mark_at-2
arguments-returns-in_default-mark_at-2 t c =
    let p = reads_some term_of c.args.tokens.now c.in_ok-first.ensures c.in-Some.is in
    let q = reads_some term_of c.in-Some-mark_at.rest.now c.in_ok-second.ensures c.in-Some-2.is in
    parses_at refl (ap (λ ts. Some (ts, tokens_of c.in-Some-2.behind.now)) c.in_ok-pair.ensures)
    (row_some IsTerm term_last term_goes_on term_stops
    (along_more IsTerm term_last term_goes_on term_stops (along_first IsTerm term_last term_goes_on term_stops p) (mark_front c.in-Some-mark_at.ensures) q) (mark_none c.in_default-mark_at-2.ensures))

pub arguments-front_term-requires-3 : goal.arguments-front_term-requires-3
arguments-front_term-requires-3 t c =
    let one = left_shorter c.args.tokens.now c.in-Some.behind.now (reads_some term_of c.args.tokens.now c.in_ok-first.ensures c.in-Some.is) in
    let two = mark_shorter c.in-Some.behind.now c.in-Some-mark_at.rest.now c.in-Some-mark_at.ensures in
    let three = left_shorter c.in-Some-mark_at.rest.now c.in-Some-2.behind.now (reads_some term_of c.in-Some-mark_at.rest.now c.in_ok-second.ensures c.in-Some-2.is) in
    let four = mark_shorter c.in-Some-2.behind.now c.in-Some-mark_at-2.rest.now c.in-Some-mark_at-2.ensures in
    (omega (arith, one, two, three, four), omega (arith, one, two, three, four, c.requires))

pub arguments-returns-in_default-3 : goal.arguments-returns-in_default-3
arguments-returns-in_default-3 t c =
    let p = reads_some term_of c.args.tokens.now c.in_ok-first.ensures c.in-Some.is in
    let q = reads_some term_of c.in-Some-mark_at.rest.now c.in_ok-second.ensures c.in-Some-2.is in
    row_stop IsTerm term_last term_goes_on term_stops
    (along_more IsTerm term_last term_goes_on term_stops (along_first IsTerm term_last term_goes_on term_stops p) (mark_front c.in-Some-mark_at.ensures) q) (mark_front c.in-Some-mark_at-2.ensures)
    (reads_none term_of c.in-Some-mark_at-2.rest.now c.in_ok-third.ensures c.in_default-3.is)

pub arguments-returns-in_default-mark_at-3 : goal.arguments-returns-in_default-mark_at-3
arguments-returns-in_default-mark_at-3 t c =
    let p = reads_some term_of c.args.tokens.now c.in_ok-first.ensures c.in-Some.is in
    let q = reads_some term_of c.in-Some-mark_at.rest.now c.in_ok-second.ensures c.in-Some-2.is in
    let r = reads_some term_of c.in-Some-mark_at-2.rest.now c.in_ok-third.ensures c.in-Some-3.is in
    let two = along_more IsTerm term_last term_goes_on term_stops (along_first IsTerm term_last term_goes_on term_stops p) (mark_front c.in-Some-mark_at.ensures) q in
    parses_at refl (ap (λ ts. Some (ts, tokens_of c.in-Some-3.behind.now)) c.in_ok-three.ensures)
    (row_some IsTerm term_last term_goes_on term_stops (along_more IsTerm term_last term_goes_on term_stops two (mark_front c.in-Some-mark_at-2.ensures) r) (mark_none c.in_default-mark_at-3.ensures))

pub arguments-loop-rest-init : goal.arguments-loop-rest-init
arguments-loop-rest-init t c =
    let p = reads_some term_of c.args.tokens.now c.in_ok-first.ensures c.in-Some.is in
    let q = reads_some term_of c.in-Some-mark_at.rest.now c.in_ok-second.ensures c.in-Some-2.is in
    let r = reads_some term_of c.in-Some-mark_at-2.rest.now c.in_ok-third.ensures c.in-Some-3.is in
    let two = along_more IsTerm term_last term_goes_on term_stops (along_first IsTerm term_last term_goes_on term_stops p) (mark_front c.in-Some-mark_at.ensures) q in
    record {
      along = along_at c.in_ok-args.ensures (along_more IsTerm term_last term_goes_on term_stops two (mark_front c.in-Some-mark_at-2.ensures) r);
      shorter = omega (
        arith,
        left_shorter c.args.tokens.now c.in-Some.behind.now p,
        mark_shorter c.in-Some.behind.now c.in-Some-mark_at.rest.now c.in-Some-mark_at.ensures,
        left_shorter c.in-Some-mark_at.rest.now c.in-Some-2.behind.now q,
        mark_shorter c.in-Some-2.behind.now c.in-Some-mark_at-2.rest.now c.in-Some-mark_at-2.ensures,
        left_shorter c.in-Some-mark_at-2.rest.now c.in-Some-3.behind.now r,
      );
    }

pub arguments-returns-in_default-4 : goal.arguments-returns-in_default-4
arguments-returns-in_default-4 t c =
    row_stop IsTerm term_last term_goes_on term_stops c.loop-rest.invariant.along (mark_front c.in-Some-mark_at-4.ensures)
    (reads_none term_of c.in-Some-mark_at-4.rest.now c.in_ok-next.ensures c.in_default-4.is)

pub arguments-loop-rest-smaller : goal.arguments-loop-rest-smaller
arguments-loop-rest-smaller t c =
    let one : length c.in-Some-mark_at-4.rest.now < length c.loop-rest.left.now = mark_shorter c.loop-rest.left.now c.in-Some-mark_at-4.rest.now c.in-Some-mark_at-4.ensures in
    let shorter : length c.in-Some-4.behind.now < length c.loop-rest.left.now =
    omega (arith, one, left_shorter c.in-Some-mark_at-4.rest.now c.in-Some-4.behind.now (reads_some term_of c.in-Some-mark_at-4.rest.now c.in_ok-next.ensures c.in-Some-4.is)) in
    shorter

pub arguments-loop-rest-preserved : goal.arguments-loop-rest-preserved
arguments-loop-rest-preserved t c =
    let p = reads_some term_of c.in-Some-mark_at-4.rest.now c.in_ok-next.ensures c.in-Some-4.is in
    let one : length c.in-Some-mark_at-4.rest.now < length c.loop-rest.left.now = mark_shorter c.loop-rest.left.now c.in-Some-mark_at-4.rest.now c.in-Some-mark_at-4.ensures in
    record {
      along = along_at c.in_ok-push.ensures.ok (along_more IsTerm term_last term_goes_on term_stops c.loop-rest.invariant.along (mark_front c.in-Some-mark_at-4.ensures) p);
      shorter = omega (arith, one, left_shorter c.in-Some-mark_at-4.rest.now c.in-Some-4.behind.now p, c.loop-rest.invariant.shorter);
    }

pub arguments-returns : goal.arguments-returns
arguments-returns t c =
    parses_at refl (ap (λ ts. Some (ts, tokens_of c.loop-rest.left.now)) c.shrink.ensures)
    (row_some IsTerm term_last term_goes_on term_stops c.loop-rest.invariant.along (mark_none c.in_default-mark_at-4.ensures))

-- ---- terms
pub front_term-returns-in_ok-text-in-Upper : goal.front_term-returns-in_ok-text-in-Upper
front_term-returns-in_ok-text-in-Upper t c =
    let rest = tokens_of (others_of c.args.tokens.now) in
    parses_at (first_token c.args.tokens.now c.in-len1-up.len_at_least) (ap (λ x. Some (terms.var x, rest)) c.in_ok-text-in-Upper.ensures)
    (term_upper (token_of (token_at c.args.tokens.now 0)) rest c.in-Upper.is)

pub front_term-returns-in_ok-text-in-Int : goal.front_term-returns-in_ok-text-in-Int
front_term-returns-in_ok-text-in-Int t c =
    let rest = tokens_of (others_of c.args.tokens.now) in
    let first = token_of (token_at c.args.tokens.now 0) in
    parses_at (first_token c.args.tokens.now c.in-len1-up.len_at_least)
    (ap (λ x. Some (x, rest)) (c.constant.ensures ∙ ap (λ x. terms.app (function_symbol Number x 0) terms.none) c.in_ok-text-in-Int.ensures))
    (term_constant first rest Number (ap symbol_kind c.in-Int.is) (λ text u h. h) (λ i. record { kind = c.in-Int.is i; text = first.text }))

pub front_term-returns-in_ok-text-in-Double : goal.front_term-returns-in_ok-text-in-Double
front_term-returns-in_ok-text-in-Double t c =
    let rest = tokens_of (others_of c.args.tokens.now) in
    let first = token_of (token_at c.args.tokens.now 0) in
    parses_at (first_token c.args.tokens.now c.in-len1-up.len_at_least)
    (ap (λ x. Some (x, rest)) (c.constant-in-Double.ensures ∙ ap (λ x. terms.app (function_symbol Distinct x 0) terms.none) c.in_ok-text-in-Double.ensures))
    (term_constant first rest Distinct (ap symbol_kind c.in-Double.is) (λ text u h. h) (λ i. record { kind = c.in-Double.is i; text = first.text }))

-- a head and what stands after it
headed : {E : Type 0} (kind : SymKind) (result : Result (Option (program.Term × Bor (List Lexeme))) E) (tokens : List Lexeme) → 1 ≤ length tokens
    → symbol_kind (token_at tokens 0).kind ≡ Some kind → IsHead kind (token_of (token_at tokens 0)).text (token_of (token_at tokens 0))
    → IfOk result (Reads term_of (IsApplied kind (token_of (token_at tokens 0)).text) NoBracket (others_of tokens)) → IfOk result (Reads term_of IsTerm NoBracket tokens)
headed kind result tokens some is_kind head h =
    let first = token_of (token_at tokens 0) in
    IfOk-weaker result (Reads term_of (IsApplied kind first.text) NoBracket (others_of tokens)) (Reads term_of IsTerm NoBracket tokens)
    (λ r p. parses_at (first_token tokens some) refl (term_head first (tokens_of (others_of tokens)) kind is_kind head _ p)) h

pub front_term-returns-in-Lower : goal.front_term-returns-in-Lower
front_term-returns-in-Lower t c =
    headed Word c.application.result c.args.tokens.now c.in-len1-up.len_at_least (ap symbol_kind c.in-Lower.is)
    (inl (λ i. record { kind = c.in-Lower.is i; text = (token_of (token_at c.args.tokens.now 0)).text })) c.application.ensures

pub front_term-returns-in-Single : goal.front_term-returns-in-Single
front_term-returns-in-Single t c =
    headed Word c.application-in-Single.result c.args.tokens.now c.in-len1-up.len_at_least (ap symbol_kind c.in-Single.is)
    (inr (λ i. record { kind = c.in-Single.is i; text = (token_of (token_at c.args.tokens.now 0)).text })) c.application-in-Single.ensures

pub front_term-returns-in-Dollar : goal.front_term-returns-in-Dollar
front_term-returns-in-Dollar t c =
    headed Dollar c.application-in-Dollar.result c.args.tokens.now c.in-len1-up.len_at_least (ap symbol_kind c.in-Dollar.is)
    (λ i. record { kind = c.in-Dollar.is i; text = (token_of (token_at c.args.tokens.now 0)).text }) c.application-in-Dollar.ensures
