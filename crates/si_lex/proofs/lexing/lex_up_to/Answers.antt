use Rattle.std.proofs.Common.{◌≡◌, ◌∷◌, ◌++◌, [], ◌+◌, ◌≤◌, length, true, false, IsTrue, inl, inr, refl, sym, ◌∙◌, subst, arith}
use Rattle.std.proofs.lemmas.Bool.{false≢true}
use Rattle.si_defs.specs.declared.TheConstants.{DEEPEST_NESTING}
use Rattle.si_lex.specs.Annotations.{BeginsClause, IsComma, IsBriefUpTo}
use Rattle.si_lex.specs.FullStops.{IsFullStop}
use Rattle.si_lex.specs.Lexemes.{token_of, tokens_of}
use Rattle.si_lex.specs.declared.lexing.Lexing.{Lexing}
use Rattle.si_lex.specs.declared.lexing.TokensEnd.TheVariants.{End, Bad, FullStop}
use Rattle.si_term.proofs.Results.{on_err}
use Rattle.si_lex.proofs.LexingLaws.{so_far_some}
use Rattle.si_lex.proofs.BriefLaws.{IsKept, kept_none, kept_more, kept_past, brief_end, brief_bad, brief_stop}
use Rattle.si_lex.proofs.lexing.lex_up_to.Goals as goal
use Rattle.si_lex.proofs.lexing.lex_up_to.Goals.{then-not-tried+then-ends_formula+in_default-past_annotations, else-not-tried}
use Rattle.si_lex.proofs.lexing.lex_up_to.Goals.{else-not-tried-via-then-not-tried+else-ends_formula, else-not-tried-via-else-not-tried}

pub loop-place-init : goal.loop-place-init
loop-place-init c =
    kept_none c.args.item c.args.bytes.now c.args.at c.skip_blanks-start.result c.in_ok-tokens.tokens.items c.in_ok-tokens.ensures.empty c.skip_blanks-start.ensures.from c.skip_blanks-start.ensures.behind

pub returns-in_default-clause-read : goal.returns-in_default-clause-read
returns-in_default-clause-read c =
    let l : Lexing = record { tokens = c.loop-place.tokens; start = c.skip_blanks-start.result; end = c.loop-place.place; why = Bad } in
    subst (IsBriefUpTo c.args.item c.args.bytes.now c.args.at) (sym c.new.ensures)
    (brief_bad c.args.item c.loop-place.tried c.args.bytes.now c.args.at l c.loop-place.depth c.loop-place.invariant c.loop-place-test.true c.in_default.ensures refl)

pub returns-clause-read : goal.returns-clause-read
returns-clause-read c =
    let l : Lexing = record { tokens = c.loop-place.tokens; start = c.skip_blanks-start.result; end = c.loop-place.place; why = End } in
    subst (IsBriefUpTo c.args.item c.args.bytes.now c.args.at) (sym c.new-2.ensures)
    (brief_end c.args.item c.loop-place.tried c.args.bytes.now c.args.at l c.loop-place.depth c.loop-place.invariant c.loop-place-test.false refl)

pub returns-then-full_stop-clause-read : goal.returns-then-full_stop-clause-read
returns-then-full_stop-clause-read c =
    let l : Lexing = record { tokens = c.push-in-loop-place.new.self; start = c.skip_blanks-start.result; end = c.loop-place.place + length c.in-Some.lexeme.spelling.now; why = FullStop } in
    subst (IsBriefUpTo c.args.item c.args.bytes.now c.args.at) (sym c.new-then-full_stop.ensures)
    (brief_stop c.args.item c.loop-place.tried c.args.bytes.now c.args.at l c.loop-place.tokens.items c.loop-place.depth c.loop-place.place c.in-Some.lexeme c.loop-place.invariant c.if-item.true
    c.loop-place-test.true c.in-Some.ensures.stands (subst (λ d. d ≤ DEEPEST_NESTING) c.in-Some.ensures.opened c.in-Some.ensures.shallow) (c.is_full_stop-full_stop.ensures.0 c.if-full_stop.true)
    c.in_ok-push-2.ensures.items refl refl)

pub loop-place-preserved-in-Some-past_annotations : goal.loop-place-preserved-in-Some-past_annotations
loop-place-preserved-in-Some-past_annotations c =
    let comma = c.ends_formula.ensures.0 c.if-ends_formula.true in
    subst (λ ts. IsKept c.args.item true c.args.bytes.now c.args.at c.skip_blanks-start.result ts 0 c.skip_blanks-place.result) (sym c.in_ok-push.ensures.items)
    (kept_past c.args.item c.loop-place.tried c.args.bytes.now c.args.at c.skip_blanks-start.result c.loop-place.tokens.items c.loop-place.depth c.loop-place.place c.loop-place.invariant
    c.loop-place-test.true c.in-Some.lexeme c.in-Some.ensures.stands c.in-Some-past_annotations.bracket c.in-Some-past_annotations.after c.skip_blanks-place.result c.if-not-tried.true comma.1 (omega (arith, c.len.ensures, comma.0))
    (subst (λ ts. BeginsClause (tokens_of ts)) c.as_slice.ensures.value c.in-Some-past_annotations.ensures.0) c.in-Some-past_annotations.ensures.1 c.skip_blanks-place.ensures.from c.skip_blanks-place.ensures.behind)

pub loop-place-preserved : goal.loop-place-preserved
loop-place-preserved c =
    let bytes = c.args.bytes.now in
    let start = c.skip_blanks-start.result in
    let lexeme = c.in-Some.lexeme in
    let tried = c.if-not-tried.tried in
    let goes_on : IsTrue c.args.item → IsFullStop c.loop-place.depth (token_of lexeme) → ⊥ =
    λ i s. elim c.else-item.either [ inl e ↦ false≢true (sym e.1 ∙ c.is_full_stop-full_stop.ensures.1 s) | inr e ↦ false≢true (sym e ∙ i) ] in
    let not_yet : tried ≡ false → (c.loop-place.tried ≡ false) × (6 ≤ length c.loop-place.tokens.items → IsComma c.loop-place.depth (token_of lexeme) → ⊥) =
    elim c.if-not-tried.branch [
      | then-not-tried+then-ends_formula+in_default-past_annotations w ↦ λ e. absurd (false≢true (sym e ∙ w.tried-is))
      | else-not-tried w ↦
          elim w.else-not-tried.branch [
            | else-not-tried-via-then-not-tried+else-ends_formula v ↦
                λ e. (v.if-not-tried.true, λ six is. false≢true (sym v.if-ends_formula.false ∙ v.ends_formula.ensures.1 (omega (arith, v.len.ensures, six), is)))
            | else-not-tried-via-else-not-tried v ↦ λ e. absurd (false≢true (sym e ∙ w.tried-is ∙ v.if-not-tried.false))
          ]
    ] in
    let more =
    kept_more c.args.item c.loop-place.tried bytes c.args.at start c.loop-place.tokens.items c.loop-place.depth c.loop-place.place c.loop-place.invariant c.loop-place-test.true lexeme
    c.in-Some.ensures.stands tried c.skip_blanks-place-in-loop-place.result not_yet
    (subst (λ d. d ≤ DEEPEST_NESTING) c.in-Some.ensures.opened c.in-Some.ensures.shallow) goes_on c.skip_blanks-place-in-loop-place.ensures.from c.skip_blanks-place-in-loop-place.ensures.behind in
    subst (λ ts. IsKept c.args.item tried bytes c.args.at start ts c.in-Some.behind c.skip_blanks-place-in-loop-place.result) (sym c.in_ok-push-2.ensures.items)
    (subst (λ d. IsKept c.args.item tried bytes c.args.at start (c.loop-place.tokens.items ++ lexeme ∷ []) d c.skip_blanks-place-in-loop-place.result) (sym c.in-Some.ensures.opened) more)

pub returns-in_err-push-clause-refused : goal.returns-in_err-push-clause-refused
returns-in_err-push-clause-refused c =
    on_err c.from_residual-in_err-push.result
    (so_far_some c.args.item c.args.bytes.now c.args.at c.skip_blanks-start.result c.loop-place.invariant.all c.loop-place.depth c.loop-place.place c.in-Some.lexeme c.loop-place.invariant.so_far
    c.loop-place-test.true c.in-Some.ensures.stands)
