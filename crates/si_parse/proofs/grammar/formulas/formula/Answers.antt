use Rattle.std.proofs.Common.{length, replicate, ap, ◌∙◌, arith}
use Rattle.std.proofs.lemmas.List.{length-map, length-append}
use Rattle.si_defs.specs.Clauses.{AreSoundLiterals}
use Rattle.si_defs.specs.Grammar.{left_bracket}
use Rattle.si_lex.specs.Lexemes.{token_of, tokens_of}
use Rattle.si_parse.specs.Meaning.{literals_of}
use Rattle.si_parse.proofs.ParseReads.{reads_some, reads_none}
use Rattle.si_parse.proofs.GrammarFormulas.{formula_none, formula_stop, formula_some}
use Rattle.si_parse.proofs.GrammarSound.{parsed_has, found_formula}
use Rattle.si_parse.proofs.grammar.formulas.formula.Goals as goal

pub disjunction-requires : goal.disjunction-requires
disjunction-requires c =
    let brackets = replicate c.opening_brackets-depth.result.0 left_bracket in
    let inner = c.opening_brackets-depth.result.1.now in
    omega (arith, ap length c.opening_brackets-depth.ensures.front ∙ length-append brackets (tokens_of inner), length-map inner token_of, length-map c.args.tokens.now token_of, c.requires)

pub returns-in_default-clause-read : goal.returns-in_default-clause-read
returns-in_default-clause-read c =
    formula_none c.opening_brackets-depth.result.0 c.opening_brackets-depth.ensures.front c.opening_brackets-depth.ensures.bare
    (reads_none literals_of c.opening_brackets-depth.result.1.now c.in_ok-literals.ensures c.in_default.is)

pub returns-in-Some-closing_brackets-clause-read : goal.returns-in-Some-closing_brackets-clause-read
returns-in-Some-closing_brackets-clause-read c =
    formula_some c.opening_brackets-depth.result.0 c.opening_brackets-depth.ensures.front c.opening_brackets-depth.ensures.bare
    (reads_some literals_of c.opening_brackets-depth.result.1.now c.in_ok-literals.ensures c.in-Some.is) c.in-Some-closing_brackets.ensures

pub returns-in-None-clause-read : goal.returns-in-None-clause-read
returns-in-None-clause-read c =
    formula_stop c.opening_brackets-depth.result.0 c.opening_brackets-depth.ensures.front c.opening_brackets-depth.ensures.bare
    (reads_some literals_of c.opening_brackets-depth.result.1.now c.in_ok-literals.ensures c.in-Some.is) c.in-None.ensures

pub returns-in-Some-closing_brackets-clause-sound : goal.returns-in-Some-closing_brackets-clause-sound
returns-in-Some-closing_brackets-clause-sound c =
    parsed_has AreSoundLiterals c.args.tokens.now (found_formula c.args.tokens.now c.requires) _ _ (returns-in-Some-closing_brackets-clause-read c)
