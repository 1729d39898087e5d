use Rattle.std.proofs.Common.{get_or}
use Rattle.si_lex.specs.declared.bytes.First.TheVariants.{White, Percent, Small, Capital, Digit, Sign, Dollar, SingleQuote, DoubleQuote, Exclamation, Slash, Opening, Closing, Underscore, LoneMark, Nothing}
use Rattle.si_lex.proofs.FirstLaws.{means_at, nothing_at, white_at, percent_at, underscore_at, opening_mark, closing_mark}
use Rattle.si_lex.proofs.TokenPlaces.{lower_to, upper_to, digit_to, mark_to}
use Rattle.si_lex.proofs.spellings.token_end.Goals as goal

pub returns-in-Small : goal.returns-in-Small
returns-in-Small c =
    lower_to c.args.bytes.now c.args.at c.word_end.result c.requires (means_at c.args.bytes.now c.args.at c.first_of.result Small c.first_of.ensures c.in-Small.is)
    c.word_end.ensures.run c.word_end.ensures.within

pub returns-in-Capital : goal.returns-in-Capital
returns-in-Capital c =
    upper_to c.args.bytes.now c.args.at c.word_end-in-Capital.result c.requires (means_at c.args.bytes.now c.args.at c.first_of.result Capital c.first_of.ensures c.in-Capital.is)
    c.word_end-in-Capital.ensures.run c.word_end-in-Capital.ensures.within

pub returns-in-Digit : goal.returns-in-Digit
returns-in-Digit c =
    digit_to c.args.bytes.now c.args.at c.decimal_end.result c.requires (means_at c.args.bytes.now c.args.at c.first_of.result Digit c.first_of.ensures c.in-Digit.is)
    c.decimal_end.ensures.run c.decimal_end.ensures.within

pub returns-in-Opening : goal.returns-in-Opening
returns-in-Opening c =
    let bytes = c.args.bytes.now in
    mark_to bytes c.args.at c.requires (opening_mark (get_or bytes c.args.at 0) (means_at bytes c.args.at c.first_of.result Opening c.first_of.ensures c.in-Opening.is))

pub returns-in-Closing : goal.returns-in-Closing
returns-in-Closing c =
    let bytes = c.args.bytes.now in
    mark_to bytes c.args.at c.requires (closing_mark (get_or bytes c.args.at 0) (means_at bytes c.args.at c.first_of.result Closing c.first_of.ensures c.in-Closing.is))

pub returns-in-LoneMark : goal.returns-in-LoneMark
returns-in-LoneMark c =
    mark_to c.args.bytes.now c.args.at c.requires (means_at c.args.bytes.now c.args.at c.first_of.result LoneMark c.first_of.ensures c.in-LoneMark.is)

pub returns-in-White : goal.returns-in-White
returns-in-White c = white_at c.args.bytes.now c.args.at c.requires (means_at c.args.bytes.now c.args.at c.first_of.result White c.first_of.ensures c.in-White.is)

pub returns-in-Percent : goal.returns-in-Percent
returns-in-Percent c =
    percent_at c.args.bytes.now c.args.at c.requires (means_at c.args.bytes.now c.args.at c.first_of.result Percent c.first_of.ensures c.in-Percent.is)

pub returns-in-Underscore : goal.returns-in-Underscore
returns-in-Underscore c =
    underscore_at c.args.bytes.now c.args.at c.requires (means_at c.args.bytes.now c.args.at c.first_of.result Underscore c.first_of.ensures c.in-Underscore.is)

pub returns-in-Nothing : goal.returns-in-Nothing
returns-in-Nothing c =
    nothing_at c.args.bytes.now c.args.at c.requires (means_at c.args.bytes.now c.args.at c.first_of.result Nothing c.first_of.ensures c.in-Nothing.is)

pub signed_end-requires-clause-sign : goal.signed_end-requires-clause-sign
signed_end-requires-clause-sign c = means_at c.args.bytes.now c.args.at c.first_of.result Sign c.first_of.ensures c.in-Sign.is

pub dollar_end-requires-clause-dollar : goal.dollar_end-requires-clause-dollar
dollar_end-requires-clause-dollar c = means_at c.args.bytes.now c.args.at c.first_of.result Dollar c.first_of.ensures c.in-Dollar.is

pub single_end-requires-clause-quote : goal.single_end-requires-clause-quote
single_end-requires-clause-quote c = means_at c.args.bytes.now c.args.at c.first_of.result SingleQuote c.first_of.ensures c.in-SingleQuote.is

pub double_end-requires-clause-quote : goal.double_end-requires-clause-quote
double_end-requires-clause-quote c = means_at c.args.bytes.now c.args.at c.first_of.result DoubleQuote c.first_of.ensures c.in-DoubleQuote.is

pub exclamation_end-requires-clause-exclamation : goal.exclamation_end-requires-clause-exclamation
exclamation_end-requires-clause-exclamation c = means_at c.args.bytes.now c.args.at c.first_of.result Exclamation c.first_of.ensures c.in-Exclamation.is

pub slash_end-requires-clause-slash : goal.slash_end-requires-clause-slash
slash_end-requires-clause-slash c = means_at c.args.bytes.now c.args.at c.first_of.result Slash c.first_of.ensures c.in-Slash.is
