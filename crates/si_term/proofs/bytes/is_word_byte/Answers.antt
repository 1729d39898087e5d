-- The table has what is defined, byte by byte.
use Rattle.std.proofs.Common.{◌≡◌, false, map, get_or, refl, ap, ◌∙◌, arith}
use Rattle.std.specs.List.{range_with_len}
use Rattle.std.proofs.lemmas.List.FromFn.{get_or-map-range_with_len}
use Rattle.si_defs.specs.Bytes.{is_word_byte}
use Rattle.si_term.specs.declared.bytes.TheConstants.{IN_WORDS}
use Rattle.si_term.proofs.bytes.is_word_byte.Goals as goal

pub returns : goal.returns
returns c =
    let table : IN_WORDS ≡ map is_word_byte (range_with_len 0 256) = refl in
    ap (λ t. get_or t c.args.byte false) table
    ∙ get_or-map-range_with_len is_word_byte 0 256 c.args.byte c.args.byte false (omega arith) (omega arith)
