use Rattle.std.proofs.Common.{◌+◌, ◌++◌, ◌∷◌, [], map, ap, sym, ◌∙◌, append_assoc, append-nil}
use Rattle.std.proofs.lemmas.List.{map-append}
use Rattle.si_term.specs.Meaning.{literal_of}
use Rattle.si_term.proofs.Literals.{later, later-read, later-end}
use Rattle.si_term.proofs.copies.copy_literals.Goals as goal

pub loop-i-init : goal.loop-i-init
loop-i-init c = ap (λ ks. map literal_of ks ++ map literal_of c.args.literals.now) c.in_ok-copies.ensures

pub loop-i-preserved : goal.loop-i-preserved
loop-i-preserved c =
    let ls = c.args.literals.now in
    let i = c.loop-i.i in
    let one = c.index-literals-i.result in
    let copy = c.in_ok-copy.field-0 in
    let copied = map literal_of c.loop-i.copies in
    ap (λ ks. map literal_of ks ++ later ls (i + 1)) c.in_ok-push.ensures.ok
    ∙ ap (λ l. l ++ later ls (i + 1)) (map-append literal_of c.loop-i.copies (copy ∷ []))
    ∙ append_assoc copied (literal_of copy ∷ []) (later ls (i + 1))
    ∙ ap (λ l. copied ++ l ∷ later ls (i + 1)) c.in_ok-copy.ensures
    ∙ ap (λ l. copied ++ l) (sym (later-read ls i one c.loop-i-test.true c.index-literals-i.is))
    ∙ c.loop-i.invariant

pub returns : goal.returns
returns c =
    let copied = map literal_of c.loop-i.copies in
    sym (append-nil copied)
    ∙ ap (λ us. copied ++ us) (sym (later-end c.args.literals.now c.loop-i.i c.loop-i-test.false))
    ∙ c.loop-i.invariant
