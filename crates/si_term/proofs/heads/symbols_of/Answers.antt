use Rattle.std.proofs.Common.{◌+◌, ◌++◌, map, ap, sym, ◌∙◌, append_assoc, append-nil}
use Rattle.si_defs.specs.Terms.{symbols}
use Rattle.si_defs.specs.Entries.{literals_symbols}
use Rattle.si_term.specs.Terms.{symbol_of, term_of}
use Rattle.si_term.specs.Meaning.{literal_of}
use Rattle.si_term.specs.declared.clause.Literal.{Literal}
use Rattle.si_term.proofs.Literals.{later, later-read, later-end}
use Rattle.si_term.proofs.heads.symbols_of.Goals as goal

pub loop-i-init : goal.loop-i-init
loop-i-init c = ap (λ vs. map (λ s. symbol_of s.now) vs ++ literals_symbols (map literal_of c.as_slice-literals.result.now)) c.new-symbols.ensures.items

pub loop-i-preserved : goal.loop-i-preserved
loop-i-preserved c =
    let ls = c.as_slice-literals.result.now in
    let i = c.loop-i.i in
    let one = c.index-literals-i.result in
    let shown = map (λ s. symbol_of s.now) c.loop-i.symbols.items in
    let split = ap literals_symbols (later-read ls i one c.loop-i-test.true c.index-literals-i.is) in
    ap (λ l. l ++ literals_symbols (later ls (i + 1))) (c.in_ok-list_term.ensures ∙ ap (λ (l : Literal). shown ++ symbols (term_of l.atom)) (sym c.index-literals-i.is))
    ∙ append_assoc shown (symbols (term_of one.atom)) (literals_symbols (later ls (i + 1)))
    ∙ ap (λ l. shown ++ l) (sym split)
    ∙ c.loop-i.invariant

pub returns : goal.returns
returns c =
    let shown = map (λ s. symbol_of s.now) c.loop-i.symbols.items in
    sym (append-nil shown)
    ∙ ap (λ us. shown ++ literals_symbols us) (sym (later-end c.as_slice-literals.result.now c.loop-i.i c.loop-i-test.false))
    ∙ c.loop-i.invariant
    ∙ ap (λ ks. literals_symbols (map literal_of ks)) c.as_slice-literals.ensures
