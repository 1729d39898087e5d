use Rattle.std.proofs.Common.{◌≡◌, ◌+◌, ◌∷◌, Some, slice_get, length, map, ap, sym, ◌∙◌, arith, length-append}
use Rattle.std.proofs.lemmas.List.{length-map}
use Rattle.si_defs.specs.Entries.{term_entry, literal_entry}
use Rattle.si_term.specs.Terms.{term_of}
use Rattle.si_term.specs.Meaning.{literal_of}
use Rattle.si_defs.specs.Terms.{arguments}
use Rattle.si_term.specs.Walks.{subterms_of_all, entries_alone}
use Rattle.si_term.proofs.Alone.{entries-alone, length-entries}
use Rattle.si_term.proofs.Literals.{later, later-read, later-end}
use Rattle.si_term.proofs.Progress.{begins, passes, finds, get-map, get-next}
use Rattle.si_term.proofs.entries.entry_at.Goals as goal

pub loop-i-init : goal.loop-i-init
loop-i-init c =
    let all = ap (λ ks. length (entries_alone (map literal_of ks))) c.as_slice-literals.ensures in
    record {
      within = omega (arith, all, length-entries 1 (map literal_of c.args.clause.now.literals), c.requires.within);
      progress = begins _ _;
    }

pub returns-then-left-eq0 : goal.returns-then-left-eq0
returns-then-left-eq0 c =
    let ls = c.as_slice-literals.result.now in
    let i = c.loop-i.i in
    let one = c.index-literals-i.result in
    let split = ap entries_alone (later-read ls i one c.loop-i-test.true c.index-literals-i.is) in
    let inside = subterms_of_all (arguments (term_of one.atom)) in
    let front = literal_entry (literal_of one) ∷ map term_entry inside in
    let found : slice_get front c.loop-i.left ≡ Some (literal_entry (literal_of one)) = ap (slice_get front) c.if-left-eq0.true in
    ap (λ es. slice_get es c.args.number) (entries-alone 1 (map literal_of c.args.clause.now.literals))
    ∙ ap (λ ks. slice_get (entries_alone (map literal_of ks)) c.args.number) (sym c.as_slice-literals.ensures)
    ∙ finds _ _ front (entries_alone (later ls (i + 1))) _ _ _ split c.loop-i.invariant.progress found

pub returns-in-At : goal.returns-in-At
returns-in-At c =
    let ls = c.as_slice-literals.result.now in
    let i = c.loop-i.i in
    let one = c.index-literals-i.result in
    let split = ap entries_alone (later-read ls i one c.loop-i-test.true c.index-literals-i.is) in
    let inside = subterms_of_all (arguments (term_of one.atom)) in
    let front = literal_entry (literal_of one) ∷ map term_entry inside in
    let found = get-next (literal_entry (literal_of one)) (map term_entry inside) c.loop-i.left _ c.if-left-eq0.false (get-map term_entry inside _ _ c.in-At.ensures) in
    ap (λ es. slice_get es c.args.number) (entries-alone 1 (map literal_of c.args.clause.now.literals))
    ∙ ap (λ ks. slice_get (entries_alone (map literal_of ks)) c.args.number) (sym c.as_slice-literals.ensures)
    ∙ finds _ _ front (entries_alone (later ls (i + 1))) _ _ _ split c.loop-i.invariant.progress found

pub loop-i-preserved : goal.loop-i-preserved
loop-i-preserved c =
    let ls = c.as_slice-literals.result.now in
    let i = c.loop-i.i in
    let one = c.index-literals-i.result in
    let split = ap entries_alone (later-read ls i one c.loop-i-test.true c.index-literals-i.is) in
    let inside = subterms_of_all (arguments (term_of one.atom)) in
    let front = literal_entry (literal_of one) ∷ map term_entry inside in
    let terms = length-map inside term_entry in
    let passed : c.loop-i.left ≡ length front + c.in-Past.more = omega (arith, c.in-Past.ensures) in
    record {
      within = omega (arith, passed, c.loop-i.invariant.within, ap length split, length-append front (entries_alone (later ls (i + 1))));
      progress = passes _ _ front (entries_alone (later ls (i + 1))) _ _ _ split c.loop-i.invariant.progress passed;
    }

pub unreachable-requires : goal.unreachable-requires
unreachable-requires c = omega (arith, c.loop-i.invariant.within, ap (λ ks. length (entries_alone ks)) (later-end c.as_slice-literals.result.now c.loop-i.i c.loop-i-test.false))
