use Rattle.std.proofs.Common.{◌≡◌, ◌+◌, ◌-◌, ◌++◌, ◌∷◌, [], Some, slice_get, length, map, ap, sym, subst, ◌∙◌, arith, length-append}
use Rattle.std.proofs.lemmas.List.{length-map}
use Rattle.si_defs.specs.Clauses.{literals_size}
use Rattle.si_defs.specs.Entries.{Place}
use Rattle.si_term.specs.Terms.{term_of}
use Rattle.si_term.specs.Meaning.{literal_of}
use Rattle.si_defs.specs.Terms.{arguments}
use Rattle.si_term.specs.Walks.{paths_from, FindsPath}
use Rattle.si_term.specs.declared.entries.PathWalk.{PathWalk}
use Rattle.si_term.proofs.Alone.{placed_back, places_alone, entries-places, length-places}
use Rattle.si_term.proofs.Literals.{later, later-read, later-end, literal_size-read, length-literals_size}
use Rattle.si_term.proofs.Progress.{begins, passes, finds, get-map, get-next}
use Rattle.si_term.proofs.entries.place_at.Goals as goal

pub loop-i-init : goal.loop-i-init
loop-i-init c =
    let all = ap (λ ks. length (places_alone 1 (map literal_of ks))) c.as_slice-literals.ensures in
    record {
      within = omega (arith, all, length-places 1 (map literal_of c.args.clause.now.literals), c.requires.within);
      progress = begins _ _;
    }

pub overflow_cast-position : goal.overflow_cast-position
overflow_cast-position c =
    let ls = c.as_slice-literals.result.now in
    let sized = ap (λ ks. literals_size (map literal_of ks)) c.as_slice-literals.ensures in
    omega (arith, length-literals_size ls)

pub overflow_add-position : goal.overflow_add-position
overflow_add-position c =
    let ls = c.as_slice-literals.result.now in
    let sized = ap (λ ks. literals_size (map literal_of ks)) c.as_slice-literals.ensures in
    omega (arith, length-literals_size ls)

pub path_inside-requires : goal.path_inside-requires
path_inside-requires c =
    let ls = c.as_slice-literals.result.now in
    let sized = ap (λ ks. literals_size (map literal_of ks)) c.as_slice-literals.ensures in
    omega (arith, literal_size-read ls c.loop-i.i c.index-literals-i.result c.loop-i-test.true c.index-literals-i.is)

pub returns-then-left-eq0 : goal.returns-then-left-eq0
returns-then-left-eq0 c =
    let ls = c.as_slice-literals.result.now in
    let i = c.loop-i.i in
    let one = c.index-literals-i.result in
    let behind : 1 + (1 + i) ≡ 1 + (i + 1) = omega arith in
    let inside = paths_from 1 (arguments (term_of one.atom)) in
    let first : Place = record { literal = 1 + i; path = [] } in
    let front = first ∷ map (placed_back (1 + i)) inside in
    let rest = places_alone (1 + (i + 1)) (later ls (i + 1)) in
    let split = ap (places_alone (1 + i)) (later-read ls i one c.loop-i-test.true c.index-literals-i.is) ∙ ap (λ n. front ++ places_alone n (later ls (i + 1))) behind in
    let found : slice_get front c.loop-i.left ≡ Some first = ap (slice_get front) c.if-left-eq0.true in
    let number : 1 + i ≡ i + 1 = omega arith in
    ap (λ ps. slice_get ps c.args.number) (entries-places 1 (map literal_of c.args.clause.now.literals))
    ∙ ap (λ ks. slice_get (places_alone 1 (map literal_of ks)) c.args.number) (sym c.as_slice-literals.ensures)
    ∙ finds _ _ front rest _ _ _ split c.loop-i.invariant.progress found
    ∙ λ j. Some (record { literal = number j; path = sym c.new.ensures j })

pub returns-in-At : goal.returns-in-At
returns-in-At c =
    let ls = c.as_slice-literals.result.now in
    let i = c.loop-i.i in
    let one = c.index-literals-i.result in
    let behind : 1 + (1 + i) ≡ 1 + (i + 1) = omega arith in
    let inside = paths_from 1 (arguments (term_of one.atom)) in
    let first : Place = record { literal = 1 + i; path = [] } in
    let front = first ∷ map (placed_back (1 + i)) inside in
    let rest = places_alone (1 + (i + 1)) (later ls (i + 1)) in
    let split = ap (places_alone (1 + i)) (later-read ls i one c.loop-i-test.true c.index-literals-i.is) ∙ ap (λ n. front ++ places_alone n (later ls (i + 1))) behind in
    let P : PathWalk → Type 0 = λ w. FindsPath inside (c.loop-i.left - 1) w in
    let told = subst P c.in-At.is c.in_ok-path.ensures in
    let found = get-next first (map (placed_back (1 + i)) inside) c.loop-i.left _ c.if-left-eq0.false (get-map (placed_back (1 + i)) inside _ _ told) in
    let number : 1 + i ≡ i + 1 = omega arith in
    ap (λ ps. slice_get ps c.args.number) (entries-places 1 (map literal_of c.args.clause.now.literals))
    ∙ ap (λ ks. slice_get (places_alone 1 (map literal_of ks)) c.args.number) (sym c.as_slice-literals.ensures)
    ∙ finds _ _ front rest _ _ _ split c.loop-i.invariant.progress found
    ∙ λ j. Some (record { literal = number j; path = sym c.reverse.ensures j })

pub loop-i-preserved : goal.loop-i-preserved
loop-i-preserved c =
    let ls = c.as_slice-literals.result.now in
    let i = c.loop-i.i in
    let one = c.index-literals-i.result in
    let behind : 1 + (1 + i) ≡ 1 + (i + 1) = omega arith in
    let inside = paths_from 1 (arguments (term_of one.atom)) in
    let first : Place = record { literal = 1 + i; path = [] } in
    let front = first ∷ map (placed_back (1 + i)) inside in
    let rest = places_alone (1 + (i + 1)) (later ls (i + 1)) in
    let split = ap (places_alone (1 + i)) (later-read ls i one c.loop-i-test.true c.index-literals-i.is) ∙ ap (λ n. front ++ places_alone n (later ls (i + 1))) behind in
    let P : PathWalk → Type 0 = λ w. FindsPath inside (c.loop-i.left - 1) w in
    let told = subst P c.in-Past.is c.in_ok-path.ensures in
    let terms = length-map inside (placed_back (1 + i)) in
    let passed : c.loop-i.left ≡ length front + c.in-Past.more = omega (arith, told) in
    record {
      within = omega (arith, passed, c.loop-i.invariant.within, ap length split, length-append front rest);
      progress = passes _ _ front rest _ _ _ split c.loop-i.invariant.progress passed;
    }

pub unreachable-requires : goal.unreachable-requires
unreachable-requires c = omega (arith, c.loop-i.invariant.within, ap (λ ks. length (places_alone (1 + c.loop-i.i) ks)) (later-end c.as_slice-literals.result.now c.loop-i.i c.loop-i-test.false))
