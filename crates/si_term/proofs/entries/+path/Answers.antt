use Rattle.std.proofs.Common.{◌≡◌, ◌+◌, ℕ, List, [], ◌∷◌, ◌++◌, Some, slice_get, get_or, length, ◌<◌, ap, sym, subst, ◌∙◌, map, arith}
use Rattle.std.proofs.lemmas.List.{length-map}
use Rattle.si_defs.specs.Terms.{size}
use Rattle.si_term.specs.Terms.{term_of}
use Rattle.si_term.specs.Walks.{paths, paths_from, under, FindsPath}
use Rattle.si_term.specs.declared.entries.PathWalk.{PathWalk}
use Rattle.si_term.specs.declared.term.Term.{Term}
use Rattle.si_term.proofs.Rows.{from, from-read, from-end, size-read, length-sizes, app-term}
use Rattle.si_term.proofs.Progress.{begins, passes, finds, ends, get-map}
use Rattle.si_term.proofs.entries.+path.Goals as goal

-- the paths from the argument with the number i from 0 on
paths-read : (ts : List Term) (i : ℕ) (t : Term) → i < length ts → t ≡ get_or ts i t → paths_from (1 + i) (from ts i) ≡ map (under (1 + i)) (paths (term_of t)) ++ paths_from (1 + (i + 1)) (from ts (i + 1))
paths-read ts i t h read =
    let e : 1 + (1 + i) ≡ 1 + (i + 1) = omega arith in
    ap (paths_from (1 + i)) (from-read ts i t h read) ∙ ap (λ k. map (under (1 + i)) (paths (term_of t)) ++ paths_from k (from ts (i + 1))) e

pub path_term-path_in-requires : goal.path_term-path_in-requires
path_term-path_in-requires t c =
    let e = ap size (app-term c.args.term.now c.in-App.field-0 c.in-App.arguments c.as_slice.result.now c.in-App.is c.as_slice.ensures) in
    (omega arith, omega arith)

pub path_in-loop-i-init : goal.path_in-loop-i-init
path_in-loop-i-init t c = begins _ _

pub path_in-path_term-requires : goal.path_in-path_term-requires
path_in-path_term-requires t c =
    let e = size-read c.args.terms.now c.loop-i.i c.index-terms-i.result c.loop-i-test.true c.index-terms-i.is in
    (omega arith, omega arith)

pub path_in-overflow_cast-i : goal.path_in-overflow_cast-i
path_in-overflow_cast-i t c = omega (arith, length-sizes c.args.terms.now)

pub path_in-overflow_add-i : goal.path_in-overflow_add-i
path_in-overflow_add-i t c = omega (arith, length-sizes c.args.terms.now)

pub path_in-returns-in-At : goal.path_in-returns-in-At
path_in-returns-in-At t c =
    let ts = c.args.terms.now in
    let i = c.loop-i.i in
    let one = c.index-terms-i.result in
    let P : PathWalk → Type 0 = λ w. FindsPath (paths (term_of one)) c.loop-i.left w in
    let seen : slice_get (paths (term_of one)) c.loop-i.left ≡ Some c.in-At.path = subst P c.in-At.is c.in_ok-path.ensures in
    let found = get-map (under (1 + i)) (paths (term_of one)) _ _ seen in
    let number : i + 1 ≡ 1 + i = omega arith in
    let pushed : c.push.new.self ≡ under (1 + i) c.in-At.path = c.in_ok-push-in-At.ensures.ok ∙ ap (λ k. c.in-At.path ++ k ∷ []) number in
    finds _ _ (map (under (1 + i)) (paths (term_of one))) (paths_from (1 + (i + 1)) (from ts (i + 1))) _ _ _ (paths-read ts i one c.loop-i-test.true c.index-terms-i.is) c.loop-i.invariant found
    ∙ ap (λ p. Some p) (sym pushed)

pub path_in-loop-i-preserved : goal.path_in-loop-i-preserved
path_in-loop-i-preserved t c =
    let ts = c.args.terms.now in
    let i = c.loop-i.i in
    let one = c.index-terms-i.result in
    let P : PathWalk → Type 0 = λ w. FindsPath (paths (term_of one)) c.loop-i.left w in
    let seen : c.loop-i.left ≡ length (paths (term_of one)) + c.in-Past.more = subst P c.in-Past.is c.in_ok-path.ensures in
    let passed : c.loop-i.left ≡ length (map (under (1 + i)) (paths (term_of one))) + c.in-Past.more = omega (arith, seen, length-map (paths (term_of one)) (under (1 + i))) in
    passes _ _ (map (under (1 + i)) (paths (term_of one))) (paths_from (1 + (i + 1)) (from ts (i + 1))) _ _ _ (paths-read ts i one c.loop-i-test.true c.index-terms-i.is) c.loop-i.invariant passed

pub path_in-returns : goal.path_in-returns
path_in-returns t c = ends _ _ _ _ (ap (paths_from (1 + c.loop-i.i)) (from-end c.args.terms.now c.loop-i.i c.loop-i-test.false)) c.loop-i.invariant
