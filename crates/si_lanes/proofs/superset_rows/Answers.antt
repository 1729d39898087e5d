use Rattle.std.proofs.Common.{vec_len, vec_capacity, ◌≡◌, inl, inr, sym, ◌∙◌, arith}
use Rattle.std.proofs.lemmas.Bool.{false≢true}
use Rattle.std.proofs.lemmas.List.{drop_all}
use Rattle.si_lanes.specs.Rows.{IsSubset}
use Rattle.si_lanes.proofs.Filtering.{filtered_more, filtered_all}
use Rattle.si_lanes.proofs.superset_rows.Goals as goal
use Rattle.si_lanes.proofs.superset_rows.Goals.{then-is_within+in_ok-append, else-is_within}

pub loop-position-preserved : goal.loop-position-preserved
loop-position-preserved c = (
  filtered_more (λ row. IsSubset c.args.mask.now row) c.args.rows.now c.loop-position.position c.args.out.now.items c.loop-position.out.items c.if-is_within.out.items c.loop-position-test.true
      c.loop-position.invariant.0 (elim c.if-is_within.branch [
        | then-is_within+in_ok-append w ↦ inl (c.is_within.ensures.0 w.if-is_within.true, (λ i. (w.out-is i).items) ∙ w.in_ok-append.ensures.ok)
        | else-is_within w ↦ inr (λ h. false≢true (sym w.if-is_within.false ∙ c.is_within.ensures.1 h), (λ i. (w.out-is i).items))
      ]),
  c.loop-position.invariant.1,
  elim c.if-is_within.branch [
    | then-is_within+in_ok-append w ↦
        let e : vec_len c.if-is_within.out ≡ vec_len w.append.new.out = λ i. vec_len (w.out-is i) in
        omega (arith, e, w.in_ok-append.ensures.len, c.loop-position.invariant.2)
    | else-is_within w ↦
        let e : vec_len c.if-is_within.out ≡ vec_len c.loop-position.out = λ i. vec_len (w.out-is i) in
        omega (arith, e, c.loop-position.invariant.2)
  ],
  elim c.if-is_within.branch [
    | then-is_within+in_ok-append w ↦
        let e : vec_capacity c.if-is_within.out ≡ vec_capacity w.append.new.out = λ i. vec_capacity (w.out-is i) in
        omega (arith, e, w.in_ok-append.ensures.capacity, c.loop-position.invariant.3)
    | else-is_within w ↦
        let e : vec_capacity c.if-is_within.out ≡ vec_capacity c.loop-position.out = λ i. vec_capacity (w.out-is i) in
        omega (arith, e, c.loop-position.invariant.3)
  ],
)

pub returns-clause-ok : goal.returns-clause-ok
returns-clause-ok c = filtered_all (λ row. IsSubset c.args.mask.now row) c.args.rows.now c.loop-position.position c.args.out.now.items c.loop-position.out.items (drop_all c.loop-position.position c.args.rows.now (omega (arith, c.loop-position-test.false))) c.loop-position.invariant.0
