use Rattle.std.proofs.Common.{◌≡◌, ◌++◌, List, [], ◌∷◌, ap, sym, ◌∙◌, subst, arith}
use Rattle.si_flat.specs.declared.Cell.{Cell}
use Rattle.si_flat.specs.declared.Cell.TheVariants as cell
use Rattle.si_legal.specs.Pieces.{piece}
use Rattle.si_mscg.specs.Walking.{PartsSoFar, state_of, with_piece, BeginsWithTerm}
use Rattle.si_mscg.proofs.WalkLaws.{Left, Turn, turn, all_left, none_left, kept_turn, cut_turn, same_turn, new_some, node_begins, new_begins, kept_unbound, may_cut, shorter}
use Rattle.si_mscg.proofs.walk.Walk.share.Goals as goal

-- the first terms of what is left
first_of : (node new rest : List Cell) (c : Cell) (s end : PartsSoFar) → node ≡ c ∷ rest → Left node new s end → Turn c rest new s end
first_of node new rest c s end e l = turn c rest new s end (subst (λ n. Left n new s end) e l)

pub loop-cell-init : goal.loop-cell-init
loop-cell-init c = λ t u h k. all_left c.args.node.now c.args.new.now (state_of c.args.self.now) t u h.cells_are k.cells_are h.sound k.sound

pub unreachable-requires : goal.unreachable-requires
unreachable-requires c =
    let end = with_piece (state_of c.args.self.now) (piece c.args.self.now.next c.requires.whole.0 c.requires.new_whole.0) in
    let s = state_of c.loop-cell.self in
    let tr = first_of c.loop-cell.node.now c.loop-cell.new.now c.in-Some.arguments.now c.in-Some.cell.now s end c.in-Some.ensures.cases.0 (c.loop-cell.invariant c.requires.whole.0 c.requires.new_whole.0 c.requires.whole.1 c.requires.new_whole.1) in
    omega (arith, c.in_default-split_first.ensures.cases, new_some c.in-Some.cell.now c.in-Some.arguments.now c.loop-cell.new.now s end tr)

pub keep-requires-clause-begins : goal.keep-requires-clause-begins
keep-requires-clause-begins c =
    let end = with_piece (state_of c.args.self.now) (piece c.args.self.now.next c.requires.whole.0 c.requires.new_whole.0) in
    let s = state_of c.loop-cell.self in
    let tr = first_of c.loop-cell.node.now c.loop-cell.new.now c.in-Some.arguments.now c.in-Some.cell.now s end c.in-Some.ensures.cases.0 (c.loop-cell.invariant c.requires.whole.0 c.requires.new_whole.0 c.requires.whole.1 c.requires.new_whole.1) in
    new_begins c.in-Some.cell.now c.in-Some.arguments.now c.loop-cell.new.now s end tr

pub keep-requires-clause-unbound : goal.keep-requires-clause-unbound
keep-requires-clause-unbound c =
    let end = with_piece (state_of c.args.self.now) (piece c.args.self.now.next c.requires.whole.0 c.requires.new_whole.0) in
    let s = state_of c.loop-cell.self in
    let tr = first_of c.loop-cell.node.now c.loop-cell.new.now c.in-Some.arguments.now (cell.Ind c.in-Ind.kept) s end (c.in-Some.ensures.cases.0 ∙ ap (λ x. x ∷ c.in-Some.arguments.now) c.in-Ind.is) (c.loop-cell.invariant c.requires.whole.0 c.requires.new_whole.0 c.requires.whole.1 c.requires.new_whole.1) in
    kept_unbound c.in-Ind.kept c.in-Some.arguments.now c.loop-cell.new.now s end tr (c.requires.may_share c.requires.whole.0 c.requires.new_whole.0 c.requires.whole.1 c.requires.new_whole.1)

pub loop-cell-preserved-in-Ind : goal.loop-cell-preserved-in-Ind
loop-cell-preserved-in-Ind c =
    λ t u h k.
    let end = with_piece (state_of c.args.self.now) (piece c.args.self.now.next t u) in
    let s = state_of c.loop-cell.self in
    let tr = first_of c.loop-cell.node.now c.loop-cell.new.now c.in-Some.arguments.now (cell.Ind c.in-Ind.kept) s end (c.in-Some.ensures.cases.0 ∙ ap (λ x. x ∷ c.in-Some.arguments.now) c.in-Ind.is) (c.loop-cell.invariant t u h k) in
    let keeps = c.in_ok-new.ensures in
    subst (λ x. Left c.in-Some.arguments.now c.in_ok-new.new.now x end) (sym keeps.state)
    (kept_turn c.in-Ind.kept c.in-Some.arguments.now c.loop-cell.new.now keeps.part c.in_ok-new.new.now s end tr keeps.whole keeps.parts)

pub loop-cell-preserved-then-have_same_head : goal.loop-cell-preserved-then-have_same_head
loop-cell-preserved-then-have_same_head c =
    λ t u h k.
    let end = with_piece (state_of c.args.self.now) (piece c.args.self.now.next t u) in
    let s = state_of c.loop-cell.self in
    let l = subst (λ n. Left c.loop-cell.node.now n s end) c.in-Some-split_first.ensures.cases.0 (c.loop-cell.invariant t u h k) in
    let tr = first_of c.loop-cell.node.now (c.in-Some-split_first.other.now ∷ c.in-Some-split_first.inside.now) c.in-Some.arguments.now c.in-Some.cell.now s end c.in-Some.ensures.cases.0 l in
    let draft = ◌∙◌ {A = List Cell} c.in_ok-push.ensures.items (ap (λ x. c.loop-cell.self.draft.items ++ x ∷ []) c.without_span.ensures) in
    subst (λ d. Left c.in-Some.arguments.now c.in-Some-split_first.inside.now (record { draft = d; common = s.common; node = s.node; new = s.new; next = s.next }) end) (sym draft)
    (same_turn c.in-Some.cell.now c.in-Some-split_first.other.now c.in-Some.arguments.now c.in-Some-split_first.inside.now s end tr c.in_default-cell.not-Ind (sym c.have_same_head.ensures ∙ c.if-have_same_head.true))

pub cut-requires : goal.cut-requires
cut-requires c =
    let end = with_piece (state_of c.args.self.now) (piece c.args.self.now.next c.requires.whole.0 c.requires.new_whole.0) in
    let s = state_of c.loop-cell.self in
    let l = c.loop-cell.invariant c.requires.whole.0 c.requires.new_whole.0 c.requires.whole.1 c.requires.new_whole.1 in
    let tr = first_of c.loop-cell.node.now c.loop-cell.new.now c.in-Some.arguments.now c.in-Some.cell.now s end c.in-Some.ensures.cases.0 l in
    let l' = subst (λ n. Left c.loop-cell.node.now n s end) c.in-Some-split_first.ensures.cases.0 l in
    let tr' = first_of c.loop-cell.node.now (c.in-Some-split_first.other.now ∷ c.in-Some-split_first.inside.now) c.in-Some.arguments.now c.in-Some.cell.now s end c.in-Some.ensures.cases.0 l' in
    let may = may_cut c.in-Some.cell.now c.in-Some-split_first.other.now c.in-Some.arguments.now c.in-Some-split_first.inside.now s end tr' c.in_default-cell.not-Ind (sym c.have_same_head.ensures ∙ c.if-have_same_head.false) (c.requires.may_share c.requires.whole.0 c.requires.new_whole.0 c.requires.whole.1 c.requires.new_whole.1) in
    record {
      begins = subst BeginsWithTerm (sym c.in-Some.ensures.cases.0) (node_begins c.in-Some.cell.now c.in-Some.arguments.now c.loop-cell.new.now s end tr);
      new_begins = new_begins c.in-Some.cell.now c.in-Some.arguments.now c.loop-cell.new.now s end tr;
      unbound = may.unbound;
      new_unbound = may.new_unbound;
      small = may.small;
    }

pub loop-cell-smaller : goal.loop-cell-smaller
loop-cell-smaller c =
    let cuts = c.in_ok-node_rest.ensures in
    shorter c.loop-cell.node.now cuts.part c.in_ok-node_rest.node_rest.now cuts.whole cuts.parts

pub loop-cell-preserved : goal.loop-cell-preserved
loop-cell-preserved c =
    λ t u h k.
    let end = with_piece (state_of c.args.self.now) (piece c.args.self.now.next t u) in
    let s = state_of c.loop-cell.self in
    let l = subst (λ n. Left c.loop-cell.node.now n s end) c.in-Some-split_first.ensures.cases.0 (c.loop-cell.invariant t u h k) in
    let tr = first_of c.loop-cell.node.now (c.in-Some-split_first.other.now ∷ c.in-Some-split_first.inside.now) c.in-Some.arguments.now c.in-Some.cell.now s end c.in-Some.ensures.cases.0 l in
    let cuts = c.in_ok-node_rest.ensures in
    subst (λ x. Left c.in_ok-node_rest.node_rest.now c.in_ok-node_rest.new_rest.now x end) (sym cuts.state)
    (cut_turn c.in-Some.cell.now c.in-Some-split_first.other.now c.in-Some.arguments.now c.in-Some-split_first.inside.now cuts.part cuts.other c.in_ok-node_rest.node_rest.now c.in_ok-node_rest.new_rest.now s end tr c.in_default-cell.not-Ind (sym c.have_same_head.ensures ∙ c.if-have_same_head.false) cuts.whole cuts.other_whole (sym c.in-Some.ensures.cases.0 ∙ cuts.parts) (sym c.in-Some-split_first.ensures.cases.0 ∙ cuts.other_parts))

pub returns : goal.returns
returns c = λ t u h k. none_left c.loop-cell.node.now c.loop-cell.new.now (state_of c.loop-cell.self) (with_piece (state_of c.args.self.now) (piece c.args.self.now.next t u)) c.in_default.ensures.cases (c.loop-cell.invariant t u h k)
