use Rattle.std.proofs.Common.{◌≡◌, ◌<◌, ◌≤◌, length, refl, sym, ◌∙◌, ap, subst, arith}
use Rattle.std.proofs.lemmas.List.{take_all}
use Rattle.si_form.specs.Folding.{HasPartsBefore, leaders_of, sizes_of, node_size, AreSizes}
use Rattle.si_form.proofs.FoldingLaws.{sizes_begin, sizes_more, is_before}
use Rattle.si_form.proofs.WrittenLaws.{length-sizes_of, sizes_with, leaders_with, size_by_front}
use Rattle.si_form.proofs.folding.written_for.Goals as goal

pub loop-class-init : goal.loop-class-init
loop-class-init c = record {
  sizes = sizes_begin c.args.nodes.now.keys c.args.leaders.now (sizes_of c.new-written.result.items) (ap sizes_of c.new-written.ensures.items);
  led = ap leaders_of c.new-written.ensures.items;
}

pub node_size-size-requires : goal.node_size-size-requires
node_size-size-requires c =
    subst (λ n. HasPartsBefore n c.in-Some.field-0.now) (sym (ap length c.deref.ensures.value ∙ sym (length-sizes_of c.loop-class.written.items) ∙ c.loop-class.invariant.sizes.long))
    (is_before c.args.nodes.now.keys c.loop-class.class c.in-Some.field-0.now c.requires.terms c.in-Some.ensures.key)

pub loop-class-preserved : goal.loop-class-preserved
loop-class-preserved c =
    let nodes = c.args.nodes.now.keys in
    let leaders = c.args.leaders.now in
    let so_far = c.loop-class.invariant in
    let node = c.in-Some.field-0.now in
    let before = is_before nodes c.loop-class.class node c.requires.terms c.in-Some.ensures.key in
    let size =
    c.node_size-size.ensures ∙ ap (λ ws. node_size (sizes_of ws) (leaders_of ws) node) c.deref.ensures.value
    ∙ ap (λ ls. node_size (sizes_of c.loop-class.written.items) ls node) so_far.led
    ∙ size_by_front (sizes_of c.loop-class.written.items) leaders c.loop-class.class node before in
    let inside : c.loop-class.class < length leaders = omega (arith, c.loop-class-test.true, c.len-class-end.ensures.len, c.requires.led) in
    record {
      sizes =
          sizes_more nodes leaders (sizes_of c.loop-class.written.items) _ c.loop-class.class _ node c.requires.terms c.in-Some.ensures.key so_far.sizes size
          (sizes_with c.loop-class.written.items _ _ c.in_ok-push.ensures.items);
      led = leaders_with c.loop-class.written.items _ _ leaders c.loop-class.class c.in_ok-push.ensures.items so_far.led inside refl;
    }

pub returns-clause-leaders : goal.returns-clause-leaders
returns-clause-leaders c =
    let leaders = c.args.leaders.now in
    let done : length leaders ≤ c.loop-class.class = omega (arith, c.loop-class-test.false, c.len-class-end.ensures.len, c.requires.led) in
    c.loop-class.invariant.led ∙ take_all c.loop-class.class leaders done

pub returns-clause-sizes : goal.returns-clause-sizes
returns-clause-sizes c =
    let nodes = c.args.nodes.now.keys in
    let leaders = c.args.leaders.now in
    let done : c.loop-class.class ≡ length nodes =
    omega (arith, c.loop-class-test.false, c.loop-class.auto.class-end, c.len-class-end.ensures.len) in
    subst (λ n. AreSizes nodes leaders n (sizes_of c.loop-class.written.items)) done c.loop-class.invariant.sizes
