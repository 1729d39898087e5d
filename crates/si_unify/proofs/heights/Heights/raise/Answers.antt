use Rattle.std.proofs.Common.{◌≡◌, ℕ, ◌+◌, ◌<◌, length, refl, sym, ◌∙◌, ap, subst, arith}
use Rattle.std.proofs.lemmas.Grind.{get_or_default_zero}
use Rattle.std.specs.Prelude.{min}
use Rattle.std.proofs.Math.ListN.{set}
use Rattle.si_unify.specs.Heights.{height, IsRaised}
use Rattle.si_unify.proofs.HeightLaws.{stay, height_raised}
use Rattle.si_unify.proofs.heights.Heights.raise.Goals.{then-len-count+in_ok-resize, else-len-count}
use Rattle.si_unify.proofs.heights.Heights.raise.Goals as goal

pub returns-then-slot-len-clause-raised : goal.returns-then-slot-len-clause-raised
returns-then-slot-len-clause-raised c =
    let old = c.self.inside.heights.items in
    let grown = c.if-len-count.self-inside.heights.items in
    let less : c.args.slot < length grown =
    omega (arith, c.if-slot-len.true, c.len-2.ensures, c.if-len-count.self-inside.heights.ok) in
    let same : (other : ℕ) → height grown other ≡ height old other =
    elim c.if-len-count.branch [
      | then-len-count+in_ok-resize w ↦
          subst (λ l. (other : ℕ) → height l other ≡ height old other)
          (sym (ap (λ i. i.heights.items) w.self-inside-is))
          (λ other. stay old w.resize.new.self.items other
          (omega (arith, w.if-len-count.true, c.len.ensures, c.self.inside.heights.ok, w.in_ok-resize.ensures.len, w.resize.new.self.ok))
          (λ front. w.in_ok-resize.ensures.by_index.0 other 0 (omega (arith, front, w.if-len-count.true, c.len.ensures, c.self.inside.heights.ok)) (omega (arith, front, c.self.inside.heights.ok)))
          (λ past below. w.in_ok-resize.ensures.by_index.1 other 0 refl (omega (arith, past, c.self.inside.heights.ok)) (omega (arith, below, w.in_ok-resize.ensures.len, w.resize.new.self.ok))))
      | else-len-count w ↦ λ other. ap (λ i. height i.heights.items other) w.self-inside-is
    ] in
    subst (λ h. IsRaised c.args.count c.args.slot h.items (set grown c.args.slot c.saturating_add.result)) c.self.view_is
    (height_raised old grown c.args.count c.args.slot c.saturating_add.result same less
    (c.saturating_add.ensures ∙ ap (λ h. min (h + 1) 255) (c.index.ensures ∙ get_or_default_zero grown c.args.slot c.index.result.now less ∙ same c.args.slot)))
