use Rattle.std.proofs.Common.{◌≡◌, true, false, sym, ◌∙◌, arith}
use Rattle.std.proofs.lemmas.Bool.{eq-eqb}
use Rattle.si_prune.proofs.DueLaws.{first_is}
use Rattle.si_prune.proofs.removing.other_of.Goals as goal

pub returns-clause-some : goal.returns-clause-some
returns-clause-some c =
    first_is c.args.children.now c.args.child c.one-item.result (omega (arith, c.in-len2.len_at_least, c.in-len2.len_below)) c.one-item.is c.requires
    (λ e. differ (sym (eq-eqb _ _ e) ∙ sym c.eq.ensures ∙ c.if-eq.false)) where
      differ : true ≡ false → ⊥
      differ e = cc
