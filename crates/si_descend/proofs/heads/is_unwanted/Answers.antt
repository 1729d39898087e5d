use Rattle.std.proofs.Common.{◌≡◌, true, false, sym, subst}
use Rattle.si_descend.specs.Heads.{IsUnwanted}
use Rattle.si_descend.proofs.heads.is_unwanted.Goals as goal

pub returns-in-Some : goal.returns-in-Some
returns-in-Some c e =
    subst (λ w. IsUnwanted c.args.search.now w c.args.head) (sym c.in-Some.is) (c.clash.ensures e)

pub returns-in-None : goal.returns-in-None
returns-in-None c e = absurd (by e) where
  by : false ≡ true → ⊥
  by p = cc
