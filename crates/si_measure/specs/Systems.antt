-- The equations of a shape, and the two terms that are equal where they all hold.
use Rattle.std.specs.Prelude.{◌≡◌, ℕ, zero, suc, ◌+◌, ◌-◌, List, [], ◌∷◌, ◌++◌, length, map}
use Rattle.si_defs.specs.Terms as terms
use Rattle.si_flat.specs.declared.Cell.{Cell}
use Rattle.si_flat.specs.declared.Owner.{Owner}
use Rattle.si_flat.specs.declared.Owner.TheVariants.{Query, Entry}
use Rattle.si_flat.specs.Cells.{Term, cells_of, cells_of_all}
use Rattle.si_flat.specs.Flattening.{owners_variable}
use Rattle.si_measure.specs.Rows.{Arguments}
use Rattle.si_measure.specs.declared.towers.Sides.{Sides}
use Rattle.si_measure.specs.declared.measurement.Shape.{Shape}
use Rattle.si_measure.specs.declared.measurement.Shape.TheVariants.{One, Both, Shifted}

pub record Equation : Type 0 where
  pub left : Term
  pub right : Term

abbrev pub variable : Owner → ℕ → Term
variable owner n = terms.var (owners_variable owner n)

-- f(t,t)
abbrev pub twice : Term → Term
twice t = terms.app (record { number = 1; arity = 2 }) (terms.row (t ∷ t ∷ []))

-- so many times over
abbrev pub doubled : ℕ → Term → Term
doubled zero t = t
doubled (suc steps) t = twice (doubled steps t)

-- each variable from number 1 to n is the one before, doubled in so many steps
abbrev pub tower : Owner → ℕ → ℕ → List Equation
tower owner steps zero = []
tower owner steps (suc n) =
    tower owner steps n
    ++ record { left = variable owner (suc n); right = doubled steps (variable owner n) } ∷ []

-- two towers, whose last variables meet one step apart
abbrev pub two_towers : ℕ → ℕ → List Equation
two_towers steps n =
    (tower Query steps n ++ tower Entry steps n)
    ++ record { left = variable Query n; right = doubled (steps - 1) (variable Entry n) } ∷ []

abbrev pub equations_of : Shape → ℕ → List Equation
equations_of One n = tower Query 1 n
equations_of Both n = two_towers 1 n
equations_of Shifted n = two_towers 2 n

-- h of these terms
abbrev pub all_under : List Term → Term
all_under ts = terms.app (record { number = 0; arity = length ts }) (terms.row ts)

-- the cells are those of h of the left sides, and of h of the right sides
pub record AreEquationSides (equations : List Equation) (left right : List Cell) : Type 0 where
  pub lefts : left ≡ cells_of (all_under (map (λ e. e.left) equations))
  pub rights : right ≡ cells_of (all_under (map (λ e. e.right) equations))

-- ---- how the sides are put together
-- so many terms more
abbrev pub with_terms : Arguments → List Term → Arguments
with_terms arguments ts =
    record {
      cells = arguments.cells ++ cells_of_all (terms.row ts);
      count = arguments.count + length ts;
    }

-- the sides of the equations come after the others
pub record AddsEquations (old new : Sides) (equations : List Equation) : Type 0 where
  pub left : new.left ≡ with_terms old.left (map (λ e. e.left) equations)
  pub right : new.right ≡ with_terms old.right (map (λ e. e.right) equations)
