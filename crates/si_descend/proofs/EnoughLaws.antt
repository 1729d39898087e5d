-- What is lent is enough, turn by turn.
use Rattle.std.proofs.Common.{◌≡◌, ℕ, ◌≤◌, List, [], ◌∷◌, length, take, vec_capacity, sym, ◌∙◌, subst, arith}
use Rattle.std.specs.Borrow.{Bor}
use Rattle.std.specs.Bool.{⊤}
use Rattle.std.specs.Prelude.{Vec}
use Rattle.std.specs.List.{AllByRecursion}
use Rattle.si_defs.specs.declared.Relation.{Relation}
use Rattle.si_defs.proofs.ListLaws.{all_take}
use Rattle.si_trail.specs.Trails.{Trail}
use Rattle.si_flat.specs.declared.Cell.{Cell}
use Rattle.si_flat.specs.Cells.{Term, cells_of}
use Rattle.si_flat.specs.Rows.{CellPair}
use Rattle.si_fit.specs.Fitting.{AreRowsNoLongerThan}
use Rattle.si_legal.specs.Bindings.{Binding, StandForBindings}
use Rattle.si_legal.specs.declared.Posting.{Posting}
use Rattle.si_legal.specs.Counts.{node_count}
use Rattle.si_legal.specs.Trees.{Tree}
use Rattle.si_unify.specs.declared.slots.Slots.{Slots}
use Rattle.si_unify.specs.Rooms.{SolverRoom, IsNoLessRoom, AreNoLongerThan}
use Rattle.si_unify.specs.Solving.{Pairs}
use Rattle.si_unify.proofs.RoomLaws.{enough_on, room_on, same_room}
use Rattle.si_descend.specs.declared.pending.Pending.{Pending}
use Rattle.si_descend.specs.declared.search.Search.{Search}
use Rattle.si_descend.specs.Lending.{IsEnoughForTree, HasRoomForAnswers}
use Rattle.si_descend.specs.Pending.{LacksRoom}

-- ---- the solver
pub rows_short : (n : ℕ) (rows : List CellPair) (bs : List Binding) → StandForBindings rows bs → AllByRecursion (λ b. length (cells_of b.1) ≤ n) bs → AreRowsNoLongerThan n rows
rows_short n [] [] stand h = tt
rows_short n [] (b ∷ bs) stand h = absurd stand
rows_short n (r ∷ rows) [] stand h = absurd stand
rows_short n (r ∷ rows) (b ∷ bs) stand h = (subst (λ l. length l ≤ n) (sym stand.1.cells_are) h.0, rows_short n rows bs stand.2 h.1)

pub enough_still : (n : ℕ) (tree : Tree Term) (slots : Slots) (old new : Pairs) (room more : SolverRoom) → AreNoLongerThan n new → IsNoLessRoom room more → IsEnoughForTree n tree slots old room → IsEnoughForTree n tree slots new more
enough_still n tree slots old new room more values less enough = record {
  rights = enough.rights;
  values = values;
  solver = enough_on slots n room more less enough.solver;
}

-- less may be bound
pub enough_cut : (n m : ℕ) (tree : Tree Term) (slots : Slots) (old new : Pairs) (room : SolverRoom) → new ≡ take m old → IsEnoughForTree n tree slots old room → IsEnoughForTree n tree slots new room
enough_cut n m tree slots old new room e enough =
    enough_still n tree slots old new room room (subst (AreNoLongerThan n) (sym e) (all_take (λ pair. length pair.1.now ≤ n) m old enough.values)) (same_room room) enough

-- ---- turns
-- there are as many slots as at first, and what was lent then is enough still
pub record Keeps {A : Type 0} (search : Search) (first now : Trail (Bor (List Cell))) (first_taken taken : Trail ⊤) (lent room : SolverRoom) (list pending : Vec Pending A) : Type 0 where
  pub same_slots : now.slots ≡ first.slots
  pub same_table : taken.slots ≡ first_taken.slots
  pub enough_still : (n : ℕ) → IsEnoughForTree n search.tree.now search.slots first.pairs lent → IsEnoughForTree n search.tree.now search.slots now.pairs room
  pub no_less_room : IsNoLessRoom lent room
  pub no_less_list : vec_capacity list ≤ vec_capacity pending

module _ {A : Type 0} (search : Search) (first old new : Trail (Bor (List Cell))) (first_taken before after : Trail ⊤) (lent room more : SolverRoom) (list pending longer : Vec Pending A) where
  pub keeps_on : Keeps search first old first_taken before lent room list pending → new.slots ≡ old.slots → after.slots ≡ before.slots → ((n : ℕ) → IsEnoughForTree n search.tree.now search.slots old.pairs room → AreNoLongerThan n new.pairs) → IsNoLessRoom room more → vec_capacity pending ≤ vec_capacity longer → Keeps search first new first_taken after lent more list longer
  keeps_on kept slots table within less wider = record {
    same_slots = slots ∙ kept.same_slots;
    same_table = table ∙ kept.same_table;
    enough_still = λ n enough. (let now = kept.enough_still n enough in enough_still n search.tree.now search.slots old.pairs new.pairs room more (within n now) less now);
    no_less_room = room_on lent room more kept.no_less_room less;
    no_less_list = omega (arith, kept.no_less_list, wider);
  }

-- ---- over the tree itself
pub lacking_there : {A B : Type 0} (search : Search) (tree : Tree Term) (relation : Relation) (query : List Cell) (slots : Slots) (top : ℕ) (pairs : Pairs) (room : SolverRoom) (pending : Vec Pending A) (out : Vec Posting B) → search.tree.now ≡ tree → search.relation ≡ relation → search.query.now ≡ query → search.slots ≡ slots → LacksRoom search top pairs room pending out → (n : ℕ) → IsEnoughForTree n tree slots pairs room → node_count tree ≤ vec_capacity pending → HasRoomForAnswers tree top relation query out → ⊥
lacking_there search tree relation query slots top pairs room pending out e f g h lack n enough few place =
    lack n
    (subst (λ t. IsEnoughForTree n t search.slots pairs room) (sym e) (subst (λ s. IsEnoughForTree n tree s pairs room) (sym h) enough))
    (subst (λ t. node_count t ≤ vec_capacity pending) (sym e) few)
    (subst (λ t. HasRoomForAnswers t top search.relation search.query.now out) (sym e) (subst (λ r. HasRoomForAnswers tree top r search.query.now out) (sym f) (subst (λ l. HasRoomForAnswers tree top relation l out) (sym g) place)))
