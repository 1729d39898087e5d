-- Classes of terms that a list of bindings makes equal, each with a number.
use Rattle.std.specs.Prelude.{◌≡◌, ℕ, ◌<◌, ◌⊎◌, List, [], ◌∷◌, ◌++◌, length, drop, slice_get, Option, None, Some}
use Rattle.si_defs.specs.Substitutions.{IsAmong}
use Rattle.si_defs.specs.Terms as terms
use Rattle.si_flat.specs.declared.Cell.{Cell}
use Rattle.si_flat.specs.declared.Cell.TheVariants as cell
use Rattle.si_flat.specs.Cells.{Symbol, Variable, query, entry, ind, Term, Terms, cells_of_all, AreSound, StandsFor, join}
use Rattle.si_trail.specs.Trails.{value_at}
use Rattle.si_unify.specs.Spots.{cell_slot}
use Rattle.si_unify.specs.Circles.{with_slot}
use Rattle.si_unify.specs.declared.slots.Slots.{Slots}
use Rattle.si_unify.specs.Solving.{Pairs, slot_count, slot_of, variable_of, IsSolvedBy}
use Rattle.si_form.specs.Ordering.{AreOrdered}
use Rattle.si_form.specs.declared.classes.Node.{Node}
use Rattle.si_form.specs.declared.classes.Node.TheVariants.{Variable as Of, Head, With}

-- the node has this number from now on; it is added if it wasn't there
abbrev pub Interns : List Node → List Node → Node → ℕ → Type 0
Interns old new node n =
    ((new ≡ old) × (slice_get old n ≡ Some node))
    ⊎ ((new ≡ old ++ node ∷ []) × (n ≡ length old) × (IsAmong old node → ⊥))

-- a row of arguments, and one argument more
abbrev pub with_last : Terms → Term → Terms
with_last ts u = join ts (terms.more u terms.none)

-- what a node stands for, where numbers stand for these terms
pub record HasOneMore (known : List Term) (front argument n : ℕ) (t : Term) : Type 0 where
  pub symbol : Symbol
  pub arguments : Terms
  pub last : Term
  pub front_is : slice_get known front ≡ Some (terms.app symbol arguments)
  pub last_is : slice_get known argument ≡ Some last
  pub term_is : t ≡ terms.app symbol (with_last arguments last)
  pub front_before : front < n
  pub argument_before : argument < n

abbrev pub IsTermOfNode : Slots → List Term → ℕ → Node → Term → Type 0
IsTermOfNode slots known n (Of slot) t =
    (slot < slot_count slots) × (t ≡ terms.var (variable_of slots slot))
IsTermOfNode slots known n (Head sym arity) t =
    t ≡ terms.app (record { number = sym; arity = arity }) terms.none
IsTermOfNode slots known n (With front argument) t = HasOneMore known front argument n t

-- each node stands for a term, and no two for the same
pub record AreNodes (slots : Slots) (nodes : List Node) (known : List Term) : Type 0 where
  pub long : length known ≡ length nodes
  pub stands : (n : ℕ) (node : Node) (t : Term) → slice_get nodes n ≡ Some node
      → slice_get known n ≡ Some t → IsTermOfNode slots known n node t
  pub distinct : (m n : ℕ) (t : Term) → slice_get known m ≡ Some t
      → slice_get known n ≡ Some t → m ≡ n

-- the nodes stand for these terms, of which those that stood there before are the first
pub record GrowsTo (slots : Slots) (old : List Term) (nodes : List Node)
    (known : List Term) : Type 0 where
  pub more : List Term
  pub known_is : known ≡ old ++ more
  pub nodes_are : AreNodes slots nodes known

-- the numbers stand for what f makes of these terms
abbrev pub HaveClasses : (Variable → Term) → List Term → List ℕ → Terms → Type 0
HaveClasses f known [] terms.none = Unit {0}
HaveClasses f known [] (terms.more t ts) = ⊥
HaveClasses f known (n ∷ ns) terms.none = ⊥
HaveClasses f known (n ∷ ns) (terms.more t ts) =
    (slice_get known n ≡ Some (terms.substitute f t)) × HaveClasses f known ns ts

-- the number is that of the symbol with as many of these as it has arguments; the others stay
abbrev pub Applies : List Node → List Node → List ℕ → List ℕ → Symbol → ℕ → Type 0
Applies nodes nodes' numbers numbers' s n =
    (slots : Slots) (f : Variable → Term) (known : List Term) (us rest : Terms)
    → AreNodes slots nodes known
    → HaveClasses f known numbers (join us rest)
    → terms.count us ≡ s.arity
    → (known' : List Term)
    × GrowsTo slots known nodes' known'
    × (slice_get known' n ≡ Some (terms.app s (terms.substitute_all f us)))
    × HaveClasses f known' numbers' rest

-- ---- how far an application has come
-- so many arguments stand after the symbol
pub record HasApplied (slots : Slots) (f : Variable → Term) (known : List Term) (nodes : List Node)
    (numbers : List ℕ) (s : Symbol) (us rest : Terms) (k n : ℕ) : Type 0 where
  pub known' : List Term
  pub done : Terms
  pub left : Terms
  pub grows : GrowsTo slots known nodes known'
  pub arguments : us ≡ join done left
  pub count_is : terms.count done ≡ k
  pub front_is : slice_get known' n ≡ Some (terms.app s (terms.substitute_all f done))
  pub others : HaveClasses f known' numbers (join left rest)

abbrev pub IsApplying : List Node → List Node → List ℕ → List ℕ → Symbol → ℕ → ℕ → Type 0
IsApplying nodes nodes' numbers numbers' s k n =
    (slots : Slots) (f : Variable → Term) (known : List Term) (us rest : Terms)
    → AreNodes slots nodes known
    → HaveClasses f known numbers (join us rest)
    → terms.count us ≡ s.arity
    → HasApplied slots f known nodes' numbers' s us rest k n

-- ---- cells
abbrev pub argument_count : Cell → ℕ
argument_count (cell.App s a n) = a
argument_count _ = 0

-- the slots of the variables among the cells, in order
abbrev pub slots_of : Slots → List Cell → List ℕ
slots_of slots [] = []
slots_of slots (c ∷ cells) = with_slot (cell_slot slots c) (slots_of slots cells)

-- the class of the slot's variable stands for its image
pub record KnowsSlot (slots : Slots) (f : Variable → Term) (known : List Term) (classes : List ℕ)
    (slot : ℕ) : Type 0 where
  pub number : ℕ
  pub class_is : slice_get classes slot ≡ Some number
  pub image_is : slice_get known number ≡ Some (f (variable_of slots slot))

-- the number is that of the term that begins with the cell; the numbers of its arguments go
abbrev pub IsSlotsClass : Slots → List ℕ → List Node → List Node → List ℕ → List ℕ → Variable
    → ℕ → Type 0
IsSlotsClass slots classes nodes nodes' numbers numbers' x n =
    (nodes' ≡ nodes) × (numbers' ≡ numbers) × (slice_get classes (slot_of slots x) ≡ Some n)

abbrev pub NumbersCell : Slots → List ℕ → List Node → List Node → List ℕ → List ℕ → Cell
    → ℕ → Type 0
NumbersCell slots classes nodes nodes' numbers numbers' (cell.App sym arity len) n =
    Applies nodes nodes' numbers numbers' (record { number = sym; arity = arity }) n
NumbersCell slots classes nodes nodes' numbers numbers' (cell.Query k) n =
    IsSlotsClass slots classes nodes nodes' numbers numbers' (query k) n
NumbersCell slots classes nodes nodes' numbers numbers' (cell.Entry k) n =
    IsSlotsClass slots classes nodes nodes' numbers numbers' (entry k) n
NumbersCell slots classes nodes nodes' numbers numbers' (cell.Ind k) n =
    IsSlotsClass slots classes nodes nodes' numbers numbers' (ind k) n

-- the number is that of what f makes of the cells' term
abbrev pub HasClass : List Node → List Node → Slots → List ℕ → List Cell → ℕ → Type 0
HasClass nodes nodes' slots classes cells n =
    (t : Term) (f : Variable → Term) (known : List Term)
    → StandsFor cells t
    → AreNodes slots nodes known
    → ((slot : ℕ) → IsAmong (slots_of slots cells) slot → KnowsSlot slots f known classes slot)
    → (known' : List Term) × GrowsTo slots known nodes' known'
    × (slice_get known' n ≡ Some (terms.substitute f t))

-- so many terms stand from a place on
pub record AreTermsFrom (cells : List Cell) (at count : ℕ) : Type 0 where
  pub row : Terms
  pub sound : AreSound row
  pub cells_are : drop at cells ≡ cells_of_all row
  pub count_is : terms.count row ≡ count

-- the numbers are those of the terms from a place on
pub record HaveRow (slots : Slots) (f : Variable → Term) (known : List Term) (nodes : List Node)
    (cells : List Cell) (at : ℕ) (numbers : List ℕ) : Type 0 where
  pub known' : List Term
  pub row : Terms
  pub grows : GrowsTo slots known nodes known'
  pub sound : AreSound row
  pub cells_are : drop at cells ≡ cells_of_all row
  pub numbers_are : HaveClasses f known' numbers row

abbrev pub IsClassNumbering : List Node → List Node → Slots → List ℕ → List Cell → ℕ
    → List ℕ → Type 0
IsClassNumbering nodes nodes' slots classes cells at numbers =
    (t : Term) (f : Variable → Term) (known : List Term)
    → StandsFor cells t
    → AreNodes slots nodes known
    → ((slot : ℕ) → IsAmong (slots_of slots cells) slot → KnowsSlot slots f known classes slot)
    → HaveRow slots f known nodes' cells at numbers

-- ---- all slots
-- each of the first so many variables has a class of its own
pub record HasSingles (slots : Slots) (nodes : List Node) (classes : List ℕ)
    (count : ℕ) : Type 0 where
  pub known : List Term
  pub are : AreNodes slots nodes known
  pub long : length classes ≡ count
  pub knows : (slot : ℕ) → slot < count → KnowsSlot slots terms.var known classes slot

-- f leaves the variables that aren't bound
abbrev pub LeavesUnbound : Slots → Pairs → (Variable → Term) → Type 0
LeavesUnbound slots pairs f = (slot : ℕ) → slot < slot_count slots → value_at pairs slot ≡ None
    → f (variable_of slots slot) ≡ terms.var (variable_of slots slot)

-- the nodes stand for terms, and the classes of the variables are those of their images
abbrev pub KnowsWhere : Slots → (Variable → Term) → List Node → List ℕ → (ℕ → Type 0) → Type 0
KnowsWhere slots f nodes classes P =
    (known : List Term) × AreNodes slots nodes known
    × ((slot : ℕ) → slot < slot_count slots → P slot → KnowsSlot slots f known classes slot)

-- The classes of the variables are those of their images under the map that solves the list and
-- leaves the variables that aren't bound.
pub record HasClasses (slots : Slots) (pairs : Pairs) (nodes : List Node)
    (classes : List ℕ) : Type 0 where
  pub long : length classes ≡ slot_count slots
  pub knows : (f : Variable → Term) → IsSolvedBy slots pairs f → LeavesUnbound slots pairs f
      → KnowsWhere slots f nodes classes (λ slot. Unit {0})

-- the same of the variables that aren't bound and those that are done; the others are left, in the
-- order that `used` makes
pub record IsClassing (used : ℕ → Option (List ℕ)) (slots : Slots) (pairs : Pairs)
    (nodes : List Node) (classes left : List ℕ) : Type 0 where
  pub done : List ℕ
  pub ordered : AreOrdered used (left ++ done)
  pub long : length classes ≡ slot_count slots
  pub knows : (f : Variable → Term) → IsSolvedBy slots pairs f → LeavesUnbound slots pairs f
      → KnowsWhere slots f nodes classes (λ slot. (value_at pairs slot ≡ None) ⊎ IsAmong done slot)
