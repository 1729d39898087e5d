-- Terms folded by variables: where the image of a variable stands, the first such variable is
-- written.
use Rattle.std.specs.Prelude.{◌≡◌, ℕ, zero, suc, ◌+◌, ◌-◌, ◌^◌, ◌<◌, ◌≤◌, min, slice_index_or, ◌==◌, ◌&&◌, Bool, true, false, List, [], ◌∷◌, ◌++◌, length, map, slice_get, Option, None, Some}
use Rattle.si_defs.specs.Terms as terms
use Rattle.std.specs.List.{AllByRecursion}
use Rattle.si_flat.specs.declared.Cell.{Cell}
use Rattle.si_flat.specs.declared.Cell.TheVariants as cell
use Rattle.si_flat.specs.Cells.{Symbol, Variable, same_variable, Term, Terms, cells_of, cells_of_all, join}
use Rattle.si_unify.specs.declared.slots.Slots.{Slots}
use Rattle.si_unify.specs.Solving.{slot_count, variable_of}
use Rattle.si_form.specs.declared.classes.Node.{Node}
use Rattle.si_form.specs.declared.classes.Node.TheVariants.{Variable as Of, Head, With}
use Rattle.si_form.specs.declared.folding.Folding.TheInside.{Inside}
use Rattle.si_form.specs.declared.folding.Written.{Written}
use Rattle.si_form.specs.Classes.{AreNodes, KnowsSlot}

abbrev pub same_numbered : Symbol → Symbol → Bool
same_numbered s r = s.number == r.number && s.arity == r.arity

abbrev mutual
  pub same_terms : Term → Term → Bool
  same_terms (terms.var x) (terms.var y) = same_variable x y
  same_terms (terms.var x) (terms.app r us) = false
  same_terms (terms.app s ts) (terms.var y) = false
  same_terms (terms.app s ts) (terms.app r us) = same_numbered s r && same_rows ts us

  pub same_rows : Terms → Terms → Bool
  same_rows terms.none terms.none = true
  same_rows terms.none (terms.more u us) = false
  same_rows (terms.more t ts) terms.none = false
  same_rows (terms.more t ts) (terms.more u us) = same_terms t u && same_rows ts us

-- the slot that is there, or else this one where it fits
abbrev pub or_slot : Option ℕ → Bool → ℕ → Option ℕ
or_slot (Some k) fits slot = Some k
or_slot None true slot = Some slot
or_slot None false slot = None

module _ (slots : Slots) (f : Variable → Term) where
  -- the first of so many slots whose variable has this image
  abbrev pub leader_below : ℕ → Term → Option ℕ
  leader_below zero t = None
  leader_below (suc k) t = or_slot (leader_below k t) (same_terms (f (variable_of slots k)) t) k

  abbrev pub leader : Term → Option ℕ
  leader t = leader_below (slot_count slots) t

  abbrev pub variable_or : Option ℕ → Term → Term
  variable_or (Some k) t = terms.var (variable_of slots k)
  variable_or None t = t

  -- the term with its proper parts folded
  abbrev mutual
    pub folded : Term → Term
    folded (terms.var x) = terms.var x
    folded (terms.app s ts) = terms.app s (folded_all ts)

    pub folded_all : Terms → Terms
    folded_all terms.none = terms.none
    folded_all (terms.more t ts) = terms.more (variable_or (leader t) (folded t)) (folded_all ts)

  -- the nodes stand for terms, and the classes of the variables are those of their images
  pub record AreClasses (nodes : List Node) (classes : List ℕ) (known : List Term) : Type 0 where
    pub are : AreNodes slots nodes known
    pub long : length classes ≡ slot_count slots
    pub knows : (slot : ℕ) → slot < slot_count slots → KnowsSlot slots f known classes slot

  -- the leaders of the classes, among so many slots
  abbrev pub AreLeaders : ℕ → List Term → List (Option ℕ) → Type 0
  AreLeaders k known leaders = (m : ℕ) (t : Term) → slice_get known m ≡ Some t
      → slice_get leaders m ≡ Some (leader_below k t)

-- the leaders of the classes, whatever they stand for
abbrev pub LeadClasses : Slots → List Node → List ℕ → ℕ → List (Option ℕ) → Type 0
LeadClasses slots nodes classes k leaders =
    (f : Variable → Term) (known : List Term) → AreClasses slots f nodes classes known
    → AreLeaders slots f k known leaders

-- ---- from a class to its symbol
-- the numbers stand for these terms
abbrev pub HaveKnown : List Term → List ℕ → Terms → Type 0
HaveKnown known [] terms.none = Unit {0}
HaveKnown known [] (terms.more t ts) = ⊥
HaveKnown known (n ∷ ns) terms.none = ⊥
HaveKnown known (n ∷ ns) (terms.more t ts) = (slice_get known n ≡ Some t) × HaveKnown known ns ts

-- the class is of a term that begins with a symbol
pub record HasSymbol (nodes : List Node) (class : ℕ) : Type 0 where
  pub slots : Slots
  pub known : List Term
  pub are : AreNodes slots nodes known
  pub symbol : Symbol
  pub arguments : Terms
  pub class_is : slice_get known class ≡ Some (terms.app symbol arguments)

-- the answer is the symbol of the class's term; its arguments stand before the others
abbrev pub UnfoldsClass : List Node → List ℕ → List ℕ → ℕ → ℕ × ℕ → Type 0
UnfoldsClass nodes left left' class answer =
    (slots : Slots) (known : List Term) (s : Symbol) (ts rest : Terms)
    → AreNodes slots nodes known
    → slice_get known class ≡ Some (terms.app s ts)
    → HaveKnown known left rest
    → (answer ≡ (s.number, s.arity)) × HaveKnown known left' (join ts rest)

-- so far the arguments after a front have been piled up
pub record HasUnfolded (known : List Term) (left : List ℕ) (s : Symbol) (ts rest : Terms)
    (front : ℕ) : Type 0 where
  pub before : Terms
  pub behind : Terms
  pub parts : ts ≡ join before behind
  pub front_is : slice_get known front ≡ Some (terms.app s before)
  pub piled : HaveKnown known left (join behind rest)

abbrev pub IsUnfolding : List Node → List ℕ → List ℕ → ℕ → ℕ → Type 0
IsUnfolding nodes left left' class front =
    (slots : Slots) (known : List Term) (s : Symbol) (ts rest : Terms)
    → AreNodes slots nodes known
    → slice_get known class ≡ Some (terms.app s ts)
    → HaveKnown known left rest
    → HasUnfolded known left' s ts rest front

abbrev pub HasTerms : List Node → Type 0
HasTerms nodes = (slots : Slots) × (known : List Term) × AreNodes slots nodes known

-- ---- what is written for classes
-- their leaders, and their sizes
abbrev pub leaders_of : List Written → List (Option ℕ)
leaders_of written = map (λ w. w.leader) written

abbrev pub sizes_of : List Written → List ℕ
sizes_of written = map (λ w. w.size) written

abbrev pub part_size : Option ℕ → ℕ → ℕ
part_size None size = size
part_size (Some slot) size = 1

-- the number of cells of a folded class, as far as it can be told, from those of the classes before
abbrev pub node_size : List ℕ → List (Option ℕ) → Node → ℕ
node_size sizes leaders (Of slot) = 1
node_size sizes leaders (Head sym arity) = 1
node_size sizes leaders (With front argument) =
    min (slice_index_or sizes front 0 + part_size (slice_index_or leaders argument None)
    (slice_index_or sizes argument 0)) (2 ^ 32 - 1)

-- the node's parts are among the first so many
abbrev pub HasPartsBefore : ℕ → Node → Type 0
HasPartsBefore n (Of slot) = Unit {0}
HasPartsBefore n (Head sym arity) = Unit {0}
HasPartsBefore n (With front argument) = (front < n) × (argument < n)

pub record AreSizes (nodes : List Node) (leaders : List (Option ℕ)) (k : ℕ)
    (sizes : List ℕ) : Type 0 where
  pub long : length sizes ≡ k
  pub sizes_are : (n : ℕ) (node : Node) → n < k → slice_get nodes n ≡ Some node
      → slice_get sizes n ≡ Some (node_size sizes leaders node)

-- ---- classes with what is written for them
-- the nodes, the classes of the variables by their slots, and the leader and the size of each class
pub record Folded : Type 0 where
  pub nodes : List Node
  pub classes : List ℕ
  pub leaders : List (Option ℕ)
  pub sizes : List ℕ

abbrev pub folded_of : Inside → Folded
folded_of f =
    record {
      nodes = f.classes.nodes.keys;
      classes = f.classes.of_slots.items;
      leaders = leaders_of f.written.items;
      sizes = sizes_of f.written.items;
    }

pub record IsFolding (f : Folded) : Type 0 where
  pub terms : HasTerms f.nodes
  pub long : length f.leaders ≡ length f.nodes
  pub leads : (slots : Slots) → LeadClasses slots f.nodes f.classes (length f.classes) f.leaders
  pub sized : AreSizes f.nodes f.leaders (length f.nodes) f.sizes

-- ---- writing
-- what is asked where the folded term of a class is to be written
pub record CanFold (slots : Slots) (folding : Folded) (class : ℕ) (f : Variable → Term)
    (known : List Term) (t : Term) : Type 0 where
  pub are : AreNodes slots folding.nodes known
  pub led : AreLeaders slots f (slot_count slots) known folding.leaders
  pub class_is : slice_get known class ≡ Some t
  pub symbol : Symbol
  pub arguments : Terms
  pub term_is : t ≡ terms.app symbol arguments
  pub leads : AllByRecursion (λ y. leader slots f (terms.var y) ≡ None → ⊥) (terms.variables t)
  pub fits : terms.size (folded slots f t) ≤ 2 ^ 32 - 1

abbrev pub HasFolded : Slots → Folded → ℕ → List Cell → Type 0
HasFolded slots folding class cells =
    (f : Variable → Term) (known : List Term) (t : Term)
    → CanFold slots folding class f known t → cells ≡ cells_of (folded slots f t)

-- a class's symbol has been written; its arguments stand before the others
abbrev pub WritesCells : Folded → List ℕ → List ℕ → List Cell → List Cell → ℕ → Type 0
WritesCells folding left left' cells cells' class =
    (slots : Slots) (known : List Term) (s : Symbol) (ts rest : Terms)
    → AreNodes slots folding.nodes known
    → slice_get known class ≡ Some (terms.app s ts)
    → HaveKnown known left rest
    → (cells' ≡ cells ++ cell.App s.number s.arity (slice_index_or folding.sizes class 0) ∷ [])
    × HaveKnown known left' (join ts rest)

-- so many cells have been written, and these classes are left
pub record HasWritten (slots : Slots) (f : Variable → Term) (known : List Term) (t : Term)
    (cells : List Cell) (left : List ℕ) (k : ℕ) : Type 0 where
  pub rest : Terms
  pub piled : HaveKnown known left rest
  pub leads : AllByRecursion (λ y. leader slots f (terms.var y) ≡ None → ⊥)
      (terms.variables_of_all rest)
  pub whole : cells ++ cells_of_all (folded_all slots f rest) ≡ cells_of (folded slots f t)
  pub count_is : length cells ≡ k

abbrev pub IsWriting : Slots → Folded → ℕ → List Cell → List ℕ → ℕ → Type 0
IsWriting slots folding class cells left k =
    (f : Variable → Term) (known : List Term) (t : Term)
    → CanFold slots folding class f known t → HasWritten slots f known t cells left k
