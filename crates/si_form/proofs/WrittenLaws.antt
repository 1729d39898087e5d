-- What is written for classes: the lists of leaders and of sizes that it makes.
use Rattle.std.proofs.Common.{◌≡◌, ℕ, ◌+◌, ◌-◌, ◌^◌, ◌<◌, List, [], ◌∷◌, ◌++◌, length, map, take, get_or, refl, sym, ◌∙◌, ap, Option, None, option_map}
use Rattle.std.specs.Prelude.{min}
use Rattle.std.proofs.lemmas.List.{get_or-take, length-map, map-append, take_more}
use Rattle.std.proofs.lemmas.Option.{get_or_from_slice_get, slice_get_read, slice_get-map}
use Rattle.si_form.specs.declared.classes.Node.{Node}
use Rattle.si_form.specs.declared.classes.Node.TheVariants.{Variable as Of, Head, With}
use Rattle.si_form.specs.declared.folding.Written.{Written}
use Rattle.si_form.specs.Folding.{leaders_of, sizes_of, part_size, node_size, HasPartsBefore}

-- a part of what is written for a class, by the list of all such parts
part_there : {X : Type 0} (part : Written → X) (written : List Written) (class : ℕ) (one : Written) (d : X) → class < length written → one ≡ get_or written class one
    → get_or (map part written) class d ≡ part one
part_there part written class one d inside is =
    get_or_from_slice_get (map part written) class (part one) d (slice_get-map part written class ∙ ap (option_map part) (slice_get_read written _ class one refl inside is))

module _ (written : List Written) (class : ℕ) (one : Written) (inside : class < length written) (is : one ≡ get_or written class one) where
  pub leader_there : get_or (leaders_of written) class None ≡ one.leader
  leader_there = part_there (λ w. w.leader) written class one None inside is

  pub size_there : get_or (sizes_of written) class 0 ≡ one.size
  size_there = part_there (λ w. w.size) written class one 0 inside is

pub length-sizes_of : (written : List Written) → length (sizes_of written) ≡ length written
length-sizes_of written = length-map written (λ w. w.size)

-- one class more
pub sizes_with : (written new : List Written) (one : Written) → new ≡ written ++ one ∷ [] → sizes_of new ≡ sizes_of written ++ one.size ∷ []
sizes_with written new one is = ap sizes_of is ∙ map-append (λ w. w.size) written (one ∷ [])

pub leaders_with : (written new : List Written) (one : Written) (leaders : List (Option ℕ)) (class : ℕ) → new ≡ written ++ one ∷ [] → leaders_of written ≡ take class leaders
    → class < length leaders → one.leader ≡ get_or leaders class None → leaders_of new ≡ take (class + 1) leaders
leaders_with written new one leaders class is front inside leader_is =
    ap leaders_of is ∙ map-append (λ w. w.leader) written (one ∷ []) ∙ ap (λ ls. ls ++ one.leader ∷ []) front ∙ ap (λ l. take class leaders ++ l ∷ []) leader_is
    ∙ sym (take_more leaders class None inside)

-- the leaders of the classes before decide
pub size_by_front : (sizes : List ℕ) (leaders : List (Option ℕ)) (class : ℕ) (node : Node) → HasPartsBefore class node → node_size sizes (take class leaders) node ≡ node_size sizes leaders node
size_by_front sizes leaders class (Of slot) h = refl
size_by_front sizes leaders class (Head sym arity) h = refl
size_by_front sizes leaders class (With front argument) h =
    ap (λ o. min (get_or sizes front 0 + part_size o (get_or sizes argument 0)) (2 ^ 32 - 1)) (get_or-take class leaders argument None h.1)
