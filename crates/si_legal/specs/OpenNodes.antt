-- Which nodes a query opens (after Graf 1996, who searches a tree from the root; this project's
-- profile). It is said of the terms of their paths alone. The indicators of such a term count as
-- further variables, which occur in no query.
use Rattle.std.specs.Prelude.{◌≡◌, ℕ, ◌↔◌, List, ◌++◌, map, length, Some}
use Rattle.si_defs.specs.Terms as terms
use Rattle.si_defs.specs.Substitutions.{Substitution, image, apply, IsAmong, AreDistinct, IsOn}
use Rattle.si_defs.specs.Relations.{IsUnifiable, Matches, IsInstance}
use Rattle.si_defs.specs.declared.Relation.{Relation}
use Rattle.si_defs.specs.declared.Relation.TheVariants.{Variants, Instances, Generalizations, Unifiable}
use Rattle.si_flat.specs.Cells.{Symbol, Variable, entry, ind, same_variable, Term}
use Rattle.si_legal.specs.Bindings.{indicators}
use Rattle.si_legal.specs.Trees.{Tree, Path, IsPath, PassesBy, path_term}

-- the map takes the entry's variables among these to variables, different ones to different ones
pub record RenamesEntry (xs : List Variable) (s : Substitution Symbol Variable) : Type 0 where
  pub renames : (m : ℕ) → IsAmong xs (entry m)
      → (y : Variable) × (image same_variable s (entry m) ≡ terms.var y)
  pub apart : (m n : ℕ) → IsAmong xs (entry m) → IsAmong xs (entry n)
      → image same_variable s (entry m) ≡ image same_variable s (entry n) → m ≡ n

-- A path's term p is open for a query q where further bindings may make it stand in the relation to
-- the query.
abbrev pub IsOpen : Relation → Term → Term → Type 0
IsOpen Unifiable q p = IsUnifiable same_variable q p
IsOpen Instances q p =
    (s : Substitution Symbol Variable)
    × IsOn (terms.variables q ++ map ind (indicators p)) s
    × (apply same_variable s q ≡ apply same_variable s p)
IsOpen Generalizations q p = IsInstance same_variable p q
IsOpen Variants q p =
    (s : Substitution Symbol Variable) × Matches same_variable p q s
    × RenamesEntry (terms.variables p) s

-- the node with this key is open, and stands at another node or below it
pub record IsOpenNode (tree : Tree Term) (top : ℕ) (relation : Relation) (q : Term)
    (key : ℕ) : Type 0 where
  pub path : Path
  pub leads : IsPath tree (Some key) path
  pub below : PassesBy path top
  pub open_for : IsOpen relation q (path_term path)

-- so many nodes are open below a node or at it
abbrev pub CountsOpen : Tree Term → ℕ → Relation → Term → ℕ → Type 0
CountsOpen tree top relation q n =
    (keys : List ℕ) × AreDistinct keys
    × ((key : ℕ) → IsAmong keys key ↔ IsOpenNode tree top relation q key)
    × (n ≡ length keys)
