-- The points of the files that are open.
use Rattle.std.proofs.Common.{◌≡◌, ℕ, Bool, true, false, ◌&&◌, ◌||◌, List, [], ◌∷◌, ◌++◌, length, reverse, refl, sym, ap, ◌∙◌, subst, Option, None, Some, inl, inr}
use Rattle.std.proofs.lemmas.Bool.{and_parts, false≢true}
use Rattle.std.specs.Prelude.{bytes_eq}
use Rattle.std.proofs.lemmas.Slice.Eq.{bytes_eq-Decides}
use Rattle.std.proofs.lemmas.List.{reverse-append, length-map, length-reverse}
use Rattle.si_defs.specs.Bytes.{Bytes}
use Rattle.si_defs.specs.Clauses.{Name}
use Rattle.si_defs.specs.Substitutions.{IsAmong}
use Rattle.si_defs.proofs.SymbolLaws.{text_is}
use Rattle.si_state.specs.Harvest.{ReadingPoint, IsSelected}
use Rattle.si_harvest.specs.declared.files.OpenFile.{OpenFile}
use Rattle.si_harvest.specs.declared.names.NameSet.{NameSet}
use Rattle.si_harvest.specs.Opened.{file_names, opened_names, has_open, lists, is_selected}
use Rattle.si_harvest.specs.Underway.{opened_at, around_at, Narrows, Stand}
use Rattle.si_harvest.proofs.AnyLaws.{any_last}

-- the files once an item of the innermost is read
abbrev pub moved : List OpenFile → OpenFile → ℕ → List OpenFile
moved items f end = items ++ record f { at = end } ∷ []

-- the last file is the innermost
pub innermost : (fs : List OpenFile) (f : OpenFile) → reverse (fs ++ f ∷ []) ≡ f ∷ reverse fs
innermost fs f = reverse-append fs (f ∷ [])

pub stand_names : (fs : List OpenFile) (ss : List ReadingPoint) → Stand fs ss → opened_at ss ≡ file_names fs
stand_names [] [] h = refl
stand_names [] (s ∷ ss) h = absurd h
stand_names (f ∷ fs) [] h = absurd h
stand_names (f ∷ fs) (s ∷ ss) h = h.0.among ∙ ap (λ l. f.name ∷ l) (stand_names fs ss h.1)

-- ---- selections
narrows_yes : (chosen : Option NameSet) (outer around : List (List Name)) (name : Name) → Narrows chosen outer around
    → lists chosen name ≡ true → IsSelected outer name → IsSelected around name
narrows_yes None outer around name n l s = subst (λ a. IsSelected a name) (sym n) s
narrows_yes (Some set) outer around name n l s = subst (λ a. IsSelected a name) (sym n.2) ((n.1.exactly name).0 l, s)

narrows_no : (chosen : Option NameSet) (outer around : List (List Name)) (name : Name) → Narrows chosen outer around
    → lists chosen name ≡ false → IsSelected around name → ⊥
narrows_no None outer around name n l s = false≢true (sym l)
narrows_no (Some set) outer around name n l s =
    let both : IsSelected (n.0 ∷ outer) name = subst (λ a. IsSelected a name) n.2 s in
    false≢true (sym l ∙ (n.1.exactly name).1 both.0)

narrows_outer : (chosen : Option NameSet) (outer around : List (List Name)) (name : Name) → Narrows chosen outer around
    → IsSelected around name → IsSelected outer name
narrows_outer None outer around name n s = subst (λ a. IsSelected a name) n s
narrows_outer (Some set) outer around name n s = let both : IsSelected (n.0 ∷ outer) name = subst (λ a. IsSelected a name) n.2 s in both.1

pub stand_selected : (fs : List OpenFile) (ss : List ReadingPoint) (name : Name) → Stand fs ss → is_selected fs name ≡ true → IsSelected (around_at ss) name
stand_selected [] [] name h e = tt
stand_selected [] (s ∷ ss) name h e = absurd h
stand_selected (f ∷ fs) [] name h e = absurd h
stand_selected (f ∷ fs) (s ∷ ss) name h e =
    let w = and_parts (lists f.chosen name) (is_selected fs name) e in
    narrows_yes f.chosen (around_at ss) s.around name h.0.selects w.0 (stand_selected fs ss name h.1 w.1)

pub stand_unselected : (fs : List OpenFile) (ss : List ReadingPoint) (name : Name) → Stand fs ss → is_selected fs name ≡ false → IsSelected (around_at ss) name → ⊥
stand_unselected [] [] name h e s = false≢true (sym e)
stand_unselected [] (s ∷ ss) name h e k = h
stand_unselected (f ∷ fs) [] name h e k = h
stand_unselected (f ∷ fs) (s ∷ ss) name h e k = by (lists f.chosen name) refl e (stand_unselected fs ss name h.1) where
  by : (b : Bool) → lists f.chosen name ≡ b → (b && is_selected fs name) ≡ false → (is_selected fs name ≡ false → IsSelected (around_at ss) name → ⊥) → ⊥
  by true q g outer = outer g (narrows_outer f.chosen (around_at ss) s.around name h.0.selects k)
  by false q g outer = narrows_no f.chosen (around_at ss) s.around name h.0.selects q k

-- in which order the files are asked does not matter
selected-append : (fs : List OpenFile) (f : OpenFile) (name : Name) → is_selected (fs ++ f ∷ []) name ≡ (lists f.chosen name && is_selected fs name)
selected-append [] f name = refl
selected-append (e ∷ es) f name = ap (λ b. lists e.chosen name && b) (selected-append es f name) ∙ swap (lists e.chosen name) (lists f.chosen name) (is_selected es name) where
  swap : (a b c : Bool) → (a && (b && c)) ≡ (b && (a && c))
  swap true true c = refl
  swap true false c = refl
  swap false true c = refl
  swap false false c = refl

pub selected-reverse : (fs : List OpenFile) (name : Name) → is_selected (reverse fs) name ≡ is_selected fs name
selected-reverse [] name = refl
selected-reverse (f ∷ fs) name =
    ap (λ l. is_selected l name) (reverse-append (f ∷ []) fs)
    ∙ selected-append (reverse fs) f name
    ∙ ap (λ b. lists f.chosen name && b) (selected-reverse fs name)

-- ---- names
-- a name that is listed is among the names of the files, in any order
listed-append : (fs : List OpenFile) (f : OpenFile) (name : Bytes) → has_open (fs ++ f ∷ []) name ≡ (bytes_eq f.name name || has_open fs name)
listed-append fs f name = any_last (λ e. bytes_eq e.name name) fs f

listed-reverse : (fs : List OpenFile) (name : Bytes) → has_open (reverse fs) name ≡ has_open fs name
listed-reverse [] name = refl
listed-reverse (f ∷ fs) name =
    ap (λ l. has_open l name) (reverse-append (f ∷ []) fs)
    ∙ listed-append (reverse fs) f name
    ∙ ap (λ b. bytes_eq f.name name || b) (listed-reverse fs name)

listed_among : (fs : List OpenFile) (name : Bytes) → has_open fs name ≡ true → IsAmong (file_names fs) name
listed_among [] name h = absurd (false≢true h)
listed_among (f ∷ fs) name h = by (bytes_eq f.name name) refl h (listed_among fs name) where
  by : (b : Bool) → bytes_eq f.name name ≡ b → (b || has_open fs name) ≡ true → (has_open fs name ≡ true → IsAmong (file_names fs) name) → IsAmong (file_names (f ∷ fs)) name
  by true q g k = inl (text_is f.name name q)
  by false q g k = inr (k g)

unlisted_among : (fs : List OpenFile) (name : Bytes) → has_open fs name ≡ false → IsAmong (file_names fs) name → ⊥
unlisted_among [] name h a = a
unlisted_among (f ∷ fs) name h a = by (bytes_eq f.name name) refl h a (unlisted_among fs name) where
  by : (b : Bool) → bytes_eq f.name name ≡ b → (b || has_open fs name) ≡ false → IsAmong (file_names (f ∷ fs)) name → (has_open fs name ≡ false → IsAmong (file_names fs) name → ⊥) → ⊥
  by true q g m k = false≢true (sym g)
  by false q g (inl e) k = false≢true (sym q ∙ (bytes_eq-Decides f.name name).1 e)
  by false q g (inr m) k = k g m

pub is_open : (fs : List OpenFile) (name : Bytes) → has_open fs name ≡ true → IsAmong (opened_names fs) name
is_open fs name h = listed_among (reverse fs) name (listed-reverse fs name ∙ h)

pub is_closed : (fs : List OpenFile) (name : Bytes) → has_open fs name ≡ false → IsAmong (opened_names fs) name → ⊥
is_closed fs name h a = unlisted_among (reverse fs) name (listed-reverse fs name ∙ h) a

pub opened_count : (fs : List OpenFile) → length (opened_names fs) ≡ length fs
opened_count fs = length-map (reverse fs) (λ f. f.name) ∙ length-reverse fs
