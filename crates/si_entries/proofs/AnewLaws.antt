-- The cells of a part of a term, numbered anew, are those of the part by itself.
use Rattle.std.proofs.Common.{◌≡◌, ℕ, ◌+◌, Bool, true, false, cond, ◌||◌, List, [], ◌∷◌, ◌++◌, map, refl, sym, ◌∙◌, ap}
use Rattle.std.specs.Prelude.{bytes_eq}
use Rattle.std.specs.List.{AllByRecursion, list_any}
use Rattle.std.proofs.lemmas.Bool.{eqb-true, eq-eqb}
use Rattle.std.proofs.lemmas.Bool.Decides.{Decides-eqb}
use Rattle.std.proofs.lemmas.List.{map-append}
use Rattle.std.proofs.lemmas.Slice.Eq.{bytes_eq-Decides}
use Rattle.indexmap.specs.IndexSet.{insert_key, insert_all}
use Rattle.si_defs.specs.Bytes.{Bytes}
use Rattle.si_defs.specs.Terms as terms
use Rattle.si_defs.specs.Terms.{firsts}
use Rattle.si_defs.specs.Symbols.{Symbol, Numbering}
use Rattle.si_defs.specs.Substitutions.{IsAmong}
use Rattle.si_defs.specs.Clauses.{Term, Terms, IsSoundTerm, AreSoundTerms}
use Rattle.si_defs.specs.declared.Side.TheVariants.{Function}
use Rattle.si_defs.proofs.BoolLaws.{agreed}
use Rattle.si_defs.proofs.ListLaws.{all_at, all_from, all_front, all_back, all_append}
use Rattle.si_term.proofs.Inserted.{inserted-firsts}
use Rattle.si_flat.specs.declared.Cell.TheVariants as cell
use Rattle.si_flat.specs.Cells.{cells_of, cells_of_all}
use Rattle.si_flat.specs.Numbered.{number_in, one_above, signed, place_in, numbered, all_numbered}
use Rattle.si_flat.proofs.Walking.{numbered_sizes}
use Rattle.si_flat.proofs.FirstPlaces.{place_one, firsts_among}
use Rattle.si_entries.specs.Numbers.{same_number, entry_numbers, cell_by_place, numbered_anew}
use Rattle.si_entries.specs.FlatWalks.{variable_in}
use Rattle.si_entries.proofs.NumberLaws.{numbers-append}

-- ---- places among names, and places among these places
module _ (names : List Bytes) where
  abbrev pub place : Bytes → ℕ
  place x = place_in bytes_eq names x

  tells : (x y : Bytes) → IsAmong names x → IsAmong names y → same_number (place x) (place y) ≡ bytes_eq x y
  tells x y mx my =
      agreed
      (same_number (place x) (place y))
      (bytes_eq x y)
      (λ e. (bytes_eq-Decides x y).1 (place_one bytes_eq bytes_eq-Decides names x y mx my (eqb-true (place x) (place y) e)))
      (λ e. eq-eqb (place x) (place y) (ap place ((bytes_eq-Decides x y).0 e)))

  any-placed : (x : Bytes) (ks : List Bytes) → IsAmong names x → AllByRecursion (IsAmong names) ks → list_any (same_number (place x)) (map place ks) ≡ list_any (bytes_eq x) ks
  any-placed x [] mx all = refl
  any-placed x (k ∷ ks) mx all = λ i. tells x k mx all.0 i || any-placed x ks mx all.1 i

  key-placed : (ks : List Bytes) (x : Bytes) → IsAmong names x → AllByRecursion (IsAmong names) ks → insert_key same_number (map place ks) (place x) ≡ map place (insert_key bytes_eq ks x)
  key-placed ks x mx all = ap (λ b. cond b (map place ks) (map place ks ++ place x ∷ [])) (any-placed x ks mx all) ∙ by (list_any (bytes_eq x) ks) where
    by : (b : Bool) → cond b (map place ks) (map place ks ++ place x ∷ []) ≡ map place (cond b ks (ks ++ x ∷ []))
    by true = refl
    by false = sym (map-append place ks (x ∷ []))

  key_among : (ks : List Bytes) (x : Bytes) → IsAmong names x → AllByRecursion (IsAmong names) ks → AllByRecursion (IsAmong names) (insert_key bytes_eq ks x)
  key_among ks x mx all = by (list_any (bytes_eq x) ks) where
    by : (b : Bool) → AllByRecursion (IsAmong names) (cond b ks (ks ++ x ∷ []))
    by true = all
    by false = all_append (IsAmong names) ks (x ∷ []) all (mx, tt)

  inserted-placed : (ks xs : List Bytes) → AllByRecursion (IsAmong names) ks → AllByRecursion (IsAmong names) xs → insert_all same_number (map place ks) (map place xs) ≡ map place (insert_all bytes_eq ks xs)
  inserted-placed ks [] all more = refl
  inserted-placed ks (x ∷ xs) all more =
      ap (λ l. insert_all same_number l (map place xs)) (key-placed ks x more.0 all)
      ∙ inserted-placed (insert_key bytes_eq ks x) xs (key_among ks x more.0 all) more.1

  place-placed : (ks : List Bytes) (x : Bytes) → IsAmong names x → AllByRecursion (IsAmong names) ks → place_in same_number (map place ks) (place x) ≡ place_in bytes_eq ks x
  place-placed [] x mx all = refl
  place-placed (k ∷ ks) x mx all = λ i. cond (tells k x all.0 mx i) 0 (1 + place-placed ks x mx all.1 i)

  firsts-placed : (xs : List Bytes) → AllByRecursion (IsAmong names) xs → firsts same_number (map place xs) ≡ map place (firsts bytes_eq xs)
  firsts-placed xs all =
      sym (inserted-firsts same_number Decides-eqb (map place xs))
      ∙ inserted-placed [] xs tt all
      ∙ ap (map place) (inserted-firsts bytes_eq bytes_eq-Decides xs)

  pub place_anew : (xs : List Bytes) → AllByRecursion (IsAmong names) xs → AllByRecursion (λ x. place_in same_number (firsts same_number (map place xs)) (place x) ≡ place_in bytes_eq (firsts bytes_eq xs) x) xs
  place_anew xs all = all_from _ xs (λ x m.
      ap (λ l. place_in same_number l (place x)) (firsts-placed xs all)
      ∙ place-placed (firsts bytes_eq xs) x (all_at (IsAmong names) xs x all m) (all_from (IsAmong names) (firsts bytes_eq xs) (λ y among. all_at (IsAmong names) xs y all (firsts_among bytes_eq xs y among))))

-- ---- cells
mutual
  numbers-cells : (n : Symbol → ℕ) (names : List Bytes) (t : Term) → entry_numbers (cells_of (numbered n (variable_in names) t)) ≡ map (place_in bytes_eq names) (terms.variables t)
  numbers-cells n names (terms.var x) = refl
  numbers-cells n names (terms.app s ts) = numbers-all_cells n names ts

  numbers-all_cells : (n : Symbol → ℕ) (names : List Bytes) (ts : Terms) → entry_numbers (cells_of_all (all_numbered n (variable_in names) ts)) ≡ map (place_in bytes_eq names) (terms.variables_of_all ts)
  numbers-all_cells n names terms.none = refl
  numbers-all_cells n names (terms.more t ts) =
      numbers-append (cells_of (numbered n (variable_in names) t)) (cells_of_all (all_numbered n (variable_in names) ts))
      ∙ (λ i. numbers-cells n names t i ++ numbers-all_cells n names ts i)
      ∙ sym (map-append (place_in bytes_eq names) (terms.variables t) (terms.variables_of_all ts))

-- a function's number has no sign
unsigned : (positive : Bool) (n : Symbol → ℕ) (s : Symbol) → s.side ≡ Function → signed positive n s ≡ n s
unsigned true n s on = refl
unsigned false n s on = ap (λ side. one_above side (n s)) on

-- the variables have these places in the first list, and those in the second
module _ (pairs : Numbering) (positive : Bool) (ms : List ℕ) (names own : List Bytes) where
  abbrev Goes : Bytes → Type 0
  Goes x = place_in same_number ms (place_in bytes_eq names x) ≡ place_in bytes_eq own x

  mutual
    cells_anew : (t : Term) → IsSoundTerm t → AllByRecursion Goes (terms.variables t)
        → map (cell_by_place ms) (cells_of (numbered (signed positive (number_in pairs)) (variable_in names) t)) ≡ cells_of (numbered (number_in pairs) (variable_in own) t)
    cells_anew (terms.var x) sound all = ap (λ k. cell.Entry k ∷ []) all.0
    cells_anew (terms.app s ts) sound all =
        let n : Symbol → ℕ = signed positive (number_in pairs) in
        λ i. cell.App (unsigned positive (number_in pairs) s sound.0.on_side i) s.arity (1 + (numbered_sizes n (variable_in names) ts ∙ sym (numbered_sizes (number_in pairs) (variable_in own) ts)) i)
        ∷ all_cells_anew ts sound.1 all i

    all_cells_anew : (ts : Terms) → AreSoundTerms ts → AllByRecursion Goes (terms.variables_of_all ts)
        → map (cell_by_place ms) (cells_of_all (all_numbered (signed positive (number_in pairs)) (variable_in names) ts)) ≡ cells_of_all (all_numbered (number_in pairs) (variable_in own) ts)
    all_cells_anew terms.none sound all = refl
    all_cells_anew (terms.more t ts) sound all =
        map-append (cell_by_place ms) (cells_of (numbered (signed positive (number_in pairs)) (variable_in names) t)) (cells_of_all (all_numbered (signed positive (number_in pairs)) (variable_in names) ts))
        ∙ λ i. cells_anew t sound.0 (all_front Goes (terms.variables t) (terms.variables_of_all ts) all) i
        ++ all_cells_anew ts sound.1 (all_back Goes (terms.variables t) (terms.variables_of_all ts) all) i

pub part_anew : (pairs : Numbering) (positive : Bool) (names : List Bytes) (t : Term) → IsSoundTerm t → AllByRecursion (IsAmong names) (terms.variables t)
    → numbered_anew (cells_of (numbered (signed positive (number_in pairs)) (variable_in names) t)) ≡ cells_of (numbered (number_in pairs) (variable_in (firsts bytes_eq (terms.variables t))) t)
part_anew pairs positive names t sound all =
    let part = cells_of (numbered (signed positive (number_in pairs)) (variable_in names) t) in
    ap (λ l. map (cell_by_place (firsts same_number l)) part) (numbers-cells (signed positive (number_in pairs)) names t)
    ∙ cells_anew pairs positive (firsts same_number (map (place_in bytes_eq names) (terms.variables t))) names (firsts bytes_eq (terms.variables t)) t sound (place_anew names (terms.variables t) all)
