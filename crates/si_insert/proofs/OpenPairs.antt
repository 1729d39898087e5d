-- What stands for the indicators that aren't bound.
use Rattle.std.proofs.Common.{◌≡◌, ℕ, ◌+◌, ◌<◌, inl, inr, Bool, true, false, cond, List, [], ◌∷◌, ◌++◌, length, take, drop, get_or, refl, sym, ◌∙◌, ap, subst, append_assoc}
use Rattle.std.proofs.lemmas.List.{at_drop_more, map-append, take-append-drop}
use Rattle.si_defs.specs.Substitutions.{IsAmong, AreDistinct}
use Rattle.si_flat.specs.declared.Cell.{Cell}
use Rattle.si_flat.specs.Cells.{IsWhole}
use Rattle.si_flat.specs.Rows.{CellPair, left_sides, first_span}
use Rattle.si_flat.proofs.RowLaws.{distinct_parts, first_taken}
use Rattle.si_insert.specs.declared.open.Opened.{Opened}
use Rattle.si_insert.specs.Opened.{numbers, term_at, open_pairs}

pub fewer_lefts : (cells : List Cell) (all : List Opened) (n : ℕ) → IsAmong (left_sides (open_pairs cells all)) n → IsAmong (numbers all) n
fewer_lefts cells [] n among = among
fewer_lefts cells (o ∷ os) n among = by o.bound (fewer_lefts cells os n) among where
  by : (b : Bool) → (IsAmong (left_sides (open_pairs cells os)) n → IsAmong (numbers os) n) → IsAmong (left_sides (cond b (open_pairs cells os) ((o.indicator, term_at cells o.at) ∷ open_pairs cells os))) n → IsAmong (numbers (o ∷ os)) n
  by true fewer among = inr (fewer among)
  by false fewer (inl e) = inl e
  by false fewer (inr later) = inr (fewer later)

pub distinct_lefts : (cells : List Cell) (all : List Opened) → AreDistinct (numbers all) → AreDistinct (left_sides (open_pairs cells all))
distinct_lefts cells [] h = tt
distinct_lefts cells (o ∷ os) h = by o.bound (distinct_lefts cells os h.1) where
  by : (b : Bool) → AreDistinct (left_sides (open_pairs cells os)) → AreDistinct (left_sides (cond b (open_pairs cells os) ((o.indicator, term_at cells o.at) ∷ open_pairs cells os)))
  by true rest = rest
  by false rest = (λ among. h.0 (fewer_lefts cells os o.indicator among), rest)

-- what is found there is the term that begins there
pub term_there : (cells part : List Cell) (at : ℕ) → part ≡ take (length part) (drop at cells) → IsWhole part → part ≡ term_at cells at
term_there cells part at e whole =
    let rest = drop (length part) (drop at cells) in
    let all : drop at cells ≡ part ++ rest = sym (take-append-drop (length part) (drop at cells)) ∙ ap (λ l. l ++ rest) (sym e) in
    sym (first_taken part rest whole) ∙ ap (λ l. take (first_span l) l) (sym all)

-- ---- a loop over them
-- those that were met, and then those left
abbrev pub AreMet : List Cell → List Opened → List CellPair → ℕ → Type 0
AreMet cells all met i = open_pairs cells all ≡ met ++ open_pairs cells (drop i all)

next_is : (cells : List Cell) (all : List Opened) (i : ℕ) (d : Opened) (b : Bool) → i < length all → (get_or all i d).bound ≡ b → open_pairs cells (drop i all) ≡ cond b (open_pairs cells (drop (i + 1) all)) (((get_or all i d).indicator, term_at cells (get_or all i d).at) ∷ open_pairs cells (drop (i + 1) all))
next_is cells all i d b less e =
    at_drop_more (open_pairs cells) all i d less
    ∙ ap (λ t. cond t (open_pairs cells (drop (i + 1) all)) (((get_or all i d).indicator, term_at cells (get_or all i d).at) ∷ open_pairs cells (drop (i + 1) all))) e

pub passed : (cells : List Cell) (all : List Opened) (met : List CellPair) (i : ℕ) (d : Opened) → i < length all → (get_or all i d).bound ≡ true → AreMet cells all met i → AreMet cells all met (i + 1)
passed cells all met i d less e h = h ∙ ap (λ l. met ++ l) (next_is cells all i d true less e)

pub met_next : (cells : List Cell) (all now : List Opened) (met new : List CellPair) (i : ℕ) (d : Opened) (part : List Cell) → all ≡ now → i < length all → (get_or all i d).bound ≡ false → AreMet cells now met i → part ≡ term_at cells (get_or all i d).at → new ≡ met ++ ((get_or all i d).indicator, part) ∷ [] → AreMet cells now new (i + 1)
met_next cells all now met new i d part sliced less e h there pushed =
    let one : CellPair = ((get_or all i d).indicator, term_at cells (get_or all i d).at) in
    let h' : AreMet cells all met i = subst (λ l. AreMet cells l met i) (sym sliced) h in
    let all_met : open_pairs cells all ≡ (met ++ one ∷ []) ++ open_pairs cells (drop (i + 1) all) =
    h' ∙ ap (λ l. met ++ l) (next_is cells all i d false less e) ∙ sym (append_assoc met (one ∷ []) (open_pairs cells (drop (i + 1) all))) in
    let same : met ++ one ∷ [] ≡ new = sym (pushed ∙ ap (λ l. met ++ ((get_or all i d).indicator, l) ∷ []) there) in
    subst (λ l. AreMet cells l new (i + 1)) sliced (subst (λ l. AreMet cells all l (i + 1)) same all_met)

pub is_new : (cells : List Cell) (all : List Opened) (met : List CellPair) (i : ℕ) (d : Opened) → AreDistinct (numbers all) → i < length all → (get_or all i d).bound ≡ false → AreMet cells all met i → IsAmong (left_sides met) (get_or all i d).indicator → ⊥
is_new cells all met i d distinct less e h among =
    let one : CellPair = ((get_or all i d).indicator, term_at cells (get_or all i d).at) in
    let rest = open_pairs cells (drop (i + 1) all) in
    let whole : open_pairs cells all ≡ met ++ one ∷ rest = h ∙ ap (λ l. met ++ l) (next_is cells all i d false less e) in
    let lefts = subst AreDistinct (ap left_sides whole ∙ map-append (λ b. b.0) met (one ∷ rest)) (distinct_lefts cells all distinct) in
    (distinct_parts (left_sides met) (one.0 ∷ left_sides rest) lefts).2 one.0 among (inl refl)
