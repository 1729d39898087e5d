-- The draft of a right side with bindings applied, and pairs that are carried so.
use Rattle.std.proofs.Common.{◌≡◌, ℕ, Bool, true, false, cond, ◌==◌, List, [], ◌∷◌, ◌++◌, map, refl, sym, ◌∙◌, ap, subst, append_assoc, append-nil}
use Rattle.std.proofs.lemmas.Bool.{eq-eqb}
use Rattle.std.proofs.lemmas.List.{map-append}
use Rattle.si_defs.specs.Terms as terms
use Rattle.si_defs.specs.Substitutions.{image}
use Rattle.si_flat.specs.declared.Cell.{Cell}
use Rattle.si_flat.specs.declared.Cell.TheVariants as cell
use Rattle.si_flat.specs.Cells.{query, entry, ind, Variable, variable_cell, same_variable, Term, Terms, cells_of, cells_of_all, IsSound, AreSound, StandsFor}
use Rattle.si_flat.specs.Rows.{CellPair}
use Rattle.si_legal.specs.Bindings.{Binding, substitution_of, applied, StandForBindings}
use Rattle.si_mscg.specs.Generalising.{spanless, draft_of, draft_of_all, IsDraft}
use Rattle.si_mscg.proofs.SpanLaws.{draft_done}
use Rattle.si_unify.proofs.Rows.{count-substitute}
use Rattle.si_changes.proofs.ComposeLaws.{carried}
use Rattle.si_changes.proofs.WeightLaws.{applied_all}
use Rattle.si_prune.specs.Pruning.{part_in, filled, carried_pairs}

-- ---- cells without their spans
spanless_variable : (x : Variable) → map spanless (variable_cell x ∷ []) ≡ variable_cell x ∷ []
spanless_variable (query n) = refl
spanless_variable (entry n) = refl
spanless_variable (ind n) = refl

mutual
  pub spanless_draft : (t : Term) → map spanless (cells_of t) ≡ draft_of t
  spanless_draft (terms.var x) = spanless_variable x
  spanless_draft (terms.app s ts) = ap (λ cells. cell.App s.number s.arity 1 ∷ cells) (spanless_all ts)

  pub spanless_all : (ts : Terms) → map spanless (cells_of_all ts) ≡ draft_of_all ts
  spanless_all terms.none = refl
  spanless_all (terms.more t ts) =
      map-append spanless (cells_of t) (cells_of_all ts)
      ∙ (λ i. spanless_draft t i ++ spanless_all ts i)

-- ---- what is bound
abbrev image_of : List Binding → Variable → Term
image_of bs x = image same_variable (substitution_of bs) x

part_is : (cells : List CellPair) (bs : List Binding) (n : ℕ) → StandForBindings cells bs → part_in cells n ≡ cells_of (image_of bs (ind n))
part_is [] [] n h = refl
part_is [] (b ∷ bs) n h = absurd h
part_is (c ∷ cells) [] n h = absurd h
part_is (c ∷ cells) (b ∷ bs) n h = (λ i. cond (h.0 i == n) (h.1.cells_are i) (part_is cells bs n h.2 i)) ∙ by (b.0 == n) where
  by : (test : Bool) → cond test (cells_of b.1) (cells_of (image_of bs (ind n))) ≡ cells_of (cond test b.1 (image_of bs (ind n)))
  by true = refl
  by false = refl

pub part_first : (pair : CellPair) (rest : List CellPair) (n : ℕ) → pair.0 ≡ n → part_in (pair ∷ rest) n ≡ pair.1
part_first pair rest n e = ap (λ test. cond test pair.1 (part_in rest n)) (eq-eqb pair.0 n e)

no_query : (bs : List Binding) (n : ℕ) → image_of bs (query n) ≡ terms.var (query n)
no_query [] n = refl
no_query (b ∷ bs) n = no_query bs n

no_entry : (bs : List Binding) (n : ℕ) → image_of bs (entry n) ≡ terms.var (entry n)
no_entry [] n = refl
no_entry (b ∷ bs) n = no_entry bs n

sound_bound : (cells : List CellPair) (bs : List Binding) (n : ℕ) → StandForBindings cells bs → IsSound (image_of bs (ind n))
sound_bound [] [] n h = tt
sound_bound [] (b ∷ bs) n h = absurd h
sound_bound (c ∷ cells) [] n h = absurd h
sound_bound (c ∷ cells) (b ∷ bs) n h = by (b.0 == n) (sound_bound cells bs n h.2) where
  by : (test : Bool) → IsSound (image_of bs (ind n)) → IsSound (cond test b.1 (image_of bs (ind n)))
  by true rest = h.1.sound
  by false rest = rest

-- ---- a term
module _ (cells : List CellPair) (bs : List Binding) (stand : StandForBindings cells bs) where
  filled_variable : (x : Variable) (rest : List Cell) → filled cells (variable_cell x ∷ rest) ≡ draft_of (image_of bs x) ++ filled cells rest
  filled_variable (query n) rest = ap (λ t. draft_of t ++ filled cells rest) (sym (no_query bs n))
  filled_variable (entry n) rest = ap (λ t. draft_of t ++ filled cells rest) (sym (no_entry bs n))
  filled_variable (ind n) rest =
      ap (λ part. map spanless part ++ filled cells rest) (part_is cells bs n stand)
      ∙ ap (λ part. part ++ filled cells rest) (spanless_draft (image_of bs (ind n)))

  mutual
    pub filled_term : (t : Term) (rest : List Cell) → filled cells (cells_of t ++ rest) ≡ draft_of (applied bs t) ++ filled cells rest
    filled_term (terms.var x) rest = filled_variable x rest
    filled_term (terms.app s ts) rest = ap (λ part. cell.App s.number s.arity 1 ∷ part) (filled_all ts rest)

    pub filled_all : (ts : Terms) (rest : List Cell) → filled cells (cells_of_all ts ++ rest) ≡ draft_of_all (applied_all bs ts) ++ filled cells rest
    filled_all terms.none rest = refl
    filled_all (terms.more t ts) rest =
        ap (filled cells) (append_assoc (cells_of t) (cells_of_all ts) rest)
        ∙ filled_term t (cells_of_all ts ++ rest)
        ∙ ap (λ part. draft_of (applied bs t) ++ part) (filled_all ts rest)
        ∙ sym (append_assoc (draft_of (applied bs t)) _ (filled cells rest))

  sound_variable : (x : Variable) → IsSound (image_of bs x)
  sound_variable (query n) = subst IsSound (sym (no_query bs n)) tt
  sound_variable (entry n) = subst IsSound (sym (no_entry bs n)) tt
  sound_variable (ind n) = sound_bound cells bs n stand

  mutual
    pub sound_applied : (t : Term) → IsSound t → IsSound (applied bs t)
    sound_applied (terms.var x) sound = sound_variable x
    sound_applied (terms.app s ts) sound = (count-substitute (image_of bs) ts ∙ sound.0, all_sound_applied ts sound.1)

    all_sound_applied : (ts : Terms) → AreSound ts → AreSound (applied_all bs ts)
    all_sound_applied terms.none sound = tt
    all_sound_applied (terms.more t ts) sound = (sound_applied t sound.0, all_sound_applied ts sound.1)

  -- the draft of a right side is that of its term with the bindings applied
  pub right_filled : (right : List Cell) (t : Term) → StandsFor right t → filled cells right ≡ draft_of (applied bs t)
  right_filled right t h =
      ap (filled cells) (h.cells_are ∙ sym (append-nil (cells_of t)))
      ∙ filled_term t []
      ∙ append-nil (draft_of (applied bs t))

  abbrev pub is_draft : (right : List Cell) (t : Term) → StandsFor right t → IsDraft (filled cells right)
  is_draft right t h = record {
    term = applied bs t;
    sound = sound_applied t h.sound;
    draft = right_filled right t h;
  }

  pub carried_stand : (node : List CellPair) (ns : List Binding) → StandForBindings node ns → StandForBindings (carried_pairs node cells) (carried ns bs)
  carried_stand [] [] h = tt
  carried_stand [] (b ∷ ns) h = absurd h
  carried_stand (c ∷ node) [] h = absurd h
  carried_stand (c ∷ node) (b ∷ ns) h = (h.0, draft_done (filled cells c.1) (is_draft c.1 b.1 h.1), carried_stand node ns h.2)
