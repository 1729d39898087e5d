-- Terms under all bindings of a path.
use Rattle.std.proofs.Common.{◌≡◌, ◌⊎◌, inl, inr, ℕ, cond, List, [], ◌∷◌, ◌++◌, Option, refl, ap, sym, ◌∙◌, subst}
use Rattle.si_defs.specs.Terms as terms
use Rattle.si_defs.specs.Substitutions.{Substitution, image, apply, IsAmong, AreDistinct}
use Rattle.si_defs.proofs.ListLaws.{all_at, all_from, among_front, among_back, among_parts}
use Rattle.si_flat.specs.Cells.{Symbol, Variable, query, entry, ind, same_variable, Term}
use Rattle.si_flat.specs.Rows.{left_sides}
use Rattle.si_flat.proofs.RowLaws.{distinct_parts}
use Rattle.si_legal.specs.Bindings.{Binding, indicators, right_indicators, indicator, substitution_of, applied}
use Rattle.si_legal.specs.Trees.{Node, Tree, HasNode, Path, IsPath, path_term, opened}
use Rattle.si_legal.specs.Legal.{IsOpenBelow, AreLegalBindings}
use Rattle.si_legal.specs.Descents.{SolvesBindings, SolvesPath}
use Rattle.si_legal.proofs.PathLaws.{one_path}
use Rattle.si_legal.proofs.SplitLaws.{binding_left}
use Rattle.si_changes.proofs.Frames.{HasLegalNodes}
use Rattle.si_changes.proofs.OpenLaws.{open_opened}
use Rattle.si_changes.proofs.HeadLaws.{image_bound, image_keeps}
use Rattle.si_changes.proofs.Borrowed.{image_other}
use Rattle.si_changes.proofs.ComposeLaws.{substituted_twice, indicator_in, right_among, open_from, IsOpenAfter}
use Rattle.si_descend.proofs.Tabulated.{substituted_none, variable_tells}

-- the term with the bindings of the path applied, from the root on
abbrev pub along : Path → Term → Term
along [] t = t
along (step ∷ above) t = applied step.1.bindings (along above t)

pub path_term_along : (p : Path) → path_term p ≡ along p (indicator 0)
path_term_along [] = refl
path_term_along (step ∷ above) = ap (applied step.1.bindings) (path_term_along above)

-- it replaces each variable
pub along_replaces : (p : Path) (t : Term) → terms.substitute (λ x. along p (terms.var x)) t ≡ along p t
along_replaces [] t = substituted_none (λ x. terms.var x) t (λ x a. refl)
along_replaces (step ∷ above) t =
    sym (substituted_twice (λ x. along above (terms.var x)) (image same_variable (substitution_of step.1.bindings)) (λ x. along (step ∷ above) (terms.var x)) t (λ x a. refl))
    ∙ ap (applied step.1.bindings) (along_replaces above t)

-- ---- terms that stay
-- bindings of none of its indicators leave a term
pub applied_none : (bs : List Binding) (t : Term) → ((n : ℕ) → IsAmong (indicators t) n → IsAmong (left_sides bs) n → ⊥) → applied bs t ≡ t
applied_none bs t other = substituted_none (image same_variable (substitution_of bs)) t by where
  by : (x : Variable) → IsAmong (terms.variables t) x → image same_variable (substitution_of bs) x ≡ terms.var x
  by (query n) a = (image_keeps bs).queries n
  by (entry n) a = (image_keeps bs).entries n
  by (ind n) a = image_other bs n (other n (indicator_in (terms.variables t) n a))

-- the indicators that the path binds
abbrev pub bound_on : Path → List ℕ
bound_on [] = []
bound_on (step ∷ above) = bound_on above ++ left_sides step.1.bindings

pub along_none : (p : Path) (t : Term) → ((n : ℕ) → IsAmong (indicators t) n → IsAmong (bound_on p) n → ⊥) → along p t ≡ t
along_none [] t other = refl
along_none (step ∷ above) t other =
    ap (applied step.1.bindings) (along_none above t (λ n a b. other n a (among_front (bound_on above) (left_sides step.1.bindings) n b)))
    ∙ applied_none step.1.bindings t (λ n a b. other n a (among_back (bound_on above) (left_sides step.1.bindings) n b))

-- ---- paths of a legal tree
module _ (tree : Tree Term) (legal : HasLegalNodes tree) where
  -- what is known of a node on a path
  pub record IsStep (step : ℕ × Node Term) (above : Path) : Type 0 where
    pub binds : AreLegalBindings tree above step.1.bindings
    pub opens : AreDistinct (opened above ++ right_indicators step.1.bindings)

  pub is_step : (step : ℕ × Node Term) (above : Path) → HasNode tree step.0 step.1 → IsPath tree step.1.parent above → IsStep step above
  is_step step above has reached =
      let h = legal.nodes step.0 step.1 has in
      let same = one_path tree step.1.parent h.above above h.reached reached in
      record {
        binds = subst (λ p. AreLegalBindings tree p step.1.bindings) same h.binds;
        opens = subst (λ p. AreDistinct (opened p ++ right_indicators step.1.bindings)) same h.opens;
      }

  -- what a node binds is opened above it
  pub left_opened : (step : ℕ × Node Term) (above : Path) → HasNode tree step.0 step.1 → IsPath tree step.1.parent above → (n : ℕ) → IsAmong (left_sides step.1.bindings) n → IsAmong (opened above) n
  left_opened step above has reached n a =
      open_opened tree legal step.1.parent above reached n
      (all_at (IsOpenBelow above) (left_sides step.1.bindings) n (is_step step above has reached).binds.lefts a)

  -- and what it opens isn't opened above it
  pub right_new : (step : ℕ × Node Term) (above : Path) → HasNode tree step.0 step.1 → IsPath tree step.1.parent above → (n : ℕ) → IsAmong (right_indicators step.1.bindings) n → IsAmong (opened above) n → ⊥
  right_new step above has reached n a b =
      (distinct_parts (opened above) (right_indicators step.1.bindings) (is_step step above has reached).opens).2 n b a

  pub bound_opened : (from : Option ℕ) (p : Path) → IsPath tree from p → (n : ℕ) → IsAmong (bound_on p) n → IsAmong (opened p) n
  bound_opened from [] reached n a = absurd a
  bound_opened from (step ∷ above) reached n a =
      among_front (opened above) (right_indicators step.1.bindings) n
      (elim (among_parts (bound_on above) (left_sides step.1.bindings) n a) as (λ _. IsAmong (opened above) n) [
        | inl b ↦ bound_opened step.1.parent above reached.2 n b
        | inr b ↦ left_opened step above reached.1 reached.2 n b
      ])

  -- no bound indicator is open
  pub bound_closed : (from : Option ℕ) (p : Path) → IsPath tree from p → (n : ℕ) → IsAmong (bound_on p) n → IsOpenBelow p n → ⊥
  bound_closed from [] reached n a is = absurd a
  bound_closed from (step ∷ above) reached n a is =
      by (λ b h. bound_closed step.1.parent above reached.2 n b h) (among_parts (bound_on above) (left_sides step.1.bindings) n a)
      (open_from step.1.bindings (path_term above) n (is_step step above reached.1 reached.2).binds.distinct is)
    where
      by : (IsAmong (bound_on above) n → IsOpenBelow above n → ⊥) → IsAmong (bound_on above) n ⊎ IsAmong (left_sides step.1.bindings) n → IsOpenAfter step.1.bindings (path_term above) n → ⊥
      by closed (inl b) (inl h) = closed b h.0
      by closed (inl b) (inr r) = right_new step above reached.1 reached.2 n r (bound_opened step.1.parent above reached.2 n b)
      by closed (inr b) (inl h) = h.1 b
      by closed (inr b) (inr r) = right_new step above reached.1 reached.2 n r (left_opened step above reached.1 reached.2 n b)

  -- ---- a binding under the bindings of its path
  pub left_along : (step : ℕ × Node Term) (above : Path) → HasNode tree step.0 step.1 → IsPath tree step.1.parent above → (b : Binding) → IsAmong step.1.bindings b → along (step ∷ above) (indicator b.0) ≡ b.1
  left_along step above has reached b a =
      let is = is_step step above has reached in
      let left = binding_left step.1.bindings b.0 b.1 a in
      ap (applied step.1.bindings) (along_none above (indicator b.0) (λ n i m. bound_closed step.1.parent above reached n m (by n i (all_at (IsOpenBelow above) (left_sides step.1.bindings) b.0 is.binds.lefts left))))
      ∙ image_bound step.1.bindings b.0 b.1 is.binds.distinct a
    where
      by : (n : ℕ) → IsAmong (b.0 ∷ []) n → IsOpenBelow above b.0 → IsOpenBelow above n
      by n (inl e) is = subst (IsOpenBelow above) e is
      by n (inr m) is = absurd m

  pub right_along : (step : ℕ × Node Term) (above : Path) → HasNode tree step.0 step.1 → IsPath tree step.1.parent above → (b : Binding) → IsAmong step.1.bindings b → along (step ∷ above) b.1 ≡ b.1
  right_along step above has reached b a =
      along_none (step ∷ above) b.1 (λ n i m. right_new step above has reached n (right_among step.1.bindings b n a i)
      (elim (among_parts (bound_on above) (left_sides step.1.bindings) n m) as (λ _. IsAmong (opened above) n) [
        | inl c ↦ bound_opened step.1.parent above reached n c
        | inr c ↦ left_opened step above has reached n c
      ]))

  -- ---- solutions
  -- a map that begins with the bindings of the path solves them
  pub solves_along : (from : Option ℕ) (p : Path) → IsPath tree from p → (g : Variable → Term) (s : Substitution Symbol Variable) → ((x : Variable) → image same_variable s x ≡ terms.substitute g (along p (terms.var x))) → SolvesPath s p
  solves_along from [] reached g s is = tt
  solves_along from (step ∷ above) reached g s is = (
    all_from (λ b. apply same_variable s (indicator b.0) ≡ apply same_variable s b.1) step.1.bindings one,
    solves_along step.1.parent above reached.2 (λ x. terms.substitute g (image same_variable (substitution_of step.1.bindings) x)) s (λ x. is x ∙ substituted_twice (image same_variable (substitution_of step.1.bindings)) g (λ y. terms.substitute g (image same_variable (substitution_of step.1.bindings) y)) (along above (terms.var x)) (λ y a. refl)),
  ) where
    one : (b : Binding) → IsAmong step.1.bindings b → apply same_variable s (indicator b.0) ≡ apply same_variable s b.1
    one b a =
        is (ind b.0)
        ∙ ap (terms.substitute g) (left_along step above reached.1 reached.2 b a ∙ sym (right_along step above reached.1 reached.2 b a) ∙ sym (along_replaces (step ∷ above) b.1))
        ∙ substituted_twice (λ x. along (step ∷ above) (terms.var x)) g (image same_variable s) b.1 (λ x i. sym (is x))

-- a map that solves bindings gives the same of a term under them
pub solves_applied : (s : Substitution Symbol Variable) (bs : List Binding) (t : Term) → SolvesBindings s bs → apply same_variable s (applied bs t) ≡ apply same_variable s t
solves_applied s bs t h = substituted_twice (image same_variable (substitution_of bs)) (image same_variable s) (image same_variable s) t (λ x a. by bs x h) where
  by : (bs : List Binding) (x : Variable) → SolvesBindings s bs → apply same_variable s (image same_variable (substitution_of bs) x) ≡ image same_variable s x
  by [] x h = refl
  by (b ∷ bs) x h = elim (variable_tells (ind b.0) x) as (λ _. apply same_variable s (image same_variable (substitution_of (b ∷ bs)) x) ≡ image same_variable s x) [
    | inl t ↦ ap (λ c. apply same_variable s (cond c b.1 (image same_variable (substitution_of bs) x))) t.0 ∙ sym h.0 ∙ ap (image same_variable s) t.1
    | inr t ↦ ap (λ c. apply same_variable s (cond c b.1 (image same_variable (substitution_of bs) x))) t.0 ∙ by bs x h.1
  ]

pub solves_path_term : (s : Substitution Symbol Variable) (p : Path) → SolvesPath s p → apply same_variable s (path_term p) ≡ apply same_variable s (indicator 0)
solves_path_term s [] h = refl
solves_path_term s (step ∷ above) h = solves_applied s step.1.bindings (path_term above) h.0 ∙ solves_path_term s above h.1
