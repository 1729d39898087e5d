-- The walk over a right side and what stands for its left side.
use Rattle.std.proofs.Common.{◌≡◌, ℕ, ◌<◌, inl, inr, false, cond, ◌==◌, List, [], ◌∷◌, ◌++◌, length, drop, refl, sym, ◌∙◌, ap, subst, arith, append_assoc}
use Rattle.std.proofs.lemmas.Bool.{eq-eqb}
use Rattle.std.proofs.lemmas.Bool.Decides.{eqb_tells}
use Rattle.std.proofs.lemmas.List.{map-append}
use Rattle.si_defs.specs.Terms as terms
use Rattle.si_defs.specs.Substitutions.{IsAmong, AreDistinct, image}
use Rattle.si_defs.proofs.ListLaws.{all_append, among_front, among_back}
use Rattle.si_defs.proofs.TermLaws.{same_app, same_more}
use Rattle.si_flat.specs.declared.Cell.{Cell}
use Rattle.si_flat.specs.Cells.{Symbol, Variable, query, entry, ind, same_variable, Term, Terms, join, cells_of, cells_of_all, IsSound, AreSound, StandsFor}
use Rattle.si_flat.specs.Rows.{CellPair, left_sides}
use Rattle.si_flat.proofs.RowLaws.{distinct_parts}
use Rattle.si_legal.specs.Bindings.{Binding, indicator, indicators, indicators_among, applied, substitution_of, StandForBindings}
use Rattle.si_legal.proofs.Splitting.{indicators_all, indicators-more}
use Rattle.si_unify.proofs.Rows.{sound-join, count-join, substitute-join, count-substitute, join_injective}
use Rattle.si_insert.specs.declared.open.Opened.{Opened}
use Rattle.si_insert.specs.Opened.{numbers, term_at}
use Rattle.si_insert.specs.Fitting.{FitsTerm, all_pairs, OpensFor}

abbrev pub images : List Binding → Variable → Term
images bs = image same_variable (substitution_of bs)

abbrev pub applied_all : List Binding → Terms → Terms
applied_all bs ts = terms.substitute_all (images bs) ts

-- ---- rows
pub indicators-join : (ts us : Terms) → indicators_all (join ts us) ≡ indicators_all ts ++ indicators_all us
indicators-join terms.none us = refl
indicators-join (terms.more t ts) us =
    indicators-more t (join ts us)
    ∙ ap (λ l. indicators t ++ l) (indicators-join ts us)
    ∙ sym (append_assoc (indicators t) (indicators_all ts) (indicators_all us))
    ∙ ap (λ l. l ++ indicators_all us) (sym (indicators-more t ts))

-- ---- one more binding in front
-- A binding of an indicator that doesn't occur changes nothing.
mutual
  pub not_there : (n : ℕ) (v t : Term) (bs : List Binding) → (IsAmong (indicators t) n → ⊥) → applied ((n, v) ∷ bs) t ≡ applied bs t
  not_there n v (terms.var (query m)) bs new = refl
  not_there n v (terms.var (entry m)) bs new = refl
  not_there n v (terms.var (ind m)) bs new = ap (λ b. cond b v (images bs (ind m))) (differs (λ e. new (inl (sym e)))) where
    differs : (n ≡ m → ⊥) → (n == m) ≡ false
    differs f = elim (eqb_tells n m) [ inl e ↦ absurd (f e.1) | inr e ↦ e.0 ]
  not_there n v (terms.app s ts) bs new = ap (terms.app s) (none_there n v ts bs new)

  pub none_there : (n : ℕ) (v : Term) (ts : Terms) (bs : List Binding) → (IsAmong (indicators_all ts) n → ⊥) → applied_all ((n, v) ∷ bs) ts ≡ applied_all bs ts
  none_there n v terms.none bs new = refl
  none_there n v (terms.more t ts) bs new = λ i. terms.more (not_there n v t bs (λ among. new (subst (λ l. IsAmong l n) (sym (indicators-more t ts)) (among_front (indicators t) (indicators_all ts) n among))) i) (none_there n v ts bs (λ among. new (subst (λ l. IsAmong l n) (sym (indicators-more t ts)) (among_back (indicators t) (indicators_all ts) n among))) i)

image_here : (n : ℕ) (v : Term) (bs : List Binding) → images ((n, v) ∷ bs) (ind n) ≡ v
image_here n v bs = ap (λ b. cond b v (images bs (ind n))) (eq-eqb n n refl)

-- ---- what is left of the walk
-- The row `ts` is left of the right side t, and `us` of the term u. Bindings that give `us` of the
-- one, after those found, give u of t; and bindings that give u of t give `us` of `ts`.
pub record Remains (cells : List Cell) (t u : Term) (old now : List Opened) (ts us : Terms) : Type 0 where
  pub found : List Binding
  pub opens : OpensFor cells old now found
  pub sound : AreSound ts
  pub other_sound : AreSound us
  pub counts : terms.count ts ≡ terms.count us
  pub distinct : AreDistinct (numbers now ++ indicators_all ts)
  pub gives : (bs : List Binding) → left_sides bs ≡ indicators_all ts → applied_all bs ts ≡ us → FitsTerm (found ++ bs) t u
  pub given : (bs : List Binding) → applied bs t ≡ u → applied_all bs ts ≡ us

pub record LeftToFit (node cells : List Cell) (place : ℕ) (t u : Term) (old now : List Opened) : Type 0 where
  pub ts : Terms
  pub us : Terms
  pub after : List Cell
  pub node_are : node ≡ cells_of_all ts
  pub cells_are : drop place cells ≡ cells_of_all us ++ after
  pub remains : Remains cells t u old now ts us

-- ---- one turn of the walk, of terms
abbrev pub opened_at : ℕ → ℕ → Opened
opened_at n place = record { indicator = n; at = place; bound = false }

with_one : (cells : List Cell) (old now : List Opened) (found : List Binding) (n place : ℕ) (b : Term) → IsSound b → term_at cells place ≡ cells_of b → place < length cells → OpensFor cells old now found → OpensFor cells old (now ++ opened_at n place ∷ []) (found ++ (n, b) ∷ [])
with_one cells old now found n place b sound there within o =
    let one = opened_at n place in
    record {
      others = o.others ++ one ∷ [];
      grows = ap (λ l. l ++ one ∷ []) o.grows ∙ append_assoc old o.others (one ∷ []);
      stand = subst (λ l. StandForBindings l (found ++ (n, b) ∷ [])) (sym (map-append (λ p. (p.indicator, term_at cells p.at)) o.others (one ∷ []))) (stand_more (all_pairs cells o.others) found (n, term_at cells place) (n, b) o.stand refl (record { cells_are = there; sound = sound }));
      free = all_append (λ p. p.bound ≡ false) o.others (one ∷ []) o.free (refl, tt);
      within = all_append (λ p. p.at < length cells) o.others (one ∷ []) o.within (within, tt);
    } where
      stand_more : (cs : List CellPair) (bs : List Binding) (c : CellPair) (d : Binding) → StandForBindings cs bs → c.0 ≡ d.0 → StandsFor c.1 d.1 → StandForBindings (cs ++ c ∷ []) (bs ++ d ∷ [])
      stand_more [] [] c d h e stands = (e, stands, tt)
      stand_more [] (b ∷ bs) c d h e stands = absurd h
      stand_more (a ∷ cs) [] c d h e stands = absurd h
      stand_more (a ∷ cs) (b ∷ bs) c d h e stands = (h.0, h.1, stand_more cs bs c d h.2 e stands)

pub indicator_passed : (cells : List Cell) (t u b : Term) (ts us : Terms) (old now : List Opened) (n place : ℕ) → term_at cells place ≡ cells_of b → place < length cells → Remains cells t u old now (terms.more (indicator n) ts) (terms.more b us) → Remains cells t u old (now ++ opened_at n place ∷ []) ts us
indicator_passed cells t u b ts us old now n place there within r =
    let apart = distinct_parts (numbers now) (n ∷ indicators_all ts) r.distinct in
    record {
      found = r.found ++ (n, b) ∷ [];
      opens = with_one cells old now r.found n place b r.other_sound.0 there within r.opens;
      sound = r.sound.1;
      other_sound = r.other_sound.1;
      counts = omega (arith, r.counts);
      distinct = subst AreDistinct (sym (ap (λ l. l ++ indicators_all ts) (map-append (λ p. p.indicator) now (opened_at n place ∷ [])) ∙ append_assoc (numbers now) (n ∷ []) (indicators_all ts))) r.distinct;
      gives = λ bs lefts gives.
          subst
          (λ l. FitsTerm l t u)
          (sym (append_assoc r.found ((n, b) ∷ []) bs))
          (r.gives ((n, b) ∷ bs) (ap (λ l. n ∷ l) lefts) (λ i. terms.more (image_here n b bs i) ((none_there n b ts bs apart.1.0 ∙ gives) i)));
      given = λ bs e. (same_more _ _ _ _ (r.given bs e)).1;
    }

pub variable_passed : (cells : List Cell) (t u b : Term) (ts us : Terms) (old now : List Opened) (x : Variable) → ((bs : List Binding) → images bs x ≡ terms.var x) → indicators_among (x ∷ []) ≡ [] → b ≡ terms.var x → Remains cells t u old now (terms.more (terms.var x) ts) (terms.more b us) → Remains cells t u old now ts us
variable_passed cells t u b ts us old now x stays none e r =
    let same : indicators_all (terms.more (terms.var x) ts) ≡ indicators_all ts = indicators-more (terms.var x) ts ∙ ap (λ l. l ++ indicators_all ts) none in
    record {
      found = r.found;
      opens = r.opens;
      sound = r.sound.1;
      other_sound = r.other_sound.1;
      counts = omega (arith, r.counts);
      distinct = subst (λ l. AreDistinct (numbers now ++ l)) same r.distinct;
      gives = λ bs lefts gives. r.gives bs (lefts ∙ sym same) (λ i. terms.more ((stays bs ∙ sym e) i) (gives i));
      given = λ bs e. (same_more _ _ _ _ (r.given bs e)).1;
    }

pub symbol_passed : (cells : List Cell) (t u : Term) (s : Symbol) (xs ys ts us : Terms) (old now : List Opened) → terms.count xs ≡ terms.count ys → Remains cells t u old now (terms.more (terms.app s xs) ts) (terms.more (terms.app s ys) us) → Remains cells t u old now (join xs ts) (join ys us)
symbol_passed cells t u s xs ys ts us old now counts r =
    let same : indicators_all (terms.more (terms.app s xs) ts) ≡ indicators_all (join xs ts) = indicators-more (terms.app s xs) ts ∙ sym (indicators-join xs ts) in
    record {
      found = r.found;
      opens = r.opens;
      sound = sound-join xs ts r.sound.0.1 r.sound.1;
      other_sound = sound-join ys us r.other_sound.0.1 r.other_sound.1;
      counts = count-join xs ts ∙ omega (arith, r.counts, counts, count-join ys us);
      distinct = subst (λ l. AreDistinct (numbers now ++ l)) same r.distinct;
      gives = λ bs lefts gives.
          let parts = join_injective (applied_all bs xs) (applied_all bs ts) ys us (count-substitute (images bs) xs ∙ counts) (sym (substitute-join (images bs) xs ts) ∙ gives) in
          r.gives bs (lefts ∙ sym same) (λ i. terms.more (terms.app s (parts.front i)) (parts.back i));
      given = λ bs e.
          let two = same_more _ _ _ _ (r.given bs e) in
          substitute-join (images bs) xs ts ∙ (λ i. join ((same_app _ _ _ _ two.0).1 i) (two.1 i));
    }
