-- What all unifiers make equal, and by it leaders, folded terms and the order of a canonical list,
-- of translated terms.
use Rattle.std.proofs.Common.{◌≡◌, Bool, List, [], ◌∷◌, map, inl, inr, refl, sym, ◌∙◌, ap, subst}
use Rattle.std.specs.List.{AllByRecursion}
use Rattle.std.proofs.lemmas.List.{map-append}
use Rattle.si_defs.specs.Terms.{Term, Terms, var, app, none, more, variables}
use Rattle.si_defs.specs.Substitutions.{lefts, rights, IsAmong}
use Rattle.si_defs.specs.Solutions.{IsMostGeneral, order, AreJoined, IsFirstOf, IsLeader, IsFolded, AreFolded, IsFoldedInside, IsOrdered}
use Rattle.si_defs.proofs.ListLaws.{all_at, among_front}
use Rattle.si_form.proofs.Translating.{translate_all, Translation, back, translated, translated_list, symbol_returns, variable_returns, Returns, AllReturn, ListReturns, returned, returns_there}
use Rattle.si_form.proofs.Carrying.{Vocabulary, returns_or_not, joined_back}
use Rattle.si_form.proofs.MadeLaws.{order_made}
use Rattle.si_form.proofs.Moving.{among_map, all_map, order_there, lefts_there, left_before, clear_there, clear_before}

joined_same : {S V : Type 0} (same : V → V → Bool) (q e t u q' e' t' u' : Term S V) → q ≡ q' → e ≡ e' → t ≡ t' → u ≡ u' → AreJoined same q e t u → AreJoined same q' e' t' u'
joined_same same q e t u q' e' t' u' at_q at_e at_t at_u h =
    subst (λ z. AreJoined same z e' t' u') at_q
    (subst (λ z. AreJoined same q z t' u') at_e (subst (λ z. AreJoined same q e z u') at_t (subst (λ z. AreJoined same q e t z) at_u h)))

module _ {S V R W : Type 0} (A : Vocabulary S V) (B : Vocabulary R W) (k : Translation S V R W) where
  pub each_there : (P : W × Term R W → Type 0) (bs : List (V × Term S V)) → ((b : V × Term S V) → IsAmong bs b → P (k.variable b.0, translated k b.1)) → AllByRecursion P (translated_list k bs)
  each_there P [] give = tt
  each_there P (b ∷ bs) give = (give b (inl refl), each_there P bs (λ c a. give c (inr a)))

  pub pair_there : (bs : List (V × Term S V)) (b : V × Term S V) → IsAmong bs b → IsAmong (translated_list k bs) (k.variable b.0, translated k b.1)
  pair_there [] b a = elim a [ ]
  pair_there (c ∷ bs) b a = elim a [ inl e ↦ inl (ap (λ z. (k.variable z.0, translated k z.1)) e) | inr d ↦ inr (pair_there bs b d) ]

  module _ (q e : Term S V) (q_returns : Returns k q) (e_returns : Returns k e) where
    -- ---- what unifiers make equal
    joined_there : (t u : Term S V) → Returns k t → Returns k u → AreJoined A.same q e t u → AreJoined B.same (translated k q) (translated k e) (translated k t) (translated k u)
    joined_there t u h m joined =
        joined_back B A (back k) (translated k q) (translated k e) (translated k t) (translated k u) (returns_there k q q_returns) (returns_there k e e_returns)
        (returns_there k t h) (returns_there k u m)
        (joined_same A.same q e t u _ _ _ _ (sym (returned k q q_returns)) (sym (returned k e e_returns)) (sym (returned k t h)) (sym (returned k u m)) joined)

    joined_before : (t u : Term S V) → Returns k t → Returns k u → AreJoined B.same (translated k q) (translated k e) (translated k t) (translated k u) → AreJoined A.same q e t u
    joined_before t u h m joined = joined_back A B k q e t u q_returns e_returns h m joined

    pub known_returns : (x : V) → IsAmong (order A.same q e) x → variable_returns k x
    known_returns x a = all_at (variable_returns k) (order A.same q e) x (order_made A (symbol_returns k) (variable_returns k) (returns_or_not A k) q e q_returns e_returns) a

    pub known_there : (x : V) → IsAmong (order A.same q e) x → IsAmong (order B.same (translated k q) (translated k e)) (k.variable x)
    known_there x a = subst (λ l. IsAmong l (k.variable x)) (sym (order_there A B k q e q_returns e_returns)) (among_map k.variable (order A.same q e) x a)

    -- ---- the first in the order
    first_there :
        (P : V → Type 0) (P' : W → Type 0) (x : V)
        → (P x → P' (k.variable x))
        → ((z : V) → IsAmong (order A.same q e) z → P' (k.variable z) → P z)
        → IsFirstOf A.same q e P x
        → IsFirstOf B.same (translated k q) (translated k e) P' (k.variable x)
    first_there P P' x to from h =
        let before = h.1.0 in
        let after = h.1.1 in (
          to h.0,
          (
            map k.variable before,
            map k.variable after,
            order_there A B k q e q_returns e_returns ∙ ap (map k.variable) h.1.2 ∙ map-append k.variable before (x ∷ after),
            all_map k.variable (λ y. P' y → ⊥) before
                (λ z a p. all_at (λ y. P y → ⊥) before z h.1.3 a (from z (subst (λ l. IsAmong l z) (sym h.1.2) (among_front before (x ∷ after) z a)) p)),
          ),
        )

    pub leader_there : (x w : V) → variable_returns k x → variable_returns k w → IsLeader A.same q e x w → IsLeader B.same (translated k q) (translated k e) (k.variable x) (k.variable w)
    leader_there x w h m leader =
        first_there (λ y. AreJoined A.same q e (var x) (var y)) (λ y. AreJoined B.same (translated k q) (translated k e) (var (k.variable x)) (var y)) w
        (joined_there (var x) (var w) h m)
        (λ z a j. joined_before (var x) (var z) h (known_returns z a) j)
        leader

    -- ---- folded
    mutual
      folded_there : (t : Term S V) → Returns k t → IsFolded A.same q e t → IsFolded B.same (translated k q) (translated k e) (translated k t)
      folded_there (var x) h f = tt
      folded_there (app s ts) h f = (
        subst (AllByRecursion (λ y. AreJoined B.same (translated k q) (translated k e) (translated k (app s ts)) (var y) → ⊥)) (sym (order_there A B k q e q_returns e_returns))
            (
            all_map k.variable (λ y. AreJoined B.same (translated k q) (translated k e) (translated k (app s ts)) (var y) → ⊥) (order A.same q e)
            (λ y a j. all_at (λ z. AreJoined A.same q e (app s ts) (var z) → ⊥) (order A.same q e) y f.0 a (joined_before (app s ts) (var y) h (known_returns y a) j))
            ),
        all_folded_there ts h.1 f.1,
      )

      all_folded_there : (ts : Terms S V) → AllReturn k ts → AreFolded A.same q e ts → AreFolded B.same (translated k q) (translated k e) (translate_all k.symbol k.variable ts)
      all_folded_there none h f = tt
      all_folded_there (more t ts) h f = (folded_there t h.0 f.0, all_folded_there ts h.1 f.1)

    pub inside_there : (t : Term S V) → Returns k t → IsFoldedInside A.same q e t → IsFoldedInside B.same (translated k q) (translated k e) (translated k t)
    inside_there (var x) h f = tt
    inside_there (app s ts) h f = all_folded_there ts h.1 f

    pub most_general_there : (bs : List (V × Term S V)) → ListReturns k bs → IsMostGeneral A.same q e bs → IsMostGeneral B.same (translated k q) (translated k e) (translated_list k bs)
    most_general_there [] h m s u = tt
    most_general_there (b ∷ bs) h m s u = (
      joined_there (var b.0) b.1 h.0.0 h.0.1 (λ r v. (m r v).0) s u,
      most_general_there bs h.1 (λ r v. (m r v).1) s u,
    )

    -- ---- in the order that the definition asks for
    pub ordered_there : (bs : List (V × Term S V)) → ListReturns k bs → IsOrdered A.same q e bs → IsOrdered B.same (translated k q) (translated k e) (translated_list k bs)
    ordered_there [] h o = tt
    ordered_there (b ∷ bs) h o = (
      first_there (λ x. IsAmong (lefts (b ∷ bs)) x × AllByRecursion (λ t. IsAmong (variables t) x → ⊥) (rights (b ∷ bs)))
          (λ x. IsAmong (lefts (translated_list k (b ∷ bs))) x × AllByRecursion (λ t. IsAmong (variables t) x → ⊥) (rights (translated_list k (b ∷ bs)))) b.0
          (λ f. (
            subst (λ l. IsAmong l (k.variable b.0)) (sym (lefts_there A B k (b ∷ bs))) (among_map k.variable (lefts (b ∷ bs)) b.0 f.0),
            clear_there A B k (b ∷ bs) b.0 h h.0.0 f.1,
          ))
          (λ z a f. (left_before A B k (b ∷ bs) z h (known_returns z a) f.0, clear_before A B k (b ∷ bs) z f.1))
          o.0,
      ordered_there bs h.1 o.1,
    )
