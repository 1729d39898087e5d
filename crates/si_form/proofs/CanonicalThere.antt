-- A canonical list, translated, is canonical for the translated terms.
use Rattle.std.proofs.Common.{◌≡◌, List, ◌∷◌, map, inl, refl, sym, ◌∙◌, ap, subst}
use Rattle.std.specs.List.{AllByRecursion}
use Rattle.si_defs.specs.Terms.{Term, var, variables}
use Rattle.si_defs.specs.Substitutions.{lefts, IsAmong, IsOn}
use Rattle.si_defs.specs.declared.Relation.{Relation}
use Rattle.si_defs.specs.declared.Relation.TheVariants.{Variants, Instances, Generalizations, Unifiable}
use Rattle.si_defs.specs.Relations.{Relates}
use Rattle.si_defs.specs.Solutions.{order, IsLeader, IsFoldedInside, IsCanonicalUnifier, IsCanonicalMatch, IsCanonical}
use Rattle.si_defs.proofs.ListLaws.{all_at, among_back}
use Rattle.si_form.proofs.Translating.{variable_made, translated_variables, Translation, back, translated, translated_list, symbol_returns, variable_returns, Returns, returned, returns_there, list_returned}
use Rattle.si_form.proofs.Carrying.{Vocabulary, returns_or_not, relates_there}
use Rattle.si_form.proofs.MadeLaws.{order_made, canonical_made}
use Rattle.si_form.proofs.Moving.{among_mapped, all_map, firsts_of_there, order_there, apply_there, sequence_there, lefts_there, variable_there, triangular_there}
use Rattle.si_form.proofs.LeadersThere.{each_there, pair_there, known_returns, known_there, leader_there, inside_there, most_general_there, ordered_there}

module _ {S V R W : Type 0} (A : Vocabulary S V) (B : Vocabulary R W) (k : Translation S V R W) where
  module _ (q e : Term S V) (q_returns : Returns k q) (e_returns : Returns k e) where
    mapped_returns : (y : W) → IsAmong (order B.same (translated k q) (translated k e)) y → k.variable (k.variable_back y) ≡ y
    mapped_returns y a =
        all_at (variable_returns (back k)) (order B.same (translated k q) (translated k e)) y
        (order_made B (symbol_returns (back k)) (variable_returns (back k)) (returns_or_not B (back k)) (translated k q) (translated k e) (returns_there k q q_returns) (returns_there k e e_returns)) a

    known_before : (y : W) → IsAmong (order B.same (translated k q) (translated k e)) y → IsAmong (order A.same q e) (k.variable_back y)
    known_before y a =
        let r = among_mapped k.variable (order A.same q e) y (subst (λ l. IsAmong l y) (order_there A B k q e q_returns e_returns) a) in
        subst (IsAmong (order A.same q e)) (sym (known_returns A B k q e q_returns e_returns r.0 r.1) ∙ ap k.variable_back r.2) r.1

    leader_known : (x w : W) → IsLeader B.same (translated k q) (translated k e) x w → IsAmong (order B.same (translated k q) (translated k e)) w
    leader_known x w leader = subst (λ l. IsAmong l w) (sym leader.1.2) (among_back leader.1.0 (w ∷ leader.1.1) w (inl refl))

    leader_before :
        (x w : W)
        → IsAmong (order B.same (translated k q) (translated k e)) x
        → IsLeader B.same (translated k q) (translated k e) x w
        → IsLeader A.same q e (k.variable_back x) (k.variable_back w)
    leader_before x w a leader =
        subst (λ t. IsLeader A.same t e (k.variable_back x) (k.variable_back w)) (returned k q q_returns)
        (
        subst (λ t. IsLeader A.same (translated (back k) (translated k q)) t (k.variable_back x) (k.variable_back w)) (returned k e e_returns)
        (leader_there B A (back k) (translated k q) (translated k e) (returns_there k q q_returns) (returns_there k e e_returns) x w (mapped_returns x a) (mapped_returns w (leader_known x w leader)) leader)
        )

    followers_there :
        (bs : List (V × Term S V))
        → IsCanonicalUnifier A.same q e bs
        → (x w : W)
        → IsAmong (order B.same (translated k q) (translated k e)) x
        → IsLeader B.same (translated k q) (translated k e) x w
        → (w ≡ x → ⊥)
        → IsAmong (translated_list k bs) (x, var w)
    followers_there bs h x w a leader distinct =
        let at_x = mapped_returns x a in
        let at_w = mapped_returns w (leader_known x w leader) in
        let pair = h.followers (k.variable_back x) (k.variable_back w) (known_before x a) (leader_before x w a leader) (λ e. distinct (sym at_w ∙ ap k.variable e ∙ at_x)) in
        subst (λ y. IsAmong (translated_list k bs) (y, var w)) at_x
        (subst (λ y. IsAmong (translated_list k bs) (k.variable (k.variable_back x), var y)) at_w (pair_there A B k bs (k.variable_back x, var (k.variable_back w)) pair))

    -- what holds of each variable of a term, of the translated term
    all_variables_there : (P : W → Type 0) (t : Term S V) → ((x : V) → IsAmong (variables t) x → P (k.variable x)) → AllByRecursion P (variables (translated k t))
    all_variables_there P t give = subst (AllByRecursion P) (sym (translated_variables k.symbol k.variable t)) (all_map k.variable P (variables t) give)

    unifier_there : (bs : List (V × Term S V)) → IsCanonicalUnifier A.same q e bs → IsCanonicalUnifier B.same (translated k q) (translated k e) (translated_list k bs)
    unifier_there bs h =
        let all = canonical_made A (symbol_returns k) (variable_returns k) (returns_or_not A k) Unifiable q e bs q_returns e_returns h in
        let right : (b : V × Term S V) → IsAmong bs b → Returns k b.1 = λ b a. (all_at (λ c. variable_returns k c.0 × Returns k c.1) bs b all a).1 in
        let known : (b : V × Term S V) → IsAmong bs b → IsAmong (order A.same q e) b.0 × AllByRecursion (IsAmong (order A.same q e)) (variables b.1) =
        λ b a. all_at (λ c. IsAmong (order A.same q e) c.0 × AllByRecursion (IsAmong (order A.same q e)) (variables c.1)) bs b h.known a in
        record {
          triangular = triangular_there A B k bs all h.triangular;
          achieves = sequence_there A B k bs q all q_returns ∙ ap (translated k) h.achieves ∙ sym (sequence_there A B k bs e all e_returns);
          most_general = most_general_there A B k q e q_returns e_returns bs all h.most_general;
          known = each_there A B k
              (λ b. IsAmong (order B.same (translated k q) (translated k e)) b.0 × AllByRecursion (IsAmong (order B.same (translated k q) (translated k e))) (variables b.1)) bs
              (λ b a. (
                known_there A B k q e q_returns e_returns b.0 (known b a).0,
                all_variables_there (IsAmong (order B.same (translated k q) (translated k e))) b.1
                    (λ x v. known_there A B k q e q_returns e_returns x (all_at (IsAmong (order A.same q e)) (variables b.1) x (known b a).1 v)),
              ));
          leaders = each_there A B k (λ b. AllByRecursion (λ x. IsLeader B.same (translated k q) (translated k e) x x) (variables b.1)) bs
              (λ b a.
              all_variables_there (λ x. IsLeader B.same (translated k q) (translated k e) x x) b.1
              (λ x v.
              let m = variable_made (symbol_returns k) (variable_returns k) b.1 x (right b a) v in
              leader_there A B k q e q_returns e_returns x x m m
              (all_at (λ y. IsLeader A.same q e y y) (variables b.1) x (all_at (λ c. AllByRecursion (λ y. IsLeader A.same q e y y) (variables c.1)) bs b h.leaders a) v)));
          followers = followers_there bs h;
          folded = each_there A B k (λ b. IsFoldedInside B.same (translated k q) (translated k e) b.1) bs
              (λ b a. inside_there A B k q e q_returns e_returns b.1 (right b a) (all_at (λ c. IsFoldedInside A.same q e c.1) bs b h.folded a));
          ordered = ordered_there A B k q e q_returns e_returns bs all h.ordered;
        }

    match_there : (bs : List (V × Term S V)) → IsCanonicalMatch A.same q e bs → IsCanonicalMatch B.same (translated k q) (translated k e) (translated_list k bs)
    match_there bs h =
        let all = canonical_made A (symbol_returns k) (variable_returns k) (returns_or_not A k) Instances q e bs q_returns e_returns h in
        let on : IsOn (variables (translated k q)) (translated_list k bs) =
        subst (AllByRecursion (IsAmong (variables (translated k q)))) (sym (lefts_there A B k bs))
        (
        all_map k.variable (IsAmong (variables (translated k q))) (lefts bs)
        (λ x a. variable_there A B k q x (all_at (IsAmong (variables q)) (lefts bs) x h.matches.on a))
        ) in
        record {
          matches = record { on = on; takes = apply_there A B k bs q all q_returns ∙ ap (translated k) h.matches.takes };
          achieves = (on, sequence_there A B k bs q all q_returns ∙ ap (translated k) h.achieves.1);
          each = lefts_there A B k bs ∙ ap (map k.variable) h.each ∙ sym (firsts_of_there A B k q q_returns);
        }

  -- ---- each relation
  canonical_there : (relation : Relation) (q e : Term S V) (bs : List (V × Term S V)) → Returns k q → Returns k e → IsCanonical A.same relation q e bs → IsCanonical B.same relation (translated k q) (translated k e) (translated_list k bs)
  canonical_there Unifiable q e bs q_returns e_returns h = unifier_there q e q_returns e_returns bs h
  canonical_there Instances q e bs q_returns e_returns h = match_there q e q_returns e_returns bs h
  canonical_there Generalizations q e bs q_returns e_returns h = match_there e q e_returns q_returns bs h
  canonical_there Variants q e bs q_returns e_returns h = (relates_there A B k Variants q e q_returns e_returns h.0, match_there q e q_returns e_returns bs h.1)

-- ---- from the translated terms
module _ {S V R W : Type 0} (A : Vocabulary S V) (B : Vocabulary R W) (k : Translation S V R W) (relation : Relation) (q e : Term S V) (q_returns : Returns k q) (e_returns : Returns k e) where
  pub relates_before : Relates B.same relation (translated k q) (translated k e) → Relates A.same relation q e
  relates_before h =
      subst (λ t. Relates A.same relation t e) (returned k q q_returns)
      (
      subst (λ t. Relates A.same relation (translated (back k) (translated k q)) t) (returned k e e_returns)
      (relates_there B A (back k) relation (translated k q) (translated k e) (returns_there k q q_returns) (returns_there k e e_returns) h)
      )

  pub canonical_before : (bs : List (W × Term R W)) → IsCanonical B.same relation (translated k q) (translated k e) bs → (list : List (V × Term S V)) × (translated_list k list ≡ bs) × IsCanonical A.same relation q e list
  canonical_before bs h = (
    translated_list (back k) bs,
    list_returned (back k) bs (canonical_made B (symbol_returns (back k)) (variable_returns (back k)) (returns_or_not B (back k)) relation (translated k q) (translated k e) bs (returns_there k q q_returns) (returns_there k e e_returns) h),
    subst (λ t. IsCanonical A.same relation t e (translated_list (back k) bs)) (returned k q q_returns)
        (
        subst (λ t. IsCanonical A.same relation (translated (back k) (translated k q)) t (translated_list (back k) bs)) (returned k e e_returns)
        (canonical_there B A (back k) relation (translated k q) (translated k e) bs (returns_there k q q_returns) (returns_there k e e_returns) h)
        ),
  )
