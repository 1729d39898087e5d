use Rattle.std.proofs.Common.{arith, sym, ◌∙◌, ap, subst, ◌≡◌, ◌+◌, ◌-◌, ◌≤◌, true, false, min, inl, inr, ◌++◌, ◌∷◌, length, take, []}
use Rattle.std.proofs.Math.Nat.{min-le_left, min-le_right}
use Rattle.std.proofs.lemmas.Bool.{cases_lt, false≢true}
use Rattle.std.specs.Prelude.{bytes_eq, vec_capacity}
use Rattle.std.specs.List.{list_any, position_or_len}
use Rattle.indexmap.specs.IndexSet.{insert_key, spare as set_spare}
use Rattle.si_term.proofs.Inserted.{lent_eq, shown}
use Rattle.si_term.proofs.Results.{on_err}
use Rattle.si_flat.proofs.InsertedPlaces.{found_place}
use Rattle.si_flat.proofs.NameLaws.{name_refused, later_place, later_known, later_new, later_none, later_behind}
use Rattle.si_flat.proofs.names.NameSet.insert.Goals as goal

pub returns-in-Some-get_index_of-clause-names : goal.returns-in-Some-get_index_of-clause-names
returns-in-Some-get_index_of-clause-names c =
    let seen = c.self.inside.all.items in
    let long : 8 ≤ length seen = omega (arith, c.len-count.ensures, c.if-count-lt-FEW.false) in
    let other = subst (λ l. list_any (lent_eq c.args.name) (take 8 l) ≡ false) c.deref-2.ensures.value c.in_default-place_among.ensures in
    let known = subst (λ l. list_any (lent_eq c.args.name) l ≡ true) c.self.invariant (sym c.in-Some-get_index_of.ensures.found) in
    subst (λ l. l ≡ insert_key bytes_eq l c.args.name.now) (ap (λ n. n.items) c.self.view_is) (later_known seen c.args.name 8 long other known)

pub returns-in-Some-get_index_of-clause-place : goal.returns-in-Some-get_index_of-clause-place
returns-in-Some-get_index_of-clause-place c =
    let seen = c.self.inside.all.items in
    let long : 8 ≤ length seen = omega (arith, c.len-count.ensures, c.if-count-lt-FEW.false) in
    let other = subst (λ l. list_any (lent_eq c.args.name) (take 8 l) ≡ false) c.deref-2.ensures.value c.in_default-place_among.ensures in
    ap (λ n. 8 + n) (found_place _ _ _ c.in-Some-get_index_of.ensures.index ∙ ap (position_or_len (lent_eq c.args.name)) c.self.invariant)
    ∙ later_place seen c.args.name 8 long other
    ∙ ap (λ n. position_or_len (bytes_eq c.args.name.now) n.items) c.self.view_is

pub returns-in_err-reserve-clause-full : goal.returns-in_err-reserve-clause-full
returns-in_err-reserve-clause-full c =
    let seen = c.self.inside.all.items in
    let long : 8 ≤ length seen = omega (arith, c.len-count.ensures, c.if-count-lt-FEW.false) in
    let other = subst (λ l. list_any (lent_eq c.args.name) (take 8 l) ≡ false) c.deref-2.ensures.value c.in_default-place_among.ensures in
    let none = subst (λ l. list_any (lent_eq c.args.name) l ≡ false) c.self.invariant (sym c.in_default-get_index_of.ensures.found) in
    on_err _ (name_refused seen c.args.name (min (vec_capacity c.self.inside.all - length seen) ((8 - length seen) + set_spare c.self.inside.hashed)) c.args.self.now c.self.view_is (later_none seen c.args.name 8 long other none) (omega (arith, min-le_left (vec_capacity c.self.inside.all - length seen) ((8 - length seen) + set_spare c.self.inside.hashed), c.in_err-reserve.ensures.full)))

pub returns-in_err-insert-clause-full : goal.returns-in_err-insert-clause-full
returns-in_err-insert-clause-full c =
    let seen = c.self.inside.all.items in
    let long : 8 ≤ length seen = omega (arith, c.len-count.ensures, c.if-count-lt-FEW.false) in
    let other = subst (λ l. list_any (lent_eq c.args.name) (take 8 l) ≡ false) c.deref-2.ensures.value c.in_default-place_among.ensures in
    let none = subst (λ l. list_any (lent_eq c.args.name) l ≡ false) c.self.invariant (sym c.in_default-get_index_of.ensures.found) in
    let full : set_spare c.self.inside.hashed ≤ 0 = elim (cases_lt 0 (set_spare c.self.inside.hashed)) [
      | inl room ↦ absurd (false≢true (c.in_err-insert.ensures.succeeds room))
      | inr le ↦ le
    ] in
    on_err _ (name_refused seen c.args.name (min (vec_capacity c.self.inside.all - length seen) ((8 - length seen) + set_spare c.self.inside.hashed)) c.args.self.now c.self.view_is (later_none seen c.args.name 8 long other none) (omega (arith, min-le_right (vec_capacity c.self.inside.all - length seen) ((8 - length seen) + set_spare c.self.inside.hashed), long, full)))

pub returns-clause-names : goal.returns-clause-names
returns-clause-names c =
    let seen = c.self.inside.all.items in
    let long : 8 ≤ length seen = omega (arith, c.len-count.ensures, c.if-count-lt-FEW.false) in
    let other = subst (λ l. list_any (lent_eq c.args.name) (take 8 l) ≡ false) c.deref-2.ensures.value c.in_default-place_among.ensures in
    let none = subst (λ l. list_any (lent_eq c.args.name) l ≡ false) c.self.invariant (sym c.in_default-get_index_of.ensures.found) in
    ap shown (c.push_reserved.ensures.items ∙ ap (λ l. l ++ c.args.name ∷ []) c.reserve.ensures.items)
    ∙ later_new seen c.args.name 8 long other none
    ∙ ap (λ n. insert_key bytes_eq n.items c.args.name.now) c.self.view_is

pub returns-clause-place : goal.returns-clause-place
returns-clause-place c =
    let seen = c.self.inside.all.items in
    let long : 8 ≤ length seen = omega (arith, c.len-count.ensures, c.if-count-lt-FEW.false) in
    let other = subst (λ l. list_any (lent_eq c.args.name) (take 8 l) ≡ false) c.deref-2.ensures.value c.in_default-place_among.ensures in
    let none = subst (λ l. list_any (lent_eq c.args.name) l ≡ false) c.self.invariant (sym c.in_default-get_index_of.ensures.found) in
    let behind = later_behind seen c.args.name 8 long other none in
    omega (arith, c.len-count.ensures, behind, ap (λ n. position_or_len (bytes_eq c.args.name.now) n.items) c.self.view_is)
