use Rattle.std.proofs.Common.{◌∙◌, ap, subst, length, arith}
use Rattle.std.proofs.lemmas.List.{length-map}
use Rattle.si_defs.specs.Substitutions.{IsAmong}
use Rattle.si_sign.specs.Stores.{IsStored}
use Rattle.si_flat.specs.Numbered.{number_in}
use Rattle.si_screen.specs.ClauseRows.{IsRowOf}
use Rattle.si_index.proofs.SlotLaws.{placed_among}
use Rattle.si_term.specs.Meaning.{clause_of}
use Rattle.si_keyed.specs.Keyed.{item_keys}
use Rattle.si_index.specs.Kept.{Kept, clauses_of}
use Rattle.si_index.proofs.StoreLaws.{clauses_few}
use Rattle.si_index.proofs.index.Index.slots_and_rows.Goals as goal

pub returns-clause-slots : goal.returns-clause-slots
returns-clause-slots c = record {
  keys = ap item_keys c.marked_places.ensures.items ∙ ap (λ (k : Kept). k.keys) c.self.view_is;
  clauses = ap clauses_of c.marked_places.ensures.items ∙ ap (λ (k : Kept). k.clauses) c.self.view_is;
  rise = c.marked_places.ensures.rise;
  few =
      omega (
        arith,
        ap length c.marked_places.ensures.items,
        length-map c.marked_places.result.0 (λ p. p.1),
        length-map c.self.inside.clauses.items (λ p. clause_of p.1),
        clauses_few (clauses_of c.self.inside.clauses.items) c.self.invariant.0.stored.sound,
        c.self.invariant.0.stored.few,
        c.self.invariant.0.small,
      );
}

pub returns-clause-rows : goal.returns-clause-rows
returns-clause-rows c slot key d there =
    let mark = c.marked_places.ensures.marks slot key d there in
    let item = subst (λ l. IsAmong l (key, d)) c.marked_places.ensures.items (placed_among c.marked_places.result.0 slot key d there) in (
      mark.0,
      mark.1,
      subst (λ (k : Kept). IsRowOf (number_in k.numbers) (clause_of d).literals mark.0) c.self.view_is (c.self.invariant.2 key d mark.0 item mark.2),
    )

pub returns-clause-few : goal.returns-clause-few
returns-clause-few c =
    omega (
      arith,
      c.marked_places.ensures.few,
      length-map c.self.inside.clauses.items (λ p. clause_of p.1),
      clauses_few (clauses_of c.self.inside.clauses.items) c.self.invariant.0.stored.sound,
      c.self.invariant.0.stored.few,
      c.self.invariant.0.small,
    )

pub returns-clause-stored : goal.returns-clause-stored
returns-clause-stored c = subst (λ (k : Kept). IsStored k.rules k.clauses) c.self.view_is c.self.invariant.0.stored
