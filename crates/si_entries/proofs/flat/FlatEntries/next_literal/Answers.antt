use Rattle.std.proofs.Common.{◌≡◌, ◌∙◌, List, [], ◌++◌, refl, ap, subst}
use Rattle.std.specs.Prelude.{map}
use Rattle.si_defs.specs.Entries.{literal_entry}
use Rattle.si_term.specs.Meaning.{literal_of}
use Rattle.si_flat.specs.Flattened.{FillsEntry}
use Rattle.si_flat.specs.declared.Cell.{Cell}
use Rattle.si_entries.specs.FlatWalks.{AreLiteralsLeft}
use Rattle.si_entries.proofs.FlatLaws.{first_literal, literal_given}
use Rattle.si_entries.proofs.flat.FlatEntries.next_literal.Goals as goal

-- what is written after nothing
copied : (new old cells held : List Cell) → new ≡ old ++ cells → old ≡ [] → cells ≡ held → new ≡ held
copied new old cells held items none same = items ∙ (λ i. none i ++ same i)

pub unreachable-requires : goal.unreachable-requires
unreachable-requires g c =
    let pairs = g.T.SymTable.pairs c.args.table.now in
    let l = literal_of c.in-Some.literal.now in
    let one = first_literal pairs l (map literal_of c.in-Some.others.now) (subst (AreLiteralsLeft pairs) (ap (map literal_of) c.in-Some.ensures.cases.0) c.requires.1.0) in
    subst (FillsEntry pairs (literal_entry l) c.fill.new.self.cells c.fill.new.self.names) c.if-not-branch.true c.in_ok-fill.ensures.filled one.known

pub returns : goal.returns
returns g c left end =
    let pairs = g.T.SymTable.pairs c.args.table.now in
    let l = literal_of c.in-Some.literal.now in
    literal_given pairs c.args.self.now
    (record { literals = c.in-Some.others; literal = c.fill.new.self; at = 1; met = c.args.self.now.met; cells = c.extend_from_slice.new.self })
    c.in-Some.literal.now left c.in-Some.ensures.cases.0 refl
    (copied _ _ _ _ c.in_ok-extend_from_slice.ensures.items c.clear.ensures.items c.cells.ensures)
    (subst (FillsEntry pairs (literal_entry l) c.fill.new.self.cells c.fill.new.self.names) c.if-not-branch.false c.in_ok-fill.ensures.filled)
    end
