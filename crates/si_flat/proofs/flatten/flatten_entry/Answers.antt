use Rattle.std.proofs.Common.{◌≡◌, [], subst, sym}
use Rattle.si_term.specs.Meaning.{entry_of}
use Rattle.si_flat.specs.declared.Owner.TheVariants.{Entry}
use Rattle.si_flat.specs.Cells.{entry}
use Rattle.si_flat.specs.Flattened.{IsFlatOf}
use Rattle.si_flat.specs.Flattening.{met_extra}
use Rattle.si_flat.proofs.FlattenLaws.{flat_known, all_numbered_of}
use Rattle.si_flat.proofs.flatten.flatten_entry.Goals as goal

pub from_vec-requires : goal.from_vec-requires
from_vec-requires g c =
    let none : met_extra c.write.new.self.met ≡ [] = c.has_extra.ensures.0 c.if-has_extra.false in
    let flat = flat_known (g.T.SymTable.pairs c.args.table.now) Entry (entry_of c.args.entry) c.write.new.self c.requires c.in_ok-write.ensures.flat none in
    (_, flat.stands)

pub returns : goal.returns
returns g c =
    let none : met_extra c.write.new.self.met ≡ [] = c.has_extra.ensures.0 c.if-has_extra.false in
    let pairs = g.T.SymTable.pairs c.args.table.now in (
      all_numbered_of pairs Entry (entry_of c.args.entry) c.write.new.self c.in_ok-write.ensures.flat none,
      subst (IsFlatOf pairs entry (entry_of c.args.entry)) (sym c.from_vec.ensures) (flat_known pairs Entry (entry_of c.args.entry) c.write.new.self c.requires c.in_ok-write.ensures.flat none),
    )
