use Rattle.std.proofs.Common.{get_or}
use Rattle.si_flat.proofs.Subterms.{some_cell}
use Rattle.si_fit.proofs.EndLaws.{no_cell}
use Rattle.si_descend.proofs.Retrieving.{app_length, variable_length, query_no_app, entry_no_app, ind_no_app}
use Rattle.si_descend.proofs.descent.length_of.Goals as goal

pub bounds-0 : goal.bounds-0
bounds-0 c = some_cell c.args.cells.now c.requires

pub bounds-cells-0 : goal.bounds-cells-0
bounds-cells-0 c = some_cell c.args.cells.now c.requires

pub returns-in-App : goal.returns-in-App
returns-in-App c = app_length c.args.cells.now no_cell c.in-App.sym c.in-App.arity c.in-App.len c.requires c.in-App.is

pub returns-in-Query : goal.returns-in-Query
returns-in-Query c = variable_length c.args.cells.now no_cell c.requires (query_no_app (get_or c.args.cells.now 0 no_cell) c.in-Query.field-0 c.in-Query.is)

pub returns-in-Entry : goal.returns-in-Entry
returns-in-Entry c = variable_length c.args.cells.now no_cell c.requires (entry_no_app (get_or c.args.cells.now 0 no_cell) c.in-Entry.field-0 c.in-Entry.is)

pub returns-in-Ind : goal.returns-in-Ind
returns-in-Ind c = variable_length c.args.cells.now no_cell c.requires (ind_no_app (get_or c.args.cells.now 0 no_cell) c.in-Ind.field-0 c.in-Ind.is)
