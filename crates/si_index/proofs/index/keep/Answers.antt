use Rattle.std.proofs.Common.{map, Some, sym, subst, subst₂}
use Rattle.si_term.specs.Meaning.{clause_of, literal_of, name_of}
use Rattle.si_flat.specs.Numbered.{number_in}
use Rattle.si_screen.specs.ClauseRows.{IsRowOf, with_extra}
use Rattle.si_screen.proofs.RowLaws.{no_extra}
use Rattle.si_term.specs.declared.clause.Clause.{Clause}
use Rattle.si_state.specs.Signatures.{numbering}
use Rattle.si_held.specs.TwoTrees.{Hold, MayAddClause, AddsClause}
use Rattle.si_held.proofs.Holding.{same_held}
use Rattle.si_keyed.specs.Keyed.{HasKey, IsTakenOut}
use Rattle.si_keyed.proofs.KeyLaws.{pushed_key, taken_back}
use Rattle.si_keyed.proofs.Results.{some_unless}
use Rattle.si_index.specs.Names.{key_of_name, ChangesName, NameLeadsAway}
use Rattle.si_index.specs.Stored.{keyed_clauses, HaveRows}
use Rattle.si_index.proofs.HeldClauses.{may_add, held_more}
use Rattle.si_index.proofs.NamedLaws.{put_item, put_taken}
use Rattle.si_index.proofs.FoundNames.{name_back}
use Rattle.si_index.proofs.RowsKept.{rows_more}
use Rattle.si_index.proofs.index.keep.Goals as goal

pub unwrap-kept-requires : goal.unwrap-kept-requires
unwrap-kept-requires c =
    let key = c.in_ok-key.key in
    some_unless c.get.result c.get.ensures.none
    (subst (λ l. HasKey l key) (sym c.in_ok-key.ensures.put.pushed) (pushed_key c.args.clauses.now.items key c.args.clause))

pub put-requires : goal.put-requires
put-requires c = c.requires.may.free

pub add_clause-requires : goal.add_clause-requires
add_clause-requires c =
    let key = c.in_ok-key.key in
    let put = c.in_ok-key.ensures.put in
    subst (λ (d : Clause). MayAddClause (numbering c.args.register.now.signature) key (clause_of d) c.args.trees.now)
    (sym (put_item c.args.clauses.now.items c.put.new.clauses.items key c.args.clause c.get.result c.unwrap-kept.result put.fresh put.pushed c.unwrap-kept.ensures c.get.ensures.some))
    (may_add (numbering c.args.register.now.signature) c.args.clauses.now.items key c.args.clause c.args.trees.now c.args.trees.now c.requires.may.held put.fresh c.requires.may.sound c.requires.may.numbered)

pub returns-in-Ok-clause-held : goal.returns-in-Ok-clause-held
returns-in-Ok-clause-held c =
    let key = c.in_ok-key.key in
    let put = c.in_ok-key.ensures.put in
    let numbers = numbering c.args.register.now.signature in
    let same = put_item c.args.clauses.now.items c.put.new.clauses.items key c.args.clause c.get.result c.unwrap-kept.result put.fresh put.pushed c.unwrap-kept.ensures c.get.ensures.some in
    subst (λ l. Hold numbers (keyed_clauses l) c.add_clause.new.self) (sym put.pushed)
    (held_more numbers c.args.clauses.now.items key c.args.clause c.args.trees.now c.add_clause.new.self c.requires.may.held put.fresh c.requires.may.numbered
    (subst (λ (d : Clause). AddsClause numbers key (clause_of d) c.args.trees.now c.add_clause.new.self) same c.in-Ok.ensures.ok) c.add_clause.ensures.legal)

pub remove-requires-in-Err : goal.remove-requires-in-Err
remove-requires-in-Err c = subst (λ l. HasKey l c.in_ok-key.key) (sym c.in_ok-key.ensures.put.pushed) (pushed_key c.args.clauses.now.items c.in_ok-key.key c.args.clause)

pub returns-in-Err-clause-handed_back : goal.returns-in-Err-clause-handed_back
returns-in-Err-clause-handed_back c =
    put_taken c.args.clauses.now.items c.put.new.clauses.items c.in_ok-key.key c.args.clause c.remove-in-Err.result c.remove-in-Err.new.self.items c.in_ok-key.ensures.put.fresh
    c.in_ok-key.ensures.put.pushed c.remove-in-Err.ensures.taken

pub returns-in-Err-clause-err : goal.returns-in-Err-clause-err
returns-in-Err-clause-err c =
    taken_back c.args.clauses.now.items c.in_ok-key.key c.args.clause c.remove-in-Err.result c.remove-in-Err.new.self.items c.in_ok-key.ensures.put.fresh
    (subst (λ l. IsTakenOut l c.in_ok-key.key c.remove-in-Err.result c.remove-in-Err.new.self.items) c.in_ok-key.ensures.put.pushed c.remove-in-Err.ensures.taken)

pub returns-in-Err-clause-same_names : goal.returns-in-Err-clause-same_names
returns-in-Err-clause-same_names c =
    let put = c.in_ok-key.ensures.put in
    let items = c.args.clauses.now.items in
    let key = c.in_ok-key.key in
    let same = put_item items c.put.new.clauses.items key c.args.clause c.get.result c.unwrap-kept.result put.fresh put.pushed c.unwrap-kept.ensures c.get.ensures.some in
    name_back items key c.args.clause put.fresh c.args.register.now.names c.put.new.names c.remove.new.self c.requires.may.free
    (subst (λ l. ChangesName (name_of c.args.clause.name) (Some key) (key_of_name items c.args.register.now.names) (key_of_name l c.put.new.names)) put.pushed put.name)
    (subst (λ (d : Clause). NameLeadsAway (name_of d.name) key c.put.new.names c.remove.new.self) same c.remove.ensures)

pub returns-in-Err-clause-held : goal.returns-in-Err-clause-held
returns-in-Err-clause-held c =
    subst (λ l. Hold (numbering c.args.register.now.signature) (keyed_clauses l) c.add_clause.new.self) (sym (returns-in-Err-clause-err c))
    (same_held (numbering c.args.register.now.signature) (keyed_clauses c.args.clauses.now.items) c.args.trees.now c.add_clause.new.self c.requires.may.held c.in-Err.ensures.err c.add_clause.ensures.legal)

pub returns-in-Ok-clause-rows : goal.returns-in-Ok-clause-rows
returns-in-Ok-clause-rows c =
    let put = c.in_ok-key.ensures.put in
    let numbers = numbering c.args.register.now.signature in
    let row =
    no_extra numbers c.new.result (map literal_of c.args.clause.literals) c.literals_row-row.result c.new.ensures
    (subst (λ ls. IsRowOf (number_in (with_extra numbers c.new.result)) (map literal_of ls) c.literals_row-row.result) c.as_slice.ensures c.literals_row-row.ensures) in
    rows_more (numbering c.args.register.now.signature) c.args.clauses.now.items c.put.new.clauses.items c.args.clauses.now.marks c.put.new.clauses.marks c.in_ok-key.key c.args.clause c.literals_row-row.result
    c.requires.rows row put.fresh c.in_ok-key.ensures.no_row put.pushed c.in_ok-key.ensures.row

pub returns-in-Err-clause-rows : goal.returns-in-Err-clause-rows
returns-in-Err-clause-rows c =
    let out = c.remove-in-Err.ensures.marks in
    let same = taken_back c.args.clauses.now.marks c.in_ok-key.key c.literals_row-row.result out.0 c.remove-in-Err.new.self.marks c.in_ok-key.ensures.no_row
    (subst (λ l. IsTakenOut l c.in_ok-key.key out.0 c.remove-in-Err.new.self.marks) c.in_ok-key.ensures.row out.1) in
    subst₂ (HaveRows (numbering c.args.register.now.signature)) (sym (returns-in-Err-clause-err c)) (sym same) c.requires.rows
