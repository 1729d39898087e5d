use Rattle.std.proofs.Common.{Some, sym, subst}
use Rattle.si_term.specs.Meaning.{name_of}
use Rattle.si_term.specs.declared.clause.Clause.{Clause}
use Rattle.si_keyed.specs.Keyed.{HasKey, IsTakenOut}
use Rattle.si_index.specs.Names.{key_of_name, ChangesName, NameLeadsTo}
use Rattle.si_keyed.proofs.KeyLaws.{pushed_key, taken_back}
use Rattle.si_keyed.proofs.Results.{some_unless}
use Rattle.si_index.proofs.FoundNames.{name_comes, stay_found}
use Rattle.si_index.proofs.NamedLaws.{put_item, put_taken}
use Rattle.si_index.proofs.index.put.Goals as goal

pub unwrap-kept-requires : goal.unwrap-kept-requires
unwrap-kept-requires c =
    let pushed = c.in_ok-key.ensures.pushed in
    some_unless c.get.result c.get.ensures.none (subst (λ l. HasKey l c.in_ok-key.key) (sym pushed) (pushed_key c.args.clauses.now.items c.in_ok-key.key c.args.clause))

pub remove-requires : goal.remove-requires
remove-requires c = subst (λ l. HasKey l c.in_ok-key.key) (sym c.in_ok-key.ensures.pushed) (pushed_key c.args.clauses.now.items c.in_ok-key.key c.args.clause)

pub returns-in-Ok-clause-put : goal.returns-in-Ok-clause-put
returns-in-Ok-clause-put c =
    let key = c.in_ok-key.key in
    let fresh = c.in_ok-key.ensures.fresh in
    let pushed = c.in_ok-key.ensures.pushed in
    record {
      fresh = fresh;
      pushed = pushed;
      name =
          subst (λ l. ChangesName (name_of c.args.clause.name) (Some key) (key_of_name c.args.clauses.now.items c.args.names.now) (key_of_name l c.insert.new.self)) (sym pushed)
          (name_comes c.args.clauses.now.items key c.args.clause fresh c.args.names.now c.insert.new.self
          (subst (λ (d : Clause). NameLeadsTo (name_of d.name) key c.args.names.now c.insert.new.self)
          (put_item c.args.clauses.now.items c.push.new.self.items key c.args.clause c.get.result c.unwrap-kept.result fresh pushed c.unwrap-kept.ensures c.get.ensures.some) c.in-Ok.ensures.ok)
          c.requires);
    }

pub returns-in-Err-clause-handed_back : goal.returns-in-Err-clause-handed_back
returns-in-Err-clause-handed_back c =
    put_taken c.args.clauses.now.items c.push.new.self.items c.in_ok-key.key c.args.clause c.remove.result c.remove.new.self.items c.in_ok-key.ensures.fresh c.in_ok-key.ensures.pushed
    c.remove.ensures.taken

pub returns-in-Err-clause-same_names : goal.returns-in-Err-clause-same_names
returns-in-Err-clause-same_names c = stay_found c.args.clauses.now.items c.args.names.now c.insert.new.self c.in-Err.ensures.err

pub returns-in-Err-clause-same_rows : goal.returns-in-Err-clause-same_rows
returns-in-Err-clause-same_rows c =
    let out = c.remove.ensures.marks in
    taken_back c.args.clauses.now.marks c.in_ok-key.key c.args.row out.0 c.remove.new.self.marks c.in_ok-key.ensures.unmarked
    (subst (λ l. IsTakenOut l c.in_ok-key.key out.0 c.remove.new.self.marks) c.in_ok-key.ensures.marked out.1)

pub returns-in-Err-clause-err : goal.returns-in-Err-clause-err
returns-in-Err-clause-err c =
    taken_back c.args.clauses.now.items c.in_ok-key.key c.args.clause c.remove.result c.remove.new.self.items c.in_ok-key.ensures.fresh
    (subst (λ l. IsTakenOut l c.in_ok-key.key c.remove.result c.remove.new.self.items) c.in_ok-key.ensures.pushed c.remove.ensures.taken)
