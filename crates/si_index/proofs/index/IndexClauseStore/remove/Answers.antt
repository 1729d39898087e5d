use Rattle.std.proofs.Common.{◌≡◌, ◌∷◌, ◌++◌, sym, subst}
use Rattle.si_defs.specs.Substitutions.{IsAmong}
use Rattle.si_state.specs.States.{limited_to}
use Rattle.si_state.specs.Acceptance.{IsTaken}
use Rattle.si_term.specs.Meaning.{clause_of, name_of}
use Rattle.si_forest.specs.Pairs.{LoseEach}
use Rattle.si_index.specs.Kept.{Kept, KeysStay, TreesHold, clauses_of}
use Rattle.si_index.specs.Names.{key_of_name}
use Rattle.si_index.proofs.KeyStays.{kept_as}
use Rattle.si_index.proofs.HeldClauses.{left_held, trees_hold}
use Rattle.si_index.proofs.RowsKept.{left_rows}
use Rattle.si_index.proofs.RegisterLaws.{keys_less, splits, rest_is, uses_few, entries_counted, entries_there, kept_less, named_so}
use Rattle.si_index.proofs.NamedLaws.{unknown_free}
use Rattle.si_keyed.proofs.Results.{if_none}
use Rattle.si_index.proofs.index.IndexClauseStore.remove.Goals as goal

pub get-requires : goal.get-requires
get-requires c = c.self.invariant.0.registered.names

pub returns-in_err-key-clause-unknown : goal.returns-in_err-key-clause-unknown
returns-in_err-key-clause-unknown c =
    let name = name_of c.args.name.now in
    if_none c.from_residual.result (λ taken.
    unknown_free c.self.inside.clauses.items (key_of_name c.self.inside.clauses.items c.self.inside.register.names) c.self.invariant.0.registered.names name (sym c.in_err-key.ensures)
    (subst (λ (k : Kept). IsTaken k.clauses name) (sym c.self.view_is) taken))

pub returns-in_err-key-clause-trees : goal.returns-in_err-key-clause-trees
returns-in_err-key-clause-trees c =
    subst (λ (k : Kept). TreesHold k) c.self.view_is (trees_hold c.self.inside.clauses.items c.self.inside.register c.self.inside.trees c.self.invariant.1)

pub remove-clause-requires : goal.remove-clause-requires
remove-clause-requires c = c.self.invariant.0.registered.names.there (name_of c.args.name.now) c.in_ok-key.key (sym c.in_ok-key.ensures)

pub leave-requires : goal.leave-requires
leave-requires c = record {
  used =
      uses_few (limited_to c.self.inside.limit) c.self.inside.register c.self.inside.clauses.items c.in_ok-key.key c.remove-clause.result c.remove-clause.new.self.items c.self.invariant.0 c.remove-clause.ensures.taken;
  counted =
      entries_counted (limited_to c.self.inside.limit) c.self.inside.register c.self.inside.clauses.items c.in_ok-key.key c.remove-clause.result c.remove-clause.new.self.items c.self.invariant.0 c.remove-clause.ensures.taken;
  few =
      entries_there (limited_to c.self.inside.limit) c.self.inside.register c.self.inside.clauses.items c.in_ok-key.key c.remove-clause.result c.remove-clause.new.self.items c.self.invariant.0 c.remove-clause.ensures.taken;
}

pub invariant_of-self : goal.invariant_of-self
invariant_of-self c =
    let kept =
    kept_less (limited_to c.self.inside.limit) c.self.inside.register c.self.inside.clauses.items c.in_ok-key.key c.remove-clause.result c.remove-clause.new.self.items c.self.invariant.0 c.remove-clause.ensures.taken
    c.leave.new.self c.leave.ensures.leaves in (
      kept,
      left_held c.self.inside.clauses.items c.self.inside.register c.self.inside.trees c.self.invariant.0.registered c.self.invariant.1 c.in_ok-key.key c.remove-clause.result c.remove-clause.new.self.items
          c.leave.new.self c.remove_clause.new.self c.remove-clause.ensures.taken c.remove_clause.ensures.removes c.remove_clause.ensures.legal kept.registered c.leave.ensures.leaves,
      left_rows c.self.inside.clauses.items c.self.inside.clauses.marks c.self.inside.register c.self.invariant.0.registered c.self.invariant.2 c.in_ok-key.key c.remove-clause.result c.remove-clause.new.self.items
          c.remove-clause.ensures.marks.0 c.remove-clause.new.self.marks c.leave.new.self c.remove-clause.ensures.taken c.remove-clause.ensures.marks.1 kept.registered c.leave.ensures.leaves,
    )

pub returns-clause-trees : goal.returns-clause-trees
returns-clause-trees c = trees_hold c.remove-clause.new.self.items c.leave.new.self c.remove_clause.new.self (invariant_of-self c).1

pub returns-clause-removed : goal.returns-clause-removed
returns-clause-removed c =
    let items = c.self.inside.clauses.items in
    let register = c.self.inside.register in
    let gone = c.remove-clause.result in
    let rest = c.remove-clause.new.self.items in
    let out = c.remove-clause.ensures.taken in (
      clause_of gone,
      record {
        before = clauses_of out.before;
        after = clauses_of out.after;
        splits =
            subst (λ (k : Kept). k.clauses ≡ clauses_of out.before ++ clause_of gone ∷ clauses_of out.after) c.self.view_is
            (splits (limited_to c.self.inside.limit) register items c.in_ok-key.key gone rest c.self.invariant.0 out);
        named = named_so (limited_to c.self.inside.limit) register items c.in_ok-key.key gone rest c.self.invariant.0 out (name_of c.args.name.now) (sym c.in_ok-key.ensures);
        rest = rest_is (limited_to c.self.inside.limit) register items c.in_ok-key.key gone rest c.self.invariant.0 out;
      },
      c.leave.ensures.number,
    )

pub returns-clause-stored : goal.returns-clause-stored
returns-clause-stored c =
    (kept_less (limited_to c.self.inside.limit) c.self.inside.register c.self.inside.clauses.items c.in_ok-key.key c.remove-clause.result c.remove-clause.new.self.items c.self.invariant.0 c.remove-clause.ensures.taken
    c.leave.new.self c.leave.ensures.leaves).stored

pub returns-clause-keys : goal.returns-clause-keys
returns-clause-keys c =
    subst (λ (k : Kept). KeysStay k (kept_as c.remove-clause.new.self.items)) c.self.view_is
    (keys_less (limited_to c.self.inside.limit) c.self.inside.register c.self.inside.clauses.items c.in_ok-key.key c.remove-clause.result c.remove-clause.new.self.items c.self.invariant.0 c.remove-clause.ensures.taken
    c.leave.new.self.names c.leave.ensures.leaves.name)

pub returns-clause-postings : goal.returns-clause-postings
returns-clause-postings c = (
  c.in_ok-key.key,
  subst (λ (k : Kept). IsAmong k.keys c.in_ok-key.key) c.self.view_is
      (c.self.invariant.0.registered.names.there (name_of c.args.name.now) c.in_ok-key.key (sym c.in_ok-key.ensures)),
  subst (λ (k : Kept). LoseEach c.in_ok-key.key k.trees c.remove_clause.new.self) c.self.view_is c.remove_clause.ensures.each,
)
