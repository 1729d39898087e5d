use Rattle.std.proofs.Common.{◌≤◌, [], length, ap, sym, ◌∙◌, subst, arith}
use Rattle.si_defs.specs.Symbols.{times}
use Rattle.si_defs.specs.Entries.{clause_symbols, entries}
use Rattle.si_defs.specs.declared.TheConstants.{MOST_OCCURRENCES}
use Rattle.si_state.specs.States.{limited_to}
use Rattle.si_state.specs.Acceptance.{Accepts}
use Rattle.si_state.specs.Signatures.{KeepsNumbers, numbering, uses_of}
use Rattle.si_held.specs.TwoTrees.{Hold}
use Rattle.si_term.specs.Meaning.{clause_of, name_of}
use Rattle.si_term.specs.declared.clause.Clause.{Clause}
use Rattle.si_sign.specs.Stores.{Rejects}
use Rattle.si_index.specs.Kept.{Kept, KeysStay, NumbersStay, clauses_of}
use Rattle.si_index.specs.Register.{UncountsClause}
use Rattle.si_index.specs.Names.{key_of_name}
use Rattle.si_index.specs.Stored.{IsKeptIndex, AreHeld, HaveRows, keyed_clauses}
use Rattle.si_index.proofs.KeyStays.{kept_as, keys_same, no_trees}
use Rattle.si_index.proofs.RegisterLaws.{room_for, counted_few, rejects, kept_stays, kept_more, register_with, keys_more, accepts_more, entered_back, uncounted_as, numbers_through}
use Rattle.si_index.proofs.HeldClauses.{entered_held, entered_numbers, uncounted_held, stays_held, trees_hold}
use Rattle.si_index.proofs.RowsKept.{entered_rows, uncounted_rows, stays_rows}
use Rattle.si_index.proofs.StoreLaws.{few_entries}
use Rattle.si_index.proofs.index.IndexClauseStore.add.Goals as goal

pub enter-requires : goal.enter-requires
enter-requires c = record {
  named = c.self.invariant.0.registered.names;
  signature = c.self.invariant.0.registered.signature;
  counted = counted_few (limited_to c.self.inside.limit) c.self.inside.clauses.items c.self.inside.register c.self.invariant.0;
  few = few_entries (clause_of c.args.clause) c.requires.sound;
  room = room_for (limited_to c.self.inside.limit) c.self.inside.clauses.items c.self.inside.register (clause_of c.args.clause) c.self.invariant.0 c.requires.sound;
}

pub invariant_of-self : goal.invariant_of-self
invariant_of-self c = (
  kept_stays (limited_to c.self.inside.limit) c.self.inside.register c.enter.new.self c.self.inside.clauses.items c.self.invariant.0 c.in-Err.ensures.err,
  stays_held c.self.inside.clauses.items c.self.inside.register c.self.inside.trees c.self.invariant.0.registered c.self.invariant.1 c.enter.new.self c.in-Err.ensures.err,
  stays_rows c.self.inside.clauses.items c.self.inside.clauses.marks c.self.inside.register c.self.invariant.0.registered c.self.invariant.2 c.enter.new.self c.in-Err.ensures.err,
)

pub returns-in-Err-clause-trees : goal.returns-in-Err-clause-trees
returns-in-Err-clause-trees c =
    trees_hold c.self.inside.clauses.items c.enter.new.self c.self.inside.trees
    (stays_held c.self.inside.clauses.items c.self.inside.register c.self.inside.trees c.self.invariant.0.registered c.self.invariant.1 c.enter.new.self c.in-Err.ensures.err)

pub keep-requires-clause-rows : goal.keep-requires-clause-rows
keep-requires-clause-rows c =
    entered_rows c.self.inside.clauses.items c.self.inside.clauses.marks c.self.inside.register c.self.invariant.0.registered c.self.invariant.2 (clause_of c.args.clause) c.enter.new.self c.in-Ok.ensures.enters

pub keep-requires-clause-may : goal.keep-requires-clause-may
keep-requires-clause-may c =
    let items = c.self.inside.clauses.items in
    let is = c.self.invariant.0.registered in
    let enters = c.in-Ok.ensures.enters in
    record {
      sound = c.requires.sound;
      numbered = entered_numbers items c.self.inside.register c.self.inside.trees is c.self.invariant.1 (clause_of c.args.clause) c.enter.new.self enters;
      free = ap (λ m. key_of_name items m (name_of c.args.clause.name)) enters.names ∙ c.in-Ok.ensures.admits.free;
      held = entered_held items c.self.inside.register c.self.inside.trees is c.self.invariant.1 (clause_of c.args.clause) c.enter.new.self enters;
    }

pub returns-in-Err-clause-rejected : goal.returns-in-Err-clause-rejected
returns-in-Err-clause-rejected c =
    subst (λ (k : Kept). Rejects k.rules k.clauses (clause_of c.args.clause) c.in-Err.why) c.self.view_is
    (rejects (limited_to c.self.inside.limit) c.self.inside.clauses.items c.self.inside.register (clause_of c.args.clause) c.self.invariant.0.registered c.self.invariant.0.registered.signature
    c.requires.sound c.in-Err.why c.in-Err.ensures.why)

pub invariant_of-self-in-Ok-keep : goal.invariant_of-self-in-Ok-keep
invariant_of-self-in-Ok-keep c = (
  subst (IsKeptIndex (limited_to c.self.inside.limit) c.keep.new.clauses.items) (register_with c.keep.new.register c.enter.new.self c.keep.ensures.signature c.keep.ensures.entries)
      (kept_more (limited_to c.self.inside.limit) c.self.inside.register c.enter.new.self c.self.inside.clauses.items c.keep.new.clauses.items c.args.clause c.keep.new.register.names
      c.self.invariant.0.registered.signature c.self.invariant.0 c.requires.sound c.in-Ok.ensures.admits c.in-Ok.ensures.enters c.in-Ok-keep.ensures.put),
  c.keep.ensures.held,
  c.keep.ensures.rows,
)

pub returns-in-Ok-keep-clause-trees : goal.returns-in-Ok-keep-clause-trees
returns-in-Ok-keep-clause-trees c = trees_hold c.keep.new.clauses.items c.keep.new.register c.keep.new.trees c.keep.ensures.held

-- its symbols were counted, and so were its entries
pub uncount-requires-clause-used : goal.uncount-requires-clause-used
uncount-requires-clause-used c = λ s.
    let enters = c.in-Ok.ensures.enters.uses s in
    subst (λ (d : Clause). times s (clause_symbols (clause_of d)) ≤ uses_of c.keep.new.register.signature s) (sym c.in-Err-keep.ensures.handed_back)
    (omega (arith, enters, ap (λ g. uses_of g s) c.keep.ensures.signature))

pub uncount-requires-clause-counted : goal.uncount-requires-clause-counted
uncount-requires-clause-counted c =
    subst (λ (d : Clause). length (entries (clause_of d)) ≤ c.keep.new.register.entries) (sym c.in-Err-keep.ensures.handed_back)
    (omega (arith, c.in-Ok.ensures.enters.entered, c.keep.ensures.entries))

pub uncount-requires-clause-few : goal.uncount-requires-clause-few
uncount-requires-clause-few c =
    subst (λ (d : Clause). length (entries (clause_of d)) ≤ MOST_OCCURRENCES) (sym c.in-Err-keep.ensures.handed_back)
    (few_entries (clause_of c.args.clause) c.requires.sound)

pub invariant_of-self-in-Err-keep : goal.invariant_of-self-in-Err-keep
invariant_of-self-in-Err-keep c =
    let items = c.self.inside.clauses.items in
    let register = c.self.inside.register in
    let between = c.enter.new.self in
    let new = c.uncount.new.self in
    let enters = c.in-Ok.ensures.enters in
    let undone = uncounted_as (clause_of c.args.clause) between c.keep.new.register new c.keep.ensures.signature c.keep.ensures.entries
    (subst (λ (d : Clause). UncountsClause (clause_of d) c.keep.new.register new) c.in-Err-keep.ensures.handed_back c.uncount.ensures.uncounts) in (
      subst (λ l. IsKeptIndex (limited_to c.self.inside.limit) l new) (sym c.in-Err-keep.ensures.err)
          (kept_stays (limited_to c.self.inside.limit) register new items c.self.invariant.0
          (entered_back items register between new (clause_of c.args.clause) c.self.invariant.0.registered.signature enters
          (λ name. ap (λ m. key_of_name items m name) c.uncount.ensures.names ∙ c.in-Err-keep.ensures.same_names name)
          undone.uses undone.sum (omega (arith, undone.entered, enters.entered)) undone.numbers undone.signature)),
      subst (λ l. AreHeld l new c.keep.new.trees) (sym c.in-Err-keep.ensures.err)
          (uncounted_held items register c.self.inside.trees c.self.invariant.0.registered c.self.invariant.1 (clause_of c.args.clause) between new c.keep.new.trees enters
          (subst (λ l. AreHeld l between c.keep.new.trees) c.in-Err-keep.ensures.err
          (subst (λ g. Hold (numbering g) (keyed_clauses c.keep.new.clauses.items) c.keep.new.trees) c.keep.ensures.signature c.keep.ensures.held)) undone),
      subst (λ l. HaveRows (numbering new.signature) l c.keep.new.clauses.marks) (sym c.in-Err-keep.ensures.err)
          (uncounted_rows items c.keep.new.clauses.marks register (clause_of c.args.clause) between new c.self.invariant.0.registered enters undone
          (subst (λ l. HaveRows (numbering between.signature) l c.keep.new.clauses.marks) c.in-Err-keep.ensures.err
          (subst (λ g. HaveRows (numbering g) c.keep.new.clauses.items c.keep.new.clauses.marks) c.keep.ensures.signature c.keep.ensures.rows))),
    )

pub returns-in-Err-keep-clause-trees : goal.returns-in-Err-keep-clause-trees
returns-in-Err-keep-clause-trees c = trees_hold c.keep.new.clauses.items c.uncount.new.self c.keep.new.trees (invariant_of-self-in-Err-keep c).1

pub returns-in-Ok-keep-clause-added : goal.returns-in-Ok-keep-clause-added
returns-in-Ok-keep-clause-added c =
    subst (λ (k : Kept). Accepts k.rules k.clauses (clause_of c.args.clause) (clauses_of c.keep.new.clauses.items)) c.self.view_is
    (accepts_more (limited_to c.self.inside.limit) c.self.inside.register c.enter.new.self c.self.inside.clauses.items c.keep.new.clauses.items c.args.clause c.keep.new.register.names
    c.self.invariant.0.registered.signature c.self.invariant.0 c.requires.sound c.in-Ok.ensures.admits c.in-Ok.ensures.enters c.in-Ok-keep.ensures.put)

pub returns-in-Ok-keep-clause-stored : goal.returns-in-Ok-keep-clause-stored
returns-in-Ok-keep-clause-stored c =
    (kept_more (limited_to c.self.inside.limit) c.self.inside.register c.enter.new.self c.self.inside.clauses.items c.keep.new.clauses.items c.args.clause c.keep.new.register.names
    c.self.invariant.0.registered.signature c.self.invariant.0 c.requires.sound c.in-Ok.ensures.admits c.in-Ok.ensures.enters c.in-Ok-keep.ensures.put).stored

pub returns-in-Err-keep-clause-numbers : goal.returns-in-Err-keep-clause-numbers
returns-in-Err-keep-clause-numbers c =
    let old = c.self.inside.register.signature in
    let between = c.enter.new.self.signature in
    let enters = c.in-Ok.ensures.enters in
    subst (λ (k : Kept). NumbersStay k (record { clauses = []; keys = []; rules = limited_to 0; numbers = numbering c.uncount.new.self.signature; trees = no_trees })) c.self.view_is
    (numbers_through old between c.uncount.new.self.signature c.self.invariant.0.registered.signature (λ s. omega (arith, enters.uses s)) enters.numbers
    (subst (λ g. KeepsNumbers g c.uncount.new.self.signature) c.keep.ensures.signature c.uncount.ensures.uncounts.numbers))

pub returns-in-Err-clause-keys : goal.returns-in-Err-clause-keys
returns-in-Err-clause-keys c =
    subst (λ (k : Kept). KeysStay k (kept_as c.self.inside.clauses.items)) c.self.view_is
    (keys_same c.self.inside.clauses.items (key_of_name c.self.inside.clauses.items c.self.inside.register.names) c.self.invariant.0.registered.names)

pub returns-in-Ok-keep-clause-keys : goal.returns-in-Ok-keep-clause-keys
returns-in-Ok-keep-clause-keys c =
    subst (λ (k : Kept). KeysStay k (kept_as c.keep.new.clauses.items)) c.self.view_is
    (keys_more (limited_to c.self.inside.limit) c.self.inside.register c.enter.new.self c.self.inside.clauses.items c.keep.new.clauses.items c.args.clause c.keep.new.register.names
    c.self.invariant.0.registered.signature c.self.invariant.0 c.requires.sound c.in-Ok.ensures.admits c.in-Ok.ensures.enters c.in-Ok-keep.ensures.put)

pub returns-in-Err-keep-clause-keys : goal.returns-in-Err-keep-clause-keys
returns-in-Err-keep-clause-keys c =
    subst (λ (k : Kept). KeysStay k (kept_as c.keep.new.clauses.items)) c.self.view_is
    (subst (λ l. KeysStay (kept_as c.self.inside.clauses.items) (kept_as l)) (sym c.in-Err-keep.ensures.err)
    (keys_same c.self.inside.clauses.items (key_of_name c.self.inside.clauses.items c.self.inside.register.names) c.self.invariant.0.registered.names))
