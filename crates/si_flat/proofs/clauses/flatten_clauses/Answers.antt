use Rattle.std.proofs.Common.{◌≡◌, List, [], length, map, refl, ap, subst, sym, arith}
use Rattle.si_defs.specs.Clauses.{AreSoundLiterals, literals_size}
use Rattle.si_term.specs.Meaning.{literal_of}
use Rattle.si_term.specs.declared.clause.Literal.{Literal}
use Rattle.si_flat.specs.declared.Owner.TheVariants.{Query, Entry}
use Rattle.si_flat.specs.Flattening.{WalkState, walk_state, empty_walk, Flattens}
use Rattle.si_flat.specs.FlatClauses.{clause_scheme, clause_piece, FlattensClauses}
use Rattle.si_flat.proofs.ClauseLaws.{symbols_met_few, clauses_written}
use Rattle.si_flat.proofs.clauses.flatten_clauses.Goals as goal

pub write_clause-requires-2 : goal.write_clause-requires-2
write_clause-requires-2 c =
    let first = subst (λ ls. Flattens [] (clause_scheme Query 0) (walk_state c.new-met.result []) (walk_state c.write_clause.new.met c.write_clause.new.cells.items) (clause_piece (map literal_of ls))) c.as_slice.ensures c.in_ok-write_clause.ensures.flat in
    let few = symbols_met_few (map literal_of c.args.c.now) (map literal_of c.args.d.now) c.requires.c c.requires.d (walk_state c.new-met.result []) (walk_state c.write_clause.new.met c.write_clause.new.cells.items) (walk_state c.forget_variables.new.self []) (walk_state c.forget_variables.new.self []) c.new-met.ensures.names c.new-met.ensures.extra refl first c.forget_variables.ensures.names c.forget_variables.ensures.extra refl in
    let size = ap (λ ls. literals_size (map literal_of ls)) c.as_slice-2.ensures in
    record {
      empty = c.new-second.ensures.items;
      room = record {
        names = omega (arith, ap length c.forget_variables.ensures.names, size, c.requires.d.no_larger);
        extra = omega (arith, ap length c.forget_variables.ensures.extra, few, size, c.requires.c.no_larger, c.requires.d.no_larger);
      };
    }

-- what was written of the literals as slices
written : (cs ds read next : List Literal) (start between again end : WalkState)
    → AreSoundLiterals (map literal_of cs)
    → AreSoundLiterals (map literal_of ds)
    → read ≡ cs
    → next ≡ ds
    → start ≡ empty_walk
    → Flattens [] (clause_scheme Query 0) start between (clause_piece (map literal_of read))
    → again ≡ record { names = []; extra = between.extra; cells = [] }
    → Flattens [] (clause_scheme Entry 0) again end (clause_piece (map literal_of next))
    → FlattensClauses (map literal_of cs) (map literal_of ds) (between.cells, end.cells)
written cs ds read next start between again end sound_c sound_d read_is next_is start_is first again_is second =
    clauses_written (map literal_of cs) (map literal_of ds) sound_c sound_d start between again end (ap (λ (w : WalkState). w.names) start_is) (ap (λ (w : WalkState). w.extra) start_is) (ap (λ (w : WalkState). w.cells) start_is)
    (subst (λ ls. Flattens [] (clause_scheme Query 0) start between (clause_piece (map literal_of ls))) read_is first)
    (ap (λ (w : WalkState). w.names) again_is) (ap (λ (w : WalkState). w.extra) again_is) (ap (λ (w : WalkState). w.cells) again_is)
    (subst (λ ls. Flattens [] (clause_scheme Entry 0) again end (clause_piece (map literal_of ls))) next_is second)

pub from_vec-requires : goal.from_vec-requires
from_vec-requires c =
    (_, (written c.args.c.now c.args.d.now c.as_slice.result.now c.as_slice-2.result.now (walk_state c.new-met.result []) (walk_state c.write_clause.new.met c.write_clause.new.cells.items) (walk_state c.forget_variables.new.self []) (walk_state c.write_clause-2.new.met c.write_clause-2.new.cells.items) c.requires.c c.requires.d c.as_slice.ensures c.as_slice-2.ensures (λ i. record { names = c.new-met.ensures.names i; extra = c.new-met.ensures.extra i; cells = [] }) c.in_ok-write_clause.ensures.flat (λ i. record { names = c.forget_variables.ensures.names i; extra = c.forget_variables.ensures.extra i; cells = [] }) c.in_ok-write_clause-2.ensures.flat).first)

pub from_vec-requires-2 : goal.from_vec-requires-2
from_vec-requires-2 c =
    (_, (written c.args.c.now c.args.d.now c.as_slice.result.now c.as_slice-2.result.now (walk_state c.new-met.result []) (walk_state c.write_clause.new.met c.write_clause.new.cells.items) (walk_state c.forget_variables.new.self []) (walk_state c.write_clause-2.new.met c.write_clause-2.new.cells.items) c.requires.c c.requires.d c.as_slice.ensures c.as_slice-2.ensures (λ i. record { names = c.new-met.ensures.names i; extra = c.new-met.ensures.extra i; cells = [] }) c.in_ok-write_clause.ensures.flat (λ i. record { names = c.forget_variables.ensures.names i; extra = c.forget_variables.ensures.extra i; cells = [] }) c.in_ok-write_clause-2.ensures.flat).second)

pub returns : goal.returns
returns c =
    subst (FlattensClauses (map literal_of c.args.c.now) (map literal_of c.args.d.now)) (λ i. (sym c.from_vec.ensures i, sym c.from_vec-2.ensures i))
    (written c.args.c.now c.args.d.now c.as_slice.result.now c.as_slice-2.result.now (walk_state c.new-met.result []) (walk_state c.write_clause.new.met c.write_clause.new.cells.items) (walk_state c.forget_variables.new.self []) (walk_state c.write_clause-2.new.met c.write_clause-2.new.cells.items) c.requires.c c.requires.d c.as_slice.ensures c.as_slice-2.ensures (λ i. record { names = c.new-met.ensures.names i; extra = c.new-met.ensures.extra i; cells = [] }) c.in_ok-write_clause.ensures.flat (λ i. record { names = c.forget_variables.ensures.names i; extra = c.forget_variables.ensures.extra i; cells = [] }) c.in_ok-write_clause-2.ensures.flat)
