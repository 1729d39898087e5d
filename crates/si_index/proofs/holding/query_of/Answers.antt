use Rattle.std.proofs.Common.{sym, subst}
use Rattle.std.specs.Prelude.{IfOk}
use Rattle.si_defs.specs.Clauses.{literal_pattern, IsSoundPattern}
use Rattle.si_state.specs.Signatures.{numbering}
use Rattle.si_flat.specs.Flattened.{FlattensPattern}
use Rattle.si_index.proofs.holding.query_of.Goals as goal

pub flatten_pattern-requires : goal.flatten_pattern-requires
flatten_pattern-requires c = subst (λ l. IsSoundPattern (literal_pattern l)) (sym c.in_ok-copy.ensures) c.requires

pub returns : goal.returns
returns c = subst (λ l. IfOk c.flatten_pattern.result (FlattensPattern (numbering c.args.signature.now) (literal_pattern l))) c.in_ok-copy.ensures c.flatten_pattern.ensures
