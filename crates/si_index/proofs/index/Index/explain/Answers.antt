use Rattle.std.proofs.lemmas.Result.{IfOk-weaker}
use Rattle.si_term.specs.Meaning.{pattern_of}
use Rattle.si_state.specs.Signatures.{numbering}
use Rattle.si_index.proofs.CountLaws.{is_query}
use Rattle.si_index.proofs.index.Index.explain.Goals as goal

pub explain_flat-requires : goal.explain_flat-requires
explain_flat-requires c = (
  pattern_of c.args.pattern.now,
  is_query c.args.self.now (numbering c.signature.result.now) c.asks_literals.result c.in_ok-query.query (pattern_of c.args.pattern.now) c.requires c.asks_literals.ensures c.signature.ensures.numbers c.in_ok-query.ensures,
)

pub returns : goal.returns
returns c =
    let is = is_query c.args.self.now (numbering c.signature.result.now) c.asks_literals.result c.in_ok-query.query (pattern_of c.args.pattern.now) c.requires c.asks_literals.ensures c.signature.ensures.numbers c.in_ok-query.ensures in
    IfOk-weaker c.explain_flat.result _ _ (λ e told. told (pattern_of c.args.pattern.now) is) c.explain_flat.ensures
