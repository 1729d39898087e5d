use Rattle.std.proofs.Common.{map, refl, sym, subst, arith}
use Rattle.std.specs.List.{AllByRecursion, AllZip}
use Rattle.std.proofs.lemmas.List.{length-map}
use Rattle.si_defs.specs.Entries.{pattern_entry}
use Rattle.si_term.specs.Meaning.{pattern_of}
use Rattle.si_flat.specs.declared.Owner.TheVariants.{Query}
use Rattle.si_held.specs.TwoTrees.{tree_for}
use Rattle.si_index.specs.Engines.{asks_literals}
use Rattle.si_index.specs.Searching.{hit_of, tree_in}
use Rattle.si_index.specs.declared.search.Search.{Search}
use Rattle.si_index.specs.Gathering.{AreInOrder, IsHitAt, IsStandingAt, StoresPosting, Rise}
use Rattle.si_index.proofs.FlatLaws.{flat_is_numbered}
use Rattle.si_index.proofs.FoundLaws.{is_ready}
use Rattle.si_index.proofs.GatherLaws.{hits_solved}
use Rattle.si_index.proofs.WantedLaws.{is_answered, postings_keyed, postings_stored, wanted_stand, hits_answered, hits_few}
use Rattle.si_index.proofs.index.Index.find.Goals as goal

pub ask-requires : goal.ask-requires
ask-requires g c = flat_is_numbered _ Query (pattern_entry (pattern_of c.args.pattern.now)) c.in_ok-named.named.query.flat c.in_ok-named.ensures.query.flat

pub in_order-requires-clause-kept : goal.in_order-requires-clause-kept
in_order-requires-clause-kept g c =
    let told =
    is_answered (g.E.Engine.answers c.args.engine.now) c.args.self.now c.args.relation (pattern_of c.args.pattern.now) _ c.in_ok-named.named.query _ _ _ _
    c.signature-signature.ensures.numbers c.in_ok-named.ensures.query c.requires.standing c.asks_literals-literal.ensures c.in_ok-passed.ensures.answers c.new-postings.ensures.items c.as_slice.ensures.value in
    postings_keyed c.args.self.now c.args.relation (pattern_of c.args.pattern.now) _ told.standing

pub in_order-requires-clause-distinct : goal.in_order-requires-clause-distinct
in_order-requires-clause-distinct g c =
    let told =
    is_answered (g.E.Engine.answers c.args.engine.now) c.args.self.now c.args.relation (pattern_of c.args.pattern.now) _ c.in_ok-named.named.query _ _ _ _
    c.signature-signature.ensures.numbers c.in_ok-named.ensures.query c.requires.standing c.asks_literals-literal.ensures c.in_ok-passed.ensures.answers c.new-postings.ensures.items c.as_slice.ensures.value in
    told.are.distinct

pub in_order-requires-clause-stored : goal.in_order-requires-clause-stored
in_order-requires-clause-stored g c =
    let told =
    is_answered (g.E.Engine.answers c.args.engine.now) c.args.self.now c.args.relation (pattern_of c.args.pattern.now) _ c.in_ok-named.named.query _ _ _ _
    c.signature-signature.ensures.numbers c.in_ok-named.ensures.query c.requires.standing c.asks_literals-literal.ensures c.in_ok-passed.ensures.answers c.new-postings.ensures.items c.as_slice.ensures.value in
    subst (λ literal. AllByRecursion (StoresPosting (tree_for literal c.trees-trees.result.now)) c.as_slice.result.now) (sym c.asks_literals-literal.ensures)
    (subst (λ trees. AllByRecursion (StoresPosting (tree_for (asks_literals (pattern_of c.args.pattern.now)) trees)) c.as_slice.result.now) (sym c.trees-trees.ensures.trees)
    (postings_stored c.args.self.now c.args.relation (pattern_of c.args.pattern.now) _ c.trees-trees.ensures.hold told.standing))

pub in_order-requires-clause-slots : goal.in_order-requires-clause-slots
in_order-requires-clause-slots g c = c.slots-slots.ensures

pub gather-requires-clause-ready : goal.gather-requires-clause-ready
gather-requires-clause-ready g c =
    is_ready _ c.signature-signature.ensures.numbers c.stats-stats.ensures.numbering c.requires.sound c.in_ok-named.ensures.query c.slots-slots.ensures c.signature-signature.ensures.signature c.stats-stats.ensures.stored.sound

pub gather-requires-clause-stand : goal.gather-requires-clause-stand
gather-requires-clause-stand g c =
    let told =
    is_answered (g.E.Engine.answers c.args.engine.now) c.args.self.now c.args.relation (pattern_of c.args.pattern.now) _ c.in_ok-named.named.query _ _ _ _
    c.signature-signature.ensures.numbers c.in_ok-named.ensures.query c.requires.standing c.asks_literals-literal.ensures c.in_ok-passed.ensures.answers c.new-postings.ensures.items c.as_slice.ensures.value in
    let s : Search = record {
      alloc = c.allocator-alloc.result;
      index = c.args.self;
      slots = c.slots-slots.result;
      signature = c.signature-signature.result;
      relation = c.args.relation;
      pattern = c.args.pattern;
      query = c.in_ok-named.named.query;
    } in
    let ordered = c.in_ok-ordered.ordered in
    let order : AreInOrder c.slots-slots.result (tree_in s) c.as_slice.result.now ordered =
    subst (λ literal. AreInOrder c.slots-slots.result (tree_for literal c.args.self.now.trees) c.as_slice.result.now ordered) c.asks_literals-literal.ensures
    (subst (λ trees. AreInOrder c.slots-slots.result (tree_for c.asks_literals-literal.result trees) c.as_slice.result.now ordered) c.trees-trees.ensures.trees c.in_ok-ordered.ensures) in
    subst (AllByRecursion (IsStandingAt s ordered.leaves.items)) (sym c.as_slice-2.ensures.value)
    (wanted_stand s c.as_slice.result.now ordered c.slots-slots.ensures c.stats-stats.ensures.keyed c.trees-trees.ensures.hold c.signature-signature.ensures.numbers order told.standing)

pub gather-requires-clause-unmade : goal.gather-requires-clause-unmade
gather-requires-clause-unmade g c = c.in_ok-ordered.ensures.unmade

pub gather-requires-clause-rise : goal.gather-requires-clause-rise
gather-requires-clause-rise g c = subst Rise (sym c.as_slice-2.ensures.value) c.in_ok-ordered.ensures.rise

pub prove-unreachable-requires : goal.prove-unreachable-requires
prove-unreachable-requires g c =
    let told =
    is_answered (g.E.Engine.answers c.args.engine.now) c.args.self.now c.args.relation (pattern_of c.args.pattern.now) _ c.in_ok-named.named.query _ _ _ _
    c.signature-signature.ensures.numbers c.in_ok-named.ensures.query c.requires.standing c.asks_literals-literal.ensures c.in_ok-passed.ensures.answers c.new-postings.ensures.items c.as_slice.ensures.value in
    let answered =
    hits_answered c.args.self.now _ _ _ _ _ (map hit_of c.in_ok-matches.matches.found.items) c.stats-stats.ensures.keyed c.slots-slots.ensures told.are c.in_ok-ordered.ensures
    (subst (λ ws. AllZip (IsHitAt c.slots-slots.result) ws (map hit_of c.in_ok-matches.matches.found.items)) c.as_slice-2.ensures.value c.in_ok-matches.ensures.hits) in
    omega (
      arith,
      c.if-prove.true,
      c.len.ensures,
      c.in_ok-matches.matches.found.ok.0,
      hits_few c.args.self.now _ _ answered,
      length-map c.in_ok-matches.matches.found.items hit_of,
      c.stats-stats.ensures.entries,
    )

pub invariant_of-result : goal.invariant_of-result
invariant_of-result g c = record {
  numbers = c.signature-signature.ensures.numbers;
  ready =
      is_ready _ c.signature-signature.ensures.numbers c.stats-stats.ensures.numbering c.requires.sound c.in_ok-named.ensures.query c.slots-slots.ensures c.signature-signature.ensures.signature c.stats-stats.ensures.stored.sound;
  names = c.in_ok-named.ensures.names;
  few =
      omega (
        arith,
        c.if-prove.false,
        c.len.ensures,
        c.in_ok-matches.matches.found.ok.0,
        c.stats-stats.ensures.entries,
        c.stats-stats.ensures.stored.few,
        c.stats-stats.ensures.small,
      );
  each = c.in_ok-matches.ensures.each;
}

pub returns-clause-asked : goal.returns-clause-asked
returns-clause-asked g c = record { index = refl; relation = refl; pattern = refl }

pub returns-clause-hits : goal.returns-clause-hits
returns-clause-hits g c =
    let told =
    is_answered (g.E.Engine.answers c.args.engine.now) c.args.self.now c.args.relation (pattern_of c.args.pattern.now) _ c.in_ok-named.named.query _ _ _ _
    c.signature-signature.ensures.numbers c.in_ok-named.ensures.query c.requires.standing c.asks_literals-literal.ensures c.in_ok-passed.ensures.answers c.new-postings.ensures.items c.as_slice.ensures.value in
    record {
      cells = c.in_ok-named.named.query.flat;
      asked = told.asked;
      answered =
          hits_answered c.args.self.now _ _ _ _ _ (map hit_of c.in_ok-matches.matches.found.items) c.stats-stats.ensures.keyed c.slots-slots.ensures told.are c.in_ok-ordered.ensures
          (subst (λ ws. AllZip (IsHitAt c.slots-slots.result) ws (map hit_of c.in_ok-matches.matches.found.items)) c.as_slice-2.ensures.value c.in_ok-matches.ensures.hits);
      counted = subst (λ b. g.E.Engine.count c.args.engine.now b c.args.relation c.in_ok-named.named.query.flat c.in_ok-passed.passed) c.asks_literals-literal.ensures c.in_ok-passed.ensures.count;
    }

pub returns-clause-solved : goal.returns-clause-solved
returns-clause-solved g c = hits_solved _ c.in_ok-matches.matches.leaves.items c.in_ok-matches.matches.found.items c.in_ok-matches.ensures.each
