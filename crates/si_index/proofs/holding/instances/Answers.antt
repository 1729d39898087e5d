use Rattle.std.proofs.Common.{true, refl, sym, subst}
use Rattle.si_defs.specs.Clauses.{literal_pattern}
use Rattle.si_defs.specs.Entries.{pattern_entry}
use Rattle.si_defs.specs.declared.Relation.TheVariants.{Instances}
use Rattle.si_term.specs.Meaning.{literal_of}
use Rattle.si_flat.specs.declared.Owner.TheVariants.{Query}
use Rattle.si_index.specs.Engines.{IsStoredFor}
use Rattle.si_index.proofs.FlatLaws.{flat_is_numbered}
use Rattle.si_index.proofs.StandingLaws.{is_orderly, trees_stand, standing_answered}
use Rattle.si_index.proofs.WantedLaws.{is_answered, postings_keyed}
use Rattle.si_index.proofs.holding.instances.Goals as goal

pub ask_trees-requires : goal.ask_trees-requires
ask_trees-requires c = flat_is_numbered _ Query (pattern_entry (literal_pattern (literal_of c.args.literal.now))) c.in_ok-query.query.flat c.in_ok-query.ensures.flat

pub returns-clause-keyed : goal.returns-clause-keyed
returns-clause-keyed c =
    let k = c.args.index.now in
    let p = literal_pattern (literal_of c.args.literal.now) in
    let told =
    is_answered (IsStoredFor c.trees-trees.result.now) k Instances p _ c.in_ok-query.query true _ _ c.ask_trees.new.postings.items c.signature-signature.ensures.numbers
    c.in_ok-query.ensures
    (trees_stand k c.trees-trees.result.now Instances p c.trees-trees.ensures.answer c.trees-trees.ensures.trees c.requires.sound) refl c.in_ok-ask_trees.ensures c.new-postings.ensures.items refl in
    postings_keyed k Instances p c.ask_trees.new.postings.items told.standing

pub returns-clause-distinct : goal.returns-clause-distinct
returns-clause-distinct c = c.trees-trees.ensures.keyed.distinct

pub returns-clause-all : goal.returns-clause-all
returns-clause-all c q e own stands =
    let k = c.args.index.now in
    let p = literal_pattern (literal_of c.args.literal.now) in
    let told =
    is_answered (IsStoredFor c.trees-trees.result.now) k Instances p _ c.in_ok-query.query true _ _ c.ask_trees.new.postings.items c.signature-signature.ensures.numbers
    c.in_ok-query.ensures
    (trees_stand k c.trees-trees.result.now Instances p c.trees-trees.ensures.answer c.trees-trees.ensures.trees c.requires.sound) refl c.in_ok-ask_trees.ensures c.new-postings.ensures.items refl in
    let orderly = is_orderly k _ c.trees-trees.ensures.keyed c.trees-trees.ensures.hold.numbering c.signature-signature.ensures.numbers c.signature-signature.ensures.signature c.requires.clauses in
    (told.are.exact q).1
    (subst (λ t. IsStoredFor t true Instances c.in_ok-query.query.flat q) (sym c.trees-trees.ensures.trees)
    (standing_answered k Instances p c.in_ok-query.query.flat q e orderly c.trees-trees.ensures.hold c.requires.sound told.asked own stands))
