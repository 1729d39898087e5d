use Rattle.std.proofs.Common.{subst, arith}
use Rattle.std.proofs.lemmas.Result.{on_ok_weaker, IfOk-weaker}
use Rattle.si_defs.specs.Clauses.{IsSoundAtom}
use Rattle.si_term.specs.Terms.{term_of}
use Rattle.si_index.proofs.EntryLaws.{known_parts}
use Rattle.si_scan.specs.Scans.{Wants, numbers_of}
use Rattle.si_scan.proofs.ScanLaws.{literal_count, literal_added}
use Rattle.si_scan.proofs.scan.scan_literal.Goals as goal

pub unreachable-requires : goal.unreachable-requires
unreachable-requires c = subst (λ t. IsSoundAtom (term_of t)) c.in_default.is c.requires.known.sound.0

pub overflow_add-number : goal.overflow_add-number
overflow_add-number c = omega (arith, c.requires.few)

pub scan_terms-requires-clause-known : goal.scan_terms-requires-clause-known
scan_terms-requires-clause-known c =
    known_parts (numbers_of c.args.question.now) c.args.literal.now c.in-App.field-0 c.in-App.arguments c.as_slice.result.now c.in-App.is c.as_slice.ensures c.requires.known

pub scan_terms-requires-clause-few : goal.scan_terms-requires-clause-few
scan_terms-requires-clause-few c =
    omega (arith, c.requires.few, literal_count c.args.literal.now c.in-App.field-0 c.in-App.arguments c.as_slice.result.now c.in-App.is c.as_slice.ensures)

pub returns-clause-next : goal.returns-clause-next
returns-clause-next c =
    let count = literal_count c.args.literal.now c.in-App.field-0 c.in-App.arguments c.as_slice.result.now c.in-App.is c.as_slice.ensures in
    IfOk-weaker c.scan_terms.result _ _ (λ n is. omega (arith, is, count)) c.scan_terms.ensures.next

pub returns-clause-adds : goal.returns-clause-adds
returns-clause-adds c =
    on_ok_weaker c.scan_terms.result
    (literal_added (Wants c.args.question.now) c.args.key c.args.number c.args.literal.now c.in-App.field-0 c.in-App.arguments c.as_slice.result.now
    c.args.gathered.now.found.items c.try_entry.new.gathered.found.items c.scan_terms.new.gathered.found.items c.in-App.is c.as_slice.ensures c.in_ok-try_entry.ensures)
    c.scan_terms.ensures.adds
