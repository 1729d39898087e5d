use Rattle.std.proofs.Common.{◌+◌, length, map, ap, arith, length-append}
use Rattle.std.proofs.lemmas.List.{length-map}
use Rattle.si_defs.specs.Entries.{term_entry}
use Rattle.si_term.specs.Terms.{term_of}
use Rattle.si_term.specs.Meaning.{literal_of}
use Rattle.si_defs.specs.Terms.{arguments}
use Rattle.si_term.specs.Walks.{subterms_of_all, entries_alone}
use Rattle.si_term.specs.declared.clause.Literal.{Literal}
use Rattle.si_term.proofs.Alone.{length-entries}
use Rattle.si_term.proofs.Literals.{later, later-read, later-end}
use Rattle.si_term.proofs.entries.entry_count.Goals as goal

pub count_inside-requires : goal.count_inside-requires
count_inside-requires c =
    let ls = c.as_slice-literals.result.now in
    let i = c.loop-i.i in
    let one = c.index-literals-i.result in
    let all = ap (λ ks. length (entries_alone (map literal_of ks))) c.as_slice-literals.ensures in
    let total = length-entries 1 (map literal_of c.args.clause.now.literals) in
    let same = ap (λ (l : Literal). length (subterms_of_all (arguments (term_of l.atom)))) c.index-literals-i.is in
    let split = ap (λ ks. length (entries_alone ks)) (later-read ls i one c.loop-i-test.true c.index-literals-i.is) in
    let parts = length-append (map term_entry (subterms_of_all (arguments (term_of one.atom)))) (entries_alone (later ls (i + 1))) in
    let terms = length-map (subterms_of_all (arguments (term_of one.atom))) term_entry in
    omega arith

pub overflow_add-count : goal.overflow_add-count
overflow_add-count c =
    let ls = c.as_slice-literals.result.now in
    let i = c.loop-i.i in
    let one = c.index-literals-i.result in
    let all = ap (λ ks. length (entries_alone (map literal_of ks))) c.as_slice-literals.ensures in
    let total = length-entries 1 (map literal_of c.args.clause.now.literals) in
    let same = ap (λ (l : Literal). length (subterms_of_all (arguments (term_of l.atom)))) c.index-literals-i.is in
    let split = ap (λ ks. length (entries_alone ks)) (later-read ls i one c.loop-i-test.true c.index-literals-i.is) in
    let parts = length-append (map term_entry (subterms_of_all (arguments (term_of one.atom)))) (entries_alone (later ls (i + 1))) in
    let terms = length-map (subterms_of_all (arguments (term_of one.atom))) term_entry in
    omega arith

pub overflow_add-count-in-loop-i : goal.overflow_add-count-in-loop-i
overflow_add-count-in-loop-i c =
    let ls = c.as_slice-literals.result.now in
    let i = c.loop-i.i in
    let one = c.index-literals-i.result in
    let all = ap (λ ks. length (entries_alone (map literal_of ks))) c.as_slice-literals.ensures in
    let total = length-entries 1 (map literal_of c.args.clause.now.literals) in
    let same = ap (λ (l : Literal). length (subterms_of_all (arguments (term_of l.atom)))) c.index-literals-i.is in
    let split = ap (λ ks. length (entries_alone ks)) (later-read ls i one c.loop-i-test.true c.index-literals-i.is) in
    let parts = length-append (map term_entry (subterms_of_all (arguments (term_of one.atom)))) (entries_alone (later ls (i + 1))) in
    let terms = length-map (subterms_of_all (arguments (term_of one.atom))) term_entry in
    omega arith

pub loop-i-preserved : goal.loop-i-preserved
loop-i-preserved c =
    let ls = c.as_slice-literals.result.now in
    let i = c.loop-i.i in
    let one = c.index-literals-i.result in
    let all = ap (λ ks. length (entries_alone (map literal_of ks))) c.as_slice-literals.ensures in
    let total = length-entries 1 (map literal_of c.args.clause.now.literals) in
    let same = ap (λ (l : Literal). length (subterms_of_all (arguments (term_of l.atom)))) c.index-literals-i.is in
    let split = ap (λ ks. length (entries_alone ks)) (later-read ls i one c.loop-i-test.true c.index-literals-i.is) in
    let parts = length-append (map term_entry (subterms_of_all (arguments (term_of one.atom)))) (entries_alone (later ls (i + 1))) in
    let terms = length-map (subterms_of_all (arguments (term_of one.atom))) term_entry in
    omega arith

pub returns : goal.returns
returns c =
    let all = ap (λ ks. length (entries_alone (map literal_of ks))) c.as_slice-literals.ensures in
    let total = length-entries 1 (map literal_of c.args.clause.now.literals) in
    let none = ap (λ ks. length (entries_alone ks)) (later-end c.as_slice-literals.result.now c.loop-i.i c.loop-i-test.false) in
    omega arith
