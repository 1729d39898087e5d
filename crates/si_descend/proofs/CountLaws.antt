-- What was found is counted.
use Rattle.std.proofs.Common.{◌≡◌, ℕ, ◌+◌, ◌^◌, ◌<◌, List, [], ◌++◌, length, sym, subst, arith}
use Rattle.std.proofs.lemmas.List.{length-append}
use Rattle.si_defs.specs.declared.Relation.{Relation}
use Rattle.si_flat.specs.declared.Cell.{Cell}
use Rattle.si_flat.specs.Cells.{Term}
use Rattle.si_legal.specs.declared.Posting.{Posting}
use Rattle.si_legal.specs.Engines.{AreAnswers}
use Rattle.si_legal.specs.Legal.{IsLegal}
use Rattle.si_legal.specs.Trees.{Tree}
use Rattle.si_tree.specs.Reading.{IsNode}
use Rattle.si_descend.specs.declared.counting.Counted.{Counted}
use Rattle.si_descend.specs.declared.search.Search.{Search}
use Rattle.si_descend.specs.Answers.{Finds, IsStoredAnswer}
use Rattle.si_descend.specs.Counting.{at_most, CountsAnswers, HasCounted}
use Rattle.si_descend.specs.Searching.{IsReady, IsClosedAt}
use Rattle.si_descend.proofs.Retrieving.{found_retrieves}
use Rattle.si_descend.proofs.Turns.{found_closed}

-- more postings
pub more_counted : (ps own : List Posting) (old new n : ℕ) → old ≡ at_most (length ps) → n ≡ length own → n < 2 ^ 64 → new ≡ at_most (old + n) → new ≡ at_most (length (ps ++ own))
more_counted ps own old new n e f small sum = omega (arith, e, f, small, sum, length-append ps own)

pub none_counted : 0 ≡ at_most 0
none_counted = omega arith

-- a closed node has none
pub counted_closed : (search : Search) → IsReady search → (key : ℕ) → IsNode search.tree.now key → IsClosedAt search key → HasCounted search key (record { passed = 0; answers = 0 })
counted_closed search ready key is closed = ([], found_closed search ready key is [] closed, none_counted)

-- ---- the whole tree
pub counted_answers : (s : Search) (tree : Tree Term) (relation : Relation) (cells : List Cell) (root : ℕ) (c : Counted) → IsLegal tree → s.tree.now ≡ tree → s.relation ≡ relation → s.query.now ≡ cells → root ≡ tree.root → HasCounted s root c → CountsAnswers tree relation cells c
counted_answers s tree relation cells root c legal e f g r (found, h, n) =
    let finds = subst (λ k. Finds tree k relation cells [] found c.passed) r (subst (λ t. Finds t root relation cells [] found c.passed) e (subst (λ k. Finds s.tree.now root k cells [] found c.passed) f (subst (λ l. Finds s.tree.now root s.relation l [] found c.passed) g h))) in
    let all = found_retrieves tree relation cells [] found c.passed legal finds in
    record {
      passed = all.counts;
      answers = λ q stands. (found, (let a = all.appends q stands in subst (AreAnswers (IsStoredAnswer tree relation q)) (sym a.appended) a.are), n);
    }
