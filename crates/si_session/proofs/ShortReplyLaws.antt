-- What was sent of a reply that is known before its first line is written.
use Rattle.std.proofs.Common.{◌≡◌, ℕ, List, [], ◌∷◌, ◌++◌, Result, ◌∙◌, subst, append-nil}
use Rattle.std.specs.List.{AllZip, concat, range_with_len}
use Rattle.std.specs.Prelude.{codes}
use Rattle.si_steps.specs.Runs.{ended}
use Rattle.si_io.specs.declared.failed.Failed.{Failed}
use Rattle.si_io.specs.Shown.{SinkShown}
use Rattle.si_io.specs.Sends.{Sends}
use Rattle.si_io.specs.Lines.{WritesLines}
use Rattle.si_io.proofs.LineLaws.{only_last}
use Rattle.si_index.specs.declared.index.TreeCounts.{TreeCounts}
use Rattle.si_session.specs.declared.reply.ReplyLine.{ReplyLine}
use Rattle.si_session.specs.declared.short_reply.ShortReply.TheVariants as short
use Rattle.si_session.specs.Replies.{closed_line, counts_reply}
use Rattle.si_session.specs.Separators.{separator_text}
use Rattle.si_session.specs.ShortReplies.{IsLineBefore, last_line}
use Rattle.si_session.proofs.ReplyTexts.{tree_reported, trees_reported}

-- one line stands before the last one
one_before : (line : ℕ → List ℕ → Type 0) (first last : List ℕ) → ((text : List ℕ) → line 0 text → text ≡ first)
    → (r : Result (Unit {0}) Failed) (before after : SinkShown) → WritesLines line 1 last r before after → Sends r (first ++ last) before after
one_before line first last only r before after h = by h.0 h.1 h.2 where
  by : (texts : List (List ℕ)) → AllZip line (range_with_len 0 1) texts → Sends r (concat texts ++ last) before after → Sends r (first ++ last) before after
  by [] told sent = absurd told
  by (text ∷ []) told sent = subst (λ (l : List ℕ). Sends r (l ++ last) before after) (append-nil text ∙ only text told.0) sent
  by (text ∷ other ∷ texts) told sent = absurd told.1

pub trees_sent : (counts : TreeCounts) (r : Result (Unit {0}) Failed) (before after : SinkShown)
    → WritesLines (IsLineBefore (short.Trees counts)) 1 (last_line (short.Trees counts) ++ 10 ∷ []) r before after
    → Sends r (ended (counts_reply counts)) before after
unfolding separator_text
trees_sent counts r before after h =
    subst (λ (t : List ℕ). Sends r t before after) (trees_reported counts)
    (one_before (IsLineBefore (short.Trees counts)) (tree_reported (codes "literals nodes ") counts.literals) (last_line (short.Trees counts) ++ 10 ∷ []) (λ text is. is) r before after h)

pub line_sent : (reply : ReplyLine) (r : Result (Unit {0}) Failed) (before after : SinkShown)
    → WritesLines (IsLineBefore (short.Line reply)) 0 (last_line (short.Line reply) ++ 10 ∷ []) r before after
    → Sends r (closed_line reply ++ 10 ∷ []) before after
line_sent reply r before after h = only_last (IsLineBefore (short.Line reply)) (closed_line reply ++ 10 ∷ []) r before after h
