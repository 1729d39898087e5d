-- Replies that are known before their first line is written.
use Rattle.std.specs.Prelude.{◌≡◌, ℕ, ◌++◌, codes, decimal}
use Rattle.si_defs.specs.Bytes.{Bytes}
use Rattle.si_tree.specs.declared.node.Counts.{Counts}
use Rattle.si_session.specs.Replies.{closed_line}
use Rattle.si_session.specs.Separators.{separator_text}
use Rattle.si_session.specs.declared.separator.Separator.TheVariants.{LineFeed}
use Rattle.si_session.specs.declared.short_reply.ShortReply.{ShortReply}
use Rattle.si_session.specs.declared.short_reply.ShortReply.TheVariants as short

-- the numbers of nodes of a tree, after these words
abbrev pub tree_text : Bytes → Counts → Bytes
tree_text words counts =
    (words ++ decimal counts.nodes)
    ++ ((codes " leaves " ++ decimal counts.leaves)
    ++ (codes " unmerged " ++ decimal counts.unmerged))

-- how many lines stand before the last one
abbrev pub lines_before : ShortReply → ℕ
lines_before (short.Line reply) = 0
lines_before (short.Trees counts) = 1

-- a line that stands before the last one, with its end
abbrev pub IsLineBefore : ShortReply → ℕ → Bytes → Type 0
IsLineBefore (short.Line reply) = λ n text. ⊥
IsLineBefore (short.Trees counts) = λ n text.
    text ≡ tree_text (codes "literals nodes ") counts.literals ++ separator_text LineFeed

-- the last line, without its end
abbrev pub last_line : ShortReply → Bytes
last_line (short.Line reply) = closed_line reply
last_line (short.Trees counts) = tree_text (codes "terms nodes ") counts.terms
