-- The replies of one line.
use Rattle.std.specs.Prelude.{[], ◌∷◌, ◌++◌, codes, decimal}
use Rattle.si_defs.specs.Bytes.{Bytes}
use Rattle.si_defs.specs.Symbols.{Symbol}
use Rattle.si_defs.specs.Printing.{symbol_text, shape_text}
use Rattle.si_steps.specs.Replies.{Reply, ok_line, stats_line, explain_line, sample_line, taken_line, full_line, unknown_line, file_line, numbered_line, fetches_line, long_line, language_line, syntax_line, memory_line}
use Rattle.si_sign.specs.declared.faults.Shape.{Shape}
use Rattle.si_term.specs.Terms.{symbol_of}
use Rattle.si_term.specs.Meaning.{name_of}
use Rattle.si_index.specs.declared.index.Stats.{Stats}
use Rattle.si_index.specs.declared.index.TreeCounts.{TreeCounts}
use Rattle.si_tree.specs.declared.node.Counts.{Counts}
use Rattle.si_session.specs.declared.reply.FileFault.{FileFault}
use Rattle.si_session.specs.declared.reply.FileFault.TheVariants as file_fault
use Rattle.si_session.specs.declared.reply.LineFault.{LineFault}
use Rattle.si_session.specs.declared.reply.LineFault.TheVariants as line_fault
use Rattle.si_session.specs.declared.reply.ReplyLine.{ReplyLine}
use Rattle.si_session.specs.declared.reply.ReplyLine.TheVariants as reply

-- a side and an arity
unfoldable pub closed_shape : Shape → Bytes
closed_shape shape = shape_text shape.side shape.arity

-- a symbol, the shape that it has, and the one that stands against it
abbrev pub misused_text : Symbol → Shape → Shape → Bytes
misused_text s found kept =
    codes "! use " ++ symbol_text s ++ codes " " ++ shape_text found.side found.arity
    ++ codes " " ++ shape_text kept.side kept.arity

-- the words of faults, before the name of a file
unfoldable pub file_word : FileFault → Bytes
file_word file_fault.Cycle = codes "! cycle "
file_word file_fault.Depth = codes "! depth "
file_word file_fault.Missing = codes "! missing "
file_word file_fault.Big = codes "! big "
file_word file_fault.Failed = codes "! fault "

unfoldable pub line_word : LineFault → Bytes
line_word line_fault.Syntax = codes "! syntax "
line_word line_fault.Language = codes "! language "

abbrev pub reply_line : ReplyLine → Bytes
reply_line (reply.Ok clauses entries) = ok_line clauses entries
reply_line (reply.Stats stats) = stats_line stats.clauses stats.entries stats.symbols
reply_line (reply.Sample clauses gained sum) = sample_line clauses gained sum
reply_line (reply.Explained e) = explain_line e.passed e.nodes e.answers
reply_line (reply.Taken name) = taken_line (name_of name.now)
reply_line (reply.Misused symbol found kept) = misused_text (symbol_of symbol.now) found kept
reply_line (reply.Full needed limit) = full_line needed limit
reply_line (reply.Unknown name) = unknown_line (name_of name.now)
reply_line (reply.File fault file) = file_line (file_word fault) file.now
reply_line (reply.Line fault file line) = numbered_line (line_word fault) file.now line
reply_line reply.Fetches = fetches_line
reply_line reply.Long = long_line
reply_line reply.Language = language_line
reply_line reply.Syntax = syntax_line
reply_line reply.Memory = memory_line

-- the same; the text stays closed in proofs about writing
unfoldable pub closed_line : ReplyLine → Bytes
closed_line r = reply_line r

-- how much is kept
unfoldable pub stats_text : Stats → Bytes
stats_text stats = stats_line stats.clauses stats.entries stats.symbols

-- the numbers of nodes of a tree, after its name
abbrev pub counts_text : Bytes → Counts → Bytes
counts_text name counts =
    name ++ codes " nodes " ++ decimal counts.nodes ++ codes " leaves " ++ decimal counts.leaves
    ++ codes " unmerged " ++ decimal counts.unmerged

abbrev pub counts_reply : TreeCounts → Reply
counts_reply counts =
    counts_text (codes "literals") counts.literals ∷ counts_text (codes "terms") counts.terms ∷ []
