-- The lines of replies, as they are written.
use Rattle.std.proofs.Common.{◌≡◌, ℕ, [], ◌∷◌, ◌++◌, refl, ap, ap₂, sym, ◌∙◌, append_assoc}
use Rattle.std.specs.Prelude.{true, codes, decimal}
use Rattle.si_defs.specs.Bytes.{Bytes}
use Rattle.std.specs.Borrow.{Bor}
use Rattle.si_defs.specs.Printing.{file_text, symbol_text, shape_text}
use Rattle.si_defs.specs.declared.Side.TheVariants.{Predicate, Function}
use Rattle.si_index.specs.declared.index.Stats.{Stats}
use Rattle.si_index.specs.declared.index.TreeCounts.{TreeCounts}
use Rattle.si_tree.specs.declared.node.Counts.{Counts}
use Rattle.si_steps.specs.Runs.{ended}
use Rattle.si_index.specs.declared.explain.Explained.{Explained}
use Rattle.si_sign.specs.declared.faults.Shape.{Shape}
use Rattle.si_term.specs.declared.term.Sym.{Sym}
use Rattle.si_term.specs.declared.text.Text.{Text}
use Rattle.si_defs.specs.Tokens.{begins_with}
use Rattle.si_steps.specs.Replies.{file_line, numbered_line}
use Rattle.si_term.specs.Terms.{symbol_of}
use Rattle.si_session.specs.Replies.{reply_line, closed_line, stats_text, counts_text, counts_reply, closed_shape, file_word, line_word}
use Rattle.si_session.specs.Separators.{separator_text}
use Rattle.si_session.specs.declared.separator.Separator.TheVariants.{Space, LineFeed}
use Rattle.si_session.specs.declared.reply.FileFault.{FileFault}
use Rattle.si_session.specs.declared.reply.FileFault.TheVariants as file_fault
use Rattle.si_session.specs.declared.reply.LineFault.{LineFault}
use Rattle.si_session.specs.declared.reply.LineFault.TheVariants as line_fault
use Rattle.si_session.specs.declared.reply.ReplyLine.{ReplyLine}
use Rattle.si_session.specs.declared.reply.ReplyLine.TheVariants as reply

four : (x s d f : Bytes) → x ++ ((s ++ d) ++ f) ≡ ((x ++ s) ++ d) ++ f
four x s d f = ap (λ l. x ++ l) (append_assoc s d f) ∙ sym (append_assoc x s (d ++ f)) ∙ sym (append_assoc (x ++ s) d f)

pub ok_text : (r : ReplyLine) (clauses entries : ℕ) → r ≡ reply.Ok clauses entries
    → (codes "ok " ++ decimal clauses) ++ (codes " " ++ decimal entries) ≡ closed_line r
unfolding closed_line
ok_text r clauses entries e = sym (append_assoc (codes "ok " ++ decimal clauses) (codes " ") (decimal entries)) ∙ ap closed_line (sym e)

-- a line and its line feed
pub ended_is : (r : ReplyLine) → closed_line r ++ 10 ∷ [] ≡ reply_line r ++ 10 ∷ []
unfolding closed_line
ended_is r = refl

pub feed_is : separator_text LineFeed ≡ 10 ∷ []
unfolding separator_text
feed_is = refl

-- ---- counts and shapes
-- the counts with their words, one after the other
abbrev pub counted : ℕ → ℕ → ℕ → Bytes
counted clauses entries symbols =
    (codes "clauses " ++ decimal clauses) ++ ((codes " entries " ++ decimal entries) ++ (codes " symbols " ++ decimal symbols))

five : (x e d s k : Bytes) → x ++ ((e ++ d) ++ (s ++ k)) ≡ (((x ++ e) ++ d) ++ s) ++ k
five x e d s k = four x e d (s ++ k) ∙ sym (append_assoc ((x ++ e) ++ d) s k)

pub stats_is : (stats : Stats) (clauses symbols : ℕ) → clauses ≡ stats.clauses → symbols ≡ stats.symbols
    → counted clauses stats.entries symbols ≡ stats_text stats
unfolding stats_text
stats_is stats clauses symbols c s =
    ap (λ n. counted n stats.entries symbols) c ∙ ap (counted stats.clauses stats.entries) s
    ∙ five (codes "clauses " ++ decimal stats.clauses) (codes " entries ") (decimal stats.entries) (codes " symbols ") (decimal stats.symbols)

pub predicate_is : (shape : Shape) (arity : ℕ) → shape.side ≡ Predicate → arity ≡ shape.arity → codes "predicate/" ++ decimal arity ≡ closed_shape shape
unfolding closed_shape
predicate_is shape arity e a = ap (shape_text Predicate) a ∙ ap (λ side. shape_text side shape.arity) (sym e)

pub function_is : (shape : Shape) (arity : ℕ) → shape.side ≡ Function → arity ≡ shape.arity → codes "function/" ++ decimal arity ≡ closed_shape shape
unfolding closed_shape
function_is shape arity e a = ap (shape_text Function) a ∙ ap (λ side. shape_text side shape.arity) (sym e)

six : (a b c d e f : Bytes) → a ++ (b ++ (c ++ (d ++ (e ++ f)))) ≡ ((((a ++ b) ++ c) ++ d) ++ e) ++ f
six a b c d e f =
    sym (append_assoc a b (c ++ (d ++ (e ++ f))))
    ∙ sym (append_assoc (a ++ b) c (d ++ (e ++ f)))
    ∙ sym (append_assoc ((a ++ b) ++ c) d (e ++ f))
    ∙ sym (append_assoc (((a ++ b) ++ c) ++ d) e f)

pub misused_is : (r : ReplyLine) (symbol : Bor Sym) (found kept : Shape) → r ≡ reply.Misused symbol found kept
    → codes "! use " ++ (symbol_text (symbol_of symbol.now) ++ (separator_text Space ++ (closed_shape found ++ (separator_text Space ++ closed_shape kept))))
    ≡ closed_line r
unfolding separator_text closed_shape closed_line
misused_is r symbol found kept e =
    six (codes "! use ") (symbol_text (symbol_of symbol.now)) (codes " ") (shape_text found.side found.arity) (codes " ") (shape_text kept.side kept.arity)
    ∙ ap closed_line (sym e)

pub full_text : (r : ReplyLine) (needed limit : ℕ) → r ≡ reply.Full needed limit
    → (codes "! full " ++ decimal needed) ++ (codes " " ++ decimal limit) ≡ closed_line r
unfolding closed_line
full_text r needed limit e = sym (append_assoc (codes "! full " ++ decimal needed) (codes " ") (decimal limit)) ∙ ap closed_line (sym e)

pub stats_line_is : (r : ReplyLine) (stats : Stats) → r ≡ reply.Stats stats → stats_text stats ≡ closed_line r
unfolding stats_text closed_line
stats_line_is r stats e = ap closed_line (sym e)

-- ---- three words with their numbers
pub three : (w n m : Bytes) (a b c : ℕ) → (w ++ decimal a) ++ ((n ++ decimal b) ++ (m ++ decimal c)) ≡ ((((w ++ decimal a) ++ n) ++ decimal b) ++ m) ++ decimal c
three w n m a b c = five (w ++ decimal a) n (decimal b) m (decimal c)

pub sample_reported : (r : ReplyLine) (clauses gained sum : ℕ) → r ≡ reply.Sample clauses gained sum
    → (codes "sample " ++ decimal clauses) ++ ((codes " " ++ decimal gained) ++ (codes " " ++ decimal sum)) ≡ closed_line r
unfolding closed_line
sample_reported r clauses gained sum e = three (codes "sample ") (codes " ") (codes " ") clauses gained sum ∙ ap closed_line (sym e)

pub explained_reported : (r : ReplyLine) (x : Explained) → r ≡ reply.Explained x
    → (codes "passed " ++ decimal x.passed) ++ ((codes " nodes " ++ decimal x.nodes) ++ (codes " answers " ++ decimal x.answers)) ≡ closed_line r
unfolding closed_line
explained_reported r x e = three (codes "passed ") (codes " nodes ") (codes " answers ") x.passed x.nodes x.answers ∙ ap closed_line (sym e)

-- ---- the lines of trees
abbrev pub tree_reported : Bytes → Counts → Bytes
tree_reported word counts =
    ((word ++ decimal counts.nodes) ++ ((codes " leaves " ++ decimal counts.leaves) ++ (codes " unmerged " ++ decimal counts.unmerged))) ++ separator_text LineFeed

tree_line : (word : Bytes) (counts : Counts) → tree_reported word counts ≡ (((((word ++ decimal counts.nodes) ++ codes " leaves ") ++ decimal counts.leaves) ++ codes " unmerged ") ++ decimal counts.unmerged) ++ 10 ∷ []
unfolding separator_text
tree_line word counts = ap (λ l. l ++ 10 ∷ []) (three word (codes " leaves ") (codes " unmerged ") counts.nodes counts.leaves counts.unmerged)

pub trees_reported : (counts : TreeCounts) → tree_reported (codes "literals nodes ") counts.literals ++ tree_reported (codes "terms nodes ") counts.terms ≡ ended (counts_reply counts)
trees_reported counts =
    ap₂ (λ x y. x ++ y) (tree_line (codes "literals nodes ") counts.literals) (tree_line (codes "terms nodes ") counts.terms)
    ∙ append_assoc (counts_text (codes "literals") counts.literals) (10 ∷ []) (counts_text (codes "terms") counts.terms ++ 10 ∷ [])

-- ---- files
pub file_reported : (r : ReplyLine) (fault : FileFault) (file : Bor Text) (w b : Bytes) → r ≡ reply.File fault file → w ≡ file_word fault → b ≡ file.now
    → w ++ file_text b ≡ closed_line r
unfolding closed_line
file_reported r fault file w b e word bytes = ap₂ file_line word bytes ∙ ap closed_line (sym e)

pub line_reported : (r : ReplyLine) (fault : LineFault) (file : Bor Text) (line : ℕ) (w b : Bytes) → r ≡ reply.Line fault file line → w ≡ line_word fault → b ≡ file.now
    → w ++ (file_text b ++ (codes " " ++ decimal line)) ≡ closed_line r
unfolding closed_line
line_reported r fault file line w b e word bytes =
    sym (append_assoc w (file_text b) (codes " " ++ decimal line))
    ∙ sym (append_assoc (w ++ file_text b) (codes " ") (decimal line))
    ∙ ap₂ (λ x y. numbered_line x y line) word bytes ∙ ap closed_line (sym e)

file_marked : (fault : FileFault) (file : Bytes) → true ≡ begins_with 33 (file_line (file_word fault) file)
unfolding file_word
file_marked file_fault.Cycle file = refl
file_marked file_fault.Depth file = refl
file_marked file_fault.Missing file = refl
file_marked file_fault.Big file = refl
file_marked file_fault.Failed file = refl

line_marked : (fault : LineFault) (file : Bytes) (line : ℕ) → true ≡ begins_with 33 (numbered_line (line_word fault) file line)
unfolding line_word
line_marked line_fault.Syntax file line = refl
line_marked line_fault.Language file line = refl

-- a line on a file is a refusal
pub file_refuses : (r : ReplyLine) (fault : FileFault) (file : Bor Text) → r ≡ reply.File fault file → true ≡ begins_with 33 (reply_line r)
file_refuses r fault file e = file_marked fault file.now ∙ ap (λ x. begins_with 33 (reply_line x)) (sym e)

pub line_refuses : (r : ReplyLine) (fault : LineFault) (file : Bor Text) (line : ℕ) → r ≡ reply.Line fault file line → true ≡ begins_with 33 (reply_line r)
line_refuses r fault file line e = line_marked fault file.now line ∙ ap (λ x. begins_with 33 (reply_line x)) (sym e)

pub fetches_refuses : (r : ReplyLine) → r ≡ reply.Fetches → true ≡ begins_with 33 (reply_line r)
fetches_refuses r e = ap (λ x. begins_with 33 (reply_line x)) (sym e)
