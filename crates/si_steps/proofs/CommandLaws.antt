-- A command is known by its word: each word has one kind of command, and its operands.
use Rattle.std.proofs.Common.{◌≡◌, ℕ, List, [], ◌∷◌, refl, sym, ap, subst}
use Rattle.si_defs.specs.Bytes.{Bytes}
use Rattle.si_defs.specs.Clauses.{Name, Literal, Clause, Pattern}
use Rattle.si_defs.specs.Tokens.{Token, lower}
use Rattle.si_defs.specs.declared.TokenKind.TheVariants.{Single}
use Rattle.si_defs.specs.declared.Relation.{Relation}
use Rattle.si_defs.specs.Grammar.{IsName, IsClause, IsFormula}
use Rattle.si_defs.proofs.ListLaws.{same_first, same_tail}
use Rattle.si_state.specs.Samples.{AllowsSample}
use Rattle.si_steps.specs.declared.word.Word.{Word}
use Rattle.si_steps.specs.declared.word.Word.TheVariants.{Add, Load, Remove, Ask, Subsumers, Subsumed, Stats, Tree, Explain, Sample}
use Rattle.si_steps.specs.Words.{relation_text, command_text}
use Rattle.si_steps.specs.Commands.{Command, add, load, remove, query, subsumers, subsumed, stats, tree, explain, sample, command_word, numeral, IsQuery, AreOperands, IsCommand}
use Rattle.si_steps.proofs.WordLaws.{same_word}

-- a command that begins with this word and has these operands, one row a word
abbrev pub IsOf : Word → Command → List Token → Type 0
IsOf Add c ts = (clause : Clause) × (c ≡ add clause) × IsClause clause ts
IsOf Load c ts = (file : Bytes) × (c ≡ load file) × (ts ≡ record { kind = Single; text = file } ∷ [])
IsOf Remove c ts = (name : Name) × (t : Token) × (c ≡ remove name) × IsName name t × (ts ≡ t ∷ [])
IsOf (Ask relation) c ts = (pattern : Pattern) × (c ≡ query relation pattern) × IsQuery pattern ts
IsOf Subsumers c ts = (formula : List Literal) × (c ≡ subsumers formula) × IsFormula formula ts
IsOf Subsumed c ts = (formula : List Literal) × (c ≡ subsumed formula) × IsFormula formula ts
IsOf Stats c ts = (c ≡ stats) × (ts ≡ [])
IsOf Tree c ts = (c ≡ tree) × (ts ≡ [])
IsOf Explain c ts =
    (relation : Relation) × (pattern : Pattern) × (us : List Token) × (c ≡ explain relation pattern) × IsQuery pattern us × (ts ≡ lower (relation_text relation) ∷ us)
IsOf Sample c ts =
    (start : ℕ) × (count : ℕ) × (c ≡ sample start count) × AllowsSample start count × (ts ≡ numeral start ∷ numeral count ∷ [])

is_of : (c : Command) (ts : List Token) → AreOperands c ts → IsOf (command_word c) c ts
is_of (add clause) ts h = (clause, refl, h)
is_of (load file) ts h = (file, refl, h)
is_of (remove name) ts (t, h, e) = (name, t, refl, h, e)
is_of (query relation pattern) ts h = (pattern, refl, h)
is_of (subsumers formula) ts h = (formula, refl, h)
is_of (subsumed formula) ts h = (formula, refl, h)
is_of stats ts h = (refl, h)
is_of tree ts h = (refl, h)
is_of (explain relation pattern) ts (us, h, e) = (relation, pattern, us, refl, h, e)
is_of (sample start count) ts (drawable, e) = (start, count, refl, drawable, e)

pub of_word : (w : Word) (c : Command) (ts : List Token) → IsCommand c (lower (command_text w) ∷ ts) → IsOf w c ts
of_word w c ts h =
    let word = same_word (command_word c) w (ap (λ (t : Token). t.text) (same_first (sym h.whole))) in
    subst (IsOf w c) (same_tail (sym h.whole)) (subst (λ v. IsOf v c h.operands) word (is_of c h.operands h.spelled))

-- no two relations have the same text
pub same_relation : (r q : Relation) → relation_text r ≡ relation_text q → r ≡ q
same_relation r q e = let word = same_word (Ask r) (Ask q) e in cc
