-- Whole lines, from their bytes to their meaning.
use Rattle.std.proofs.Common.{◌≡◌, ◌==◌, true, false, ℕ, List, [], ◌∷◌, codes, refl, ap, sym, subst, inl, arith}
use Rattle.std.proofs.lemmas.Fmt.{decimal_injective}
use Rattle.si_defs.specs.Bytes.{Bytes}
use Rattle.si_defs.specs.Tokens.{Token, lower, upper, NextToken, Consists}
use Rattle.si_defs.specs.Grammar.{IsClause, IsLiteral, left_bracket, right_bracket, comma}
use Rattle.si_defs.specs.Clauses.{Clause, literal_pattern, term_pattern}
use Rattle.si_defs.specs.declared.Relation.{Relation}
use Rattle.si_defs.specs.declared.Relation.TheVariants.{Variants, Instances, Generalizations, Unifiable}
use Rattle.si_defs.specs.declared.TokenKind.TheVariants.{Upper}
use Rattle.si_steps.specs.declared.word.Word.TheVariants.{Ask, Tree, Explain, Sample}
use Rattle.si_steps.specs.Words.{command_text, relation_text}
use Rattle.si_steps.specs.Commands.{Command, add, command_word, numeral, Means}
use Rattle.si_steps.proofs.CommandLaws.{IsOf, of_word}
use Rattle.si_lex.proofs.TokenLaws.{next_unique}
use Rattle.si_examples.specs.Entries.{fact, predicate}
use Rattle.si_examples.specs.Relations.{y, z, p_of}
use Rattle.si_examples.specs.Lines.{AddedLine, CommentBehindWord, NoKindOfPattern, TreeLine, ExplainedQuery, NoTreeOfTerm, NoRelationToExplain, NoEmptySample, OwnLanguageAdded}
use Rattle.si_examples.proofs.Differ.{differ, first_byte}
use Rattle.si_examples.proofs.Pieces.{Piece, space, comment, token, word, one_mark, tokens_of, consists}
use Rattle.si_examples.proofs.FirstWords.{word_differs, first_next, no_language}

abbrev pub clause : Clause
clause = fact (codes "c") (predicate (codes "p") [])

-- `cnf(c,axiom,p).`
abbrev pub clause_pieces : List Piece
clause_pieces = word (codes "cnf") ∷ one_mark 40 ∷ word (codes "c") ∷ one_mark 44 ∷ word (codes "axiom") ∷ one_mark 44 ∷ word (codes "p") ∷ one_mark 41 ∷ one_mark 46 ∷ []

is_clause : IsClause clause (tokens_of clause_pieces)
is_clause =
    let atom = lower (codes "p") ∷ [] in
    (lower (codes "c"), atom, [], inl refl, (0, atom, (atom, [], (refl, refl, (lower (codes "p"), inl refl, refl)), refl, refl), refl), tt, refl)

-- ---- commands
pub add_tokens : Consists (codes "add cnf(c,axiom,p).") (lower (codes "add") ∷ tokens_of clause_pieces)
add_tokens = consists (word (codes "add") ∷ space 32 ∷ clause_pieces) refl

-- whatever the text, its tokens are this command
adds : (line : Bytes) → Consists line (lower (codes "add") ∷ tokens_of clause_pieces) → Means (add clause) line
adds line c = record {
  tokens = lower (codes "add") ∷ tokens_of clause_pieces;
  consists = c;
  spelled = record { operands = tokens_of clause_pieces; spelled = is_clause; whole = refl };
  nested = omega arith;
}

pub added_line : AddedLine
added_line = adds (codes "add cnf(c,axiom,p).") add_tokens

pub comment_behind_word : CommentBehindWord
comment_behind_word = adds (codes "add/**/cnf(c,axiom,p).") (consists (word (codes "add") ∷ comment [] ∷ clause_pieces) refl)

-- the first byte of the first token's text
first_of : List Token → ℕ
first_of [] = 0
first_of (t ∷ ts) = first_byte t.text

pub no_kind_of_pattern : NoKindOfPattern
unfolding first_of
no_kind_of_pattern command h = by (of_word (Ask Instances) command _ h) where
  by : IsOf (Ask Instances) command (lower (codes "f") ∷ left_bracket ∷ upper (codes "Y") ∷ right_bracket ∷ []) → ⊥
  by (literal_pattern l, is, (us, spelled, e)) = differ 102 108 refl (ap first_of e)
  by (term_pattern t, is, (us, spelled, e)) = differ 102 116 refl (ap first_of e)

-- ---- lines about trees
pub tree_line : TreeLine
tree_line = record {
  tokens = lower (codes "tree") ∷ [];
  consists = consists (word (codes "tree") ∷ []) refl;
  spelled = record { operands = []; spelled = refl; whole = refl };
  nested = omega arith;
}

-- `p(Y,Z)`
abbrev atom_pieces : List Piece
atom_pieces = word (codes "p") ∷ one_mark 40 ∷ token Upper (codes "Y") ∷ one_mark 44 ∷ token Upper (codes "Z") ∷ one_mark 41 ∷ []

is_atom : IsLiteral (record { positive = true; atom = p_of y z }) (tokens_of atom_pieces)
is_atom =
    inl (
      refl,
      refl,
      (lower (codes "p"), upper (codes "Y") ∷ [], comma ∷ upper (codes "Z") ∷ [], inl refl, refl, (upper (codes "Z") ∷ [], [], refl, refl, refl), refl),
    )

pub explained_query : ExplainedQuery
explained_query = record {
  tokens = lower (codes "explain") ∷ lower (codes "unifiable") ∷ lower (codes "lit") ∷ tokens_of atom_pieces;
  consists = consists (word (codes "explain") ∷ space 32 ∷ word (codes "unifiable") ∷ space 32 ∷ word (codes "lit") ∷ space 32 ∷ atom_pieces) refl;
  spelled = record {
    operands = lower (codes "unifiable") ∷ lower (codes "lit") ∷ tokens_of atom_pieces;
    spelled = (lower (codes "lit") ∷ tokens_of atom_pieces, (tokens_of atom_pieces, is_atom, refl), refl);
    whole = refl;
  };
  nested = omega arith;
}

pub no_tree_of_term : NoTreeOfTerm
no_tree_of_term command h = let k = (of_word Tree command _ h).1 in cc

pub no_relation_to_explain : NoRelationToExplain
unfolding first_of
no_relation_to_explain command h = by (of_word Explain command _ h) where
  begins_otherwise : (relation : Relation) → first_byte (relation_text relation) == 108 ≡ false
  begins_otherwise Variants = refl
  begins_otherwise Instances = refl
  begins_otherwise Generalizations = refl
  begins_otherwise Unifiable = refl

  by : IsOf Explain command (lower (codes "lit") ∷ lower (codes "p") ∷ []) → ⊥
  by (relation, p, us, is, spelled, e) = differ (first_byte (relation_text relation)) 108 (begins_otherwise relation) (sym (ap first_of e))

-- ---- a sample
-- the last token's text
last_text : List Token → Bytes
last_text [] = []
last_text (t ∷ []) = t.text
last_text (t ∷ u ∷ ts) = last_text (u ∷ ts)

pub no_empty_sample : NoEmptySample
unfolding last_text
no_empty_sample command h = by (of_word Sample command _ h) where
  by : IsOf Sample command (numeral 1 ∷ numeral 0 ∷ []) → ⊥
  by (start, count, is, drawable, e) =
      let none : 0 ≡ count = decimal_injective 0 count (omega arith) (omega (arith, drawable.count_fits)) (ap last_text e) in
      absurd (omega (arith, none, drawable.some))

-- the word that a command begins with
pub command_next : (command : Command) (line : Bytes) → Means command line → (rest : Bytes) × NextToken line (lower (command_text (command_word command))) rest
command_next command line m =
    first_next line (lower (command_text (command_word command))) m.spelled.operands m.tokens m.consists.rest m.spelled.whole m.consists.begins

pub own_language_added : OwnLanguageAdded
own_language_added f =
    let line = codes "add cnf(c,axiom,p)." in
    let b = add_tokens.begins in
    let same = (next_unique line (lower (codes "add")) (lower (codes "add")) f.3.0 b.0 f.3.1 b.1).1 in
    word_differs b.0 f.0 (codes "cnf") f.3.2.0 b.2.0 (subst (λ x. NextToken x (lower f.0) f.3.2.0) same f.3.2.1) b.2.1 (no_language f.0 f.2)
