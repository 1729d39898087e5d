-- Items at the front of a text.
use Rattle.std.proofs.Common.{◌≡◌, false, ◌==◌, List, [], ◌∷◌, codes, refl, inl, arith}
use Rattle.std.specs.Prelude.{IsTrue}
use Rattle.std.proofs.lemmas.Bool.{and_parts}
use Rattle.si_defs.specs.Bytes.{Bytes}
use Rattle.si_defs.specs.Tokens.{Token, lower, NextToken, Begins}
use Rattle.si_defs.specs.Grammar.{Item, clause_item, include_item, all, only}
use Rattle.si_defs.specs.Texts.{BeginsWithItem, IsFaulty}
use Rattle.si_defs.specs.declared.TokenKind.{TokenKind}
use Rattle.si_defs.specs.declared.TokenKind.TheVariants.{Lower, Single, Mark}
use Rattle.si_defs.specs.declared.NameKind.TheVariants.{Word}
use Rattle.si_lex.proofs.TokenLaws.{blanks_none}
use Rattle.si_examples.specs.Entries.{fact, predicate}
use Rattle.si_examples.proofs.Differ.{first_byte}
use Rattle.si_examples.proofs.FirstWords.{first_next, word_differs}
use Rattle.si_examples.proofs.Pieces.{Piece, token, token_of, word, bytes_of, are_read, next}

-- tokens without blanks between them
abbrev pub spelled_out : List (TokenKind × Bytes) → List Piece → List Piece
spelled_out [] more = more
spelled_out (t ∷ ts) more = token t.0 t.1 ∷ spelled_out ts more

abbrev pub tokens : List (TokenKind × Bytes) → List Token
tokens [] = []
tokens (t ∷ ts) = token_of t.0 t.1 ∷ tokens ts

-- the text begins with these tokens
pub begins : (ts : List (TokenKind × Bytes)) (more : List Piece) → IsTrue (are_read (spelled_out ts more)) → Begins (bytes_of (spelled_out ts more)) (tokens ts) (bytes_of more)
begins [] more h = refl
begins (t ∷ ts) more h = let w = and_parts _ (are_read (spelled_out ts more)) h in (bytes_of (spelled_out ts more), next t.0 t.1 (bytes_of (spelled_out ts more)) w.0, begins ts more w.1)

-- a word that is neither `cnf` nor `include` begins no item
pub faulty : (bytes word rest : Bytes) → NextToken bytes (lower word) rest → first_byte word == 99 ≡ false → first_byte word == 105 ≡ false → IsFaulty bytes
faulty bytes word rest n c i = record { more = λ b. blanks_none bytes b (lower word) rest n; no_item = by } where
  other : (own : Bytes) (ts us : List Token) (after : Bytes) → us ≡ lower own ∷ ts → Begins bytes us after → first_byte word == first_byte own ≡ false → ⊥
  other own ts us after e b h = let m = first_next bytes (lower own) ts us after e b in word_differs bytes word own rest m.0 n m.1 h

  by : (item : Item) (after : Bytes) → BeginsWithItem bytes item after → ⊥
  by (clause_item clause) after b = let s = b.spelled in other (codes "cnf") _ b.tokens after s.6 b.begins c
  by (include_item file selection) after b = let s = b.spelled in other (codes "include") _ b.tokens after s.2 b.begins i

-- ---- items of the examples
-- a clause with one atom without arguments
abbrev pub clause_tokens : Bytes → Bytes → List (TokenKind × Bytes)
clause_tokens name atom =
    (Lower, codes "cnf") ∷ (Mark, codes "(") ∷ (Lower, name) ∷ (Mark, codes ",") ∷ (Lower, codes "axiom") ∷ (Mark, codes ",") ∷ (Lower, atom)
    ∷ (Mark, codes ")") ∷ (Mark, codes ".") ∷ []

pub clause_begins : (name atom : Bytes) (more : List Piece) → IsTrue (are_read (spelled_out (clause_tokens name atom) more))
    → BeginsWithItem (bytes_of (spelled_out (clause_tokens name atom) more)) (clause_item (fact name (predicate atom []))) (bytes_of more)
clause_begins name atom more h = record {
  tokens = tokens (clause_tokens name atom);
  begins = begins (clause_tokens name atom) more h;
  spelled =
      let ts = lower atom ∷ [] in
      (lower name, ts, [], inl refl, (0, ts, (ts, [], (refl, refl, (lower atom, inl refl, refl)), refl, refl), refl), tt, refl);
  nested = omega arith;
}

-- an include of a whole file
abbrev pub include_tokens : Bytes → List (TokenKind × Bytes)
include_tokens file = (Lower, codes "include") ∷ (Mark, codes "(") ∷ (Single, file) ∷ (Mark, codes ")") ∷ (Mark, codes ".") ∷ []

pub include_begins : (file : Bytes) (more : List Piece) → IsTrue (are_read (spelled_out (include_tokens file) more))
    → BeginsWithItem (bytes_of (spelled_out (include_tokens file) more)) (include_item file all) (bytes_of more)
include_begins file more h = record {
  tokens = tokens (include_tokens file);
  begins = begins (include_tokens file) more h;
  spelled = ([], refl, refl);
  nested = omega arith;
}

-- an include of one clause
abbrev pub one_tokens : Bytes → Bytes → List (TokenKind × Bytes)
one_tokens file name =
    (Lower, codes "include") ∷ (Mark, codes "(") ∷ (Single, file) ∷ (Mark, codes ",") ∷ (Mark, codes "[") ∷ (Lower, name) ∷ (Mark, codes "]")
    ∷ (Mark, codes ")") ∷ (Mark, codes ".") ∷ []

pub one_begins : (file name : Bytes) (more : List Piece) → IsTrue (are_read (spelled_out (one_tokens file name) more))
    → BeginsWithItem (bytes_of (spelled_out (one_tokens file name) more)) (include_item file (only (record { kind = Word; text = name } ∷ []))) (bytes_of more)
one_begins file name more h = record {
  tokens = tokens (one_tokens file name);
  begins = begins (one_tokens file name) more h;
  spelled = (_, (lower name, [], inl refl, refl, refl), refl);
  nested = omega arith;
}
