-- The text of a sample is its clauses, a line each.
use Rattle.std.proofs.Common.{◌≡◌, ℕ, zero, suc, ◌+◌, ◌<◌, ◌/◌, ◌%◌, Bool, true, false, cond, ◌==◌, List, [], ◌∷◌, ◌++◌, length, codes, refl, sym, ap, subst, ◌∙◌, inl, append_assoc, append-nil, length-append, arith}
use Rattle.std.specs.Prelude.{IsTrue, decimal}
use Rattle.std.specs.List.{list_all}
use Rattle.std.specs.Fmt.{digits, digits_onto, digit_glyph}
use Rattle.std.proofs.Math.Nat.{max-le}
use Rattle.std.proofs.lemmas.Bool.Decides.{nat_tests}
use Rattle.si_defs.specs.Bytes.{Bytes, is_word_byte}
use Rattle.si_defs.specs.Clauses.{Literal, Clause}
use Rattle.si_defs.specs.Tokens.{Token, lower, Begins, Skips, white}
use Rattle.si_defs.specs.Grammar.{IsClause, IsDisjunction, left_bracket, right_bracket, comma, full_stop, clause_item}
use Rattle.si_defs.specs.Texts.{BeginsWithItem}
use Rattle.si_defs.specs.Generator.{exactly, ◌before◌, literals, clause, clauses, IsSample}
use Rattle.si_defs.specs.declared.NameKind.TheVariants as named
use Rattle.si_defs.specs.declared.TheConstants.{DEEPEST_NESTING}
use Rattle.si_defs.proofs.TokenLaws.{skips_nothing, begins_append}
use Rattle.si_state.specs.Harvest.{AreClauses}
use Rattle.si_sample.proofs.Formulas.{IsPhrase, begins_mark, begins_word, before_bytes, behind_bytes, draws_literals}

-- ---- names
-- a digit may stand in a word, and so a number may
digit_glyph_is : (d : ℕ) → d < 10 → is_word_byte (digit_glyph false d) ≡ true
digit_glyph_is d h = grind (arith, nat_tests)

are_word_bytes : (k n : ℕ) (acc : Bytes) → IsTrue (list_all is_word_byte acc) → IsTrue (list_all is_word_byte (digits_onto k 10 false n acc))
are_word_bytes zero n acc h = h
are_word_bytes (suc k) n acc h = by (n / 10 == 0) (λ l. are_word_bytes k (n / 10) (digit_glyph false (n % 10) ∷ acc) l) where
  more : IsTrue (list_all is_word_byte (digit_glyph false (n % 10) ∷ acc))
  more = rw (digit_glyph_is (n % 10) (omega arith)) h

  by : (b : Bool) → (IsTrue (list_all is_word_byte (digit_glyph false (n % 10) ∷ acc)) → IsTrue (list_all is_word_byte (digits_onto k 10 false (n / 10) (digit_glyph false (n % 10) ∷ acc))))
      → IsTrue (list_all is_word_byte (cond b (digit_glyph false (n % 10) ∷ acc) (digits_onto k 10 false (n / 10) (digit_glyph false (n % 10) ∷ acc))))
  by true above = more
  by false above = above more

decimal_goes_on : (n : ℕ) → IsTrue (list_all is_word_byte (decimal n))
unfolding digits
decimal_goes_on n = are_word_bytes 64 n [] refl

-- ---- one line
-- what is drawn as the clause with this number
drawn_clause : ℕ → List Literal → Clause
drawn_clause number ls = record { name = record { kind = named.Word; text = 115 ∷ decimal number }; role = codes "axiom"; literals = ls }

-- the bytes after the first of the name
behind_name : (digits body rest : Bytes) → (((digits ++ codes ",axiom,") ++ body) ++ codes ").\n") ++ rest ≡ digits ++ (codes ",axiom," ++ (body ++ (codes ").\n" ++ rest)))
behind_name digits body rest =
    append_assoc ((digits ++ codes ",axiom,") ++ body) (codes ").\n") rest
    ∙ append_assoc (digits ++ codes ",axiom,") body (codes ").\n" ++ rest)
    ∙ append_assoc digits (codes ",axiom,") (body ++ (codes ").\n" ++ rest))

line_begins : (number : ℕ) (ls : List Literal) (body rest : Bytes) → IsPhrase (IsDisjunction ls) 3 body
    → BeginsWithItem ((((codes "cnf(s" ++ decimal number ++ codes ",axiom,") ++ body) ++ codes ").\n") ++ rest) (clause_item (drawn_clause number ls)) (10 ∷ rest)
unfolding drawn_clause
line_begins number ls body rest a = record {
  tokens = lower (codes "cnf") ∷ left_bracket ∷ named;
  begins = begins_word 99 (codes "nf") (left_bracket ∷ named) (40 ∷ 115 ∷ left) (10 ∷ rest) refl refl refl
      (begins_mark 40 named (115 ∷ left) (10 ∷ rest) refl refl refl from_name);
  spelled = (
    lower (115 ∷ decimal number),
    a.tokens,
    [],
    inl refl,
    (0, a.tokens, a.spelled, sym (append-nil a.tokens)),
    tt,
    ap (λ ts. lower (codes "cnf") ∷ left_bracket ∷ lower (115 ∷ decimal number) ∷ comma ∷ lower (codes "axiom") ∷ comma ∷ ts ++ right_bracket ∷ full_stop ∷ [])
        (sym (append-nil a.tokens)),
  );
  nested = max-le (omega arith) (max-le (omega arith) (max-le (omega arith) (max-le (omega arith) (max-le (omega arith) (max-le (omega arith)
      (a.nested 1 DEEPEST_NESTING (right_bracket ∷ full_stop ∷ []) (omega arith) (omega arith)))))));
} where
  formula : List Token
  formula = a.tokens ++ right_bracket ∷ full_stop ∷ []

  named : List Token
  named = lower (115 ∷ decimal number) ∷ comma ∷ lower (codes "axiom") ∷ comma ∷ formula

  left : Bytes
  left = (((decimal number ++ codes ",axiom,") ++ body) ++ codes ").\n") ++ rest

  from_formula : Begins (body ++ (codes ").\n" ++ rest)) formula (10 ∷ rest)
  from_formula =
      begins_append a.tokens (right_bracket ∷ full_stop ∷ []) _ (codes ").\n" ++ rest) (10 ∷ rest) (a.begins (codes ").\n" ++ rest) refl)
      (begins_mark 41 (full_stop ∷ []) (46 ∷ 10 ∷ rest) (10 ∷ rest) refl refl refl
      (begins_mark 46 [] (10 ∷ rest) (10 ∷ rest) refl refl refl refl))

  from_role : Begins (codes ",axiom," ++ (body ++ (codes ").\n" ++ rest))) (comma ∷ lower (codes "axiom") ∷ comma ∷ formula) (10 ∷ rest)
  from_role =
      begins_mark 44 (lower (codes "axiom") ∷ comma ∷ formula) _ (10 ∷ rest) refl refl refl
      (begins_word 97 (codes "xiom") (comma ∷ formula) (44 ∷ (body ++ (codes ").\n" ++ rest))) (10 ∷ rest) refl refl refl
      (begins_mark 44 formula (body ++ (codes ").\n" ++ rest)) (10 ∷ rest) refl refl refl from_formula))

  from_name : Begins (115 ∷ left) named (10 ∷ rest)
  from_name =
      subst (λ x. Begins (115 ∷ x) named (10 ∷ rest)) (sym (behind_name (decimal number) body rest))
      (begins_word 115 (decimal number) (comma ∷ lower (codes "axiom") ∷ comma ∷ formula) (codes ",axiom," ++ (body ++ (codes ").\n" ++ rest))) (10 ∷ rest)
      (decimal_goes_on number) refl refl from_role)

line_reads : (number first : ℕ) (text : Bytes) (last : ℕ) → clause number first text last
    → (c : Clause) × ((rest : Bytes) → BeginsWithItem (text ++ rest) (clause_item c) (10 ∷ rest))
unfolding clause
line_reads number first text last r =
    let head = codes "cnf(s" ++ decimal number ++ codes ",axiom," in
    let a = before_bytes (exactly head before literals) (codes ").\n") first text last r in
    let b = behind_bytes literals head first a.0 last a.1 in
    let m = draws_literals.each first b.0 last b.1 in
    let e : text ≡ (head ++ b.0) ++ codes ").\n" = a.2 ∙ ap (λ x. x ++ codes ").\n") b.2 in (
      drawn_clause number m.0,
      λ rest. subst (λ x. BeginsWithItem (x ++ rest) (clause_item (drawn_clause number m.0)) (10 ∷ rest)) (sym e) (line_begins number m.0 b.0 rest m.1),
    )

-- ---- after a line feed
-- the blank at the end of a line is one before the next item
skips_feed : (bytes rest : Bytes) → Skips bytes rest → Skips (10 ∷ bytes) rest
skips_feed bytes rest s = record { blanks = (10 ∷ []) ∷ s.blanks; each = (white 10 refl refl, s.each); whole = ap (λ x. 10 ∷ x) s.whole }

begins_feed : (ts : List Token) (bytes rest : Bytes) → (ts ≡ [] → ⊥) → Begins bytes ts rest → Begins (10 ∷ bytes) ts rest
begins_feed [] bytes rest some b = absurd (some refl)
begins_feed (t ∷ ts) bytes rest some b =
    let n = b.1 in
    (b.0, record { place = n.place; skips = skips_feed bytes n.place n.skips; stands = n.stands }, b.2)

some_tokens : (c : Clause) (ts : List Token) → IsClause c ts → ts ≡ [] → ⊥
some_tokens c ts s e = let f = s.6 in cc

clauses_feed : (cs : List Clause) (bytes : Bytes) → AreClauses cs bytes → AreClauses cs (10 ∷ bytes)
clauses_feed [] bytes b = record { rest = b.rest; skips = skips_feed bytes b.rest b.skips; ends = b.ends }
clauses_feed (c ∷ cs) bytes (after, item, more) = (
  after,
  record { tokens = item.tokens; begins = begins_feed item.tokens bytes after (some_tokens c item.tokens item.spelled) item.begins; spelled = item.spelled; nested = item.nested },
  more,
)

-- ---- all lines
-- the text is so many clauses, whichever stand after it
record AreRead (count : ℕ) (text : Bytes) : Type 0 where
  read : List Clause
  many : length read ≡ count
  reads : (others : List Clause) (rest : Bytes) → AreClauses others rest → AreClauses (read ++ others) (text ++ rest)

one_line_more : (count : ℕ) (left right : Bytes) (c : Clause) → AreRead count left → ((rest : Bytes) → BeginsWithItem (right ++ rest) (clause_item c) (10 ∷ rest))
    → AreRead (suc count) (left ++ right)
one_line_more count left right c a line = record {
  read = a.read ++ c ∷ [];
  many = length-append a.read (c ∷ []) ∙ ap (λ n. n + 1) a.many ∙ omega arith;
  reads = λ others rest h. subst (λ x. AreClauses x ((left ++ right) ++ rest)) (sym (append_assoc a.read (c ∷ []) others))
      (subst (λ x. AreClauses (a.read ++ (c ∷ others)) x) (sym (append_assoc left right rest))
      (a.reads (c ∷ others) (right ++ rest) (10 ∷ rest, line rest, clauses_feed others rest h)));
}

all_read : (count first : ℕ) (text : Bytes) (last : ℕ) → clauses count first text last → AreRead count text
unfolding clauses exactly ◌before◌
all_read zero first text last r = record { read = []; many = refl; reads = λ others rest h. subst (λ x. AreClauses others (x ++ rest)) (sym r.0) h }
all_read (suc count) first text last (left, middle, right, l, r, whole) =
    let line = line_reads (count + 1) middle right last r in
    subst (AreRead (suc count)) (sym whole) (one_line_more count left right line.0 (all_read count first left middle l) line.1)

-- nothing stands after the last
pub sample_is_clauses : (start count : ℕ) (text : Bytes) → IsSample start count text → (cs : List Clause) × (length cs ≡ count) × AreClauses cs text
sample_is_clauses start count text (last, drawn) =
    let r = all_read count start text last drawn in
    (r.read, r.many, subst (λ x. AreClauses r.read x) (append-nil text) (subst (λ x. AreClauses x (text ++ [])) (append-nil r.read) (r.reads [] [] nothing))) where
      nothing : AreClauses [] []
      nothing = record { rest = []; skips = skips_nothing []; ends = inl refl }
