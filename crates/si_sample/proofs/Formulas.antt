-- What the texts stand for that the generator's rules draw: terms, atoms, literals, disjunctions.
use Rattle.std.proofs.Common.{◌≡◌, ℕ, zero, suc, ◌+◌, ◌-◌, ◌≤◌, true, false, List, [], ◌∷◌, ◌++◌, length, codes, refl, sym, ap, subst, ◌∙◌, ◌⊎◌, inl, inr, append_assoc, append-nil, arith}
use Rattle.std.specs.Prelude.{IsTrue}
use Rattle.std.proofs.Math.Nat.{max-le}
use Rattle.std.proofs.lemmas.Bool.{and_right}
use Rattle.si_defs.specs.Bytes.{Bytes, is_word_byte, is_lower_word, is_upper_word}
use Rattle.si_defs.specs.Terms as terms
use Rattle.si_defs.specs.Symbols.{Symbol}
use Rattle.si_defs.specs.Clauses.{Term, Terms, Literal}
use Rattle.si_defs.specs.Tokens.{Token, is_mark, mark, lower, upper, Begins}
use Rattle.si_defs.specs.Grammar.{IsTerm, AreMoreTerms, IsAtom, IsLiteral, IsDisjunction, left_bracket, right_bracket, comma, nesting_from, open_behind}
use Rattle.si_defs.specs.Generator.{Rule, exactly, ◌before◌, one_of, rule_at, drawn, next, leaves, term, atom, literal, literals}
use Rattle.si_defs.specs.declared.SymKind.TheVariants.{Word}
use Rattle.si_defs.specs.declared.Side.{Side}
use Rattle.si_defs.specs.declared.Side.TheVariants.{Predicate, Function}
use Rattle.si_defs.specs.declared.TokenKind.TheVariants.{Lower, Upper, Mark}
use Rattle.si_defs.proofs.TokenLaws.{begins_append}
use Rattle.si_sample.proofs.Tokens.{is_letter, continues_word, is_plain, next_token}

-- The text is tokens of which this holds, whatever stands after it that no word goes on in. No
-- more brackets than this are open at once in it.
pub record IsPhrase (P : List Token → Type 0) (deep : ℕ) (text : Bytes) : Type 0 where
  pub tokens : List Token
  pub spelled : P tokens
  pub begins : (rest : Bytes) → continues_word rest ≡ false → Begins (text ++ rest) tokens rest
  pub nested : (depth most : ℕ) (others : List Token) → depth + deep ≤ most → nesting_from depth others ≤ most → nesting_from depth (tokens ++ others) ≤ most

-- the same tokens, of which something else holds
also : {P Q : List Token → Type 0} {deep : ℕ} {text : Bytes} → ((ts : List Token) → P ts → Q ts) → IsPhrase P deep text → IsPhrase Q deep text
also f a = record { tokens = a.tokens; spelled = f a.tokens a.spelled; begins = a.begins; nested = a.nested }

-- each text that the rule draws stands for something
pub record DrawsPhrases {A : Type 0} (Is : A → List Token → Type 0) (deep : ℕ) (rule : Rule) : Type 0 where
  pub each : (first : ℕ) (text : Bytes) (last : ℕ) → rule first text last → (a : A) × IsPhrase (Is a) deep text

-- ---- tokens
-- a mark before tokens
pub begins_mark : (c : ℕ) (ts : List Token) (bytes rest : Bytes) → IsTrue (is_mark c) → is_plain c ≡ true → is_letter c ≡ false → Begins bytes ts rest
    → Begins (c ∷ bytes) (mark c ∷ ts) rest
begins_mark c ts bytes rest m p l b = (bytes, next_token Mark (c ∷ []) c [] bytes (refl, (c, refl, m)) p (rw l refl), b)

-- a word that doesn't go on
pub begins_word : (c : ℕ) (cs : Bytes) (ts : List Token) (bytes rest : Bytes) → IsTrue (is_lower_word (c ∷ cs)) → is_plain c ≡ true → continues_word bytes ≡ false
    → Begins bytes ts rest → Begins (c ∷ cs ++ bytes) (lower (c ∷ cs) ∷ ts) rest
begins_word c cs ts bytes rest w p n b = (bytes, next_token Lower (c ∷ cs) c cs bytes (refl, w) p (and_right (is_letter c) (continues_word bytes) n), b)

-- ---- leaves
variable_phrase : (c deep : ℕ) → IsTrue (is_upper_word (c ∷ [])) → is_plain c ≡ true → IsPhrase (IsTerm (terms.var (c ∷ []))) deep (c ∷ [])
variable_phrase c deep w p = record {
  tokens = upper (c ∷ []) ∷ [];
  spelled = refl;
  begins = λ rest n. (rest, next_token Upper (c ∷ []) c [] rest (refl, w) p (and_right (is_letter c) (continues_word rest) n), refl);
  nested = λ depth most others d h. max-le (omega (arith, d)) h;
}

abbrev word_symbol : Bytes → Side → Terms → Symbol
word_symbol text side us = record { kind = Word; text = text; side = side; arity = terms.count us }

constant_phrase : (c deep : ℕ) → IsTrue (is_lower_word (c ∷ [])) → is_plain c ≡ true
    → IsPhrase (IsTerm (terms.app (word_symbol (c ∷ []) Function terms.none) terms.none)) deep (c ∷ [])
constant_phrase c deep w p = record {
  tokens = lower (c ∷ []) ∷ [];
  spelled = (refl, refl, (lower (c ∷ []), inl refl, refl));
  begins = λ rest n. begins_word c [] [] rest rest w p n refl;
  nested = λ depth most others d h. max-le (omega (arith, d)) h;
}

draws_variable : (c deep : ℕ) → IsTrue (is_upper_word (c ∷ [])) → is_plain c ≡ true → DrawsPhrases IsTerm deep (exactly (c ∷ []))
unfolding exactly
draws_variable c deep w p = record { each = λ first text last r. (terms.var (c ∷ []), subst (λ t. IsPhrase (IsTerm (terms.var (c ∷ []))) deep t) (sym r.0) (variable_phrase c deep w p)) }

draws_constant : (c deep : ℕ) → IsTrue (is_lower_word (c ∷ [])) → is_plain c ≡ true → DrawsPhrases IsTerm deep (exactly (c ∷ []))
unfolding exactly
draws_constant c deep w p =
    let t = terms.app (word_symbol (c ∷ []) Function terms.none) terms.none in
    record { each = λ first text last r. (t, subst (λ x. IsPhrase (IsTerm t) deep x) (sym r.0) (constant_phrase c deep w p)) }

-- ---- arguments
abbrev AreArguments : Terms → List Token → Type 0
AreArguments terms.none ts = ⊥
AreArguments (terms.more u us) ts = (first : List Token) × (others : List Token) × IsTerm u first × AreMoreTerms us others × (ts ≡ first ++ others)

one_argument : (u : Term) (deep : ℕ) (text : Bytes) → IsPhrase (IsTerm u) deep text → IsPhrase (AreArguments (terms.more u terms.none)) deep text
one_argument u deep text a = also (λ ts s. (ts, [], s, refl, sym (append-nil ts))) a

-- one text and another, with a mark between them
between : {P Q R : List Token → Type 0} (deep c : ℕ) (left right : Bytes) → IsTrue (is_mark c) → is_plain c ≡ true → is_letter c ≡ false → is_word_byte c ≡ false
    → ((depth : ℕ) → open_behind depth (mark c) ≡ depth) → (a : IsPhrase P deep left) → (b : IsPhrase Q deep right) → R (a.tokens ++ mark c ∷ b.tokens)
    → IsPhrase R deep ((left ++ c ∷ []) ++ right)
between deep c left right m p l w level a b r = record {
  tokens = a.tokens ++ mark c ∷ b.tokens;
  spelled = r;
  begins = λ rest n. subst (λ x. Begins x (a.tokens ++ mark c ∷ b.tokens) rest) (sym (whole rest))
      (begins_append a.tokens (mark c ∷ b.tokens) (left ++ (c ∷ right ++ rest)) (c ∷ right ++ rest) rest (a.begins (c ∷ right ++ rest) w)
      (begins_mark c b.tokens (right ++ rest) rest m p l (b.begins rest n)));
  nested = λ depth most others d h. subst (λ x. nesting_from depth x ≤ most) (sym (append_assoc a.tokens (mark c ∷ b.tokens) others))
      (a.nested depth most (mark c ∷ b.tokens ++ others) d
      (max-le (omega (arith, d)) (subst (λ k. nesting_from k (b.tokens ++ others) ≤ most) (sym (level depth)) (b.nested depth most others d h))));
} where
  whole : (rest : Bytes) → ((left ++ c ∷ []) ++ right) ++ rest ≡ left ++ (c ∷ right ++ rest)
  whole rest = append_assoc (left ++ c ∷ []) right rest ∙ append_assoc left (c ∷ []) (right ++ rest)

two_arguments : (u v : Term) (deep : ℕ) (left right : Bytes) → IsPhrase (IsTerm u) deep left → IsPhrase (IsTerm v) deep right
    → IsPhrase (AreArguments (terms.more u (terms.more v terms.none))) deep ((left ++ 44 ∷ []) ++ right)
two_arguments u v deep left right a b =
    between deep 44 left right refl refl refl refl (λ depth. refl) a b
    (a.tokens, comma ∷ b.tokens, a.spelled, (b.tokens, [], b.spelled, refl, ap (λ l. comma ∷ l) (sym (append-nil b.tokens))), refl)

-- a letter and arguments in brackets
abbrev IsCompound : ℕ → Terms → List Token → Type 0
IsCompound c us ts = IsTerm (terms.app (word_symbol (c ∷ []) Function us) us) ts

-- one more bracket is open in it
compound_phrase : (c deep : ℕ) (u : Term) (us : Terms) (text : Bytes) → IsTrue (is_lower_word (c ∷ [])) → is_plain c ≡ true
    → IsPhrase (AreArguments (terms.more u us)) deep text → IsPhrase (IsCompound c (terms.more u us)) (suc deep) (c ∷ 40 ∷ (text ++ 41 ∷ []))
compound_phrase c deep u us text w p a = record {
  tokens = lower (c ∷ []) ∷ left_bracket ∷ a.tokens ++ right_bracket ∷ [];
  spelled =
      let s = a.spelled in
      (refl, refl, (lower (c ∷ []), s.0, s.1, inl refl, s.2, s.3, ap (λ l. lower (c ∷ []) ∷ left_bracket ∷ l ++ right_bracket ∷ []) s.4));
  begins = λ rest n. begins_word c [] (left_bracket ∷ a.tokens ++ right_bracket ∷ []) (40 ∷ (text ++ 41 ∷ []) ++ rest) rest w p refl
      (begins_mark 40 (a.tokens ++ right_bracket ∷ []) ((text ++ 41 ∷ []) ++ rest) rest refl refl refl
      (subst (λ x. Begins x (a.tokens ++ right_bracket ∷ []) rest) (sym (append_assoc text (41 ∷ []) rest))
      (begins_append a.tokens (right_bracket ∷ []) (text ++ 41 ∷ rest) (41 ∷ rest) rest (a.begins (41 ∷ rest) refl)
      (begins_mark 41 [] rest rest refl refl refl refl))));
  nested = λ depth most others d h. max-le (omega (arith, d)) (max-le (omega (arith, d))
      (subst (λ x. nesting_from (depth + 1) x ≤ most) (sym (append_assoc a.tokens (right_bracket ∷ []) others))
      (a.nested (depth + 1) most (right_bracket ∷ others) (omega (arith, d)) (max-le (omega (arith, d))
      (subst (λ k. nesting_from k others ≤ most) (back depth) h)))));
} where
  back : (depth : ℕ) → depth ≡ depth + 1 - 1
  back depth = omega arith

-- ---- rules
-- what was drawn by a rule before these bytes, and after these
pub before_bytes : (P : Rule) (bytes : Bytes) (first : ℕ) (text : Bytes) (last : ℕ) → (P before exactly bytes) first text last
    → (left : Bytes) × P first left last × (text ≡ left ++ bytes)
unfolding ◌before◌ exactly
before_bytes P bytes first text last (left, middle, right, l, r, whole) =
    (left, subst (λ s. P first left s) (sym r.1) l, whole ∙ ap (λ x. left ++ x) r.0)

pub behind_bytes : (P : Rule) (bytes : Bytes) (first : ℕ) (text : Bytes) (last : ℕ) → (exactly bytes before P) first text last
    → (right : Bytes) × P first right last × (text ≡ bytes ++ right)
unfolding ◌before◌ exactly
behind_bytes P bytes first text last (left, middle, right, l, r, whole) =
    (right, subst (λ s. P s right last) l.1 r, whole ∙ ap (λ x. x ++ right) l.0)

-- one of two rules
either_rule : (P Q : Rule) (first : ℕ) (text : Bytes) (last : ℕ) → one_of (P ∷ Q ∷ []) first text last → P (next first) text last ⊎ Q (next first) text last
unfolding one_of
either_rule P Q first text last r = by (drawn 2 (next first)) r where
  by : (number : ℕ) → rule_at (P ∷ Q ∷ []) number (next first) text last → P (next first) text last ⊎ Q (next first) text last
  by zero r = inl r
  by (suc zero) r = inr r
  by (suc (suc number)) r = absurd r

-- a letter with one argument, and with two
draws_unary : {P : Rule} {deep : ℕ} (c : ℕ) → IsTrue (is_lower_word (c ∷ [])) → is_plain c ≡ true → DrawsPhrases IsTerm deep P
    → DrawsPhrases (IsCompound c) (suc deep) (exactly (c ∷ 40 ∷ []) before P before exactly (41 ∷ []))
draws_unary {P} {deep} c w p m = record { each = by } where
  by : (first : ℕ) (text : Bytes) (last : ℕ) → (exactly (c ∷ 40 ∷ []) before P before exactly (41 ∷ [])) first text last → (us : Terms) × IsPhrase (IsCompound c us) (suc deep) text
  by first text last r =
      let a = before_bytes (exactly (c ∷ 40 ∷ []) before P) (41 ∷ []) first text last r in
      let b = behind_bytes P (c ∷ 40 ∷ []) first a.0 last a.1 in
      let u = m.each first b.0 last b.1 in
      let e : text ≡ c ∷ 40 ∷ (b.0 ++ 41 ∷ []) = a.2 ∙ ap (λ x. x ++ 41 ∷ []) b.2 in
      (terms.more u.0 terms.none, subst (λ x. IsPhrase (IsCompound c (terms.more u.0 terms.none)) (suc deep) x) (sym e) (compound_phrase c deep u.0 terms.none b.0 w p (one_argument u.0 deep b.0 u.1)))

draws_binary : {P : Rule} {deep : ℕ} (c : ℕ) → IsTrue (is_lower_word (c ∷ [])) → is_plain c ≡ true → DrawsPhrases IsTerm deep P
    → DrawsPhrases (IsCompound c) (suc deep) (exactly (c ∷ 40 ∷ []) before P before exactly (44 ∷ []) before P before exactly (41 ∷ []))
unfolding ◌before◌
draws_binary {P} {deep} c w p m = record { each = by } where
  by : (first : ℕ) (text : Bytes) (last : ℕ) → (exactly (c ∷ 40 ∷ []) before P before exactly (44 ∷ []) before P before exactly (41 ∷ [])) first text last
      → (us : Terms) × IsPhrase (IsCompound c us) (suc deep) text
  by first text last r =
      let a = before_bytes (exactly (c ∷ 40 ∷ []) before P before exactly (44 ∷ []) before P) (41 ∷ []) first text last r in
      let k : (exactly (c ∷ 40 ∷ []) before P before exactly (44 ∷ []) before P) first a.0 last = a.1 in
      let b = before_bytes (exactly (c ∷ 40 ∷ []) before P) (44 ∷ []) first k.0 k.1 k.3 in
      let d = behind_bytes P (c ∷ 40 ∷ []) first b.0 k.1 b.1 in
      let u = m.each first d.0 k.1 d.1 in
      let v = m.each k.1 k.2 last k.4 in
      let e : text ≡ c ∷ 40 ∷ (((d.0 ++ 44 ∷ []) ++ k.2) ++ 41 ∷ []) =
      a.2 ∙ ap (λ x. x ++ 41 ∷ []) (k.5 ∙ ap (λ x. x ++ k.2) (b.2 ∙ ap (λ x. x ++ 44 ∷ []) d.2)) in (
        terms.more u.0 (terms.more v.0 terms.none),
        subst (λ x. IsPhrase (IsCompound c (terms.more u.0 (terms.more v.0 terms.none))) (suc deep) x) (sym e)
            (compound_phrase c deep u.0 (terms.more v.0 terms.none) ((d.0 ++ 44 ∷ []) ++ k.2) w p (two_arguments u.0 v.0 deep d.0 k.2 u.1 v.1)),
      )

-- ---- alternatives
-- each of these rules does
record DrawPhrases {A : Type 0} (Is : A → List Token → Type 0) (deep : ℕ) (rules : List Rule) : Type 0 where
  pub each : (number first : ℕ) (text : Bytes) (last : ℕ) → rule_at rules number first text last → (a : A) × IsPhrase (Is a) deep text

draws_none : {A : Type 0} (Is : A → List Token → Type 0) (deep : ℕ) → DrawPhrases Is deep []
draws_none Is deep = record { each = λ number first text last r. absurd r }

draws_more : {A : Type 0} {Is : A → List Token → Type 0} {deep : ℕ} {P : Rule} {Ps : List Rule} → DrawsPhrases Is deep P → DrawPhrases Is deep Ps → DrawPhrases Is deep (P ∷ Ps)
draws_more {A} {Is} {deep} {P} {Ps} p ps = record { each = by } where
  by : (number first : ℕ) (text : Bytes) (last : ℕ) → rule_at (P ∷ Ps) number first text last → (a : A) × IsPhrase (Is a) deep text
  by zero first text last r = p.each first text last r
  by (suc number) first text last r = ps.each number first text last r

draws_one_of : {A : Type 0} {Is : A → List Token → Type 0} {deep : ℕ} {rules : List Rule} → DrawPhrases Is deep rules → DrawsPhrases Is deep (one_of rules)
unfolding one_of
draws_one_of {A} {Is} {deep} {rules} ps = record { each = λ first text last r. ps.each (drawn (length rules) (next first)) (next first) text last r }

-- the same texts, that stand for something else
draws_also : {A B : Type 0} {Is : A → List Token → Type 0} {Also : B → List Token → Type 0} {deep : ℕ} {P : Rule} (f : A → B)
    → ((a : A) (ts : List Token) → Is a ts → Also (f a) ts) → DrawsPhrases Is deep P → DrawsPhrases Also deep P
draws_also {A} {B} {Is} {Also} {deep} {P} f g m = record { each = by } where
  by : (first : ℕ) (text : Bytes) (last : ℕ) → P first text last → (b : B) × IsPhrase (Also b) deep text
  by first text last r =
      let a = m.each first text last r in
      (f a.0, also (g a.0) a.1)

-- ---- terms and atoms
-- X, Y, a and b
draws_leaves : {deep : ℕ} {others : List Rule} → DrawPhrases IsTerm deep others → DrawPhrases IsTerm deep (leaves ++ others)
draws_leaves {deep} others =
    draws_more (draws_variable 88 deep refl refl) (draws_more (draws_variable 89 deep refl refl)
    (draws_more (draws_constant 97 deep refl refl) (draws_more (draws_constant 98 deep refl refl) others)))

draws_term : (depth : ℕ) → DrawsPhrases IsTerm depth (term depth)
unfolding term
draws_term zero = draws_one_of (draws_leaves (draws_none IsTerm 0))
draws_term (suc depth) =
    let argument : DrawsPhrases IsTerm depth (term depth) = draws_term depth in
    draws_one_of
    (draws_leaves
    (draws_more (draws_also (term_with 103) (λ us ts a. a) (draws_unary 103 refl refl argument))
    (draws_more (draws_also (term_with 102) (λ us ts a. a) (draws_binary 102 refl refl argument)) (draws_none IsTerm (suc depth))))) where
      term_with : ℕ → Terms → Term
      term_with c us = terms.app (word_symbol (c ∷ []) Function us) us

-- a term is an atom where its head is a predicate
abbrev atom_with : ℕ → Terms → Term
atom_with c us = terms.app (word_symbol (c ∷ []) Predicate us) us

atom_of_term : (c : ℕ) (us : Terms) (ts : List Token) → IsCompound c us ts → IsAtom (atom_with c us) ts
atom_of_term c terms.none ts a = (refl, refl, a.2)
atom_of_term c (terms.more u us) ts a = inl (refl, refl, a.2)

draws_atom : DrawsPhrases IsAtom 3 atom
draws_atom =
    draws_one_of
    (draws_more (draws_also (atom_with 112) (atom_of_term 112) (draws_binary 112 refl refl (draws_term 2)))
    (draws_more (draws_also (atom_with 113) (atom_of_term 113) (draws_unary 113 refl refl (draws_term 2))) (draws_none IsAtom 3)))

-- ---- literals
negated : (atom : Term) (deep : ℕ) (text : Bytes) → IsPhrase (IsAtom atom) deep text
    → IsPhrase (IsLiteral (record { positive = false; atom = atom })) deep (126 ∷ text)
negated atom deep text a = record {
  tokens = mark 126 ∷ a.tokens;
  spelled = inl (a.tokens, a.spelled, refl);
  begins = λ rest n. begins_mark 126 a.tokens (text ++ rest) rest refl refl refl (a.begins rest n);
  nested = λ depth most others d h. max-le (omega (arith, d)) (a.nested depth most others d h);
}

draws_literal : DrawsPhrases IsLiteral 3 literal
unfolding literal ◌before◌ exactly
draws_literal = record { each = by } where
  by : (first : ℕ) (text : Bytes) (last : ℕ) → literal first text last → (l : Literal) × IsPhrase (IsLiteral l) 3 text
  by first text last (left, middle, right, l, r, whole) = signed (either_rule (exactly []) (exactly (codes "~")) first left middle l) where
    a : (t : Term) × IsPhrase (IsAtom t) 3 right
    a = draws_atom.each middle right last r

    signed : exactly [] (next first) left middle ⊎ exactly (codes "~") (next first) left middle → (l : Literal) × IsPhrase (IsLiteral l) 3 text
    signed (inl s) = (
      record { positive = true; atom = a.0 },
      subst (λ x. IsPhrase (IsAtom a.0) 3 x) (sym (whole ∙ ap (λ x. x ++ right) s.0)) a.1,
    )
    signed (inr s) = (
      record { positive = false; atom = a.0 },
      subst (λ x. IsPhrase (IsLiteral (record { positive = false; atom = a.0 })) 3 x) (sym (whole ∙ ap (λ x. x ++ right) s.0)) (negated a.0 3 right a.1),
    )

one_literal : (l : Literal) (deep : ℕ) (text : Bytes) → IsPhrase (IsLiteral l) deep text → IsPhrase (IsDisjunction (l ∷ [])) deep text
one_literal l deep text a = also (λ ts s. (ts, [], s, refl, sym (append-nil ts))) a

two_literals : (l m : Literal) (deep : ℕ) (left right : Bytes) → IsPhrase (IsLiteral l) deep left → IsPhrase (IsLiteral m) deep right
    → IsPhrase (IsDisjunction (l ∷ m ∷ [])) deep ((left ++ 124 ∷ []) ++ right)
two_literals l m deep left right a b =
    between deep 124 left right refl refl refl refl (λ depth. refl) a b
    (a.tokens, mark 124 ∷ b.tokens, a.spelled, (b.tokens, [], b.spelled, refl, ap (λ l. mark 124 ∷ l) (sym (append-nil b.tokens))), refl)

draws_two : DrawsPhrases IsDisjunction 3 (literal before exactly (codes "|") before literal)
unfolding ◌before◌
draws_two = record { each = by } where
  by : (first : ℕ) (text : Bytes) (last : ℕ) → (literal before exactly (codes "|") before literal) first text last → (ls : List Literal) × IsPhrase (IsDisjunction ls) 3 text
  by first text last (left, middle, right, l, r, whole) =
      let b = before_bytes literal (codes "|") first left middle l in
      let x = draws_literal.each first b.0 middle b.1 in
      let y = draws_literal.each middle right last r in
      let e : text ≡ (b.0 ++ 124 ∷ []) ++ right = whole ∙ ap (λ t. t ++ right) b.2 in
      (x.0 ∷ y.0 ∷ [], subst (λ t. IsPhrase (IsDisjunction (x.0 ∷ y.0 ∷ [])) 3 t) (sym e) (two_literals x.0 y.0 3 b.0 right x.1 y.1))

-- the text of a formula, in which no more than three brackets are open at once
pub draws_literals : DrawsPhrases IsDisjunction 3 literals
draws_literals = draws_one_of (draws_more one (draws_more draws_two (draws_none IsDisjunction 3))) where
  one : DrawsPhrases IsDisjunction 3 literal
  one = record {
    each = λ first text last r. let l = draws_literal.each first text last r in
        (l.0 ∷ [], one_literal l.0 3 text l.1);
  }
