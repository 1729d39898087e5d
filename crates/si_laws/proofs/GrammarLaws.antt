-- Tokens spell one term, one literal, one formula and one clause at most.
use Rattle.std.proofs.Common.{◌≡◌, ◌⊎◌, inl, inr, ℕ, ◌+◌, Bool, true, false, List, [], ◌∷◌, ◌++◌, replicate, refl, sym, ap, ◌∙◌, subst, append_assoc, arith}
use Rattle.std.proofs.lemmas.Option.{same_Some, none-some}
use Rattle.si_defs.specs.Terms as terms
use Rattle.si_defs.specs.Symbols.{Symbol}
use Rattle.si_defs.specs.Clauses.{Term, Terms, Literal, Name, Clause}
use Rattle.si_defs.specs.Tokens.{Token, mark, upper}
use Rattle.si_defs.specs.Grammar.{IsName, IsConstant, IsTerm, AreMoreTerms, IsSignedAtom, IsLiteral, AreMoreLiterals, IsDisjunction, IsFormula, IsClause, left_bracket, right_bracket, full_stop}
use Rattle.si_defs.proofs.ListLaws.{same_first, same_tail}
use Rattle.si_parse.specs.Parsing.{NoBracket, NoEquation, NoLiteral}
use Rattle.si_parse.specs.GrammarRules.{as_atom, positively, equation, equation_sign, IsStatement, IsNegated}
use Rattle.si_parse.proofs.GrammarTerms.{marks_apart, no_bracket, opens, symbol_kind, head_constant, constant_is, term_goes_on}
use Rattle.si_parse.proofs.GrammarLiterals.{Spelled, headed, sided, spelled_of, no_equation-bracket, statement_first, mark_no_first, statement_no_mark, right_no_equation, equation_sign_no_bracket, equation_sign_never, equation_signs_apart}
use Rattle.si_parse.proofs.GrammarFormulas.{literal_last, bar_no_equation, bar_stops, closing_follows, same_brackets}
use Rattle.si_parse.proofs.GrammarNames.{name_kind, name_of_token}
use Rattle.si_parse.proofs.GrammarNotes.{closed_follows}

-- ---- fronts
fronts : (us vs xs ys : List Token) (t u : Token) (ps qs : List Token) → us ++ xs ≡ vs ++ ys → us ≡ t ∷ ps → vs ≡ u ∷ qs → t ∷ (ps ++ xs) ≡ u ∷ (qs ++ ys)
fronts us vs xs ys t u ps qs e f g = sym (ap (λ l. l ++ xs) f) ∙ e ∙ ap (λ l. l ++ ys) g

-- ---- terms
-- the arguments after the first are followed by no bracket
more_bare : (us : Terms) (ts rest : List Token) → AreMoreTerms us ts → NoBracket (ts ++ right_bracket ∷ rest)
more_bare terms.none ts rest e = subst (λ l. NoBracket (l ++ right_bracket ∷ rest)) (sym e) (marks_apart 41 40 (λ f. absurd (omega (arith, f))), tt)
more_bare (terms.more u us) ts rest (first, others, one, all, e) =
    subst (λ l. NoBracket (l ++ right_bracket ∷ rest)) (sym e) (term_goes_on ((first ++ others) ++ right_bracket ∷ rest))

same_symbol : (s r : Symbol) (t u : Token) → t ≡ u → IsConstant s.kind s.text t → IsConstant r.kind r.text u → s.side ≡ r.side → s.arity ≡ r.arity → s ≡ r
same_symbol s r t u e h k side arity =
    let c = constant_is s.kind s.text t h in
    let d = constant_is r.kind r.text u k in
    let kind : s.kind ≡ r.kind = same_Some _ _ (sym c.0 ∙ ap (λ (w : Token). symbol_kind w.kind) e ∙ d.0) in
    let text : s.text ≡ r.text = c.1 ∙ ap (λ (w : Token). w.text) e ∙ sym d.1 in
    λ i. record { kind = kind i; text = text i; side = side i; arity = arity i }

-- between brackets
regroup : (a b rest : List Token) → ((a ++ b) ++ right_bracket ∷ []) ++ rest ≡ a ++ (b ++ right_bracket ∷ rest)
regroup a b rest = append_assoc (a ++ b) (right_bracket ∷ []) rest ∙ append_assoc a b (right_bracket ∷ rest)

mutual
  pub term_one : (m n : Term) (us vs xs ys : List Token) → us ++ xs ≡ vs ++ ys → IsTerm m us → IsTerm n vs → NoBracket xs → NoBracket ys → (m ≡ n) × (xs ≡ ys)
  term_one (terms.var x) (terms.var y) us vs xs ys e f g a b =
      let s = fronts us vs xs ys (upper x) (upper y) [] [] e f g in
      (ap (λ (t : Token). terms.var t.text) (same_first s), same_tail s)
  term_one (terms.var x) (terms.app r terms.none) us vs xs ys e f (side, arity, (u, const, g)) a b =
      let s = fronts us vs xs ys (upper x) u [] [] e f g in
      absurd (none-some _ (ap (λ (t : Token). symbol_kind t.kind) (same_first s) ∙ (constant_is r.kind r.text u const).0))
  term_one (terms.var x) (terms.app r (terms.more n ns)) us vs xs ys e f (side, arity, (u, first, others, head, one, all, g)) a b =
      let s = fronts us vs xs ys (upper x) u [] (left_bracket ∷ (first ++ others) ++ right_bracket ∷ []) e f g in
      absurd (none-some _ (ap (λ (t : Token). symbol_kind t.kind) (same_first s) ∙ (constant_is r.kind r.text u (head_constant r.kind r.text u head)).0))
  term_one (terms.app s terms.none) (terms.var y) us vs xs ys e (side, arity, (t, const, f)) g a b =
      let w = fronts us vs xs ys t (upper y) [] [] e f g in
      absurd (none-some _ (sym (ap (λ (u : Token). symbol_kind u.kind) (same_first w)) ∙ (constant_is s.kind s.text t const).0))
  term_one (terms.app s (terms.more m ms)) (terms.var y) us vs xs ys e (side, arity, (t, first, others, head, one, all, f)) g a b =
      let w = fronts us vs xs ys t (upper y) (left_bracket ∷ (first ++ others) ++ right_bracket ∷ []) [] e f g in
      absurd (none-some _ (sym (ap (λ (u : Token). symbol_kind u.kind) (same_first w)) ∙ (constant_is s.kind s.text t (head_constant s.kind s.text t head)).0))
  term_one (terms.app s terms.none) (terms.app r terms.none) us vs xs ys e (side, arity, (t, const, f)) (side', arity', (u, const', g)) a b =
      let w = fronts us vs xs ys t u [] [] e f g in
      (ap (λ q. terms.app q terms.none) (same_symbol s r t u (same_first w) const const' (side ∙ sym side') (arity ∙ sym arity')), same_tail w)
  term_one (terms.app s terms.none) (terms.app r (terms.more n ns)) us vs xs ys e (side, arity, (t, const, f)) (side', arity', (u, first, others, head, one, all, g)) a b =
      let w = fronts us vs xs ys t u [] (left_bracket ∷ (first ++ others) ++ right_bracket ∷ []) e f g in
      absurd (opens xs (((first ++ others) ++ right_bracket ∷ []) ++ ys) a (same_tail w))
  term_one (terms.app s (terms.more m ms)) (terms.app r terms.none) us vs xs ys e (side, arity, (t, first, others, head, one, all, f)) (side', arity', (u, const, g)) a b =
      let w = fronts us vs xs ys t u (left_bracket ∷ (first ++ others) ++ right_bracket ∷ []) [] e f g in
      absurd (opens ys (((first ++ others) ++ right_bracket ∷ []) ++ xs) b (sym (same_tail w)))
  term_one (terms.app s (terms.more m ms)) (terms.app r (terms.more n ns)) us vs xs ys e (side, arity, (t, first, others, head, one, all, f)) (side', arity', (u, front, rest, head', two, every, g)) a b =
      let w = fronts us vs xs ys t u (left_bracket ∷ (first ++ others) ++ right_bracket ∷ []) (left_bracket ∷ (front ++ rest) ++ right_bracket ∷ []) e f g in
      let inner = sym (regroup first others xs) ∙ same_tail (same_tail w) ∙ regroup front rest ys in
      let x = term_one m n first front (others ++ right_bracket ∷ xs) (rest ++ right_bracket ∷ ys) inner one two (more_bare ms others xs all) (more_bare ns rest ys every) in
      let y = terms_one ms ns others rest xs ys x.1 all every in
      let symbol = same_symbol s r t u (same_first w) (head_constant s.kind s.text t head) (head_constant r.kind r.text u head') (side ∙ sym side') (arity ∙ ap (λ ts. 1 + terms.count ts) y.0 ∙ sym arity') in
      ((λ i. terms.app (symbol i) (terms.more (x.0 i) (y.0 i))), y.1)

  terms_one : (ms ns : Terms) (us vs xs ys : List Token) → us ++ right_bracket ∷ xs ≡ vs ++ right_bracket ∷ ys → AreMoreTerms ms us → AreMoreTerms ns vs → (ms ≡ ns) × (xs ≡ ys)
  terms_one terms.none terms.none us vs xs ys e f g = (refl, same_tail (sym (ap (λ l. l ++ right_bracket ∷ xs) f) ∙ e ∙ ap (λ l. l ++ right_bracket ∷ ys) g))
  terms_one terms.none (terms.more n ns) us vs xs ys e f (first, others, one, all, g) =
      absurd (marks_apart 41 44 (λ k. absurd (omega (arith, k))) (same_first (sym (ap (λ l. l ++ right_bracket ∷ xs) f) ∙ e ∙ ap (λ l. l ++ right_bracket ∷ ys) g)))
  terms_one (terms.more m ms) terms.none us vs xs ys e (first, others, one, all, f) g =
      absurd (marks_apart 44 41 (λ k. absurd (omega (arith, k))) (same_first (sym (ap (λ l. l ++ right_bracket ∷ xs) f) ∙ e ∙ ap (λ l. l ++ right_bracket ∷ ys) g)))
  terms_one (terms.more m ms) (terms.more n ns) us vs xs ys e (first, others, one, all, f) (front, rest, two, every, g) =
      let w = same_tail (sym (ap (λ l. l ++ right_bracket ∷ xs) f) ∙ e ∙ ap (λ l. l ++ right_bracket ∷ ys) g) in
      let inner = sym (append_assoc first others (right_bracket ∷ xs)) ∙ w ∙ append_assoc front rest (right_bracket ∷ ys) in
      let x = term_one m n first front (others ++ right_bracket ∷ xs) (rest ++ right_bracket ∷ ys) inner one two (more_bare ms others xs all) (more_bare ns rest ys every) in
      let y = terms_one ms ns others rest xs ys x.1 all every in
      ((λ i. terms.more (x.0 i) (y.0 i)), y.1)

-- ---- statements
pub statement_one : (l k : Literal) (us vs xs ys : List Token) → us ++ xs ≡ vs ++ ys → IsStatement l us → IsStatement k vs → NoEquation xs → NoEquation ys → (l ≡ k) × (xs ≡ ys)
statement_one l k us vs xs ys e h i a b = by (spelled_of l us h) (spelled_of k vs i) where
  parted : (positive : Bool) (ts front back rest : List Token) → ts ≡ front ++ equation_sign positive ∷ back → ts ++ rest ≡ front ++ (equation_sign positive ∷ back ++ rest)
  parted positive ts front back rest w = ap (λ z. z ++ rest) w ∙ append_assoc front (equation_sign positive ∷ back) rest

  by : Spelled l us → Spelled k vs → (l ≡ k) × (xs ≡ ys)
  by (headed t one f p) (headed u two g q) =
      let s = term_one t u us vs xs ys e one two (no_equation-bracket xs a) (no_equation-bracket ys b) in
      let atom : l.atom ≡ k.atom = same_Some _ _ (sym f ∙ ap as_atom s.0 ∙ g) in
      ((λ n. record { positive = (p ∙ sym q) n; atom = atom n }), s.1)
  by (headed t one f p) (sided left right front back two three g w) =
      let s = term_one t left us front xs (equation_sign k.positive ∷ back ++ ys) (e ∙ parted k.positive vs front back ys w) one two (no_equation-bracket xs a) (equation_sign_no_bracket k.positive (back ++ ys)) in
      absurd (equation_sign_never k.positive (back ++ ys) xs a s.1)
  by (sided left right front back one two f w) (headed u three g q) =
      let s = term_one left u front vs (equation_sign l.positive ∷ back ++ xs) ys (sym (parted l.positive us front back xs w) ∙ e) one three (equation_sign_no_bracket l.positive (back ++ xs)) (no_equation-bracket ys b) in
      absurd (equation_sign_never l.positive (back ++ xs) ys b (sym s.1))
  by (sided left right front back one two f w) (sided first second before behind three four g z) =
      let s =
      term_one left first front before (equation_sign l.positive ∷ back ++ xs) (equation_sign k.positive ∷ behind ++ ys)
      (sym (parted l.positive us front back xs w) ∙ e ∙ parted k.positive vs before behind ys z) one three (equation_sign_no_bracket l.positive (back ++ xs)) (equation_sign_no_bracket k.positive (behind ++ ys)) in
      let r = term_one right second back behind xs ys (same_tail s.1) two four (no_equation-bracket xs a) (no_equation-bracket ys b) in
      let atom : l.atom ≡ k.atom = sym f ∙ (λ n. equation (s.0 n) (r.0 n)) ∙ g in
      ((λ n. record { positive = equation_signs_apart l.positive k.positive (same_first s.1) n; atom = atom n }), r.1)

-- ---- literals
-- a literal is a statement, or a tilde and an atom
plain_or_tilde : (positive : Bool) (m : Term) (ts : List Token) → IsSignedAtom positive m ts
    → IsStatement (record { positive = positive; atom = m }) ts ⊎ ((positive ≡ false) × ((us : List Token) × IsNegated m us × (ts ≡ mark 126 ∷ us)))
plain_or_tilde true m ts h = inl h
plain_or_tilde false m ts (inl (us, h, g)) = inr (refl, (us, inl h, g))
plain_or_tilde false m ts (inr (inl (us, h, g))) = inr (refl, (left_bracket ∷ us ++ right_bracket ∷ [], inr (us, h, refl), g))
plain_or_tilde false m ts (inr (inr h)) = inl h

negated_one : (m n : Term) (us vs xs ys : List Token) → us ++ xs ≡ vs ++ ys → IsNegated m us → IsNegated n vs → NoEquation xs → NoEquation ys → (m ≡ n) × (xs ≡ ys)
negated_one m n us vs xs ys e (inl h) (inl i) a b =
    let s = statement_one (positively m) (positively n) us vs xs ys e h i a b in (ap (λ (l : Literal). l.atom) s.0, s.1)
negated_one m n us vs xs ys e (inl h) (inr (inner, i, g)) a b =
    absurd (statement_no_mark 40 (positively m) us ((inner ++ right_bracket ∷ []) ++ ys) xs (us ++ xs) (e ∙ ap (λ l. l ++ ys) g) refl h)
negated_one m n us vs xs ys e (inr (inner, h, f)) (inl i) a b =
    absurd (statement_no_mark 40 (positively n) vs ((inner ++ right_bracket ∷ []) ++ xs) ys (vs ++ ys) (sym e ∙ ap (λ l. l ++ xs) f) refl i)
negated_one m n us vs xs ys e (inr (inner, h, f)) (inr (core, i, g)) a b =
    let w = same_tail (sym (ap (λ l. l ++ xs) f) ∙ e ∙ ap (λ l. l ++ ys) g) in
    let s =
    statement_one (positively m) (positively n) inner core (right_bracket ∷ xs) (right_bracket ∷ ys)
    (sym (append_assoc inner (right_bracket ∷ []) xs) ∙ w ∙ append_assoc core (right_bracket ∷ []) ys) h i (right_no_equation xs) (right_no_equation ys) in
    (ap (λ (l : Literal). l.atom) s.0, same_tail s.1)

pub literal_one : (l k : Literal) (us vs xs ys : List Token) → us ++ xs ≡ vs ++ ys → IsLiteral l us → IsLiteral k vs → NoEquation xs → NoEquation ys → (l ≡ k) × (xs ≡ ys)
literal_one l k us vs xs ys e h i a b = by (plain_or_tilde l.positive l.atom us h) (plain_or_tilde k.positive k.atom vs i) where
  by : IsStatement l us ⊎ ((l.positive ≡ false) × ((ts : List Token) × IsNegated l.atom ts × (us ≡ mark 126 ∷ ts)))
      → IsStatement k vs ⊎ ((k.positive ≡ false) × ((ts : List Token) × IsNegated k.atom ts × (vs ≡ mark 126 ∷ ts))) → (l ≡ k) × (xs ≡ ys)
  by (inl f) (inl g) = statement_one l k us vs xs ys e f g a b
  by (inl f) (inr (p, (ts, g, w))) = absurd (statement_no_mark 126 l us (ts ++ ys) xs (us ++ xs) (e ∙ ap (λ z. z ++ ys) w) refl f)
  by (inr (p, (ts, f, w))) (inl g) = absurd (statement_no_mark 126 k vs (ts ++ xs) ys (vs ++ ys) (sym e ∙ ap (λ z. z ++ xs) w) refl g)
  by (inr (p, (ts, f, w))) (inr (q, (ws, g, z))) =
      let s = negated_one l.atom k.atom ts ws xs ys (same_tail (fronts us vs xs ys (mark 126) (mark 126) ts ws e w z)) f g a b in
      ((λ n. record { positive = (p ∙ sym q) n; atom = s.0 n }), s.1)

literal_bare : (l : Literal) (ts rest : List Token) → IsLiteral l ts → NoBracket (ts ++ rest)
literal_bare l ts rest h = by (plain_or_tilde l.positive l.atom ts h) where
  by : IsStatement l ts ⊎ ((l.positive ≡ false) × ((us : List Token) × IsNegated l.atom us × (ts ≡ mark 126 ∷ us))) → NoBracket (ts ++ rest)
  by (inl f) = let s = statement_first l ts f in no_bracket s.0 (s.1 ++ rest) (ts ++ rest) (ap (λ x. x ++ rest) s.3) (λ e. mark_no_first 40 s.0 s.2 (sym e))
  by (inr (p, (us, f, w))) = no_bracket (mark 126) (us ++ rest) (ts ++ rest) (ap (λ x. x ++ rest) w) (marks_apart 126 40 (λ e. absurd (omega (arith, e))))

-- ---- formulas
literals_follow : (ls : List Literal) (ts rest : List Token) → AreMoreLiterals ls ts → NoLiteral rest → NoEquation (ts ++ rest)
literals_follow [] ts rest e a = subst (λ l. NoEquation (l ++ rest)) (sym e) (literal_last rest a)
literals_follow (l ∷ ls) ts rest (first, others, one, all, e) a = subst (λ z. NoEquation (z ++ rest)) (sym e) (bar_no_equation ((first ++ others) ++ rest))

literals_one : (ls ks : List Literal) (us vs xs ys : List Token) → us ++ xs ≡ vs ++ ys → AreMoreLiterals ls us → AreMoreLiterals ks vs → NoLiteral xs → NoLiteral ys → ls ≡ ks
literals_one [] [] us vs xs ys e f g a b = refl
literals_one [] (k ∷ ks) us vs xs ys e f (first, others, one, all, g) a b =
    absurd (bar_stops ((first ++ others) ++ ys) (subst NoLiteral (sym (ap (λ l. l ++ xs) f) ∙ e ∙ ap (λ l. l ++ ys) g) a))
literals_one (l ∷ ls) [] us vs xs ys e (first, others, one, all, f) g a b =
    absurd (bar_stops ((first ++ others) ++ xs) (subst NoLiteral (sym (ap (λ l. l ++ ys) g) ∙ sym e ∙ ap (λ l. l ++ xs) f) b))
literals_one (l ∷ ls) (k ∷ ks) us vs xs ys e (first, others, one, all, f) (front, rest, two, every, g) a b =
    let w = same_tail (sym (ap (λ z. z ++ xs) f) ∙ e ∙ ap (λ z. z ++ ys) g) in
    let s =
    literal_one l k first front (others ++ xs) (rest ++ ys) (sym (append_assoc first others xs) ∙ w ∙ append_assoc front rest ys) one two
    (literals_follow ls others xs all a) (literals_follow ks rest ys every b) in
    let t = literals_one ls ks others rest xs ys s.1 all every a b in
    λ n. s.0 n ∷ t n

disjunction_one : (ls ks : List Literal) (us vs xs ys : List Token) → us ++ xs ≡ vs ++ ys → IsDisjunction ls us → IsDisjunction ks vs → NoLiteral xs → NoLiteral ys → ls ≡ ks
disjunction_one [] ks us vs xs ys e f g a b = absurd f
disjunction_one (l ∷ ls) [] us vs xs ys e f g a b = absurd g
disjunction_one (l ∷ ls) (k ∷ ks) us vs xs ys e (first, others, one, all, f) (front, rest, two, every, g) a b =
    let w = sym (ap (λ z. z ++ xs) f) ∙ e ∙ ap (λ z. z ++ ys) g in
    let s =
    literal_one l k first front (others ++ xs) (rest ++ ys) (sym (append_assoc first others xs) ∙ w ∙ append_assoc front rest ys) one two
    (literals_follow ls others xs all a) (literals_follow ks rest ys every b) in
    let t = literals_one ls ks others rest xs ys s.1 all every a b in
    λ n. s.0 n ∷ t n

disjunction_bare : (ls : List Literal) (ts rest : List Token) → IsDisjunction ls ts → NoBracket (ts ++ rest)
disjunction_bare [] ts rest h = absurd h
disjunction_bare (l ∷ ls) ts rest (first, others, one, all, e) =
    subst NoBracket (sym (ap (λ x. x ++ rest) e ∙ append_assoc first others rest)) (literal_bare l first (others ++ rest) one)

pub formula_one : (ls ks : List Literal) (us vs xs ys : List Token) → us ++ xs ≡ vs ++ ys → IsFormula ls us → IsFormula ks vs → NoLiteral xs → NoLiteral ys → ls ≡ ks
formula_one ls ks us vs xs ys e (n, inner, h, f) (m, core, i, g) a b =
    let w = sym (spread n inner xs us f) ∙ e ∙ spread m core ys vs g in
    let s =
    (same_brackets n m (inner ++ (replicate n right_bracket ++ xs)) (core ++ (replicate m right_bracket ++ ys))
    (disjunction_bare ls inner (replicate n right_bracket ++ xs) h) (disjunction_bare ks core (replicate m right_bracket ++ ys) i) w).1 in
    disjunction_one ls ks inner core (replicate n right_bracket ++ xs) (replicate m right_bracket ++ ys) s h i (closing_follows n xs a) (closing_follows m ys b) where
      spread : (k : ℕ) (middle rest ts : List Token) → ts ≡ replicate k left_bracket ++ middle ++ replicate k right_bracket
          → ts ++ rest ≡ replicate k left_bracket ++ (middle ++ (replicate k right_bracket ++ rest))
      spread k middle rest ts z =
          ap (λ l. l ++ rest) z ∙ append_assoc (replicate k left_bracket ++ middle) (replicate k right_bracket) rest
          ∙ append_assoc (replicate k left_bracket) middle (replicate k right_bracket ++ rest)

-- ---- clauses
pub name_one : (n m : Name) (t u : Token) → t ≡ u → IsName n t → IsName m u → n ≡ m
name_one n m t u e h k =
    let c = name_of_token n t h in
    let d = name_of_token m u k in
    let kind : n.kind ≡ m.kind = same_Some _ _ (sym c.0 ∙ ap (λ (w : Token). name_kind w.kind) e ∙ d.0) in
    let text : n.text ≡ m.text = sym c.1 ∙ ap (λ (w : Token). w.text) e ∙ d.1 in
    λ i. record { kind = kind i; text = text i }

pub clause_one : (c d : Clause) (ts us : List Token) → ts ≡ us → IsClause c ts → IsClause d us → c ≡ d
clause_one c d ts us e (name, formula, extra, is, spelled, notes, f) (other, body, more, is_too, spelled_too, notes_too, g) =
    let w = same_tail (same_tail (sym f ∙ e ∙ g)) in
    let same = name_one c.name d.name name other (same_first w) is is_too in
    let role = ap (λ (t : Token). t.text) (same_first (same_tail (same_tail w))) in
    let rest = same_tail (same_tail (same_tail (same_tail w))) in
    let literals =
    formula_one c.literals d.literals formula body (extra ++ end) (more ++ end) (sym (append_assoc formula extra end) ∙ rest ∙ append_assoc body more end) spelled spelled_too
    (follows extra (closed_follows (extra ++ right_bracket ∷ []) (full_stop ∷ []) (extra, notes, refl)))
    (follows more (closed_follows (more ++ right_bracket ∷ []) (full_stop ∷ []) (more, notes_too, refl))) in
    λ i. record { name = same i; role = role i; literals = literals i } where
      end : List Token
      end = right_bracket ∷ full_stop ∷ []

      follows : (x : List Token) → NoLiteral ((x ++ right_bracket ∷ []) ++ full_stop ∷ []) → NoLiteral (x ++ end)
      follows x h = subst NoLiteral (append_assoc x (right_bracket ∷ []) (full_stop ∷ [])) h
