-- The entries that a scan has passed, and those of them that it has added.
use Rattle.std.proofs.Common.{◌≡◌, inl, inr, ℕ, ◌+◌, ◌<◌, ◌≤◌, List, [], ◌∷◌, ◌++◌, length, map, get_or, drop, refl, sym, ◌∙◌, ap, subst, arith, append_assoc, append-nil, length-append}
use Rattle.std.specs.Prelude.{Option, None, Some}
use Rattle.std.specs.Iterator.{YieldsFirstBy}
use Rattle.std.proofs.lemmas.List.{length-map, map-append, drop_more, drop_all}
use Rattle.si_defs.specs.Terms as terms
use Rattle.si_defs.specs.Clauses.{Term, Literal, Clause}
use Rattle.si_defs.specs.Entries.{Entry, literal_entry, term_entry}
use Rattle.si_term.specs.Terms.{symbol_of, term_of}
use Rattle.si_term.specs.Meaning.{literal_of, clause_of}
use Rattle.si_defs.specs.Terms.{arguments}
use Rattle.si_term.specs.Walks.{subterms, subterms_of_all, entries_alone}
use Rattle.si_term.specs.declared.term.Sym as symbol
use Rattle.si_term.specs.declared.term.Term as program
use Rattle.si_term.specs.declared.term.Term.TheVariants.{App}
use Rattle.si_term.specs.declared.clause.Literal as program_literal
use Rattle.si_term.specs.declared.clause.Clause as program_clause
use Rattle.si_term.proofs.Rows.{from, from-read, from-end, app-term}
use Rattle.si_keyed.specs.Keyed.{item_keys}
use Rattle.si_legal.specs.declared.Posting.{Posting}
use Rattle.si_index.specs.Kept.{paired, clauses_of}
use Rattle.si_scan.specs.Scans.{posted, AreOfWanted, AddsWanted}
use Rattle.si_scan.proofs.PostedLaws.{posted_append}

-- ---- what was added
module _ (W : Entry → Type 0) where
  wanted_append : (xs ys : List (Posting × Entry)) (ps qs : List Posting) → AreOfWanted W xs ps → AreOfWanted W ys qs → AreOfWanted W (xs ++ ys) (ps ++ qs)
  wanted_append [] ys ps qs h k = subst (λ l. AreOfWanted W ys (l ++ qs)) (sym h) k
  wanted_append (x ∷ xs) ys ps qs (inl h) k = inl (h.0, (h.1.0 ++ qs, wanted_append xs ys h.1.0 qs h.1.1 k, ap (λ l. l ++ qs) h.1.2))
  wanted_append (x ∷ xs) ys ps qs (inr h) k = inr (h.0, wanted_append xs ys ps qs h.1 k)

  pub adds_none : (old : List Posting) → AddsWanted W [] old old
  adds_none old = record { more = []; appended = sym (append-nil old); wanted = refl }

  pub adds_then : (xs ys : List (Posting × Entry)) (a b c : List Posting) → AddsWanted W xs a b → AddsWanted W ys b c → AddsWanted W (xs ++ ys) a c
  adds_then xs ys a b c h k = record {
    more = h.more ++ k.more;
    appended = k.appended ∙ ap (λ l. l ++ k.more) h.appended ∙ append_assoc a h.more k.more;
    wanted = wanted_append xs ys h.more k.more h.wanted k.wanted;
  }

  pub adds_one : (x : Posting × Entry) (old new : List Posting) → W x.1 → new ≡ old ++ x.0 ∷ [] → AddsWanted W (x ∷ []) old new
  adds_one x old new w pushed = record { more = x.0 ∷ []; appended = pushed; wanted = inl (w, ([], refl, refl)) }

  pub adds_no : (x : Posting × Entry) (old : List Posting) → (W x.1 → ⊥) → AddsWanted W (x ∷ []) old old
  adds_no x old fails = record { more = []; appended = sym (append-nil old); wanted = inr (fails, refl) }

  -- ---- a loop that has passed the first of some entries
  pub record SoFar (left all : List (Posting × Entry)) (old now : List Posting) : Type 0 where
    pub passed : List (Posting × Entry)
    pub whole : all ≡ passed ++ left
    pub adds : AddsWanted W passed old now

  pub so_far_start : (all : List (Posting × Entry)) (old : List Posting) → SoFar all all old old
  so_far_start all old = record { passed = []; whole = refl; adds = adds_none old }

  pub so_far_more : (left piece rest all : List (Posting × Entry)) (a b c : List Posting) → left ≡ piece ++ rest → SoFar left all a b → AddsWanted W piece b c → SoFar rest all a c
  so_far_more left piece rest all a b c step h k = record {
    passed = h.passed ++ piece;
    whole = h.whole ∙ ap (λ l. h.passed ++ l) step ∙ sym (append_assoc h.passed piece rest);
    adds = adds_then h.passed piece a b c h.adds k;
  }

  pub so_far_end : (left all : List (Posting × Entry)) (a b : List Posting) → left ≡ [] → SoFar left all a b → AddsWanted W all a b
  so_far_end left all a b none h = subst (λ l. AddsWanted W l a b) (sym (h.whole ∙ ap (λ l. h.passed ++ l) none ∙ append-nil h.passed)) h.adds

  pub added_all : (xs : List (Posting × Entry)) (new : List Posting) → AddsWanted W xs [] new → AreOfWanted W xs new
  added_all xs new h = subst (AreOfWanted W xs) (sym h.appended) h.wanted

-- ---- subterms

-- those of the arguments from one on are its own, and then those of the others
pub terms_step : (key n : ℕ) (ts : List program.Term) (i : ℕ) (t : program.Term) → i < length ts → t ≡ get_or ts i t
    → posted key n (map term_entry (subterms_of_all (from ts i)))
    ≡ posted key n (map term_entry (subterms (term_of t))) ++ posted key (n + length (subterms (term_of t))) (map term_entry (subterms_of_all (from ts (i + 1))))
terms_step key n ts i t less read =
    ap (λ us. posted key n (map term_entry (subterms_of_all us))) (from-read ts i t less read)
    ∙ ap (posted key n) (map-append term_entry (subterms (term_of t)) (subterms_of_all (from ts (i + 1))))
    ∙ posted_append key n (map term_entry (subterms (term_of t))) (map term_entry (subterms_of_all (from ts (i + 1))))
    ∙ ap (λ k. posted key n (map term_entry (subterms (term_of t))) ++ posted key (n + k) (map term_entry (subterms_of_all (from ts (i + 1))))) (length-map (subterms (term_of t)) term_entry)

pub terms_count : (ts : List program.Term) (i : ℕ) (t : program.Term) → i < length ts → t ≡ get_or ts i t
    → length (subterms_of_all (from ts i)) ≡ length (subterms (term_of t)) + length (subterms_of_all (from ts (i + 1)))
terms_count ts i t less read = ap (λ us. length (subterms_of_all us)) (from-read ts i t less read) ∙ length-append (subterms (term_of t)) (subterms_of_all (from ts (i + 1)))

pub terms_end : (key n : ℕ) (ts : List program.Term) (i : ℕ) → length ts ≤ i → posted key n (map term_entry (subterms_of_all (from ts i))) ≡ []
terms_end key n ts i past = ap (λ us. posted key n (map term_entry (subterms_of_all us))) (from-end ts i past)

pub terms_none : (ts : List program.Term) (i : ℕ) → length ts ≤ i → length (subterms_of_all (from ts i)) ≡ 0
terms_none ts i past = ap (λ us. length (subterms_of_all us)) (from-end ts i past)

-- a term that is an application, and its subterms
pub application_added : (W : Entry → Type 0) (key n : ℕ) (t : program.Term) (f : symbol.Sym) (args : List Term) (us : List program.Term) (a b c : List Posting) → t ≡ App f args → map term_of us ≡ args
    → AddsWanted W (posted key n (term_entry (term_of t) ∷ [])) a b
    → AddsWanted W (posted key (n + 1) (map term_entry (subterms_of_all (terms.row (map term_of us))))) b c
    → AddsWanted W (posted key n (map term_entry (subterms (term_of t)))) a c
application_added W key n t f args us a b c is seen own rest =
    let whole : term_of t ≡ terms.app (symbol_of f) (terms.row (map term_of us)) = app-term t f args us is seen in
    let turn : n + 1 ≡ 1 + n = omega arith in
    let inside = map term_entry (subterms_of_all (terms.row (map term_of us))) in
    let first : Posting × Entry = (record { clause = key; entry = n }, term_entry (terms.app (symbol_of f) (terms.row (map term_of us)))) in
    subst (λ u. AddsWanted W (posted key n (map term_entry (subterms u))) a c) (sym whole)
    (adds_then W (first ∷ []) (posted key (1 + n) inside) a b c
    (subst (λ u. AddsWanted W (posted key n (term_entry u ∷ [])) a b) whole own)
    (subst (λ m. AddsWanted W (posted key m inside) b c) turn rest))

pub inside_count : (t : program.Term) (f : symbol.Sym) (args : List Term) (us : List program.Term) → t ≡ App f args → map term_of us ≡ args
    → length (subterms (term_of t)) ≡ 1 + length (subterms_of_all (terms.row (map term_of us)))
inside_count t f args us is seen = omega (arith, ap (λ u. length (subterms u)) (app-term t f args us is seen))

-- a literal, and the proper subterms of its atom
literal_alone : (l : program_literal.Literal) (f : symbol.Sym) (args : List Term) (us : List program.Term) → l.atom ≡ App f args → map term_of us ≡ args
    → entries_alone (literal_of l ∷ []) ≡ literal_entry (literal_of l) ∷ map term_entry (subterms_of_all (terms.row (map term_of us)))
literal_alone l f args us is seen =
    append-nil (literal_entry (literal_of l) ∷ map term_entry (subterms_of_all (arguments (term_of l.atom))))
    ∙ ap (λ t. literal_entry (literal_of l) ∷ map term_entry (subterms_of_all (arguments t))) (app-term l.atom f args us is seen)

pub literal_count : (l : program_literal.Literal) (f : symbol.Sym) (args : List Term) (us : List program.Term) → l.atom ≡ App f args → map term_of us ≡ args
    → length (entries_alone (literal_of l ∷ [])) ≡ 1 + length (subterms_of_all (terms.row (map term_of us)))
literal_count l f args us is seen =
    omega (arith, ap length (literal_alone l f args us is seen), length-map (subterms_of_all (terms.row (map term_of us))) term_entry)

pub literal_added : (W : Entry → Type 0) (key n : ℕ) (l : program_literal.Literal) (f : symbol.Sym) (args : List Term) (us : List program.Term) (a b c : List Posting) → l.atom ≡ App f args → map term_of us ≡ args
    → AddsWanted W (posted key n (literal_entry (literal_of l) ∷ [])) a b
    → AddsWanted W (posted key (n + 1) (map term_entry (subterms_of_all (terms.row (map term_of us))))) b c
    → AddsWanted W (posted key n (entries_alone (literal_of l ∷ []))) a c
literal_added W key n l f args us a b c is seen own rest =
    let turn : n + 1 ≡ 1 + n = omega arith in
    let inside = map term_entry (subterms_of_all (terms.row (map term_of us))) in
    subst (λ es. AddsWanted W (posted key n es) a c) (sym (literal_alone l f args us is seen))
    (adds_then W (posted key n (literal_entry (literal_of l) ∷ [])) (posted key (1 + n) inside) a b c own
    (subst (λ m. AddsWanted W (posted key m inside) b c) turn rest))

-- ---- literals
abbrev pub literals_from : List program_literal.Literal → ℕ → List Literal
literals_from ls i = map literal_of (drop i ls)

literals_read : (ls : List program_literal.Literal) (i : ℕ) (l : program_literal.Literal) → i < length ls → l ≡ get_or ls i l → literals_from ls i ≡ literal_of l ∷ literals_from ls (i + 1)
literals_read ls i l less read = ap (map literal_of) (drop_more ls i l less) ∙ ap (λ (k : program_literal.Literal). literal_of k ∷ literals_from ls (i + 1)) (sym read)

entries_first : (l : Literal) (ls : List Literal) → entries_alone (l ∷ ls) ≡ entries_alone (l ∷ []) ++ entries_alone ls
entries_first l ls = ap (λ es. es ++ entries_alone ls) (sym (append-nil (literal_entry l ∷ map term_entry (subterms_of_all (arguments l.atom)))))

pub literals_step : (key n : ℕ) (ls : List program_literal.Literal) (i : ℕ) (l : program_literal.Literal) → i < length ls → l ≡ get_or ls i l
    → posted key n (entries_alone (literals_from ls i))
    ≡ posted key n (entries_alone (literal_of l ∷ [])) ++ posted key (n + length (entries_alone (literal_of l ∷ []))) (entries_alone (literals_from ls (i + 1)))
literals_step key n ls i l less read =
    ap (λ ks. posted key n (entries_alone ks)) (literals_read ls i l less read)
    ∙ ap (posted key n) (entries_first (literal_of l) (literals_from ls (i + 1)))
    ∙ posted_append key n (entries_alone (literal_of l ∷ [])) (entries_alone (literals_from ls (i + 1)))

pub literals_count : (ls : List program_literal.Literal) (i : ℕ) (l : program_literal.Literal) → i < length ls → l ≡ get_or ls i l
    → length (entries_alone (literals_from ls i)) ≡ length (entries_alone (literal_of l ∷ [])) + length (entries_alone (literals_from ls (i + 1)))
literals_count ls i l less read =
    ap (λ ks. length (entries_alone ks)) (literals_read ls i l less read)
    ∙ ap length (entries_first (literal_of l) (literals_from ls (i + 1)))
    ∙ length-append (entries_alone (literal_of l ∷ [])) (entries_alone (literals_from ls (i + 1)))

pub literals_end : (key n : ℕ) (ls : List program_literal.Literal) (i : ℕ) → length ls ≤ i → posted key n (entries_alone (literals_from ls i)) ≡ []
literals_end key n ls i past = ap (λ ks. posted key n (entries_alone (map literal_of ks))) (drop_all i ls past)

-- ---- clauses
abbrev pub keyed_of : ℕ × program_clause.Clause → ℕ × Clause
keyed_of item = (item.0, clause_of item.1)

pub paired_items : (items : List (ℕ × program_clause.Clause)) → paired (item_keys items) (clauses_of items) ≡ map keyed_of items
paired_items [] = refl
paired_items (item ∷ items) = ap (λ l. keyed_of item ∷ l) (paired_items items)

-- what an iterator over the kept clauses gives
module _ {B : Type 0} (now : B → program_clause.Clause) (old new : List (ℕ × program_clause.Clause)) (r : Option (ℕ × B)) (h : YieldsFirstBy (λ item. (item.0, now item.1)) (λ rest. rest) old r new) where
  pub next_clause : (item : ℕ × B) → r ≡ Some item → old ≡ (item.0, now item.1) ∷ new
  next_clause item is = subst (λ o. YieldsFirstBy (λ item. (item.0, now item.1)) (λ rest. rest) old o new) is h

  pub no_clause : r ≡ None → old ≡ []
  no_clause is = (subst (λ o. YieldsFirstBy (λ item. (item.0, now item.1)) (λ rest. rest) old o new) is h).0
