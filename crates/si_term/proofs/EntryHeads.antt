-- The heads of the entries of a sound clause are its symbols.
use Rattle.std.proofs.Common.{◌≡◌, ℕ, List, [], ◌∷◌, ◌++◌, Some, IsSome, length, slice_get, map, refl, sym, ap, subst, ◌∙◌}
use Rattle.std.specs.List.{AllByRecursion}
use Rattle.std.proofs.lemmas.List.{length-map, map-append}
use Rattle.si_defs.proofs.ListLaws.{all_append, all_got}
use Rattle.si_defs.specs.Terms as terms
use Rattle.si_defs.specs.Symbols.{Symbol}
use Rattle.si_defs.specs.Clauses.{Term, Terms, Literal, Clause, IsSoundAtom, IsSoundLiteral, IsSoundClause}
use Rattle.si_defs.specs.Entries.{Entry, Placed, term_entry, entry_head, entries, literals_symbols, clause_symbols}
use Rattle.si_defs.specs.Terms.{arguments}
use Rattle.si_term.specs.Walks.{subterms, subterms_of_all, entries_alone}
use Rattle.si_term.proofs.Alone.{entries-alone}
use Rattle.si_term.proofs.Progress.{get-map}

mutual
  heads_of : (t : Term) → map terms.head (subterms t) ≡ map Some (terms.symbols t)
  heads_of (terms.var x) = refl
  heads_of (terms.app s ts) = ap (λ l. Some s ∷ l) (heads_of_all ts)

  heads_of_all : (ts : Terms) → map terms.head (subterms_of_all ts) ≡ map Some (terms.symbols_of_all ts)
  heads_of_all terms.none = refl
  heads_of_all (terms.more t ts) =
      map-append terms.head (subterms t) (subterms_of_all ts)
      ∙ (λ i. heads_of t i ++ heads_of_all ts i)
      ∙ sym (map-append Some (terms.symbols t) (terms.symbols_of_all ts))

entry_heads : (ts : List Term) → map entry_head (map term_entry ts) ≡ map terms.head ts
entry_heads [] = refl
entry_heads (t ∷ ts) = ap (λ l. terms.head t ∷ l) (entry_heads ts)

literal_heads : (t : Term) → IsSoundAtom t → terms.head t ∷ map entry_head (map term_entry (subterms_of_all (arguments t))) ≡ map Some (terms.symbols t)
literal_heads (terms.var x) sound = absurd sound
literal_heads (terms.app s ts) sound = ap (λ l. Some s ∷ l) (entry_heads (subterms_of_all ts) ∙ heads_of_all ts)

alone_heads : (ls : List Literal) → AllByRecursion IsSoundLiteral ls → map entry_head (entries_alone ls) ≡ map Some (literals_symbols ls)
alone_heads [] sound = refl
alone_heads (l ∷ ls) sound =
    ap (λ es. terms.head l.atom ∷ es) (map-append entry_head (map term_entry (subterms_of_all (arguments l.atom))) (entries_alone ls))
    ∙ (λ i. literal_heads l.atom sound.0 i ++ alone_heads ls sound.1 i)
    ∙ sym (map-append Some (terms.symbols l.atom) (literals_symbols ls))

pub heads : (c : Clause) → IsSoundClause c → map entry_head (map (λ p. p.entry) (entries c)) ≡ map Some (clause_symbols c)
heads c sound = ap (map entry_head) (entries-alone 1 c.literals) ∙ alone_heads c.literals sound.sound.each

-- a sound clause has as many entries as occurrences of symbols
pub length-symbols : (c : Clause) → IsSoundClause c → length (entries c) ≡ length (clause_symbols c)
length-symbols c sound =
    sym (length-map (entries c) (λ p. p.entry))
    ∙ sym (length-map (map (λ p. p.entry) (entries c)) entry_head)
    ∙ ap length (heads c sound)
    ∙ length-map (clause_symbols c) Some

-- ---- the head of one of them
twice : (ps : List Placed) → map (λ p. entry_head p.entry) ps ≡ map entry_head (map (λ p. p.entry) ps)
twice [] = refl
twice (p ∷ ps) = ap (λ l. entry_head p.entry ∷ l) (twice ps)

pub head_placed : (c : Clause) (n : ℕ) (e : Entry) → slice_get (map (λ p. p.entry) (entries c)) n ≡ Some e → slice_get (map (λ p. entry_head p.entry) (entries c)) n ≡ Some (entry_head e)
head_placed c n e h = ap (λ os. slice_get os n) (twice (entries c)) ∙ get-map entry_head (map (λ p. p.entry) (entries c)) n e h

-- of the entry where a symbol occurs, that symbol
pub symbol_placed : (c : Clause) → IsSoundClause c → (n : ℕ) (s : Symbol) → slice_get (clause_symbols c) n ≡ Some s
    → slice_get (map (λ p. entry_head p.entry) (entries c)) n ≡ Some (Some s)
symbol_placed c sound n s h =
    ap (λ os. slice_get os n) (twice (entries c) ∙ heads c sound) ∙ get-map Some (clause_symbols c) n s h

-- ---- each of them has a head
abbrev HasHead : Entry → Type 0
HasHead e = IsSome (entry_head e)

mutual
  subterms_have : (t : Term) → AllByRecursion HasHead (map term_entry (subterms t))
  subterms_have (terms.var x) = tt
  subterms_have (terms.app s ts) = (refl, all_have ts)

  all_have : (ts : Terms) → AllByRecursion HasHead (map term_entry (subterms_of_all ts))
  all_have terms.none = tt
  all_have (terms.more t ts) =
      subst (AllByRecursion HasHead) (sym (map-append term_entry (subterms t) (subterms_of_all ts)))
      (all_append HasHead (map term_entry (subterms t)) (map term_entry (subterms_of_all ts)) (subterms_have t) (all_have ts))

atom_has : (t : Term) → IsSoundAtom t → IsSome (terms.head t)
atom_has (terms.var x) sound = absurd sound
atom_has (terms.app s ts) sound = refl

alone_have : (ls : List Literal) → AllByRecursion IsSoundLiteral ls → AllByRecursion HasHead (entries_alone ls)
alone_have [] sound = tt
alone_have (l ∷ ls) sound =
    (atom_has l.atom sound.0, all_append HasHead (map term_entry (subterms_of_all (arguments l.atom))) (entries_alone ls) (all_have (arguments l.atom)) (alone_have ls sound.1))

pub has_head : (c : Clause) → IsSoundClause c → (n : ℕ) (e : Entry) → slice_get (map (λ p. p.entry) (entries c)) n ≡ Some e → IsSome (entry_head e)
has_head c sound n e h =
    all_got HasHead (entries_alone c.literals) n e (alone_have c.literals sound.sound.each)
    (ap (λ es. slice_get es n) (sym (entries-alone 1 c.literals)) ∙ h)
