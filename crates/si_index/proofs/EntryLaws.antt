-- Terms, literals and clauses whose symbols have numbers, and the parts of them.
use Rattle.std.proofs.Common.{◌≡◌, ℕ, zero, suc, ◌<◌, ◌≤◌, List, [], ◌∷◌, length, map, get_or, inl, inr, ap, sym, subst, arith}
use Rattle.std.specs.Prelude.{Some, slice_get}
use Rattle.std.specs.List.{AllByRecursion}
use Rattle.si_defs.specs.Terms.{var, app, none, more, row, size, symbols, symbols_of_all, arguments}
use Rattle.si_defs.specs.Symbols.{Numbering}
use Rattle.si_defs.specs.Clauses.{Term, Terms, Literal, Clause, IsSoundTerm, AreSoundTerms, IsSoundAtom, IsSoundLiteral, IsSoundClause, literals_size}
use Rattle.si_defs.specs.Entries.{Entry, literal_entry, term_entry, Placed, entries, clause_symbols, literals_symbols, state_symbols}
use Rattle.si_defs.specs.Substitutions.{IsAmong}
use Rattle.si_defs.specs.declared.TheConstants.{MOST_OCCURRENCES}
use Rattle.si_defs.proofs.ListLaws.{among_front, among_back, among_parts, get_among}
use Rattle.si_state.specs.Signatures.{Signature, IsSignatureOf, numbering}
use Rattle.si_term.specs.Terms.{symbol_of, term_of}
use Rattle.si_term.specs.Meaning.{literal_of}
use Rattle.si_term.specs.declared.term.Sym as program_symbol
use Rattle.si_term.specs.declared.term.Term as program
use Rattle.si_term.specs.declared.term.Term.TheVariants.{App}
use Rattle.si_term.specs.declared.clause.Literal as program_literal
use Rattle.si_term.proofs.Rows.{size-read, app-term, positive}
use Rattle.si_term.specs.Walks.{subterms, subterms_of_all, entries_alone}
use Rattle.si_term.proofs.Alone.{entries-alone}
use Rattle.si_sign.proofs.UsesOf.{among_numbering, uses_positive, times_among}
use Rattle.si_form.specs.TableNumbers.{HaveNumbers}
use Rattle.si_form.proofs.Moving.{among_map, among_mapped}
use Rattle.si_index.specs.Searching.{IsKnownTerm, AreKnownTerms, IsKnownEntry, IsKnownClause}

-- ---- arguments
argument_at : (numbers : Numbering) (ts : List program.Term) (i : ℕ) (d : program.Term) → i < length ts
    → AreSoundTerms (row (map term_of ts)) → HaveNumbers numbers (symbols_of_all (row (map term_of ts)))
    → IsSoundTerm (term_of (get_or ts i d)) × HaveNumbers numbers (symbols (term_of (get_or ts i d)))
argument_at numbers [] i d h sound have = absurd (omega arith)
argument_at numbers (t ∷ ts) zero d h sound have = (sound.0, λ s a. have s (among_front (symbols (term_of t)) (symbols_of_all (row (map term_of ts))) s a))
argument_at numbers (t ∷ ts) (suc i) d h sound have =
    argument_at numbers ts i d (omega arith) sound.1 (λ s a. have s (among_back (symbols (term_of t)) (symbols_of_all (row (map term_of ts))) s a))

pub known_argument : (numbers : Numbering) (ts : List program.Term) (i : ℕ) (t : program.Term) → i < length ts → t ≡ get_or ts i t → AreKnownTerms numbers (row (map term_of ts)) → IsKnownTerm numbers (term_of t)
known_argument numbers ts i t h read known =
    let at = argument_at numbers ts i t h known.sound known.numbered in
    record {
      sound = subst (λ (u : program.Term). IsSoundTerm (term_of u)) (sym read) at.0;
      numbered = subst (λ (u : program.Term). HaveNumbers numbers (symbols (term_of u))) (sym read) at.1;
      small = omega (arith, size-read ts i t h read, known.small);
    }

pub known_arguments : (numbers : Numbering) (t : program.Term) (s : program_symbol.Sym) (args : List Term) (us : List program.Term) → t ≡ App s args → map term_of us ≡ args → IsKnownTerm numbers (term_of t) → AreKnownTerms numbers (row (map term_of us))
known_arguments numbers t s args us is seen known =
    let whole = subst (IsKnownTerm numbers) (app-term t s args us is seen) known in
    record {
      sound = whole.sound.1;
      numbered = λ r a. whole.numbered r (inr a);
      small = omega (arith, whole.small);
    }

pub known_sub : (numbers : Numbering) (t : Term) → IsKnownTerm numbers t → IsKnownEntry numbers (term_entry t)
known_sub numbers t known = record { sound = (known.sound, known.small); numbered = known.numbered }

-- those of a literal's atom
pub known_parts : (numbers : Numbering) (l : program_literal.Literal) (s : program_symbol.Sym) (args : List Term) (us : List program.Term) → l.atom ≡ App s args → map term_of us ≡ args → IsKnownEntry numbers (literal_entry (literal_of l)) → AreKnownTerms numbers (row (map term_of us))
known_parts numbers l s args us is seen known =
    let whole : IsKnownEntry numbers (literal_entry (record { positive = l.positive; atom = app (symbol_of s) (row (map term_of us)) })) =
    subst (λ t. IsKnownEntry numbers (literal_entry (record { positive = l.positive; atom = t }))) (app-term l.atom s args us is seen) known in
    record {
      sound = whole.sound.0.1;
      numbered = λ r a. whole.numbered r (inr a);
      small = omega (arith, whole.sound.1);
    }

-- ---- literals
literal_at : (numbers : Numbering) (ls : List program_literal.Literal) (i : ℕ) (d : program_literal.Literal) → i < length ls
    → AllByRecursion IsSoundLiteral (map literal_of ls) → literals_size (map literal_of ls) ≤ MOST_OCCURRENCES → HaveNumbers numbers (literals_symbols (map literal_of ls))
    → IsKnownEntry numbers (literal_entry (literal_of (get_or ls i d)))
literal_at numbers [] i d h sound small have = absurd (omega arith)
literal_at numbers (l ∷ ls) zero d h sound small have = record {
  sound = (sound.0, omega (arith, small));
  numbered = λ s a. have s (among_front (symbols (term_of l.atom)) (literals_symbols (map literal_of ls)) s a);
}
literal_at numbers (l ∷ ls) (suc i) d h sound small have =
    literal_at numbers ls i d (omega arith) sound.1 (omega (arith, small)) (λ s a. have s (among_back (symbols (term_of l.atom)) (literals_symbols (map literal_of ls)) s a))

pub known_literal : (numbers : Numbering) (c : Clause) (ls : List program_literal.Literal) (i : ℕ) (l : program_literal.Literal) → map literal_of ls ≡ c.literals → i < length ls → l ≡ get_or ls i l → IsKnownClause numbers c → IsKnownEntry numbers (literal_entry (literal_of l))
known_literal numbers c ls i l seen h read known =
    subst (λ (k : program_literal.Literal). IsKnownEntry numbers (literal_entry (literal_of k))) (sym read)
    (literal_at numbers ls i l h
    (subst (AllByRecursion IsSoundLiteral) (sym seen) known.sound.sound.each)
    (omega (arith, known.sound.sound.no_larger, ap literals_size seen))
    (subst (λ k. HaveNumbers numbers (literals_symbols k)) (sym seen) known.numbered))

-- there are no more literals than symbols and variables in them
pub count_literals : (ls : List program_literal.Literal) → length ls ≤ literals_size (map literal_of ls)
count_literals [] = omega arith
count_literals (l ∷ ls) = omega (arith, count_literals ls, positive (term_of l.atom))

-- ---- the entries of a clause
mutual
  known_subterms : (numbers : Numbering) (t : Term) → IsKnownTerm numbers t → (u : Term) → IsAmong (subterms t) u → IsKnownTerm numbers u
  known_subterms numbers (var x) known u a = absurd a
  known_subterms numbers (app s ts) known u (inl is) = subst (IsKnownTerm numbers) is known
  known_subterms numbers (app s ts) known u (inr a) =
      known_all_subterms numbers ts (record { sound = known.sound.1; numbered = λ r b. known.numbered r (inr b); small = omega (arith, known.small) }) u a

  known_all_subterms : (numbers : Numbering) (ts : Terms) → AreKnownTerms numbers ts → (u : Term) → IsAmong (subterms_of_all ts) u → IsKnownTerm numbers u
  known_all_subterms numbers none known u a = absurd a
  known_all_subterms numbers (more t ts) known u a =
      elim (among_parts (subterms t) (subterms_of_all ts) u a) [
        | inl b ↦
            known_subterms numbers t
            (record {
              sound = known.sound.0;
              numbered = λ r c. known.numbered r (among_front (symbols t) (symbols_of_all ts) r c);
              small = omega (arith, known.small);
            })
            u b
        | inr b ↦
            known_all_subterms numbers ts
            (record {
              sound = known.sound.1;
              numbered = λ r c. known.numbered r (among_back (symbols t) (symbols_of_all ts) r c);
              small = omega (arith, known.small);
            })
            u b
      ]

-- those of an atom's arguments
known_inside : (numbers : Numbering) (atom u : Term) → IsSoundAtom atom → HaveNumbers numbers (symbols atom) → size atom ≤ MOST_OCCURRENCES → IsAmong (subterms_of_all (arguments atom)) u → IsKnownTerm numbers u
known_inside numbers (var x) u sound have small a = absurd a
known_inside numbers (app s ts) u sound have small a =
    known_all_subterms numbers ts (record { sound = sound.1; numbered = λ r b. have r (inr b); small = omega (arith, small) }) u a

known_alone : (numbers : Numbering) (ls : List Literal) → AllByRecursion IsSoundLiteral ls → literals_size ls ≤ MOST_OCCURRENCES → HaveNumbers numbers (literals_symbols ls) → (e : Entry) → IsAmong (entries_alone ls) e → IsKnownEntry numbers e
known_alone numbers [] sound small have e a = absurd a
known_alone numbers (l ∷ ls) sound small have e (inl is) =
    subst (IsKnownEntry numbers) is
    (record {
      sound = (sound.0, omega (arith, small));
      numbered = λ s a. have s (among_front (symbols l.atom) (literals_symbols ls) s a);
    })
known_alone numbers (l ∷ ls) sound small have e (inr a) =
    elim (among_parts (map term_entry (subterms_of_all (arguments l.atom))) (entries_alone ls) e a) [
      | inl b ↦
          let of = among_mapped term_entry (subterms_of_all (arguments l.atom)) e b in
          subst (IsKnownEntry numbers) of.2
          (known_sub numbers of.0
          (known_inside numbers l.atom of.0 sound.0 (λ s c. have s (among_front (symbols l.atom) (literals_symbols ls) s c)) (omega (arith, small)) of.1))
      | inr b ↦ known_alone numbers ls sound.1 (omega (arith, small)) (λ s c. have s (among_back (symbols l.atom) (literals_symbols ls) s c)) e b
    ]

pub known_entry : (numbers : Numbering) (c : Clause) (n : ℕ) (e : Placed) → IsKnownClause numbers c → slice_get (entries c) n ≡ Some e → IsKnownEntry numbers e.entry
known_entry numbers c n e known got =
    known_alone numbers c.literals known.sound.sound.each known.sound.sound.no_larger known.numbered e.entry
    (subst (λ es. IsAmong es e.entry) (entries-alone 1 c.literals) (among_map (λ p. p.entry) (entries c) e (get_among (entries c) n e got)))

-- ---- clauses
clauses_known : (numbers : Numbering) (cs : List Clause) → AllByRecursion IsSoundClause cs → HaveNumbers numbers (state_symbols cs) → AllByRecursion (IsKnownClause numbers) cs
clauses_known numbers [] sound have = tt
clauses_known numbers (c ∷ cs) sound have = (
  record { sound = sound.0; numbered = λ s a. have s (among_front (clause_symbols c) (state_symbols cs) s a) },
  clauses_known numbers cs sound.1 (λ s a. have s (among_back (clause_symbols c) (state_symbols cs) s a)),
)

-- the numbers of the signature of clauses are those of their symbols
signature_numbers : (cs : List Clause) (known : Signature) → IsSignatureOf cs known → HaveNumbers (numbering known) (state_symbols cs)
signature_numbers cs known signed s a =
    let m = uses_positive known s (omega (arith, signed s, times_among s (state_symbols cs) a)) in
    (m.used.number, subst (λ r. IsAmong (numbering known) (r, m.used.number)) m.is (among_numbering known m.used m.among))

pub all_clauses_known : (numbers : Numbering) (cs : List Clause) (known : Signature) → numbering known ≡ numbers → IsSignatureOf cs known → AllByRecursion IsSoundClause cs → AllByRecursion (IsKnownClause numbers) cs
all_clauses_known numbers cs known same signed sound = clauses_known numbers cs sound (subst (λ n. HaveNumbers n (state_symbols cs)) same (signature_numbers cs known signed))
