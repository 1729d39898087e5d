-- The flat terms of a literal and of its subterms.
use Rattle.std.proofs.Common.{◌≡◌, ℕ, ◌+◌, ◌≤◌, inl, inr, Bool, true, false, List, [], ◌∷◌, ◌++◌, length, map, take, drop, get_or, refl, sym, ◌∙◌, ap, subst, arith, append_assoc}
use Rattle.std.specs.Prelude.{◌⊎◌, bytes_eq}
use Rattle.std.specs.List.{AllByRecursion}
use Rattle.std.proofs.lemmas.List.{drop_all, drop-drop, length-drop, length-take, take-append-drop}
use Rattle.std.proofs.lemmas.List.Elements.{filter-append}
use Rattle.std.proofs.Math.Seq.{take-append_seam}
use Rattle.si_defs.specs.Bytes.{Bytes}
use Rattle.si_defs.specs.Terms as terms
use Rattle.si_defs.specs.Terms.{firsts, arguments}
use Rattle.si_defs.specs.Symbols.{Symbol, Numbering}
use Rattle.si_defs.specs.Substitutions.{IsAmong}
use Rattle.si_defs.specs.Clauses.{Term, Terms, Literal, IsSoundTerm, AreSoundTerms, IsSoundAtom, AreSoundLiterals, Clause, IsSoundClause}
use Rattle.si_defs.specs.Entries.{Entry, literal_entry, term_entry, literals_symbols, clause_symbols}
use Rattle.si_defs.specs.declared.TheConstants.{MOST_OCCURRENCES}
use Rattle.si_defs.specs.declared.SymKind.TheVariants.{Word}
use Rattle.si_defs.specs.declared.Side.TheVariants.{Predicate}
use Rattle.si_defs.proofs.ListLaws.{all_from, all_front}
use Rattle.si_defs.proofs.SymbolLaws.{text_is}
use Rattle.si_term.specs.Walks.{subterms, subterms_of_all, entries_alone}
use Rattle.si_term.specs.Meaning.{literal_of}
use Rattle.si_term.specs.declared.clause.Literal as program
use Rattle.si_flat.specs.declared.Cell.{Cell}
use Rattle.si_flat.specs.declared.Cell.TheVariants as cell
use Rattle.si_flat.specs.Cells.{Variable, entry, cells_of, cells_of_all, IsSound, IsWhole}
use Rattle.si_flat.specs.Cells as cells
use Rattle.si_flat.specs.Numbered.{number_in, signed, numbered, all_numbered}
use Rattle.si_flat.specs.Flattened.{unnumbered, Buffer, HoldsEntry}
use Rattle.si_flat.proofs.Subterms.{length-cells_of}
use Rattle.si_flat.proofs.Walking.{numbered_size}
use Rattle.si_flat.proofs.RowLaws.{span_told}
use Rattle.si_flat.proofs.FirstPlaces.{numbered_by, among_firsts}
use Rattle.si_flat.proofs.FlattenLaws.{sound_atom}
use Rattle.si_entries.specs.declared.flat.FlatEntries.{FlatEntries}
use Rattle.si_entries.specs.Numbers.{numbered_anew}
use Rattle.si_entries.specs.FlatWalks.{from_symbol, variable_in, literals_left, AreTermsLeft, AreLiteralsLeft, AreLeft, IsFlatEntry, GivesFirst, IsAtLiteralEnd}
use Rattle.si_entries.proofs.AnewLaws.{part_anew}

-- ---- rows of terms, one after the other
abbrev pub join : Terms → Terms → Terms
join terms.none us = us
join (terms.more t ts) us = terms.more t (join ts us)

cells-join : (n : Symbol → ℕ) (v : Bytes → Variable) (ts us : Terms) → cells_of_all (all_numbered n v (join ts us)) ≡ cells_of_all (all_numbered n v ts) ++ cells_of_all (all_numbered n v us)
cells-join n v terms.none us = refl
cells-join n v (terms.more t ts) us =
    ap (λ l. cells_of (numbered n v t) ++ l) (cells-join n v ts us)
    ∙ sym (append_assoc (cells_of (numbered n v t)) (cells_of_all (all_numbered n v ts)) (cells_of_all (all_numbered n v us)))

subterms-join : (ts us : Terms) → subterms_of_all (join ts us) ≡ subterms_of_all ts ++ subterms_of_all us
subterms-join terms.none us = refl
subterms-join (terms.more t ts) us =
    ap (λ l. subterms t ++ l) (subterms-join ts us)
    ∙ sym (append_assoc (subterms t) (subterms_of_all ts) (subterms_of_all us))

sound_join : (ts us : Terms) → AreSoundTerms ts → AreSoundTerms us → AreSoundTerms (join ts us)
sound_join terms.none us first second = second
sound_join (terms.more t ts) us first second = (first.0, sound_join ts us first.1 second)

variables-join : (ts us : Terms) → terms.variables_of_all (join ts us) ≡ terms.variables_of_all ts ++ terms.variables_of_all us
variables-join terms.none us = refl
variables-join (terms.more t ts) us =
    ap (λ l. terms.variables t ++ l) (variables-join ts us)
    ∙ sym (append_assoc (terms.variables t) (terms.variables_of_all ts) (terms.variables_of_all us))

-- ---- variables that come first
abbrev pub past_variables : Terms → Terms
past_variables terms.none = terms.none
past_variables (terms.more (terms.var x) ts) = past_variables ts
past_variables (terms.more (terms.app s us) ts) = terms.more (terms.app s us) ts

from_symbol-cells : (n : Symbol → ℕ) (names : List Bytes) (ts : Terms) → from_symbol (cells_of_all (all_numbered n (variable_in names) ts)) ≡ cells_of_all (all_numbered n (variable_in names) (past_variables ts))
from_symbol-cells n names terms.none = refl
from_symbol-cells n names (terms.more (terms.var x) ts) = from_symbol-cells n names ts
from_symbol-cells n names (terms.more (terms.app s us) ts) = refl

subterms-past : (ts : Terms) → subterms_of_all (past_variables ts) ≡ subterms_of_all ts
subterms-past terms.none = refl
subterms-past (terms.more (terms.var x) ts) = subterms-past ts
subterms-past (terms.more (terms.app s us) ts) = refl

sound_past : (ts : Terms) → AreSoundTerms ts → AreSoundTerms (past_variables ts)
sound_past terms.none sound = sound
sound_past (terms.more (terms.var x) ts) sound = sound_past ts sound.1
sound_past (terms.more (terms.app s us) ts) sound = sound

names_past : (names : List Bytes) (ts : Terms) → AllByRecursion (IsAmong names) (terms.variables_of_all ts) → AllByRecursion (IsAmong names) (terms.variables_of_all (past_variables ts))
names_past names terms.none known = known
names_past names (terms.more (terms.var x) ts) known = names_past names ts known.1
names_past names (terms.more (terms.app s us) ts) known = known

-- none is left, or a term that is no variable comes first
past_form : (ts : Terms) → (past_variables ts ≡ terms.none) ⊎ ((s : Symbol) × (us : Terms) × (rest : Terms) × (past_variables ts ≡ terms.more (terms.app s us) rest))
past_form terms.none = inl refl
past_form (terms.more (terms.var x) ts) = past_form ts
past_form (terms.more (terms.app s us) ts) = inr (s, us, ts, refl)

-- ---- a part of a literal
part_is : (part whole left rest : List Cell) → IsWhole part → IsWhole whole → left ≡ whole ++ rest → part ≡ take (length part) left → part ≡ whole
part_is part whole left rest one other parts taken =
    let d : Cell = cell.Ind 0 in
    let split : left ≡ part ++ drop (length part) left = sym (take-append-drop (length part) left) ∙ ap (λ l. l ++ drop (length part) left) (sym taken) in
    let long : length part ≡ length whole =
    sym (span_told part (drop (length part) left) d one)
    ∙ ap (λ l. cells.span (get_or l 0 d)) (sym split ∙ parts)
    ∙ span_told whole rest d other in
    taken ∙ (λ i. take (long i) (parts i)) ∙ take-append_seam whole rest

-- the head doesn't matter
sound_term : (n : Symbol → ℕ) (v : Bytes → Variable) (s : Symbol) (ts : Terms) → IsSoundTerm (terms.app s ts) → IsSound (numbered n v (terms.app s ts))
sound_term n v s ts sound =
    let head : Symbol = record { kind = Word; text = []; side = Predicate; arity = s.arity } in
    sound_atom n v (terms.app head ts) (record { on_side = refl; with_arity = sound.0.with_arity; of_kind = tt }, sound.1)

module _ (numbers : Numbering) (positive : Bool) (cells : List Cell) (names : List Bytes) where
  -- the place is moved on to the next symbol
  pub moved : (ts : Terms) (from at : ℕ) → AreTermsLeft numbers positive ts cells names from → at ≤ length cells → drop at cells ≡ from_symbol (drop from cells) → AreTermsLeft numbers positive (past_variables ts) cells names at
  moved ts from at h within symbol = record {
    within = within;
    cells_are = symbol ∙ ap from_symbol h.cells_are ∙ from_symbol-cells (signed positive (number_in numbers)) names ts;
    sound = sound_past ts h.sound;
    names_known = names_past names ts h.names_known;
    whole = h.whole;
    few = h.few;
  }

  -- after the last cell no term is left
  pub none_left : (ts : Terms) (at : ℕ) → AreTermsLeft numbers positive (past_variables ts) cells names at → at ≡ length cells → subterms_of_all ts ≡ []
  none_left ts at h end =
      let none : drop at cells ≡ [] = drop_all at cells (omega (arith, end)) in
      elim (past_form ts) [
        | inl is ↦ sym (subterms-past ts) ∙ ap subterms_of_all is
        | inr (s, us, rest, is) ↦ absurd (let bad = sym none ∙ h.cells_are ∙ ap (λ l. cells_of_all (all_numbered (signed positive (number_in numbers)) (variable_in names) l)) is in cc)
      ]

  -- before it one is
  pub some_left : (ts : Terms) (at : ℕ) → AreTermsLeft numbers positive (past_variables ts) cells names at → (at ≡ length cells → ⊥) → (s : Symbol) × (us : Terms) × (rest : Terms) × (past_variables ts ≡ terms.more (terms.app s us) rest)
  some_left ts at h some = elim (past_form ts) [
    | inl is ↦ absurd (let none : drop at cells ≡ [] = h.cells_are ∙ ap (λ l. cells_of_all (all_numbered (signed positive (number_in numbers)) (variable_in names) l)) is in some (omega (arith, h.within, ap length none, length-drop at cells)))
    | inr found ↦ found
  ]

  -- the part at the place is that of the first term, and its arguments come next
  module _ (s : Symbol) (us rest : Terms) (at : ℕ) (h : AreTermsLeft numbers positive (terms.more (terms.app s us) rest) cells names at) where
    abbrev Part : Term
    Part = terms.app s us

    abbrev n : Symbol → ℕ
    n = signed positive (number_in numbers)

    abbrev v : Bytes → Variable
    v = variable_in names

    pub passed : (next : ℕ) → next ≡ at + 1 → AreTermsLeft numbers positive (join us rest) cells names next
    passed next is = record {
      within = omega (arith, is, ap length h.cells_are, length-drop at cells);
      cells_are =
          ap (λ k. drop k cells) is
          ∙ sym (drop-drop 1 at cells)
          ∙ ap (drop 1) h.cells_are
          ∙ sym (cells-join n v us rest);
      sound = sound_join us rest h.sound.0.1 h.sound.1;
      names_known = subst (AllByRecursion (IsAmong names)) (sym (variables-join us rest)) h.names_known;
      whole = h.whole;
      few = h.few;
    }

    pub part_flat : (part written : List Cell) → IsWhole part → part ≡ take (length part) (drop at cells) → written ≡ numbered_anew part → IsFlatEntry numbers (term_entry (terms.app s us)) written
    part_flat part written whole taken is =
        let one : part ≡ cells_of (numbered n v Part) =
        part_is part (cells_of (numbered n v Part)) (drop at cells) (cells_of_all (all_numbered n v rest)) whole
        (numbered n v Part, record { cells_are = refl; sound = sound_term n v s us h.sound.0 }) h.cells_are taken in
        let own : Bytes → Variable = variable_in (firsts bytes_eq (terms.variables Part)) in
        let known : AllByRecursion (IsAmong names) (terms.variables Part) = all_front (IsAmong names) (terms.variables Part) (terms.variables_of_all rest) h.names_known in
        let numbered_first = numbered_by (number_in numbers) entry (λ i j. refl) Part in
        let sound : IsSound (numbered (number_in numbers) own Part) = sound_term (number_in numbers) own s us h.sound.0 in
        record {
          flat = record {
            stands = record {
              cells_are = is ∙ ap numbered_anew one ∙ part_anew numbers positive names Part h.sound.0 known;
              sound = sound;
            };
            numbered = numbered_first;
          };
          leaf = record {
            sound = sound;
            numbered = numbered_first;
            size = omega (
              arith,
              numbered_size (number_in numbers) own Part,
              numbered_size n v Part,
              length-cells_of (numbered n v Part),
              ap length one,
              ap length taken,
              length-take (length part) (drop at cells),
              length-drop at cells,
              h.few,
            );
          };
        }

-- ---- a literal
module _ (numbers : Numbering) (positive : Bool) (cells : List Cell) (names : List Bytes) where
  literal_leaf : (atom : Term) → terms.size atom ≤ MOST_OCCURRENCES → HoldsEntry numbers (literal_entry (record { positive = positive; atom = atom })) cells names → IsFlatEntry numbers (literal_entry (record { positive = positive; atom = atom })) cells
  literal_leaf atom small h = record {
    flat = h.flat;
    leaf = record {
      sound = h.flat.stands.sound;
      numbered = h.flat.numbered;
      size = omega (arith, small, numbered_size (signed positive (number_in numbers)) (variable_in (firsts bytes_eq (terms.variables atom))) atom);
    };
  }

  literal_terms : (atom : Term) → IsSoundAtom atom → terms.size atom ≤ MOST_OCCURRENCES → HoldsEntry numbers (literal_entry (record { positive = positive; atom = atom })) cells names → AreTermsLeft numbers positive (arguments atom) cells names 1
  literal_terms (terms.var x) sound small h = absurd sound
  literal_terms (terms.app s ts) sound small h =
      let n : Symbol → ℕ = signed positive (number_in numbers) in
      let own : Bytes → Variable = variable_in (firsts bytes_eq (terms.variables_of_all ts)) in
      record {
        within = omega (arith, ap length h.flat.stands.cells_are);
        cells_are = ap (drop 1) h.flat.stands.cells_are ∙ ap (λ l. cells_of_all (all_numbered n (variable_in l) ts)) (sym h.are_names);
        sound = sound.1;
        names_known = subst (λ l. AllByRecursion (IsAmong l) (terms.variables_of_all ts)) (sym h.are_names) (all_from _ (terms.variables_of_all ts) (λ x m. among_firsts bytes_eq text_is (terms.variables_of_all ts) x m));
        whole = λ some. (_, h.flat.stands);
        few = omega (arith, small, ap length h.flat.stands.cells_are, length-cells_of (numbered n own (terms.app s ts)), numbered_size n own (terms.app s ts));
      }

-- ---- literals
both_none : {X : Type 0} (xs ys : List X) → xs ++ ys ≡ [] → (xs ≡ []) × (ys ≡ [])
both_none [] ys e = (refl, e)
both_none (x ∷ xs) ys e = cc

pub record IsFirstLiteral (numbers : Numbering) (l : Literal) (ls : List Literal) : Type 0 where
  pub sound : IsSoundAtom l.atom
  pub small : terms.size l.atom ≤ MOST_OCCURRENCES
  pub known : unnumbered numbers (terms.symbols l.atom) ≡ []
  pub others : AreLiteralsLeft numbers ls

pub first_literal : (numbers : Numbering) (l : Literal) (ls : List Literal) → AreLiteralsLeft numbers (l ∷ ls) → IsFirstLiteral numbers l ls
first_literal numbers l ls h =
    let parts = both_none (unnumbered numbers (terms.symbols l.atom)) (unnumbered numbers (literals_symbols ls)) (sym (filter-append _ (terms.symbols l.atom) (literals_symbols ls)) ∙ h.numbered) in
    record {
      sound = h.sound.each.0;
      small = omega (arith, h.sound.no_larger);
      known = parts.0;
      others = record { sound = record { each = h.sound.each.1; no_larger = omega (arith, h.sound.no_larger) }; numbered = parts.1 };
    }

-- ---- the walk
pub all_left : (numbers : Numbering) (f : FlatEntries) (c : Clause) → IsSoundClause c → unnumbered numbers (clause_symbols c) ≡ [] → f.literal.cells ≡ [] → f.at ≡ 0 → literals_left f ≡ c.literals → AreLeft numbers f (entries_alone c.literals)
all_left numbers f c sound numbered none start literals =
    record {
      positive = true;
      terms = terms.none;
      terms_left = record {
        within = omega (arith, start);
        cells_are = (λ i. drop (start i) (none i));
        sound = tt;
        names_known = tt;
        whole = λ some. absurd (omega (arith, some, ap length none));
        few = omega (arith, ap length none);
      };
      literals_are_left = record {
        sound = subst AreSoundLiterals (sym literals) sound.sound;
        numbered = ap (λ ls. unnumbered numbers (literals_symbols ls)) literals ∙ numbered;
      };
      entries = ap entries_alone (sym literals);
    }

-- the next literal is given
pub literal_given : (numbers : Numbering) (old new : FlatEntries) (l : program.Literal) (left : List Entry) → old.literals.now ≡ l ∷ new.literals.now → new.at ≡ 1 → new.cells.items ≡ new.literal.cells
    → HoldsEntry numbers (literal_entry (literal_of l)) new.literal.cells new.literal.names
    → IsAtLiteralEnd numbers old left → GivesFirst numbers new true left
literal_given numbers old new l left literals start copied holds end =
    let is : literals_left old ≡ literal_of l ∷ literals_left new = ap (map literal_of) literals in
    let one = first_literal numbers (literal_of l) (literals_left new) (subst (AreLiteralsLeft numbers) is end.0) in
    let atom : Term = (literal_of l).atom in
    record {
      given = literal_entry (literal_of l);
      others = map term_entry (subterms_of_all (arguments atom)) ++ entries_alone (literals_left new);
      first = end.1 ∙ ap entries_alone is;
      are_left = record {
        positive = l.positive;
        terms = arguments atom;
        terms_left = subst (AreTermsLeft numbers l.positive (arguments atom) new.literal.cells new.literal.names) (sym start) (literal_terms numbers l.positive new.literal.cells new.literal.names atom one.sound one.small holds);
        literals_are_left = one.others;
        entries = refl;
      };
      kind = refl;
      flat = subst (IsFlatEntry numbers (literal_entry (literal_of l))) (sym copied) (literal_leaf numbers l.positive new.literal.cells new.literal.names atom one.small holds);
    }

-- the place is moved to the next symbol
module _ (numbers : Numbering) (old : FlatEntries) (left : List Entry) (h : AreLeft numbers old left) (at : ℕ) (within : at ≤ length old.literal.cells)
    (symbol : drop at old.literal.cells ≡ from_symbol (drop old.at old.literal.cells)) where
  here : AreTermsLeft numbers h.positive (past_variables h.terms) old.literal.cells old.literal.names at
  here = moved numbers h.positive old.literal.cells old.literal.names h.terms old.at at h.terms_left within symbol

  -- no subterm was left
  pub literal_ended : (new : FlatEntries) → new.literals.now ≡ old.literals.now → at ≡ length old.literal.cells → IsAtLiteralEnd numbers new left
  literal_ended new same end =
      let stay : literals_left new ≡ literals_left old = ap (map literal_of) same in (
        subst (AreLiteralsLeft numbers) (sym stay) h.literals_are_left,
        h.entries
            ∙ ap (λ ts. map term_entry ts ++ entries_alone (literals_left old)) (none_left numbers h.positive old.literal.cells old.literal.names h.terms at here end)
            ∙ ap entries_alone (sym stay),
      )

  -- the next subterm is given
  pub subterm_given : (new : FlatEntries) (part : List Cell) → (at ≡ length old.literal.cells → ⊥) → IsWhole part → part ≡ take (length part) (drop at old.literal.cells)
      → new.cells.items ≡ numbered_anew part → new.literals.now ≡ old.literals.now → new.literal ≡ old.literal → new.at ≡ at + 1
      → GivesFirst numbers new false left
  subterm_given new part some whole taken written same buffer next = by (some_left numbers h.positive old.literal.cells old.literal.names h.terms at here some) where
    by : (s : Symbol) × (us : Terms) × (rest : Terms) × (past_variables h.terms ≡ terms.more (terms.app s us) rest) → GivesFirst numbers new false left
    by (s, us, rest, is) =
        let there = subst (λ ts. AreTermsLeft numbers h.positive ts old.literal.cells old.literal.names at) is here in
        let stay : literals_left new ≡ literals_left old = ap (map literal_of) same in
        record {
          given = term_entry (terms.app s us);
          others = map term_entry (subterms_of_all (join us rest)) ++ entries_alone (literals_left new);
          first =
              h.entries
              ∙ ap (λ ts. map term_entry ts ++ entries_alone (literals_left old)) (sym (subterms-past h.terms) ∙ ap subterms_of_all is ∙ ap (λ ts. terms.app s us ∷ ts) (sym (subterms-join us rest)))
              ∙ ap (λ ls. map term_entry (terms.app s us ∷ subterms_of_all (join us rest)) ++ entries_alone ls) (sym stay);
          are_left = record {
            positive = h.positive;
            terms = join us rest;
            terms_left = subst (λ (b : Buffer). AreTermsLeft numbers h.positive (join us rest) b.cells b.names new.at) (sym buffer) (passed numbers h.positive old.literal.cells old.literal.names s us rest at there new.at next);
            literals_are_left = subst (AreLiteralsLeft numbers) (sym stay) h.literals_are_left;
            entries = refl;
          };
          kind = refl;
          flat = part_flat numbers h.positive old.literal.cells old.literal.names s us rest at there part new.cells.items whole taken written;
        }
