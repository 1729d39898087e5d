-- What the numbers of a solution list stand for.
use Rattle.std.proofs.Common.{◌≡◌, ◌⊎◌, inl, inr, ℕ, zero, suc, ◌+◌, ◌*◌, ◌<◌, ◌≤◌, ◌^◌, Bool, true, false, cond, List, [], ◌∷◌, ◌++◌, Some, length, map, take, drop, get_or, refl, sym, ◌∙◌, ap, subst, arith, length-append, append_assoc, append-nil}
use Rattle.std.specs.Prelude.{bytes_eq, slice_get, codes}
use Rattle.std.proofs.lemmas.Slice.Eq.{bytes_eq-Decides}
use Rattle.std.proofs.Math.Seq.{drop-append_seam, take-append_seam}
use Rattle.si_defs.specs.Bytes.{Bytes}
use Rattle.si_defs.specs.Terms as terms
use Rattle.si_defs.specs.Symbols.{Symbol, Numbering, IsNumbering}
use Rattle.si_defs.specs.Substitutions.{IsAmong}
use Rattle.si_defs.specs.Variables.{Variable, of_pattern, of_entry, Apart, Solution, variable_text}
use Rattle.si_term.specs.Terms.{symbol_of}
use Rattle.si_term.specs.declared.term.Sym.{Sym}
use Rattle.si_flat.specs.declared.Cell.{Cell}
use Rattle.si_flat.specs.declared.Cell.TheVariants as cell
use Rattle.si_flat.specs.declared.Owner.TheVariants.{Query, Entry}
use Rattle.si_flat.specs.Cells as cells
use Rattle.si_flat.specs.Cells.{cells_of, cells_of_all, span}
use Rattle.si_flat.specs.Numbered.{numbered, all_numbered, place_in}
use Rattle.si_flat.specs.Flattened.{numbers_from, extra_numbers}
use Rattle.si_flat.proofs.Numbers.{has-among, among-number}
use Rattle.si_flat.proofs.Subterms.{length-cells_of, span-first}
use Rattle.si_io.specs.Shown.{SinkShown}
use Rattle.si_defs.specs.Printing.{separated, term_text, more_texts, bindings_texts, solution_text}
use Rattle.si_defs.proofs.ListLaws.{among_parts}
use Rattle.si_reply.specs.PrintedParts.{arguments_text, binding_text, more_bindings_text, bindings_text}
use Rattle.si_reply.proofs.Pieces.{four_apart}
use Rattle.si_reply.proofs.Writing.{Wrote}
use Rattle.si_reply.specs.NamedLists.{Naming, naming, symbol_number, numbered_variable, ShowsTerm, ShowAll, ShowsVariable, ShowsSymbol, ShowsBinding, ShowsList}
use Rattle.si_form.specs.declared.solution.Binding.{Binding}

-- ---- symbols
-- the extra symbol with a number, by its place
pub record ExtraAt (m : ℕ) (extra : List Sym) (s : Symbol) (n : ℕ) : Type 0 where
  pub index : ℕ
  pub place : n ≡ m + 2 * index
  pub inside : index < length extra
  pub found : (r : Sym) → slice_get extra index ≡ Some r → symbol_of r ≡ s

extra_at : (m : ℕ) (extra : List Sym) (s : Symbol) (n : ℕ) → IsAmong {V = Symbol × ℕ} (numbers_from m (map symbol_of extra)) (s, n) → ExtraAt m extra s n
extra_at m [] s n h = absurd h
extra_at m (r ∷ extra) s n (inl e) = record {
  index = 0;
  place = omega (arith, ap (λ p. p.1) e);
  inside = omega arith;
  found = λ q is. let same : r ≡ q = cc in ap symbol_of (sym same) ∙ ap (λ p. p.0) e;
}
extra_at m (r ∷ extra) s n (inr h) =
    let x = extra_at (2 + m) extra s n h in
    record { index = suc x.index; place = omega (arith, x.place); inside = omega (arith, x.inside); found = x.found }

known_among : (n : Naming) (number : ℕ) (s : Symbol) → ShowsSymbol n number s → IsAmong n.numbers (s, number)
known_among n number s h =
    subst (λ k. IsAmong n.numbers (s, k)) h.number_is (among-number n.numbers s (has-among n.numbers s h.known.0 h.known.1))

module _ (pairs : Numbering) (extra : List Sym) (xs ys : List Bytes) (number : ℕ) (s : Symbol) (shown : ShowsSymbol (naming pairs extra xs ys) number s) where
  either : IsAmong pairs (s, number) ⊎ IsAmong {V = Symbol × ℕ} (extra_numbers (map symbol_of extra)) (s, number)
  either = among_parts pairs (extra_numbers (map symbol_of extra)) (s, number) (known_among (naming pairs extra xs ys) number s shown)

  -- the table doesn't have the number, so it is an extra symbol's
  pub is_extra : ((r : Symbol) → IsAmong pairs (r, number) → ⊥) → ExtraAt (2 ^ 31) extra s number
  is_extra none = elim either [ inl a ↦ absurd (none s a) | inr a ↦ extra_at (2 ^ 31) extra s number a ]

  -- the table has it, and then it is that symbol's
  pub is_known : IsNumbering pairs → (r : Symbol) → IsAmong pairs (r, number) → r ≡ s
  is_known numbering r a =
      elim either [
        | inl b ↦ numbering.one_symbol r s number a b
        | inr b ↦ absurd (omega (arith, (extra_at (2 ^ 31) extra s number b).place, numbering.small r number a))
      ]

-- ---- variables
pub record NameAt (xs : List Bytes) (slot : ℕ) (x : Bytes) : Type 0 where
  pub inside : slot < length xs
  pub found : (y : Bytes) → slice_get xs slot ≡ Some y → y ≡ x

name_at : (xs : List Bytes) (x : Bytes) → IsAmong xs x → NameAt xs (place_in bytes_eq xs x) x
name_at [] x h = absurd h
name_at (y ∷ xs) x h = by (bytes_eq y x) refl h (name_at xs x) where
  by : (b : Bool) → bytes_eq y x ≡ b → (y ≡ x) ⊎ IsAmong xs x → (IsAmong xs x → NameAt xs (place_in bytes_eq xs x) x)
      → NameAt (y ∷ xs) (cond b 0 (1 + place_in bytes_eq xs x)) x
  by true e h later = record { inside = omega arith; found = λ z is. let same : y ≡ z = cc in sym same ∙ (bytes_eq-Decides y x).0 e }
  by false e (inl same) later = absurd (let bad : true ≡ false = sym ((bytes_eq-Decides y x).1 same) ∙ e in cc)
  by false e (inr h) later =
      let r = later h in
      let next : 1 + place_in bytes_eq xs x ≡ suc (place_in bytes_eq xs x) = omega arith in
      record { inside = omega (arith, r.inside); found = λ z is. r.found z (subst (λ i. slice_get (y ∷ xs) i ≡ Some z) next is) }

pub record PatternName (n : Naming) (slot : ℕ) (x : Variable) : Type 0 where
  pub name : Bytes
  pub is : x ≡ of_pattern name
  pub at : NameAt n.query_names slot name

pub record EntryName (n : Naming) (slot : ℕ) (x : Variable) : Type 0 where
  pub name : Bytes
  pub is : x ≡ of_entry name
  pub at : NameAt n.entry_names slot name

abbrev number_of : cells.Variable → ℕ
number_of (cells.query k) = k
number_of (cells.entry k) = k
number_of (cells.ind k) = k

pub pattern_name : (n : Naming) (slot : ℕ) (x : Variable) → ShowsVariable n Query slot x → PatternName n slot x
pattern_name n slot (of_pattern x) h = record {
  name = x;
  is = refl;
  at = subst (λ k. NameAt n.query_names k x) (ap number_of h.number) (name_at n.query_names x h.named);
}
pattern_name n slot (of_entry x) h = absurd (let bad = h.number in cc)

pub entry_name : (n : Naming) (slot : ℕ) (x : Variable) → ShowsVariable n Entry slot x → EntryName n slot x
entry_name n slot (of_entry x) h = record {
  name = x;
  is = refl;
  at = subst (λ k. NameAt n.entry_names k x) (ap number_of h.number) (name_at n.entry_names x h.named);
}
entry_name n slot (of_pattern x) h = absurd (let bad = h.number in cc)

-- ---- terms by their first cell
pub record AppFront (n : Naming) (cs : List Cell) (number : ℕ) (t : Apart) : Type 0 where
  pub symbol : Symbol
  pub arguments : terms.Terms Symbol Variable
  pub is : t ≡ terms.app symbol arguments
  pub head : ShowsSymbol n number symbol
  pub rest : ShowAll n (drop 1 cs) arguments

abbrev number_in_cell : Cell → ℕ
number_in_cell (cell.App s a l) = s
number_in_cell (cell.Query k) = k
number_in_cell (cell.Entry k) = k
number_in_cell (cell.Ind k) = k

first_is : (n : Naming) (cs : List Cell) (t : Apart) (d : Cell) → ShowsTerm n cs t → get_or cs 0 d ≡ get_or (cells_of (numbered (symbol_number n) (numbered_variable n) t)) 0 d
first_is n cs t d h = ap (λ l. get_or l 0 d) h.stands.cells_are

pub app_front : (n : Naming) (cs : List Cell) (t : Apart) (d : Cell) (number arity len : ℕ) → ShowsTerm n cs t → get_or cs 0 d ≡ cell.App number arity len → AppFront n cs number t
app_front n cs (terms.var (of_pattern x)) d number arity len h e = absurd (let bad = sym (first_is n cs (terms.var (of_pattern x)) d h) ∙ e in cc)
app_front n cs (terms.var (of_entry x)) d number arity len h e = absurd (let bad = sym (first_is n cs (terms.var (of_entry x)) d h) ∙ e in cc)
app_front n cs (terms.app s ts) d number arity len h e =
    record {
      symbol = s;
      arguments = ts;
      is = refl;
      head = record { number_is = ap number_in_cell (sym (first_is n cs (terms.app s ts) d h) ∙ e); known = h.known.0 };
      rest = record { cells_are = ap (drop 1) h.stands.cells_are; sound = h.stands.sound.1; known = h.known.1 };
    }

pub query_front : (n : Naming) (cs : List Cell) (t : Apart) (d : Cell) (k : ℕ) → ShowsTerm n cs t → get_or cs 0 d ≡ cell.Query k → (x : Variable) × (t ≡ terms.var x) × ShowsVariable n Query k x
query_front n cs (terms.app s ts) d k h e = absurd (let bad = sym (first_is n cs (terms.app s ts) d h) ∙ e in cc)
query_front n cs (terms.var (of_entry x)) d k h e = absurd (let bad = sym (first_is n cs (terms.var (of_entry x)) d h) ∙ e in cc)
query_front n cs (terms.var (of_pattern x)) d k h e =
    (of_pattern x, refl, record { number = ap cells.query (ap number_in_cell (sym (first_is n cs (terms.var (of_pattern x)) d h) ∙ e)); named = h.known })

pub entry_front : (n : Naming) (cs : List Cell) (t : Apart) (d : Cell) (k : ℕ) → ShowsTerm n cs t → get_or cs 0 d ≡ cell.Entry k → (x : Variable) × (t ≡ terms.var x) × ShowsVariable n Entry k x
entry_front n cs (terms.app s ts) d k h e = absurd (let bad = sym (first_is n cs (terms.app s ts) d h) ∙ e in cc)
entry_front n cs (terms.var (of_pattern x)) d k h e = absurd (let bad = sym (first_is n cs (terms.var (of_pattern x)) d h) ∙ e in cc)
entry_front n cs (terms.var (of_entry x)) d k h e =
    (of_entry x, refl, record { number = ap cells.entry (ap number_in_cell (sym (first_is n cs (terms.var (of_entry x)) d h) ∙ e)); named = h.known })

pub no_indicator : (n : Naming) (cs : List Cell) (t : Apart) (d : Cell) (k : ℕ) → ShowsTerm n cs t → get_or cs 0 d ≡ cell.Ind k → ⊥
no_indicator n cs (terms.app s ts) d k h e = let bad = sym (first_is n cs (terms.app s ts) d h) ∙ e in cc
no_indicator n cs (terms.var (of_pattern x)) d k h e = let bad = sym (first_is n cs (terms.var (of_pattern x)) d h) ∙ e in cc
no_indicator n cs (terms.var (of_entry x)) d k h e = let bad = sym (first_is n cs (terms.var (of_entry x)) d h) ∙ e in cc

pub some_cells : (n : Naming) (cs : List Cell) (t : Apart) → ShowsTerm n cs t → 0 < length cs
some_cells n cs (terms.var x) h = omega (arith, ap length h.stands.cells_are, length-cells_of (numbered (symbol_number n) (numbered_variable n) (terms.var x)))
some_cells n cs (terms.app s ts) h = omega (arith, ap length h.stands.cells_are)

-- ---- terms one after the other
-- the first of them, and the others
pub record Begins (n : Naming) (cs : List Cell) (k : ℕ) (ts : terms.Terms Symbol Variable) : Type 0 where
  pub term : Apart
  pub others : terms.Terms Symbol Variable
  pub is : ts ≡ terms.more term others
  pub first : ShowsTerm n (take k cs) term
  pub rest : ShowAll n (drop k cs) others
  pub inside : k ≤ length cs
  pub some : 0 < k

positive : (n : Naming) (t : Apart) → 0 < terms.size (numbered (symbol_number n) (numbered_variable n) t)
positive n (terms.var x) = omega arith
positive n (terms.app s ts) = omega arith

begins_by : (n : Naming) (cs : List Cell) (k : ℕ) (t : Apart) (ts : terms.Terms Symbol Variable)
    → ShowAll n cs (terms.more t ts) → k ≡ length (cells_of (numbered (symbol_number n) (numbered_variable n) t)) → Begins n cs k (terms.more t ts)
begins_by n cs k t ts h e =
    let front = cells_of (numbered (symbol_number n) (numbered_variable n) t) in
    let back = cells_of_all (all_numbered (symbol_number n) (numbered_variable n) ts) in
    record {
      term = t;
      others = ts;
      is = refl;
      first = record {
        stands = record { cells_are = ap (take k) h.cells_are ∙ ap (λ j. take j (front ++ back)) e ∙ take-append_seam front back; sound = h.sound.0 };
        known = h.known.0;
      };
      rest = record { cells_are = ap (drop k) h.cells_are ∙ ap (λ j. drop j (front ++ back)) e ∙ drop-append_seam front back; sound = h.sound.1; known = h.known.1 };
      inside = omega (arith, e, ap length h.cells_are, length-append front back);
      some = omega (arith, e, length-cells_of (numbered (symbol_number n) (numbered_variable n) t), positive n t);
    }

pub begins : (n : Naming) (cs : List Cell) (d : Cell) (ts : terms.Terms Symbol Variable) → ShowAll n cs ts → 0 < length cs → Begins n cs (span (get_or cs 0 d)) ts
begins n cs d terms.none h some = absurd (omega (arith, ap length h.cells_are, some))
begins n cs d (terms.more t ts) h some =
    let u = numbered (symbol_number n) (numbered_variable n) t in
    let back = cells_of_all (all_numbered (symbol_number n) (numbered_variable n) ts) in
    begins_by n cs (span (get_or cs 0 d)) t ts h
    (ap (λ l. span (get_or l 0 d)) h.cells_are ∙ span-first u back d ∙ sym (length-cells_of u))

-- no cells, no terms
pub none_left : (n : Naming) (cs : List Cell) (ts : terms.Terms Symbol Variable) → ShowAll n cs ts → length cs ≡ 0 → ts ≡ terms.none
none_left n cs terms.none h none = refl
none_left n cs (terms.more t ts) h none =
    absurd (omega (arith, none, ap length h.cells_are, length-append (cells_of (numbered (symbol_number n) (numbered_variable n) t)) (cells_of_all (all_numbered (symbol_number n) (numbered_variable n) ts)), length-cells_of (numbered (symbol_number n) (numbered_variable n) t), positive n t))

-- ---- terms of which some are written, each after a comma
pub record LeftToPut (n : Naming) (rest : List Cell) (old now : SinkShown) (ts : terms.Terms Symbol Variable) : Type 0 where
  pub left : terms.Terms Symbol Variable
  pub shows : ShowAll n rest left
  pub wrote : Wrote old now (more_texts variable_text ts) (more_texts variable_text left)

-- terms that were split after the first
pub record Halves (n : Naming) (first others : List Cell) (ts : terms.Terms Symbol Variable) : Type 0 where
  pub term : Apart
  pub behind : terms.Terms Symbol Variable
  pub is : ts ≡ terms.more term behind
  pub shows : ShowsTerm n first term
  pub rest : ShowAll n others behind

pub halves : (n : Naming) (cs first others : List Cell) (k : ℕ) (d : Cell) (ts : terms.Terms Symbol Variable)
    → ShowAll n cs ts → 0 < length cs → k ≡ span (get_or cs 0 d) → first ≡ take k cs → others ≡ drop k cs → Halves n first others ts
halves n cs first others k d ts h some size front back =
    let b = begins n cs d ts h some in
    record {
      term = b.term;
      behind = b.others;
      is = b.is;
      shows = subst (λ l. ShowsTerm n l b.term) (sym (front ∙ ap (λ j. take j cs) size)) b.first;
      rest = subst (λ l. ShowAll n l b.others) (sym (back ∙ ap (λ j. drop j cs) size)) b.rest;
    }

-- the arguments, the first apart
pub arguments_apart : (n : Naming) (first others : List Cell) (ts : terms.Terms Symbol Variable) (h : Halves n first others ts)
    → arguments_text variable_text ts ≡ codes "(" ++ (term_text variable_text h.term ++ (more_texts variable_text h.behind ++ codes ")"))
arguments_apart n first others ts h =
    ap (arguments_text variable_text) h.is
    ∙ four_apart (codes "(") (term_text variable_text h.term) (more_texts variable_text h.behind) (codes ")")

-- the same after a comma
pub more_apart : (n : Naming) (first others : List Cell) (ts : terms.Terms Symbol Variable) (h : Halves n first others ts)
    → more_texts variable_text ts ≡ codes "," ++ (term_text variable_text h.term ++ more_texts variable_text h.behind)
more_apart n first others ts h =
    ap (more_texts variable_text) h.is ∙ append_assoc (codes ",") (term_text variable_text h.term) (more_texts variable_text h.behind)

-- ---- bindings
pub binding_parts : (b : Variable × Apart) → binding_text b ≡ variable_text b.0 ++ (codes " -> " ++ term_text variable_text b.1)
unfolding binding_text
binding_parts b = append_assoc (variable_text b.0) (codes " -> ") (term_text variable_text b.1)

pub shows_value : (n : Naming) (cs ds : List Cell) (t : Apart) → ds ≡ cs → ShowsTerm n cs t → ShowsTerm n ds t
shows_value n cs ds t e h = subst (λ l. ShowsTerm n l t) (sym e) h

pub shows_none : (n : Naming) (bs : List Binding) (list : Solution) → ShowsList n bs list → length bs ≡ 0 → list ≡ []
shows_none n [] [] h none = refl
shows_none n [] (pair ∷ pairs) h none = absurd h
shows_none n (b ∷ bs) list h none = absurd (omega (arith, none))

-- the pair of the binding with this number
pub record PairAt (n : Naming) (b : Binding) (i : ℕ) (list : Solution) : Type 0 where
  pub pair : Variable × Apart
  pub from : drop i list ≡ pair ∷ drop (i + 1) list
  pub shows : ShowsBinding n b pair

pub pair_at : (n : Naming) (bs : List Binding) (list : Solution) (i : ℕ) (b : Binding) → ShowsList n bs list → slice_get bs i ≡ Some b → PairAt n b i list
pair_at n [] list i b h is = absurd (let bad = is in cc)
pair_at n (c ∷ bs) [] i b h is = absurd h
pair_at n (c ∷ bs) (pair ∷ pairs) zero b h is =
    let same : c ≡ b = cc in
    record { pair = pair; from = refl; shows = subst (λ x. ShowsBinding n x pair) same h.0 }
pair_at n (c ∷ bs) (pair ∷ pairs) (suc i) b h is =
    let r = pair_at n bs pairs i b h.1 is in
    let next : suc (i + 1) ≡ suc i + 1 = omega arith in
    record { pair = r.pair; from = r.from ∙ ap (λ k. r.pair ∷ drop k (pair ∷ pairs)) next; shows = r.shows }

-- the first, and the others after semicolons
pub bindings_begin : (list : Solution) (b : Variable × Apart) → list ≡ b ∷ drop 1 list → bindings_text list ≡ binding_text b ++ more_bindings_text (drop 1 list)
unfolding bindings_text
bindings_begin [] b e = absurd (let bad = e in cc)
bindings_begin (c ∷ list) b e = let same : c ≡ b = cc in ap (λ x. binding_text x ++ more_bindings_text list) same

pub more_bindings_begin : (list : Solution) (i : ℕ) (b : Variable × Apart) → drop i list ≡ b ∷ drop (i + 1) list
    → more_bindings_text (drop i list) ≡ codes "; " ++ (binding_text b ++ more_bindings_text (drop (i + 1) list))
unfolding more_bindings_text
more_bindings_begin list i b e = ap more_bindings_text e ∙ append_assoc (codes "; ") (binding_text b) (more_bindings_text (drop (i + 1) list))

bindings_are : (b : Variable × Apart) (bs : Solution) → separated (codes "; ") (bindings_texts variable_text (b ∷ bs)) ≡ binding_text b ++ more_bindings_text bs
unfolding binding_text more_bindings_text
bindings_are b [] = sym (append-nil (binding_text b))
bindings_are b (c ∷ bs) =
    ap (λ l. (binding_text b ++ codes "; ") ++ l) (bindings_are c bs)
    ∙ append_assoc (binding_text b) (codes "; ") (binding_text c ++ more_bindings_text bs)
    ∙ ap (λ l. binding_text b ++ l) (sym (append_assoc (codes "; ") (binding_text c) (more_bindings_text bs)))

-- the whole list, in braces
pub solution_parts : (list : Solution) → solution_text variable_text list ≡ codes "{" ++ (bindings_text list ++ codes "}")
unfolding bindings_text more_bindings_text
solution_parts [] = refl
solution_parts (b ∷ bs) =
    ap (λ l. (codes "{" ++ l) ++ codes "}") (bindings_are b bs) ∙ append_assoc (codes "{") (binding_text b ++ more_bindings_text bs) (codes "}")

-- each binding has its pair
pub pair_there : (n : Naming) (bs : List Binding) (list : Solution) (i : ℕ) → ShowsList n bs list → i < length bs → (pair : Variable × Apart) × (drop i list ≡ pair ∷ drop (i + 1) list)
pair_there n [] list i h less = absurd (omega (arith, less))
pair_there n (b ∷ bs) [] i h less = absurd h
pair_there n (b ∷ bs) (pair ∷ pairs) zero h less = (pair, refl)
pair_there n (b ∷ bs) (pair ∷ pairs) (suc i) h less =
    let r = pair_there n bs pairs i h.1 (omega (arith, less)) in
    let next : suc (i + 1) ≡ suc i + 1 = omega arith in
    (r.0, r.1 ∙ ap (λ k. r.0 ∷ drop k (pair ∷ pairs)) next)

pub all_dropped : (n : Naming) (bs : List Binding) (list : Solution) (i : ℕ) → ShowsList n bs list → length bs ≤ i → drop i list ≡ []
all_dropped n [] [] zero h less = refl
all_dropped n [] [] (suc i) h less = refl
all_dropped n [] (pair ∷ pairs) i h less = absurd h
all_dropped n (b ∷ bs) [] i h less = absurd h
all_dropped n (b ∷ bs) (pair ∷ pairs) zero h less = absurd (omega (arith, less))
all_dropped n (b ∷ bs) (pair ∷ pairs) (suc i) h less = all_dropped n bs pairs i h.1 (omega (arith, less))

pub no_bindings : (list : Solution) → list ≡ [] → bindings_text list ≡ []
unfolding bindings_text
no_bindings list e = ap bindings_text e

pub no_more_bindings : (list : Solution) → list ≡ [] → more_bindings_text list ≡ []
unfolding more_bindings_text
no_more_bindings list e = ap more_bindings_text e
