-- A node that is split: how many cells it has, and what is open at its left sides.
use Rattle.std.proofs.Common.{◌≡◌, ℕ, ◌<◌, ◌⊎◌, inl, inr, List, [], ◌∷◌, ◌++◌, length, take, drop, refl, sym, ◌∙◌, ap, subst, arith, append_assoc, append-nil}
use Rattle.std.proofs.lemmas.List.{map-append}
use Rattle.si_defs.specs.Substitutions.{IsAmong, AreDistinct}
use Rattle.si_defs.proofs.ListLaws.{all_at, among_either, among_back}
use Rattle.si_flat.specs.declared.Cell.{Cell}
use Rattle.si_flat.specs.Cells.{Term, IsWhole, StandsFor}
use Rattle.si_flat.specs.Rows.{CellPair, left_sides}
use Rattle.si_flat.proofs.RowLaws.{distinct_parts}
use Rattle.si_flat.proofs.Subterms.{length-cells_of}
use Rattle.si_legal.specs.Bindings.{Binding, right_indicators, right_sizes, StandForBindings}
use Rattle.si_changes.proofs.Borrowed.{bound_left}
use Rattle.si_insert.specs.declared.open.Opened.{Opened}
use Rattle.si_insert.specs.Opened.{numbers, BeginsAtPlace}
use Rattle.si_insert.specs.Passing.{MayPass}
use Rattle.si_insert.specs.Parting.{right_lengths, AreOpenAt}
use Rattle.si_insert.proofs.OpenPairs.{term_there}
use Rattle.si_insert.proofs.PassLaws.{stand_lefts, stand_append}
use Rattle.si_insert.proofs.HeadThere.{part_there, was_opened}

-- ---- how many cells
pub lengths_are : (cs : List CellPair) (bs : List Binding) → StandForBindings cs bs → right_lengths cs ≡ right_sizes bs
lengths_are [] [] h = refl
lengths_are [] (b ∷ bs) h = absurd h
lengths_are (c ∷ cs) [] h = absurd h
lengths_are (c ∷ cs) (b ∷ bs) h = omega (arith, ap length h.1.cells_are, length-cells_of b.1, lengths_are cs bs h.2)

-- ---- what is open at the left sides
pub record LeftToGive (cells : List Cell) (all : List Opened) (there bs : List Binding) (pairs given : List CellPair) : Type 0 where
  pub done : List Binding
  pub rest : List Binding
  pub new : List Binding
  pub all_are : bs ≡ done ++ rest
  pub stand : StandForBindings pairs rest
  pub gives : StandForBindings given new
  pub lefts : left_sides done ≡ left_sides new
  pub among : (b : Binding) → IsAmong new b → IsAmong there b

pub give_start : (cells : List Cell) (all : List Opened) (node : List CellPair) (there bs : List Binding) → MayPass cells all node there bs → LeftToGive cells all there bs node []
give_start cells all node there bs may = record {
  done = [];
  rest = bs;
  new = [];
  all_are = refl;
  stand = may.node_stand;
  gives = tt;
  lefts = refl;
  among = λ b a. absurd a;
}

pub give_end : (cells : List Cell) (all : List Opened) (there bs : List Binding) (given : List CellPair) → LeftToGive cells all there bs [] given → (new : List Binding) × StandForBindings given new × AreOpenAt there (left_sides bs) new
give_end cells all there bs given l = by l.rest l.all_are l.stand where
  by : (rest : List Binding) → bs ≡ l.done ++ rest → StandForBindings [] rest → (new : List Binding) × StandForBindings given new × AreOpenAt there (left_sides bs) new
  by [] e stand = (l.new, l.gives, record { lefts_are = ap left_sides (e ∙ append-nil l.done) ∙ l.lefts; among = l.among })
  by (b ∷ rest) e stand = absurd stand

-- one of those left, and its part
pub record NextToGive (cells : List Cell) (all : List Opened) (there bs : List Binding) (p : CellPair) (pairs given : List CellPair) : Type 0 where
  pub left : LeftToGive cells all there bs (p ∷ pairs) given
  pub part : Term
  pub is_there : IsAmong there (p.0, part)
  pub unbound : IsAmong (left_sides given) p.0 → ⊥

distinct_numbers : (cells : List Cell) (all : List Opened) (node : List CellPair) (there bs : List Binding) → MayPass cells all node there bs → AreDistinct (numbers all)
distinct_numbers cells all node there bs may = (distinct_parts (numbers all) (right_indicators bs) may.distinct).0

pub give_next : (cells : List Cell) (all : List Opened) (node : List CellPair) (there bs : List Binding) (p : CellPair) (pairs given : List CellPair) → AreDistinct (left_sides node) → MayPass cells all node there bs → LeftToGive cells all there bs (p ∷ pairs) given → NextToGive cells all there bs p pairs given
give_next cells all node there bs p pairs given once may l = by l.rest l.all_are l.stand where
  by : (rest : List Binding) → bs ≡ l.done ++ rest → StandForBindings (p ∷ pairs) rest → NextToGive cells all there bs p pairs given
  by [] e stand = absurd stand
  by (b ∷ rest) e stand =
      let left : IsAmong (left_sides bs) p.0 = subst (λ q. IsAmong (left_sides q) p.0) (sym e) (subst (λ q. IsAmong q p.0) (sym (map-append (λ c. c.0) l.done (b ∷ rest))) (among_back (left_sides l.done) (left_sides (b ∷ rest)) p.0 (inl (sym stand.0)))) in
      let part = bound_left there p.0 (all_at (IsAmong (left_sides there)) (left_sides bs) p.0 may.lefts left) in
      let distinct : AreDistinct (left_sides l.done ++ left_sides (b ∷ rest)) = subst AreDistinct (stand_lefts node bs may.node_stand ∙ ap left_sides e ∙ map-append (λ c. c.0) l.done (b ∷ rest)) once in
      record {
        left = l;
        part = part.0;
        is_there = part.1;
        unbound = λ a. (distinct_parts (left_sides l.done) (left_sides (b ∷ rest)) distinct).2 p.0 (subst (λ q. IsAmong q p.0) (stand_lefts given l.new l.gives ∙ sym l.lefts) a) (inl (sym stand.0));
      }

pub given_more : (cells : List Cell) (all : List Opened) (node : List CellPair) (there bs : List Binding) (p : CellPair) (pairs given more : List CellPair) (at : ℕ) (right : List Cell) → MayPass cells all node there bs → (n : NextToGive cells all there bs p pairs given) → BeginsAtPlace all p.0 at → right ≡ take (length right) (drop at cells) → IsWhole right → more ≡ given ++ (p.0, right) ∷ [] → LeftToGive cells all there bs pairs more
given_more cells all node there bs p pairs given more at right may n place e whole pushed = by l.rest l.all_are l.stand where
  l : LeftToGive cells all there bs (p ∷ pairs) given
  l = n.left

  stands : StandsFor right n.part
  stands = subst (λ r. StandsFor r n.part) (sym (term_there cells right at e whole)) (part_there cells all there p.0 at n.part (distinct_numbers cells all node there bs may) may.stand n.is_there place)

  by : (rest : List Binding) → bs ≡ l.done ++ rest → StandForBindings (p ∷ pairs) rest → LeftToGive cells all there bs pairs more
  by [] all_are stand = absurd stand
  by (b ∷ rest) all_are stand = record {
    done = l.done ++ b ∷ [];
    rest = rest;
    new = l.new ++ (p.0, n.part) ∷ [];
    all_are = all_are ∙ sym (append_assoc l.done (b ∷ []) rest);
    stand = stand.2;
    gives = subst (λ q. StandForBindings q (l.new ++ (p.0, n.part) ∷ [])) (sym pushed) (stand_append given ((p.0, right) ∷ []) l.new ((p.0, n.part) ∷ []) l.gives (refl, stands, tt));
    lefts = map-append (λ c. c.0) l.done (b ∷ []) ∙ (λ i. l.lefts i ++ sym stand.0 i ∷ []) ∙ sym (map-append (λ c. c.0) l.new ((p.0, n.part) ∷ []));
    among = λ c a. one c (among_either l.new (p.0, n.part) c a);
  } where
    one : (c : Binding) → IsAmong l.new c ⊎ ((p.0, n.part) ≡ c) → IsAmong there c
    one c (inl a) = l.among c a
    one c (inr same) = subst (IsAmong there) same n.is_there

pub opened_next : (cells : List Cell) (all : List Opened) (node : List CellPair) (there bs : List Binding) (p : CellPair) (pairs given : List CellPair) → MayPass cells all node there bs → NextToGive cells all there bs p pairs given → IsAmong (numbers all) p.0
opened_next cells all node there bs p pairs given may n = was_opened cells all there p.0 n.part may.stand n.is_there

pub next_within : (cells : List Cell) (all : List Opened) (node : List CellPair) (there bs : List Binding) (n at : ℕ) → MayPass cells all node there bs → BeginsAtPlace all n at → at < length cells
next_within cells all node there bs n at may place = subst (λ k. k < length cells) place.3 (all_at (λ o. o.at < length cells) all place.0 may.within place.1)
