-- The pieces of two terms are right.
use Rattle.std.proofs.Common.{◌≡◌, ℕ, zero, suc, ◌+◌, ◌<◌, ◌≤◌, ◌⊎◌, inl, inr, Bool, true, false, cond, ◌&&◌, ◌==◌, List, [], ◌∷◌, ◌++◌, refl, ap, sym, ◌∙◌, subst, arith}
use Rattle.std.specs.Prelude.{nat_le}
use Rattle.std.proofs.lemmas.Bool.{and_parts, eqb-true, eq-eqb, le-leb}
use Rattle.std.proofs.lemmas.Bool.Decides.{leb_tells}
use Rattle.std.proofs.lemmas.List.{map-append}
use Rattle.std.proofs.lemmas.List.Elements.{filter-append}
use Rattle.si_defs.specs.Terms as terms
use Rattle.si_defs.specs.Substitutions.{IsAmong, AreDistinct}
use Rattle.si_defs.proofs.ListLaws.{among_front, among_back, among_parts}
use Rattle.si_flat.specs.Cells.{Symbol, Variable, query, entry, ind, Term, Terms, IsSound, AreSound}
use Rattle.si_flat.proofs.RowLaws.{distinct_append, distinct_parts}
use Rattle.si_flat.proofs.VariableLaws.{variable_is, variable_self}
use Rattle.si_flat.specs.Rows.{left_sides}
use Rattle.si_legal.specs.Bindings.{indicator, IsIndicator, indicators_among, indicators}
use Rattle.si_legal.specs.Generalizations.{same_head, IsCommonTerm, consecutive, fresh_among}
use Rattle.si_legal.specs.Pieces.{Piece, Pieces, kept, alike, apart, over, then, piece, pieces}
use Rattle.si_legal.proofs.CommonLaws.{common_kept, common_variable, common_fresh, common_app, AreCommonTerms}
use Rattle.si_legal.proofs.PartLaws.{IsSide, AreSides, side_bound, side_kept, side_variable, side_app, sides_none, sides_more}

-- ---- indicators
pub indicators-append : (xs ys : List Variable) → indicators_among (xs ++ ys) ≡ indicators_among xs ++ indicators_among ys
indicators-append [] ys = refl
indicators-append (query n ∷ xs) ys = indicators-append xs ys
indicators-append (entry n ∷ xs) ys = indicators-append xs ys
indicators-append (ind n ∷ xs) ys = ap (λ l. n ∷ l) (indicators-append xs ys)

abbrev pub indicators_all : Terms → List ℕ
indicators_all ts = indicators_among (terms.variables_of_all ts)

pub indicators-more : (t : Term) (ts : Terms) → indicators_all (terms.more t ts) ≡ indicators t ++ indicators_all ts
indicators-more t ts = indicators-append (terms.variables t) (terms.variables_of_all ts)

-- ---- lists of numbers
pub numbers-append : (first m n : ℕ) → consecutive first (m + n) ≡ consecutive first m ++ consecutive (first + m) n
numbers-append first zero n =
    let count : 0 + n ≡ n = omega arith in
    let start : first ≡ first + 0 = omega arith in
    λ i. consecutive (start i) (count i)
numbers-append first (suc m) n =
    let count : suc m + n ≡ suc (m + n) = omega arith in
    let start : suc first + m ≡ first + suc m = omega arith in
    ap (λ k. consecutive first k) count
    ∙ ap (λ l. first ∷ l) (numbers-append (suc first) m n ∙ ap (λ k. consecutive (suc first) m ++ consecutive k n) start)

-- ---- what holds of a piece
-- each indicator of the common part is an old one of the node, or a fresh one
abbrev pub IsFromNode : ℕ → List ℕ → ℕ → ℕ → ℕ → Type 0
IsFromNode base olds next after n = ((n < base) × IsAmong olds n) ⊎ ((next ≤ n) × (n < after))

pub record AreNumbered (base next after : ℕ) (olds inds lefts_node lefts_new : List ℕ) : Type 0 where
  pub grows : next ≤ after
  pub new_lefts : lefts_new ≡ inds
  pub node_lefts : lefts_node ≡ fresh_among base inds
  pub numbers : (k : ℕ) × (after ≡ next + k) × (lefts_node ≡ consecutive next k)
  pub from_node : (n : ℕ) → IsAmong inds n → IsFromNode base olds next after n
  pub distinct : AreDistinct inds

abbrev pub IsNew : ℕ → Type 0
IsNew n = Unit {0}

abbrev pub IsFrom : ℕ → ℕ → Type 0
IsFrom base n = base ≤ n

pub record IsPiece (base next : ℕ) (t u : Term) (p : Piece) : Type 0 where
  pub numbered : AreNumbered base next p.next (indicators t) (indicators p.common) (left_sides p.node) (left_sides p.new)
  pub common : IsCommonTerm base t u p.common
  pub node_side : IsSide (IsFrom base) (indicators t) p.common t p.node
  pub new_side : IsSide IsNew (indicators t) p.common u p.new

pub record ArePieces (base next : ℕ) (ts us : Terms) (p : Pieces) : Type 0 where
  pub numbered : AreNumbered base next p.next (indicators_all ts) (indicators_all p.common) (left_sides p.node) (left_sides p.new)
  pub common : AreCommonTerms base ts us p.common
  pub node_side : AreSides (IsFrom base) (indicators_all ts) p.common ts p.node
  pub new_side : AreSides IsNew (indicators_all ts) p.common us p.new

-- ---- one term
low_dropped : (base n : ℕ) → n < base → fresh_among base (n ∷ []) ≡ []
low_dropped base n low = elim (leb_tells base n) [
  | inl h ↦ absurd (omega (arith, h.1, low))
  | inr h ↦ ap (λ b. cond b (n ∷ []) []) h.0
]

high_stays : (base n : ℕ) → base ≤ n → fresh_among base (n ∷ []) ≡ n ∷ []
high_stays base n high = ap (λ b. cond b (n ∷ []) []) (le-leb base n high)

numbered_kept : (base next n : ℕ) → n < base → AreNumbered base next next (n ∷ []) (n ∷ []) [] (n ∷ [])
numbered_kept base next n low = record {
  grows = omega arith;
  new_lefts = refl;
  node_lefts = sym (low_dropped base n low);
  numbers = (0, omega arith, refl);
  from_node = (λ m a. inl (elim a as (λ _. (m < base) × IsAmong (n ∷ []) m) [ inl e ↦ (subst (λ k. k < base) e low, inl e) | inr h ↦ absurd h ]));
  distinct = ((λ h. h), tt);
}

numbered_none : (base next : ℕ) (olds : List ℕ) → AreNumbered base next next olds [] [] []
numbered_none base next olds = record {
  grows = omega arith;
  new_lefts = refl;
  node_lefts = refl;
  numbers = (0, omega arith, refl);
  from_node = (λ m a. absurd a);
  distinct = tt;
}

numbered_fresh : (base next : ℕ) (olds : List ℕ) → base ≤ next → AreNumbered base next (1 + next) olds (next ∷ []) (next ∷ []) (next ∷ [])
numbered_fresh base next olds high = record {
  grows = omega arith;
  new_lefts = refl;
  node_lefts = sym (high_stays base next high);
  numbers = (1, omega arith, refl);
  from_node = (λ m a. inr (elim a as (λ _. (next ≤ m) × (m < 1 + next)) [ inl e ↦ (subst (λ k. next ≤ k) e (omega arith), subst (λ k. k < 1 + next) e (omega arith)) | inr h ↦ absurd h ]));
  distinct = ((λ h. h), tt);
}

is_kept : (base next n : ℕ) (u : Term) → n < base → IsPiece base next (indicator n) u (kept next n u)
is_kept base next n u low = record {
  numbered = numbered_kept base next n low;
  common = common_kept base n u;
  node_side = side_kept (IsFrom base) n (λ h. omega (arith, h, low));
  new_side = side_bound IsNew (n ∷ []) n u;
}

is_apart : (base next : ℕ) (t u : Term) → base ≤ next → (IsIndicator t → ⊥) → same_head t u ≡ false → IsPiece base next t u (apart next t u)
is_apart base next t u high plain differ = record {
  numbered = numbered_fresh base next (indicators t) high;
  common = common_fresh base next t u plain differ high;
  node_side = side_bound (IsFrom base) (indicators t) next t;
  new_side = side_bound IsNew (indicators t) next u;
}

plain_none : (x : Variable) → (IsIndicator (terms.var x) → ⊥) → indicators_among (x ∷ []) ≡ []
plain_none (query n) plain = refl
plain_none (entry n) plain = refl
plain_none (ind n) plain = absurd (plain tt)

-- a variable that both have
is_alike : (base next : ℕ) (x : Variable) (u : Term) → (IsIndicator (terms.var x) → ⊥) → same_head (terms.var x) u ≡ true → IsPiece base next (terms.var x) u (alike next (terms.var x))
is_alike base next x u plain same = record {
  numbered = subst (λ l. AreNumbered base next next (indicators (terms.var x)) l [] []) (sym (plain_none x plain)) (numbered_none base next (indicators (terms.var x)));
  common = common_variable base x u plain same (variable_self x);
  node_side = side_variable (IsFrom base) (indicators (terms.var x)) x plain;
  new_side = subst (λ t. IsSide IsNew (indicators (terms.var x)) (terms.var x) t []) (same_term u same) (side_variable IsNew (indicators (terms.var x)) x plain);
} where
  same_term : (u : Term) → same_head (terms.var x) u ≡ true → terms.var x ≡ u
  same_term (terms.var y) e = ap (λ z. terms.var z) (variable_is x y e)
  same_term (terms.app s ts) e = cc

-- ---- several terms
numbered_then : (base next mid after : ℕ) (olds olds' inds inds' node node' new new' : List ℕ) → base ≤ next → AreDistinct (olds ++ olds') → AreNumbered base next mid olds inds node new → AreNumbered base mid after olds' inds' node' new' → AreNumbered base next after (olds ++ olds') (inds ++ inds') (node ++ node') (new ++ new')
numbered_then base next mid after olds olds' inds inds' node node' new new' high distinct p q = record {
  grows = omega (arith, p.grows, q.grows);
  new_lefts = λ i. p.new_lefts i ++ q.new_lefts i;
  node_lefts = (λ i. p.node_lefts i ++ q.node_lefts i) ∙ sym (filter-append (λ n. nat_le base n) inds inds');
  numbers = (
    p.numbers.0 + q.numbers.0,
    omega (arith, p.numbers.1, q.numbers.1),
    (λ i. p.numbers.2 i ++ q.numbers.2 i)
        ∙ ap (λ k. consecutive next p.numbers.0 ++ consecutive k q.numbers.0) p.numbers.1
        ∙ sym (numbers-append next p.numbers.0 q.numbers.0),
  );
  from_node = λ n a. elim (among_parts inds inds' n a) [ inl b ↦ first n (p.from_node n b) | inr b ↦ second n (q.from_node n b) ];
  distinct = distinct_append inds inds' p.distinct q.distinct (λ n a b. meet n (p.from_node n a) (q.from_node n b));
} where
  first : (n : ℕ) → IsFromNode base olds next mid n → IsFromNode base (olds ++ olds') next after n
  first n (inl h) = inl (h.0, among_front olds olds' n h.1)
  first n (inr h) = inr (h.0, omega (arith, h.1, q.grows))

  second : (n : ℕ) → IsFromNode base olds' mid after n → IsFromNode base (olds ++ olds') next after n
  second n (inl h) = inl (h.0, among_back olds olds' n h.1)
  second n (inr h) = inr (omega (arith, h.0, p.grows), h.1)

  meet : (n : ℕ) → IsFromNode base olds next mid n → IsFromNode base olds' mid after n → ⊥
  meet n (inl h) (inl k) = (distinct_parts olds olds' distinct).2 n h.1 k.1
  meet n (inl h) (inr k) = omega (arith, h.0, k.0, high, p.grows)
  meet n (inr h) (inl k) = omega (arith, h.0, k.0, high)
  meet n (inr h) (inr k) = omega (arith, h.1, k.0)

are_then : (base next : ℕ) (t u : Term) (ts us : Terms) (p : Piece) (ps : Pieces) → base ≤ next → AreDistinct (indicators t ++ indicators_all ts) → IsPiece base next t u p → ArePieces base p.next ts us ps → ArePieces base next (terms.more t ts) (terms.more u us) (then p ps)
are_then base next t u ts us p ps high distinct one all = record {
  numbered =
      subst (λ l. AreNumbered base next ps.next l (indicators_all (terms.more p.common ps.common)) (left_sides (p.node ++ ps.node)) (left_sides (p.new ++ ps.new))) (sym (indicators-more t ts))
      (subst (λ l. AreNumbered base next ps.next (indicators t ++ indicators_all ts) l (left_sides (p.node ++ ps.node)) (left_sides (p.new ++ ps.new))) (sym (indicators-more p.common ps.common))
      (subst (λ l. AreNumbered base next ps.next (indicators t ++ indicators_all ts) (indicators p.common ++ indicators_all ps.common) l (left_sides (p.new ++ ps.new))) (sym (map-append (λ b. b.0) p.node ps.node))
      (subst (λ l. AreNumbered base next ps.next (indicators t ++ indicators_all ts) (indicators p.common ++ indicators_all ps.common) (left_sides p.node ++ left_sides ps.node) l) (sym (map-append (λ b. b.0) p.new ps.new))
      (numbered_then base next p.next ps.next (indicators t) (indicators_all ts) (indicators p.common) (indicators_all ps.common) (left_sides p.node) (left_sides ps.node) (left_sides p.new) (left_sides ps.new) high distinct one.numbered all.numbered))));
  common = (one.common, all.common);
  node_side = subst (λ l. AreSides (IsFrom base) l (terms.more p.common ps.common) (terms.more t ts) (p.node ++ ps.node)) (sym (indicators-more t ts)) (sides_more (IsFrom base) (indicators t) (indicators_all ts) p.common t ps.common ts p.node ps.node one.node_side all.node_side);
  new_side = subst (λ l. AreSides IsNew l (terms.more p.common ps.common) (terms.more u us) (p.new ++ ps.new)) (sym (indicators-more t ts)) (sides_more IsNew (indicators t) (indicators_all ts) p.common u ps.common us p.new ps.new one.new_side all.new_side);
}

pub symbol_is : (s r : Symbol) → ((s.number == r.number) && (s.arity == r.arity)) ≡ true → s ≡ r
symbol_is s r e =
    let both = and_parts (s.number == r.number) (s.arity == r.arity) e in
    λ i. record { number = eqb-true s.number r.number both.0 i; arity = eqb-true s.arity r.arity both.1 i }

pub symbol_self : (s : Symbol) → ((s.number == s.number) && (s.arity == s.arity)) ≡ true
symbol_self s = (λ i. eq-eqb s.number s.number refl i && eq-eqb s.arity s.arity refl i)

is_over : (base next : ℕ) (s r : Symbol) (ts us : Terms) (ps : Pieces) → ((s.number == r.number) && (s.arity == r.arity)) ≡ true → ArePieces base next ts us ps → IsPiece base next (terms.app s ts) (terms.app r us) (over s ps)
is_over base next s r ts us ps same all = record {
  numbered = all.numbered;
  common = common_app base s r ts us ps.common same (symbol_self s) all.common;
  node_side = side_app (IsFrom base) (indicators_all ts) s ps.common ts ps.node all.node_side;
  new_side = subst (λ x. IsSide IsNew (indicators_all ts) (terms.app s ps.common) (terms.app x us) ps.new) (symbol_is s r same) (side_app IsNew (indicators_all ts) s ps.common us ps.new all.new_side);
}

-- ---- the whole
-- what the node's terms have to be
pub record MayCut (base : ℕ) (inds : List ℕ) : Type 0 where
  pub low : (n : ℕ) → IsAmong inds n → n < base
  pub distinct : AreDistinct inds

cut_first : (base : ℕ) (xs ys : List ℕ) → MayCut base (xs ++ ys) → MayCut base xs
cut_first base xs ys h = record { low = (λ n a. h.low n (among_front xs ys n a)); distinct = (distinct_parts xs ys h.distinct).0 }

cut_rest : (base : ℕ) (xs ys : List ℕ) → MayCut base (xs ++ ys) → MayCut base ys
cut_rest base xs ys h = record { low = (λ n a. h.low n (among_back xs ys n a)); distinct = (distinct_parts xs ys h.distinct).1 }

-- what holds of both holds of the one that is chosen
pub either : {X : Type 0} (P : X → Type 0) (b : Bool) (x y : X) → (b ≡ true → P x) → (b ≡ false → P y) → P (cond b x y)
either P true x y f g = f refl
either P false x y f g = g refl

mutual
  pub is_piece : (base next : ℕ) (t u : Term) → base ≤ next → MayCut base (indicators t) → IsSound t → IsSound u → IsPiece base next t u (piece next t u)
  is_piece base next (terms.var (ind n)) u high may sound sound' = is_kept base next n u (may.low n (inl refl))
  is_piece base next (terms.var (query n)) u high may sound sound' =
      either (IsPiece base next (terms.var (query n)) u) (same_head (terms.var (query n)) u) (alike next (terms.var (query n))) (apart next (terms.var (query n)) u)
      (λ e. is_alike base next (query n) u (λ h. h) e)
      (λ e. is_apart base next (terms.var (query n)) u high (λ h. h) e)
  is_piece base next (terms.var (entry n)) u high may sound sound' =
      either (IsPiece base next (terms.var (entry n)) u) (same_head (terms.var (entry n)) u) (alike next (terms.var (entry n))) (apart next (terms.var (entry n)) u)
      (λ e. is_alike base next (entry n) u (λ h. h) e)
      (λ e. is_apart base next (terms.var (entry n)) u high (λ h. h) e)
  is_piece base next (terms.app s ts) (terms.var x) high may sound sound' = is_apart base next (terms.app s ts) (terms.var x) high (λ h. h) refl
  is_piece base next (terms.app s ts) (terms.app r us) high may sound sound' =
      either (IsPiece base next (terms.app s ts) (terms.app r us)) ((s.number == r.number) && (s.arity == r.arity)) (over s (pieces next ts us)) (apart next (terms.app s ts) (terms.app r us))
      (λ e. is_over base next s r ts us (pieces next ts us) e (are_pieces base next ts us high may (sound.0 ∙ ap (λ x. x.arity) (symbol_is s r e) ∙ sym sound'.0) sound.1 sound'.1))
      (λ e. is_apart base next (terms.app s ts) (terms.app r us) high (λ h. h) e)

  pub are_pieces : (base next : ℕ) (ts us : Terms) → base ≤ next → MayCut base (indicators_all ts) → terms.count ts ≡ terms.count us → AreSound ts → AreSound us → ArePieces base next ts us (pieces next ts us)
  are_pieces base next terms.none terms.none high may long sound sound' = record {
    numbered = numbered_none base next [];
    common = tt;
    node_side = sides_none (IsFrom base) [];
    new_side = sides_none IsNew [];
  }
  are_pieces base next terms.none (terms.more u us) high may long sound sound' = absurd (omega (arith, long))
  are_pieces base next (terms.more t ts) terms.none high may long sound sound' = absurd (omega (arith, long))
  are_pieces base next (terms.more t ts) (terms.more u us) high may long sound sound' =
      let may' : MayCut base (indicators t ++ indicators_all ts) = subst (MayCut base) (indicators-more t ts) may in
      let one = is_piece base next t u high (cut_first base (indicators t) (indicators_all ts) may') sound.0 sound'.0 in
      let high' : base ≤ (piece next t u).next = omega (arith, high, one.numbered.grows) in
      are_then base next t u ts us (piece next t u) (pieces (piece next t u).next ts us) high may'.distinct one
      (are_pieces base (piece next t u).next ts us high' (cut_rest base (indicators t) (indicators_all ts) may') (omega (arith, long)) sound.1 sound'.1)
