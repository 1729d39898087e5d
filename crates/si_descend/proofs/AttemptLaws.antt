-- Which children of a node were tried, place by place, and that the others are closed.
use Rattle.std.proofs.Common.{◌≡◌, ◌⊎◌, inl, inr, ℕ, zero, suc, ◌+◌, ◌-◌, ◌^◌, ◌<◌, ◌≤◌, List, [], ◌∷◌, ◌++◌, Option, None, Some, length, slice_get, refl, ap, sym, ◌∙◌, subst, arith}
use Rattle.std.specs.Bool.{⊤}
use Rattle.std.specs.Borrow.{Bor}
use Rattle.std.specs.List.{AllByRecursion}
use Rattle.std.proofs.lemmas.Bool.Decides.{eqb_tells}
use Rattle.std.proofs.lemmas.Option.{same_Some}
use Rattle.si_defs.specs.Terms as terms
use Rattle.si_defs.specs.Substitutions.{IsAmong, AreDistinct}
use Rattle.si_defs.proofs.ListLaws.{all_at, get_among, among_front, among_back, among_either}
use Rattle.std.proofs.lemmas.List.{length-append}
use Rattle.si_trail.specs.Trails.{Trail}
use Rattle.si_flat.specs.declared.Cell.{Cell}
use Rattle.si_flat.specs.Cells.{Variable, query, entry, ind, Term}
use Rattle.si_unify.specs.Solving.{Pairs}
use Rattle.si_legal.specs.Trees.{Content, inner, leaf, Node, Tree, HasNode}
use Rattle.si_legal.specs.Legal.{IsLegalContent, IsWithin, ChildBinds}
use Rattle.si_legal.specs.Bindings.{IsIndicator}
use Rattle.si_legal.proofs.PathLaws.{one_node}
use Rattle.si_changes.proofs.HeadLaws.{same_head_self, no_common_head}
use Rattle.si_changes.proofs.Frames.{legal_nodes, differ_told}
use Rattle.si_tree.specs.declared.node.Head.{Head}
use Rattle.si_tree.specs.declared.node.Head.TheVariants.{Var}
use Rattle.si_tree.specs.Heads.{HasHead, HeadsAt, IsChildBy}
use Rattle.si_tree.specs.KeptNodes.{AreKnown}
use Rattle.si_tree.specs.Reading.{AtNode, split_of, children_of}
use Rattle.si_tree.proofs.HeadLaws.{heads_same}
use Rattle.si_tree.proofs.ChildLaws.{same_split, same_children, same_head_at}
use Rattle.si_descend.specs.declared.attempts.Attempts.{Attempts}
use Rattle.si_descend.specs.declared.attempts.Attempts.TheVariants.{InOrder, ByHeads}
use Rattle.si_descend.specs.declared.attempts.Lookup.{Lookup}
use Rattle.si_descend.specs.declared.heads.Wanted.{Wanted}
use Rattle.si_descend.specs.declared.search.Search.{Search}
use Rattle.si_descend.specs.Attempts.{head_at, wanted_of, place_count, HasHeadBelow, AreHeadsFor, HasPlaces, IsTried, IsTriedBefore, AreAttempts}
use Rattle.si_descend.specs.declared.pending.Pending.{Pending}
use Rattle.si_descend.specs.Pending.{IsDue, PutsDue, Marks, marks_of, with_marks, pending_at}
use Rattle.si_descend.specs.Heads.{SplitsBy, IsWanted, RulesOut}
use Rattle.si_descend.specs.Searching.{IsReady, IsAtNode, IsClosedAt}
use Rattle.si_descend.proofs.ExactLists.{distinct_both, no_more}
use Rattle.si_descend.proofs.PendingLaws.{length_at, all_at_once, one_pending_more, due_at_once}
use Rattle.si_descend.proofs.Below.{IsChildOf}
use Rattle.si_descend.proofs.HeadLaws.{ruled_out}
use Rattle.si_descend.proofs.Visiting.{siblings, goes_down}

-- these children were tried before this place, and the others that are tried there can't be open
pub record WereTried (search : Search) (key : ℕ) (a : Attempts) (place : ℕ) (tried : List ℕ) : Type 0 where
  pub distinct : AreDistinct tried
  pub before : (child : ℕ) → IsAmong tried child → IsTriedBefore search key a place child
  pub others : (child : ℕ) → IsTriedBefore search key a place child → IsAmong tried child ⊎ RulesOut search (wanted_of a) child

-- some were, and this holds of them
abbrev pub IsUnderway : Search → ℕ → Attempts → ℕ → (List ℕ → Type 0) → Type 0
IsUnderway search key a place P = (tried : List ℕ) × WereTried search key a place tried × P tried

-- ---- places in a list
one_index : {X : Type 0} (xs : List X) (i j : ℕ) (x : X) → AreDistinct xs → slice_get xs i ≡ Some x → slice_get xs j ≡ Some x → i ≡ j
one_index [] i j x d p q = absurd (by p) where
  by : {X : Type 0} {x : X} → None ≡ Some x → ⊥
  by e = cc
one_index (y ∷ xs) zero zero x d p q = refl
one_index (y ∷ xs) zero (suc j) x d p q = absurd (d.0 (subst (IsAmong xs) (sym (same_Some y x p)) (get_among xs j x q)))
one_index (y ∷ xs) (suc i) zero x d p q = absurd (d.0 (subst (IsAmong xs) (sym (same_Some y x q)) (get_among xs i x p)))
one_index (y ∷ xs) (suc i) (suc j) x d p q = ap suc (one_index xs i j x d.1 p q)

some_index : {X : Type 0} (xs : List X) (x : X) → IsAmong xs x → (i : ℕ) × (i < length xs) × (slice_get xs i ≡ Some x)
some_index [] x a = absurd a
some_index (y ∷ xs) x (inl e) = (0, omega arith, ap Some e)
some_index (y ∷ xs) x (inr a) = let rest = some_index xs x a in (suc rest.0, omega (arith, rest.1), rest.2)

-- what is bound to the split has a head that can be looked up
headed : (tree : Tree Term) (vars : ℕ) (t : Term) → (IsIndicator t → ⊥) → ((x : Variable) → IsAmong (terms.variables t) x → IsWithin tree x) → ((n : ℕ) → t ≡ terms.var (entry n) → n < vars) → HasHeadBelow vars t
headed tree vars (terms.app s ts) bare within below = tt
headed tree vars (terms.var (query n)) bare within below = absurd (within (query n) (inl refl))
headed tree vars (terms.var (entry n)) bare within below = below n refl
headed tree vars (terms.var (ind n)) bare within below = absurd (bare tt)

-- what is wanted is wanted of the split
pub splits_by : (search : Search) (key : ℕ) (pairs : Pairs) (w : Option Wanted) → IsWanted search key pairs w → SplitsBy search key w
splits_by search key pairs None wanted = tt
splits_by search key pairs (Some w) wanted = wanted.0

module _ (search : Search) (ready : IsReady search) (key : ℕ) (node : Node Term) (has : HasNode search.tree.now key node) where
  -- ---- all children in order
  pub all_in_order : (children : Bor (List ℕ)) (heads : Bor (List Head)) (w : Option Wanted) → AtNode search.tree.now key (λ n. children.now ≡ children_of n.content) → AtNode search.tree.now key (λ n. AreKnown search.tree.now n.content heads.now) → SplitsBy search key w → AreAttempts search key (InOrder (record { children = children; heads = heads; wanted = w }))
  all_in_order children heads w are known splits = record {
    places = λ n there. (are n there, known n there);
    splits = splits;
    one = λ i j child p q e f. one_index children.now i j child distinct e f;
    all = λ n there child a. inl (some_index children.now child (subst (λ l. IsAmong l child) (sym (are n there)) a));
  } where
    distinct : AreDistinct children.now
    distinct = subst AreDistinct (sym (are node has)) (siblings search ready key node has).distinct

  -- ---- by heads
  child_headed : (vars child split : ℕ) (t : Term) → ((number : ℕ) → HeadsAt search.tree.now split child (Var number) → number < vars) → ChildBinds search.tree.now child split t → HasHeadBelow vars t
  child_headed vars child split t below (n, there, binds) =
      let legal = (ready.legal.nodes child n there).binds in
      headed search.tree.now vars t (all_at (λ b. IsIndicator b.1 → ⊥) n.bindings (split, t) legal.rights binds)
      (λ x a. all_at (IsWithin search.tree.now) (terms.variables t) x (all_at (λ b. AllByRecursion (IsWithin search.tree.now) (terms.variables b.1)) n.bindings (split, t) legal.within binds) a)
      (λ number is. below number (t, (n, there, binds), subst (λ u. HasHead u (Var number)) (sym is) refl))

  -- two children with one head are the same
  one_by_head : (h : Head) (child c : ℕ) → IsChildBy search.tree.now key h child → IsChildBy search.tree.now key h c → child ≡ c
  one_by_head h child c p q = elim (eqb_tells child c) as (λ _. child ≡ c) [
    | inl same ↦ same.1
    | inr apart ↦
        (let content : inner p.split p.children ≡ inner q.split q.children = sym p.content ∙ ap (λ n. n.content) (one_node search.tree.now key p.node q.node p.has q.has) ∙ q.content in
        let legal = subst (IsLegalContent search.tree.now key ((key, q.node) ∷ (ready.legal.nodes key q.node q.has).above)) q.content (ready.legal.nodes key q.node q.has).content in
        let differ = differ_told search.tree.now q.split q.children (legal_nodes search.tree.now ready.legal) legal.2 in
        absurd (no_common_head p.by.0 p.by.0 q.by.0 (same_head_self p.by.0) (heads_same p.by.0 q.by.0 h p.by.2 q.by.2)
        (differ.apart child c p.by.0 q.by.0 (subst (λ l. IsAmong l child) (same_children p.split q.split p.children q.children content) p.among) q.among apart.1 (subst (λ n. ChildBinds search.tree.now child n p.by.0) (same_split p.split q.split p.children q.children content) p.by.1) q.by.1)))
  ]

  -- a child binds the split to a term that has a head, or isn't open
  pub by_heads : (w : Wanted) (vars end : ℕ) → vars ≤ 2 ^ 32 → ((child number : ℕ) → IsChildBy search.tree.now key (Var number) child → number < vars) → AtNode search.tree.now key (λ n. split_of n.content ≡ Some w.split) → AreHeadsFor search.relation search.slots vars w.first end → AreAttempts search key (ByHeads (record { wanted = w; end = end }))
  by_heads w vars end few below splits heads = record {
    places = omega (arith, heads.few, few);
    splits = splits;
    one = λ i j child p q e f. heads.one i j e.0 p q e.1 (f.1 ∙ ap Some (sym (same_child child e.0 f.0 e.2 f.2)));
    all = λ n there child a. found child (subst (λ l. IsAmong l child) (ap (λ m. children_of m.content) (one_node search.tree.now key n node there has)) a);
  } where
    same_child : (child : ℕ) (h k : Head) → IsChildBy search.tree.now key h child → IsChildBy search.tree.now key k child → h ≡ k
    same_child child h k p q =
        let same = same_split p.split q.split p.children q.children (sym p.content ∙ ap (λ n. n.content) (one_node search.tree.now key p.node q.node p.has q.has) ∙ q.content) in
        same_head_at search.tree.now q.split child h k ready.legal (subst (λ n. HeadsAt search.tree.now n child h) same p.by) q.by

    found : (child : ℕ) → IsAmong (children_of node.content) child → IsTriedBefore search key (ByHeads (record { wanted = w; end = end })) end child ⊎ RulesOut search (Some w) child
    found child = by node.content refl where
      by : (content : Content) → node.content ≡ content → IsAmong (children_of content) child → IsTriedBefore search key (ByHeads (record { wanted = w; end = end })) end child ⊎ RulesOut search (Some w) child
      by (leaf postings) is a = absurd a
      by (inner split cs) is a =
          let legal = subst (IsLegalContent search.tree.now key ((key, node) ∷ (ready.legal.nodes key node has).above)) is (ready.legal.nodes key node has).content in
          let bound = (differ_told search.tree.now split cs (legal_nodes search.tree.now ready.legal) legal.2).each child a in
          let same : split ≡ w.split = same_Some split w.split (sym (ap split_of is) ∙ splits node has) in
          let stands : (h : Head) → HeadsAt search.tree.now split child h → IsChildBy search.tree.now key h child = λ h by. record { node = node; split = split; children = cs; has = has; content = is; among = a; by = by } in
          elim (heads.all bound.0 (child_headed vars child split bound.0 (λ number by. below child number (stands (Var number) by)) bound.1)) as (λ _. IsTriedBefore search key (ByHeads (record { wanted = w; end = end })) end child ⊎ RulesOut search (Some w) child) [
            | inl p ↦ inl (
              p.0,
              p.1,
              (
                p.2.0,
                p.2.1,
                stands p.2.0 (bound.0, bound.1, p.2.2),
              ),
            )
            | inr c ↦ inr (bound.0, subst (λ n. ChildBinds search.tree.now child n bound.0) same bound.1, c)
          ]

  -- ---- place by place
  module _ (a : Attempts) (are : AreAttempts search key a) where
    -- what is tried is a child
    pub tried_among : (place child : ℕ) → IsTried search key a place child → IsAmong (children_of node.content) child
    tried_among place child = by a are.places where
      by : (b : Attempts) → HasPlaces search key b → IsTried search key b place child → IsAmong (children_of node.content) child
      by (InOrder siblings) there e = subst (λ l. IsAmong l child) (there node has).0 (get_among siblings.children.now place child e)
      by (ByHeads heads) few (h, e, c) = subst (λ l. IsAmong l child) (ap children_of (sym c.content ∙ ap (λ n. n.content) (one_node search.tree.now key c.node node c.has has))) c.among

    pub tried_child : (place child : ℕ) → IsTried search key a place child → IsChildOf search.tree.now key child
    tried_child place child t = (siblings search ready key node has).are child (tried_among place child t)

    pub none_tried : (P : List ℕ → Type 0) → P [] → IsUnderway search key a 0 P
    none_tried P holds = (
      [],
      record {
        distinct = tt;
        before = λ child b. absurd b;
        others = λ child b. absurd (omega (arith, b.1));
      },
      holds,
    )

    later : (place child : ℕ) → IsTriedBefore search key a place child → IsTriedBefore search key a (place + 1) child
    later place child (p, less, t) = (p, omega (arith, less), t)

    -- a place before the next is before this one, or this one
    now_or_before : (place child : ℕ) → IsTriedBefore search key a (place + 1) child → IsTriedBefore search key a place child ⊎ IsTried search key a place child
    now_or_before place child (p, less, t) = elim (eqb_tells p place) as (λ _. IsTriedBefore search key a place child ⊎ IsTried search key a place child) [
      | inl same ↦ inr (subst (λ n. IsTried search key a n child) same.1 t)
      | inr apart ↦ inl (p, omega (arith, less, apart.1), t)
    ]

    pub one_not_tried : (place : ℕ) (P : List ℕ → Type 0) → ((child : ℕ) → IsTried search key a place child → RulesOut search (wanted_of a) child) → IsUnderway search key a place P → IsUnderway search key a (place + 1) P
    one_not_tried place P out (tried, were, holds) = (
      tried,
      record {
        distinct = were.distinct;
        before = λ child b. later place child (were.before child b);
        others = λ child b. elim (now_or_before place child b) as (λ _. IsAmong tried child ⊎ RulesOut search (wanted_of a) child) [
          | inl c ↦ were.others child c
          | inr t ↦ inr (out child t)
        ];
      },
      holds,
    )

    not_tried_yet : (place child : ℕ) (tried : List ℕ) → place < place_count a → IsTried search key a place child → WereTried search key a place tried → IsAmong tried child → ⊥
    not_tried_yet place child tried within t were b =
        let w = were.before child b in
        let same : w.0 ≡ place = are.one w.0 place child (omega (arith, w.1, within)) within w.2 t in
        omega (arith, w.1, same)

    one_more_tried : (place child : ℕ) (tried : List ℕ) → place < place_count a → IsTried search key a place child → WereTried search key a place tried → WereTried search key a (place + 1) (tried ++ child ∷ [])
    one_more_tried place child tried within t were = record {
      distinct = distinct_both tried (child ∷ []) were.distinct ((λ b. b), tt) (λ c b d. elim d as (λ _. ⊥) [ inl e ↦ not_tried_yet place child tried within t were (subst (IsAmong tried) (sym e) b) | inr n ↦ n ]);
      before = λ c b. elim (among_either tried child c b) as (λ _. IsTriedBefore search key a (place + 1) c) [
        | inl d ↦ later place c (were.before c d)
        | inr e ↦ (place, omega arith, subst (IsTried search key a place) e t)
      ];
      others = λ c b. elim (now_or_before place c b) as (λ _. IsAmong (tried ++ child ∷ []) c ⊎ RulesOut search (wanted_of a) c) [
        | inl d ↦ elim (were.others c d) as (λ _. IsAmong (tried ++ child ∷ []) c ⊎ RulesOut search (wanted_of a) c) [
          | inl f ↦ inl (among_front tried (child ∷ []) c f)
          | inr out ↦ inr out
        ]
        | inr u ↦ inl (among_back tried (child ∷ []) c (inl (same_there child c t u)))
      ];
    } where
      same_there : (child c : ℕ) → IsTried search key a place child → IsTried search key a place c → child ≡ c
      same_there child c = by a where
        by : (b : Attempts) → IsTried search key b place child → IsTried search key b place c → child ≡ c
        by (InOrder siblings) e f = same_Some child c (sym e ∙ f)
        by (ByHeads heads) (h, e, p) (k, f, q) = one_by_head h child c p (subst (λ n. IsChildBy search.tree.now key n c) (same_Some k h (sym f ∙ e)) q)

    -- ---- with those that are pending
    module _ (marks : Marks) (old : List Pending) where
      pub one_more_pending : (place child : ℕ) (items new : List Pending) → place < place_count a → IsTried search key a place child → IsUnderway search key a place (λ tried. items ≡ old ++ with_marks marks tried) → new ≡ items ++ record { node = child; mark = marks.mark; taken_mark = marks.taken_mark; whole = marks.whole } ∷ [] → IsUnderway search key a (place + 1) (λ tried. new ≡ old ++ with_marks marks tried)
      one_more_pending place child items new within t (tried, were, e) f =
          (tried ++ child ∷ [], one_more_tried place child tried within t were, one_pending_more old items new marks tried child e f)

      -- they are no more than there are children
      pub few_pending : (place child : ℕ) (items : List Pending) → place < place_count a → IsTried search key a place child → IsUnderway search key a place (λ tried. items ≡ old ++ with_marks marks tried) → length items + 1 ≤ length old + length (children_of node.content)
      few_pending place child items within t (tried, were, e) =
          let next = one_more_tried place child tried within t were in
          omega (
            arith,
            no_more (tried ++ child ∷ []) (children_of node.content) next.distinct (λ c b. (let w = next.before c b in tried_among w.0 c w.2)),
            length-append tried (child ∷ []),
            ap length e,
            length-append old (with_marks marks tried),
            length_at marks tried,
          )

      pub leaves_tried : (trail : Trail (Bor (List Cell))) (taken : Trail ⊤) → marks ≡ marks_of (pending_at key trail taken) → IsAtNode search key trail taken → IsWanted search key trail.pairs (wanted_of a) → (place : ℕ) (new : List Pending) → place_count a ≤ place → IsUnderway search key a place (λ tried. new ≡ old ++ with_marks marks tried) → PutsDue search (pending_at key trail taken) trail taken old new
      leaves_tried trail taken e at wanted place new through (tried, were, pushed) = record {
        tops = tried;
        marks = marks_of (pending_at key trail taken);
        visit = record {
          distinct = were.distinct;
          within = λ n has' child b. subst (λ m. IsAmong (children_of m.content) child) (one_node search.tree.now key node n has has') (let w = were.before child b in tried_among w.0 child w.2);
          others = λ n has' child b. others child (subst (λ m. IsAmong (children_of m.content) child) (one_node search.tree.now key n node has' has) b);
        };
        pushed = pushed ∙ ap (λ p. old ++ with_marks p tried) e;
        due = all_at_once (IsDue search trail taken) (marks_of (pending_at key trail taken)) tried
            (λ child b. (let w = were.before child b in due_at_once search child trail taken (goes_down search key child trail trail taken taken (tried_child w.0 child w.2) refl refl refl at)));
        mark = omega arith;
        taken_mark = omega arith;
      } where
        others : (child : ℕ) → IsAmong (children_of node.content) child → IsAmong tried child ⊎ IsClosedAt search child
        others child b =
            let closed : RulesOut search (wanted_of a) child → IsClosedAt search child = ruled_out search ready key child ((siblings search ready key node has).are child b) trail.pairs at.there (wanted_of a) wanted in
            elim (are.all node has child b) as (λ _. IsAmong tried child ⊎ IsClosedAt search child) [
              | inl t ↦ elim (were.others child (t.0, omega (arith, t.1, through), t.2)) as (λ _. IsAmong tried child ⊎ IsClosedAt search child) [
                | inl c ↦ inl c
                | inr out ↦ inr (closed out)
              ]
              | inr out ↦ inr (closed out)
            ]

-- ---- one place
module _ (search : Search) (key : ℕ) (heads : Lookup) (place : ℕ) (r : Option Head) (told : r ≡ head_at heads.wanted.first place) where
  pub head_here : (h : Head) (child : ℕ) → r ≡ Some h → IsChildBy search.tree.now key h child → IsTried search key (ByHeads heads) place child
  head_here h child e by = (h, sym told ∙ e, by)

  pub none_here : (child : ℕ) → r ≡ None → IsTried search key (ByHeads heads) place child → ⊥
  none_here child e t = no t.0 (sym e ∙ told ∙ t.1) where
    no : (h : Head) → None ≡ Some h → ⊥
    no h p = cc

  pub here_has_head : (h : Head) (child : ℕ) → r ≡ Some h → IsTried search key (ByHeads heads) place child → IsChildBy search.tree.now key h child
  here_has_head h child e t = subst (λ k. IsChildBy search.tree.now key k child) (same_Some t.0 h (sym t.1 ∙ sym told ∙ e)) t.2

pub variable_here : (first : Cell) (n : ℕ) → (n ≡ 0 → ⊥) → Some (Var (n - 1)) ≡ head_at first n
variable_here first zero some = absurd (some refl)
variable_here first (suc m) some = let less : suc m - 1 ≡ m = omega arith in ap (λ k. Some (Var k)) less
