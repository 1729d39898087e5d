-- The postings of a clause come, one after the other.
use Rattle.std.proofs.Common.{◌≡◌, ◌⊎◌, ◌↔◌, inl, inr, ℕ, ◌<◌, Bool, true, false, List, [], ◌∷◌, ◌++◌, length, map, Option, None, Some, slice_get, refl, sym, ◌∙◌, ap, subst, arith, length-append}
use Rattle.std.specs.Option.{option_map}
use Rattle.std.proofs.lemmas.Option.{same_Some, slice_get_within, slice_get-map}
use Rattle.si_defs.specs.Symbols.{Numbering}
use Rattle.si_defs.specs.Clauses.{Clause}
use Rattle.si_defs.specs.Entries.{Entry, Placed, entries}
use Rattle.si_defs.proofs.ListLaws.{get_some, get_front, get_here, get_either}
use Rattle.si_term.specs.Walks.{entries_alone}
use Rattle.si_term.proofs.Alone.{entries-alone}
use Rattle.si_flat.specs.Cells.{entry, Term}
use Rattle.si_flat.specs.Flattened.{numbered_entry}
use Rattle.si_legal.specs.declared.Posting.{Posting}
use Rattle.si_legal.specs.Trees.{StandsIn}
use Rattle.si_legal.specs.Legal.{IsLeafTerm}
use Rattle.si_legal.specs.StoredSets.{IsUnder}
use Rattle.si_legal.specs.KeptTrees.{is_literal}
use Rattle.si_held.specs.TwoTrees.{TwoTrees, tree_for, AreLegal, IsNewKey, IsPostingIn, AddsClause}
use Rattle.si_changes.specs.Nodes.{MayComeIn}
use Rattle.si_forest.specs.Locations.{Location}
use Rattle.si_forest.specs.Pairs.{StayStored, GainOne, ChangeOnly}
use Rattle.si_forest.specs.Locations.{posting_of, location, AreLocated}
use Rattle.si_forest.proofs.ChangeLaws.{no_item}
use Rattle.si_forest.proofs.LoseLaws.{same_posting}
use Rattle.si_forest.proofs.TreeLaws.{gain_legal, gain_stored, gain_keeps}

-- with these numbers for its symbols, the term and the posting are those of one of these entries
pub record IsPostingAmong (numbers : Numbering) (key : ℕ) (es : List Entry) (literal : Bool)
    (t : Term) (p : Posting) : Type 0 where
  pub key_is : p.clause ≡ key
  pub one : Entry
  pub numbered : slice_get es p.entry ≡ Some one
  pub kind : is_literal one ≡ literal
  pub term_is : t ≡ numbered_entry numbers entry one

-- the posting of the entry with this number stands at its location
abbrev pub StandsAt : Numbering → ℕ → List Location → TwoTrees → ℕ → Entry → Type 0
StandsAt numbers key locations trees n e =
    (leaf : ℕ) × (slice_get locations n ≡ Some (location (is_literal e) leaf))
    × StandsIn (tree_for (is_literal e) trees) leaf (numbered_entry numbers entry e)
    (posting_of key n)

-- the postings of these entries came, and stand at these locations
pub record AreIn (numbers : Numbering) (key : ℕ) (es : List Entry) (locations : List Location)
    (old new : TwoTrees) : Type 0 where
  pub legal : AreLegal new
  pub stored : (literal : Bool) (t : Term) (p : Posting)
      → IsUnder (tree_for literal new) t p
      ↔ (IsUnder (tree_for literal old) t p
      ⊎ IsPostingAmong numbers key es literal t p)
  pub stand : (n : ℕ) (e : Entry) → slice_get es n ≡ Some e
      → StandsAt numbers key locations new n e
  pub many : length locations ≡ length es
  pub keep : (literal : Bool) (leaf : ℕ) (t : Term) (p : Posting)
      → StandsIn (tree_for literal old) leaf t p → StandsIn (tree_for literal new) leaf t p

pub in_start : (numbers : Numbering) (key : ℕ) (trees : TwoTrees) → AreLegal trees → AreIn numbers key [] [] trees trees
in_start numbers key trees legal = record {
  legal = legal;
  stored = λ literal t p. ((λ h. inl h), (λ c. elim c as (λ _. IsUnder (tree_for literal trees) t p) [ inl h ↦ h | inr a ↦ absurd (no_item p.entry a.one a.numbered) ]));
  stand = λ n e is. absurd (no_item n e is);
  many = refl;
  keep = λ literal leaf t p stands. stands;
}

module _ (numbers : Numbering) (key : ℕ) (es : List Entry) (locations : List Location) (old now : TwoTrees) (h : AreIn numbers key es locations old now) where
  -- the next entry's posting isn't stored
  pub may_come : (literal : Bool) (t : Term) → IsNewKey key old → IsLeafTerm t → MayComeIn (tree_for literal now) t (posting_of key (length locations))
  may_come literal t none leaf_term = record {
    leaf_term = leaf_term;
    not_stored = λ u under. elim ((h.stored literal u (posting_of key (length locations))).0 under) as (λ _. ⊥) [
      | inl a ↦ none literal u (posting_of key (length locations)) a refl
      | inr a ↦ past (slice_get_within es (length locations) a.one a.numbered)
    ];
  } where
    past : length locations < length es → ⊥
    past less = omega (arith, h.many)

  -- where the same is stored, at an error
  pub in_same : (new : TwoTrees) → StayStored now new → AreIn numbers key es locations old new
  in_same new stay = record {
    legal = ((stay true).legal, (stay false).legal);
    stored = λ literal t p. (
      (λ u. (h.stored literal t p).0 (((stay literal).stored t p).0 u)),
      (λ c. ((stay literal).stored t p).1 ((h.stored literal t p).1 c)),
    );
    stand = λ n e is. let s = h.stand n e is in (s.0, s.1, stays (is_literal e) s.0 (numbered_entry numbers entry e) (posting_of key n) s.2);
    many = h.many;
    keep = λ literal leaf t p stands. stays literal leaf t p (h.keep literal leaf t p stands);
  } where
    stays : (literal : Bool) (leaf : ℕ) (t : Term) (p : Posting) → StandsIn (tree_for literal now) leaf t p → StandsIn (tree_for literal new) leaf t p
    stays literal leaf t p stands = (stay literal).keeps leaf t p stands (((stay literal).stored t p).1 (leaf, stands))

  -- one posting more
  module _ (new : TwoTrees) (e : Entry) (literal : Bool) (leaf : ℕ) (kind : is_literal e ≡ literal) (g : GainOne now new literal (numbered_entry numbers entry e) (posting_of key (length locations)) leaf) where
    gained : (k : Bool) (t : Term) (p : Posting) → IsUnder (tree_for k new) t p ↔ (IsUnder (tree_for k now) t p ⊎ ((k ≡ literal) × (t ≡ numbered_entry numbers entry e) × (p ≡ posting_of key (length locations))))
    gained = gain_stored now new literal (posting_of key (length locations)) (numbered_entry numbers entry e) leaf g

    stays_there : (k : Bool) (key' : ℕ) (t : Term) (p : Posting) → StandsIn (tree_for k now) key' t p → StandsIn (tree_for k new) key' t p
    stays_there k key' t p stands = gain_keeps now new literal (posting_of key (length locations)) (numbered_entry numbers entry e) leaf g k key' t p stands ((gained k t p).1 (inl (key', stands)))

    forth : (k : Bool) (t : Term) (p : Posting) → IsUnder (tree_for k new) t p → IsUnder (tree_for k old) t p ⊎ IsPostingAmong numbers key (es ++ e ∷ []) k t p
    forth k t p under =
        elim ((gained k t p).0 under) as (λ _. IsUnder (tree_for k old) t p ⊎ IsPostingAmong numbers key (es ++ e ∷ []) k t p) [
          | inl was ↦ elim ((h.stored k t p).0 was) as (λ _. IsUnder (tree_for k old) t p ⊎ IsPostingAmong numbers key (es ++ e ∷ []) k t p) [
            | inl a ↦ inl a
            | inr a ↦ inr (record { key_is = a.key_is; one = a.one; numbered = get_front es (e ∷ []) p.entry a.one a.numbered; kind = a.kind; term_is = a.term_is })
          ]
          | inr is ↦ inr (record {
            key_is = ap (λ q. q.clause) is.2;
            one = e;
            numbered = subst (λ n. slice_get (es ++ e ∷ []) n ≡ Some e) (sym (ap (λ q. q.entry) is.2 ∙ h.many)) (get_here es e []);
            kind = kind ∙ sym is.0;
            term_is = is.1;
          })
        ]

    back : (k : Bool) (t : Term) (p : Posting) → IsUnder (tree_for k old) t p ⊎ IsPostingAmong numbers key (es ++ e ∷ []) k t p → IsUnder (tree_for k new) t p
    back k t p (inl a) = (gained k t p).1 (inl ((h.stored k t p).1 (inl a)))
    back k t p (inr a) = elim (get_either es e p.entry a.one a.numbered) as (λ _. IsUnder (tree_for k new) t p) [
      | inl was ↦ (gained k t p).1 (inl ((h.stored k t p).1 (inr (record { key_is = a.key_is; one = a.one; numbered = was; kind = a.kind; term_is = a.term_is }))))
      | inr last ↦ (gained k t p).1 (inr (sym a.kind ∙ ap is_literal last.1 ∙ kind, a.term_is ∙ ap (numbered_entry numbers entry) last.1, same_posting key (length locations) p a.key_is (last.0 ∙ sym h.many)))
    ]

    stands_last : StandsAt numbers key (locations ++ location literal leaf ∷ []) new (length es) e
    stands_last = (
      leaf,
      subst (λ n. slice_get (locations ++ location literal leaf ∷ []) n ≡ Some (location (is_literal e) leaf)) h.many (get_here locations (location literal leaf) [] ∙ ap (λ k. Some (location k leaf)) (sym kind)),
      subst (λ n. StandsIn (tree_for (is_literal e) new) leaf (numbered_entry numbers entry e) (posting_of key n)) h.many (subst (λ k. StandsIn (tree_for k new) leaf (numbered_entry numbers entry e) (posting_of key (length locations))) (sym kind) g.here.stands),
    )

    pub in_more : AreIn numbers key (es ++ e ∷ []) (locations ++ location literal leaf ∷ []) old new
    in_more = record {
      legal = gain_legal now new literal (posting_of key (length locations)) (numbered_entry numbers entry e) leaf g h.legal;
      stored = λ k t p. (forth k t p, back k t p);
      stand = λ n one is. elim (get_either es e n one is) as (λ _. StandsAt numbers key (locations ++ location literal leaf ∷ []) new n one) [
        | inl was ↦
            let s = h.stand n one was in
            (s.0, get_front locations (location literal leaf ∷ []) n (location (is_literal one) s.0) s.1, stays_there (is_literal one) s.0 (numbered_entry numbers entry one) (posting_of key n) s.2)
        | inr last ↦ subst (λ k. StandsAt numbers key (locations ++ location literal leaf ∷ []) new k one) (sym last.0) (subst (StandsAt numbers key (locations ++ location literal leaf ∷ []) new (length es)) (sym last.1) stands_last)
      ];
      many = simp length-append (omega (arith, h.many));
      keep = λ k key' t p stands. stays_there k key' t p (h.keep k key' t p stands);
    }

  -- ---- what came
  pub in_change : ChangeOnly key old now
  in_change = record {
    legal = h.legal;
    stored = λ literal t p differs. (
      (λ u. elim ((h.stored literal t p).0 u) as (λ _. IsUnder (tree_for literal old) t p) [ inl a ↦ a | inr a ↦ absurd (differs a.key_is) ]),
      (λ u. (h.stored literal t p).1 (inl u)),
    );
    keep = λ literal leaf t p differs stands. h.keep literal leaf t p stands;
  }

  pub in_located : IsNewKey key old → AreLocated key locations now
  in_located none = record {
    stand = λ n at is.
        let one = get_some es n (within n at is) in
        let s = h.stand n one.0 one.1 in
        let same : location (is_literal one.0) s.0 ≡ at = same_Some (location (is_literal one.0) s.0) at (sym s.1 ∙ is) in
        (numbered_entry numbers entry one.0, subst (λ l. StandsIn (tree_for l.literal now) l.leaf (numbered_entry numbers entry one.0) (posting_of key n)) same s.2);
    located = λ literal t p under same. elim ((h.stored literal t p).0 under) as (λ _. (leaf : ℕ) × (slice_get locations p.entry ≡ Some (location literal leaf))) [
      | inl a ↦ absurd (none literal t p a same)
      | inr a ↦ let s = h.stand p.entry a.one a.numbered in (s.0, s.1 ∙ ap (λ k. Some (location k s.0)) a.kind)
    ];
  } where
    within : (n : ℕ) (at : Location) → slice_get locations n ≡ Some at → n < length es
    within n at is = let less : n < length locations = slice_get_within locations n at is in omega (arith, h.many)

-- ---- the entries of a clause
got_placed : (ps : List Placed) (n : ℕ) (e : Entry) → slice_get (map (λ p. p.entry) ps) n ≡ Some e → (placed : Placed) × (slice_get ps n ≡ Some placed) × (placed.entry ≡ e)
got_placed ps n e is = by (slice_get ps n) refl where
  by : (got : Option Placed) → slice_get ps n ≡ got → (placed : Placed) × (slice_get ps n ≡ Some placed) × (placed.entry ≡ e)
  by None none = absurd (differ (sym (slice_get-map (λ p. p.entry) ps n ∙ ap (option_map (λ p. p.entry)) none) ∙ is)) where
    differ : None ≡ Some e → ⊥
    differ q = cc
  by (Some placed) got = (placed, got, same_Some placed.entry e (sym (slice_get-map (λ p. p.entry) ps n ∙ ap (option_map (λ p. p.entry)) got) ∙ is))

pub posting_in : (numbers : Numbering) (key : ℕ) (c : Clause) (literal : Bool) (t : Term) (p : Posting) → IsPostingAmong numbers key (entries_alone c.literals) literal t p ↔ IsPostingIn numbers key c literal t p
posting_in numbers key c literal t p = (forth, back) where
  forth : IsPostingAmong numbers key (entries_alone c.literals) literal t p → IsPostingIn numbers key c literal t p
  forth a =
      let placed = got_placed (entries c) p.entry a.one (subst (λ es. slice_get es p.entry ≡ Some a.one) (sym (entries-alone 1 c.literals)) a.numbered) in
      record {
        key_is = a.key_is;
        placed = placed.0;
        numbered = placed.1;
        kind = ap is_literal placed.2 ∙ a.kind;
        term_is = a.term_is ∙ ap (numbered_entry numbers entry) (sym placed.2);
      }

  back : IsPostingIn numbers key c literal t p → IsPostingAmong numbers key (entries_alone c.literals) literal t p
  back a = record {
    key_is = a.key_is;
    one = a.placed.entry;
    numbered = subst (λ es. slice_get es p.entry ≡ Some a.placed.entry) (entries-alone 1 c.literals) (slice_get-map (λ p. p.entry) (entries c) p.entry ∙ ap (option_map (λ p. p.entry)) a.numbered);
    kind = a.kind;
    term_is = a.term_is;
  }

pub in_all : (numbers : Numbering) (key : ℕ) (c : Clause) (locations : List Location) (old new : TwoTrees) → AreIn numbers key (entries_alone c.literals) locations old new → AddsClause numbers key c old new
in_all numbers key c locations old new h literal t p = (
  (λ u. elim ((h.stored literal t p).0 u) as (λ _. IsUnder (tree_for literal old) t p ⊎ IsPostingIn numbers key c literal t p) [ inl a ↦ inl a | inr a ↦ inr ((posting_in numbers key c literal t p).0 a) ]),
  (λ u. (h.stored literal t p).1 (elim u as (λ _. IsUnder (tree_for literal old) t p ⊎ IsPostingAmong numbers key (entries_alone c.literals) literal t p) [ inl a ↦ inl a | inr a ↦ inr ((posting_in numbers key c literal t p).1 a) ])),
)
