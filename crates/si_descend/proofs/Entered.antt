-- What is known once a node's bindings fit, for each relation.
use Rattle.std.proofs.Common.{◌≡◌, ◌↔◌, ◌≤◌, ℕ, Bool, true, false, IsTrue, List, length, take, Some, is_some, refl, ap, sym, ◌∙◌, subst}
use Rattle.si_defs.specs.Substitutions.{Substitution, Grows}
use Rattle.si_defs.specs.declared.Relation.{Relation}
use Rattle.si_defs.specs.declared.Relation.TheVariants.{Variants, Instances, Generalizations, Unifiable}
use Rattle.si_flat.specs.Cells.{Symbol, Variable, Term, StandsFor}
use Rattle.si_flat.specs.Rows.{CellPair}
use Rattle.si_trail.specs.Trails.{Trail, value_at, HasDistinctSlots}
use Rattle.si_unify.specs.declared.slots.Slots.{Slots}
use Rattle.si_unify.specs.Solving.{Pairs, AllowsSolving}
use Rattle.si_unify.proofs.Reading.{one_term}
use Rattle.si_unify.proofs.Answering.{front_of}
use Rattle.si_legal.specs.Bindings.{StandForBindings}
use Rattle.si_legal.specs.Trees.{Node, HasNode, path_term}
use Rattle.si_legal.specs.OpenNodes.{RenamesEntry}
use Rattle.si_changes.proofs.Frames.{legal_nodes}
use Rattle.si_descend.specs.declared.search.Search.{Search}
use Rattle.si_descend.specs.Descending.{Freezes, HasSlotsForTree, Renames}
use Rattle.si_fit.specs.Fitting.{HasFitted}
use Rattle.si_descend.specs.Renaming.{FreezesQuery, bound_variables, IsRenaming, IsRenamingFirst, IsTakenBefore, AreTaken}
use Rattle.si_descend.specs.Searching.{IsReady, KeepsApart, NotesTaken, HasComeTo, HasEntered}
use Rattle.si_descend.proofs.Entering.{numbered, entered_shows, entered_open, open_entered}
use Rattle.si_descend.proofs.RenameLaws.{still_taken}
use Rattle.si_descend.proofs.VariantLaws.{renaming_open, open_renaming}

untold : false ≡ true → ⊥
untold e = cc

plain_apart : (relation : Relation) (slots : Slots) (pairs : Pairs) → (relation ≡ Variants → ⊥) → KeepsApart relation slots pairs
plain_apart Variants slots pairs other = absurd (other refl)
plain_apart Instances slots pairs other = tt
plain_apart Generalizations slots pairs other = tt
plain_apart Unifiable slots pairs other = tt

plain_renames : (relation : Relation) (t : Term) (s : Substitution Symbol Variable) → (relation ≡ Variants → ⊥) → Renames relation t s
plain_renames Variants t s other = absurd (other refl)
plain_renames Instances t s other = tt
plain_renames Generalizations t s other = tt
plain_renames Unifiable t s other = tt

pub instances_differ : (relation : Relation) → relation ≡ Instances → relation ≡ Variants → ⊥
instances_differ relation e f = by (sym e ∙ f) where
  by : Instances ≡ Variants → ⊥
  by p = cc

pub generalizations_differ : (relation : Relation) → relation ≡ Generalizations → relation ≡ Variants → ⊥
generalizations_differ relation e f = by (sym e ∙ f) where
  by : Generalizations ≡ Variants → ⊥
  by p = cc

pub unifiable_differ : (relation : Relation) → relation ≡ Unifiable → relation ≡ Variants → ⊥
unifiable_differ relation e f = by (sym e ∙ f) where
  by : Unifiable ≡ Variants → ⊥
  by p = cc

pub variants_freeze : (search : Search) → IsReady search → search.relation ≡ Variants → FreezesQuery search.slots
variants_freeze search ready is = subst (λ k. Freezes k search.slots) is ready.freezes

-- ---- what is taken
module _ {T : Type 0} where
  pub plain_notes : (relation : Relation) (slots : Slots) (pairs : Pairs) (taken : Trail T) → (relation ≡ Variants → ⊥) → NotesTaken relation slots pairs taken
  plain_notes Variants slots pairs taken other = absurd (other refl)
  plain_notes Instances slots pairs taken other = tt
  plain_notes Generalizations slots pairs taken other = tt
  plain_notes Unifiable slots pairs taken other = tt

  variants_note : (relation : Relation) (slots : Slots) (pairs : Pairs) (taken : Trail T) → relation ≡ Variants → NotesTaken relation slots pairs taken → NotesTaken Variants slots pairs taken
  variants_note relation slots pairs taken is h = subst (λ k. NotesTaken k slots pairs taken) is h

  pub room_taken : (relation : Relation) (slots : Slots) (pairs : Pairs) (taken : Trail T) → relation ≡ Variants → NotesTaken relation slots pairs taken → slots.query ≤ taken.slots
  room_taken relation slots pairs taken is h = (variants_note relation slots pairs taken is h).1

  pub notes_new : (relation : Relation) (slots : Slots) (pairs : Pairs) (taken : Trail T) → relation ≡ Variants → AreTaken slots pairs (length pairs) taken.pairs → slots.query ≤ taken.slots → NotesTaken relation slots pairs taken
  notes_new relation slots pairs taken is h room = subst (λ k. NotesTaken k slots pairs taken) (sym is) (h, room)

  pub still_noted : (relation : Relation) (slots : Slots) (old new : Pairs) (taken taken' : Trail T) → new ≡ old → taken' ≡ taken → NotesTaken relation slots old taken → NotesTaken relation slots new taken'
  still_noted relation slots old new taken taken' e f h = subst (λ t. NotesTaken relation slots new t) (sym f) (subst (λ p. NotesTaken relation slots p taken) (sym e) h)

module _ (search : Search) (ready : IsReady search) (key : ℕ) (node : Node Term) (has : HasNode search.tree.now key node) (rows : List CellPair) (stand : StandForBindings rows node.bindings) (old : Pairs) (above : HasComeTo search node.parent old) (new : Pairs) where
  pub entered_plain : (b : Bool) → HasFitted search.slots old new rows b → b ≡ true → (search.relation ≡ Variants → ⊥) → HasEntered search key new true
  entered_plain b fits is other =
      let fitted : HasFitted search.slots old new rows true = subst (HasFitted search.slots old new rows) is fits in (
        record {
          shows = entered_shows search ready key node has rows stand old above new fitted;
          solution = fitted.0;
          apart = plain_apart search.relation search.slots new other;
        },
        entered_open search ready key node has rows stand old above new fitted fitted.0.0 fitted.0.1 (λ path reached. plain_renames search.relation (path_term path) fitted.0.0 other),
      )

  -- what was known of the bindings above
  pub known_first : (known : ℕ) (b : Bool) → HasFitted search.slots old new rows b → b ≡ true → search.relation ≡ Variants → known ≡ length old → Grows old new → IsRenamingFirst search.slots new known
  known_first known b fits is variants e grows s h =
      let fitted : HasFitted search.slots old new rows true = subst (HasFitted search.slots old new rows) is fits in
      let apart : IsRenaming search.slots old = subst (λ k. KeepsApart k search.slots old) variants above.apart in
      subst (λ l. RenamesEntry (bound_variables search.slots l) s) (sym (front_of old new grows) ∙ ap (λ n. take n new) (sym e)) (apart s ((fitted.1 s).0 h).0)

  pub known_taken : {T : Type 0} (known : ℕ) (b : Bool) (taken : Trail T) → HasFitted search.slots old new rows b → b ≡ true → search.relation ≡ Variants → known ≡ length old → Grows old new → NotesTaken search.relation search.slots old taken → AreTaken search.slots new known taken.pairs
  known_taken known b taken fits is variants e grows noted k =
      let fitted : HasFitted search.slots old new rows true = subst (HasFitted search.slots old new rows) is fits in
      subst (λ n. IsTakenBefore search.slots new n k (is_some (value_at taken.pairs k))) (sym e)
      (still_taken search.slots old new grows (λ s h. ((fitted.1 s).0 h).0) k (is_some (value_at taken.pairs k)) ((variants_note search.relation search.slots old taken variants noted).0 k))

  module _ (variants : search.relation ≡ Variants) (count : ℕ) (solving : AllowsSolving search.slots new count) (distinct : HasDistinctSlots new) where
    room : (q : Term) → StandsFor search.query.now q → HasSlotsForTree search.slots search.tree.now q
    room q h = subst (HasSlotsForTree search.slots search.tree.now) (one_term search.query.now ready.term q ready.query.stands h) ready.room

    pub entered_variants : (b c : Bool) → HasFitted search.slots old new rows b → b ≡ true → IsTrue c ↔ IsRenaming search.slots new → HasEntered search key new c
    entered_variants b true fits is tells =
        let fitted : HasFitted search.slots old new rows true = subst (HasFitted search.slots old new rows) is fits in
        let renaming : IsRenaming search.slots new = tells.0 refl in (
          record {
            shows = entered_shows search ready key node has rows stand old above new fitted;
            solution = fitted.0;
            apart = subst (λ k. KeepsApart k search.slots new) (sym variants) renaming;
          },
          λ q path h reached.
              entered_open search ready key node has rows stand old above new fitted fitted.0.0 fitted.0.1
              (λ p r.
              subst (λ k. Renames k (path_term p) fitted.0.0) (sym variants)
              (renaming_open search.tree.now (legal_nodes search.tree.now ready.legal) search.slots (variants_freeze search ready variants) q (numbered search ready key node has rows stand old above q h) (room q h) (Some key) p r new count
              (entered_shows search ready key node has rows stand old above new fitted q p h r) solving distinct fitted.0.0 fitted.0.1 renaming))
              q path h reached,
        )
    entered_variants b false fits is tells = λ q path h reached is_open.
        let fitted : HasFitted search.slots old new rows true = subst (HasFitted search.slots old new rows) is fits in
        let s = open_entered search ready key node has rows stand old above new fitted q path h reached is_open in
        untold (tells.1 (open_renaming search.tree.now (legal_nodes search.tree.now ready.legal) search.slots (variants_freeze search ready variants) q (numbered search ready key node has rows stand old above q h) (room q h) (Some key) path reached new count
        (entered_shows search ready key node has rows stand old above new fitted q path h reached) solving distinct s.0 s.1 (subst (λ k. Renames k (path_term path) s.0) variants s.2)))
