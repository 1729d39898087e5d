-- What two trees hold of the clauses of an index, as clauses and the numbers of their symbols come
-- and go.
use Rattle.std.proofs.Common.{◌≡◌, inl, inr, None, ℕ, ◌≤◌, Bool, true, false, cond, List, [], ◌∷◌, ◌++◌, map, refl, sym, ap, ◌∙◌, subst, arith}
use Rattle.std.specs.Prelude.{◌≢◌, not}
use Rattle.std.proofs.lemmas.Bool.{false≢true}
use Rattle.std.proofs.lemmas.List.{map-append}
use Rattle.si_defs.specs.Symbols.{Symbol, Numbering, times}
use Rattle.si_defs.specs.Clauses.{Clause, IsSoundClause}
use Rattle.si_defs.specs.Entries.{clause_symbols, state_symbols}
use Rattle.si_defs.specs.Substitutions.{IsAmong}
use Rattle.si_defs.proofs.ListLaws.{all_at, all_from}
use Rattle.si_state.specs.Signatures.{Signature, IsSignature, IsSignatureOf, KeepsNumbers, numbering, uses_of, total}
use Rattle.si_term.specs.Meaning.{clause_of}
use Rattle.si_term.specs.declared.clause.Clause as term
use Rattle.si_sign.proofs.UsesOf.{times_among, among_times, uses_positive, uses_among, among_numbering, numbering_among}
use Rattle.si_flat.specs.Numbered.{number_in}
use Rattle.si_flat.proofs.Numbers.{has-among, among-number}
use Rattle.si_flat.specs.Flattened.{has_number, unnumbered}
use Rattle.si_legal.specs.KeptTrees.{NumbersAll}
use Rattle.si_flat.proofs.ClauseWalks.{no_numbers}
use Rattle.si_changes.specs.Nodes.{IsVacant}
use Rattle.si_tree.proofs.RootLaws.{root_legal}
use Rattle.si_forest.specs.Pairs.{AreAlone}
use Rattle.si_held.proofs.Holding.{roots_held}
use Rattle.si_held.specs.TwoTrees.{TwoTrees, tree_for, AreLegal, Hold, MayAddClause, AddsClause, RemovesClause}
use Rattle.si_held.proofs.RenumberedLaws.{renumbered_held}
use Rattle.si_held.proofs.ClauseEntries.{new_key}
use Rattle.si_held.proofs.AddedLaws.{adds_held}
use Rattle.si_held.proofs.RemovedLaws.{removes_held}
use Rattle.si_keyed.specs.Keyed.{item_keys, HasKey, IsTakenOut}
use Rattle.si_index.specs.Kept.{NumbersExactly, clauses_of, paired}
use Rattle.si_defs.specs.Clauses.{Name}
use Rattle.si_defs.specs.declared.TheConstants.{MOST_OCCURRENCES}
use Rattle.si_state.specs.States.{Rules}
use Rattle.si_sign.proofs.StateLaws.{signature_of_none}
use Rattle.si_sign.proofs.StoreLaws.{stored_none}
use Rattle.std.proofs.lemmas.Option.{none-some}
use Rattle.si_index.specs.Names.{key_of_name}
use Rattle.si_index.specs.Stored.{keyed_clauses, IsKeptIndex, AreHeld}
use Rattle.si_index.specs.Register.{IsRegisterOf, CountsClause, UncountsClause, StrikesOut, IsSameRegister}
use Rattle.si_index.specs.declared.register.Register.{Register}

-- ---- the clauses with their keys
pub paired_keyed : (items : List (ℕ × term.Clause)) → keyed_clauses items ≡ paired (item_keys items) (clauses_of items)
paired_keyed [] = refl
paired_keyed (x ∷ items) = ap (λ l. (x.0, clause_of x.1) ∷ l) (paired_keyed items)

pub keyed_keys : (items : List (ℕ × term.Clause)) → map (λ k. k.0) (keyed_clauses items) ≡ item_keys items
keyed_keys [] = refl
keyed_keys (x ∷ items) = ap (λ l. x.0 ∷ l) (keyed_keys items)

pub keyed_alone : (items : List (ℕ × term.Clause)) → map (λ k. k.1) (keyed_clauses items) ≡ clauses_of items
keyed_alone [] = refl
keyed_alone (x ∷ items) = ap (λ l. clause_of x.1 ∷ l) (keyed_alone items)

pub keyed_append : (items more : List (ℕ × term.Clause)) → keyed_clauses (items ++ more) ≡ keyed_clauses items ++ keyed_clauses more
keyed_append items more = map-append (λ p. (p.0, clause_of p.1)) items more

-- ---- symbols that are used have numbers
used_numbered : (known : Signature) (s : Symbol) → 1 ≤ uses_of known s → has_number (numbering known) s ≡ true
used_numbered known s some =
    let u = uses_positive known s some in
    has-among (numbering known) s u.used.number (subst (λ r. IsAmong (numbering known) (r, u.used.number)) u.is (among_numbering known u.used u.among))

numbered_used : (known : Signature) (s : Symbol) → IsSignature known → has_number (numbering known) s ≡ true → 1 ≤ uses_of known s
numbered_used known s good has =
    let there = numbering_among known (s, number_in (numbering known) s) (among-number (numbering known) s has) in
    let uses = uses_among known there.used good.one_shape there.among in
    omega (arith, all_at (λ u. 1 ≤ u.uses) known there.used good.used there.among, uses, ap (λ (p : Symbol × ℕ). uses_of known p.0) there.is)

-- as often as they occur, at least
abbrev pub AreUsed : Signature → List Symbol → Type 0
AreUsed known ss = (s : Symbol) → times s ss ≤ uses_of known s

pub used_in : (known : Signature) (ss : List Symbol) → AreUsed known ss → (s : Symbol) → IsAmong ss s → has_number (numbering known) s ≡ true
used_in known ss used s a = used_numbered known s (omega (arith, times_among s ss a, used s))

numbers_all : (known : Signature) (items : List (ℕ × term.Clause)) → AreUsed known (state_symbols (clauses_of items)) → NumbersAll (numbering known) (map (λ k. k.1) (keyed_clauses items))
numbers_all known items used =
    subst (NumbersAll (numbering known)) (sym (keyed_alone items))
    (all_from (λ s. has_number (numbering known) s ≡ true) (state_symbols (clauses_of items)) (used_in known (state_symbols (clauses_of items)) used))

lacks_none : (numbers : Numbering) (ss : List Symbol) → ((s : Symbol) → IsAmong ss s → has_number numbers s ≡ true) → unnumbered numbers ss ≡ []
lacks_none numbers [] all = refl
lacks_none numbers (s ∷ ss) all = by (has_number numbers s) (all s (inl refl)) (lacks_none numbers ss (λ r a. all r (inr a))) where
  by : (test : Bool) → test ≡ true → unnumbered numbers ss ≡ [] → cond (not test) (s ∷ unnumbered numbers ss) (unnumbered numbers ss) ≡ []
  by true e none = none
  by false e none = absurd (false≢true e)

none_lacking : (known : Signature) (ss : List Symbol) → AreUsed known ss → unnumbered (numbering known) ss ≡ []
none_lacking known ss used = lacks_none (numbering known) ss (used_in known ss used)

-- ---- the numbers change
-- Those of symbols that are used stay.
pub still_held : (old new : Register) (items : List (ℕ × term.Clause)) (trees : TwoTrees) → AreHeld items old trees → IsSignature new.signature → KeepsNumbers old.signature new.signature
    → AreUsed new.signature (state_symbols (clauses_of items)) → AreHeld items new trees
still_held old new items trees held good keeps used =
    renumbered_held (numbering old.signature) (numbering new.signature) (keyed_clauses items) trees held good.numbered (numbers_all new.signature items used) keeps

-- ---- a clause comes
module _ (numbers : Numbering) (items : List (ℕ × term.Clause)) (key : ℕ) (c : term.Clause) (old new : TwoTrees) (held : Hold numbers (keyed_clauses items) old) where
  pub may_add : (HasKey items key → ⊥) → IsSoundClause (clause_of c) → unnumbered numbers (clause_symbols (clause_of c)) ≡ [] → MayAddClause numbers key (clause_of c) old
  may_add fresh sound known = record {
    sound = sound;
    numbered = known;
    new_key = new_key numbers (keyed_clauses items) old held key (λ a. fresh (subst (λ l. IsAmong l key) (keyed_keys items) a));
  }

  pub held_more : (HasKey items key → ⊥) → unnumbered numbers (clause_symbols (clause_of c)) ≡ [] → AddsClause numbers key (clause_of c) old new → AreLegal new
      → Hold numbers (keyed_clauses (items ++ (key, c) ∷ [])) new
  held_more fresh known adds legal =
      subst (λ l. Hold numbers l new) (sym (keyed_append items ((key, c) ∷ [])))
      (adds_held numbers (keyed_clauses items) key (clause_of c) old new held (λ a. fresh (subst (λ l. IsAmong l key) (keyed_keys items) a)) known adds legal)

-- ---- a clause goes
pub held_less : (numbers : Numbering) (items rest : List (ℕ × term.Clause)) (key : ℕ) (c : term.Clause) (old new : TwoTrees) → Hold numbers (keyed_clauses items) old
    → IsTakenOut items key c rest → RemovesClause key old new → AreLegal new → Hold numbers (keyed_clauses rest) new
held_less numbers items rest key c old new held out removes legal =
    subst (λ l. Hold numbers l new) (sym (ap keyed_clauses out.rest ∙ keyed_append out.before out.after))
    (removes_held numbers (keyed_clauses items) (keyed_clauses out.before) (keyed_clauses out.after) key (clause_of c) old new held
    (ap keyed_clauses out.whole ∙ keyed_append out.before ((key, c) ∷ out.after)) removes legal)

-- ---- the register of the clauses
-- the clause's symbols are counted, and the others' numbers stay
module _ (items : List (ℕ × term.Clause)) (register : Register) (trees : TwoTrees) (is : IsRegisterOf items register) (held : AreHeld items register trees) where
  pub entered_held : (c : Clause) (between : Register) → CountsClause c register between → AreHeld items between trees
  entered_held c between enters = still_held register between items trees held enters.signature enters.numbers (λ s. omega (arith, enters.uses s, is.signed s))

  pub entered_numbers : (c : Clause) (between : Register) → CountsClause c register between → unnumbered (numbering between.signature) (clause_symbols c) ≡ []
  entered_numbers c between enters = none_lacking between.signature (clause_symbols c) (λ s. omega (arith, enters.uses s))

  -- and counted no more
  pub uncounted_held : (c : Clause) (between new : Register) (after : TwoTrees) → CountsClause c register between → AreHeld items between after → UncountsClause c between new → AreHeld items new after
  uncounted_held c between new after enters now undone =
      still_held between new items after now undone.signature undone.numbers (λ s. omega (arith, enters.uses s, is.signed s, undone.uses s))

  pub stays_held : (new : Register) → IsSameRegister items register new → AreHeld items new trees
  stays_held new same = still_held register new items trees held same.signature same.numbers (λ s. omega (arith, same.uses s, is.signed s))

  -- a clause goes from the trees, and then from the register
  pub left_held : (key : ℕ) (c : term.Clause) (rest : List (ℕ × term.Clause)) (new : Register) (after : TwoTrees) → IsTakenOut items key c rest → RemovesClause key trees after → AreLegal after
      → IsRegisterOf rest new → StrikesOut (clause_of c) key register new → AreHeld rest new after
  left_held key c rest new after out removes legal is_new leaves =
      still_held register new rest after (held_less (numbering register.signature) items rest key c trees after held out removes legal) leaves.counts.signature leaves.counts.numbers (λ s. omega (arith, is_new.signed s))

-- ---- as an index shows them
pub trees_hold : (items : List (ℕ × term.Clause)) (register : Register) (trees : TwoTrees) → AreHeld items register trees → Hold (numbering register.signature) (paired (item_keys items) (clauses_of items)) trees
trees_hold items register trees held = subst (λ l. Hold (numbering register.signature) l trees) (paired_keyed items) held

-- exactly the symbols of the clauses have numbers
pub numbers_exactly : (items : List (ℕ × term.Clause)) (known : Signature) → IsSignature known → IsSignatureOf (clauses_of items) known → NumbersExactly (numbering known) (clauses_of items)
numbers_exactly items known good signed s = (
  λ has. among_times s (state_symbols (clauses_of items)) (omega (arith, signed s, numbered_used known s good has)),
  λ a. used_in known (state_symbols (clauses_of items)) (λ r. omega (arith, signed r)) s a,
)

-- ---- no clause
pub none_held : (items : List (ℕ × term.Clause)) (register : Register) (trees : TwoTrees) → items ≡ [] → register.signature ≡ [] → AreAlone trees → AreHeld items register trees
none_held items register trees none unknown alone =
    subst (λ l. AreHeld l register trees) (sym none)
    (subst (λ g. Hold (numbering g) [] trees) (sym unknown)
    (roots_held [] trees no_numbers (root_legal trees.literals alone.0, root_legal trees.subterms alone.1) vacant)) where
      vacant : (literals : Bool) (key : ℕ) → key ≢ (tree_for literals trees).root → IsVacant (tree_for literals trees) key
      vacant true key other = alone.0.others key other
      vacant false key other = alone.1.others key other

pub none_kept : (rules : Rules) (items : List (ℕ × term.Clause)) (register : Register) → rules.entries ≤ MOST_OCCURRENCES → items ≡ [] → ((name : Name) → key_of_name [] register.names name ≡ None) → register.signature ≡ []
    → register.entries ≡ 0 → IsKeptIndex rules items register
none_kept rules items register small none unnamed unknown uncounted =
    subst (λ l. IsKeptIndex rules l register) (sym none)
    (record {
      small = small;
      stored = stored_none rules;
      registered = record {
        names = record {
          there = λ name key e. absurd (none-some key (sym (unnamed name) ∙ e));
          named = λ name key e. absurd (none-some key (sym (unnamed name) ∙ e));
          listed = λ key c a. absurd a;
        };
        signature = subst IsSignature (sym unknown) (record { one_shape = tt; numbered = no_numbers; used = tt });
        signed = subst (IsSignatureOf []) (sym unknown) signature_of_none;
        used = ap total unknown;
        counted = uncounted;
      };
    })
