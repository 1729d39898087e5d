-- The rows of the kept clauses, as clauses and the numbers of their symbols come and go.
use Rattle.std.proofs.Common.{◌≡◌, ◌⊎◌, inl, inr, ℕ, List, [], ◌∷◌, ◌++◌, sym, ap, subst, arith}
use Rattle.si_defs.specs.Symbols.{Symbol, Numbering}
use Rattle.si_defs.specs.Clauses.{Clause}
use Rattle.si_defs.specs.Entries.{clause_symbols, state_symbols}
use Rattle.si_defs.specs.Substitutions.{IsAmong}
use Rattle.si_defs.proofs.ListLaws.{among_front, among_back, among_parts}
use Rattle.si_state.specs.Signatures.{Signature, KeepsNumbers, numbering}
use Rattle.si_term.specs.Meaning.{clause_of}
use Rattle.si_term.specs.declared.clause.Clause as term
use Rattle.si_flat.specs.Numbered.{number_in}
use Rattle.si_flat.proofs.Numbers.{among-number}
use Rattle.si_keyed.specs.Keyed.{HasKey, IsTakenOut}
use Rattle.si_keyed.proofs.KeyLaws.{key_among}
use Rattle.si_screen.specs.ClauseRows.{IsRowOf}
use Rattle.si_screen.proofs.RowLaws.{row_stays}
use Rattle.si_index.specs.Kept.{clauses_of}
use Rattle.si_index.specs.Register.{IsRegisterOf, CountsClause, UncountsClause, StrikesOut, IsSameRegister}
use Rattle.si_index.specs.Stored.{HaveRows}
use Rattle.si_index.specs.declared.register.Register.{Register}
use Rattle.si_index.proofs.HeldClauses.{AreUsed, used_in}

-- ---- the numbers change
symbols_there : (items : List (ℕ × term.Clause)) (key : ℕ) (c : term.Clause) (s : Symbol) → IsAmong items (key, c) → IsAmong (clause_symbols (clause_of c)) s
    → IsAmong (state_symbols (clauses_of items)) s
symbols_there [] key c s a b = absurd a
symbols_there (x ∷ items) key c s (inl e) b =
    among_front (clause_symbols (clause_of x.1)) (state_symbols (clauses_of items)) s
    (subst (λ (d : ℕ × term.Clause). IsAmong (clause_symbols (clause_of d.1)) s) (sym e) b)
symbols_there (x ∷ items) key c s (inr a) b = among_back (clause_symbols (clause_of x.1)) (state_symbols (clauses_of items)) s (symbols_there items key c s a b)

-- those of symbols that are used stay
still_rows : (old new : Signature) (items : List (ℕ × term.Clause)) (rows : List (ℕ × List ℕ)) → HaveRows (numbering old) items rows → KeepsNumbers old new
    → AreUsed old (state_symbols (clauses_of items)) → AreUsed new (state_symbols (clauses_of items)) → HaveRows (numbering new) items rows
still_rows old new items rows have keeps used still key c row a b =
    row_stays (number_in (numbering old)) (number_in (numbering new)) (clause_of c).literals row
    (λ s there.
    let met = symbols_there items key c s a there in
    keeps s (number_in (numbering old) s) (number_in (numbering new) s)
    (among-number (numbering old) s (used_in old (state_symbols (clauses_of items)) used s met))
    (among-number (numbering new) s (used_in new (state_symbols (clauses_of items)) still s met)))
    (have key c row a b)

-- ---- a clause comes
pub rows_more : (numbers : Numbering) (items new : List (ℕ × term.Clause)) (rows after : List (ℕ × List ℕ)) (key : ℕ) (c : term.Clause) (row : List ℕ)
    → HaveRows numbers items rows → IsRowOf (number_in numbers) (clause_of c).literals row → (HasKey items key → ⊥) → (HasKey rows key → ⊥)
    → new ≡ items ++ (key, c) ∷ [] → after ≡ rows ++ (key, row) ∷ [] → HaveRows numbers new after
rows_more numbers items new rows after key c row have is fresh unmarked pushed marked k d r a b =
    by (among_parts items ((key, c) ∷ []) (k, d) (subst (λ l. IsAmong l (k, d)) pushed a)) (among_parts rows ((key, row) ∷ []) (k, r) (subst (λ l. IsAmong l (k, r)) marked b)) where
      by : IsAmong items (k, d) ⊎ IsAmong {V = ℕ × term.Clause} ((key, c) ∷ []) (k, d) → IsAmong rows (k, r) ⊎ IsAmong {V = ℕ × List ℕ} ((key, row) ∷ []) (k, r)
          → IsRowOf (number_in numbers) (clause_of d).literals r
      by (inl x) (inl y) = have k d r x y
      by (inl x) (inr (inl y)) = absurd (fresh (subst (HasKey items) (ap (λ p. p.0) (sym y)) (key_among items (k, d) x)))
      by (inr (inl x)) (inl y) = absurd (unmarked (subst (HasKey rows) (ap (λ p. p.0) (sym x)) (key_among rows (k, r) y)))
      by (inr (inl x)) (inr (inl y)) =
          subst (λ (e : ℕ × term.Clause). IsRowOf (number_in numbers) (clause_of e.1).literals r) x
          (subst (λ (s : ℕ × List ℕ). IsRowOf (number_in numbers) (clause_of c).literals s.1) y is)
      by x (inr (inr y)) = absurd y
      by (inr (inr x)) y = absurd x

-- ---- a clause goes
left_there : {X : Type 0} (old new : List (ℕ × X)) (key : ℕ) (x : X) (p : ℕ × X) → IsTakenOut old key x new → IsAmong new p → IsAmong old p
left_there old new key x p out a =
    subst (λ l. IsAmong l p) (sym out.whole) (by (among_parts out.before out.after p (subst (λ l. IsAmong l p) out.rest a))) where
      by : IsAmong out.before p ⊎ IsAmong out.after p → IsAmong (out.before ++ (key, x) ∷ out.after) p
      by (inl b) = among_front out.before ((key, x) ∷ out.after) p b
      by (inr b) = among_back out.before ((key, x) ∷ out.after) p (inr b)

rows_less : (numbers : Numbering) (items new : List (ℕ × term.Clause)) (rows after : List (ℕ × List ℕ)) (key : ℕ) (c : term.Clause) (row : List ℕ)
    → HaveRows numbers items rows → IsTakenOut items key c new → IsTakenOut rows key row after → HaveRows numbers new after
rows_less numbers items new rows after key c row have out out_rows k d r a b =
    have k d r (left_there items new key c (k, d) out a) (left_there rows after key row (k, r) out_rows b)

-- ---- the register of the clauses
pub uncounted_rows : (items : List (ℕ × term.Clause)) (rows : List (ℕ × List ℕ)) (register : Register) (c : Clause) (between new : Register) → IsRegisterOf items register → CountsClause c register between → UncountsClause c between new → HaveRows (numbering between.signature) items rows
    → HaveRows (numbering new.signature) items rows
uncounted_rows items rows register c between new is enters undone now =
    still_rows between.signature new.signature items rows now undone.numbers (λ s. omega (arith, enters.uses s, is.signed s)) (λ s. omega (arith, enters.uses s, is.signed s, undone.uses s))

module _ (items : List (ℕ × term.Clause)) (rows : List (ℕ × List ℕ)) (register : Register) (is : IsRegisterOf items register) (have : HaveRows (numbering register.signature) items rows) where
  pub entered_rows : (c : Clause) (between : Register) → CountsClause c register between → HaveRows (numbering between.signature) items rows
  entered_rows c between enters =
      still_rows register.signature between.signature items rows have enters.numbers (λ s. omega (arith, is.signed s)) (λ s. omega (arith, enters.uses s, is.signed s))

  pub stays_rows : (new : Register) → IsSameRegister items register new → HaveRows (numbering new.signature) items rows
  stays_rows new same = still_rows register.signature new.signature items rows have same.numbers (λ s. omega (arith, is.signed s)) (λ s. omega (arith, same.uses s, is.signed s))

  pub left_rows : (key : ℕ) (c : term.Clause) (rest : List (ℕ × term.Clause)) (row : List ℕ) (after : List (ℕ × List ℕ)) (new : Register) → IsTakenOut items key c rest → IsTakenOut rows key row after
      → IsRegisterOf rest new → StrikesOut (clause_of c) key register new → HaveRows (numbering new.signature) rest after
  left_rows key c rest row after new out out_rows is_new leaves =
      still_rows register.signature new.signature rest after (rows_less (numbering register.signature) items rest rows after key c row have out out_rows) leaves.counts.numbers
      (λ s. omega (arith, leaves.counts.uses s, is_new.signed s)) (λ s. omega (arith, is_new.signed s))
