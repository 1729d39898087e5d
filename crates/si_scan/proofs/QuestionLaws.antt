-- What is answered to the cells of a query and of an entry, and what it says of the entry.
use Rattle.std.proofs.Common.{◌≡◌, Bool, true, false, not, List, refl, sym, ◌∙◌}
use Rattle.std.specs.Prelude.{◌↔◌, IsTrue, None, Some}
use Rattle.std.proofs.Math.Bool.{beq}
use Rattle.si_defs.specs.Entries.{Entry}
use Rattle.si_legal.specs.KeptTrees.{is_literal}
use Rattle.si_flat.specs.declared.Cell.{Cell}
use Rattle.si_flat.specs.Cells.{entry, StandsFor}
use Rattle.si_flat.specs.Flattened.{numbered_entry}
use Rattle.si_form.specs.declared.solution.Binding.{Binding}
use Rattle.si_form.specs.Answers.{Answers}
use Rattle.si_form.proofs.SignLaws.{relates_of_canonical}
use Rattle.si_form.proofs.Vocabularies.{with_numbers}
use Rattle.si_scan.specs.Scans.{Wants, IsReadyToScan, numbers_of}
use Rattle.si_scan.specs.declared.question.Question.{Question}

pub says_yes : (P : Type 0) → P → IsTrue true ↔ P
says_yes P p = ((λ _. p), (λ _. refl))

pub says_no : (P : Type 0) → (P → ⊥) → IsTrue false ↔ P
says_no P fails = ((λ h. absurd (let wrong : false ≡ true = h in cc)), (λ p. absurd (fails p)))

module _ (q : Question) (e : Entry) (held : List Cell) (flat : StandsFor held (numbered_entry (numbers_of q) entry e)) where
  pub none_wanted : Answers q.relation q.query held None → Wants q e → ⊥
  none_wanted told w = told w.term (numbered_entry (numbers_of q) entry e) w.stands flat w.relates

  pub some_wanted : (list : List Binding) → IsReadyToScan q → is_literal e ≡ q.literal → Answers q.relation q.query held (Some list) → Wants q e
  some_wanted list ready kind told =
      let answer = told ready.0 (numbered_entry (numbers_of q) entry e) ready.1 flat in
      record {
        kind = kind;
        term = ready.0;
        stands = ready.1;
        relates = relates_of_canonical with_numbers q.relation ready.0 (numbered_entry (numbers_of q) entry e) answer.0 answer.2.canonical;
      }

-- ---- kinds
kinds_differ : (a b : Bool) → not (beq a b) ≡ true → a ≡ b → ⊥
kinds_differ true true h e = cc
kinds_differ false false h e = cc
kinds_differ true false h e = cc
kinds_differ false true h e = cc

pub kinds_agree : (a b : Bool) → not (beq a b) ≡ false → a ≡ b
kinds_agree true true h = refl
kinds_agree false false h = refl
kinds_agree true false h = cc
kinds_agree false true h = cc

-- entries of the other kind aren't wanted
pub other_kind : (q : Question) (e : Entry) (b : Bool) → b ≡ is_literal e → not (beq b q.literal) ≡ true → Wants q e → ⊥
other_kind q e b is differ w = kinds_differ b q.literal differ (is ∙ w.kind)

pub not_wanted : (P : Type 0) (b : Bool) → IsTrue b ↔ P → b ≡ false → P → ⊥
not_wanted P b told none p = let wrong : true ≡ false = sym (told.1 p) ∙ none in cc
