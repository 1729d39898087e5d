-- Terms with numbers whose heads differ are never answered.
use Rattle.std.proofs.Common.{◌≡◌, ◌⊎◌, ℕ, ◌+◌, ◌*◌, Bool, true, false, List, inl, inr, refl, sym, ◌∙◌, ap, arith, Option, Some, None}
use Rattle.si_defs.specs.Bytes.{Bytes}
use Rattle.si_defs.specs.Terms as terms
use Rattle.si_defs.specs.Terms.{var, app, symbols}
use Rattle.si_defs.specs.Symbols.{Symbol}
use Rattle.si_defs.specs.Clauses.{Terms}
use Rattle.si_defs.specs.Substitutions.{Substitution, IsAmong}
use Rattle.si_defs.specs.declared.Side.{Side}
use Rattle.si_defs.specs.declared.Side.TheVariants.{Predicate, Function}
use Rattle.si_defs.specs.declared.Relation.{Relation}
use Rattle.si_defs.specs.declared.Relation.TheVariants.{Variants, Instances, Generalizations, Unifiable}
use Rattle.si_defs.specs.Relations.{Relates}
use Rattle.si_defs.specs.Solutions.{IsCanonical}
use Rattle.si_defs.proofs.ListLaws.{among_back}
use Rattle.si_defs.proofs.TermLaws.{same_app}
use Rattle.si_flat.specs.Cells as cells
use Rattle.si_flat.specs.Numbered.{one_above, signed}
use Rattle.si_form.specs.declared.solution.Binding.{Binding}
use Rattle.si_form.specs.Answers.{AnswersTo}
use Rattle.si_form.specs.Numberings.{query_by, entry_by, symbols_of, SignsAreTold, SidesAreTold}
use Rattle.si_form.proofs.UnifierLaws.{sequence_map, sequence_is}
use Rattle.si_form.proofs.Carrying.{Vocabulary}
use Rattle.si_form.proofs.Vocabularies.{with_numbers}

-- where there is a canonical list, the relation holds
pub relates_of_canonical : {S V : Type 0} (A : Vocabulary S V) (relation : Relation) (q e : terms.Term S V) (bs : Substitution S V) → IsCanonical A.same relation q e bs → Relates A.same relation q e
relates_of_canonical A Unifiable q e bs h = (
  sequence_map A.same A.tells A.itself bs,
  sym (sequence_is A.same A.tells A.itself bs q) ∙ h.achieves ∙ sequence_is A.same A.tells A.itself bs e,
)
relates_of_canonical A Instances q e bs h = (bs, h.matches)
relates_of_canonical A Generalizations q e bs h = (bs, h.matches)
relates_of_canonical A Variants q e bs h = h.0

-- ---- even numbers and signs
abbrev pub IsEven : ℕ → Type 0
IsEven n = (half : ℕ) × (n ≡ 2 * half)

even_apart : (m n : ℕ) → IsEven m → IsEven n → 1 + m ≡ n → ⊥
even_apart m n h k e = omega (arith, e, h.1, k.1)

-- a number with a sign is the symbol's own, or one above it
own_or_above : (number : Symbol → ℕ) (positive : Bool) (s : Symbol) → (signed positive number s ≡ number s) ⊎ (signed positive number s ≡ 1 + number s)
own_or_above number true s = inl refl
own_or_above number false s = by s.side
  where
    by : (side : Side) → (one_above side (number s) ≡ number s) ⊎ (one_above side (number s) ≡ 1 + number s)
    by Predicate = inr refl
    by Function = inl refl

pub one_number : (number : Symbol → ℕ) (s r : Symbol) (one other : Bool) → IsEven (number s) → IsEven (number r) → signed one number s ≡ signed other number r → number s ≡ number r
one_number number s r one other h k e =
    elim (own_or_above number one s) [
      | inl a ↦
          elim (own_or_above number other r) [
            | inl b ↦ sym a ∙ e ∙ b
            | inr b ↦ absurd (even_apart (number r) (number s) k h (sym b ∙ sym e ∙ a))
          ]
      | inr a ↦
          elim (own_or_above number other r) [
            | inl b ↦ absurd (even_apart (number s) (number r) h k (sym a ∙ e ∙ b))
            | inr b ↦ (let both : 1 + number s ≡ 1 + number r = sym a ∙ e ∙ b in omega (arith, both))
          ]
    ]

-- ---- heads
module _ {S V : Type 0} (A : Vocabulary S V) (s r : S) (ts us : terms.Terms S V) where
  pub relates_heads : (relation : Relation) → Relates A.same relation (app s ts) (app r us) → s ≡ r
  relates_heads Unifiable h = (same_app s r _ _ h.1).0
  relates_heads Instances h = (same_app s r _ _ h.1.takes).0
  relates_heads Generalizations h = (same_app s r _ _ (sym h.1.takes)).0
  relates_heads Variants h = (same_app s r _ _ h.0.1.takes).0

-- what is answered has one head
one_head :
    (relation : Relation) (s r : Symbol) (ts us : Terms) (number : Symbol → ℕ) (xs ys : List Bytes) (one other : Bool) (answer : Option (List Binding))
    → AnswersTo relation (query_by (signed one number) xs (app s ts)) (entry_by (signed other number) ys (app r us)) answer
    → (signed one number s ≡ signed other number r → ⊥)
    → answer ≡ None
one_head relation s r ts us number xs ys one other None told apart = refl
one_head relation s r ts us number xs ys one other (Some bindings) told apart =
    let q = query_by (signed one number) xs (app s ts) in
    let e = entry_by (signed other number) ys (app r us) in
    absurd (apart (ap (λ (z : cells.Symbol). z.number) (relates_heads with_numbers _ _ _ _ relation (relates_of_canonical with_numbers relation q e told.0 told.2.canonical))))

-- ---- signs
pub signs_apart : (number : Symbol → ℕ) (s r : Symbol) (one other : Bool) → s.side ≡ Predicate → r.side ≡ Predicate → IsEven (number s) → IsEven (number r) → (one ≡ other → ⊥) → signed one number s ≡ signed other number r → ⊥
signs_apart number s r true true at_s at_r h k distinct e = distinct refl
signs_apart number s r false false at_s at_r h k distinct e = distinct refl
signs_apart number s r true false at_s at_r h k distinct e =
    let is : number s ≡ 1 + number r = e ∙ ap (λ side. one_above side (number r)) at_r in
    omega (arith, is, h.1, k.1)
signs_apart number s r false true at_s at_r h k distinct e =
    let is : 1 + number s ≡ number r = sym (ap (λ side. one_above side (number s)) at_s) ∙ e in
    omega (arith, is, h.1, k.1)

pub signs_are_told : SignsAreTold
signs_are_told relation (var x) u number xs ys one other answer p_sound u_sound h distinct told = elim p_sound [ ]
signs_are_told relation (app s ts) (var x) number xs ys one other answer p_sound u_sound h distinct told = elim u_sound [ ]
signs_are_told relation (app s ts) (app r us) number xs ys one other answer p_sound u_sound h distinct told =
    one_head relation s r ts us number xs ys one other answer told
    (
    signs_apart number s r one other p_sound.0.on_side u_sound.0.on_side (h.even s (inl refl))
    (h.even r (among_back (symbols (app s ts)) (symbols (app r us)) r (inl refl))) distinct
    )

-- ---- sides
pub sides_are_told : SidesAreTold
sides_are_told relation s r ts us number xs ys one other answer h distinct told =
    let in_entry : IsAmong (symbols_of (app s ts) (app r us)) r = among_back (symbols (app s ts)) (symbols (app r us)) r (inl refl) in
    one_head relation s r ts us number xs ys one other answer told
    (λ e. distinct (ap (λ (z : Symbol). z.side) (h.one_symbol s r (inl refl) in_entry (one_number number s r one other (h.even s (inl refl)) (h.even r in_entry) e))))
