-- Images of literals, by their numbers.
use Rattle.std.proofs.Common.{◌≡◌, ◌⊎◌, inl, inr, ℕ, zero, suc, ◌<◌, true, false, ◌==◌, List, [], ◌∷◌, codes, refl, ap, sym, ◌∙◌, arith}
use Rattle.std.specs.Prelude.{Some}
use Rattle.si_defs.specs.Bytes.{Bytes}
use Rattle.si_defs.specs.Terms as terms
use Rattle.si_defs.specs.Clauses.{Term, Literal}
use Rattle.si_defs.specs.Substitutions.{image}
use Rattle.si_defs.specs.Variables.{of_pattern, same_variable, Apart, entry_term, Solution}
use Rattle.si_state.specs.Subsumption.{item_at, TakesTo, IsMap, IsNoLater}
use Rattle.si_steps.specs.Replies.{mapped_reply}
use Rattle.si_examples.specs.Entries.{a}
use Rattle.si_examples.specs.Relations.{x, y}
use Rattle.si_examples.specs.Subsumption.{atom_of, b, linked, three, two, negative, TwoToOne, SkippedLiteral, NoCommonImage, NoOtherSign, NoSubsumedReported}
use Rattle.si_examples.proofs.Differ.{first_byte, texts_differ}

-- the text at the head of a term, and its first argument
abbrev head_text : Apart → Bytes
head_text (terms.var v) = []
head_text (terms.app s ts) = s.text

abbrev first_argument : Apart → Apart
first_argument (terms.app s (terms.more t ts)) = t
first_argument t = t

-- a literal of one argument goes to this one
abbrev IsImage : Solution → List Literal → Literal → ℕ → Type 0
IsImage s ds l n = (k : Literal) × (item_at ds n ≡ Some k) × TakesTo s l k

abbrev image_of_x : Solution → Apart
image_of_x s = image same_variable s (of_pattern (codes "X"))

other_head : (s : Solution) (text other : Bytes) (t : Term) (k : Literal) → first_byte text == first_byte other ≡ false → Some (atom_of other t) ≡ Some k → TakesTo s (atom_of text x) k → ⊥
other_head s text other t k differs is h = texts_differ text other differs (ap head_text (h.atom ∙ ap (λ (l : Literal). entry_term l.atom) (sym e)))
  where
    e : atom_of other t ≡ k
    e = cc

argument_is : (s : Solution) (text other : Bytes) (t : Term) (k : Literal) → Some (atom_of other t) ≡ Some k → TakesTo s (atom_of text x) k → image_of_x s ≡ entry_term t
argument_is s text other t k is h = ap first_argument (h.atom ∙ ap (λ (l : Literal). entry_term l.atom) (sym e))
  where
    e : atom_of other t ≡ k
    e = cc

constants_differ : (t : Apart) → t ≡ entry_term a → t ≡ entry_term b → ⊥
constants_differ t e f = texts_differ (codes "a") (codes "b") refl (ap head_text (sym e ∙ f))

-- ---- p(X)|p(Y) to p(a)
from_one : (ds : List Literal) (k : Literal) (m : ℕ) → item_at ds m ≡ Some k → (1 < m) ⊎ (1 ≡ m)
from_one ds k zero e = cc
from_one ds k (suc zero) e = inr refl
from_one ds k (suc (suc m)) e = inl (omega arith)

pub two_to_one : TwoToOne
two_to_one = record {
  is_one = (
    (of_pattern (codes "X"), a) ∷ (of_pattern (codes "Y"), a) ∷ [],
    record {
      on = (inl refl, (inr (inl refl), tt));
      taken = (
        (atom_of (codes "p") a, refl, record { sign = refl; atom = refl }),
        ((atom_of (codes "p") a, refl, record { sign = refl; atom = refl }), tt),
      );
    },
  );
  no_later = later;
}
  where
    pair : (m n : ℕ) → (1 < m) ⊎ (1 ≡ m) → (1 < n) ⊎ (1 ≡ n) → IsNoLater (1 ∷ 1 ∷ []) (m ∷ n ∷ [])
    pair m n (inl h) f = inl h
    pair m n (inr h) (inl f) = inr (h, inl f)
    pair m n (inr h) (inr f) = inr (h, inr (f, tt))

    later : (ms : List ℕ) → IsMap (atom_of (codes "p") x ∷ atom_of (codes "p") y ∷ []) (atom_of (codes "p") a ∷ []) ms → IsNoLater (1 ∷ 1 ∷ []) ms
    later [] h = absurd h.1.taken
    later (m ∷ []) h = absurd h.1.taken.1
    later (m ∷ n ∷ []) h = pair m n (from_one (atom_of (codes "p") a ∷ []) h.1.taken.0.0 m h.1.taken.0.1) (from_one (atom_of (codes "p") a ∷ []) h.1.taken.1.0.0 n h.1.taken.1.0.1)
    later (m ∷ n ∷ o ∷ ms) h = absurd h.1.taken.1.1

-- ---- q(X)|r(X)
-- the image of r(X) in q(a)|q(b)|r(b)
third : (s : Solution) (m : ℕ) → IsImage s three (atom_of (codes "r") x) m → (3 ≡ m) × (image_of_x s ≡ entry_term b)
third s zero h = cc
third s (suc zero) h = absurd (other_head s (codes "r") (codes "q") a h.0 refl h.1 h.2)
third s (suc (suc zero)) h = absurd (other_head s (codes "r") (codes "q") b h.0 refl h.1 h.2)
third s (suc (suc (suc zero))) h = (refl, argument_is s (codes "r") (codes "r") b h.0 h.1 h.2)
third s (suc (suc (suc (suc m)))) h = cc

pub skipped_literal : SkippedLiteral
skipped_literal = record {
  is_one = (
    (of_pattern (codes "X"), entry_term b) ∷ [],
    record {
      on = (inl refl, tt);
      taken = (
        (atom_of (codes "q") b, refl, record { sign = refl; atom = refl }),
        ((atom_of (codes "r") b, refl, record { sign = refl; atom = refl }), tt),
      );
    },
  );
  no_later = later;
}
  where
    pair : (s : Solution) (m n : ℕ) → IsImage s three (atom_of (codes "q") x) m → (3 ≡ n) × (image_of_x s ≡ entry_term b) → IsNoLater (2 ∷ 3 ∷ []) (m ∷ n ∷ [])
    pair s zero n h f = cc
    pair s (suc zero) n h f = absurd (constants_differ (image_of_x s) (argument_is s (codes "q") (codes "q") a h.0 h.1 h.2) f.1)
    pair s (suc (suc zero)) n h f = inr (refl, inr (f.0, tt))
    pair s (suc (suc (suc m))) n h f = inl (omega arith)

    later : (ms : List ℕ) → IsMap linked three ms → IsNoLater (2 ∷ 3 ∷ []) ms
    later [] h = absurd h.1.taken
    later (m ∷ []) h = absurd h.1.taken.1
    later (m ∷ n ∷ []) h = pair h.0 m n h.1.taken.0 (third h.0 n h.1.taken.1.0)
    later (m ∷ n ∷ o ∷ ms) h = absurd h.1.taken.1.1

first_of_two : (s : Solution) (m : ℕ) → IsImage s two (atom_of (codes "q") x) m → image_of_x s ≡ entry_term a
first_of_two s zero h = cc
first_of_two s (suc zero) h = argument_is s (codes "q") (codes "q") a h.0 h.1 h.2
first_of_two s (suc (suc zero)) h = absurd (other_head s (codes "q") (codes "r") b h.0 refl h.1 h.2)
first_of_two s (suc (suc (suc m))) h = cc

second_of_two : (s : Solution) (m : ℕ) → IsImage s two (atom_of (codes "r") x) m → image_of_x s ≡ entry_term b
second_of_two s zero h = cc
second_of_two s (suc zero) h = absurd (other_head s (codes "r") (codes "q") a h.0 refl h.1 h.2)
second_of_two s (suc (suc zero)) h = argument_is s (codes "r") (codes "r") b h.0 h.1 h.2
second_of_two s (suc (suc (suc m))) h = cc

pub no_common_image : NoCommonImage
no_common_image h = none h.0 h.1
  where
    none : (ms : List ℕ) → IsMap linked two ms → ⊥
    none [] h = h.1.taken
    none (m ∷ []) h = h.1.taken.1
    none (m ∷ n ∷ []) h = constants_differ (image_of_x h.0) (first_of_two h.0 m h.1.taken.0) (second_of_two h.0 n h.1.taken.1.0)
    none (m ∷ n ∷ o ∷ ms) h = h.1.taken.1.1

pub no_other_sign : NoOtherSign
no_other_sign h = none h.0 h.1
  where
    sign_is : (k : Literal) (m : ℕ) → item_at negative m ≡ Some k → k.positive ≡ false
    sign_is k zero e = cc
    sign_is k (suc zero) e = cc
    sign_is k (suc (suc m)) e = cc

    none : (ms : List ℕ) → IsMap (atom_of (codes "p") x ∷ []) negative ms → ⊥
    none [] h = h.1.taken
    none (m ∷ n ∷ ms) h = h.1.taken.1
    none (m ∷ []) h = let bad : true ≡ false = h.1.taken.0.2.sign ∙ sign_is h.1.taken.0.0 m h.1.taken.0.1 in cc

-- ---- answers
more_lines : (line next last : Bytes) → line ∷ next ∷ [] ≡ last ∷ [] → ⊥
more_lines line next last e = cc

pub no_subsumed_reported : NoSubsumedReported
no_subsumed_reported setting line new (found, inl h, said, stays) = no_other_sign (h.0, h.2.is_one)
no_subsumed_reported setting line new (found, inr h, said, stays) = more_lines line _ _ (said ∙ ap mapped_reply h.1)
