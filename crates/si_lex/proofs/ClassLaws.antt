-- The table of classes, held against the definitions at each of the 256 bytes, by computing.
use Rattle.std.proofs.Common.{◌≡◌, ℕ, zero, suc, ◌<◌, List, [], ◌∷◌, get_or, refl, inl, inr, arith}
use Rattle.std.proofs.lemmas.Bool.{cases_eq}
use Rattle.si_lex.specs.declared.bytes.First.{First}
use Rattle.si_lex.specs.declared.bytes.First.TheVariants.{Small}
use Rattle.si_lex.specs.Firsts.{first_of}

-- what a function gives at the numbers below n
unfoldable pub below : {A : Type 0} → (ℕ → A) → ℕ → List A
below f zero = []
below f (suc n) = f n ∷ below f n

same_at : {A : Type 0} (f g : ℕ → A) (n : ℕ) → below f n ≡ below g n → (b : ℕ) → b < n → f b ≡ g b
unfolding below
same_at f g zero e b l = absurd (omega arith)
same_at f g (suc n) e b l =
    let here : f n ≡ g n = cc in
    let there : below f n ≡ below g n = cc in
    elim (cases_eq b n) [ inl same ↦ rw same here | inr other ↦ same_at f g n there b (omega arith) ]

pub first_by : (table : List First) (b : ℕ) → b < 256 → below (λ k. get_or table k Small) 256 ≡ below first_of 256 → get_or table b Small ≡ first_of b
first_by table b l e = same_at _ _ 256 e b l
