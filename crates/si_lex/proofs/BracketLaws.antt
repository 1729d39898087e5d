-- The brackets that are open after some tokens.
use Rattle.std.proofs.Common.{◌≡◌, ℕ, ◌+◌, ◌-◌, false, List, [], ◌∷◌, ◌++◌, length, Option, Some, None, refl, ap, ◌∙◌, arith, IsTrue}
use Rattle.std.proofs.lemmas.Option.{same_Some, none-some}
use Rattle.std.proofs.lemmas.Bool.{false≢true}
use Rattle.std.specs.Option.{option_map_or}
use Rattle.si_defs.specs.Tokens.{Token}
use Rattle.si_defs.specs.Grammar.{Bracket, round, square, neither, opening_of, closing_of, closed, brackets_behind, balances, open_behind}

-- ---- which they are
abbrev pub and_then : (List Bracket → Option (List Bracket)) → Option (List Bracket) → Option (List Bracket)
and_then f None = None
and_then f (Some next) = f next

-- the brackets that are open after some tokens, the last one first; none where one closes another
-- than the last
abbrev pub open_after : List Token → List Bracket → Option (List Bracket)
open_after [] pending = Some pending
open_after (t ∷ ts) pending = and_then (open_after ts) (brackets_behind t pending)

-- after one more token
pub open_more : (ts : List Token) (t : Token) (pending next : List Bracket) → open_after ts pending ≡ Some next → open_after (ts ++ t ∷ []) pending ≡ brackets_behind t next
open_more [] t pending next e = by (brackets_behind t pending) ∙ ap (brackets_behind t) (same_Some pending next e) where
  by : (o : Option (List Bracket)) → and_then Some o ≡ o
  by None = refl
  by (Some x) = refl
open_more (u ∷ us) t pending next e = by (λ p f. open_more us t p next f) (brackets_behind u pending) e where
  by : ((p : List Bracket) → open_after us p ≡ Some next → open_after (us ++ t ∷ []) p ≡ brackets_behind t next)
      → (o : Option (List Bracket)) → and_then (open_after us) o ≡ Some next → and_then (open_after (us ++ t ∷ [])) o ≡ brackets_behind t next
  by again None f = absurd (none-some next f)
  by again (Some p) f = again p f

-- tokens balance where no bracket is open after them
pub balanced_open : (ts : List Token) (pending : List Bracket) → IsTrue (balances ts pending) → open_after ts pending ≡ Some []
balanced_open [] [] h = refl
balanced_open [] (b ∷ bs) h = absurd (false≢true h)
balanced_open (t ∷ ts) pending h = by (λ p f. balanced_open ts p f) (brackets_behind t pending) h where
  by : ((p : List Bracket) → IsTrue (balances ts p) → open_after ts p ≡ Some []) → (o : Option (List Bracket)) → IsTrue (option_map_or (balances ts) o false) → and_then (open_after ts) o ≡ Some []
  by again None f = absurd (false≢true f)
  by again (Some p) f = again p f

pub open_balanced : (ts : List Token) (pending : List Bracket) → open_after ts pending ≡ Some [] → IsTrue (balances ts pending)
open_balanced [] [] h = refl
open_balanced [] (b ∷ bs) h = let e : b ∷ bs ≡ [] = same_Some (b ∷ bs) [] h in cc
open_balanced (t ∷ ts) pending h = by (λ p f. open_balanced ts p f) (brackets_behind t pending) h where
  by : ((p : List Bracket) → open_after ts p ≡ Some [] → IsTrue (balances ts p)) → (o : Option (List Bracket)) → and_then (open_after ts) o ≡ Some [] → IsTrue (option_map_or (balances ts) o false)
  by again None f = absurd (none-some [] f)
  by again (Some p) f = again p f

-- ---- how many they are
-- the brackets that are open, and their number
pub step_depth : (t : Token) (pending next : List Bracket) (k : ℕ) → brackets_behind t pending ≡ Some next → open_behind (length pending + k) t ≡ length next + k
step_depth t pending next k e = by (opening_of t) refl where
  longer : (b : Bracket) → b ∷ pending ≡ next → length pending + k + 1 ≡ length next + k
  longer b f = omega (arith, ap length f)

  shorter : (b : Bracket) (others : List Bracket) → pending ≡ b ∷ others → others ≡ next → length pending + k - 1 ≡ length next + k
  shorter b others f g = omega (arith, ap length f, ap length g)

  by_closing : opening_of t ≡ neither → (c : Bracket) → closing_of t ≡ c → closed c pending ≡ Some next → open_behind (length pending + k) t ≡ length next + k
  by_closing f neither g h = rw (f, g) (ap (λ x. length x + k) (same_Some pending next h))
  by_closing f round g h = rw (f, g) (by_pending pending refl h) where
    by_pending : (p : List Bracket) → pending ≡ p → closed round p ≡ Some next → length pending + k - 1 ≡ length next + k
    by_pending [] i j = absurd (none-some next j)
    by_pending (round ∷ others) i j = shorter round others i (same_Some others next j)
    by_pending (square ∷ others) i j = absurd (none-some next j)
    by_pending (neither ∷ others) i j = absurd (none-some next j)
  by_closing f square g h = rw (f, g) (by_pending pending refl h) where
    by_pending : (p : List Bracket) → pending ≡ p → closed square p ≡ Some next → length pending + k - 1 ≡ length next + k
    by_pending [] i j = absurd (none-some next j)
    by_pending (round ∷ others) i j = absurd (none-some next j)
    by_pending (square ∷ others) i j = shorter square others i (same_Some others next j)
    by_pending (neither ∷ others) i j = absurd (none-some next j)

  by : (o : Bracket) → opening_of t ≡ o → open_behind (length pending + k) t ≡ length next + k
  by round f = rw f (longer round (same_Some (round ∷ pending) next (rw f at e)))
  by square f = rw f (longer square (same_Some (square ∷ pending) next (rw f at e)))
  by neither f = by_closing f (closing_of t) refl (rw f at e)
