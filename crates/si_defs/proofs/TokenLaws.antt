-- Tokens at the front of a text.
use Rattle.std.proofs.Common.{◌≡◌, ℕ, true, List, [], ◌∷◌, ◌++◌, refl, sym, subst, arith}
use Rattle.std.specs.List.{list_all}
use Rattle.std.proofs.lemmas.Bool.{and_parts}
use Rattle.std.proofs.lemmas.Bool.Decides.{nat_tests}
use Rattle.si_defs.specs.Bytes.{Bytes, is_digit, is_between, is_decimal}
use Rattle.si_defs.specs.Tokens.{Token, Begins, Skips}

pub skips_nothing : (bytes : Bytes) → Skips bytes bytes
skips_nothing bytes = record { blanks = []; each = tt; whole = refl }

-- one list and then another
pub begins_append : (ts us : List Token) (bytes middle rest : Bytes) → Begins bytes ts middle → Begins middle us rest → Begins bytes (ts ++ us) rest
begins_append [] us bytes middle rest a b = subst (λ x. Begins x us rest) (sym a) b
begins_append (t ∷ ts) us bytes middle rest a b = (a.0, a.1, begins_append ts us a.0 middle rest a.2 b)

-- the bytes after some tokens and before others
pub begins_split : (ts us : List Token) (bytes rest : Bytes) → Begins bytes (ts ++ us) rest → (middle : Bytes) × Begins bytes ts middle × Begins middle us rest
begins_split [] us bytes rest b = (bytes, refl, b)
begins_split (t ∷ ts) us bytes rest b = let s = begins_split ts us b.0 rest b.2 in (s.0, (b.0, b.1, s.1), s.2)

-- a decimal begins with a digit
pub decimal_digit : (c : ℕ) (o : Bytes) → is_decimal (c ∷ o) ≡ true → is_digit c ≡ true
decimal_digit c [] h = h
decimal_digit c (d ∷ o) h =
    let k = and_parts (is_between 49 57 c) (list_all is_digit (d ∷ o)) h in
    grind (arith, nat_tests)
