-- Rows of terms, one after the other.
use Rattle.std.proofs.Common.{◌≡◌, ◌+◌, ◌++◌, refl, sym, ◌∙◌, ap, arith, append_assoc}
use Rattle.si_defs.specs.Terms as terms
use Rattle.si_flat.specs.Cells.{Variable, Term, Terms, cells_of, cells_of_all, AreSound, join}

pub join-more : (ts us : Terms) (t : Term) → join (join ts (terms.more t terms.none)) us ≡ join ts (terms.more t us)
join-more terms.none us t = refl
join-more (terms.more u ts) us t = ap (terms.more u) (join-more ts us t)

pub join-none : (ts : Terms) → join ts terms.none ≡ ts
join-none terms.none = refl
join-none (terms.more t ts) = ap (terms.more t) (join-none ts)

pub cells-join : (ts us : Terms) → cells_of_all (join ts us) ≡ cells_of_all ts ++ cells_of_all us
cells-join terms.none us = refl
cells-join (terms.more t ts) us = ap (λ l. cells_of t ++ l) (cells-join ts us) ∙ sym (append_assoc (cells_of t) (cells_of_all ts) (cells_of_all us))

pub sound-join : (ts us : Terms) → AreSound ts → AreSound us → AreSound (join ts us)
sound-join terms.none us h k = k
sound-join (terms.more t ts) us h k = (h.0, sound-join ts us h.1 k)

pub count-join : (ts us : Terms) → terms.count (join ts us) ≡ terms.count ts + terms.count us
count-join terms.none us = omega arith
count-join (terms.more t ts) us = omega (arith, count-join ts us)

pub sizes-join : (ts us : Terms) → terms.sizes (join ts us) ≡ terms.sizes ts + terms.sizes us
sizes-join terms.none us = omega arith
sizes-join (terms.more t ts) us = omega (arith, sizes-join ts us)

pub substitute-join : (f : Variable → Term) (ts us : Terms) → terms.substitute_all f (join ts us) ≡ join (terms.substitute_all f ts) (terms.substitute_all f us)
substitute-join f terms.none us = refl
substitute-join f (terms.more t ts) us = ap (terms.more (terms.substitute f t)) (substitute-join f ts us)

pub count-substitute : (f : Variable → Term) (ts : Terms) → terms.count (terms.substitute_all f ts) ≡ terms.count ts
count-substitute f terms.none = refl
count-substitute f (terms.more t ts) = omega (arith, count-substitute f ts)

pub record SameHalves (a b c d : Terms) : Type 0 where
  pub front : a ≡ c
  pub back : b ≡ d

pub join_injective : (a b c d : Terms) → terms.count a ≡ terms.count c → join a b ≡ join c d → SameHalves a b c d
join_injective terms.none b terms.none d n e = record { front = refl; back = e }
join_injective terms.none b (terms.more c cs) d n e = absurd (omega (arith, n))
join_injective (terms.more a as') b terms.none d n e = absurd (omega (arith, n))
join_injective (terms.more a as') b (terms.more c cs) d n e =
    let first : a ≡ c = cc in
    let others : join as' b ≡ join cs d = cc in
    let h = join_injective as' b cs d (omega (arith, n)) others in
    record { front = ap (λ x. terms.more x as') first ∙ ap (terms.more c) h.front; back = h.back }
