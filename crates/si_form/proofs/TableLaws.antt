-- Numbers of a table, and of a query after them.
use Rattle.std.proofs.Common.{◌≡◌, ℕ, ◌*◌, Bool, true, false, cond, [], ◌∷◌, ◌++◌, inl, inr, refl, sym, ◌∙◌, ap, subst, arith}
use Rattle.si_defs.specs.Terms.{symbols}
use Rattle.si_defs.specs.Symbols.{Symbol, Numbering, IsNumbering, same_symbol}
use Rattle.si_defs.specs.Substitutions.{IsAmong}
use Rattle.si_flat.specs.Numbered.{number_in, one_above, signed}
use Rattle.si_form.specs.TableNumbers.{AreQueryNumbers, NumbersTellApart, EntriesNeedTheTableAlone}
use Rattle.si_defs.proofs.SymbolLaws.{symbol_is, symbol_self}
use Rattle.si_defs.proofs.ListLaws.{all_from, among_parts}
use Rattle.si_form.proofs.SolutionLaws.{numbered_same}

number_among : (pairs : Numbering) (s : Symbol) (n : ℕ) → IsAmong pairs (s, n) → IsAmong pairs (s, number_in pairs s)
number_among [] s n a = elim a [ ]
number_among (pair ∷ pairs) s n a = by (same_symbol pair.0 s) refl (number_among pairs s n)
  where
    by : (b : Bool) → same_symbol pair.0 s ≡ b → (IsAmong pairs (s, n) → IsAmong pairs (s, number_in pairs s)) → IsAmong (pair ∷ pairs) (s, cond b pair.1 (number_in pairs s))
    by true e rest = inl (ap (λ r. (r, pair.1)) (symbol_is pair.0 s e))
    by false e rest =
        elim a [
          | inl same ↦ (let bad : true ≡ false = sym (symbol_self s) ∙ ap (λ z. same_symbol z.0 s) (sym same) ∙ e in cc)
          | inr b ↦ inr (rest b)
        ]

number_in_front : (pairs extra : Numbering) (s : Symbol) (n : ℕ) → IsAmong pairs (s, n) → number_in pairs s ≡ number_in (pairs ++ extra) s
number_in_front [] extra s n a = elim a [ ]
number_in_front (pair ∷ pairs) extra s n a = by (same_symbol pair.0 s) refl (number_in_front pairs extra s n)
  where
    by : (b : Bool) → same_symbol pair.0 s ≡ b → (IsAmong pairs (s, n) → number_in pairs s ≡ number_in (pairs ++ extra) s) → cond b pair.1 (number_in pairs s) ≡ cond b pair.1 (number_in (pairs ++ extra) s)
    by true e rest = refl
    by false e rest =
        elim a [
          | inl same ↦ (let bad : true ≡ false = sym (symbol_self s) ∙ ap (λ z. same_symbol z.0 s) (sym same) ∙ e in cc)
          | inr b ↦ rest b
        ]

module _ (pairs extra : Numbering) (numbering : IsNumbering pairs) (behind : AreQueryNumbers extra) where
  one_of_all : (s r : Symbol) (n : ℕ) → IsAmong (pairs ++ extra) (s, n) → IsAmong (pairs ++ extra) (r, n) → s ≡ r
  one_of_all s r n a b =
      elim (among_parts pairs extra (s, n) a) [
        | inl c ↦
            elim (among_parts pairs extra (r, n) b) [
              | inl d ↦ numbering.one_symbol s r n c d
              | inr d ↦ absurd (omega (arith, numbering.small s n c, behind.large r n d))
            ]
        | inr c ↦
            elim (among_parts pairs extra (r, n) b) [
              | inl d ↦ absurd (omega (arith, numbering.small r n d, behind.large s n c))
              | inr d ↦ behind.one_symbol s r n c d
            ]
      ]

  even_of_all : (s : Symbol) (n : ℕ) → IsAmong (pairs ++ extra) (s, n) → (half : ℕ) × (n ≡ 2 * half)
  even_of_all s n a =
      elim (among_parts pairs extra (s, n) a) [
        | inl c ↦ numbering.even s n c
        | inr c ↦ behind.even s n c
      ]

pub numbers_tell_apart : NumbersTellApart
numbers_tell_apart pairs extra known numbering behind have =
    let all = pairs ++ extra in
    let at : (s : Symbol) → IsAmong known s → IsAmong all (s, number_in all s) = λ s a. let r = have s a in number_among all s r.0 r.1 in
    record {
      one_symbol = λ s r a b e. one_of_all pairs extra numbering behind s r (number_in all s) (at s a) (subst (λ n. IsAmong all (r, n)) (sym e) (at r b));
      even = λ s a. even_of_all pairs extra numbering behind s (number_in all s) (at s a);
    }

signed_same : (m n : Symbol → ℕ) (positive : Bool) (s : Symbol) → m s ≡ n s → signed positive m s ≡ signed positive n s
signed_same m n true s h = h
signed_same m n false s h = ap (one_above s.side) h

pub entries_need_the_table_alone : EntriesNeedTheTableAlone
entries_need_the_table_alone pairs extra positive ys u have =
    let m = signed positive (number_in pairs) in
    let n = signed positive (number_in (pairs ++ extra)) in
    numbered_same m n _ u
    (
    all_from (λ s. m s ≡ n s) (symbols u)
    (λ s a. let r = have s a in signed_same (number_in pairs) (number_in (pairs ++ extra)) positive s (number_in_front pairs extra s r.0 r.1))
    )
