-- The signature of a list of clauses tells what the list tells.
use Rattle.std.proofs.Common.{◌≡◌, ◌⊎◌, inl, inr, suc, ◌+◌, ◌≤◌, List, [], ◌∷◌, ◌++◌, length, refl, sym, ap, ◌∙◌, subst, arith, append_assoc, append-nil}
use Rattle.si_defs.specs.Symbols.{Symbol, times}
use Rattle.si_defs.specs.Clauses.{Clause}
use Rattle.si_defs.specs.Entries.{clause_symbols, state_symbols}
use Rattle.si_defs.specs.Substitutions.{IsAmong, AreDistinct}
use Rattle.si_defs.proofs.ListLaws.{among_front, among_back, among_parts}
use Rattle.si_state.specs.Acceptance.{AllAgree}
use Rattle.si_state.specs.Signatures.{Signature, IsSignature, IsSignatureOf, CountsSymbols, keys, known_symbols, uses_of}
use Rattle.si_sign.specs.Shapes.{NamesFirstClash}
use Rattle.si_sign.specs.declared.faults.Clash.{Clash}
use Rattle.si_sign.proofs.UsesOf.{among_keys, symbols_among, times_append, times_among, among_times}
use Rattle.si_sign.proofs.TakeLaws.{symbols_used, used_symbols, agree_within}

-- ---- one clause more or less
pub state_append : (cs ds : List Clause) → state_symbols (cs ++ ds) ≡ state_symbols cs ++ state_symbols ds
state_append [] ds = refl
state_append (c ∷ cs) ds = ap (λ l. clause_symbols c ++ l) (state_append cs ds) ∙ sym (append_assoc (clause_symbols c) (state_symbols cs) (state_symbols ds))

times_state : (s : Symbol) (cs ds : List Clause) → times s (state_symbols (cs ++ ds)) ≡ times s (state_symbols cs) + times s (state_symbols ds)
times_state s cs ds = ap (times s) (state_append cs ds) ∙ times_append s (state_symbols cs) (state_symbols ds)

pub signature_of_none : IsSignatureOf [] []
signature_of_none s = refl

-- after `take`
pub signature_added : (state : List Clause) (c : Clause) (known new : Signature) → IsSignatureOf state known
    → ((s : Symbol) → uses_of new s ≡ uses_of known s + times s (clause_symbols c)) → IsSignatureOf (state ++ c ∷ []) new
signature_added state c known new of uses s =
    omega (arith, uses s, of s, times_state s state (c ∷ []), times_append s (clause_symbols c) [], ap (times s) (append-nil (clause_symbols c)))

-- before `give_back`
pub used_in_state : (before after : List Clause) (c : Clause) (known : Signature) → IsSignatureOf (before ++ c ∷ after) known → (s : Symbol) → times s (clause_symbols c) ≤ uses_of known s
used_in_state before after c known of s =
    omega (arith, of s, times_state s before (c ∷ after), times_append s (clause_symbols c) (state_symbols after))

-- after `give_back`
pub signature_removed : (before after : List Clause) (c : Clause) (known new : Signature) → IsSignatureOf (before ++ c ∷ after) known
    → ((s : Symbol) → uses_of new s + times s (clause_symbols c) ≡ uses_of known s) → IsSignatureOf (before ++ after) new
signature_removed before after c known new of uses s =
    omega (arith, uses s, of s, times_state s before (c ∷ after), times_state s before after, times_append s (clause_symbols c) (state_symbols after))

-- ---- which symbols occur
module _ (state : List Clause) (known : Signature) (is : IsSignature known) (of : IsSignatureOf state known) where
  pub in_state : (s : Symbol) → IsAmong (known_symbols known) s → IsAmong (state_symbols state) s
  in_state s h = among_times s (state_symbols state) (omega (arith, of s, symbols_used known is s h))

  pub in_signature : (s : Symbol) → IsAmong (state_symbols state) s → IsAmong (known_symbols known) s
  in_signature s h = used_symbols known s (omega (arith, of s, times_among s (state_symbols state) h))

  pub agrees_in_state : (own : List Symbol) → AllAgree (known_symbols known) own → AllAgree (state_symbols state) own
  agrees_in_state own a = agree_within (known_symbols known) (state_symbols state) own in_signature a

  pub clashes_in_state : (own : List Symbol) (c : Clash) → NamesFirstClash (known_symbols known) own c → NamesFirstClash (state_symbols state) own c
  clashes_in_state own c (found, kept, first, shapes) = (
    found,
    kept,
    record {
      before = first.before;
      after = first.after;
      splits = first.splits;
      position = first.position;
      earlier = agrees_in_state first.before first.earlier;
      against = by (among_parts (known_symbols known) first.before kept first.against);
      clashes = first.clashes;
    },
    shapes,
  ) where
    by : IsAmong (known_symbols known) kept ⊎ IsAmong first.before kept → IsAmong (state_symbols state ++ first.before) kept
    by (inl h) = among_front (state_symbols state) first.before kept (in_state kept h)
    by (inr h) = among_back (state_symbols state) first.before kept h

  -- as many symbols as `len` tells
  pub counts_symbols : CountsSymbols state (length known)
  counts_symbols = (known_symbols known, distinct_symbols known is.one_shape, (λ s. (in_state s, in_signature s)), lengths known) where
    lengths : (us : Signature) → length us ≡ length (known_symbols us)
    lengths [] = refl
    lengths (u ∷ us) = ap suc (lengths us)

    distinct_symbols : (us : Signature) → AreDistinct (keys us) → AreDistinct (known_symbols us)
    distinct_symbols [] d = tt
    distinct_symbols (u ∷ us) d = (
      λ h.
          let m = symbols_among us u.symbol h in
          d.0 (subst (IsAmong (keys us)) (ap (λ (s : Symbol). (s.kind, s.text)) m.is) (among_keys us m.used m.among)),
      distinct_symbols us d.1,
    )
