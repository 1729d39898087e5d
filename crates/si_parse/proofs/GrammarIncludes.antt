-- Includes: what the reader of them gives.
use Rattle.std.proofs.Common.{◌≡◌, List, [], ◌∷◌, ◌++◌, Option, Some, None, refl, sym, ap, ◌∙◌, subst, append_assoc, arith}
use Rattle.std.specs.Prelude.{codes}
use Rattle.si_defs.specs.Bytes.{Bytes}
use Rattle.si_defs.specs.Clauses.{Name}
use Rattle.si_defs.specs.Tokens.{Token, mark, lower}
use Rattle.si_defs.specs.Grammar.{AreMoreNames, Selection, IsSelection, left_bracket, right_bracket, comma, full_stop}
use Rattle.si_defs.specs.Grammar as selected
use Rattle.si_defs.specs.declared.TokenKind.TheVariants as token
use Rattle.si_defs.proofs.ListLaws.{same_first, same_tail}
use Rattle.si_parse.specs.Parsing.{ReadsTokens, Anything, NoName}
use Rattle.si_parse.specs.GrammarRules.{AreMore, IsMark, IsOpening, IsNameToken, AreNames, AreChosen, IsFileToken, AreLast, IsInclude}
use Rattle.si_parse.proofs.ParseSteps.{parses_none, parses_some, parses_uses, parses_one, parses_never, front_tails}
use Rattle.si_parse.proofs.ParseSequences.{Then, then_none, then_stop, renamed_some, renamed_none}
use Rattle.si_parse.proofs.GrammarTerms.{marks_apart}

-- ---- names in brackets
more_names : (ns : List Name) (ts : List Token) → AreMoreNames ns ts → AreMore IsNameToken comma ns ts
more_names [] ts h = h
more_names (n ∷ ns) ts (t, others, is, all, e) = (t ∷ [], others, (t, is, refl), more_names ns others all, e)

names_more : (ns : List Name) (ts : List Token) → AreMore IsNameToken comma ns ts → AreMoreNames ns ts
names_more [] ts h = h
names_more (n ∷ ns) ts (first, others, (t, is, one), all, e) = (t, others, is, names_more ns others all, e ∙ ap (λ x. comma ∷ x ++ others) one)

-- a closing bracket stands after the last name
bracket_ends : (rest : List Token) → NoName (mark 93 ∷ rest)
bracket_ends rest = (marks_apart 93 44 (λ e. absurd (omega (arith, e))), tt)

-- names in square brackets, by what stands after the opening one
module _ (rest : List Token) where
  chosen_inside : (used inner after : List Token) → mark 91 ∷ rest ≡ used ++ after → used ≡ mark 91 ∷ inner ++ mark 93 ∷ [] → rest ≡ inner ++ mark 93 ∷ after
  chosen_inside used inner after e f = front_tails after e f ∙ append_assoc inner (mark 93 ∷ []) after

  pub chosen_none : ReadsTokens AreNames NoName rest None → ReadsTokens AreChosen Anything (mark 91 ∷ rest) None
  chosen_none p = parses_none never where
    never : (ns : List Name) (used after : List Token) → mark 91 ∷ rest ≡ used ++ after → AreChosen ns used → Anything after → ⊥
    never ns used after e (inner, all, f) any = parses_never p ns inner (mark 93 ∷ after) (chosen_inside used inner after e f) all (bracket_ends after)

  pub chosen_stop : {ns : List Name} {behind : List Token} → ReadsTokens AreNames NoName rest (Some (ns, behind)) → ((after : List Token) → behind ≡ mark 93 ∷ after → ⊥) → ReadsTokens AreChosen Anything (mark 91 ∷ rest) None
  chosen_stop p none = parses_none never where
    never : (ms : List Name) (used after : List Token) → mark 91 ∷ rest ≡ used ++ after → AreChosen ms used → Anything after → ⊥
    never ms used after e (inner, all, f) any = none after (parses_one p ms inner (mark 93 ∷ after) (chosen_inside used inner after e f) all (bracket_ends after)).1

  pub chosen_some : {ns : List Name} {behind : List Token} → ReadsTokens AreNames NoName rest (Some (ns, mark 93 ∷ behind)) → ReadsTokens AreChosen Anything (mark 91 ∷ rest) (Some (ns, behind))
  chosen_some {ns = ns} {behind = behind} p =
      let h = parses_uses ns (mark 93 ∷ behind) p in
      parses_some ns (mark 91 ∷ h.0 ++ mark 93 ∷ []) behind (ap (λ x. mark 91 ∷ x) (h.1 ∙ sym (append_assoc h.0 (mark 93 ∷ []) behind))) (h.0, h.2, refl) unique where
        unique : (ms : List Name) (used after : List Token) → mark 91 ∷ rest ≡ used ++ after → AreChosen ms used → Anything after → (ns ≡ ms) × (behind ≡ after)
        unique ms used after e (inner, all, f) any =
            let same = parses_one p ms inner (mark 93 ∷ after) (chosen_inside used inner after e f) all (bracket_ends after) in (same.0, same_tail same.1)

-- without an opening bracket there are none
pub chosen_bare : {tokens : List Token} → ((rest : List Token) → tokens ≡ mark 91 ∷ rest → ⊥) → ReadsTokens AreChosen Anything tokens None
chosen_bare {tokens = tokens} none = parses_none never where
  never : (ns : List Name) (used after : List Token) → tokens ≡ used ++ after → AreChosen ns used → Anything after → ⊥
  never ns used after e (inner, all, f) any = none _ (e ∙ ap (λ x. x ++ after) f)

-- ---- selections
-- names after a comma
only_of : (ns : List Name) (used : List Token) → AreChosen ns used → IsSelection (selected.only ns) (comma ∷ used)
only_of [] used (inner, all, e) = all
only_of (n ∷ ns) used (inner, (first, others, (t, is, one), all, f), e) =
    (t, others, is, names_more ns others all, ap (λ x. comma ∷ x) e ∙ ap (λ x. comma ∷ mark 91 ∷ x ++ mark 93 ∷ []) (f ∙ ap (λ x. x ++ others) one))

chosen_of : (ns : List Name) (used : List Token) → IsSelection (selected.only ns) used → (inner : List Token) × AreChosen ns inner × (used ≡ comma ∷ inner)
chosen_of [] used h = absurd h
chosen_of (n ∷ ns) used (t, others, is, all, e) =
    (mark 91 ∷ t ∷ others ++ mark 93 ∷ [], (t ∷ others, (t ∷ [], others, (t, is, refl), more_names ns others all, refl), refl), e)

-- a comma follows where one stands
comma_follows : (rest xs : List Token) → NoName xs → xs ≡ comma ∷ rest → ⊥
comma_follows rest [] h e = cc
comma_follows rest (x ∷ xs) h e = h.0 (same_first e)

-- without a comma all are selected
pub selection_all : (tokens : List Token) → ((rest : List Token) → tokens ≡ comma ∷ rest → ⊥) → ReadsTokens IsSelection NoName tokens (Some (selected.all, tokens))
selection_all tokens none = parses_some selected.all [] tokens refl refl unique where
  unique : (s : Selection) (used after : List Token) → tokens ≡ used ++ after → IsSelection s used → NoName after → (selected.all ≡ s) × (tokens ≡ after)
  unique selected.all used after e h follows = (refl, e ∙ ap (λ x. x ++ after) h)
  unique (selected.only ns) used after e h follows = let k = chosen_of ns used h in absurd (none _ (e ∙ ap (λ x. x ++ after) k.2))

-- names after a comma
module _ (rest : List Token) where
  pub selection_none : ReadsTokens AreChosen Anything rest None → ReadsTokens IsSelection NoName (comma ∷ rest) None
  selection_none p = parses_none never where
    never : (s : Selection) (used after : List Token) → comma ∷ rest ≡ used ++ after → IsSelection s used → NoName after → ⊥
    never selected.all used after e h follows = comma_follows rest after follows (sym (e ∙ ap (λ x. x ++ after) h))
    never (selected.only ns) used after e h follows = let k = chosen_of ns used h in parses_never p ns k.0 after (front_tails after e k.2) k.1 tt

  pub selection_only : {ns : List Name} {behind : List Token} → ReadsTokens AreChosen Anything rest (Some (ns, behind)) → ReadsTokens IsSelection NoName (comma ∷ rest) (Some (selected.only ns, behind))
  selection_only {ns = ns} {behind = behind} p =
      let h = parses_uses ns behind p in
      parses_some (selected.only ns) (comma ∷ h.0) behind (ap (λ x. comma ∷ x) h.1) (only_of ns h.0 h.2) unique where
        unique : (s : Selection) (used after : List Token) → comma ∷ rest ≡ used ++ after → IsSelection s used → NoName after → (selected.only ns ≡ s) × (behind ≡ after)
        unique selected.all used after e h follows = absurd (comma_follows rest after follows (sym (e ∙ ap (λ x. x ++ after) h)))
        unique (selected.only ms) used after e h follows =
            let k = chosen_of ms used h in
            let same = parses_one p ms k.0 after (front_tails after e k.2) k.1 tt in
            (ap selected.only same.0, same.1)

-- ---- includes
-- the names and the end
abbrev pub Tail : Selection × Unit {0} → List Token → Type 0
Tail = Then IsSelection (λ (u : Unit {0}) used. AreLast used)

-- the file and what stands after it
abbrev pub FromFile : Bytes × (Selection × Unit {0}) → List Token → Type 0
FromFile = Then IsFileToken Tail

-- the parts of an include: what opens it, its file, its names, and what ends it
abbrev pub Parts : Type 0
Parts = Unit {0} × (Bytes × (Selection × Unit {0}))

abbrev pub Whole : Parts → List Token → Type 0
Whole = Then (λ (u : Unit {0}) used. IsOpening (codes "include") used) FromFile

abbrev pub include_from : Parts → Bytes × Selection
include_from p = (p.1.0, p.1.1.0)

to_include : (p : Parts) (ts : List Token) → Whole p ts → IsInclude (include_from p) ts
to_include p ts (o, r, opening, (f, s, file, (n, l, selection, last, i), j), e) = (
  n,
  selection,
  e ∙ ap (λ x. x ++ r) opening ∙ ap (λ x. lower (codes "include") ∷ left_bracket ∷ x)
      (j ∙ ap (λ x. x ++ s) file ∙ ap (λ x. record { kind = token.Single; text = p.1.0 } ∷ x) (i ∙ ap (λ x. n ++ x) last)),
)

from_include : {tokens : List Token} (i : Bytes × Selection) (used rest : List Token) → tokens ≡ used ++ rest → IsInclude i used → Anything rest → (p : Parts) × (include_from p ≡ i) × Whole p used
from_include i used rest e (names, selection, f) follows = (
  (tt, (i.0, (i.1, tt))),
  refl,
  (
    lower (codes "include") ∷ left_bracket ∷ [],
    record { kind = token.Single; text = i.0 } ∷ names ++ right_bracket ∷ full_stop ∷ [],
    refl,
    (record { kind = token.Single; text = i.0 } ∷ [], names ++ right_bracket ∷ full_stop ∷ [], refl, (names, right_bracket ∷ full_stop ∷ [], selection, refl, refl), refl),
    f,
  ),
)

pub include_some : {tokens rest : List Token} {p : Parts} → ReadsTokens Whole Anything tokens (Some (p, rest)) → ReadsTokens IsInclude Anything tokens (Some (include_from p, rest))
include_some {tokens = tokens} q = renamed_some include_from to_include (from_include {tokens = tokens}) q

pub include_none : {tokens : List Token} → ReadsTokens Whole Anything tokens None → ReadsTokens IsInclude Anything tokens None
include_none {tokens = tokens} q = renamed_none include_from to_include (from_include {tokens = tokens}) q

-- no name goes on where an include ends
pub last_follows : (u : Unit {0}) (used rest : List Token) → AreLast used → Anything rest → NoName (used ++ rest)
last_follows u used rest e follows = subst NoName (ap (λ x. x ++ rest) (sym e)) (marks_apart 41 44 (λ f. absurd (omega (arith, f))), tt)

-- without a closing bracket it does not end
pub last_none : {tokens : List Token} → ((rest : List Token) → tokens ≡ right_bracket ∷ rest → ⊥) → ReadsTokens (λ (u : Unit {0}) used. AreLast used) Anything tokens None
last_none none = parses_none (λ u used behind e means follows. none (full_stop ∷ behind) (e ∙ ap (λ x. x ++ behind) means))

-- after one the full stop is left to read
pub last_behind : {tokens rest : List Token} {result : Option (Unit {0} × List Token)} → tokens ≡ right_bracket ∷ rest → ReadsTokens (λ (u : Unit {0}) used. IsMark 46 used) Anything rest result
    → ReadsTokens (λ (u : Unit {0}) used. AreLast used) Anything tokens result
last_behind {tokens = tokens} {rest = rest} {result = result} begins p = record {
  found = λ u behind e. let h = p.found u behind e in (right_bracket ∷ h.0, begins ∙ ap (λ x. right_bracket ∷ x) h.1, ap (λ x. right_bracket ∷ x) h.2);
  every = λ u used behind e means follows. p.every u (full_stop ∷ []) behind (front_tails behind (sym begins ∙ e) means) refl tt;
}

-- the parts of an include, where one is missing
pub opening_first : {tokens : List Token} → ReadsTokens (λ (u : Unit {0}) used. IsOpening (codes "include") used) Anything tokens None → ReadsTokens Whole Anything tokens None
opening_first p = then_none {F = Anything} (λ n used rest b g. tt) p

pub opening_then : {tokens left : List Token} → ReadsTokens (λ (u : Unit {0}) used. IsOpening (codes "include") used) Anything tokens (Some (tt {0}, left)) → ReadsTokens FromFile Anything left None → ReadsTokens Whole Anything tokens None
opening_then p q = then_stop {F = Anything} (λ n used rest b g. tt) p q

pub file_first : {tokens : List Token} → ReadsTokens IsFileToken Anything tokens None → ReadsTokens FromFile Anything tokens None
file_first p = then_none {F = Anything} (λ n used rest b g. tt) p

pub file_then : {tokens left : List Token} {file : Bytes} → ReadsTokens IsFileToken Anything tokens (Some (file, left)) → ReadsTokens Tail Anything left None → ReadsTokens FromFile Anything tokens None
file_then p q = then_stop {F = Anything} (λ n used rest b g. tt) p q

pub selection_first : {tokens : List Token} → ReadsTokens IsSelection NoName tokens None → ReadsTokens Tail Anything tokens None
selection_first p = then_none {F = NoName} last_follows p

pub selection_then : {tokens left : List Token} {s : Selection} → ReadsTokens IsSelection NoName tokens (Some (s, left)) → ReadsTokens (λ (u : Unit {0}) used. AreLast used) Anything left None → ReadsTokens Tail Anything tokens None
selection_then p q = then_stop {F = NoName} last_follows p q
