-- Harvests of small files.
use Rattle.std.proofs.Common.{◌≡◌, ℕ, ◌<◌, false, ◌==◌, [], ◌∷◌, ◌++◌, codes, refl, sym, ap, inl, inr, arith, None, Some}
use Rattle.si_defs.specs.Bytes.{Bytes, is_white}
use Rattle.std.specs.Prelude.{IsTrue}
use Rattle.si_defs.specs.Tokens.{lower, white, NextToken}
use Rattle.si_defs.specs.Grammar.{all, only}
use Rattle.si_defs.specs.Texts.{IsForeign, languages}
use Rattle.si_defs.specs.Substitutions.{IsAmong}
use Rattle.si_defs.specs.declared.TokenKind.TheVariants.{Lower, Mark}
use Rattle.si_defs.specs.declared.NameKind.TheVariants.{Word}
use Rattle.si_state.specs.States.{limited_to}
use Rattle.si_state.specs.Acceptance.{Accepts, taken}
use Rattle.si_state.specs.Harvest.{Bounds, ask, attempt, cycle, too_deep, too_many, missing, too_big, failed, foreign, malformed, rejected, MayAsk, IsSelected, Harvests, barred, withheld, fetched, ended, stuck, passed_over, accepted, refused, expanded, broken_off}
use Rattle.si_lex.proofs.TokenLaws.{next_place}
use Rattle.si_examples.specs.Entries.{fact, predicate}
use Rattle.si_examples.specs.Harvests.{bounds, c, selecting, PlainFile, BigFile, MissingFile, NoMissingFile, FailedFile, TakenNameOfALoad, SelectedClause, OwnInclude, NoDepthOfOpenFile, DeepInclude, LateInclude, SecondLine, FirstWord}
use Rattle.si_examples.proofs.Differ.{first_byte, texts_differ}
use Rattle.si_examples.proofs.FirstWords.{word_differs}
use Rattle.si_examples.proofs.Pieces.{space, word, one_mark, stands_first, nothing, first as at_front, next}
use Rattle.si_examples.proofs.FirstItems.{clause_begins, include_begins, one_begins, clause_tokens, spelled_out, faulty}

-- the first file may be asked for
may_begin : (limits : Bounds) (file : Bytes) → 0 < limits.depth → 0 < limits.fetches → MayAsk limits [] 0 file
may_begin limits file d f = record { fresh = λ h. h; shallow = d; few = f }

-- the first clause is accepted
first : Accepts (limited_to 2) [] c (c ∷ [])
first = record { free = λ h. h; agree = (tt, tt); room = omega arith; added = refl }

pub plain_file : PlainFile
plain_file =
    fetched [] [] 0 [] (codes "a") (codes "cnf(c,axiom,p).") (may_begin (bounds 15 1 1) (codes "a") (omega arith) (omega arith)) refl (omega arith) (attempt c ∷ []) None
    (accepted _ 1 [] c [] (clause_begins (codes "c") (codes "p") [] refl) tt first [] None (ended _ _ _ nothing))

pub big_file : BigFile
big_file = withheld [] [] 0 [] (codes "a") (too_big (codes "a")) (may_begin (bounds 14 1 1) (codes "a") (omega arith) (omega arith)) (refl, omega arith)

pub missing_file : MissingFile
missing_file = withheld [] [] 0 [] (codes "b") (missing (codes "b")) (may_begin (bounds 15 1 1) (codes "b") (omega arith) (omega arith)) (refl, refl)

pub no_missing_file : NoMissingFile
no_missing_file limits rules kept events (fetched opened around made state file bytes may found size inside fault rest) = let e : None ≡ Some bytes = found in cc

pub failed_file : FailedFile
failed_file = withheld [] [] 0 [] (codes "a") (failed (codes "a")) (may_begin (bounds 15 1 1) (codes "a") (omega arith) (omega arith)) refl

pub taken_name : TakenNameOfALoad
taken_name =
    fetched [] [] 0 (c ∷ []) (codes "a") (codes "cnf(c,axiom,p).") (may_begin (bounds 15 1 1) (codes "a") (omega arith) (omega arith)) refl (omega arith) (attempt c ∷ []) (Some (rejected c taken))
    (refused _ 1 (c ∷ []) c [] (clause_begins (codes "c") (codes "p") [] refl) tt taken (inl refl))

-- ---- includes
not_selected : IsSelected ((c.name ∷ []) ∷ []) (record { kind = Word; text = codes "d" }) → ⊥
not_selected (inl e, u) = texts_differ (codes "c") (codes "d") refl (ap (λ n. n.text) e)
not_selected (inr h, u) = h

inside : Harvests selecting (bounds 30 2 2) (limited_to 2) (codes "m" ∷ []) ((c.name ∷ []) ∷ []) 1 [] (codes "a") (ask (codes "a") ∷ attempt c ∷ []) None
inside =
    fetched (codes "m" ∷ []) ((c.name ∷ []) ∷ []) 1 [] (codes "a") (codes "cnf(c,axiom,p).cnf(d,axiom,q).")
    (record { fresh = elim [ inl e ↦ texts_differ (codes "m") (codes "a") refl e | inr h ↦ h ]; shallow = omega arith; few = omega arith })
    refl (omega arith) (attempt c ∷ []) None
    (accepted _ 2 [] c (codes "cnf(d,axiom,q).") (clause_begins (codes "c") (codes "p") (spelled_out (clause_tokens (codes "d") (codes "q")) []) refl)
    (inl refl, tt) first [] None
    (passed_over _ _ _ (fact (codes "d") (predicate (codes "q") [])) [] (clause_begins (codes "d") (codes "q") [] refl) not_selected [] None (ended _ _ _ nothing)))

pub selected_clause : SelectedClause
selected_clause =
    fetched [] [] 0 [] (codes "m") (codes "include('a',[c]).") (may_begin (bounds 30 2 2) (codes "m") (omega arith) (omega arith)) refl (omega arith) (ask (codes "a") ∷ attempt c ∷ []) None
    (expanded _ 1 [] (codes "a") (only (c.name ∷ [])) [] (one_begins (codes "a") (codes "c") [] refl)
    (ask (codes "a") ∷ attempt c ∷ []) [] (ask (codes "a") ∷ attempt c ∷ []) None inside (ended _ _ _ nothing) refl)

pub own_include : OwnInclude
own_include =
    fetched [] [] 0 [] (codes "a") (codes "include('a').") (may_begin (bounds 15 1 1) (codes "a") (omega arith) (omega arith)) refl (omega arith) (ask (codes "a") ∷ []) (Some (cycle (codes "a")))
    (broken_off _ 1 [] (codes "a") all [] (include_begins (codes "a") [] refl) (ask (codes "a") ∷ []) (cycle (codes "a"))
    (barred _ _ _ _ (codes "a") (cycle (codes "a")) (refl, inl refl)))

pub no_depth_of_open_file : NoDepthOfOpenFile
no_depth_of_open_file limits made opened h = h.1 (inl refl)

-- `b` is not open
b_is_closed : codes "a" ≡ codes "b" → ⊥
b_is_closed e = texts_differ (codes "a") (codes "b") refl e

pub deep_include : DeepInclude
deep_include =
    fetched [] [] 0 [] (codes "a") (codes "include('b').") (may_begin (bounds 15 1 1) (codes "a") (omega arith) (omega arith)) refl (omega arith) (ask (codes "b") ∷ []) (Some (too_deep (codes "b")))
    (broken_off _ 1 [] (codes "b") all [] (include_begins (codes "b") [] refl) (ask (codes "b") ∷ []) (too_deep (codes "b"))
    (barred _ _ _ _ (codes "b") (too_deep (codes "b")) (refl, elim [ inl e ↦ b_is_closed e | inr h ↦ h ], omega arith)))

pub late_include : LateInclude
late_include =
    fetched [] [] 0 [] (codes "a") (codes "include('b').") (may_begin (bounds 15 1 2) (codes "a") (omega arith) (omega arith)) refl (omega arith) (ask (codes "b") ∷ []) (Some too_many)
    (broken_off _ 1 [] (codes "b") all [] (include_begins (codes "b") [] refl) (ask (codes "b") ∷ []) too_many
    (barred _ _ _ _ (codes "b") too_many (elim [ inl e ↦ b_is_closed e | inr h ↦ h ], omega arith, omega arith)))

-- ---- faults
abbrev second : Bytes
second = codes "\nfof(d,axiom,q)."

-- the first token, after one blank
abbrev behind_blank : (blank : ℕ) (text rest : Bytes) → IsTrue (is_white blank) → IsTrue (stands_first Lower text rest) → NextToken (blank ∷ text ++ rest) (lower text) rest
behind_blank blank text rest w h = record {
  place = text ++ rest;
  skips = record { blanks = (blank ∷ []) ∷ []; each = (white blank refl w, tt); whole = refl };
  stands = at_front Lower text rest h;
}

abbrev foreign_next : NextToken second (lower (codes "fof")) (codes "(d,axiom,q).")
foreign_next = behind_blank 10 (codes "fof") (codes "(d,axiom,q).") refl refl

pub second_line : SecondLine
second_line =
    fetched [] [] 0 [] (codes "a") (codes "cnf(c,axiom,p).\nfof(d,axiom,q).") (may_begin (bounds 31 1 1) (codes "a") (omega arith) (omega arith)) refl (omega arith)
    (attempt c ∷ []) (Some (foreign (codes "a") 2))
    (accepted _ 1 [] c second (clause_begins (codes "c") (codes "p") (space 10 ∷ word (codes "fof") ∷ one_mark 40 ∷ word (codes "d") ∷ one_mark 44 ∷ word (codes "axiom") ∷ one_mark 44 ∷ word (codes "q") ∷ one_mark 41 ∷ one_mark 46 ∷ []) refl) tt first [] (Some (foreign (codes "a") 2))
    (stuck _ _ _ (foreign (codes "a") 2) (
      refl,
      faulty second (codes "fof") _ foreign_next refl refl,
      (codes "cnf(c,axiom,p).\n", codes "fof(d,axiom,q).", next_place second _ _ foreign_next, refl, refl),
      (
        codes "fof",
        codes "d,axiom,q).",
        inl refl,
        (codes "(d,axiom,q).", foreign_next, (codes "d,axiom,q).", next Mark (codes "(") (codes "d,axiom,q).") refl, refl)),
      ),
    )))

abbrev lone_next : NextToken (codes " p") (lower (codes "p")) []
lone_next = behind_blank 32 (codes "p") [] refl refl

-- no word of another language begins with `p`
no_language : (language : Bytes) → IsAmong languages language → first_byte language == 112 ≡ false
no_language language (inl e) = ap (λ t. first_byte t == 112) (sym e)
no_language language (inr (inl e)) = ap (λ t. first_byte t == 112) (sym e)
no_language language (inr (inr (inl e))) = ap (λ t. first_byte t == 112) (sym e)
no_language language (inr (inr (inr (inl e)))) = ap (λ t. first_byte t == 112) (sym e)
no_language language (inr (inr (inr (inr (inl e))))) = ap (λ t. first_byte t == 112) (sym e)
no_language language (inr (inr (inr (inr (inr h))))) = absurd h

not_foreign : IsForeign (codes " p") → ⊥
not_foreign f = word_differs (codes " p") f.0 (codes "p") f.3.0 _ f.3.1 lone_next (no_language f.0 f.2)

pub first_word : FirstWord
first_word =
    fetched [] [] 0 [] (codes "a") (codes " p") (may_begin (bounds 2 1 1) (codes "a") (omega arith) (omega arith)) refl (omega arith) [] (Some (malformed (codes "a") 1))
    (stuck _ _ _ (malformed (codes "a") 1)
    (refl, faulty (codes " p") (codes "p") _ lone_next refl refl, (codes " ", codes "p", next_place _ _ _ lone_next, refl, refl), not_foreign))
