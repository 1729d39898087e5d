-- Bytes begin with one item at most, and with none where only blanks stand.
use Rattle.std.proofs.Common.{◌≡◌, ◌⊎◌, inl, inr, List, [], ◌∷◌, ◌++◌, length, refl, sym, ap, ◌∙◌, subst, append-nil, arith}
use Rattle.std.specs.Prelude.{codes}
use Rattle.std.proofs.lemmas.List.{append_cancel_right}
use Rattle.si_defs.specs.Bytes.{Bytes}
use Rattle.si_defs.specs.Clauses.{Name, Clause}
use Rattle.si_defs.specs.Tokens.{Token, mark, Begins}
use Rattle.si_defs.specs.Grammar.{AreMoreNames, Selection, all, only, IsSelection, Item, clause_item, include_item, IsItem, comma, right_bracket, full_stop}
use Rattle.si_defs.specs.Texts.{BeginsWithItem}
use Rattle.si_defs.proofs.ListLaws.{same_first, same_tail}
use Rattle.si_lex.specs.FullStops.{EndsAtFullStop}
use Rattle.si_lex.proofs.TokenLaws.{begins_prefix, begins_unique}
use Rattle.si_parse.proofs.GrammarStops.{item_stops, ends_all}
use Rattle.si_laws.proofs.GrammarLaws.{name_one, clause_one}

-- ---- selections
more_names_one : (ns ms : List Name) (ts us : List Token) → ts ≡ us → AreMoreNames ns ts → AreMoreNames ms us → ns ≡ ms
more_names_one [] [] ts us e f g = refl
more_names_one [] (m ∷ ms) ts us e f (u, rest, is, every, g) = let none : [] ≡ comma ∷ u ∷ rest = sym f ∙ e ∙ g in cc
more_names_one (n ∷ ns) [] ts us e (t, others, is, each, f) g = let none : comma ∷ t ∷ others ≡ [] = sym f ∙ e ∙ g in cc
more_names_one (n ∷ ns) (m ∷ ms) ts us e (t, others, is, each, f) (u, rest, is_too, every, g) =
    let w = same_tail (sym f ∙ e ∙ g) in
    let same = name_one n m t u (same_first w) is is_too in
    let after = more_names_one ns ms others rest (same_tail w) each every in
    λ i. same i ∷ after i

selection_one : (s r : Selection) (ts us : List Token) → ts ≡ us → IsSelection s ts → IsSelection r us → s ≡ r
selection_one all all ts us e f g = refl
selection_one all (only []) ts us e f g = absurd g
selection_one all (only (m ∷ ms)) ts us e f (u, rest, is, every, g) =
    let none : [] ≡ comma ∷ mark 91 ∷ u ∷ rest ++ mark 93 ∷ [] = sym f ∙ e ∙ g in cc
selection_one (only []) r ts us e f g = absurd f
selection_one (only (n ∷ ns)) all ts us e (t, others, is, each, f) g =
    let none : comma ∷ mark 91 ∷ t ∷ others ++ mark 93 ∷ [] ≡ [] = sym f ∙ e ∙ g in cc
selection_one (only (n ∷ ns)) (only []) ts us e f g = absurd g
selection_one (only (n ∷ ns)) (only (m ∷ ms)) ts us e (t, others, is, each, f) (u, rest, is_too, every, g) =
    let w = same_tail (same_tail (sym f ∙ e ∙ g)) in
    let same = name_one n m t u (same_first w) is is_too in
    let after = more_names_one ns ms others rest (append_cancel_right others rest (mark 93 ∷ []) (same_tail w)) each every in
    λ i. only (same i ∷ after i)

-- ---- items
clause_no_include : (c : Clause) (file : Bytes) (s : Selection) (ts us : List Token) → ts ≡ us → IsItem (clause_item c) ts → IsItem (include_item file s) us → ⊥
clause_no_include c file s ts us e (name, formula, extra, is_name, is_formula, is_extra, f) (names, selection, g) =
    let texts : codes "cnf" ≡ codes "include" = ap (λ (t : Token). t.text) (same_first (sym f ∙ e ∙ g)) in
    absurd (omega (arith, ap length texts))

item_one : (one other : Item) (ts us : List Token) → ts ≡ us → IsItem one ts → IsItem other us → one ≡ other
item_one (clause_item c) (clause_item d) ts us e h k = ap clause_item (clause_one c d ts us e h k)
item_one (clause_item c) (include_item file s) ts us e h k = absurd (clause_no_include c file s ts us e h k)
item_one (include_item file s) (clause_item c) ts us e h k = absurd (clause_no_include c file s us ts (sym e) k h)
item_one (include_item file s) (include_item name r) ts us e (names, selection, f) (others, selection_too, g) =
    let w = same_tail (same_tail (sym f ∙ e ∙ g)) in
    let same : file ≡ name = ap (λ (t : Token). t.text) (same_first w) in
    let selects = selection_one s r names others (append_cancel_right names others (right_bracket ∷ full_stop ∷ []) (same_tail w)) selection selection_too in
    λ i. include_item (same i) (selects i)

-- ---- bytes
same_tokens : (ts us : List Token) → EndsAtFullStop 0 ts → EndsAtFullStop 0 us → ((more : List Token) × (ts ≡ us ++ more)) ⊎ ((more : List Token) × (us ≡ ts ++ more)) → ts ≡ us
same_tokens ts us h k (inl (more, e)) = e ∙ ap (λ x. us ++ x) (ends_all 0 us more k (subst (EndsAtFullStop 0) e h)) ∙ append-nil us
same_tokens ts us h k (inr (more, e)) = sym (e ∙ ap (λ x. ts ++ x) (ends_all 0 ts more h (subst (EndsAtFullStop 0) e k)) ∙ append-nil ts)

pub item_is : (c d : Clause) → clause_item c ≡ clause_item d → c ≡ d
item_is c d e = cc

pub one_item : (bytes : Bytes) (one other : Item) (r s : Bytes) → BeginsWithItem bytes one r → BeginsWithItem bytes other s → (one ≡ other) × (r ≡ s)
one_item bytes one other r s a b =
    let same =
    same_tokens a.tokens b.tokens (item_stops one a.tokens a.spelled) (item_stops other b.tokens b.spelled)
    (begins_prefix a.tokens b.tokens bytes r s a.begins b.begins) in (
      item_one one other a.tokens b.tokens same a.spelled b.spelled,
      begins_unique b.tokens bytes r s (subst (λ ts. Begins bytes ts r) same a.begins) b.begins,
    )
