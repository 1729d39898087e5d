use Rattle.std.proofs.Common.{[], ◌∷◌, codes, refl, inl}
use Rattle.si_defs.specs.Tokens.{upper, lower, mark}
use Rattle.si_defs.specs.Grammar.{left_bracket, right_bracket, comma, full_stop}
use Rattle.si_examples.specs.Grammar.{integer}
use Rattle.si_examples.proofs.Formulas.{item_opens, bracket_opens, sign_opens}
use Rattle.si_examples.proofs.EvenBrackets.{no_open_bracket}
use Rattle.si_examples.proofs.grammar.items.Goals as goal

-- the parts, from the clause down to the terms
pub returns-clause-first_clause : goal.returns-clause-first_clause
returns-clause-first_clause c =
    let f = lower (codes "f") ∷ left_bracket ∷ upper (codes "X") ∷ right_bracket ∷ [] in
    let a = lower (codes "a") ∷ [] in
    let more = comma ∷ lower (codes "a") ∷ [] in
    let atom = lower (codes "p") ∷ left_bracket ∷ lower (codes "f") ∷ left_bracket ∷ upper (codes "X") ∷ right_bracket ∷ comma ∷ lower (codes "a") ∷ right_bracket ∷ [] in (
      lower (codes "c1"),
      atom,
      [],
      inl refl,
      (
        0,
        atom,
        (
          atom,
          [],
          inl (
            refl,
            refl,
            (
              lower (codes "p"),
              f,
              more,
              inl refl,
              (refl, refl, (lower (codes "f"), upper (codes "X") ∷ [], [], inl refl, refl, refl, refl)),
              (a, [], (refl, refl, (lower (codes "a"), inl refl, refl)), refl, refl),
              refl,
            ),
          ),
          refl,
          refl,
        ),
        refl,
      ),
      tt,
      refl,
    )

pub returns-clause-no_empty_formula : goal.returns-clause-no_empty_formula
returns-clause-no_empty_formula c = λ item h. bracket_opens (full_stop ∷ []) (item_opens item (right_bracket ∷ full_stop ∷ []) h)

pub returns-clause-no_tilde_alone : goal.returns-clause-no_tilde_alone
returns-clause-no_tilde_alone c = λ item h. sign_opens (full_stop ∷ []) (item_opens item (mark 126 ∷ right_bracket ∷ full_stop ∷ []) h)

pub returns-clause-no_open_bracket : goal.returns-clause-no_open_bracket
returns-clause-no_open_bracket c = no_open_bracket

pub returns-clause-selected_include : goal.returns-clause-selected_include
returns-clause-selected_include c = (
  comma ∷ mark 91 ∷ lower (codes "c1") ∷ comma ∷ integer (codes "2") ∷ mark 93 ∷ [],
  (lower (codes "c1"), comma ∷ integer (codes "2") ∷ [], inl refl, (integer (codes "2"), [], refl, refl, refl), refl),
  refl,
)
