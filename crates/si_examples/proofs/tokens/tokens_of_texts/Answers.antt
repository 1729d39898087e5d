use Rattle.std.proofs.Common.{[], ◌∷◌, codes}
use Rattle.std.proofs.Common.{refl}
use Rattle.si_defs.specs.Tokens.{lower}
use Rattle.si_defs.specs.declared.TokenKind.TheVariants.{Lower, Upper, Int, NotEqual}
use Rattle.si_lex.proofs.TokenLaws.{token_unique}
use Rattle.si_examples.proofs.Pieces.{space, word, one_mark, token, token_of, first, consists}
use Rattle.si_examples.proofs.tokens.tokens_of_texts.Goals as goal

pub returns-clause-two_integers : goal.returns-clause-two_integers
returns-clause-two_integers c = consists (token Int (codes "0") ∷ token Int (codes "1") ∷ []) refl

pub returns-clause-signed_integer : goal.returns-clause-signed_integer
returns-clause-signed_integer c = consists (token Upper (codes "X") ∷ token NotEqual (codes "!=") ∷ token Int (codes "-3") ∷ one_mark 46 ∷ []) refl

pub returns-clause-word_and_variable : goal.returns-clause-word_and_variable
returns-clause-word_and_variable c = consists (word (codes "f") ∷ one_mark 40 ∷ space 32 ∷ token Upper (codes "X") ∷ space 32 ∷ one_mark 41 ∷ []) refl

pub returns-clause-no_part_of_word : goal.returns-clause-no_part_of_word
returns-clause-no_part_of_word c = λ t. let e = (token_unique (codes "ab") (lower (codes "a")) (lower (codes "ab")) (codes "b") [] t (first Lower (codes "ab") [] refl)).1 in cc

pub returns-clause-no_one_integer : goal.returns-clause-no_one_integer
returns-clause-no_one_integer c = λ t a. let e = (token_unique (codes "01") t (token_of Int (codes "0")) [] (codes "1") a (first Int (codes "0") (codes "1") refl)).1 in cc
