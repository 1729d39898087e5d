-- No two words of commands have the same text: each text gives its word back.
use Rattle.std.proofs.Common.{◌≡◌, refl, ap, sym, ◌∙◌}
use Rattle.std.specs.Prelude.{cond, bytes_eq, codes, Option, Some, None}
use Rattle.si_defs.specs.Bytes.{Bytes}
use Rattle.si_defs.specs.declared.Relation.TheVariants.{Variants, Instances, Generalizations, Unifiable}
use Rattle.si_steps.specs.declared.word.Word.{Word}
use Rattle.si_steps.specs.declared.word.Word.TheVariants.{Add, Load, Remove, Ask, Subsumers, Subsumed, Stats, Tree, Explain, Sample}
use Rattle.si_steps.specs.Words.{command_text}

-- the word with this text
abbrev pub word_with : Bytes → Option Word
word_with text =
    cond (bytes_eq text (codes "add")) (Some Add)
    (cond (bytes_eq text (codes "load")) (Some Load)
    (cond (bytes_eq text (codes "remove")) (Some Remove)
    (cond (bytes_eq text (codes "variants")) (Some (Ask Variants))
    (cond (bytes_eq text (codes "instances")) (Some (Ask Instances))
    (cond (bytes_eq text (codes "generalizations")) (Some (Ask Generalizations))
    (cond (bytes_eq text (codes "unifiable")) (Some (Ask Unifiable))
    (cond (bytes_eq text (codes "subsumers")) (Some Subsumers)
    (cond (bytes_eq text (codes "subsumed")) (Some Subsumed)
    (cond (bytes_eq text (codes "stats")) (Some Stats)
    (cond (bytes_eq text (codes "tree")) (Some Tree)
    (cond (bytes_eq text (codes "explain")) (Some Explain)
    (cond (bytes_eq text (codes "sample")) (Some Sample) None))))))))))))

pub word_back : (word : Word) → word_with (command_text word) ≡ Some word
word_back Add = refl
word_back Load = refl
word_back Remove = refl
word_back (Ask Variants) = refl
word_back (Ask Instances) = refl
word_back (Ask Generalizations) = refl
word_back (Ask Unifiable) = refl
word_back Subsumers = refl
word_back Subsumed = refl
word_back Stats = refl
word_back Tree = refl
word_back Explain = refl
word_back Sample = refl

pub same_word : (v w : Word) → command_text v ≡ command_text w → v ≡ w
same_word v w e = let both : Some v ≡ Some w = sym (word_back v) ∙ ap word_with e ∙ word_back w in cc
