-- Which word a text is, by the tests that failed.
use Rattle.std.proofs.Common.{◌≡◌, sym, ◌∙◌}
use Rattle.std.specs.Prelude.{Bool, true, false, codes, IsTrue, ◌↔◌}
use Rattle.si_defs.specs.Bytes.{Bytes}
use Rattle.si_defs.specs.declared.Relation.{Relation}
use Rattle.si_defs.specs.declared.Relation.TheVariants.{Variants, Instances, Generalizations, Unifiable}
use Rattle.si_steps.specs.declared.word.Word.{Word}
use Rattle.si_steps.specs.declared.word.Word.TheVariants.{Add, Load, Remove, Ask, Subsumers, Subsumed, Stats, Tree, Explain, Sample}
use Rattle.si_steps.specs.Words.{command_text, relation_text}

-- a test that failed
pub not_true : (b : Bool) (P : Type 0) → IsTrue b ↔ P → b ≡ false → P → ⊥
not_true b P h e p = let t : b ≡ true = h.1 p in let f : false ≡ true = sym e ∙ t in cc

-- the text is that of no relation
pub no_relation : (text : Bytes) → (codes "variants" ≡ text → ⊥) → (codes "instances" ≡ text → ⊥) → (codes "generalizations" ≡ text → ⊥) → (codes "unifiable" ≡ text → ⊥)
    → (relation : Relation) → relation_text relation ≡ text → ⊥
no_relation text v i g u Variants e = v e
no_relation text v i g u Instances e = i e
no_relation text v i g u Generalizations e = g e
no_relation text v i g u Unifiable e = u e

-- nor of any other word
pub no_word_text : (text : Bytes) → (codes "add" ≡ text → ⊥) → (codes "load" ≡ text → ⊥) → (codes "remove" ≡ text → ⊥) → (codes "subsumers" ≡ text → ⊥) → (codes "subsumed" ≡ text → ⊥)
    → (codes "stats" ≡ text → ⊥) → (codes "tree" ≡ text → ⊥) → (codes "explain" ≡ text → ⊥) → (codes "sample" ≡ text → ⊥)
    → ((relation : Relation) → relation_text relation ≡ text → ⊥) → (word : Word) → command_text word ≡ text → ⊥
no_word_text text a l r s d t k x m n Add e = a e
no_word_text text a l r s d t k x m n Load e = l e
no_word_text text a l r s d t k x m n Remove e = r e
no_word_text text a l r s d t k x m n (Ask relation) e = n relation e
no_word_text text a l r s d t k x m n Subsumers e = s e
no_word_text text a l r s d t k x m n Subsumed e = d e
no_word_text text a l r s d t k x m n Stats e = t e
no_word_text text a l r s d t k x m n Tree e = k e
no_word_text text a l r s d t k x m n Explain e = x e
no_word_text text a l r s d t k x m n Sample e = m e
