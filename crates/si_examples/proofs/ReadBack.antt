-- Names that are printed, and read back.
use Rattle.std.proofs.Common.{◌∷◌, [], codes, refl, subst, inl, inr, arith}
use Rattle.std.proofs.lemmas.Bool.{false≢true}
use Rattle.si_defs.specs.Bytes.{Bytes}
use Rattle.si_defs.specs.Tokens.{Token, Spells}
use Rattle.si_defs.specs.Grammar.{IsWord}
use Rattle.si_defs.specs.declared.TokenKind.TheVariants.{Lower, Single}
use Rattle.si_examples.specs.Printing.{ReadBackName, NoEmptyName}
use Rattle.si_examples.specs.Grammar.{single}
use Rattle.si_examples.proofs.Pieces.{token, consists}
use Rattle.si_examples.proofs.FirstWords.{first_next}

pub read_back_name : ReadBackName
read_back_name = record {
  tokens = single (codes "it's") ∷ [];
  consists = consists (token Single (codes "it's") ∷ []) refl;
  spelled = (single (codes "it's"), inr refl, refl);
  nested = omega arith;
}

no_empty_word : (t : Token) → IsWord [] t → (spelling : Bytes) → Spells t.kind t.text spelling → ⊥
no_empty_word t (inl e) spelling s = let l : Spells Lower [] spelling = subst (λ u. Spells u.kind u.text spelling) e s in false≢true l.1
no_empty_word t (inr e) spelling s = let l : Spells Single [] spelling = subst (λ u. Spells u.kind u.text spelling) e s in l.2 refl

pub no_empty_name : NoEmptyName
no_empty_name bytes r =
    let k = r.spelled in
    let n = first_next bytes k.0 [] r.tokens r.consists.rest k.2 r.consists.begins in
    no_empty_word k.0 k.1 n.1.stands.spelling n.1.stands.spelled
