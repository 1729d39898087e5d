-- The first word of a text.
use Rattle.std.proofs.Common.{◌≡◌, false, ◌==◌, List, ◌∷◌, codes, refl, ap, sym, subst, inl, inr}
use Rattle.si_defs.specs.Bytes.{Bytes}
use Rattle.si_defs.specs.Substitutions.{IsAmong}
use Rattle.si_defs.specs.Tokens.{Token, lower, NextToken, Begins}
use Rattle.si_defs.specs.Grammar.{clause_item, include_item}
use Rattle.si_defs.specs.Texts.{languages}
use Rattle.si_defs.specs.declared.TokenKind.TheVariants.{Lower, Mark}
use Rattle.si_lex.proofs.TokenLaws.{next_unique}
use Rattle.si_examples.specs.Texts.{OtherLanguage, OwnLanguage, NoForeignItem}
use Rattle.si_examples.proofs.Differ.{first_byte, texts_differ}
use Rattle.si_examples.proofs.Pieces.{next}

-- a text begins with one word at most
pub word_differs : (line u v r s : Bytes) → NextToken line (lower u) r → NextToken line (lower v) s → first_byte u == first_byte v ≡ false → ⊥
word_differs line u v r s a b h = texts_differ u v h (ap (λ t. t.text) (next_unique line (lower u) (lower v) r s a b).0)

-- the first of some tokens is the next
pub first_next : (line : Bytes) (t : Token) (ts us : List Token) (rest : Bytes) → us ≡ t ∷ ts → Begins line us rest → (after : Bytes) × NextToken line t after
first_next line t ts us rest e b = let k = subst (λ vs. Begins line vs rest) e b in (k.0, k.1)

pub other_language : OtherLanguage
other_language = (
  codes "fof",
  codes "c,axiom,p).",
  inl refl,
  (codes "(c,axiom,p).", next Lower (codes "fof") (codes "(c,axiom,p).") refl, (codes "c,axiom,p).", next Mark (codes "(") (codes "c,axiom,p).") refl, refl)),
)

-- no word of another language begins with `c`
pub no_language : (language : Bytes) → IsAmong languages language → first_byte language == 99 ≡ false
no_language language (inl e) = ap (λ t. first_byte t == 99) (sym e)
no_language language (inr (inl e)) = ap (λ t. first_byte t == 99) (sym e)
no_language language (inr (inr (inl e))) = ap (λ t. first_byte t == 99) (sym e)
no_language language (inr (inr (inr (inl e)))) = ap (λ t. first_byte t == 99) (sym e)
no_language language (inr (inr (inr (inr (inl e))))) = ap (λ t. first_byte t == 99) (sym e)
no_language language (inr (inr (inr (inr (inr h))))) = absurd h

pub own_language : OwnLanguage
own_language f = word_differs (codes "cnf(c,axiom,p).") f.0 (codes "cnf") f.3.0 (codes "(c,axiom,p).") f.3.1 (next Lower (codes "cnf") (codes "(c,axiom,p).") refl) (no_language f.0 f.2)

no_other : (word : Bytes) (ts us : List Token) (rest : Bytes) → us ≡ lower word ∷ ts → Begins (codes "fof(c,axiom,p).") us rest → first_byte word == 102 ≡ false → ⊥
no_other word ts us rest e b h =
    let n = first_next (codes "fof(c,axiom,p).") (lower word) ts us rest e b in
    word_differs (codes "fof(c,axiom,p).") word (codes "fof") n.0 (codes "(c,axiom,p).") n.1 (next Lower (codes "fof") (codes "(c,axiom,p).") refl) h

pub no_foreign_item : NoForeignItem
no_foreign_item (clause_item c) rest b = let s = b.spelled in no_other (codes "cnf") _ b.tokens rest s.6 b.begins refl
no_foreign_item (include_item file selection) rest b = let s = b.spelled in no_other (codes "include") _ b.tokens rest s.2 b.begins refl
