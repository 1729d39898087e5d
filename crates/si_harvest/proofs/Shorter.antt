-- After an item fewer bytes are left.
use Rattle.std.proofs.Common.{◌≡◌, ◌≤◌, ◌<◌, List, [], ◌∷◌, codes, length, length-append, refl, sym, ap, ◌∙◌, subst, arith}
use Rattle.std.proofs.lemmas.Bool.{false≢true}
use Rattle.std.specs.List.{concat}
use Rattle.si_defs.specs.Bytes.{Bytes}
use Rattle.si_defs.specs.Tokens.{Token, Spells, NextToken, Begins, lower}
use Rattle.si_defs.specs.Grammar.{Item, clause_item, include_item}
use Rattle.si_defs.specs.Texts.{BeginsWithItem}
use Rattle.si_defs.specs.declared.TokenKind.{TokenKind}
use Rattle.si_defs.specs.declared.TokenKind.TheVariants.{Lower, Upper, Dollar, Int, Single, Double, NotEqual, Mark}

some_bytes : (text : Bytes) → (text ≡ [] → ⊥) → 0 < length text
some_bytes [] h = absurd (h refl)
some_bytes (c ∷ cs) h = omega arith

spelled_some : (kind : TokenKind) (text bytes : Bytes) → Spells kind text bytes → bytes ≡ [] → ⊥
spelled_some Lower [] bytes h e = false≢true h.1
spelled_some Lower (c ∷ cs) bytes h e = let f = sym e ∙ h.0 in cc
spelled_some Upper [] bytes h e = false≢true h.1
spelled_some Upper (c ∷ cs) bytes h e = let f = sym e ∙ h.0 in cc
spelled_some Dollar [] bytes h e = false≢true h.1
spelled_some Dollar (c ∷ cs) bytes h e = let f = sym e ∙ h.0 in cc
spelled_some Int [] bytes h e = false≢true h.1
spelled_some Int (c ∷ cs) bytes h e = let f = sym e ∙ h.0 in cc
spelled_some Single text bytes h e = let f = sym e ∙ h.0 in cc
spelled_some Double text bytes h e = let f = sym e ∙ h.0 in cc
spelled_some NotEqual text bytes h e = let f = sym e ∙ h.0 ∙ h.1 in cc
spelled_some Mark text bytes h e = let f = sym e ∙ h.0 ∙ h.1.1 in cc

next_shorter : (bytes : Bytes) (t : Token) (rest : Bytes) → NextToken bytes t rest → length rest < length bytes
next_shorter bytes t rest n =
    let some : 0 < length n.stands.spelling = some_bytes n.stands.spelling (spelled_some t.kind t.text n.stands.spelling n.stands.spelled) in
    omega (
      arith,
      some,
      ap (λ l. length l) n.skips.whole,
      length-append (concat n.skips.blanks) n.place,
      ap (λ l. length l) n.stands.front,
      length-append n.stands.spelling rest,
    )

begins_shorter : (bytes : Bytes) (ts : List Token) (rest : Bytes) → Begins bytes ts rest → length rest ≤ length bytes
begins_shorter bytes [] rest h = omega (arith, ap (λ l. length l) h)
begins_shorter bytes (t ∷ ts) rest h = omega (arith, next_shorter bytes t h.0 h.1, begins_shorter h.0 ts rest h.2)

some_shorter : (bytes : Bytes) (t : Token) (ts us : List Token) (rest : Bytes) → us ≡ t ∷ ts → Begins bytes us rest → length rest < length bytes
some_shorter bytes t ts us rest e b =
    let k : Begins bytes (t ∷ ts) rest = subst (λ vs. Begins bytes vs rest) e b in
    omega (arith, next_shorter bytes t k.0 k.1, begins_shorter k.0 ts rest k.2)

pub item_shorter : (bytes : Bytes) (item : Item) (rest : Bytes) → BeginsWithItem bytes item rest → length rest < length bytes
item_shorter bytes (clause_item c) rest b = let s = b.spelled in some_shorter bytes (lower (codes "cnf")) _ b.tokens rest s.6 b.begins
item_shorter bytes (include_item file selection) rest b = let s = b.spelled in some_shorter bytes (lower (codes "include")) _ b.tokens rest s.2 b.begins
