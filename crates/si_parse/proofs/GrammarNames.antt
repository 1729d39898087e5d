-- Names, roles and files: what the readers of them give.
use Rattle.std.proofs.Common.{◌≡◌, List, [], ◌∷◌, ◌++◌, Option, Some, None, refl, sym, ap, ◌∙◌, subst, inl, inr}
use Rattle.std.proofs.lemmas.Option.{none-some, same_Some}
use Rattle.si_defs.specs.Bytes.{Bytes}
use Rattle.si_defs.specs.Clauses.{Name}
use Rattle.si_defs.specs.Tokens.{Token, lower}
use Rattle.si_defs.specs.Grammar.{IsName, left_bracket, comma}
use Rattle.si_defs.specs.declared.NameKind.{NameKind}
use Rattle.si_defs.specs.declared.NameKind.TheVariants as named
use Rattle.si_defs.specs.declared.TokenKind.{TokenKind}
use Rattle.si_defs.specs.declared.TokenKind.TheVariants as token
use Rattle.si_parse.specs.Parsing.{ReadsTokens, Anything, NoName}
use Rattle.si_parse.specs.GrammarRules.{IsMark, IsOpening, IsNameToken}
use Rattle.si_parse.proofs.ParseSteps.{parses_none, parses_some, front_heads, front_tails}

-- which name a token is
abbrev pub name_kind : TokenKind → Option NameKind
name_kind token.Lower = Some named.Word
name_kind token.Upper = None
name_kind token.Dollar = None
name_kind token.Int = Some named.Int
name_kind token.Single = Some named.Word
name_kind token.Double = None
name_kind token.NotEqual = None
name_kind token.Mark = None

-- a name is of its token
name_by : (kind : NameKind) (text : Bytes) (t : Token) → IsName (record { kind = kind; text = text }) t → (name_kind t.kind ≡ Some kind) × (t.text ≡ text)
name_by named.Word text t (inl e) = (ap (λ (u : Token). name_kind u.kind) e, ap (λ (u : Token). u.text) e)
name_by named.Word text t (inr e) = (ap (λ (u : Token). name_kind u.kind) e, ap (λ (u : Token). u.text) e)
name_by named.Int text t e = (ap (λ (u : Token). name_kind u.kind) e, ap (λ (u : Token). u.text) e)

pub name_of_token : (n : Name) (t : Token) → IsName n t → (name_kind t.kind ≡ Some n.kind) × (t.text ≡ n.text)
name_of_token n t h = name_by n.kind n.text t h

-- and a token of such a kind is a name
named_by : (kind : TokenKind) (text : Bytes) (name : NameKind) → name_kind kind ≡ Some name → IsName (record { kind = name; text = text }) (record { kind = kind; text = text })
named_by token.Lower text named.Word e = inl refl
named_by token.Lower text named.Int e = cc
named_by token.Single text named.Word e = inr refl
named_by token.Single text named.Int e = cc
named_by token.Int text named.Int e = refl
named_by token.Int text named.Word e = cc
named_by token.Upper text name e = absurd (none-some name e)
named_by token.Dollar text name e = absurd (none-some name e)
named_by token.Double text name e = absurd (none-some name e)
named_by token.NotEqual text name e = absurd (none-some name e)
named_by token.Mark text name e = absurd (none-some name e)

-- a name in front
pub name_some : (t : Token) (rest : List Token) (kind : NameKind) → name_kind t.kind ≡ Some kind → ReadsTokens IsNameToken Anything (t ∷ rest) (Some (record { kind = kind; text = t.text }, rest))
name_some t rest kind e = parses_some (record { kind = kind; text = t.text }) (t ∷ []) rest refl (t, named_by t.kind t.text kind e, refl) unique where
  unique : (n : Name) (used behind : List Token) → t ∷ rest ≡ used ++ behind → IsNameToken n used → Anything behind → (record { kind = kind; text = t.text } ≡ n) × (rest ≡ behind)
  unique n used behind f (u, is, g) any =
      let same = front_heads behind f g in
      let k = name_of_token n u is in
      let kinds = same_Some kind n.kind (sym e ∙ ap (λ (x : Token). name_kind x.kind) same ∙ k.0) in
      let texts = ap (λ (x : Token). x.text) same ∙ k.1 in
      ((λ i. record { kind = kinds i; text = texts i }), front_tails behind f g)

-- no name in front
pub name_none : (t : Token) (rest : List Token) → name_kind t.kind ≡ None → ReadsTokens IsNameToken Anything (t ∷ rest) None
name_none t rest e = parses_none never where
  never : (n : Name) (used behind : List Token) → t ∷ rest ≡ used ++ behind → IsNameToken n used → Anything behind → ⊥
  never n used behind f (u, is, g) any =
      none-some n.kind (sym e ∙ ap (λ (x : Token). name_kind x.kind) (front_heads behind f g) ∙ (name_of_token n u is).0)

pub name_empty : ReadsTokens IsNameToken Anything [] None
name_empty = parses_none never where
  never : (n : Name) (used behind : List Token) → [] ≡ used ++ behind → IsNameToken n used → Anything behind → ⊥
  never n used behind f (u, is, g) any = cc (f ∙ ap (λ x. x ++ behind) g)

-- ---- one token of a kind
-- a token of this kind with some text
abbrev pub IsKind : TokenKind → Bytes → List Token → Type 0
IsKind kind text ts = ts ≡ record { kind = kind; text = text } ∷ []

pub kind_some : (kind : TokenKind) (t : Token) (rest : List Token) → t.kind ≡ kind → ReadsTokens (IsKind kind) Anything (t ∷ rest) (Some (t.text, rest))
kind_some kind t rest k = parses_some t.text (t ∷ []) rest refl (λ i. record { kind = k i; text = t.text } ∷ []) (λ text used behind e means follows.
    (ap (λ (x : Token). x.text) (front_heads behind e means), front_tails behind e means))

pub kind_none : (kind : TokenKind) (t : Token) (rest : List Token) → (t.kind ≡ kind → ⊥) → ReadsTokens (IsKind kind) Anything (t ∷ rest) None
kind_none kind t rest not = parses_none (λ text used behind e means follows. not (ap (λ (x : Token). x.kind) (front_heads behind e means)))

pub kind_empty : (kind : TokenKind) → ReadsTokens (IsKind kind) Anything [] None
kind_empty kind = parses_none (λ text used behind e means follows. cc (e ∙ ap (λ x. x ++ behind) means))

-- ---- openings
-- after the word of an item the bracket is left to read
pub opening_behind : (word : Bytes) (rest : List Token) (result : Option (Unit {0} × List Token)) → ReadsTokens (λ (u : Unit {0}) used. IsMark 40 used) Anything rest result
    → ReadsTokens (λ (u : Unit {0}) used. IsOpening word used) Anything (lower word ∷ rest) result
opening_behind word rest result p = record {
  found = λ u behind e. let h = p.found u behind e in (lower word ∷ h.0, ap (λ x. lower word ∷ x) h.1, ap (λ x. lower word ∷ x) h.2);
  every = λ u used behind e means follows. p.every u (left_bracket ∷ []) behind (front_tails behind e means) refl tt;
}

-- another word opens nothing
pub opening_other : (word : Bytes) (tokens : List Token) → ((rest : List Token) → tokens ≡ lower word ∷ rest → ⊥) → ReadsTokens (λ (u : Unit {0}) used. IsOpening word used) Anything tokens None
opening_other word tokens none = parses_none (λ u used behind e means follows. none _ (e ∙ ap (λ x. x ++ behind) means))

-- ---- rows of names
-- anything may follow a name
pub name_last : (rest : List Token) → NoName rest → Anything rest
name_last rest h = tt

pub name_goes_on : (rest : List Token) → Anything (comma ∷ rest)
name_goes_on rest = tt

-- but no comma follows the last one
pub name_stops : (rest : List Token) → NoName (comma ∷ rest) → ⊥
name_stops rest h = h.0 refl

-- an opening by the same word, said otherwise
pub opened : {tokens : List Token} {result : Option (Unit {0} × List Token)} (word same : Bytes) → word ≡ same → ReadsTokens (λ (u : Unit {0}) used. IsOpening word used) Anything tokens result
    → ReadsTokens (λ (u : Unit {0}) used. IsOpening same used) Anything tokens result
opened {tokens = tokens} {result = result} word same e p = subst (λ w. ReadsTokens (λ (u : Unit {0}) used. IsOpening w used) Anything tokens result) e p
