-- What a rest has at the indicators of a common part, and how it gives the term back.
use Rattle.std.proofs.Common.{◌≡◌, ℕ, zero, suc, inl, List, [], ◌∷◌, ◌++◌, None, Some, refl, ap, sym, subst}
use Rattle.std.proofs.lemmas.Option.{same_Some}
use Rattle.si_defs.specs.Terms as terms
use Rattle.si_defs.specs.Substitutions.{IsAmong}
use Rattle.si_defs.proofs.ListLaws.{among_front, among_back}
use Rattle.si_flat.specs.Cells.{Symbol, Variable, query, entry, ind, Term, Terms}
use Rattle.si_legal.specs.Bindings.{Binding, indicator, IsIndicator}
use Rattle.si_legal.specs.Generalizations.{argument_in, argument, StandsAt}

-- ---- parts at the positions of indicators of which P holds
abbrev pub HasParts : (ℕ → Type 0) → Term → Term → List Binding → Type 0
HasParts P c t parts =
    (path : List ℕ) (n : ℕ) (a : Term) → P n → StandsAt path c (indicator n) → StandsAt path t a → IsAmong parts (n, a)

abbrev pub HaveParts : (ℕ → Type 0) → Terms → Terms → List Binding → Type 0
HaveParts P terms.none terms.none parts = Unit {0}
HaveParts P (terms.more c cs) (terms.more t ts) parts = HasParts P c t parts × HaveParts P cs ts parts
HaveParts P _ _ parts = ⊥

-- f puts the parts in the places of their indicators, and leaves the others of these as they are
pub record Fills (P : ℕ → Type 0) (olds : List ℕ) (parts : List Binding) (f : Variable → Term) : Type 0 where
  pub queries : (n : ℕ) → f (query n) ≡ terms.var (query n)
  pub entries : (n : ℕ) → f (entry n) ≡ terms.var (entry n)
  pub bound : (n : ℕ) (a : Term) → IsAmong parts (n, a) → f (ind n) ≡ a
  pub stays : (n : ℕ) → (P n → ⊥) → IsAmong olds n → f (ind n) ≡ indicator n

pub record IsSide (P : ℕ → Type 0) (olds : List ℕ) (c t : Term) (parts : List Binding) : Type 0 where
  pub has : HasParts P c t parts
  pub gives : (f : Variable → Term) → Fills P olds parts f → terms.substitute f c ≡ t

pub record AreSides (P : ℕ → Type 0) (olds : List ℕ) (cs ts : Terms) (parts : List Binding) : Type 0 where
  pub has : HaveParts P cs ts parts
  pub gives : (f : Variable → Term) → Fills P olds parts f → terms.substitute_all f cs ≡ ts

-- ---- more parts
more_parts : (P : ℕ → Type 0) (c t : Term) (parts others : List Binding) → ((b : Binding) → IsAmong parts b → IsAmong others b) → HasParts P c t parts → HasParts P c t others
more_parts P c t parts others more h = λ path n a p q r. more (n, a) (h path n a p q r)

all_more_parts : (P : ℕ → Type 0) (cs ts : Terms) (parts others : List Binding) → ((b : Binding) → IsAmong parts b → IsAmong others b) → HaveParts P cs ts parts → HaveParts P cs ts others
all_more_parts P terms.none terms.none parts others more h = tt
all_more_parts P terms.none (terms.more t ts) parts others more h = absurd h
all_more_parts P (terms.more c cs) terms.none parts others more h = absurd h
all_more_parts P (terms.more c cs) (terms.more t ts) parts others more h = (more_parts P c t parts others more h.0, all_more_parts P cs ts parts others more h.1)

fewer_parts : (P : ℕ → Type 0) (olds olds' : List ℕ) (parts others : List Binding) (f : Variable → Term) → ((n : ℕ) → IsAmong olds n → IsAmong olds' n) → ((b : Binding) → IsAmong parts b → IsAmong others b) → Fills P olds' others f → Fills P olds parts f
fewer_parts P olds olds' parts others f old more h = record {
  queries = h.queries;
  entries = h.entries;
  bound = λ n a m. h.bound n a (more (n, a) m);
  stays = λ n p a. h.stays n p (old n a);
}

-- ---- one term
no_argument : (x : Variable) (n : ℕ) (t : Term) → argument n (terms.var x) ≡ Some t → ⊥
no_argument x n t e = cc

abbrev number_of : Term → ℕ
number_of (terms.var (ind n)) = n
number_of _ = 0

pub same_indicator : (m n : ℕ) → indicator m ≡ indicator n → m ≡ n
same_indicator m n e = ap number_of e

-- an indicator with its part
pub side_bound : (P : ℕ → Type 0) (olds : List ℕ) (n : ℕ) (t : Term) → IsSide P olds (indicator n) t ((n, t) ∷ [])
side_bound P olds n t = record { has = there; gives = (λ f h. h.bound n t (inl refl)) } where
  there : HasParts P (indicator n) t ((n, t) ∷ [])
  there [] m a p q r = inl (λ i. (sym (same_indicator m n q) i, sym r i))
  there (k ∷ path) m a p q r = absurd (no_argument (ind n) k q.0 q.1)

-- an indicator that stays
pub side_kept : (P : ℕ → Type 0) (n : ℕ) → (P n → ⊥) → IsSide P (n ∷ []) (indicator n) (indicator n) []
side_kept P n low = record { has = there; gives = (λ f h. h.stays n low (inl refl)) } where
  there : HasParts P (indicator n) (indicator n) []
  there [] m a p q r = low (subst P (same_indicator m n q) p)
  there (k ∷ path) m a p q r = absurd (no_argument (ind n) k q.0 q.1)

-- another variable
no_indicator : (x : Variable) (n : ℕ) → (IsIndicator (terms.var x) → ⊥) → indicator n ≡ terms.var x → ⊥
no_indicator x n plain e = plain (subst IsIndicator e tt)

pub side_variable : (P : ℕ → Type 0) (olds : List ℕ) (x : Variable) → (IsIndicator (terms.var x) → ⊥) → IsSide P olds (terms.var x) (terms.var x) []
side_variable P olds x plain = record { has = there; gives = (λ f h. by x plain f h) } where
  there : HasParts P (terms.var x) (terms.var x) []
  there [] m a p q r = no_indicator x m plain q
  there (k ∷ path) m a p q r = absurd (no_argument x k q.0 q.1)

  by : (y : Variable) → (IsIndicator (terms.var y) → ⊥) → (f : Variable → Term) → Fills P olds [] f → f y ≡ terms.var y
  by (query n) plain f h = h.queries n
  by (entry n) plain f h = h.entries n
  by (ind n) plain f h = absurd (plain tt)

-- ---- arguments
parts_in : (P : ℕ → Type 0) (m : ℕ) (cs ts : Terms) (parts : List Binding) → HaveParts P cs ts parts → (c t : Term) → argument_in m cs ≡ Some c → argument_in m ts ≡ Some t → HasParts P c t parts
parts_in P m terms.none ts parts h c t p q = absurd (by p) where
  by : None ≡ Some c → ⊥
  by e = cc
parts_in P m (terms.more x cs) terms.none parts h c t p q = absurd h
parts_in P zero (terms.more x cs) (terms.more y ts) parts h c t p q = absurd (by p) where
  by : None ≡ Some c → ⊥
  by e = cc
parts_in P (suc zero) (terms.more x cs) (terms.more y ts) parts h c t p q = subst (λ z. HasParts P z t parts) (same_Some x c p) (subst (λ z. HasParts P x z parts) (same_Some y t q) h.0)
parts_in P (suc (suc m)) (terms.more x cs) (terms.more y ts) parts h c t p q = parts_in P (suc m) cs ts parts h.1 c t p q

pub side_app : (P : ℕ → Type 0) (olds : List ℕ) (s : Symbol) (cs ts : Terms) (parts : List Binding) → AreSides P olds cs ts parts → IsSide P olds (terms.app s cs) (terms.app s ts) parts
side_app P olds s cs ts parts all = record { has = there; gives = (λ f h. ap (λ us. terms.app s us) (all.gives f h)) } where
  there : HasParts P (terms.app s cs) (terms.app s ts) parts
  there [] m a p q r = absurd (by q) where
    by : indicator m ≡ terms.app s cs → ⊥
    by e = cc
  there (k ∷ path) m a p q r = parts_in P k cs ts parts all.has q.0 r.0 q.1 r.1 path m a p q.2 r.2

pub sides_none : (P : ℕ → Type 0) (olds : List ℕ) → AreSides P olds terms.none terms.none []
sides_none P olds = record { has = tt; gives = (λ f h. refl) }

pub sides_more : (P : ℕ → Type 0) (olds olds' : List ℕ) (c t : Term) (cs ts : Terms) (parts others : List Binding) → IsSide P olds c t parts → AreSides P olds' cs ts others → AreSides P (olds ++ olds') (terms.more c cs) (terms.more t ts) (parts ++ others)
sides_more P olds olds' c t cs ts parts others one all = record {
  has = (
    more_parts P c t parts (parts ++ others) (λ b. among_front parts others b) one.has,
    all_more_parts P cs ts others (parts ++ others) (λ b. among_back parts others b) all.has,
  );
  gives =
      λ f h.
      let first = one.gives f (fewer_parts P olds (olds ++ olds') parts (parts ++ others) f (λ n. among_front olds olds' n) (λ b. among_front parts others b) h) in
      let rest = all.gives f (fewer_parts P olds' (olds ++ olds') others (parts ++ others) f (λ n. among_back olds olds' n) (λ b. among_back parts others b) h) in
      λ i. terms.more (first i) (rest i);
}
