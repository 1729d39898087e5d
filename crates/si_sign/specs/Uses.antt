-- The symbols in use as the program keeps them, and the signature that they are.
use Rattle.std.specs.Prelude.{◌≡◌, ℕ, ◌+◌, ◌*◌, ◌<◌, ◌≤◌, List, [], ◌∷◌, Option, Some, None}
use Rattle.slab.specs.Slab.{get}
use Rattle.si_defs.specs.Bytes.{Bytes}
use Rattle.si_defs.specs.declared.SymKind.{SymKind}
use Rattle.si_state.specs.Signatures.{Used, Signature, total}
use Rattle.si_term.specs.Terms.{symbol_of}
use Rattle.si_sign.specs.Keys.{symbol_key}
use Rattle.si_sign.specs.declared.uses.CountedSymbol.{CountedSymbol}
use Rattle.si_sign.specs.declared.uses.Uses.{Uses}
use Rattle.si_sign.specs.declared.uses.TheConstants.{MOST_USES}

-- A symbol's number is twice its key.
abbrev pub used_at : ℕ → CountedSymbol → Used
used_at key c = record { symbol = symbol_of c.sym; uses = c.uses; number = 2 * key }

-- the symbols of slots of which the first has this key
abbrev pub seen_from : ℕ → List (Option CountedSymbol) → Signature
seen_from key [] = []
seen_from key (None ∷ slots) = seen_from (1 + key) slots
seen_from key (Some c ∷ slots) = used_at key c ∷ seen_from (1 + key) slots

abbrev pub seen : Uses → Signature
seen u = seen_from 0 u.slots.slots

-- the key of a kind and text
abbrev pub key_in : Uses → SymKind → Bytes → Option ℕ
key_in u = symbol_key u.keys (get u.slots)

-- Each symbol in use is found under its kind and text, and nothing else is found; and all uses are
-- counted.
pub record IsUses (u : Uses) : Type 0 where
  pub held : (key : ℕ) (c : CountedSymbol) → get u.slots key ≡ Some c
      → key_in u c.sym.kind c.sym.text ≡ Some key
  pub found : (kind : SymKind) (text : Bytes) (key : ℕ) → key_in u kind text ≡ Some key
      → (c : CountedSymbol) × (get u.slots key ≡ Some c) × (c.sym.kind ≡ kind) × (c.sym.text ≡ text)
  pub used : (key : ℕ) (c : CountedSymbol) → get u.slots key ≡ Some c → 1 ≤ c.uses
  pub below : (key : ℕ) (c : CountedSymbol) → get u.slots key ≡ Some c → key < MOST_USES
  pub counted : u.total ≡ total (seen u)
  pub few : u.total ≤ MOST_USES
