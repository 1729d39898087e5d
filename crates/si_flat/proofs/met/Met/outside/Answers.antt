use Rattle.std.proofs.Common.{◌≡◌, ◌+◌, ◌<◌, ◌≤◌, length, map, ap, subst, inl, inr}
use Rattle.std.proofs.lemmas.Bool.{cases_lt, false≢true}
use Rattle.indexmap.specs.IndexSet.{insert_key, spare}
use Rattle.si_defs.specs.Symbols.{same_symbol}
use Rattle.si_term.specs.Terms.{symbol_of}
use Rattle.si_term.proofs.Results.{on_err}
use Rattle.si_flat.specs.declared.met.SymbolKey.{SymbolKey}
use Rattle.si_flat.specs.Flattening.{symbol_of_key, IsIndex}
use Rattle.si_flat.proofs.KeyPlaces.{stays, place_known, inserted_key, place_new, key_refused}
use Rattle.si_flat.proofs.met.Met.outside.Goals as goal

pub returns-in-Some-clause-extra : goal.returns-in-Some-clause-extra
returns-in-Some-clause-extra c =
    let key : SymbolKey = record { kind = c.args.symbol.now.kind; side = c.args.symbol.now.side; arity = c.args.symbol.now.arity; text = c.as_bytes.result } in
    let parts : symbol_of_key key ≡ symbol_of c.args.symbol.now = ap (λ t. record { kind = c.args.symbol.now.kind; text = t; side = c.args.symbol.now.side; arity = c.args.symbol.now.arity }) c.as_bytes.ensures in
    let keys = c.args.self.now.extra.keys in
    subst (λ s. map symbol_of_key keys ≡ insert_key same_symbol (map symbol_of_key keys) s) parts (stays keys key c.in-Some.ensures.found)

pub returns-in-Some-clause-place : goal.returns-in-Some-clause-place
returns-in-Some-clause-place c =
    let key : SymbolKey = record { kind = c.args.symbol.now.kind; side = c.args.symbol.now.side; arity = c.args.symbol.now.arity; text = c.as_bytes.result } in
    let parts : symbol_of_key key ≡ symbol_of c.args.symbol.now = ap (λ t. record { kind = c.args.symbol.now.kind; text = t; side = c.args.symbol.now.side; arity = c.args.symbol.now.arity }) c.as_bytes.ensures in
    let keys = c.args.self.now.extra.keys in
    subst (λ s. IsIndex same_symbol (map symbol_of_key keys) s c.in-Some.place) parts (place_known keys key c.in-Some.place c.in-Some.ensures.found c.in-Some.ensures.index)

pub returns-in_err-insert-clause-full : goal.returns-in_err-insert-clause-full
returns-in_err-insert-clause-full c =
    let key : SymbolKey = record { kind = c.args.symbol.now.kind; side = c.args.symbol.now.side; arity = c.args.symbol.now.arity; text = c.as_bytes.result } in
    let parts : symbol_of_key key ≡ symbol_of c.args.symbol.now = ap (λ t. record { kind = c.args.symbol.now.kind; text = t; side = c.args.symbol.now.side; arity = c.args.symbol.now.arity }) c.as_bytes.ensures in
    let keys = c.args.self.now.extra.keys in
    let full : spare c.args.self.now.extra ≤ 0 = elim (cases_lt 0 (spare c.args.self.now.extra)) [
      | inl room ↦ absurd (false≢true (c.in_err-insert.ensures.succeeds room))
      | inr le ↦ le
    ] in
    on_err _ (subst (λ s. length keys + spare c.args.self.now.extra < length (insert_key same_symbol (map symbol_of_key keys) s)) parts (key_refused keys key (spare c.args.self.now.extra) c.in_default.ensures.found full))

pub returns-clause-extra : goal.returns-clause-extra
returns-clause-extra c =
    let key : SymbolKey = record { kind = c.args.symbol.now.kind; side = c.args.symbol.now.side; arity = c.args.symbol.now.arity; text = c.as_bytes.result } in
    let parts : symbol_of_key key ≡ symbol_of c.args.symbol.now = ap (λ t. record { kind = c.args.symbol.now.kind; text = t; side = c.args.symbol.now.side; arity = c.args.symbol.now.arity }) c.as_bytes.ensures in
    let keys = c.args.self.now.extra.keys in
    subst (λ s. map symbol_of_key c.insert.new.self.keys ≡ insert_key same_symbol (map symbol_of_key keys) s) parts (inserted_key keys key c.insert.new.self.keys c.in_ok-insert.ensures.keys)

pub returns-clause-place : goal.returns-clause-place
returns-clause-place c =
    let key : SymbolKey = record { kind = c.args.symbol.now.kind; side = c.args.symbol.now.side; arity = c.args.symbol.now.arity; text = c.as_bytes.result } in
    let parts : symbol_of_key key ≡ symbol_of c.args.symbol.now = ap (λ t. record { kind = c.args.symbol.now.kind; text = t; side = c.args.symbol.now.side; arity = c.args.symbol.now.arity }) c.as_bytes.ensures in
    let keys = c.args.self.now.extra.keys in
    subst (λ s. IsIndex same_symbol (map symbol_of_key c.insert.new.self.keys) s c.len-place.result) parts (place_new keys key c.insert.new.self.keys c.len-place.result c.in_ok-insert.ensures.keys c.in_default.ensures.found c.len-place.ensures.len)
