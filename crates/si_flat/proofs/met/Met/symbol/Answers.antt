use Rattle.std.proofs.Common.{◌≡◌, ◌<◌, ◌++◌, [], ◌∷◌, cond, not, length, ap, subst, sym, ◌∙◌}
use Rattle.si_term.proofs.Results.{on_err}
use Rattle.indexmap.specs.IndexSet.{insert_key, insert_all}
use Rattle.si_defs.specs.Symbols.{same_symbol}
use Rattle.si_term.specs.Terms.{symbol_of}
use Rattle.si_flat.specs.Numbered.{number_in, one_above, place_in}
use Rattle.si_flat.specs.Flattened.{numbers_from}
use Rattle.si_flat.specs.Flattening.{met_extra, room_of, number_by}
use Rattle.si_flat.proofs.Numbers.{has-among, has-none, number_known, number_extra, signed-is}
use Rattle.si_flat.proofs.met.Met.symbol.Goals as goal

pub returns-in-Some-clause-extra : goal.returns-in-Some-clause-extra
returns-in-Some-clause-extra g c =
    let s = symbol_of c.args.symbol.now in
    ap (λ b. insert_all same_symbol (met_extra c.args.self.now) (cond (not b) (s ∷ []) [])) (sym (has-among (g.T.SymTable.pairs c.args.table.now) s c.in-Some.number c.in-Some.ensures.found))

pub returns-in-Some-clause-number : goal.returns-in-Some-clause-number
returns-in-Some-clause-number g c more =
    let s = symbol_of c.args.symbol.now in
    let pairs = g.T.SymTable.pairs c.args.table.now in
    let others = numbers_from c.args.scheme.first (met_extra c.args.self.now ++ more) in
    signed-is c.args.scheme.positive (number_in (pairs ++ others)) s
    ∙ ap (λ n. cond c.args.scheme.positive n (one_above s.side n)) (number_known pairs others s c.in-Some.number c.in-Some.ensures.numbering c.in-Some.ensures.found)
    ∙ sym c.with_sign.ensures

pub returns-in_ok-place-in-None-clause-extra : goal.returns-in_ok-place-in-None-clause-extra
returns-in_ok-place-in-None-clause-extra g c =
    let s = symbol_of c.args.symbol.now in
    c.in_ok-place-in-None.ensures.extra
    ∙ ap (λ b. insert_all same_symbol (met_extra c.args.self.now) (cond (not b) (s ∷ []) [])) (sym (has-none (g.T.SymTable.pairs c.args.table.now) s c.in-None.ensures.none))

pub returns-in_ok-place-in-None-clause-number : goal.returns-in_ok-place-in-None-clause-number
returns-in_ok-place-in-None-clause-number g c more =
    let s = symbol_of c.args.symbol.now in
    let pairs = g.T.SymTable.pairs c.args.table.now in
    let old = met_extra c.args.self.now in
    let new : met_extra c.outside.new.self ≡ insert_key same_symbol old s = c.in_ok-place-in-None.ensures.extra in
    let place = ap (λ l. place_in same_symbol (l ++ more) s) (sym new) ∙ c.in_ok-place-in-None.ensures.place more in
    ap (λ l. number_by pairs c.args.scheme (l ++ more) s) new
    ∙ signed-is c.args.scheme.positive (number_in (pairs ++ numbers_from c.args.scheme.first (insert_key same_symbol old s ++ more))) s
    ∙ ap (λ n. cond c.args.scheme.positive n (one_above s.side n)) (number_extra pairs c.args.scheme.first old more s c.in_ok-place-in-None.place c.in-None.ensures.none place)
    ∙ sym c.with_sign-in-None.ensures

pub returns-in_err-place-in-None-clause-full : goal.returns-in_err-place-in-None-clause-full
returns-in_err-place-in-None-clause-full g c =
    let s = symbol_of c.args.symbol.now in
    on_err _ (subst (λ b. (room_of c.args.self.now 0).symbols < length (insert_all same_symbol (met_extra c.args.self.now) (cond (not b) (s ∷ []) []))) (sym (has-none (g.T.SymTable.pairs c.args.table.now) s c.in-None.ensures.none)) c.in_err-place-in-None.ensures.full)
