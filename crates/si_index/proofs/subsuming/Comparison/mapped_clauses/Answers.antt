use Rattle.std.proofs.Common.{◌≡◌, ℕ, List, [], ◌∷◌, length, map, refl, sym, ◌∙◌, subst, arith}
use Rattle.std.proofs.lemmas.Bool.{eqb-true}
use Rattle.std.proofs.lemmas.Option.{slice_get_within}
use Rattle.std.proofs.lemmas.Result.{IfOk-weaker}
use Rattle.si_term.specs.Meaning.{literal_of}
use Rattle.si_index.specs.Subsuming.{ArePassing, IsMapIn, TriesSlots}
use Rattle.si_index.proofs.EntryLaws.{all_clauses_known}
use Rattle.si_index.proofs.ScreenedLaws.{screened_named}
use Rattle.si_index.proofs.subsuming.Comparison.mapped_clauses.Goals as goal

pub try_passing-requires-clause-clauses : goal.try_passing-requires-clause-clauses
try_passing-requires-clause-clauses c = c.slots_and_rows-places.ensures.stored.sound

pub try_passing-requires-clause-places : goal.try_passing-requires-clause-places
try_passing-requires-clause-places c = c.slots_and_rows-places.ensures.slots

pub try_passing-requires-clause-all : goal.try_passing-requires-clause-all
try_passing-requires-clause-all c slot there =
    let own = c.slots_and_rows-places.ensures.rows slot there.0.0 there.0.1 there.1 in
    slice_get_within c.slots_and_rows-places.result.1.now slot own.0 own.1

pub returns-then-is_empty : goal.returns-then-is_empty
returns-then-is_empty c =
    let formula = map literal_of c.args.self.now.formula.now in
    let direction = c.args.self.now.direction in
    let numbers = c.args.index.now.numbers in
    let slots = c.slots_and_rows-places.result.0 in
    let rows = c.slots_and_rows-places.result.1.now in
    let is = c.slots_and_rows-places.ensures in
    let signed = c.signature-signature.ensures in
    let known = all_clauses_known numbers c.args.index.now.clauses _ signed.numbers signed.signature is.stored.sound in
    let passing = subst (λ ns. ArePassing ns direction formula rows c.in_ok-slots.slots.items) signed.numbers c.in_ok-slots.ensures in
    screened_named numbers direction formula c.args.index.now.clauses slots rows [] c.new.result is.rows known is.slots.clauses is.slots.rise (subst (ArePassing numbers direction formula rows) none passing) c.new.ensures
  where
    nothing : (qs : List ℕ) → length qs ≡ 0 → qs ≡ []
    nothing [] e = refl
    nothing (q ∷ qs) e = absurd (omega (arith, e))

    none : c.in_ok-slots.slots.items ≡ []
    none = nothing c.in_ok-slots.slots.items (omega (arith, eqb-true _ _ (sym c.is_empty.ensures ∙ c.if-is_empty.true), c.in_ok-slots.slots.ok.0))

pub returns : goal.returns
returns c =
    let formula = map literal_of c.args.self.now.formula.now in
    let direction = c.args.self.now.direction in
    let maps = IsMapIn direction formula in
    let numbers = c.args.index.now.numbers in
    let slots = c.slots_and_rows-places.result.0 in
    let rows = c.slots_and_rows-places.result.1.now in
    let is = c.slots_and_rows-places.ensures in
    let signed = c.signature-signature.ensures in
    let known = all_clauses_known numbers c.args.index.now.clauses _ signed.numbers signed.signature is.stored.sound in
    let passing = subst (λ ns. ArePassing ns direction formula rows c.in_ok-slots.slots.items) signed.numbers c.in_ok-slots.ensures in
    IfOk-weaker c.try_passing.result _ _
    (λ mappeds tries.
    screened_named numbers direction formula c.args.index.now.clauses slots rows c.in_ok-slots.slots.items mappeds is.rows known is.slots.clauses is.slots.rise passing
    (subst (λ qs. TriesSlots maps slots qs [] mappeds) c.as_slice.ensures.value tries))
    c.try_passing.ensures
