-- Symbols as keys are told apart as symbols are.
use Rattle.std.proofs.Common.{◌≡◌, Bool, true, false, ◌&&◌, ◌==◌, refl, ◌∙◌}
use Rattle.std.specs.Prelude.{bytes_eq}
use denote.Enum.Bare.{sameb}
use Rattle.si_defs.specs.contracts.SymKind as kind
use Rattle.si_defs.specs.contracts.Side as side
use Rattle.si_defs.specs.declared.SymKind.{SymKind}
use Rattle.si_defs.specs.declared.SymKind.TheVariants.{Word, Dollar, Number, Distinct, Equal}
use Rattle.si_defs.specs.declared.Side.{Side}
use Rattle.si_defs.specs.declared.Side.TheVariants.{Predicate, Function}
use Rattle.si_defs.specs.Symbols.{same_kind, same_side, same_symbol}
use Rattle.si_flat.specs.declared.met.SymbolKey.{SymbolKey}
use Rattle.si_flat.specs.contracts.met.SymbolKeyPartialEq.TheImpl as key_eq
use Rattle.si_flat.specs.Flattening.{symbol_of_key}

kinds : (a b : SymKind) → sameb kind.the_type a b ≡ same_kind a b
kinds Word Word = refl
kinds Word Dollar = refl
kinds Word Number = refl
kinds Word Distinct = refl
kinds Word Equal = refl
kinds Dollar Word = refl
kinds Dollar Dollar = refl
kinds Dollar Number = refl
kinds Dollar Distinct = refl
kinds Dollar Equal = refl
kinds Number Word = refl
kinds Number Dollar = refl
kinds Number Number = refl
kinds Number Distinct = refl
kinds Number Equal = refl
kinds Distinct Word = refl
kinds Distinct Dollar = refl
kinds Distinct Number = refl
kinds Distinct Distinct = refl
kinds Distinct Equal = refl
kinds Equal Word = refl
kinds Equal Dollar = refl
kinds Equal Number = refl
kinds Equal Distinct = refl
kinds Equal Equal = refl

sides : (a b : Side) → sameb side.the_type a b ≡ same_side a b
sides Predicate Predicate = refl
sides Predicate Function = refl
sides Function Predicate = refl
sides Function Function = refl

turned : (a b c d : Bool) → (a && (b && (c && d))) ≡ (((a && b) && c) && d)
turned true true c d = refl
turned true false c d = refl
turned false b c d = refl

pub key_is : (k l : SymbolKey) → key_eq.eq-value.it k l ≡ same_symbol (symbol_of_key k) (symbol_of_key l)
key_is k l =
    (λ i. kinds k.kind l.kind i && (sides k.side l.side i && (k.arity == l.arity && bytes_eq k.text.now l.text.now)))
    ∙ turned (same_kind k.kind l.kind) (same_side k.side l.side) (k.arity == l.arity) (bytes_eq k.text.now l.text.now)
