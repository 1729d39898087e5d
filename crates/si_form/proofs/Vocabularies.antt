-- The symbols and variables with texts, and those with numbers.
use Rattle.std.proofs.Common.{◌≡◌, ◌+◌, true, ◌&&◌, ◌==◌, [], refl, ap, arith}
use Rattle.std.proofs.lemmas.Bool.{eqb-true, eq-eqb, and_parts}
use Rattle.si_defs.specs.Symbols.{Symbol, same_symbol}
use Rattle.si_defs.specs.Variables.{Variable, of_pattern, of_entry, same_variable}
use Rattle.si_defs.proofs.SymbolLaws.{symbol_is, symbol_self}
use Rattle.si_defs.proofs.VariableLaws.{variable_is, variable_self}
use Rattle.si_flat.specs.Cells as cells
use Rattle.si_flat.proofs.VariableLaws.{variable_is as number_is, variable_self as number_self}
use Rattle.si_form.proofs.Carrying.{Vocabulary}
use Rattle.si_form.specs.Folding.{same_numbered}

-- ---- texts
pub more_arguments : Symbol → Symbol
more_arguments s = record s { arity = 1 + s.arity }

pub more_differs : (s : Symbol) → more_arguments s ≡ s → ⊥
unfolding more_arguments
more_differs s h = let same : 1 + s.arity ≡ s.arity = ap (λ (r : Symbol). r.arity) h in omega (arith, same)

pub sides_apart : of_pattern [] ≡ of_entry [] → ⊥
sides_apart h = cc

abbrev pub with_texts : Vocabulary Symbol Variable
with_texts = record {
  same_symbol = same_symbol;
  symbol_tells = symbol_is;
  symbol_itself = symbol_self;
  other = more_arguments;
  differs = more_differs;
  same = same_variable;
  tells = variable_is;
  itself = variable_self;
  first = of_pattern [];
  second = of_entry [];
  apart = sides_apart;
}

-- ---- numbers
pub number_tells : (s r : cells.Symbol) → same_numbered s r ≡ true → s ≡ r
number_tells s r h =
    let parts = and_parts (s.number == r.number) (s.arity == r.arity) h in
    λ i. record { number = eqb-true s.number r.number parts.0 i; arity = eqb-true s.arity r.arity parts.1 i }

pub number_itself : (s : cells.Symbol) → same_numbered s s ≡ true
number_itself s = λ i. eq-eqb s.number s.number refl i && eq-eqb s.arity s.arity refl i

pub next_number : cells.Symbol → cells.Symbol
next_number s = record { number = 1 + s.number; arity = s.arity }

pub next_differs : (s : cells.Symbol) → next_number s ≡ s → ⊥
unfolding next_number
next_differs s h = let same : 1 + s.number ≡ s.number = ap (λ (r : cells.Symbol). r.number) h in omega (arith, same)

pub owners_apart : cells.query 0 ≡ cells.entry 0 → ⊥
owners_apart h = cc

abbrev pub with_numbers : Vocabulary cells.Symbol cells.Variable
with_numbers = record {
  same_symbol = same_numbered;
  symbol_tells = number_tells;
  symbol_itself = number_itself;
  other = next_number;
  differs = next_differs;
  same = cells.same_variable;
  tells = number_is;
  itself = number_self;
  first = cells.query 0;
  second = cells.entry 0;
  apart = owners_apart;
}
