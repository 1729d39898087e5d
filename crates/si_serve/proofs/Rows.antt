-- What `clap` shows of its matches is what stands in their rows.
use Rattle.std.proofs.Common.{◌≡◌, ◌∙◌, List, [], ◌∷◌, map, Option, Some, None, refl, ap}
use Rattle.std.specs.Prelude.{find, option_map, option_and_then, slice_get}
use Rattle.std.specs.Str.{bytes_eq}
use Rattle.std.specs.Borrow.{Bor}
use Rattle.si_defs.specs.Bytes.{Bytes}
use Rattle.clap.specs.Words.{Row, all_of, first_of, first_value, matched_of, raw_values, rows_of}
use Rattle.clap.specs.Walk.{row_of}
use Rattle.clap.specs.Facts.{Entry}
use Rattle.clap.specs.declared.parser.matches.Found.{Found}
use Rattle.clap.specs.declared.parser.matches.MatchedArg.{MatchedArg}
use Rattle.clap.proofs.WalkLemmas.{find-map}

found_row : (f : Found) (id : Bytes) → option_map row_of (find (λ (e : Entry). bytes_eq e.0.now id) f.entries.items) ≡ find (λ (r : Row). bytes_eq r.id id) (rows_of f)
found_row f id = find-map (λ (r : Row). bytes_eq r.id id) row_of f.entries.items

pub first_is : (f : Found) (id : Bytes) → first_value f id ≡ first_of id (rows_of f)
first_is f id = by (find (λ (e : Entry). bytes_eq e.0.now id) f.entries.items) ∙ ap (option_and_then (λ (r : Row). slice_get r.values 0)) (found_row f id) where
  by : (o : Option Entry) → option_and_then (λ (a : MatchedArg). option_map (λ s. s.now) (slice_get a.vals.items 0)) (option_map (λ (e : Entry). e.1) o)
      ≡ option_and_then (λ (r : Row). slice_get r.values 0) (option_map row_of o)
  by None = refl
  by (Some e) = first e.1.vals.items where
    first : (vs : List (Bor Bytes)) → option_map (λ s. s.now) (slice_get vs 0) ≡ slice_get (map (λ s. s.now) vs) 0
    first [] = refl
    first (v ∷ vs) = refl

pub all_is : (f : Found) (id : Bytes) → option_map raw_values (matched_of f id) ≡ all_of id (rows_of f)
all_is f id = by (find (λ (e : Entry). bytes_eq e.0.now id) f.entries.items) ∙ ap (option_map (λ (r : Row). r.values)) (found_row f id) where
  by : (o : Option Entry) → option_map raw_values (option_map (λ (e : Entry). e.1) o) ≡ option_map (λ (r : Row). r.values) (option_map row_of o)
  by None = refl
  by (Some e) = refl
