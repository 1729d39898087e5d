-- A number is read back from its text.
use Rattle.std.proofs.Common.{◌≡◌, ℕ, ◌<◌, ◌^◌, sym, ◌∙◌, subst, arith}
use Rattle.std.specs.Prelude.{Bool, true, false, Result, Ok, Err, bytes_eq, decimal}
use Rattle.std.specs.Str.{IsUtf8}
use Rattle.std.specs.Str.Parse.{ParsesUnsigned}
use Rattle.std.proofs.lemmas.Str.{IsUtf8-from_ascii}
use Rattle.std.proofs.lemmas.Fmt.{IsAscii-decimal, parse-decimal}
use Rattle.si_defs.specs.Bytes.{Bytes}
use Rattle.si_defs.proofs.SymbolLaws.{text_self}

-- it is text
pub decimal_text : (text : Bytes) (n : ℕ) → n < 2 ^ 32 → text ≡ decimal n → IsUtf8 text
decimal_text text n small e = subst IsUtf8 (sym e) (IsUtf8-from_ascii (decimal n) (IsAscii-decimal n (omega (arith, small))))

-- and no other number is read of it, nor none
pub decimal_read : {E : Type 0} (text : Bytes) (n m : ℕ) (read : Result ℕ E) → n < 2 ^ 32 → text ≡ decimal n → ParsesUnsigned 32 10 text read → read ≡ Ok m → m ≡ n
decimal_read text n m read small e h is =
    let both : Ok m ≡ Ok n = sym is ∙ parse-decimal 32 n text read small (omega (arith, small)) e h in cc

pub decimal_refused : {E : Type 0} (text : Bytes) (n : ℕ) (e : E) (read : Result ℕ E) → n < 2 ^ 32 → text ≡ decimal n → ParsesUnsigned 32 10 text read → read ≡ Err e → ⊥
decimal_refused text n x read small e h is =
    let both = sym is ∙ parse-decimal 32 n text read small (omega (arith, small)) e h in cc

-- two texts that were found to differ
pub texts_differ : (b : Bool) (xs ys : Bytes) → b ≡ bytes_eq xs ys → b ≡ false → xs ≡ ys → ⊥
texts_differ b xs ys e f same =
    let yes : bytes_eq xs ys ≡ true = subst (λ t. bytes_eq xs t ≡ true) same (text_self xs) in
    let both : false ≡ true = sym f ∙ e ∙ yes in cc
