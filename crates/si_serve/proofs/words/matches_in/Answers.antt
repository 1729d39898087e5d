-- The command is the one that the definitions speak of.
use Rattle.std.proofs.Common.{codes, ap, ap₂, refl, subst, true, ◌≡◌, ◌∙◌, Option, Some, None, map, string_bytes}
use Rattle.std.specs.Prelude.{IfErr, IfOk, IsErrAnd, IsSomeAnd, OnOk, Result, Ok, Err, []}
use Rattle.clap.specs.Words.{FailsBy, Kinds, fault_of, is_simple_and_free, kind_of}
use Rattle.clap.specs.declared.error.Error.{Error}
use Rattle.std.proofs.lemmas.Result.{IfErr-weaker, IfOk-weaker}
use Rattle.clap.specs.Words.{App, Rule, app_of, is_simple, matches_of, rule_of, takes, with_rule}
use Rattle.clap.specs.Simple.{app_of_fields, on_top}
use Rattle.clap.specs.Lexer.{usize_max}
use Rattle.clap.specs.declared.builder.arg.Arg.{Arg}
use Rattle.clap.specs.declared.builder.range.ValueRange.{ValueRange}
use Rattle.clap.specs.declared.builder.ArgAction.TheVariants.{Append, SetTrue}
use Rattle.clap.specs.declared.error.kind.ErrorKind.TheVariants.{OutOfMemory}
use Rattle.clap.proofs.OnLiterals.{clap_on_literals}
use Rattle.si_serve.specs.Words.{strict_rule, file_rule, program}
use Rattle.si_serve.proofs.words.matches_in.Goals as goal

is_program : is_simple program ≡ true
unfolding clap_on_literals
is_program = refl

is_free : is_simple_and_free program ≡ true
unfolding clap_on_literals
is_free = refl

-- what succeeds has no kind of fault
no_kind : {T : Type 0} (kinds : Kinds) (result : Result T Error) → FailsBy kinds result → OnOk result (kinds ≡ [])
no_kind kinds (Ok value) none = none
no_kind kinds (Err error) some = tt

abbrev any_number : ValueRange
any_number = record { start_inclusive = 0; end_inclusive = usize_max }

range_is : (o : Option ValueRange) → IsSomeAnd o (λ r. r ≡ any_number) → o ≡ Some any_number
range_is None h = absurd h
range_is (Some r) h = ap (λ (x : ValueRange). Some x) h

file_by : (made sized used : Arg) (rule : Rule) → rule_of made ≡ rule → sized ≡ record made { num_vals = sized.num_vals } → sized.num_vals ≡ Some any_number
    → used ≡ record sized { action = Some Append } → rule_of used ≡ record rule { action = Some Append; range = Some any_number }
file_by made sized used rule is sizes range uses =
    ap rule_of uses ∙ ap (λ (a : Arg). rule_of (record a { action = Some Append })) sizes
    ∙ ap₂ (λ (r : Rule) (o : Option ValueRange). record r { action = Some Append; range = o }) is range

-- ---- where memory runs out
not_ok : {T E : Type 0} (result : Result T E) (Q : E → Type 0) (P : T → Type 0) → IsErrAnd result Q → IfOk result P
not_ok (Ok value) Q P is = absurd is
not_ok (Err error) Q P is = tt

never_ok : {T E : Type 0} (result : Result T E) (Q : E → Type 0) (C : Type 0) → IsErrAnd result Q → OnOk result C
never_ok (Ok value) Q C is = absurd is
never_ok (Err error) Q C is = tt

of_memory : {T : Type 0} (result : Result T Error) (C : Type 0) → IsErrAnd result (λ e. kind_of e ≡ OutOfMemory)
    → IfErr result (λ e. C → kind_of e ≡ OutOfMemory)
of_memory (Ok value) C is = tt
of_memory (Err error) C is = λ c. is

pub returns-in_err-command-clause-ok : goal.returns-in_err-command-clause-ok
returns-in_err-command-clause-ok c = not_ok c.from_residual.result _ _ c.from_residual.ensures.1

pub returns-in_err-command-clause-faultless : goal.returns-in_err-command-clause-faultless
returns-in_err-command-clause-faultless c = never_ok c.from_residual.result _ _ c.from_residual.ensures.1

pub returns-in_err-command-clause-err : goal.returns-in_err-command-clause-err
returns-in_err-command-clause-err c = of_memory c.from_residual.result _ c.from_residual.ensures.1

pub returns-in_err-command-2-clause-ok : goal.returns-in_err-command-2-clause-ok
returns-in_err-command-2-clause-ok c = not_ok c.from_residual-in_err-command-2.result _ _ c.from_residual-in_err-command-2.ensures.1

pub returns-in_err-command-2-clause-faultless : goal.returns-in_err-command-2-clause-faultless
returns-in_err-command-2-clause-faultless c = never_ok c.from_residual-in_err-command-2.result _ _ c.from_residual-in_err-command-2.ensures.1

pub returns-in_err-command-2-clause-err : goal.returns-in_err-command-2-clause-err
returns-in_err-command-2-clause-err c = of_memory c.from_residual-in_err-command-2.result _ c.from_residual-in_err-command-2.ensures.1

pub returns : goal.returns
returns c =
    let strict_is : rule_of c.action-strict.result ≡ strict_rule = ap rule_of c.action-strict.ensures ∙ ap (λ (a : Arg). rule_of (record a { action = Some SetTrue })) c.long.ensures ∙ ap (λ (r : Rule). record r { long = Some (codes "strict"); action = Some SetTrue }) c.new.ensures.rule in
    let file_is : rule_of c.action-file.result ≡ file_rule =
    file_by c.new-3.result c.num_args.result c.action-file.result _ c.new-3.ensures.rule c.num_args.ensures.0 (range_is _ c.num_args.ensures.1) c.action-file.ensures in
    let bare_is : app_of c.no_binary_name.result ≡ on_top (λ s. record s { no_binary_name = true }) (app_of c.new-2.result) = ap app_of_fields c.no_binary_name.ensures in
    let command_is : app_of c.in_ok-command-2.command ≡ program = c.in_ok-command-2.ensures.shape (ap (λ (a : Arg). a.global) (c.action-file.ensures ∙ ap (λ (a : Arg). record a { action = Some Append }) c.num_args.ensures.0) ∙ c.new-3.ensures.optional.1)
    ∙ ap₂ with_rule (c.in_ok-command.ensures.shape (ap (λ (a : Arg). a.global) (c.action-strict.ensures ∙ ap (λ (a : Arg). record a { action = Some SetTrue }) c.long.ensures) ∙ c.new.ensures.optional.1) ∙ ap₂ with_rule (bare_is ∙ ap (on_top (λ s. record s { no_binary_name = true })) c.new-2.ensures.app) strict_is) file_is in
    record {
      ok = IfOk-weaker c.try_get_matches_from.result _ _ (λ m h. (h (ap is_simple command_is ∙ is_program)).0 ∙ ap (λ a. matches_of a (map string_bytes c.args.words.now)) command_is) c.try_get_matches_from.ensures.matches;
      faultless = no_kind _ c.try_get_matches_from.result (subst (λ (a : App). FailsBy (fault_of a (map string_bytes c.args.words.now)) c.try_get_matches_from.result) command_is (c.try_get_matches_from.ensures.kinds (ap is_simple_and_free command_is ∙ is_free)));
      err = IfErr-weaker c.try_get_matches_from.result _ _ (λ e h t. h (ap (λ a. takes a (map string_bytes c.args.words.now)) command_is ∙ t)) c.try_get_matches_from.ensures.passes;
    }
