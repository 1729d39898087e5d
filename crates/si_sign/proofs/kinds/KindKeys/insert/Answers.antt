use Rattle.std.proofs.Common.{◌≡◌, refl}
use Rattle.std.proofs.lemmas.Result.{on_err_weaker}
use Rattle.si_defs.specs.Bytes.{Bytes}
use Rattle.si_defs.specs.declared.SymKind.{SymKind}
use Rattle.si_defs.specs.declared.SymKind.TheVariants.{Word, Dollar, Number, Distinct, Equal}
use Rattle.si_sign.specs.Keys.{text_key, kind_key}
use Rattle.si_sign.specs.declared.texts.TextKeys.{TextKeys}
use Rattle.si_sign.specs.declared.kinds.KindKeys.{KindKeys}
use Rattle.si_sign.proofs.kinds.KindKeys.insert.Goals as goal

-- maps from texts with the same keys
abbrev Alike : TextKeys → TextKeys → Type 0
Alike one two = (text : Bytes) → text_key one text ≡ text_key two text

alike : (one two : KindKeys) → Alike one.words two.words → Alike one.dollars two.dollars → Alike one.numbers two.numbers → Alike one.distincts two.distincts
    → Alike one.equals two.equals → (kind : SymKind) (text : Bytes) → kind_key one kind text ≡ kind_key two kind text
alike one two words dollars numbers distincts equals Word text = words text
alike one two words dollars numbers distincts equals Dollar text = dollars text
alike one two words dollars numbers distincts equals Number text = numbers text
alike one two words dollars numbers distincts equals Distinct text = distincts text
alike one two words dollars numbers distincts equals Equal text = equals text

pub returns-in-Word-clause-err : goal.returns-in-Word-clause-err
returns-in-Word-clause-err c =
    on_err_weaker c.insert.result (λ h. alike (record { words = c.insert.new.self; dollars = c.args.self.now.dollars; numbers = c.args.self.now.numbers; distincts = c.args.self.now.distincts; equals = c.args.self.now.equals }) c.args.self.now h (λ t. refl) (λ t. refl) (λ t. refl) (λ t. refl)) c.insert.ensures.err

pub returns-in-Dollar-clause-err : goal.returns-in-Dollar-clause-err
returns-in-Dollar-clause-err c =
    on_err_weaker c.insert-in-Dollar.result (λ h. alike (record { words = c.args.self.now.words; dollars = c.insert-in-Dollar.new.self; numbers = c.args.self.now.numbers; distincts = c.args.self.now.distincts; equals = c.args.self.now.equals }) c.args.self.now (λ t. refl) h (λ t. refl) (λ t. refl) (λ t. refl)) c.insert-in-Dollar.ensures.err

pub returns-in-Number-clause-err : goal.returns-in-Number-clause-err
returns-in-Number-clause-err c =
    on_err_weaker c.insert-in-Number.result (λ h. alike (record { words = c.args.self.now.words; dollars = c.args.self.now.dollars; numbers = c.insert-in-Number.new.self; distincts = c.args.self.now.distincts; equals = c.args.self.now.equals }) c.args.self.now (λ t. refl) (λ t. refl) h (λ t. refl) (λ t. refl)) c.insert-in-Number.ensures.err

pub returns-in-Distinct-clause-err : goal.returns-in-Distinct-clause-err
returns-in-Distinct-clause-err c =
    on_err_weaker c.insert-in-Distinct.result (λ h. alike (record { words = c.args.self.now.words; dollars = c.args.self.now.dollars; numbers = c.args.self.now.numbers; distincts = c.insert-in-Distinct.new.self; equals = c.args.self.now.equals }) c.args.self.now (λ t. refl) (λ t. refl) (λ t. refl) h (λ t. refl)) c.insert-in-Distinct.ensures.err

pub returns-in-Equal-clause-err : goal.returns-in-Equal-clause-err
returns-in-Equal-clause-err c =
    on_err_weaker c.insert-in-Equal.result (λ h. alike (record { words = c.args.self.now.words; dollars = c.args.self.now.dollars; numbers = c.args.self.now.numbers; distincts = c.args.self.now.distincts; equals = c.insert-in-Equal.new.self }) c.args.self.now (λ t. refl) (λ t. refl) (λ t. refl) (λ t. refl) h) c.insert-in-Equal.ensures.err
