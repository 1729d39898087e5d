use Rattle.std.proofs.Common.{sym, ap, ◌∙◌}
use Rattle.std.proofs.lemmas.Bool.{false≢true}
use Rattle.si_term.specs.Meaning.{name_of}
use Rattle.si_sign.specs.Hashed.{hashed_key}
use Rattle.si_index.proofs.FoundNames.{key_unknown, name_differs, name_agrees}
use Rattle.si_index.proofs.names.ClauseNames.get.Goals as goal

pub returns-in_default-get : goal.returns-in_default-get
returns-in_default-get c =
    let names = c.args.self.now in
    c.get-in_default-get.ensures
    ∙ sym (key_unknown c.args.clauses.now.items names (name_of c.args.name.now) c.in-Some.key (ap (hashed_key names.hashed) (sym c.as_bytes.ensures) ∙ sym c.get.ensures ∙ c.in-Some.is) c.in_default-get.ensures.none)

pub returns-then-is_same_name : goal.returns-then-is_same_name
returns-then-is_same_name c =
    let names = c.args.self.now in
    sym (name_agrees c.args.clauses.now.items names (name_of c.args.name.now) c.in-Some.key (ap (hashed_key names.hashed) (sym c.as_bytes.ensures) ∙ sym c.get.ensures ∙ c.in-Some.is) c.in-Some-get.kept.now
    c.in-Some-get.ensures.some (c.is_same_name.ensures.0 c.if-is_same_name.true))

pub returns : goal.returns
returns c =
    let names = c.args.self.now in
    c.get-3.ensures
    ∙ sym (name_differs c.args.clauses.now.items names (name_of c.args.name.now) c.in-Some.key (ap (hashed_key names.hashed) (sym c.as_bytes.ensures) ∙ sym c.get.ensures ∙ c.in-Some.is) c.requires c.in-Some-get.kept.now
    c.in-Some-get.ensures.some (λ e. false≢true (sym c.if-is_same_name.false ∙ c.is_same_name.ensures.1 e)))
