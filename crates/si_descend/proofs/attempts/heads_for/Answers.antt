use Rattle.std.proofs.Common.{sym, ◌+◌, subst}
use Rattle.si_descend.specs.Attempts.{AreHeadsFor}
use Rattle.si_descend.proofs.PlaceLaws.{heads_of_symbol, head_of_symbol, heads_of_query, head_of_entry}
use Rattle.si_descend.proofs.attempts.heads_for.Goals as goal

pub returns-then-keeps_variables : goal.returns-then-keeps_variables
returns-then-keeps_variables c = subst (λ f. AreHeadsFor c.args.relation c.args.slots.now c.args.vars f 1) (sym c.in-App.is) (head_of_symbol c.args.relation c.args.slots.now c.args.vars c.in-App.sym c.in-App.arity c.in-App.len (c.keeps_variables.ensures.0 c.if-keeps_variables.true))

pub returns-else-keeps_variables : goal.returns-else-keeps_variables
returns-else-keeps_variables c = subst (λ f. AreHeadsFor c.args.relation c.args.slots.now c.args.vars f (1 + c.args.vars)) (sym c.in-App.is) (heads_of_symbol c.args.relation c.args.slots.now c.args.vars c.in-App.sym c.in-App.arity c.in-App.len)

pub returns-then-slots : goal.returns-then-slots
returns-then-slots c = subst (λ f. AreHeadsFor c.args.relation c.args.slots.now c.args.vars f 1) (sym c.in-Entry.is) (head_of_entry c.args.relation c.args.slots.now c.args.vars c.in-Entry.field-0 c.if-slots.true)

pub returns-then-slots-2 : goal.returns-then-slots-2
returns-then-slots-2 c = subst (λ f. AreHeadsFor c.args.relation c.args.slots.now c.args.vars f (1 + c.args.vars)) (sym c.in-Query.is) (heads_of_query c.args.relation c.args.slots.now c.args.vars c.in-Query.field-0 c.if-slots-2.true)
