use Rattle.si_flat.specs.declared.Cell.TheVariants as cell
use Rattle.si_tree.specs.declared.node.Head.TheVariants as head
use Rattle.si_descend.proofs.HeadLaws.{symbols_apart, symbol_entry, entry_symbol, query_symbol, entries_apart, cannot_have, cannot_have_symbol, cannot_have_entry, told_apart}
use Rattle.si_descend.proofs.heads.clash.Goals as goal

pub returns-then-sym-s : goal.returns-then-sym-s
returns-then-sym-s c e =
    let first = cell.App c.in-App.sym c.in-App.arity c.in-App.len in
    cannot_have c.args.relation c.args.slots.now c.args.first first c.args.head (head.Sym c.in-Sym.s c.in-Sym.a) c.in-App.is c.in-Sym.is
    (cannot_have_symbol c.args.relation c.args.slots.now first c.in-Sym.s c.in-Sym.a
    (λ n. symbols_apart c.args.relation c.args.slots.now c.in-App.sym c.in-App.arity c.in-App.len c.in-Sym.s c.in-Sym.a n (λ p. c.if-sym-s.true p.0)))

pub returns-else-sym-s : goal.returns-else-sym-s
returns-else-sym-s c e =
    let first = cell.App c.in-App.sym c.in-App.arity c.in-App.len in
    cannot_have c.args.relation c.args.slots.now c.args.first first c.args.head (head.Sym c.in-Sym.s c.in-Sym.a) c.in-App.is c.in-Sym.is
    (cannot_have_symbol c.args.relation c.args.slots.now first c.in-Sym.s c.in-Sym.a
    (λ n. symbols_apart c.args.relation c.args.slots.now c.in-App.sym c.in-App.arity c.in-App.len c.in-Sym.s c.in-Sym.a n (λ p. told_apart c.in-App.arity c.in-Sym.a e p.1)))

pub returns-in-Var : goal.returns-in-Var
returns-in-Var c e =
    let first = cell.App c.in-App.sym c.in-App.arity c.in-App.len in
    cannot_have c.args.relation c.args.slots.now c.args.first first c.args.head (head.Var c.in-Var.field-0) c.in-App.is c.in-Var.is
    (cannot_have_entry c.args.relation c.args.slots.now first c.in-Var.field-0
    (symbol_entry c.args.relation c.args.slots.now c.in-App.sym c.in-App.arity c.in-App.len c.in-Var.field-0 (c.keeps_variables.ensures.0 e)))

pub returns-in-Query : goal.returns-in-Query
returns-in-Query c e =
    let first = cell.Query c.in-Query.field-0 in
    cannot_have c.args.relation c.args.slots.now c.args.first first c.args.head (head.Sym c.in-Sym-head.sym c.in-Sym-head.arity) c.in-Query.is c.in-Sym-head.is
    (cannot_have_symbol c.args.relation c.args.slots.now first c.in-Sym-head.sym c.in-Sym-head.arity
    (λ n. query_symbol c.args.relation c.args.slots.now c.in-Sym-head.sym c.in-Sym-head.arity n c.in-Query.field-0 e))

pub returns-in-Entry : goal.returns-in-Entry
returns-in-Entry c e =
    let first = cell.Entry c.in-Entry.field-0 in
    cannot_have c.args.relation c.args.slots.now c.args.first first c.args.head (head.Sym c.in-Sym-head.sym c.in-Sym-head.arity) c.in-Entry.is c.in-Sym-head.is
    (cannot_have_symbol c.args.relation c.args.slots.now first c.in-Sym-head.sym c.in-Sym-head.arity
    (λ n. entry_symbol c.args.relation c.args.slots.now c.in-Sym-head.sym c.in-Sym-head.arity n c.in-Entry.field-0 e))

pub returns-then-m-n : goal.returns-then-m-n
returns-then-m-n c e =
    let first = cell.Entry c.in-Entry-first.m in
    cannot_have c.args.relation c.args.slots.now c.args.first first c.args.head (head.Var c.in-Var-head.n) c.in-Entry-first.is c.in-Var-head.is
    (cannot_have_entry c.args.relation c.args.slots.now first c.in-Var-head.n
    (entries_apart c.args.relation c.args.slots.now c.in-Entry-first.m c.in-Var-head.n e c.if-m-n.true))
