use Rattle.std.proofs.Common.{[], ◌∷◌, reverse, Some, sym, ◌∙◌, ap}
use Rattle.std.proofs.lemmas.List.{reverse-append}
use Rattle.si_form.proofs.FoldingLaws.{descending_begins, descending_more, descending_lower, descending_ends, symbol_before, symbol_no_variable, symbol_there}
use Rattle.si_form.proofs.folding.descend.Goals as goal

pub loop-before-init : goal.loop-before-init
loop-before-init c = record {
  is_descending = descending_begins c.args.nodes.now.keys (reverse c.args.left.now.items) c.args.class;
  has_symbol = c.requires;
}

pub loop-before-smaller : goal.loop-before-smaller
loop-before-smaller c =
    descending_lower c.args.nodes.now.keys c.loop-before.front c.in-Some-With.before c.in-Some-With.argument c.loop-before.invariant.has_symbol
    (ap Some (sym c.in-Some-With.field-0-is) ∙ c.in-Some-With.ensures.key)

pub loop-before-preserved : goal.loop-before-preserved
loop-before-preserved c = record {
  is_descending =
      descending_more c.args.nodes.now.keys (reverse c.args.left.now.items) (reverse c.loop-before.left.items) _ c.args.class c.loop-before.front c.in-Some-With.before c.in-Some-With.argument c.loop-before.invariant.is_descending
      (ap Some (sym c.in-Some-With.field-0-is) ∙ c.in-Some-With.ensures.key)
      (ap reverse c.in_ok-push-in-Some-With.ensures.items ∙ reverse-append c.loop-before.left.items (c.in-Some-With.argument ∷ []));
  has_symbol =
      symbol_before c.args.nodes.now.keys c.loop-before.front c.in-Some-With.before c.in-Some-With.argument c.loop-before.invariant.has_symbol
      (ap Some (sym c.in-Some-With.field-0-is) ∙ c.in-Some-With.ensures.key);
}

pub returns-in-Some-Head : goal.returns-in-Some-Head
returns-in-Some-Head c =
    descending_ends c.args.nodes.now.keys (reverse c.args.left.now.items) (reverse c.loop-before.left.items) c.args.class c.loop-before.front c.in-Some-Head.sym c.in-Some-Head.arity c.loop-before.invariant.is_descending
    (ap Some (sym c.in-Some-Head.field-0-is) ∙ c.in-Some-Head.ensures.key)

pub unreachable-requires : goal.unreachable-requires
unreachable-requires c =
    symbol_no_variable c.args.nodes.now.keys c.loop-before.front c.in-Some-Variable.field-0-0 c.loop-before.invariant.has_symbol
    (ap Some (sym c.in-Some-Variable.field-0-is) ∙ c.in-Some-Variable.ensures.key)

pub unreachable-requires-in-None : goal.unreachable-requires-in-None
unreachable-requires-in-None c = symbol_there c.args.nodes.now.keys c.loop-before.front c.loop-before.invariant.has_symbol c.in-None.ensures.key
