use Rattle.std.proofs.Common.{◌∙◌, ◌||◌, ap, ap₂, map}
use Rattle.centre_words.specs.Commands.{item_rule, with_rules}
use Rattle.centre_words.specs.Rows.{item_of}
use Rattle.centre_words.proofs.Rows.{item_goes_on}
use Rattle.centre_words.proofs.command.row_command.Goals as goal

pub loop-item-init : goal.loop-item-init
loop-item-init c = (ap (λ a. with_rules a (map item_rule (map item_of c.args.row.items.now))) c.bare_command-command.ensures.app, c.bare_command-command.ensures.local)

pub loop-item-preserved : goal.loop-item-preserved
loop-item-preserved c = (
  item_goes_on _ _ _ c.args.row.items.now c.loop-item.item-index _ _ c.loop-item-test.true c.item_arg.ensures.rule (c.in_ok-command.ensures.shape c.item_arg.ensures.local) c.loop-item.invariant.0,
  c.in_ok-command.ensures.globals ∙ ap₂ ◌||◌ c.loop-item.invariant.1 c.item_arg.ensures.local,
)
