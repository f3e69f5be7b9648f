use Rattle.std.proofs.Common.{◌≡◌, drop, map, false}
use Rattle.clap.specs.Words.{app_of}
use Rattle.clap.specs.declared.builder.command.Command.TheViews.{out-Command}
use Rattle.centre_words.specs.Commands.{app_of_row, item_rule, with_rules}
use Rattle.centre_words.specs.Rows.{item_of, row_of}
use Rattle.centre_words.proofs.command.row_command.Given as goal

abbrev pub invariant-loop-item : goal.invariant-loop-item
invariant-loop-item l =
    (with_rules (app_of l.command) (map item_rule (map item_of (drop l.item-index l.row.items.now))) ≡ app_of_row (row_of l.row)) × ((out-Command l.command).has_globals ≡ false)
