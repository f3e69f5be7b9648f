use Rattle.std.proofs.Common.{◌≡◌, drop}
use Rattle.clap.specs.Words.{app_of}
use Rattle.centre_words.specs.Commands.{the_app, with_commands}
use Rattle.centre_words.specs.Rows.{rows_of}
use Rattle.centre_words.proofs.command.command.Given as goal

abbrev pub invariant-loop-row : goal.invariant-loop-row
invariant-loop-row l = with_commands (app_of l.command) (rows_of (drop l.row-index l.row-items)) ≡ the_app
