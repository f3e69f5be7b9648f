-- The matches of a parse, as the getters read them.
use Rattle.std.proofs.Common.{◌≡◌, ◌∙◌, List, Option, Some, None, refl, sym, ap, option_map, Box}
use Rattle.std.specs.Box.{box_value}
use Rattle.clap.specs.Walk.{Row, Text}
use Rattle.clap.specs.Matches.{subcommand_name_of}
use Rattle.clap.specs.Simple.{subcommand_rows, subcommand_rows_of}
use Rattle.clap.specs.declared.parser.matches.ArgMatches.{ArgMatches}
use Rattle.clap.specs.declared.parser.matches.ArgMatches.TheViews.{out-ArgMatches, out-SubCommand}
use Rattle.clap.specs.declared.parser.matches.SubCommand.{SubCommand}

name_in_rows : {Z : Type 0} (o : Option (Box SubCommand Z)) → option_map (λ b. (out-SubCommand (box_value b)).name.now) o ≡ option_map (λ p. p.0) (subcommand_rows o)
name_in_rows None = refl
name_in_rows (Some b) = refl

-- what the getters read is what the words name
pub found_is : (matches : ArgMatches) (command : Text) (found : List Row) (o : Option (Text × List Row)) → subcommand_rows_of matches ≡ o → Some command ≡ subcommand_name_of matches
    → Some found ≡ option_map (λ p. p.1) (subcommand_rows_of matches) → o ≡ Some (command, found)
found_is matches command found o same name rows =
    let n : Some command ≡ option_map (λ p. p.0) o = name ∙ name_in_rows (out-ArgMatches matches).subcommand ∙ ap (option_map (λ p. p.0)) same in
    pair_of o command found n (rows ∙ ap (option_map (λ p. p.1)) same)
  where
    pair_of : (p : Option (Text × List Row)) (c : Text) (f : List Row) → Some c ≡ option_map (λ q. q.0) p → Some f ≡ option_map (λ q. q.1) p → p ≡ Some (c, f)
    pair_of None c f n r = cc
    pair_of (Some q) c f n r = let e : c ≡ q.0 = cc n in let k : f ≡ q.1 = cc r in λ i. Some (sym e i, sym k i)
