-- The commands of the program, as `clap` sees them, and what its matches ask for.
use Rattle.std.specs.Prelude.{◌≡◌, ◌++◌, [], ◌∷◌, List, codes, Some, true, map, option_to_list}
use Rattle.std.specs.List.{fold}
use Rattle.clap.specs.Walk.{Row as Found, Rule, Text, first_of}
use Rattle.clap.specs.Simple.{App, new_shape, new_rule, with_subcommand}
use Rattle.clap.specs.declared.builder.action.ArgAction.TheVariants.{Set}
use Rattle.centre_words.specs.Table.{Item, Row, file, count, choice, workers, turns, seed, flips, input, bench_seed, bench_points, bench_inputs, table}
use Rattle.centre_words.specs.Words.{AllDiffer, IsChosen}
use Rattle.centre_words.specs.declared.asked.Asked.{Asked}
use Rattle.centre_words.specs.declared.asked.Asked.TheVariants as asked

abbrev pub place_rule : Text → Rule
place_rule id = record (new_rule id) { action = Some Set }

-- an option with one value
abbrev pub option_rule : Text → Rule
option_rule id = record (new_rule id) { long = Some id; action = Some Set }

abbrev pub item_rule : Item → Rule
item_rule (file id) = place_rule id
item_rule (count number) = place_rule number.name
item_rule (choice number) = option_rule number.name

abbrev pub with_rules : App → List Rule → App
with_rules a rules = record a { top = record a.top { rules = a.top.rules ++ rules } }

-- a command with no help and no version
abbrev pub bare : Text → App
bare name = record { top = record (new_shape name) { disable_help_flag = true; disable_version_flag = true }; subs = [] }

abbrev pub app_of_row : Row → App
app_of_row row = with_rules (bare row.name) (map item_rule row.items)

abbrev pub top_app : App
top_app = record {
  top = record (new_shape (codes "flipcentre")) {
    disable_help_flag = true;
    disable_version_flag = true;
    disable_help_subcommand = true;
    no_binary_name = true;
    subcommand_required = true;
  };
  subs = [];
}

abbrev pub with_commands : App → List Row → App
with_commands a rows = fold (λ above row. with_subcommand above (app_of_row row).top) a rows

abbrev pub the_app : App
the_app = with_commands top_app table

-- the first value of an argument, as a list
abbrev pub values_in : List Found → Text → List Text
values_in found id = option_to_list (first_of id found)

-- the matches of a command ask for this
abbrev pub AsksBy : Text → List Found → Asked → Type 0
AsksBy command found (asked.Check instance) = (command ≡ codes "check") × (first_of (codes "instance") found ≡ Some instance)
AsksBy command found (asked.Score instance solution) =
    (command ≡ codes "score") × (first_of (codes "instance") found ≡ Some instance) × (first_of (codes "solution") found ≡ Some solution)
AsksBy command found (asked.Solve instance solution certificate n_workers n_turns n_seed n_flips) =
    (command ≡ codes "solve") × (first_of (codes "instance") found ≡ Some instance) × (first_of (codes "solution") found ≡ Some solution)
    × (first_of (codes "certificate") found ≡ Some certificate) × AllDiffer (instance ∷ solution ∷ certificate ∷ [])
    × IsChosen workers (values_in found workers.name) (Some n_workers) × IsChosen turns (values_in found turns.name) (Some n_turns)
    × IsChosen seed (values_in found seed.name) (Some n_seed) × IsChosen flips (values_in found flips.name) n_flips
AsksBy command found (asked.Verify instance solution certificate) =
    (command ≡ codes "verify") × (first_of (codes "instance") found ≡ Some instance) × (first_of (codes "solution") found ≡ Some solution)
    × (first_of (codes "certificate") found ≡ Some certificate)
AsksBy command found (asked.Trace instance t) =
    (command ≡ codes "trace") × (first_of (codes "instance") found ≡ Some instance) × IsChosen input (values_in found input.name) (Some t)
AsksBy command found (asked.Bench n_seed n_points n_inputs) =
    (command ≡ codes "bench") × IsChosen bench_seed (values_in found bench_seed.name) (Some n_seed) × IsChosen bench_points (values_in found bench_points.name) (Some n_points)
    × IsChosen bench_inputs (values_in found bench_inputs.name) (Some n_inputs)
