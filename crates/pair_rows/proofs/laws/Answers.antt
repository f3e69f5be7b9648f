use Rattle.pair_rows.proofs.Formulas.{frames_dont_matter, few_rounds}
use Rattle.pair_rows.proofs.RowLaws.{justified_rows_are_true}
use Rattle.pair_rows.proofs.laws.Goals as goal

pub returns : goal.returns
returns _ = record { justified_rows_are_true = justified_rows_are_true; frames_dont_matter = frames_dont_matter; formulas_have_few_rounds = few_rounds }
