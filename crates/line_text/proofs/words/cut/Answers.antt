use Rattle.std.proofs.Common.{◌+◌}
use Rattle.std.proofs.lemmas.List.{take_rest}
use Rattle.line_text.proofs.Cuts.{cut_found, cut_nowhere}
use Rattle.line_text.proofs.words.cut.Goals as goal

pub returns-in-Some-clause-cut : goal.returns-in-Some-clause-cut
returns-in-Some-clause-cut c =
    let found = c.in-Some.ensures in
    rw (take_rest c.args.text.now (c.in-Some.i + 1)) (cut_found c.args.at c.in-Some.i c.args.text.now found.0.high found.0.before found.1)

pub returns-in-None-clause-cut : goal.returns-in-None-clause-cut
returns-in-None-clause-cut c = cut_nowhere c.args.at c.args.text.now c.in-None.ensures
