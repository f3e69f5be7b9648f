use Rattle.std.proofs.Common.{length, ap, arith}
use Rattle.formula_law.specs.Frames.{Frame}
use Rattle.pruned_cnf.specs.Queries.{live_in}
use Rattle.pruned_cnf.proofs.FewVariables.{few_variables}
use Rattle.pruned_cnf.proofs.numbering.Numbering.of.Goals as goal

pub number_places-requires : goal.number_places-requires
number_places-requires c = let q = c.args.query.now in omega (arith, few_variables q.frame (live_in q) q.rounds q.from q.to, c.requires, c.segments.ensures.few, c.segments.ensures.count, ap (λ (F : Frame). length F.segments) c.lists.ensures.lists)

pub number_flips-requires-clause-few : goal.number_flips-requires-clause-few
number_flips-requires-clause-few c = let q = c.args.query.now in omega (arith, few_variables q.frame (live_in q) q.rounds q.from q.to, c.requires, c.segments.ensures.few, c.segments.ensures.count, ap (λ (F : Frame). length F.segments) c.lists.ensures.lists)
