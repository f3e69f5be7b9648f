use Rattle.std.proofs.Common.{◌∙◌, ◌++◌, ◌∷◌, [], ap}
use Rattle.sat_state.specs.Searches.{Search}
use Rattle.sat_state.proofs.States.{fits_formula, taken_more, fresh_search}
use Rattle.sat_state.proofs.state.State.of.Goals as goal

pub hold-requires-clause-fits : goal.hold-requires-clause-fits
hold-requires-clause-fits c =
    fits_formula c.args.cnf.now.variables c.loop-i.made.variables c.args.cnf.now.clauses c.loop-i.i c.clause.result.now c.in_ok-copy.field-0 c.vars.ensures.formula c.clause.ensures c.in_ok-copy.ensures (ap (λ (s : Search). s.variables) c.loop-i.invariant)

pub loop-i-preserved : goal.loop-i-preserved
loop-i-preserved c =
    c.in_ok-hold.ensures.ok
    ∙ (ap (λ (s : Search). record s { clauses = s.clauses ++ c.in_ok-copy.field-0 ∷ [] }) c.loop-i.invariant
    ∙ ap (fresh_search c.args.cnf.now.variables) (taken_more c.args.cnf.now.clauses c.loop-i.i c.clause.result.now c.in_ok-copy.field-0 c.clause.ensures c.in_ok-copy.ensures))
