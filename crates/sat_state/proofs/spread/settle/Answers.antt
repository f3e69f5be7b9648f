use Rattle.std.proofs.Common.{◌+◌, refl, sym, subst, []}
use Rattle.log_law.specs.Units.{Partial, IsStill}
use Rattle.log_law.specs.Trails.{literals}
use Rattle.sat_state.specs.Searches.{IsSearch}
use Rattle.sat_state.specs.Tables.{Table, search_of, clause_no}
use Rattle.sat_state.proofs.Stepping.{literals_push}
use Rattle.sat_state.proofs.Settling.{unit_range, unit_made, unit_step, search_unit}
use Rattle.sat_state.proofs.spread.settle.Goals as goal

pub push-requires-clause-in_range : goal.push-requires-clause-in_range
push-requires-clause-in_range c =
    unit_range c.args.table.now.variables (literals c.args.table.now.steps) (clause_no c.args.table.now.clauses c.args.c) c.in-Unit.l (c.requires.search.clauses_fit c.args.c [] c.requires.within) c.in-Unit.ensures

pub returns-in-Unit-clause-search : goal.returns-in-Unit-clause-search
returns-in-Unit-clause-search c =
    subst (λ (t : Table). IsSearch (search_of t c.args.level)) (sym c.push.ensures)
    (search_unit c.args.table.now c.args.level c.args.c (c.args.c + 1) c.in-Unit.l c.requires.search c.requires.within refl c.in-Unit.ensures)

pub returns-in-Unit-clause-still : goal.returns-in-Unit-clause-still
returns-in-Unit-clause-still c = λ e.
    subst (λ (t : Table). IsStill (literals t.steps) (clause_no t.clauses c.args.c)) (sym c.push.ensures)
    (subst (λ (P : Partial). IsStill P (clause_no c.args.table.now.clauses c.args.c)) (sym (literals_push c.args.table.now.steps (unit_step c.in-Unit.l c.args.level (c.args.c + 1))))
    (unit_made (literals c.args.table.now.steps) (clause_no c.args.table.now.clauses c.args.c) c.in-Unit.l c.in-Unit.ensures))
