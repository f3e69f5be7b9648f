use Rattle.std.proofs.Common.{◌<◌, [], ◌∷◌, length, sym, subst, arith}
use Rattle.log_law.specs.Clauses.{IsClause}
use Rattle.formula_law.specs.Formula.{leave_clause, come_clause, there, made}
use Rattle.formula_parts.specs.Lists.{no_edge, edge_at}
use Rattle.formula_parts.specs.Building.{Takes}
use Rattle.flip_cnf.specs.Building.{changes}
use Rattle.formula_parts.proofs.Appending.{begun, takes_next, added, done, first_fits, first_room, second_takes, both_added, single_fits, single_room}
use Rattle.flip_cnf.proofs.build.changes.add_changes.Goals as goal

pub loop-e-init : goal.loop-e-init
loop-e-init c = begun (changes c.args.lists.now c.args.k c.args.t) c.args.lists.now.segments c.args.cnf.now

pub add-requires-clause-fits : goal.add-requires-clause-fits
add-requires-clause-fits c =
    let F = c.args.lists.now in
    let L = leave_clause F (there F) (made F c.args.k) c.args.t (edge_at F.segments c.loop-e.e) in
    let C = come_clause F (there F) (made F c.args.k) c.args.t (edge_at F.segments c.loop-e.e) in
    let l : c.loop-e.e < length F.segments = omega (arith, c.loop-e-test.true, c.segments-e-end.ensures.count) in
    let T : Takes c.loop-e.cnf (L ∷ C ∷ []) = takes_next (changes F c.args.k c.args.t) F.segments c.args.cnf.now c.loop-e.e no_edge c.loop-e.cnf l c.requires.takes c.loop-e.invariant in
    first_fits c.loop-e.cnf c.loop-e.cnf c.in_ok-left.left L C T c.in_ok-left.ensures

pub add-requires-clause-room : goal.add-requires-clause-room
add-requires-clause-room c =
    let F = c.args.lists.now in
    let L = leave_clause F (there F) (made F c.args.k) c.args.t (edge_at F.segments c.loop-e.e) in
    let C = come_clause F (there F) (made F c.args.k) c.args.t (edge_at F.segments c.loop-e.e) in
    let l : c.loop-e.e < length F.segments = omega (arith, c.loop-e-test.true, c.segments-e-end.ensures.count) in
    let T : Takes c.loop-e.cnf (L ∷ C ∷ []) = takes_next (changes F c.args.k c.args.t) F.segments c.args.cnf.now c.loop-e.e no_edge c.loop-e.cnf l c.requires.takes c.loop-e.invariant in
    first_room c.loop-e.cnf c.loop-e.cnf c.in_ok-left.left L C T c.in_ok-left.ensures

pub add-requires-in-loop-e-clause-fits : goal.add-requires-in-loop-e-clause-fits
add-requires-in-loop-e-clause-fits c =
    let F = c.args.lists.now in
    let L = leave_clause F (there F) (made F c.args.k) c.args.t (edge_at F.segments c.loop-e.e) in
    let C = come_clause F (there F) (made F c.args.k) c.args.t (edge_at F.segments c.loop-e.e) in
    let l : c.loop-e.e < length F.segments = omega (arith, c.loop-e-test.true, c.segments-e-end.ensures.count) in
    let T : Takes c.loop-e.cnf (L ∷ C ∷ []) = takes_next (changes F c.args.k c.args.t) F.segments c.args.cnf.now c.loop-e.e no_edge c.loop-e.cnf l c.requires.takes c.loop-e.invariant in
    subst (IsClause c.add.new.self.variables) (sym c.in_ok-came.ensures) (single_fits c.add.new.self C (second_takes c.loop-e.cnf c.add.new.self c.in_ok-left.left L C T c.in_ok-left.ensures c.in_ok-add.ensures.ok))

pub add-requires-in-loop-e-clause-room : goal.add-requires-in-loop-e-clause-room
add-requires-in-loop-e-clause-room c =
    let F = c.args.lists.now in
    let L = leave_clause F (there F) (made F c.args.k) c.args.t (edge_at F.segments c.loop-e.e) in
    let C = come_clause F (there F) (made F c.args.k) c.args.t (edge_at F.segments c.loop-e.e) in
    let l : c.loop-e.e < length F.segments = omega (arith, c.loop-e-test.true, c.segments-e-end.ensures.count) in
    let T : Takes c.loop-e.cnf (L ∷ C ∷ []) = takes_next (changes F c.args.k c.args.t) F.segments c.args.cnf.now c.loop-e.e no_edge c.loop-e.cnf l c.requires.takes c.loop-e.invariant in
    single_room c.add.new.self C (second_takes c.loop-e.cnf c.add.new.self c.in_ok-left.left L C T c.in_ok-left.ensures c.in_ok-add.ensures.ok)

pub loop-e-preserved : goal.loop-e-preserved
loop-e-preserved c =
    let F = c.args.lists.now in
    let L = leave_clause F (there F) (made F c.args.k) c.args.t (edge_at F.segments c.loop-e.e) in
    let C = come_clause F (there F) (made F c.args.k) c.args.t (edge_at F.segments c.loop-e.e) in
    let l : c.loop-e.e < length F.segments = omega (arith, c.loop-e-test.true, c.segments-e-end.ensures.count) in
    let T : Takes c.loop-e.cnf (L ∷ C ∷ []) = takes_next (changes F c.args.k c.args.t) F.segments c.args.cnf.now c.loop-e.e no_edge c.loop-e.cnf l c.requires.takes c.loop-e.invariant in
    added (changes F c.args.k c.args.t) F.segments c.args.cnf.now c.loop-e.e no_edge c.loop-e.cnf c.add-in-loop-e.new.self l c.loop-e.invariant
    (both_added c.loop-e.cnf c.add.new.self c.in_ok-left.left L C T c.in_ok-left.ensures c.in_ok-add.ensures.ok c.add-in-loop-e.new.self c.in_ok-came.came c.in_ok-came.ensures c.in_ok-add-2.ensures.ok)

pub returns : goal.returns
returns c = done (changes c.args.lists.now c.args.k c.args.t) c.args.lists.now.segments c.args.cnf.now c.loop-e.e c.loop-e.cnf (omega (arith, c.segments-e-end.ensures.count)) c.loop-e.invariant
