use Rattle.std.proofs.Common.{◌≡◌, ◌∙◌, true, false, List, sym, ap, subst, arith}
use Rattle.log_law.specs.declared.Step.{Step}
use Rattle.sat_state.specs.Tables.{Table, IsLevelled}
use Rattle.sat_state.proofs.Levels.{levelled_last, levelled_pop, kept_all, kept_less, up_to_level, none_from, some_from}
use Rattle.sat_state.proofs.Settling.{same_back}
use Rattle.sat_state.proofs.state.drop_above.Goals as goal

pub loop-held-preserved-then-is_none : goal.loop-held-preserved-then-is_none
loop-held-preserved-then-is_none c =
    let steps = ap (λ (t : Table). t.steps) c.pop-step.ensures in
    let L = subst (λ (ss : List Step). IsLevelled ss c.loop-held.held) steps c.loop-held.invariant.levelled in
    let top = levelled_last c.pop-step.new.self.steps c.pop-step.result c.loop-held.held L in
    record {
      same = same_back c.args.table.now c.loop-held.table c.pop-step.new.self c.pop-step.result c.loop-held.invariant.same c.pop-step.ensures;
      levelled = levelled_pop c.pop-step.new.self.steps c.pop-step.result c.loop-held.held _ true L (none_from c.pop-step.result.reason (sym c.if-is_none.ensures)) (omega (arith, c.loop-held-test.true));
      lower = omega (arith, c.loop-held-test.true);
      kept = kept_less c.pop-step.new.self.steps c.pop-step.result c.args.level (omega (arith, top, c.loop-held-test.true)) ∙ (ap (up_to_level c.args.level) (sym steps) ∙ c.loop-held.invariant.kept);
    }

pub loop-held-preserved : goal.loop-held-preserved
loop-held-preserved c =
    let steps = ap (λ (t : Table). t.steps) c.pop-step.ensures in
    let L = subst (λ (ss : List Step). IsLevelled ss c.loop-held.held) steps c.loop-held.invariant.levelled in
    let top = levelled_last c.pop-step.new.self.steps c.pop-step.result c.loop-held.held L in
    record {
      same = same_back c.args.table.now c.loop-held.table c.pop-step.new.self c.pop-step.result c.loop-held.invariant.same c.pop-step.ensures;
      levelled = levelled_pop c.pop-step.new.self.steps c.pop-step.result c.loop-held.held c.loop-held.held false L (some_from c.pop-step.result.reason (sym c.if-is_none.ensures)) (omega arith);
      lower = c.loop-held.invariant.lower;
      kept = kept_less c.pop-step.new.self.steps c.pop-step.result c.args.level (omega (arith, top, c.loop-held-test.true)) ∙ (ap (up_to_level c.args.level) (sym steps) ∙ c.loop-held.invariant.kept);
    }

pub returns-clause-steps : goal.returns-clause-steps
returns-clause-steps c =
    let e : c.loop-held.held ≡ c.args.level = omega (arith, c.loop-held-test.false, c.loop-held.invariant.lower) in
    let L = subst (IsLevelled c.loop-held.table.steps) e c.loop-held.invariant.levelled in
    c.loop-held.invariant.same ∙ ap (λ (steps : List Step). record c.args.table.now { steps = steps }) (sym (kept_all c.loop-held.table.steps c.args.level L) ∙ c.loop-held.invariant.kept)
