use Rattle.std.proofs.Common.{◌≡◌, ℕ, Some, None, sym, ap, ◌∙◌, subst, arith}
use Rattle.sat_search.proofs.Learning.{IsMet, highest_more, highest_all, met_here}
use Rattle.sat_search.proofs.lesson.level_below.Goals as goal
use Rattle.sat_search.proofs.lesson.level_below.Goals.{in-Some+then-held-level+then-held-lower, in-Some+else-held-level, else-held-level-via-then-held-level+else-held-lower, else-held-level-via-else-held-level, in_default}

some_same : (m n : ℕ) → Some m ≡ Some n → m ≡ n
some_same m n e = cc

some_none : (n : ℕ) → Some n ≡ None → ⊥
some_none n e = cc

pub loop-i-preserved : goal.loop-i-preserved
loop-i-preserved c =
    elim c.match-level_of.branch [
      | in-Some+then-held-level+then-held-lower w ↦ record {
        below = omega arith;
        highest = highest_more c.args.state.now c.args.clause.now c.loop-i.i c.at.result.now c.level_of.result c.loop-i.lower c.match-level_of.lower c.at.ensures c.level_of.ensures (omega arith)
            (λ n e b. let f = some_same n w.in-Some.held (sym e ∙ w.in-Some.is) in omega arith) c.loop-i.invariant.highest;
        met = met_here c.args.state.now c.args.clause.now c.loop-i.i c.at.result.now c.level_of.result c.match-level_of.lower c.at.ensures c.level_of.ensures (w.in-Some.is ∙ ap (λ (n : ℕ). Some n) (sym w.lower-is));
      }
      | in-Some+else-held-level w ↦ record {
        below = omega arith;
        highest = highest_more c.args.state.now c.args.clause.now c.loop-i.i c.at.result.now c.level_of.result c.loop-i.lower c.match-level_of.lower c.at.ensures c.level_of.ensures (omega arith)
            (elim w.else-held-level.branch [
              | else-held-level-via-then-held-level+else-held-lower u ↦ λ n e b. let f = some_same n w.in-Some.held (sym e ∙ w.in-Some.is) in omega arith
              | else-held-level-via-else-held-level u ↦ λ n e b. let f = some_same n w.in-Some.held (sym e ∙ w.in-Some.is) in omega arith
            ]) c.loop-i.invariant.highest;
        met = subst (IsMet c.args.state.now c.args.clause.now) (sym w.lower-is) c.loop-i.invariant.met;
      }
      | in_default w ↦ record {
        below = omega arith;
        highest = highest_more c.args.state.now c.args.clause.now c.loop-i.i c.at.result.now c.level_of.result c.loop-i.lower c.match-level_of.lower c.at.ensures c.level_of.ensures (omega arith)
            (λ n e b. absurd (some_none n (sym e ∙ w.in_default.is))) c.loop-i.invariant.highest;
        met = subst (IsMet c.args.state.now c.args.clause.now) (sym w.lower-is) c.loop-i.invariant.met;
      }
    ]

pub returns-clause-highest : goal.returns-clause-highest
returns-clause-highest c = highest_all c.args.state.now c.args.clause.now c.loop-i.i c.len-i-end.result c.loop-i.lower c.len-i-end.ensures.items c.loop-i-test.false c.loop-i.invariant.highest
