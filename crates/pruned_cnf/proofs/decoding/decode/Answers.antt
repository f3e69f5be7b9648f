use Rattle.std.proofs.Common.{◌≡◌, ◌∙◌, [], ◌∷◌, ◌++◌, sym, arith}
use Rattle.std.proofs.lemmas.List.FromFn.{map-range_with_len_more}
use Rattle.log_law.specs.Clauses.{listed}
use Rattle.formula_law.specs.PrunedFormula.{live_round_of}
use Rattle.pruned_cnf.specs.Queries.{live_in}
use Rattle.pruned_cnf.proofs.decoding.decode.Goals as goal

pub loop-t-preserved : goal.loop-t-preserved
loop-t-preserved c =
    let q = c.args.query.now in
    let e : c.in_ok-edges.edges ≡ live_round_of q.frame (live_in q) (listed c.args.truth.now) q.rounds c.loop-t.t = c.in_ok-edges.ensures.edges in
    record {
      rounds = c.in_ok-push.ensures.ok ∙ (λ i. c.loop-t.invariant.rounds i ++ e i ∷ []) ∙ sym (map-range_with_len_more (live_round_of q.frame (live_in q) (listed c.args.truth.now) q.rounds) 0 c.loop-t.t c.loop-t.t (omega arith));
      last = c.in_ok-edges.ensures.last;
    }
