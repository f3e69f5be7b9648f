use Rattle.std.proofs.Common.{◌≡◌, ◌∙◌, [], ◌∷◌, ◌++◌, map, sym, ap, arith}
use Rattle.std.specs.List.{range_with_len}
use Rattle.std.proofs.lemmas.List.FromFn.{map-range_with_len_more}
use Rattle.log_law.specs.Clauses.{listed}
use Rattle.formula_law.specs.Formula.{round_of}
use Rattle.flip_cnf.proofs.decode.read.Goals as goal

pub loop-t-init : goal.loop-t-init
loop-t-init c = c.make-rounds.ensures

pub loop-t-preserved : goal.loop-t-preserved
loop-t-preserved c =
    let e : c.in_ok-edges.edges ≡ round_of c.args.lists.now (listed c.args.truth.now) c.args.k c.loop-t.t = c.in_ok-edges.ensures in
    c.in_ok-push.ensures.ok ∙ (λ i. c.loop-t.invariant i ++ e i ∷ [])
    ∙ sym (map-range_with_len_more (round_of c.args.lists.now (listed c.args.truth.now) c.args.k) 0 c.loop-t.t c.loop-t.t (omega arith))

pub returns : goal.returns
returns c =
    let e : c.loop-t.t ≡ c.args.k = omega arith in
    c.loop-t.invariant ∙ ap (λ t. map (round_of c.args.lists.now (listed c.args.truth.now) c.args.k) (range_with_len 0 t)) e
