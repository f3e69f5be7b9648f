use Rattle.std.proofs.Common.{◌≡◌, ◌∙◌, ◌<◌, [], ◌∷◌, ◌++◌, length, map, sym, ap, arith}
use Rattle.std.specs.List.{filter}
use Rattle.std.proofs.lemmas.List.{take_all}
use Rattle.log_law.specs.Clauses.{listed}
use Rattle.formula_law.specs.Frames.{Pair}
use Rattle.formula_law.specs.Formula.{made}
use Rattle.formula_parts.specs.Building.{no_pair, pair_at}
use Rattle.formula_parts.proofs.Kept.{kept, skipped}
use Rattle.flip_cnf.proofs.decode.round.Goals as goal
use Rattle.flip_cnf.proofs.decode.round.Goals.{then-is_made+in_ok-push, else-is_made}

pub loop-n-init : goal.loop-n-init
loop-n-init c = c.make-edges.ensures

pub loop-n-preserved : goal.loop-n-preserved
loop-n-preserved c =
    let F = c.args.lists.now in
    let l : c.loop-n.n < length F.flips = omega (arith, c.loop-n-test.true, c.flips-n-end.ensures.count) in
    elim c.if-is_made.branch [
      | then-is_made+in_ok-push w ↦
          w.edges-is ∙ w.in_ok-push.ensures.ok
          ∙ (let seg : w.segment.result ≡ (pair_at F.flips c.loop-n.n).0 = w.segment.ensures ∙ ap (λ (p : Pair). p.0) (sym w.flip-g.ensures.pair) in λ i. c.loop-n.invariant i ++ seg i ∷ [])
          ∙ sym (kept (λ (g : Pair). g.0) (λ g. listed c.args.truth.now (made F c.args.k c.args.t g)) F.flips c.loop-n.n no_pair l (sym c.is_made.ensures ∙ w.if-is_made.true))
      | else-is_made w ↦
          w.edges-is ∙ c.loop-n.invariant
          ∙ sym (skipped (λ (g : Pair). g.0) (λ g. listed c.args.truth.now (made F c.args.k c.args.t g)) F.flips c.loop-n.n no_pair l (sym c.is_made.ensures ∙ w.if-is_made.false))
    ]

pub returns : goal.returns
returns c =
    c.loop-n.invariant
    ∙ ap (λ gs. map (λ (g : Pair). g.0) (filter (λ g. listed c.args.truth.now (made c.args.lists.now c.args.k c.args.t g)) gs)) (take_all c.loop-n.n c.args.lists.now.flips (omega (arith, c.flips-n-end.ensures.count)))
