use Rattle.std.proofs.Common.{◌≡◌, ◌∙◌, ◌+◌, ◌++◌, sym, ap, arith}
use Rattle.pruned_cnf.specs.Queries.{live_in}
use Rattle.pruned_cnf.specs.Numbered.{layer_numbers, layers_numbers, places_before}
use Rattle.pruned_cnf.proofs.Numbers.{rows_more, places_sum}
use Rattle.pruned_cnf.proofs.numbering.number_places.Goals as goal
use Rattle.pruned_cnf.proofs.numbering.number_places.Goals.{else-loop-t-test, then-loop-t-test+in_ok-number_layer+else-t-t-end}
use Rattle.pruned_cnf.specs.declared.numbering.Numbers.{Numbers}

pub loop-t-preserved : goal.loop-t-preserved
loop-t-preserved c = record {
  entries = let q = c.args.query.now in c.in_ok-number_layer.ensures.entries ∙ ap (λ ys. ys ++ layer_numbers q c.loop-t.t) c.loop-t.invariant.entries ∙ sym (rows_more (layer_numbers q) c.loop-t.t);
  last = c.in_ok-number_layer.ensures.last;
}

pub returns-clause-entries : goal.returns-clause-entries
returns-clause-entries c =
    let q = c.args.query.now in
    elim c.loop-t-test.branch [
      | else-loop-t-test w ↦ absurd (omega (arith, w.loop-t-test.false))
      | then-loop-t-test+in_ok-number_layer+else-t-t-end w ↦
          let e : c.loop-t.t ≡ q.rounds = omega arith in
          ap (λ (n : Numbers). n.entries.items) w.numbers-is ∙ w.in_ok-number_layer.ensures.entries ∙ ap (λ ys. ys ++ layer_numbers q c.loop-t.t) c.loop-t.invariant.entries
          ∙ sym (rows_more (layer_numbers q) c.loop-t.t) ∙ ap (λ t. layers_numbers q (t + 1)) e
    ]

pub returns-clause-last : goal.returns-clause-last
returns-clause-last c =
    let q = c.args.query.now in
    elim c.loop-t-test.branch [
      | else-loop-t-test w ↦ absurd (omega (arith, w.loop-t-test.false))
      | then-loop-t-test+in_ok-number_layer+else-t-t-end w ↦
          let e : c.loop-t.t ≡ q.rounds = omega arith in
          ap (λ (n : Numbers). n.last) w.numbers-is ∙ w.in_ok-number_layer.ensures.last ∙ ap (λ t. places_before q (t + 1)) e ∙ sym (places_sum q.frame (live_in q) q.rounds)
    ]
