use Rattle.std.proofs.lemmas.Bool.{false≢true}
use Rattle.json_value.specs.Values.{IsPair, IsListOf}
use Rattle.json_value.proofs.Rows.{all_more, all_of, one_of}
use Rattle.solution_json.proofs.read.are_rounds.Goals as goal

pub returns-then-not-is_rounds : goal.returns-then-not-is_rounds
returns-then-not-is_rounds c = (
  λ t. absurd (false≢true t),
  λ all. c.if-not-is_rounds.ensures.1 (one_of (IsListOf (IsListOf IsPair)) c.args.values.now c.loop-value.value-index c.value-item.result c.loop-value-test.true c.value-item.is all),
)

pub loop-value-preserved : goal.loop-value-preserved
loop-value-preserved c =
    all_more (IsListOf (IsListOf IsPair)) c.args.values.now c.loop-value.value-index c.value-item.result c.loop-value-test.true c.value-item.is (c.is_rounds.ensures.0 c.if-not-is_rounds.false) c.loop-value.invariant

pub returns : goal.returns
returns c = (
  λ t. all_of (IsListOf (IsListOf IsPair)) c.args.values.now c.loop-value.value-index c.loop-value-test.false c.loop-value.invariant,
  λ all. search,
)
