use Rattle.std.proofs.Common.{refl}
use Rattle.json_value.specs.Values.{IsPair, IsListOf}
use Rattle.json_value.proofs.Rows.{is_list}
use Rattle.std.proofs.lemmas.Bool.{false≢true}
use Rattle.serde_json.specs.View.{view}
use Rattle.instance_json.proofs.read.inputs_in.Goals as goal

pub returns-else-are_pair_lists-clause-wrong : goal.returns-else-are_pair_lists-clause-wrong
returns-else-are_pair_lists-clause-wrong c = (
  refl,
  λ h. let all = is_list (IsListOf IsPair) (view c.args.value.now) c.in_ok-list.list.now c.in_ok-list.ensures.ok h in
      false≢true (c.if-are_pair_lists.ensures.1 all),
)
