use Rattle.std.proofs.Common.{sym, subst, map}
use Rattle.std.specs.Prelude.{All}
use Rattle.serde_json.specs.View.{view}
use Rattle.json_value.specs.Values.{IsPair, IsListOf}
use Rattle.json_value.proofs.Rows.{list_is, is_list}
use Rattle.solution_json.proofs.read.is_rounds.Goals as goal

pub returns-in-Some : goal.returns-in-Some
returns-in-Some c =
    let is = sym c.in-Some.ensures in (
      λ t. list_is (IsListOf IsPair) _ c.in-Some.list.now.items is (subst (λ vs. All (IsListOf IsPair) (map view vs)) c.deref.ensures.value (c.are_pair_lists.ensures.0 t)),
      λ h. c.are_pair_lists.ensures.1 (subst (λ vs. All (IsListOf IsPair) (map view vs)) (sym c.deref.ensures.value) (is_list (IsListOf IsPair) _ c.in-Some.list.now.items is h)),
    )
