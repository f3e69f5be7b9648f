use Rattle.std.proofs.Common.{map, refl, sym, subst}
use Rattle.std.specs.Prelude.{All}
use Rattle.std.proofs.lemmas.Bool.{false≢true}
use Rattle.serde_json.specs.View.{view}
use Rattle.json_value.specs.Values.{IsPair, IsList, IsListOf}
use Rattle.json_value.proofs.Rows.{is_list}
use Rattle.solution_json.proofs.read.flips_in.Goals as goal

pub returns-then-are_rounds-clause-ok : goal.returns-then-are_rounds-clause-ok
returns-then-are_rounds-clause-ok c =
    let all = subst (λ vs. All (IsListOf (IsListOf IsPair)) (map view vs)) c.deref.ensures.value (c.are_rounds.ensures.0 c.if-are_rounds.true) in (
      subst (λ vs. IsList (view c.args.value.now) (map view vs)) (sym c.as_slice.ensures.value) (sym c.in-Some.ensures),
      subst (λ vs. All (IsListOf (IsListOf IsPair)) (map view vs)) (sym c.as_slice.ensures.value) all,
    )

pub returns-else-are_rounds-clause-wrong : goal.returns-else-are_rounds-clause-wrong
returns-else-are_rounds-clause-wrong c = (
  refl,
  λ h. false≢true (c.if-are_rounds.ensures.1
      (subst (λ vs. All (IsListOf (IsListOf IsPair)) (map view vs)) (sym c.deref.ensures.value)
      (is_list (IsListOf (IsListOf IsPair)) (view c.args.value.now) c.in-Some.list.now.items (sym c.in-Some.ensures) h))),
)
