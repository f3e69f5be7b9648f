use Rattle.std.proofs.Common.{◌≡◌, ◌∙◌, ℕ, List, ap, subst, Some, slice_get}
use Rattle.std.specs.Option.{option_map}
use Rattle.std.proofs.lemmas.Option.{slice_get-map}
use Rattle.tri_check.specs.Layouts.{Layout}
use Rattle.tri_check.specs.Problems.{Problem}
use Rattle.tri_check.proofs.instance.Instance.input.Goals as goal

-- what is found in an equal list
found_at : {xs ys : List Layout} (i : ℕ) (t : Layout) → xs ≡ ys → slice_get xs i ≡ Some t → slice_get ys i ≡ Some t
found_at i t same found = subst (λ zs. slice_get zs i ≡ Some t) same found

pub returns-clause-points : goal.returns-clause-points
returns-clause-points c =
    c.self.invariant.shared c.args.t c.triangulation_at.result.now (found_at c.args.t c.triangulation_at.result.now c.deref.ensures.value c.triangulation_at.ensures) ∙ ap (λ (p : Problem). p.points) c.self.view_is

pub returns-clause-edges : goal.returns-clause-edges
returns-clause-edges c =
    let seen = slice_get-map (λ (t : Layout). t.edges) c.self.inside.inputs.items c.args.t ∙ ap (option_map (λ (t : Layout). t.edges)) (found_at c.args.t c.triangulation_at.result.now c.deref.ensures.value c.triangulation_at.ensures) in
    subst (λ (p : Problem). slice_get p.inputs c.args.t ≡ Some c.triangulation_at.result.now.edges) c.self.view_is seen
