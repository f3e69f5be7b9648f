use Rattle.std.proofs.Common.{◌∙◌, sym, subst₂}
use Rattle.tri_theory.specs.Flips.{Flips, IsFlip}
use Rattle.lawson_start.proofs.Corners.{bad_flips}
use Rattle.lawson_law.proofs.OneRun.{one_next}
use Rattle.lawson_start.proofs.run.step.Goals as goal

pub append-requires-clause-flips : goal.append-requires-clause-flips
append-requires-clause-flips c =
    subst₂ (λ ps es. Flips ps es c.args.e) (sym (c.in_ok-reserve.ensures.points ∙ c.requires.stands.of_points)) (sym (c.in_ok-reserve.ensures.end ∙ c.requires.stands.end)) (bad_flips _ _ _ c.requires.here)

pub returns-clause-stands : goal.returns-clause-stands
returns-clause-stands c =
    let I = c.points.ensures.triangulation in
    let ps = c.in_ok-reserve.ensures.points ∙ c.requires.stands.of_points in
    let es = c.in_ok-reserve.ensures.end ∙ c.requires.stands.end in
    record {
      of_points = c.append.ensures.points ∙ ps ∙ sym c.in_ok-flip.ensures.points;
      end =
          one_next _ I.placed _ I.triangulation c.args.e _ _ _ _ (subst₂ (λ p t. IsFlip p t c.args.e c.append.result c.append.new.self.end) ps es c.append.ensures.end)
          c.in_ok-flip.ensures.edges;
      bad_edges = c.in_ok-flip.ensures.set;
    }
