-- A run grows by one flip at a time, until none of its edges is bad or the budget is spent.
use Rattle.std.proofs.Common.{◌≡◌, ◌≢◌, ◌∙◌, ℕ, ◌+◌, ◌-◌, List, [], ◌∷◌, ◌++◌, length, Contains, refl, sym, ap, subst, subst₂, arith}
use Rattle.geo_orient.specs.declared.Point.{Point}
use Rattle.edge_table.specs.declared.edge.Edge.{Edge}
use Rattle.tri_theory.specs.Flips.{IsFlip}
use Rattle.tri_check.specs.Layouts.{Layout, IsTriangulated}
use Rattle.flip_list_law.specs.declared.Flip.{Flip}
use Rattle.flip_list_law.specs.FlipLists.{flipped_edges}
use Rattle.round_pack.specs.Tracks.{FlipTrack, flip}
use Rattle.lawson_law.specs.LawsonRuns.{IsBad, HasNoBadEdge, IsLeastBad, LawsonRunsTo, IsLawsonRunLonger}
use Rattle.lawson_law.proofs.OneRun.{longer_means}
use Rattle.lawson_start.specs.Steps.{IsFirst, AreBad, Stands, Follows, IsBegun, IsRunOf}

-- ---- one flip more
runs_on : (points : List Point) (from flips to : List Edge) (e f : Edge) (next : List Edge) → LawsonRunsTo points from flips to → IsLeastBad points to e → IsFlip points to e f next → LawsonRunsTo points from (flips ++ e ∷ []) next
runs_on points from [] to e f next same least F = (f, next, subst (λ es. IsLeastBad points es e) (sym same) least, subst (λ es. IsFlip points es e f next) (sym same) F, refl)
runs_on points from (x ∷ xs) to e f next (g, U, first, G, more) least F = (g, U, first, G, runs_on points U xs to e f next more least F)

flipped_on : (flips : List Flip) (x : Flip) → flipped_edges (flips ++ x ∷ []) ≡ flipped_edges flips ++ x.edge ∷ []
flipped_on [] x = refl
flipped_on (y ∷ ys) x = ap (λ es. y.edge ∷ es) (flipped_on ys x)

pub one_longer : (es : List Edge) (e : Edge) → length (es ++ e ∷ []) ≡ length es + 1
one_longer [] e = refl
one_longer (x ∷ xs) e = let h = one_longer xs e in omega arith

-- ---- where a run stands
pub begun : (points : List Point) (edges : List Edge) (budget : ℕ) (track : FlipTrack) → track ≡ record { points = points; start = edges; flips = []; end = edges; spare = 0 } → IsBegun points edges budget budget track
begun points edges budget track h = subst (IsBegun points edges budget budget) (sym h) (record { of_points = refl; from = refl; runs = refl; count = omega arith })

pub bad_first : (mesh : Layout) (bad : List Edge) (e : Edge) → AreBad mesh.points mesh.edges bad → IsFirst bad e → IsBad mesh.points mesh.edges e
bad_first mesh bad e B h = (B.members e).0 h.member

pub least_first : (points : List Point) (edges bad : List Edge) (e : Edge) → AreBad points edges bad → IsFirst bad e → IsLeastBad points edges e
least_first points edges bad e B h = ((B.members e).0 h.member, λ f b l. h.first f ((B.members f).1 b) l)

pub begun_on : (points : List Point) (input : List Edge) (budget left : ℕ) (old new : FlipTrack) (mesh : Layout) (bad : List Edge) (e : Edge) → left ≢ 0 → IsBegun points input budget left old → Stands old mesh bad → IsFirst bad e → Follows old new e → IsBegun points input budget (left - 1) new
begun_on points input budget left old new mesh bad e some B at h F = record {
  of_points = F.of_points ∙ B.of_points;
  from = F.start ∙ B.from;
  runs = subst (λ es. LawsonRunsTo points input es new.end) (sym longer) (runs_on points input (flipped_edges old.flips) old.end e F.end.0 new.end B.runs least (subst (λ ps. IsFlip ps old.end e F.end.0 new.end) B.of_points F.end.1));
  count = let c = B.count in let l = ap length longer ∙ one_longer (flipped_edges old.flips) e in omega arith;
}
  where
    longer : flipped_edges new.flips ≡ flipped_edges old.flips ++ e ∷ []
    longer = ap flipped_edges F.flips.1 ∙ flipped_on old.flips (flip e F.flips.0)

    least : IsLeastBad points old.end e
    least = subst₂ (λ ps es. IsLeastBad ps es e) (sym at.of_points ∙ B.of_points) (sym at.end) (least_first mesh.points mesh.edges bad e at.bad_edges h)

-- ---- where it ends
pub over_budget : (points : List Point) (input : List Edge) (budget left : ℕ) (track : FlipTrack) (mesh : Layout) (bad : List Edge) (e : Edge) → left ≡ 0 → IsBegun points input budget left track → Stands track mesh bad → IsFirst bad e → IsLawsonRunLonger points input budget
over_budget points input budget left track mesh bad e none B at h = (
  flipped_edges track.flips,
  track.end,
  e,
  let c = B.count in omega arith,
  B.runs,
  subst₂ (λ ps es. IsBad ps es e) (sym at.of_points ∙ B.of_points) (sym at.end) (bad_first mesh bad e at.bad_edges h),
)

pub whole : (points : List Point) (input : List Edge) (budget left : ℕ) (track : FlipTrack) (mesh : Layout) (bad : List Edge) → IsTriangulated points input → IsBegun points input budget left track → Stands track mesh bad → ((e : Edge) → ¬ Contains bad e) → IsRunOf points budget input track
whole points input budget left track mesh bad I B at none = record {
  of_points = B.of_points;
  from = B.from;
  run = (B.runs, no_bad);
  within = λ l. let k = longer_means points I.placed input (flipped_edges track.flips) track.end budget I.triangulation (B.runs, no_bad) l in let c = B.count in omega arith;
}
  where
    no_bad : HasNoBadEdge points track.end
    no_bad e b = none e ((at.bad_edges.members e).1 (subst₂ (λ ps es. IsBad ps es e) (sym B.of_points ∙ at.of_points) at.end b))
