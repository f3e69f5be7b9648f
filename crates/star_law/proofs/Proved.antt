-- Each law of star formulas, splits, star rows and stars, proved, under its name.
use Rattle.std.proofs.Common.{length}
use Rattle.bound_law.specs.Copies.{copied}
use Rattle.bound_law.proofs.Copies.{copies_all}
use Rattle.tri_theory.specs.Triangulations.{IsTriangulation}
use Rattle.star_law.specs.StarLaws.{ModelsSayStars, ModelsMeet, RefutedStarsDontMeet, StarClausesAreCounted, StarsFit}
use Rattle.star_law.specs.SplitLaws.{SplitsAreAll, SplitsAscend, SplitsAreCounted, SplitsBoundThree, PairsBoundThree}
use Rattle.star_law.specs.BoundLaws.{JustifiedRowsAreTrue, MetRowsAreExact, StarsBoundPlans, AssignmentsRearrange, RearrangedAreAssignments, BestAssignmentsAreBest, RowsAreApart, EarnedRowsMakeBestStars}
use Rattle.star_law.proofs.StarFits.{fits, counted, says, meet_of, model_of, refuted_meet}
use Rattle.star_law.proofs.Splits.{sum_of_split, split_listed, splits_ascend, splits_counted, splits_bound, bound_splits, pairs_bound}
use Rattle.star_law.proofs.StarBounds.{weighted_star}
use Rattle.star_law.proofs.RowTruth.{row_true, row_exact, star_true}
use Rattle.star_law.specs.Stars.{rest_of}
use Rattle.star_law.proofs.Rests.{assignment_rearranged, assignment_paired, rearranged_assignment, rest_distinct, best_rest, rows_apart}

-- ---- star formulas
pub models_say_stars : ModelsSayStars
models_say_stars points F x y z truth P I L m = says points F I x y z P L truth m

pub models_meet : ModelsMeet
models_meet points F x y z P I L = (λ (truth, m). meet_of points F I x y z P L truth m, λ m. model_of points F I x y z P L m)

pub refuted_stars_dont_meet : RefutedStarsDontMeet
refuted_stars_dont_meet points F x y z log P I L r = refuted_meet points F I x y z P L log r

pub star_clauses_are_counted : StarClausesAreCounted
star_clauses_are_counted points F x y z P I = counted points F I x y z P

pub stars_fit : StarsFit
stars_fit points F x y z I = fits points F I x y z

-- ---- splits
pub splits_are_all : SplitsAreAll
splits_are_all n split = (λ h. sum_of_split n split h, λ e. split_listed n split.0 split.1 split.2 e)

pub splits_are_in_order : SplitsAscend
splits_are_in_order n = splits_ascend n

pub splits_are_counted : SplitsAreCounted
splits_are_counted n = splits_counted n

pub splits_bound_three : SplitsBoundThree
splits_bound_three points A B C n P N = (λ none. splits_bound points P A B C n N none, λ low. bound_splits points P A B C n low)

pub pairs_bound_three : PairsBoundThree
pairs_bound_three points A B C ab bc ac P N M O hab hbc hac = pairs_bound points P A B C ab bc ac N M O hab hbc hac

-- ---- rows and stars
pub justified_rows_are_true : JustifiedRowsAreTrue
justified_rows_are_true points F copies lower row P I T L J = row_true points P F I copies T lower L row J

pub met_rows_are_exact : MetRowsAreExact
met_rows_are_exact points F copies lower row split legs J e = row_exact points F copies lower row split legs J e

pub stars_bound_plans : StarsBoundPlans
stars_bound_plans points F inputs weights centre schedules lower rows images P I T W p L S =
    weighted_star points weights inputs centre schedules lower rows images P T W p L (star_true points P F I (copied weights inputs) (copies_all (λ edges. IsTriangulation points edges) weights inputs T) lower L rows images S)

pub assignments_rearrange : AssignmentsRearrange
assignments_rearrange lower numbers assignment d A = (assignment_rearranged numbers d assignment A, assignment_paired lower numbers assignment A)

pub rearranged_are_assignments : RearrangedAreAssignments
rearranged_are_assignments numbers images d R = rearranged_assignment numbers images R

pub best_assignments_are_best : BestAssignmentsAreBest
best_assignments_are_best lower count rows assignment images B R = best_rest lower count rows assignment images B R

pub rows_are_apart : RowsAreApart
rows_are_apart count rows R = rows_apart count rows R

pub earned_rows_make_best_stars : EarnedRowsMakeBestStars
earned_rows_make_best_stars points F copies lower rows assignment R E B = record {
  star = record {
    justified = λ k d l. (E k d l).justified;
    distinct = (rows_apart (length copies) rows R).1;
    rest = assignment_rearranged (rest_of (length copies) rows) (rest_distinct (length copies) rows) assignment B.0;
  };
  in_row = R;
  earned = E;
  best = λ other h. best_rest lower (length copies) rows assignment other B h;
}
