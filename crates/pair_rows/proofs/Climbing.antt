-- A lower bound begins as the bound by crossings, and each formula that is refuted raises it. None is raised without end.
use Rattle.std.proofs.Common.{◌≡◌, ◌≢◌, ◌∙◌, sym, ap, refl, subst, ℕ, ◌+◌, ◌^◌, ◌<◌, ◌≤◌, Bool, List, [], length, get_or, Some, slice_get, arith}
use Rattle.std.specs.Prelude.{AllPairs}
use Rattle.std.proofs.lemmas.Option.{get_or_from_slice_get}
use Rattle.geo_orient.specs.declared.Point.{Point}
use Rattle.edge_table.specs.declared.edge.Edge.{Edge}
use Rattle.edge_table.specs.Edges.{IsBefore, IsAscending}
use Rattle.edge_table.proofs.Ascending.{not_before_itself}
use Rattle.tri_theory.specs.Triangulations.{IsTriangulation}
use Rattle.crossing_law.specs.Digits.{digits}
use Rattle.crossing_law.proofs.Counts.{digits_at_most}
use Rattle.bound_law.specs.Bounds.{input_at}
use Rattle.log_law.specs.Clauses.{Formula, IsModel}
use Rattle.log_law.specs.Logs.{Line}
use Rattle.sat_search.specs.Answers.{IsRefutation}
use Rattle.log_law.proofs.Lists.{pairs_weaker}
use Rattle.flip_cnf.specs.HeldFrames.{HeldFrame, Listed, Many, IsPrunedBuilt, SatisfiesPruned, AreRounds}
use Rattle.cross_bound.specs.declared.best.Side.{Side}
use Rattle.cross_bound.specs.declared.best.Side.TheVariants.{First, Second}
use Rattle.cross_bound.specs.declared.bound.CrossBound.{CrossBound}
use Rattle.cross_bound.specs.declared.bound.CrossBound.TheVariants.{Same, Crossed}
use Rattle.cross_bound.specs.Best.{IsFirstGreatest}
use Rattle.cross_bound.specs.Bounds.{edges_of_both, crossed_by_other, IsCrossBound}
use Rattle.cross_bound.proofs.Bounds.{found_in}
use Rattle.crossing_law.proofs.Fewness.{crossings_fit}
use Rattle.pair_rows.specs.declared.row.Evidence.{Evidence}
use Rattle.pair_rows.specs.declared.row.Evidence.TheVariants.{Crosses, Refuted}
use Rattle.pair_rows.specs.Versions.{Pruned}
use Rattle.pair_rows.specs.Rows.{OfBuilt, AreMet, least_rounds}
use Rattle.pair_rows.specs.Tries.{IsBound}

-- a model of the formula that is built is one of what was asked
pub models_satisfy : (points : List Point) (frame : HeldFrame) (A B : List Edge) (k : ℕ) (built : Formula) (truth : ℕ → Bool) → IsPrunedBuilt points A B k frame built → IsModel truth built.clauses → SatisfiesPruned points A B k frame truth
models_satisfy points (Listed F) A B k built truth is model = subst (λ (f : Formula). IsModel truth f.clauses) is.1 model
models_satisfy points (Many n) A B k built truth is model = is

-- no round of edges in edge order names one twice
pub ascending_differ : (es : List Edge) → IsAscending es → AllPairs ◌≢◌ es
ascending_differ es = pairs_weaker IsBefore ◌≢◌ es (λ e f before same. not_before_itself f (subst (λ x. IsBefore x f) same before))

pub rounds_are_met : (points : List Point) (A B : List Edge) (k : ℕ) (rounds : List (List Edge)) → AreRounds points A B k rounds → AreMet points A B k rounds
rounds_are_met points A B k rounds are = record { count = are.count; distinct = λ n d l. ascending_differ (get_or rounds n d) (are.ascending n d l); schedule = are.schedule }

-- ---- the bound by crossings

-- two that both have the greatest value have the same one
same_greatest : {X : Type 0} (f : X → ℕ) (xs : List X) (x y : X) → IsFirstGreatest f xs x → IsFirstGreatest f xs y → f x ≡ f y
same_greatest f xs x y G H =
    let l = H.greatest x (found_in xs G.place x G.there) in
    let m = G.greatest y (found_in xs H.place y H.there) in
    omega (arith, l, m)

pub bound_is_least : (points : List Point) (A B : List Edge) (from : Side) (e : Edge) (count lower : ℕ) → IsCrossBound points A B (Crossed from e count lower) → (bound : CrossBound) → IsCrossBound points A B bound → least_rounds bound ≤ lower
bound_is_least points A B from e count lower (differ, greatest, counted, long) Same same = omega arith
bound_is_least points A B from e count lower (differ, greatest, counted, long) (Crossed from' e' count' lower') (differ', greatest', counted', long') =
    let s : count' ≡ count = counted' ∙ (same_greatest {X = Side × Edge} (crossed_by_other points A B) (edges_of_both A B) (from', e') (from, e) greatest' greatest ∙ sym counted) in
    let d : lower' ≡ lower = long' ∙ (ap digits s ∙ sym long) in
    omega (arith, d)

pub equal_are_no_rounds : (points : List Point) (A B : List Edge) → A ≡ B → (bound : CrossBound) → IsCrossBound points A B bound → least_rounds bound ≤ 0
equal_are_no_rounds points A B same Same is = omega arith
equal_are_no_rounds points A B same (Crossed from e count lower) is = absurd (is.0 same)

-- the bound by crossings of few points is low
pub bound_is_low : (points : List Point) (A B : List Edge) (from : Side) (e : Edge) (count lower : ℕ) → IsTriangulation points A → IsTriangulation points B → length points ≤ 16384 → IsCrossBound points A B (Crossed from e count lower) → lower ≤ 32
bound_is_low points A B from e count lower N M few (differ, greatest, counted, long) =
    let d = digits_at_most (crossed_by_other points A B (from, e)) 32 (by_side from) in
    let l : lower ≡ digits (crossed_by_other points A B (from, e)) = long ∙ ap digits counted in
    omega (arith, d, l)
  where
    by_side : (side : Side) → crossed_by_other points A B (side, e) < 2 ^ 32
    by_side First = crossings_fit points B e M few
    by_side Second = crossings_fit points A e N few

-- what is said of two inputs as they are seen
pub seen_bound : (seen points : List Point) (inputs : List (List Edge)) (i j : ℕ) (A B : List Edge) (bound is : CrossBound) → seen ≡ points → slice_get inputs i ≡ Some A → slice_get inputs j ≡ Some B → bound ≡ is → IsCrossBound seen A B bound → IsCrossBound points (input_at inputs i) (input_at inputs j) is
seen_bound seen points inputs i j A B bound is same first second e h =
    let a : A ≡ input_at inputs i = sym (get_or_from_slice_get inputs i A [] first) in
    let b : B ≡ input_at inputs j = sym (get_or_from_slice_get inputs j B [] second) in
    subst (IsCrossBound points (input_at inputs i) (input_at inputs j)) e
    (subst (λ (T : List Edge). IsCrossBound points (input_at inputs i) T bound) b
    (subst (λ (T : List Edge). IsCrossBound points T B bound) a
    (subst (λ (ps : List Point). IsCrossBound ps A B bound) same h)))

module _ (points : List Point) (frame : HeldFrame) (A B : List Edge) (budget : ℕ) where
  pub bound_begins : (from : Side) (e : Edge) (count lower : ℕ) → IsCrossBound points A B (Crossed from e count lower) → IsBound points frame A B budget lower (Crosses from e count)
  bound_begins from e count lower (differ, greatest, counted, long) = record {
    differ = differ;
    shown = (found_in {X = Side × Edge} (edges_of_both A B) greatest.place (from, e) greatest.there, counted, long);
    earned = tt;
    least = bound_is_least points A B from e count lower (differ, greatest, counted, long);
    begins = (differ, greatest, counted, long);
  }

  pub bound_rises : (lower : ℕ) (evidence : Evidence) (log : List Line) → IsBound points frame A B budget lower evidence → OfBuilt Pruned points frame A B lower (λ built. IsRefutation built budget log) → IsBound points frame A B budget (lower + 1) (Refuted lower log)
  bound_rises lower evidence log H (built, is, refutes) = record {
    differ = H.differ;
    shown = (refl, (built, is, refutes.refutes));
    earned = (built, is, refutes);
    least = λ b h. (let l = H.least b h in omega (arith, l));
    begins = H.differ;
  }
