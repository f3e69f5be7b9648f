-- What the formula that was built says, and what a model of it tells.
use Rattle.std.proofs.Common.{◌≡◌, ◌↔◌, ℕ, ◌+◌, ◌<◌, ◌≤◌, Bool, List, [], length, map, Contains, sym, ap, ◌∙◌, subst, arith}
use Rattle.std.specs.List.{range_with_len}
use Rattle.std.proofs.lemmas.List.Elements.{Contains-get_or}
use Rattle.geo_orient.specs.declared.Point.{Point}
use Rattle.edge_table.specs.declared.edge.Edge.{Edge}
use Rattle.edge_table.specs.Edges.{IsAscending}
use Rattle.tri_theory.specs.Triangulations.{IsTriangulation}
use Rattle.tri_theory.specs.Rounds.{IsSchedule, Within}
use Rattle.tri_check.specs.Problems.{IsProblem}
use Rattle.bound_law.specs.Bounds.{input_at}
use Rattle.log_law.specs.Clauses.{Formula, IsModel}
use Rattle.formula_law.specs.Frames.{Frame, IsFrame}
use Rattle.formula_law.specs.Formula.{formula, clause_count, round_of, rounds_of}
use Rattle.formula_law.specs.PrunedFormula.{Live, live_between, pruned_formula, live_round_of, live_rounds_of}
use Rattle.formula_law.specs.RefutationLaws.{whole, pruned}
use Rattle.formula_law.proofs.Clauses.{all_of, in_map, in_range}
use Rattle.formula_law.proofs.FormulaCounts.{formula_length}
use Rattle.formula_law.proofs.FormulaLaws.{says_schedule, model_iff}
use Rattle.formula_law.proofs.Proved.{pruned_models_say_schedules, pruned_models_are_within}
use Rattle.flip_cnf.specs.HeldFrames.{HeldFrame, Listed, Many, IsBuilt, HasModel, Satisfies, AreRounds}

pub satisfied : (h : HeldFrame) (A B : List Edge) (k : ℕ) (built : Formula) (truth : ℕ → Bool) → IsBuilt h A B k built → IsModel truth built.clauses → Satisfies h A B k truth
satisfied (Listed F) A B k built truth b m = subst (λ (f : Formula). IsModel truth f.clauses) b.1 m
satisfied (Many n) A B k built truth b m = b

module _ (points : List Point) (inputs : List (List Edge)) (P : IsProblem points inputs) (F : Frame) (I : IsFrame points F) (i j k : ℕ) (hi : i < length inputs) (hj : j < length inputs) where
  abbrev A : List Edge
  A = input_at inputs i

  abbrev B : List Edge
  B = input_at inputs j

  first : IsTriangulation points A
  first = P.triangulated A (Contains-get_or inputs i [] hi)

  second : IsTriangulation points B
  second = P.triangulated B (Contains-get_or inputs j [] hj)

  pub few_clauses : (most : ℕ) (built : Formula) → built ≡ whole F A B k → clause_count F k ≤ most → length built.clauses ≤ most
  few_clauses most built e h =
      let l : length built.clauses ≡ clause_count F k = ap (λ (f : Formula). length f.clauses) e ∙ formula_length points P.placed F I A B k in
      omega (arith, l, h)

  pub model_within : (built : Formula) → built ≡ whole F A B k → HasModel built.clauses ↔ Within points A B k
  model_within built e = subst (λ (f : Formula). HasModel f.clauses ↔ Within points A B k) (sym e) (model_iff points P.placed F I A B k first second)

  -- rounds that lead from A to B in order
  are_rounds : (round : ℕ → List Edge) → ((t : ℕ) → t < k → IsAscending (round t)) → length (map round (range_with_len 0 k)) ≡ k → IsSchedule points A (map round (range_with_len 0 k)) B → AreRounds points A B k (map round (range_with_len 0 k))
  are_rounds round ascend count schedule = record {
    count = count;
    ascending = all_of IsAscending (map round (range_with_len 0 k)) (λ r h. by_round r (in_map round (range_with_len 0 k) r h));
    schedule = schedule;
  }
    where
      below : (t : ℕ) → (0 ≤ t) × (t < 0 + k) → t < k
      below t b = omega arith

      by_round : (r : List Edge) → (t : ℕ) × Contains (range_with_len 0 k) t × (round t ≡ r) → IsAscending r
      by_round r (t, h, e) = subst IsAscending e (ascend t (below t (in_range 0 k t h)))

  pub told_rounds : (truth : ℕ → Bool) → IsModel truth (formula F A B k) → AreRounds points A B k (rounds_of F truth k)
  told_rounds truth m = let s = says_schedule points P.placed F I A B k first second truth m in are_rounds (round_of F truth k) s.ascending s.count s.schedule

  -- ---- the pruned formula
  abbrev live : Live
  live = live_between points A B k

  pub pruned_within : (built : Formula) → built ≡ pruned F live A B k → HasModel built.clauses ↔ Within points A B k
  pruned_within built e = subst (λ (f : Formula). HasModel f.clauses ↔ Within points A B k) (sym e) (pruned_models_are_within points F A B k P.placed I first second)

  pub pruned_rounds : (truth : ℕ → Bool) → IsModel truth (pruned_formula F live A B k) → AreRounds points A B k (live_rounds_of F live truth k)
  pruned_rounds truth m = let s = pruned_models_say_schedules points F live A B k truth P.placed I first second m in are_rounds (live_round_of F live truth k) s.ascending s.count s.schedule
