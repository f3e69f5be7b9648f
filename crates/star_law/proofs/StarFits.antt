-- The clauses of the star formula name distinct variables in range, and a log that refutes it shows that the legs don't meet.
use Rattle.std.proofs.Common.{◌≡◌, ℕ, Bool, List, length, sym, subst}
use Rattle.geo_orient.specs.declared.Point.{Point}
use Rattle.tri_theory.specs.Points.{ArePlaced}
use Rattle.log_law.specs.Clauses.{Clause, IsVariable, IsClause, IsModel, IsFormula}
use Rattle.log_law.specs.Logs.{Line, Refutes}
use Rattle.log_law.proofs.Proved.{refuted_formulas_have_no_model}
use Rattle.formula_law.specs.Frames.{Frame, IsFrame}
use Rattle.formula_law.proofs.Clauses.{all_of}
use Rattle.star_law.specs.Legs.{Leg, AreLegs, Meet, all_rounds}
use Rattle.star_law.specs.StarFormula.{star_formula, star_clause_count, star_variable_count, star}
use Rattle.star_law.specs.StarLaws.{SaysStar}
use Rattle.star_law.proofs.Renamed.{renamed_star}
use Rattle.star_law.proofs.StarDirect.{star_direct}
use Rattle.star_law.proofs.StarSays.{says_star, model_meets}
use Rattle.star_law.proofs.StarMeets.{meets_model}
use Rattle.star_law.proofs.StarCounts.{star_length}
use Rattle.star_law.proofs.StarVariables.{star_variables, star_apart}

module _ (points : List Point) (F : Frame) (I : IsFrame points F) (x y z : Leg) where
  direct : renamed_star F x y z ≡ star_formula F x y z
  direct = star_direct points F x y z I

  pub fits : IsFormula (star F x y z)
  fits = subst (λ cs. IsFormula (record { variables = star_variable_count F (all_rounds x y z); clauses = cs })) direct
      (all_of (IsClause (star_variable_count F (all_rounds x y z))) (renamed_star F x y z) (λ c h. record {
        in_range = all_of (λ l. IsVariable (star_variable_count F (all_rounds x y z)) l.var) c (λ l i. star_variables points F I x y z c l h i);
        distinct = star_apart points F I x y z c h;
      }))

  module _ (P : ArePlaced points) where
    pub counted : length (star_formula F x y z) ≡ star_clause_count F (all_rounds x y z)
    counted = subst (λ (cs : List Clause). length cs ≡ star_clause_count F (all_rounds x y z)) direct (star_length points P F I x y z)

    module _ (L : AreLegs points x y z) where
      renamed_model : (truth : ℕ → Bool) → IsModel truth (star_formula F x y z) → IsModel truth (renamed_star F x y z)
      renamed_model truth m = subst (IsModel truth) (sym direct) m

      pub says : (truth : ℕ → Bool) → IsModel truth (star_formula F x y z) → SaysStar points F x y z truth
      says truth m = says_star points P F I x y z L truth (renamed_model truth m)

      pub meet_of : (truth : ℕ → Bool) → IsModel truth (star_formula F x y z) → Meet points x y z
      meet_of truth m = model_meets points P F I x y z L truth (renamed_model truth m)

      pub model_of : Meet points x y z → (truth : ℕ → Bool) × IsModel truth (star_formula F x y z)
      model_of m = by_model (meets_model points P F I x y z L m)
        where
          by_model : (truth : ℕ → Bool) × IsModel truth (renamed_star F x y z) → (truth : ℕ → Bool) × IsModel truth (star_formula F x y z)
          by_model (truth, h) = (truth, subst (IsModel truth) direct h)

      -- a refuting log shows that the legs don't meet
      pub refuted_meet : (log : List Line) → Refutes (star F x y z) log → ¬ Meet points x y z
      refuted_meet log r m = let t = model_of m in refuted_formulas_have_no_model (star F x y z) log t.0 r t.1
