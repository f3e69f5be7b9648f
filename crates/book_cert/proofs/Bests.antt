-- The bound of a book, by the rows of its certificate.
use Rattle.std.proofs.Common.{◌≡◌, ◌∙◌, ℕ, List, ap, subst}
use Rattle.std.specs.Prelude.{sum}
use Rattle.assignment_law.specs.Assignments.{IsBest, assignment_bound}
use Rattle.bound_law.specs.Copies.{copy_lower}

-- what is best, and its bound, for equal weights, lower bounds and assignments
pub same_best : (ws vs : List ℕ) (lower other : ℕ → ℕ → ℕ) (perm given : List ℕ) → ws ≡ vs → lower ≡ other → perm ≡ given → IsBest (copy_lower ws lower) (sum ws) perm → IsBest (copy_lower vs other) (sum vs) given
same_best ws vs lower other perm given e f g h =
    subst (λ (p : List ℕ). IsBest (copy_lower vs other) (sum vs) p) g
    (subst (λ (l : ℕ → ℕ → ℕ). IsBest (copy_lower vs l) (sum vs) perm) f (subst (λ (w : List ℕ). IsBest (copy_lower w lower) (sum w) perm) e h))

pub same_bound : (ws vs : List ℕ) (lower other : ℕ → ℕ → ℕ) (perm given : List ℕ) → ws ≡ vs → lower ≡ other → perm ≡ given → assignment_bound (copy_lower ws lower) perm ≡ assignment_bound (copy_lower vs other) given
same_bound ws vs lower other perm given e f g =
    ap (λ (w : List ℕ). assignment_bound (copy_lower w lower) perm) e
    ∙ (ap (λ (l : ℕ → ℕ → ℕ). assignment_bound (copy_lower vs l) perm) f ∙ ap (assignment_bound (copy_lower vs other)) g)
