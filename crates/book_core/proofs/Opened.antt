-- A book as it is opened.
use Rattle.std.proofs.Common.{◌≡◌, ◌∙◌, ℕ, zero, suc, ◌+◌, ◌/◌, ◌≤◌, List, [], ◌∷◌, ◌++◌, length, map, replicate, refl, sym, ap, arith}
use Rattle.std.specs.Prelude.{sum, sum_by}
use Rattle.std.specs.List.{range_with_len, enumerate_from}
use Rattle.std.proofs.lemmas.List.Sums.{sum_by-cons}
use Rattle.edge_table.specs.declared.edge.Edge.{Edge}
use Rattle.tri_check.specs.Problems.{Problem, IsProblem, AreFewWeights}
use Rattle.plan_law.specs.Plans.{Plan, IsPlanOf, plan_total}
use Rattle.plan_law.specs.Books.{lower_of, identity}
use Rattle.plan_law.specs.Worlds.{lower_table}
use Rattle.bound_law.specs.Copies.{copy_lower}
use Rattle.book_core.specs.Entries.{Shown}
use Rattle.book_core.specs.HeldBooks.{opened, IsHeldBook, AreNumbers}

zeros_from : {X : Type 0} (x : X) (a n : ℕ) → map (λ (i : ℕ). x) (range_with_len a n) ≡ replicate n x
zeros_from x a zero = refl
zeros_from x a (suc n) = ap (λ l. x ∷ l) (zeros_from x (a + 1) n)

-- there is a copy
pub some_copies : (inputs : List (List Edge)) (ws : List ℕ) → AreFewWeights inputs ws → 1 ≤ length inputs → 1 ≤ sum ws
some_copies inputs [] W l = absurd (let e = W.weighed.one_each in omega (arith, e, l))
some_copies inputs (w ∷ ws) W l = let p = W.weighed.positive 0 0 (omega arith) in let s = sum_by-cons (λ k. k) w ws in omega (arith, p, s)

pub no_lowers : (ws : List ℕ) → replicate (sum ws) (replicate (sum ws) 0) ≡ lower_table {E = Shown} ws []
no_lowers ws = sym (zeros_from (replicate (sum ws) 0) 0 (sum ws)) ∙ ap (λ (r : List ℕ). map (λ (i : ℕ). r) (range_with_len 0 (sum ws))) (sym (zeros_from 0 0 (sum ws)))

lower_none : (i j : ℕ) → lower_of {E = Shown} [] i j ≡ 0
lower_none i j = refl

no_sum : (ws : List ℕ) (k : ℕ) (perm : List ℕ) → sum_by (λ (place : ℕ × ℕ). copy_lower ws (lower_of {E = Shown} []) place.0 place.1) (enumerate_from k perm) ≡ 0
no_sum ws k [] = refl
no_sum ws k (d ∷ perm) =
    let again = no_sum ws (k + 1) perm in
    let one = sum_by-cons (λ (place : ℕ × ℕ). copy_lower ws (lower_of {E = Shown} []) place.0 place.1) (k, d) (enumerate_from (k + 1) perm) in
    omega (arith, one, again)

module _ (problem : Problem) (plan : Plan) (I : IsProblem problem.points problem.inputs) (K : IsPlanOf problem.points problem.inputs plan) (W : plan.weights ≡ problem.weights) where
  pub held_open : (n : ℕ) (table : List (List ℕ)) (perm : List ℕ) → n ≡ sum problem.weights → table ≡ replicate n (replicate n 0) → perm ≡ identity n → IsHeldBook (opened problem plan) plan table perm
  held_open n table perm e t p = record {
    is_problem = I;
    weighed = W;
    is_book = record { opens = K; legal = tt };
    plan_is = refl;
    table_is = t ∙ (ap (λ (n : ℕ). replicate n (replicate n 0)) e ∙ no_lowers problem.weights);
    perm_is = p ∙ (ap identity e ∙ ap (λ ws. identity (sum ws)) (sym W));
  }

  pub numbers_open : (total : ℕ) → total ≡ plan_total plan → AreNumbers (opened problem plan) total 0 0
  numbers_open total e = record { opened_is = e; front_is = refl; limit_is = sym (ap (λ (s : ℕ). (s + 1) / 2) (no_sum plan.weights 0 (identity (sum plan.weights)))) }

-- one number more goes to itself
range_more : (a n : ℕ) → range_with_len a n ++ (a + n) ∷ [] ≡ range_with_len a (suc n)
range_more a zero = ap (λ k. k ∷ []) (plus_none a)
  where
    plus_none : (a : ℕ) → a + zero ≡ a
    plus_none a = omega arith
range_more a (suc n) = ap (λ l. a ∷ l) (ap (λ k. range_with_len (a + 1) n ++ k ∷ []) (next a n) ∙ range_more (a + 1) n)
  where
    next : (a n : ℕ) → a + suc n ≡ (a + 1) + n
    next a n = omega arith

pub identity_more : (n : ℕ) → identity n ++ n ∷ [] ≡ identity (n + 1)
identity_more n = ap (λ k. identity n ++ k ∷ []) (zero_first n) ∙ (range_more 0 n ∙ ap identity (next n))
  where
    zero_first : (n : ℕ) → n ≡ 0 + n
    zero_first n = omega arith

    next : (n : ℕ) → suc n ≡ n + 1
    next n = omega arith
