-- The literals that are left, sorted by variable.
use Rattle.std.proofs.Common.{◌≡◌, ◌≢◌, ◌⊎◌, inl, inr, ℕ, ◌<◌, ◌≤◌, Bool, List, length, get_or, sym, ◌∙◌, subst, arith}
use Rattle.std.specs.Prelude.{nat_eq, All, AllPairs, Contains}
use Rattle.std.specs.List.Sorted.{IsPermutation, IsNonDecreasingBy}
use Rattle.std.proofs.lemmas.Bool.{cases_eq, eq-eqb, ne_eqb, eqb-false}
use Rattle.std.proofs.lemmas.Map.Keys.{IsDistinct-from_apart, IsDistinct-IsPermutation, apart_from_distinct}
use Rattle.std.proofs.lemmas.List.Sorted.{Contains-permutation, IsPermutation-sym}
use Rattle.log_law.specs.declared.Lit.{Lit}
use Rattle.log_law.specs.Clauses.{Clause}
use Rattle.log_law.specs.Trails.{HaveSame, negated_at}
use Rattle.log_law.proofs.Proved.{places_are_apart}
use Rattle.sat_state.specs.Searches.{Search, IsSearch}

abbrev same_var : Lit → Lit → Bool
same_var k l = nat_eq k.var l.var

flips : (k l : Lit) → same_var k l ≡ same_var l k
flips k l = sort (cases_eq k.var l.var)
  where
    sort : (k.var ≡ l.var) ⊎ (k.var ≢ l.var) → same_var k l ≡ same_var l k
    sort (inl e) = eq-eqb k.var l.var e ∙ sym (eq-eqb l.var k.var (sym e))
    sort (inr n) = ne_eqb k.var l.var n ∙ sym (ne_eqb l.var k.var (λ e. n (sym e)))

-- literals of different variables in the order of these
pub rising : (clause sorted : Clause) → AllPairs (λ k l. k.var ≢ l.var) clause → IsPermutation clause sorted → IsNonDecreasingBy (λ l. l.var) sorted → AllPairs (λ k l. k.var < l.var) sorted
rising clause sorted apart moved up i j d a b =
    let distinct = IsDistinct-IsPermutation same_var flips clause sorted moved (IsDistinct-from_apart same_var clause (λ m n e c f. ne_eqb (get_or clause m e).var (get_or clause n e).var (apart m n e c f))) in
    let differ = eqb-false (get_or sorted i d).var (get_or sorted j d).var (apart_from_distinct same_var sorted i j d distinct a b) in
    let le : (get_or sorted i d).var ≤ (get_or sorted j d).var = up i j d (omega arith) b in
    omega (arith, le, differ)

-- what stands in the order of the variables after a sort has the literals of these places
module _ (s : Search) (S : IsSearch s) (places : List ℕ) (within : All (λ p. p < length s.trail) places) (descending : AllPairs (λ later earlier. earlier < later) places) (lits sorted : Clause) (e : lits ≡ negated_at s.trail places) (moved : IsPermutation lits sorted) where
  pub left_sorted : IsNonDecreasingBy (λ l. l.var) sorted → AllPairs (λ k l. k.var < l.var) sorted
  left_sorted = rising (negated_at s.trail places) sorted (places_are_apart s.clauses s.trail s.level places S.trail within (λ i j d a b. let f : get_or places j d < get_or places i d = descending i j d a b in λ g. omega (arith, f, g))) (subst (λ (c : Clause). IsPermutation c sorted) e moved)

  pub left_same : HaveSame sorted (negated_at s.trail places)
  left_same l = (
    λ h. subst (λ (c : Clause). Contains c l) e (Contains-permutation sorted lits l (IsPermutation-sym lits sorted moved) h),
    λ h. Contains-permutation lits sorted l moved (subst (λ (c : Clause). Contains c l) (sym e) h),
  )
